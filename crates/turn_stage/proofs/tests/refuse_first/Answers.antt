use Rattle.std.proofs.Common.{ℕ, ◌+◌, ◌%◌, ◌^◌, List, refl, ap, ◌∙◌}
use Rattle.ep_model.specs.declared.config.Config.{Config}
use Rattle.ep_model.specs.declared.event.PartName.TheVariants.{Stripe}
use Rattle.ep_model.specs.declared.data.EventData.{EventData}
use Rattle.ep_model.specs.Stripes.{stripe_of}
use Rattle.vb_world.specs.History.{events_of}
use Rattle.vb_world.specs.World.{part_in}
use Rattle.turn_stage.specs.Made.{refusal}
use Rattle.turn_stage.specs.declared.tests.Tally.{Tally}
use Rattle.turn_stage.proofs.AloneLemmas.{first_world, first_free, first_refused, first_events}
use Rattle.turn_stage.proofs.tests.refuse_first.Goals as goal

pub refuse_alone-requires-clause-free : goal.refuse_alone-requires-clause-free
refuse_alone-requires-clause-free c =
    first_free c.reserve.new.self _ c.in_ok-tallies.field-0.items 7 (Stripe (stripe_of c.args.key 1))
    (first_world c.in_ok-world.world c.add.new.self c.reserve.new.self _ c.in_ok-tallies.field-0.items c.in_ok-world.ensures.new c.in_ok-add.ensures.ok c.in_ok-reserve.ensures.same)

pub returns-clause-free : goal.returns-clause-free
returns-clause-free c =
    let first = first_world c.in_ok-world.world c.add.new.self c.reserve.new.self _ c.in_ok-tallies.field-0.items c.in_ok-world.ensures.new c.in_ok-add.ensures.ok c.in_ok-reserve.ensures.same in
    c.is_ok-free.ensures.value
    ∙ first_refused c.reserve.new.self _ c.in_ok-tallies.field-0.items c.args.key (part_in c.refuse_alone.new.world 0 (Stripe (stripe_of c.args.key 1))) (λ (x : Tally). record x { count = (x.count + 1) % 2 ^ 64 }) c.refuse_alone.result
    first refl c.in_ok-tallies.ensures c.refuse_alone.ensures.becomes

pub returns-clause-events : goal.returns-clause-events
returns-clause-events c =
    let first = first_world c.in_ok-world.world c.add.new.self c.reserve.new.self _ c.in_ok-tallies.field-0.items c.in_ok-world.ensures.new c.in_ok-add.ensures.ok c.in_ok-reserve.ensures.same in
    let free = first_refused c.reserve.new.self _ c.in_ok-tallies.field-0.items c.args.key (part_in c.refuse_alone.new.world 0 (Stripe (stripe_of c.args.key 1))) (λ (x : Tally). record x { count = (x.count + 1) % 2 ^ 64 }) c.refuse_alone.result
    first refl c.in_ok-tallies.ensures c.refuse_alone.ensures.becomes in
    ap (events_of 0) c.into_history.ensures
    ∙ first_events c.reserve.new.self c.refuse_alone.new.world _ c.in_ok-tallies.field-0.items (refusal 7 c.args.key 0) c.refuse_alone.result first free c.refuse_alone.ensures.front
