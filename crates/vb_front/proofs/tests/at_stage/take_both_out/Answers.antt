use Rattle.std.proofs.Common.{◌∙◌}
use Rattle.ep_model.specs.declared.event.PartName.TheVariants.{Stripe, Queue}
use Rattle.vb_front.proofs.WorldLemmas.{not_out}
use Rattle.vb_front.proofs.tests.at_stage.take_both_out.Goals as goal

pub take-requires-clause-free : goal.take-requires-clause-free
take-requires-clause-free c =
    let s = c.stage-stage in
    not_out c.args.world.now s.result.world.now s.result.vb s.result.caller (Stripe 0) s.ensures.world s.ensures.vb c.requires.home

pub take-requires-2-clause-free : goal.take-requires-2-clause-free
take-requires-2-clause-free c =
    let s = c.stage-stage in
    c.in-Ok.ensures.held Queue ∙ not_out c.args.world.now s.result.world.now s.result.vb s.result.caller Queue s.ensures.world s.ensures.vb c.requires.home
