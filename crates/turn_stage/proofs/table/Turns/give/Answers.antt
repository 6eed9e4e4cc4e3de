use Rattle.std.proofs.Common.{rules, ◌≡◌, true, sym, ap, subst, arith}
use Rattle.ep_model.specs.declared.config.Config.{Config}
use Rattle.turn_stage.specs.declared.data.View.{View}
use Rattle.hold_stage.specs.Slots.{slot_of}
use Rattle.turn_stage.specs.Seats.{all_there}
use Rattle.hold_stage.proofs.SlotLemmas.{slot_within}
use Rattle.turn_stage.proofs.RestLemmas.{resting, held_there, there_less}
use Rattle.turn_stage.proofs.table.Turns.give.Goals as goal

pub give-requires-clause-there : goal.give-requires-clause-there
give-requires-clause-there g c = let v = c.args.pass.now.seat.me.0 in held_there v.front.config v.held c.args.part c.args.pass.now.there c.requires.held

pub give-requires-clause-word : goal.give-requires-clause-word
give-requires-clause-word g c =
    let v = c.args.pass.now.seat.me.0 in
    let k = slot_within v.front.config c.args.part (held_there v.front.config v.held c.args.part c.args.pass.now.there c.requires.held) in
    let e = ap (λ (x : Config). slot_of x c.args.part) c.requires.of.1 in
    let s = ap (λ (x : Config). x.stripes) c.requires.of.1 in
    let a = c.slot_of-slot.ensures.slot in
    let w = c.args.self.now.words in
    omega arith

pub invariant_of-pass : goal.invariant_of-pass
invariant_of-pass g c =
    let v = c.args.pass.now.seat.me.0 in
    record {
      rests = resting c.give.new.seat.me c.give.ensures.rest;
      there = subst (λ (u : View). all_there u.front.config u.held ≡ true) (sym c.give.ensures.given) (there_less v.front.config v.held c.args.part c.args.pass.now.there);
      caller_is = search rules;
      next_is = search rules;
      left_is = search rules;
      end_is = search rules;
    }
