use Rattle.std.proofs.Common.{rules, ◌+◌, List, map, take, Option, Some, None, sym, ap, ◌∙◌, subst}
use mathlib.Core.Option.{some}
use Rattle.std.specs.Slots.{slots_items, slots_filled, slots_len}
use Rattle.turn_stage.specs.Filled.{AreFilled}
use Rattle.turn_stage.proofs.SeatLemmas.{at_within}
use Rattle.turn_stage.proofs.SlottedLemmas.{one_more, never_empty, emptied, still_full}
use Rattle.turn_stage.proofs.slots.taken_out.Goals as goal

pub unreachable-requires : goal.unreachable-requires
unreachable-requires g c =
    let slots = slots_items c.loop-slot.closed.slots in
    let at = c.take.ensures.value ∙ ap (λ (o : Option g.row.P.Denot). some o) c.in_default.is in
    never_empty slots c.loop-slot.slot (subst (λ (l : List (Option g.row.P.Denot)). AreFilled l) (sym c.loop-slot.invariant.2) c.requires.filled) (at_within slots c.loop-slot.slot None at) at

pub loop-slot-preserved : goal.loop-slot-preserved
loop-slot-preserved g c =
    let slots = slots_items c.loop-slot.closed.slots in
    let at = c.take.ensures.value ∙ ap (λ (o : Option g.row.P.Denot). some o) c.in-Some.is in
    let before = c.loop-slot.closed.slots in
    let now = c.take.new.self.slots in (
      still_full (slots_filled before) (slots_filled now) c.loop-slot.slot (slots_len before) (slots_len now) c.take.ensures.others.1 c.take.ensures.others.2 c.loop-slot.invariant.0,
      emptied (slots_filled before) (slots_filled now) c.loop-slot.slot c.take.ensures.others.1 c.loop-slot.invariant.1,
      search rules,
      search rules,
      ap (λ (l : List g.row.P.Denot). map (λ (x : g.row.P.Denot). Some x) l) c.push_reserved.ensures.items
          ∙ (one_more slots c.loop-slot.room.items c.loop-slot.slot c.in-Some.part c.loop-slot.invariant.4 at ∙ ap (λ (l : List (Option g.row.P.Denot)). take (c.loop-slot.slot + 1) l) (sym c.take.ensures.others.0)),
      search rules,
      search rules,
    )
