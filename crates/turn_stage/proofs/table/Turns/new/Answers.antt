use Rattle.std.proofs.Common.{rules, ◌≡◌, ◌+◌, List, Option, replicate, sym, subst}
use Rattle.atomic_table.specs.Table.{opening}
use Rattle.turn_stage.specs.Rule.{Turned}
use Rattle.turn_stage.specs.Parts.{first_view}
use Rattle.turn_stage.proofs.OpenLemmas.{opens}
use Rattle.turn_stage.proofs.table.Turns.new.Goals as goal

pub new-requires : goal.new-requires
new-requires g c =
    let zeros : c.as_slice.result.now ≡ replicate (c.args.config.now.stripes + 3) 0 = search rules in
    subst (λ (l : List (Option g.row.P.Denot)). Turned g.P.Stands.stands (opening c.as_slice.result.now l (first_view c.args.config.now c.args.vb))) (sym c.in_ok-slots.ensures)
    (opens g.P.Stands.stands c.args.config.now c.args.vb c.args.parts.items c.as_slice.result.now c.requires.stripes c.requires.parts zeros)
