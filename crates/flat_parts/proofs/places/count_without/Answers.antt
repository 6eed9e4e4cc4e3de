use Rattle.std.proofs.Common.{rules, sym, ap, ◌∙◌, length}
use Rattle.std.proofs.iter.runs.Made.{chains}
use Rattle.flat_parts.specs.Nodes.{released}
use Rattle.flat_parts.specs.Flat.{places_data}
use Rattle.flat_parts.proofs.PlaceLemmas.{count-kept}
use Rattle.flat_parts.proofs.places.count_without.Goals as goal

pub returns-in-Some : goal.returns-in-Some
returns-in-Some c =
    count-kept c.args.places.now c.in-Some.ticket c.count.result (search (rules, chains))
    ∙ ap (λ prior. length (released (places_data c.args.places.now) prior)) (sym c.in-Some.is)
