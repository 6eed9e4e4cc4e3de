use Rattle.std.proofs.Common.{◌≡◌, vec_len}
use Rattle.flat_parts.specs.Nodes.{settle_place}
use Rattle.flat_parts.specs.Flat.{places_data}
use Rattle.flat_parts.proofs.ListLemmas.{swept}
use Rattle.flat_parts.proofs.places.settle.Given as goal

abbrev pub invariant-loop-index : goal.invariant-loop-index
invariant-loop-index l =
    (places_data l.places.items ≡ swept (settle_place l.number l.outcome) l.index (places_data l.initial.places.items))
    × (vec_len l.places ≡ vec_len l.initial.places)
