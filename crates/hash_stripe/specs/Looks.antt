-- What a table shows of its slots and does to them.
use Rattle.std.specs.Prelude.{if◌then◌else◌, Option, Some, None}
use Rattle.std.specs.Option.{is_some}
use Rattle.hash_stripe.specs.declared.found.Found.{Found}
use Rattle.hash_stripe.specs.declared.found.Found.TheVariants.{Ejected, Resident}
use Rattle.hash_stripe.specs.declared.found.Look.{Look}
use Rattle.hash_stripe.specs.Nodes.{Slot}

abbrev pub look_of : Slot → Option Look
look_of None = None
look_of (Some node) = Some (record { meta = node.meta; is_resident = is_some node.value; age = node.age })

abbrev pub without_value : Slot → Slot
without_value None = None
without_value (Some node) = Some (record node { value = None })

abbrev pub found_look : Look → Found
found_look look = if look.is_resident then Resident look.meta else Ejected look.meta
