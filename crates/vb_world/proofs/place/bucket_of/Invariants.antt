use Rattle.std.proofs.Common.{◌≡◌, map}
use Rattle.vb_world.specs.declared.place.Place.TheVariants.{Home}
use Rattle.vb_world.proofs.place.bucket_of.Given as goal

abbrev pub invariant-loop-part : goal.invariant-loop-part
invariant-loop-part g l = l.places.items ≡ map Home l.yielded
