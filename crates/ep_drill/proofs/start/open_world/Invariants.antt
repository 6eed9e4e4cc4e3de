use Rattle.vb_world.specs.World.{Sound}
use Rattle.ep_drill.specs.Parts.{part_stands}
use Rattle.ep_drill.specs.Opens.{FirstOpened}
use Rattle.ep_drill.proofs.start.open_world.Given as goal

abbrev pub invariant-loop-vb : goal.invariant-loop-vb
invariant-loop-vb l = record {
  opened : FirstOpened l.config l._vb l.world;
  sound : Sound part_stands l.world;
}
