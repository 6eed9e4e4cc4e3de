use Rattle.std.proofs.Common.{◌≡◌, take}
use Rattle.ckpt_cursors.specs.Cursors.{first_least}
use Rattle.ckpt_cursors.proofs.cursors.Cursors.first_least.Given as goal

abbrev pub invariant-loop-cursor : goal.invariant-loop-cursor
invariant-loop-cursor l = l.least ≡ first_least (take l.cursor-index l.cursors)
