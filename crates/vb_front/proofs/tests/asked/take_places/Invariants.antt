use Rattle.std.specs.Prelude.{◌+◌, ◌≤◌, length}
use Rattle.ep_model.specs.Limits.{max_value}
use Rattle.vb_front.specs.Opened.{IsOpened}
use Rattle.vb_front.proofs.tests.asked.take_places.Given as goal

abbrev pub invariant-loop-number : goal.invariant-loop-number
invariant-loop-number l = IsOpened l.config l.world × max_value ≤ l.value.spare + length l.value.bytes
