use Rattle.std.specs.Prelude.{◌≤◌}
use Rattle.turn_stage.specs.Made.{made, MadeCalls}
use Rattle.turn_stage.specs.Passes.{view_of}
use Rattle.turn_stage.proofs.tests.run.Given as goal

abbrev pub invariant-loop : goal.invariant-loop
invariant-loop l = MadeCalls l.fn.turns l.fn.pass l.pass (made (view_of l.fn.pass).caller l.fn.first l.calls) × (l.calls ≤ 100000)
