use Rattle.std.proofs.Common.{◌≡◌, ◌≤◌, length, take}
use Rattle.std.specs.Prelude.{vec_len, vec_capacity}
use Rattle.ep_drill.specs.Core.{Interleaves, GoesOn}
use Rattle.ep_drill.specs.Stepped.{Ran}
use Rattle.ep_drill.proofs.engine.run_steps.Given as goal

-- the core is as it should be, went on since the first step, and the steps so far were made with these answers
abbrev pub invariant-loop-choice : goal.invariant-loop-choice
invariant-loop-choice g l = record {
  interleaves : Interleaves l.core;
  goes_on : GoesOn l.initial.core l.core;
  ran : Ran l.initial.core l.core (take l.choice-index l.steps) l.answers.items;
  count : vec_len l.answers ≡ l.choice-index;
  room : length l.steps ≤ vec_capacity l.answers;
}
