use Rattle.std.proofs.Common.{rules, ◌≡◌, sym, subst, List, [], ◌∷◌, ◌++◌, ◌+◌, take}
use Rattle.ep_drill.specs.declared.choice.Answer.{Answer}
use Rattle.ep_drill.specs.Stepped.{Ran}
use Rattle.ep_drill.proofs.EngineLemmas.{stays_on}
use Rattle.ep_drill.proofs.SteppedLemmas.{ran_next, ran_none, ran_said, ran_some}
use Rattle.ep_drill.proofs.TurnLemmas.{goes_on_then}
use Rattle.ep_drill.proofs.engine.run_steps.Goals as goal

pub loop-choice-preserved : goal.loop-choice-preserved
loop-choice-preserved g c =
    let l = c.loop-choice in
    let said : c.push_reserved.new.self.items ≡ l.answers.items ++ c.in-Ok-step.answer ∷ [] = search rules in
    record {
      interleaves = c.step.ensures.interleaves;
      goes_on = goes_on_then c.args.core.now l.core c.step.new.self l.invariant.goes_on c.step.ensures.goes_on;
      ran = subst (λ (said : List Answer). Ran c.args.core.now c.step.new.self (take (l.choice-index + 1) c.args.steps.now) said) (sym said)
          (ran_next c.args.core.now l.core c.step.new.self c.args.steps.now l.answers.items l.choice-index _ c.in-Ok-step.answer c.loop-choice-test.true l.invariant.ran c.in-Ok-step.ensures.stepped c.step.ensures.goes_on c.step.ensures.interleaves);
      count = search rules;
      room = search rules;
    }

pub returns-in-Err-clause-err : goal.returns-in-Err-clause-err
returns-in-Err-clause-err g c =
    let l = c.loop-choice in
    ran_some c.args.core.now l.core c.step.new.self c.args.steps.now l.answers.items l.choice-index _ c.loop-choice-test.true l.invariant.ran c.in-Err.ensures.err

pub returns-in_default-clause-err : goal.returns-in_default-clause-err
returns-in_default-clause-err g c = ran_none _ _ _ (search rules) (search rules)

pub loop-choice-init : goal.loop-choice-init
loop-choice-init g c = record {
  interleaves = search rules;
  goes_on = stays_on _ _ (search rules);
  ran = ran_said _ _ (search rules);
  count = search rules;
  room = search rules;
}

pub returns-in-Err-clause-goes_on : goal.returns-in-Err-clause-goes_on
returns-in-Err-clause-goes_on g c =
    let l = c.loop-choice in
    goes_on_then c.args.core.now l.core c.step.new.self l.invariant.goes_on c.step.ensures.goes_on
