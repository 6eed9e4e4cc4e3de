use Rattle.vb_front.proofs.StripeLemmas.{stripe_answers, stripe_refuses, stripe_asks}
use Rattle.vb_front.proofs.stripe_laws.stripes_stand_behind_calls.Goals as goal

pub returns-clause-answers : goal.returns-clause-answers
returns-clause-answers c = stripe_answers

pub returns-clause-refusals : goal.returns-clause-refusals
returns-clause-refusals c = stripe_refuses

pub returns-clause-asks : goal.returns-clause-asks
returns-clause-asks c = stripe_asks
