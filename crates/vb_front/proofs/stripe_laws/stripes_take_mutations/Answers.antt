use Rattle.vb_front.proofs.StripeLemmas.{stripe_takes, stripe_takes_calls}
use Rattle.vb_front.proofs.stripe_laws.stripes_take_mutations.Goals as goal

pub returns-clause-events : goal.returns-clause-events
returns-clause-events c = stripe_takes

pub returns-clause-calls : goal.returns-clause-calls
returns-clause-calls c = stripe_takes_calls
