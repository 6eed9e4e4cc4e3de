use Rattle.std.proofs.Common.{rules}
use Rattle.ep_model.specs.Stripes.{stripe_of}
use Rattle.ep_model.proofs.stripes.stripe_of.Goals as goal

pub returns-clause-stripe : goal.returns-clause-stripe
unfolding stripe_of
returns-clause-stripe c = search rules
