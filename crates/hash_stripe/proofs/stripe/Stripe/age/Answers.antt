use Rattle.hash_stripe.specs.Nodes.{node_at}
use Rattle.hash_stripe.proofs.CallLemmas.{age-none, age-some}
use Rattle.hash_stripe.proofs.stripe.Stripe.age.Goals as goal

pub returns-in-None : goal.returns-in-None
returns-in-None c = age-none (node_at c.args.self.now.slots c.args.key.now) c.look.result c.look.ensures.shows c.in-None.is

pub returns-in-Some : goal.returns-in-Some
returns-in-Some c = age-some (node_at c.args.self.now.slots c.args.key.now) c.look.result c.in-Some.look c.look.ensures.shows c.in-Some.is
