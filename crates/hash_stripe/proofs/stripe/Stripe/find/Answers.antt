use Rattle.std.proofs.Common.{◌∙◌}
use Rattle.hash_stripe.specs.Nodes.{node_at}
use Rattle.hash_stripe.specs.declared.found.Found.TheVariants.{Nothing}
use Rattle.hash_stripe.proofs.CallLemmas.{found-nothing, found-some, key-same, key-shown}
use Rattle.hash_stripe.proofs.stripe.Stripe.find.Goals as goal

pub returns-in-None-clause-shows : goal.returns-in-None-clause-shows
returns-in-None-clause-shows c = (found-nothing (node_at c.args.self.now.slots c.args.key.now) c.look.result c.look.ensures.shows c.in-None.is)

pub returns-in-None-clause-means : goal.returns-in-None-clause-means
returns-in-None-clause-means c = key-shown c.args.self.now.index c.args.self.now.stripes c.args.self.now.eviction c.args.self.now.mark (node_at c.args.self.now.slots c.args.key.now) Nothing (found-nothing (node_at c.args.self.now.slots c.args.key.now) c.look.result c.look.ensures.shows c.in-None.is) c.look.ensures.sound

pub returns-in-None-clause-keyed : goal.returns-in-None-clause-keyed
returns-in-None-clause-keyed c = key-same c.args.key.now c.args.self.now.slots

pub returns-in-None-clause-sound : goal.returns-in-None-clause-sound
returns-in-None-clause-sound c = c.look.ensures.sound

pub returns-in-Some-clause-shows : goal.returns-in-Some-clause-shows
returns-in-Some-clause-shows c = (c.found.ensures ∙ found-some (node_at c.args.self.now.slots c.args.key.now) c.look.result c.in-Some.look c.look.ensures.shows c.in-Some.is)

pub returns-in-Some-clause-means : goal.returns-in-Some-clause-means
returns-in-Some-clause-means c = key-shown c.args.self.now.index c.args.self.now.stripes c.args.self.now.eviction c.args.self.now.mark (node_at c.args.self.now.slots c.args.key.now) c.found.result (c.found.ensures ∙ found-some (node_at c.args.self.now.slots c.args.key.now) c.look.result c.in-Some.look c.look.ensures.shows c.in-Some.is) c.look.ensures.sound

pub returns-in-Some-clause-keyed : goal.returns-in-Some-clause-keyed
returns-in-Some-clause-keyed c = key-same c.args.key.now c.args.self.now.slots

pub returns-in-Some-clause-sound : goal.returns-in-Some-clause-sound
returns-in-Some-clause-sound c = c.look.ensures.sound
