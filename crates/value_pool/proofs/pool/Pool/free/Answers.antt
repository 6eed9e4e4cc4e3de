use Rattle.value_pool.proofs.CallLemmas.{exact_at}
use Rattle.value_pool.proofs.pool.Pool.free.Goals as goal

pub returns-clause-exact : goal.returns-clause-exact
returns-clause-exact c =
    exact_at c.self.inside.region.items c.self.inside.links.items c.self.inside.lens.items c.self.inside.first_free c.self.inside.free c.args.self.now c.self.invariant c.self.view_is
