use Rattle.std.proofs.Common.{◌≡◌, ℕ, Option, List, ap, ◌∙◌, get_or, arith}
use Rattle.std.specs.Option.{unwrap_or}
use Rattle.value_pool.proofs.CallLemmas.{len_at}
use Rattle.value_pool.proofs.pool.Pool.len.Goals as goal

pub returns : goal.returns
returns c =
    let len : c.unwrap_or.result ≡ get_or c.self.inside.lens.items c.chain.inside.number 0 =
    c.unwrap_or.ensures
    ∙ ap (λ (o : Option ℕ). unwrap_or o 0) c.copied.ensures
    ∙ c.get.ensures.lookup.4 (omega arith) 0
    ∙ ap (λ (xs : List ℕ). get_or xs c.chain.inside.number 0) c.deref.ensures.value in
    len_at c.self.inside.region.items c.self.inside.links.items c.self.inside.lens.items c.self.inside.first_free c.self.inside.free c.chain.inside.number c.args.self.now c.args.chain.now c.unwrap_or.result c.self.invariant c.self.view_is c.chain.view_is len
