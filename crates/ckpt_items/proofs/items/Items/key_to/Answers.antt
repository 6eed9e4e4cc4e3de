use Rattle.std.proofs.Common.{◌+◌, length, ap, sym, ◌∙◌, ◌++◌, arith}
use Rattle.std.specs.Prelude.{Option}
use Rattle.std.proofs.lemmas.List.{append-nil}
use Rattle.ckpt_items.specs.declared.data.ItemData.{ItemData}
use Rattle.ckpt_items.specs.Items.{key_of}
use Rattle.ckpt_items.proofs.CallLemmas.{item_some, item_none}
use Rattle.ckpt_items.proofs.items.Items.key_to.Goals as goal

pub append-requires : goal.append-requires
append-requires c =
    let e = ap (λ (o : Option ItemData). length (key_of o)) (item_some c.self.inside.pool c.self.inside.items.items c.self.inside.closed c.args.self.now c.self.view_is c.args.seqno c.in-Some.index c.index.result.now c.self.invariant.rising c.in-Some.ensures.0 c.in-Some.ensures.1 c.index.ensures) in
    omega (arith, c.requires)

pub returns-in-Some-clause-bytes : goal.returns-in-Some-clause-bytes
returns-in-Some-clause-bytes c =
    c.append.ensures.bytes ∙ sym (ap (λ (o : Option ItemData). c.args.out.now.bytes ++ key_of o) (item_some c.self.inside.pool c.self.inside.items.items c.self.inside.closed c.args.self.now c.self.view_is c.args.seqno c.in-Some.index c.index.result.now c.self.invariant.rising c.in-Some.ensures.0 c.in-Some.ensures.1 c.index.ensures))

pub returns-in-Some-clause-spare : goal.returns-in-Some-clause-spare
returns-in-Some-clause-spare c =
    ap (λ (o : Option ItemData). c.append.new.out.spare + length (key_of o)) (item_some c.self.inside.pool c.self.inside.items.items c.self.inside.closed c.args.self.now c.self.view_is c.args.seqno c.in-Some.index c.index.result.now c.self.invariant.rising c.in-Some.ensures.0 c.in-Some.ensures.1 c.index.ensures) ∙ c.append.ensures.spare

pub returns-in-None-clause-bytes : goal.returns-in-None-clause-bytes
returns-in-None-clause-bytes c =
    sym (ap (λ (o : Option ItemData). c.args.out.now.bytes ++ key_of o) (item_none c.self.inside.pool c.self.inside.items.items c.self.inside.closed c.args.self.now c.self.view_is c.args.seqno c.in-None.ensures) ∙ append-nil c.args.out.now.bytes)

pub returns-in-None-clause-spare : goal.returns-in-None-clause-spare
returns-in-None-clause-spare c =
    let e = ap (λ (o : Option ItemData). length (key_of o)) (item_none c.self.inside.pool c.self.inside.items.items c.self.inside.closed c.args.self.now c.self.view_is c.args.seqno c.in-None.ensures) in
    omega arith
