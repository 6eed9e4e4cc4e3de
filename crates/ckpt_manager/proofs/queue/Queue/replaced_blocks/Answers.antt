use Rattle.std.proofs.Common.{◌≡◌, ◌+◌, Option, sym, ◌∙◌, subst, length}
use Rattle.std.specs.Prelude.{MatchOption}
use Rattle.ep_model.specs.World.{blocks}
use Rattle.ep_model.specs.declared.call.Meta.{Meta}
use Rattle.ckpt_manager.specs.Queue.{replaced_blocks}
use Rattle.ckpt_manager.proofs.CallLemmas.{replaced-meta, replaced-nothing}
use Rattle.ckpt_manager.proofs.queue.Queue.replaced_blocks.Goals as goal

pub unreachable-requires : goal.unreachable-requires
unreachable-requires c =
    subst (λ (o : Option Meta). MatchOption o ⊥ (λ m. blocks (length c.args.key.now) + blocks m.len ≡ replaced_blocks c.args.self.now c.args.key.now)) c.in-None-meta.is
    (replaced-meta c.self.inside c.args.self.now c.args.key.now c.in-Some.number c.meta.result c.self.view_is c.self.invariant (sym c.find_open.ensures ∙ c.in-Some.is) c.meta.ensures)

pub returns-in-None : goal.returns-in-None
returns-in-None c = replaced-nothing c.self.inside c.args.self.now c.args.key.now c.self.view_is (sym c.find_open.ensures ∙ c.in-None.is)

pub returns-in-Some-meta : goal.returns-in-Some-meta
returns-in-Some-meta c =
    let sum : blocks (length c.args.key.now) + blocks c.in-Some-meta.meta.len ≡ replaced_blocks c.args.self.now c.args.key.now =
    subst (λ (o : Option Meta). MatchOption o ⊥ (λ m. blocks (length c.args.key.now) + blocks m.len ≡ replaced_blocks c.args.self.now c.args.key.now)) c.in-Some-meta.is
    (replaced-meta c.self.inside c.args.self.now c.args.key.now c.in-Some.number c.meta.result c.self.view_is c.self.invariant (sym c.find_open.ensures ∙ c.in-Some.is) c.meta.ensures) in
    c.blocks_of_item.ensures.blocks ∙ sum
