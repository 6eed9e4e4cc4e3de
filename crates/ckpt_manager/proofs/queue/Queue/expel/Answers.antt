use Rattle.std.proofs.Common.{sym, ◌∙◌, subst, arith}
use Rattle.ckpt_manager.specs.declared.data.QueueData.{QueueData}
use Rattle.ckpt_manager.specs.Queue.{ExpelsOne}
use Rattle.ckpt_manager.proofs.CallLemmas.{first-stands, expel-one, later-at}
use Rattle.ckpt_manager.proofs.queue.Queue.expel.Goals as goal

pub drop_item-requires : goal.drop_item-requires
drop_item-requires c = first-stands c.self.inside c.in-Some.number c.self.invariant (sym c.after.ensures ∙ c.in-Some.is)

pub invariant_of-self : goal.invariant_of-self
invariant_of-self c =
    (expel-one c.self.inside c.args.self.now c.drop_item.new.self c.in-Some.number c.self.view_is c.self.invariant (sym c.after.ensures ∙ c.in-Some.is)
    (omega (arith, c.if-number-least.true, c.least-least.ensures)) c.drop_item.ensures).0.counted

pub returns-in-Some : goal.returns-in-Some
returns-in-Some c =
    let e = expel-one c.self.inside c.args.self.now c.drop_item.new.self c.in-Some.number c.self.view_is c.self.invariant (sym c.after.ensures ∙ c.in-Some.is)
    (omega (arith, c.if-number-least.true, c.least-least.ensures)) c.drop_item.ensures in
    subst (λ (q : QueueData). ExpelsOne c.args.self.now q) (sym e.0.is) e.1

pub returns-in_default : goal.returns-in_default
returns-in_default c =
    later-at c.self.inside c.args.self.now c.in-Some.number c.self.view_is c.self.invariant (sym c.after.ensures ∙ c.in-Some.is)
    (omega (arith, c.if-number-least.false, c.least-least.ensures))
