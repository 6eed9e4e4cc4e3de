use Rattle.std.proofs.Common.{sym, ◌∙◌}
use Rattle.ckpt_items.specs.Items.{is_of}
use Rattle.ckpt_manager.proofs.CallLemmas.{found-stands, clear-found, clear-nothing}
use Rattle.ckpt_manager.proofs.queue.Queue.clear.Goals as goal

pub drop_item-requires : goal.drop_item-requires
drop_item-requires c =
    found-stands c.self.inside (is_of c.args.key.now) c.in-Some.number c.self.invariant (sym c.find_open-own.ensures ∙ c.in-Some.is)

pub invariant_of-self : goal.invariant_of-self
invariant_of-self c =
    (clear-found c.self.inside c.args.self.now c.drop_item.new.self c.args.key.now c.in-Some.number c.self.view_is c.self.invariant (sym c.find_open-own.ensures ∙ c.in-Some.is) c.drop_item.ensures).counted

pub returns-in-Some-clause-after : goal.returns-in-Some-clause-after
returns-in-Some-clause-after c =
    (clear-found c.self.inside c.args.self.now c.drop_item.new.self c.args.key.now c.in-Some.number c.self.view_is c.self.invariant (sym c.find_open-own.ensures ∙ c.in-Some.is) c.drop_item.ensures).is

pub returns-in_default-clause-after : goal.returns-in_default-clause-after
returns-in_default-clause-after c =
    clear-nothing c.self.inside c.args.self.now c.args.key.now c.self.view_is c.is_full_of_others.ensures.sound (sym c.find_open-own.ensures ∙ c.in_default.is)
    (c.is_full_of_others.ensures.free c.if-is_full_of_others.false c.in_default.is)
