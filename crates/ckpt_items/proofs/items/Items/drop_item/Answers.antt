use Rattle.std.proofs.Common.{List, ◌∙◌, ap, sym, subst, deque_capacity}
use Rattle.std.proofs.lemmas.Bool.{false≢true}
use Rattle.std.specs.Prelude.{is_some}
use Rattle.ckpt_items.specs.declared.item.Item.{Item}
use Rattle.ckpt_items.specs.Stored.{items_data, IsStored}
use Rattle.ckpt_items.proofs.CallLemmas.{item_none, dropped_stored, dropped_data}
use Rattle.ckpt_items.proofs.items.Items.drop_item.Goals as goal

pub unreachable-requires : goal.unreachable-requires
unreachable-requires c = false≢true (sym (ap is_some (item_none c.self.inside.pool c.self.inside.items.items c.self.inside.closed c.args.self.now c.self.view_is c.args.seqno c.in-None.ensures)) ∙ c.requires)

pub invariant_of-self : goal.invariant_of-self
invariant_of-self c =
    let P : List Item → Type 0 = λ ys. IsStored c.take_back-in-Some.new.self ys c.count_without-self-inside.result (deque_capacity c.take-key.new.items) in
    subst P (sym c.take-key.ensures.items)
    (dropped_stored c.self.inside.pool c.take_back.new.self c.take_back-in-Some.new.self c.self.inside.items.items c.self.inside.closed c.count_without-self-inside.result _ _ c.in-Some.index c.take-key.result c.self.invariant c.in-Some.ensures.0 c.take-key.ensures.value c.take_back.ensures c.take_back-in-Some.ensures c.count_without-self-inside.ensures.less c.count_without-self-inside.ensures.same c.take-key.ensures.capacity)

pub returns : goal.returns
returns c =
    ap (λ (ys : List Item). items_data c.take_back-in-Some.new.self ys c.count_without-self-inside.result) c.take-key.ensures.items
    ∙ dropped_data c.self.inside.pool c.take_back.new.self c.take_back-in-Some.new.self c.self.inside.items.items c.self.inside.closed c.count_without-self-inside.result _ c.in-Some.index c.args.seqno c.args.self.now c.take-key.result c.self.invariant c.self.view_is c.in-Some.ensures.0 c.in-Some.ensures.1 c.take-key.ensures.value c.take_back.ensures c.take_back-in-Some.ensures c.count_without-self-inside.ensures.less c.count_without-self-inside.ensures.same
