use Rattle.std.proofs.Common.{◌≡◌, ◌∙◌, List, refl, ap, sym, subst, deque_capacity, arith}
use Rattle.std.proofs.lemmas.Bool.{false≢true}
use Rattle.ckpt_items.specs.declared.item.Item.{Item}
use Rattle.ckpt_items.specs.Items.{free_of}
use Rattle.ckpt_items.specs.Stored.{items_data, IsStored}
use Rattle.ckpt_items.proofs.CallLemmas.{free_at, room_at, pushed_stored, pushed_data}
use Rattle.ckpt_items.proofs.items.Items.push.Goals as goal

pub returns-then-free-need-clause-short : goal.returns-then-free-need-clause-short
returns-then-free-need-clause-short c =
    let free : c.self.inside.pool.free ≡ free_of c.args.self.now = free_at c.self.inside.pool c.self.inside.items.items c.self.inside.closed c.args.self.now c.self.view_is c.self.invariant.owns in
    (λ _. omega (arith, c.free-free.ensures.free), λ _. refl)

pub returns-then-free-need-clause-told : goal.returns-then-free-need-clause-told
returns-then-free-need-clause-told c = (c.free-free.ensures.free ∙ free_at c.self.inside.pool c.self.inside.items.items c.self.inside.closed c.args.self.now c.self.view_is c.self.invariant.owns, omega arith)

pub push_back_reserved-requires : goal.push_back_reserved-requires
push_back_reserved-requires c =
    let room = room_at c.self.inside.pool c.self.inside.items.items c.self.inside.closed _ c.self.invariant in
    omega (arith, room.0, room.1, c.requires.key.0, c.self.invariant.room, c.self.inside.items.ok.0, c.free-free.ensures.free)

pub invariant_of-self : goal.invariant_of-self
invariant_of-self c =
    let P : List Item → Type 0 = λ ys. IsStored c.put-value.new.pool ys c.self.inside.closed (deque_capacity c.push_back_reserved.new.self) in
    subst P (sym {A = List Item} c.push_back_reserved.ensures.items)
    (pushed_stored c.self.inside.pool c.put-key.new.pool c.put-value.new.pool c.self.inside.items.items c.self.inside.closed _ _ c.args.self.now (record { key = c.put-key.result; value = c.put-value.result; meta = c.args.meta }) c.args.key.now c.args.value.now c.self.invariant c.self.view_is c.put-key.ensures c.put-value.ensures c.requires.key c.requires.value c.requires.len c.requires.above c.push_back_reserved.ensures.capacity)

pub returns-clause-ok : goal.returns-clause-ok
returns-clause-ok c =
    ap (λ (ys : List Item). items_data c.put-value.new.pool ys c.self.inside.closed) c.push_back_reserved.ensures.items
    ∙ pushed_data c.self.inside.pool c.put-key.new.pool c.put-value.new.pool c.self.inside.items.items c.self.inside.closed _ c.args.self.now (record { key = c.put-key.result; value = c.put-value.result; meta = c.args.meta }) c.args.key.now c.args.value.now c.self.invariant c.self.view_is c.put-key.ensures c.put-value.ensures

pub returns-clause-short : goal.returns-clause-short
returns-clause-short c =
    let free : c.self.inside.pool.free ≡ free_of c.args.self.now = free_at c.self.inside.pool c.self.inside.items.items c.self.inside.closed c.args.self.now c.self.view_is c.self.invariant.owns in
    (λ h. absurd (false≢true h), λ l. absurd (omega (arith, c.free-free.ensures.free)))
