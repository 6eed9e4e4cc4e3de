use Rattle.std.proofs.Common.{ℕ, ◌+◌, List, sym, ◌∙◌, ap, arith, length, not}
use Rattle.ckpt_items.specs.Items.{blocks_of}
use Rattle.ckpt_manager.specs.declared.data.QueueData.{QueueData}
use Rattle.ckpt_manager.specs.Queue.{kept, last_above}
use Rattle.ckpt_manager.proofs.LastLemmas.{last-queued}
use Rattle.ckpt_manager.proofs.RoomLemmas.{kept-queued}
use Rattle.ckpt_manager.proofs.CallLemmas.{absent-at, room-at, ok-here, put-all}
use Rattle.ckpt_manager.proofs.queue.Queue.queue.Goals as goal

pub push-requires-clause-absent : goal.push-requires-clause-absent
push-requires-clause-absent c =
    absent-at c.self.inside c.args.self.now c.args.key.now (c.self.view_is ∙ c.clear.ensures.after) c.clear.ensures.sound

pub prove-unreachable-requires : goal.prove-unreachable-requires
prove-unreachable-requires c =
    let short = c.push.ensures.short.0 (c.is_ok-pushed.ensures.negation ∙ ap not c.if-prove.true) in
    let room = room-at c.self.inside c.args.self.now c.args.key.now (length c.args.value.now) (c.self.view_is ∙ c.clear.ensures.after) c.clear.ensures.sound c.requires.room in
    omega (arith, short, room)

pub overflow_add-self : goal.overflow_add-self
overflow_add-self c =
    omega (arith, c.self.invariant.count, c.self.invariant.sound.few, c.self.invariant.sound.bound)

pub invariant_of-self : goal.invariant_of-self
invariant_of-self c =
    (put-all c.self.inside c.args.self.now c.push.new.self c.args.key.now c.args.meta c.args.value.now c.next_number-number.result (c.next_number-number.ensures ∙ ap (λ (q : QueueData). q.high + 1) (sym c.self.view_is)) (c.self.view_is ∙ c.clear.ensures.after) c.self.invariant c.clear.ensures.sound c.requires.key c.requires.value c.requires.room c.requires.number c.requires.stamp c.requires.len
    (ok-here c.push.result _ (sym c.is_ok-pushed.ensures.value ∙ c.if-prove.false) c.push.ensures.ok)).counted

pub returns-clause-last : goal.returns-clause-last
returns-clause-last c =
    λ (n : ℕ) (k : List ℕ) le.
    ap (λ (q : QueueData). last_above q n k)
    (put-all c.self.inside c.args.self.now c.push.new.self c.args.key.now c.args.meta c.args.value.now c.next_number-number.result (c.next_number-number.ensures ∙ ap (λ (q : QueueData). q.high + 1) (sym c.self.view_is)) (c.self.view_is ∙ c.clear.ensures.after) c.self.invariant c.clear.ensures.sound c.requires.key c.requires.value c.requires.room c.requires.number c.requires.stamp c.requires.len
    (ok-here c.push.result _ (sym c.is_ok-pushed.ensures.value ∙ c.if-prove.false) c.push.ensures.ok)).is
    ∙ last-queued c.args.self.now c.args.key.now c.args.meta c.args.value.now n k le

pub returns-clause-kept : goal.returns-clause-kept
returns-clause-kept c =
    ap (λ (q : QueueData). blocks_of (kept q))
    (put-all c.self.inside c.args.self.now c.push.new.self c.args.key.now c.args.meta c.args.value.now c.next_number-number.result (c.next_number-number.ensures ∙ ap (λ (q : QueueData). q.high + 1) (sym c.self.view_is)) (c.self.view_is ∙ c.clear.ensures.after) c.self.invariant c.clear.ensures.sound c.requires.key c.requires.value c.requires.room c.requires.number c.requires.stamp c.requires.len
    (ok-here c.push.result _ (sym c.is_ok-pushed.ensures.value ∙ c.if-prove.false) c.push.ensures.ok)).is
    ∙ kept-queued c.args.self.now c.args.key.now c.args.meta c.args.value.now c.clear.ensures.sound
