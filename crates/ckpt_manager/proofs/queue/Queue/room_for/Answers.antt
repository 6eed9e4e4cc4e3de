use Rattle.std.proofs.Common.{◌<◌, ◌≤◌, ◌+◌, ◌≡◌, ◌∙◌, ap, sym, subst, ℕ, List, rules, refl, arith, length}
use Rattle.ep_model.specs.World.{blocks}
use Rattle.ckpt_manager.specs.declared.data.QueueData.{QueueData}
use Rattle.ckpt_manager.specs.Queue.{CanHold, free_blocks, replaced_blocks, last_above, ExpelsOne, ExpelsNone, NoneTooMany, NonePassed}
use Rattle.ckpt_manager.proofs.RoomLemmas.{expelled-then, none-then, last-expelled, replaced-same}
use Rattle.ckpt_manager.proofs.CallLemmas.{free-fits, room-fits, room-short}
use Rattle.ckpt_manager.proofs.queue.Queue.room_for.Goals as goal

pub overflow_add-free : goal.overflow_add-free
overflow_add-free c =
    omega (arith, c.free.ensures.free, c.replaced_blocks-replaced.ensures, free-fits c.args.self.now c.loop-len.self c.args.key.now c.loop-len.invariant.0 c.free.ensures.sound)

pub returns-then-need-free-clause-short : goal.returns-then-need-free-clause-short
returns-then-need-free-clause-short c =
    let fits : blocks (length c.args.key.now) + blocks c.args.len ≤ free_blocks c.loop-len.self + replaced_blocks c.args.self.now c.args.key.now =
    omega (arith, c.if-need-free.true, c.free.ensures.free, c.loop-len.invariant.1, c.loop-len.invariant.2) in
    let all = room-fits c.args.self.now c.loop-len.self c.args.key.now c.args.len c.loop-len.invariant.0 c.free.ensures.sound fits in
    (λ e. absurd (cc), λ over. absurd (omega (arith, over, all.1)))

pub returns-then-not-expel-clause-short : goal.returns-then-not-expel-clause-short
returns-then-not-expel-clause-short c =
    let short : free_blocks c.loop-len.self + replaced_blocks c.args.self.now c.args.key.now < blocks (length c.args.key.now) + blocks c.args.len =
    omega (arith, c.if-need-free.false, c.free.ensures.free, c.loop-len.invariant.1, c.loop-len.invariant.2) in
    let none : ExpelsNone c.loop-len.self c.expel.new.self = search rules in
    let all = room-short c.args.self.now c.loop-len.self c.expel.new.self c.args.key.now c.args.len c.loop-len.invariant.0 c.free.ensures.sound none short in
    (λ e. all.1, λ over. refl)

pub loop-len-preserved : goal.loop-len-preserved
loop-len-preserved c =
    let one : ExpelsOne c.loop-len.self c.expel.new.self = search rules in
    let short : free_blocks c.loop-len.self + replaced_blocks c.args.self.now c.args.key.now < blocks (length c.args.key.now) + blocks c.args.len =
    omega (arith, c.if-need-free.false, c.free.ensures.free, c.loop-len.invariant.1, c.loop-len.invariant.2) in (
      expelled-then c.args.self.now c.loop-len.self c.expel.new.self c.loop-len.invariant.0 one,
      c.loop-len.invariant.1,
      c.loop-len.invariant.2,
      λ (fits : CanHold c.args.self.now c.args.key.now c.args.len).
          let same : free_blocks c.loop-len.self ≡ free_blocks c.args.self.now = ap (λ (q : QueueData). free_blocks q) (c.loop-len.invariant.3 fits) in
          absurd (omega (arith, short, same, fits)),
      none-then c.args.self.now c.loop-len.self c.expel.new.self c.args.key.now c.args.len c.loop-len.invariant.0 one short c.loop-len.invariant.4,
    )

pub returns-then-need-free-clause-same : goal.returns-then-need-free-clause-same
returns-then-need-free-clause-same c = c.loop-len.invariant.3

pub returns-then-not-expel-clause-same : goal.returns-then-not-expel-clause-same
returns-then-not-expel-clause-same c =
    λ (fits : CanHold c.args.self.now c.args.key.now c.args.len).
    let none : ExpelsNone c.loop-len.self c.expel.new.self = search rules in
    none.same ∙ c.loop-len.invariant.3 fits

pub returns-then-need-free-clause-last : goal.returns-then-need-free-clause-last
returns-then-need-free-clause-last c =
    λ (n : ℕ) (k : List ℕ) low. last-expelled c.args.self.now c.loop-len.self n k c.loop-len.invariant.0 low

pub returns-then-not-expel-clause-last : goal.returns-then-not-expel-clause-last
returns-then-not-expel-clause-last c =
    let none : ExpelsNone c.loop-len.self c.expel.new.self = search rules in
    λ (n : ℕ) (k : List ℕ) low. ap (λ (q : QueueData). last_above q n k) none.same ∙ last-expelled c.args.self.now c.loop-len.self n k c.loop-len.invariant.0 low

pub returns-then-not-expel-clause-free : goal.returns-then-not-expel-clause-free
returns-then-not-expel-clause-free c =
    let none : ExpelsNone c.loop-len.self c.expel.new.self = search rules in
    let same : free_blocks c.expel.new.self + replaced_blocks c.expel.new.self c.args.key.now ≡ free_blocks c.loop-len.self + replaced_blocks c.loop-len.self c.args.key.now =
    ap (λ (q : QueueData). free_blocks q + replaced_blocks q c.args.key.now) none.same in
    omega (arith, same, c.free.ensures.free, c.loop-len.invariant.2, replaced-same c.args.self.now c.loop-len.self c.args.key.now c.loop-len.invariant.0)

pub loop-len-init : goal.loop-len-init
loop-len-init c = (search rules, search rules, search rules, λ (_ : CanHold c.args.self.now c.args.key.now c.args.len). refl, λ (count : ℕ) below fits. absurd (omega (arith, below)))

pub returns-then-need-free-clause-least : goal.returns-then-need-free-clause-least
returns-then-need-free-clause-least c = c.loop-len.invariant.4

pub returns-then-not-expel-clause-least : goal.returns-then-not-expel-clause-least
returns-then-not-expel-clause-least c =
    let none : ExpelsNone c.loop-len.self c.expel.new.self = search rules in
    subst (λ (q : QueueData). NoneTooMany c.args.self.now q c.args.key.now c.args.len) (sym none.same) c.loop-len.invariant.4

pub returns-then-not-expel-clause-left : goal.returns-then-not-expel-clause-left
returns-then-not-expel-clause-left c =
    let none : ExpelsNone c.loop-len.self c.expel.new.self = search rules in
    subst NonePassed (sym none.same) none.ahead
