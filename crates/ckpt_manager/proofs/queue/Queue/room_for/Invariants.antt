use Rattle.std.proofs.Common.{◌≡◌, ◌+◌, length}
use Rattle.ep_model.specs.World.{blocks}
use Rattle.ckpt_manager.specs.Queue.{CanHold, Expelled, NoneTooMany, replaced_blocks}
use Rattle.ckpt_manager.proofs.queue.Queue.room_for.Given as goal

abbrev pub invariant-loop-len : goal.invariant-loop-len
invariant-loop-len l =
    Expelled l.initial.self l.self
    × (l.need ≡ blocks (length l.key) + blocks l.len)
    × (l.replaced ≡ replaced_blocks l.initial.self l.key)
    × (CanHold l.initial.self l.key l.len → l.self ≡ l.initial.self)
    × NoneTooMany l.initial.self l.self l.key l.len

abbrev pub decreases-loop-len : goal.decreases-loop-len
decreases-loop-len l = length l.self.closed
