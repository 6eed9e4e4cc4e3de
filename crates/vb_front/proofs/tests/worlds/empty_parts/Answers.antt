use Rattle.std.proofs.Common.{◌≡◌, [], ◌∷◌, refl, sym, subst, rules, arith}
use Rattle.std.specs.Prelude.{None}
use Rattle.hold_stage.specs.Slots.{bare_front}
use Rattle.ckpt_manager.specs.declared.data.QueueData.{QueueData}
use Rattle.ckpt_manager.specs.Queue.{fresh}
use Rattle.vb_front.specs.declared.part.StripePart.{StripePart}
use Rattle.vb_front.specs.declared.part.Part.TheVariants as parts
use Rattle.vb_front.specs.Laws.{empty_stripe}
use Rattle.vb_front.specs.Stands.{StripeStands, QueueStands}
use Rattle.vb_front.proofs.EmptyLemmas.{empty_stripes_stand, empty_queues_stand}
use Rattle.vb_front.proofs.WorldLemmas.{three_stand}
use Rattle.vb_front.proofs.tests.worlds.empty_parts.Goals as goal

pub returns-clause-stand : goal.returns-clause-stand
returns-clause-stand c =
    let config = c.args.config.now in
    let x : StripePart = record { table = c.in_ok-table.table; book = c.in_ok-book.book } in
    let is : c.push-3.new.self.items ≡ parts.Stripe x ∷ parts.Queue c.in_ok-queue.queue ∷ parts.Desk (record { persisted = 0 }) ∷ [] = search rules in
    let empty : x ≡ empty_stripe config 0 0 = search rules in
    let none : c.in_ok-queue.queue ≡ fresh config.ckpt_blocks config.ckpt_max = search rules in
    let one = c.requires.only in
    three_stand config 0 c.push-3.new.self.items x c.in_ok-queue.queue (record { persisted = 0 }) one is
    (subst (λ (y : StripePart). StripeStands (bare_front config 0) 0 y) (sym empty) (empty_stripes_stand config 0 0 None (omega arith)))
    (subst (λ (q : QueueData). QueueStands (bare_front config 0) q) (sym none) (empty_queues_stand config 0 None)) refl
