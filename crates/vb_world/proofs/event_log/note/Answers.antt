-- Bytes put behind those that are kept leave each event as it was.
use Rattle.std.proofs.Common.{rules, ℕ, List, length, ◌∙◌, ap, subst, sym}
use Rattle.vb_world.specs.declared.event_log.KeptEvent.{KeptEvent}
use Rattle.vb_world.specs.EventLog.{AreInside, pairs_in}
use Rattle.vb_world.proofs.KeptLemmas.{kept_inside, kept_pairs, are_inside-push, err_here, push_kept}
use Rattle.vb_world.proofs.event_log.note.Goals as goal

pub returns-in_err-kept-clause-err : goal.returns-in_err-kept-clause-err
returns-in_err-kept-clause-err c = err_here _ (kept_pairs _ _ _ c.keep_event.ensures.extends c.requires.whole)

pub returns-in_err-push-clause-whole : goal.returns-in_err-push-clause-whole
returns-in_err-push-clause-whole c = rw c.in_err-push.ensures.items (kept_inside _ _ _ c.keep_event.ensures.extends c.requires.whole)

pub returns-in_err-push-clause-err : goal.returns-in_err-push-clause-err
returns-in_err-push-clause-err c =
    err_here _ (ap (pairs_in c.keep_event.new.bytes.items) c.in_err-push.ensures.items ∙ kept_pairs _ _ _ c.keep_event.ensures.extends c.requires.whole)

pub returns-clause-whole : goal.returns-clause-whole
returns-clause-whole c =
    let done =
    subst (λ (l : List (ℕ × KeptEvent)). AreInside (length c.keep_event.new.bytes.items) l) (sym c.in_ok-push.ensures.items)
    (are_inside-push _ _ _ (kept_inside _ _ _ c.keep_event.ensures.extends c.requires.whole) c.in_ok-kept.ensures.inside) in
    search rules

pub returns-clause-ok : goal.returns-clause-ok
returns-clause-ok c =
    let done =
    ap (pairs_in c.keep_event.new.bytes.items) c.in_ok-push.ensures.items
    ∙ push_kept _ _ _ _ _ _ c.keep_event.ensures.extends c.requires.whole c.in_ok-kept.ensures.same in
    search rules
