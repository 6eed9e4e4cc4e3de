use Rattle.std.proofs.Common.{◌≡◌, Some, List, slice_get, refl, subst}
use Rattle.ep_drill.specs.declared.owned.Loaded.{Loaded}
use Rattle.ep_drill.specs.Callers.{caller_data, loaded_data, next_of}
use Rattle.ep_drill.proofs.EngineLemmas.{lent_at}
use Rattle.ep_drill.proofs.TurnLemmas.{get_told, is_next}
use Rattle.ep_drill.proofs.turn.try_next.Goals as goal

pub returns-in-Ok-clause-ok : goal.returns-in-Ok-clause-ok
returns-in-Ok-clause-ok c =
    let l = c.in-Some.ensures.lookup in
    let at : slice_get c.args.caller.now.calls.items c.args.caller.now.answered ≡ Some c.in-Some.loaded.now =
    subst (λ (xs : List Loaded). slice_get xs c.args.caller.now.answered ≡ Some c.in-Some.loaded.now) c.deref.ensures.value (lent_at c.deref.result.now c.args.caller.now.answered c.in-Some.loaded.now l.3.0 l.1) in
    let next : next_of (caller_data c.args.caller.now) ≡ Some (loaded_data c.in-Some.loaded.now) = get_told loaded_data c.args.caller.now.calls.items c.args.caller.now.answered c.in-Some.loaded.now at in
    (loaded_data c.in-Some.loaded.now, next, c.in-Ok.ensures.ok, c.advance.ensures, c.in-Ok.ensures.comes, c.try_loaded.ensures.kept)

pub returns-in-Err-clause-err : goal.returns-in-Err-clause-err
returns-in-Err-clause-err c =
    let l = c.in-Some.ensures.lookup in
    let at : slice_get c.args.caller.now.calls.items c.args.caller.now.answered ≡ Some c.in-Some.loaded.now =
    subst (λ (xs : List Loaded). slice_get xs c.args.caller.now.answered ≡ Some c.in-Some.loaded.now) c.deref.ensures.value (lent_at c.deref.result.now c.args.caller.now.answered c.in-Some.loaded.now l.3.0 l.1) in
    (c.in-Err.ensures.err, refl, is_next c.args.caller.now c.in-Some.loaded.now at)

pub returns-in-Err-clause-memory : goal.returns-in-Err-clause-memory
returns-in-Err-clause-memory c =
    let l = c.in-Some.ensures.lookup in
    let at : slice_get c.args.caller.now.calls.items c.args.caller.now.answered ≡ Some c.in-Some.loaded.now =
    subst (λ (xs : List Loaded). slice_get xs c.args.caller.now.answered ≡ Some c.in-Some.loaded.now) c.deref.ensures.value (lent_at c.deref.result.now c.args.caller.now.answered c.in-Some.loaded.now l.3.0 l.1) in
    (loaded_data c.in-Some.loaded.now, get_told loaded_data c.args.caller.now.calls.items c.args.caller.now.answered c.in-Some.loaded.now at, c.in-Err.ensures.memory)
