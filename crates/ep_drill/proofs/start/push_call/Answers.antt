use Rattle.std.proofs.Common.{◌<◌, ℕ, length, refl, sym, subst}
use Rattle.ep_drill.proofs.StartLemmas.{pushed_call, set_same, items_ok, items_err, ok_here, not_ok, err_here, not_err}
use Rattle.ep_drill.proofs.start.push_call.Goals.{in-Ok, in-Err}
use Rattle.ep_drill.proofs.start.push_call.Goals as goal

pub returns-clause-ok : goal.returns-clause-ok
returns-clause-ok c =
    let x = c.index_mut-caller.result.now in
    elim c.match-push.branch [
      | in-Ok w ↦ ok_here c.match-push.result
          (pushed_call c.args.callers.now.items c.from.result c.args.number x (record { calls = c.push.new.self; answered = x.answered; prior = x.prior }) c.args.loaded c.from.ensures c.requires c.index_mut-caller.ensures.value
          (items_ok c.push.result w.in-Ok.field-0 _ _ _ w.in-Ok.is c.push.ensures.items) refl refl)
      | in-Err w ↦ not_ok _ c.match-push.result _ w.result-is
    ]

pub returns-clause-err : goal.returns-clause-err
returns-clause-err c =
    let x = c.index_mut-caller.result.now in
    elim c.match-push.branch [
      | in-Ok w ↦ not_err _ c.match-push.result _ w.result-is
      | in-Err w ↦ err_here c.match-push.result
          (set_same c.args.callers.now.items c.from.result x (record { calls = c.push.new.self; answered = x.answered; prior = x.prior })
          (subst (λ (k : ℕ). k < length c.args.callers.now.items) (sym c.from.ensures) c.requires) c.index_mut-caller.ensures.value
          (items_err c.push.result w.in-Err.field-0 _ _ _ w.in-Err.is c.push.ensures.items) refl refl)
    ]
