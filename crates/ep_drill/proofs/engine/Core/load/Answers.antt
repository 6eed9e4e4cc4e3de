use Rattle.ep_drill.proofs.StartLemmas.{core_pushes, pushed_count}
use Rattle.ep_drill.proofs.engine.Core.load.Goals as goal

pub invariant_of-self : goal.invariant_of-self
invariant_of-self g c =
    let s = c.self.inside in (
      core_pushes c.push_call.result s.config s.world s.benches.items s.callers.items c.push_call.new.callers.items c.args.self.now c.args.caller (record { vb = c.args.vb; call = c.in-Ok.call })
          c.self.invariant.0 c.self.view_is c.requires.caller c.requires.vb c.push_call.ensures.ok c.push_call.ensures.err,
      c.self.invariant.1,
    )

pub returns-in-Ok-clause-interleaves : goal.returns-in-Ok-clause-interleaves
returns-in-Ok-clause-interleaves g c =
    let s = c.self.inside in
    core_pushes c.push_call.result s.config s.world s.benches.items s.callers.items c.push_call.new.callers.items c.args.self.now c.args.caller (record { vb = c.args.vb; call = c.in-Ok.call })
    c.self.invariant.0 c.self.view_is c.requires.caller c.requires.vb c.push_call.ensures.ok c.push_call.ensures.err

pub returns-in-Ok-clause-same : goal.returns-in-Ok-clause-same
returns-in-Ok-clause-same g c =
    let s = c.self.inside in
    pushed_count c.push_call.result s.config s.world s.benches.items s.callers.items c.push_call.new.callers.items c.args.self.now c.args.caller (record { vb = c.args.vb; call = c.in-Ok.call }) c.self.view_is c.push_call.ensures.ok c.push_call.ensures.err
