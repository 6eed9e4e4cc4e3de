use Rattle.std.proofs.Common.{ℕ, List, length, map, None, ap, sym, ◌∙◌, arith}
use Rattle.std.proofs.lemmas.List.{length-map}
use Rattle.ep_drill.specs.Callers.{caller_data}
use Rattle.ep_drill.specs.Core.{bench_data}
use Rattle.ep_drill.specs.Opens.{copies}
use Rattle.ep_drill.proofs.BenchesLemmas.{core_made}
use Rattle.ep_drill.proofs.engine.Core.new.Goals as goal

pub invariant_of-result : goal.invariant_of-result
invariant_of-result g c =
    let config = c.args.config.now in
    let made = c.in-Ok-benches_of.ensures.ok config.stripes (c.in-Ok-all_reads.ensures ∙ ap (λ (n : ℕ). copies n (copies config.stripes None)) (sym c.requires.count)) in
    let empty = ap (λ (l : List ℕ). length l) c.in-Ok-new.ensures.bytes in
    let spare = c.in-Ok-new.ensures.spare in (
      core_made config c.in-Ok.world (map bench_data c.in-Ok-benches_of.benches.items) (map caller_data c.in-Ok-idle_callers.callers.items) (map g.K.Keeper.seen c.args.keepers.items) c.args.callers
          c.in-Ok.ensures.ready c.in-Ok.ensures.opened c.in-Ok.ensures.sound made (length-map c.args.keepers.items g.K.Keeper.seen ∙ c.requires.count) c.requires.fresh c.in-Ok-idle_callers.ensures,
      omega arith,
    )

pub returns-in-Ok-benches_of-clause-interleaves : goal.returns-in-Ok-benches_of-clause-interleaves
returns-in-Ok-benches_of-clause-interleaves g c =
    let config = c.args.config.now in
    let made = c.in-Ok-benches_of.ensures.ok config.stripes (c.in-Ok-all_reads.ensures ∙ ap (λ (n : ℕ). copies n (copies config.stripes None)) (sym c.requires.count)) in
    core_made config c.in-Ok.world (map bench_data c.in-Ok-benches_of.benches.items) (map caller_data c.in-Ok-idle_callers.callers.items) (map g.K.Keeper.seen c.args.keepers.items) c.args.callers
    c.in-Ok.ensures.ready c.in-Ok.ensures.opened c.in-Ok.ensures.sound made (length-map c.args.keepers.items g.K.Keeper.seen ∙ c.requires.count) c.requires.fresh c.in-Ok-idle_callers.ensures
