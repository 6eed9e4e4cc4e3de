use Rattle.std.proofs.Common.{◌≡◌, ◌≤◌, map, length}
use Rattle.std.specs.Prelude.{vec_len, vec_capacity}
use Rattle.ep_drill.specs.Core.{bench_data}
use Rattle.ep_drill.proofs.BenchesLemmas.{bench_from}
use Rattle.ep_drill.proofs.start.benches_of.Given as goal

abbrev pub invariant-loop-keeper : goal.invariant-loop-keeper
invariant-loop-keeper g l = record {
  count : vec_len l.benches ≡ length l.yielded;
  room : length l.fn.keepers.items ≤ vec_capacity l.benches;
  made : map bench_data l.benches.items ≡ map (bench_from g.K.Keeper.seen) l.yielded;
}
