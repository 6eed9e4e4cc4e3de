use Rattle.std.proofs.Common.{rules}
use Rattle.ep_edge.proofs.PieceLemmas.{appends_front}
use Rattle.ep_edge.proofs.memory_sink.MemorySinkSink.write.Goals as goal

pub returns-then-count-bytes-clause-failed : goal.returns-then-count-bytes-clause-failed
returns-then-count-bytes-clause-failed c =
    λ _. appends_front _ _ _ c.min-count.result (search rules)
