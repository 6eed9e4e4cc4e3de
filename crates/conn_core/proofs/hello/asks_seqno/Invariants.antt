use Rattle.std.proofs.Common.{◌≡◌, length}
use Rattle.conn_core.specs.Hello.{asks_seqno}
use Rattle.conn_core.proofs.hello.asks_seqno.Given as goal

-- what is left decides
abbrev pub invariant-loop-rest : goal.invariant-loop-rest
invariant-loop-rest l = asks_seqno l.rest ≡ asks_seqno l.codes

abbrev pub decreases-loop-rest : goal.decreases-loop-rest
decreases-loop-rest l = length l.rest
