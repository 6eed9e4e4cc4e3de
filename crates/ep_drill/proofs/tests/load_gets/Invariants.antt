use Rattle.std.proofs.Common.{◌≡◌, length}
use Rattle.ep_drill.proofs.tests.load_gets.Given as goal

-- nothing but calls was added
abbrev pub invariant-loop-get : goal.invariant-loop-get
invariant-loop-get l = (length l.core.callers ≡ length l.initial.core.callers) × (l.core.config ≡ l.initial.core.config)
