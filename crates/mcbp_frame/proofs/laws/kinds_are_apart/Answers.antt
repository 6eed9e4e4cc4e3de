use Rattle.mcbp_frame.proofs.DivisionLemmas.{partial_or_bad_magic, partial_or_too_long, bad_magic_or_too_long}
use Rattle.mcbp_frame.proofs.laws.kinds_are_apart.Goals as goal

pub returns : goal.returns
returns c = λ rest. (partial_or_bad_magic rest, partial_or_too_long rest, bad_magic_or_too_long rest)
