use Rattle.std.proofs.Common.{rules}
use Rattle.turn_stage.proofs.UnopenedLemmas.{unopened_bare}
use Rattle.turn_stage.proofs.tests.four_stripes.Goals as goal

pub new-requires-clause-parts : goal.new-requires-clause-parts
new-requires-clause-parts c = record { count = search rules; stand = λ slot x at. unopened_bare _ _ _ }
