use Rattle.ep_model.proofs.DecimalLemmas.{number_of-decimal}
use Rattle.ep_model.proofs.laws.decimal_is_read_back.Goals as goal

pub returns : goal.returns
returns c = number_of-decimal
