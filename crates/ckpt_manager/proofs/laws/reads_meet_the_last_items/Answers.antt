use Rattle.ckpt_manager.proofs.WalkLemmas.{reads-go-on, reads-meet-all}
use Rattle.ckpt_manager.proofs.laws.reads_meet_the_last_items.Goals as goal

pub returns-clause-goes_on : goal.returns-clause-goes_on
returns-clause-goes_on c = reads-go-on

pub returns-clause-all : goal.returns-clause-all
returns-clause-all c = reads-meet-all
