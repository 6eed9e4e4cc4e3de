-- A session that didn't begin did nothing.
use Rattle.ep_top.proofs.EndLemmas.{session_unopened}
use Rattle.ep_top.proofs.session.unopened.Goals as goal

pub returns-clause-session : goal.returns-clause-session
returns-clause-session c = λ before. session_unopened before c.args.end c.new.result c.requires c.new.ensures
