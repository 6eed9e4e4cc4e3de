-- The search alone is tried, so that a body that ends otherwise is refused at once.
use Rattle.std.proofs.Common.{rules}
use Rattle.ep_server.proofs.command.run.Goals as goal

pub returns-in-Ok-clause-ends : goal.returns-in-Ok-clause-ends
returns-in-Ok-clause-ends g c = search rules
