use Rattle.vb_front.proofs.StripeLemmas.{stripe_ejects, stripe_is_used, stripe_releases}
use Rattle.vb_front.proofs.stripe_laws.stripes_make_room.Goals as goal

pub returns-clause-ejects : goal.returns-clause-ejects
returns-clause-ejects c = stripe_ejects

pub returns-clause-used : goal.returns-clause-used
returns-clause-used c = stripe_is_used

pub returns-clause-releases : goal.returns-clause-releases
returns-clause-releases c = stripe_releases
