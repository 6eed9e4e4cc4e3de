-- The four parts, one behind the other.
use Rattle.mcbp_frame.proofs.ResponseLemmas.{appended}
use Rattle.mcbp_frame.proofs.response.put_response.Goals as goal

pub returns-clause-bytes : goal.returns-clause-bytes
returns-clause-bytes c =
    appended _ _ _ _ _ _ _ _ _ _ c.header_of.ensures c.push.ensures.bytes c.push-2.ensures.bytes c.push-3.ensures.bytes c.push-4.ensures.bytes
