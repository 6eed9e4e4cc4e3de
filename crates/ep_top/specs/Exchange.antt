-- The frames of a session, which has one vBucket and one caller.
use Rattle.std.specs.Prelude.{ℕ, Bool, List}
use Rattle.ep_model.specs.declared.call.Reply.{Reply}
use Rattle.ep_model.specs.declared.data.EventData.{EventData}
use Rattle.mcbp_frame.specs.declared.frame.FrameData.{FrameData}
use Rattle.conn_core.specs.declared.act.ActData.{ActData}
use Rattle.conn_core.specs.declared.hello.Features.{Features}
use Rattle.conn_core.specs.Acts.{act_of}
use Rattle.conn_core.specs.Exchange.{Exchange}
use Rattle.conn_core.specs.Exchange as exchanges

-- how many vBuckets a session has
abbrev pub vbuckets : ℕ
vbuckets = 1

-- whose calls it serves
abbrev pub only_caller : ℕ
only_caller = 0

-- what a frame asks of a session
abbrev pub act_in : FrameData → ActData
act_in f = act_of vbuckets f

abbrev pub event_in : FrameData → ℕ → Reply → List ℕ → List (ℕ × EventData)
event_in f now reply value = exchanges.event_in vbuckets only_caller f now reply value

abbrev pub text_in : Features → FrameData → Reply → List ℕ → List ℕ
text_in features f reply value = exchanges.text_in vbuckets features f reply value

abbrev pub session_event : Exchange → List (ℕ × EventData)
session_event x = exchanges.event_of vbuckets only_caller x

abbrev pub text_of : Features → Exchange → List ℕ
text_of features x = exchanges.text_of vbuckets features x

abbrev pub texts_of : Features → List Exchange → List ℕ
texts_of features xs = exchanges.texts_of vbuckets features xs

abbrev pub StopsAtQuit : Bool → List Exchange → Bool → Type 0
StopsAtQuit before xs after = exchanges.StopsAtQuit vbuckets before xs after
