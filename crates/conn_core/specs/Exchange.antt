-- Frames that a connection served with their answers: the event of each, the bytes that answer it, and what a list of
-- them comes to. The number of vBuckets and the connection's caller are arguments.
use Rattle.std.specs.Prelude.{◌≡◌, ℕ, ◌+◌, Bool, true, false, List, [], ◌∷◌, ◌++◌, Option, IfSome}
use Rattle.ep_model.specs.declared.call.Reply.{Reply}
use Rattle.ep_model.specs.declared.data.EventData.{EventData}
use Rattle.ep_model.specs.declared.data.EventData.TheVariants.{Called}
use Rattle.ep_model.specs.Statuses.{key_not_found}
use Rattle.mcbp_frame.specs.declared.frame.FrameData.{FrameData}
use Rattle.mcbp_frame.specs.Frames.{frame_at}
use Rattle.mcbp_ops.specs.Text.{reply_text, status_text}
use Rattle.conn_core.specs.declared.act.ActData.{ActData}
use Rattle.conn_core.specs.declared.act.ActData.TheVariants.{Answered, Quit, Engine, Stat}
use Rattle.conn_core.specs.declared.hello.Features.{Features}
use Rattle.conn_core.specs.Acts.{act_of, own_text, features_after}

-- a frame that was served, the moment of it, and where it is a call what that was answered
pub record Exchange : Type 0 where
  pub bytes : List ℕ
  pub now : ℕ
  pub reply : Reply
  pub value : List ℕ

-- what its bytes say; no call and no answer depends on the place in the stream
abbrev pub frame_of : Exchange → FrameData
frame_of x = frame_at x.bytes 0

abbrev pub is_quit : ActData → Bool
is_quit Answered = false
is_quit Quit = true
is_quit (Engine call) = false
is_quit (Stat group) = false

-- the one event of a caller's call, beside its vBucket; none of another frame
abbrev pub act_event : ℕ → ℕ → ActData → ℕ → Reply → List ℕ → List (ℕ × EventData)
act_event caller vbucket Answered now reply value = []
act_event caller vbucket Quit now reply value = []
act_event caller vbucket (Engine call) now reply value = (vbucket, Called caller call now reply value) ∷ []
act_event caller vbucket (Stat group) now reply value = []

-- what is written behind the connection's own answer: a call's reply, and that a group of statistics isn't known
abbrev pub act_text : Features → FrameData → ActData → Reply → List ℕ → List ℕ
act_text features f Answered reply value = []
act_text features f Quit reply value = []
act_text features f (Engine call) reply value = reply_text f reply value features.seqno
act_text features f (Stat group) reply value = status_text f key_not_found

abbrev pub event_in : ℕ → ℕ → FrameData → ℕ → Reply → List ℕ → List (ℕ × EventData)
event_in vbuckets caller f now reply value = act_event caller f.vbucket (act_of vbuckets f) now reply value

abbrev pub text_in : ℕ → Features → FrameData → Reply → List ℕ → List ℕ
text_in vbuckets features f reply value = own_text vbuckets f ++ act_text features f (act_of vbuckets f) reply value

abbrev pub event_of : ℕ → ℕ → Exchange → List (ℕ × EventData)
event_of vbuckets caller x = event_in vbuckets caller (frame_of x) x.now x.reply x.value

abbrev pub text_of : ℕ → Features → Exchange → List ℕ
text_of vbuckets features x = text_in vbuckets features (frame_of x) x.reply x.value

-- the texts in order, each under the features of the last Hello before it
abbrev pub texts_of : ℕ → Features → List Exchange → List ℕ
texts_of vbuckets features [] = []
texts_of vbuckets features (x ∷ xs) = text_of vbuckets features x ++ texts_of vbuckets (features_after features (frame_of x)) xs

-- the features after these frames
abbrev pub features_of : Features → List Exchange → Features
features_of features [] = features
features_of features (x ∷ xs) = features_of (features_after features (frame_of x)) xs

-- No frame is served behind a Quit: whether one was served before these, and after them.
abbrev pub StopsAtQuit : ℕ → Bool → List Exchange → Bool → Type 0
StopsAtQuit vbuckets before [] after = after ≡ before
StopsAtQuit vbuckets before (x ∷ xs) after = (before ≡ false) × StopsAtQuit vbuckets (is_quit (act_of vbuckets (frame_of x))) xs after

-- from the n-th on, each was served at the moment that the clock gave for it, where the clock tells it
abbrev pub AreMoments : (ℕ → Option ℕ) → ℕ → List Exchange → Type 0
AreMoments moment n [] = Unit {0}
AreMoments moment n (x ∷ xs) = IfSome (moment n) (λ m. x.now ≡ m) × AreMoments moment (n + 1) xs
