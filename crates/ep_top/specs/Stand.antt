-- How far a session is, and how it goes on from there.
use Rattle.std.specs.Prelude.{◌≡◌, ◌≢◌, ℕ, ◌+◌, ◌≤◌, Bool, true, false, List, [], ◌∷◌, ◌++◌, length, map, Option}
use Rattle.std.specs.List.{flat_map}
use Rattle.ep_model.specs.declared.data.EventData.{EventData}
use Rattle.ep_model.specs.Counts.{RoseByOne}
use Rattle.ep_edge.specs.Edge.{Appends, Offer}
use Rattle.mcbp_frame.specs.Stream.{HasCut}
use Rattle.mcbp_frame.specs.Frames.{IsFrame}
use Rattle.mcbp_frame.specs.Feeder.{first_frame}
use Rattle.mcbp_frame.specs.Division.{HasBadMagic, IsTooLong, IsPartial}
use Rattle.conn_core.specs.declared.hello.Features.{Features}
use Rattle.ep_top.specs.declared.end.End.{End}
use Rattle.ep_top.specs.declared.end.End.TheVariants as ends
use Rattle.ep_top.specs.declared.responder.Responder.{Responder}
use Rattle.conn_core.specs.Exchange.{Exchange, features_of, AreMoments}
use Rattle.ep_top.specs.Exchange.{session_event, texts_of, StopsAtQuit}

-- the bytes that were taken and aren't served, the history, the answers that aren't written, what sink and clock tell, the
-- features, and whether a Quit was served
pub record Stand : Type 0 where
  pub rest : List ℕ
  pub history : List (ℕ × EventData)
  pub pending : List ℕ
  pub held : Option (List ℕ)
  pub moment : ℕ → Option ℕ
  pub features : Features
  pub quit : Bool

abbrev pub stand : List ℕ → Responder → Option (List ℕ) → (ℕ → Option ℕ) → Bool → Stand
stand rest responder held moment quit = record { rest = rest; history = responder.history; pending = responder.conn.out.bytes; held = held; moment = moment; features = responder.conn.features; quit = quit }

-- the bytes of these frames, one after the other
abbrev pub bytes_of : List Exchange → List (List ℕ)
bytes_of served = map (λ x. x.bytes) served

-- how many bytes of answers may wait as a frame is served
abbrev pub most_pending : ℕ
most_pending = 1048576

-- all of them but the last
abbrev pub but_last : Exchange → List Exchange → List Exchange
but_last x [] = []
but_last x (y ∷ ys) = x ∷ but_last y ys

-- No more waited than may as the last of these frames was served, where so many bytes had been written by then, and
-- these had waited before the first.
abbrev pub AnswersWaited : List ℕ → Features → List Exchange → ℕ → Type 0
AnswersWaited pending features [] written = Unit {0}
AnswersWaited pending features (x ∷ xs) written = length pending + length (texts_of features (but_last x xs)) ≤ written + most_pending

-- Between the two, these frames of the rest were served, and so much was written.
pub record Advances (old new : Stand) : Type 0 where
  pub served : List Exchange
  pub written : List ℕ
  pub cut : HasCut old.rest (bytes_of served) new.rest
  pub noted : new.history ≡ old.history ++ flat_map session_event served
  pub texts : written ++ new.pending ≡ old.pending ++ texts_of old.features served
  pub waited : AnswersWaited old.pending old.features served (length written)
  pub features : new.features ≡ features_of old.features served
  pub quits : StopsAtQuit old.quit served new.quit
  pub wrote : Appends old.held new.held written
  pub moments : AreMoments old.moment 0 served
  pub asked : (k : ℕ) → new.moment k ≡ old.moment (length served + k)

-- a first part of the pending answers was written, and the others are pending still
pub record WritesWaiting (pending left : List ℕ) (old new : Option (List ℕ)) : Type 0 where
  pub written : List ℕ
  pub parts : pending ≡ written ++ left
  pub wrote : Appends old new written

-- some of the pending answers are lost, and those before them were written
abbrev pub LosesSome : List ℕ → Option (List ℕ) → Option (List ℕ) → Type 0
LosesSome pending old new = (lost : List ℕ) × WritesWaiting pending lost old new

-- Of all writes since then the last alone failed. It was to write all that waited, the text of the last frame that was
-- served among it, so none was served behind it.
pub record LastFails (old : Stand) (faults : ℕ) (served : List Exchange) (last : Offer) : Type 0 where
  pub earlier : List ℕ
  pub offered : List ℕ
  pub parts : earlier ++ offered ≡ old.pending ++ texts_of old.features served
  pub held : Appends old.held last.held_before earlier
  pub count : last.count ≡ length offered
  pub faults_before : last.faults_before ≡ faults
  pub waited : AnswersWaited old.pending old.features served (length earlier)

-- what wasn't served begins with a whole frame
abbrev pub BeginsWithFrame : List ℕ → Type 0
BeginsWithFrame rest = IsFrame (first_frame rest)

-- why serving stopped: want of memory for a frame, a fault of writing, a Quit, or what stands at the place `at`
abbrev pub HasStopped : End → List ℕ → List ℕ → ℕ → Type 0 → Type 0
HasStopped ends.BadWords rest kept at rose = ⊥
HasStopped ends.NoMemory rest kept at rose = BeginsWithFrame rest
HasStopped (ends.BadMagic place) rest kept at rose = HasBadMagic rest × (rest ≡ kept) × (place ≡ at)
HasStopped (ends.TooLong place) rest kept at rose = IsTooLong rest × (rest ≡ kept) × (place ≡ at)
HasStopped (ends.Torn place) rest kept at rose = ⊥
HasStopped ends.Limit rest kept at rose = ⊥
HasStopped ends.ReadFault rest kept at rose = ⊥
HasStopped ends.WriteFault rest kept at rose = rose
HasStopped ends.Quit rest kept at rose = Unit {0}
HasStopped ends.Closed rest kept at rose = ⊥

-- the end of a session that served a Quit
abbrev pub is_quit_end : End → Bool
is_quit_end ends.BadWords = false
is_quit_end ends.NoMemory = false
is_quit_end (ends.BadMagic at) = false
is_quit_end (ends.TooLong at) = false
is_quit_end (ends.Torn at) = false
is_quit_end ends.Limit = false
is_quit_end ends.ReadFault = false
is_quit_end ends.WriteFault = false
is_quit_end ends.Quit = true
is_quit_end ends.Closed = false

-- Serving stopped behind the last frame that was answered. After want of memory the clock may have been asked for
-- one frame more, and after a fault of writing some of the pending answers are lost.
pub record Breaks (end : End) (old new : Stand) (at : ℕ) (old_faults new_faults : ℕ) (last : Offer) : Type 0 where
  pub rest : List ℕ
  pub pending : List ℕ
  pub moment : ℕ → Option ℕ
  pub serves : Advances old (record { rest = rest; history = new.history; pending = pending; held = new.held; moment = moment; features = new.features; quit = is_quit_end end })
  pub kept : end ≢ ends.WriteFault → pending ≡ new.pending
  pub extra : ℕ
  pub few : extra ≤ 1
  pub exact : end ≢ ends.NoMemory → extra ≡ 0
  pub cut_off : extra ≢ 0 → BeginsWithFrame rest
  pub asked : (k : ℕ) → new.moment k ≡ moment (extra + k)
  pub why : HasStopped end rest new.rest at (RoseByOne old_faults new_faults)
  pub quiet : end ≢ ends.WriteFault → new_faults ≡ old_faults
  pub fails : end ≡ ends.WriteFault → LastFails old old_faults serves.served last
  pub due : end ≡ ends.WriteFault → last.count ≤ most_pending → IsPartial rest
  pub short : end ≡ ends.NoMemory → (extra ≡ 1) × (length new.pending ≤ most_pending)
