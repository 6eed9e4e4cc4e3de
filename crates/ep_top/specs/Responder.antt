-- What answers frames: the plain map and the history agree, and the buffer has its room.
use Rattle.std.specs.Prelude.{◌≡◌, ℕ, ◌+◌, Bool, List, [], ◌∷◌, ◌++◌, length, true, false, Option, Some, IfSome}
use Rattle.ep_model.specs.declared.call.Reply.{Reply}
use Rattle.ep_model.specs.declared.data.EventData.{EventData}
use Rattle.ep_model.specs.declared.data.EventData.TheVariants.{Opened}
use Rattle.ep_model.specs.declared.data.FrontData.{FrontData}
use Rattle.ep_model.specs.declared.config.Config.{Config}
use Rattle.ep_model.specs.declared.config.Eviction.TheVariants.{Value}
use Rattle.ep_model.specs.Front.{empty_start, world_of}
use Rattle.ep_model.specs.Legal.{IsLegal}
use Rattle.vb_world.specs.History.{events_of, under}
use Rattle.mcbp_frame.specs.declared.frame.FrameData.{FrameData}
use Rattle.ep_top.specs.declared.responder.Responder.{Responder}
use Rattle.ep_top.specs.declared.responder.Served.{Served}
use Rattle.ep_top.specs.declared.responder.Served.TheVariants as serveds
use Rattle.conn_core.specs.Conns.{out_room}
use Rattle.conn_core.specs.Acts.{features_after}
use Rattle.conn_core.specs.Exchange.{is_quit}
use Rattle.ep_top.specs.Exchange.{act_in, event_in, text_in}

-- One vBucket of one stripe, in which a document may take as many blocks as the plain map lets it.
abbrev pub session_config : Config
session_config = record { vbuckets = 1; stripes = 1; blocks = 16777216; ckpt_blocks = 16777216; ckpt_max = 1; eviction = Value; early = false }

-- the history of vBucket 0 that has these events and began with nothing stored
abbrev pub session_front : List EventData → FrontData
session_front events = record { config = session_config; id = 0; start = Some empty_start; events = events }

-- all is of vBucket 0, and legal
pub record IsLegalHistory (pairs : List (ℕ × EventData)) : Type 0 where
  pub only : pairs ≡ under 0 (events_of 0 pairs)
  pub legal : IsLegal (session_front (events_of 0 pairs))

-- the plain map is in the world that the history leaves, which is legal, and no room was lost
pub record ResponderIsSound (f : Responder) : Type 0 where
  pub world : f.plain ≡ world_of (session_front (events_of 0 f.history))
  pub legal : IsLegalHistory f.history
  pub opened : f.plain.opened ≡ true
  pub answers : f.conn.out.spare + length f.conn.out.bytes ≡ out_room

-- it has opened, and nothing else
pub record ResponderIsFresh (f : Responder) : Type 0 where
  pub history : f.history ≡ (0, Opened) ∷ []
  pub answers : f.conn.out.bytes ≡ []
  pub features : f.conn.features.seqno ≡ false

-- one frame was answered at the moment that the clock gave; `quit` says that it was a Quit
pub record Responds (frame : FrameData) (before next : ℕ → Option ℕ) (quit : Bool) (old new : Responder) : Type 0 where
  pub now : ℕ
  pub reply : Reply
  pub value : List ℕ
  pub told : IfSome (before 0) (λ m. now ≡ m)
  pub asked : (k : ℕ) → next k ≡ before (1 + k)
  pub noted : new.history ≡ old.history ++ event_in frame now reply value
  pub text : new.conn.out.bytes ≡ old.conn.out.bytes ++ text_in old.conn.features frame reply value
  pub features : new.conn.features ≡ features_after old.conn.features frame
  pub quits : is_quit (act_in frame) ≡ quit

-- whether a Quit was served
abbrev pub is_quit_served : Served → Bool
is_quit_served serveds.GoesOn = false
is_quit_served serveds.Quits = true

-- nothing changed but which answers are pending, and their buffer keeps its room
pub record KeepsAllButAnswers (old new : Responder) : Type 0 where
  pub plain : new.plain ≡ old.plain
  pub history : new.history ≡ old.history
  pub features : new.conn.features ≡ old.conn.features
  pub room : new.conn.out.spare + length new.conn.out.bytes ≡ old.conn.out.spare + length old.conn.out.bytes
