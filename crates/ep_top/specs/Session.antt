-- What a session does: the bytes it takes, the frames it serves, the history, what it writes, and how it ends.
use Rattle.std.specs.Prelude.{◌≡◌, ◌≢◌, ◌⊎◌, ℕ, ◌+◌, ◌<◌, ◌≤◌, Bool, true, false, List, [], ◌∷◌, ◌++◌, length, Option, codes}
use Rattle.std.specs.List.{flat_map}
use Rattle.ep_model.specs.Legal.{IsLegal}
use Rattle.ep_model.specs.declared.data.EventData.{EventData}
use Rattle.ep_model.specs.declared.data.EventData.TheVariants.{Opened}
use Rattle.ep_model.specs.Counts.{RoseByOne}
use Rattle.ep_edge.specs.Edge.{TakesBytes, IsEmptied, Appends, Offer, offer}
use Rattle.mcbp_frame.specs.Division.{Divides, HasBadMagic, IsTooLong, IsPartial}
use Rattle.mcbp_frame.specs.declared.feeder.FeederData.{FeederData}
use Rattle.mcbp_frame.specs.Stream.{HasCut}
use Rattle.conn_core.specs.declared.hello.Features.{Features}
use Rattle.vb_world.specs.History.{under}
use Rattle.ep_top.specs.declared.end.End.{End}
use Rattle.ep_top.specs.declared.end.End.TheVariants as ends
use Rattle.ep_top.specs.declared.responder.Responder.{Responder}
use Rattle.conn_core.specs.Exchange.{Exchange, AreMoments}
use Rattle.ep_top.specs.Exchange.{session_event, texts_of, StopsAtQuit}
use Rattle.ep_top.specs.Responder.{session_front, IsLegalHistory, ResponderIsSound}
use Rattle.ep_top.specs.Outside.{Outside}
use Rattle.ep_top.specs.Stand.{most_pending, Stand, stand, bytes_of, Advances, WritesWaiting, LastFails, BeginsWithFrame, is_quit_end}

-- how many bytes a session takes at most
abbrev pub most_taken : ℕ
most_taken = 1099511627776

-- the features as a connection begins
abbrev pub no_features : Features
no_features = record { seqno = false }

-- the source answered its end after fewer bytes than a session takes, and nothing was left
pub record HasEnded (now : Outside) (taken : List ℕ) : Type 0 where
  pub ended : now.has_ended ≡ true
  pub emptied : IsEmptied now.left
  pub under : length taken < most_taken

-- the rest may become a frame, and the source hasn't ended since
pub record MayGoOn (before now : Outside) (rest : List ℕ) : Type 0 where
  pub partial : IsPartial rest
  pub going : now.has_ended ≡ before.has_ended

-- the end is one that may come between a frame and its answer, so that later frames weren't served
abbrev pub is_cut : End → Bool
is_cut ends.BadWords = false
is_cut ends.NoMemory = true
is_cut (ends.BadMagic at) = false
is_cut (ends.TooLong at) = false
is_cut (ends.Torn at) = false
is_cut ends.Limit = false
is_cut ends.ReadFault = false
is_cut ends.WriteFault = true
is_cut ends.Quit = false
is_cut ends.Closed = false

-- When each end comes, by the bytes taken, by what of them is no frame, and by whether a Quit was served. One end
-- excludes the others, but that want of memory may come at any frame, and that a fault of writing comes in place of another.
abbrev pub EndIsDue : Outside → Outside → List ℕ → List ℕ → Bool → End → Type 0
EndIsDue before now taken rest quit ends.BadWords = (taken ≡ []) × (quit ≡ false)
EndIsDue before now taken rest quit ends.NoMemory = quit ≡ false
EndIsDue before now taken rest quit (ends.BadMagic at) = HasBadMagic rest × (at + length rest ≡ length taken) × (quit ≡ false)
EndIsDue before now taken rest quit (ends.TooLong at) = IsTooLong rest × (at + length rest ≡ length taken) × (quit ≡ false)
EndIsDue before now taken rest quit (ends.Torn at) = HasEnded now taken × IsPartial rest × (rest ≢ []) × (at + length rest ≡ length taken) × (quit ≡ false)
EndIsDue before now taken rest quit ends.Limit = MayGoOn before now rest × (length taken ≡ most_taken) × (quit ≡ false)
EndIsDue before now taken rest quit ends.ReadFault = MayGoOn before now rest × (length taken < most_taken) × RoseByOne before.read_faults now.read_faults × (quit ≡ false)
EndIsDue before now taken rest quit ends.WriteFault = RoseByOne before.write_faults now.write_faults
EndIsDue before now taken rest quit ends.Quit = quit ≡ true
EndIsDue before now taken rest quit ends.Closed = HasEnded now taken × (rest ≡ []) × (quit ≡ false)

-- The history: vBucket 0 opens, and then each frame that is a call has its one event. Before that there is none.
abbrev pub IsNoted : End → List (ℕ × EventData) → List Exchange → Type 0
IsNoted ends.BadWords history served = (history ≡ []) × (served ≡ [])
IsNoted ends.NoMemory history served = ((history ≡ []) × (served ≡ [])) ⊎ (history ≡ (0, Opened) ∷ flat_map session_event served)
IsNoted (ends.BadMagic at) history served = history ≡ (0, Opened) ∷ flat_map session_event served
IsNoted (ends.TooLong at) history served = history ≡ (0, Opened) ∷ flat_map session_event served
IsNoted (ends.Torn at) history served = history ≡ (0, Opened) ∷ flat_map session_event served
IsNoted ends.Limit history served = history ≡ (0, Opened) ∷ flat_map session_event served
IsNoted ends.ReadFault history served = history ≡ (0, Opened) ∷ flat_map session_event served
IsNoted ends.WriteFault history served = history ≡ (0, Opened) ∷ flat_map session_event served
IsNoted ends.Quit history served = history ≡ (0, Opened) ∷ flat_map session_event served
IsNoted ends.Closed history served = history ≡ (0, Opened) ∷ flat_map session_event served

-- the ends of a session that didn't open
abbrev pub EndsUnopened : End → Type 0
EndsUnopened ends.BadWords = Unit {0}
EndsUnopened ends.NoMemory = Unit {0}
EndsUnopened (ends.BadMagic at) = ⊥
EndsUnopened (ends.TooLong at) = ⊥
EndsUnopened (ends.Torn at) = ⊥
EndsUnopened ends.Limit = ⊥
EndsUnopened ends.ReadFault = ⊥
EndsUnopened ends.WriteFault = ⊥
EndsUnopened ends.Quit = ⊥
EndsUnopened ends.Closed = ⊥

-- no byte was taken, and nothing was read
pub record IsUnread (before now : Outside) (taken : List ℕ) : Type 0 where
  pub none : taken ≡ []
  pub left_before : now.left_before ≡ before.left_before
  pub ended_before : now.ended_before ≡ before.ended_before

-- Before the last read began, all whole frames of what was taken by then were served and their answers were
-- written, and no end was known: the source hadn't ended since the session began, no Quit was served, and the rest
-- may become a frame.
pub record LastRead (before now : Outside) (taken : List ℕ) (served : List Exchange) (written : List ℕ) : Type 0 where
  pub earlier : List ℕ
  pub last : List ℕ
  pub parts : taken ≡ earlier ++ last
  pub takes : TakesBytes before.left now.left_before earlier
  pub under : length earlier < most_taken
  pub going : now.ended_before ≡ before.has_ended
  pub first : List Exchange
  pub later : List Exchange
  pub rest : List ℕ
  pub more : List ℕ
  pub order : served ≡ first ++ later
  pub cut : HasCut earlier (bytes_of first) rest
  pub partial : IsPartial rest
  pub quits : StopsAtQuit false first false
  pub texts : written ≡ texts_of no_features first ++ more

abbrev pub ReadsInTurn : Outside → Outside → List ℕ → List Exchange → List ℕ → Type 0
ReadsInTurn before now taken served written = IsUnread before now taken ⊎ LastRead before now taken served written

-- a session that has taken these bytes and served none of them
abbrev pub begin : Outside → List ℕ → Stand
begin before taken = record { rest = taken; history = (0, Opened) ∷ []; pending = []; held = before.held; moment = before.moment; features = no_features; quit = false }

pub record IsSession (before now : Outside) (end : End) (history : List (ℕ × EventData)) : Type 0 where
  -- the bytes taken from the source, their one division, and what was served and written
  pub taken : List ℕ
  pub frames : List (List ℕ)
  pub rest : List ℕ
  pub served : List Exchange
  pub unserved : List (List ℕ)
  pub written : List ℕ
  pub lost : List ℕ
  pub takes : TakesBytes before.left now.left taken
  pub divided : Divides taken frames rest
  -- the frames were served in order up to the first Quit, all of them unless the end came between
  pub in_order : frames ≡ bytes_of served ++ unserved
  pub quit : Bool
  pub stops_at_quit : StopsAtQuit false served quit
  pub all : is_cut end ≡ false → quit ≡ false → unserved ≡ []
  -- the clock was asked once for each, and once more at most for a frame whose answer the end cut off
  pub moments : AreMoments before.moment 0 served
  pub extra : ℕ
  pub few : extra ≤ 1
  pub exact : is_cut end ≡ false → extra ≡ 0
  pub cut_off : extra ≢ 0 → unserved ≢ []
  pub asked : (k : ℕ) → now.moment k ≡ before.moment (length served + (extra + k))
  -- behind a Quit it is asked no more, whichever way that ends
  pub behind_quit : quit ≡ true → extra ≡ 0
  -- memory was wanting before the session opened, or for a frame that isn't served; a session that didn't open did nothing
  pub wanting : end ≡ ends.NoMemory → (history ≡ []) ⊎ (unserved ≢ [])
  pub unopened : history ≡ [] → (taken ≡ []) × (extra ≡ 0)
  -- one legal history of vBucket 0 has each call once, in order, with the never-ejecting map's reply, and nothing else
  -- stands beside it
  pub events : List EventData
  pub only : history ≡ under 0 events
  pub noted : IsNoted end history served
  pub legal : IsLegal (session_front events)
  -- what was written is the text of the answers, or after a fault of writing a first part of it
  pub wrote : Appends before.held now.held written
  pub texts : written ++ lost ≡ texts_of no_features served
  pub whole : end ≢ ends.WriteFault → lost ≡ []
  pub comes : EndIsDue before now taken rest quit end
  -- Nothing was done behind a fault of writing: the last write alone failed, and was to write the rest of these texts.
  -- It was made as soon as more waited than may, so that the clock was asked for no frame more, or else where no whole
  -- frame was left, a Quit was served, or memory was wanting for a frame for which the clock was asked.
  pub fails : end ≡ ends.WriteFault → LastFails (begin before taken) before.write_faults served now.last_offer
  pub due : end ≡ ends.WriteFault → now.last_offer.count ≤ most_pending → quit ≡ false → extra ≡ 0 → unserved ≡ []
  pub at_once : end ≡ ends.WriteFault → most_pending < now.last_offer.count → extra ≡ 0
  -- each piece was served and answered before the next one was read, and no fault was passed over
  pub reads : ReadsInTurn before now taken served written
  pub reading : end ≢ ends.ReadFault → now.read_faults ≡ before.read_faults
  pub writing : end ≢ ends.WriteFault → now.write_faults ≡ before.write_faults

-- the command line is the one word `session`
abbrev pub IsSessionCommand : List (List ℕ) → Type 0
IsSessionCommand words = words ≡ codes "session" ∷ []

-- so many bytes were taken, and each whole frame among them was answered
pub record Progress (before now : Outside) (count : ℕ) (rest : List ℕ) (responder : Responder) : Type 0 where
  pub taken : List ℕ
  pub counted : length taken ≡ count
  pub takes : TakesBytes before.left now.left taken
  pub serves : Advances (begin before taken) (stand rest responder now.held now.moment false)
  pub sound : ResponderIsSound responder
  pub partial : IsPartial rest
  pub written : responder.conn.out.bytes ≡ []
  pub going : now.has_ended ≡ before.has_ended
  pub reads : ReadsInTurn before now taken serves.served serves.written
  pub read_faults : now.read_faults ≡ before.read_faults
  pub write_faults : now.write_faults ≡ before.write_faults

-- the end at the end of input: nothing is left over, or a frame that isn't whole
abbrev pub EndsAt : FeederData → End → Type 0
EndsAt held ends.BadWords = ⊥
EndsAt held ends.NoMemory = ⊥
EndsAt held (ends.BadMagic at) = ⊥
EndsAt held (ends.TooLong at) = ⊥
EndsAt held (ends.Torn at) = (held.rest ≢ []) × (at ≡ held.at)
EndsAt held ends.Limit = ⊥
EndsAt held ends.ReadFault = ⊥
EndsAt held ends.WriteFault = ⊥
EndsAt held ends.Quit = ⊥
EndsAt held ends.Closed = held.rest ≡ []

-- a session stops so, with answers that aren't written yet
pub record Stops (before now : Outside) (end : End) (responder : Responder) : Type 0 where
  pub taken : List ℕ
  pub rest : List ℕ
  pub pending : List ℕ
  pub moment : ℕ → Option ℕ
  pub takes : TakesBytes before.left now.left taken
  pub serves : Advances (begin before taken) (record { rest = rest; history = responder.history; pending = pending; held = now.held; moment = moment; features = responder.conn.features; quit = is_quit_end end })
  pub kept : end ≢ ends.WriteFault → pending ≡ responder.conn.out.bytes
  pub extra : ℕ
  pub few : extra ≤ 1
  pub exact : end ≢ ends.NoMemory → extra ≡ 0
  pub cut_off : extra ≢ 0 → BeginsWithFrame rest
  pub wanting : end ≡ ends.NoMemory → BeginsWithFrame rest
  pub asked : (k : ℕ) → now.moment k ≡ moment (extra + k)
  pub legal : IsLegalHistory responder.history
  pub comes : EndIsDue before now taken rest (is_quit_end end) end
  pub served : end ≢ ends.BadWords
  pub reads : ReadsInTurn before now taken serves.served serves.written
  pub reading : end ≢ ends.ReadFault → now.read_faults ≡ before.read_faults
  pub writing : end ≢ ends.WriteFault → now.write_faults ≡ before.write_faults
  pub flushed : end ≡ ends.ReadFault → responder.conn.out.bytes ≡ []
  pub fails : end ≡ ends.WriteFault → LastFails (begin before taken) before.write_faults serves.served now.last_offer
  pub due : end ≡ ends.WriteFault → now.last_offer.count ≤ most_pending → IsPartial rest
  pub short : end ≡ ends.NoMemory → (extra ≡ 1) × (length responder.conn.out.bytes ≤ most_pending)

-- the answers that were pending as a session stopped were written
pub record Written (end final : End) (pending : List ℕ) (old new : Option (List ℕ)) (old_faults new_faults : ℕ) : Type 0 where
  pub same : final ≡ end
  pub able : end ≢ ends.WriteFault
  pub writes : WritesWaiting pending [] old new
  pub quiet : new_faults ≡ old_faults

-- some of them are lost by a fault of writing, which is then the end
pub record Lost (end final : End) (pending : List ℕ) (old new : Option (List ℕ)) (old_faults new_faults : ℕ) (last : Offer) : Type 0 where
  pub able : end ≢ ends.WriteFault
  pub some : pending ≢ []
  pub fault : final ≡ ends.WriteFault
  pub lost : List ℕ
  pub writes : WritesWaiting pending lost old new
  pub why : RoseByOne old_faults new_faults
  pub offered : last ≡ offer old old_faults (length pending)

-- nothing more was written after a fault of writing
pub record Broken (end final : End) (old new : Option (List ℕ)) (old_faults new_faults : ℕ) (old_last new_last : Offer) : Type 0 where
  pub before : end ≡ ends.WriteFault
  pub fault : final ≡ ends.WriteFault
  pub same : new ≡ old
  pub quiet : new_faults ≡ old_faults
  pub same_offer : new_last ≡ old_last

abbrev pub Finishes : End → End → List ℕ → Option (List ℕ) → Option (List ℕ) → ℕ → ℕ → Offer → Offer → Type 0
Finishes end final pending old new old_faults new_faults old_last new_last = Written end final pending old new old_faults new_faults ⊎ (Lost end final pending old new old_faults new_faults new_last ⊎ Broken end final old new old_faults new_faults old_last new_last)
