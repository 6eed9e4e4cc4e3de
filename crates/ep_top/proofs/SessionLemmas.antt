-- A session goes on piece by piece, and how it stops.
use Rattle.std.proofs.Common.{◌≡◌, ◌≢◌, ℕ, ◌+◌, ◌<◌, Bool, true, false, ◌||◌, List, [], ◌∷◌, ◌++◌, length, refl, sym, ap, subst, ◌∙◌, inl, inr, Option, None, Some, arith, append_assoc, append-nil, zero-add, length-append}
use Rattle.ep_model.specs.Counts.{RoseByOne}
use Rattle.ep_edge.specs.Edge.{TakesBytes, Appends, IsEmptied}
use Rattle.ep_edge.specs.declared.source.Got.{Got}
use Rattle.ep_edge.specs.declared.source.Got.TheVariants as got
use Rattle.mcbp_frame.specs.declared.feeder.FeederData.{FeederData}
use Rattle.mcbp_frame.specs.Division.{IsPartial}
use Rattle.conn_core.specs.declared.hello.Features.{Features}
use Rattle.ep_top.specs.declared.end.End.{End}
use Rattle.ep_top.specs.declared.end.End.TheVariants as ends
use Rattle.ep_top.specs.declared.responder.Responder.{Responder}
use Rattle.ep_top.specs.Responder.{IsLegalHistory, ResponderIsSound, ResponderIsFresh}
use Rattle.conn_core.specs.Exchange.{Exchange}
use Rattle.ep_top.specs.Exchange.{StopsAtQuit}
use Rattle.ep_top.specs.Outside.{Outside, BeganAt}
use Rattle.mcbp_frame.specs.Piece.{Feeds}
use Rattle.mcbp_frame.specs.Stream.{HasCut}
use Rattle.mcbp_frame.proofs.StreamLemmas.{stream_divides}
use Rattle.ep_top.specs.Stand.{stand, bytes_of, Advances, Breaks, BeginsWithFrame, HasStopped, is_quit_end}
use Rattle.ep_top.specs.Session.{most_taken, HasEnded, EndIsDue, begin, ReadsInTurn, LastRead, Progress, Stops, EndsAt}
use Rattle.ep_top.proofs.StandLemmas.{serves_then, serves_then-served, serves_then-written, fails_then, rose_from, appends_nothing}

pub or_false : (b : Bool) → (b || false) ≡ b
or_false true = refl
or_false false = refl

pub or_true : (b : Bool) → (b || true) ≡ true
or_true true = refl
or_true false = refl

pub takes_then : (a b c : Option (List ℕ)) (x y : List ℕ) → TakesBytes a b x → TakesBytes b c y → TakesBytes a c (x ++ y)
takes_then None b c x y p q = subst (λ (o : Option (List ℕ)). TakesBytes o c y) p q
takes_then (Some l) b c x y (rest, e, is) q =
    let later = subst (λ (o : Option (List ℕ)). TakesBytes o c y) is q in
    (later.0, e ∙ ap (λ t. x ++ t) later.1 ∙ sym (append_assoc x y later.0), later.2)

pub takes_nothing : (a : Option (List ℕ)) → TakesBytes a a []
takes_nothing None = refl
takes_nothing (Some l) = (l, refl, refl)

no_bytes : (l : List ℕ) → length l ≡ 0 → l ≡ []
no_bytes [] e = refl
no_bytes (x ∷ l) e = absurd (omega arith)

-- a session that was at the end of all whole frames got a piece, which is `fed` with what it held
abbrev serves_piece : (before mid now : Outside) (count : ℕ) (got : Got) (rest fed : List ℕ) (responder : Responder) (p : Progress before mid count rest responder) (f : Feeds got rest fed mid.left now.left)
    → Advances (begin before (p.taken ++ f.piece)) (stand fed responder mid.held mid.moment false)
serves_piece before mid now count got rest fed responder p f = record {
  served = p.serves.served;
  written = p.serves.written;
  cut = subst (λ (l : List ℕ). HasCut (p.taken ++ f.piece) (bytes_of p.serves.served) l) (sym f.fed) (stream_divides.fed p.taken f.piece (bytes_of p.serves.served) rest p.serves.cut);
  noted = p.serves.noted;
  texts = p.serves.texts;
  waited = p.serves.waited;
  features = p.serves.features;
  quits = p.serves.quits;
  wrote = p.serves.wrote;
  moments = p.serves.moments;
  asked = p.serves.asked;
}

-- as the last read began, all that was taken by then was served and answered
last_read : (before mid now : Outside) (count : ℕ) (rest : List ℕ) (responder : Responder) (p : Progress before mid count rest responder) (taken piece : List ℕ) (served later : List Exchange) (written more : List ℕ)
    → taken ≡ p.taken ++ piece → served ≡ p.serves.served ++ later → written ≡ p.serves.written ++ more → BeganAt mid now → count < most_taken
    → LastRead before now taken served written
last_read before mid now count rest responder p taken piece served later written more parts order wrote began under = record {
  earlier = p.taken;
  last = piece;
  parts = parts;
  takes = subst (λ (o : Option (List ℕ)). TakesBytes before.left o p.taken) (sym began.left) p.takes;
  under = omega (arith, p.counted);
  going = began.ended ∙ p.going;
  first = p.serves.served;
  later = later;
  rest = rest;
  more = more;
  order = order;
  cut = p.serves.cut;
  partial = p.partial;
  quits = p.serves.quits;
  texts = wrote ∙ ap (λ l. l ++ more) (sym (append-nil p.serves.written) ∙ ap (λ l. p.serves.written ++ l) (sym p.written) ∙ p.serves.texts);
}

pub progress_more : (before mid now : Outside) (count n : ℕ) (rest fed rest' : List ℕ) (responder responder' : Responder)
    → Progress before mid count rest responder → Feeds (got.Bytes n) rest fed mid.left now.left
    → Advances (stand fed responder mid.held mid.moment false) (stand rest' responder' now.held now.moment false)
    → ResponderIsSound responder' → IsPartial rest' → responder'.conn.out.bytes ≡ [] → now.has_ended ≡ mid.has_ended → now.read_faults ≡ mid.read_faults → now.write_faults ≡ mid.write_faults → BeganAt mid now → count < most_taken
    → Progress before now (count + n) rest' responder'
progress_more before mid now count n rest fed rest' responder responder' p f s sound partial written going read write left under = record {
  taken = p.taken ++ f.piece;
  counted = omega (arith, length-append p.taken f.piece, p.counted, f.count);
  takes = takes_then _ _ _ _ _ p.takes f.takes;
  serves = serves_then _ _ _ (serves_piece before mid now count (got.Bytes n) rest fed responder p f) s;
  sound = sound;
  partial = partial;
  written = written;
  going = going ∙ p.going;
  reads = inr (last_read before mid now count rest responder p _ f.piece _ s.served _ s.written refl (serves_then-served _ _ _ _ s) (serves_then-written _ _ _ _ s) left under);
  read_faults = read ∙ p.read_faults;
  write_faults = write ∙ p.write_faults;
}

-- why serving stopped is how the session ends
comes_from : (end : End) (before now : Outside) (taken rest kept : List ℕ) (at : ℕ) (rose : Type 0) → (rose → RoseByOne before.write_faults now.write_faults) → at + length kept ≡ length taken
    → HasStopped end rest kept at rose → EndIsDue before now taken rest (is_quit_end end) end
comes_from ends.BadWords before now taken rest kept at rose f place h = absurd h
comes_from ends.NoMemory before now taken rest kept at rose f place h = refl
comes_from (ends.BadMagic t) before now taken rest kept at rose f place h = (h.0, omega (arith, ap (λ (l : List ℕ). length l) h.1, h.2), refl)
comes_from (ends.TooLong t) before now taken rest kept at rose f place h = (h.0, omega (arith, ap (λ (l : List ℕ). length l) h.1, h.2), refl)
comes_from (ends.Torn t) before now taken rest kept at rose f place h = absurd h
comes_from ends.Limit before now taken rest kept at rose f place h = absurd h
comes_from ends.ReadFault before now taken rest kept at rose f place h = absurd h
comes_from ends.WriteFault before now taken rest kept at rose f place h = f h
comes_from ends.Quit before now taken rest kept at rose f place h = refl
comes_from ends.Closed before now taken rest kept at rose f place h = absurd h

not_bad_words : (end : End) (rest kept : List ℕ) (at : ℕ) (rose : Type 0) → HasStopped end rest kept at rose → end ≢ ends.BadWords
not_bad_words end rest kept at rose h e = subst (λ (x : End). HasStopped x rest kept at rose) e h

-- memory was wanting for a frame
wants_frame : (end : End) (rest kept : List ℕ) (at : ℕ) (rose : Type 0) → HasStopped end rest kept at rose → end ≡ ends.NoMemory → BeginsWithFrame rest
wants_frame end rest kept at rose h e = subst (λ (x : End). HasStopped x rest kept at rose) e h

not_read_fault : (end : End) (rest kept : List ℕ) (at : ℕ) (rose : Type 0) → HasStopped end rest kept at rose → end ≢ ends.ReadFault
not_read_fault end rest kept at rose h e = subst (λ (x : End). HasStopped x rest kept at rose) e h

pub stops_in_frames : (end : End) (before mid now : Outside) (count n at : ℕ) (rest fed rest' : List ℕ) (responder responder' : Responder)
    → Progress before mid count rest responder → Feeds (got.Bytes n) rest fed mid.left now.left
    → Breaks end (stand fed responder mid.held mid.moment false) (stand rest' responder' now.held now.moment false) at mid.write_faults now.write_faults now.last_offer
    → IsLegalHistory responder'.history → at + length rest' ≡ count + n → BeganAt mid now → count < most_taken → now.read_faults ≡ mid.read_faults
    → Stops before now end responder'
stops_in_frames end before mid now count n at rest fed rest' responder responder' p f b legal place left under read =
    let long : length (p.taken ++ f.piece) ≡ count + n = omega (arith, length-append p.taken f.piece, p.counted, f.count) in
    record {
      taken = p.taken ++ f.piece;
      rest = b.rest;
      pending = b.pending;
      moment = b.moment;
      takes = takes_then _ _ _ _ _ p.takes f.takes;
      serves = serves_then _ _ _ (serves_piece before mid now count (got.Bytes n) rest fed responder p f) b.serves;
      kept = b.kept;
      extra = b.extra;
      few = b.few;
      exact = b.exact;
      cut_off = b.cut_off;
      wanting = wants_frame end b.rest rest' at _ b.why;
      asked = b.asked;
      legal = legal;
      comes = comes_from end before now _ b.rest rest' at _ (rose_from _ _ _ p.write_faults) (place ∙ sym long) b.why;
      served = not_bad_words end b.rest rest' at _ b.why;
      reads = inr (last_read before mid now count rest responder p _ f.piece _ b.serves.served _ b.serves.written refl (serves_then-served _ _ _ _ b.serves) (serves_then-written _ _ _ _ b.serves) left under);
      reading = λ _. read ∙ p.read_faults;
      writing = λ able. b.quiet able ∙ p.write_faults;
      flushed = λ is. absurd (not_read_fault end b.rest rest' at _ b.why is);
      fails = λ is. fails_then _ _ _ (serves_piece before mid now count (got.Bytes n) rest fed responder p f) b.serves before.write_faults mid.write_faults now.last_offer p.write_faults (b.fails is);
      due = b.due;
      short = b.short;
    }

-- a session stops where all whole frames were answered, and nothing more was taken
stops_here : (end : End) (before mid now : Outside) (count : ℕ) (rest : List ℕ) (responder : Responder) (p : Progress before mid count rest responder)
    → TakesBytes before.left now.left p.taken → now.held ≡ mid.held → ((k : ℕ) → now.moment k ≡ mid.moment k) → end ≢ ends.BadWords → end ≢ ends.NoMemory → end ≢ ends.WriteFault → is_quit_end end ≡ false → EndIsDue before now p.taken rest (is_quit_end end) end
    → ReadsInTurn before now p.taken p.serves.served p.serves.written → (end ≢ ends.ReadFault → now.read_faults ≡ before.read_faults) → now.write_faults ≡ mid.write_faults
    → Stops before now end responder
stops_here end before mid now count rest responder p takes held moment served enough able none comes reads reading write = record {
  taken = p.taken;
  rest = rest;
  pending = responder.conn.out.bytes;
  moment = mid.moment;
  takes = takes;
  serves = record {
    served = p.serves.served;
    written = p.serves.written;
    cut = p.serves.cut;
    noted = p.serves.noted;
    texts = p.serves.texts;
    waited = p.serves.waited;
    features = p.serves.features;
    quits = subst (λ (q : Bool). StopsAtQuit false p.serves.served q) (sym none) p.serves.quits;
    wrote = subst (λ (h : Option (List ℕ)). Appends before.held h p.serves.written) (sym held) p.serves.wrote;
    moments = p.serves.moments;
    asked = p.serves.asked;
  };
  kept = λ _. refl;
  extra = 0;
  few = omega arith;
  exact = λ _. refl;
  cut_off = λ some. absurd (some refl);
  wanting = λ is. absurd (enough is);
  asked = λ k. moment k ∙ ap mid.moment (sym (zero-add k));
  legal = p.sound.legal;
  comes = comes;
  served = served;
  reads = reads;
  reading = reading;
  writing = λ _. write ∙ p.write_faults;
  flushed = λ _. p.written;
  fails = λ is. absurd (able is);
  due = λ is. absurd (able is);
  short = λ is. absurd (enough is);
}

-- the last read gave no byte
read_nothing : (before mid now : Outside) (count : ℕ) (rest : List ℕ) (responder : Responder) (p : Progress before mid count rest responder) → BeganAt mid now → count < most_taken
    → ReadsInTurn before now p.taken p.serves.served p.serves.written
read_nothing before mid now count rest responder p left under =
    inr (last_read before mid now count rest responder p _ [] _ [] _ [] (sym (append-nil p.taken)) (sym (append-nil p.serves.served)) (sym (append-nil p.serves.written)) left under)

-- nothing was taken by a call that gave no byte
takes_on : (a b c : Option (List ℕ)) (x y : List ℕ) → TakesBytes a b x → TakesBytes b c y → length y ≡ 0 → TakesBytes a c x
takes_on a b c x y p q e = subst (λ (l : List ℕ). TakesBytes a c l) (ap (λ l. x ++ l) (no_bytes y e) ∙ append-nil x) (takes_then a b c x y p q)

pub stops_at_limit : (before now : Outside) (count : ℕ) (rest : List ℕ) (responder : Responder) → Progress before now count rest responder → count ≡ most_taken → Stops before now ends.Limit responder
stops_at_limit before now count rest responder p full =
    stops_here ends.Limit before now now count rest responder p p.takes refl (λ _. refl) (λ e. cc) (λ e. cc) (λ e. cc) refl (record { partial = p.partial; going = p.going }, p.counted ∙ full, refl) p.reads (λ _. p.read_faults) refl

pub stops_at_fault : (before mid now : Outside) (count : ℕ) (rest fed : List ℕ) (responder : Responder)
    → Progress before mid count rest responder → Feeds got.Failed rest fed mid.left now.left → now.held ≡ mid.held → ((k : ℕ) → now.moment k ≡ mid.moment k)
    → now.has_ended ≡ mid.has_ended → RoseByOne mid.read_faults now.read_faults → count < most_taken → BeganAt mid now → now.write_faults ≡ mid.write_faults
    → Stops before now ends.ReadFault responder
stops_at_fault before mid now count rest fed responder p f held moment going rose under left write =
    stops_here ends.ReadFault before mid now count rest responder p (takes_on _ _ _ _ _ p.takes f.takes f.count) held moment (λ e. cc) (λ e. cc) (λ e. cc) refl (record { partial = p.partial; going = going ∙ p.going }, omega (arith, p.counted), rose_from _ _ _ p.read_faults rose, refl)
    (read_nothing before mid now count rest responder p left under) (λ not. absurd (not refl)) write

fed_nothing : (rest fed piece : List ℕ) → fed ≡ rest ++ piece → length piece ≡ 0 → fed ≡ rest
fed_nothing rest fed piece e none = e ∙ ap (λ l. rest ++ l) (no_bytes piece none) ∙ append-nil rest

ends_from : (end : End) (before now : Outside) (taken rest : List ℕ) (held : FeederData) → HasEnded now taken → IsPartial rest → held.rest ≡ rest → held.at + length rest ≡ length taken
    → EndsAt held end → EndIsDue before now taken rest (is_quit_end end) end
ends_from ends.BadWords before now taken rest held ended partial same place h = absurd h
ends_from ends.NoMemory before now taken rest held ended partial same place h = absurd h
ends_from (ends.BadMagic t) before now taken rest held ended partial same place h = absurd h
ends_from (ends.TooLong t) before now taken rest held ended partial same place h = absurd h
ends_from (ends.Torn t) before now taken rest held ended partial same place h = (ended, partial, (λ e. h.0 (same ∙ e)), omega (arith, h.1), refl)
ends_from ends.Limit before now taken rest held ended partial same place h = absurd h
ends_from ends.ReadFault before now taken rest held ended partial same place h = absurd h
ends_from ends.WriteFault before now taken rest held ended partial same place h = absurd h
ends_from ends.Quit before now taken rest held ended partial same place h = absurd h
ends_from ends.Closed before now taken rest held ended partial same place h = (ended, sym same ∙ h, refl)

-- input that ends is no Quit
no_quit : (held : FeederData) (end : End) → EndsAt held end → is_quit_end end ≡ false
no_quit held ends.BadWords h = refl
no_quit held ends.NoMemory h = refl
no_quit held (ends.BadMagic t) h = refl
no_quit held (ends.TooLong t) h = refl
no_quit held (ends.Torn t) h = refl
no_quit held ends.Limit h = refl
no_quit held ends.ReadFault h = refl
no_quit held ends.WriteFault h = refl
no_quit held ends.Quit h = absurd h
no_quit held ends.Closed h = refl

no_bad_words : (held : FeederData) (end : End) → EndsAt held end → end ≢ ends.BadWords
no_bad_words held end h e = subst (λ (x : End). EndsAt held x) e h

no_want : (held : FeederData) (end : End) → EndsAt held end → end ≢ ends.NoMemory
no_want held end h e = subst (λ (x : End). EndsAt held x) e h

no_fault : (held : FeederData) (end : End) → EndsAt held end → end ≢ ends.WriteFault
no_fault held end h e = subst (λ (x : End). EndsAt held x) e h

pub stops_at_end : (end : End) (before mid now : Outside) (count : ℕ) (rest : List ℕ) (held : FeederData) (responder : Responder)
    → Progress before mid count rest responder → Feeds got.End rest held.rest mid.left now.left → now.held ≡ mid.held → ((k : ℕ) → now.moment k ≡ mid.moment k)
    → now.has_ended ≡ true → IsEmptied now.left → count < most_taken → held.at + length rest ≡ count → EndsAt held end → BeganAt mid now → now.read_faults ≡ mid.read_faults → now.write_faults ≡ mid.write_faults
    → Stops before now end responder
stops_at_end end before mid now count rest held responder p f same moment ended emptied under place at left read write =
    stops_here end before mid now count rest responder p (takes_on _ _ _ _ _ p.takes f.takes f.count) same moment (no_bad_words held end at) (no_want held end at) (no_fault held end at) (no_quit held end at)
    (ends_from end before now p.taken rest held (record { ended = ended; emptied = emptied; under = omega (arith, p.counted) }) p.partial
    (fed_nothing rest held.rest f.piece f.fed f.count) (place ∙ sym p.counted) at)
    (read_nothing before mid now count rest responder p left under) (λ _. read ∙ p.read_faults) write

pub feeds_length : (n : ℕ) (old new : List ℕ) (left now : Option (List ℕ)) → Feeds (got.Bytes n) old new left now → length new ≡ length old + n
feeds_length n old new left now f = omega (arith, ap (λ (l : List ℕ). length l) f.fed, length-append old f.piece, f.count)

-- a session begins with nothing taken
pub progress_none : (before : Outside) (rest : List ℕ) (responder : Responder) → rest ≡ [] → ResponderIsFresh responder → ResponderIsSound responder → Progress before before 0 rest responder
progress_none before rest responder none fresh sound = record {
  taken = [];
  counted = refl;
  takes = takes_nothing before.left;
  serves = record {
    served = [];
    written = [];
    cut = subst (λ (l : List ℕ). HasCut [] [] l) (sym none) stream_divides.begun;
    noted = fresh.history;
    texts = fresh.answers;
    waited = tt;
    features = ap (λ (b : Bool). let f : Features = record { seqno = b } in f) fresh.features;
    quits = refl;
    wrote = appends_nothing before.held;
    moments = tt;
    asked = λ k. ap before.moment (sym (zero-add k));
  };
  sound = sound;
  partial = subst (λ (l : List ℕ). IsPartial l) (sym none) (record { magic = λ h. absurd (omega arith); body = λ h. absurd (omega arith); short = λ h. absurd (omega arith) });
  written = fresh.answers;
  going = refl;
  reads = inl (record { none = refl; left_before = refl; ended_before = refl });
  read_faults = refl;
  write_faults = refl;
}

-- a session that stopped has opened
pub stops_opened : (before now : Outside) (end : End) (responder : Responder) → Stops before now end responder → responder.history ≡ [] → ⊥
stops_opened before now end responder s none = let opened = s.serves.noted in cc
