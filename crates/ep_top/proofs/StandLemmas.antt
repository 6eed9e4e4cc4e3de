-- How a session goes on: what was served and written adds up.
use Rattle.std.proofs.Common.{◌≡◌, ◌≢◌, ℕ, Bool, false, ◌+◌, ◌≤◌, List, [], ◌∷◌, ◌++◌, length, drop, refl, sym, ap, subst, ◌∙◌, Option, None, Some, IfSome, arith, append_assoc, append-nil, length-append, add-zero, zero-add}
use Rattle.std.proofs.lemmas.List.{map-append, take-append-drop, length-drop, length-take}
use Rattle.std.proofs.lemmas.Grind.{flat_map-append}
use Rattle.std.specs.List.{AllByRecursion, concat, flat_map}
use Rattle.ep_model.specs.Counts.{RoseByOne, raised}
use Rattle.ep_edge.specs.Edge.{Appends, Offer, offer}
use Rattle.mcbp_frame.specs.declared.frame.Frame.{Frame}
use Rattle.mcbp_frame.specs.declared.feeder.FeederData.{FeederData}
use Rattle.mcbp_frame.specs.declared.feeder.Next.{Next}
use Rattle.mcbp_frame.specs.declared.feeder.Next.TheVariants as nexts
use Rattle.mcbp_frame.specs.Feeder.{first_frame, after_next}
use Rattle.mcbp_frame.specs.declared.frame.FrameData.{FrameData}
use Rattle.mcbp_frame.specs.Division.{HasBadMagic, IsTooLong, IsPartial}
use Rattle.conn_core.specs.declared.hello.Features.{Features}
use Rattle.conn_core.specs.Acts.{features_after}
use Rattle.mcbp_frame.specs.Frames.{IsFrame, frame_at, frame_data, frame_length}
use Rattle.mcbp_frame.proofs.DivisionLemmas.{first_whole, frame_length_front}
use Rattle.ep_top.specs.declared.end.End.{End}
use Rattle.ep_top.specs.declared.end.End.TheVariants as ends
use Rattle.ep_top.specs.declared.responder.Responder.{Responder}
use Rattle.conn_core.specs.Exchange.{Exchange, features_of, is_quit, frame_of, AreMoments}
use Rattle.ep_top.specs.Exchange.{session_event, text_of, texts_of, act_in, StopsAtQuit}
use Rattle.ep_top.specs.Responder.{Responds, KeepsAllButAnswers}
use Rattle.ep_top.specs.Stand.{most_pending, but_last, AnswersWaited, Stand, stand, bytes_of, Advances, WritesWaiting, LosesSome, LastFails, BeginsWithFrame, is_quit_end, HasStopped, Breaks}

pub appends_nothing : (held : Option (List ℕ)) → Appends held held []
appends_nothing None = refl
appends_nothing (Some h) = ap Some (sym (append-nil h))

pub appends_then : (a b c : Option (List ℕ)) (x y : List ℕ) → Appends a b x → Appends b c y → Appends a c (x ++ y)
appends_then None b c x y p q = subst (λ (o : Option (List ℕ)). Appends o c y) p q
appends_then (Some h) b c x y p q = subst (λ (o : Option (List ℕ)). Appends o c y) p q ∙ ap Some (append_assoc h x y)

pub concat-append : (xs ys : List (List ℕ)) → concat (xs ++ ys) ≡ concat xs ++ concat ys
concat-append [] ys = refl
concat-append (x ∷ xs) ys = ap (λ l. x ++ l) (concat-append xs ys) ∙ sym (append_assoc x (concat xs) (concat ys))

pub all-append : {X : Type 0} (P : X → Type 0) (xs ys : List X) → AllByRecursion P xs → AllByRecursion P ys → AllByRecursion P (xs ++ ys)
all-append P [] ys p q = q
all-append P (x ∷ xs) ys p q = (p.0, all-append P xs ys p.1 q)

moments-append : (m : ℕ → Option ℕ) (n : ℕ) (xs ys : List Exchange) → AreMoments m n xs → AreMoments m (n + length xs) ys → AreMoments m n (xs ++ ys)
moments-append m n [] ys p q = subst (λ k. AreMoments m k ys) (add-zero n) q
moments-append m n (x ∷ xs) ys p q = (p.0, moments-append m (n + 1) xs ys p.1 (let e : n + length (x ∷ xs) ≡ n + 1 + length xs = omega arith in subst (λ k. AreMoments m k ys) e q))

-- what a clock tells later is what it told before, counted on
moments-shift : (m later : ℕ → Option ℕ) (d n : ℕ) (xs : List Exchange) → ((k : ℕ) → later k ≡ m (d + k)) → AreMoments later n xs → AreMoments m (d + n) xs
moments-shift m later d n [] e p = tt
moments-shift m later d n (x ∷ xs) e p =
    (subst (λ (o : Option ℕ). IfSome o (λ t. x.now ≡ t)) (e n) p.0, (let i : d + (n + 1) ≡ d + n + 1 = omega arith in subst (λ k. AreMoments m k xs) i (moments-shift m later d (n + 1) xs e p.1)))

bytes_of-append : (xs ys : List Exchange) → concat (bytes_of (xs ++ ys)) ≡ concat (bytes_of xs) ++ concat (bytes_of ys)
bytes_of-append xs ys = ap concat (map-append (λ (x : Exchange). x.bytes) xs ys) ∙ concat-append (bytes_of xs) (bytes_of ys)

texts_of-append : (features : Features) (xs ys : List Exchange) → texts_of features (xs ++ ys) ≡ texts_of features xs ++ texts_of (features_of features xs) ys
texts_of-append features [] ys = refl
texts_of-append features (x ∷ xs) ys =
    ap (λ l. text_of features x ++ l) (texts_of-append (features_after features (frame_of x)) xs ys)
    ∙ sym (append_assoc (text_of features x) (texts_of (features_after features (frame_of x)) xs) (texts_of (features_of (features_after features (frame_of x)) xs) ys))

features_of-append : (features : Features) (xs ys : List Exchange) → features_of features (xs ++ ys) ≡ features_of (features_of features xs) ys
features_of-append features [] ys = refl
features_of-append features (x ∷ xs) ys = features_of-append (features_after features (frame_of x)) xs ys

quits-append : (a b c : Bool) (xs ys : List Exchange) → StopsAtQuit a xs b → StopsAtQuit b ys c → StopsAtQuit a (xs ++ ys) c
quits-append a b c [] ys p q = subst (λ (x : Bool). StopsAtQuit x ys c) p q
quits-append a b c (x ∷ xs) ys p q = (p.0, quits-append (is_quit (act_in (frame_of x))) b c xs ys p.1 q)

but_last-append : (x y : Exchange) (xs ys : List Exchange) → but_last x (xs ++ y ∷ ys) ≡ (x ∷ xs) ++ but_last y ys
but_last-append x y [] ys = refl
but_last-append x y (z ∷ zs) ys = ap (λ l. x ∷ l) (but_last-append z y zs ys)

waited_longer : (pending : List ℕ) (features : Features) (xs : List Exchange) (m n : ℕ) → m ≤ n → AnswersWaited pending features xs m → AnswersWaited pending features xs n
waited_longer pending features [] m n le w = tt
waited_longer pending features (x ∷ xs) m n le w = omega arith

-- what had waited before the first of some frames, and what before the first of those behind them
waited_behind : (pending middle : List ℕ) (features : Features) (x : Exchange) (xs : List Exchange) (y : Exchange) (ys : List Exchange) (v w : List ℕ)
    → v ++ middle ≡ pending ++ texts_of features (x ∷ xs) → AnswersWaited middle (features_of features (x ∷ xs)) (y ∷ ys) (length w)
    → AnswersWaited pending features ((x ∷ xs) ++ y ∷ ys) (length (v ++ w))
waited_behind pending middle features x xs y ys v w texts waited =
    let all : length (texts_of features (but_last x (xs ++ y ∷ ys))) ≡ length (texts_of features (x ∷ xs)) + length (texts_of (features_of features (x ∷ xs)) (but_last y ys)) =
    ap (λ l. length (texts_of features l)) (but_last-append x y xs ys) ∙ ap (λ (l : List ℕ). length l) (texts_of-append features (x ∷ xs) (but_last y ys))
    ∙ length-append (texts_of features (x ∷ xs)) (texts_of (features_of features (x ∷ xs)) (but_last y ys)) in
    let both : length v + length middle ≡ length pending + length (texts_of features (x ∷ xs)) =
    sym (length-append v middle) ∙ ap (λ (l : List ℕ). length l) texts ∙ length-append pending (texts_of features (x ∷ xs)) in
    omega (arith, all, both, waited, length-append v w)

pub waited_then : (pending middle : List ℕ) (features : Features) (xs ys : List Exchange) (v w : List ℕ)
    → v ++ middle ≡ pending ++ texts_of features xs → AnswersWaited pending features xs (length v) → AnswersWaited middle (features_of features xs) ys (length w)
    → AnswersWaited pending features (xs ++ ys) (length (v ++ w))
waited_then pending middle features xs [] v w texts p q =
    subst (λ (l : List Exchange). AnswersWaited pending features l (length (v ++ w))) (sym (append-nil xs))
    (waited_longer pending features xs (length v) (length (v ++ w)) (omega (arith, length-append v w)) p)
waited_then pending middle features [] (y ∷ ys) v w texts p q =
    let both : length v + length middle ≡ length pending + 0 = sym (length-append v middle) ∙ ap (λ (l : List ℕ). length l) texts ∙ length-append pending [] in
    omega (arith, both, q, length-append v w)
waited_then pending middle features (x ∷ xs) (y ∷ ys) v w texts p q = waited_behind pending middle features x xs y ys v w texts q

-- nothing was served and nothing written
pub serves_nothing : (s : Stand) → Advances s s
serves_nothing s = record {
  served = [];
  written = [];
  cut = record { whole = refl; each = tt };
  noted = sym (append-nil s.history);
  texts = sym (append-nil s.pending);
  waited = tt;
  features = refl;
  quits = refl;
  wrote = appends_nothing s.held;
  moments = tt;
  asked = λ k. ap s.moment (sym (zero-add k));
}

pub serves_then : (a b c : Stand) → Advances a b → Advances b c → Advances a c
serves_then a b c p q = record {
  served = p.served ++ q.served;
  written = p.written ++ q.written;
  cut = record {
    whole =
        p.cut.whole ∙ ap (λ l. concat (bytes_of p.served) ++ l) q.cut.whole ∙ sym (append_assoc (concat (bytes_of p.served)) (concat (bytes_of q.served)) c.rest)
        ∙ ap (λ l. l ++ c.rest) (sym (bytes_of-append p.served q.served));
    each = subst (λ (l : List (List ℕ)). AllByRecursion IsFrame l) (sym (map-append (λ (x : Exchange). x.bytes) p.served q.served)) (all-append IsFrame (bytes_of p.served) (bytes_of q.served) p.cut.each q.cut.each);
  };
  noted =
      q.noted ∙ ap (λ l. l ++ flat_map session_event q.served) p.noted ∙ append_assoc a.history (flat_map session_event p.served) (flat_map session_event q.served)
      ∙ ap (λ l. a.history ++ l) (sym (flat_map-append session_event p.served q.served));
  texts =
      append_assoc p.written q.written c.pending ∙ ap (λ l. p.written ++ l) q.texts ∙ sym (append_assoc p.written b.pending (texts_of b.features q.served))
      ∙ ap (λ l. l ++ texts_of b.features q.served) p.texts ∙ append_assoc a.pending (texts_of a.features p.served) (texts_of b.features q.served)
      ∙ ap (λ l. a.pending ++ l) (ap (λ (f : Features). texts_of a.features p.served ++ texts_of f q.served) p.features ∙ sym (texts_of-append a.features p.served q.served));
  waited = waited_then a.pending b.pending a.features p.served q.served p.written q.written p.texts p.waited
      (subst (λ (f : Features). AnswersWaited b.pending f q.served (length q.written)) p.features q.waited);
  features = q.features ∙ ap (λ (f : Features). features_of f q.served) p.features ∙ sym (features_of-append a.features p.served q.served);
  quits = quits-append a.quit b.quit c.quit p.served q.served p.quits q.quits;
  wrote = appends_then a.held b.held c.held p.written q.written p.wrote q.wrote;
  moments = moments-append a.moment 0 p.served q.served p.moments
      (let e : length p.served + 0 ≡ 0 + length p.served = omega arith in subst (λ k. AreMoments a.moment k q.served) e (moments-shift a.moment b.moment (length p.served) 0 q.served p.asked q.moments));
  asked = λ k. q.asked k ∙ p.asked (length q.served + k) ∙ ap a.moment (omega (arith, length-append p.served q.served));
}

-- some of the pending answers were written
pub serves_writes : (s : Stand) (left : List ℕ) (held : Option (List ℕ)) → WritesWaiting s.pending left s.held held → Advances s (record s { pending = left; held = held })
serves_writes s left held w = record {
  served = [];
  written = w.written;
  cut = record { whole = refl; each = tt };
  noted = sym (append-nil s.history);
  texts = sym w.parts ∙ sym (append-nil s.pending);
  waited = tt;
  features = refl;
  quits = refl;
  wrote = w.wrote;
  moments = tt;
  asked = λ k. ap s.moment (sym (zero-add k));
}

pub serves_then-served : (a b c : Stand) (p : Advances a b) (q : Advances b c) → (serves_then a b c p q).served ≡ p.served ++ q.served
unfolding serves_then
serves_then-served a b c p q = refl

pub serves_then-written : (a b c : Stand) (p : Advances a b) (q : Advances b c) → (serves_then a b c p q).written ≡ p.written ++ q.written
unfolding serves_then
serves_then-written a b c p q = refl

-- where answers are written no frame is served
pub serves_writes-served : (s : Stand) (left : List ℕ) (held : Option (List ℕ)) (w : WritesWaiting s.pending left s.held held) → (serves_writes s left held w).served ≡ []
unfolding serves_writes
serves_writes-served s left held w = refl

pub serves_writes-written : (s : Stand) (left : List ℕ) (held : Option (List ℕ)) (w : WritesWaiting s.pending left s.held held) → (serves_writes s left held w).written ≡ w.written
unfolding serves_writes
serves_writes-written s left held w = refl

-- one frame was answered
pub serves_answer : (bytes rest more : List ℕ) (at : ℕ) (old new : Responder) (held : Option (List ℕ)) (m later : ℕ → Option ℕ) (quit : Bool)
    → IsFrame bytes → rest ≡ bytes ++ more → Responds (frame_at bytes at) m later quit old new → length old.conn.out.bytes ≤ most_pending
    → Advances (stand rest old held m false) (stand more new held later quit)
serves_answer bytes rest more at old new held m later quit frame split a few = record {
  served = (record { bytes = bytes; now = a.now; reply = a.reply; value = a.value }) ∷ [];
  written = [];
  cut = record { whole = split ∙ ap (λ l. l ++ more) (sym (append-nil bytes)); each = (frame, tt) };
  noted = a.noted ∙ ap (λ l. old.history ++ l) (sym (append-nil _));
  texts = a.text ∙ ap (λ l. old.conn.out.bytes ++ l) (sym (append-nil _));
  waited = omega (arith, few);
  features = a.features;
  quits = (refl, sym a.quits);
  wrote = appends_nothing held;
  moments = (a.told, tt);
  asked = a.asked;
}

-- the write of all that waited was the first to fail, and some of it is left
pub fails_here : (start here : Stand) (p : Advances start here) (left : List ℕ) (held : Option (List ℕ)) (w : WritesWaiting here.pending left here.held held) (f0 f1 : ℕ) (last : Offer)
    → f1 ≡ f0 → last ≡ offer here.held f1 (length here.pending)
    → LastFails start f0 (serves_then start here (record here { pending = left; held = held }) p (serves_writes here left held w)).served last
fails_here start here p left held w f0 f1 last before is =
    let same =
    serves_then-served start here (record here { pending = left; held = held }) p (serves_writes here left held w)
    ∙ ap (λ (l : List Exchange). p.served ++ l) (serves_writes-served here left held w) ∙ append-nil p.served in
    subst (λ (l : List Exchange). LastFails start f0 l last) (sym same) (record {
      earlier = p.written;
      offered = here.pending;
      parts = p.texts;
      held = subst (λ (o : Option (List ℕ)). Appends start.held o p.written) (sym (ap (λ (o : Offer). o.held_before) is)) p.wrote;
      count = ap (λ (o : Offer). o.count) is;
      faults_before = ap (λ (o : Offer). o.faults_before) is ∙ before;
      waited = p.waited;
    })

-- frames were served before, and no write failed
pub fails_then : (a b c : Stand) (p : Advances a b) (q : Advances b c) (f0 f1 : ℕ) (last : Offer) → f1 ≡ f0 → LastFails b f1 q.served last → LastFails a f0 (serves_then a b c p q).served last
fails_then a b c p q f0 f1 last before l =
    subst (λ (xs : List Exchange). LastFails a f0 xs last) (sym (serves_then-served a b c p q)) (record {
      earlier = p.written ++ l.earlier;
      offered = l.offered;
      parts =
          append_assoc p.written l.earlier l.offered ∙ ap (λ x. p.written ++ x) l.parts ∙ sym (append_assoc p.written b.pending (texts_of b.features q.served))
          ∙ ap (λ x. x ++ texts_of b.features q.served) p.texts ∙ append_assoc a.pending (texts_of a.features p.served) (texts_of b.features q.served)
          ∙ ap (λ x. a.pending ++ x) (ap (λ (f : Features). texts_of a.features p.served ++ texts_of f q.served) p.features ∙ sym (texts_of-append a.features p.served q.served));
      held = appends_then a.held b.held last.held_before p.written l.earlier p.wrote l.held;
      count = l.count;
      faults_before = l.faults_before ∙ before;
      waited = waited_then a.pending b.pending a.features p.served q.served p.written l.earlier p.texts p.waited
          (subst (λ (f : Features). AnswersWaited b.pending f q.served (length l.earlier)) p.features l.waited);
    })

-- serving stopped where it stands
pub breaks_here : (end : End) (old new : Stand) (at f0 f1 : ℕ) (last : Offer) → end ≢ ends.WriteFault → end ≢ ends.NoMemory → Advances old (record new { quit = is_quit_end end }) → f1 ≡ f0 → HasStopped end new.rest new.rest at (RoseByOne f0 f1)
    → Breaks end old new at f0 f1 last
breaks_here end old new at f0 f1 last able enough p quiet why = record {
  rest = new.rest;
  pending = new.pending;
  moment = new.moment;
  serves = p;
  kept = λ _. refl;
  extra = 0;
  few = omega arith;
  exact = λ _. refl;
  cut_off = λ some. absurd (some refl);
  asked = λ k. ap new.moment (sym (zero-add k));
  why = why;
  quiet = λ _. quiet;
  fails = λ is. absurd (able is);
  due = λ is. absurd (able is);
  short = λ is. absurd (enough is);
}

-- some of the pending answers were written, and nothing else changed
pub advances_writes : (rest : List ℕ) (old new : Responder) (held now : Option (List ℕ)) (m : ℕ → Option ℕ) → KeepsAllButAnswers old new → WritesWaiting old.conn.out.bytes new.conn.out.bytes held now
    → Advances (stand rest old held m false) (stand rest new now m false)
advances_writes rest old new held now m k w = record {
  served = [];
  written = w.written;
  cut = record { whole = refl; each = tt };
  noted = k.history ∙ sym (append-nil old.history);
  texts = sym w.parts ∙ sym (append-nil old.conn.out.bytes);
  waited = tt;
  features = k.features;
  quits = refl;
  wrote = w.wrote;
  moments = tt;
  asked = λ n. ap m (sym (zero-add n));
}

-- a count that rose by one after it stood rose by one
pub rose_from : (a b c : ℕ) → b ≡ a → RoseByOne b c → RoseByOne a c
rose_from a b c e h = h ∙ ap raised e

-- a fault of writing lost some of the pending answers
pub breaks_loss : (start : Stand) (rest : List ℕ) (old new : Responder) (held now : Option (List ℕ)) (m : ℕ → Option ℕ) (at f0 f1 f2 : ℕ) (last : Offer)
    → Advances start (stand rest old held m false) → KeepsAllButAnswers old new → LosesSome old.conn.out.bytes held now → f1 ≡ f0 → RoseByOne f1 f2
    → last ≡ offer held f1 (length old.conn.out.bytes) → (length old.conn.out.bytes ≤ most_pending → IsPartial rest)
    → Breaks ends.WriteFault start (stand rest new now m false) at f0 f2 last
breaks_loss start rest old new held now m at f0 f1 f2 last p k loss before rose is due =
    let here = stand rest old held m false in
    let q = serves_then start here (record here { pending = loss.0; held = now }) p (serves_writes here loss.0 now loss.1) in
    record {
      rest = rest;
      pending = loss.0;
      moment = m;
      serves = record {
        served = q.served;
        written = q.written;
        cut = q.cut;
        noted = k.history ∙ q.noted;
        texts = q.texts;
        waited = q.waited;
        features = k.features ∙ q.features;
        quits = q.quits;
        wrote = q.wrote;
        moments = q.moments;
        asked = q.asked;
      };
      kept = λ h. absurd (h refl);
      extra = 0;
      few = omega arith;
      exact = λ _. refl;
      cut_off = λ some. absurd (some refl);
      asked = λ n. ap m (sym (zero-add n));
      why = rose_from f0 f1 f2 before rose;
      quiet = λ h. absurd (h refl);
      fails = λ _. fails_here start here p loss.0 now loss.1 f0 f1 last before is;
      due = λ _ few. due (subst (λ (n : ℕ). n ≤ most_pending) (ap (λ (o : Offer). o.count) is) few);
      short = λ e. cc;
    }

-- memory was wanting for the frame that was handed out, behind some answers that were written
pub breaks_memory_at : (rest more : List ℕ) (old new : Responder) (left : List ℕ) (held now : Option (List ℕ)) (m later : ℕ → Option ℕ) (at f0 f1 : ℕ) (last : Offer) → f1 ≡ f0 → BeginsWithFrame rest → length left ≤ most_pending
    → WritesWaiting old.conn.out.bytes left held now → new.history ≡ old.history → new.conn.out.bytes ≡ left → new.conn.features ≡ old.conn.features → ((k : ℕ) → later k ≡ m (k + 1))
    → Breaks ends.NoMemory (stand rest old held m false) (stand more new now later false) at f0 f1 last
breaks_memory_at rest more old new left held now m later at f0 f1 last quiet begins few w history same features asked = record {
  rest = rest;
  pending = new.conn.out.bytes;
  moment = m;
  serves = record {
    served = [];
    written = w.written;
    cut = record { whole = refl; each = tt };
    noted = history ∙ sym (append-nil old.history);
    texts = ap (λ l. w.written ++ l) same ∙ sym w.parts ∙ sym (append-nil old.conn.out.bytes);
    waited = tt;
    features = features;
    quits = refl;
    wrote = w.wrote;
    moments = tt;
    asked = λ k. ap m (sym (zero-add k));
  };
  kept = λ _. refl;
  extra = 1;
  few = omega arith;
  exact = λ h. absurd (h refl);
  cut_off = λ _. begins;
  asked = λ k. asked k ∙ ap m (omega arith);
  why = begins;
  quiet = λ _. quiet;
  fails = λ e. cc;
  due = λ e. cc;
  short = λ _. (refl, subst (λ (l : List ℕ). length l ≤ most_pending) (sym same) few);
}

-- what a feeder holds begins no request, or says a body that is too long
pub breaks_bad_magic : (held later : FeederData) (old new : Stand) (place f0 f1 : ℕ) (last : Offer) → f1 ≡ f0 → Advances old new → new.quit ≡ false → new.rest ≡ later.rest → later ≡ held → HasBadMagic held.rest → place ≡ held.at
    → Breaks (ends.BadMagic place) old new later.at f0 f1 last
breaks_bad_magic held later old new place f0 f1 last quiet p none rest same bad at =
    breaks_here (ends.BadMagic place) old new later.at f0 f1 last (λ e. cc) (λ e. cc) (subst (λ (q : Bool). Advances old (record new { quit = q })) none p) quiet
    (subst (λ (l : List ℕ). HasBadMagic l) (sym (rest ∙ ap (λ (x : FeederData). x.rest) same)) bad, refl, at ∙ sym (ap (λ (x : FeederData). x.at) same))

pub breaks_too_long : (held later : FeederData) (old new : Stand) (place f0 f1 : ℕ) (last : Offer) → f1 ≡ f0 → Advances old new → new.quit ≡ false → new.rest ≡ later.rest → later ≡ held → IsTooLong held.rest → place ≡ held.at
    → Breaks (ends.TooLong place) old new later.at f0 f1 last
breaks_too_long held later old new place f0 f1 last quiet p none rest same bad at =
    breaks_here (ends.TooLong place) old new later.at f0 f1 last (λ e. cc) (λ e. cc) (subst (λ (q : Bool). Advances old (record new { quit = q })) none p) quiet
    (subst (λ (l : List ℕ). IsTooLong l) (sym (rest ∙ ap (λ (x : FeederData). x.rest) same)) bad, refl, at ∙ sym (ap (λ (x : FeederData). x.at) same))

still_stopped : (end : End) (rest kept : List ℕ) (at : ℕ) (rose later : Type 0) → (rose → later) → HasStopped end rest kept at rose → HasStopped end rest kept at later
still_stopped ends.BadWords rest kept at rose later f h = h
still_stopped ends.NoMemory rest kept at rose later f h = h
still_stopped (ends.BadMagic place) rest kept at rose later f h = h
still_stopped (ends.TooLong place) rest kept at rose later f h = h
still_stopped (ends.Torn place) rest kept at rose later f h = h
still_stopped ends.Limit rest kept at rose later f h = h
still_stopped ends.ReadFault rest kept at rose later f h = h
still_stopped ends.WriteFault rest kept at rose later f h = f h
still_stopped ends.Quit rest kept at rose later f h = h
still_stopped ends.Closed rest kept at rose later f h = h

pub breaks_then : (end : End) (a b c : Stand) (at f0 f1 f2 : ℕ) (last : Offer) → Advances a b → f1 ≡ f0 → Breaks end b c at f1 f2 last → Breaks end a c at f0 f2 last
breaks_then end a b c at f0 f1 f2 last p before q = record {
  rest = q.rest;
  pending = q.pending;
  moment = q.moment;
  serves = serves_then a b _ p q.serves;
  kept = q.kept;
  extra = q.extra;
  few = q.few;
  exact = q.exact;
  cut_off = q.cut_off;
  asked = q.asked;
  why = still_stopped end q.rest c.rest at (RoseByOne f1 f2) (RoseByOne f0 f2) (rose_from f0 f1 f2 before) q.why;
  quiet = λ able. q.quiet able ∙ before;
  fails = λ is. fails_then a b _ p q.serves f0 f1 last before (q.fails is);
  due = q.due;
  short = q.short;
}

-- what a feeder holds after it handed out a frame is the rest without it
pub split_first : (held later : FeederData) (n : Next) (frame : Frame) → n ≡ nexts.Frame frame → later ≡ after_next held n → held.rest ≡ first_frame held.rest ++ later.rest
split_first held later n frame is e =
    sym (take-append-drop (frame_length held.rest) held.rest)
    ∙ ap (λ l. first_frame held.rest ++ l) (sym (ap (λ (f : FeederData). f.rest) (e ∙ ap (after_next held) is)))

-- the place moves on by what was handed out
pub place_first : (held later : FeederData) (n : Next) (frame : Frame) → IsFrame (first_frame held.rest) → n ≡ nexts.Frame frame → later ≡ after_next held n
    → later.at + length later.rest ≡ held.at + length held.rest
place_first held later n frame f is e =
    let at : later.at ≡ held.at + frame_length held.rest = ap (λ (x : FeederData). x.at) (e ∙ ap (after_next held) is) in
    let rest : length later.rest ≡ length (drop (frame_length held.rest) held.rest) = ap (λ (x : FeederData). length x.rest) (e ∙ ap (after_next held) is) in
    let first : frame_length held.rest ≡ length (first_frame held.rest) =
    ap (λ l. frame_length l) (first_whole held.rest) ∙ frame_length_front (first_frame held.rest) (drop (frame_length held.rest) held.rest) f in
    let enough = f.header in
    let short : frame_length held.rest ≤ length held.rest = omega (arith, length-take (frame_length held.rest) held.rest) in
    omega (arith, length-drop (frame_length held.rest) held.rest)

-- the frame that a feeder handed out was answered
pub serves_first : (held later : FeederData) (n : Next) (frame : Frame) (old new : Responder) (sink : Option (List ℕ)) (m next : ℕ → Option ℕ) (quit wanted : Bool)
    → IsFrame (first_frame held.rest) → frame_data frame ≡ frame_at (first_frame held.rest) held.at → n ≡ nexts.Frame frame → later ≡ after_next held n
    → Responds (frame_data frame) m next quit old new → quit ≡ wanted → length old.conn.out.bytes ≤ most_pending → Advances (stand held.rest old sink m false) (stand later.rest new sink next wanted)
serves_first held later n frame old new sink m next quit wanted f same is e a q few =
    serves_answer (first_frame held.rest) held.rest later.rest held.at old new sink m next wanted f (split_first held later n frame is e)
    (subst (λ (x : FrameData). Responds x m next wanted old new) same (subst (λ (b : Bool). Responds (frame_data frame) m next b old new) q a)) few

-- A feeder that hands out no frame holds what it held, and nothing was served but that some answers were written.
pub serves_none : (held later : FeederData) (n : Next) (old new : Responder) (sink now : Option (List ℕ)) (m : ℕ → Option ℕ)
    → later ≡ after_next held n → after_next held n ≡ held → new.history ≡ old.history → new.conn.features ≡ old.conn.features → WritesWaiting old.conn.out.bytes new.conn.out.bytes sink now
    → Advances (stand held.rest old sink m false) (stand later.rest new now m false)
serves_none held later n old new sink now m e same history features w = record {
  served = [];
  written = w.written;
  cut = record { whole = sym (ap (λ (x : FeederData). x.rest) (e ∙ same)); each = tt };
  noted = history ∙ sym (append-nil old.history);
  texts = sym w.parts ∙ sym (append-nil old.conn.out.bytes);
  waited = tt;
  features = features;
  quits = refl;
  wrote = w.wrote;
  moments = tt;
  asked = λ k. ap m (sym (zero-add k));
}
