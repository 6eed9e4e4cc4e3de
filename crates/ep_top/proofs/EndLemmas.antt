-- From how a session stopped to what it did, once its last answers were written.
use Rattle.std.proofs.Common.{◌≡◌, ◌≢◌, ℕ, ◌+◌, ◌<◌, ◌≤◌, Bool, true, false, ◌||◌, List, [], ◌∷◌, ◌++◌, refl, sym, ap, subst, ◌∙◌, inl, inr, Option, arith, append_assoc, append-nil, length, drop}
use Rattle.std.proofs.lemmas.List.{take-append-drop}
use Rattle.std.specs.List.{AllByRecursion, concat, flat_map}
use Rattle.ep_model.specs.Counts.{RoseByOne}
use Rattle.ep_edge.specs.Edge.{TakesBytes, Appends, IsEmptied, Offer, offer}
use Rattle.ep_model.specs.declared.data.EventData.{EventData}
use Rattle.ep_model.specs.declared.data.EventData.TheVariants.{Opened}
use Rattle.ep_model.proofs.HistoryLemmas.{legal-bare}
use Rattle.vb_world.specs.History.{events_of}
use Rattle.mcbp_frame.specs.Division.{Divides, IsPartial}
use Rattle.mcbp_frame.specs.Laws.{IsRest}
use Rattle.mcbp_frame.proofs.DivisionLemmas.{divides-cons, divides-none, one_division, some_division, partial_over}
use Rattle.mcbp_frame.proofs.StreamLemmas.{stream_divides}
use Rattle.mcbp_frame.specs.Feeder.{first_frame}
use Rattle.mcbp_frame.specs.Frames.{IsFrame, frame_length}
use Rattle.ep_top.specs.declared.end.End.{End}
use Rattle.ep_top.specs.declared.end.End.TheVariants as ends
use Rattle.ep_top.specs.declared.responder.Responder.{Responder}
use Rattle.conn_core.specs.declared.hello.Features.{Features}
use Rattle.conn_core.specs.Exchange.{Exchange}
use Rattle.ep_top.specs.Exchange.{session_event, texts_of}
use Rattle.ep_top.specs.Responder.{session_config, IsLegalHistory}
use Rattle.ep_top.specs.Outside.{Outside, IsReadNoMore}
use Rattle.ep_top.specs.Stand.{most_pending, Stand, LastFails, bytes_of, Advances, WritesWaiting, BeginsWithFrame, is_quit_end}
use Rattle.ep_top.specs.Session.{HasEnded, is_cut, EndIsDue, IsNoted, EndsUnopened, IsSession, begin, no_features, ReadsInTurn, Stops, Written, Lost, Broken, Finishes}
use Rattle.ep_top.proofs.StandLemmas.{serves_then, serves_then-served, serves_then-written, serves_writes, serves_writes-served, serves_writes-written, fails_here, appends_nothing, rose_from}
use Rattle.ep_top.proofs.SessionLemmas.{takes_nothing}

-- frames before a text that is divided
divides_after : (frames : List (List ℕ)) {text : List ℕ} {later : List (List ℕ)} {rest : List ℕ} → AllByRecursion IsFrame frames → Divides text later rest → Divides (concat frames ++ text) (frames ++ later) rest
divides_after [] each d = d
divides_after (frame ∷ frames) {text} {later} {rest} each d =
    subst (λ (t : List ℕ). Divides t (frame ∷ (frames ++ later)) rest) (sym (append_assoc frame (concat frames) text)) (divides-cons frame each.0 (divides_after frames each.1 d))

-- once it opened, the history is told by what was served, whatever the end
noted_from : (end : End) (history : List (ℕ × EventData)) (served : List Exchange) → end ≢ ends.BadWords → history ≡ (0, Opened) ∷ flat_map session_event served → IsNoted end history served
noted_from ends.BadWords history served not e = absurd (not refl)
noted_from ends.NoMemory history served not e = inr e
noted_from (ends.BadMagic at) history served not e = e
noted_from (ends.TooLong at) history served not e = e
noted_from (ends.Torn at) history served not e = e
noted_from ends.Limit history served not e = e
noted_from ends.ReadFault history served not e = e
noted_from ends.WriteFault history served not e = e
noted_from ends.Quit history served not e = e
noted_from ends.Closed history served not e = e

-- a text that begins with a frame has one in its division
some_frame : (text : List ℕ) (frames : List (List ℕ)) (rest : List ℕ) → Divides text frames rest → BeginsWithFrame text → frames ≢ []
some_frame text frames rest d begins none =
    let whole : text ≡ rest = subst (λ (fs : List (List ℕ)). text ≡ concat fs ++ rest) none d.whole in
    d.over (first_frame text) (drop (frame_length text) text) begins (sym whole ∙ sym (take-append-drop (frame_length text) text))

-- all of it, from what was served and written in the end, and from the division of what wasn't served
session_from : (before now : Outside) (end : End) (history : List (ℕ × EventData)) (taken rest pending : List ℕ) (moment : ℕ → Option ℕ) (features : Features) (quit : Bool) (extra : ℕ) (unserved : List (List ℕ)) (left : List ℕ)
    → TakesBytes before.left now.left taken
    → (p : Advances (begin before taken) (record { rest = rest; history = history; pending = pending; held = now.held; moment = moment; features = features; quit = quit }))
    → Divides taken (bytes_of p.served ++ unserved) left → (is_cut end ≡ false → quit ≡ false → unserved ≡ [])
    → extra ≤ 1 → (is_cut end ≡ false → extra ≡ 0) → (quit ≡ true → extra ≡ 0) → (extra ≢ 0 → unserved ≢ []) → (end ≡ ends.NoMemory → unserved ≢ []) → ((k : ℕ) → now.moment k ≡ moment (extra + k)) → (end ≢ ends.WriteFault → pending ≡ [])
    → IsLegalHistory history → end ≢ ends.BadWords → EndIsDue before now taken left quit end
    → ReadsInTurn before now taken p.served p.written → (end ≢ ends.ReadFault → now.read_faults ≡ before.read_faults) → (end ≢ ends.WriteFault → now.write_faults ≡ before.write_faults)
    → (end ≡ ends.WriteFault → LastFails (begin before taken) before.write_faults p.served now.last_offer)
    → (end ≡ ends.WriteFault → now.last_offer.count ≤ most_pending → quit ≡ false → extra ≡ 0 → unserved ≡ []) → (end ≡ ends.WriteFault → most_pending < now.last_offer.count → extra ≡ 0)
    → IsSession before now end history
session_from before now end history taken rest pending moment features quit extra unserved left takes p d all few exact behind cut_off wanting asked whole legal not comes reads reading writing fails due at_once = record {
  taken = taken;
  frames = bytes_of p.served ++ unserved;
  rest = left;
  served = p.served;
  unserved = unserved;
  written = p.written;
  lost = pending;
  takes = takes;
  divided = d;
  in_order = refl;
  quit = quit;
  stops_at_quit = p.quits;
  all = all;
  moments = p.moments;
  extra = extra;
  few = few;
  exact = exact;
  behind_quit = behind;
  cut_off = cut_off;
  asked = λ k. asked k ∙ p.asked (extra + k);
  wanting = λ is. inr (wanting is);
  unopened = λ none. absurd (let opened = p.noted in cc);
  events = events_of 0 history;
  only = legal.only;
  noted = noted_from end history p.served not p.noted;
  legal = legal.legal;
  wrote = p.wrote;
  texts = p.texts;
  whole = whole;
  comes = comes;
  fails = fails;
  due = due;
  at_once = at_once;
  reads = reads;
  reading = reading;
  writing = writing;
}

nothing_is_partial : (rest : List ℕ) → rest ≡ [] → IsPartial rest
nothing_is_partial rest e = subst (λ (l : List ℕ). IsPartial l) (sym e) (record { magic = λ h. absurd (omega arith); body = λ h. absurd (omega arith); short = λ h. absurd (omega arith) })

-- an end that comes behind all whole frames leaves a rest that begins with none
rest_from : (end : End) (before now : Outside) (taken rest : List ℕ) (quit : Bool) → end ≢ ends.BadWords → is_cut end ≡ false → quit ≡ false → EndIsDue before now taken rest quit end → IsRest rest
rest_from ends.BadWords before now taken rest quit not cut none h = absurd (not refl)
rest_from ends.NoMemory before now taken rest quit not cut none h = cc
rest_from (ends.BadMagic at) before now taken rest quit not cut none h = inr (inl h.0)
rest_from (ends.TooLong at) before now taken rest quit not cut none h = inr (inr h.0)
rest_from (ends.Torn at) before now taken rest quit not cut none h = inl h.1
rest_from ends.Limit before now taken rest quit not cut none h = inl h.0.partial
rest_from ends.ReadFault before now taken rest quit not cut none h = inl h.0.partial
rest_from ends.WriteFault before now taken rest quit not cut none h = cc
rest_from ends.Quit before now taken rest quit not cut none h = cc
rest_from ends.Closed before now taken rest quit not cut none h = inl (nothing_is_partial rest h.1)

-- an end between frames says nothing of the rest
abbrev is_between : End → Bool → Bool
is_between end quit = is_cut end || quit

comes_anywhere : (end : End) (before now : Outside) (taken rest left : List ℕ) (quit : Bool) → is_cut end || quit ≡ true → EndIsDue before now taken rest quit end → EndIsDue before now taken left quit end
comes_anywhere ends.BadWords before now taken rest left quit cut h = h
comes_anywhere ends.NoMemory before now taken rest left quit cut h = h
comes_anywhere (ends.BadMagic at) before now taken rest left quit cut h = let none = h.2 in cc
comes_anywhere (ends.TooLong at) before now taken rest left quit cut h = let none = h.2 in cc
comes_anywhere (ends.Torn at) before now taken rest left quit cut h = let none = h.4 in cc
comes_anywhere ends.Limit before now taken rest left quit cut h = let none = h.2 in cc
comes_anywhere ends.ReadFault before now taken rest left quit cut h = let none = h.3 in cc
comes_anywhere ends.WriteFault before now taken rest left quit cut h = h
comes_anywhere ends.Quit before now taken rest left quit cut h = h
comes_anywhere ends.Closed before now taken rest left quit cut h = let none = h.2 in cc

or_false_left : (a b : Bool) → a || b ≡ false → a ≡ false
or_false_left true b e = e
or_false_left false b e = refl

or_false_right : (a b : Bool) → a || b ≡ false → b ≡ false
or_false_right true b e = cc
or_false_right false b e = e

or_true_not : (a b : Bool) → a || b ≡ true → a ≡ false → b ≡ false → ⊥
or_true_not true b e p q = cc
or_true_not false b e p q = cc

-- a rest has no frame in its division
no_frames : (rest : List ℕ) (frames : List (List ℕ)) (left : List ℕ) → IsRest rest → Divides rest frames left → frames ≡ []
no_frames rest frames left is d = (one_division d (stream_divides.stopped rest [] rest (record { whole = refl; each = tt }) is)).0

-- the same session, whichever way it ended: what wasn't served is divided too
session_of : (before now : Outside) (end : End) (history : List (ℕ × EventData)) (taken rest pending : List ℕ) (moment : ℕ → Option ℕ) (features : Features) (quit : Bool) (extra : ℕ)
    → TakesBytes before.left now.left taken
    → (p : Advances (begin before taken) (record { rest = rest; history = history; pending = pending; held = now.held; moment = moment; features = features; quit = quit }))
    → extra ≤ 1 → (is_cut end ≡ false → extra ≡ 0) → (quit ≡ true → extra ≡ 0) → (extra ≢ 0 → BeginsWithFrame rest) → (end ≡ ends.NoMemory → BeginsWithFrame rest) → ((k : ℕ) → now.moment k ≡ moment (extra + k)) → (end ≢ ends.WriteFault → pending ≡ [])
    → IsLegalHistory history → end ≢ ends.BadWords → EndIsDue before now taken rest quit end
    → ReadsInTurn before now taken p.served p.written → (end ≢ ends.ReadFault → now.read_faults ≡ before.read_faults) → (end ≢ ends.WriteFault → now.write_faults ≡ before.write_faults)
    → (end ≡ ends.WriteFault → LastFails (begin before taken) before.write_faults p.served now.last_offer)
    → (end ≡ ends.WriteFault → now.last_offer.count ≤ most_pending → quit ≡ false → extra ≡ 0 → IsRest rest) → (end ≡ ends.WriteFault → most_pending < now.last_offer.count → extra ≡ 0)
    → IsSession before now end history
session_of before now end history taken rest pending moment features quit extra takes p few exact behind cut_off wanting asked whole legal not comes reads reading writing fails due at_once =
    let cut : (b : Bool) → is_cut end || quit ≡ b → IsSession before now end history =
    elim [
      | true ↦ λ is. let d = some_division rest in
          session_from before now end history taken rest pending moment features quit extra d.0 d.1 takes p (subst (λ (t : List ℕ). Divides t (bytes_of p.served ++ d.0) d.1) (sym p.cut.whole) (divides_after (bytes_of p.served) p.cut.each d.2)) (λ other none. absurd (or_true_not (is_cut end) quit is other none)) few exact behind (λ some. some_frame rest d.0 d.1 d.2 (cut_off some)) (λ at. some_frame rest d.0 d.1 d.2 (wanting at)) asked whole legal not (comes_anywhere end before now taken rest d.1 quit is comes) reads reading writing fails (λ fault few none zero. no_frames rest d.0 d.1 (due fault few none zero) d.2) at_once
      | false ↦ λ is. session_from before now end history taken rest pending moment features quit extra [] rest takes p
          (subst (λ (frames : List (List ℕ)). Divides taken frames rest) (sym (append-nil (bytes_of p.served))) (stream_divides.stopped taken (bytes_of p.served) rest p.cut (rest_from end before now taken rest quit not (or_false_left (is_cut end) quit is) (or_false_right (is_cut end) quit is) comes))) (λ _ _. refl) few exact behind (λ some. absurd (some (exact (or_false_left (is_cut end) quit is)))) (λ at. absurd (let c = or_false_left (is_cut end) quit is in let e = ap is_cut at in cc)) asked whole legal not comes reads reading writing fails (λ _ _ _ _. refl) at_once
    ] in
    cut (is_cut end || quit) refl

-- more was served and written since the last read
reads_more : (before mid now : Outside) (taken : List ℕ) (served later served' : List Exchange) (written more written' : List ℕ) → IsReadNoMore mid now → served' ≡ served ++ later → written' ≡ written ++ more
    → ReadsInTurn before mid taken served written → ReadsInTurn before now taken served' written'
reads_more before mid now taken served later served' written more written' same s w (inl u) = inl (record { none = u.none; left_before = same.left ∙ u.left_before; ended_before = same.ended ∙ u.ended_before })
reads_more before mid now taken served later served' written more written' same s w (inr l) = inr (record {
  earlier = l.earlier;
  last = l.last;
  parts = l.parts;
  takes = subst (λ (o : Option (List ℕ)). TakesBytes before.left o l.earlier) (sym same.left) l.takes;
  under = l.under;
  going = same.ended ∙ l.going;
  first = l.first;
  later = l.later ++ later;
  rest = l.rest;
  more = l.more ++ more;
  order = s ∙ ap (λ x. x ++ later) l.order ∙ append_assoc l.first l.later later;
  cut = l.cut;
  partial = l.partial;
  quits = l.quits;
  texts = w ∙ ap (λ x. x ++ more) l.texts ∙ append_assoc (texts_of no_features l.first) l.more more;
})

has_ended_later : (mid now : Outside) (taken : List ℕ) → now.left ≡ mid.left → now.has_ended ≡ mid.has_ended → HasEnded mid taken → HasEnded now taken
has_ended_later mid now taken left ended h = record { ended = ended ∙ h.ended; emptied = subst (λ (o : Option (List ℕ)). IsEmptied o) (sym left) h.emptied; under = h.under }

-- only the sink changed since
comes_later : (end : End) (before mid now : Outside) (taken rest : List ℕ) (quit : Bool) → now.left ≡ mid.left → now.has_ended ≡ mid.has_ended → now.read_faults ≡ mid.read_faults → now.write_faults ≡ mid.write_faults
    → EndIsDue before mid taken rest quit end → EndIsDue before now taken rest quit end
comes_later ends.BadWords before mid now taken rest quit left ended read write h = h
comes_later ends.NoMemory before mid now taken rest quit left ended read write h = h
comes_later (ends.BadMagic at) before mid now taken rest quit left ended read write h = h
comes_later (ends.TooLong at) before mid now taken rest quit left ended read write h = h
comes_later (ends.Torn at) before mid now taken rest quit left ended read write h = (has_ended_later mid now taken left ended h.0, h.1, h.2, h.3, h.4)
comes_later ends.Limit before mid now taken rest quit left ended read write h = (record { partial = h.0.partial; going = ended ∙ h.0.going }, h.1, h.2)
comes_later ends.ReadFault before mid now taken rest quit left ended read write h = (record { partial = h.0.partial; going = ended ∙ h.0.going }, h.1, subst (λ (n : ℕ). RoseByOne before.read_faults n) (sym read) h.2, h.3)
comes_later ends.WriteFault before mid now taken rest quit left ended read write h = write ∙ h
comes_later ends.Quit before mid now taken rest quit left ended read write h = h
comes_later ends.Closed before mid now taken rest quit left ended read write h = (has_ended_later mid now taken left ended h.0, h.1, h.2)

-- only want of memory leaves a frame for which the clock was asked and that isn't answered
exact_from : (end : End) (extra : ℕ) → (end ≢ ends.NoMemory → extra ≡ 0) → is_cut end ≡ false → extra ≡ 0
exact_from end extra exact cut = exact (λ is. absurd (let e = ap is_cut is in cc))

-- a Quit is no want of memory
behind_quit_end : (end : End) (extra : ℕ) → (end ≢ ends.NoMemory → extra ≡ 0) → is_quit_end end ≡ true → extra ≡ 0
behind_quit_end end extra exact is = exact (λ none. absurd (let e = sym (ap is_quit_end none) ∙ is in cc))

-- a session that stopped, and then wrote its last answers
session_written : (before mid now : Outside) (end final : End) (responder : Responder) (s : Stops before mid end responder) (w : Written end final responder.conn.out.bytes mid.held now.held mid.write_faults now.write_faults)
    → now.left ≡ mid.left → IsReadNoMore mid now → now.has_ended ≡ mid.has_ended → now.read_faults ≡ mid.read_faults → ((k : ℕ) → now.moment k ≡ mid.moment k)
    → IsSession before now final responder.history
session_written before mid now end final responder s w left earlier ended read moment =
    let here : Stand = record { rest = s.rest; history = responder.history; pending = s.pending; held = mid.held; moment = s.moment; features = responder.conn.features; quit = is_quit_end end } in
    let pending = subst (λ (l : List ℕ). WritesWaiting l [] mid.held now.held) (sym (s.kept w.able)) w.writes in
    subst (λ (e : End). IsSession before now e responder.history) (sym w.same)
    (session_of before now end responder.history s.taken s.rest [] s.moment responder.conn.features (is_quit_end end) s.extra
    (subst (λ (o : Option (List ℕ)). TakesBytes before.left o s.taken) (sym left) s.takes)
    (serves_then _ here _ s.serves (serves_writes here [] now.held pending))
    s.few (exact_from end s.extra s.exact) (behind_quit_end end s.extra s.exact) s.cut_off s.wanting (λ k. moment k ∙ s.asked k) (λ _. refl) s.legal s.served
    (comes_later end before mid now s.taken s.rest (is_quit_end end) left ended read w.quiet s.comes)
    (reads_more before mid now s.taken s.serves.served [] _ s.serves.written pending.written _ earlier
    (serves_then-served _ here _ s.serves _ ∙ ap (λ l. s.serves.served ++ l) (serves_writes-served here [] now.held pending))
    (serves_then-written _ here _ s.serves _ ∙ ap (λ l. s.serves.written ++ l) (serves_writes-written here [] now.held pending)) s.reads)
    (λ not. read ∙ s.reading not) (λ able. w.quiet ∙ s.writing able)
    (λ is. absurd (w.able is)) (λ is. absurd (w.able is)) (λ is. absurd (w.able is)))

-- an end that leaves answers to be written comes where no whole frame is left, behind a Quit, or where memory was wanting
rest_left : (end : End) (before now : Outside) (taken rest : List ℕ) (extra : ℕ) → end ≢ ends.BadWords → end ≢ ends.WriteFault → (end ≡ ends.NoMemory → extra ≡ 1) → is_quit_end end ≡ false → extra ≡ 0
    → EndIsDue before now taken rest (is_quit_end end) end → IsRest rest
rest_left ends.BadWords before now taken rest extra not able short none zero h = absurd (not refl)
rest_left ends.NoMemory before now taken rest extra not able short none zero h = absurd (let one = short refl in omega arith)
rest_left (ends.BadMagic at) before now taken rest extra not able short none zero h = inr (inl h.0)
rest_left (ends.TooLong at) before now taken rest extra not able short none zero h = inr (inr h.0)
rest_left (ends.Torn at) before now taken rest extra not able short none zero h = inl h.1
rest_left ends.Limit before now taken rest extra not able short none zero h = inl h.0.partial
rest_left ends.ReadFault before now taken rest extra not able short none zero h = inl h.0.partial
rest_left ends.WriteFault before now taken rest extra not able short none zero h = absurd (able refl)
rest_left ends.Quit before now taken rest extra not able short none zero h = cc
rest_left ends.Closed before now taken rest extra not able short none zero h = inl (nothing_is_partial rest h.1)

-- a session that stopped, and then lost some of its last answers
session_lost : (before mid now : Outside) (end final : End) (responder : Responder) (s : Stops before mid end responder) (w : Lost end final responder.conn.out.bytes mid.held now.held mid.write_faults now.write_faults now.last_offer)
    → now.left ≡ mid.left → IsReadNoMore mid now → now.read_faults ≡ mid.read_faults → ((k : ℕ) → now.moment k ≡ mid.moment k)
    → IsSession before now final responder.history
session_lost before mid now end final responder s w left earlier read moment =
    let here : Stand = record { rest = s.rest; history = responder.history; pending = s.pending; held = mid.held; moment = s.moment; features = responder.conn.features; quit = is_quit_end end } in
    let pending = subst (λ (l : List ℕ). WritesWaiting l w.lost mid.held now.held) (sym (s.kept w.able)) w.writes in
    subst (λ (e : End). IsSession before now e responder.history) (sym w.fault)
    (session_of before now ends.WriteFault responder.history s.taken s.rest w.lost s.moment responder.conn.features (is_quit_end end) s.extra
    (subst (λ (o : Option (List ℕ)). TakesBytes before.left o s.taken) (sym left) s.takes)
    (serves_then _ here _ s.serves (serves_writes here w.lost now.held pending))
    s.few (λ cut. cc) (behind_quit_end end s.extra s.exact) s.cut_off (λ e. cc) (λ k. moment k ∙ s.asked k) (λ not. absurd (not refl)) s.legal (λ e. cc)
    (rose_from _ _ _ (s.writing w.able) w.why)
    (reads_more before mid now s.taken s.serves.served [] _ s.serves.written pending.written _ earlier
    (serves_then-served _ here _ s.serves _ ∙ ap (λ l. s.serves.served ++ l) (serves_writes-served here w.lost now.held pending))
    (serves_then-written _ here _ s.serves _ ∙ ap (λ l. s.serves.written ++ l) (serves_writes-written here w.lost now.held pending)) s.reads)
    (λ _. read ∙ s.reading (λ is. w.some (s.flushed is))) (λ not. absurd (not refl))
    (λ _. fails_here (begin before s.taken) here s.serves w.lost now.held pending before.write_faults mid.write_faults now.last_offer (s.writing w.able)
    (w.offered ∙ ap (λ (l : List ℕ). offer mid.held mid.write_faults (length l)) (sym (s.kept w.able))))
    (λ _ _ none zero. rest_left end before mid s.taken s.rest s.extra s.served w.able (λ is. (s.short is).0) none zero s.comes)
    (λ _ many. s.exact (λ is. absurd (let few = (s.short is).1 in let count = ap (λ (o : Offer). o.count) w.offered in omega (arith, few, count, many)))))

-- a session that a fault of writing stopped
session_broken : (before mid now : Outside) (end final : End) (responder : Responder) (s : Stops before mid end responder) (w : Broken end final mid.held now.held mid.write_faults now.write_faults mid.last_offer now.last_offer)
    → now.left ≡ mid.left → IsReadNoMore mid now → now.has_ended ≡ mid.has_ended → now.read_faults ≡ mid.read_faults → ((k : ℕ) → now.moment k ≡ mid.moment k)
    → IsSession before now final responder.history
session_broken before mid now end final responder s w left earlier ended read moment =
    subst (λ (e : End). IsSession before now e responder.history) (w.before ∙ sym w.fault)
    (session_of before now end responder.history s.taken s.rest s.pending s.moment responder.conn.features (is_quit_end end) s.extra
    (subst (λ (o : Option (List ℕ)). TakesBytes before.left o s.taken) (sym left) s.takes)
    (record {
      served = s.serves.served;
      written = s.serves.written;
      cut = s.serves.cut;
      noted = s.serves.noted;
      texts = s.serves.texts;
      waited = s.serves.waited;
      features = s.serves.features;
      quits = s.serves.quits;
      wrote = subst (λ (h : Option (List ℕ)). Appends before.held h s.serves.written) (sym w.same) s.serves.wrote;
      moments = s.serves.moments;
      asked = s.serves.asked;
    })
    s.few (exact_from end s.extra s.exact) (behind_quit_end end s.extra s.exact) s.cut_off s.wanting (λ k. moment k ∙ s.asked k) (λ not. absurd (not w.before)) s.legal s.served
    (comes_later end before mid now s.taken s.rest (is_quit_end end) left ended read w.quiet s.comes)
    (reads_more before mid now s.taken s.serves.served [] _ s.serves.written [] _ earlier (sym (append-nil s.serves.served)) (sym (append-nil s.serves.written)) s.reads)
    (λ not. read ∙ s.reading not) (λ able. w.quiet ∙ s.writing able)
    (λ is. subst (λ (o : Offer). LastFails (begin before s.taken) before.write_faults s.serves.served o) (sym w.same_offer) (s.fails is))
    (λ is few _ _. inl (s.due is (subst (λ (o : Offer). o.count ≤ most_pending) w.same_offer few)))
    (λ is _. s.exact (λ none. let e = sym is ∙ none in cc)))

pub session_finished : (before mid now : Outside) (end final : End) (responder : Responder) → Stops before mid end responder → Finishes end final responder.conn.out.bytes mid.held now.held mid.write_faults now.write_faults mid.last_offer now.last_offer
    → now.left ≡ mid.left → IsReadNoMore mid now → now.has_ended ≡ mid.has_ended → now.read_faults ≡ mid.read_faults → ((k : ℕ) → now.moment k ≡ mid.moment k)
    → IsSession before now final responder.history
session_finished before mid now end final responder s (inl w) left earlier ended read moment = session_written before mid now end final responder s w left earlier ended read moment
session_finished before mid now end final responder s (inr (inl w)) left earlier ended read moment = session_lost before mid now end final responder s w left earlier read moment
session_finished before mid now end final responder s (inr (inr w)) left earlier ended read moment = session_broken before mid now end final responder s w left earlier ended read moment

-- no session is finished as bad words
pub finished_served : (end final : End) (pending : List ℕ) (old new : Option (List ℕ)) (f0 f1 : ℕ) (o0 o1 : Offer) → end ≢ ends.BadWords → Finishes end final pending old new f0 f1 o0 o1 → final ≢ ends.BadWords
finished_served end final pending old new f0 f1 o0 o1 not (inl w) e = not (sym w.same ∙ e)
finished_served end final pending old new f0 f1 o0 o1 not (inr (inl w)) e = let f = w.fault in cc
finished_served end final pending old new f0 f1 o0 o1 not (inr (inr w)) e = let f = w.fault in cc

unopened_noted : (end : End) → EndsUnopened end → IsNoted end [] []
unopened_noted ends.BadWords opens = (refl, refl)
unopened_noted ends.NoMemory opens = inl (refl, refl)
unopened_noted (ends.BadMagic at) opens = absurd opens
unopened_noted (ends.TooLong at) opens = absurd opens
unopened_noted (ends.Torn at) opens = absurd opens
unopened_noted ends.Limit opens = absurd opens
unopened_noted ends.ReadFault opens = absurd opens
unopened_noted ends.WriteFault opens = absurd opens
unopened_noted ends.Quit opens = absurd opens
unopened_noted ends.Closed opens = absurd opens

unopened_comes : (before : Outside) (end : End) → EndsUnopened end → EndIsDue before before [] [] false end
unopened_comes before ends.BadWords opens = (refl, refl)
unopened_comes before ends.NoMemory opens = refl
unopened_comes before (ends.BadMagic at) opens = absurd opens
unopened_comes before (ends.TooLong at) opens = absurd opens
unopened_comes before (ends.Torn at) opens = absurd opens
unopened_comes before ends.Limit opens = absurd opens
unopened_comes before ends.ReadFault opens = absurd opens
unopened_comes before ends.WriteFault opens = absurd opens
unopened_comes before ends.Quit opens = absurd opens
unopened_comes before ends.Closed opens = absurd opens

unopened_able : (end : End) → EndsUnopened end → end ≢ ends.WriteFault
unopened_able end opens e = subst (λ (x : End). EndsUnopened x) e opens

-- a session that didn't begin took, served and wrote nothing
pub session_none : (before : Outside) (end : End) → end ≢ ends.WriteFault → IsNoted end [] [] → EndIsDue before before [] [] false end → IsSession before before end []
session_none before end able noted comes = record {
  taken = [];
  frames = [];
  rest = [];
  served = [];
  unserved = [];
  written = [];
  lost = [];
  takes = takes_nothing before.left;
  divided = divides-none [] (partial_over (record { magic = λ h. absurd (omega arith); body = λ h. absurd (omega arith); short = λ h. absurd (omega arith) }));
  in_order = refl;
  quit = false;
  stops_at_quit = refl;
  all = λ _ _. refl;
  moments = tt;
  extra = 0;
  few = omega arith;
  exact = λ _. refl;
  behind_quit = λ _. refl;
  cut_off = λ some. absurd (some refl);
  asked = λ k. ap before.moment (omega arith);
  wanting = λ _. inl refl;
  unopened = λ _. (refl, refl);
  events = [];
  only = refl;
  noted = noted;
  legal = legal-bare session_config 0 _;
  wrote = appends_nothing before.held;
  texts = refl;
  whole = λ _. refl;
  comes = comes;
  fails = λ is. absurd (able is);
  due = λ is. absurd (able is);
  at_once = λ is. absurd (able is);
  reads = inl (record { none = refl; left_before = refl; ended_before = refl });
  reading = λ _. refl;
  writing = λ _. refl;
}

pub session_unopened : (before : Outside) (end : End) (history : List (ℕ × EventData)) → EndsUnopened end → history ≡ [] → IsSession before before end history
session_unopened before end history opens none = subst (λ (h : List (ℕ × EventData)). IsSession before before end h) (sym none) (session_none before end (unopened_able end opens) (unopened_noted end opens) (unopened_comes before end opens))
