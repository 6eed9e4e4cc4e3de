-- What memory shows to a call that lacks nothing: its row is that of the world.
use Rattle.std.proofs.Common.{◌≡◌, ℕ, Bool, true, false, not, ◌||◌, cond, List, [], length, refl, sym, ap, subst, ◌∙◌}
use Rattle.std.specs.Prelude.{Option, Some, None, nat_lt, ◌==◌, ◌&&◌}
use Rattle.ep_model.specs.declared.call.Meta.{Meta}
use Rattle.ep_model.specs.declared.call.StoreKind.TheVariants.{Set, Add, Replace}
use Rattle.ep_model.specs.declared.config.Eviction.{Eviction}
use Rattle.ep_model.specs.declared.config.Eviction.TheVariants.{Value, Full}
use Rattle.ep_model.specs.declared.data.CallData.{CallData}
use Rattle.ep_model.specs.declared.data.CallData.TheVariants.{Get, Store, Join, Count, Delete, Touch, Observe, Failovers, SetState, GetState}
use Rattle.ep_model.specs.World.{Doc, World, empty_world, secs, is_live, live_of, live, meta_of, doc_from, stored_expiry}
use Rattle.ep_model.specs.Calls.{written_key}
use Rattle.ep_model.specs.Needs.{needs}
use Rattle.ep_model.specs.Refusals.{size_refusal, cas_refusal}
use Rattle.ep_model.specs.Answer.{Answer, unless, cas_of, stores, counts_on, answer_row}
use Rattle.ep_model.specs.Decimal.{number_of}
use Rattle.hash_stripe.specs.Nodes.{NodeData, Slot}
use Rattle.hash_stripe.specs.Stripes.{found, found_value, resident_value, text_of}
use Rattle.vb_front.specs.Stands.{IsShownValue, IsGone}
use Rattle.vb_front.specs.Writes.{seen_meta, shown_doc, is_away, store_row, delete_row, row_of}

-- the numbers that a row goes by
abbrev pub numbered : ℕ → ℕ → ℕ → List (ℕ × ℕ) → World
numbered fit high maxcas table = record (empty_world 0 fit) { high = high; maxcas = maxcas; failovers = table }

abbrev numbers_of : World → World
numbers_of w = numbered w.fit w.high w.maxcas w.failovers

counts_on_numbered : (down : Bool) (w : World) (key : List ℕ) (delta now : ℕ) (doc : Doc) (number : Option ℕ)
    → counts_on down w key delta now doc number ≡ counts_on down (numbers_of w) key delta now doc number
counts_on_numbered down w key delta now doc None = refl
counts_on_numbered down w key delta now doc (Some number) = refl

-- A row goes by nothing else of a world.
pub row_numbered : (w : World) (call : CallData) (now : ℕ) (live : Option Doc) (key : List ℕ) → written_key call ≡ Some key
    → row_of w call now live ≡ row_of (numbers_of w) call now live
row_numbered w (Get k) now live key is = absurd (cc)
row_numbered w (Store kind k value flags expiration cas) now live key is = refl
row_numbered w (Join front k piece cas) now None key is = refl
row_numbered w (Join front k piece cas) now (Some doc) key is = refl
row_numbered w (Count down k delta initial expiration cas) now None key is = refl
row_numbered w (Count down k delta initial expiration cas) now (Some doc) key is =
    ap (λ (a : Answer). unless (cas_refusal cas (Some doc.cas)) a) (counts_on_numbered down w k delta now doc (number_of doc.value))
row_numbered w (Delete k cas) now live key is = refl
row_numbered w (Touch k expiration fetch) now None key is = refl
row_numbered w (Touch k expiration fetch) now (Some doc) key is = refl
row_numbered w (Observe uuid) now live key is = absurd (cc)
row_numbered w Failovers now live key is = absurd (cc)
row_numbered w (SetState state) now live key is = absurd (cc)
row_numbered w GetState now live key is = absurd (cc)

-- the row of a call that writes a key is that by the key's live document
pub row_is : (w : World) (call : CallData) (now : ℕ) (key : List ℕ) → written_key call ≡ Some key
    → row_of w call now (live w key now) ≡ answer_row w call now
row_is w (Get k) now key is = absurd (cc)
row_is w (Store kind k value flags expiration cas) now key is =
    let same : k ≡ key = cc in subst (λ (x : List ℕ). row_of w (Store kind k value flags expiration cas) now (live w x now) ≡ answer_row w (Store kind k value flags expiration cas) now) same refl
row_is w (Join front k piece cas) now key is =
    let same : k ≡ key = cc in subst (λ (x : List ℕ). row_of w (Join front k piece cas) now (live w x now) ≡ answer_row w (Join front k piece cas) now) same refl
row_is w (Count down k delta initial expiration cas) now key is =
    let same : k ≡ key = cc in subst (λ (x : List ℕ). row_of w (Count down k delta initial expiration cas) now (live w x now) ≡ answer_row w (Count down k delta initial expiration cas) now) same refl
row_is w (Delete k cas) now key is =
    let same : k ≡ key = cc in subst (λ (x : List ℕ). row_of w (Delete k cas) now (live w x now) ≡ answer_row w (Delete k cas) now) same refl
row_is w (Touch k expiration fetch) now key is =
    let same : k ≡ key = cc in subst (λ (x : List ℕ). row_of w (Touch k expiration fetch) now (live w x now) ≡ answer_row w (Touch k expiration fetch) now) same refl
row_is w (Observe uuid) now key is = absurd (cc)
row_is w Failovers now key is = absurd (cc)
row_is w (SetState state) now key is = absurd (cc)
row_is w GetState now key is = absurd (cc)

-- a CAS of 0 asks for no comparison
zero_cas : (cas : ℕ) (current : Option ℕ) → (cas == 0) ≡ true → cas_refusal cas current ≡ None
zero_cas cas None is = ap (λ b. cond b None (Some 1)) is
zero_cas cas (Some c) is = ap (λ b. cond (b || cas == c) None (Some 2)) is

not_not : (b : Bool) → not b ≡ false → b ≡ true
not_not true is = refl
not_not false is = absurd (cc)

-- under full eviction a call that needs no old document goes by none
free_row : (w : World) (call : CallData) (now : ℕ) (key : List ℕ) → written_key call ≡ Some key → needs Full call ≡ false
    → (x y : Option Doc) → row_of w call now x ≡ row_of w call now y
free_row w (Get k) now key is needed x y = absurd (cc)
free_row w (Store Set k value flags expiration cas) now key is needed x y =
    let zero = not_not (cas == 0) needed in
    ap (λ (o : Option ℕ). unless (size_refusal w.fit (length k) (length value)) (unless o (stores w k value flags (stored_expiry expiration now) now)))
    (zero_cas cas (cas_of x) zero ∙ sym (zero_cas cas (cas_of y) zero))
free_row w (Store Add k value flags expiration cas) now key is needed x y = absurd (cc)
free_row w (Store Replace k value flags expiration cas) now key is needed x y = absurd (cc)
free_row w (Join front k piece cas) now key is needed x y = absurd (cc)
free_row w (Count down k delta initial expiration cas) now key is needed x y = absurd (cc)
free_row w (Delete k cas) now key is needed x y = absurd (cc)
free_row w (Touch k expiration fetch) now key is needed x y = absurd (cc)
free_row w (Observe uuid) now key is needed x y = absurd (cc)
free_row w Failovers now key is needed x y = absurd (cc)
free_row w (SetState state) now key is needed x y = absurd (cc)
free_row w GetState now key is needed x y = absurd (cc)

-- a call that doesn't need the old value goes by the CAS of its document
cas_row : (w : World) (eviction : Eviction) (call : CallData) (now : ℕ) (key : List ℕ) → written_key call ≡ Some key → needs eviction call ≡ false
    → (x y : Option Doc) → cas_of x ≡ cas_of y → row_of w call now x ≡ row_of w call now y
cas_row w eviction (Get k) now key is needed x y same = absurd (cc)
cas_row w eviction (Store kind k value flags expiration cas) now key is needed x y same = ap (λ (o : Option ℕ). store_row w kind k value flags expiration cas now o) same
cas_row w eviction (Join front k piece cas) now key is needed x y same = absurd (cc)
cas_row w eviction (Count down k delta initial expiration cas) now key is needed x y same = absurd (cc)
cas_row w eviction (Delete k cas) now key is needed x y same = ap (λ (o : Option ℕ). delete_row w k cas now o) same
cas_row w eviction (Touch k expiration fetch) now key is needed x y same = absurd (cc)
cas_row w eviction (Observe uuid) now key is needed x y same = absurd (cc)
cas_row w eviction Failovers now key is needed x y same = absurd (cc)
cas_row w eviction (SetState state) now key is needed x y same = absurd (cc)
cas_row w eviction GetState now key is needed x y same = absurd (cc)

-- a document and what is left of it have one CAS where they are live
cas_left : (doc : Doc) (now : ℕ) → cas_of (live_of (Some (doc_from (meta_of doc) [])) now) ≡ cas_of (live_of (Some doc) now)
cas_left doc now =
    elim (is_live doc now) as (λ b. cas_of (cond b (Some (doc_from (meta_of doc) [])) None) ≡ cas_of (cond b (Some doc) None)) [ true ↦ refl | false ↦ refl ]

-- a document that is gone isn't live
gone_live : (mark now : ℕ) (doc : Option Doc) → IsGone Value mark doc → live_of doc now ≡ None
gone_live mark now None gone = refl
gone_live mark now (Some doc) gone = ap (λ b. cond (not b && (doc.expiry == 0 || nat_lt (secs now) doc.expiry)) (Some doc) None) gone.1

and_true : (a : Bool) → (a && true) ≡ false → a ≡ false
and_true true is = absurd (cc)
and_true false is = refl

away_ejected : (e : Eviction) (meta : Meta) → is_away e (found_value meta None) ≡ true
away_ejected Value meta = refl
away_ejected Full meta = refl

-- What there is of a key's document, and what memory has: the row of a call that lacks nothing is one.
pub seen_row : (w : World) (e : Eviction) (mark : ℕ) (call : CallData) (now : ℕ) (key : List ℕ) (doc : Option Doc) (slot : Slot) → written_key call ≡ Some key
    → (needs e call && is_away e (found slot)) ≡ false → (slot ≡ None → IsGone e mark doc)
    → ((node : NodeData) → slot ≡ Some node → (d : Doc) × (doc ≡ Some d) × (node.meta ≡ meta_of d) × IsShownValue d node.value)
    → row_of w call now (live_of (shown_doc (text_of (resident_value slot)) (seen_meta (found slot))) now) ≡ row_of w call now (live_of doc now)
seen_row w Value mark call now key doc None is has gone shows = ap (λ (o : Option Doc). row_of w call now o) (sym (gone_live mark now doc (gone refl)))
seen_row w Full mark call now key doc None is has gone shows = free_row w call now key is (and_true (needs Full call) has) None (live_of doc now)
seen_row w e mark call now key doc (Some node) is has gone shows =
    let d = shows node refl in
    at d.0 node.value d.2 d.3 has ∙ ap (λ (o : Option Doc). row_of w call now (live_of o now)) (sym d.1)
  where
    at : (d : Doc) (value : Option (List ℕ)) → node.meta ≡ meta_of d → IsShownValue d value → (needs e call && is_away e (found_value node.meta value)) ≡ false
        → row_of w call now (live_of (shown_doc (text_of value) (seen_meta (found_value node.meta value))) now) ≡ row_of w call now (live_of (Some d) now)
    at d None meta of lacks =
        cas_row w e call now key is (and_true (needs e call) (ap (λ b. needs e call && b) (sym (away_ejected e node.meta)) ∙ lacks)) (live_of (Some (doc_from node.meta [])) now) (live_of (Some d) now)
        (ap (λ m. cas_of (live_of (Some (doc_from m [])) now)) meta ∙ cas_left d now)
    at d (Some text) meta of lacks =
        ap (λ m. row_of w call now (live_of (Some (doc_from m text)) now)) meta ∙ ap (λ (t : List ℕ). row_of w call now (live_of (Some (record d { value = t })) now)) of
