-- What a successful Set stores is read back, and every other key stays as it was.
use Rattle.std.proofs.Common.{◌≡◌, ◌≢◌, ◌<◌, ◌⊎◌, inl, inr, ℕ, ◌+◌, Bool, true, false, cond, List, [], length, refl, sym, ap, ◌∙◌, arith}
use Rattle.std.specs.Prelude.{◌==◌, ◌||◌, ◌&&◌, not, nat_lt, Option, Some, None}
use Rattle.std.proofs.Math.Bool.{or-true}
use Rattle.std.proofs.lemmas.Bool.Decides.{nat_tests}
use Rattle.std.proofs.lemmas.Cmp.{eq_by_cmp_equiv}
use Rattle.std.proofs.lemmas.Slice.Eq.{bytes_eq-Decides}
use Rattle.std.specs.Ordering.{nat_cmp, eq_by_cmp}
use Rattle.std.specs.Cmp.Lexicographic.{slice_cmp, nat_list_cmp_total, texts_ties}
use Rattle.std.specs.FinMap.{get, get-insert}
use Rattle.ep_model.specs.declared.call.VbState.TheVariants.{Active}
use Rattle.ep_model.specs.declared.call.StoreKind.TheVariants as kinds
use Rattle.ep_model.specs.declared.data.CallData.{CallData}
use Rattle.ep_model.specs.declared.data.CallData.TheVariants.{Get, Store}
use Rattle.ep_model.specs.Statuses.{success, key_not_found, key_exists, too_large, out_of_range}
use Rattle.ep_model.specs.World.{Doc, World, is_live, live, live_of, secs, stored_expiry, blocks, last_seqno, next_doc, put}
use Rattle.ep_model.specs.Calls.{has_key}
use Rattle.ep_model.specs.Refusals.{state_refusal, cas_refusal, number_refusal}
use Rattle.ep_model.specs.Answer.{Answer, unless, put_success, cas_of, answer_get, answer_store, answer_row, answer, apply}
use Rattle.ep_model.specs.Laws.{SetIsReadBack, SetKeepsOthers, found}

-- a status that isn't success refuses what doesn't succeed
unless-success : (b : Bool) (status : ℕ) (done : Answer) → status ≢ success → (unless (cond b (Some status) None) done).reply.status ≡ success → unless (cond b (Some status) None) done ≡ done
unless-success true status done differs h = absurd (differs h)
unless-success false status done differs h = refl

-- a call that the CAS rule lets succeed is done
cas-success : (cas : ℕ) (was : Option ℕ) (done : Answer) → (unless (cas_refusal cas was) done).reply.status ≡ success → unless (cas_refusal cas was) done ≡ done
cas-success cas None done h = elim (cas == 0) as (λ b. (unless (cond b None (Some key_not_found)) done).reply.status ≡ success → unless (cond b None (Some key_not_found)) done ≡ done) [ true ↦ λ is. refl | false ↦ λ is. absurd (omega arith) ] h
cas-success cas (Some current) done h = elim (cas == 0 || cas == current) as (λ b. (unless (cond b None (Some key_exists)) done).reply.status ≡ success → unless (cond b None (Some key_exists)) done ≡ done) [ true ↦ λ is. refl | false ↦ λ is. absurd (omega arith) ] h

-- what a Set that succeeds has put
abbrev stored : World → List ℕ → List ℕ → ℕ → ℕ → ℕ → Answer
stored w key value flags expiry now = put_success w key (next_doc w value flags expiry false now) 0 []

-- a Set that succeeds stores
set-success : (w : World) (key value : List ℕ) (flags expiration cas now : ℕ) → (answer_store kinds.Set w key value flags expiration cas now).reply.status ≡ success → answer_store kinds.Set w key value flags expiration cas now ≡ stored w key value flags (stored_expiry expiration now) now
set-success w key value flags expiration cas now h =
    let done : Answer = stored w key value flags (stored_expiry expiration now) now in
    let numbered : Answer = unless (number_refusal w.high) done in
    let under : Answer = unless (cas_refusal cas (cas_of (live w key now))) numbered in
    let sized : answer_store kinds.Set w key value flags expiration cas now ≡ under = unless-success (nat_lt w.fit (blocks (length key) + blocks (length value))) too_large under (omega arith) h in
    let allowed : under ≡ numbered = cas-success cas (cas_of (live w key now)) numbered (ap (λ (a : Answer). a.reply.status) (sym sized) ∙ h) in
    let last : numbered ≡ done = unless-success (w.high == last_seqno) out_of_range done (omega arith) (ap (λ (a : Answer). a.reply.status) (sym (sized ∙ allowed)) ∙ h) in
    sized ∙ allowed ∙ last

-- in an active world a call is answered by its row
at-active : (w : World) (call : CallData) (now : ℕ) → w.state ≡ Active → answer w call now ≡ answer_row w call now
at-active w call now active = ap (λ s. unless (state_refusal s (has_key call)) (answer_row w call now)) active

-- what a Set that succeeds is answered
set-stored : (w : World) (key value : List ℕ) (flags expiration cas now : ℕ) → w.state ≡ Active → (answer w (Store kinds.Set key value flags expiration cas) now).reply.status ≡ success → answer w (Store kinds.Set key value flags expiration cas) now ≡ stored w key value flags (stored_expiry expiration now) now
set-stored w key value flags expiration cas now active h =
    let e = at-active w (Store kinds.Set key value flags expiration cas) now active in
    e ∙ set-success w key value flags expiration cas now (ap (λ (a : Answer). a.reply.status) (sym e) ∙ h)

-- a document that isn't deleted is live before its expiry
live-before : (doc : Doc) (now : ℕ) → doc.deleted ≡ false → (doc.expiry ≡ 0) ⊎ (secs now < doc.expiry) → is_live doc now ≡ true
live-before doc now kept (inl none) =
    let test : (doc.expiry == 0) ≡ true = grind (arith, nat_tests) in
    ap (λ b. not b && (doc.expiry == 0 || nat_lt (secs now) doc.expiry)) kept ∙ ap (λ b. b || nat_lt (secs now) doc.expiry) test
live-before doc now kept (inr before) =
    let test : nat_lt (secs now) doc.expiry ≡ true = grind (arith, nat_tests) in
    ap (λ b. not b && (doc.expiry == 0 || nat_lt (secs now) doc.expiry)) kept ∙ ap (λ b. doc.expiry == 0 || b) test ∙ or-true (doc.expiry == 0)

-- a world has the document that was put last
pub get-put : (w : World) (key : List ℕ) (doc : Doc) → get (put w key doc).docs key ≡ Some doc
get-put w key doc = get-insert nat_list_cmp_total w.docs key doc key ∙ ap (λ b. cond b (Some doc) (get w.docs key)) ((eq_by_cmp_equiv nat_list_cmp_total).refl key)

-- and every other as before
pub get-put_other : (w : World) (key other : List ℕ) (doc : Doc) → other ≢ key → get (put w key doc).docs other ≡ get w.docs other
get-put_other w key other doc differ =
    elim (eq_by_cmp (slice_cmp nat_cmp) other key) as (λ b. eq_by_cmp (slice_cmp nat_cmp) other key ≡ b → get (put w key doc).docs other ≡ get w.docs other) [
      | true ↦ λ is. absurd (differ ((bytes_eq-Decides other key).0 (texts_ties other key ∙ is)))
      | false ↦ λ is. get-insert nat_list_cmp_total w.docs key doc other ∙ ap (λ b. cond b (Some doc) (get w.docs other)) is
    ] refl

-- a Get after a put shows the document until it expires
get-shows : (w : World) (key : List ℕ) (doc : Doc) (later : ℕ) → w.state ≡ Active → doc.deleted ≡ false → (doc.expiry ≡ 0) ⊎ (secs later < doc.expiry) → answer (put w key doc) (Get key) later ≡ answer_get (Some doc)
get-shows w key doc later active kept before =
    at-active (put w key doc) (Get key) later active
    ∙ ap (λ o. answer_get (live_of o later)) (get-put w key doc)
    ∙ ap (λ b. answer_get (cond b (Some doc) None)) (live-before doc later kept before)

pub set-read-back : SetIsReadBack
set-read-back w key value flags expiration cas now opened active success = λ later before.
    let e = set-stored w key value flags expiration cas now active success in
    let doc : Doc = next_doc w value flags (stored_expiry expiration now) false now in
    ap (λ (a : Answer). answer (apply w a.effect) (Get key) later) e
    ∙ get-shows w key doc later active refl before
    ∙ ap (λ (a : Answer). found value flags a.reply.cas) (sym e)

pub set-keeps-others : SetKeepsOthers
set-keeps-others w key value flags expiration cas now opened active success = λ other moment differ.
    let e = set-stored w key value flags expiration cas now active success in
    let doc : Doc = next_doc w value flags (stored_expiry expiration now) false now in
    ap (λ (a : Answer). live (apply w a.effect) other moment) e
    ∙ ap (λ o. live_of o moment) (get-put_other w key other doc differ)
