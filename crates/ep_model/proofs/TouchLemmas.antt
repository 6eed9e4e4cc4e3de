-- A Get-and-touch that changes the expiry: its answer, and what it leaves.
use Rattle.std.proofs.Common.{◌≡◌, ◌≢◌, ℕ, ◌+◌, Bool, true, false, cond, List, [], ◌++◌, length, sym, ap, subst, ◌∙◌, arith}
use Rattle.std.specs.Prelude.{◌==◌, Some, None, Ok}
use Rattle.std.specs.FinMap.{get}
use Rattle.std.proofs.lemmas.Bool.Decides.{nat_tests}
use Rattle.ep_model.specs.declared.call.Reply.{Reply}
use Rattle.ep_model.specs.declared.data.OutData.{OutData}
use Rattle.ep_model.specs.World.{Doc, World, live, stored_expiry, next_doc, put}
use Rattle.ep_model.specs.Refusals.{number_refusal}
use Rattle.ep_model.specs.Answer.{Answer, unless, shows, put_success, shown_flags, shown_value, answer_touch}
use Rattle.ep_model.specs.Plain.{Does, Serves, value_of}
use Rattle.ep_model.proofs.ReadBackLemmas.{get-put}

-- two numbers that differ fail the test
differ-test : (a b : ℕ) → a ≢ b → (a == b) ≡ false
differ-test a b differ = grind (arith, nat_tests)

-- where the stored expiry differs and the numbers last, the document is put
touch-puts : (fetch : Bool) (w : World) (key : List ℕ) (expiration now expiry : ℕ) (doc : Doc) → Some doc ≡ live w key now → expiry ≡ stored_expiry expiration now → expiry ≢ doc.expiry → number_refusal w.high ≡ None → answer_touch fetch w key expiration now (live w key now) ≡ put_success w key (next_doc w doc.value doc.flags expiry false now) (shown_flags fetch doc) (shown_value fetch doc)
touch-puts fetch w key expiration now expiry doc live-is expiry-is differs room =
    let done = λ (e : ℕ). put_success w key (next_doc w doc.value doc.flags e false now) (shown_flags fetch doc) (shown_value fetch doc) in
    let same = shows doc.cas (shown_flags fetch doc) (shown_value fetch doc) in
    ap (answer_touch fetch w key expiration now) (sym live-is)
    ∙ ap (λ (e : ℕ). cond (e == doc.expiry) same (unless (number_refusal w.high) (done e))) (sym expiry-is)
    ∙ ap (λ b. cond b same (unless (number_refusal w.high) (done expiry))) (differ-test expiry doc.expiry differs)
    ∙ ap (λ o. unless o (done expiry)) room

-- and where the value that then stands is shown, the call is served
pub touch-fetched : (fetch : Bool) (w new : World) (key value : List ℕ) (expiration now expiry shown : ℕ) (doc : Doc) (reply : Reply) (out more : OutData) → fetch ≡ true → Some doc ≡ live w key now → expiry ≡ stored_expiry expiration now → expiry ≢ doc.expiry → number_refusal w.high ≡ None → value ≡ doc.value → shown ≡ shown_flags fetch doc → Does (put_success w key (next_doc w value doc.flags expiry false now) shown []) w new (Ok reply) → more.bytes ≡ out.bytes ++ value_of (get new.docs key) → more.spare + length more.bytes ≡ out.spare + length out.bytes → Serves (answer_touch fetch w key expiration now (live w key now)) w new out more (Ok reply)
touch-fetched fetch w new key value expiration now expiry shown doc reply out more fetched live-is expiry-is differs room value-is shown-is does bytes spare =
    let e = touch-puts fetch w key expiration now expiry doc live-is expiry-is differs room in
    let written = next_doc w value doc.flags expiry false now in
    let stands : value_of (get new.docs key) ≡ value = ap (λ (v : World). value_of (get v.docs key)) does.2 ∙ ap value_of (get-put w key written) in
    let shows-all : shown_value fetch doc ≡ doc.value = ap (λ b. shown_value b doc) fetched in
    subst (λ (a : Answer). Serves a w new out more (Ok reply)) (sym e) (
      does.0 ∙ ap (λ f. (put_success w key written f []).reply) shown-is,
      bytes ∙ ap (λ xs. out.bytes ++ xs) (stands ∙ value-is ∙ sym shows-all),
      does.2 ∙ ap (λ xs. put w key (next_doc w xs doc.flags expiry false now)) value-is,
      spare,
    )
