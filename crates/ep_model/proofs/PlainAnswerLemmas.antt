-- A world whose documents stand in a plain list: what a scan of that list finds, and what a put leaves.
use Rattle.std.proofs.Common.{◌≡◌, ◌<◌, ℕ, List, [], ◌∷◌, ◌++◌, length, get_or, refl, sym, ap, ◌∙◌, append_assoc}
use Rattle.std.specs.Prelude.{Option, Some, None, slice_get, option_and_then}
use Rattle.std.specs.Option.{option_map}
use Rattle.std.proofs.lemmas.Option.{slice_get_read}
use Rattle.std.specs.FinMap.{get, insert}
use Rattle.ep_model.specs.declared.call.VbState.{VbState}
use Rattle.ep_model.specs.declared.document.Document.{Document}
use Rattle.ep_model.specs.World.{Doc, Docs, World, live, live_of, put}
use Rattle.std.specs.Int.{w16, w64, to_be_bytes}
use Rattle.ep_model.specs.Answer.{answer_observe}
use Rattle.ep_model.specs.Plain.{plain_docs, plain_world}
use Rattle.ep_model.proofs.PlainLemmas.{MapEntry}

-- the world of a list whose documents are those before with one inserted
pub world-put : (w : World) (id fit : ℕ) (state : VbState) (ds new : List MapEntry) (high maxcas : ℕ) (key k : List ℕ) (doc d : Doc) → plain_world id fit state ds high maxcas ≡ w → plain_docs new ≡ insert (plain_docs ds) k d → k ≡ key → d ≡ doc → plain_world id fit state new doc.seqno doc.cas ≡ put w key doc
world-put w id fit state ds new high maxcas key k doc d w-is new-is key-is doc-is =
    ap (λ (m : Docs). record (plain_world id fit state new doc.seqno doc.cas) { docs = m }) (new-is ∙ ap (λ x. insert (plain_docs ds) x d) key-is ∙ ap (λ x. insert (plain_docs ds) key x) doc-is)
    ∙ ap (λ x. put x key doc) w-is

-- what ObserveSeqno shows of a plain list
pub observe-value : (w : World) (id fit : ℕ) (state : VbState) (ds : List MapEntry) (high maxcas uuid : ℕ) → plain_world id fit state ds high maxcas ≡ w → uuid ≡ 0 → (answer_observe w uuid).value ≡ (0 ∷ []) ++ to_be_bytes w16 id ++ to_be_bytes w64 0 ++ to_be_bytes w64 0 ++ to_be_bytes w64 high
observe-value w id fit state ds high maxcas uuid w-is uuid-is =
    ap (λ (v : World). (answer_observe v uuid).value) (sym w-is)
    ∙ ap (λ u. (answer_observe (plain_world id fit state ds high maxcas) u).value) uuid-is

-- five pieces that are pushed one after another
pub five-pushes : (old a b c d e r s t u n₁ n₂ n₃ n₄ n₅ : List ℕ) → n₁ ≡ old ++ a → n₂ ≡ n₁ ++ r → r ≡ b → n₃ ≡ n₂ ++ s → s ≡ c → n₄ ≡ n₃ ++ t → t ≡ d → n₅ ≡ n₄ ++ u → u ≡ e → n₅ ≡ old ++ (a ++ b ++ c ++ d ++ e)
five-pushes old a b c d e r s t u n₁ n₂ n₃ n₄ n₅ first second r-is third s-is fourth t-is fifth u-is =
    fifth ∙ ap (λ xs. xs ++ u) (fourth ∙ ap (λ xs. xs ++ t) (third ∙ ap (λ xs. xs ++ s) (second ∙ ap (λ xs. xs ++ r) first)))
    ∙ ap (λ xs. (((((old ++ a) ++ xs) ++ s) ++ t) ++ u)) r-is
    ∙ ap (λ xs. (((((old ++ a) ++ b) ++ xs) ++ t) ++ u)) s-is
    ∙ ap (λ xs. (((((old ++ a) ++ b) ++ c) ++ xs) ++ u)) t-is
    ∙ ap (λ xs. (((((old ++ a) ++ b) ++ c) ++ d) ++ xs)) u-is
    ∙ simp append_assoc
