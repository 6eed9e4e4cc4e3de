-- The plain map's documents as a finite map: a lookup finds what the map has, and a document that is put is inserted.
use Rattle.std.proofs.Common.{◌≡◌, ℕ, Bool, true, false, cond, List, [], ◌∷◌, refl, sym, ap, subst, ◌∙◌, ⊎_elim, Vec, Global}
use Rattle.std.proofs.lemmas.Cmp.{eq_by_cmp_equiv}
use Rattle.std.proofs.lemmas.Slice.Eq.{bytes_eq-Decides}
use Rattle.std.specs.Prelude.{Option, Some, None, map}
use Rattle.std.specs.Option.{option_map}
use Rattle.std.specs.Ordering.{nat_cmp, eq_by_cmp}
use Rattle.std.specs.Cmp.Lexicographic.{slice_cmp, nat_list_cmp_total, nat_list_eq_equiv, texts_ties}
use Rattle.std.specs.FinMap.{insert, get, get-insert, get-from_entries, same_map, IsAntisymmetric, slice_cmp-IsAntisymmetric, nat_cmp-IsAntisymmetric}
use Rattle.std.specs.FinMap.Entries.{find}
use Rattle.std.specs.Map.{lookup, IsKeyTest, AreApart, KeepsOthers}
use Rattle.std.specs.HashMap.{HashMap, UpdatesBy}
use Rattle.std.proofs.lemmas.Bool.{cases_Bool, cond-true, cond-false}
use Rattle.std.specs.Str.{bytes_eq}
use Rattle.ep_model.specs.declared.document.Document.{Document}
use Rattle.ep_model.specs.World.{Doc}
use Rattle.ep_model.specs.Plain.{document_data, entry_data, plain_docs}

-- an entry of the hash map
abbrev pub MapEntry : Type 0
MapEntry = Vec ℕ Global × Document

-- the document that a lookup by bytes finds
abbrev pub looked_up : List MapEntry → List ℕ → Option Document
looked_up es q = lookup (λ (k : Vec ℕ Global). bytes_eq q k.items) es

-- only equal keys tie
exact_keys : IsAntisymmetric (slice_cmp nat_cmp)
exact_keys = slice_cmp-IsAntisymmetric nat_cmp-IsAntisymmetric

chosen : (b : Bool) (x y : Option Document) → cond b (option_map document_data x) (option_map document_data y) ≡ option_map document_data (cond b x y)
chosen true x y = refl
chosen false x y = refl

scanned : (es : List MapEntry) (q : List ℕ) → find (slice_cmp nat_cmp) q (map entry_data es) ≡ option_map document_data (looked_up es q)
scanned [] q = refl
scanned (e ∷ es) q =
    ap (λ b. cond b (Some (document_data e.1)) (find (slice_cmp nat_cmp) q (map entry_data es))) (sym (texts_ties q e.0.items))
    ∙ ap (λ o. cond (bytes_eq q e.0.items) (Some (document_data e.1)) o) (scanned es q)
    ∙ chosen (bytes_eq q e.0.items) (Some e.1) (looked_up es q)

-- what the map has under a key is what a lookup finds
pub get-plain_docs : (es : List MapEntry) (q : List ℕ) → get (plain_docs es) q ≡ option_map document_data (looked_up es q)
get-plain_docs es q = get-from_entries nat_list_cmp_total (map entry_data es) q ∙ scanned es q

-- the test by which the hash map looks bytes up, and the one that tells its keys apart
abbrev is_key : List ℕ → Vec ℕ Global → Bool
is_key bytes k = bytes_eq bytes k.items

abbrev are_same : Vec ℕ Global → Vec ℕ Global → Bool
are_same x y = bytes_eq x.items y.items

others : (old new : List MapEntry) (test : Vec ℕ Global → Bool) → KeepsOthers are_same test old new → (other : Vec ℕ Global → Bool) → IsKeyTest are_same other → AreApart test other → lookup other new ≡ lookup other old
unfolding KeepsOthers
others old new test h = h

apart : (key other bytes : List ℕ) → bytes_eq key other ≡ false → bytes_eq key bytes ≡ true → bytes_eq other bytes ≡ false
apart key other bytes n y = nat_list_eq_equiv.symm other bytes ∙ sym (nat_list_eq_equiv.congr key bytes other y) ∙ n

module _ {S : Type 0} where
  -- an update at a key is found there, and nowhere else
  found : (m n : HashMap (Vec ℕ Global) Document S) (key : List ℕ) (w : Option Document) → UpdatesBy are_same (is_key key) m n w → (q : List ℕ) → looked_up n.entries q ≡ cond (bytes_eq key q) w (looked_up m.entries q)
  found m n key w h q =
      ⊎_elim
      (λ y. subst (λ l. looked_up n.entries l ≡ w) ((bytes_eq-Decides key q).0 y) h.1 ∙ sym (cond-true (bytes_eq key q) w (looked_up m.entries q) y))
      (λ no.
      others m.entries n.entries (is_key key) h.3 (is_key q) (λ x y. nat_list_eq_equiv.congr q x.items y.items) (λ k. apart key q k.items no)
      ∙ sym (cond-false (bytes_eq key q) w (looked_up m.entries q) no))
      (cases_Bool (bytes_eq key q))

  -- to update the document of a key is to insert it
  pub plain_docs-put : (m n : HashMap (Vec ℕ Global) Document S) (key : List ℕ) (d : Document) → UpdatesBy are_same (is_key key) m n (Some d) → plain_docs n.entries ≡ insert (plain_docs m.entries) key (document_data d)
  plain_docs-put m n key d h =
      same_map nat_list_cmp_total exact_keys _ _ (λ q.
      get-plain_docs n.entries q ∙ ap (option_map document_data) (found m n key (Some d) h q) ∙ sym (chosen (bytes_eq key q) (Some d) (looked_up m.entries q))
      ∙ ap (λ b. cond b (Some (document_data d)) (option_map document_data (looked_up m.entries q))) (texts_ties key q ∙ (eq_by_cmp_equiv nat_list_cmp_total).symm key q)
      ∙ sym (get-insert nat_list_cmp_total (plain_docs m.entries) key (document_data d) q ∙ ap (cond (eq_by_cmp (slice_cmp nat_cmp) q key) (Some (document_data d))) (get-plain_docs m.entries q)))

  -- the same under a copy of the key
  pub plain_docs-new : (m same n : HashMap (Vec ℕ Global) Document S) (key : List ℕ) (copy : Vec ℕ Global) (d : Document) → same ≡ m → copy.items ≡ key → UpdatesBy are_same (are_same copy) same n (Some d) → plain_docs n.entries ≡ insert (plain_docs m.entries) key (document_data d)
  plain_docs-new m same n key copy d m-is key-is h =
      plain_docs-put same n copy.items d h
      ∙ ap (λ k. insert (plain_docs same.entries) k (document_data d)) key-is
      ∙ ap (λ (x : HashMap (Vec ℕ Global) Document S). insert (plain_docs x.entries) key (document_data d)) m-is
