-- What ejecting leaves of each slot.
use Rattle.std.proofs.Common.{◌≡◌, inl, inr, ℕ, suc, zero, ◌∙◌, true, false, List, sym, ap, subst}
use Rattle.std.proofs.lemmas.Bool.{cases_eq}
use Rattle.std.proofs.lemmas.List.{get_or-set_same, get_or-set_other}
use Rattle.std.specs.Prelude.{None}
use Rattle.ep_model.specs.declared.config.Eviction.{Eviction}
use Rattle.hash_stripe.specs.Nodes.{Slot, at, is_keyed, is_ejectable_slot, eject_slot, eject_at, Ejects, EjectsOthers, IsLeft}
use Rattle.hash_stripe.proofs.RoomLemmas.{next-facts, no-more}

-- a slot out of which a document was ejected has none to eject any more
then-left : (e : Eviction) (mark : ℕ) (key : List ℕ) (s mid new : Slot) → is_ejectable_slot mark s ≡ true → is_keyed key s ≡ false → mid ≡ eject_slot e s → IsLeft e mark key mid new → IsLeft e mark key s new
then-left e mark key s mid new may other mid-is (inl same) = inr (may, other, same ∙ mid-is)
then-left e mark key s mid new may other mid-is (inr more) =
    absurd (let gone = ap (is_ejectable_slot mark) mid-is ∙ no-more e mark s in let again = more.0 in cc)

pub left-on : (e : Eviction) (mark : ℕ) (key : List ℕ) (s mid new : Slot) → IsLeft e mark key s mid → IsLeft e mark key mid new → IsLeft e mark key s new
left-on e mark key s mid new (inl same) rest = subst (λ (x : Slot). IsLeft e mark key x new) same rest
left-on e mark key s mid new (inr went) rest = then-left e mark key s mid new went.0 went.1 went.2 rest

slotwise : (e : Eviction) (mark : ℕ) (key : List ℕ) (need n : ℕ) (old new : List Slot) → Ejects e mark key need n old new → (i : ℕ) → IsLeft e mark key (at old i) (at new i)
slotwise e mark key need zero old new same i = inl (ap (λ (s : List Slot). at s i) same)
slotwise e mark key need (suc n) old new chain i =
    let slot = chain.0 in
    let next = next-facts mark key old slot chain.1 in
    let rest = slotwise e mark key need n (eject_at e old slot) new chain.3 i in
    elim (cases_eq i slot) [
      | inl here ↦ subst (λ (k : ℕ). IsLeft e mark key (at old k) (at new k)) (sym here)
          (then-left e mark key (at old slot) (at (eject_at e old slot) slot) (at new slot) next.may next.other
          (get_or-set_same old slot (eject_slot e (at old slot)) None next.inside)
          (subst (λ (k : ℕ). IsLeft e mark key (at (eject_at e old slot) k) (at new k)) here rest))
      | inr apart ↦ subst (λ (s : Slot). IsLeft e mark key s (at new i)) (get_or-set_other old slot i (eject_slot e (at old slot)) None apart) rest
    ]

pub ejecting-left : (e : Eviction) (mark : ℕ) (key : List ℕ) (need : ℕ) (old new : List Slot) → EjectsOthers e mark key need old new → (i : ℕ) → IsLeft e mark key (at old i) (at new i)
ejecting-left e mark key need old new ejects i = slotwise e mark key need ejects.count old new ejects.chain i
