-- Desks, batches and calls that wait, while others note events; and parts that have nothing.
use Rattle.std.proofs.Common.{◌≡◌, inl, inr, ℕ, ◌<◌, ◌≤◌, false, [], ◌∷◌, ◌++◌, sym, ap, subst, ◌∙◌, arith}
use Rattle.std.specs.Prelude.{Option, Some, None, IfSome}
use Rattle.std.specs.Option.{option_map}
use Rattle.std.specs.FinMap.{get}
use Rattle.ep_model.specs.declared.data.EventData.{EventData}
use Rattle.ep_model.specs.declared.data.EventData.TheVariants.{Called, Refused, Expired, Persisted, Marked, Asked, ReadFailed, Opened}
use Rattle.ep_model.specs.declared.data.FrontData.{FrontData}
use Rattle.ep_model.specs.World.{World}
use Rattle.ep_model.specs.Front.{begun, world_of, with_event}
use Rattle.ep_model.specs.Legal.{IsSilent, IsLegal}
use Rattle.hold_stage.specs.Histories.{IsReached, world_at}
use Rattle.hold_stage.specs.Numbers.{numbers_of}
use Rattle.hold_stage.specs.Touches.{is_of, is_desks}
use Rattle.hold_stage.proofs.LaterLemmas.{same_told, world_step, all_append}
use Rattle.hold_stage.proofs.LegalLemmas.{has_more}
use Rattle.hold_stage.proofs.MutationLemmas.{upto_append}
use Rattle.hold_stage.proofs.BoundLemmas.{legal_bounds}
use Rattle.hold_stage.proofs.RisesLemmas.{high_rises, opened_stays}
use Rattle.hold_stage.proofs.HistoryLemmas.{others_leave_desk}
use Rattle.hold_stage.proofs.ViewLemmas.{not_same}
use Rattle.kv_keeper.specs.declared.data.BatchData.{BatchData}
use Rattle.kv_keeper.specs.declared.data.DeskData.{DeskData}
use Rattle.kv_keeper.specs.Batch.{laid}
use Rattle.kv_keeper.specs.Content.{Content}
use Rattle.vb_front.specs.Desks.{HoldsIfTold, ContentStands, IsDoubtWithin, DeskStands, BatchStands}
use Rattle.hold_stage.specs.Waits.{IsFaultWithin}
use Rattle.vb_front.specs.Laws.{DesksStandOn, BatchesStandOn, BatchesStandAbove, DesksStore, DesksFail, PriorsStandOn}

no_fault : (faults : ℕ) (event : EventData) → is_desks event ≡ false → IsFaultWithin faults event
unfolding is_desks
no_fault faults (Called caller call now reply value) test = tt
no_fault faults (Refused caller call now cause) test = tt
no_fault faults (Expired key now) test = tt
no_fault faults (Persisted number) test = tt
no_fault faults (Marked stripe number) test = tt
no_fault faults (Asked ticket caller call) test = tt
no_fault faults (ReadFailed ticket fault) test = absurd (cc)
no_fault faults Opened test = tt

module _ (f : FrontData) (event : EventData) (desk : DeskData) (legal : IsLegal f) (s : DeskStands f desk) where
  reached : (number : ℕ) → desk.stored ≤ number → number ≤ (world_of f).high → IsReached f number
  reached number low top = record { low = let b = (legal_bounds f legal).start in let n = s.noted in let l = s.low in omega arith; top = top }

  at_number : (number : ℕ) → IsReached f number → world_at (with_event f event) number ≡ world_at f number
  at_number number r = upto_append (begun f) f.events (event ∷ []) number r.low r.top

  content_later : (content : Option Content) (number : ℕ) → IsReached f number → HoldsIfTold f content number
      → HoldsIfTold (with_event f event) content number
  content_later None number r h = tt
  content_later (Some c) number r h =
      let same = at_number number r in
      record { docs = h.docs ∙ sym (ap (λ (w : World). w.docs) same); version = h.version; high = h.high; maxcas = h.maxcas ∙ sym (ap (λ (w : World). w.maxcas) same) }

  shows_later : (doubt : Option ℕ) → IfSome doubt (IsDoubtWithin f desk.stored) → desk.stored ≤ (world_of f).high
      → ContentStands f desk.keeper desk.stored doubt → ContentStands (with_event f event) desk.keeper desk.stored doubt
  shows_later None within top h = content_later desk.keeper.content desk.stored (reached desk.stored (omega arith) top) h
  shows_later (Some n) within top h =
      let low = reached desk.stored (omega arith) top in
      let high = reached n within.above within.top in
      elim h as (λ _. ContentStands (with_event f event) desk.keeper desk.stored (Some n)) [
        | inl p ↦ inl (content_later desk.keeper.content desk.stored low p.0, content_later desk.keeper.second n high p.1)
        | inr p ↦ inr (content_later desk.keeper.content n high p.0, content_later desk.keeper.second desk.stored low p.1)
      ]

  doubt_later : (doubt : Option ℕ) → IfSome doubt (IsDoubtWithin f desk.stored)
      → IfSome doubt (IsDoubtWithin (with_event f event) desk.stored)
  doubt_later None h = tt
  doubt_later (Some n) h = record { above = h.above; top = let a = h.top in let b = high_rises f event in omega arith }

  -- a desk that has noted so much behind an event
  noted_later : (noted : ℕ) → noted ≡ (world_of (with_event f event)).persisted → noted ≤ desk.stored
      → IsFaultWithin desk.read_faults event → DeskStands (with_event f event) (record desk { noted = noted })
  noted_later noted is low fault = record {
    noted = is;
    low = low;
    sure = s.sure;
    top = λ some. let a = s.top some in let b = high_rises f event in omega arith;
    doubt = λ some. doubt_later desk.doubt (s.doubt some);
    faults = all_append (IsFaultWithin desk.read_faults) f.events (event ∷ []) s.faults (fault, tt);
    shown = λ some told.
        let h = s.shown some (sym (same_told f event) ∙ told) in
        record { tells = h.tells; both = h.both; holds = shows_later desk.doubt (s.doubt some) (s.top some) h.holds };
  }

  -- and one that has noted nothing more
  same_later : (world_of (with_event f event)).persisted ≡ (world_of f).persisted → IsFaultWithin desk.read_faults event
      → DeskStands (with_event f event) desk
  same_later same fault =
      let d = noted_later desk.noted (s.noted ∙ sym same) s.low fault in
      record { noted = d.noted; low = d.low; sure = d.sure; top = d.top; doubt = d.doubt; faults = d.faults; shown = λ some told. let h = d.shown some told in record { tells = h.tells; both = h.both; holds = h.holds } }

  batch_later : (batch : BatchData) → (world_of (with_event f event)).persisted < batch.to → BatchStands f desk batch
      → BatchStands (with_event f event) desk batch
  batch_later batch above b =
      let low = at_number desk.stored (reached desk.stored (omega arith) (let l = b.low in let t = b.top in omega arith)) in
      let high = at_number batch.to (reached batch.to b.low b.top) in
      record {
        sure = b.sure;
        opened = opened_stays f event b.opened;
        above = above;
        low = b.low;
        top = let a = b.top in let r = high_rises f event in omega arith;
        maxcas = b.maxcas ∙ sym (ap (λ (w : World). w.maxcas) high);
        numbers = λ key.
            ap (λ (w : World). option_map numbers_of (get (laid batch.rows w.docs) key)) low ∙ b.numbers key
            ∙ sym (ap (λ (w : World). option_map numbers_of (get w.docs key)) high);
        shown = λ told.
            ap (λ (w : World). laid batch.rows w.docs) low ∙ b.shown (sym (same_told f event) ∙ told) ∙ sym (ap (λ (w : World). w.docs) high);
      }

pub desks_stand_on : DesksStandOn
desks_stand_on f event desk legal apart s =
    same_later f event desk legal s (others_leave_desk f event apart).stored (no_fault desk.read_faults event apart)

pub batches_stand_above : BatchesStandAbove
batches_stand_above f event desk batch legal above s b = batch_later f event desk legal s batch above b

pub batches_stand_on : BatchesStandOn
batches_stand_on f event desk batch legal apart s b =
    batch_later f event desk legal s batch (subst (λ n. n < batch.to) (sym (others_leave_desk f event apart).stored) b.above) b

pub desks_store : DesksStore
desks_store f desk legal s =
    let event = Persisted desk.stored in
    noted_later f event desk legal s desk.stored (sym (ap (λ (w : World). w.persisted) (world_step f event))) (omega arith) tt

pub desks_fail : DesksFail
desks_fail f desk ticket fault legal low top s =
    let event = ReadFailed ticket fault in
    same_later f event desk legal s (ap (λ (w : World). w.persisted) (world_step f event)) (low, top)

silent : (caller : ℕ) (event : EventData) → is_of caller event ≡ false → IsSilent caller event
unfolding is_of
silent caller (Called other call now reply value) test = not_same other caller test
silent caller (Refused other call now cause) test = not_same other caller test
silent caller (Expired key now) test = tt
silent caller (Persisted number) test = tt
silent caller (Marked stripe number) test = tt
silent caller (Asked ticket other call) test = tt
silent caller (ReadFailed ticket fault) test = tt
silent caller Opened test = tt

pub priors_stand_on : PriorsStandOn
priors_stand_on f event caller call ticket apart p = record {
  before = p.before;
  later = p.later ++ event ∷ [];
  asked = has_more f.events p.before p.later (Asked ticket caller call) event p.asked;
  silent = all_append (IsSilent caller) p.later (event ∷ []) p.silent (silent caller event apart, tt);
}
