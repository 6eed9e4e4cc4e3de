-- How fronts grow, seen from whoever holds some parts.
use Rattle.std.proofs.Common.{◌≡◌, ◌≢◌, ℕ, Bool, true, false, List, [], ◌∷◌, ◌++◌, Option, Some, None, sym, ap, ◌∙◌, subst, append_assoc, ⊎_elim, inr}
use Rattle.ep_model.specs.declared.event.PartName.{PartName}
use Rattle.ep_model.specs.declared.data.EventData.{EventData}
use Rattle.ep_model.specs.declared.data.FrontData.{FrontData}
use Rattle.ep_model.specs.declared.data.StartData.{StartData}
use Rattle.ep_model.specs.Front.{with_event, with_events, with_start}
use Rattle.hold_stage.specs.Grows.{Quiet, IsQuiet, IsNone, Grown}
use Rattle.hold_stage.proofs.GrowsLemmas.{quiet_append, quiet_anywhere}
use Rattle.turn_stage.proofs.PartLemmas.{not_both}

-- the history is the front with its own start and with more events
pub grown_is : (f h : FrontData) (held : PartName → Bool) (caller : ℕ) (desk : Bool) (g : Grown f h held caller desk) → h ≡ with_events (with_start f h.start) g.more
grown_is f h held caller desk g = λ i. record { config = g.config i; id = g.id i; start = h.start; events = g.events i }

-- while a part is held, or at the desk, the start stays
pub start_held : (f h : FrontData) (held : PartName → Bool) (caller : ℕ) (desk : Bool) → Grown f h held caller desk → (p : PartName) → held p ≡ true → h.start ≡ f.start
start_held f h held caller desk g p has = ⊎_elim (λ e. e) (λ n. absurd (not_both (held p) has (n.1 p))) g.start

pub start_desk : (f h : FrontData) (held : PartName → Bool) (caller : ℕ) (desk : Bool) → Grown f h held caller desk → desk ≡ true → h.start ≡ f.start
start_desk f h held caller desk g is = ⊎_elim (λ e. e) (λ n. absurd (not_both desk is n.2)) g.start

pub start_put : (f h : FrontData) (held : PartName → Bool) (caller : ℕ) (desk : Bool) → Grown f h held caller desk → f.start ≢ None → h.start ≡ f.start
start_put f h held caller desk g put = ⊎_elim (λ e. e) (λ n. absurd (put n.0)) g.start

pub start_bare : (f h : FrontData) (held : PartName → Bool) (caller : ℕ) (desk : Bool) → Grown f h held caller desk → h.start ≡ None → f.start ≡ None
start_bare f h held caller desk g bare = ⊎_elim (λ e. sym e ∙ bare) (λ n. n.0) g.start

with_own : (f : FrontData) (start : Option StartData) → start ≡ f.start → with_start f start ≡ f
with_own f start e = ap (λ (s : Option StartData). with_start f s) e

pub quiet_own : (f h : FrontData) (held : PartName → Bool) (caller : ℕ) (desk : Bool) (g : Grown f h held caller desk) → h.start ≡ f.start → Quiet f held caller desk g.more
quiet_own f h held caller desk g e = subst (λ (k : FrontData). Quiet k held caller desk g.more) (with_own f h.start e) g.quiet

pub is_more : (f h : FrontData) (held : PartName → Bool) (caller : ℕ) (desk : Bool) (g : Grown f h held caller desk) → h.start ≡ f.start → h ≡ with_events f g.more
is_more f h held caller desk g e = grown_is f h held caller desk g ∙ ap (λ (k : FrontData). with_events k g.more) (with_own f h.start e)

-- one event more
pub grown_noted : (f h : FrontData) (held : PartName → Bool) (caller : ℕ) (desk : Bool) (event : EventData) → Grown f h held caller desk → IsQuiet h held caller desk event → Grown f (with_event h event) held caller desk
grown_noted f h held caller desk event g last = record {
  more = g.more ++ event ∷ [];
  config = g.config;
  id = g.id;
  events = ap (λ (l : List EventData). l ++ event ∷ []) g.events ∙ append_assoc f.events g.more (event ∷ []);
  quiet = quiet_append (with_start f h.start) held caller desk g.more (event ∷ []) g.quiet (subst (λ (k : FrontData). IsQuiet k held caller desk event) (grown_is f h held caller desk g) last, tt);
  start = g.start;
}

-- a start is put while nothing is held
pub grown_begun : (f h : FrontData) (held : PartName → Bool) (caller : ℕ) (desk : Bool) (start : StartData) → Grown f h held caller desk → f.start ≡ None → IsNone held → desk ≡ false → Grown f (with_start h (Some start)) held caller desk
grown_begun f h held caller desk start g bare none not_desk = record {
  more = g.more;
  config = g.config;
  id = g.id;
  events = g.events;
  quiet = quiet_anywhere (with_start f h.start) (with_start f (Some start)) held caller desk g.more none g.quiet;
  start = inr (bare, none, not_desk);
}
