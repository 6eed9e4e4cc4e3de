-- The code of worlds, by which a proof tells them apart.
use Rattle.std.specs.Prelude.{◌≡◌, ℕ, Bool, true, false, List, refl}
use Rattle.std.specs.FinMap as map
use Rattle.std.specs.Coded.{Coded, code_by, coded×, coded_ℕ, coded_bool, coded_list}
use Rattle.ep_model.specs.declared.call.VbState.{VbState}
use Rattle.ep_model.specs.declared.call.VbState.TheVariants.{Active, Replica, Pending, Dead}
use Rattle.ep_model.specs.declared.config.Eviction.{Eviction}
use Rattle.ep_model.specs.declared.config.Eviction.TheVariants.{Value, Full}
use Rattle.ep_model.specs.World.{Doc, Docs, World, blank_doc}

-- a key
abbrev pub coded_key : Coded (List ℕ)
coded_key = coded_list coded_ℕ

-- what is stored of a document
abbrev pub coded_doc : Coded Doc
coded_doc = code_by (List ℕ × (ℕ × (ℕ × (ℕ × (ℕ × Bool)))))
    (coded× coded_key (coded× coded_ℕ (coded× coded_ℕ (coded× coded_ℕ (coded× coded_ℕ coded_bool)))))
    (λ d. (d.value, (d.flags, (d.expiry, (d.cas, (d.seqno, d.deleted))))))
    (λ t. record blank_doc { value = t.0; flags = t.1.0; expiry = t.1.1.0; cas = t.1.1.1.0; seqno = t.1.1.1.1.0; deleted = t.1.1.1.1.1 })
    (λ _. refl)

abbrev state_number : VbState → Bool × Bool
state_number Active = (true, true)
state_number Replica = (true, false)
state_number Pending = (false, true)
state_number Dead = (false, false)

abbrev numbered_state : Bool × Bool → VbState
numbered_state (true, true) = Active
numbered_state (true, false) = Replica
numbered_state (false, true) = Pending
numbered_state (false, false) = Dead

pub numbered_state-state_number : (state : VbState) → numbered_state (state_number state) ≡ state
numbered_state-state_number Active = refl
numbered_state-state_number Replica = refl
numbered_state-state_number Pending = refl
numbered_state-state_number Dead = refl

abbrev coded_state : Coded VbState
coded_state = code_by (Bool × Bool) (coded× coded_bool coded_bool) state_number numbered_state numbered_state-state_number

abbrev is_value : Eviction → Bool
is_value Value = true
is_value Full = false

abbrev eviction_by : Bool → Eviction
eviction_by true = Value
eviction_by false = Full

pub eviction_by-is_value : (eviction : Eviction) → eviction_by (is_value eviction) ≡ eviction
eviction_by-is_value Value = refl
eviction_by-is_value Full = refl

abbrev coded_eviction : Coded Eviction
coded_eviction = code_by Bool coded_bool is_value eviction_by eviction_by-is_value

-- what is stored of a world, what becomes of it, and its layout
abbrev pub coded_world : Coded World
coded_world = code_by ((Docs × (ℕ × ℕ)) × ((VbState × (List (ℕ × ℕ) × (ℕ × Bool))) × (ℕ × (Bool × (ℕ × (Eviction × ℕ))))))
    (coded× (coded× (map.code coded_key coded_doc) (coded× coded_ℕ coded_ℕ))
    (coded× (coded× coded_state (coded× (coded_list (coded× coded_ℕ coded_ℕ)) (coded× coded_ℕ coded_bool)))
    (coded× coded_ℕ (coded× coded_bool (coded× coded_ℕ (coded× coded_eviction coded_ℕ))))))
    (λ w. ((w.docs, (w.high, w.maxcas)), ((w.state, (w.failovers, (w.persisted, w.opened))), (w.id, (w.told, (w.stripes, (w.eviction, w.fit)))))))
    (λ t. record {
      docs = t.0.0;
      high = t.0.1.0;
      maxcas = t.0.1.1;
      state = t.1.0.0;
      failovers = t.1.0.1.0;
      persisted = t.1.0.1.1.0;
      opened = t.1.0.1.1.1;
      id = t.1.1.0;
      told = t.1.1.1.0;
      stripes = t.1.1.1.1.0;
      eviction = t.1.1.1.1.1.0;
      fit = t.1.1.1.1.1.1;
    })
    (λ _. refl)
