-- Laws of histories and of answers.
use Rattle.std.specs.Prelude.{◌≡◌, ◌≢◌, ◌<◌, ◌^◌, ◌⊎◌, ℕ, true, List, [], Option, Some, decimal}
use Rattle.ep_model.specs.declared.call.VbState.TheVariants.{Active}
use Rattle.ep_model.specs.declared.call.StoreKind.TheVariants as kinds
use Rattle.ep_model.specs.declared.data.CallData.TheVariants.{Get, Store}
use Rattle.ep_model.specs.declared.data.EventData.{EventData}
use Rattle.ep_model.specs.Statuses.{success}
use Rattle.ep_model.specs.World.{World, live, secs, stored_expiry}
use Rattle.ep_model.specs.Answer.{Answer, Nothing, bare_reply, answer, apply}
use Rattle.ep_model.specs.Decimal.{number_of}
use Rattle.ep_model.specs.declared.config.Config.{Config}
use Rattle.ep_model.specs.declared.data.FrontData.{FrontData}
use Rattle.ep_model.specs.declared.data.StartData.{StartData}
use Rattle.ep_model.specs.Front.{with_event, with_events}
use Rattle.ep_model.specs.Legal.{May, AreLegal, IsLegal}

-- a legal history stays legal with one more event that may happen
abbrev pub LegalHistoriesGrow : Type 0
LegalHistoriesGrow = (f : FrontData) (event : EventData) → IsLegal f → May f event → IsLegal (with_event f event)

-- the front of a legal history is legal, and what stands behind it may stand there
abbrev pub FrontsAreLegal : Type 0
FrontsAreLegal = (f : FrontData) (more : List EventData) → IsLegal (with_events f more) → IsLegal f × AreLegal f more

-- nothing is illegal before anything happened
abbrev pub BareFrontsAreLegal : Type 0
BareFrontsAreLegal = (config : Config) (id : ℕ) (start : Option StartData) → IsLegal (record { config = config; id = id; start = start; events = [] })

-- what a Get is answered that finds this value
abbrev pub found : List ℕ → ℕ → ℕ → Answer
found value flags cas = record { reply = record (bare_reply success) { cas = cas; flags = flags }; value = value; effect = Nothing }

-- this world has the value under the key until it expires
abbrev pub IsReadBack : World → List ℕ → List ℕ → ℕ → ℕ → ℕ → Type 0
IsReadBack w key value flags expiry cas = (later : ℕ) → (expiry ≡ 0) ⊎ (secs later < expiry) → answer w (Get key) later ≡ found value flags cas

-- under each other key a world has at each moment what another has
abbrev pub KeepsOthers : World → World → List ℕ → Type 0
KeepsOthers old new key = (other : List ℕ) (moment : ℕ) → other ≢ key → live new other moment ≡ live old other moment

-- what a successful Set stores is read back under the CAS of its reply
abbrev pub SetIsReadBack : Type 0
SetIsReadBack =
    (w : World) (key value : List ℕ) (flags expiration cas now : ℕ) → w.opened ≡ true → w.state ≡ Active →
    (answer w (Store kinds.Set key value flags expiration cas) now).reply.status ≡ success →
    let given = answer w (Store kinds.Set key value flags expiration cas) now in
    IsReadBack (apply w given.effect) key value flags (stored_expiry expiration now) given.reply.cas

-- a successful Set leaves every other key as it was
abbrev pub SetKeepsOthers : Type 0
SetKeepsOthers =
    (w : World) (key value : List ℕ) (flags expiration cas now : ℕ) → w.opened ≡ true → w.state ≡ Active →
    (answer w (Store kinds.Set key value flags expiration cas) now).reply.status ≡ success →
    KeepsOthers w (apply w (answer w (Store kinds.Set key value flags expiration cas) now).effect) key

-- the text of a number below 2^64 is read as that number
abbrev pub DecimalIsReadBack : Type 0
DecimalIsReadBack = (n : ℕ) → n < 2 ^ 64 → number_of (decimal n) ≡ Some n
