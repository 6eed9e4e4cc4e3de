-- Whether a call needs the old document, and whether it is refused without it.
use Rattle.std.specs.Prelude.{ℕ, Bool, true, false, not, ◌==◌, List, length, Option, Some, None}
use Rattle.ep_model.specs.declared.call.StoreKind.{StoreKind}
use Rattle.ep_model.specs.declared.call.StoreKind.TheVariants.{Set, Add, Replace}
use Rattle.ep_model.specs.declared.config.Eviction.{Eviction}
use Rattle.ep_model.specs.declared.config.Eviction.TheVariants.{Value, Full}
use Rattle.ep_model.specs.declared.data.CallData.{CallData}
use Rattle.ep_model.specs.declared.data.CallData.TheVariants as calls
use Rattle.ep_model.specs.Refusals.{size_refusal}

-- Under full eviction what memory has of a document may be nothing, so that a call which goes by the old one's CAS,
-- or by whether there is one, needs it.
abbrev pub needs_store : Eviction → StoreKind → ℕ → Bool
needs_store Value kind cas = false
needs_store Full Set cas = not (cas == 0)
needs_store Full Add cas = true
needs_store Full Replace cas = true

abbrev pub needs_delete : Eviction → Bool
needs_delete Value = false
needs_delete Full = true

-- the status by which a call is refused whatever the old document is: what it is to store is too large
abbrev pub own_refusal : ℕ → CallData → Option ℕ
own_refusal fit (calls.Store kind key value flags expiration cas) = size_refusal fit (length key) (length value)
own_refusal fit call = None

-- whether a call needs the old document, beyond what value eviction leaves of it
abbrev pub needs : Eviction → CallData → Bool
needs eviction (calls.Get key) = true
needs eviction (calls.Store kind key value flags expiration cas) = needs_store eviction kind cas
needs eviction (calls.Join front key value cas) = true
needs eviction (calls.Count down key delta initial expiration cas) = true
needs eviction (calls.Delete key cas) = needs_delete eviction
needs eviction (calls.Touch key expiration fetch) = true
needs eviction call = false
