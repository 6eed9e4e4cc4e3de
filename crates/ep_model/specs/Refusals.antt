-- By which status a call is refused, if it is. A live document is seen here as its CAS alone.
use Rattle.std.specs.Prelude.{ℕ, ◌+◌, nat_lt, Bool, true, false, ◌==◌, ◌||◌, not, if◌then◌else◌, Option, Some, None}
use Rattle.ep_model.specs.declared.call.VbState.{VbState}
use Rattle.ep_model.specs.declared.call.VbState.TheVariants.{Active}
use Rattle.ep_model.specs.declared.call.StoreKind.{StoreKind}
use Rattle.ep_model.specs.declared.call.StoreKind.TheVariants.{Set, Add, Replace}
use Rattle.ep_model.specs.Limits.{max_value}
use Rattle.ep_model.specs.Statuses.{key_not_found, key_exists, too_large, not_my_vbucket, out_of_range}
use Rattle.ep_model.specs.World.{blocks, last_seqno}

-- A call with a key wants an active vBucket.
abbrev pub state_refusal : VbState → Bool → Option ℕ
state_refusal Active keyed = None
state_refusal state keyed = if keyed then Some not_my_vbucket else None

-- A document whose key and value have these lengths may take too many blocks.
abbrev pub size_refusal : ℕ → ℕ → ℕ → Option ℕ
size_refusal fit key_len value_len = if nat_lt fit (blocks key_len + blocks value_len) then Some too_large else None

-- A joined value may be too long besides.
abbrev pub join_refusal : ℕ → ℕ → ℕ → Option ℕ
join_refusal fit key_len value_len = if nat_lt max_value value_len then Some too_large else size_refusal fit key_len value_len

-- A request's CAS that isn't 0 asks for a live document that has it.
abbrev pub cas_refusal : ℕ → Option ℕ → Option ℕ
cas_refusal cas None = if cas == 0 then None else Some key_not_found
cas_refusal cas (Some current) = if cas == 0 || cas == current then None else Some key_exists

-- A live document is wanted, and it goes by the CAS.
abbrev pub wanted_refusal : ℕ → Option ℕ → Option ℕ
wanted_refusal cas None = Some key_not_found
wanted_refusal cas (Some current) = cas_refusal cas (Some current)

-- Set goes by the CAS. Add wants no live document, and its CAS isn't read. Replace wants one.
abbrev pub store_refusal : StoreKind → ℕ → Option ℕ → Option ℕ
store_refusal Set cas current = cas_refusal cas current
store_refusal Add cas None = None
store_refusal Add cas (Some current) = Some key_exists
store_refusal Replace cas current = wanted_refusal cas current

-- A counter that isn't there is made only without a CAS, and under no expiration of 0xffffffff.
abbrev pub new_count_refusal : ℕ → ℕ → Option ℕ
new_count_refusal cas expiration = if not (cas == 0) || expiration == 0xffffffff then Some key_not_found else None

-- The sequence numbers may have run out.
abbrev pub number_refusal : ℕ → Option ℕ
number_refusal high = if high == last_seqno then Some out_of_range else None
