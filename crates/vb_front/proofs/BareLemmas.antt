-- What a call comes to on its parts has a value only where it is answered.
use Rattle.std.proofs.Common.{◌≡◌, ℕ, Bool, true, false, cond, List, [], length, refl, sym, subst}
use Rattle.std.specs.Prelude.{Option, Some, None, ◌&&◌}
use Rattle.ep_model.specs.declared.event.Cause.TheVariants as causes
use Rattle.ep_model.specs.declared.event.Ticket.{Ticket}
use Rattle.ep_model.specs.declared.data.CallData.{CallData}
use Rattle.ep_model.specs.World.{Doc, live_of}
use Rattle.ep_model.specs.Needs.{needs, own_refusal}
use Rattle.ep_model.specs.Refusals.{state_refusal}
use Rattle.ep_model.specs.Answer.{Answer, Effect, Nothing, Puts, Sets, answer_row}
use Rattle.hash_stripe.specs.declared.found.Found.{Found}
use Rattle.hash_stripe.specs.Nodes.{node_at}
use Rattle.hash_stripe.specs.Stripes.{found}
use Rattle.fetch_book.specs.Books.{is_full, next_ticket}
use Rattle.ckpt_manager.specs.declared.data.QueueData.{QueueData}
use Rattle.vb_front.specs.declared.part.StripePart.{StripePart}
use Rattle.vb_front.specs.declared.step.Step.{Step}
use Rattle.vb_front.specs.declared.step.Step.TheVariants as steps
use Rattle.vb_front.specs.declared.wait.Meaning.{Meaning}
use Rattle.vb_front.specs.declared.wait.Meaning.TheVariants as waits
use Rattle.vb_front.specs.Waits.{Memory, Known, Away, memory_of, waited, release}
use Rattle.vb_front.specs.Reads.{Read, read_refused, read_waits, read_memory, read_active, read_step}
use Rattle.vb_front.specs.Writes.{shown_world, seen_meta, shown_doc, text_at, is_away, row_of, Stays, Write, write_refused, lacks_room, write_put, write_effect, write_over, write_crowded, write_waits, write_found, write_active, write_step}
use Rattle.vb_front.specs.Controls.{Control, queue_world, control_done, control_step}
use Rattle.vb_front.specs.Tries.{IsStepValue}

-- a Get
abbrev IsBareRead : Read → Type 0
IsBareRead r = IsStepValue r.step r.value

either_read : (b : Bool) (x y : Read) → IsBareRead x → IsBareRead y → IsBareRead (cond b x y)
either_read true x y p q = p
either_read false x y p q = q

asks_bare : (b : Bool) (ticket : Ticket) → IsStepValue (cond b steps.FetchFull (steps.Fetch ticket)) []
asks_bare true ticket = refl
asks_bare false ticket = refl

read_waits_bare : (part : StripePart) (prior : Option Ticket) (key : List ℕ) (w : Meaning) → IsBareRead (read_waits part prior key w)
read_waits_bare part prior key (waits.Waits ticket) = refl
read_waits_bare part prior key waits.Asks = asks_bare (is_full (release part.book prior)) (next_ticket (release part.book prior))
read_waits_bare part prior key waits.Absent = tt
read_waits_bare part prior key (waits.Refused cause) = refl

read_memory_bare : (part : StripePart) (prior : Option Ticket) (key : List ℕ) (now : ℕ) (m : Memory) → IsBareRead (read_memory part prior key now m)
read_memory_bare part prior key now (Known doc) = tt
read_memory_bare part prior key now Away = read_waits_bare part prior key (waited part.table part.book key prior)

read_active_bare : (part : StripePart) (prior : Option Ticket) (key : List ℕ) (now : ℕ) (o : Option ℕ) → IsBareRead (read_active part prior key now o)
read_active_bare part prior key now None = read_memory_bare part prior key now (memory_of part.table key)
read_active_bare part prior key now (Some status) = tt

pub read_bare : (part : StripePart) (prior : Option Ticket) (key : List ℕ) (now : ℕ) (step : Step) (value : List ℕ) → step ≡ (read_step part prior key now).step → value ≡ (read_step part prior key now).value → IsStepValue step value
read_bare part prior key now step value step-is value-is =
    let r = read_step part prior key now in
    subst (λ (v : List ℕ). IsStepValue step v) (sym value-is) (subst (λ (t : Step). IsStepValue t r.value) (sym step-is)
    (either_read part.table.opened (read_active part prior key now (state_refusal part.table.state true)) (read_refused part prior causes.Warming) (read_active_bare part prior key now (state_refusal part.table.state true)) refl))

-- a call that may put a document
abbrev IsBareWrite : Write → Type 0
IsBareWrite w = IsStepValue w.step w.value

either_write : (b : Bool) (x y : Write) → IsBareWrite x → IsBareWrite y → IsBareWrite (cond b x y)
either_write true x y p q = p
either_write false x y p q = q

write_put_bare : (part : StripePart) (prior : Option Ticket) (a : Answer) (key : List ℕ) (doc : Doc) (b : Bool) → IsBareWrite (write_put part prior a key doc b)
write_put_bare part prior a key doc true = refl
write_put_bare part prior a key doc false = tt

write_effect_bare : (part : StripePart) (q : QueueData) (prior : Option Ticket) (a : Answer) (e : Effect) → IsBareWrite (write_effect part q prior a e)
write_effect_bare part q prior a Nothing = tt
write_effect_bare part q prior a (Puts key doc) = write_put_bare part prior a key doc (lacks_room part.table q key (length doc.value))
write_effect_bare part q prior a (Sets state) = tt

write_over_bare : (part : StripePart) (q : QueueData) (prior : Option Ticket) (call : CallData) (now : ℕ) (doc : Option Doc) → IsBareWrite (write_over part q prior call now doc)
write_over_bare part q prior call now doc =
    let a = row_of (shown_world part.table q) call now (live_of doc now) in
    write_effect_bare part q prior a a.effect

write_crowded_bare : (part : StripePart) (prior : Option Ticket) (o : Option ℕ) → IsBareWrite (write_crowded part prior o)
write_crowded_bare part prior None = refl
write_crowded_bare part prior (Some status) = tt

write_waits_bare : (part : StripePart) (q : QueueData) (prior : Option Ticket) (call : CallData) (key : List ℕ) (now : ℕ) (w : Meaning) → IsBareWrite (write_waits part q prior call key now w)
write_waits_bare part q prior call key now (waits.Waits ticket) = refl
write_waits_bare part q prior call key now waits.Asks = asks_bare (is_full (release part.book prior)) (next_ticket (release part.book prior))
write_waits_bare part q prior call key now waits.Absent = write_over_bare part q prior call now None
write_waits_bare part q prior call key now (waits.Refused causes.Quota) = write_crowded_bare part prior (own_refusal (shown_world part.table q).fit call)
write_waits_bare part q prior call key now (waits.Refused causes.Warming) = refl
write_waits_bare part q prior call key now (waits.Refused (causes.Store ticket)) = refl
write_waits_bare part q prior call key now (waits.Refused (causes.Memory ticket)) = refl

write_found_bare : (part : StripePart) (q : QueueData) (prior : Option Ticket) (call : CallData) (key : List ℕ) (now : ℕ) (seen : Found) → IsBareWrite (write_found part q prior call key now seen)
write_found_bare part q prior call key now seen =
    either_write (needs part.table.eviction call && is_away part.table.eviction seen) (write_waits part q prior call key now (waited part.table part.book key prior)) (write_over part q prior call now (shown_doc (text_at part.table key) (seen_meta seen)))
    (write_waits_bare part q prior call key now (waited part.table part.book key prior)) (write_over_bare part q prior call now (shown_doc (text_at part.table key) (seen_meta seen)))

write_active_bare : (part : StripePart) (q : QueueData) (prior : Option Ticket) (call : CallData) (key : List ℕ) (now : ℕ) (o : Option ℕ) → IsBareWrite (write_active part q prior call key now o)
write_active_bare part q prior call key now None = write_found_bare part q prior call key now (found (node_at part.table.slots key))
write_active_bare part q prior call key now (Some status) = tt

pub write_bare : (part : StripePart) (q : QueueData) (prior : Option Ticket) (call : CallData) (key : List ℕ) (now : ℕ) (step : Step) (value : List ℕ) → step ≡ (write_step part q prior call key now).step → value ≡ (write_step part q prior call key now).value
    → IsStepValue step value
write_bare part q prior call key now step value step-is value-is =
    let w = write_step part q prior call key now in
    subst (λ (v : List ℕ). IsStepValue step v) (sym value-is) (subst (λ (t : Step). IsStepValue t w.value) (sym step-is)
    (either_write part.table.opened (write_active part q prior call key now (state_refusal part.table.state true)) (write_refused part prior causes.Warming Stays) (write_active_bare part q prior call key now (state_refusal part.table.state true)) refl))

-- a call on the vBucket as a whole
either_control : (b : Bool) (x y : Control) → IsStepValue x.step x.value → IsStepValue y.step y.value → IsStepValue (cond b x y).step (cond b x y).value
either_control true x y p q = p
either_control false x y p q = q

pub control_bare : (q : QueueData) (id : ℕ) (call : CallData) (step : Step) (value : List ℕ) → step ≡ (control_step q id call).step → value ≡ (control_step q id call).value → IsStepValue step value
control_bare q id call step value step-is value-is =
    let c = control_step q id call in
    subst (λ (v : List ℕ). IsStepValue step v) (sym value-is) (subst (λ (t : Step). IsStepValue t c.value) (sym step-is)
    (either_control q.opened (control_done (answer_row (queue_world q id) call 0)) (record { step = steps.Refused causes.Warming; value = [] }) tt refl))
