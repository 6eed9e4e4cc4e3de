-- What a Set comes to: its answer in the world that the parts show, one lemma for each way out.
use Rattle.std.proofs.Common.{◌≡◌, ℕ, ◌+◌, Bool, true, false, cond, List, [], length, refl, sym, ap, ◌∙◌}
use Rattle.std.specs.Prelude.{Option, Some, None, Result, Ok, Err, OnErr, if◌then◌else◌}
use Rattle.std.specs.Option.{option_map, option_or}
use Rattle.std.specs.Ordering.{nat_cmp}
use Rattle.std.specs.Cmp.Lexicographic.{slice_cmp, nat_list_cmp_total}
use Rattle.std.specs.FinMap.{get, empty, get-empty, get-insert}
use Rattle.std.proofs.lemmas.Cmp.{eq_by_cmp_equiv}
use Rattle.ep_model.specs.declared.call.Meta.{Meta}
use Rattle.ep_model.specs.declared.call.StoreKind.TheVariants.{Set}
use Rattle.ep_model.specs.declared.data.CallData.TheVariants.{Store}
use Rattle.ep_model.specs.declared.event.Cause.TheVariants as causes
use Rattle.ep_model.specs.declared.event.Ticket.{Ticket}
use Rattle.ep_model.specs.Statuses.{success}
use Rattle.ep_model.specs.World.{Doc, World, empty_world, is_live, live_of, next_doc, stamp, stored_expiry, doc_from}
use Rattle.ep_model.specs.Refusals.{state_refusal, size_refusal, cas_refusal, number_refusal}
use Rattle.ep_model.specs.Answer.{Answer, Puts, answer, cas_of, put_success, refused, unless}
use Rattle.flat_parts.specs.declared.data.NodeData.{NodeData}
use Rattle.flat_parts.specs.declared.data.StripeData.{StripeData}
use Rattle.flat_parts.specs.declared.data.QueueData.{QueueData}
use Rattle.flat_parts.specs.declared.data.WriteData.{WriteData}
use Rattle.flat_parts.specs.declared.data.Step.TheVariants.{Done, Refused}
use Rattle.flat_parts.specs.Nodes.{node_at, released}
use Rattle.flat_parts.specs.Steps.{shown_value, shown_docs, shown_world, stripe_after, queue_after, write_step}
use Rattle.flat_parts.specs.Writes.{live_cas, write_refusal}

-- the document that the parts show under the key
shown-get : (key : List ℕ) (o : Option NodeData) → get (shown_docs key o) key ≡ option_map (λ (n : NodeData). doc_from n.meta (shown_value n.value)) o
shown-get key None = get-empty (slice_cmp nat_cmp) key
shown-get key (Some node) =
    let doc : Doc = doc_from node.meta (shown_value node.value) in
    get-insert nat_list_cmp_total empty key doc key
    ∙ ap (λ b. cond b (Some doc) (get {R = slice_cmp nat_cmp} empty key)) ((eq_by_cmp_equiv nat_list_cmp_total).refl key)

-- its CAS, where it is live
shown-cas : (now : ℕ) (o : Option NodeData) → cas_of (live_of (option_map (λ (n : NodeData). doc_from n.meta (shown_value n.value)) o) now) ≡ live_cas o now
shown-cas now None = refl
shown-cas now (Some node) =
    let doc : Doc = doc_from node.meta (shown_value node.value) in
    elim (is_live doc now) as (λ b. cas_of (cond b (Some doc) None) ≡ cond b (Some node.meta.cas) None) [ true ↦ refl | false ↦ refl ]

-- two refusals are one
unless-or : (a b : Option ℕ) (done : Answer) → unless a (unless b done) ≡ unless (option_or a b) done
unless-or None b done = refl
unless-or (Some status) b done = refl

-- what a Set puts that isn't refused
abbrev stored : StripeData → QueueData → ℕ → List ℕ → List ℕ → ℕ → ℕ → ℕ → Answer
stored x q fit key value flags expiration now =
    let w = shown_world x q 0 fit key in
    put_success w key (next_doc w value flags (stored_expiry expiration now) false now) 0 []

-- its answer by one refusal
answer-is : (x : StripeData) (q : QueueData) (fit : ℕ) (key value : List ℕ) (flags expiration cas now : ℕ) → answer (shown_world x q 0 fit key) (Store Set key value flags expiration cas) now ≡ unless (write_refusal x q fit key (length value) cas now) (stored x q fit key value flags expiration now)
answer-is x q fit key value flags expiration cas now =
    let done : Answer = stored x q fit key value flags expiration now in
    let state : Option ℕ = state_refusal x.state true in
    let size : Option ℕ = size_refusal fit (length key) (length value) in
    let numbers : Option ℕ = number_refusal q.high in
    let under : Option ℕ = cas_refusal cas (live_cas (node_at x.nodes key) now) in
    ap (λ (found : Option ℕ). unless state (unless size (unless (cas_refusal cas found) (unless numbers done))))
    (ap (λ (o : Option Doc). cas_of (live_of o now)) (shown-get key (node_at x.nodes key)) ∙ shown-cas now (node_at x.nodes key))
    ∙ unless-or state size (unless under (unless numbers done))
    ∙ unless-or (option_or state size) under (unless numbers done)
    ∙ unless-or (option_or (option_or state size) under) numbers done

-- what an opened vBucket's parts are after an answer
abbrev written : StripeData → QueueData → Option Ticket → Answer → WriteData
written x q prior a = record { step = Done a.reply; stripe = stripe_after (record x { places = released x.places prior }) a.effect; queue = queue_after q a.effect }

step-is : (x : StripeData) (q : QueueData) (fit : ℕ) (prior : Option Ticket) (key value : List ℕ) (flags expiration cas now : ℕ) → x.opened ≡ true → write_step x q fit prior key value flags expiration cas now ≡ written x q prior (unless (write_refusal x q fit key (length value) cas now) (stored x q fit key value flags expiration now))
step-is x q fit prior key value flags expiration cas now opened =
    let a : Answer = answer (shown_world x q 0 fit key) (Store Set key value flags expiration cas) now in
    ap (λ b. if b then written x q prior a else record { step = Refused causes.Warming; stripe = record x { places = released x.places prior }; queue = q }) opened
    ∙ ap (written x q prior) (answer-is x q fit key value flags expiration cas now)

-- refused by a status
pub write-refused : (x : StripeData) (q : QueueData) (fit : ℕ) (prior : Option Ticket) (key value : List ℕ) (flags expiration cas now : ℕ) (r : Option ℕ) (status : ℕ) → x.opened ≡ true → r ≡ write_refusal x q fit key (length value) cas now → r ≡ Some status → write_step x q fit prior key value flags expiration cas now ≡ record { step = Done (refused status).reply; stripe = record x { places = released x.places prior }; queue = q }
write-refused x q fit prior key value flags expiration cas now r status opened r-is is =
    step-is x q fit prior key value flags expiration cas now opened
    ∙ ap (λ (o : Option ℕ). written x q prior (unless o (stored x q fit key value flags expiration now))) (sym r-is ∙ is)

-- stored, with these numbers
pub write-stored : (x : StripeData) (q : QueueData) (fit : ℕ) (prior : Option Ticket) (key value : List ℕ) (flags expiration cas now : ℕ) (r : Option ℕ) (meta : Meta) (maxcas high uuid : ℕ) → x.opened ≡ true → r ≡ write_refusal x q fit key (length value) cas now → r ≡ None → maxcas ≡ q.maxcas → high ≡ q.high → uuid ≡ q.uuid → meta.flags ≡ flags → meta.expiry ≡ stored_expiry expiration now → meta.cas ≡ stamp (record (empty_world 0 0) { maxcas = maxcas }) now → meta.seqno ≡ high + 1 → meta.deleted ≡ false → write_step x q fit prior key value flags expiration cas now ≡ record { step = Done (record { status = success; cas = meta.cas; flags = 0; uuid = uuid; seqno = meta.seqno }); stripe = stripe_after (record x { places = released x.places prior }) (Puts key (doc_from meta value)); queue = queue_after q (Puts key (doc_from meta value)) }
write-stored x q fit prior key value flags expiration cas now r meta maxcas high uuid opened r-is is maxcas-is high-is uuid-is flags-is expiry-is cas-is seqno-is deleted-is =
    let w : World = shown_world x q 0 fit key in
    let doc : doc_from meta value ≡ next_doc w value flags (stored_expiry expiration now) false now =
    ap (λ (n : ℕ). record (doc_from meta value) { flags = n }) flags-is
    ∙ ap (λ (n : ℕ). record (doc_from meta value) { flags = flags; expiry = n }) expiry-is
    ∙ ap (λ (n : ℕ). record (doc_from meta value) { flags = flags; expiry = stored_expiry expiration now; cas = n }) (cas-is ∙ ap (λ (n : ℕ). stamp (record (empty_world 0 0) { maxcas = n }) now) maxcas-is)
    ∙ ap (λ (n : ℕ). record (next_doc w value flags (stored_expiry expiration now) meta.deleted now) { seqno = n }) (seqno-is ∙ ap (λ (n : ℕ). n + 1) high-is)
    ∙ ap (λ (b : Bool). next_doc w value flags (stored_expiry expiration now) b now) deleted-is
    in
    step-is x q fit prior key value flags expiration cas now opened
    ∙ ap (λ (o : Option ℕ). written x q prior (unless o (stored x q fit key value flags expiration now))) (sym r-is ∙ is)
    ∙ ap (λ (d : Doc). written x q prior (put_success w key d 0 [])) (sym doc)
    ∙ ap (λ (n : ℕ). written x q prior (record (put_success w key (doc_from meta value) 0 []) { reply = record (put_success w key (doc_from meta value) 0 []).reply { uuid = n } })) (sym uuid-is)

pub err_here : {T E P : Type 0} (r : Result T E) → P → OnErr r P
err_here (Ok value) p = tt
err_here (Err e) p = p
