-- A stripe stands behind the events in which it took part.
use Rattle.std.proofs.Common.{◌≡◌, ℕ, true, ◌+◌, refl, sym, ap, subst, ◌∙◌}
use Rattle.std.specs.Prelude.{Option, Some}
use Rattle.ep_model.specs.declared.event.Cause.{Cause}
use Rattle.ep_model.specs.declared.event.Cause.TheVariants as causes
use Rattle.ep_model.specs.declared.event.Ticket.{Ticket}
use Rattle.ep_model.specs.declared.data.CallData.{CallData}
use Rattle.ep_model.specs.declared.data.EventData.{EventData}
use Rattle.ep_model.specs.declared.data.EventData.TheVariants as events
use Rattle.ep_model.specs.World.{Doc, World, Item, meta_of}
use Rattle.ep_model.specs.Mutations.{mutation_of}
use Rattle.ep_model.specs.Front.{world_of, mark_after}
use Rattle.ep_model.specs.Legal.{IsUnused, IsBelow}
use Rattle.hold_stage.specs.Waits.{IsNoRead}
use Rattle.hold_stage.proofs.LaterLemmas.{world_step}
use Rattle.hold_stage.proofs.BoundLemmas.{marked_step}
use Rattle.hash_stripe.proofs.KeyLemmas.{restoring-keywise}
use Rattle.hash_stripe.specs.Nodes.{node_blocks}
use Rattle.fetch_book.specs.declared.place.Place.{Place}
use Rattle.fetch_book.specs.Books.{next_ticket}
use Rattle.vb_front.specs.Writes.{node_of}
use Rattle.vb_front.specs.StripeLaws.{StripesTakeMutations, StripesTakeCalls, StripesEject, StripesAreUsed, StripesRelease, StripesStandBehindAnswers, IsOwnCause, StripesStandBehindRefusals, StripesAsk}
use Rattle.vb_front.proofs.AskLemmas.{other_ticket}
use Rattle.vb_front.proofs.CalmLemmas.{calm_called, calm_refused}
use Rattle.vb_front.proofs.WaitLemmas.{IsLeftBy, with_released, released_behind, asks_behind}
use Rattle.vb_front.proofs.NodeLemmas.{used_stands}
use Rattle.vb_front.proofs.PutLemmas.{IsPutting, table_put, book_put}
use Rattle.vb_front.proofs.EjectLemmas.{ejected_table}
use Rattle.vb_front.proofs.QueueLemmas.{puts_world, call_puts, nothing_done}
use Rattle.vb_front.proofs.WriteLemmas.{item_doc, restored_length}

-- An event that puts a document marks no stripe, and says nothing of a ticket.
record IsPutAlone (event : EventData) : Type 0 where
  mark : (stripe mark : ℕ) → mark_after stripe mark event ≡ mark
  free : (ticket : Ticket) → IsUnused ticket event × IsNoRead ticket event
  below : (ticket : Ticket) → IsBelow ticket event

put_alone : (w : World) (event : EventData) (item : Item) → mutation_of w event ≡ Some item → IsPutAlone event
put_alone w (events.Called caller call now reply value) item is = record { mark = λ stripe mark. refl; free = λ ticket. (tt, tt); below = λ ticket. tt }
put_alone w (events.Refused caller call now cause) item is = absurd (cc)
put_alone w (events.Expired key now) item is = record { mark = λ stripe mark. refl; free = λ ticket. (tt, tt); below = λ ticket. tt }
put_alone w (events.Persisted number) item is = absurd (cc)
put_alone w (events.Marked stripe number) item is = absurd (cc)
put_alone w (events.Asked ticket caller call) item is = absurd (cc)
put_alone w (events.ReadFailed ticket fault) item is = absurd (cc)
put_alone w events.Opened item is = absurd (cc)

pub stripe_takes : StripesTakeMutations
stripe_takes f stripe event x node doc value slots is resident shown here keyed sound restores s =
    let alone = put_alone (world_of f) event (node.key, doc) is in
    let putting : IsPutting f event node.key doc = record {
      world = world_step f event ∙ puts_world (world_of f) event node.key doc is;
      puts = is;
      mark = λ n. marked_step f event n ∙ alone.mark n _;
    } in
    let r = restoring-keywise x.table node slots sound keyed.0 restores in
    record {
      there = s.there;
      table = table_put f stripe event node.key doc putting here x.table slots node value resident (record {
        there = r.there;
        left = r.rest;
        size = restored_length x.table.eviction x.table.mark (node_blocks node) node x.table.slots slots restores;
      }) s.table shown;
      book = book_put f stripe event node.key doc putting here x.book alone.free (alone.below (next_ticket x.book)) s.book;
    }

pub stripe_takes_calls : StripesTakeCalls
stripe_takes_calls f stripe caller call now reply text x key doc slots number by here keyed sound restores s =
    let put = call_puts f caller call now reply text key (meta_of doc) doc.value by in
    let same : (world_of f).told ≡ true → doc ≡ put.0 = (λ told. sym (item_doc key doc ((world_of f).high + 1) number) ∙ put.3 told) in
    stripe_takes f stripe (events.Called caller call now reply text) x (node_of key doc) put.0 doc.value slots put.1 refl
    (λ told. (ap meta_of (same told), ap (λ (d : Doc). d.value) (same told))) here keyed sound restores s

pub stripe_ejects : StripesEject
stripe_ejects f stripe x key need slots sound ejects s = record {
  there = s.there;
  table = ejected_table f stripe key need x.table slots sound ejects s.table;
  book = s.book;
}

pub stripe_is_used : StripesAreUsed
stripe_is_used f stripe x key sound s = used_stands f stripe key x sound s

pub stripe_releases : StripesRelease
stripe_releases f stripe x prior s = with_released f stripe x s prior

pub stripe_answers : StripesStandBehindAnswers
stripe_answers f stripe x caller call now reply text prior nothing s =
    released_behind f stripe x s (events.Called caller call now reply text) prior (calm_called f caller call now reply text (nothing_done f call now reply nothing)) tt (λ place left. (tt, tt))

-- a cause that names no other call's ticket leaves the places of others
own_cause : (caller : ℕ) (call : CallData) (now : ℕ) (cause : Cause) (prior : Option Ticket) → IsOwnCause prior cause → (place : Place) → IsLeftBy prior place → IsUnused place.ticket (events.Refused caller call now cause)
own_cause caller call now causes.Quota prior own place left = (λ is. cc, λ is. cc)
own_cause caller call now causes.Warming prior own place left = (λ is. cc, λ is. cc)
own_cause caller call now (causes.Store ticket) prior own place left =
    let gone : IsLeftBy (Some ticket) place = subst (λ (p : Option Ticket). IsLeftBy p place) own left in
    (λ is. other_ticket ticket place gone (let e : ticket ≡ place.ticket = cc in e), λ is. cc)
own_cause caller call now (causes.Memory ticket) prior own place left =
    let gone : IsLeftBy (Some ticket) place = subst (λ (p : Option Ticket). IsLeftBy p place) own left in
    (λ is. cc, λ is. other_ticket ticket place gone (let e : ticket ≡ place.ticket = cc in e))

pub stripe_refuses : StripesStandBehindRefusals
stripe_refuses f stripe x caller call now cause prior own s =
    released_behind f stripe x s (events.Refused caller call now cause) prior (calm_refused f caller call now cause) tt (λ place left. (own_cause caller call now cause prior own place left, tt))

pub stripe_asks : StripesAsk
stripe_asks f stripe x caller call now key prior legal serving keyed needed here away priors s =
    asks_behind f stripe caller now call key x legal keyed needed here serving.opened serving.active away s prior priors
