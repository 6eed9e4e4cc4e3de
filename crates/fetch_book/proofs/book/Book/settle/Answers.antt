use Rattle.std.proofs.Common.{ap, sym, ◌∙◌}
use Rattle.std.proofs.Math.ListN.{set}
use Rattle.std.specs.Prelude.{is_some}
use Rattle.fetch_book.specs.Books.{BookData}
use Rattle.fetch_book.specs.Places.{place_at, settled}
use Rattle.fetch_book.proofs.BookLemmas.{settled-there, settled-nowhere, book-settled, view-settled}
use Rattle.fetch_book.proofs.book.Book.settle.Goals as goal

pub invariant_of-self : goal.invariant_of-self
invariant_of-self c = (
  book-settled (record { stripe = c.self.inside.stripe; next = c.self.inside.next; places = c.self.inside.places.items }) c.args.ticket c.args.outcome (set c.self.inside.places.items c.in-Some.index (record c.index_mut-place.result.now { outcome = c.args.outcome })) (settled-there c.self.inside.places.items c.deref.result.now c.args.ticket c.args.outcome c.position_of.result c.in-Some.index c.index_mut-place.result.now c.deref.ensures.value c.position_of.ensures.place c.in-Some.is c.index_mut-place.ensures.value).0 c.self.invariant.0,
  c.self.invariant.1,
)

pub returns-in-None-clause-settles : goal.returns-in-None-clause-settles
returns-in-None-clause-settles c = (settled-nowhere c.self.inside.places.items c.deref.result.now c.args.ticket c.args.outcome c.position_of.result c.deref.ensures.value c.position_of.ensures.place c.in-None.is).1 ∙ ap (λ (b : BookData). is_some (place_at b.places c.args.ticket)) c.self.view_is

pub returns-in-None-clause-after : goal.returns-in-None-clause-after
returns-in-None-clause-after c =
    sym c.self.view_is ∙ view-settled (record { stripe = c.self.inside.stripe; next = c.self.inside.next; places = c.self.inside.places.items }) c.args.self.now c.args.ticket c.args.outcome c.self.inside.places.items (settled-nowhere c.self.inside.places.items c.deref.result.now c.args.ticket c.args.outcome c.position_of.result c.deref.ensures.value c.position_of.ensures.place c.in-None.is).0 c.self.view_is

pub returns-in-Some-clause-settles : goal.returns-in-Some-clause-settles
returns-in-Some-clause-settles c = (settled-there c.self.inside.places.items c.deref.result.now c.args.ticket c.args.outcome c.position_of.result c.in-Some.index c.index_mut-place.result.now c.deref.ensures.value c.position_of.ensures.place c.in-Some.is c.index_mut-place.ensures.value).1 ∙ ap (λ (b : BookData). is_some (place_at b.places c.args.ticket)) c.self.view_is

pub returns-in-Some-clause-after : goal.returns-in-Some-clause-after
returns-in-Some-clause-after c =
    view-settled (record { stripe = c.self.inside.stripe; next = c.self.inside.next; places = c.self.inside.places.items }) c.args.self.now c.args.ticket c.args.outcome (set c.self.inside.places.items c.in-Some.index (record c.index_mut-place.result.now { outcome = c.args.outcome })) (settled-there c.self.inside.places.items c.deref.result.now c.args.ticket c.args.outcome c.position_of.result c.in-Some.index c.index_mut-place.result.now c.deref.ensures.value c.position_of.ensures.place c.in-Some.is c.index_mut-place.ensures.value).0 c.self.view_is
