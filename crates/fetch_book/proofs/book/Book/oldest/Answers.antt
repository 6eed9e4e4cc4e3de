use Rattle.fetch_book.proofs.BookLemmas.{book-least}
use Rattle.fetch_book.proofs.book.Book.oldest.Goals as goal

pub returns-in-Some-clause-least : goal.returns-in-Some-clause-least
returns-in-Some-clause-least c =
    book-least (record { stripe = c.self.inside.stripe; next = c.self.inside.next; places = c.self.inside.places.items }) c.args.self.now c.deref.result.now c.oldest.result c.in-Some.place c.self.view_is c.self.invariant.0 c.deref.ensures.value c.oldest.ensures c.in-Some.is
