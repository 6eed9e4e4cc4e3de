use Rattle.fetch_book.proofs.BookLemmas.{book-fits}
use Rattle.fetch_book.proofs.book.Book.used.Goals as goal

pub returns-clause-fits : goal.returns-clause-fits
returns-clause-fits c =
    book-fits (record { stripe = c.self.inside.stripe; next = c.self.inside.next; places = c.self.inside.places.items }) c.args.self.now c.self.view_is c.self.invariant.0
