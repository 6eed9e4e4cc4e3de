use Rattle.std.proofs.Common.{rules, ◌≡◌, ◌<◌, length, vec_len, arith}
use Rattle.fetch_book.proofs.BookLemmas.{book-asked}
use Rattle.fetch_book.proofs.book.Book.ask.Goals as goal

pub invariant_of-self : goal.invariant_of-self
invariant_of-self c =
    let count : vec_len c.self.inside.places ≡ length c.self.inside.places.items = search rules in
    let few = c.self.invariant.0.few in
    let numbers = c.self.invariant.0.numbers in
    let room : length c.self.inside.places.items < 64 = omega arith in
    let kept = book-asked (record { stripe = c.self.inside.stripe; next = c.self.inside.next; places = c.self.inside.places.items }) c.args.key.now c.of.result c.push_reserved.new.self.items c.of.ensures c.requires c.push_reserved.ensures.items room (omega arith) c.self.invariant.0 in
    (search rules, omega arith)
