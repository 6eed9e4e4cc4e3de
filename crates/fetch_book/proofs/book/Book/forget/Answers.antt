use Rattle.std.proofs.Common.{rules, ◌≡◌, List, arith}
use Rattle.std.specs.Prelude.{filter}
use Rattle.std.proofs.lemmas.Fn.{filter_same}
use Rattle.fetch_book.specs.declared.place.Place.{Place}
use Rattle.fetch_book.specs.Places.{is_not_keyed}
use Rattle.fetch_book.proofs.BookLemmas.{book-filter, view-filter}
use Rattle.fetch_book.proofs.book.Book.forget.Goals as goal

pub invariant_of-self : goal.invariant_of-self
invariant_of-self c =
    let kept : c.retain.new.self.items ≡ filter (is_not_keyed c.args.key.now) c.self.inside.places.items = filter_same _ _ _ (λ x b f' k. search rules) _ _ c.retain.ensures.filtered in
    (book-filter (record { stripe = c.self.inside.stripe; next = c.self.inside.next; places = c.self.inside.places.items }) (is_not_keyed c.args.key.now) c.retain.new.self.items kept c.self.invariant.0, omega arith)

pub returns : goal.returns
returns c =
    let kept : c.retain.new.self.items ≡ filter (is_not_keyed c.args.key.now) c.self.inside.places.items = filter_same _ _ _ (λ x b f' k. search rules) _ _ c.retain.ensures.filtered in
    view-filter (record { stripe = c.self.inside.stripe; next = c.self.inside.next; places = c.self.inside.places.items }) c.args.self.now (is_not_keyed c.args.key.now) c.retain.new.self.items kept c.self.view_is
