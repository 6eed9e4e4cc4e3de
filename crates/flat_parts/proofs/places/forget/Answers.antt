use Rattle.std.proofs.Common.{rules}
use Rattle.std.proofs.lemmas.Fn.{filter_same}
use Rattle.flat_parts.proofs.PlaceLemmas.{forget-kept}
use Rattle.flat_parts.proofs.places.forget.Goals as goal

pub returns-clause-places : goal.returns-clause-places
returns-clause-places c =
    forget-kept c.args.places.now.items c.retain.new.self.items c.args.key.now
    (filter_same _ _ _ (λ x b f' k. search rules) _ _ c.retain.ensures.filtered)
