use Rattle.std.proofs.Common.{rules, refl}
use Rattle.std.proofs.lemmas.Fn.{filter_same}
use Rattle.flat_parts.proofs.PlaceLemmas.{release-kept}
use Rattle.flat_parts.proofs.places.release.Goals as goal

pub returns-in-Some-clause-places : goal.returns-in-Some-clause-places
returns-in-Some-clause-places c =
    release-kept c.args.places.now.items c.retain.new.self.items c.in-Some.ticket.number c.args.prior c.in-Some.ticket c.in-Some.is refl
    (filter_same _ _ _ (λ x b f' k. search rules) _ _ c.retain.ensures.filtered)
