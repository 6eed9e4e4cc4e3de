use Rattle.std.proofs.Common.{List, ap, ◌∙◌}
use Rattle.flat_parts.specs.declared.data.StripeData.{StripeData}
use Rattle.flat_parts.specs.declared.place.Place.{Place}
use Rattle.flat_parts.specs.Nodes.{outcome_at}
use Rattle.flat_parts.specs.Flat.{places_data}
use Rattle.flat_parts.proofs.PlaceLemmas.{outcome-found}
use Rattle.flat_parts.proofs.stripe.FlatStripe.outcome.Goals as goal

pub returns : goal.returns
returns c =
    outcome-found c.deref.result.now c.args.number c.outcome_of.result c.outcome_of.ensures
    ∙ ap (λ (places : List Place). outcome_at (places_data places) c.args.number) c.deref.ensures.value
    ∙ ap (λ (x : StripeData). outcome_at x.places c.args.number) c.self.view_is
