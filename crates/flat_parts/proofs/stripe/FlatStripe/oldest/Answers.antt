use Rattle.std.proofs.Common.{List, ap, ◌∙◌}
use Rattle.flat_parts.specs.declared.data.StripeData.{StripeData}
use Rattle.flat_parts.specs.declared.place.Place.{Place}
use Rattle.flat_parts.specs.Nodes.{first_waiting}
use Rattle.flat_parts.specs.Flat.{places_data}
use Rattle.flat_parts.proofs.PlaceLemmas.{oldest-found}
use Rattle.flat_parts.proofs.stripe.FlatStripe.oldest.Goals as goal

pub returns : goal.returns
returns c =
    oldest-found c.deref.result.now c.oldest.result c.oldest.ensures
    ∙ ap (λ (places : List Place). first_waiting (places_data places)) c.deref.ensures.value
    ∙ ap (λ (x : StripeData). first_waiting x.places) c.self.view_is
