use Rattle.std.proofs.Common.{sym, subst}
use Rattle.flat_parts.specs.declared.data.StripeData.{StripeData}
use Rattle.ep_drill.specs.Stands.{StripeStands}
use Rattle.ep_drill.proofs.PartLemmas.{page_stands}
use Rattle.ep_drill.proofs.store.page_once.Goals as goal

pub give-requires-clause-stands : goal.give-requires-clause-stands
give-requires-clause-stands g c =
    let t = c.take_stripe-part in
    let f = g.S.Stage.front t.new.stage in
    subst (λ (y : StripeData). StripeStands f c.args.stripe y) (sym c.page-used.ensures.stripe) (page_stands f c.args.stripe t.result t.ensures.stands)
