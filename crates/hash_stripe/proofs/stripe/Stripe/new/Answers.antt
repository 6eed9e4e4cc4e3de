use Rattle.ep_model.specs.declared.call.VbState.TheVariants.{Active}
use Rattle.hash_stripe.proofs.StripeLemmas.{stripe-fresh, config-blocks}
use Rattle.hash_stripe.proofs.stripe.Stripe.new.Goals as goal

pub invariant_of-result : goal.invariant_of-result
invariant_of-result c =
    stripe-fresh c.args.index c.args.config.now.stripes c.args.config.now.blocks c.args.config.now.eviction Active c.in_ok-new.field-0 c.requires.index (config-blocks c.args.config.now c.requires.config) c.in_ok-new.ensures
