use Rattle.std.proofs.Common.{ap, ◌∙◌}
use Rattle.ep_model.specs.declared.event.PartName.TheVariants.{Queue}
use Rattle.vb_world.specs.declared.data.WorldData.{WorldData}
use Rattle.vb_world.specs.declared.world_tests.Token.{Token}
use Rattle.vb_world.specs.World.{has_out}
use Rattle.vb_world.proofs.world_tests.refused.Goals as goal

pub refuse-requires-clause-free : goal.refuse-requires-clause-free
refuse-requires-clause-free c =
    let s = c.stage-stage.result in
    ap (λ (w : WorldData Token). has_out w s.vb s.caller Queue) c.stage-stage.ensures.world ∙ c.in_ok-world.ensures.home s.vb s.caller Queue
