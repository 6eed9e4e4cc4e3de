use Rattle.std.proofs.Common.{ap, ◌∙◌}
use Rattle.vb_world.specs.declared.data.WorldData.{WorldData}
use Rattle.vb_world.specs.declared.world_tests.Token.{Token}
use Rattle.vb_world.specs.World.{has_out}
use Rattle.vb_world.proofs.world_tests.number_at.Goals as goal

pub take_and_give-requires-clause-free : goal.take_and_give-requires-clause-free
take_and_give-requires-clause-free c =
    let s = c.stage-stage.result in
    ap (λ (w : WorldData Token). has_out w s.vb s.caller c.args.part) c.stage-stage.ensures.world ∙ c.in_ok-world.ensures.home s.vb s.caller c.args.part
