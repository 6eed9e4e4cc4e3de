use Rattle.std.proofs.Common.{◌≡◌, ap, ◌∙◌}
use Rattle.ep_model.specs.declared.data.FrontData.{FrontData}
use Rattle.vb_world.specs.declared.data.WorldData.{WorldData}
use Rattle.vb_world.specs.World.{front_in}
use Rattle.vb_front.specs.declared.part.Part.{Part}
use Rattle.vb_front.proofs.OpenedLemmas.{untold}
use Rattle.vb_front.proofs.tests.served.merge.Goals as goal

pub merge_at-requires-clause-untold : goal.merge_at-requires-clause-untold
merge_at-requires-clause-untold c =
    let s = c.stage-stage.result in
    let same : front_in s.world.now s.vb ≡ front_in c.args.world.now 0 = ap (λ n. front_in s.world.now n) c.stage-stage.ensures.vb ∙ ap (λ (w : WorldData Part). front_in w 0) c.stage-stage.ensures.world in
    untold (front_in s.world.now s.vb) (ap (λ (f : FrontData). f.start) same ∙ c.requires.opened.start)
