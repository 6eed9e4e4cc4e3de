use Rattle.std.proofs.Common.{ap, ◌∙◌}
use Rattle.vb_world.specs.declared.data.WorldData.{WorldData}
use Rattle.vb_world.specs.declared.world_tests.Token.{Token}
use Rattle.vb_world.specs.World.{has_out}
use Rattle.vb_world.proofs.PlaceLemmas.{out_pushed, out_nowhere}
use Rattle.vb_world.proofs.world_tests.two_vbuckets.Goals as goal

pub returns-clause-home : goal.returns-clause-home
returns-clause-home c = λ id caller part.
    let out = λ (w : WorldData Token). has_out w id caller part in
    let none = out_nowhere c.in_ok-world.world id caller part (ap (λ (w : WorldData Token). w.buckets) c.in_ok-world.ensures.new) in
    let one = ap out c.in_ok-add.ensures.ok ∙ out_pushed c.in_ok-world.world c.in_ok-tokens.field-0.items id caller part none in
    ap out c.in_ok-reserve.ensures.same ∙ (ap out c.in_ok-add-2.ensures.ok ∙ out_pushed c.add.new.self c.in_ok-tokens-2.field-0.items id caller part one)
