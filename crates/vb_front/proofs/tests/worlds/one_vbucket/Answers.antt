use Rattle.std.proofs.Common.{ap, ◌∙◌, sym, subst}
use Rattle.vb_world.specs.declared.data.WorldData.{WorldData}
use Rattle.vb_world.specs.World.{front_in, has_out, with_bucket}
use Rattle.vb_world.proofs.PlaceLemmas.{out_pushed, out_nowhere}
use Rattle.vb_world.proofs.SoundLemmas.{front_pushed}
use Rattle.vb_front.specs.declared.part.Part.{Part}
use Rattle.vb_front.specs.Opened.{IsAtHome}
use Rattle.vb_front.proofs.WorldLemmas.{parts_at_home}
use Rattle.vb_front.proofs.tests.worlds.one_vbucket.Goals as goal

pub returns-clause-bare : goal.returns-clause-bare
returns-clause-bare c =
    let front = λ (w : WorldData Part). front_in w 0 in
    ap front c.in_ok-add.ensures.ok ∙ front_pushed c.in_ok-world.world c.in_ok-empty_parts.field-0.items 0 ∙ ap front c.in_ok-world.ensures.new

pub returns-clause-home : goal.returns-clause-home
returns-clause-home c = λ caller part.
    let out = λ (w : WorldData Part). has_out w 0 caller part in
    let none = out_nowhere c.in_ok-world.world 0 caller part (ap (λ (w : WorldData Part). w.buckets) c.in_ok-world.ensures.new) in
    ap out c.in_ok-add.ensures.ok ∙ out_pushed c.in_ok-world.world c.in_ok-empty_parts.field-0.items 0 caller part none

pub returns-clause-there : goal.returns-clause-there
returns-clause-there c =
    let config = c.args.config.now in
    let parts = c.in_ok-empty_parts.field-0.items in
    subst (IsAtHome config) (sym c.in_ok-add.ensures.ok)
    (subst (λ (w : WorldData Part). IsAtHome config (with_bucket w parts)) (sym c.in_ok-world.ensures.new) (parts_at_home config parts c.requires.only c.in_ok-empty_parts.ensures.count))
