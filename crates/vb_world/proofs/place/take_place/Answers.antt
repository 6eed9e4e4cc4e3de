use Rattle.std.proofs.Common.{slice_set, ap, ◌∙◌}
use Rattle.std.proofs.lemmas.List.{set-set, set-get_or}
use Rattle.vb_world.proofs.place.take_place.Goals as goal

pub returns-in_default-clause-same : goal.returns-in_default-clause-same
returns-in_default-clause-same g c =
    set-set c.args.places.now c.args.slot c.replace.new.dest c.replace.result ∙
    (ap (λ x. slice_set c.args.places.now c.args.slot x) c.replace.ensures.value ∙ set-get_or c.args.places.now c.args.slot c.index-places-slot.result)
