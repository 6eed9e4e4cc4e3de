-- It has opened, and nothing else.
use Rattle.std.proofs.Common.{◌∙◌, ◌++◌, ◌∷◌, [], ℕ, List, ap}
use Rattle.ep_model.specs.declared.data.EventData.{EventData}
use Rattle.ep_model.specs.declared.data.EventData.TheVariants.{Opened}
use Rattle.ep_top.proofs.ResponderLemmas.{sound_fresh}
use Rattle.ep_top.proofs.responder.Responder.open.Goals as goal

pub returns-clause-sound : goal.returns-clause-sound
returns-clause-sound c =
    sound_fresh _ (c.history.view_is ∙ c.in_ok-note.ensures.ok ∙ ap (λ (l : List (ℕ × EventData)). l ++ (0, Opened) ∷ []) c.new-history.ensures) c.new.ensures
    c.in_ok-new.ensures.0 c.in_ok-new.ensures.1
