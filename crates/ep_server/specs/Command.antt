-- What the command of a command line does.
use Rattle.std.specs.Prelude.{◌≡◌, ◌↔◌, ℕ, List, []}
use Rattle.ep_model.specs.declared.data.EventData.{EventData}
use Rattle.ep_top.specs.declared.end.End.{End}
use Rattle.ep_top.specs.declared.end.End.TheVariants as ends
use Rattle.ep_top.specs.Outside.{Outside}
use Rattle.ep_top.specs.Session.{IsSession, IsSessionCommand}

-- The command of these words ended so: as a session, unless the words ask for none. Where that didn't open, source, sink
-- and clock are `same`.
pub record EndsCommand (words : List (List ℕ)) (before now : Outside) (same : Type 0) (end : End) : Type 0 where
  pub bad_words : (end ≡ ends.BadWords) ↔ (IsSessionCommand words → ⊥)
  pub history : List (ℕ × EventData)
  pub session : IsSession before now end history
  pub unopened : history ≡ [] → same
