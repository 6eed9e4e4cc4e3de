use Rattle.std.proofs.Common.{◌≡◌, true}
use Rattle.std.specs.Prelude.{not, ◌&&◌, IsSome}
use Rattle.ep_model.specs.declared.event.PartName.{PartName}
use Rattle.ep_drill.specs.Opens.{is_below}
use Rattle.ep_drill.proofs.open.give_stripes.Given as goal

abbrev pub invariant-loop-stripe : goal.invariant-loop-stripe
invariant-loop-stripe g l = record {
  stays : (g.S.Stage.lent l.stage ≡ g.S.Stage.lent l.initial.stage) × (g.S.Stage.fixed l.stage ≡ g.S.Stage.fixed l.initial.stage) × (g.S.Stage.number l.stage ≡ g.S.Stage.number l.initial.stage) × (g.S.Stage.is_desk l.stage ≡ g.S.Stage.is_desk l.initial.stage) × (g.S.Stage.is_telling l.stage ≡ g.S.Stage.is_telling l.initial.stage);
  front : g.S.Stage.front l.stage ≡ g.S.Stage.front l.initial.stage;
  held : (p : PartName) → g.S.Stage.holds l.stage p ≡ (not (is_below l.stripe p) && g.S.Stage.holds l.initial.stage p);
  home : (p : PartName) → is_below l.stripe p ≡ true → IsSome (g.S.Stage.tells l.stage p);
}
