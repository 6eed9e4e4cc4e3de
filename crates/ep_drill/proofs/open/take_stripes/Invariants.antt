use Rattle.std.proofs.Common.{◌≡◌, ℕ, true, false}
use Rattle.ep_model.specs.declared.event.PartName.{PartName}
use Rattle.hold_stage.specs.Touches.{there}
use Rattle.ep_drill.specs.Opens.{is_below}
use Rattle.ep_drill.proofs.open.take_stripes.Given as goal

abbrev pub invariant-loop-stripe : goal.invariant-loop-stripe
invariant-loop-stripe g l = record {
  stays : (g.S.Stage.lent l.stage ≡ g.S.Stage.lent l.initial.stage) × (g.S.Stage.fixed l.stage ≡ g.S.Stage.fixed l.initial.stage) × (g.S.Stage.number l.stage ≡ g.S.Stage.number l.initial.stage) × (g.S.Stage.is_desk l.stage ≡ g.S.Stage.is_desk l.initial.stage) × (g.S.Stage.is_telling l.stage ≡ g.S.Stage.is_telling l.initial.stage);
  room : (n b : ℕ) → g.S.Stage.covers l.initial.stage n b → g.S.Stage.covers l.stage n b;
  front : g.S.Stage.front l.stage ≡ g.S.Stage.front l.initial.stage;
  held : (p : PartName) → g.S.Stage.holds l.stage p ≡ is_below l.stripe p;
  told : (p : PartName) → there (g.S.Stage.front l.initial.stage).config p ≡ true → is_below l.stripe p ≡ false → g.S.Stage.tells l.stage p ≡ g.S.Stage.tells l.initial.stage p;
}
