use Rattle.std.proofs.Common.{rules, ap, ◌∙◌, ◌++◌, ◌∷◌, [], arith, length}
use Rattle.arrayvec.proofs.ArrayVecLemmas.{filter-from_retain}
use Rattle.ckpt_cursors.specs.Cursors.{Positions}
use Rattle.ckpt_cursors.proofs.CursorLemmas.{kept, kept-fewer}
use Rattle.ckpt_cursors.proofs.cursors.Cursors.move_to.Goals as goal

pub push-requires : goal.push-requires
push-requires c = (
  search rules,
  omega (
    arith,
    c.self.invariant,
    kept-fewer c.args.self.now c.self.inside.named.items c.retain.new.self.items c.args.name c.self.view_is
        (filter-from_retain _ _ _ (λ x b f' y called. search rules) _ _ c.retain.ensures.filtered) (search rules),
  ),
)

pub invariant_of-self : goal.invariant_of-self
invariant_of-self c =
    omega (
      arith,
      c.push.ensures.len,
      c.self.invariant,
      kept-fewer c.args.self.now c.self.inside.named.items c.retain.new.self.items c.args.name c.self.view_is
          (filter-from_retain _ _ _ (λ x b f' y called. search rules) _ _ c.retain.ensures.filtered) (search rules),
    )

pub returns-clause-after : goal.returns-clause-after
returns-clause-after c =
    c.push.ensures.items ∙ ap (λ (cs : Positions). cs ++ (c.args.name, c.args.at) ∷ [])
    (kept c.args.self.now c.self.inside.named.items c.retain.new.self.items c.args.name c.self.view_is
    (filter-from_retain _ _ _ (λ x b f' y called. search rules) _ _ c.retain.ensures.filtered))

pub returns-then-is_none-clause-moved : goal.returns-then-is_none-clause-moved
returns-then-is_none-clause-moved c = search rules
