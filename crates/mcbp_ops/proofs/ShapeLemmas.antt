-- What the checks of a frame leave known of it.
use Rattle.std.proofs.Common.{◌≡◌, ◌+◌, ◌≤◌, true, length, arith, Option, Some, None, Result, Ok, Err, IfOk, refl, sym, subst}
use Rattle.std.proofs.lemmas.Grind.{common_steps}
use Rattle.std.specs.Option.{option_map, ok_or}
use Rattle.ep_model.specs.Limits.{IsKey, IsValue}
use Rattle.ep_model.specs.declared.call.VbState.{VbState}
use Rattle.mcbp_frame.specs.declared.frame.FrameData.{FrameData}
use Rattle.mcbp_ops.specs.declared.kind.Kind.{Kind}
use Rattle.mcbp_ops.specs.declared.kind.Kind.TheVariants as kinds
use Rattle.mcbp_ops.specs.declared.shape.KeyRule.TheVariants as keys
use Rattle.mcbp_ops.specs.declared.shape.ValueRule.TheVariants as values
use Rattle.mcbp_ops.specs.declared.shape.Shape.{Shape}
use Rattle.mcbp_ops.specs.declared.op.OpData.{OpData}
use Rattle.mcbp_ops.specs.declared.op.Op.{Op}
use Rattle.mcbp_ops.specs.declared.op.Bad.{Bad}
use Rattle.mcbp_ops.specs.declared.op.Bad.TheVariants.{Invalid}
use Rattle.mcbp_ops.specs.Table.{shape_of}
use Rattle.mcbp_ops.specs.Checks.{takes_extras, takes_key, value_refusal, extras_of, key_of, value_of, refusal_of}
use Rattle.mcbp_ops.specs.Ops.{IsWithinOp, op_data, result_data, made, set_state, state_of, state_number}

-- the parts of a shape that a frame has
pub record Has (f : FrameData) (shape : Shape) : Type 0 where
  pub inside : f.extras_len + f.key_len ≤ length f.body
  pub extras : takes_extras shape.extras f.extras_len ≡ true
  pub key : takes_key shape.key f.key_len ≡ true
  pub value : value_refusal shape.value (length (value_of f)) ≡ None

-- a frame that isn't refused has its shape
pub has_shape : (f : FrameData) (shape : Shape) → refusal_of f shape ≡ None → Has f shape
has_shape f shape h = record { inside = grind (arith, common_steps); extras = grind (arith, common_steps); key = grind (arith, common_steps); value = grind (arith, common_steps) }

-- a needed key, and a value of any length, are within the limits of a call
key_within : (f : FrameData) (shape : Shape) → shape.key ≡ keys.Needed → Has f shape → IsKey (key_of f)
key_within f shape e h =
    let taken : takes_key keys.Needed f.key_len ≡ true = cc in
    (grind (arith, common_steps, h, taken), grind (arith, common_steps, h, taken))

value_within : (f : FrameData) (shape : Shape) → shape.value ≡ values.Any → Has f shape → IsValue (value_of f)
value_within f shape e h =
    let fits : value_refusal values.Any (length (value_of f)) ≡ None = cc in
    grind (arith, common_steps, fits)

state_within : (state : Option VbState) → IfOk (ok_or (option_map set_state state) Invalid) IsWithinOp
state_within None = tt
state_within (Some state) = tt

-- a call made of a frame that has the shape of its kind is within its limits
made_within : (f : FrameData) (kind : Kind) → Has f (shape_of kind) → IfOk (made f kind) IsWithinOp
made_within f (kinds.Get keyed) h = key_within f _ refl h
made_within f (kinds.Store kind) h = (key_within f _ refl h, value_within f _ refl h)
made_within f (kinds.Join front) h = (key_within f _ refl h, value_within f _ refl h)
made_within f (kinds.Count down) h = key_within f _ refl h
made_within f kinds.Delete h = key_within f _ refl h
made_within f (kinds.Touch fetch) h = key_within f _ refl h
made_within f kinds.Observe h = tt
made_within f kinds.Failovers h = tt
made_within f kinds.SetState h = state_within (state_of (state_number (extras_of f)))
made_within f kinds.GetState h = tt
made_within f kinds.Stat h = tt
made_within f kinds.Hello h = tt
made_within f kinds.Noop h = tt
made_within f kinds.Version h = tt
made_within f kinds.Quit h = tt

-- what is within its limits as data is so where its bytes lie too
along : (r : Result Op Bad) (d : Result OpData Bad) → result_data r ≡ d → IfOk d IsWithinOp → IfOk r (λ op. IsWithinOp (op_data op))
along (Err bad) d e h = tt
along (Ok op) d e h = let P : Result OpData Bad → Type 0 = λ x. IfOk x IsWithinOp in subst P (sym e) h

pub within_made : (f : FrameData) (kind : Kind) (r : Result Op Bad) → refusal_of f (shape_of kind) ≡ None → result_data r ≡ made f kind → IfOk r (λ op. IsWithinOp (op_data op))
within_made f kind r h e = along r (made f kind) e (made_within f kind (has_shape f (shape_of kind) h))
