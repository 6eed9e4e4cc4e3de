-- The checks that a frame of a shape has to pass.
use Rattle.std.specs.Prelude.{ℕ, ◌+◌, ◌%◌, Bool, nat_le, ◌==◌, ◌&&◌, ◌||◌, if◌then◌else◌, List, length, take, drop, Option, Some, None}
use Rattle.ep_model.specs.Limits.{max_key, max_value}
use Rattle.mcbp_frame.specs.declared.frame.FrameData.{FrameData}
use Rattle.mcbp_ops.specs.declared.op.Bad.{Bad}
use Rattle.mcbp_ops.specs.declared.op.Bad.TheVariants.{Invalid, TooLarge}
use Rattle.mcbp_ops.specs.declared.shape.Shape.{Shape}
use Rattle.mcbp_ops.specs.declared.shape.ExtrasRule.{ExtrasRule}
use Rattle.mcbp_ops.specs.declared.shape.ExtrasRule.TheVariants.{Exactly, OneOrFour}
use Rattle.mcbp_ops.specs.declared.shape.KeyRule.{KeyRule}
use Rattle.mcbp_ops.specs.declared.shape.KeyRule.TheVariants as keys
use Rattle.mcbp_ops.specs.declared.shape.ValueRule.{ValueRule}
use Rattle.mcbp_ops.specs.declared.shape.ValueRule.TheVariants as values

-- the parts of a frame's body: extras, key and value in this order
abbrev pub extras_of : FrameData → List ℕ
extras_of f = take f.extras_len f.body

abbrev pub key_of : FrameData → List ℕ
key_of f = take f.key_len (drop f.extras_len f.body)

abbrev pub value_of : FrameData → List ℕ
value_of f = drop f.key_len (drop f.extras_len f.body)

-- whether a rule allows this length of the extras, and of the key
abbrev pub takes_extras : ExtrasRule → ℕ → Bool
takes_extras (Exactly wanted) len = len == wanted
takes_extras OneOrFour len = len == 1 || len == 4

abbrev pub takes_key : KeyRule → ℕ → Bool
takes_key keys.Absent len = len == 0
takes_key keys.Optional len = nat_le len max_key
takes_key keys.Needed len = nat_le 1 len && nat_le len max_key

-- how a rule refuses this length of the value, if it does
abbrev pub value_refusal : ValueRule → ℕ → Option Bad
value_refusal values.Absent len = if len == 0 then None else Some Invalid
value_refusal values.Any len = if nat_le len max_value then None else Some TooLarge
value_refusal values.Eight len = if len == 8 then None else Some Invalid
value_refusal values.Even len = if len % 2 == 0 then None else Some Invalid
value_refusal values.NotRead len = None

-- The data type is none, extras and key lie in the body, and their lengths are allowed.
abbrev pub has_head : FrameData → Shape → Bool
has_head f shape =
    f.datatype == 0 && nat_le (f.extras_len + f.key_len) (length f.body)
    && takes_extras shape.extras f.extras_len && takes_key shape.key f.key_len

-- how a frame of a shape is refused, if it is: all of that is looked at before the value
abbrev pub refusal_of : FrameData → Shape → Option Bad
refusal_of f shape = if has_head f shape then value_refusal shape.value (length (value_of f)) else Some Invalid
