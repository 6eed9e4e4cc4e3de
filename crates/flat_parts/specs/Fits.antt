-- Whether a value that may be away is within its limit.
use Rattle.std.specs.Prelude.{ℕ, Bool, true, nat_le, length, Option, Some, None, Vec}
use Rattle.std.specs.declared.alloc.Global.{Global}
use Rattle.ep_model.specs.Limits.{max_value}

abbrev pub is_fitting : Option (Vec ℕ Global) → Bool
is_fitting None = true
is_fitting (Some value) = nat_le (length value.items) max_value
