-- The table of opcodes: what each asks for, and the lengths that a frame of it may have.
use Rattle.std.specs.Prelude.{ℕ, true, false, ◌==◌, ◌||◌, if◌then◌else◌, Result, Ok, Err}
use Rattle.ep_model.specs.declared.call.StoreKind.TheVariants.{Set, Add, Replace}
use Rattle.mcbp_ops.specs.declared.kind.Form.{Form}
use Rattle.mcbp_ops.specs.declared.kind.Kind.{Kind}
use Rattle.mcbp_ops.specs.declared.kind.Kind.TheVariants.{Get, Store, Join, Count, Delete, Touch, Observe, Failovers, SetState, GetState, Stat, Hello, Noop, Version, Quit}
use Rattle.mcbp_ops.specs.declared.op.Bad.{Bad}
use Rattle.mcbp_ops.specs.declared.op.Bad.TheVariants.{Unknown, Unsupported}
use Rattle.mcbp_ops.specs.declared.shape.Shape.{Shape}
use Rattle.mcbp_ops.specs.declared.shape.ExtrasRule.TheVariants.{Exactly, OneOrFour}
use Rattle.mcbp_ops.specs.declared.shape.KeyRule.{KeyRule}
use Rattle.mcbp_ops.specs.declared.shape.KeyRule.TheVariants as keys
use Rattle.mcbp_ops.specs.declared.shape.ValueRule.{ValueRule}
use Rattle.mcbp_ops.specs.declared.shape.ValueRule.TheVariants as values

-- what each opcode asks for, its plain form before its quiet form; Flush is never served, and all other opcodes are unknown
abbrev pub kind_of : ℕ → Result Kind Bad
kind_of opcode =
    if opcode == 0x00 || opcode == 0x09 then Ok (Get false) else
    if opcode == 0x0c || opcode == 0x0d then Ok (Get true) else
    if opcode == 0x01 || opcode == 0x11 then Ok (Store Set) else
    if opcode == 0x02 || opcode == 0x12 then Ok (Store Add) else
    if opcode == 0x03 || opcode == 0x13 then Ok (Store Replace) else
    if opcode == 0x0e || opcode == 0x19 then Ok (Join false) else
    if opcode == 0x0f || opcode == 0x1a then Ok (Join true) else
    if opcode == 0x05 || opcode == 0x15 then Ok (Count false) else
    if opcode == 0x06 || opcode == 0x16 then Ok (Count true) else
    if opcode == 0x04 || opcode == 0x14 then Ok Delete else
    if opcode == 0x1c then Ok (Touch false) else
    if opcode == 0x1d || opcode == 0x1e then Ok (Touch true) else
    if opcode == 0x91 then Ok Observe else
    if opcode == 0x96 then Ok Failovers else
    if opcode == 0x3d then Ok SetState else
    if opcode == 0x3e then Ok GetState else
    if opcode == 0x10 then Ok Stat else
    if opcode == 0x1f then Ok Hello else
    if opcode == 0x0a then Ok Noop else
    if opcode == 0x0b then Ok Version else
    if opcode == 0x07 || opcode == 0x17 then Ok Quit else
    if opcode == 0x08 || opcode == 0x18 then Err Unsupported else
    Err Unknown

-- what the form of an opcode asks for
abbrev pub kind_result : Result Form Bad → Result Kind Bad
kind_result (Ok form) = Ok form.kind
kind_result (Err bad) = Err bad

-- so many bytes of extras, a key and a value
abbrev pub shape_with : ℕ → KeyRule → ValueRule → Shape
shape_with extras key value = record { extras = Exactly extras; key = key; value = value }

-- the lengths that a frame of each kind may have
abbrev pub shape_of : Kind → Shape
shape_of (Get keyed) = shape_with 0 keys.Needed values.Absent
shape_of (Store kind) = shape_with 8 keys.Needed values.Any
shape_of (Join front) = shape_with 0 keys.Needed values.Any
shape_of (Count down) = shape_with 20 keys.Needed values.Absent
shape_of Delete = shape_with 0 keys.Needed values.Absent
shape_of (Touch fetch) = shape_with 4 keys.Needed values.Absent
shape_of Observe = shape_with 0 keys.Absent values.Eight
shape_of Failovers = shape_with 0 keys.Absent values.Absent
shape_of SetState = record { extras = OneOrFour; key = keys.Absent; value = values.NotRead }
shape_of GetState = shape_with 0 keys.Absent values.Absent
shape_of Stat = shape_with 0 keys.Optional values.NotRead
shape_of Hello = shape_with 0 keys.Optional values.Even
shape_of Noop = shape_with 0 keys.Absent values.Absent
shape_of Version = shape_with 0 keys.Absent values.Absent
shape_of Quit = shape_with 0 keys.Absent values.Absent
