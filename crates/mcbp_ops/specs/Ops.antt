-- What a frame asks for.
use Rattle.std.specs.Prelude.{ℕ, ◌==◌, if◌then◌else◌, List, length, drop, Option, Some, None, Result, Ok, Err}
use Rattle.std.specs.Option.{option_map, ok_or}
use Rattle.byteorder.specs.Endian.{big_number}
use Rattle.ep_model.specs.declared.call.Call.{Call}
use Rattle.ep_model.specs.declared.call.VbState.{VbState}
use Rattle.ep_model.specs.declared.call.VbState.TheVariants.{Active, Replica, Pending, Dead}
use Rattle.ep_model.specs.declared.data.CallData.{CallData}
use Rattle.ep_model.specs.declared.data.CallData.TheVariants as calls
use Rattle.ep_model.specs.History.{call_data}
use Rattle.ep_model.specs.Limits.{IsWithin}
use Rattle.ep_model.specs.Statuses.{too_large, invalid, unknown_command, not_supported}
use Rattle.mcbp_frame.specs.declared.frame.FrameData.{FrameData}
use Rattle.mcbp_ops.specs.declared.kind.Kind.{Kind}
use Rattle.mcbp_ops.specs.declared.kind.Kind.TheVariants as kinds
use Rattle.mcbp_ops.specs.declared.op.Bad.{Bad}
use Rattle.mcbp_ops.specs.declared.op.Bad.TheVariants.{Unknown, Unsupported, Invalid, TooLarge}
use Rattle.mcbp_ops.specs.declared.op.Op.{Op}
use Rattle.mcbp_ops.specs.declared.op.Op.TheVariants as ops
use Rattle.mcbp_ops.specs.declared.op.OpData.{OpData}
use Rattle.mcbp_ops.specs.declared.read.Reading.{Reading}
use Rattle.mcbp_ops.specs.declared.op.OpData.TheVariants.{Engine, Noop, Version, Stat, Hello, Quit}
use Rattle.mcbp_ops.specs.Table.{kind_of, shape_of}
use Rattle.mcbp_ops.specs.Checks.{extras_of, key_of, value_of, refusal_of}

-- the status that answers a refused frame
abbrev pub bad_status : Bad → ℕ
bad_status Unknown = unknown_command
bad_status Unsupported = not_supported
bad_status Invalid = invalid
bad_status TooLarge = too_large

-- what is asked for, without where its bytes lie
abbrev pub op_data : Op → OpData
op_data (ops.Engine call) = Engine (call_data call)
op_data ops.Noop = Noop
op_data ops.Version = Version
op_data (ops.Stat group) = Stat group.now
op_data (ops.Hello codes) = Hello codes.now
op_data ops.Quit = Quit

abbrev pub result_data : Result Op Bad → Result OpData Bad
result_data (Ok op) = Ok (op_data op)
result_data (Err bad) = Err bad

abbrev pub reading_data : Result Reading Bad → Result OpData Bad
reading_data (Ok reading) = Ok (op_data reading.op)
reading_data (Err bad) = Err bad

abbrev pub call_result : Result Call Bad → Result CallData Bad
call_result (Ok call) = Ok (call_data call)
call_result (Err bad) = Err bad

-- the key and the value of a call are within their limits
abbrev pub IsWithinOp : OpData → Type 0
IsWithinOp (Engine call) = IsWithin call
IsWithinOp Noop = Unit {0}
IsWithinOp Version = Unit {0}
IsWithinOp (Stat group) = Unit {0}
IsWithinOp (Hello codes) = Unit {0}
IsWithinOp Quit = Unit {0}

-- the state of a number, and the number that one or four bytes of extras say
abbrev pub state_of : ℕ → Option VbState
state_of number =
    if number == 1 then Some Active else
    if number == 2 then Some Replica else
    if number == 3 then Some Pending else
    if number == 4 then Some Dead else None

abbrev pub state_number : List ℕ → ℕ
state_number extras = if length extras == 1 then big_number 1 extras else big_number 4 extras

abbrev pub set_state : VbState → OpData
set_state state = Engine (calls.SetState state)

-- what a frame asks for that has the shape of its kind
abbrev pub made : FrameData → Kind → Result OpData Bad
made f (kinds.Get keyed) = Ok (Engine (calls.Get (key_of f)))
made f (kinds.Store kind) = Ok (Engine (calls.Store kind (key_of f) (value_of f) (big_number 4 (extras_of f)) (big_number 4 (drop 4 (extras_of f))) f.cas))
made f (kinds.Join front) = Ok (Engine (calls.Join front (key_of f) (value_of f) f.cas))
made f (kinds.Count down) = Ok (Engine (calls.Count down (key_of f) (big_number 8 (extras_of f)) (big_number 8 (drop 8 (extras_of f))) (big_number 4 (drop 16 (extras_of f))) f.cas))
made f kinds.Delete = Ok (Engine (calls.Delete (key_of f) f.cas))
made f (kinds.Touch fetch) = Ok (Engine (calls.Touch (key_of f) (big_number 4 (extras_of f)) fetch))
made f kinds.Observe = Ok (Engine (calls.Observe (big_number 8 (value_of f))))
made f kinds.Failovers = Ok (Engine calls.Failovers)
made f kinds.SetState = ok_or (option_map set_state (state_of (state_number (extras_of f)))) Invalid
made f kinds.GetState = Ok (Engine calls.GetState)
made f kinds.Stat = Ok (Stat (key_of f))
made f kinds.Hello = Ok (Hello (value_of f))
made f kinds.Noop = Ok Noop
made f kinds.Version = Ok Version
made f kinds.Quit = Ok Quit

abbrev pub made_unless : FrameData → Kind → Option Bad → Result OpData Bad
made_unless f kind (Some bad) = Err bad
made_unless f kind None = made f kind

abbrev pub op_of_kind : FrameData → Result Kind Bad → Result OpData Bad
op_of_kind f (Err bad) = Err bad
op_of_kind f (Ok kind) = made_unless f kind (refusal_of f (shape_of kind))

-- what a frame asks for, or how it is refused: its opcode is looked at first, then its data type and its lengths, and a state last
abbrev pub op_of : FrameData → Result OpData Bad
op_of f = op_of_kind f (kind_of f.opcode)
