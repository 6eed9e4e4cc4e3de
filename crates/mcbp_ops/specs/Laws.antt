-- Laws of the table of opcodes.
use Rattle.std.specs.Prelude.{◌≡◌, ◌≢◌, ◌≤◌, ◌+◌, ℕ, Bool, false, List, [], ◌∷◌, length, Ok, IsOk}
use Rattle.ep_model.specs.declared.call.Reply.{Reply}
use Rattle.std.specs.List.{AllByRecursion}
use Rattle.mcbp_frame.specs.declared.frame.FrameData.{FrameData}
use Rattle.mcbp_frame.specs.Frames.{IsFrame, frame_at}
use Rattle.mcbp_ops.specs.declared.kind.Kind.{Kind}
use Rattle.mcbp_ops.specs.declared.op.Bad.{Bad}
use Rattle.mcbp_ops.specs.Table.{kind_of}
use Rattle.mcbp_ops.specs.Ops.{bad_status, op_of}
use Rattle.mcbp_ops.specs.Text.{is_silent, reply_text}

-- these bytes are a frame of the opcode that isn't refused
pub record IsServed (opcode : ℕ) (bytes : List ℕ) : Type 0 where
  pub whole : IsFrame bytes
  pub same : (frame_at bytes 0).opcode ≡ opcode
  pub served : IsOk (op_of (frame_at bytes 0))

-- each opcode of the table has a frame that isn't refused
abbrev pub EachOpcodeIsServed : Type 0
EachOpcodeIsServed = (opcode : ℕ) (kind : Kind) → kind_of opcode ≡ Ok kind → (bytes : List ℕ) × IsServed opcode bytes

-- the quiet forms, each before its plain form
abbrev pub quiet_forms : List (ℕ × ℕ)
quiet_forms =
    (0x09, 0x00) ∷ (0x0d, 0x0c) ∷ (0x1e, 0x1d) ∷
    (0x11, 0x01) ∷ (0x12, 0x02) ∷ (0x13, 0x03) ∷ (0x14, 0x04) ∷ (0x15, 0x05) ∷ (0x16, 0x06) ∷
    (0x19, 0x0e) ∷ (0x1a, 0x0f) ∷ (0x17, 0x07) ∷ []

-- a frame asks for the same under both forms, or is refused for the same reason
abbrev pub ReadsAsPlain : ℕ × ℕ → Type 0
ReadsAsPlain forms = (f : FrameData) → op_of (record f { opcode = forms.0 }) ≡ op_of (record f { opcode = forms.1 })

abbrev pub QuietReadsAsPlain : Type 0
QuietReadsAsPlain = AllByRecursion ReadsAsPlain quiet_forms

-- no quiet opcode hides that its frame is refused, but for the quiet Quit
abbrev pub RefusalsAreWritten : Type 0
RefusalsAreWritten = (opcode : ℕ) (bad : Bad) → opcode ≢ 0x17 → is_silent opcode (bad_status bad) ≡ false

-- no text of a reply is longer than a header, the extras of a mutation, the key and the value
abbrev pub ReplyTextFits : Type 0
ReplyTextFits = (f : FrameData) (reply : Reply) (value : List ℕ) (seqno_feature : Bool) → length (reply_text f reply value seqno_feature) ≤ 40 + f.key_len + length value
