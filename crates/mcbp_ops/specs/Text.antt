-- The text of a reply.
use Rattle.std.specs.Prelude.{◌≡◌, ℕ, ◌+◌, Bool, true, false, ◌==◌, ◌||◌, if◌then◌else◌, List, [], ◌++◌, length, Result, Ok, Err}
use Rattle.byteorder.specs.Endian.{big_bytes}
use Rattle.ep_model.specs.declared.call.Reply.{Reply}
use Rattle.ep_model.specs.Statuses.{success, key_not_found}
use Rattle.mcbp_frame.specs.declared.frame.FrameData.{FrameData}
use Rattle.mcbp_frame.specs.Response.{response}
use Rattle.mcbp_ops.specs.declared.kind.Form.{Form}
use Rattle.mcbp_ops.specs.declared.kind.Silence.{Silence}
use Rattle.mcbp_ops.specs.declared.kind.Silence.TheVariants as silences
use Rattle.mcbp_ops.specs.declared.kind.Kind.{Kind}
use Rattle.mcbp_ops.specs.declared.kind.Kind.TheVariants.{Get, Store, Join, Count, Delete, Touch, Observe, Failovers, SetState, GetState, Stat, Hello, Noop, Version, Quit}
use Rattle.mcbp_ops.specs.declared.op.Bad.{Bad}
use Rattle.mcbp_ops.specs.Table.{kind_of}
use Rattle.mcbp_ops.specs.Checks.{key_of}

-- whose replies aren't written where nothing was found, and whose aren't where all went well
abbrev pub hides_misses : ℕ → Bool
hides_misses opcode = opcode == 0x09 || opcode == 0x0d || opcode == 0x1e

abbrev pub hides_success : ℕ → Bool
hides_success opcode =
    opcode == 0x11 || opcode == 0x12 || opcode == 0x13 || opcode == 0x14 || opcode == 0x15 || opcode == 0x16
    || opcode == 0x19 || opcode == 0x1a

-- whether the reply of a quiet opcode isn't written; that of the quiet Quit never is
abbrev pub is_silent : ℕ → ℕ → Bool
is_silent opcode status =
    if opcode == 0x17 then true else
    if hides_misses opcode then status == key_not_found else
    if hides_success opcode then status == success else false

-- whether a silence hides a reply of this status
abbrev pub hides : Silence → ℕ → Bool
hides silences.Never status = false
hides silences.Misses status = status == key_not_found
hides silences.Successes status = status == success
hides silences.Always status = true

-- what an opcode asks for, and which of its replies aren't written
pub record IsFormOf (opcode : ℕ) (form : Form) : Type 0 where
  pub kind : kind_of opcode ≡ Ok form.kind
  pub silence : (status : ℕ) → is_silent opcode status ≡ hides form.silence status

-- the uuid and the sequence number of a mutation, where they are to be shown
abbrev pub mutation_extras : Reply → Bool → List ℕ
mutation_extras reply seqno_feature = if seqno_feature then big_bytes 8 reply.uuid ++ big_bytes 8 reply.seqno else []

-- a response to a frame, of no data type
abbrev pub answer_text : FrameData → ℕ → ℕ → List ℕ → List ℕ → List ℕ → List ℕ
answer_text f status cas extras key value = response f.opcode status f.opaque cas 0 extras key value

-- a response that is a status alone
abbrev pub status_text : FrameData → ℕ → List ℕ
status_text f status = answer_text f status 0 [] [] []

-- a success that shows a value alone
abbrev pub value_text : FrameData → List ℕ → List ℕ
value_text f value = answer_text f success 0 [] [] value

-- a success: which of the reply and of the value it shows
abbrev pub success_text : FrameData → Reply → List ℕ → Bool → Kind → List ℕ
success_text f reply value seqno_feature (Get false) = answer_text f success reply.cas (big_bytes 4 reply.flags) [] value
success_text f reply value seqno_feature (Get true) = answer_text f success reply.cas (big_bytes 4 reply.flags) (key_of f) value
success_text f reply value seqno_feature (Touch true) = answer_text f success reply.cas (big_bytes 4 reply.flags) [] value
success_text f reply value seqno_feature (Touch false) = answer_text f success reply.cas [] [] []
success_text f reply value seqno_feature (Store kind) = answer_text f success reply.cas (mutation_extras reply seqno_feature) [] []
success_text f reply value seqno_feature (Join front) = answer_text f success reply.cas (mutation_extras reply seqno_feature) [] []
success_text f reply value seqno_feature Delete = answer_text f success reply.cas (mutation_extras reply seqno_feature) [] []
success_text f reply value seqno_feature (Count down) = answer_text f success reply.cas (mutation_extras reply seqno_feature) [] value
success_text f reply value seqno_feature Observe = value_text f value
success_text f reply value seqno_feature Failovers = value_text f value
success_text f reply value seqno_feature GetState = value_text f value
success_text f reply value seqno_feature Hello = value_text f value
success_text f reply value seqno_feature Version = value_text f value
success_text f reply value seqno_feature SetState = status_text f success
success_text f reply value seqno_feature Stat = status_text f success
success_text f reply value seqno_feature Noop = status_text f success
success_text f reply value seqno_feature Quit = status_text f success

abbrev pub kind_text : FrameData → Reply → List ℕ → Bool → Result Kind Bad → List ℕ
kind_text f reply value seqno_feature (Ok kind) = success_text f reply value seqno_feature kind
kind_text f reply value seqno_feature (Err bad) = status_text f reply.status

-- the text of a reply: nothing where it is silent, and a status alone where it isn't a success
abbrev pub reply_text : FrameData → Reply → List ℕ → Bool → List ℕ
reply_text f reply value seqno_feature =
    if is_silent f.opcode reply.status then [] else
    if reply.status == success then kind_text f reply value seqno_feature (kind_of f.opcode) else status_text f reply.status

-- how long the header, the extras and the key of a success are that shows the value behind them, and else nothing
abbrev pub head_length : FrameData → Bool → Kind → ℕ
head_length f seqno_feature (Get false) = 24 + 4 + 0
head_length f seqno_feature (Get true) = 24 + 4 + length (key_of f)
head_length f seqno_feature (Touch true) = 24 + 4 + 0
head_length f seqno_feature (Touch false) = 0
head_length f seqno_feature (Store kind) = 0
head_length f seqno_feature (Join front) = 0
head_length f seqno_feature Delete = 0
head_length f seqno_feature (Count down) = 24 + (if seqno_feature then 16 else 0) + 0
head_length f seqno_feature Observe = 24
head_length f seqno_feature Failovers = 24
head_length f seqno_feature GetState = 24
head_length f seqno_feature Hello = 24
head_length f seqno_feature Version = 24
head_length f seqno_feature SetState = 0
head_length f seqno_feature Stat = 0
head_length f seqno_feature Noop = 0
head_length f seqno_feature Quit = 0
