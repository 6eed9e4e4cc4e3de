-- How long the texts of replies are.
use Rattle.std.proofs.Common.{◌≡◌, ℕ, ◌+◌, ◌≤◌, ◌==◌, Bool, true, false, if◌then◌else◌, List, [], ◌++◌, length, take, drop, sym, subst, arith, length-append}
use Rattle.std.specs.Prelude.{Result, Ok, Err}
use Rattle.std.proofs.lemmas.List.{length-take}
use Rattle.byteorder.specs.Endian.{big_bytes}
use Rattle.ep_model.specs.declared.call.Reply.{Reply}
use Rattle.ep_model.specs.Statuses.{success}
use Rattle.mcbp_frame.specs.declared.frame.FrameData.{FrameData}
use Rattle.mcbp_ops.specs.declared.kind.Kind.{Kind}
use Rattle.mcbp_ops.specs.declared.kind.Kind.TheVariants.{Get, Store, Join, Count, Delete, Touch, Observe, Failovers, SetState, GetState, Stat, Hello, Noop, Version, Quit}
use Rattle.mcbp_ops.specs.declared.op.Bad.{Bad}
use Rattle.mcbp_ops.specs.Table.{kind_of}
use Rattle.mcbp_ops.specs.Checks.{key_of}
use Rattle.mcbp_ops.specs.Text.{is_silent, mutation_extras, answer_text, success_text, status_text, kind_text, reply_text, head_length}
use Rattle.mcbp_ops.specs.Laws.{ReplyTextFits}

-- a header has 24 bytes
pub answer_length : (f : FrameData) (status cas : ℕ) (extras key value : List ℕ) → length (answer_text f status cas extras key value) ≡ 24 + (length extras + (length key + length value))
answer_length f status cas extras key value = omega (arith, length-append (extras ++ key) value, length-append extras key)

mutation_length : (reply : Reply) (seqno_feature : Bool) → length (mutation_extras reply seqno_feature) ≤ 16
mutation_length reply true = omega arith
mutation_length reply false = omega arith

key_length : (f : FrameData) → length (key_of f) ≤ f.key_len
key_length f = omega (arith, length-take f.key_len (drop f.extras_len f.body))

-- an answer whose extras and key are no longer than any
fits : (f : FrameData) (status cas : ℕ) (extras key shown value : List ℕ) → length extras ≤ 16 → length key ≤ f.key_len → length shown ≤ length value → length (answer_text f status cas extras key shown) ≤ 40 + f.key_len + length value
fits f status cas extras key shown value e k v = omega (arith, answer_length f status cas extras key shown)

success_fits : (f : FrameData) (reply : Reply) (value : List ℕ) (seqno_feature : Bool) (kind : Kind) → length (success_text f reply value seqno_feature kind) ≤ 40 + f.key_len + length value
success_fits f reply value seqno_feature (Get false) = fits f success reply.cas (big_bytes 4 reply.flags) [] value value (omega arith) (omega arith) (omega arith)
success_fits f reply value seqno_feature (Get true) = fits f success reply.cas (big_bytes 4 reply.flags) (key_of f) value value (omega arith) (key_length f) (omega arith)
success_fits f reply value seqno_feature (Touch true) = fits f success reply.cas (big_bytes 4 reply.flags) [] value value (omega arith) (omega arith) (omega arith)
success_fits f reply value seqno_feature (Touch false) = fits f success reply.cas [] [] [] value (omega arith) (omega arith) (omega arith)
success_fits f reply value seqno_feature (Store kind) = fits f success reply.cas (mutation_extras reply seqno_feature) [] [] value (mutation_length reply seqno_feature) (omega arith) (omega arith)
success_fits f reply value seqno_feature (Join front) = fits f success reply.cas (mutation_extras reply seqno_feature) [] [] value (mutation_length reply seqno_feature) (omega arith) (omega arith)
success_fits f reply value seqno_feature Delete = fits f success reply.cas (mutation_extras reply seqno_feature) [] [] value (mutation_length reply seqno_feature) (omega arith) (omega arith)
success_fits f reply value seqno_feature (Count down) = fits f success reply.cas (mutation_extras reply seqno_feature) [] value value (mutation_length reply seqno_feature) (omega arith) (omega arith)
success_fits f reply value seqno_feature Observe = fits f success 0 [] [] value value (omega arith) (omega arith) (omega arith)
success_fits f reply value seqno_feature Failovers = fits f success 0 [] [] value value (omega arith) (omega arith) (omega arith)
success_fits f reply value seqno_feature GetState = fits f success 0 [] [] value value (omega arith) (omega arith) (omega arith)
success_fits f reply value seqno_feature SetState = fits f success 0 [] [] [] value (omega arith) (omega arith) (omega arith)
success_fits f reply value seqno_feature Stat = fits f success 0 [] [] [] value (omega arith) (omega arith) (omega arith)
success_fits f reply value seqno_feature Hello = fits f success 0 [] [] value value (omega arith) (omega arith) (omega arith)
success_fits f reply value seqno_feature Noop = fits f success 0 [] [] [] value (omega arith) (omega arith) (omega arith)
success_fits f reply value seqno_feature Version = fits f success 0 [] [] value value (omega arith) (omega arith) (omega arith)
success_fits f reply value seqno_feature Quit = fits f success 0 [] [] [] value (omega arith) (omega arith) (omega arith)

status_fits : (f : FrameData) (status : ℕ) (value : List ℕ) → length (status_text f status) ≤ 40 + f.key_len + length value
status_fits f status value = fits f status 0 [] [] [] value (omega arith) (omega arith) (omega arith)

kind_fits : (f : FrameData) (reply : Reply) (value : List ℕ) (seqno_feature : Bool) (kind : Result Kind Bad) → length (kind_text f reply value seqno_feature kind) ≤ 40 + f.key_len + length value
kind_fits f reply value seqno_feature (Ok kind) = success_fits f reply value seqno_feature kind
kind_fits f reply value seqno_feature (Err bad) = status_fits f reply.status value

-- whichever of three texts it is
chosen : (silent plain : Bool) (a b : List ℕ) (most : ℕ) → length a ≤ most → length b ≤ most → length (if silent then [] else if plain then a else b) ≤ most
chosen true plain a b most p q = omega arith
chosen false true a b most p q = p
chosen false false a b most p q = q

pub reply_text_fits : ReplyTextFits
reply_text_fits f reply value seqno_feature =
    chosen (is_silent f.opcode reply.status) (reply.status == success) (kind_text f reply value seqno_feature (kind_of f.opcode)) (status_text f reply.status) (40 + f.key_len + length value)
    (kind_fits f reply value seqno_feature (kind_of f.opcode)) (status_fits f reply.status value)

-- a text has room where the longest has
pub has_room : (f : FrameData) (reply : Reply) (value : List ℕ) (seqno_feature : Bool) (spare : ℕ) → 40 + f.key_len + length value ≤ spare → length (reply_text f reply value seqno_feature) ≤ spare
has_room f reply value seqno_feature spare enough = omega (arith, reply_text_fits f reply value seqno_feature)

-- a counter's answer that shows the uuid and the sequence number, in front of the value that stands
pub stamped_count : (f : FrameData) (reply : Reply) (at : ℕ) (old new stamp : List ℕ) (seqno_feature : Bool) (kind : Kind) (down : Bool)
    → kind ≡ Count down → seqno_feature ≡ true → stamp ≡ big_bytes 8 reply.uuid ++ big_bytes 8 reply.seqno
    → new ≡ take at old ++ answer_text f success reply.cas stamp [] (drop (at + (24 + length stamp + 0)) old)
    → new ≡ take at old ++ success_text f reply (drop (at + head_length f seqno_feature kind) old) seqno_feature kind
stamped_count f reply at old new stamp seqno_feature kind down counts shown is written =
    let Shows : List ℕ → Type 0 = λ extras. new ≡ take at old ++ answer_text f success reply.cas extras [] (drop (at + (24 + length extras + 0)) old) in
    let AtKind : Kind → Type 0 = λ k. new ≡ take at old ++ success_text f reply (drop (at + head_length f true k) old) true k in
    let AtFeature : Bool → Type 0 = λ b. new ≡ take at old ++ success_text f reply (drop (at + head_length f b kind) old) b kind in
    subst AtFeature (sym shown) (subst AtKind (sym counts) (subst Shows is written))
