-- A frame of each kind that isn't refused.
use Rattle.std.proofs.Common.{◌≡◌, ℕ, List, [], ◌∷◌, ◌++◌, length, replicate, Ok, Result, IsOk, refl, sym, subst, arith}
use Rattle.std.proofs.lemmas.Grind.{common_steps}
use Rattle.mcbp_frame.specs.Header.{request_magic}
use Rattle.mcbp_frame.specs.Frames.{IsFrame, frame_at}
use Rattle.mcbp_ops.specs.declared.kind.Kind.{Kind}
use Rattle.mcbp_ops.specs.declared.kind.Kind.TheVariants.{Get, Store, Join, Count, Delete, Touch, Observe, Failovers, SetState, GetState, Stat, Hello, Noop, Version, Quit}
use Rattle.mcbp_ops.specs.declared.op.Bad.{Bad}
use Rattle.mcbp_ops.specs.declared.op.Bad.TheVariants.{Unknown, Unsupported, Invalid, TooLarge}
use Rattle.mcbp_ops.specs.Table.{kind_of}
use Rattle.mcbp_ops.specs.Ops.{op_of, op_of_kind}
use Rattle.mcbp_ops.specs.Laws.{EachOpcodeIsServed, QuietReadsAsPlain, RefusalsAreWritten}

-- a frame with this body, of less than 256 bytes
abbrev frame_with : ℕ → ℕ → ℕ → List ℕ → List ℕ
frame_with opcode key_len extras_len body =
    request_magic ∷ opcode ∷ 0 ∷ key_len ∷ extras_len ∷ 0 ∷ 0 ∷ 0 ∷ 0 ∷ 0 ∷ 0 ∷ length body ∷ replicate 12 0 ++ body

-- a frame of a kind, whose key, extras and value have lengths that the kind allows; a state is 1
abbrev frame_of : ℕ → Kind → List ℕ
frame_of opcode (Get keyed) = frame_with opcode 1 0 (replicate 1 1)
frame_of opcode (Store kind) = frame_with opcode 1 8 (replicate 9 1)
frame_of opcode (Join front) = frame_with opcode 1 0 (replicate 1 1)
frame_of opcode (Count down) = frame_with opcode 1 20 (replicate 21 1)
frame_of opcode Delete = frame_with opcode 1 0 (replicate 1 1)
frame_of opcode (Touch fetch) = frame_with opcode 1 4 (replicate 5 1)
frame_of opcode Observe = frame_with opcode 0 0 (replicate 8 1)
frame_of opcode Failovers = frame_with opcode 0 0 []
frame_of opcode SetState = frame_with opcode 0 1 (replicate 1 1)
frame_of opcode GetState = frame_with opcode 0 0 []
frame_of opcode Stat = frame_with opcode 0 0 []
frame_of opcode Hello = frame_with opcode 0 0 []
frame_of opcode Noop = frame_with opcode 0 0 []
frame_of opcode Version = frame_with opcode 0 0 []
frame_of opcode Quit = frame_with opcode 0 0 []

whole : (opcode : ℕ) (kind : Kind) → IsFrame (frame_of opcode kind)
whole opcode (Get keyed) = record { magic = refl; header = omega arith; body = omega arith; whole = refl }
whole opcode (Store kind) = record { magic = refl; header = omega arith; body = omega arith; whole = refl }
whole opcode (Join front) = record { magic = refl; header = omega arith; body = omega arith; whole = refl }
whole opcode (Count down) = record { magic = refl; header = omega arith; body = omega arith; whole = refl }
whole opcode Delete = record { magic = refl; header = omega arith; body = omega arith; whole = refl }
whole opcode (Touch fetch) = record { magic = refl; header = omega arith; body = omega arith; whole = refl }
whole opcode Observe = record { magic = refl; header = omega arith; body = omega arith; whole = refl }
whole opcode Failovers = record { magic = refl; header = omega arith; body = omega arith; whole = refl }
whole opcode SetState = record { magic = refl; header = omega arith; body = omega arith; whole = refl }
whole opcode GetState = record { magic = refl; header = omega arith; body = omega arith; whole = refl }
whole opcode Stat = record { magic = refl; header = omega arith; body = omega arith; whole = refl }
whole opcode Hello = record { magic = refl; header = omega arith; body = omega arith; whole = refl }
whole opcode Noop = record { magic = refl; header = omega arith; body = omega arith; whole = refl }
whole opcode Version = record { magic = refl; header = omega arith; body = omega arith; whole = refl }
whole opcode Quit = record { magic = refl; header = omega arith; body = omega arith; whole = refl }

opcode_of : (opcode : ℕ) (kind : Kind) → (frame_at (frame_of opcode kind) 0).opcode ≡ opcode
opcode_of opcode (Get keyed) = refl
opcode_of opcode (Store kind) = refl
opcode_of opcode (Join front) = refl
opcode_of opcode (Count down) = refl
opcode_of opcode Delete = refl
opcode_of opcode (Touch fetch) = refl
opcode_of opcode Observe = refl
opcode_of opcode Failovers = refl
opcode_of opcode SetState = refl
opcode_of opcode GetState = refl
opcode_of opcode Stat = refl
opcode_of opcode Hello = refl
opcode_of opcode Noop = refl
opcode_of opcode Version = refl
opcode_of opcode Quit = refl

passes : (opcode : ℕ) (kind : Kind) → IsOk (op_of_kind (frame_at (frame_of opcode kind) 0) (Ok kind))
passes opcode (Get keyed) = refl
passes opcode (Store kind) = refl
passes opcode (Join front) = refl
passes opcode (Count down) = refl
passes opcode Delete = refl
passes opcode (Touch fetch) = refl
passes opcode Observe = refl
passes opcode Failovers = refl
passes opcode SetState = refl
passes opcode GetState = refl
passes opcode Stat = refl
passes opcode Hello = refl
passes opcode Noop = refl
passes opcode Version = refl
passes opcode Quit = refl

served : (opcode : ℕ) (kind : Kind) → kind_of opcode ≡ Ok kind → IsOk (op_of (frame_at (frame_of opcode kind) 0))
served opcode kind e =
    let P : Result Kind Bad → Type 0 = λ r. IsOk (op_of_kind (frame_at (frame_of opcode kind) 0) r) in
    let Q : ℕ → Type 0 = λ n. P (kind_of n) in
    subst Q (sym (opcode_of opcode kind)) (subst P (sym e) (passes opcode kind))

pub each_opcode_served : EachOpcodeIsServed
each_opcode_served opcode kind e =
    (frame_of opcode kind, record { whole = whole opcode kind; same = opcode_of opcode kind; served = served opcode kind e })

pub quiet_as_plain : QuietReadsAsPlain
quiet_as_plain = (λ f. refl, (λ f. refl, (λ f. refl, (λ f. refl, (λ f. refl, (λ f. refl, (λ f. refl, (λ f. refl, (λ f. refl, (λ f. refl, (λ f. refl, (λ f. refl, tt))))))))))))

pub refusals_written : RefusalsAreWritten
refusals_written opcode Unknown h = grind (arith, common_steps)
refusals_written opcode Unsupported h = grind (arith, common_steps)
refusals_written opcode Invalid h = grind (arith, common_steps)
refusals_written opcode TooLarge h = grind (arith, common_steps)
