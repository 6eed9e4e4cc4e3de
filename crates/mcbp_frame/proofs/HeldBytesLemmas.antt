-- The bytes that a buffer holds from one place to another.
use Rattle.std.proofs.Common.{◌≡◌, ℕ, ◌+◌, ◌-◌, ◌≤◌, ◌<◌, List, ◌++◌, length, take, drop, refl, ap, ◌∙◌, sym, arith, length-append}
use Rattle.std.proofs.lemmas.List.{drop-take, drop-drop, length-drop, length-take, length-take-le, drop-append-le}
use Rattle.std.proofs.Math.Seq.{take-append_seam, take-add}
use Rattle.ep_edge.specs.declared.source.Got.{Got}
use Rattle.ep_edge.specs.declared.source.Got.TheVariants as gots
use Rattle.ep_edge.specs.Edge.{bytes_read}
use Rattle.mcbp_frame.specs.Piece.{count_of}
use Rattle.mcbp_frame.specs.declared.frame.Frame.{Frame}
use Rattle.mcbp_frame.specs.declared.frame.FrameData.{FrameData}
use Rattle.mcbp_frame.specs.declared.feeder.FeederData.{FeederData}
use Rattle.mcbp_frame.specs.Header.{header_length}
use Rattle.mcbp_frame.specs.Frames.{frame_length, IsFrame, frame_at, frame_data}
use Rattle.mcbp_frame.specs.Feeder.{first_frame, after_next}
use Rattle.mcbp_frame.specs.declared.feeder.Next.TheVariants as nexts
use Rattle.mcbp_frame.proofs.FirstFrameLemmas.{body_length-take}

-- what a buffer holds from one place to another, as a feeder
abbrev held : List ℕ → ℕ → ℕ → ℕ → FeederData
held buffer start end at = record { at = at; rest = take (end - start) (drop start buffer) }

-- a header and the body of the first frame are as long as the frame
pub frame_length-body : (rest : List ℕ) (at : ℕ) (frame : Frame) → IsFrame (first_frame rest) → frame_data frame ≡ frame_at (first_frame rest) at → header_length + length frame.body.now ≡ frame_length rest
frame_length-body rest at frame whole says =
    let body : length frame.body.now ≡ length (drop 24 (take (frame_length rest) rest)) = ap (λ (d : FrameData). length d.body) says in
    let cut = length-drop 24 (take (frame_length rest) rest) in
    let long = whole.whole in
    let front = whole.header in
    let said = body_length-take (frame_length rest) rest (omega arith) in
    omega arith

-- the first frame lies within the rest
pub frame_length-le : (rest : List ℕ) → IsFrame (first_frame rest) → frame_length rest ≤ length rest
frame_length-le rest whole =
    let long = whole.whole in
    let front = whole.header in
    let cut = length-take (frame_length rest) rest in
    let said = body_length-take (frame_length rest) rest (omega arith) in
    omega arith

-- the rest that begins n bytes later
pub drop-held : (buffer : List ℕ) (start end n : ℕ) → start + n ≤ end → drop n (take (end - start) (drop start buffer)) ≡ take (end - (start + n)) (drop (start + n) buffer)
drop-held buffer start end n h =
    let split : end - start ≡ n + (end - (start + n)) = omega arith in
    rw (split, drop-take n (end - (start + n)) (drop start buffer), drop-drop n start buffer) refl

-- what is left once the first frame is handed out
pub held-after_frame : (buffer : List ℕ) (start end at : ℕ) (frame : Frame) → start ≤ end → end ≤ length buffer → IsFrame (first_frame (take (end - start) (drop start buffer))) × (frame_data frame ≡ frame_at (first_frame (take (end - start) (drop start buffer))) at) → held buffer (start + (header_length + length frame.body.now)) end (at + (header_length + length frame.body.now)) ≡ after_next (held buffer start end at) (nexts.Frame frame)
held-after_frame buffer start end at frame ordered within given =
    let rest = take (end - start) (drop start buffer) in
    let n = frame_length-body rest at frame given.0 given.1 in
    let fits : frame_length rest ≤ length rest = frame_length-le rest given.0 in
    let long : length rest ≤ end - start = omega (arith, length-take (end - start) (drop start buffer)) in
    let moved = drop-held buffer start end (frame_length rest) (omega arith) in
    rw (n, moved) refl

-- n bytes that are written behind the rest
pub held-write : (buffer bytes : List ℕ) (start end n : ℕ) → n ≡ length bytes → start ≤ end → end ≤ length buffer → take (end + n - start) (drop start (take end buffer ++ bytes ++ drop (end + length bytes) buffer)) ≡ take (end - start) (drop start buffer) ++ bytes
held-write buffer bytes start end n long ordered within =
    let behind = drop (end + length bytes) buffer in
    let front : length (take end buffer) ≡ end = length-take-le end buffer within in
    let both = length-append (take end buffer) bytes in
    let inner = drop-append-le start (take end buffer) bytes (omega arith) in
    let outer = drop-append-le start (take end buffer ++ bytes) behind (omega arith) in
    let split : end ≡ start + (end - start) = omega arith in
    let kept : drop start (take end buffer) ≡ take (end - start) (drop start buffer) = ap (λ (m : ℕ). drop start (take m buffer)) split ∙ drop-take start (end - start) buffer in
    let all : end + n - start ≡ length (drop start (take end buffer) ++ bytes) = omega (arith, length-append (drop start (take end buffer)) bytes, length-drop start (take end buffer)) in
    rw (outer, inner, all, take-append_seam (drop start (take end buffer) ++ bytes) behind, kept) refl

-- n bytes that stand behind the rest, whose own bytes stayed
pub held-read : (old new : List ℕ) (start end n : ℕ) → start ≤ end → take end new ≡ take end old → take (end + n - start) (drop start new) ≡ take (end - start) (drop start old) ++ take n (drop end new)
held-read old new start end n ordered same =
    let split : end ≡ start + (end - start) = omega arith in
    let cut : (buffer : List ℕ) → drop start (take end buffer) ≡ take (end - start) (drop start buffer) = λ buffer. ap (λ (m : ℕ). drop start (take m buffer)) split ∙ drop-take start (end - start) buffer in
    let longer : end + n - start ≡ (end - start) + n = omega arith in
    let behind : drop (end - start) (drop start new) ≡ drop end new = drop-drop (end - start) start new ∙ ap (λ (m : ℕ). drop m new) (sym split) in
    ap (λ (m : ℕ). take m (drop start new)) longer ∙ take-add (end - start) n (drop start new)
    ∙ ap (λ (l : List ℕ). l ++ take n (drop (end - start) (drop start new))) (sym (cut new) ∙ ap (λ (l : List ℕ). drop start l) same ∙ cut old)
    ∙ ap (λ (l : List ℕ). take (end - start) (drop start old) ++ take n l) behind

-- what a read gave are so many of the bytes that it was given room for
pub read_piece : (got : Got) (n : ℕ) (into : List ℕ) → n ≡ count_of got → bytes_read got into ≡ take n into
read_piece (gots.Bytes count) n into is = ap (λ (m : ℕ). take m into) (sym is)
read_piece gots.End n into is = ap (λ (m : ℕ). take m into) (sym is)
read_piece gots.Failed n into is = ap (λ (m : ℕ). take m into) (sym is)

pub read_count : (got : Got) (most : ℕ) → ((n : ℕ) → got ≡ gots.Bytes n → (0 < n) × (n ≤ most)) → count_of got ≤ most
read_count (gots.Bytes count) most within = (within count refl).1
read_count gots.End most within = omega arith
read_count gots.Failed most within = omega arith
