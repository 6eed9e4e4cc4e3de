-- A text divides into frames and a rest in exactly one way.
use Rattle.std.proofs.Common.{◌≡◌, ℕ, zero, suc, ◌+◌, ◌<◌, ◌≤◌, ◌⊎◌, inl, inr, Bool, true, ◌&&◌, List, [], ◌∷◌, ◌++◌, length, take, drop, eqb, leb, refl, sym, ap, ap₂, ◌∙◌, subst, arith}
use Rattle.std.specs.Prelude.{slice_index}
use Rattle.std.specs.Bool.{Decides}
use Rattle.std.specs.List.{AllByRecursion, concat}
use Rattle.std.proofs.lemmas.Bool.{cases_lt, cases_eq, leb-true, le-leb}
use Rattle.std.proofs.lemmas.Bool.Decides.{Decides-and, Decides-eqb, Decides-like}
use Rattle.std.proofs.lemmas.List.{append_assoc, drop-append-le, drop_at, get_or_append_left, get_or-take, length-append, length-drop, length-take-le, take-append-drop, take_at}
use Rattle.std.proofs.lemmas.List.Folds.{concat-append}
use Rattle.byteorder.specs.Endian.{big_from}
use Rattle.mcbp_frame.specs.Header.{request_magic, header_length, max_body}
use Rattle.mcbp_frame.specs.Frames.{body_length, frame_length, IsFrame}
use Rattle.mcbp_frame.specs.Division.{Divides, HasBadMagic, IsTooLong, IsPartial}
use Rattle.mcbp_frame.specs.Laws.{IsRest}

-- a number is read off a front that has its bytes
big_from-append : (i n : ℕ) (front more : List ℕ) → i + n ≤ length front → big_from i n (front ++ more) ≡ big_from i n front
big_from-append i zero front more enough = refl
big_from-append i (suc n) front more enough =
    let here : slice_index (front ++ more) i ≡ slice_index front i = get_or_append_left front more 0 i (omega arith) in
    let later : big_from (suc i) n (front ++ more) ≡ big_from (suc i) n front = big_from-append (suc i) n front more (omega arith) in
    cc

-- a header says the same body length whatever follows it
pub body_length-append : (front more : List ℕ) → header_length ≤ length front → body_length (front ++ more) ≡ body_length front
body_length-append front more enough =
    rw (drop-append-le 8 front more (omega arith)) (big_from-append 0 4 (drop 8 front) more (omega (arith, length-drop 8 front)))

-- a header says the same frame length whatever follows it
pub frame_length-append : (front more : List ℕ) → header_length ≤ length front → frame_length (front ++ more) ≡ frame_length front
frame_length-append front more enough = ap (λ n. header_length + n) (body_length-append front more enough)

-- a frame's length stands in whatever text begins with it
pub frame_length_front : (frame more : List ℕ) → IsFrame frame → frame_length (frame ++ more) ≡ length frame
frame_length_front frame more is = frame_length-append frame more is.header ∙ sym is.whole

-- two frames that begin one text are the same frame
pub same_first : (a b x y : List ℕ) → IsFrame a → IsFrame b → a ++ x ≡ b ++ y → (a ≡ b) × (x ≡ y)
same_first a b x y is_a is_b e =
    let same : length a ≡ length b = sym (frame_length_front a x is_a) ∙ ap (λ text. frame_length text) e ∙ frame_length_front b y is_b in (
      sym (take_at a x (length a) refl) ∙ ap (λ text. take (length a) text) e ∙ take_at b y (length a) (sym same),
      sym (drop_at a x (length a) refl) ∙ ap (λ text. drop (length a) text) e ∙ drop_at b y (length a) (sym same),
    )

-- a text that divides into a frame and more begins with that frame
pub begins : {text frame : List ℕ} {frames : List (List ℕ)} {rest : List ℕ} → Divides text (frame ∷ frames) rest → text ≡ frame ++ (concat frames ++ rest)
begins {frame = frame} {frames = frames} {rest = rest} d = d.whole ∙ append_assoc frame (concat frames) rest

-- what follows the first frame divides into the frames that follow it, with the same rest
pub later_division : {text frame : List ℕ} {frames : List (List ℕ)} {rest : List ℕ} → Divides text (frame ∷ frames) rest → Divides (concat frames ++ rest) frames rest
later_division d = record { whole = refl; each = d.each.1; over = d.over }

-- the frames of one text are the same, and so is the rest
pub one_division : {text : List ℕ} {frames frames' : List (List ℕ)} {rest rest' : List ℕ} → Divides text frames rest → Divides text frames' rest' → (frames ≡ frames') × (rest ≡ rest')
one_division {frames = []} {frames' = []} d e = (refl, sym d.whole ∙ e.whole)
one_division {frames = []} {frames' = frame ∷ frames'} d e = absurd (d.over frame _ e.each.0 (sym d.whole ∙ begins e))
one_division {frames = frame ∷ frames} {frames' = []} d e = absurd (e.over frame _ d.each.0 (sym e.whole ∙ begins d))
one_division {frames = frame ∷ frames} {frames' = frame' ∷ frames'} {rest = rest} {rest' = rest'} d e =
    let first = same_first frame frame' _ _ d.each.0 e.each.0 (sym (begins d) ∙ begins e) in
    let moved : Divides (concat frames ++ rest) frames' rest' = subst (λ text. Divides text frames' rest') (sym first.1) (later_division e) in
    let later = one_division (later_division d) moved in
    (ap₂ (λ x xs. x ∷ xs) first.0 later.0, later.1)

-- no frame begins it
abbrev pub BeginsNone : List ℕ → Type 0
BeginsNone rest = (frame more : List ℕ) → IsFrame frame → rest ≡ frame ++ more → ⊥

-- What a text that begins with a frame has of it.
pub record HasFirst (text : List ℕ) : Type 0 where
  pub magic : slice_index text 0 ≡ request_magic
  pub header : header_length ≤ length text
  pub body : body_length text ≤ max_body
  pub whole : frame_length text ≤ length text

-- a text that begins with a frame has what the frame has
pub first_from : (text frame more : List ℕ) → IsFrame frame → text ≡ frame ++ more → HasFirst text
first_from text frame more is e = subst (λ t. HasFirst t) (sym e) (record {
  magic = get_or_append_left frame more 0 0 (omega arith) ∙ is.magic;
  header = omega (arith, length-append frame more);
  body = omega (arith, body_length-append frame more is.header);
  whole = omega (arith, length-append frame more, frame_length_front frame more is);
})

-- such a text's first bytes, as many as its header says, are a frame
pub IsFrame-first : (text : List ℕ) → HasFirst text → IsFrame (take (frame_length text) text)
IsFrame-first text has =
    let size : length (take (frame_length text) text) ≡ frame_length text = length-take-le (frame_length text) text has.whole in
    let header : header_length ≤ length (take (frame_length text) text) = omega arith in
    let body : body_length (take (frame_length text) text) ≡ body_length text =
    sym (body_length-append (take (frame_length text) text) (drop (frame_length text) text) header) ∙ ap (λ t. body_length t) (take-append-drop (frame_length text) text) in
    record {
      magic = get_or-take (frame_length text) text 0 0 (omega arith) ∙ has.magic;
      header = header;
      body = omega arith;
      whole = size ∙ ap (λ n. header_length + n) (sym body);
    }

-- it is followed by the bytes that come after as many
pub first_whole : (text : List ℕ) → text ≡ take (frame_length text) text ++ drop (frame_length text) text
first_whole text = sym (take-append-drop (frame_length text) text)

-- a partial rest begins with no frame
pub partial_over : {rest : List ℕ} → IsPartial rest → BeginsNone rest
partial_over {rest} partial frame more is e = let has = first_from rest frame more is e in absurd (omega (arith, partial.short has.header))

-- nor does one that begins with another byte than a request
pub bad_magic_over : {rest : List ℕ} → HasBadMagic rest → BeginsNone rest
bad_magic_over {rest} bad frame more is e = bad.magic (first_from rest frame more is e).magic

-- nor does one whose header says a body that is too long
pub too_long_over : {rest : List ℕ} → IsTooLong rest → BeginsNone rest
too_long_over {rest} long frame more is e = let has = first_from rest frame more is e in absurd (omega arith)

-- a rest that is partial, has bad magic or is too long begins with no frame
pub rest_over : (rest : List ℕ) → IsRest rest → BeginsNone rest
rest_over rest (inl partial) = partial_over partial
rest_over rest (inr (inl bad)) = bad_magic_over bad
rest_over rest (inr (inr long)) = too_long_over long

-- each text begins with a frame, or its header says why it doesn't
pub first_or_rest : (text : List ℕ) → HasFirst text ⊎ IsRest text
first_or_rest text = elim (cases_eq (length text) 0) [
  | inl e ↦ inr (inl (record { magic = λ h. absurd (omega arith); body = λ h. absurd (omega arith); short = λ h. absurd (omega arith) }))
  | inr some ↦ elim (cases_eq (slice_index text 0) request_magic) [
    | inr other ↦ inr (inr (inl (record { some = omega arith; magic = other })))
    | inl magic ↦ elim (cases_lt (length text) header_length) [
      | inl few ↦ inr (inl (record { magic = λ h. magic; body = λ h. absurd (omega arith); short = λ h. absurd (omega arith) }))
      | inr header ↦ elim (cases_lt max_body (body_length text)) [
        | inl long ↦ inr (inr (inr (record { magic = magic; header = header; body = long })))
        | inr fits ↦ elim (cases_lt (length text) (frame_length text)) [
          | inl short ↦ inr (inl (record { magic = λ h. magic; body = λ h. fits; short = λ h. short }))
          | inr whole ↦ inl (record { magic = magic; header = header; body = fits; whole = whole })
        ]
      ]
    ]
  ]
]

-- whether a text begins with a frame
abbrev pub begins_frame : List ℕ → Bool
begins_frame text = eqb (slice_index text 0) request_magic && leb header_length (length text) && leb (body_length text) max_body && leb (frame_length text) (length text)

-- a test of numbers
Decides-leb : (a b : ℕ) → Decides (leb a b) (a ≤ b)
Decides-leb a b = (leb-true a b, le-leb a b)

-- the test is true of what begins with a frame, and of nothing else
pub Decides-begins_frame : (text : List ℕ) → Decides (begins_frame text) (HasFirst text)
Decides-begins_frame text = Decides-like (begins_frame text)
    (λ h. record { magic = h.0.0.0; header = h.0.0.1; body = h.0.1; whole = h.1 })
    (λ has. (((has.magic, has.header), has.body), has.whole))
    (Decides-and _ _ (Decides-and _ _ (Decides-and _ _ (Decides-eqb (slice_index text 0) request_magic) (Decides-leb header_length (length text))) (Decides-leb (body_length text) max_body)) (Decides-leb (frame_length text) (length text)))

-- what no frame begins is a rest, of one of the three kinds
pub rest_from_none : (rest : List ℕ) → BeginsNone rest → IsRest rest
rest_from_none rest none = elim (first_or_rest rest) [ inl has ↦ absurd (none _ _ (IsFrame-first rest has) (first_whole rest)) | inr is ↦ is ]

-- what a division leaves over is of one of the three kinds
pub rest_of : {text : List ℕ} {frames : List (List ℕ)} {rest : List ℕ} → Divides text frames rest → IsRest rest
rest_of {rest = rest} d = rest_from_none rest d.over

-- what is partial doesn't begin with another byte than a request
pub partial_or_bad_magic : (rest : List ℕ) → IsPartial rest → HasBadMagic rest → ⊥
partial_or_bad_magic rest partial bad = bad.magic (partial.magic bad.some)

-- nor does its header say a body that is too long
pub partial_or_too_long : (rest : List ℕ) → IsPartial rest → IsTooLong rest → ⊥
partial_or_too_long rest partial long = absurd (omega (arith, partial.body long.header))

-- a body that is too long stands in a request
pub bad_magic_or_too_long : (rest : List ℕ) → HasBadMagic rest → IsTooLong rest → ⊥
bad_magic_or_too_long rest bad long = bad.magic long.magic

-- a partial rest is shorter than the longest frame
pub partial_below : (rest : List ℕ) → IsPartial rest → length rest < header_length + max_body
partial_below rest partial = elim (cases_lt (length rest) header_length) [ inl few ↦ omega arith | inr header ↦ omega (arith, partial.body header, partial.short header) ]

-- bytes that follow don't mend another first byte than a request's
pub bad_magic-append : (rest more : List ℕ) → HasBadMagic rest → HasBadMagic (rest ++ more)
bad_magic-append rest more bad = record {
  some = let some = bad.some in omega (arith, length-append rest more);
  magic = λ e. bad.magic (sym (get_or_append_left rest more 0 0 bad.some) ∙ e);
}

-- bytes that follow don't mend a body that is too long
pub too_long-append : (rest more : List ℕ) → IsTooLong rest → IsTooLong (rest ++ more)
too_long-append rest more long = record {
  magic = get_or_append_left rest more 0 0 (omega arith) ∙ long.magic;
  header = omega (arith, length-append rest more);
  body = omega (arith, body_length-append rest more long.header);
}

-- what no frame begins divides into no frame and itself
pub divides-none : (rest : List ℕ) → BeginsNone rest → Divides rest [] rest
divides-none rest none = record { whole = refl; each = tt; over = none }

-- a frame before a text is the first of its frames
pub divides-cons : (frame : List ℕ) {text : List ℕ} {frames : List (List ℕ)} {rest : List ℕ} → IsFrame frame → Divides text frames rest → Divides (frame ++ text) (frame ∷ frames) rest
divides-cons frame {text} {frames = frames} {rest = rest} is d = record {
  whole = ap (λ t. frame ++ t) d.whole ∙ sym (append_assoc frame (concat frames) rest);
  each = (is, d.each);
  over = d.over;
}

-- frames, and a rest of one of the three kinds, are the division of what they make
pub divides-front : {text : List ℕ} (frames : List (List ℕ)) (rest : List ℕ) → text ≡ concat frames ++ rest → AllByRecursion IsFrame frames → IsRest rest → Divides text frames rest
divides-front frames rest e each is = record { whole = e; each = each; over = rest_over rest is }

-- the first frame, as many bytes as the header says, and then the division of what follows it
pub divides-first : (text : List ℕ) {frames : List (List ℕ)} {rest : List ℕ} → HasFirst text → Divides (drop (frame_length text) text) frames rest → Divides text (take (frame_length text) text ∷ frames) rest
divides-first text {frames} {rest} has d =
    subst (λ t. Divides t (take (frame_length text) text ∷ frames) rest) (sym (first_whole text)) (divides-cons (take (frame_length text) text) (IsFrame-first text has) d)

-- frames and more frames are all frames
each-append : (frames later : List (List ℕ)) → AllByRecursion IsFrame frames → AllByRecursion IsFrame later → AllByRecursion IsFrame (frames ++ later)
each-append [] later all others = others
each-append (frame ∷ frames) later all others = (all.0, each-append frames later all.1 others)

-- a division goes on with the rest and the bytes that follow
pub divides-append : (more : List ℕ) {text : List ℕ} {frames later : List (List ℕ)} {rest rest' : List ℕ} → Divides text frames rest → Divides (rest ++ more) later rest' → Divides (text ++ more) (frames ++ later) rest'
divides-append more {text} {frames} {later} {rest} {rest'} d e = record {
  whole =
      ap (λ t. t ++ more) d.whole
      ∙ append_assoc (concat frames) rest more
      ∙ ap (λ t. concat frames ++ t) e.whole
      ∙ sym (append_assoc (concat frames) (concat later) rest')
      ∙ ap (λ t. t ++ rest') (sym (concat-append frames later));
  each = each-append frames later d.each e.each;
  over = e.over;
}

-- bytes that follow change no division that ends in a rest that they can't mend
pub divides-stuck : (more : List ℕ) {text : List ℕ} {frames : List (List ℕ)} {rest : List ℕ} → Divides text frames rest → HasBadMagic rest ⊎ IsTooLong rest → Divides (text ++ more) frames (rest ++ more)
divides-stuck more {frames = frames} {rest = rest} d stuck =
    let still : IsRest (rest ++ more) = elim stuck [ inl bad ↦ inr (inl (bad_magic-append rest more bad)) | inr long ↦ inr (inr (too_long-append rest more long)) ] in
    divides-front frames (rest ++ more) (ap (λ t. t ++ more) d.whole ∙ append_assoc (concat frames) rest more) d.each still

-- a text of at most n bytes has a division
some_within : (n : ℕ) (text : List ℕ) → length text ≤ n → (frames : List (List ℕ)) × (rest : List ℕ) × Divides text frames rest
some_within zero text few = ([], text, divides-none text (λ frame more is e. let has = first_from text frame more is e in absurd (omega arith)))
some_within (suc n) text few = elim (first_or_rest text) [
  | inr is ↦ ([], text, divides-none text (rest_over text is))
  | inl has ↦
      let later = some_within n (drop (frame_length text) text) (omega (arith, length-drop (frame_length text) text)) in
      (take (frame_length text) text ∷ later.0, later.1, divides-first text has later.2)
]

-- each text has a division
pub some_division : (text : List ℕ) → (frames : List (List ℕ)) × (rest : List ℕ) × Divides text frames rest
some_division text = some_within (length text) text (omega arith)
