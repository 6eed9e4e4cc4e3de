-- Decimal text: what `parse` reads of digits, and that a number's text is read back.
use Rattle.std.proofs.Common.{◌≡◌, ◌≤◌, ◌<◌, ◌^◌, ℕ, true, false, cond, List, [], ◌∷◌, length, get_or, refl, sym, ap, ◌∙◌, arith, decimal}
use Rattle.std.specs.Prelude.{◌&&◌, nat_le, Some, None, Result, Ok, Err}
use Rattle.std.specs.Bool.{Decides}
use Rattle.std.specs.Char.{is_ascii_digit}
use Rattle.std.specs.List.{list_all}
use Rattle.std.specs.Result.{result_ok}
use Rattle.std.specs.Str.{all_ascii_digits, IsAscii, IsUtf8}
use Rattle.std.specs.Str.Parse.{ParsesUnsigned, digits_value}
use Rattle.std.specs.Int.{IsInRange}
use Rattle.std.proofs.lemmas.Bool.{leb-true}
use Rattle.std.proofs.lemmas.Bool.Decides.{Decides-and, Decides-ltb, nat_tests}
use Rattle.std.proofs.lemmas.Fmt.{digits_decimal, digits_value-decimal, length-decimal-le, decimal_nonempty}
use Rattle.std.proofs.lemmas.Str.{IsUtf8-from_ascii}
use Rattle.std.proofs.lemmas.Str.Ascii.{IsAscii-from_reads}
use Rattle.std.proofs.lemmas.Str.Parse.{IsNumeralModel, digit_at, numerals_by_value, tells_all_ascii_digits, parse_digits}
use Rattle.ep_model.specs.Decimal.{is_number, number_of}

-- digits and their value, in std's words
own : IsNumeralModel (λ ds. all_ascii_digits ds ≡ true) (digits_value 10)
own = numerals_by_value (λ ds. all_ascii_digits ds ≡ true) tells_all_ascii_digits

-- what makes a text a number
abbrev Number : List ℕ → Type 0
Number text = (0 < length text) × ((length text ≤ 20) × ((all_ascii_digits text ≡ true) × (digits_value 10 text < 2 ^ 64)))

decides-le : (a b : ℕ) → Decides (nat_le a b) (a ≤ b)
decides-le a b = (λ h. leb-true a b h, λ h. grind (arith, nat_tests))

decides-number : (text : List ℕ) → Decides (is_number text) (Number text)
decides-number text =
    Decides-and _ _ (Decides-ltb 0 (length text))
    (Decides-and _ _ (decides-le (length text) 20)
    (Decides-and _ _ (λ h. h, λ h. h) (Decides-ltb (digits_value 10 text) (2 ^ 64))))

-- a text that is a number has one
some-number : (text : List ℕ) → Number text → number_of text ≡ Some (digits_value 10 text)
some-number text is = ap (λ b. cond b (Some (digits_value 10 text)) None) ((decides-number text).1 is)

-- and any other has none
no-number : (text : List ℕ) → ¬ (Number text) → number_of text ≡ None
no-number text not =
    elim (is_number text) as (λ b. is_number text ≡ b → cond b (Some (digits_value 10 text)) None ≡ None) [
      | true ↦ λ is. absurd (not ((decides-number text).0 is))
      | false ↦ λ is. refl
    ] refl

-- a text that is too long
pub number_of-long : (text : List ℕ) → 20 < length text → number_of text ≡ None
number_of-long text long = no-number text (λ is. let h : length text ≤ 20 = is.1.0 in omega arith)

-- the two tests of digits are one
digits-all : (text : List ℕ) → list_all is_ascii_digit text ≡ all_ascii_digits text
digits-all [] = refl
digits-all (c ∷ cs) = ap (λ b. is_ascii_digit c && b) (digits-all cs)

-- a text with another byte
pub number_of-other : (text : List ℕ) → list_all is_ascii_digit text ≡ false → number_of text ≡ None
number_of-other text other = no-number text (λ is. let digits : all_ascii_digits text ≡ true = is.1.1.0 in let both : list_all is_ascii_digit text ≡ all_ascii_digits text = digits-all text in cc)

-- digits are ASCII
digits-ascii : (text : List ℕ) → all_ascii_digits text ≡ true → IsAscii text
digits-ascii text is =
    IsAscii-from_reads text (length text) (omega arith) (λ k h.
    let digit : IsInRange 48 57 (get_or text k 0) = digit_at text k (own.to text is) h in omega arith)

-- digits are text
pub digits-text : (text : List ℕ) → list_all is_ascii_digit text ≡ true → IsUtf8 text
digits-text text is = IsUtf8-from_ascii text (digits-ascii text (sym (digits-all text) ∙ is))

-- what `parse` reads of digits is the number
pub number_of-parsed : {E : Type 0} (text : List ℕ) (r : Result ℕ E) → length text ≤ 20 → list_all is_ascii_digit text ≡ true → ParsesUnsigned 64 10 text r → result_ok r ≡ number_of text
number_of-parsed {E} text (Ok n) short digits parsed =
    let is : all_ascii_digits text ≡ true = sym (digits-all text) ∙ digits in
    let h = parse_digits own {E = E} 64 text (Ok n) parsed is in
    ap Some h.1 ∙ sym (some-number text (h.0.0, (short, (is, h.0.1))))
number_of-parsed {E} text (Err e) short digits parsed =
    let is : all_ascii_digits text ≡ true = sym (digits-all text) ∙ digits in
    let h = parse_digits own {E = E} 64 text (Err e) parsed is in
    sym (no-number text (λ number. h (number.0, number.1.1.1)))

-- a number's text is read back
pub number_of-decimal : (n : ℕ) → n < 2 ^ 64 → number_of (decimal n) ≡ Some n
number_of-decimal n small =
    let value : digits_value 10 (decimal n) ≡ n = digits_value-decimal own n small in
    some-number (decimal n) (decimal_nonempty n small, (length-decimal-le 20 n (omega arith) (omega arith) small, (digits_decimal own n small, omega arith))) ∙ ap Some value
