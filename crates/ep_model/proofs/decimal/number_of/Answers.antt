use Rattle.std.proofs.Common.{◌≡◌, ◌≤◌, ◌∙◌, sym, ap, true, length, arith}
use Rattle.std.specs.Char.{is_ascii_digit}
use Rattle.std.specs.List.{list_all}
use Rattle.ep_model.specs.Decimal.{number_of}
use Rattle.ep_model.proofs.DecimalLemmas.{digits-text, number_of-parsed}
use Rattle.ep_model.proofs.decimal.number_of.Goals as goal

pub returns-in_default : goal.returns-in_default
returns-in_default c =
    absurd (c.in_default.ensures.cases.0 (digits-text c.args.text.now (sym c.all_digits.ensures ∙ c.if-not-all_digits.false)))

pub returns : goal.returns
returns c =
    let same = c.in-Ok.ensures.cases.0 in
    let short : length c.in-Ok.digits.now ≤ 20 = omega (arith, ap length same) in
    let digits : list_all is_ascii_digit c.in-Ok.digits.now ≡ true = ap (list_all is_ascii_digit) same ∙ sym c.all_digits.ensures ∙ c.if-not-all_digits.false in
    c.ok.ensures.value ∙ number_of-parsed c.in-Ok.digits.now c.parse.result short digits c.parse.ensures.value.0 ∙ ap number_of same
