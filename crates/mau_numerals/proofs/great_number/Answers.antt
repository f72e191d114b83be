use Rattle.std.proofs.Common.{◌^◌, ◌-◌, sym, ap, ◌∙◌, lit<}
use Rattle.mau_numerals.specs.Numerals.{is_numeral, number_up_to}
use Rattle.mau_numerals.proofs.Numbers.{too_large}
use Rattle.mau_numerals.proofs.great_number.Goals as goal

pub returns-in-Err : goal.returns-in-Err
returns-in-Err c =
    too_large 128 (2 ^ 128 - 1) c.as_text.result.now c.in-Err.field-0 (ap is_numeral c.as_text.ensures ∙ sym c.is_numeral.ensures ∙ c.if-not-is_numeral.false) c.in-Err.ensures.value.0 (lit< tt)
    ∙ ap (number_up_to (2 ^ 128 - 1)) c.as_text.ensures
