use Rattle.mau_numerals.proofs.Decimals.{numeral-decimal}
use Rattle.mau_numerals.proofs.laws.numerals_are_decimals.Goals as goal

pub returns : goal.returns
returns c = numeral-decimal
