use Rattle.mau_numerals.proofs.Decimals.{decimal-numeral, decimal-value}
use Rattle.mau_numerals.proofs.laws.decimals_are_numerals.Goals as goal

pub returns : goal.returns
returns c = λ n h. (decimal-numeral n h, decimal-value n h)
