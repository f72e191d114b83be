use Rattle.mau_print.proofs.Numerals.{numeral_here}
use Rattle.mau_print.proofs.laws.decimals_read.Goals as goal

pub returns : goal.returns
returns c = λ g whole n k low e. numeral_here g whole n k low e
