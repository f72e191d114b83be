use Rattle.mau_formula.proofs.Divisors.{gcd_is}
use Rattle.mau_formula.proofs.divisor.gcd.Goals as goal

pub returns-clause-greatest : goal.returns-clause-greatest
returns-clause-greatest c = gcd_is c.args.a c.args.b c.divisor.result c.divisor.ensures
