use Rattle.std.proofs.Common.{◌≡◌, ℕ, subst}
use Rattle.std.specs.Int.{IsGcd}
use Rattle.mau_formula.proofs.operators.greatest_common_divisor.Goals as goal

pub returns-clause-divisor : goal.returns-clause-divisor
returns-clause-divisor c g e =
    let same : c.gcd.result ≡ g = cc in
    let P : ℕ → Type 0 = λ n. IsGcd c.args.a c.args.b n in
    subst P same c.gcd.ensures.divisor
