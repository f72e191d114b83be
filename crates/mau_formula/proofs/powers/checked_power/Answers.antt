use Rattle.std.proofs.Common.{◌≡◌, ◌^◌, ◌<◌, ◌≤◌, ℕ, arith, sym, ap, ◌∙◌}
use Rattle.mau_formula.proofs.PowerLemmas.{one-pow, zero-pow, pow_large}
use Rattle.std.proofs.Math.Nat.{pow-zero}
use Rattle.mau_formula.proofs.powers.checked_power.Goals.{then-n-eq0-via-then-n-eq0, then-n-eq0-via-else-n-eq0+then-a-eq1}
use Rattle.mau_formula.proofs.powers.checked_power.Goals as goal

is_one : (a n : ℕ) → a ^ n ≡ 1 → (a ^ n < 2 ^ 128) × (1 ≡ a ^ n)
is_one a n e = (omega arith, sym e)

pub returns-then-n-eq0 : goal.returns-then-n-eq0
returns-then-n-eq0 c = is_one c.args.a c.args.n (
    elim c.then-n-eq0.branch [
      | then-n-eq0-via-then-n-eq0 w ↦ ap (λ n. c.args.a ^ n) w.if-n-eq0.true ∙ pow-zero c.args.a
      | then-n-eq0-via-else-n-eq0+then-a-eq1 w ↦ ap (λ a. a ^ c.args.n) w.if-a-eq1.true ∙ one-pow c.args.n
    ])

pub returns-then-a-eq0 : goal.returns-then-a-eq0
returns-then-a-eq0 c =
    let pos : 0 < c.args.n = omega arith in
    let e : c.args.a ^ c.args.n ≡ 0 = ap (λ a. a ^ c.args.n) c.if-a-eq0.true ∙ zero-pow c.args.n pos in
    (omega arith, sym e)

pub returns-then-n-ge128 : goal.returns-then-n-ge128
returns-then-n-ge128 c =
    let two : 2 ≤ c.args.a = omega arith in
    let large : 2 ^ 128 ≤ c.args.a ^ c.args.n = pow_large c.args.a c.args.n two c.if-n-ge128.true in
    λ h. omega arith
