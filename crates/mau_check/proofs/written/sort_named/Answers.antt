use Rattle.std.proofs.Common.{◌≡◌, ◌+◌, List, ℕ, drop, add-one, sym, ap, ◌∙◌, subst, arith}
use Rattle.std.specs.Prelude.{bytes_eq}
use Rattle.std.specs.List.{position_or_len}
use Rattle.mau_check.proofs.Texts.{passed_here, place_here, no_place}
use Rattle.mau_check.proofs.written.sort_named.Goals as goal

pub loop-i-preserved : goal.loop-i-preserved
loop-i-preserved c =
    let p = λ (v : List ℕ). bytes_eq v c.args.name.now in
    let xs = c.args.sorts.now in
    let i = c.loop-i.i in
    let passed = passed_here p xs i c.index-sorts-i.result c.loop-i-test.true (sym (ap p c.index-sorts-i.is) ∙ sym c.is_called.ensures ∙ c.if-is_called.false) in
    subst (λ n. position_or_len p xs ≡ n + position_or_len p (drop n xs)) (sym (add-one i)) (let e = c.loop-i.invariant in omega (arith, e, passed))

pub returns-then-is_called-clause-some : goal.returns-then-is_called-clause-some
returns-then-is_called-clause-some c =
    let p = λ (v : List ℕ). bytes_eq v c.args.name.now in
    place_here p c.args.sorts.now c.loop-i.i c.index-sorts-i.result c.loop-i-test.true c.loop-i.invariant (sym (ap p c.index-sorts-i.is) ∙ sym c.is_called.ensures ∙ c.if-is_called.true)

pub returns-clause-none : goal.returns-clause-none
returns-clause-none c = no_place (λ (v : List ℕ). bytes_eq v c.args.name.now) c.args.sorts.now c.loop-i.i c.loop-i-test.false c.loop-i.invariant
