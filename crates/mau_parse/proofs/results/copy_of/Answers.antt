use Rattle.std.proofs.Common.{◌≡◌, ℕ, List, Some, slice_get, subst, ◌∙◌}
use Rattle.mau_parse.proofs.ResultsRight.{copied_more}
use Rattle.mau_parse.proofs.results.copy_of.Goals as goal

pub loop-i-preserved : goal.loop-i-preserved
loop-i-preserved c =
    let xs = c.args.vars.now in
    let x : List ℕ × ℕ = (c.unwrap-sort.result.0.now, c.unwrap-sort.result.1) in
    let given = rw c.unwrap-v.ensures at c.variable.ensures.given in
    let there = rw c.unwrap-sort.ensures at c.get.ensures.value in
    c.in_ok-add.ensures.pairs
    ∙ copied_more xs c.loop-i.copy c.loop-i.i x c.get.ensures.distinct (subst (λ (n : ℕ). slice_get xs n ≡ Some x) given.0 there) c.loop-i.invariant
