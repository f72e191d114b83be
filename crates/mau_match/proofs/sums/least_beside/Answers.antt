use Rattle.std.proofs.Common.{◌≤◌, sym, ap, ◌∙◌, subst, arith}
use Rattle.mau_store.specs.Trees.{tree_at, trees_at}
use Rattle.mau_store.specs.View.{numbers}
use Rattle.mau_match.specs.Parts.{how_many}
use Rattle.mau_match.specs.Sums.{AreBeside, apart}
use Rattle.mau_match.proofs.Uneven.{beside_apart, length-apart}
use Rattle.mau_match.proofs.sums.least_beside.Goals as goal

pub loop-init : goal.loop-init
loop-init c = λ beside h. (beside, subst (λ l. AreBeside c.args.counts.now (trees_at c.args.store.now (numbers l)) beside) (sym c.in_ok-rest.ensures) h, omega arith)

pub returns-then-is_empty : goal.returns-then-is_empty
returns-then-is_empty c = λ beside h.
    let b = c.loop.invariant beside h in
    omega (arith, b.2)

pub loop-preserved : goal.loop-preserved
loop-preserved c = λ beside h.
    let nodes = c.args.store.now in
    let counts = c.args.counts.now in
    let b = c.loop.invariant beside h in
    let rest = c.loop.rest.items in
    let t = tree_at nodes c.index-term.result.now.0 in
    let lack : c.lack_of.result ≤ how_many t b.0 = c.lack_of.ensures b.0 (subst (λ l. AreBeside counts (trees_at nodes (numbers l)) b.0) (sym c.deref.ensures.value) b.1) in
    (apart t b.0, subst (λ us. AreBeside counts us (apart t b.0)) (sym (c.in_ok-rest-2.ensures ∙ ap (λ l. apart t (trees_at nodes (numbers l))) c.deref-in-loop.ensures.value)) (beside_apart counts (trees_at nodes (numbers rest)) b.0 b.1 t), omega (arith, length-apart t b.0, lack, b.2, c.saturating_add-lacking.ensures))

pub returns : goal.returns
returns c = λ beside h.
    let b = c.loop.invariant beside h in
    omega (arith, b.2)
