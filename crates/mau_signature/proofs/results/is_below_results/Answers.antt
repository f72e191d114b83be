use Rattle.std.proofs.Common.{take, refl, sym, subst}
use Rattle.mau_signature.specs.Lowest.{IsBelowResults}
use Rattle.mau_signature.proofs.Lows.{take-step, below-end}
use Rattle.mau_signature.proofs.results.is_below_results.Goals as goal

pub loop-decl-preserved : goal.loop-decl-preserved
loop-decl-preserved c =
    let h = c.args.poset.now in
    let done = take c.loop-decl.decl-index c.args.decls.now in
    let d = c.decl-item.result in
    subst (λ ds. IsBelowResults h ds c.args.sorts.now c.args.low) (sym (take-step c.args.decls.now c.loop-decl.decl-index d c.loop-decl-test.true c.decl-item.is))
    (below-end h c.args.sorts.now done d c.args.low c.loop-decl.invariant (c.if-not-is_below_result.ensures.0 refl))
