use Rattle.std.proofs.Common.{◌+◌, [], ◌∷◌, ◌++◌, subst, take}
use Rattle.std.specs.Prelude.{Some}
use Rattle.std.proofs.lemmas.Bool.{iff_false}
use Rattle.std.proofs.lemmas.List.{take_all}
use Rattle.mau_signature.specs.Lowest.{IsLowestResult}
use Rattle.mau_signature.proofs.Lows.{take-step, low-applies, low-stays, read-so}
use Rattle.mau_signature.proofs.results.lowest_result.Goals as goal
use Rattle.mau_signature.proofs.results.lowest_result.Goals.{then-applies, else-applies}

pub loop-decl-preserved : goal.loop-decl-preserved
loop-decl-preserved c =
    let h = c.args.poset.now in
    let sorts = c.args.sorts.now in
    let done = take c.loop-decl.decl-index c.args.decls.now in
    let more = take (c.loop-decl.decl-index + 1) c.args.decls.now in
    let d = c.decl-item.result in
    let step = take-step c.args.decls.now c.loop-decl.decl-index c.decl-item.result c.loop-decl-test.true c.decl-item.is in
    elim c.if-applies.branch [
      | then-applies w ↦ read-so h sorts (done ++ d ∷ []) more c.if-applies.lowest (Some w.lower.result) step w.lowest-is
          (low-applies h sorts done d c.loop-decl.lowest w.lower.result c.sorts.ensures.poset c.loop-decl.invariant (c.applies.ensures.0 w.if-applies.true) w.lower.ensures)
      | else-applies w ↦ read-so h sorts (done ++ d ∷ []) more c.if-applies.lowest c.loop-decl.lowest step w.lowest-is
          (low-stays h sorts done d c.loop-decl.lowest c.loop-decl.invariant (iff_false c.applies.ensures w.if-applies.false))
    ]

pub returns-clause-lowest : goal.returns-clause-lowest
returns-clause-lowest c = subst (λ ds. IsLowestResult c.args.poset.now ds c.args.sorts.now c.loop-decl.lowest) (take_all c.loop-decl.decl-index c.args.decls.now c.loop-decl-test.false) c.loop-decl.invariant
