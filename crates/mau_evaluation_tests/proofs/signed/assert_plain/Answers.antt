use Rattle.std.proofs.Common.{All, subst}
use Rattle.std.proofs.lemmas.List.{take_all}
use Rattle.std.proofs.lemmas.List.Elements.{All-more}
use Rattle.mau_signature.specs.Faults.{HasSorts}
use Rattle.mau_evaluation_tests.proofs.signed.assert_plain.Goals as goal

pub loop-decl-preserved : goal.loop-decl-preserved
loop-decl-preserved g c =
    let h = c.args.poset.now in
    let ds = c.args.decls.now in
    All-more (HasSorts h) ds c.loop-decl.decl-index c.decl-item.result c.loop-decl-test.true c.loop-decl.invariant (subst (HasSorts h) c.decl-item.is c.assert_sorts.ensures)

pub returns-clause-sorts : goal.returns-clause-sorts
returns-clause-sorts g c = subst (All (HasSorts c.args.poset.now)) (take_all c.loop-decl.decl-index c.args.decls.now c.loop-decl-test.false) c.loop-decl.invariant
