use Rattle.std.proofs.Common.{All, subst}
use Rattle.std.proofs.lemmas.List.{take_all}
use Rattle.std.proofs.lemmas.List.Elements.{All-more}
use Rattle.mau_poset.specs.Order.{kind_of}
use Rattle.mau_signature.specs.Faults.{HasSorts, IsSuccessorIn}
use Rattle.mau_evaluation_tests.proofs.signed.assert_all.Goals as goal

pub loop-decl-preserved : goal.loop-decl-preserved
loop-decl-preserved g c =
    let h = c.args.poset.now in
    let ds = c.args.decls.now in
    let i = c.loop-decl.decl-index in
    let d = c.decl-item.result in
    record {
      sorts = All-more (HasSorts h) ds i d c.loop-decl-test.true c.loop-decl.invariant.sorts (subst (HasSorts h) c.decl-item.is c.assert_one.ensures.sorts);
      successors = All-more (IsSuccessorIn h (kind_of h c.args.sort)) ds i d c.loop-decl-test.true c.loop-decl.invariant.successors (subst (IsSuccessorIn h (kind_of h c.args.sort)) c.decl-item.is c.assert_one.ensures.successor);
    }

pub returns-clause-sorts : goal.returns-clause-sorts
returns-clause-sorts g c = subst (All (HasSorts c.args.poset.now)) (take_all c.loop-decl.decl-index c.args.decls.now c.loop-decl-test.false) c.loop-decl.invariant.sorts

pub returns-clause-successors : goal.returns-clause-successors
returns-clause-successors g c = subst (All (IsSuccessorIn c.args.poset.now (kind_of c.args.poset.now c.args.sort))) (take_all c.loop-decl.decl-index c.args.decls.now c.loop-decl-test.false) c.loop-decl.invariant.successors
