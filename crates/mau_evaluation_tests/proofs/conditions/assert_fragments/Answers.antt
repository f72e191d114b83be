use Rattle.std.proofs.Common.{All, subst}
use Rattle.std.proofs.lemmas.List.{take_all}
use Rattle.std.proofs.lemmas.List.Elements.{All-more}
use Rattle.mau_api.specs.Answers.{IsFragment}
use Rattle.mau_evaluation_tests.proofs.conditions.assert_fragments.Goals as goal

pub loop-fragment-preserved : goal.loop-fragment-preserved
loop-fragment-preserved g c =
    let s = c.args.sig.now in
    let fs = c.args.cond.now in
    All-more (IsFragment s) fs c.loop-fragment.fragment-index c.fragment-item.result c.loop-fragment-test.true c.loop-fragment.invariant (subst (IsFragment s) c.fragment-item.is c.assert_fragment.ensures)

pub returns : goal.returns
returns g c = subst (All (IsFragment c.args.sig.now)) (take_all c.loop-fragment.fragment-index c.args.cond.now c.loop-fragment-test.false) c.loop-fragment.invariant
