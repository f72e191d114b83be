use Rattle.std.proofs.Common.{sym, subst}
use Rattle.mau_strattext.specs.Building.{LeafAnswer}
use Rattle.mau_strattext.proofs.leaf.read_leaf.Goals as goal

pub returns-in-Plain-clause-answer : goal.returns-in-Plain-clause-answer
returns-in-Plain-clause-answer c =
    let ns = c.args.vars.now in
    subst (λ p. LeafAnswer c.args.setting.now c.args.under_top p c.args.inner.now ns ns c.read_alone.result) (sym c.in-Plain.is) (c.read_alone.ensures.answer ns)
