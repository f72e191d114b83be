use Rattle.std.proofs.Common.{if◌then◌else◌, ap, ◌∙◌}
use Rattle.mau_evaluation.specs.Program.{value}
use Rattle.mau_reduce.specs.BuiltOperators.{constant_tree}
use Rattle.mau_reduce.proofs.Answering.{equal_two}
use Rattle.mau_reduce.proofs.given.same.Goals as goal

pub returns-then-eq-clause-value : goal.returns-then-eq-clause-value
returns-then-eq-clause-value c = λ h f th t.
    equal_two c.args.store.now c.requires.nodes c.args.ids.now _ (constant_tree c.args.truths.yes) (constant_tree c.args.truths.no) h f c.eq.result c.if-ids-ne2.false c.requires.there c.eq.ensures
    ∙ ap (λ b. value (if b then constant_tree c.args.truths.yes else constant_tree c.args.truths.no)) c.if-eq.true

pub returns-clause-value : goal.returns-clause-value
returns-clause-value c = λ h f th t.
    equal_two c.args.store.now c.requires.nodes c.args.ids.now _ (constant_tree c.args.truths.yes) (constant_tree c.args.truths.no) h f c.eq.result c.if-ids-ne2.false c.requires.there c.eq.ensures
    ∙ ap (λ b. value (if b then constant_tree c.args.truths.yes else constant_tree c.args.truths.no)) c.if-eq.false
