use Rattle.std.proofs.Common.{sym, ap, ◌∙◌}
use Rattle.std.proofs.lemmas.List.{length-map}
use Rattle.mau_terms.specs.Norm.{norm}
use Rattle.mau_signature.specs.Signature.{theory_at}
use Rattle.mau_evaluation.specs.Program.{value}
use Rattle.mau_reduce.specs.BuiltOperators.{constant_tree}
use Rattle.mau_check.specs.Kept.{IsKeptFor}
use Rattle.mau_check.proofs.Numbers.{zip_length}
use Rattle.mau_check.proofs.BuiltOf.{not_two, gives_none, compared_is, truth_lies, constant_given, constant_missing}
use Rattle.mau_check.proofs.built.compared.Goals as goal

pub returns-then-values-ne2-clause-given : goal.returns-then-values-ne2-clause-given
returns-then-values-ne2-clause-given c h f k ts kept lie =
    gives_none c.args.sig.now c.args.store.now k _
    (not_two (constant_tree c.args.truths.yes) (constant_tree c.args.truths.no) h f _ (λ e. c.if-values-ne2.true (zip_length (IsKeptFor c.args.sig.now c.args.store.now) c.args.values.now ts kept ∙ sym (length-map ts (norm (theory_at c.args.sig.now))) ∙ e)))

pub returns-in-Ok-Some-clause-given : goal.returns-in-Ok-Some-clause-given
returns-in-Ok-Some-clause-given c h f k ts kept lie =
    constant_given c.args.sig.now c.operators.ensures.lawful c.constant.new.store k _ (constant_tree c.chosen-given.result)
    (compared_is c.args.sig.now c.args.store.now c.len.ensures.nodes c.args.values.now ts (constant_tree c.args.truths.yes) (constant_tree c.args.truths.no) h f c.eq-same.result _ kept c.if-values-ne2.false c.eq-same.ensures
    ∙ ap value (sym c.chosen-given.ensures))
    (truth_lies c.args.sig.now k c.args.truths c.eq-same.result (constant_tree c.chosen-given.result) c.chosen-given.ensures lie)
    c.in-Ok-Some.kept (rw c.in-Ok-Some.field-0-is at c.in-Ok-Some.ensures.some)

pub returns-in-Ok-None-clause-given : goal.returns-in-Ok-None-clause-given
returns-in-Ok-None-clause-given c h f k ts kept lie =
    constant_missing c.args.sig.now c.operators.ensures.lawful c.constant.new.store k _ (constant_tree c.chosen-given.result)
    (compared_is c.args.sig.now c.args.store.now c.len.ensures.nodes c.args.values.now ts (constant_tree c.args.truths.yes) (constant_tree c.args.truths.no) h f c.eq-same.result _ kept c.if-values-ne2.false c.eq-same.ensures
    ∙ ap value (sym c.chosen-given.ensures))
    (truth_lies c.args.sig.now k c.args.truths c.eq-same.result (constant_tree c.chosen-given.result) c.chosen-given.ensures lie)
    (rw c.in-Ok-None.field-0-is at c.in-Ok-None.ensures.none)
