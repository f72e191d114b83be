use Rattle.std.proofs.Common.{◌++◌, ◌∷◌, [], sym, ap, subst, ◌∙◌}
use Rattle.std.specs.Prelude.{All}
use Rattle.mau_signature.specs.Faults.{HasSorts}
use Rattle.mau_module.proofs.Truths.{three_more, over_kind}
use Rattle.mau_module.proofs.truth.add_truth_over.Goals as goal

pub returns-clause-decls : goal.returns-clause-decls
returns-clause-decls c = three_more _ _ _ _ _ _ _ (c.in_ok-push.ensures.items ∙ ap (λ x. c.args.decls.now.items ++ x ∷ []) c.in_ok-if_declaration.ensures)
    (c.in_ok-push-2.ensures.items ∙ ap (λ x. c.push.new.self.items ++ x ∷ []) c.in_ok-comparison.ensures)
    (c.in_ok-push-3.ensures.items ∙ ap (λ x. c.push-2.new.self.items ++ x ∷ []) c.in_ok-comparison-2.ensures)

pub returns-clause-sorts : goal.returns-clause-sorts
returns-clause-sorts c = λ a. subst (All (HasSorts c.args.poset.now)) (sym (returns-clause-decls c)) (over_kind c.args.poset.now c.args.bool c.args.kind c.requires.bool c.requires.kind c.args.decls.now.items a)
