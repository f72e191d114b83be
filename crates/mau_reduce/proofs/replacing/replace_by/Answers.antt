use Rattle.std.proofs.Common.{IfErr, sym, ap, subst}
use Rattle.mau_terms.specs.Subst.{instance}
use Rattle.mau_terms.specs.View.{tree_of}
use Rattle.mau_signature.specs.Signature.{theory_at}
use Rattle.mau_store.specs.Trees.{tree_at, trees_at}
use Rattle.mau_store.specs.View.{numbers}
use Rattle.mau_evaluation.specs.Evaluation.{look_up, admit}
use Rattle.mau_reduce.specs.Bindings.{bound_in}
use Rattle.mau_reduce.specs.Ends.{IsEnd}
use Rattle.mau_reduce.proofs.Around.{in_none}
use Rattle.mau_reduce.proofs.replacing.replace_by.Goals as goal

pub returns-then-stands_alone-clause-ends : goal.returns-then-stands_alone-clause-ends
returns-then-stands_alone-clause-ends c = λ b.
    let both = c.stands_alone.ensures.alone c.if-stands_alone.true in
    subst (λ u. IfErr c.instance_by.result (IsEnd (admit (theory_at c.args.sig.now) u b)))
    (sym (in_none (theory_at c.args.sig.now) (tree_at c.args.store.now c.args.term.0) (trees_at c.args.store.now (numbers c.args.solution.now.left)) (trees_at c.args.store.now (numbers c.args.solution.now.right))
    (instance (look_up (bound_in c.args.store.now c.args.binding.now)) (tree_of c.args.right.now)) (ap (λ xs. trees_at c.args.store.now (numbers xs)) both.0) (ap (λ xs. trees_at c.args.store.now (numbers xs)) both.1)))
    (c.instance_by.ensures.ends b)
