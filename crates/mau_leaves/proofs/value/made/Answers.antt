use Rattle.std.proofs.Common.{◌≡◌, IfOk, IfErr, subst}
use Rattle.mau_terms.specs.Norm.{norm}
use Rattle.mau_terms.specs.Subst.{instance}
use Rattle.mau_terms.specs.View.{tree_of}
use Rattle.mau_terms.specs.declared.ids.TermId.{TermId}
use Rattle.mau_signature.specs.Signature.{theory_at}
use Rattle.mau_store.specs.Trees.{tree_at, trees_at}
use Rattle.mau_store.specs.View.{numbers}
use Rattle.mau_evaluation.specs.Evaluation.{Binding, look_up, in_context, admit}
use Rattle.mau_reduce.specs.Ends.{IsEnd}
use Rattle.mau_reduce.specs.Kinds.{IsTermIn}
use Rattle.mau_reduce.proofs.KindsKept.{term_kept}
use Rattle.mau_leaves.proofs.MadeTerms.{replaces_there}
use Rattle.mau_leaves.proofs.value.made.Goals as goal

pub replace-requires-clause-bare : goal.replace-requires-clause-bare
replace-requires-clause-bare c = let s = c.requires.sides in (s.kind, s.second)

pub replace-requires-clause-values : goal.replace-requires-clause-values
replace-requires-clause-values c = c.in-Ok.ensures.values c.args.sig.now c.args.store.now c.requires.values.0 c.requires.values.1

pub returns-clause-value : goal.returns-clause-value
returns-clause-value c =
    let s = c.args.sig.now in
    let nodes = c.args.store.now in
    let x = c.args.solution.now in
    subst (λ (σ : Binding). IfOk c.replace.result (λ (id : TermId). tree_at c.replace.new.store id.0 ≡ norm (theory_at s) (in_context (theory_at s) (tree_at nodes c.args.term.0) (trees_at nodes (numbers x.left)) (trees_at nodes (numbers x.right))
    (instance (look_up σ) (tree_of c.args.rule.now.right))))) (c.in-Ok.ensures.bound nodes) c.replace.ensures.value

pub returns-clause-ends : goal.returns-clause-ends
returns-clause-ends c = λ b.
    let s = c.args.sig.now in
    let nodes = c.args.store.now in
    let x = c.args.solution.now in
    subst (λ (σ : Binding). IfErr c.replace.result (IsEnd (admit (theory_at s) (in_context (theory_at s) (tree_at nodes c.args.term.0) (trees_at nodes (numbers x.left)) (trees_at nodes (numbers x.right))
    (instance (look_up σ) (tree_of c.args.rule.now.right))) b))) (c.in-Ok.ensures.bound nodes) (c.replace.ensures.ends b)

pub returns-clause-kind : goal.returns-clause-kind
returns-clause-kind c =
    let s = c.requires.sides in
    let is : IsTermIn c.args.sig.now c.args.store.now s.kind c.args.term.0 = record { within = c.requires.term.within; bare = c.requires.kind s.kind s.first } in
    replaces_there c.args.sig.now c.replace.new.store s.kind c.args.term.0 (term_kept c.args.sig.now c.args.store.now c.replace.new.store s.kind c.args.term.0 c.replace.ensures.extends is) c.replace.result (c.replace.ensures.kind s.kind is s.second)
