use Rattle.std.proofs.Common.{refl, ◌≡◌, ◌++◌, ◌∷◌, map, sym, ap, ap₂, ◌∙◌, subst, List, [], IfErr}
use Rattle.mau_terms.specs.Tree.{Tree, node}
use Rattle.mau_terms.specs.Norm.{norm}
use Rattle.mau_terms.specs.Bare.{IsBareIn}
use Rattle.mau_terms.specs.Reading.{reading}
use Rattle.mau_terms.specs.Subst.{instance}
use Rattle.mau_terms.specs.View.{tree_of, variable_of}
use Rattle.mau_signature.specs.Signature.{theory_at, terms_over}
use Rattle.mau_store.specs.Trees.{tree_at, trees_at}
use Rattle.mau_store.specs.View.{numbers}
use Rattle.mau_canon.specs.Values.{values_in}
use Rattle.mau_canon.specs.Within.{IsCause}
use Rattle.mau_evaluation.specs.Evaluation.{look_up, in_context, admit}
use Rattle.mau_reduce.specs.Bindings.{bound_in}
use Rattle.mau_terms.specs.declared.ids.TermId.{TermId}
use Rattle.mau_terms.specs.declared.ids.VarId.{VarId}
use Rattle.mau_terms.proofs.Normal.{norm-norm}
use Rattle.mau_reduce.specs.Ends.{IsEnd}
use Rattle.mau_reduce.proofs.KindsKept.{norms_of}
use Rattle.mau_reduce.proofs.Around.{AreSome, in_none, norm_around, norm_inside, left_within, right_within, around_kind}
use Rattle.mau_reduce.proofs.Bound.{instance_bound, instance_of_kind}
use Rattle.mau_reduce.proofs.Limits.{refused_ends_as}
use Rattle.mau_reduce.proofs.replacing.replace.Goals as goal

-- the trees of a list of none
none_of_trees : (nodes : _) (ids : List TermId) → trees_at nodes (numbers ids) ≡ [] → ids ≡ []
none_of_trees nodes [] e = refl
none_of_trees nodes (i ∷ ids) e = cc

pub returns-then-stands_alone-clause-ends : goal.returns-then-stands_alone-clause-ends
returns-then-stands_alone-clause-ends c = λ b.
    let both = c.stands_alone.ensures.alone c.if-stands_alone.true in
    subst (λ u. IfErr c.instance.result (IsEnd (admit (theory_at c.args.sig.now) u b)))
    (sym (in_none (theory_at c.args.sig.now) (tree_at c.args.store.now c.args.term.0) (trees_at c.args.store.now (numbers c.args.solution.now.left)) (trees_at c.args.store.now (numbers c.args.solution.now.right))
    (instance (look_up (bound_in c.args.store.now c.args.binding.now)) (tree_of c.args.right.now)) (ap (λ xs. trees_at c.args.store.now (numbers xs)) both.0) (ap (λ xs. trees_at c.args.store.now (numbers xs)) both.1)))
    (c.instance.ensures.ends b)

pub returns-in-Ok-clause-value : goal.returns-in-Ok-clause-value
returns-in-Ok-clause-value c =
    let th = theory_at c.args.sig.now in
    let old = c.args.store.now in
    let f = c.in-Some.op.0 in
    let t = tree_at old c.args.term.0 in
    let ls = trees_at old (numbers c.args.solution.now.left) in
    let rs = trees_at old (numbers c.args.solution.now.right) in
    let xs = map variable_of c.args.binding.now.variables.items in
    let vs = trees_at old (numbers c.args.binding.now.values.items) in
    let u = instance (look_up (bound_in old c.args.binding.now)) (tree_of c.args.right.now) in
    let G : List TermId → List TermId → List VarId → List TermId → Tree = λ l r ys ids. norm th (node f (trees_at old (numbers l) ++ instance (values_in old ys ids) (tree_of c.args.right.now) ∷ trees_at old (numbers r))) in
    let some : AreSome ls rs = (λ p q. c.stands_alone.ensures.around c.if-stands_alone.false (none_of_trees old c.args.solution.now.left p, none_of_trees old c.args.solution.now.right q)) in
    let left = norms_of th old (numbers c.args.solution.now.left) (left_within c.args.sig.now old t (numbers c.args.solution.now.left) (numbers c.args.solution.now.right) c.requires.contexts) in
    let right = norms_of th old (numbers c.args.solution.now.right) (right_within c.args.sig.now old t (numbers c.args.solution.now.left) (numbers c.args.solution.now.right) c.requires.contexts) in
    let same : G c.items.result.now c.items-in-Some.result.now c.deref.result.now c.deref-in-Some.result.now ≡ norm th (node f (ls ++ u ∷ rs)) =
    ap₂ (λ l r. G l r c.deref.result.now c.deref-in-Some.result.now) c.items.ensures c.items-in-Some.ensures
    ∙ (ap₂ (λ ys ids. G c.args.solution.now.left c.args.solution.now.right ys ids) c.deref.ensures.value c.deref-in-Some.ensures.value
    ∙ ap (λ w. norm th (node f (ls ++ w ∷ rs))) (instance_bound xs vs (tree_of c.args.right.now))) in
    let whole : norm th (in_context th t ls rs u) ≡ norm th (node f (ls ++ u ∷ rs)) = norm_around th c.requires.lawful.theories f ls rs some left right u t c.in-Some.ensures.some.0 c.in-Some.ensures.some.1 in
    c.in-Ok.ensures.ok ∙ (same ∙ sym whole)

pub returns-in-Ok-clause-kind : goal.returns-in-Ok-clause-kind
returns-in-Ok-clause-kind c = λ k term bare.
    let th = theory_at c.args.sig.now in
    let old = c.args.store.now in
    let f = c.in-Some.op.0 in
    let t = tree_at old c.args.term.0 in
    let ls = trees_at old (numbers c.args.solution.now.left) in
    let rs = trees_at old (numbers c.args.solution.now.right) in
    let xs = map variable_of c.args.binding.now.variables.items in
    let vs = trees_at old (numbers c.args.binding.now.values.items) in
    let u = instance (look_up (bound_in old c.args.binding.now)) (tree_of c.args.right.now) in
    let G : List TermId → List TermId → List VarId → List TermId → Tree = λ l r ys ids. norm th (node f (trees_at old (numbers l) ++ instance (values_in old ys ids) (tree_of c.args.right.now) ∷ trees_at old (numbers r))) in
    let some : AreSome ls rs = (λ p q. c.stands_alone.ensures.around c.if-stands_alone.false (none_of_trees old c.args.solution.now.left p, none_of_trees old c.args.solution.now.right q)) in
    let left = norms_of th old (numbers c.args.solution.now.left) (left_within c.args.sig.now old t (numbers c.args.solution.now.left) (numbers c.args.solution.now.right) c.requires.contexts) in
    let right = norms_of th old (numbers c.args.solution.now.right) (right_within c.args.sig.now old t (numbers c.args.solution.now.left) (numbers c.args.solution.now.right) c.requires.contexts) in
    let same : G c.items.result.now c.items-in-Some.result.now c.deref.result.now c.deref-in-Some.result.now ≡ norm th (node f (ls ++ u ∷ rs)) =
    ap₂ (λ l r. G l r c.deref.result.now c.deref-in-Some.result.now) c.items.ensures c.items-in-Some.ensures
    ∙ (ap₂ (λ ys ids. G c.args.solution.now.left c.args.solution.now.right ys ids) c.deref.ensures.value c.deref-in-Some.ensures.value
    ∙ ap (λ w. norm th (node f (ls ++ w ∷ rs))) (instance_bound xs vs (tree_of c.args.right.now))) in
    let whole : norm th (in_context th t ls rs u) ≡ norm th (node f (ls ++ u ∷ rs)) = norm_around th c.requires.lawful.theories f ls rs some left right u t c.in-Some.ensures.some.0 c.in-Some.ensures.some.1 in
    let inside : norm th (node f (ls ++ u ∷ rs)) ≡ norm th (node f (ls ++ norm th u ∷ rs)) = norm_inside th c.requires.lawful.theories f ls rs some left right u in
    let value : IsBareIn (terms_over c.args.sig.now) (reading th (norm th u)) k = subst (λ w. IsBareIn (terms_over c.args.sig.now) (reading th (norm th w)) k) (instance_bound xs vs (tree_of c.args.right.now))
    (instance_of_kind c.args.sig.now c.requires.lawful xs vs (norms_of th old (numbers c.args.binding.now.values.items) c.requires.values.within) c.requires.values.kinds (tree_of c.args.right.now) k bare) in
    record {
      within = c.in-Ok.ensures.within;
      bare = subst (λ w. IsBareIn (terms_over c.args.sig.now) (reading th w) k) (sym (c.in-Ok.ensures.ok ∙ (same ∙ inside)))
          (around_kind c.args.sig.now old c.requires.lawful t term.within.normal k term.bare f c.in-Some.ensures.some.0 c.in-Some.ensures.some.1 (numbers c.args.solution.now.left) (numbers c.args.solution.now.right) c.requires.contexts some
          (norm th u) (norm-norm th c.requires.lawful.theories u) value);
    }

pub returns-in-Err-clause-ends : goal.returns-in-Err-clause-ends
returns-in-Err-clause-ends c = λ b.
    let th = theory_at c.args.sig.now in
    let old = c.args.store.now in
    let f = c.in-Some.op.0 in
    let t = tree_at old c.args.term.0 in
    let ls = trees_at old (numbers c.args.solution.now.left) in
    let rs = trees_at old (numbers c.args.solution.now.right) in
    let xs = map variable_of c.args.binding.now.variables.items in
    let vs = trees_at old (numbers c.args.binding.now.values.items) in
    let u = instance (look_up (bound_in old c.args.binding.now)) (tree_of c.args.right.now) in
    let G : List TermId → List TermId → List VarId → List TermId → Tree = λ l r ys ids. norm th (node f (trees_at old (numbers l) ++ instance (values_in old ys ids) (tree_of c.args.right.now) ∷ trees_at old (numbers r))) in
    let some : AreSome ls rs = (λ p q. c.stands_alone.ensures.around c.if-stands_alone.false (none_of_trees old c.args.solution.now.left p, none_of_trees old c.args.solution.now.right q)) in
    let left = norms_of th old (numbers c.args.solution.now.left) (left_within c.args.sig.now old t (numbers c.args.solution.now.left) (numbers c.args.solution.now.right) c.requires.contexts) in
    let right = norms_of th old (numbers c.args.solution.now.right) (right_within c.args.sig.now old t (numbers c.args.solution.now.left) (numbers c.args.solution.now.right) c.requires.contexts) in
    let same : G c.items.result.now c.items-in-Some.result.now c.deref.result.now c.deref-in-Some.result.now ≡ norm th (node f (ls ++ u ∷ rs)) =
    ap₂ (λ l r. G l r c.deref.result.now c.deref-in-Some.result.now) c.items.ensures c.items-in-Some.ensures
    ∙ (ap₂ (λ ys ids. G c.args.solution.now.left c.args.solution.now.right ys ids) c.deref.ensures.value c.deref-in-Some.ensures.value
    ∙ ap (λ w. norm th (node f (ls ++ w ∷ rs))) (instance_bound xs vs (tree_of c.args.right.now))) in
    let whole : norm th (in_context th t ls rs u) ≡ norm th (node f (ls ++ u ∷ rs)) = norm_around th c.requires.lawful.theories f ls rs some left right u t c.in-Some.ensures.some.0 c.in-Some.ensures.some.1 in
    refused_ends_as th (norm th (in_context th t ls rs u)) b c.in-Err.fault c.from.result c.from.ensures (subst (λ w. IsCause th w c.in-Err.fault) (same ∙ sym whole) c.in-Err.ensures.refused)
