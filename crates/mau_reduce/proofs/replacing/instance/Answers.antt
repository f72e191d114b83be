use Rattle.std.proofs.Common.{map, sym, ap, ap₂, ◌∙◌, subst}
use Rattle.mau_terms.specs.Norm.{norm}
use Rattle.mau_terms.specs.Bare.{IsBareIn}
use Rattle.mau_terms.specs.Reading.{reading}
use Rattle.mau_terms.specs.Subst.{instance}
use Rattle.mau_terms.specs.View.{tree_of, variable_of}
use Rattle.mau_signature.specs.Signature.{theory_at, terms_over}
use Rattle.mau_store.specs.Trees.{trees_at}
use Rattle.mau_store.specs.View.{numbers}
use Rattle.mau_canon.specs.Values.{values_in}
use Rattle.mau_canon.specs.Within.{IsCause}
use Rattle.mau_evaluation.specs.Evaluation.{look_up}
use Rattle.mau_reduce.specs.Bindings.{bound_in}
use Rattle.mau_reduce.proofs.KindsKept.{norms_of}
use Rattle.mau_reduce.proofs.Bound.{instance_bound, instance_of_kind}
use Rattle.mau_reduce.proofs.Limits.{refused_ends_as}
use Rattle.mau_reduce.proofs.replacing.instance.Goals as goal

pub returns-in-Ok-clause-value : goal.returns-in-Ok-clause-value
returns-in-Ok-clause-value c =
    c.in-Ok.ensures.ok
    ∙ (ap₂ (λ xs ids. norm (theory_at c.args.sig.now) (instance (values_in c.args.store.now xs ids) (tree_of c.args.term.now))) c.deref.ensures.value c.deref-2.ensures.value
    ∙ ap (norm (theory_at c.args.sig.now)) (instance_bound (map variable_of c.args.binding.now.variables.items) (trees_at c.args.store.now (numbers c.args.binding.now.values.items)) (tree_of c.args.term.now)))

pub returns-in-Ok-clause-kind : goal.returns-in-Ok-clause-kind
returns-in-Ok-clause-kind c = λ k b. record {
  within = c.in-Ok.ensures.within;
  bare = subst (λ t. IsBareIn (terms_over c.args.sig.now) (reading (theory_at c.args.sig.now) t) k)
      (sym (c.in-Ok.ensures.ok ∙ ap₂ (λ xs ids. norm (theory_at c.args.sig.now) (instance (values_in c.args.store.now xs ids) (tree_of c.args.term.now))) c.deref.ensures.value c.deref-2.ensures.value))
      (instance_of_kind c.args.sig.now c.requires.lawful (map variable_of c.args.binding.now.variables.items) (trees_at c.args.store.now (numbers c.args.binding.now.values.items))
      (norms_of (theory_at c.args.sig.now) c.args.store.now (numbers c.args.binding.now.values.items) c.requires.values.within) c.requires.values.kinds (tree_of c.args.term.now) k b);
}

pub returns-in-Err-clause-ends : goal.returns-in-Err-clause-ends
returns-in-Err-clause-ends c = λ b.
    refused_ends_as (theory_at c.args.sig.now) (norm (theory_at c.args.sig.now) (instance (look_up (bound_in c.args.store.now c.args.binding.now)) (tree_of c.args.term.now))) b c.in-Err.fault c.from.result c.from.ensures
    (subst (λ t. IsCause (theory_at c.args.sig.now) t c.in-Err.fault)
    (ap₂ (λ xs ids. norm (theory_at c.args.sig.now) (instance (values_in c.args.store.now xs ids) (tree_of c.args.term.now))) c.deref.ensures.value c.deref-2.ensures.value
    ∙ ap (norm (theory_at c.args.sig.now)) (instance_bound (map variable_of c.args.binding.now.variables.items) (trees_at c.args.store.now (numbers c.args.binding.now.values.items)) (tree_of c.args.term.now)))
    c.in-Err.ensures.refused)
