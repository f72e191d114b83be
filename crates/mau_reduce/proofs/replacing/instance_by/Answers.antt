use Rattle.std.proofs.Common.{◌≡◌, length, map, sym, ap, ap₂, ◌∙◌, subst}
use Rattle.std.proofs.lemmas.List.{length-map}
use Rattle.mau_terms.specs.Norm.{norm}
use Rattle.mau_terms.specs.Bare.{IsBare, IsBareIn}
use Rattle.mau_terms.specs.Reading.{reading}
use Rattle.mau_terms.specs.Subst.{instance, value_at}
use Rattle.mau_terms.specs.View.{tree_of, variable_of}
use Rattle.mau_signature.specs.Signature.{theory_at, terms_over}
use Rattle.mau_store.specs.Trees.{trees_at}
use Rattle.mau_store.specs.View.{numbers}
use Rattle.mau_canon.specs.Standing.{StandWithin}
use Rattle.mau_canon.specs.Within.{IsCause}
use Rattle.mau_evaluation.specs.Evaluation.{look_up}
use Rattle.mau_syntactic.specs.Filled.{filled}
use Rattle.mau_reduce.specs.Bindings.{bound_in}
use Rattle.mau_reduce.proofs.KindsKept.{norms_of}
use Rattle.mau_reduce.proofs.Bound.{instance_bound, instance_of_kind}
use Rattle.mau_reduce.proofs.Limits.{refused_ends_as}
use Rattle.mau_reduce.proofs.replacing.instance_by.Goals as goal

pub build-requires-clause-bare : goal.build-requires-clause-bare
build-requires-clause-bare c = subst (IsBare (terms_over c.args.sig.now)) (sym c.requires.template) c.requires.bare

pub build-requires-clause-values : goal.build-requires-clause-values
build-requires-clause-values c = subst (λ ids. StandWithin (theory_at c.args.sig.now) c.args.store.now (numbers ids)) (sym c.deref.ensures.value) c.requires.values.within

pub build-requires-clause-one_each : goal.build-requires-clause-one_each
build-requires-clause-one_each c =
    let vars : c.args.template.now.1 ≡ map variable_of c.args.binding.now.variables.items = sym c.variables.ensures ∙ ap (map variable_of) (c.are_same.ensures c.if-not-are_same.false ∙ c.as_slice.ensures.value) in
    ap length c.deref.ensures.value ∙ (c.requires.values.one_each ∙ (sym (length-map c.args.binding.now.variables.items variable_of) ∙ sym (ap length vars)))

pub returns-in-Ok-clause-value : goal.returns-in-Ok-clause-value
returns-in-Ok-clause-value c =
    let old = c.args.store.now in
    let xs = map variable_of c.args.binding.now.variables.items in
    let ids = c.args.binding.now.values.items in
    let vars : c.args.template.now.1 ≡ xs = sym c.variables.ensures ∙ ap (map variable_of) (c.are_same.ensures c.if-not-are_same.false ∙ c.as_slice.ensures.value) in
    let same : filled old c.deref.result.now c.args.template.now ≡ instance (value_at xs (trees_at old (numbers ids))) (tree_of c.args.term.now) =
    ap (λ js. filled old js c.args.template.now) c.deref.ensures.value ∙ ap₂ (λ ys t. instance (value_at ys (trees_at old (numbers ids))) t) vars c.requires.template in
    c.in-Ok.ensures.ok ∙ ap (norm (theory_at c.args.sig.now)) (same ∙ instance_bound xs (trees_at old (numbers ids)) (tree_of c.args.term.now))

pub returns-in-Ok-clause-kind : goal.returns-in-Ok-clause-kind
returns-in-Ok-clause-kind c = λ k b.
    let old = c.args.store.now in
    let th = theory_at c.args.sig.now in
    let xs = map variable_of c.args.binding.now.variables.items in
    let ids = c.args.binding.now.values.items in
    let vars : c.args.template.now.1 ≡ xs = sym c.variables.ensures ∙ ap (map variable_of) (c.are_same.ensures c.if-not-are_same.false ∙ c.as_slice.ensures.value) in
    let same : filled old c.deref.result.now c.args.template.now ≡ instance (value_at xs (trees_at old (numbers ids))) (tree_of c.args.term.now) =
    ap (λ js. filled old js c.args.template.now) c.deref.ensures.value ∙ ap₂ (λ ys t. instance (value_at ys (trees_at old (numbers ids))) t) vars c.requires.template in
    record {
      within = c.in-Ok.ensures.within;
      bare = subst (λ t. IsBareIn (terms_over c.args.sig.now) (reading th t) k) (sym (c.in-Ok.ensures.ok ∙ ap (norm th) same))
          (instance_of_kind c.args.sig.now c.requires.lawful xs (trees_at old (numbers ids)) (norms_of th old (numbers ids) c.requires.values.within) c.requires.values.kinds (tree_of c.args.term.now) k b);
    }

pub returns-clause-ends : goal.returns-clause-ends
returns-clause-ends c = λ b.
    let old = c.args.store.now in
    let th = theory_at c.args.sig.now in
    let xs = map variable_of c.args.binding.now.variables.items in
    let ids = c.args.binding.now.values.items in
    let vars : c.args.template.now.1 ≡ xs = sym c.variables.ensures ∙ ap (map variable_of) (c.are_same.ensures c.if-not-are_same.false ∙ c.as_slice.ensures.value) in
    let same : filled old c.deref.result.now c.args.template.now ≡ instance (value_at xs (trees_at old (numbers ids))) (tree_of c.args.term.now) =
    ap (λ js. filled old js c.args.template.now) c.deref.ensures.value ∙ ap₂ (λ ys t. instance (value_at ys (trees_at old (numbers ids))) t) vars c.requires.template in
    refused_ends_as th (norm th (instance (look_up (bound_in old c.args.binding.now)) (tree_of c.args.term.now))) b c.in-Err.fault c.from.result c.from.ensures
    (subst (λ t. IsCause th t c.in-Err.fault) (ap (norm th) (same ∙ instance_bound xs (trees_at old (numbers ids)) (tree_of c.args.term.now))) c.in-Err.ensures.refused)
