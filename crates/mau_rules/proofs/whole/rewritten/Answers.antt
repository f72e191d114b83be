use Rattle.std.proofs.Common.{◌≡◌, List, map, All, IfOk, IfErr, sym, ap, ◌∙◌, subst}
use Rattle.std.proofs.lemmas.Option.{slice_get_within}
use Rattle.mau_terms.specs.Tree.{Tree}
use Rattle.mau_terms.specs.Norm.{norm}
use Rattle.mau_terms.specs.Bare.{IsBareIn}
use Rattle.mau_terms.specs.Subst.{instance}
use Rattle.mau_terms.specs.View.{tree_of}
use Rattle.mau_terms.specs.declared.ids.TermId.{TermId}
use Rattle.mau_terms.specs.declared.ids.VarId.{VarId}
use Rattle.mau_signature.specs.Signature.{theory_at, terms_over}
use Rattle.mau_store.specs.Trees.{tree_at}
use Rattle.mau_program.specs.declared.statements.Rule.{Rule}
use Rattle.mau_evaluation.specs.Evaluation.{Binding, look_up, admit}
use Rattle.mau_api.specs.Answers.{binding_in, IsValueOf}
use Rattle.mau_reduce.specs.Bindings.{bound_in}
use Rattle.mau_reduce.specs.Ends.{IsEnd}
use Rattle.mau_reduce.proofs.Numbered.{at_index, one_at}
use Rattle.mau_rules.specs.Found.{between, tree_with}
use Rattle.mau_rules.specs.Walk.{opened, around_all}
use Rattle.mau_rules.proofs.Paths.{path_term}
use Rattle.mau_rules.proofs.Shown.{lawful_rule}
use Rattle.mau_rules.proofs.whole.rewritten.Goals as goal

pub placed-requires-clause-kind : goal.placed-requires-clause-kind
placed-requires-clause-kind c =
    let p = c.args.program.now in
    let s = p.sig in
    let w = c.requires.walk in
    let x = c.args.found.now in
    let f = c.requires.found.1 in
    let rule = c.index-items-found.result in
    let at = at_index p.rules c.items.result.now x.number rule c.items.ensures (slice_get_within p.rules x.number f.rule f.at) c.index-items-found.is in
    let sides = (lawful_rule p c.requires.runnable x.number rule at).parts.sides in
    let is = path_term s c.requires.runnable.reducible.lawful c.args.store.now c.len.ensures.nodes w.0 c.args.way.now x.term.0 w.1.begins w.1.path in
    let left = subst (λ (r : Rule). IsBareIn (terms_over s) (tree_of r.left) sides.kind) (one_at p.rules x.number rule f.rule at f.at) sides.first in
    (sides.kind, record { within = is.within; bare = f.kind sides.kind left }, sides.second)

pub placed-requires-clause-values : goal.placed-requires-clause-values
placed-requires-clause-values c =
    let s = c.args.program.now.sig in
    let f = c.requires.found in
    c.in-Ok.ensures.values s c.args.store.now f.0 (subst (λ (bs : List (VarId × TermId)). All (IsValueOf s c.args.store.now f.0) bs) (sym c.deref.ensures.value) f.1.bound)

pub returns-clause-value : goal.returns-clause-value
returns-clause-value c =
    let p = c.args.program.now in
    let old = c.args.store.now in
    let x = c.args.found.now in
    let f = c.requires.found.1 in
    let rule = c.index-items-found.result in
    let at = at_index p.rules c.items.result.now x.number rule c.items.ensures (slice_get_within p.rules x.number f.rule f.at) c.index-items-found.is in
    let bound : bound_in old c.in-Ok.binding ≡ binding_in old x.bound.items = c.in-Ok.ensures.bound old ∙ ap (binding_in old) c.deref.ensures.value in
    let same = ap (λ (σ : Binding). between p.sig old x (instance (look_up σ) (tree_of rule.right))) bound ∙ sym (ap (tree_with p old x) at) in
    subst (λ (t : Tree). IfOk c.placed.result (λ (id : TermId). tree_at c.placed.new.store id.0 ≡ norm (theory_at p.sig) (around_all (λ v. v) (map (opened old) c.args.way.now) t))) same c.placed.ensures.value

pub returns-clause-ends : goal.returns-clause-ends
returns-clause-ends c = λ b.
    let p = c.args.program.now in
    let old = c.args.store.now in
    let x = c.args.found.now in
    let f = c.requires.found.1 in
    let rule = c.index-items-found.result in
    let at = at_index p.rules c.items.result.now x.number rule c.items.ensures (slice_get_within p.rules x.number f.rule f.at) c.index-items-found.is in
    let bound : bound_in old c.in-Ok.binding ≡ binding_in old x.bound.items = c.in-Ok.ensures.bound old ∙ ap (binding_in old) c.deref.ensures.value in
    let same = ap (λ (σ : Binding). between p.sig old x (instance (look_up σ) (tree_of rule.right))) bound ∙ sym (ap (tree_with p old x) at) in
    subst (λ (t : Tree). IfErr c.placed.result (IsEnd (admit (theory_at p.sig) (around_all (λ v. v) (map (opened old) c.args.way.now) t) b))) same (c.placed.ensures.ends b)
