use Rattle.std.proofs.Common.{◌≡◌, List, All, map, sym, ap, ◌∙◌, subst}
use Rattle.std.proofs.lemmas.Option.{slice_get_within}
use Rattle.mau_terms.specs.Tree.{Tree}
use Rattle.mau_terms.specs.Norm.{norm}
use Rattle.mau_terms.specs.Bare.{IsBareIn}
use Rattle.mau_terms.specs.Reading.{reading}
use Rattle.mau_terms.specs.Subst.{value_at, instance}
use Rattle.mau_terms.specs.Solution.{HaveSorts}
use Rattle.mau_terms.specs.View.{tree_of, variable_of}
use Rattle.mau_terms.specs.declared.ids.VarId.{VarId}
use Rattle.mau_terms.specs.declared.ids.TermId.{TermId}
use Rattle.mau_terms.proofs.Taken.{one_kind}
use Rattle.mau_signature.specs.Signature.{theory_at, terms_over}
use Rattle.mau_store.specs.Trees.{tree_at, trees_at}
use Rattle.mau_store.specs.View.{numbers}
use Rattle.mau_store.specs.Node.{IsOf}
use Rattle.mau_store.proofs.Growth.{extension_is_preorder, IsOf-extends}
use Rattle.mau_store.proofs.Standing.{tree_at-extends}
use Rattle.mau_sorts.proofs.Settling.{kept_same}
use Rattle.mau_listing.specs.Asked.{HasEntry}
use Rattle.mau_canon.proofs.Standing.{stands_within_extended}
use Rattle.mau_program.specs.declared.statements.Rule as Written
use Rattle.mau_api.specs.Terms.{IsTerm, fill}
use Rattle.mau_api.specs.Variables.{statement_variables}
use Rattle.mau_api.specs.declared.step.Statement.TheVariants.{Rule as ByRule}
use Rattle.mau_api.specs.declared.step.Step.{Step}
use Rattle.mau_api.specs.Answers.{IsValueOf}
use Rattle.mau_reduce.specs.Contexts.{AreContexts}
use Rattle.mau_reduce.specs.Bindings.{AreValues}
use Rattle.mau_reduce.proofs.KindsKept.{tree_kept, trees_kept, is_term_kept}
use Rattle.mau_reduce.proofs.LaterStores.{contexts_grown, values_grown, sorts_grown}
use Rattle.mau_reduce.proofs.Numbered.{at_index, one_at}
use Rattle.mau_api.specs.Told.{step_in}
use Rattle.mau_rules.specs.Telling.{IsRuleStep}
use Rattle.mau_rules.proofs.Shown.{lawful_rule}
use Rattle.mau_rules.proofs.Paths.{same_root, path_kept, path_term, walk_kept}
use Rattle.mau_rules.proofs.Parted.{firsts, seconds, first_names, sorts_parted}
use Rattle.mau_rules.proofs.Stepped.{rule_told}
use Rattle.mau_rules.proofs.telling.rule_step.Goals as goal

pub side_term-requires-clause-bare : goal.side_term-requires-clause-bare
side_term-requires-clause-bare c =
    let p = c.args.program.now in
    let x = c.args.found.now in
    let f = c.requires.found.1 in
    let at = at_index p.rules c.items.result.now x.number c.index-items-found.result c.items.ensures (slice_get_within p.rules x.number f.rule f.at) c.index-items-found.is in
    let sides = (lawful_rule p c.requires.runnable x.number c.index-items-found.result at).parts.sides in
    (sides.kind, sides.first)

pub side_term-requires-clause-values : goal.side_term-requires-clause-values
side_term-requires-clause-values c =
    let s = c.args.program.now.sig in
    let f = c.requires.found in
    c.in_ok-binding.ensures.values s c.args.store.now f.0 (subst (λ (bs : List (VarId × TermId)). All (IsValueOf s c.args.store.now f.0) bs) (sym c.deref.ensures.value) f.1.bound)

pub side_term-requires-2-clause-bare : goal.side_term-requires-2-clause-bare
side_term-requires-2-clause-bare c =
    let p = c.args.program.now in
    let x = c.args.found.now in
    let f = c.requires.found.1 in
    let at = at_index p.rules c.items.result.now x.number c.index-items-found.result c.items.ensures (slice_get_within p.rules x.number f.rule f.at) c.index-items-found.is in
    let sides = (lawful_rule p c.requires.runnable x.number c.index-items-found.result at).parts.sides in
    (sides.kind, sides.second)

pub side_term-requires-2-clause-values : goal.side_term-requires-2-clause-values
side_term-requires-2-clause-values c =
    let s = c.args.program.now.sig in
    let f = c.requires.found in
    values_grown c.args.program.now c.args.store.now c.side_term.new.store c.in_ok-before.ensures.extends c.in_ok-binding.binding
    (c.in_ok-binding.ensures.values s c.args.store.now f.0 (subst (λ (bs : List (VarId × TermId)). All (IsValueOf s c.args.store.now f.0) bs) (sym c.deref.ensures.value) f.1.bound))

pub context_of-requires-clause-walk : goal.context_of-requires-clause-walk
context_of-requires-clause-walk c =
    let w = c.requires.walk in
    let e02 = extension_is_preorder.transitive c.args.store.now c.side_term.new.store c.side_term-2.new.store c.in_ok-before.ensures.extends c.in_ok-reached.ensures.extends in
    (w.0, walk_kept c.args.program.now.sig c.args.store.now c.side_term-2.new.store e02 w.0 c.args.way.now c.args.found.now.term.0 w.1)

pub context_of-requires-clause-contexts : goal.context_of-requires-clause-contexts
context_of-requires-clause-contexts c =
    let p = c.args.program.now in
    let x = c.args.found.now in
    let old = c.args.store.now in
    let new = c.side_term-2.new.store in
    let w = c.requires.walk in
    let e02 = extension_is_preorder.transitive old c.side_term.new.store new c.in_ok-before.ensures.extends c.in_ok-reached.ensures.extends in
    let is = path_term p.sig c.requires.runnable.reducible.lawful old c.len.ensures.nodes w.0 c.args.way.now x.term.0 w.1.begins w.1.path in
    subst (λ t. AreContexts p.sig new t (numbers x.solution.left) (numbers x.solution.right)) (sym (tree_kept (theory_at p.sig) old new x.term.0 e02 is.within))
    (contexts_grown p old new e02 (tree_at old x.term.0) (numbers x.solution.left) (numbers x.solution.right) c.requires.found.1.contexts)

pub context_of-requires-clause-before : goal.context_of-requires-clause-before
context_of-requires-clause-before c = stands_within_extended (theory_at c.args.program.now.sig) c.side_term.new.store c.side_term-2.new.store c.in_ok-reached.ensures.extends c.in_ok-before.before.0 c.in_ok-before.ensures.within

pub returns-clause-step : goal.returns-clause-step
returns-clause-step c = λ table root path bound.
    let p = c.args.program.now in
    let lawful = c.requires.runnable.reducible.lawful in
    let th = theory_at c.args.program.now.sig in
    let s0 = c.args.store.now in
    let s1 = c.side_term.new.store in
    let s2 = c.side_term-2.new.store in
    let s3 = c.context_of.new.store in
    let e02 = extension_is_preorder.transitive s0 s1 s2 c.in_ok-before.ensures.extends c.in_ok-reached.ensures.extends in
    let e13 = extension_is_preorder.transitive s1 s2 s3 c.in_ok-reached.ensures.extends c.in_ok-context.ensures.extends in
    let e03 = extension_is_preorder.transitive s0 s2 s3 e02 c.in_ok-context.ensures.extends in
    let y = c.args.found.now in
    let f = c.requires.found.1 in
    let w = c.requires.walk in
    let b = c.in_ok-binding.binding in
    let xs = map variable_of c.in_ok-binding.binding.variables.items in
    let ids = numbers c.in_ok-binding.binding.values.items in
    let rule = c.index-items-found.result in
    let at = at_index p.rules c.items.result.now y.number rule c.items.ensures (slice_get_within p.rules y.number f.rule f.at) c.index-items-found.is in
    let same : f.rule ≡ rule = one_at p.rules y.number f.rule rule f.at at in
    let sides = (lawful_rule p c.requires.runnable y.number rule at).parts.sides in
    let bound_at = subst (λ (bs : List (VarId × TermId)). All (IsValueOf p.sig s0 table) bs) (sym c.deref.ensures.value) bound in
    let values : AreValues p.sig s0 b = c.in_ok-binding.ensures.values p.sig s0 table bound_at in
    let items : c.in_ok-binding.binding.values.items ≡ seconds y.bound.items = c.in_ok-binding.ensures.items ∙ ap seconds c.deref.ensures.value in
    let names : xs ≡ map (λ (z : VarId × TermId). variable_of z.0) y.bound.items = c.in_ok-binding.ensures.named ∙ ap (map (λ (z : VarId × TermId). variable_of z.0)) c.deref.ensures.value in
    let named : xs ≡ statement_variables (tree_of rule.left) rule.cond (tree_of rule.right) = names ∙ (f.named ∙ ap (λ (q : Written.Rule). statement_variables (tree_of q.left) q.cond (tree_of q.right)) same) in
    let sorted : HaveSorts (HasEntry p.sig s0 table) xs (trees_at s0 ids) = subst (λ zs. HaveSorts (HasEntry p.sig s0 table) zs (trees_at s0 ids)) (first_names y.bound.items ∙ sym names)
    (subst (λ (ts : List TermId). HaveSorts (HasEntry p.sig s0 table) (map variable_of (firsts y.bound.items)) (trees_at s0 (numbers ts))) (sym items) (sorts_parted p.sig s0 table y.bound.items bound)) in
    let one = c.in_ok-context.ensures.one in
    let is = path_term p.sig lawful s0 c.len.ensures.nodes w.0 c.args.way.now y.term.0 w.1.begins w.1.path in
    let begins = subst (λ i. IsTerm p.sig s0 i) (same_root s0 w.0 root c.args.way.now y.term.0 w.1.path path) w.1.begins in
    let of_term : IsBareIn (terms_over p.sig) (reading th (tree_at s0 y.term.0)) one.0 = subst (λ t. IsBareIn (terms_over p.sig) (reading th t) one.0) (tree_kept th s0 s2 y.term.0 e02 is.within) one.1.bare in
    let left : IsBareIn (terms_over p.sig) (tree_of f.rule.left) sides.kind = subst (λ (q : Written.Rule). IsBareIn (terms_over p.sig) (tree_of q.left) sides.kind) (sym same) sides.first in
    let kind = one_kind (terms_over p.sig) (reading th (tree_at s0 y.term.0)) sides.kind one.0 (f.kind sides.kind left) of_term in
    let old_values = trees_kept th s0 s3 ids e03 values.within in
    let first_values = trees_kept th s0 s1 ids c.in_ok-before.ensures.extends values.within in
    let x : Step = record { statement = ByRule c.in_ok-shown.shown; context = c.in_ok-context.context; values = c.new.result; before = c.in_ok-before.before; after = c.in_ok-reached.reached; inner = c.new-3.result } in
    let final = path_kept s0 s2 e02 root c.args.way.now y.term.0 path in
    let told = rule_told p lawful (HasEntry p.sig s3 table) s3 y.number rule at b named (values_grown p s0 s3 e03 b values)
    (sorts_grown p.sig s0 s3 e03 table table (kept_same table) xs ids values.within sorted) x root c.args.after.0 one.0
    (ap ByRule c.in_ok-shown.ensures) (c.new.ensures ∙ (c.in_ok-values.ensures.items ∙ c.deref-2.ensures.value))
    (ap (λ (ws : List Tree). norm th (instance (value_at xs ws) (tree_of rule.left))) old_values
    ∙ (c.in_ok-before.ensures.value ∙ sym (tree_at-extends s1 s3 c.in_ok-before.before.0 e13 c.in_ok-before.ensures.within.there)))
    (ap (λ (ws : List Tree). norm th (instance (value_at xs ws) (tree_of rule.right))) (old_values ∙ sym first_values)
    ∙ (c.in_ok-reached.ensures.value ∙ sym (tree_at-extends s2 s3 c.in_ok-reached.reached.0 c.in_ok-context.ensures.extends c.in_ok-reached.ensures.within.there)))
    (subst (IsBareIn (terms_over p.sig) (tree_of rule.left)) kind sides.first) one.2 c.in_ok-context.ensures.within
    (ap (λ u. norm th (fill (tree_of c.in_ok-context.context) u)) (tree_at-extends s2 s3 c.in_ok-before.before.0 c.in_ok-context.ensures.extends (stands_within_extended th s1 s2 c.in_ok-reached.ensures.extends c.in_ok-before.before.0 c.in_ok-before.ensures.within).there)
    ∙ (c.in_ok-context.ensures.from root final ∙ sym (tree_at-extends s2 s3 root c.in_ok-context.ensures.extends (is_term_kept p.sig s0 s2 root e02 begins).within.there)))
    (ap (λ u. norm th (fill (tree_of c.in_ok-context.context) u)) (tree_at-extends s2 s3 c.in_ok-reached.reached.0 c.in_ok-context.ensures.extends c.in_ok-reached.ensures.within.there)
    ∙ (c.in_ok-context.ensures.to ∙ sym (tree_at-extends s2 s3 c.args.after.0 c.in_ok-context.ensures.extends (is_term_kept p.sig s0 s2 c.args.after.0 e02 c.requires.after).within.there)))
    (is_term_kept p.sig s0 s3 c.args.after.0 e03 c.requires.after) in
    subst (λ (ts : List TermId). IsRuleStep p (HasEntry p.sig s3 table) y.number (trees_at s3 (numbers ts)) (tree_at s3 root) (tree_at s3 c.args.after.0) (step_in s3 x)) items told

pub returns-clause-stands : goal.returns-clause-stands
returns-clause-stands c =
    let p = c.args.program.now in
    let s0 = c.args.store.now in
    let s1 = c.side_term.new.store in
    let s2 = c.side_term-2.new.store in
    let s3 = c.context_of.new.store in
    let e13 = extension_is_preorder.transitive s1 s2 s3 c.in_ok-reached.ensures.extends c.in_ok-context.ensures.extends in
    let e03 = extension_is_preorder.transitive s0 s1 s3 c.in_ok-before.ensures.extends e13 in
    let f = c.requires.found in
    let values : AreValues p.sig s0 c.in_ok-binding.binding = c.in_ok-binding.ensures.values p.sig s0 f.0 (subst (λ (bs : List (VarId × TermId)). All (IsValueOf p.sig s0 f.0) bs) (sym c.deref.ensures.value) f.1.bound) in
    let items : c.new.result ≡ c.in_ok-binding.binding.values.items = c.new.ensures ∙ (c.in_ok-values.ensures.items ∙ c.deref-2.ensures.value) in (
      IsOf-extends s1 s3 c.in_ok-before.before.0 e13 c.in_ok-before.ensures.within.there,
      IsOf-extends s2 s3 c.in_ok-reached.reached.0 c.in_ok-context.ensures.extends c.in_ok-reached.ensures.within.there,
      subst (λ (ts : List TermId). All (IsOf s3) (numbers ts)) (sym items) (λ k d low. IsOf-extends s0 s3 _ e03 (values.within k d low).there),
    )
