use Rattle.std.proofs.Common.{◌≡◌, List, map, sym, ap, ◌∙◌, subst}
use Rattle.std.proofs.lemmas.Option.{slice_get_within}
use Rattle.mau_terms.specs.Tree.{Tree}
use Rattle.mau_terms.specs.Norm.{norm}
use Rattle.mau_terms.specs.Bare.{IsBareIn}
use Rattle.mau_terms.specs.Reading.{reading}
use Rattle.mau_terms.specs.Subst.{value_at, instance}
use Rattle.mau_terms.specs.View.{tree_of, variable_of}
use Rattle.mau_terms.proofs.Taken.{one_kind}
use Rattle.mau_signature.specs.Signature.{theory_at, terms_over}
use Rattle.mau_store.specs.Trees.{tree_at}
use Rattle.mau_store.specs.View.{numbers}
use Rattle.mau_store.proofs.Growth.{extension_is_preorder}
use Rattle.mau_store.proofs.Standing.{tree_at-extends}
use Rattle.mau_sorts.proofs.Settling.{kept_same}
use Rattle.mau_listing.specs.Asked.{HasEntry}
use Rattle.mau_canon.proofs.Standing.{stands_within_extended}
use Rattle.mau_program.specs.declared.statements.Equation as Written
use Rattle.mau_api.specs.Programs.{equation_of}
use Rattle.mau_api.specs.Terms.{fill}
use Rattle.mau_api.specs.declared.step.Statement.TheVariants.{Equation as ByEquation}
use Rattle.mau_api.specs.declared.step.Step.{Step}
use Rattle.mau_reduce.specs.Contexts.{AreContexts}
use Rattle.mau_reduce.proofs.KindsKept.{tree_kept, trees_kept, is_term_kept}
use Rattle.mau_reduce.proofs.LaterStores.{contexts_grown, values_grown, sorts_grown}
use Rattle.mau_reduce.proofs.Numbered.{at_index, one_at, exec_at, executable_found, in_equations}
use Rattle.mau_reduce.proofs.Stepped.{equation_told}
use Rattle.mau_reduce.proofs.stepping.equation_step.Goals as goal

pub instance_term-requires-clause-bare : goal.instance_term-requires-clause-bare
instance_term-requires-clause-bare c = let sides = c.requires.reducible.sides (equation_of c.index-items-number.result) (in_equations c.args.program.now c.args.number c.index-items-number.result (at_index c.args.program.now.equations c.items.result.now c.args.number c.index-items-number.result c.items.ensures (slice_get_within c.args.program.now.equations c.args.number c.requires.found.equation c.requires.found.at) c.index-items-number.is)) in (sides.kind, sides.left)

pub instance_term-requires-2-clause-bare : goal.instance_term-requires-2-clause-bare
instance_term-requires-2-clause-bare c = let sides = c.requires.reducible.sides (equation_of c.index-items-number.result) (in_equations c.args.program.now c.args.number c.index-items-number.result (at_index c.args.program.now.equations c.items.result.now c.args.number c.index-items-number.result c.items.ensures (slice_get_within c.args.program.now.equations c.args.number c.requires.found.equation c.requires.found.at) c.index-items-number.is)) in (sides.kind, sides.right)

pub instance_term-requires-2-clause-values : goal.instance_term-requires-2-clause-values
instance_term-requires-2-clause-values c = values_grown c.args.program.now c.args.store.now c.instance_term.new.store c.in_ok-before.ensures.extends c.args.binding.now c.requires.values

pub context_of-requires-clause-term : goal.context_of-requires-clause-term
context_of-requires-clause-term c =
    is_term_kept c.args.program.now.sig c.args.store.now c.instance_term-2.new.store c.args.term.0
    (extension_is_preorder.transitive c.args.store.now c.instance_term.new.store c.instance_term-2.new.store c.in_ok-before.ensures.extends c.in_ok-reached.ensures.extends) c.requires.term

pub context_of-requires-clause-contexts : goal.context_of-requires-clause-contexts
context_of-requires-clause-contexts c =
    let new = c.instance_term-2.new.store in
    let extends = extension_is_preorder.transitive c.args.store.now c.instance_term.new.store c.instance_term-2.new.store c.in_ok-before.ensures.extends c.in_ok-reached.ensures.extends in
    subst (λ t. AreContexts c.args.program.now.sig c.instance_term-2.new.store t (numbers c.args.solution.now.left) (numbers c.args.solution.now.right))
    (sym (tree_kept (theory_at c.args.program.now.sig) c.args.store.now new c.args.term.0 extends c.requires.term.within))
    (contexts_grown c.args.program.now c.args.store.now new extends (tree_at c.args.store.now c.args.term.0) (numbers c.args.solution.now.left) (numbers c.args.solution.now.right) c.requires.found.candidate.contexts)

pub context_of-requires-clause-before : goal.context_of-requires-clause-before
context_of-requires-clause-before c = stands_within_extended (theory_at c.args.program.now.sig) c.instance_term.new.store c.instance_term-2.new.store c.in_ok-reached.ensures.extends c.in_ok-before.before.0 c.in_ok-before.ensures.within

pub returns-clause-step : goal.returns-clause-step
returns-clause-step c = λ table sorted.
    let p = c.args.program.now in
    let th = theory_at c.args.program.now.sig in
    let s0 = c.args.store.now in
    let s1 = c.instance_term.new.store in
    let s2 = c.instance_term-2.new.store in
    let s3 = c.context_of.new.store in
    let e02 = extension_is_preorder.transitive s0 s1 s2 c.in_ok-before.ensures.extends c.in_ok-reached.ensures.extends in
    let e13 = extension_is_preorder.transitive s1 s2 s3 c.in_ok-reached.ensures.extends c.in_ok-context.ensures.extends in
    let e03 = extension_is_preorder.transitive s0 s2 s3 e02 c.in_ok-context.ensures.extends in
    let b = c.args.binding.now in
    let xs = map variable_of c.args.binding.now.variables.items in
    let ids = numbers c.args.binding.now.values.items in
    let at = at_index c.args.program.now.equations c.items.result.now c.args.number c.index-items-number.result c.items.ensures (slice_get_within c.args.program.now.equations c.args.number c.requires.found.equation c.requires.found.at) c.index-items-number.is in
    let sides = c.requires.reducible.sides (equation_of c.index-items-number.result) (in_equations c.args.program.now c.args.number c.index-items-number.result (at_index c.args.program.now.equations c.items.result.now c.args.number c.index-items-number.result c.items.ensures (slice_get_within c.args.program.now.equations c.args.number c.requires.found.equation c.requires.found.at) c.index-items-number.is)) in
    let same : c.index-items-number.result ≡ c.requires.found.equation = one_at p.equations c.args.number c.index-items-number.result c.requires.found.equation at c.requires.found.at in
    let one = c.in_ok-context.ensures.one in
    let left : IsBareIn (terms_over c.args.program.now.sig) (tree_of c.requires.found.equation.left) sides.kind = subst (λ (e : Written.Equation). IsBareIn (terms_over c.args.program.now.sig) (tree_of e.left) sides.kind) same sides.left in
    let of_term : IsBareIn (terms_over c.args.program.now.sig) (reading th (tree_at s0 c.args.term.0)) one.0 = subst (λ t. IsBareIn (terms_over c.args.program.now.sig) (reading (theory_at c.args.program.now.sig) t) one.0) (tree_kept th s0 s2 c.args.term.0 e02 c.requires.term.within) one.1.bare in
    let kind : sides.kind ≡ one.0 = one_kind (terms_over c.args.program.now.sig) (reading th (tree_at s0 c.args.term.0)) sides.kind one.0 (c.requires.found.candidate.kind sides.kind left) of_term in
    let old_values = trees_kept th s0 s3 ids e03 c.requires.values.within in
    let first_values = trees_kept th s0 s1 ids c.in_ok-before.ensures.extends c.requires.values.within in
    let x : Step = record { statement = ByEquation c.in_ok-shown.shown; context = c.in_ok-context.context; values = c.new.result; before = c.in_ok-before.before; after = c.in_ok-reached.reached; inner = c.new-3.result } in
    equation_told p c.requires.reducible.lawful (HasEntry c.args.program.now.sig s3 table) s3 c.args.number c.index-items-number.result at
    (exec_at p c.args.number (executable_found p s0 (tree_at s0 c.args.term.0) c.args.number c.args.solution.now c.requires.found) c.index-items-number.result at) b c.requires.variables
    (values_grown p s0 s3 e03 b c.requires.values) (sorts_grown c.args.program.now.sig s0 s3 e03 table table (kept_same table) xs ids c.requires.values.within sorted)
    x c.args.term.0 c.args.after.0 one.0 (ap ByEquation c.in_ok-shown.ensures) (c.new.ensures ∙ (c.in_ok-values.ensures.items ∙ c.deref.ensures.value))
    (ap (λ (ws : List Tree). norm th (instance (value_at xs ws) (tree_of c.index-items-number.result.left))) old_values
    ∙ (c.in_ok-before.ensures.value ∙ sym (tree_at-extends s1 s3 c.in_ok-before.before.0 e13 c.in_ok-before.ensures.within.there)))
    (ap (λ (ws : List Tree). norm th (instance (value_at xs ws) (tree_of c.index-items-number.result.right))) (old_values ∙ sym first_values)
    ∙ (c.in_ok-reached.ensures.value ∙ sym (tree_at-extends s2 s3 c.in_ok-reached.reached.0 c.in_ok-context.ensures.extends c.in_ok-reached.ensures.within.there)))
    (subst (IsBareIn (terms_over c.args.program.now.sig) (tree_of c.index-items-number.result.left)) kind sides.left) one.2 c.in_ok-context.ensures.within
    (ap (λ u. norm th (fill (tree_of c.in_ok-context.context) u)) (tree_at-extends s2 s3 c.in_ok-before.before.0 c.in_ok-context.ensures.extends (stands_within_extended th s1 s2 c.in_ok-reached.ensures.extends c.in_ok-before.before.0 c.in_ok-before.ensures.within).there)
    ∙ (c.in_ok-context.ensures.from ∙ sym (tree_at-extends s2 s3 c.args.term.0 c.in_ok-context.ensures.extends (is_term_kept c.args.program.now.sig s0 s2 c.args.term.0 e02 c.requires.term).within.there)))
    (ap (λ u. norm th (fill (tree_of c.in_ok-context.context) u)) (tree_at-extends s2 s3 c.in_ok-reached.reached.0 c.in_ok-context.ensures.extends c.in_ok-reached.ensures.within.there)
    ∙ (c.in_ok-context.ensures.to ∙ sym (tree_at-extends s2 s3 c.args.after.0 c.in_ok-context.ensures.extends (is_term_kept c.args.program.now.sig s0 s2 c.args.after.0 e02 c.requires.after).within.there)))
    (is_term_kept c.args.program.now.sig s0 s3 c.args.after.0 e03 c.requires.after)
