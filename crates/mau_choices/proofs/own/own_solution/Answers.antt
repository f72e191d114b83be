use Rattle.std.proofs.Common.{◌≡◌, List, false, None, IfOk, sym, ap, ◌∙◌, map, subst, refl}
use Rattle.mau_terms.specs.Subst.{variables}
use Rattle.mau_terms.specs.View.{tree_of, variable_of}
use Rattle.mau_terms.specs.declared.ids.TermId.{TermId}
use Rattle.mau_signature.specs.Signature.{theory_at}
use Rattle.mau_store.specs.Trees.{trees_at}
use Rattle.mau_store.specs.View.{numbers}
use Rattle.mau_canon.specs.Standing.{StandWithin}
use Rattle.mau_listing.specs.Asked.{asks, IsGiven}
use Rattle.mau_listing.specs.Places.{variables_in}
use Rattle.mau_reduce.specs.Bindings.{bound_in}
use Rattle.mau_trial.specs.Tried.{IsTried, ArePlacesOf, asked_in, without_context}
use Rattle.mau_trial.specs.declared.tried.Trial.{Trial}
use Rattle.mau_choices.specs.Choosing.{AreValuesIn}
use Rattle.mau_choices.proofs.Owned.{among_stand}
use Rattle.mau_choices.proofs.Tested.{own_given, ok_is}
use Rattle.mau_choices.proofs.own.own_solution.Goals as goal

pub solves-requires-clause-values : goal.solves-requires-clause-values
solves-requires-clause-values c =
    subst (λ ids. StandWithin (theory_at c.args.sig.now) c.args.store.now (numbers ids)) (sym c.deref-5.ensures.value)
    (among_stand (theory_at c.args.sig.now) c.args.store.now c.args.last.now.values.items c.in_ok-values.values.items c.requires.last c.in_ok-values.ensures.among)

pub returns-clause-given : goal.returns-clause-given
returns-clause-given c =
    let t : Trial = record { pattern = c.in_ok-pattern.pattern; bound = c.in_ok-bound.bound; subject = c.args.value; last = None } in
    let l = c.in_ok-values.values.items in
    let within = among_stand (theory_at c.args.sig.now) c.args.store.now c.args.last.now.values.items l c.requires.last c.in_ok-values.ensures.among in
    let places : ArePlacesOf c.args.sig.now (tree_of c.args.pattern.now) c.in_ok-places.places.items =
    record { variables = c.in_ok-places.ensures.variables; under = c.in_ok-places.ensures.places; operators = c.in_ok-places.ensures.operators } in
    let tried : IsTried c.args.sig.now c.args.store.now c.args.table.now (asked_in t) c.in_ok-places.places.items l =
    subst (λ ps. IsTried c.args.sig.now c.args.store.now c.args.table.now (asked_in t) ps l) c.deref-3.ensures.value
    (subst (λ ids. IsTried c.args.sig.now c.args.store.now c.args.table.now (asked_in t) c.deref-3.result.now ids) c.deref-5.ensures.value (c.in_ok-solves.ensures.solves.0 c.if-not-branch.false)) in
    ok_is c.solution_of-2.result (without_context l) (IsGiven false c.args.sig.now c.args.store.now c.args.table.now (asks (tree_of c.args.pattern.now) c.args.binding.now c.args.value)) (subst (λ (ids : List TermId). IfOk c.solution_of-2.result (λ x. x ≡ without_context ids)) c.new.ensures c.solution_of-2.ensures)
    (own_given c.args.sig.now c.requires.lawful c.args.store.now c.has_nodes.ensures c.args.table.now c.args.pattern.now c.args.binding.now c.args.value c.requires.ready t c.in_ok-pattern.ensures c.in_ok-bound.ensures refl refl
    c.in_ok-places.places.items places l within tried)

pub returns-clause-values : goal.returns-clause-values
returns-clause-values c =
    let l = c.in_ok-values.values.items in
    let names : map variable_of c.in_ok-variables.variables.items ≡ variables (tree_of c.args.pattern.now) = ap (map variable_of) (c.in_ok-variables.ensures ∙ ap variables_in c.deref.ensures.value) ∙ c.in_ok-places.ensures.variables in
    ok_is c.solution_of-2.result (without_context l) (λ x. AreValuesIn (bound_in c.args.store.now c.args.last.now) (variables (tree_of c.args.pattern.now)) (trees_at c.args.store.now (numbers x.values))) (subst (λ (ids : List TermId). IfOk c.solution_of-2.result (λ x. x ≡ without_context ids)) c.new.ensures c.solution_of-2.ensures)
    (subst (λ xs. AreValuesIn (bound_in c.args.store.now c.args.last.now) xs (trees_at c.args.store.now (numbers l))) (ap (map variable_of) c.deref-2.ensures.value ∙ names) (c.in_ok-values.ensures.values c.args.store.now))
