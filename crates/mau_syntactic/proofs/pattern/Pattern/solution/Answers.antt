use Rattle.std.proofs.Common.{[], rules, sym, ◌∙◌, subst}
use Rattle.mau_signature.specs.Signature.{theory_at}
use Rattle.mau_trial.specs.Tried.{HoldsAtEach, IsFor}
use Rattle.mau_syntactic.specs.Sorted.{as_place}
use Rattle.mau_syntactic.proofs.OneSolution.{variables_are_sorted, none_on_top, none_matches, none_sorted, one_next, one_given}
use Rattle.mau_syntactic.proofs.pattern.Pattern.solution.Goals as goal

pub returns-then-not-has_top-clause-next : goal.returns-then-not-has_top-clause-next
returns-then-not-has_top-clause-next c =
    λ known is.
    none_on_top c.args.sig.now c.is_lawful.ensures.lawful c.args.store.now c.has_nodes.ensures c.args.sorts.now c.args.self.now c.requires.free c.args.term c.requires.term c.requires.bare c.requires.settled
    c.in-Some.op.0 (sym c.in-Some.ensures) (λ same. absurd (search rules)) known

pub returns-then-not-found-clause-next : goal.returns-then-not-found-clause-next
returns-then-not-found-clause-next c =
    λ known is.
    none_matches c.args.sig.now c.is_lawful.ensures.lawful c.args.store.now c.has_nodes.ensures c.args.sorts.now c.args.self.now c.requires.free c.args.term c.requires.term c.requires.bare c.requires.settled
    (c.in_ok-found.ensures.missed c.if-not-found.true) known

pub have_sorts-requires-clause-sorts : goal.have_sorts-requires-clause-sorts
have_sorts-requires-clause-sorts c = variables_are_sorted c.args.sig.now c.args.self.now c.requires.pattern c.variables.result.now c.variables.ensures

pub returns-then-not-have_sorts-clause-next : goal.returns-then-not-have_sorts-clause-next
returns-then-not-have_sorts-clause-next c =
    none_sorted c.args.sig.now c.is_lawful.ensures.lawful c.args.store.now c.has_nodes.ensures c.args.sorts.now c.args.self.now c.requires.free c.args.term c.requires.term c.requires.bare c.requires.settled
    c.matches.new.values.items c.in_ok-found.ensures.there (c.in_ok-found.ensures.found c.if-not-found.false) c.variables.result.now c.variables.ensures
    (λ all.
    let yes = c.have_sorts.ensures.1 (subst (HoldsAtEach (λ x v. IsFor c.args.sig.now.hierarchy c.args.sorts.now [] (as_place x) v) c.variables.result.now) (sym c.deref.ensures.value) all) in
    absurd (search rules))

pub returns-clause-next : goal.returns-clause-next
returns-clause-next c =
    one_next c.args.sig.now c.is_lawful.ensures.lawful c.args.store.now c.has_nodes.ensures c.args.sorts.now c.args.self.now c.requires.free c.args.term c.requires.term c.requires.bare c.requires.settled
    c.matches.new.values.items c.in_ok-found.ensures.there (c.in_ok-found.ensures.found c.if-not-found.false) c.variables.result.now c.variables.ensures
    c.new-2.result c.new-4.result c.new-5.result (c.new-2.ensures ∙ c.new.ensures.items) (c.new-4.ensures ∙ c.new-3.ensures.items) c.new-5.ensures
    (subst (HoldsAtEach (λ x v. IsFor c.args.sig.now.hierarchy c.args.sorts.now [] (as_place x) v) c.variables.result.now) c.deref.ensures.value (c.have_sorts.ensures.0 (search rules)))

pub returns-clause-solves : goal.returns-clause-solves
returns-clause-solves c =
    one_given c.args.sig.now c.is_lawful.ensures.lawful c.args.store.now c.has_nodes.ensures c.args.sorts.now c.args.self.now c.requires.free c.args.term c.requires.term c.requires.bare c.requires.settled
    c.matches.new.values.items c.in_ok-found.ensures.there (c.in_ok-found.ensures.found c.if-not-found.false) c.variables.result.now c.variables.ensures
    c.new-2.result c.new-4.result c.new-5.result (c.new-2.ensures ∙ c.new.ensures.items) (c.new-4.ensures ∙ c.new-3.ensures.items) c.new-5.ensures
    (subst (HoldsAtEach (λ x v. IsFor c.args.sig.now.hierarchy c.args.sorts.now [] (as_place x) v) c.variables.result.now) c.deref.ensures.value (c.have_sorts.ensures.0 (search rules)))
    (c.in_ok-found.ensures.within c.if-not-found.false (theory_at c.args.sig.now) c.is_lawful.ensures.lawful.theories c.requires.term)
