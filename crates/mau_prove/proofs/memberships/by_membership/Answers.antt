use Rattle.std.proofs.Common.{◌≡◌, false, All, List, map, refl, sym, ap, ◌∙◌, subst}
use Rattle.mau_program.specs.declared.statements.Fragment.{Fragment}
use Rattle.mau_prove.specs.Sorting.{is_rewriting}
use Rattle.mau_poset.specs.Order.{kind_of}
use Rattle.mau_terms.specs.Subst.{Variable, variables}
use Rattle.mau_terms.specs.View.{tree_of, variable_of}
use Rattle.mau_api.specs.Answers.{IsAskable}
use Rattle.mau_prove.specs.Making.{AreSomeKept}
use Rattle.mau_prove.proofs.Working.{at_first, asked_apart, works_on, worked_on, sig_of, membership_askable}
use Rattle.mau_prove.proofs.memberships.by_membership.Goals as goal

pub variables_of-requires : goal.variables_of-requires
variables_of-requires g c = (kind_of c.args.program.now.sig.hierarchy c.args.membership.now.sort, c.requires.membership.parts.head)

pub solutions_of-requires-clause-fits : goal.solutions_of-requires-clause-fits
solutions_of-requires-clause-fits g c = c.requires.working.fits

pub solutions_of-requires-clause-signature : goal.solutions_of-requires-clause-signature
solutions_of-requires-clause-signature g c = sym (sig_of c.args.program.now (g.E.Evaluator.meanings c.args.evaluator.now) c.args.store.now c.args.known.now.items c.requires.working)

pub solutions_of-requires-clause-pattern : goal.solutions_of-requires-clause-pattern
solutions_of-requires-clause-pattern g c = (kind_of c.args.program.now.sig.hierarchy c.args.membership.now.sort, c.requires.membership.parts.head)

pub solutions_of-requires-clause-term : goal.solutions_of-requires-clause-term
solutions_of-requires-clause-term g c =
    let p = c.args.program.now in
    c.is_term.ensures.term c.args.store.now (subst (AreSomeKept p.sig c.args.store.now) (sym c.deref.ensures.value) c.requires.working.kept) c.if-not-is_term.false

pub try_all-requires-clause-working : goal.try_all-requires-clause-working
try_all-requires-clause-working g c =
    let p = c.args.program.now in
    let m = g.E.Evaluator.meanings c.args.evaluator.now in
    let after = g.E.Evaluator.meanings c.solutions_of.new.evaluator in
    works_on p m after c.args.store.now c.solutions_of.new.store c.args.known.now.items c.args.known.now.items c.requires.working
    (asked_apart p m after c.args.store.now c.solutions_of.new.store c.args.known.now.items c.requires.working c.solutions_of.ensures.meanings c.solutions_of.ensures.fits c.solutions_of.ensures.extends)

pub returns-in_err-variables : goal.returns-in_err-variables
returns-in_err-variables g c = at_first c.args.program.now (g.E.Evaluator.meanings c.args.evaluator.now) c.args.store.now c.args.known.now.items c.requires.working

pub returns-then-not-is_term : goal.returns-then-not-is_term
returns-then-not-is_term g c = at_first c.args.program.now (g.E.Evaluator.meanings c.args.evaluator.now) c.args.store.now c.args.known.now.items c.requires.working

pub returns-in-Err : goal.returns-in-Err
returns-in-Err g c =
    let p = c.args.program.now in
    let m = g.E.Evaluator.meanings c.args.evaluator.now in
    let after = g.E.Evaluator.meanings c.solutions_of.new.evaluator in
    asked_apart p m after c.args.store.now c.solutions_of.new.store c.args.known.now.items c.requires.working c.solutions_of.ensures.meanings c.solutions_of.ensures.fits c.solutions_of.ensures.extends

pub returns : goal.returns
returns g c =
    let p = c.args.program.now in
    let m = g.E.Evaluator.meanings c.args.evaluator.now in
    let after = g.E.Evaluator.meanings c.solutions_of.new.evaluator in
    let last = g.E.Evaluator.meanings c.try_all.new.evaluator in
    worked_on p.sig m after last c.args.store.now c.solutions_of.new.store c.try_all.new.store c.args.known.now.items c.try_all.new.known.items
    (asked_apart p m after c.args.store.now c.solutions_of.new.store c.args.known.now.items c.requires.working c.solutions_of.ensures.meanings c.solutions_of.ensures.fits c.solutions_of.ensures.extends) c.try_all.ensures

pub try_all-requires-clause-condition : goal.try_all-requires-clause-condition
try_all-requires-clause-condition g c =
    let s = c.args.program.now.sig in
    let mb = c.args.membership.now in
    let plain = subst (All (λ (f : Fragment). is_rewriting f ≡ false)) c.items-cond.ensures (c.has_rewriting.ensures c.if-has_rewriting.false) in
    subst (IsAskable s (map variable_of c.deref-2.result.now)) (sym c.items-cond.ensures)
    (membership_askable s mb c.requires.membership c.if-not-membership.false plain (map variable_of c.deref-2.result.now) (ap (map variable_of) c.deref-2.ensures.value ∙ c.in_ok-variables.ensures))
