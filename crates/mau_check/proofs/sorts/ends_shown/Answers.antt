use Rattle.mau_check.proofs.Tells.{kept_over, said_end, ends_as_sort}
use Rattle.mau_check.specs.Said.{IsSaid}
use Rattle.std.proofs.Common.{subst}
use Rattle.mau_terms.proofs.Outcomes.{IfOk-then}
use Rattle.mau_logic.specs.Shown.{known_by}
use Rattle.mau_check.proofs.sorts.ends_shown.Goals as goal

pub is_shown-requires-clause-term : goal.is_shown-requires-clause-term
is_shown-requires-clause-term c =
    (said_end c.args.sig.now c.args.store.now c.in-Leads.equations c.in-Leads.start c.in-Leads.end c.requires.said.0 (subst (λ x. IsSaid c.args.sig.now c.args.store.now x c.requires.said.0) c.in-Leads.is c.requires.said.1)).1.there

pub is_shown-requires-clause-tree : goal.is_shown-requires-clause-tree
is_shown-requires-clause-tree c =
    let k = said_end c.args.sig.now c.args.store.now c.in-Leads.equations c.in-Leads.start c.in-Leads.end c.requires.said.0 (subst (λ x. IsSaid c.args.sig.now c.args.store.now x c.requires.said.0) c.in-Leads.is c.requires.said.1) in
    kept_over c.args.sig.now c.operators.ensures.lawful c.args.store.now c.in-Leads.end k.0 k.1

pub returns-else-start-from-clause-shown : goal.returns-else-start-from-clause-shown
returns-else-start-from-clause-shown c =
    IfOk-then _ _
    (λ yes g t us h.
    (ends_as_sort c.args.sig.now c.args.store.now (known_by c.args.sig.now us) c.args.from.0 c.args.sort c.in-Leads.equations c.in-Leads.start c.in-Leads.end yes c.args.said c.in-Leads.is c.if-not-equations.false c.if-start-from.false
    ((λ y. g y us h), (λ x. t))).0 t)
    c.is_shown.result c.is_shown.ensures.shown
