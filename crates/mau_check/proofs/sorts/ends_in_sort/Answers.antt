use Rattle.mau_check.proofs.Tells.{kept_over, said_end, ends_as_sort}
use Rattle.mau_check.specs.Said.{IsSaid}
use Rattle.std.proofs.Common.{subst}
use Rattle.mau_terms.proofs.Outcomes.{IfOk-then}
use Rattle.mau_check.proofs.sorts.ends_in_sort.Goals as goal

pub has_sort-requires-clause-term : goal.has_sort-requires-clause-term
has_sort-requires-clause-term c =
    (said_end c.args.sig.now c.args.store.now c.in-Leads.equations c.in-Leads.start c.in-Leads.end c.requires.said.0 (subst (λ x. IsSaid c.args.sig.now c.args.store.now x c.requires.said.0) c.in-Leads.is c.requires.said.1)).1.there

pub has_sort-requires-clause-tree : goal.has_sort-requires-clause-tree
has_sort-requires-clause-tree c =
    let k = said_end c.args.sig.now c.args.store.now c.in-Leads.equations c.in-Leads.start c.in-Leads.end c.requires.said.0 (subst (λ x. IsSaid c.args.sig.now c.args.store.now x c.requires.said.0) c.in-Leads.is c.requires.said.1) in
    kept_over c.args.sig.now c.operators.ensures.lawful c.args.store.now c.in-Leads.end k.0 k.1

pub returns-else-start-from-clause-has : goal.returns-else-start-from-clause-has
returns-else-start-from-clause-has c =
    IfOk-then _ _
    (λ yes g known h.
    ends_as_sort c.args.sig.now c.args.store.now known c.args.from.0 c.args.sort c.in-Leads.equations c.in-Leads.start c.in-Leads.end yes c.args.said c.in-Leads.is c.if-not-equations.false c.if-start-from.false (g known h))
    c.has_sort.result c.has_sort.ensures.has
