use Rattle.std.proofs.Common.{◌↔◌, IfOk, sym, subst}
use Rattle.std.specs.Prelude.{IsTrue}
use Rattle.mau_terms.specs.Subst.{value_at}
use Rattle.mau_program.specs.LawfulStatements.{IsLawfulFragment}
use Rattle.mau_logic.specs.Shown.{Shows}
use Rattle.mau_check.specs.Variables.{variables_in}
use Rattle.mau_check.proofs.Growing.{plain_extended}
use Rattle.mau_check.proofs.fragments.shows.Goals as goal

pub shows_equal-requires-clause-left : goal.shows_equal-requires-clause-left
shows_equal-requires-clause-left c = let h = subst (IsLawfulFragment c.args.sig.now) c.in-Equal.is c.requires.fragment in (h.kind, h.first)

pub shows_equal-requires-clause-right : goal.shows_equal-requires-clause-right
shows_equal-requires-clause-right c = let h = subst (IsLawfulFragment c.args.sig.now) c.in-Equal.is c.requires.fragment in (h.kind, h.second)

pub shows_lead-requires-clause-from : goal.shows_lead-requires-clause-from
shows_lead-requires-clause-from c = let h = subst (IsLawfulFragment c.args.sig.now) c.in-Match.is c.requires.fragment in (h.kind, h.second)

pub shows_lead-requires-clause-to : goal.shows_lead-requires-clause-to
shows_lead-requires-clause-to c = let h = subst (IsLawfulFragment c.args.sig.now) c.in-Match.is c.requires.fragment in (h.kind, h.first)

pub shows_sort-requires-clause-term : goal.shows_sort-requires-clause-term
shows_sort-requires-clause-term c = (subst (IsLawfulFragment c.args.sig.now) c.in-Sort.is c.requires.fragment).0

pub shows_sort-requires-clause-sort : goal.shows_sort-requires-clause-sort
shows_sort-requires-clause-sort c = (subst (IsLawfulFragment c.args.sig.now) c.in-Sort.is c.requires.fragment).1

pub shows_lead-requires-in-Reach-clause-from : goal.shows_lead-requires-in-Reach-clause-from
shows_lead-requires-in-Reach-clause-from c = let h = subst (IsLawfulFragment c.args.sig.now) c.in-Reach.is c.requires.fragment in (h.kind, h.first)

pub shows_lead-requires-in-Reach-clause-to : goal.shows_lead-requires-in-Reach-clause-to
shows_lead-requires-in-Reach-clause-to c = let h = subst (IsLawfulFragment c.args.sig.now) c.in-Reach.is c.requires.fragment in (h.kind, h.second)

pub returns-in-Equal-clause-plain : goal.returns-in-Equal-clause-plain
returns-in-Equal-clause-plain c = plain_extended c.args.sig.now c.args.store.now c.shows_equal.new.store c.shows_equal.ensures.extends c.args.plain.now c.requires.plain

pub returns-in-Match-clause-plain : goal.returns-in-Match-clause-plain
returns-in-Match-clause-plain c = plain_extended c.args.sig.now c.args.store.now c.shows_lead.new.store c.shows_lead.ensures.extends c.args.plain.now c.requires.plain

pub returns-in-Reach-clause-plain : goal.returns-in-Reach-clause-plain
returns-in-Reach-clause-plain c = plain_extended c.args.sig.now c.args.store.now c.shows_lead-in-Reach.new.store c.shows_lead-in-Reach.ensures.extends c.args.plain.now c.requires.plain

pub returns-in-Equal-clause-shows : goal.returns-in-Equal-clause-shows
returns-in-Equal-clause-shows c us vs said bound =
    subst (λ f. IfOk c.shows_equal.result (λ yes. IsTrue yes ↔ Shows c.args.sig.now us (value_at (variables_in c.args.values.now.variables.items) vs) f)) (sym c.in-Equal.is) (c.shows_equal.ensures.shows us vs said bound)

pub returns-in-Match-clause-shows : goal.returns-in-Match-clause-shows
returns-in-Match-clause-shows c us vs said bound =
    subst (λ f. IfOk c.shows_lead.result (λ yes. IsTrue yes ↔ Shows c.args.sig.now us (value_at (variables_in c.args.values.now.variables.items) vs) f)) (sym c.in-Match.is) (c.shows_lead.ensures.shows us vs said bound)

pub returns-in-Sort-clause-shows : goal.returns-in-Sort-clause-shows
returns-in-Sort-clause-shows c us vs said bound =
    subst (λ f. IfOk c.shows_sort.result (λ yes. IsTrue yes ↔ Shows c.args.sig.now us (value_at (variables_in c.args.values.now.variables.items) vs) f)) (sym c.in-Sort.is) (c.shows_sort.ensures.shows us vs said bound)

pub returns-in-Reach-clause-shows : goal.returns-in-Reach-clause-shows
returns-in-Reach-clause-shows c us vs said bound =
    subst (λ f. IfOk c.shows_lead-in-Reach.result (λ yes. IsTrue yes ↔ Shows c.args.sig.now us (value_at (variables_in c.args.values.now.variables.items) vs) f)) (sym c.in-Reach.is) (c.shows_lead-in-Reach.ensures.shows us vs said bound)
