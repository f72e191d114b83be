use Rattle.std.proofs.Common.{refl}
use Rattle.mau_terms.proofs.Outcomes.{IfOk-then}
use Rattle.mau_logic.specs.Shown.{known_by}
use Rattle.mau_check.proofs.Tells.{told_sorts}
use Rattle.mau_check.proofs.sorts.end_in_sort.Goals as goal

pub told_by-requires : goal.told_by-requires
told_by-requires c = record { told = told_sorts c.args.sig.now c.args.store.now c.args.uses.now c.requires.uses.0 c.requires.uses.1 }

pub returns-then-shown-clause-end : goal.returns-then-shown-clause-end
returns-then-shown-clause-end c us h = ((λ t. c.in_ok-shown.ensures.end c.if-shown.true us h), (λ g. refl))

pub returns-clause-end : goal.returns-clause-end
returns-clause-end c = IfOk-then _ _ (λ yes g us h. g (known_by c.args.sig.now us) (c.in_ok-told.ensures.told us h)) c.some_ends_in_sort.result c.some_ends_in_sort.ensures.end
