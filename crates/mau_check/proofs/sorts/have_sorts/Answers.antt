use Rattle.std.proofs.Common.{refl}
use Rattle.mau_terms.proofs.Outcomes.{IfOk-then}
use Rattle.mau_check.proofs.Tells.{told_sorts}
use Rattle.mau_check.proofs.sorts.have_sorts.Goals as goal

pub told_by-requires : goal.told_by-requires
told_by-requires c = record { told = told_sorts c.args.sig.now c.args.store.now c.args.uses.now c.requires.uses.0 c.requires.uses.1 }

pub returns-then-shown-clause-have : goal.returns-then-shown-clause-have
returns-then-shown-clause-have c us vs h k = ((λ t. c.in_ok-shown.ensures.have c.if-shown.true us vs h k), (λ g. refl))

pub returns-clause-have : goal.returns-clause-have
returns-clause-have c = IfOk-then _ _ (λ yes g us vs h k. g us vs (c.in_ok-told.ensures.told us h) k) c.all_sorted.result c.all_sorted.ensures.have
