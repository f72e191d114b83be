use Rattle.std.proofs.Common.{[], refl, sym, subst}
use Rattle.mau_terms.proofs.Outcomes.{IfOk-then}
use Rattle.mau_sorts.specs.HasSort.{HasSort}
use Rattle.mau_logic.specs.Shown.{known_by}
use Rattle.mau_check.proofs.Tells.{told_sorts, kept_over, sort_more}
use Rattle.mau_check.proofs.sorts.term_has_sort.Goals as goal

pub told_by-requires : goal.told_by-requires
told_by-requires c = record { told = told_sorts c.args.sig.now c.args.store.now c.args.uses.now c.requires.uses.0 c.requires.uses.1 }

pub has_sort-requires-clause-tree : goal.has_sort-requires-clause-tree
has_sort-requires-clause-tree c = kept_over c.args.sig.now c.operators.ensures.lawful c.args.store.now c.args.term c.requires.term.0 c.requires.term.1

pub has_sort-requires-2-clause-tree : goal.has_sort-requires-2-clause-tree
has_sort-requires-2-clause-tree c = kept_over c.args.sig.now c.operators.ensures.lawful c.args.store.now c.args.term c.requires.term.0 c.requires.term.1

pub returns-then-plainly-clause-has : goal.returns-then-plainly-clause-has
returns-then-plainly-clause-has c us t told kept = (
  (λ e. subst (λ z. HasSort c.args.sig.now (known_by c.args.sig.now us) z c.args.sort) kept.stands (sort_more c.args.sig.now us _ c.args.sort ((c.in_ok-plainly.ensures.has [] refl).0 c.if-plainly.true))),
  (λ h. refl),
)

pub returns-clause-has : goal.returns-clause-has
returns-clause-has c =
    let s = c.args.sig.now in
    IfOk-then _ _
    (λ yes g us t told kept.
    let k = g (known_by s us) (c.in_ok-told.ensures.told us told) in (
      (λ e. subst (λ z. HasSort s (known_by s us) z c.args.sort) kept.stands (k.0 e)),
      (λ h. k.1 (subst (λ z. HasSort s (known_by s us) z c.args.sort) (sym kept.stands) h)),
    ))
    c.has_sort-2.result c.has_sort-2.ensures.has
