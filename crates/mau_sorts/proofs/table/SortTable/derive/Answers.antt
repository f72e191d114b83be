use Rattle.std.proofs.Common.{subst, sym, inl, inr, ⊎_elim}
use Rattle.std.specs.Prelude.{◌↔◌, ◌⊎◌}
use Rattle.mau_sorts.specs.SortSets.{IsAbove, IsIn, AreApart}
use Rattle.mau_sorts.proofs.table.SortTable.derive.Goals as goal

pub with-requires-clause-apart : goal.with-requires-clause-apart
with-requires-clause-apart c = subst (λ h. AreApart h c.in_ok-set.set.minimal) (sym c.poset.ensures.value) c.in_ok-set.ensures.apart

pub returns-clause-exact : goal.returns-clause-exact
returns-clause-exact c r =
    let with = subst (λ h. IsIn h c.in_ok-set-2.set r ↔ (IsIn h c.in_ok-set.set r ⊎ IsAbove h c.args.more.now r)) c.poset.ensures.value (c.in_ok-set-2.ensures.exact r) in
    let of = c.in_ok-set.ensures.exact r in (
      λ a. ⊎_elim (λ x. inl (of.0 x)) (λ y. inr y) (with.0 a),
      λ b. with.1 (⊎_elim (λ x. inl (of.1 x)) (λ y. inr y) b),
    )

pub returns-clause-apart : goal.returns-clause-apart
returns-clause-apart c = subst (λ h. AreApart h c.in_ok-set-2.set.minimal) c.poset.ensures.value c.in_ok-set-2.ensures.apart
