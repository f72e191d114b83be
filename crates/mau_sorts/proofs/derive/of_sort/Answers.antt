use Rattle.std.proofs.Common.{◌≡◌, ◌<◌, ◌≤◌, inl, inr, ap, ◌∙◌, subst, sym, arith, ◌∷◌, ◌++◌, []}
use Rattle.std.specs.Prelude.{◌⊎◌, ◌↔◌}
use Rattle.mau_poset.specs.Order.{IsAtOrBelow}
use Rattle.mau_sorts.specs.SortSets.{IsAbove}
use Rattle.mau_sorts.proofs.Derivations.{of_sort_exact}
use Rattle.mau_sorts.proofs.derive.of_sort.Goals as goal
use Rattle.mau_sorts.proofs.derive.of_sort.Goals.{then-sort-sorts+in_ok-push, else-sort-sorts}

pub returns-clause-exact : goal.returns-clause-exact
returns-clause-exact c r =
    let ms = c.if-sort-sorts.minimal.items in
    let p = c.args.sort in
    let h = c.args.poset.now in
    let cases : ((p < h.sorts) × (ms ≡ p ∷ [])) ⊎ ((h.sorts ≤ p) × (ms ≡ [])) = elim c.if-sort-sorts.branch [
      | then-sort-sorts+in_ok-push w ↦ inl (omega (arith, w.if-sort-sorts.true, c.sorts.ensures.value), ap (λ v. v.items) w.minimal-is ∙ w.in_ok-push.ensures.items ∙ ap (λ xs. xs ++ p ∷ []) c.new-minimal.ensures.items)
      | else-sort-sorts w ↦ inr (omega (arith, w.if-sort-sorts.false, c.sorts.ensures.value), ap (λ v. v.items) w.minimal-is ∙ c.new-minimal.ensures.items)
    ] in
    subst (λ k. (IsAbove h ms r ⊎ (k ≡ r)) ↔ IsAtOrBelow h p r) (sym c.kind_of.ensures.value) (of_sort_exact h p ms c.kind_of.ensures.poset cases r)
