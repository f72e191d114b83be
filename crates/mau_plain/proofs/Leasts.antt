-- The least of some lists of values, one after another.
use Rattle.std.proofs.Common.{◌≡◌, ◌<◌, ℕ, suc, List, [], Option, Contains, ⊎_elim, length, take, get_or, ap, ◌∙◌, subst}
use Rattle.std.specs.Cmp.{IsTotalOrder, on_total}
use Rattle.std.specs.Ordering.{ordering_reverse}
use Rattle.std.specs.declared.cmp.Ordering.TheVariants.{Less, Greater}
use Rattle.std.proofs.lemmas.Cmp.{lists_total}
use Rattle.mau_terms.specs.Solution.{value_keys}
use Rattle.mau_terms.specs.declared.ids.TermId.{TermId}
use Rattle.mau_terms.specs.declared.theory.Theory.{Theory}
use Rattle.mau_terms.proofs.Orders.{tree_total}
use Rattle.mau_store.specs.Node.{Node}
use Rattle.mau_store.specs.Trees.{trees_at}
use Rattle.mau_store.specs.View.{numbers}
use Rattle.mau_plain.specs.Least.{values_cmp, IsLeastOf}
use Rattle.mau_plain.proofs.Gathering.{contains_more}

module _ (th : ℕ → Theory) (os : List (Option ℕ)) (nodes : List Node) where
  pub values_total : IsTotalOrder (values_cmp th os nodes)
  values_total = on_total (λ vs. value_keys th os (trees_at nodes (numbers vs))) (lists_total (lists_total tree_total))

  back : (vs ws : List TermId) → values_cmp th os nodes vs ws ≡ Greater → values_cmp th os nodes ws vs ≡ Less
  back vs ws e = values_total.antisymm ws vs ∙ ap ordering_reverse e

  -- a list that comes before the least one is the least
  pub least_taken : (ls : List (List TermId)) (i : ℕ) (best : List TermId) → i < length ls → IsLeastOf th os nodes (take i ls) best → values_cmp th os nodes (get_or ls i []) best ≡ Less
      → IsLeastOf th os nodes (take (suc i) ls) (get_or ls i [])
  least_taken ls i best low least before ws there e =
      let x = get_or ls i [] in
      ⊎_elim
      (λ (c : Contains (take i ls) ws).
      let less : values_cmp th os nodes ws best ≡ Less = values_total.trans ws x best (back x ws e) before in
      least ws c (values_total.antisymm best ws ∙ ap ordering_reverse less))
      (λ (same : ws ≡ x).
      let g : values_cmp th os nodes x x ≡ Greater = subst (λ y. values_cmp th os nodes x y ≡ Greater) same e in
      let l : values_cmp th os nodes x x ≡ Less = back x x g in
      absurd (cc))
      (contains_more ls i [] ws low there)

  -- and one that does not leaves it the least
  pub least_kept : (ls : List (List TermId)) (i : ℕ) (best : List TermId) → i < length ls → IsLeastOf th os nodes (take i ls) best → (values_cmp th os nodes (get_or ls i []) best ≡ Less → ⊥)
      → IsLeastOf th os nodes (take (suc i) ls) best
  least_kept ls i best low least other ws there e =
      ⊎_elim
      (λ (c : Contains (take i ls) ws). least ws c e)
      (λ (same : ws ≡ get_or ls i []). other (back best (get_or ls i []) (subst (λ y. values_cmp th os nodes best y ≡ Greater) same e)))
      (contains_more ls i [] ws low there)
