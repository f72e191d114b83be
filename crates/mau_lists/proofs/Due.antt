-- What is computed of ids stands for the next list of terms.
use Rattle.std.proofs.Common.{◌≡◌, ℕ, List, [], ◌∷◌, map, Option, Some, None, refl, sym, ◌∙◌, ap, ap₂, subst}
use Rattle.std.specs.Option.{option_map}
use Rattle.mau_terms.specs.Tree.{Tree}
use Rattle.mau_terms.specs.Order.{tree_cmp}
use Rattle.mau_terms.specs.declared.ids.TermId.{TermId}
use Rattle.mau_store.specs.Node.{Node}
use Rattle.mau_store.specs.View.{numbers}
use Rattle.mau_store.specs.Trees.{tree_at, trees_at}
use Rattle.mau_lists.specs.Lists.{IsSubList, IsPart, IsNextOrEnd}
use Rattle.mau_lists.specs.Terms.{IsBefore, AreSorted, by_tree, IsNextSubList, IsNextPart}
use Rattle.mau_lists.specs.Following.{next_sub_list, next_part, cut}
use Rattle.mau_lists.specs.Place.{IsDueAfter, IsStep}
use Rattle.mau_lists.proofs.Following.{is_next_sub_list, is_next_part}
use Rattle.mau_lists.proofs.Trees.{irrefl, chain, ranks, ascending_sorted}
use Rattle.mau_lists.proofs.Keyed.{next_sub_list-keys, next_part-keys}

module _ (nodes : List Node) where
  abbrev term : TermId → Tree
  term id = tree_at nodes id.0

  terms : (ids : List TermId) → map term ids ≡ trees_at nodes (numbers ids)
  terms [] = refl
  terms (id ∷ ids) = ap (λ ts. tree_at nodes id.0 ∷ ts) (terms ids)

  due_terms : (o : Option (List TermId)) → option_map (trees_at nodes) (option_map numbers o) ≡ option_map (map term) o
  due_terms None = refl
  due_terms (Some ids) = ap Some (sym (terms ids))

  module _ (items list : List TermId) (o : Option (List TermId)) where
    pub next_sub_list_due : AreSorted nodes (numbers items) → o ≡ next_sub_list (by_tree nodes) list items → IsNextSubList nodes (numbers items) (numbers list) (option_map numbers o)
    next_sub_list_due sorted e =
        let ts = trees_at nodes (numbers list) in
        let us = trees_at nodes (numbers items) in
        let computed : option_map (trees_at nodes) (option_map numbers o) ≡ next_sub_list tree_cmp ts us =
        due_terms o
        ∙ ap (option_map (map term)) e
        ∙ next_sub_list-keys term tree_cmp list items
        ∙ ap₂ (λ xs ys. next_sub_list tree_cmp xs ys) (terms list) (terms items) in
        subst (IsNextOrEnd IsBefore (λ vs. IsSubList vs us) ts) (sym computed) (is_next_sub_list IsBefore irrefl chain tree_cmp ranks ts us (ascending_sorted us sorted))

    pub next_part_due : o ≡ next_part (by_tree nodes) list items → IsNextPart nodes (numbers items) (numbers list) (option_map numbers o)
    next_part_due e =
        let ts = trees_at nodes (numbers list) in
        let us = trees_at nodes (numbers items) in
        let computed : option_map (trees_at nodes) (option_map numbers o) ≡ next_part tree_cmp ts us =
        due_terms o
        ∙ ap (option_map (map term)) e
        ∙ next_part-keys term tree_cmp list items
        ∙ ap₂ (λ xs ys. next_part tree_cmp xs ys) (terms list) (terms items) in
        subst (IsNextOrEnd IsBefore (λ vs. IsPart vs us) ts) (sym computed) (is_next_part IsBefore irrefl chain tree_cmp ranks ts us)

  -- ---- one step of a listing

  pub sub_lists_step : (items given : List TermId) (due new : Option (List TermId)) → AreSorted nodes (numbers items) → due ≡ Some given → new ≡ next_sub_list (by_tree nodes) given items
      → IsStep (IsNextSubList nodes) (record { items = numbers items; due = option_map numbers due }) (record { items = numbers items; due = option_map numbers new })
  sub_lists_step items given due new sorted e n =
      let D : Option (List TermId) → Type 0 = λ o. IsDueAfter (IsNextSubList nodes) (numbers items) (option_map numbers o) (option_map numbers new) in
      record { items = refl; due = subst D (sym e) (next_sub_list_due items given new sorted n) }

  pub parts_step : (items given : List TermId) (due new : Option (ℕ × ℕ)) → cut items due ≡ Some given → next_part (by_tree nodes) given items ≡ cut items new
      → IsStep (IsNextPart nodes) (record { items = numbers items; due = option_map numbers (cut items due) }) (record { items = numbers items; due = option_map numbers (cut items new) })
  parts_step items given due new e n =
      let D : Option (List TermId) → Type 0 = λ o. IsDueAfter (IsNextPart nodes) (numbers items) (option_map numbers o) (option_map numbers (cut items new)) in
      record { items = refl; due = subst D (sym e) (next_part_due items given (cut items new) (sym n)) }
