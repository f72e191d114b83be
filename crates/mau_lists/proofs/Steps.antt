-- One step of each loop: what the rest of the lists gives, when one more item is looked at.
use Rattle.std.proofs.Common.{◌≡◌, ℕ, ◌+◌, ◌<◌, List, [], ◌∷◌, ◌++◌, length, slice_index_or, take, drop, Option, Some, None, refl, sym, ◌∙◌, ap, append_assoc}
use Rattle.std.specs.declared.cmp.Ordering.{Ordering}
use Rattle.std.specs.declared.cmp.Ordering.TheVariants.{Less, Equal, Greater}
use Rattle.std.specs.Ordering.{ordering_then}
use Rattle.std.specs.Cmp.Lexicographic.{slice_cmp}
use Rattle.std.proofs.lemmas.List.{take_more, drop_more}
use Rattle.mau_lists.specs.Following.{choose, first_above, or_else, alone, after_front, next_sub_list, next_front, next_part, least_of, replaced, fallen}

module _ {A : Type 0} (cmp : A → A → Ordering) (d : A) where
  -- ---- the first element above x

  module _ (x : A) (xs : List A) (i : ℕ) (h : i < length xs) where
    above_at : (o : Ordering) → cmp x (slice_index_or xs i d) ≡ o → first_above cmp x (drop i xs) ≡ choose o (Some (slice_index_or xs i d)) (first_above cmp x (drop (i + 1) xs)) (first_above cmp x (drop (i + 1) xs))
    above_at o e =
        ap (first_above cmp x) (drop_more xs i d h)
        ∙ ap (λ w. choose w (Some (slice_index_or xs i d)) (first_above cmp x (drop (i + 1) xs)) (first_above cmp x (drop (i + 1) xs))) e

    pub above_here : cmp x (slice_index_or xs i d) ≡ Less → first_above cmp x (drop i xs) ≡ Some (slice_index_or xs i d)
    above_here e = above_at Less e

    pub above_later : (o : Ordering) → cmp x (slice_index_or xs i d) ≡ o → (o ≡ Less → ⊥) → first_above cmp x (drop i xs) ≡ first_above cmp x (drop (i + 1) xs)
    above_later Less e n = absurd (n refl)
    above_later Equal e n = above_at Equal e
    above_later Greater e n = above_at Greater e

  -- ---- the next sub-list

  -- what is found where so much of the last one was met, and i items were seen
  abbrev pub found : List A → List A → ℕ → ℕ → Option (ℕ × A) → Option (List A)
  found last items depth i best = or_else (after_front (take depth last) (next_sub_list cmp (drop depth last) (drop i items))) (replaced last best)

  module _ (last items : List A) (depth i : ℕ) (best : Option (ℕ × A)) (h : i < length items) where
    -- the rest of the last list against the item
    against : List A → Option (List A)
    against rest = or_else (after_front (take depth last) (next_sub_list cmp rest (slice_index_or items i d ∷ drop (i + 1) items))) (replaced last best)

    seen : found last items depth i best ≡ against (drop depth last)
    unfolding against
    seen = ap (λ w. or_else (after_front (take depth last) (next_sub_list cmp (drop depth last) w)) (replaced last best)) (drop_more items i d h)

    pub past_last : drop depth last ≡ [] → found last items depth i best ≡ replaced last (Some (depth, slice_index_or items i d))
    unfolding against
    past_last e = seen ∙ ap against e

    module _ (l : depth < length last) where
      with_order : (o : Ordering) → cmp (slice_index_or last depth d) (slice_index_or items i d) ≡ o → found last items depth i best ≡ or_else (after_front (take depth last) (choose o
          (Some (slice_index_or items i d ∷ []))
          (or_else (after_front (slice_index_or last depth d ∷ []) (next_sub_list cmp (drop (depth + 1) last) (drop (i + 1) items))) (alone (first_above cmp (slice_index_or last depth d) (drop (i + 1) items))))
          (next_sub_list cmp (slice_index_or last depth d ∷ drop (depth + 1) last) (drop (i + 1) items)))) (replaced last best)
      unfolding against
      with_order o e =
          seen
          ∙ ap against (drop_more last depth d l)
          ∙ ap (λ w. or_else (after_front (take depth last) (choose w
          (Some (slice_index_or items i d ∷ []))
          (or_else (after_front (slice_index_or last depth d ∷ []) (next_sub_list cmp (drop (depth + 1) last) (drop (i + 1) items))) (alone (first_above cmp (slice_index_or last depth d) (drop (i + 1) items))))
          (next_sub_list cmp (slice_index_or last depth d ∷ drop (depth + 1) last) (drop (i + 1) items)))) (replaced last best)) e

      pub item_above : cmp (slice_index_or last depth d) (slice_index_or items i d) ≡ Less → found last items depth i best ≡ replaced last (Some (depth, slice_index_or items i d))
      item_above e = with_order Less e

      pub item_below : cmp (slice_index_or last depth d) (slice_index_or items i d) ≡ Greater → found last items depth i best ≡ found last items depth (i + 1) best
      item_below e =
          with_order Greater e
          ∙ sym (ap (λ w. or_else (after_front (take depth last) (next_sub_list cmp w (drop (i + 1) items))) (replaced last best)) (drop_more last depth d l))

      regroup : (x : A) (ts : List A) (n f b : Option (List A)) → or_else (after_front ts (or_else (after_front (x ∷ []) n) f)) b ≡ or_else (after_front (ts ++ x ∷ []) n) (or_else (after_front ts f) b)
      regroup x ts None f b = refl
      regroup x ts (Some s) f b = ap Some (sym (append_assoc ts (x ∷ []) s))

      fall : (o : Option A) → or_else (after_front (take depth last) (alone o)) (replaced last best) ≡ replaced last (fallen depth best o)
      fall None = refl
      fall (Some z) = refl

      pub item_met : cmp (slice_index_or last depth d) (slice_index_or items i d) ≡ Equal → (above : Option A) → above ≡ first_above cmp (slice_index_or last depth d) (drop (i + 1) items) → found last items depth i best ≡ found last items (depth + 1) (i + 1) (fallen depth best above)
      item_met e above a =
          let n = next_sub_list cmp (drop (depth + 1) last) (drop (i + 1) items) in
          with_order Equal e
          ∙ regroup (slice_index_or last depth d) (take depth last) n (alone (first_above cmp (slice_index_or last depth d) (drop (i + 1) items))) (replaced last best)
          ∙ ap (λ w. or_else (after_front (take depth last ++ slice_index_or last depth d ∷ []) n) (or_else (after_front (take depth last) (alone w)) (replaced last best))) (sym a)
          ∙ ap (λ w. or_else (after_front (take depth last ++ slice_index_or last depth d ∷ []) n) w) (fall above)
          ∙ sym (ap (λ w. or_else (after_front w n) (replaced last (fallen depth best above))) (take_more last depth d l))

  -- ---- the shortest front behind a list

  abbrev pub front_found : List A → List A → ℕ → Option (List A)
  front_found last items i = after_front (take i items) (next_front cmp (drop i last) (drop i items))

  module _ (last items : List A) (i : ℕ) (h : i < length items) where
    front_seen : front_found last items i ≡ after_front (take i items) (next_front cmp (drop i last) (slice_index_or items i d ∷ drop (i + 1) items))
    front_seen = ap (λ w. after_front (take i items) (next_front cmp (drop i last) w)) (drop_more items i d h)

    pub front_past_last : drop i last ≡ [] → front_found last items i ≡ Some (take (i + 1) items)
    front_past_last e = front_seen ∙ ap (λ w. after_front (take i items) (next_front cmp w (slice_index_or items i d ∷ drop (i + 1) items))) e ∙ ap Some (sym (take_more items i d h))

    module _ (l : i < length last) where
      front_order : (o : Ordering) → cmp (slice_index_or last i d) (slice_index_or items i d) ≡ o → front_found last items i ≡ after_front (take i items) (choose o (Some (slice_index_or items i d ∷ [])) (after_front (slice_index_or items i d ∷ []) (next_front cmp (drop (i + 1) last) (drop (i + 1) items))) None)
      front_order o e =
          front_seen
          ∙ ap (λ w. after_front (take i items) (next_front cmp w (slice_index_or items i d ∷ drop (i + 1) items))) (drop_more last i d l)
          ∙ ap (λ w. after_front (take i items) (choose w (Some (slice_index_or items i d ∷ [])) (after_front (slice_index_or items i d ∷ []) (next_front cmp (drop (i + 1) last) (drop (i + 1) items))) None)) e

      pub front_above : cmp (slice_index_or last i d) (slice_index_or items i d) ≡ Less → front_found last items i ≡ Some (take (i + 1) items)
      front_above e = front_order Less e ∙ ap Some (sym (take_more items i d h))

      pub front_below : cmp (slice_index_or last i d) (slice_index_or items i d) ≡ Greater → front_found last items i ≡ None
      front_below e = front_order Greater e

      front_regroup : (x : A) (ts : List A) (n : Option (List A)) → after_front ts (after_front (x ∷ []) n) ≡ after_front (ts ++ x ∷ []) n
      front_regroup x ts None = refl
      front_regroup x ts (Some s) = ap Some (sym (append_assoc ts (x ∷ []) s))

      pub front_met : cmp (slice_index_or last i d) (slice_index_or items i d) ≡ Equal → front_found last items i ≡ front_found last items (i + 1)
      front_met e =
          let n = next_front cmp (drop (i + 1) last) (drop (i + 1) items) in
          front_order Equal e
          ∙ front_regroup (slice_index_or items i d) (take i items) n
          ∙ ap (λ w. after_front w n) (sym (take_more items i d h))

  -- ---- the next part

  pub part_step : (last items : List A) (i : ℕ) → i < length items → next_part cmp last (drop i items) ≡ least_of cmp (next_front cmp last (drop i items)) (next_part cmp last (drop (i + 1) items))
  part_step last items i h =
      ap (next_part cmp last) (drop_more items i d h)
      ∙ ap (λ w. least_of cmp (next_front cmp last w) (next_part cmp last (drop (i + 1) items))) (sym (drop_more items i d h))

  -- ---- the order of lists

  module _ (xs ys : List A) (i : ℕ) (h : i < length xs) (k : i < length ys) where
    pub pair_decides : slice_cmp cmp (drop i xs) (drop i ys) ≡ ordering_then (cmp (slice_index_or xs i d) (slice_index_or ys i d)) (slice_cmp cmp (drop (i + 1) xs) (drop (i + 1) ys))
    pair_decides = ap (slice_cmp cmp (drop i xs)) (drop_more ys i d k) ∙ ap (λ w. slice_cmp cmp w (slice_index_or ys i d ∷ drop (i + 1) ys)) (drop_more xs i d h)

    pub pair_ties : cmp (slice_index_or xs i d) (slice_index_or ys i d) ≡ Equal → slice_cmp cmp (drop i xs) (drop i ys) ≡ slice_cmp cmp (drop (i + 1) xs) (drop (i + 1) ys)
    pair_ties e = pair_decides ∙ ap (λ o. ordering_then o (slice_cmp cmp (drop (i + 1) xs) (drop (i + 1) ys))) e
