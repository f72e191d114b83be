-- Lists that begin with the same terms: what of their fronts need not be compared again.
use Rattle.std.proofs.Common.{◌≡◌, ℕ, zero, suc, ◌+◌, ◌-◌, ◌<◌, ◌≤◌, Option, Some, None, List, length, take, drop, min, slice_index_or, get_or, inl, inr, ◌⊎◌, refl, sym, ◌∙◌, ap, subst, arith, length-drop}
use borrow.Author.Count.{below_more}
use Rattle.std.proofs.lemmas.List.{get_or-drop, get_or-take, length-take}
use Rattle.std.specs.declared.cmp.Ordering.TheVariants.{Equal}
use Rattle.std.specs.Cmp.{IsTotalOrder, on_total, tied_itself}
use Rattle.std.specs.Cmp.Lexicographic.{slice_cmp}
use Rattle.mau_terms.specs.Order.{tree_cmp}
use Rattle.mau_terms.specs.declared.ids.TermId.{TermId}
use Rattle.mau_terms.proofs.Orders.{tree_total, tree_tied}
use Rattle.mau_store.specs.Node.{Node}
use Rattle.mau_store.specs.Trees.{tree_at}
use Rattle.mau_lists.specs.declared.fronts.Window.{Window}
use Rattle.mau_lists.specs.Terms.{by_tree, no_term}
use Rattle.mau_lists.specs.Following.{next_front, after_front, next_part, least_of, cut, FitsIn}
use Rattle.mau_lists.specs.Fronts.{ShareFront, BeginAlike}
use Rattle.mau_lists.proofs.Steps.{front_found, front_met, part_step, pair_ties}
use Rattle.mau_lists.proofs.Least.{least_of-assoc}

-- a part of items, by its place and length, begins as last does, but for the part's last element
abbrev pub BeginsAs : List Node → List TermId → List TermId → Option (ℕ × ℕ) → Type 0
BeginsAs nodes last items None = Unit {0}
BeginsAs nodes last items (Some p) = ShareFront nodes last (drop p.0 items) (p.1 - 1)

pub by_tree_total : (nodes : List Node) → IsTotalOrder (by_tree nodes)
by_tree_total nodes = on_total (λ x. tree_at nodes x.0) tree_total

module _ {nodes : List Node} where
  pub nothing_shared : (xs ys : List TermId) → ShareFront nodes xs ys 0
  nothing_shared xs ys = record { first = omega arith; second = omega arith; same = λ j h. absurd (omega (arith, h)) }

  pub less_shared : {xs ys : List TermId} (k m : ℕ) → ShareFront nodes xs ys m → k ≤ m → ShareFront nodes xs ys k
  less_shared k m s h = record { first = omega (arith, s.first, h); second = omega (arith, s.second, h); same = λ j l. s.same j (omega (arith, l, h)) }

  -- one more element
  pub more_shared : {xs ys : List TermId} (k : ℕ) → ShareFront nodes xs ys k → k < length xs → k < length ys → by_tree nodes (slice_index_or xs k no_term) (slice_index_or ys k no_term) ≡ Equal → ShareFront nodes xs ys (k + 1)
  more_shared {xs} {ys} k s h l e = record {
    first = omega (arith, h);
    second = omega (arith, l);
    same = below_more (λ j. tree_at nodes (slice_index_or xs j no_term).0 ≡ tree_at nodes (slice_index_or ys j no_term).0) k s.same (tree_tied _ _ e);
  }

  -- two lists that begin as a third one does begin alike
  pub shared_through : {xs ys zs : List TermId} (k m n : ℕ) → ShareFront nodes xs ys k → ShareFront nodes xs zs m → n ≤ k → n ≤ m → ShareFront nodes ys zs n
  shared_through k m n s t h l = record {
    first = omega (arith, s.second, h);
    second = omega (arith, t.second, l);
    same = λ j b. sym (s.same j (omega (arith, b, h))) ∙ t.same j (omega (arith, b, l));
  }

  -- what stands within a front stands where that front stands
  pub shared_within : (xs ys : List TermId) (from d n z k : ℕ) → ShareFront nodes xs (drop from ys) n → ShareFront nodes xs (drop d xs) z → k ≤ z → d + k ≤ n → ShareFront nodes xs (drop (from + d) ys) k
  shared_within xs ys from d n z k s t h l = record {
    first = omega (arith, t.first, h);
    second = omega (arith, s.second, l, length-drop from ys, length-drop (from + d) ys);
    same = same;
  }
    where
      term : List TermId → ℕ → ℕ
      term xs j = (slice_index_or xs j no_term).0

      same : (j : ℕ) → j < k → tree_at nodes (slice_index_or xs j no_term).0 ≡ tree_at nodes (slice_index_or (drop (from + d) ys) j no_term).0
      same j b =
          let place : from + (d + j) ≡ from + d + j = omega arith in
          t.same j (omega (arith, b, h))
          ∙ ap (λ w. tree_at nodes w.0) (get_or-drop d xs j no_term)
          ∙ s.same (d + j) (omega (arith, b, l))
          ∙ ap (λ w. tree_at nodes w.0) (get_or-drop from ys (d + j) no_term ∙ ap (λ i. get_or ys i no_term) place ∙ sym (get_or-drop (from + d) ys j no_term))

  -- the same of fronts of these lists that are long enough
  pub shared_of_fronts : (xs ys : List TermId) (k m n : ℕ) → ShareFront nodes xs ys k → k ≤ m → k ≤ n → m ≤ length xs → n ≤ length ys → ShareFront nodes (take m xs) (take n ys) k
  shared_of_fronts xs ys k m n s h l a b = record {
    first = omega (arith, length-take m xs, h, a);
    second = omega (arith, length-take n ys, l, b);
    same = λ j c. ap (λ w. tree_at nodes w.0) (get_or-take m xs j no_term (omega (arith, c, h))) ∙ s.same j c ∙ sym (ap (λ w. tree_at nodes w.0) (get_or-take n ys j no_term (omega (arith, c, l))));
  }

  tied : {xs ys : List TermId} {k : ℕ} (j : ℕ) → ShareFront nodes xs ys k → j < k → by_tree nodes (slice_index_or xs j no_term) (slice_index_or ys j no_term) ≡ Equal
  tied {xs} {ys} j s h =
      ap (λ t. tree_cmp t (tree_at nodes (slice_index_or ys j no_term).0)) (s.same j h) ∙ tied_itself tree_total (tree_at nodes (slice_index_or ys j no_term).0)

  -- what is shared is met
  pub front_shared : (xs ys : List TermId) (k : ℕ) → ShareFront nodes xs ys k → next_front (by_tree nodes) xs ys ≡ front_found (by_tree nodes) no_term xs ys k
  front_shared xs ys zero s = sym (unchanged (next_front (by_tree nodes) xs ys))
    where
      unchanged : (o : Option (List TermId)) → after_front (take 0 ys) o ≡ o
      unchanged None = refl
      unchanged (Some zs) = refl
  front_shared xs ys (suc k) s =
      let fewer = less_shared k (suc k) s (omega arith) in
      let one : k + 1 ≡ suc k = omega arith in
      front_shared xs ys k fewer
      ∙ front_met (by_tree nodes) no_term xs ys k (omega (arith, s.second)) (omega (arith, s.first)) (tied k s (omega arith))
      ∙ ap (front_found (by_tree nodes) no_term xs ys) one

  pub order_shared : (xs ys : List TermId) (k : ℕ) → ShareFront nodes xs ys k → slice_cmp (by_tree nodes) xs ys ≡ slice_cmp (by_tree nodes) (drop k xs) (drop k ys)
  order_shared xs ys zero s = refl
  order_shared xs ys (suc k) s =
      let fewer = less_shared k (suc k) s (omega arith) in
      let one : k + 1 ≡ suc k = omega arith in
      order_shared xs ys k fewer
      ∙ pair_ties (by_tree nodes) no_term xs ys k (omega (arith, s.first)) (omega (arith, s.second)) (tied k s (omega arith))
      ∙ ap (λ i. slice_cmp (by_tree nodes) (drop i xs) (drop i ys)) one

  -- ---- the best part so far

  pub best_begins : (last items : List TermId) (i m : ℕ) (best r : Option (ℕ × ℕ)) → BeginsAs nodes last items best → ShareFront nodes last (drop i items) m → (r ≡ best) ⊎ (r ≡ Some (i, m + 1)) → BeginsAs nodes last items r
  best_begins last items i m best r b s (inl e) = subst (BeginsAs nodes last items) (sym e) b
  best_begins last items i m best r b s (inr e) = subst (BeginsAs nodes last items) (sym e) (less_shared (m + 1 - 1) m s (omega arith))

  pub best_alike : (last items : List TermId) (i m : ℕ) (best : Option (ℕ × ℕ)) → BeginsAs nodes last items best → ShareFront nodes last (drop i items) m → BeginAlike nodes items i (m + 1) best
  best_alike last items i m None b s = tt
  best_alike last items i m (Some p) b s = shared_through (p.1 - 1) m (min (m + 1) p.1 - 1) b s (omega arith) (omega arith)

  -- the window that reaches further is one
  pub window_shared : (last items : List TermId) (i m : ℕ) (old new : Window) → ShareFront nodes last (drop old.from items) old.len → ShareFront nodes last (drop i items) m → (new ≡ old) ⊎ (new ≡ record { from = i; len = m }) → ShareFront nodes last (drop new.from items) new.len
  window_shared last items i m old new s t (inl e) = subst (λ w. ShareFront nodes last (drop w.from items) w.len) (sym e) s
  window_shared last items i m old new s t (inr e) = subst (λ w. ShareFront nodes last (drop w.from items) w.len) (sym e) t

pub best_fits : (items : List TermId) (i m : ℕ) (best r : Option (ℕ × ℕ)) → FitsIn items best → i + m < length items → (r ≡ best) ⊎ (r ≡ Some (i, m + 1)) → FitsIn items r
best_fits items i m best r b h (inl e) = subst (FitsIn items) (sym e) b
best_fits items i m best r b h (inr e) = subst (FitsIn items) (sym e) (let l : i + (m + 1) ≤ length items = omega arith in l)

pub window_before : (i m : ℕ) (old new : Window) → old.from ≤ i → (new ≡ old) ⊎ (new ≡ record { from = i; len = m }) → new.from ≤ i + 1
window_before i m old new h (inl e) = omega (arith, ap (λ w. w.from) e)
window_before i m old new h (inr e) = omega (arith, ap (λ w. w.from) e)

-- the best part so far, one place further
pub best_least : (nodes : List Node) (last items : List TermId) (i : ℕ) (best new : Option (ℕ × ℕ)) (front : Option (List TermId)) → i < length items → next_part (by_tree nodes) last items ≡ least_of (by_tree nodes) (cut items best) (next_part (by_tree nodes) last (drop i items)) → next_front (by_tree nodes) last (drop i items) ≡ front → cut items new ≡ least_of (by_tree nodes) (cut items best) front
    → next_part (by_tree nodes) last items ≡ least_of (by_tree nodes) (cut items new) (next_part (by_tree nodes) last (drop (i + 1) items))
best_least nodes last items i best new front h same f e =
    let rest = next_part (by_tree nodes) last (drop (i + 1) items) in
    same
    ∙ ap (least_of (by_tree nodes) (cut items best)) (part_step (by_tree nodes) no_term last items i h ∙ ap (λ o. least_of (by_tree nodes) o rest) f)
    ∙ least_of-assoc (by_tree_total nodes) (cut items best) front rest
    ∙ ap (λ o. least_of (by_tree nodes) o rest) (sym e)
