-- The order of two lists of arguments: the first two numbers that are different decide, and where there are none the lengths.
use Rattle.std.proofs.Common.{◌≡◌, ◌≢◌, ◌==◌, ℕ, suc, ◌<◌, Bool, true, false, not, All, List, [], ◌∷◌, map, length, find, Option, Some, None, refl, ap, ap₂, sym, ◌∙◌, subst, eqb-true, eq-eqb, true≢false, arith, if◌then◌else◌}
use Rattle.std.specs.List.{zip}
use Rattle.std.specs.declared.cmp.Ordering.{Ordering}
use Rattle.std.specs.declared.cmp.Ordering.TheVariants.{Less, Equal, Greater}
use Rattle.std.specs.Ordering.{nat_cmp, ordering_then, MatchOrdering}
use Rattle.std.specs.Cmp.{tied_itself, ranks, nat_cmp_is, nat_cmp_total}
use Rattle.std.proofs.lemmas.List.Elements.{All-head, All-tail}
use Rattle.std.proofs.lemmas.Option.{none-some, some_pair_parts}
use Rattle.mau_terms.specs.Tree.{Tree, node, trees_of}
use Rattle.mau_terms.specs.Order.{tree_cmp, trees_cmp}
use Rattle.mau_terms.specs.declared.ids.TermId.{TermId}
use Rattle.mau_terms.proofs.Orders.{tree_total}
use Rattle.mau_store.specs.Node.{Node, IsOf, AreBelow, AreOf, AreNodes}
use Rattle.mau_store.specs.View.{numbers}
use Rattle.mau_store.specs.Trees.{tree_at}
use Rattle.mau_store.proofs.Numbers.{tied_where_one_number}

abbrev pub first_different : List TermId → List TermId → Option (TermId × TermId)
first_different ts us = find (λ p. not (p.0.0 == p.1.0)) (zip ts us)

then_untied : (a b : Ordering) → a ≢ Equal → ordering_then a b ≡ a
then_untied Less b h = refl
then_untied Equal b h = absurd (h refl)
then_untied Greater b h = refl

nat_cmp-suc : (m n : ℕ) → nat_cmp (suc m) (suc n) ≡ nat_cmp m n
nat_cmp-suc m n = sym (nat_cmp_is (suc m) (suc n) (nat_cmp m n) (by (nat_cmp m n) (ranks m n)))
  where
    by : (o : Ordering) → MatchOrdering o (m < n) (m ≡ n) (n < m) → MatchOrdering o (suc m < suc n) (suc m ≡ suc n) (suc n < suc m)
    by Less r = omega arith
    by Equal r = ap suc r
    by Greater r = omega arith

module _ (g : ℕ → Tree) where
  abbrev pub lists_cmp : List TermId → List TermId → Ordering
  lists_cmp ts us = trees_cmp (trees_of (map g (numbers ts))) (trees_of (map g (numbers us)))

  -- the order of two uses of one operator is that of their lists
  pub by_lists : (t u : Tree) (f h : ℕ) (ts us : List TermId) → t ≡ node f (map g (numbers ts)) → u ≡ node h (map g (numbers us)) → f ≡ h → tree_cmp t u ≡ lists_cmp ts us
  by_lists t u f h ts us p q e =
      ap₂ tree_cmp p q
      ∙ ap (λ i. ordering_then (nat_cmp f i) (lists_cmp ts us)) (sym e)
      ∙ ap (λ o. ordering_then o (lists_cmp ts us)) (tied_itself nat_cmp_total f)

  -- a first argument that is the same decides nothing
  same_first : (t u : TermId) (ts us : List TermId) → t.0 ≡ u.0 → lists_cmp (t ∷ ts) (u ∷ us) ≡ lists_cmp ts us
  same_first t u ts us e =
      ap (λ i. ordering_then (tree_cmp (g t.0) (g i)) (lists_cmp ts us)) (sym e)
      ∙ ap (λ o. ordering_then o (lists_cmp ts us)) (tied_itself tree_total (g t.0))

  pub none_different : (ts us : List TermId) → first_different ts us ≡ None → lists_cmp ts us ≡ nat_cmp (length ts) (length us)
  none_different [] [] e = refl
  none_different [] (u ∷ us) e = nat_cmp_is (length {A = TermId} []) (length (u ∷ us)) Less (omega arith)
  none_different (t ∷ ts) [] e = nat_cmp_is (length (t ∷ ts)) (length {A = TermId} []) Greater (omega arith)
  none_different (t ∷ ts) (u ∷ us) e = by (t.0 == u.0) refl (none_different ts us)
    where
      by : (b : Bool) → (t.0 == u.0) ≡ b → (first_different ts us ≡ None → lists_cmp ts us ≡ nat_cmp (length ts) (length us)) → lists_cmp (t ∷ ts) (u ∷ us) ≡ nat_cmp (length (t ∷ ts)) (length (u ∷ us))
      by true same on =
          same_first t u ts us (eqb-true t.0 u.0 same)
          ∙ on (ap (λ b. if not b then Some (t, u) else first_different ts us) (sym same) ∙ e)
          ∙ sym (nat_cmp-suc (length ts) (length us))
      by false other on =
          absurd (none-some (t, u) (sym (ap (λ b. if not b then Some (t, u) else first_different ts us) (sym other) ∙ e)))

  -- two different arguments, of the first and of the second list, are in the order of the lists
  pub record Decide (P Q : ℕ → Type 0) (ts us : List TermId) (t u : TermId) : Type 0 where
    pub first : P t.0
    pub second : Q u.0
    pub different : t.0 ≢ u.0
    pub order : lists_cmp ts us ≡ tree_cmp (g t.0) (g u.0)

  module _ (P Q : ℕ → Type 0) (untied : (i j : ℕ) → P i → Q j → i ≢ j → tree_cmp (g i) (g j) ≢ Equal) where
    some_different : (ts us : List TermId) (t u : TermId) → All P (numbers ts) → All Q (numbers us) → first_different ts us ≡ Some (t, u) → Decide P Q ts us t u
    some_different [] us t u p q e = absurd (cc)
    some_different (v ∷ ts) [] t u p q e = absurd (cc)
    some_different (v ∷ ts) (w ∷ us) t u p q e =
        by (v.0 == w.0) refl (some_different ts us t u (All-tail P v.0 (numbers ts) p) (All-tail Q w.0 (numbers us) q))
      where
        by : (b : Bool) → (v.0 == w.0) ≡ b → (first_different ts us ≡ Some (t, u) → Decide P Q ts us t u) → Decide P Q (v ∷ ts) (w ∷ us) t u
        by true same on =
            let r = on (ap (λ b. if not b then Some (v, w) else first_different ts us) (sym same) ∙ e) in
            record {
              first = r.first;
              second = r.second;
              different = r.different;
              order = same_first v w ts us (eqb-true v.0 w.0 same) ∙ r.order;
            }
        by false other on =
            let found : Some (v, w) ≡ Some (t, u) = ap (λ b. if not b then Some (v, w) else first_different ts us) (sym other) ∙ e in
            let both : (v ≡ t) × (w ≡ u) = some_pair_parts v t w u found in
            let left : v.0 ≡ t.0 = ap (λ x. x.0) both.0 in
            let right : w.0 ≡ u.0 = ap (λ x. x.0) both.1 in
            let a : P v.0 = All-head P v.0 (numbers ts) p in
            let b : Q w.0 = All-head Q w.0 (numbers us) q in
            let differ : v.0 ≢ w.0 = λ s. true≢false (sym (eq-eqb v.0 w.0 s) ∙ other) in
            let whole : lists_cmp (v ∷ ts) (w ∷ us) ≡ tree_cmp (g v.0) (g w.0) = then_untied (tree_cmp (g v.0) (g w.0)) (lists_cmp ts us) (untied v.0 w.0 a b differ) in
            record {
              first = subst P left a;
              second = subst Q right b;
              different = λ s. differ (left ∙ s ∙ sym right);
              order = whole ∙ ap₂ (λ x y. tree_cmp (g x) (g y)) left right;
            }

-- a number of the store below n
abbrev pub IsOfBelow : List Node → ℕ → ℕ → Type 0
IsOfBelow nodes n i = (i < n) × IsOf nodes i

-- the same of the terms of a store, where the lists are the arguments of a and b
pub decided : (nodes : List Node) → AreNodes nodes → (a b : ℕ) (ts us : List TermId) (t u : TermId) → AreBelow a (numbers ts) → AreOf nodes (numbers ts) → AreBelow b (numbers us) → AreOf nodes (numbers us) → Some (t, u) ≡ first_different ts us → Decide (tree_at nodes) (IsOfBelow nodes a) (IsOfBelow nodes b) ts us t u
decided nodes are a b ts us t u x x' y y' e =
    some_different (tree_at nodes) (IsOfBelow nodes a) (IsOfBelow nodes b)
    (λ i j h k ne tied. ne ((tied_where_one_number nodes are i j h.1 k.1).0 tied))
    ts us t u (λ k d h. (x k d h, x' k d h)) (λ k d h. (y k d h, y' k d h)) (sym e)
