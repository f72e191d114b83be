-- What an answer of an evaluator says of a computation that stays the same under larger limits.
use Rattle.std.proofs.Common.{◌≡◌, ◌⊎◌, inl, inr, ◌≤◌, ◌+◌, ◌-◌, ℕ, false, refl, sym, ap, ◌∙◌, subst, arith}
use Rattle.mau_evaluation.specs.Run.{stopped, too_deep, overflowed, Outcome, done, ended, Run}
use Rattle.mau_evaluation.specs.Laws.{StaysTheSame}
use Rattle.mau_evaluation.specs.Higher.{IsHigher, IsRicher, with_more}
use Rattle.mau_evaluation.proofs.Stay.{stays_one}
use Rattle.mau_rules.specs.Known.{Item, IsCut, Leaves, cut, left_of, IsExactly, Gives, Stops, IsTooDeep, Overflows}

module _ (I : Item) {A : Type 0} (F : ℕ → ℕ → Run A) (stays : StaysTheSame F) (levels : (k k' B : ℕ) → k ≤ k' → IsHigher (F k B) (F k' B))
    (budgets : (k B B' : ℕ) → B ≤ B' → IsRicher (F k B) (F k B')) where
  -- the outcome for just the budget given, on some level
  pub record IsAt (before : ℕ) (o : Outcome A) : Type 0 where
    pub level : ℕ
    pub enough : I.least ≤ level
    pub just : I.plain → level ≡ I.least
    pub is : F level I.limit before ≡ o

  -- an outcome that is not too deep stays on more levels
  more_levels : (k k' B b : ℕ) → k ≤ k' → (o : Outcome A) → (o ≡ ended too_deep → ⊥) → F k B b ≡ o → F k' B b ≡ o
  more_levels k k' B b h o not e = by (levels k k' B h b)
    where
      by : (F k B b ≡ ended too_deep) ⊎ (F k B b ≡ F k' B b) → F k' B b ≡ o
      by (inl z) = absurd (not (sym e ∙ z))
      by (inr z) = sym z ∙ e

  fewer_levels : (k k' B b : ℕ) → k ≤ k' → (o : Outcome A) → F k' B b ≡ o → (F k B b ≡ ended too_deep) ⊎ (F k B b ≡ o)
  fewer_levels k k' B b h o e = by (levels k k' B h b)
    where
      by : (F k B b ≡ ended too_deep) ⊎ (F k B b ≡ F k' B b) → (F k B b ≡ ended too_deep) ⊎ (F k B b ≡ o)
      by (inl z) = inl z
      by (inr z) = inr (z ∙ e)

  exactly_at : (before : ℕ) (o : Outcome A) → (o ≡ ended too_deep → ⊥) → IsAt before o → IsExactly I F before o
  exactly_at before o not a = record {
    level = a.level;
    enough = a.enough;
    just = a.just;
    above = λ k h. more_levels a.level k I.limit before h o not a.is;
    below = λ k h. fewer_levels k (k + a.level) I.limit before (omega arith) o (more_levels a.level (k + a.level) I.limit before (omega arith) o not a.is);
  }

  -- with a smaller budget it is cut where it is cut, and else the same or stopped
  module _ (b before : ℕ) (h : b ≤ before) where
    same_budget : b + (before - b) ≡ before
    same_budget = omega arith

    less_budget : (F I.least I.limit b ≡ ended stopped) ⊎ (F I.least I.limit before ≡ with_more (before - b) (F I.least I.limit b))
    less_budget = by (budgets I.least I.limit I.limit (omega arith) b (before - b))
      where
        by : (F I.least I.limit b ≡ ended stopped) ⊎ (F I.least I.limit (b + (before - b)) ≡ with_more (before - b) (F I.least I.limit b)) →
            (F I.least I.limit b ≡ ended stopped) ⊎ (F I.least I.limit before ≡ with_more (before - b) (F I.least I.limit b))
        by (inl z) = inl z
        by (inr z) = inr (ap (F I.least I.limit) (sym same_budget) ∙ z)

    cut_less : IsCut (F I.least I.limit before) → IsCut (F I.least I.limit b)
    cut_less c = by less_budget
      where
        at : (o : Outcome A) → IsCut (with_more (before - b) o) → IsCut o
        at (done x r l) (inl e) = cc
        at (done x r l) (inr e) = cc
        at (ended e) k = k

        by : (F I.least I.limit b ≡ ended stopped) ⊎ (F I.least I.limit before ≡ with_more (before - b) (F I.least I.limit b)) → IsCut (F I.least I.limit b)
        by (inl z) = inr z
        by (inr z) = at (F I.least I.limit b) (subst IsCut z c)

  -- ---- a value

  module _ (before after : ℕ) (x : A) (r : ℕ) (k B c left : ℕ) (hk : I.least ≤ k) (hB : I.limit ≤ B) (hc : before ≤ c) (is : F k B c ≡ done x r left) where
    value_is : (k' B' c' : ℕ) (y : A) (q l : ℕ) → F k' B' c' ≡ done y q l → (y ≡ x) × (q ≡ r)
    value_is k' B' c' y q l e = stays_one F stays y x q r (record { level = k'; each = B'; budget = c'; left = l; comes = e }) (record { level = k; each = B; budget = c; left = left; comes = is })

    never_overflows : (b : ℕ) → b ≤ before → F I.least I.limit b ≡ ended overflowed → ⊥
    never_overflows b h e = clash (sym ((stays I.least k I.limit B b (c - b) hk hB).1 e) ∙ (ap (F k B) (omega arith) ∙ is))
      where
        clash : ended overflowed ≡ done x r left → ⊥
        clash q = cc

    pub base_gives : ((y : A) (q l : ℕ) → F I.least I.limit before ≡ done y q l → l ≤ after) → (I.uses ≡ false → (y : A) × (q : ℕ) × IsAt before (done y q after)) → Gives I F before x r after
    base_gives leaves exact = record {
      level = k;
      each = B;
      budget = c;
      left = left;
      comes = λ k' B' d h i. (stays k k' B B' c d h i).0 x r left is;
      shallow = λ B' d i. fewer_levels I.least k B' (c + d) hk (done x r (left + d)) ((stays k k B B' c d (omega arith) i).0 x r left is);
      leaves = λ b h. by b h (F I.least I.limit b) refl;
      exact = λ u. at (exact u);
    }
      where
        at : (y : A) × (q : ℕ) × IsAt before (done y q after) → IsExactly I F before (done x r after)
        at (y, q, a) = let same = value_is a.level I.limit before y q after a.is in
            subst (λ o. IsExactly I F before o) (outcome y q same.0 same.1) (exactly_at before (done y q after) (λ e. clash y q e) a)
          where
            outcome : (y : A) (q : ℕ) → y ≡ x → q ≡ r → done y q after ≡ done x r after
            outcome y q e h = cc

            clash : (y : A) (q : ℕ) → done y q after ≡ ended too_deep → ⊥
            clash y q e = cc

        enough : (b : ℕ) → b ≤ before → (y : A) (q l : ℕ) → F I.least I.limit b ≡ done y q l → l ≤ after
        enough b h y q l e =
            let e' : F I.least I.limit before ≡ done y q (l + (before - b)) = ap (F I.least I.limit) (omega arith) ∙ (stays I.least I.least I.limit I.limit b (before - b) (omega arith) (omega arith)).0 y q l e in
            let i = leaves y q (l + (before - b)) e' in
            omega arith

        by : (b : ℕ) → b ≤ before → (o : Outcome A) → F I.least I.limit b ≡ o → Leaves x r after (F I.least I.limit b)
        by b h (done y q l) e = let same = value_is I.least I.limit b y q l e in left_of l (e ∙ outcome y q l same.0 same.1) (enough b h y q l e)
          where
            outcome : (y : A) (q l : ℕ) → y ≡ x → q ≡ r → done y q l ≡ done x r l
            outcome y q l e h = cc
        by b h (ended stopped) e = cut (inr e)
        by b h (ended too_deep) e = cut (inl e)
        by b h (ended overflowed) e = absurd (never_overflows b h e)

  -- ---- ends

  pub base_stops : (before k : ℕ) → F k I.limit before ≡ ended stopped → (I.uses ≡ false → IsAt before (ended stopped)) → Stops I F before
  base_stops before k e exact = record {
    item = λ b h. cut_less b before h (fewer_levels I.least (k + I.least) I.limit before (omega arith) (ended stopped) (more_levels k (k + I.least) I.limit before (omega arith) (ended stopped) clash e));
    exact = λ u. exactly_at before (ended stopped) clash (exact u);
  }
    where
      clash : (let o : Outcome A = ended stopped in o ≡ ended too_deep) → ⊥
      clash q = cc

  pub base_deep : (before B c : ℕ) → F I.least B c ≡ ended too_deep → (I.uses ≡ false → IsAt before (ended too_deep)) → IsTooDeep I F before
  base_deep before B c e exact = record {
    each = B;
    budget = c;
    deep = λ B' d h. by B' d (budgets I.least B B' h c d);
    exact = λ u. at (exact u);
  }
    where
      clash : (let o : Outcome A = ended too_deep in o ≡ ended stopped) → ⊥
      clash q = cc

      by : (B' d : ℕ) → (F I.least B c ≡ ended stopped) ⊎ (F I.least B' (c + d) ≡ with_more d (F I.least B c)) → F I.least B' (c + d) ≡ ended too_deep
      by B' d (inl z) = absurd (clash (sym e ∙ z))
      by B' d (inr z) = z ∙ ap (with_more d) e

      same : (F I.least I.limit before ≡ ended too_deep) ⊎ (F I.least I.limit before ≡ ended too_deep) → F I.least I.limit before ≡ ended too_deep
      same (inl z) = z
      same (inr z) = z

      at : IsAt before (ended too_deep) → F I.least I.limit before ≡ ended too_deep
      at a = same (fewer_levels I.least a.level I.limit before a.enough (ended too_deep) a.is)

  pub base_overflows : (before k B c : ℕ) → F k B c ≡ ended overflowed → (I.uses ≡ false → IsAt before (ended overflowed)) → Overflows I F before
  base_overflows before k B c e exact = record {
    level = k;
    each = B;
    budget = c;
    comes = λ k' B' d h i. (stays k k' B B' c d h i).1 e;
    exact = λ u. exactly_at before (ended overflowed) clash (exact u);
  }
    where
      clash : (let o : Outcome A = ended overflowed in o ≡ ended too_deep) → ⊥
      clash q = cc
