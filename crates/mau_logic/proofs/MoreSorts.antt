-- What more facts tell of sorts is no less.
use Rattle.std.proofs.Common.{◌≡◌, ℕ, zero, suc, List, [], ◌∷◌, Bool, true, false, ◌⊎◌, inl, inr, refl, ap, ◌∙◌, subst, arith}
use Rattle.std.specs.Prelude.{Contains}
use Rattle.std.specs.Bool.{MatchBool}
use Rattle.std.proofs.lemmas.List.Elements.{Contains-append_left, Contains-append_right, Contains-append_cases}
use Rattle.mau_terms.specs.Tree.{Tree, variable, numeral, apply, Trees, no_trees, tree}
use Rattle.mau_terms.specs.Norm.{norm}
use Rattle.mau_signature.specs.declared.decl.Decl.{Decl}
use Rattle.mau_signature.specs.Signature.{SignatureOf, theory_at}
use Rattle.mau_sorts.specs.HasSort.{Known, IsKnown, Suits, Gives, OfTwo, HasSort, AllHave, ListHas}
use Rattle.mau_logic.specs.Says.{Says, leads, of_sort, says_nothing}
use Rattle.mau_logic.specs.Shown.{known_by, HasSortBy}

suits_more : (P Q : List ℕ → Type 0) (d : Decl) → ((rs : List ℕ) → P rs → Q rs) → Suits P d → Suits Q d
suits_more P Q d i (inl h) = inl (i _ h)
suits_more P Q d i (inr h) = inr (h.0, i _ h.1)

gives_more : (s : SignatureOf) (f : ℕ) (P Q : List ℕ → Type 0) (r : ℕ) → ((rs : List ℕ) → P rs → Q rs) → Gives s f P r → Gives s f Q r
gives_more s f P Q r i (inl h) = inl (record { declaration = h.declaration; declared = h.declared; suits = suits_more P Q h.declaration i h.suits; below = h.below })
gives_more s f P Q r i (inr h) = inr h

match_more : (b : Bool) (A B C D : Type 0) → (A → B) → (C → D) → MatchBool b A C → MatchBool b B D
match_more true A B C D f g h = f h
match_more false A B C D f g h = g h

two_more : (P Q : ℕ → ℕ → Type 0) → ((a b : ℕ) → P a b → Q a b) → (rs : List ℕ) → OfTwo P rs → OfTwo Q rs
two_more P Q i [] h = h
two_more P Q i (a ∷ []) h = h
two_more P Q i (a ∷ b ∷ []) h = i a b h
two_more P Q i (a ∷ b ∷ c ∷ rs) h = h

module _ (s : SignatureOf) (known more : Known) (i : (x : Tree × ℕ) → Contains known x → Contains more x) where
  known_more : (t : Tree) (r : ℕ) → IsKnown s.hierarchy known t r → IsKnown s.hierarchy more t r
  known_more t r k = (k.0, i _ k.1, k.2)

  mutual
    pub has_more : (t : Tree) (r : ℕ) → HasSort s known t r → HasSort s more t r
    has_more (variable n p) r (inl h) = inl h
    has_more (variable n p) r (inr k) = inr (known_more _ r k)
    has_more (numeral n) r (inl h) = inl h
    has_more (numeral n) r (inr k) = inr (known_more _ r k)
    has_more (apply f ts) r (inl h) =
        inl (match_more (theory_at s f).assoc _ _ _ _ (list_more f ts r) (gives_more s f (AllHave s known ts) (AllHave s more ts) r (all_more ts)) h)
    has_more (apply f ts) r (inr k) = inr (known_more _ r k)

    all_more : (ts : Trees) (rs : List ℕ) → AllHave s known ts rs → AllHave s more ts rs
    all_more no_trees [] h = h
    all_more no_trees (r ∷ rs) h = h
    all_more (tree t ts) [] h = h
    all_more (tree t ts) (r ∷ rs) h = (has_more t r h.0, all_more ts rs h.1)

    list_more : (f : ℕ) (ts : Trees) (r : ℕ) → ListHas s known f ts r → ListHas s more f ts r
    list_more f no_trees r h = h
    list_more f (tree t no_trees) r h = has_more t r h
    list_more f (tree t (tree u us)) r h =
        gives_more s f (λ rs. OfTwo (λ a b. HasSort s known t a × ListHas s known f (tree u us) b) rs) (λ rs. OfTwo (λ a b. HasSort s more t a × ListHas s more f (tree u us) b) rs) r
        (two_more (λ a b. HasSort s known t a × ListHas s known f (tree u us) b) (λ a b. HasSort s more t a × ListHas s more f (tree u us) b) (λ a b k. (has_more t a k.0, list_more f (tree u us) b k.1))) h

-- ---- what facts tell

first_is : {A : Type 0} (x y : A) → Contains (x ∷ []) y → x ≡ y
first_is x y (zero, l, e) = e
first_is x y (suc k, l, e) = absurd (omega arith)

module _ (s : SignatureOf) where
  -- a sort that is told is told by a fact
  pub told_by : (us : List Says) (k : Tree × ℕ) → Contains (known_by s us) k → (t : Tree) × (r : ℕ) × Contains us (of_sort t r) × ((norm (theory_at s) t, r) ≡ k)
  told_by [] k c = absurd (let q = c.1 in omega arith)
  told_by (of_sort t r ∷ us) k c = by (Contains-append_cases ((norm (theory_at s) t, r) ∷ []) (known_by s us) k c) (λ m. told_by us k m)
    where
      by : Contains ((norm (theory_at s) t, r) ∷ []) k ⊎ Contains (known_by s us) k → (Contains (known_by s us) k → (v : Tree) × (q : ℕ) × Contains us (of_sort v q) × ((norm (theory_at s) v, q) ≡ k))
          → (v : Tree) × (q : ℕ) × Contains (of_sort t r ∷ us) (of_sort v q) × ((norm (theory_at s) v, q) ≡ k)
      by (inl m) g = (t, r, Contains-append_left (of_sort t r ∷ []) us (of_sort t r) (0, omega arith, refl), first_is _ k m)
      by (inr m) g = let p = g m in (p.0, p.1, Contains-append_right (of_sort t r ∷ []) us _ p.2, p.3)
  told_by (leads e t u ∷ us) k c = let p = told_by us k c in (p.0, p.1, Contains-append_right (leads e t u ∷ []) us _ p.2, p.3)
  told_by (says_nothing ∷ us) k c = let p = told_by us k c in (p.0, p.1, Contains-append_right (says_nothing ∷ []) us _ p.2, p.3)

  tells : (us : List Says) (t : Tree) (r : ℕ) → Contains us (of_sort t r) → Contains (known_by s us) (norm (theory_at s) t, r)
  tells [] t r c = absurd (let q = c.1 in omega arith)
  tells (x ∷ us) t r c = by x (Contains-append_cases (x ∷ []) us (of_sort t r) c) (λ m. tells us t r m)
    where
      by : (x : Says) → Contains (x ∷ []) (of_sort t r) ⊎ Contains us (of_sort t r) → (Contains us (of_sort t r) → Contains (known_by s us) (norm (theory_at s) t, r)) → Contains (known_by s (x ∷ us)) (norm (theory_at s) t, r)
      by (of_sort v q) (inl m) g =
          let e = first_is (of_sort v q) (of_sort t r) m in
          let tr : v ≡ t = cc in
          let rr : q ≡ r = cc in
          Contains-append_left ((norm (theory_at s) v, q) ∷ []) (known_by s us) _ (0, omega arith, ap (λ w. (norm (theory_at s) w, q)) tr ∙ ap (λ w. (norm (theory_at s) t, w)) rr)
      by (of_sort v q) (inr m) g = Contains-append_right ((norm (theory_at s) v, q) ∷ []) (known_by s us) _ (g m)
      by (leads e v u) (inl m) g = absurd (let d = first_is (leads e v u) (of_sort t r) m in cc)
      by (leads e v u) (inr m) g = g m
      by says_nothing (inl m) g = absurd (let d = first_is says_nothing (of_sort t r) m in cc)
      by says_nothing (inr m) g = g m

  pub more_sorts : (us ws : List Says) (r : ℕ) (t : Tree) → ((x : Says) → Contains us x → Contains ws x) → HasSortBy s us r t → HasSortBy s ws r t
  more_sorts us ws r t i h =
      has_more s (known_by s us) (known_by s ws) (λ k c. let p = told_by us k c in subst (λ (z : Tree × ℕ). Contains (known_by s ws) z) p.3 (tells ws p.0 p.1 (i _ p.2))) (norm (theory_at s) t) r h
