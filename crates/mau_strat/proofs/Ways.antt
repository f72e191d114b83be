-- The way to an entry: each is a successor of the one from which it was entered.
use Rattle.std.proofs.Common.{◌≡◌, ℕ, zero, suc, ◌+◌, ◌-◌, ◌<◌, ◌≤◌, List, [], ◌∷◌, ◌++◌, length, get_or, slice_get, Some, inl, inr, refl, sym, ◌∙◌, ap, ap₂, subst, ◌⊎◌, arith, length-append}
use Rattle.std.proofs.lemmas.List.{get_or_append_left, get_or_default}
use Rattle.std.proofs.Math.Seq.{get_or-append_seam}
use Rattle.mau_evaluation.specs.Reach.{IsNextEntry}
use Rattle.mau_strat.specs.Traces.{IsWay, arrived, goes_on}
use Rattle.mau_strat.specs.Walks.{AreParents, no_parents, one_more, IsSuccessor, IsPath, IsWayTo}

some_same : (a b : ℕ) → Some a ≡ Some b → a ≡ b
some_same a b e = cc

no_place : (p : ℕ) (j : ℕ) → slice_get {X = ℕ} [] j ≡ Some p → ⊥
no_place p j e = cc

-- a place of a list with one more is one of the list, or the last
pub at_place : (xs : List ℕ) (y j p : ℕ) → slice_get (xs ++ y ∷ []) j ≡ Some p → (slice_get xs j ≡ Some p) ⊎ ((j ≡ length xs) × (p ≡ y))
at_place [] y zero p e = inr (refl, sym (some_same y p e))
at_place [] y (suc j) p e = absurd (no_place p j e)
at_place (x ∷ xs) y zero p e = inl e
at_place (x ∷ xs) y (suc j) p e = by (at_place xs y j p e)
  where
    by : (slice_get xs j ≡ Some p) ⊎ ((j ≡ length xs) × (p ≡ y)) → (slice_get (x ∷ xs) (suc j) ≡ Some p) ⊎ ((suc j ≡ length (x ∷ xs)) × (p ≡ y))
    by (inl h) = inl h
    by (inr h) = inr (ap suc h.0, h.1)

module _ (B N : ℕ → List ℕ → Type 0) where
  pub parents_count : (start : ℕ) (seen ps : List ℕ) → AreParents B N start seen ps → length seen ≡ suc (length ps)
  parents_count start seen ps no_parents = refl
  parents_count start seen ps (one_more old qs c h n) =
      let i : length old ≡ suc (length qs) = parents_count start old qs h in
      let a : length (old ++ c ∷ []) ≡ length old + 1 = length-append old (c ∷ []) in
      let b : length (qs ++ n.from ∷ []) ≡ length qs + 1 = length-append qs (n.from ∷ []) in
      omega arith

  -- the entry behind place j was entered from the one at place p
  pub record IsEnteredFrom (seen : List ℕ) (j p : ℕ) : Type 0 where
    pub earlier : p ≤ j
    pub stands : suc j < length seen
    pub successor : IsSuccessor B N (get_or seen p 0) (get_or seen (suc j) 0)

  stays : (seen : List ℕ) (c j p : ℕ) → IsEnteredFrom seen j p → IsEnteredFrom (seen ++ c ∷ []) j p
  stays seen c j p h =
      let a : length (seen ++ c ∷ []) ≡ length seen + 1 = length-append seen (c ∷ []) in
      let s : suc j < length seen = h.stands in
      let q : p ≤ j = h.earlier in
      let l : p < length seen = omega arith in
      record {
        earlier = h.earlier;
        stands = omega arith;
        successor = subst (λ x. IsSuccessor B N x (get_or (seen ++ c ∷ []) (suc j) 0)) (sym (get_or_append_left seen (c ∷ []) 0 p l)) (subst (IsSuccessor B N (get_or seen p 0)) (sym (get_or_append_left seen (c ∷ []) 0 (suc j) s)) h.successor);
      }

  newest : (seen : List ℕ) (c j p : ℕ) (n : IsNextEntry B N seen c) → suc j ≡ length seen → p ≡ n.from → IsEnteredFrom (seen ++ c ∷ []) j p
  newest seen c j p n k e =
      let a : length (seen ++ c ∷ []) ≡ length seen + 1 = length-append seen (c ∷ []) in
      let s : n.from < length seen = n.stands.0 in
      let q : p ≡ n.from = e in
      let l : p < length seen = omega arith in
      let is : get_or seen p 0 ≡ n.entry = ap (λ i. get_or seen i 0) e ∙ (get_or_default seen n.from 0 n.entry s ∙ n.stands.1) in
      let last : get_or (seen ++ c ∷ []) (suc j) 0 ≡ c = ap (λ i. get_or (seen ++ c ∷ []) i 0) k ∙ get_or-append_seam seen c [] 0 in
      record {
        earlier = omega arith;
        stands = omega arith;
        successor = subst (λ x. IsSuccessor B N x (get_or (seen ++ c ∷ []) (suc j) 0)) (sym (get_or_append_left seen (c ∷ []) 0 p l ∙ is)) (subst (IsSuccessor B N n.entry) (sym last) (n.given, n.begins));
      }

  pub entered_from : (start : ℕ) (seen ps : List ℕ) → AreParents B N start seen ps → (j p : ℕ) → slice_get ps j ≡ Some p → IsEnteredFrom seen j p
  entered_from start seen ps no_parents j p e = absurd (no_place p j e)
  entered_from start seen ps (one_more old qs c h n) j p e = by (λ i. entered_from start old qs h j p i) (at_place qs n.from j p e)
    where
      by : (slice_get qs j ≡ Some p → IsEnteredFrom old j p) → (slice_get qs j ≡ Some p) ⊎ ((j ≡ length qs) × (p ≡ n.from)) → IsEnteredFrom (old ++ c ∷ []) j p
      by f (inl i) = stays old c j p (f i)
      by f (inr i) = newest old c j p n (ap suc i.0 ∙ sym (parents_count start old qs h)) i.1

  pub parents_earlier : (start : ℕ) (seen ps : List ℕ) → AreParents B N start seen ps → (j p : ℕ) → slice_get ps j ≡ Some p → p ≤ j
  parents_earlier start seen ps h j p e = (entered_from start seen ps h j p e).earlier

  -- along the way each is a successor of the one before
  abbrev LeadsTo : List ℕ → ℕ → List ℕ → ℕ → Type 0
  LeadsTo seen p way c = (rest : List ℕ) × (way ≡ get_or seen p 0 ∷ rest) × IsPath B N (get_or seen p 0) rest c

  way_leads : (start : ℕ) (seen ps : List ℕ) → AreParents B N start seen ps → (c : ℕ) → get_or seen (length seen - 1) 0 ≡ c → (p : ℕ) (way : List ℕ) → IsWay seen ps p way → LeadsTo seen p way c
  way_leads start seen ps h c e p way (arrived j k) =
      let i : j ≡ length seen - 1 = omega arith in
      ([], refl, ap (λ m. get_or seen m 0) i ∙ e)
  way_leads start seen ps h c e p way (goes_on q j more g w) =
      let r = way_leads start seen ps h c e (suc j) more w in
      (more, refl, subst (λ xs. IsPath B N (get_or seen p 0) xs c) (sym r.1) ((entered_from start seen ps h j p g).successor, r.2))

  pub way_to : (start : ℕ) (seen ps : List ℕ) → AreParents B N start seen ps → (c : ℕ) (old : List ℕ) → seen ≡ old ++ c ∷ [] → (way : List ℕ) → IsWay seen ps 0 way → IsWayTo B N seen ps way c
  way_to start seen ps h c old e way w =
      let a : length seen ≡ length old + 1 = ap length e ∙ length-append old (c ∷ []) in
      let i : length seen - 1 ≡ length old = omega arith in
      let last : get_or seen (length seen - 1) 0 ≡ c = ap₂ (λ xs m. get_or xs m 0) e i ∙ get_or-append_seam old c [] 0 in
      let r = way_leads start seen ps h c last 0 way w in
      record { entered = w; rest = r.0; is = r.1; path = r.2 }
