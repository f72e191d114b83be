-- Instances by values that are bare terms of the kinds of their variables, and contexts that are filled.
use Rattle.std.proofs.Common.{◌≡◌, ℕ, List, [], ◌∷◌, ◌++◌, map, Bool, true, false, ◌==◌, inl, inr, ◌⊎◌, refl, sym, ap, ◌∙◌, subst, if◌then◌else◌}
use Rattle.mau_terms.specs.Tree.{Tree, variable, numeral, apply, Trees, no_trees, tree}
use Rattle.mau_terms.specs.Norm.{norm}
use Rattle.mau_terms.specs.Bare.{TermSignature, IsBareIn, AreBareIn}
use Rattle.mau_terms.specs.Subst.{Variable, same_variable, value_at, instance, instances}
use Rattle.mau_terms.specs.Solution.{HaveSorts}
use Rattle.mau_terms.specs.declared.theory.Theory.{Theory}
use Rattle.mau_terms.proofs.Variables.{same-is}
use Rattle.mau_api.specs.Terms.{hole_index, filler, fill, holes, holes_in}

-- ---- values of the kinds of their variables

-- a variable has a value of its kind, or stands for itself
abbrev pub HasValue : TermSignature → (Variable → Tree) → Variable → Type 0
HasValue s g x = IsBareIn s (g x) (s.kind_of x.1) ⊎ (g x ≡ variable x.0 x.1)

module _ (s : TermSignature) where
  module _ (g : Variable → Tree) (values : (x : Variable) → HasValue s g x) where
    mutual
      pub instance_in : (t : Tree) (k : ℕ) → IsBareIn s t k → IsBareIn s (instance g t) k
      instance_in (variable i r) k b = by (values (i, r))
        where
          by : HasValue s g (i, r) → IsBareIn s (g (i, r)) k
          by (inl c) = subst (IsBareIn s (g (i, r))) b.2 c
          by (inr e) = subst (λ t. IsBareIn s t k) (sym e) b
      instance_in (numeral n) k b = b
      instance_in (apply f ts) k b = (b.0, b.1, instances_in ts (s.arguments f) b.2)

      instances_in : (ts : Trees) (ks : List ℕ) → AreBareIn s ts ks → AreBareIn s (instances g ts) ks
      instances_in no_trees [] b = b
      instances_in no_trees (k ∷ ks) b = b
      instances_in (tree t ts) [] b = b
      instances_in (tree t ts) (k ∷ ks) b = (instance_in t k b.0, instances_in ts ks b.1)

  pub have_values : (xs : List Variable) (vs : List Tree) → HaveSorts (λ r v. IsBareIn s v (s.kind_of r)) xs vs → (x : Variable) → HasValue s (value_at xs vs) x
  have_values [] vs h x = inr refl
  have_values (y ∷ ys) [] h x = absurd h
  have_values (y ∷ ys) (v ∷ vs) h x = by (have_values ys vs h.1 x) (same_variable y x) refl
    where
      by : HasValue s (value_at ys vs) x → (b : Bool) → same_variable y x ≡ b → IsBareIn s (if b then v else value_at ys vs x) (s.kind_of x.1) ⊎ ((if b then v else value_at ys vs x) ≡ variable x.0 x.1)
      by later true e = inl (subst (λ (z : Variable). IsBareIn s v (s.kind_of z.1)) (same-is y x e) h.0)
      by later false e = later

  -- ---- contexts

  -- all of some kinds are k
  abbrev pub AreAll : ℕ → List ℕ → Type 0
  AreAll k [] = Unit {0}
  AreAll k (m ∷ ms) = (m ≡ k) × AreAll k ms

  all_left : (k : ℕ) (ms ns : List ℕ) → AreAll k (ms ++ ns) → AreAll k ms
  all_left k [] ns h = tt
  all_left k (m ∷ ms) ns h = (h.0, all_left k ms ns h.1)

  all_right : (k : ℕ) (ms ns : List ℕ) → AreAll k (ms ++ ns) → AreAll k ns
  all_right k [] ns h = h
  all_right k (m ∷ ms) ns h = all_right k ms ns h.1

  -- a term of the kind k, which is a kind, in place of each hole of the kind k
  module _ (u : Tree) (k : ℕ) (bare : IsBareIn s u k) (kind : s.kind_of k ≡ k) where
    mutual
      pub fill_in : (c : Tree) (j : ℕ) → AreAll k (holes c) → IsBareIn s c j → IsBareIn s (fill c u) j
      fill_in (variable i r) j h b = by (i == hole_index) h
        where
          by : (o : Bool) → AreAll k (if o then r ∷ [] else []) → IsBareIn s (if o then u else variable i r) j
          by true w = subst (IsBareIn s u) (sym kind ∙ ap s.kind_of (sym w.0) ∙ b.2) bare
          by false w = b
      fill_in (numeral n) j h b = b
      fill_in (apply f cs) j h b = (b.0, b.1, fills_in cs (s.arguments f) h b.2)

      fills_in : (cs : Trees) (js : List ℕ) → AreAll k (holes_in cs) → AreBareIn s cs js → AreBareIn s (instances (filler u) cs) js
      fills_in no_trees [] h b = b
      fills_in no_trees (j ∷ js) h b = b
      fills_in (tree c cs) [] h b = b
      fills_in (tree c cs) (j ∷ js) h b = (fill_in c j (all_left k (holes c) (holes_in cs) h) b.0, fills_in cs js (all_right k (holes c) (holes_in cs) h) b.1)

-- ---- normal forms

-- what is equal in a hole gives what is equal
pub filler_norms : (th : ℕ → Theory) (u v : Tree) → norm th u ≡ norm th v → (x : Variable) → norm th (filler u x) ≡ norm th (filler v x)
filler_norms th u v e x = by (x.0 == hole_index)
  where
    by : (o : Bool) → norm th (if o then u else variable x.0 x.1) ≡ norm th (if o then v else variable x.0 x.1)
    by true = e
    by false = refl

-- the values of equal values are equal
pub value_norms : (th : ℕ → Theory) (xs : List Variable) (vs ws : List Tree) → map (norm th) vs ≡ map (norm th) ws → (x : Variable) → norm th (value_at xs vs x) ≡ norm th (value_at xs ws x)
value_norms th [] vs ws e x = refl
value_norms th (y ∷ ys) [] [] e x = refl
value_norms th (y ∷ ys) [] (w ∷ ws) e x = cc
value_norms th (y ∷ ys) (v ∷ vs) [] e x = cc
value_norms th (y ∷ ys) (v ∷ vs) (w ∷ ws) e x =
    let first : norm th v ≡ norm th w = cc in
    let rest : map (norm th) vs ≡ map (norm th) ws = cc in
    by first (value_norms th ys vs ws rest x) (same_variable y x)
  where
    by : norm th v ≡ norm th w → norm th (value_at ys vs x) ≡ norm th (value_at ys ws x) → (b : Bool) → norm th (if b then v else value_at ys vs x) ≡ norm th (if b then w else value_at ys ws x)
    by first later true = first
    by first later false = later
