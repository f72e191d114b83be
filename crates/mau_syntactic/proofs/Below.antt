-- The values of a match are the subject or below it, and are determined by it.
use Rattle.std.proofs.Common.{◌≡◌, ◌⊎◌, inl, inr, ⊎_elim, ℕ, ◌<◌, ◌≤◌, List, [], ◌∷◌, All, false, ◌&&◌, map, length, refl, sym, ap, ap₂, ◌∙◌, subst, arith}
use Rattle.std.proofs.lemmas.Bool.{or_parts}
use Rattle.std.proofs.lemmas.List.Elements.{All-nil, All-cons, All-head, All-tail}
use Rattle.mau_terms.specs.Tree.{Tree, variable, numeral, apply, Trees, no_trees, tree}
use Rattle.mau_terms.specs.Depth.{depth, depths}
use Rattle.mau_terms.specs.Norm.{norm, is_greatest_numeral, holds_overflow, hold_overflow}
use Rattle.mau_terms.specs.Lawful.{AreLawful}
use Rattle.mau_terms.specs.Laws.{AreNorms}
use Rattle.mau_terms.specs.Subst.{Variable, value_at, variables, instance, instances, Occurs, OccursIn}
use Rattle.mau_terms.specs.declared.theory.Theory.{Theory}
use Rattle.mau_terms.specs.declared.ids.TermId.{TermId}
use Rattle.mau_terms.proofs.Normal.{IsNormal, AreNormal, normal_fixed}
use Rattle.mau_terms.proofs.Variables.{EachVar, variables_occur, values_of_variables}
use Rattle.mau_store.specs.Node.{Node, AreOf}
use Rattle.mau_store.specs.Trees.{tree_at, trees_at}
use Rattle.mau_store.specs.View.{numbers}
use Rattle.mau_canon.specs.Within.{IsWithin}
use Rattle.mau_canon.specs.Standing.{StandsWithin, StandWithin}
use Rattle.mau_listing.specs.Asked.{IsBelow, IsBelowOne}
use Rattle.mau_listing.proofs.Answered.{normal_is}
use Rattle.mau_syntactic.specs.Match.{IsMatch}
use Rattle.mau_syntactic.specs.Laws.{MatchIsOne, ValuesAreBelow}

-- ---- what stands at the variables of an instance

module _ (g : Variable → Tree) where
  mutual
    at_variable : (p : Tree) (x : Variable) → Occurs x p → (g x ≡ instance g p) ⊎ IsBelow (g x) (instance g p)
    at_variable (variable i s) x o = inl (ap g o)
    at_variable (numeral n) x o = absurd o
    at_variable (apply f ts) x o = inr (at_variable_of_one ts x o)

    at_variable_of_one : (ts : Trees) (x : Variable) → OccursIn x ts → IsBelowOne (g x) (instances g ts)
    at_variable_of_one no_trees x o = absurd o
    at_variable_of_one (tree t ts) x (inl o) = ⊎_elim (λ (e : g x ≡ instance g t). inl e) (λ (b : IsBelow (g x) (instance g t)). inr (inl b)) (at_variable t x o)
    at_variable_of_one (tree t ts) x (inr o) = inr (inr (at_variable_of_one ts x o))

  each_mapped : (P : Tree → Type 0) (xs : List Variable) → EachVar (λ x. P (g x)) xs → All P (map g xs)
  each_mapped P [] h = All-nil P
  each_mapped P (x ∷ xs) h = All-cons P (g x) (map g xs) h.0 (each_mapped P xs h.1)

each_then : (P Q : Variable → Type 0) → ((x : Variable) → P x → Q x) → (xs : List Variable) → EachVar P xs → EachVar Q xs
each_then P Q f [] h = tt
each_then P Q f (x ∷ xs) h = (f x h.0, each_then P Q f xs h.1)

-- what holds of the subject and of all below it holds of the values
each_value : (P : Tree → Type 0) (p t : Tree) (vs : List Tree) → IsMatch p t vs → ((u : Tree) → (u ≡ t) ⊎ IsBelow u t → P u) → All P vs
each_value P p t vs m f =
    let g = value_at (variables p) vs in
    subst (All P) (values_of_variables p vs m.one_each)
    (each_mapped g P (variables p)
    (each_then (λ x. Occurs x p) (λ x. P (g x)) (λ x o. f (g x) (subst (λ w. (g x ≡ w) ⊎ IsBelow (g x) w) m.whole (at_variable g p x o))) (variables p) (variables_occur p)))

pub values_are_below : ValuesAreBelow
values_are_below p t vs m = each_value (λ u. (u ≡ t) ⊎ IsBelow u t) p t vs m (λ u h. h)

-- ---- one match at most

module _ (g h : Variable → Tree) where
  mutual
    same_at : (p : Tree) → instance g p ≡ instance h p → (x : Variable) → Occurs x p → g x ≡ h x
    same_at (variable i s) e x o = ap g o ∙ e ∙ sym (ap h o)
    same_at (numeral n) e x o = absurd o
    same_at (apply f ts) e x o = same_at_one ts (cc) x o

    same_at_one : (ts : Trees) → instances g ts ≡ instances h ts → (x : Variable) → OccursIn x ts → g x ≡ h x
    same_at_one no_trees e x o = absurd o
    same_at_one (tree t ts) e x (inl o) = same_at t (cc) x o
    same_at_one (tree t ts) e x (inr o) = same_at_one ts (cc) x o

  maps_same : (xs : List Variable) → EachVar (λ x. g x ≡ h x) xs → map g xs ≡ map h xs
  maps_same [] e = refl
  maps_same (x ∷ xs) e = ap₂ (λ a b. a ∷ b) e.0 (maps_same xs e.1)

pub match_is_one : MatchIsOne
match_is_one p t vs ws m n =
    let g = value_at (variables p) vs in
    let h = value_at (variables p) ws in
    sym (values_of_variables p vs m.one_each)
    ∙ maps_same g h (variables p) (each_then (λ x. Occurs x p) (λ x. g x ≡ h x) (same_at g h p (m.whole ∙ sym n.whole)) (variables p) (variables_occur p))
    ∙ values_of_variables p ws n.one_each

-- ---- normal forms within the limits

module _ (th : ℕ → Theory) where
  mutual
    normal_below : (t u : Tree) → IsNormal th t → IsBelow u t → IsNormal th u
    normal_below (variable i s) u n b = absurd b
    normal_below (numeral k) u n b = absurd b
    normal_below (apply f ts) u n b = normal_below_one ts u n.0 b

    normal_below_one : (ts : Trees) (u : Tree) → AreNormal th ts → IsBelowOne u ts → IsNormal th u
    normal_below_one no_trees u n b = absurd b
    normal_below_one (tree t ts) u n (inl e) = subst (IsNormal th) (sym e) n.0
    normal_below_one (tree t ts) u n (inr (inl b)) = normal_below t u n.0 b
    normal_below_one (tree t ts) u n (inr (inr b)) = normal_below_one ts u n.1 b

  mutual
    depth_below : (t u : Tree) → IsBelow u t → depth u ≤ depth t
    depth_below (variable i s) u b = absurd b
    depth_below (numeral k) u b = absurd b
    depth_below (apply f ts) u b = let low = depth_below_one ts u b in omega (arith, low)

    depth_below_one : (ts : Trees) (u : Tree) → IsBelowOne u ts → depth u ≤ depths ts
    depth_below_one no_trees u b = absurd b
    depth_below_one (tree t ts) u (inl e) = let k = ap depth e in omega (arith, k)
    depth_below_one (tree t ts) u (inr (inl b)) = let low = depth_below t u b in omega (arith, low)
    depth_below_one (tree t ts) u (inr (inr b)) = let low = depth_below_one ts u b in omega (arith, low)

  mutual
    no_overflow_below : (t u : Tree) → holds_overflow th t ≡ false → IsBelow u t → holds_overflow th u ≡ false
    no_overflow_below (variable i s) u h b = absurd b
    no_overflow_below (numeral k) u h b = absurd b
    no_overflow_below (apply f ts) u h b = no_overflow_below_one ts u (or_parts ((th f).succ && is_greatest_numeral ts) (hold_overflow th ts) h).1 b

    no_overflow_below_one : (ts : Trees) (u : Tree) → hold_overflow th ts ≡ false → IsBelowOne u ts → holds_overflow th u ≡ false
    no_overflow_below_one no_trees u h b = absurd b
    no_overflow_below_one (tree t ts) u h (inl e) = ap (holds_overflow th) e ∙ (or_parts (holds_overflow th t) (hold_overflow th ts) h).0
    no_overflow_below_one (tree t ts) u h (inr (inl b)) = no_overflow_below t u (or_parts (holds_overflow th t) (hold_overflow th ts) h).0 b
    no_overflow_below_one (tree t ts) u h (inr (inr b)) = no_overflow_below_one ts u (or_parts (holds_overflow th t) (hold_overflow th ts) h).1 b

  norms_all : (vs : List Tree) → All (λ v. norm th v ≡ v) vs → AreNorms th vs
  norms_all [] h = tt
  norms_all (v ∷ vs) h = (All-head (λ u. norm th u ≡ u) v vs h, norms_all vs (All-tail (λ u. norm th u ≡ u) v vs h))

  pub values_normal : AreLawful th → (p t : Tree) (vs : List Tree) → IsMatch p t vs → norm th t ≡ t → AreNorms th vs
  values_normal lawful p t vs m normal =
      let n = normal_is th lawful t normal in
      norms_all vs (each_value (λ u. norm th u ≡ u) p t vs m
      (λ u h. normal_fixed th u (⊎_elim (λ (e : u ≡ t). subst (IsNormal th) (sym e) n) (λ (b : IsBelow u t). normal_below t u n b) h)))

  abbrev IsFit : Tree → Type 0
  IsFit u = (norm th u ≡ u) × IsWithin th u

  all_stand : (nodes : List Node) (ids : List ℕ) → AreOf nodes ids → All IsFit (trees_at nodes ids) → StandWithin th nodes ids
  all_stand nodes [] there h = All-nil (StandsWithin th nodes)
  all_stand nodes (i ∷ ids) there h =
      let fit = All-head IsFit (tree_at nodes i) (trees_at nodes ids) h in
      All-cons (StandsWithin th nodes) i ids
      (record { there = All-head (λ j. j < length nodes) i ids there; normal = fit.0; within = fit.1 })
      (all_stand nodes ids (All-tail (λ j. j < length nodes) i ids there) (All-tail IsFit (tree_at nodes i) (trees_at nodes ids) h))

  pub values_stand : AreLawful th → (nodes : List Node) (i : ℕ) (ids : List TermId) (p : Tree) → StandsWithin th nodes i → AreOf nodes (numbers ids) → IsMatch p (tree_at nodes i) (trees_at nodes (numbers ids)) → StandWithin th nodes (numbers ids)
  values_stand lawful nodes i ids p stands there m =
      let t = tree_at nodes i in
      let n = normal_is th lawful t stands.normal in
      all_stand nodes (numbers ids) there (each_value IsFit p t (trees_at nodes (numbers ids)) m
      (λ u h. ⊎_elim
      (λ (e : u ≡ t). subst IsFit (sym e) (stands.normal, stands.within))
      (λ (b : IsBelow u t). let low = depth_below t u b in let limit = stands.within.shallow in (normal_fixed th u (normal_below t u n b), record { shallow = omega (arith, low, limit); no_overflow = no_overflow_below t u stands.within.no_overflow b }))
      h))
