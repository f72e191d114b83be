-- When an instance of a pattern is a bare term.
use Rattle.std.proofs.Common.{◌≡◌, ◌+◌, ℕ, suc, List, [], ◌∷◌, true, Option, None, Some, IfSome, IfNone, is_some, All, map, length, get_or, if◌then◌else◌, refl, sym, ap, ◌∙◌, subst, arith}
use Rattle.std.proofs.lemmas.Bool.{ltb-true}
use Rattle.mau_poset.specs.Order.{kinds}
use Rattle.mau_terms.specs.Tree.{Tree, variable, apply, Trees}
use Rattle.mau_terms.specs.Bare.{TermSignature, IsBare, IsBareIn}
use Rattle.mau_terms.specs.Subst.{Variable, value_at, variables, with_values}
use Rattle.mau_terms.proofs.Instances.{has_occurring, sort_there, instance_bare, values_bare}
use Rattle.mau_terms.proofs.Variables.{same_itself}
use Rattle.mau_terms.specs.Reading.{reading}
use Rattle.mau_terms.specs.View.{variable_of}
use Rattle.mau_terms.specs.declared.ids.TermId.{TermId}
use Rattle.mau_signature.specs.Faults.{IsSort}
use Rattle.mau_signature.specs.Signature.{SignatureOf, theory_at, terms_over}
use Rattle.mau_store.specs.Node.{Node}
use Rattle.mau_store.specs.Trees.{tree_at, trees_at}
use Rattle.mau_store.specs.View.{numbers}
use Rattle.mau_listing.specs.declared.places.Place.{Place}
use Rattle.mau_listing.specs.Places.{variables_in}
use Rattle.mau_trial.specs.Tried.{HoldsAtEach, IsOfKindAt}
use Rattle.mau_trial.proofs.AtEach.{value_holds, holds_each, places_sorted, each_trees, each_numbers, each_mapped, each_unmapped}

-- ---- values at the places of a pattern

module _ (s : TermSignature) where
  abbrev pub OfKind : Variable → Tree → Type 0
  OfKind x w = IsBareIn s w (s.kind_of x.1)

  -- values of the kinds of a pattern's variables make a bare instance
  pub bare_of_each : (p : Tree) → IsBare s p → (ws : List Tree) → HoldsAtEach OfKind (variables p) ws → IsBare s (with_values p ws)
  bare_of_each p bare ws all = (bare.0, instance_bare s (value_at (variables p) ws) p bare.0 bare.1 (λ x o. value_holds OfKind (variables p) ws all x (has_occurring x p o)))

  -- and only these do, unless the pattern is a variable
  pub each_of_bare : (f : ℕ) (ps : Trees) → IsBare s (apply f ps) → (ws : List Tree) → length ws ≡ length (variables (apply f ps)) → IsBare s (with_values (apply f ps) ws) → HoldsAtEach OfKind (variables (apply f ps)) ws
  each_of_bare f ps bare ws long instance_is =
      holds_each OfKind (apply f ps) ws long (λ x o. values_bare s (value_at (variables (apply f ps)) ws) ps (s.arguments f) bare.1.2 instance_is.1.2 x o)

-- the instance of a variable is its value
pub value_alone : (i r : ℕ) (w : Tree) → with_values (variable i r) (w ∷ []) ≡ w
value_alone i r w = ap (λ b. if b then w else variable i r) (same_itself (i, r))

-- ---- values by their numbers

places_count : (p : Tree) (ps : List Place) → map variable_of (variables_in ps) ≡ variables p → length ps ≡ length (variables p)
places_count p ps e = sym (both ps) ∙ ap length e
  where
    both : (qs : List Place) → length (map variable_of (variables_in qs)) ≡ length qs
    both [] = refl
    both (q ∷ qs) = ap suc (both qs)

numbers_count : (R : Tree → Tree) (nodes : List Node) (vs : List TermId) → length (map R (trees_at nodes (numbers vs))) ≡ length vs
numbers_count R nodes [] = refl
numbers_count R nodes (v ∷ vs) = ap suc (numbers_count R nodes vs)

-- the sorts of places are there
pub places_are_sorted : (s : SignatureOf) (p : Tree) → IsBare (terms_over s) p → (ps : List Place) → map variable_of (variables_in ps) ≡ variables p → All (λ q. IsSort s.hierarchy q.variable.sort) ps
places_are_sorted s p bare ps e =
    places_sorted (IsSort s.hierarchy) p (λ x o. ltb-true x.1 (s.hierarchy.sorts + kinds s.hierarchy) (sort_there (terms_over s) x p bare.0 bare.1 o)) ps e

module _ (s : SignatureOf) (nodes : List Node) (p : Tree) (bare : IsBare (terms_over s) p) (ps : List Place) (are : map variable_of (variables_in ps) ≡ variables p) (vs : List TermId) where
  abbrev readings_at : List Tree
  readings_at = map (reading (theory_at s)) (trees_at nodes (numbers vs))

  abbrev Read : Variable → Tree → Type 0
  Read x t = IsBareIn (terms_over s) (reading (theory_at s) t) ((terms_over s).kind_of x.1)

  pub bare_of_kinds : HoldsAtEach (IsOfKindAt s nodes) ps vs → IsBare (terms_over s) (with_values p (map (reading (theory_at s)) (trees_at nodes (numbers vs))))
  bare_of_kinds all =
      bare_of_each (terms_over s) p bare readings_at
      (each_mapped (OfKind (terms_over s)) (reading (theory_at s)) (variables p) (trees_at nodes (numbers vs))
      (subst (λ xs. HoldsAtEach Read xs (trees_at nodes (numbers vs))) are (each_trees nodes Read ps vs all)))

  pub kinds_of_bare : (f : ℕ) (args : Trees) → p ≡ apply f args → length vs ≡ length ps → IsBare (terms_over s) (with_values p (map (reading (theory_at s)) (trees_at nodes (numbers vs)))) → HoldsAtEach (IsOfKindAt s nodes) ps vs
  kinds_of_bare f args e long is =
      let count : length readings_at ≡ length (variables p) = numbers_count (reading (theory_at s)) nodes vs ∙ long ∙ places_count p ps are in
      let each : HoldsAtEach (OfKind (terms_over s)) (variables p) readings_at =
      subst (λ q. HoldsAtEach (OfKind (terms_over s)) (variables q) readings_at) (sym e)
      (each_of_bare (terms_over s) f args (subst (IsBare (terms_over s)) e bare) readings_at (count ∙ ap (λ q. length (variables q)) e) (subst (λ q. IsBare (terms_over s) (with_values q readings_at)) e is)) in
      each_numbers nodes Read ps vs (subst (λ xs. HoldsAtEach Read xs (trees_at nodes (numbers vs))) (sym are) (each_unmapped (OfKind (terms_over s)) (reading (theory_at s)) (variables p) (trees_at nodes (numbers vs)) each))

  pub one_value : (i r : ℕ) → p ≡ variable i r → length vs ≡ length ps → (d : TermId) → with_values p (map (reading (theory_at s)) (trees_at nodes (numbers vs))) ≡ reading (theory_at s) (tree_at nodes (get_or vs 0 d).0)
  one_value i r e long d = go vs (long ∙ places_count p ps are ∙ ap (λ q. length (variables q)) e)
    where
      go : (us : List TermId) → length us ≡ 1 → with_values p (map (reading (theory_at s)) (trees_at nodes (numbers us))) ≡ reading (theory_at s) (tree_at nodes (get_or us 0 d).0)
      go [] k = absurd (cc)
      go (u ∷ []) k = ap (λ q. with_values q (reading (theory_at s) (tree_at nodes u.0) ∷ [])) e ∙ value_alone i r (reading (theory_at s) (tree_at nodes u.0))
      go (u ∷ v ∷ us) k = absurd (omega (arith, k))

-- a term of a kind that was found is bare, and there is none where none was found
pub some_kind : (s : TermSignature) (t : Tree) (o : Option ℕ) → IfSome o (IsBareIn s t) → IfNone o (¬ IsBare s t) → (is_some o ≡ true → IsBare s t) × (IsBare s t → is_some o ≡ true)
some_kind s t None some none = (λ e. absurd (cc), λ b. absurd (none b))
some_kind s t (Some k) some none = (λ e. (k, some), λ b. refl)
