-- Whether a tree is a bare term, and readings of normal forms in the place of values.
use Rattle.std.proofs.Common.{◌≡◌, ℕ, ◌^◌, ◌==◌, List, [], ◌∷◌, map, Bool, true, false, ◌&&◌, Option, Some, None, nat_lt, nat_le, if◌then◌else◌, refl, sym, ap, ap₂, ◌∙◌, subst, eq-eqb, eqb-true, lt-ltb, le-leb}
use Rattle.std.proofs.lemmas.Bool.{ltb-true, leb-true}
use Rattle.mau_terms.specs.Tree.{Tree, variable, numeral, apply, Trees, no_trees, tree}
use Rattle.mau_terms.specs.Norm.{greatest_numeral, norm}
use Rattle.mau_terms.specs.Lawful.{AreLawful}
use Rattle.mau_terms.specs.Bare.{TermSignature, IsBareIn, AreBareIn, IsBare, IsLawful}
use Rattle.mau_terms.specs.Reading.{reading}
use Rattle.mau_terms.specs.Laws.{AreNorms}
use Rattle.mau_terms.specs.Subst.{Variable, same_variable, value_at, variables, with_values, instance, instances}
use Rattle.mau_terms.specs.declared.theory.Theory.{Theory}
use Rattle.mau_terms.proofs.Normal.{IsNormal, norm_normal}
use Rattle.mau_terms.proofs.Chains.{chain_end}
use Rattle.mau_terms.proofs.Readings.{lead_norm}
use Rattle.mau_terms.proofs.Wholes.{norm-reading}
use Rattle.mau_evaluation.specs.Listing.{has_kind, is_bare_in, are_bare_in, kind_at, is_bare_of, is_bare}

pub both_are : (a b : Bool) → (a && b) ≡ true → (a ≡ true) × (b ≡ true)
both_are true b e = (refl, e)
both_are false b e = cc

pub and_so : (a b : Bool) → a ≡ true → b ≡ true → (a && b) ≡ true
and_so a b e h = ap (λ w. w && b) e ∙ h

module _ (s : TermSignature) where
  kind_is : (o : Option ℕ) (k : ℕ) → has_kind o k ≡ true → o ≡ Some k
  kind_is None k e = cc
  kind_is (Some j) k e = ap Some (eqb-true j k e)

  has_that : (o : Option ℕ) (k : ℕ) → o ≡ Some k → has_kind o k ≡ true
  has_that o k e = ap (λ w. has_kind w k) e ∙ eq-eqb k k refl

  mutual
    pub bare_in_is : (t : Tree) (k : ℕ) → is_bare_in s t k ≡ true → IsBareIn s t k
    bare_in_is (variable i r) k e =
        let p = both_are (nat_lt i (2 ^ 32)) (s.has_sort r && (s.kind_of r == k)) e in
        let q = both_are (s.has_sort r) (s.kind_of r == k) p.1 in
        (ltb-true i (2 ^ 32) p.0, q.0, eqb-true (s.kind_of r) k q.1)
    bare_in_is (numeral n) k e =
        let p = both_are (nat_le n greatest_numeral) (has_kind s.numerals k) e in
        (leb-true n greatest_numeral p.0, kind_is s.numerals k p.1)
    bare_in_is (apply f ts) k e =
        let p = both_are (s.has_operator f) ((s.result f == k) && are_bare_in s ts (s.arguments f)) e in
        let q = both_are (s.result f == k) (are_bare_in s ts (s.arguments f)) p.1 in
        (p.0, eqb-true (s.result f) k q.0, are_bare_in_is ts (s.arguments f) q.1)

    are_bare_in_is : (ts : Trees) (ks : List ℕ) → are_bare_in s ts ks ≡ true → AreBareIn s ts ks
    are_bare_in_is no_trees [] e = tt
    are_bare_in_is no_trees (k ∷ ks) e = cc
    are_bare_in_is (tree t ts) [] e = cc
    are_bare_in_is (tree t ts) (k ∷ ks) e = let p = both_are (is_bare_in s t k) (are_bare_in s ts ks) e in (bare_in_is t k p.0, are_bare_in_is ts ks p.1)

  mutual
    pub bare_in_so : (t : Tree) (k : ℕ) → IsBareIn s t k → is_bare_in s t k ≡ true
    bare_in_so (variable i r) k b = and_so (nat_lt i (2 ^ 32)) (s.has_sort r && (s.kind_of r == k)) (lt-ltb i (2 ^ 32) b.0) (and_so (s.has_sort r) (s.kind_of r == k) b.1 (eq-eqb (s.kind_of r) k b.2))
    bare_in_so (numeral n) k b = and_so (nat_le n greatest_numeral) (has_kind s.numerals k) (le-leb n greatest_numeral b.0) (has_that s.numerals k b.1)
    bare_in_so (apply f ts) k b = and_so (s.has_operator f) ((s.result f == k) && are_bare_in s ts (s.arguments f)) b.0 (and_so (s.result f == k) (are_bare_in s ts (s.arguments f)) (eq-eqb (s.result f) k b.1) (are_bare_in_so ts (s.arguments f) b.2))

    are_bare_in_so : (ts : Trees) (ks : List ℕ) → AreBareIn s ts ks → are_bare_in s ts ks ≡ true
    are_bare_in_so no_trees [] b = refl
    are_bare_in_so no_trees (k ∷ ks) b = absurd b
    are_bare_in_so (tree t ts) [] b = absurd b
    are_bare_in_so (tree t ts) (k ∷ ks) b = and_so (is_bare_in s t k) (are_bare_in s ts ks) (bare_in_so t k b.0) (are_bare_in_so ts ks b.1)

  bare_of_is : (t : Tree) (o : Option ℕ) → is_bare_of s t o ≡ true → IsBare s t
  bare_of_is t None e = cc
  bare_of_is t (Some k) e = (k, bare_in_is t k e)

  pub bare_is : (t : Tree) → is_bare s t ≡ true → IsBare s t
  bare_is t e = bare_of_is t (kind_at s t) e

  kind_at_is : (t : Tree) (k : ℕ) → IsBareIn s t k → kind_at s t ≡ Some k
  kind_at_is (variable i r) k b = ap Some b.2
  kind_at_is (numeral n) k b = b.1
  kind_at_is (apply f ts) k b = ap Some b.1

  pub bare_so : (t : Tree) → IsBare s t → is_bare s t ≡ true
  bare_so t b = ap (is_bare_of s t) (kind_at_is t b.0 b.1) ∙ bare_in_so t b.0 b.1

-- ---- values

-- what leaves variables as they are may be done to the values or afterwards
pub value_mapped : (F : Tree → Tree) → ((i r : ℕ) → F (variable i r) ≡ variable i r) → (xs : List Variable) (vs : List Tree) (y : Variable) → value_at xs (map F vs) y ≡ F (value_at xs vs y)
value_mapped F stays [] vs y = sym (stays y.0 y.1)
value_mapped F stays (x ∷ xs) [] y = sym (stays y.0 y.1)
value_mapped F stays (x ∷ xs) (v ∷ vs) y = by (value_mapped F stays xs vs y) (same_variable x y)
  where
    by : value_at xs (map F vs) y ≡ F (value_at xs vs y) → (b : Bool) → (if b then F v else value_at xs (map F vs) y) ≡ F (if b then v else value_at xs vs y)
    by ih true = refl
    by ih false = ih

pub norm-reading-is : (th : ℕ → Theory) → AreLawful th → (t : Tree) → norm th t ≡ t → norm th (reading th t) ≡ t
norm-reading-is th lawful t e = norm-reading th lawful t (subst (IsNormal th) e (norm_normal th lawful t))

pub norms-readings : (th : ℕ → Theory) → AreLawful th → (vs : List Tree) → AreNorms th vs → map (norm th) (map (reading th) vs) ≡ vs
norms-readings th lawful [] n = refl
norms-readings th lawful (v ∷ vs) n = ap₂ (λ u us. u ∷ us) (norm-reading-is th lawful v n.0) (norms-readings th lawful vs n.1)

module _ (s : TermSignature) (lawful : IsLawful s) (g : Variable → Tree) where
  abbrev read : Variable → Tree
  read y = reading s.theory (norm s.theory (g y))

  mutual
    -- the normal form of each value, read as a bare term, may take its place
    read_bare : (p : Tree) (k : ℕ) → IsBareIn s (instance g p) k → IsBareIn s (instance read p) k
    read_bare (variable i r) k b = chain_end (lead_norm s lawful k (g (i, r)) b)
    read_bare (numeral n) k b = b
    read_bare (apply f ts) k b = (b.0, b.1, reads_bare ts (s.arguments f) b.2)

    reads_bare : (ps : Trees) (ks : List ℕ) → AreBareIn s (instances g ps) ks → AreBareIn s (instances read ps) ks
    reads_bare no_trees ks b = b
    reads_bare (tree p ps) [] b = b
    reads_bare (tree p ps) (k ∷ ks) b = (read_bare p k b.0, reads_bare ps ks b.1)

mutual
  pub instance_same : (g h : Variable → Tree) → ((y : Variable) → g y ≡ h y) → (p : Tree) → instance g p ≡ instance h p
  instance_same g h e (variable i r) = e (i, r)
  instance_same g h e (numeral n) = refl
  instance_same g h e (apply f ts) = ap (apply f) (instances_same g h e ts)

  instances_same : (g h : Variable → Tree) → ((y : Variable) → g y ≡ h y) → (ps : Trees) → instances g ps ≡ instances h ps
  instances_same g h e no_trees = refl
  instances_same g h e (tree p ps) = ap₂ tree (instance_same g h e p) (instances_same g h e ps)

-- the normal forms of the values, read as bare terms, make a bare instance where the values do
pub readings_bare : (s : TermSignature) → IsLawful s → (p : Tree) (vs : List Tree) → IsBare s (with_values p vs) → IsBare s (with_values p (map (reading s.theory) (map (norm s.theory) vs)))
readings_bare s lawful p vs b =
    let th = s.theory in
    let xs = variables p in (
      b.0,
      subst (λ t. IsBareIn s t b.0)
          (instance_same (λ y. reading th (norm th (value_at xs vs y))) (value_at xs (map (reading th) (map (norm th) vs)))
          (λ y. sym (value_mapped (reading th) (λ i r. refl) xs (map (norm th) vs) y ∙ ap (reading th) (value_mapped (norm th) (λ i r. refl) xs vs y))) p)
          (read_bare s lawful (value_at xs vs) p b.0 b.1),
    )
