-- Terms in which no numeral is greater than the greatest; and variables of terms that are nested.
use Rattle.std.proofs.Common.{◌≡◌, ℕ, zero, suc, ◌<◌, ◌≤◌, List, [], ◌∷◌, Bool, true, false, Some, length, map, get_or, slice_get, refl, arith}
use Rattle.mau_terms.specs.Tree.{Tree, variable, numeral, apply, Trees, no_trees, tree, trees_of}
use Rattle.mau_terms.specs.Norm.{greatest_numeral}
use Rattle.mau_terms.specs.Bare.{TermSignature, IsBareIn, AreBareIn}
use Rattle.mau_terms.specs.Reading.{nest_from, nest, reading, readings}
use Rattle.mau_terms.specs.declared.theory.Theory.{Theory}
use Rattle.mau_parse.specs.Terms.{AreGiven, AllGiven}
use Rattle.mau_print.specs.Printed.{Pairs}

pub slice_get-map : {A B : Type 0} (f : A → B) (xs : List A) (i : ℕ) (d : A) → i < length xs → slice_get (map f xs) i ≡ Some (f (get_or xs i d))
slice_get-map f [] i d h = absurd (omega arith)
slice_get-map f (x ∷ xs) zero d h = refl
slice_get-map f (x ∷ xs) (suc i) d h = slice_get-map f xs i d (omega arith)

abbrev mutual
  pub AreSmall : Tree → Type 0
  AreSmall (variable i s) = Unit {0}
  AreSmall (numeral n) = n ≤ greatest_numeral
  AreSmall (apply f ts) = AllSmall ts

  pub AllSmall : Trees → Type 0
  AllSmall no_trees = Unit {0}
  AllSmall (tree t ts) = AreSmall t × AllSmall ts

mutual
  bare_small : (s : TermSignature) (t : Tree) (k : ℕ) → IsBareIn s t k → AreSmall t
  bare_small s (variable i r) k b = tt
  bare_small s (numeral n) k b = b.0
  bare_small s (apply f ts) k b = bare_smalls s ts (s.arguments f) b.2

  bare_smalls : (s : TermSignature) (ts : Trees) (ks : List ℕ) → AreBareIn s ts ks → AllSmall ts
  bare_smalls s no_trees ks b = tt
  bare_smalls s (tree t ts) [] b = absurd b
  bare_smalls s (tree t ts) (k ∷ ks) b = (bare_small s t k b.0, bare_smalls s ts ks b.1)

small_from : (f : ℕ) (t : Tree) (ts : List Tree) → AreSmall (nest_from f t ts) → AllSmall (trees_of (t ∷ ts))
small_from f t [] m = (m, tt)
small_from f t (u ∷ us) m = (m.0, small_from f u us m.1.0)

small_nest : (a : Bool) (f : ℕ) (ts : List Tree) → AreSmall (nest a f ts) → AllSmall (trees_of ts)
small_nest true f [] m = m
small_nest true f (t ∷ ts) m = small_from f t ts m
small_nest false f ts m = m

mutual
  small_read : (th : ℕ → Theory) (t : Tree) → AreSmall (reading th t) → AreSmall t
  small_read th (variable i s) m = tt
  small_read th (numeral n) m = m
  small_read th (apply f ts) m = smalls_read th ts (small_nest (th f).assoc f (readings th ts) m)

  smalls_read : (th : ℕ → Theory) (ts : Trees) → AllSmall (trees_of (readings th ts)) → AllSmall ts
  smalls_read th no_trees m = tt
  smalls_read th (tree t ts) m = (small_read th t m.0, smalls_read th ts m.1)

-- a normal form that is bare, read with nested lists
pub normal_small : (s : TermSignature) (t : Tree) (k : ℕ) → IsBareIn s (reading s.theory t) k → AreSmall t
normal_small s t k b = small_read s.theory t (bare_small s (reading s.theory t) k b)

-- ---- variables

given_from : (ns : Pairs) (f : ℕ) (t : Tree) (ts : List Tree) → AllGiven ns (trees_of (t ∷ ts)) → AreGiven ns (nest_from f t ts)
given_from ns f t [] g = g.0
given_from ns f t (u ∷ us) g = (g.0, (given_from ns f u us g.1, tt))

given_nest : (ns : Pairs) (a : Bool) (f : ℕ) (ts : List Tree) → AllGiven ns (trees_of ts) → AreGiven ns (nest a f ts)
given_nest ns true f [] g = g
given_nest ns true f (t ∷ ts) g = given_from ns f t ts g
given_nest ns false f ts g = g

mutual
  pub given_read : (ns : Pairs) (th : ℕ → Theory) (t : Tree) → AreGiven ns t → AreGiven ns (reading th t)
  given_read ns th (variable i s) g = g
  given_read ns th (numeral n) g = g
  given_read ns th (apply f ts) g = given_nest ns (th f).assoc f (readings th ts) (all_given_read ns th ts g)

  all_given_read : (ns : Pairs) (th : ℕ → Theory) (ts : Trees) → AllGiven ns ts → AllGiven ns (trees_of (readings th ts))
  all_given_read ns th no_trees g = tt
  all_given_read ns th (tree t ts) g = (given_read ns th t g.0, all_given_read ns th ts g.1)
