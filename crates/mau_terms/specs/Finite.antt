-- Finite lists that hold all values which a pattern's variables, or an operator's arguments, may have: what the laws of
-- finiteness name. No other definition speaks of them.
use Rattle.std.specs.Prelude.{◌≡◌, ℕ, zero, suc, ◌-◌, List, [], ◌∷◌, ◌++◌, length, map, Option, Some, None, ◌⊎◌}
use Rattle.mau_terms.specs.Tree.{Tree, variable, numeral, apply, Trees, no_trees, tree, list_of}
use Rattle.mau_terms.specs.Norm.{unit_tree}
use Rattle.mau_terms.specs.Solution.{list_under, over_list}
use Rattle.mau_terms.specs.declared.theory.Identity.{Identity}
use Rattle.mau_terms.specs.declared.theory.Theory.{Theory}

-- x is an element of a list
abbrev pub IsIn : {A : Type 0} → A → List A → Type 0
IsIn x [] = ⊥
IsIn x (y ∷ ys) = (x ≡ y) ⊎ IsIn x ys

-- the lists of all elements, joined
abbrev pub each_of : {A B : Type 0} → (A → List B) → List A → List B
each_of f [] = []
each_of f (x ∷ xs) = f x ++ each_of f xs

-- all lists of at most n elements of xs
abbrev pub words : {A : Type 0} → ℕ → List A → List (List A)
words zero xs = [] ∷ []
words (suc n) xs = [] ∷ each_of (λ x. map (λ w. x ∷ w) (words n xs)) xs

abbrev pub arguments_of : Tree → List Tree
arguments_of (apply f ts) = list_of ts
arguments_of t = []

abbrev pub one_less : Tree → List Tree
one_less (numeral n) = numeral (n - 1) ∷ []
one_less t = []

abbrev pub units_of : Option Identity → List Tree
units_of None = []
units_of (Some i) = unit_tree i ∷ []

-- the normal forms that f may have had among its arguments, where the normal form of f over them is t: the identity, t itself,
-- an argument of t, the numeral before t, or f over elements of t's list
abbrev pub parts_under : (ℕ → Theory) → ℕ → Tree → List Tree
parts_under th f t =
    let l = list_under (th f) f t in
    units_of (th f).id ++ (t ∷ (arguments_of t ++ (one_less t ++ map (over_list (th f) f) (words (length l) l))))

-- the normal forms that a variable of p may have, where p's instance has the normal form t
abbrev mutual
  pub candidates : (ℕ → Theory) → Tree → Tree → List Tree
  candidates th (variable i s) t = t ∷ []
  candidates th (numeral n) t = []
  candidates th (apply f ps) t = all_candidates th ps (parts_under th f t)

  pub all_candidates : (ℕ → Theory) → Trees → List Tree → List Tree
  all_candidates th no_trees ts = []
  all_candidates th (tree p ps) ts = each_of (candidates th p) ts ++ all_candidates th ps ts
