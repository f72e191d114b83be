-- Elements whose number is a sum of the numbers of times that variables are arguments, and elements beside them.
use Rattle.std.specs.Prelude.{◌≡◌, ℕ, ◌+◌, ◌*◌, List, [], ◌∷◌, ◌++◌, ◌==◌, if◌then◌else◌}
use Rattle.mau_terms.specs.Tree.{Tree, variable, numeral, apply, Trees, no_trees, tree}
use Rattle.mau_terms.specs.Norm.{norm}
use Rattle.mau_terms.specs.Solution.{list_under}
use Rattle.mau_terms.specs.Subst.{Variable, has_variable, instance}
use Rattle.mau_terms.specs.declared.theory.Theory.{Theory}
use Rattle.mau_match.specs.Parts.{same_tree, how_many, are_bound}
use Rattle.mau_match.specs.Possible.{frees}

-- n is a sum of these numbers, each as often as one likes
abbrev pub IsSum : List ℕ → ℕ → Type 0
IsSum [] n = n ≡ 0
IsSum (m ∷ ms) n = (k : ℕ) × (j : ℕ) × (n ≡ m * k + j) × IsSum ms j

-- c elements are a sum of these numbers, and b more
abbrev pub IsBeside : List ℕ → ℕ → ℕ → Type 0
IsBeside ms c b = (a : ℕ) × (c ≡ a + b) × IsSum ms a

-- that is so of each element, with those of another list beside
abbrev pub AreBeside : List ℕ → List Tree → List Tree → Type 0
AreBeside ms us beside = (t : Tree) → IsBeside ms (how_many t us) (how_many t beside)

-- each element stands as often in both lists
abbrev pub AreAsMany : List Tree → List Tree → Type 0
AreAsMany us vs = (t : Tree) → how_many t us ≡ how_many t vs

-- us without those that are t
abbrev pub apart : Tree → List Tree → List Tree
apart t [] = []
apart t (u ∷ us) = if same_tree t u then apart t us else u ∷ apart t us

module _ (th : ℕ → Theory) (bound hidden : List Variable) (gg : Variable → Tree) where
  -- the elements of the instance's list under f that are not known for sure, without those of the hidden variables
  abbrev mutual
    pub besides_of : ℕ → Tree → List Tree
    besides_of f (variable i s) = if has_variable bound (i, s) then [] else (if has_variable hidden (i, s) then [] else list_under (th f) f (norm th (gg (i, s))))
    besides_of f (numeral n) = []
    besides_of f (apply h ts) = if are_bound bound ts then [] else (if h == f then besides f ts else list_under (th f) f (norm th (instance gg (apply h ts))))

    pub besides : ℕ → Trees → List Tree
    besides f no_trees = []
    besides f (tree t ts) = besides_of f t ++ besides f ts

-- each element that is not known stands so often in the lists of the hidden variables as is a sum of these numbers, and as often as it does beside
abbrev pub AreShared : (ℕ → Theory) → List Variable → List Variable → (Variable → Tree) → ℕ → Trees → List ℕ → Type 0
AreShared th bound hidden gg f ps ms = AreBeside ms (frees th bound gg f ps) (besides th bound hidden gg f ps)
