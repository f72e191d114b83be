-- The trees that a text may have where terms of some kinds are asked for.
use Rattle.std.specs.Prelude.{◌≡◌, ◌≢◌, ℕ, ◌+◌, List}
use Rattle.mau_terms.specs.Tree.{Tree}
use Rattle.mau_grammar.specs.Grammar.{GrammarOf}
use Rattle.mau_grammar.specs.Trees.{TreeOf}
use Rattle.mau_parse.specs.declared.goals.Goal.{Goal}
use Rattle.mau_parse.specs.declared.goals.Goal.TheVariants.{AnyKind, Kind}

-- the kinds asked for are the numbers from `lowest` to before `highest`
abbrev pub lowest : GrammarOf → Goal → ℕ
lowest g AnyKind = g.first_kind
lowest g (Kind k) = k

abbrev pub highest : GrammarOf → Goal → ℕ
highest g AnyKind = g.last_kind
highest g (Kind k) = k + 1

-- t is a tree of exactly these tokens, in one of these kinds
abbrev pub IsTree : GrammarOf → List (List ℕ) → Goal → Tree → Type 0
IsTree g ws goal t = TreeOf g ws (lowest g goal) (highest g goal) t

-- and there is no other
pub record IsOnlyTree (g : GrammarOf) (ws : List (List ℕ)) (goal : Goal) (t : Tree) : Type 0 where
  pub tree : IsTree g ws goal t
  pub only : (u : Tree) → IsTree g ws goal u → u ≡ t

-- these two are different trees
pub record AreTwoTrees (g : GrammarOf) (ws : List (List ℕ)) (goal : Goal) (t u : Tree) : Type 0 where
  pub first : IsTree g ws goal t
  pub second : IsTree g ws goal u
  pub differ : t ≢ u
