-- Numbers of a store that stand for normal forms within the limits.
use Rattle.std.specs.Prelude.{◌≡◌, ℕ, List, All}
use Rattle.mau_terms.specs.Tree.{Tree}
use Rattle.mau_terms.specs.declared.theory.Theory.{Theory}
use Rattle.mau_store.specs.Node.{Node, IsOf}
use Rattle.mau_store.specs.Trees.{tree_at, StandsForNorm}
use Rattle.mau_canon.specs.Within.{IsWithin}

-- the number stands for a normal form that is within the limits
pub record StandsWithin (th : ℕ → Theory) (nodes : List Node) (i : ℕ) : Type 0 where
  pub there : IsOf nodes i
  pub normal : StandsForNorm th nodes i
  pub within : IsWithin th (tree_at nodes i)

-- each of these numbers does
abbrev pub StandWithin : (ℕ → Theory) → List Node → List ℕ → Type 0
StandWithin th nodes ids = All (StandsWithin th nodes) ids

-- i is the number of the tree t
pub record IsNumberOf (nodes : List Node) (i : ℕ) (t : Tree) : Type 0 where
  pub there : IsOf nodes i
  pub tree : tree_at nodes i ≡ t
