-- What is kept of terms whose holes are named.
use Rattle.std.specs.Prelude.{◌≡◌, ◌<◌, ℕ, List, length, slice_index_or}
use Rattle.mau_terms.specs.Tree.{Tree}
use Rattle.mau_terms.specs.declared.ids.TermId.{TermId}
use Rattle.mau_store.specs.Node.{Node, IsOf}
use Rattle.mau_store.specs.Trees.{tree_at}
use Rattle.mau_docheck.specs.Holes.{named}

-- the number stands for a term whose holes are named
pub record IsNamed (ns : List (List ℕ × ℕ)) (nodes : List Node) (id : TermId) (t : Tree) : Type 0 where
  pub there : IsOf nodes id.0
  pub stands : tree_at nodes id.0 ≡ named ns t

-- ids are the numbers of the first nodes of a store in another one, where their holes are named
pub record AreNamed (ns : List (List ℕ × ℕ)) (old new : List Node) (ids : List TermId) : Type 0 where
  pub each : (i : ℕ) (d : TermId) → i < length ids → IsNamed ns new (slice_index_or ids i d) (tree_at old i)
