-- Marks of a store's terms that may hold a hole.
use Rattle.std.specs.Prelude.{◌≡◌, ◌<◌, ℕ, List, Bool, true, false, length, slice_index_or}
use Rattle.mau_terms.specs.Tree.{Tree}
use Rattle.mau_store.specs.Node.{Node, IsOf}
use Rattle.mau_store.specs.Trees.{tree_at}
use Rattle.mau_api.specs.Terms.{fill}

-- nothing can be filled into t
abbrev pub HasNoHole : Tree → Type 0
HasNoHole t = (u : Tree) → fill t u ≡ t

-- each mark is that of the term with its number; what is not marked has no hole
abbrev pub AreMarks : List Node → List Bool → Type 0
AreMarks nodes marks = (i : ℕ) → i < length marks → IsOf nodes i × (slice_index_or marks i true ≡ false → HasNoHole (tree_at nodes i))
