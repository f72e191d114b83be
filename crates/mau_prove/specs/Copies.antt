-- The terms of a store in another one.
use Rattle.std.specs.Prelude.{◌≡◌, ◌<◌, ℕ, List, length, slice_index_or}
use Rattle.mau_terms.specs.declared.ids.TermId.{TermId}
use Rattle.mau_store.specs.Node.{Node, IsOf}
use Rattle.mau_store.specs.Trees.{tree_at}

-- ids are the numbers of the first terms of a store in another one
pub record AreCopies (old new : List Node) (ids : List TermId) : Type 0 where
  pub there : (i : ℕ) (d : TermId) → i < length ids → IsOf new (slice_index_or ids i d).0
  pub trees : (i : ℕ) (d : TermId) → i < length ids → tree_at new (slice_index_or ids i d).0 ≡ tree_at old i
