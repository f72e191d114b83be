-- Terms that are gathered in a list.
use Rattle.std.specs.Prelude.{ℕ, List}
use Rattle.mau_terms.specs.Tree.{Tree}
use Rattle.mau_terms.specs.Finite.{IsIn}
use Rattle.mau_terms.specs.declared.ids.TermId.{TermId}
use Rattle.mau_terms.specs.declared.theory.Theory.{Theory}
use Rattle.mau_store.specs.Node.{Node, Extends}
use Rattle.mau_store.specs.Trees.{trees_at}
use Rattle.mau_store.specs.View.{numbers}
use Rattle.mau_canon.specs.Standing.{StandWithin}

-- the store has grown, and all that P holds of was added to the terms that were there, which stay; each is a normal form within the
-- limits
pub record Gathers (th : ℕ → Theory) (old new : List Node) (before after : List TermId) (P : Tree → Type 0) : Type 0 where
  pub extends : Extends old new
  pub within : StandWithin th new (numbers after)
  pub kept : (t : Tree) → IsIn t (trees_at old (numbers before)) → IsIn t (trees_at new (numbers after))
  pub all : (t : Tree) → P t → IsIn t (trees_at new (numbers after))
