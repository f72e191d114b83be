-- Tables of sorts.
use Rattle.std.specs.Prelude.{◌≡◌, ℕ, List, Contains}
use Rattle.mau_terms.specs.Tree.{Tree}
use Rattle.mau_terms.specs.Norm.{norm}
use Rattle.mau_terms.specs.Bare.{IsBareIn}
use Rattle.mau_terms.specs.Reading.{reading}
use Rattle.mau_poset.specs.Order.{kind_of}
use Rattle.mau_signature.specs.Signature.{SignatureOf, theory_at, terms_over}
use Rattle.mau_store.specs.Node.{Node}
use Rattle.mau_sorts.specs.HasSort.{Known}
use Rattle.mau_sorts.specs.Table.{Table, AreOver}
use Rattle.mau_listing.specs.Asked.{IsTableOf, IsClosedTable}

-- the sort r is of the kind of t, where t is the normal form of a bare term
abbrev pub IsOfKind : SignatureOf → Tree → ℕ → Type 0
IsOfKind s t r = (k : ℕ) → norm (theory_at s) t ≡ t → IsBareIn (terms_over s) (reading (theory_at s) t) k → kind_of s.hierarchy r ≡ k

-- The entries say what sorts the terms of a store have by declarations and by something that is known besides, which gives terms sorts of their kinds; and where a
-- term is settled, its arguments are. An evaluator's table is one.
pub record IsSortTable (s : SignatureOf) (nodes : List Node) (table : Table) : Type 0 where
  pub known : Known
  pub declared : IsTableOf s known nodes table
  pub kinds : (t : Tree) (r : ℕ) → Contains known (t, r) → IsOfKind s t r
  pub over : AreOver s.hierarchy table
  pub closed : IsClosedTable nodes table
