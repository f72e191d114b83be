-- States: what is kept, over the nodes of a store.
use Rattle.std.specs.Prelude.{◌≡◌, List, Bool, true, false}
use Rattle.mau_store.specs.Node.{Node, Extends}
use Rattle.mau_sorts.specs.Table.{Table, KeepsEntries}
use Rattle.mau_api.specs.Meanings.{meanings_by}
use Rattle.mau_api.specs.Answers.{IsDerivedTable}
use Rattle.mau_settling.specs.Beginning.{AreIdentitiesSettled}
use Rattle.mau_reducer.specs.Basis.{Basis, IsBasis}

-- the table has the sorts that are derived by the program, with the budget of an item for each condition
abbrev pub IsOwnTable : Basis → List Node → Table → Type 0
IsOwnTable b nodes table = IsDerivedTable (meanings_by b.program b.hooks b.limit false) nodes table

-- what is gone by is right, and so is the table; where a settling has come to its end, the identities are settled
pub record IsFit (b : Basis) (nodes : List Node) (table : Table) (begun : Bool) : Type 0 where
  pub basis : IsBasis b
  pub derived : IsOwnTable b nodes table
  pub identities : begun ≡ true → AreIdentitiesSettled b.program.sig nodes table

-- the second state comes of the first one: the same is gone by, the store and the table have grown, and the table is still such a one; `begun` is the word of
-- the second one
pub record ComesOf (b b' : Basis) (old new : List Node) (before after : Table) (begun : Bool) : Type 0 where
  pub basis : b' ≡ b
  pub extends : Extends old new
  pub kept : KeepsEntries before after
  pub derived : IsOwnTable b new after
  pub identities : begun ≡ true → AreIdentitiesSettled b.program.sig new after
