-- Sorts that facts tell, and tables of sorts.
use Rattle.std.specs.Prelude.{◌≡◌, ◌<◌, ◌==◌, Bool, true, false, ℕ, List, [], ◌∷◌, Option, Some, None, if◌then◌else◌}
use Rattle.mau_terms.specs.Tree.{Tree}
use Rattle.mau_signature.specs.Signature.{SignatureOf}
use Rattle.mau_signature.specs.OverSignature.{IsTreeOver}
use Rattle.mau_store.specs.Node.{Node, IsOf}
use Rattle.mau_store.specs.Trees.{tree_at}
use Rattle.mau_sorts.specs.HasSort.{Known, HasSort}
use Rattle.mau_sorts.specs.Table.{Table, IsSettled, AreEntries, AreOver}
use Rattle.mau_check.specs.declared.said.Said.{Said}
use Rattle.mau_check.specs.declared.said.Said.TheVariants.{Leads, Sorted}

-- the sort that a fact tells of the term with a number
abbrev pub told_of : ℕ → Said → Option ℕ
told_of i (Leads e a b) = None
told_of i (Sorted a r) = if a.id.0 == i then Some r else None

abbrev pub tells_sort : Said → Bool
tells_sort (Leads e a b) = false
tells_sort (Sorted a r) = true

-- what facts tell are sorts
abbrev pub AreToldSorts : SignatureOf → List Said → Type 0
AreToldSorts s [] = Unit {0}
AreToldSorts s (Leads e a b ∷ xs) = AreToldSorts s xs
AreToldSorts s (Sorted a r ∷ xs) = (r < s.hierarchy.sorts) × AreToldSorts s xs

-- a table in which all terms over the signature are settled
pub record IsWholeTable (s : SignatureOf) (nodes : List Node) (table : Table) : Type 0 where
  pub over : AreOver s.hierarchy table
  pub settled : (i : ℕ) → IsOf nodes i → IsTreeOver s (tree_at nodes i) → IsSettled table i

-- a table of sorts by declarations alone
pub record IsPlainTable (s : SignatureOf) (nodes : List Node) (table : Table) : Type 0 where
  pub over : AreOver s.hierarchy table
  pub entries : AreEntries s [] nodes table

-- the table of what is known besides, where anything is
abbrev pub IsToldBy : SignatureOf → Known → List Node → Option Table → Type 0
IsToldBy s known nodes None = known ≡ []
IsToldBy s known nodes (Some table) = AreEntries s known nodes table

-- x leads by equations from the number i to a term of the sort r
abbrev pub EndsInSort : SignatureOf → List Node → Known → ℕ → ℕ → Said → Type 0
EndsInSort s nodes known i r (Leads e a b) = (e ≡ true) × (a.id.0 ≡ i) × HasSort s known (tree_at nodes b.id.0) r
EndsInSort s nodes known i r (Sorted a q) = ⊥
