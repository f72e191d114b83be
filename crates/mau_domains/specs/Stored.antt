-- Parts over the terms of a store.
use Rattle.std.specs.Prelude.{◌≡◌, ◌++◌, ℕ, List, Option, None, Some, Bool, true, false, nat_lt, length, Vec}
use Rattle.std.specs.Option.{option_map}
use Rattle.mau_terms.specs.Tree.{Tree}
use Rattle.mau_terms.specs.Solution.{over_list, ArePieces}
use Rattle.mau_terms.specs.declared.ids.TermId.{TermId}
use Rattle.mau_signature.specs.Signature.{SignatureOf, IsOperator, theory_at}
use Rattle.mau_store.specs.Node.{Node, Extends}
use Rattle.mau_store.specs.Trees.{tree_at, trees_at}
use Rattle.mau_store.specs.View.{numbers}
use Rattle.mau_canon.specs.Within.{IsWithin}
use Rattle.mau_canon.specs.Standing.{StandsWithin, StandWithin}
use Rattle.mau_domains.specs.Parts.{Reach, whole, front, inside, Part, just, some_of}
use Rattle.mau_domains.specs.declared.part.Reach.{Reach as ReachOfCode}
use Rattle.mau_domains.specs.declared.part.Reach.TheVariants.{Whole, Front, Inside}
use Rattle.mau_domains.specs.declared.part.Part.{Part as PartOfCode}
use Rattle.mau_domains.specs.declared.part.Part.TheVariants.{One, ListOf}

-- ---- values of the code as parts

abbrev pub reach_of : ReachOfCode → Reach
reach_of Whole = whole
reach_of Front = front
reach_of Inside = inside

abbrev pub part_in : List Node → PartOfCode → Part
part_in nodes (One id) = just (tree_at nodes id.0)
part_in nodes (ListOf r op ids) = some_of (reach_of r) op.0 (trees_at nodes (numbers ids))

-- the tree of a term, if there is one
abbrev pub tree_in : List Node → Option TermId → Option Tree
tree_in nodes o = option_map (λ id. tree_at nodes id.0) o

-- the terms of a list, if there is one
abbrev pub list_in : {Z : Type 0} → List Node → Option (Vec TermId Z) → Option (List Tree)
list_in nodes o = option_map (λ v. trees_at nodes (numbers v.items)) o

-- there is a list, and it has one element or none
abbrev pub is_short_list : {Z : Type 0} → Option (Vec TermId Z) → Bool
is_short_list None = false
is_short_list (Some v) = nat_lt (length v.items) 2

-- ---- what is asked of parts

-- an operator of the signature that is associative
pub record IsListOperator (s : SignatureOf) (f : ℕ) : Type 0 where
  pub operator : IsOperator s f
  pub assoc : (theory_at s f).assoc ≡ true

-- the items are elements of the operator's lists and stand for normal forms within the limits, and so does the operator over all of them
pub record AreItems (s : SignatureOf) (nodes : List Node) (f : ℕ) (ids : List TermId) : Type 0 where
  pub stand : StandWithin (theory_at s) nodes (numbers ids)
  pub pieces : ArePieces (theory_at s) f (trees_at nodes (numbers ids))
  pub within : IsWithin (theory_at s) (over_list (theory_at s f) f (trees_at nodes (numbers ids)))

abbrev pub IsPartOver : SignatureOf → List Node → PartOfCode → Type 0
IsPartOver s nodes (One id) = StandsWithin (theory_at s) nodes id.0
IsPartOver s nodes (ListOf r op ids) = IsListOperator s op.0 × AreItems s nodes op.0 ids

-- ---- what is added

-- the store has grown, and these terms were added to those that were there
pub record AddsTerms (s : SignatureOf) (old new : List Node) (before after : List TermId) (more : List Tree) : Type 0 where
  pub extends : Extends old new
  pub within : StandWithin (theory_at s) new (numbers after)
  pub terms : trees_at new (numbers after) ≡ trees_at old (numbers before) ++ more
