-- Variables with the numbers of their values.
use Rattle.std.specs.Prelude.{◌≡◌, List, [], ◌∷◌, length, map}
use Rattle.mau_terms.specs.Tree.{Tree}
use Rattle.mau_terms.specs.Bare.{IsBareIn}
use Rattle.mau_terms.specs.Reading.{reading}
use Rattle.mau_terms.specs.Subst.{Variable}
use Rattle.mau_terms.specs.View.{variable_of}
use Rattle.mau_terms.specs.Solution.{HaveSorts}
use Rattle.mau_signature.specs.Signature.{SignatureOf, theory_at, terms_over}
use Rattle.mau_store.specs.Node.{Node}
use Rattle.mau_store.specs.Trees.{trees_at}
use Rattle.mau_store.specs.View.{numbers}
use Rattle.mau_canon.specs.Standing.{StandWithin}
use Rattle.mau_evaluation.specs.Evaluation.{Binding}
use Rattle.mau_reduce.specs.declared.binding.Binding.{Binding as Kept}

-- variables with the values in their places
abbrev pub paired : List Variable → List Tree → Binding
paired [] vs = []
paired (x ∷ xs) [] = []
paired (x ∷ xs) (v ∷ vs) = (x, v) ∷ paired xs vs

-- what a kept binding is over the nodes of a store
abbrev pub bound_in : List Node → Kept → Binding
bound_in nodes b = paired (map variable_of b.variables.items) (trees_at nodes (numbers b.values.items))

-- each value is of the kind of its variable's sort
abbrev pub HaveKinds : SignatureOf → List Variable → List Tree → Type 0
HaveKinds s xs vs = HaveSorts (λ r v. IsBareIn (terms_over s) (reading (theory_at s) v) ((terms_over s).kind_of r)) xs vs

-- the values are terms of their variables' kinds, one for each
pub record AreValues (s : SignatureOf) (nodes : List Node) (b : Kept) : Type 0 where
  pub one_each : length b.values.items ≡ length b.variables.items
  pub within : StandWithin (theory_at s) nodes (numbers b.values.items)
  pub kinds : HaveKinds s (map variable_of b.variables.items) (trees_at nodes (numbers b.values.items))
