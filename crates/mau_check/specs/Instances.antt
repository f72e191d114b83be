-- Values of variables.
use Rattle.std.specs.Prelude.{◌≡◌, ℕ, List, true, length, map}
use Rattle.mau_poset.specs.Order.{kind_of}
use Rattle.mau_terms.specs.Tree.{Tree}
use Rattle.mau_terms.specs.Norm.{norm}
use Rattle.mau_terms.specs.Bare.{IsBareIn}
use Rattle.mau_terms.specs.Solution.{HaveSorts}
use Rattle.mau_signature.specs.Signature.{SignatureOf, theory_at, terms_over}
use Rattle.mau_store.specs.Node.{Node}
use Rattle.mau_store.specs.Trees.{trees_at}
use Rattle.mau_store.specs.View.{numbers}
use Rattle.mau_logic.specs.Says.{Says}
use Rattle.mau_logic.specs.Shown.{LeadsTo, HasSortBy}
use Rattle.mau_check.specs.Variables.{variables_in}
use Rattle.mau_check.specs.declared.instances.Values.{Values}

-- the numbers stand for the terms vs
abbrev pub AreValuesOf : SignatureOf → List Node → Values → List Tree → Type 0
AreValuesOf s nodes x vs = trees_at nodes (numbers x.ids.items) ≡ map (norm (theory_at s)) vs

-- and each term lies in the kind of its variable
pub record AreBound (s : SignatureOf) (nodes : List Node) (x : Values) (vs : List Tree) : Type 0 where
  pub values : AreValuesOf s nodes x vs
  pub kinds : HaveSorts (λ r v. IsBareIn (terms_over s) v (kind_of s.hierarchy r)) (variables_in x.variables.items) vs

-- the values of variables: as many, each of its variable's sort by declarations and by what facts tell
pub record IsBinding (s : SignatureOf) (nodes : List Node) (us : List Says) (vs : List Tree) (x : Values) : Type 0 where
  pub one_each : length vs ≡ length (variables_in x.variables.items)
  pub sorted : HaveSorts (HasSortBy s us) (variables_in x.variables.items) vs
  pub bound : AreBound s nodes x vs

-- facts lead by equations from both terms to one
abbrev pub ShowsEqual : SignatureOf → List Says → Tree → Tree → Type 0
ShowsEqual s us t u = (v : Tree) × LeadsTo s us true t v × LeadsTo s us true u v

-- facts lead by equations from the term to one of a sort
abbrev pub ShowsSort : SignatureOf → List Says → ℕ → Tree → Type 0
ShowsSort s us r t = (v : Tree) × LeadsTo s us true t v × HasSortBy s us r v
