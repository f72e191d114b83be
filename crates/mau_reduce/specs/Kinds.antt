-- Terms of a store by their kinds, and arguments of an operator.
use Rattle.std.specs.Prelude.{ℕ, List}
use Rattle.mau_terms.specs.Bare.{IsBareIn}
use Rattle.mau_terms.specs.Reading.{reading}
use Rattle.mau_signature.specs.Signature.{SignatureOf, IsOperator, theory_at, terms_over}
use Rattle.mau_store.specs.Node.{Node}
use Rattle.mau_store.specs.Trees.{tree_at, trees_at}
use Rattle.mau_canon.specs.Standing.{StandsWithin, StandWithin}
use Rattle.mau_trial.specs.Arguments.{AreArguments}

-- i is the number of a term of the kind k that may be evaluated: the normal form of a bare term, within the limits
pub record IsTermIn (s : SignatureOf) (nodes : List Node) (k i : ℕ) : Type 0 where
  pub within : StandsWithin (theory_at s) nodes i
  pub bare : IsBareIn (terms_over s) (reading (theory_at s) (tree_at nodes i)) k

-- the numbers of such terms that may stand under the operator f: each of the kind of its place, or two or more of the kind of the result where f is
-- associative
pub record AreUnder (s : SignatureOf) (nodes : List Node) (f : ℕ) (ids : List ℕ) : Type 0 where
  pub operator : IsOperator s f
  pub within : StandWithin (theory_at s) nodes ids
  pub kinds : AreArguments s f (trees_at nodes ids)
