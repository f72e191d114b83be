-- What a subject can take as an argument of an operator.
use Rattle.std.specs.Prelude.{◌≡◌, ℕ, ◌≤◌, List, length, map, true}
use Rattle.mau_terms.specs.Tree.{Tree}
use Rattle.mau_terms.specs.Norm.{norm}
use Rattle.mau_terms.specs.Bare.{TermSignature, IsBare, EqualModulo}
use Rattle.mau_terms.specs.Finite.{IsIn}
use Rattle.mau_terms.specs.Reading.{nest}

-- f over some list of bare arguments, with v among them, is equal to the subject t; under an associative f the list is nested
-- and has two arguments or more
pub record CanTake (s : TermSignature) (f : ℕ) (t v : Tree) : Type 0 where
  pub arguments : List Tree
  pub two_at_least : (s.theory f).assoc ≡ true → 2 ≤ length arguments
  pub taken : IsIn v arguments
  pub equal : EqualModulo s (nest (s.theory f).assoc f arguments) t

-- the same of normal forms: t is the normal form of the whole, and v that of an argument
pub record CanTakeNormal (s : TermSignature) (f : ℕ) (t v : Tree) : Type 0 where
  pub arguments : List Tree
  pub two_at_least : (s.theory f).assoc ≡ true → 2 ≤ length arguments
  pub bare : IsBare s (nest (s.theory f).assoc f arguments)
  pub taken : IsIn v (map (norm s.theory) arguments)
  pub whole : norm s.theory (nest (s.theory f).assoc f arguments) ≡ t
