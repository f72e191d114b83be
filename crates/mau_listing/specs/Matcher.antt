-- Solutions by trees, never by numbers of a store.
use Rattle.std.specs.Prelude.{List}
use Rattle.mau_terms.specs.Tree.{Tree}

-- a solution by normal forms: the lists of its left and its right context, and one value for each variable of the pattern, by first
-- occurrence
pub record Matcher : Type 0 where
  pub left : List Tree
  pub right : List Tree
  pub values : List Tree
