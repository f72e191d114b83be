-- A program as the definitions see it: its signature, the sorts that declarations give, and its statements. Operators, sorts and kinds are
-- numbers; a kind counts as a sort that stands above the sorts in it.
use Rattle.std.specs.Prelude.{ℕ, Bool, List, Option}
use Rattle.mau_terms.specs.Tree.{Tree}
use Rattle.mau_terms.specs.Bare.{TermSignature}

-- a fragment of a condition
pub data Fragment : Type 0 where
  -- t = u: both have one value
  equals : Tree → Tree → Fragment
  -- p := u: the pattern p matches the value of u
  matches : Tree → Tree → Fragment
  -- t : s: the value of t has the sort s
  has_sort : Tree → ℕ → Fragment
  -- t => u: rules lead from t to u; no condition with such a fragment is solved here
  reaches : Tree → Tree → Fragment

-- eq left = right if cond [owise] [nonexec]
pub record Equation : Type 0 where
  pub left : Tree
  pub right : Tree
  pub cond : List Fragment
  pub owise : Bool
  pub exec : Bool

-- mb left : sort if cond [nonexec]
pub record Membership : Type 0 where
  pub left : Tree
  pub sort : ℕ
  pub cond : List Fragment
  pub exec : Bool

-- rl [label] : left => right if cond [nonexec]
pub record Rule : Type 0 where
  -- the bytes of the label, if there is one
  pub label : Option (List ℕ)
  -- the name, as bytes, and the sort of each of its variables, by index
  pub vars : List (List ℕ × ℕ)
  pub left : Tree
  pub right : Tree
  pub cond : List Fragment
  pub exec : Bool

-- what a built-in answers
pub data Answer : Type 0 where
  -- it doesn't apply
  no_value : Answer
  value : Tree → Answer
  -- the value is a numeral greater than the greatest
  too_large : Answer

-- the built-in of an operator
pub data BuiltIn : Type 0 where
  -- a function of two numerals
  on_numerals : (ℕ → ℕ → Answer) → BuiltIn
  -- if c then t else u fi, by what stands for true and for false
  choice : Tree → Tree → BuiltIn
  -- whether two terms are equal modulo the axioms: the answers where they are and where they are not
  equality : Tree → Tree → BuiltIn

pub record Program : Type 0 where
  pub sign : TermSignature
  -- the sorts at and above one, its kind among them
  pub above : ℕ → List ℕ
  -- the sorts of a numeral
  pub numeral_sorts : ℕ → List ℕ
  -- the sorts that the declarations of an operator give over arguments with these sorts: the results of those that apply, all above them, and the
  -- kind; under a commutative operator the arguments may be swapped, and a list of an associative one counts as nested to the right
  pub declared : ℕ → List (List ℕ) → List ℕ
  -- the statements in module order
  pub equations : List Equation
  pub memberships : List Membership
  pub rules : List Rule
  -- the strategy of an operator: the numbers, from 0, of the arguments that are evaluated, in that order. Of an associative operator all elements
  -- are evaluated, or none where it is empty
  pub strat : ℕ → List ℕ
  -- whether an argument, by its number, is frozen: no rule is applied in it
  pub frozen : ℕ → ℕ → Bool
  -- the built-in of an operator, if it has one
  pub built_in : ℕ → Option BuiltIn
  -- the identities in the order of their operators
  pub units : List Tree
