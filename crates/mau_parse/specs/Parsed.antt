-- What reading tokens gives: the term of the one tree, or why there is none.
use Rattle.std.specs.Prelude.{◌≡◌, ℕ, ◌<◌, ◌≤◌, List, length, true, false, Some, IsSome, slice_get}
use Rattle.mau_terms.specs.Tree.{Tree}
use Rattle.mau_terms.specs.declared.bare.Bare.{Bare}
use Rattle.mau_terms.specs.declared.bare.Bare.TheVariants.{Num}
use Rattle.mau_tokens.specs.declared.token.Token.{Token}
use Rattle.mau_grammar.specs.Grammar.{GrammarOf}
use Rattle.mau_grammar.specs.Leaves.{pairs_of}
use Rattle.mau_parse.specs.declared.goals.Goal.{Goal}
use Rattle.mau_parse.specs.declared.fault.ParseFault.{ParseFault}
use Rattle.mau_parse.specs.declared.fault.ParseFault.TheVariants.{NoParse, Ambiguous, TooManyTokens, NumberTooLarge, SuccessorTooLarge, NoMemory}
use Rattle.mau_parse.specs.TooLarge.{IsFirstTooLarge, AllSmall}
use Rattle.mau_parse.specs.Terms.{IsTermOf, AreTermsOf}
use Rattle.mau_parse.specs.Overflow.{overflows}
use Rattle.mau_parse.specs.Goal.{IsTree, IsOnlyTree, AreTwoTrees}

-- at most a thousand tokens; and where the grammar has numerals, none of them is too large
pub record IsReadable (g : GrammarOf) (ws : List (List ℕ)) : Type 0 where
  pub few : length ws ≤ 1000
  pub small : AllSmall g.numerals ws

-- the token i begins at this place
abbrev pub BeginsAt : List Token → ℕ → ℕ → Type 0
BeginsAt ts i at = (t : Token) × (slice_get ts i ≡ Some t) × (at ≡ t.start)

-- the term of the one tree, which nowhere has the successor over the greatest numeral; the variables of the item were `old` and are `new`
pub record IsParsed (g : GrammarOf) (ws : List (List ℕ)) (goal : Goal) (old new : List (List ℕ × ℕ)) (b : Bare) : Type 0 where
  pub readable : IsReadable g ws
  pub tree : Tree
  pub only : IsOnlyTree g ws goal tree
  pub small : overflows g.successors tree ≡ false
  pub term : IsTermOf (pairs_of g ws) old new tree b

-- ---- why there is no term

-- the tokens have no tree
pub record HasNoTree (g : GrammarOf) (ws : List (List ℕ)) (goal : Goal) : Type 0 where
  pub readable : IsReadable g ws
  pub none : (t : Tree) → IsTree g ws goal t → ⊥

-- they have two, which are these terms
pub record HasTwoTrees (g : GrammarOf) (ws : List (List ℕ)) (goal : Goal) (old : List (List ℕ × ℕ)) (a b : Bare) : Type 0 where
  pub readable : IsReadable g ws
  pub one : Tree
  pub other : Tree
  pub trees : AreTwoTrees g ws goal one other
  pub terms : AreTermsOf (pairs_of g ws) old one other a b

-- the token i is the first numeral that is too large
pub record HasLargeNumeral (g : GrammarOf) (ws : List (List ℕ)) (i : ℕ) : Type 0 where
  pub few : length ws ≤ 1000
  pub numerals : IsSome g.numerals
  pub first : IsFirstTooLarge ws i

-- the one tree has the successor over the greatest numeral
pub record HasLargeSuccessor (g : GrammarOf) (ws : List (List ℕ)) (goal : Goal) : Type 0 where
  pub readable : IsReadable g ws
  pub tree : Tree
  pub only : IsOnlyTree g ws goal tree
  pub large : overflows g.successors tree ≡ true

-- the fault of tokens that are readable, the first of which begins at this place
abbrev pub IsTreeFault : GrammarOf → List (List ℕ) → Goal → List (List ℕ × ℕ) → ℕ → ParseFault → Type 0
IsTreeFault g ws goal old at (NoParse n) = HasNoTree g ws goal × (n ≡ at)
IsTreeFault g ws goal old at (Ambiguous n a b) = HasTwoTrees g ws goal old a b × (n ≡ at)
IsTreeFault g ws goal old at (TooManyTokens n) = ⊥
IsTreeFault g ws goal old at (NumberTooLarge n) = ⊥
IsTreeFault g ws goal old at (SuccessorTooLarge n) = HasLargeSuccessor g ws goal × (n ≡ at)
IsTreeFault g ws goal old at NoMemory = Unit {0}

-- the fault of the tokens ts, which read ws
abbrev pub IsFault : GrammarOf → List Token → List (List ℕ) → Goal → List (List ℕ × ℕ) → ParseFault → Type 0
IsFault g ts ws goal old (NoParse at) = HasNoTree g ws goal × BeginsAt ts 0 at
IsFault g ts ws goal old (Ambiguous at a b) = HasTwoTrees g ws goal old a b × BeginsAt ts 0 at
IsFault g ts ws goal old (TooManyTokens n) = (n ≡ length ws) × (1000 < n)
IsFault g ts ws goal old (NumberTooLarge at) = (i : ℕ) × HasLargeNumeral g ws i × BeginsAt ts i at
IsFault g ts ws goal old (SuccessorTooLarge at) = HasLargeSuccessor g ws goal × BeginsAt ts 0 at
IsFault g ts ws goal old NoMemory = Unit {0}

-- a fault without the two trees of an ambiguity, in place of which others may be told
abbrev pub without_trees : ParseFault → ParseFault
without_trees (Ambiguous at a b) = Ambiguous at (Num 0) (Num 0)
without_trees f = f
