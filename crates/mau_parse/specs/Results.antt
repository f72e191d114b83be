-- Why the one tree is no term.
use Rattle.std.specs.Prelude.{◌≡◌, ℕ, List, true}
use Rattle.mau_terms.specs.Tree.{Tree}
use Rattle.mau_parse.specs.declared.fault.ParseFault.{ParseFault}
use Rattle.mau_parse.specs.declared.fault.ParseFault.TheVariants.{NoParse, Ambiguous, TooManyTokens, NumberTooLarge, SuccessorTooLarge, NoMemory}
use Rattle.mau_parse.specs.Overflow.{overflows}

-- the tree t has the successor over the greatest numeral, where ss are the operators that are the successor
abbrev pub IsLargeSuccessor : List ℕ → Tree → ℕ → ParseFault → Type 0
IsLargeSuccessor ss t at (NoParse n) = ⊥
IsLargeSuccessor ss t at (Ambiguous n a b) = ⊥
IsLargeSuccessor ss t at (TooManyTokens n) = ⊥
IsLargeSuccessor ss t at (NumberTooLarge n) = ⊥
IsLargeSuccessor ss t at (SuccessorTooLarge n) = (n ≡ at) × (overflows ss t ≡ true)
IsLargeSuccessor ss t at NoMemory = Unit {0}
