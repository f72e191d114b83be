-- What the words of a strategy read as, or their first fault.
use Rattle.std.specs.Prelude.{◌⊎◌, ℕ, ◌<◌, ◌≤◌, List, length, false, if◌then◌else◌, nat_lt, Result, Ok, Err}
use Rattle.mau_program.specs.Trees.{StrategyOf}
use Rattle.mau_statement.specs.Parts.{Pairs}
use Rattle.mau_shapes.specs.Shape.{Shape, IsTextOf}
use Rattle.mau_shapes.specs.Front.{IsUnexpected}
use Rattle.mau_shapes.specs.Before.{AreFirstPieces}
use Rattle.mau_shapes.specs.Pieces.{pieces}
use Rattle.mau_shapes.specs.declared.pieces.Piece.{Piece}
use Rattle.mau_strattext.specs.Setting.{SettingOf, texts, start_at}
use Rattle.mau_strattext.specs.Reads.{ShapeReads}
use Rattle.mau_strattext.specs.Faults.{FirstFault, HasNoFault}
use Rattle.mau_strattext.specs.declared.fault.StratFault.{StratFault}
use Rattle.mau_strattext.specs.declared.fault.StratFault.TheVariants.{TooManyTokens, Unexpected, UnknownName, Parse, Arity, NoMemory}

-- the greatest number of words
abbrev pub most_words : ℕ
most_words = 1000

-- where a fault of names and terms stands
abbrev pub fault_place : StratFault → ℕ
fault_place (TooManyTokens n) = 0
fault_place (Unexpected at) = at
fault_place (UnknownName at) = at
fault_place (Parse at f) = at
fault_place (Arity at) = at
fault_place NoMemory = 0

-- ps are the pieces before the unexpected word at the place i, and their names and terms have no fault, or none before that word
pub record IsFirstUnexpected (s : SettingOf) (ns : Pairs) (i : ℕ) : Type 0 where
  pub unexpected : IsUnexpected (texts s) i
  pub pieces : List Piece
  pub before : AreFirstPieces (texts s) pieces
  pub no_other : HasNoFault s false pieces ns ⊎ ((f : StratFault) × FirstFault s false pieces ns f × (start_at s i ≤ fault_place f))

-- f is the fault of a name or a term before the unexpected word
pub record IsBeforeUnexpected (s : SettingOf) (ns : Pairs) (f : StratFault) : Type 0 where
  pub place : ℕ
  pub unexpected : IsUnexpected (texts s) place
  pub pieces : List Piece
  pub before : AreFirstPieces (texts s) pieces
  pub fault : FirstFault s false pieces ns f
  pub earlier : fault_place f < start_at s place

-- the words are a strategy; or they are too many, or have a first fault
pub data StrategyRead (s : SettingOf) (ns os : Pairs) : Result StrategyOf StratFault → Type 0 where
  reads : (e : Shape) (x : StrategyOf) → length s.words ≤ most_words → IsTextOf (texts s) e → ShapeReads s false 0 e ns os x → StrategyRead s ns os (Ok x)
  too_many : most_words < length s.words → StrategyRead s ns os (Err (TooManyTokens (length s.words)))
  in_strategy : (e : Shape) (f : StratFault) → length s.words ≤ most_words → IsTextOf (texts s) e → FirstFault s false (pieces 0 e) ns f
      → StrategyRead s ns os (Err f)
  before_unexpected : (f : StratFault) → length s.words ≤ most_words → IsBeforeUnexpected s ns f → StrategyRead s ns os (Err f)
  at_unexpected : (i : ℕ) → length s.words ≤ most_words → IsFirstUnexpected s ns i → StrategyRead s ns os (Err (Unexpected (start_at s i)))

-- a fault that says something: all but want of memory
abbrev pub IfTold : (StratFault → Type 0) → StratFault → Type 0
IfTold P NoMemory = Unit {0}
IfTold P f = P f

-- f, or that of the unexpected word at this place of the text where f isn't before it
abbrev pub earlier : ℕ → StratFault → StratFault
earlier at NoMemory = NoMemory
earlier at f = if nat_lt (fault_place f) at then f else Unexpected at
