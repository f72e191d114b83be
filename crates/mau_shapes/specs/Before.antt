-- The pieces that stand in a text before its first fault.
use Rattle.std.specs.Prelude.{◌≡◌, ◌⊎◌, ℕ, ◌+◌, ◌≤◌, ◌<◌, List, ◌++◌, length, take, All}
use Rattle.mau_shapes.specs.Words.{Words}
use Rattle.mau_shapes.specs.Shape.{Shape, IsTextOf}
use Rattle.mau_shapes.specs.Front.{IsFront}
use Rattle.mau_shapes.specs.Pieces.{pieces}
use Rattle.mau_shapes.specs.Machine.{pieces_found}
use Rattle.mau_shapes.specs.declared.pieces.Piece.{Piece}
use Rattle.mau_shapes.specs.declared.pieces.Piece.TheVariants.{Plain, Label, Variable, Value, Call, Argument, Test, Pattern, Fragment, Wrapper}

-- f are the words of the text before the first with which no strategy goes on; all of them, where there is no such word
pub record IsLongestFront (ws f : Words) : Type 0 where
  pub front : IsFront f
  pub more : Words
  pub begins : ws ≡ f ++ more
  pub longest : (f ≡ ws) ⊎ (IsFront (take (length f + 1) ws) → ⊥)

-- a name, a word or a part that is whole within the first n words; of what is made of strategies nothing is said
abbrev pub IsWhole : ℕ → Piece → Type 0
IsWhole n (Plain i) = i < n
IsWhole n (Label i) = i < n
IsWhole n (Call i) = i < n
IsWhole n (Test i) = i < n
IsWhole n (Wrapper i) = i < n
IsWhole n (Variable p) = p.end ≤ n
IsWhole n (Value p) = p.end ≤ n
IsWhole n (Argument p) = p.end ≤ n
IsWhole n (Pattern p) = p.end ≤ n
IsWhole n (Fragment p) = p.end ≤ n
IsWhole n _ = Unit {0}

-- one that isn't
abbrev pub IsBehind : ℕ → Piece → Type 0
IsBehind n (Plain i) = n ≤ i
IsBehind n (Label i) = n ≤ i
IsBehind n (Call i) = n ≤ i
IsBehind n (Test i) = n ≤ i
IsBehind n (Wrapper i) = n ≤ i
IsBehind n (Variable p) = n < p.end
IsBehind n (Value p) = n < p.end
IsBehind n (Argument p) = n < p.end
IsBehind n (Pattern p) = n < p.end
IsBehind n (Fragment p) = n < p.end
IsBehind n _ = Unit {0}

-- the pieces of a strategy that begins with the words f, as far as they are whole in these
pub record ArePiecesBefore (f : Words) (ps : List Piece) : Type 0 where
  pub shape : Shape
  pub more : Words
  pub reads : IsTextOf (f ++ more) shape
  pub rest : List Piece
  pub split : pieces 0 shape ≡ ps ++ rest
  pub whole : All (IsWhole (length f)) ps
  pub behind : All (IsBehind (length f)) rest

-- The pieces of a text before the first word with which no strategy goes on; all, where there is no such word. Several strategies may
-- begin so: where a name or a part ends directly before that word, it ends there, as the reader of the code has it.
pub record AreFirstPieces (ws : Words) (ps : List Piece) : Type 0 where
  pub front : Words
  pub longest : IsLongestFront ws front
  pub before : ArePiecesBefore front ps
  pub found : ps ≡ pieces_found ws
