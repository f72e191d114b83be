-- What reading the text of a strategy gives.
use Rattle.std.specs.Prelude.{◌≡◌, ℕ, List, map}
use Rattle.mau_tokens.specs.declared.token.Token.{Token}
use Rattle.mau_tokens.specs.Laws.{text_of}
use Rattle.mau_shapes.specs.Words.{Words}
use Rattle.mau_shapes.specs.Shape.{Shape, IsTextOf}
use Rattle.mau_shapes.specs.Pieces.{pieces}
use Rattle.mau_shapes.specs.declared.pieces.Piece.{Piece}
use Rattle.mau_shapes.specs.declared.fault.ShapeFault.{ShapeFault}
use Rattle.mau_shapes.specs.declared.fault.ShapeFault.TheVariants.{Unexpected, NoMemory}

-- the words of some tokens of a text
abbrev pub words_of : List ℕ → List Token → Words
words_of bs ts = map (text_of bs) ts

-- the pieces of the shape that has this text
pub record ArePiecesOf (ws : Words) (ps : List Piece) : Type 0 where
  pub shape : Shape
  pub reads : IsTextOf ws shape
  pub pieces : ps ≡ pieces 0 shape

-- P holds of the place of a fault that is not want of memory
abbrev pub IfUnexpected : (ℕ → Type 0) → ShapeFault → Type 0
IfUnexpected P (Unexpected i) = P i
IfUnexpected P NoMemory = Unit {0}
