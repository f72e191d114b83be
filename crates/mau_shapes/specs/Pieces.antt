-- The pieces of a shape, in the order of its text.
use Rattle.std.specs.Prelude.{ℕ, ◌+◌, List, [], ◌∷◌, ◌++◌, length, Option, Some, None}
use Rattle.mau_shapes.specs.Words.{Words}
use Rattle.mau_shapes.specs.Shape.{SuchThat, Use, Shape, plain, assigned, called, wrapped, within, tested, marked, joined, chosen, text}
use Rattle.mau_shapes.specs.declared.pieces.Part.{Part}
use Rattle.mau_shapes.specs.declared.pieces.Piece.{Piece}
use Rattle.mau_shapes.specs.declared.pieces.Piece.TheVariants.{Plain, Label, Variable, Value, Call, Argument, Called, Test, Pattern, Fragment, Wrapper, Wrapped, Marked, Joined, Chosen}

-- these words, which begin at the place i
abbrev pub part : ℕ → Words → Part
part i ws = record { start = i; end = i + length ws }

-- parts with a word between
abbrev pub term_pieces : ℕ → List Words → List Piece
term_pieces i [] = []
term_pieces i (t ∷ ts) = Argument (part i t) ∷ term_pieces (i + length t + 1) ts

abbrev pub fragment_pieces : ℕ → List Words → List Piece
fragment_pieces i [] = []
fragment_pieces i (t ∷ ts) = Fragment (part i t) ∷ fragment_pieces (i + length t + 1) ts

abbrev pub use_pieces : ℕ → List Use → List Piece
use_pieces i [] = []
use_pieces i (u ∷ us) = Variable (part i u.0) ∷ Value (part (i + length u.0 + 1) u.1) ∷ use_pieces (i + length u.0 + 1 + length u.1 + 1) us

abbrev pub such_pieces : ℕ → Option SuchThat → List Piece
such_pieces i None = []
such_pieces i (Some c) = fragment_pieces (i + length c.0) c.1

-- the pieces of a shape whose text begins at the place i
abbrev pub pieces : ℕ → Shape → List Piece
pieces i (plain w) = Plain i ∷ []
pieces i (assigned w us) = Label i ∷ use_pieces (i + 2) us
pieces i (called w ts) = Call i ∷ (term_pieces (i + 2) ts ++ Called ∷ [])
pieces i (wrapped w e) = Wrapper i ∷ (pieces (i + 2) e ++ Wrapped i ∷ [])
pieces i (within e) = pieces (i + 1) e
pieces i (tested w p c) = Test i ∷ Pattern (part (i + 1) p) ∷ such_pieces (i + 1 + length p) c
pieces i (marked e w) = pieces i e ++ Marked (i + length (text e)) ∷ []
pieces i (joined w e f) = pieces i e ++ (pieces (i + length (text e) + 1) f ++ Joined (i + length (text e)) ∷ [])
pieces i (chosen e f g) =
    pieces i e ++ (pieces (i + length (text e) + 1) f ++ (pieces (i + length (text e) + 1 + length (text f) + 1) g ++ Chosen ∷ []))
