-- Forms of operators, and when two of them are one.
use Rattle.std.specs.Prelude.{ℕ, List, Bool, true, false, bytes_eq, count_by}
use Rattle.std.specs.Cmp.Lexicographic.{pointwise}
use Rattle.mau_signature.specs.declared.form.Piece.{Piece}
use Rattle.mau_signature.specs.declared.form.Piece.TheVariants.{Hole, Word}

abbrev pub is_hole : Piece → Bool
is_hole Hole = true
is_hole (Word w) = false

-- how many holes a form has
abbrev pub holes : List Piece → ℕ
holes form = count_by is_hole form

-- the two are one piece
abbrev pub same_piece : Piece → Piece → Bool
same_piece Hole Hole = true
same_piece (Word v) (Word w) = bytes_eq v w
same_piece Hole (Word w) = false
same_piece (Word v) Hole = false

-- the two are one form: the same pieces in the same order
abbrev pub same_form : List Piece → List Piece → Bool
same_form = pointwise same_piece
