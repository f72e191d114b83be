-- What a key stands for.
use Rattle.std.specs.Prelude.{List, Option, Some, None, map, String, string_bytes}
use Rattle.mau_signature.specs.declared.form.Piece.{Piece}
use Rattle.mau_signature.specs.declared.form.Piece.TheVariants.{Hole, Word}
use Rattle.mau_signature.specs.declared.names.Key.{Key}
use Rattle.mau_signature.specs.Names.{Operator}

abbrev pub piece_of : {Z : Type 0} → Option (String Z) → Piece
piece_of None = Hole
piece_of (Some word) = Word (string_bytes word)

abbrev pub pieces_of : {Z : Type 0} → List (Option (String Z)) → List Piece
pieces_of pieces = map piece_of pieces

abbrev pub operator_of_key : Key → Operator
operator_of_key key = record { form = pieces_of key.form.items; arguments = key.arguments.items; constant = key.constant }
