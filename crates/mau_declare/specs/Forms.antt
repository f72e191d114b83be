-- Forms of operators. Each token of a form is cut at its underscores: an underscore is a hole, and what stands between is a word. A
-- backquote before a special character, as `(`, makes that character a word.
use Rattle.std.specs.Prelude.{ℕ, ◌+◌, List, [], ◌∷◌, ◌++◌, Bool, true, false, ◌==◌, ◌&&◌, if◌then◌else◌, codes, drop, slice_index}
use Rattle.std.specs.List.{flat_map}
use Rattle.mau_tokens.specs.declared.token.Token.{Token}
use Rattle.mau_signature.specs.declared.form.Piece.{Piece}
use Rattle.mau_signature.specs.declared.form.Piece.TheVariants.{Hole, Word as OneWord}
use Rattle.mau_modtext.specs.Forms.{begins_special}
use Rattle.mau_modtext.specs.Word.{Word}
use Rattle.mau_declare.specs.Words.{token_text}

-- a backquote at a place stands before a special character
abbrev pub is_quote : List ℕ → ℕ → Bool
is_quote bs i = slice_index bs i == 96 && begins_special (drop (i + 1) bs)

-- a word that ends, unless it is empty
abbrev pub ended : List ℕ → List Piece
ended [] = []
ended (b ∷ bs) = OneWord (b ∷ bs) ∷ []

-- the pieces of the bytes of a token behind the word w so far; the flag says whether a backquote makes the first of them a word
abbrev pub cut : Bool → List ℕ → List ℕ → List Piece
cut is_quoted w [] = ended w
cut true w (b ∷ bs) = ended (w ++ b ∷ []) ++ cut false [] bs
cut false w (b ∷ bs) =
    if b == 95 then ended w ++ Hole ∷ cut false [] bs
    else (if b == 96 && begins_special bs then ended w ++ cut true [] bs
    else cut false (w ++ b ∷ []) bs)

abbrev pub pieces_of : List ℕ → List Piece
pieces_of t = cut false [] t

-- the form that tokens are
abbrev pub form_of : List Word → List Token → List Piece
form_of ws ts = flat_map (λ t. pieces_of (token_text ws t)) ts

-- an operator as it is named in a refusal: the pieces of its form, `_` for a hole, joined by nothing
abbrev pub piece_text : Piece → List ℕ
piece_text Hole = codes "_"
piece_text (OneWord w) = w

abbrev pub form_text : List Piece → List ℕ
form_text ps = flat_map piece_text ps
