-- The parts in which a term of an operator is written: with the words and arguments of its form in order, or in prefix form.
use Rattle.std.specs.Prelude.{ℕ, ◌+◌, ◌==◌, List, [], ◌∷◌, ◌++◌, Bool, true, false, Option, Some, None, codes, bytes_eq, get_or, if◌then◌else◌}
use Rattle.std.specs.List.{list_any}
use Rattle.std.specs.Option.{option_map}
use Rattle.mau_signature.specs.declared.form.Piece.{Piece}
use Rattle.mau_signature.specs.declared.form.Piece.TheVariants.{Hole, Word}
use Rattle.mau_signature.specs.declared.decl.Decl.{Decl}
use Rattle.mau_signature.specs.Form.{is_hole, holes}
use Rattle.mau_grammar.specs.declared.production.Part.{Part}
use Rattle.mau_grammar.specs.Production.{word, place, any}
use Rattle.mau_grammar.specs.Precedence.{upto}

-- ---- words and arguments in order

-- a piece of the form of d, whose arguments have the kinds ks; n holes stand before it
abbrev pub part_of : Decl → List ℕ → Piece → ℕ → Part
part_of d ks (Word w) n = word w
part_of d ks Hole n = place (get_or ks n 0) (upto d n)

abbrev pub parts_from : Decl → List ℕ → List Piece → ℕ → List Part
parts_from d ks [] n = []
parts_from d ks (p ∷ ps) n = part_of d ks p n ∷ parts_from d ks ps (if is_hole p then n + 1 else n)

abbrev pub parts_in_order : Decl → List ℕ → List Part
parts_in_order d ks = parts_from d ks d.form 0

-- ---- the name in a prefix form

-- one of the seven characters that are tokens of their own
abbrev pub is_special : List ℕ → Bool
is_special w = list_any (bytes_eq w) (codes "(" ∷ codes ")" ∷ codes "[" ∷ codes "]" ∷ codes "{" ∷ codes "}" ∷ codes "," ∷ [])

-- The one token that is cut into these pieces: a hole is an underscore, and a special character has a backquote before it. Two
-- words side by side have none, where neither is such a character. `name` is that of the pieces before, and the flag says whether
-- the last of them is a word.
abbrev pub name_from : List ℕ → Bool → List Piece → Option (List ℕ)
name_from name after_word [] = Some name
name_from name after_word (Hole ∷ ps) = name_from (name ++ codes "_") false ps
name_from name after_word (Word w ∷ ps) =
    if is_special w then name_from (name ++ (codes "`" ++ w)) false ps
    else (if after_word then None else name_from (name ++ w) true ps)

abbrev pub prefix_name : List Piece → Option (List ℕ)
prefix_name form = name_from [] false form

-- the words of a form
abbrev pub words_of : List Piece → List Part
words_of [] = []
words_of (Hole ∷ ps) = words_of ps
words_of (Word w ∷ ps) = word w ∷ words_of ps

abbrev pub one_word : List ℕ → List Part
one_word w = word w ∷ []

-- what stands before the parentheses of a prefix form: the words of a form without holes, and else the one token
abbrev pub head_of : List Piece → Option (List Part)
head_of form = if holes form == 0 then Some (words_of form) else option_map one_word (prefix_name form)

-- ---- arguments in parentheses

-- what stands before an argument
abbrev pub mark_of : Bool → List ℕ
mark_of is_first = if is_first then codes "(" else codes ","

-- terms of these kinds, each behind its mark; the first of them is the first argument, or not
abbrev pub listed : Bool → List ℕ → List Part
listed is_first [] = []
listed is_first (k ∷ ks) = word (mark_of is_first) ∷ any k ∷ listed false ks

abbrev pub in_parentheses : List ℕ → List Part
in_parentheses ks = listed true ks ++ word (codes ")") ∷ []
