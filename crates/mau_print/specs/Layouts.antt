-- How each operator of a signature is written, by its form and by what else has its text.
use Rattle.std.specs.Prelude.{Some, None, ℕ, ◌+◌, ◌==◌, nat_lt, List, [], ◌∷◌, ◌++◌, Bool, ◌&&◌, ◌||◌, Option, length, map, filter, fold, count_by, bytes_eq, is_some, if◌then◌else◌}
use Rattle.std.specs.List.{list_any}
use Rattle.std.specs.Option.{option_map_or}
use Rattle.mau_numerals.specs.Numerals.{is_numeral}
use Rattle.mau_poset.specs.Order.{Hierarchy, kind_of}
use Rattle.mau_signature.specs.declared.decl.Decl.{Decl}
use Rattle.mau_signature.specs.declared.form.Piece.{Piece}
use Rattle.mau_signature.specs.declared.form.Piece.TheVariants.{Hole, Word}
use Rattle.mau_signature.specs.Form.{holes}
use Rattle.mau_signature.specs.Signature.{SignatureOf}
use Rattle.mau_grammar.specs.declared.sorts.SortName.{SortName}
use Rattle.mau_grammar.specs.Parts.{parts_in_order}
use Rattle.mau_grammar.specs.Productions.{argument_kinds, level}
use Rattle.mau_grammar.specs.Grammar.{GrammarOf}
use Rattle.mau_print.specs.declared.layout.Layout.{Layout}
use Rattle.mau_print.specs.declared.layout.Layout.TheVariants.{Constant, Prefix, Form, Chain}
use Rattle.mau_print.specs.Written.{Printed, joined}
use Rattle.mau_print.specs.Printed.{PrinterOf, unambiguous}

-- ---- texts that several things have

-- the words of a form
abbrev pub form_words : List Piece → List (List ℕ)
form_words [] = []
form_words (Hole ∷ ps) = form_words ps
form_words (Word w ∷ ps) = w ∷ form_words ps

-- a constant is its words, joined by one space
abbrev pub head_text : Decl → List ℕ
head_text d = joined (form_words d.form)

-- the text of an operator with these declarations, where it is a constant
abbrev pub constant_texts : List Decl → List (List ℕ)
constant_texts [] = []
constant_texts (d ∷ ds) = if length d.args == 0 then head_text d ∷ [] else []

abbrev pub all_constant_texts : List (List Decl) → List (List ℕ)
all_constant_texts [] = []
all_constant_texts (ds ∷ dss) = constant_texts ds ++ all_constant_texts dss

-- the texts of all constants, and the names of all declared variables
abbrev pub owned_texts : SignatureOf → GrammarOf → List (List ℕ)
owned_texts s g = all_constant_texts s.declarations ++ map (λ a. a.name) g.aliases

-- there are numerals, and the text is one
abbrev pub is_numeral_in : GrammarOf → List ℕ → Bool
is_numeral_in g w = is_some g.numerals && is_numeral w

-- the text of a constant is also that of another constant, of a declared variable or of a numeral
abbrev pub is_shared : GrammarOf → List (List ℕ) → List ℕ → Bool
is_shared g owned w = nat_lt 1 (count_by (bytes_eq w) owned) || is_numeral_in g w

-- the name of the first sort of a kind
abbrev pub first_name : List SortName → ℕ → Option (List ℕ)
first_name [] k = None
first_name (n ∷ ns) k = if n.kind == k then Some n.name else first_name ns k

abbrev pub first_sort_name : List SortName → ℕ → List ℕ
first_sort_name ns k = option_map_or (λ w. w) (first_name ns k) []

-- ---- layouts

abbrev pub as_constant : Printed → Layout
as_constant x = Constant x.level x.text

-- of an operator with this first declaration, where these are the texts of constants and variables
abbrev pub layout_by : Hierarchy → GrammarOf → List (List ℕ) → Decl → Layout
layout_by h g owned d =
    if length d.args == 0 then as_constant (unambiguous (is_shared g owned (head_text d)) (first_sort_name g.sorts (kind_of h d.result)) (head_text d))
    else (if holes d.form == 0 then Prefix (head_text d)
    else (if d.attrs.assoc then Chain (level d) (parts_in_order d (argument_kinds h d))
    else Form (level d) (parts_in_order d (argument_kinds h d))))

abbrev pub layout_of : Hierarchy → GrammarOf → List (List ℕ) → List Decl → Layout
layout_of h g owned [] = Constant 1 []
layout_of h g owned (d ∷ ds) = layout_by h g owned d

-- ---- all

-- the texts with w among them: at the end, unless it is there
abbrev pub with_text : List (List ℕ) → List ℕ → List (List ℕ)
with_text ws w = if list_any (bytes_eq w) ws then ws else ws ++ w ∷ []

-- what is known of a signature with its grammar, where the kinds have these names
abbrev pub printer_of : SignatureOf → GrammarOf → List (List ℕ) → PrinterOf
printer_of s g kinds = record {
  layouts = map (layout_of s.hierarchy g (owned_texts s g)) s.declarations;
  names = map (λ n. n.name) g.sorts ++ kinds;
  clashes = fold with_text [] (filter (is_numeral_in g) (owned_texts s g));
  numeral_sort = option_map_or (first_sort_name g.sorts) g.numerals [];
}
