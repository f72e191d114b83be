-- The words of a term's text. They are those of its normal form; the text has them one behind the other, some of them parted by spaces.
use Rattle.std.specs.Prelude.{ℕ, ◌-◌, ◌==◌, nat_lt, List, [], ◌∷◌, ◌++◌, Bool, true, false, codes, decimal, length, map, slice_get, if◌then◌else◌}
use Rattle.std.specs.Option.{option_map_or}
use Rattle.mau_poset.specs.Order.{kind_of}
use Rattle.mau_terms.specs.Tree.{Tree, variable, numeral, apply, Trees, no_trees, tree}
use Rattle.mau_signature.specs.declared.decl.Decl.{Decl}
use Rattle.mau_signature.specs.Form.{holes}
use Rattle.mau_signature.specs.Signature.{SignatureOf, declarations_at}
use Rattle.mau_grammar.specs.declared.production.Part.{Part}
use Rattle.mau_grammar.specs.Parts.{parts_in_order}
use Rattle.mau_grammar.specs.Productions.{argument_kinds, level}
use Rattle.mau_grammar.specs.Grammar.{GrammarOf}
use Rattle.mau_print.specs.Printed.{PrinterOf, Pairs, variable_name, name_of, is_clash}
use Rattle.mau_print.specs.Layouts.{form_words, head_text, owned_texts, is_shared, first_sort_name, printer_of}
use Rattle.mau_print.specs.Words.{Phrase, phrase, enclosed_words, with_mark, woven_words}

-- ---- what the words are taken from

-- names, parted by commas
abbrev pub comma_names : List (List ℕ) → List ℕ
comma_names [] = []
comma_names (w ∷ []) = w
comma_names (w ∷ v ∷ vs) = w ++ (codes "," ++ comma_names (v ∷ vs))

-- the name of a kind, by the names of sorts that stand for it
abbrev pub kind_name : List (List ℕ) → List ℕ
kind_name ws = codes "[" ++ (comma_names ws ++ codes "]")

-- a signature with its grammar, and for each of its kinds, in order, the names of the sorts that stand for it
pub record Source : Type 0 where
  pub signature : SignatureOf
  pub grammar : GrammarOf
  pub kind_sorts : List (List (List ℕ))

-- how its terms are printed
abbrev pub printer_for : Source → PrinterOf
printer_for x = printer_of x.signature x.grammar (map kind_name x.kind_sorts)

-- ---- variables and numerals

-- the words of a kind's name behind the bracket
abbrev pub kind_words : List (List ℕ) → List (List ℕ)
kind_words [] = codes "]" ∷ []
kind_words (w ∷ []) = w ∷ codes "]" ∷ []
kind_words (w ∷ v ∷ vs) = w ∷ codes "," ∷ kind_words (v ∷ vs)

-- a name with a sort is one word; with a kind the name of the kind has words of its own
abbrev pub variable_words : Source → List ℕ → ℕ → List (List ℕ)
variable_words x name s =
    if nat_lt s x.signature.hierarchy.sorts then (name ++ (codes ":" ++ name_of (printer_for x) s)) ∷ []
    else option_map_or (λ ws. (name ++ codes ":") ∷ codes "[" ∷ kind_words ws) (slice_get x.kind_sorts (s - x.signature.hierarchy.sorts)) ((name ++ codes ":") ∷ [])

abbrev pub unambiguous_words : Bool → List ℕ → List (List ℕ) → Phrase
unambiguous_words is_also sort ws = if is_also then phrase 0 (with_mark ws sort) else phrase 1 ws

abbrev pub numeral_words : Source → ℕ → Phrase
numeral_words x n = unambiguous_words (is_clash (printer_for x) n) (printer_for x).numeral_sort (decimal n ∷ [])

-- ---- operators

abbrev pub constant_words : Source → Decl → Phrase
constant_words x d =
    unambiguous_words (is_shared x.grammar (owned_texts x.signature x.grammar) (head_text d)) (first_sort_name x.grammar.sorts (kind_of x.signature.hierarchy d.result)) (form_words d.form)

-- what stands before an argument in parentheses; the first of them has nothing
abbrev pub comma_words : Bool → List (List ℕ)
comma_words is_first = if is_first then [] else codes "," ∷ []

-- arguments in order, parted by commas; the first of them is the first of all, or not
abbrev pub rest_words : Bool → List Phrase → List (List ℕ)
rest_words is_first [] = []
rest_words is_first (x ∷ xs) = comma_words is_first ++ (x.words ++ rest_words false xs)

-- a list under an associative form: one of three elements or more is its first element and, as second argument, the list of the others
abbrev pub nested_words : ℕ → List Part → List Phrase → List (List ℕ)
nested_words q ps [] = woven_words ps []
nested_words q ps (x ∷ []) = woven_words ps (x ∷ [])
nested_words q ps (x ∷ y ∷ []) = woven_words ps (x ∷ y ∷ [])
nested_words q ps (x ∷ y ∷ z ∷ zs) = woven_words ps (x ∷ phrase q (nested_words q ps (y ∷ z ∷ zs)) ∷ [])

abbrev pub form_parts : Source → Decl → List Part
form_parts x d = parts_in_order d (argument_kinds x.signature.hierarchy d)

-- an operator, by its first declaration, over arguments
abbrev pub words_by : Source → Decl → List Phrase → Phrase
words_by x d xs =
    if length d.args == 0 then constant_words x d
    else (if holes d.form == 0 then phrase 1 (form_words d.form ++ enclosed_words (rest_words true xs))
    else (if d.attrs.assoc then phrase (level d) (nested_words (level d) (form_parts x d) xs)
    else phrase (level d) (woven_words (form_parts x d) xs)))

abbrev pub words_over : Source → List Decl → List Phrase → Phrase
words_over x [] xs = phrase 1 []
words_over x (d ∷ ds) xs = words_by x d xs

-- ---- terms

abbrev mutual
  pub worded : Source → Pairs → Tree → Phrase
  worded x ns (variable i s) = phrase 1 (variable_words x (variable_name ns i s) s)
  worded x ns (numeral n) = numeral_words x n
  worded x ns (apply f ts) = words_over x (declarations_at x.signature f) (all_worded x ns ts)

  pub all_worded : Source → Pairs → Trees → List Phrase
  all_worded x ns no_trees = []
  all_worded x ns (tree t ts) = worded x ns t ∷ all_worded x ns ts
