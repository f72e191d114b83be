-- The leaves of some tokens in order: at each place the word, then the numeral, if it is one, and then the variables that begin there.
use Rattle.std.specs.Prelude.{ℕ, ◌+◌, List, [], ◌∷◌, ◌++◌, ◌≡◌, true, map, Option, Some, None, if◌then◌else◌}
use Rattle.std.specs.List.{list_any}
use Rattle.std.specs.Str.Parse.{digits_value}
use Rattle.mau_numerals.specs.Numerals.{is_numeral}
use Rattle.mau_terms.specs.Vars.{same_pair, place_of}
use Rattle.mau_grammar.specs.Grammar.{GrammarOf}
use Rattle.mau_grammar.specs.Leaves.{VariableReading, pair_of, readings_at}
use Rattle.mau_chart.specs.declared.grammar.Leaf.{Leaf}
use Rattle.mau_chart.specs.declared.grammar.Said.TheVariants.{Word as Silent, Var, Num}
use Rattle.mau_parse.specs.Words.{text_at}
use Rattle.mau_parse.specs.Charted.{word_number, kind_number, leaf}
use Rattle.mau_parse.specs.VariableIds.{var_id}

abbrev pub word_at : List (List ℕ) → ℕ → Leaf
word_at ws i = leaf (word_number ws (text_at ws i)) 0 i (i + 1) Silent

-- the numeral at i, where numerals have this kind
abbrev pub numerals_at : Option ℕ → List (List ℕ) → ℕ → List Leaf
numerals_at None ws i = []
numerals_at (Some k) ws i =
    if is_numeral (text_at ws i) then leaf (kind_number ws k) 1 i (i + 1) (Num (digits_value 10 (text_at ws i))) ∷ [] else []

-- a variable that begins at i, by its place among the pairs ps
abbrev pub variable_at : List (List ℕ) → List (List ℕ × ℕ) → ℕ → VariableReading → Leaf
variable_at ws ps i r = leaf (kind_number ws r.kind) 1 i r.end (Var (var_id (place_of ps (pair_of r)) r.sort))

-- the pair of the variable is one of these
abbrev pub IsKnown : List (List ℕ × ℕ) → VariableReading → Type 0
IsKnown ps r = list_any (same_pair (pair_of r)) ps ≡ true

abbrev pub leaves_at : GrammarOf → List (List ℕ) → List (List ℕ × ℕ) → ℕ → List Leaf
leaves_at g ws ps i = word_at ws i ∷ (numerals_at g.numerals ws i ++ map (variable_at ws ps i) (readings_at g ws i))
