-- How a term is printed, where it is known how each operator is written.
use Rattle.std.specs.Prelude.{ℕ, ◌-◌, List, [], ◌∷◌, ◌++◌, Bool, Option, slice_get, nat_eq, codes, decimal, bytes_eq, if◌then◌else◌}
use Rattle.std.specs.List.{list_any}
use Rattle.std.specs.Option.{option_map_or}
use Rattle.mau_terms.specs.Tree.{Tree, variable, numeral, apply, Trees, no_trees, tree}
use Rattle.mau_print.specs.declared.layout.Layout.{Layout}
use Rattle.mau_print.specs.declared.layout.Layout.TheVariants.{Constant, Prefix, Form, Chain}
use Rattle.mau_print.specs.Written.{Printed, printed_as, in_parentheses, woven, nested, comma_texts}

-- what has to be known of a module
pub record PrinterOf : Type 0 where
  -- how each operator is written, in the order of their numbers
  pub layouts : List Layout
  -- the names of sorts and kinds by their numbers
  pub names : List (List ℕ)
  -- the numerals that are also the text of a constant or a declared variable
  pub clashes : List (List ℕ)
  -- the name of the first sort of the numerals' kind
  pub numeral_sort : List ℕ

-- names and sorts of the variables of an item
abbrev pub Pairs : Type 0
Pairs = List (List ℕ × ℕ)

-- ---- variables and numerals

-- the name of the variable with this index and sort; one that isn't there has none
abbrev pub variable_name : Pairs → ℕ → ℕ → List ℕ
variable_name ns i s = option_map_or (λ p. if nat_eq p.1 s then p.0 else []) (slice_get ns i) []

-- the name of a sort or a kind
abbrev pub name_of : PrinterOf → ℕ → List ℕ
name_of p s = option_map_or (λ w. w) (slice_get p.names s) []

-- with its sort, or the name of its kind
abbrev pub variable_text : PrinterOf → Pairs → ℕ → ℕ → List ℕ
variable_text p ns i s = variable_name ns i s ++ (codes ":" ++ name_of p s)

-- `(t).S`
abbrev pub with_sort : List ℕ → List ℕ → List ℕ
with_sort w sort = in_parentheses w ++ (codes "." ++ sort)

-- what could be taken for another constant, a numeral or a declared variable has its sort behind it, and is admitted everywhere
abbrev pub unambiguous : Bool → List ℕ → List ℕ → Printed
unambiguous is_also sort w = if is_also then printed_as 0 (with_sort w sort) else printed_as 1 w

abbrev pub is_clash : PrinterOf → ℕ → Bool
is_clash p n = list_any (bytes_eq (decimal n)) p.clashes

abbrev pub numeral_printed : PrinterOf → ℕ → Printed
numeral_printed p n = unambiguous (is_clash p n) p.numeral_sort (decimal n)

-- ---- operators

-- an operator that is written in this way over arguments
abbrev pub over : Layout → List Printed → Printed
over (Constant q w) xs = printed_as q w
over (Prefix w) xs = printed_as 1 (w ++ in_parentheses (comma_texts xs))
over (Form q ps) xs = printed_as q (woven ps xs)
over (Chain q ps) xs = printed_as q (nested q ps xs)

-- the level of what it makes
abbrev pub level_by : Layout → ℕ
level_by (Constant q w) = q
level_by (Prefix w) = 1
level_by (Form q ps) = q
level_by (Chain q ps) = q

abbrev pub layout_at : PrinterOf → ℕ → Option Layout
layout_at p f = slice_get p.layouts (f - 1)

-- ---- terms

abbrev mutual
  pub printed : PrinterOf → Pairs → Tree → Printed
  printed p ns (variable i s) = printed_as 1 (variable_text p ns i s)
  printed p ns (numeral n) = numeral_printed p n
  printed p ns (apply f ts) = option_map_or (λ l. over l (all_printed p ns ts)) (layout_at p f) (printed_as 1 [])

  pub all_printed : PrinterOf → Pairs → Trees → List Printed
  all_printed p ns no_trees = []
  all_printed p ns (tree t ts) = printed p ns t ∷ all_printed p ns ts

-- the text of a term, by its normal form
abbrev pub shown : PrinterOf → Pairs → Tree → List ℕ
shown p ns t = (printed p ns t).text
