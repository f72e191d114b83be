-- Texts that are put together from words and from terms that are printed.
use Rattle.std.specs.Prelude.{ℕ, List, [], ◌∷◌, ◌++◌, Bool, true, false, nat_le, codes, if◌then◌else◌}
use Rattle.mau_grammar.specs.declared.production.Part.{Part}
use Rattle.mau_grammar.specs.declared.production.Part.TheVariants.{Word, Hole as Place}

-- A term as it is printed. Its level is 0 in parentheses, and otherwise one more than its precedence.
pub record Printed : Type 0 where
  pub level : ℕ
  pub text : List ℕ

abbrev pub printed_as : ℕ → List ℕ → Printed
printed_as q w = record { level = q; text = w }

abbrev pub in_parentheses : List ℕ → List ℕ
in_parentheses w = codes "(" ++ (w ++ codes ")")

-- an argument at a place that admits levels up to this one: in parentheses exactly where its own is not admitted
abbrev pub guarded : ℕ → Printed → List ℕ
guarded upto x = if nat_le x.level upto then x.text else in_parentheses x.text

-- the words of a form, and the arguments at its places, in order
abbrev pub pieces : List Part → List Printed → List (List ℕ)
pieces [] xs = []
pieces (Word w ∷ ps) xs = w ∷ pieces ps xs
pieces (Place h ∷ ps) [] = pieces ps []
pieces (Place h ∷ ps) (x ∷ xs) = guarded h.upto x ∷ pieces ps xs

-- what stands before a piece
abbrev pub gap : Bool → List ℕ
gap is_first = if is_first then [] else codes " "

-- pieces in order, each behind one space; the first of them is the first of all, or not
abbrev pub spaced : Bool → List (List ℕ) → List ℕ
spaced is_first [] = []
spaced is_first (w ∷ ws) = gap is_first ++ (w ++ spaced false ws)

-- pieces, joined by one space
abbrev pub joined : List (List ℕ) → List ℕ
joined ws = spaced true ws

-- a form with arguments at its places
abbrev pub woven : List Part → List Printed → List ℕ
woven ps xs = joined (pieces ps xs)

-- a list under an associative form: one of three elements or more is its first element and, as second argument, the list of the others
abbrev pub nested : ℕ → List Part → List Printed → List ℕ
nested q ps [] = woven ps []
nested q ps (x ∷ []) = woven ps (x ∷ [])
nested q ps (x ∷ y ∷ []) = woven ps (x ∷ y ∷ [])
nested q ps (x ∷ y ∷ z ∷ zs) = woven ps (x ∷ printed_as q (nested q ps (y ∷ z ∷ zs)) ∷ [])

-- ---- arguments in parentheses

-- arguments in order, parted by a comma and a space; the first of them is the first of all, or not
abbrev pub comma : Bool → List ℕ
comma is_first = if is_first then [] else codes ", "

abbrev pub rest_texts : Bool → List Printed → List ℕ
rest_texts is_first [] = []
rest_texts is_first (x ∷ xs) = comma is_first ++ (x.text ++ rest_texts false xs)

abbrev pub comma_texts : List Printed → List ℕ
comma_texts xs = rest_texts true xs
