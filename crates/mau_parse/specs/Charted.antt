-- Words, productions and leaves as a chart takes them. A word is a kind of its own: the place of the first token that reads it, or the
-- number of tokens where none does. The kinds of terms have the numbers behind that.
use Rattle.std.specs.Prelude.{◌≡◌, ℕ, ◌+◌, List, [], ◌∷◌, length, true, Some, bytes_eq, slice_get, if◌then◌else◌}
use Rattle.std.specs.Str.Parse.{digits_value}
use Rattle.mau_numerals.specs.Numerals.{is_numeral}
use Rattle.mau_grammar.specs.declared.production.Part.{Part}
use Rattle.mau_grammar.specs.declared.production.Part.TheVariants.{Word, Hole as Place}
use Rattle.mau_grammar.specs.declared.production.Production.{Production as Written}
use Rattle.mau_grammar.specs.Grammar.{GrammarOf}
use Rattle.mau_grammar.specs.Leaves.{VariableReading, pair_of, readings_at, pairs_of}
use Rattle.mau_parse.specs.VariableIds.{var_id}
use Rattle.mau_chart.specs.declared.grammar.Piece.{Piece}
use Rattle.mau_chart.specs.declared.grammar.Production.{Production}
use Rattle.mau_chart.specs.declared.grammar.Leaf.{Leaf}
use Rattle.mau_chart.specs.declared.grammar.Said.{Said}
use Rattle.mau_chart.specs.declared.grammar.Said.TheVariants.{Word as Silent, Var, Num}

-- the number of a word: the place of the first token that reads it, or the number of tokens
abbrev pub word_number : List (List ℕ) → List ℕ → ℕ
word_number [] w = 0
word_number (v ∷ ws) w = if bytes_eq v w then 0 else word_number ws w + 1

-- the number of a kind of terms
abbrev pub kind_number : List (List ℕ) → ℕ → ℕ
kind_number ws k = length ws + 1 + k

-- ---- productions

abbrev pub IsPieceOf : List (List ℕ) → Part → Piece → Type 0
IsPieceOf ws (Word w) c = c.kind ≡ word_number ws w
IsPieceOf ws (Place h) c = (c.kind ≡ kind_number ws h.kind) × (c.upto ≡ h.upto)

abbrev pub ArePiecesOf : List (List ℕ) → List Part → List Piece → Type 0
ArePiecesOf ws [] [] = Unit {0}
ArePiecesOf ws [] (c ∷ cs) = ⊥
ArePiecesOf ws (p ∷ ps) [] = ⊥
ArePiecesOf ws (p ∷ ps) (c ∷ cs) = IsPieceOf ws p c × ArePiecesOf ws ps cs

pub record IsFormOf (ws : List (List ℕ)) (p : Written) (q : Production) : Type 0 where
  pub kind : q.kind ≡ kind_number ws p.kind
  pub level : q.level ≡ p.level
  pub op : q.op ≡ p.op
  pub pieces : ArePiecesOf ws p.parts q.pieces.items

-- a word of these that the text has
abbrev pub IsThere : List (List ℕ) → Part → Type 0
IsThere ws (Word w) = (i : ℕ) × (slice_get ws i ≡ Some w)
IsThere ws (Place h) = Unit {0}

-- the text has all words of a production, so that it may be read by it
abbrev pub AreThere : List (List ℕ) → List Part → Type 0
AreThere ws [] = Unit {0}
AreThere ws (p ∷ ps) = IsThere ws p × AreThere ws ps

-- one of these is the form of p
abbrev pub HasForm : List (List ℕ) → List Production → Written → Type 0
HasForm ws qs p = (n : ℕ) × (q : Production) × (slice_get qs n ≡ Some q) × IsFormOf ws p q

-- one of these is what q is the form of
abbrev pub IsOneOf : List (List ℕ) → List Written → Production → Type 0
IsOneOf ws ps q = (n : ℕ) × (p : Written) × (slice_get ps n ≡ Some p) × IsFormOf ws p q

-- all are forms of productions, and those are among them by which the text may be read
pub record AreFormsOf (ws : List (List ℕ)) (ps : List Written) (qs : List Production) : Type 0 where
  pub right : (n : ℕ) (q : Production) → slice_get qs n ≡ Some q → IsOneOf ws ps q
  pub all : (n : ℕ) (p : Written) → slice_get ps n ≡ Some p → AreThere ws p.parts → HasForm ws qs p

-- ---- leaves

abbrev pub leaf : ℕ → ℕ → ℕ → ℕ → Said → Leaf
leaf k q i j s = record { kind = k; level = q; start = i; end = j; said = s }

-- what a token, or some of them, are by themselves: a word, a numeral, or a variable
pub data IsLeafOf (g : GrammarOf) (ws : List (List ℕ)) : Leaf → Type 0 where
  word_leaf : (i : ℕ) (w : List ℕ) → slice_get ws i ≡ Some w → IsLeafOf g ws (leaf (word_number ws w) 0 i (i + 1) Silent)
  numeral_leaf : (i k : ℕ) (w : List ℕ) → slice_get ws i ≡ Some w → is_numeral w ≡ true → g.numerals ≡ Some k
      → IsLeafOf g ws (leaf (kind_number ws k) 1 i (i + 1) (Num (digits_value 10 w)))
  variable_leaf : (i m n : ℕ) (r : VariableReading) → slice_get (readings_at g ws i) m ≡ Some r → slice_get (pairs_of g ws) n ≡ Some (pair_of r)
      → IsLeafOf g ws (leaf (kind_number ws r.kind) 1 i r.end (Var (var_id n r.sort)))

-- the leaves are exactly these
pub record AreLeavesOf (g : GrammarOf) (ws : List (List ℕ)) (ls : List Leaf) : Type 0 where
  pub right : (n : ℕ) (l : Leaf) → slice_get ls n ≡ Some l → IsLeafOf g ws l
  pub all : (l : Leaf) → IsLeafOf g ws l → (n : ℕ) × (slice_get ls n ≡ Some l)
