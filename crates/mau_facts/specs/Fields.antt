-- The fields of a line, and the words that they are written as.
use Rattle.std.specs.Prelude.{◌≡◌, ℕ, ◌+◌, ◌<◌, ◌^◌, ◌==◌, ◌&&◌, ◌||◌, ◌-◌, nat_lt, nat_le, List, [], ◌∷◌, length, drop, slice_index, not, Bool, true, None, codes, decimal, if◌then◌else◌}
use Rattle.std.specs.List.{list_any}
use Rattle.std.specs.Str.{is_utf8}
use Rattle.mau_facts.specs.declared.fields.Range.{Range}
use Rattle.mau_facts.specs.declared.fields.Range.TheVariants.{Small, Term, Fact, NextTerm, NextFact}
use Rattle.mau_facts.specs.declared.document.Fact.{Fact as FactOf}
use Rattle.mau_facts.specs.declared.document.Fact.TheVariants.{Same, Step, Built, Under, Chain, SortDecl, SortMb}
use Rattle.mau_facts.specs.declared.document.TermLine.{TermLine}
use Rattle.mau_facts.specs.declared.document.TermLine.TheVariants.{Num, Var, App}
use Rattle.mau_numerals.specs.Numerals.{is_numeral}

-- a word that always stands there, or a number of some range
pub data Field : Type 0 where
  word : List ℕ → Field
  number : Range → ℕ → Field
  -- a numeral, a name, a variable with its sort
  numeral : ℕ → Field
  name : List ℕ → Field
  variable : List ℕ → Field

-- numbers, before other fields
abbrev pub each : Range → List ℕ → List Field → List Field
each r [] fs = fs
each r (n ∷ ns) fs = number r n ∷ each r ns fs

-- ---- terms and facts

-- what is written of a term behind its number
abbrev pub term_fields : TermLine → List Field
term_fields (Num n) = word (codes "num") ∷ numeral n ∷ []
term_fields (Var w) = word (codes "var") ∷ variable w ∷ []
term_fields (App o ts) = word (codes "app") ∷ number Small o ∷ each Term ts []

-- a step is the use of a rule or of an equation
abbrev pub kind_word : Bool → List ℕ
kind_word rule = if rule then codes "rl" else codes "eq"

-- what is written of a fact behind its number
abbrev pub fact_fields : FactOf → List Field
fact_fields (Same t u a) = word (codes "same") ∷ number Term t ∷ number Term u ∷ []
fact_fields (Step f) =
    word (codes "step") ∷ word (kind_word f.rule) ∷ number Small f.number ∷ number Term f.context ∷ word (codes "from") ∷ number Term f.from ∷
    word (codes "to") ∷ number Term f.to ∷ word (codes "bind") ∷ each Term f.bind (word (codes "uses") ∷ each Fact f.uses [])
fact_fields (Built f) =
    word (codes "built") ∷ number Small f.op ∷ number Term f.context ∷ word (codes "from") ∷ number Term f.from ∷
    word (codes "to") ∷ number Term f.to ∷ word (codes "args") ∷ each Term f.args []
fact_fields (Under f) =
    word (codes "under") ∷ number Small f.op ∷ each Fact f.facts (word (codes "from") ∷ number Term f.from ∷ word (codes "to") ∷ number Term f.to ∷ [])
fact_fields (Chain fs) = word (codes "chain") ∷ each Fact fs []
fact_fields (SortDecl f) = word (codes "sort") ∷ number Term f.term ∷ number Small f.sort ∷ word (codes "decl") ∷ word (codes "uses") ∷ each Fact f.uses []
fact_fields (SortMb f) =
    word (codes "sort") ∷ number Term f.term ∷ number Small f.sort ∷ word (codes "mb") ∷ number Small f.membership ∷
    word (codes "bind") ∷ each Term f.bind (word (codes "uses") ∷ each Fact f.uses [])

-- a fact has one or more facts where its line needs them, and names no axioms
abbrev pub HasForm : FactOf → Type 0
HasForm (Same t u a) = a ≡ None
HasForm (Under f) = f.facts ≡ [] → ⊥
HasForm (Chain fs) = fs ≡ [] → ⊥
HasForm _ = Unit {0}

-- ---- which words stand for a field

-- whether a number may stand in a place, where so many terms and facts stand before the line
abbrev pub in_range : ℕ → ℕ → Range → ℕ → Bool
in_range terms facts Small n = nat_lt n 4294967296
in_range terms facts Term n = nat_lt n 18446744073709551616 && (nat_le 1 n && nat_le n terms)
in_range terms facts Fact n = nat_lt n 18446744073709551616 && (nat_le 1 n && nat_le n facts)
in_range terms facts NextTerm n = nat_lt n 18446744073709551616 && n == terms + 1
in_range terms facts NextFact n = nat_lt n 18446744073709551616 && n == facts + 1

-- space, tab, line feed, form feed, carriage return
abbrev pub is_space : ℕ → Bool
is_space b = b == 32 || b == 9 || b == 10 || b == 12 || b == 13

-- a name is text without spaces, and not empty
abbrev pub is_name : List ℕ → Bool
is_name w = not (length w == 0) && not (list_any is_space w) && is_utf8 w

-- a name, a colon and a sort, cut at the last colon: some colon is not the first byte, and the last byte is none
abbrev pub is_variable : List ℕ → Bool
is_variable w = is_name w && list_any (λ b. b == 58) (drop 1 w) && not (slice_index w (length w - 1) == 58)

-- the word of a field
abbrev pub field_word : Field → List ℕ
field_word (word w) = w
field_word (number r n) = decimal n
field_word (numeral n) = decimal n
field_word (name w) = w
field_word (variable w) = w

-- a field whose number is in its range, and whose name is one
abbrev pub IsField : ℕ → ℕ → Field → Type 0
IsField terms facts (word w) = Unit {0}
IsField terms facts (number r n) = in_range terms facts r n ≡ true
IsField terms facts (numeral n) = n < 2 ^ 128
IsField terms facts (name w) = is_name w ≡ true
IsField terms facts (variable w) = is_variable w ≡ true

-- a word stands for a field: one spelling alone
abbrev pub IsWordOf : ℕ → ℕ → Field → List ℕ → Type 0
IsWordOf terms facts f v = (v ≡ field_word f) × IsField terms facts f

-- the same, where any number may stand for any other
abbrev pub IsLikeWordOf : Field → List ℕ → Type 0
IsLikeWordOf (word w) v = v ≡ w
IsLikeWordOf (number r n) v = is_numeral v ≡ true
IsLikeWordOf (numeral n) v = is_numeral v ≡ true
IsLikeWordOf (name w) v = (v ≡ w) × (is_name w ≡ true)
IsLikeWordOf (variable w) v = (v ≡ w) × (is_variable w ≡ true)

-- as many words as fields, each for the one in its place
abbrev pub AreWordsOf : (Field → List ℕ → Type 0) → List Field → List (List ℕ) → Type 0
AreWordsOf W [] [] = Unit {0}
AreWordsOf W [] (v ∷ vs) = ⊥
AreWordsOf W (f ∷ fs) [] = ⊥
AreWordsOf W (f ∷ fs) (v ∷ vs) = W f v × AreWordsOf W fs vs
