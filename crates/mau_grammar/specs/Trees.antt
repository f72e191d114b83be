-- The trees of some tokens: what the productions yield for exactly these tokens.
use Rattle.std.specs.Prelude.{◌≡◌, ℕ, ◌+◌, ◌≤◌, ◌<◌, List, [], ◌∷◌, ◌++◌, length, true, Option, Some, None, slice_get}
use Rattle.std.specs.Str.Parse.{digits_value}
use Rattle.mau_numerals.specs.Numerals.{is_numeral}
use Rattle.mau_terms.specs.Tree.{Tree, variable, numeral, node}
use Rattle.mau_terms.specs.declared.ids.OpId.{OpId}
use Rattle.mau_grammar.specs.declared.production.Part.{Part}
use Rattle.mau_grammar.specs.declared.production.Production.{Production}
use Rattle.mau_grammar.specs.Production.{word, place}
use Rattle.mau_grammar.specs.Grammar.{GrammarOf}
use Rattle.mau_grammar.specs.Leaves.{VariableReading, pair_of, readings_at, pairs_of}

-- what a production makes of the terms at its places: its operator over them, or without an operator the terms themselves
abbrev pub made : Option OpId → List Tree → List Tree
made None ts = ts
made (Some f) ts = node f.0 ts ∷ []

-- Reads g ws k q i j ts: the tokens from i to before j are a term of the kind k and the level q, and ts is its one tree. Spells is
-- the same of parts, one behind the other, where ts are the trees of the terms at their places. A variable stands in a tree with the
-- place of its pair of name and sort among all pairs of the text, each of which is there once.
mutual
  pub data Reads (g : GrammarOf) (ws : List (List ℕ)) : ℕ → ℕ → ℕ → ℕ → List Tree → Type 0 where
    reads_numeral : (i k : ℕ) (w : List ℕ) → slice_get ws i ≡ Some w → is_numeral w ≡ true → g.numerals ≡ Some k
        → Reads g ws k 1 i (i + 1) (numeral (digits_value 10 w) ∷ [])
    reads_variable : (i m n : ℕ) (r : VariableReading) → slice_get (readings_at g ws i) m ≡ Some r → slice_get (pairs_of g ws) n ≡ Some (pair_of r)
        → Reads g ws r.kind 1 i r.end (variable n r.sort ∷ [])
    reads_production : (n : ℕ) (p : Production) {i j : ℕ} {ts : List Tree} → slice_get g.productions n ≡ Some p → Spells g ws p.parts i j ts
        → Reads g ws p.kind p.level i j (made p.op ts)

  pub data Spells (g : GrammarOf) (ws : List (List ℕ)) : List Part → ℕ → ℕ → List Tree → Type 0 where
    spells_nothing : (i : ℕ) → Spells g ws [] i i []
    spells_word : (w : List ℕ) (ps : List Part) (i : ℕ) {j : ℕ} {ts : List Tree} → slice_get ws i ≡ Some w → Spells g ws ps (i + 1) j ts
        → Spells g ws (word w ∷ ps) i j ts
    spells_place : (k u q : ℕ) (ps : List Part) {i m j : ℕ} {ts us : List Tree} → Reads g ws k q i m ts → q ≤ u → Spells g ws ps m j us
        → Spells g ws (place k u ∷ ps) i j (ts ++ us)

-- t is a tree of exactly these tokens, in one of the kinds from `low` to before `high`
pub record TreeOf (g : GrammarOf) (ws : List (List ℕ)) (low high : ℕ) (t : Tree) : Type 0 where
  pub kind : ℕ
  pub level : ℕ
  pub from : low ≤ kind
  pub to : kind < high
  pub reads : Reads g ws kind level 0 (length ws) (t ∷ [])
