-- What a text reads as, by the productions of a grammar. Places are numbers of tokens.
use Rattle.std.specs.Prelude.{◌≡◌, ℕ, ◌≤◌, List, [], ◌∷◌, ◌++◌, Option, None, Some}
use Rattle.std.specs.List.{slice_get}
use Rattle.mau_terms.specs.Tree.{Tree, node, variable, numeral}
use Rattle.mau_terms.specs.declared.ids.OpId.{OpId}
use Rattle.mau_chart.specs.declared.grammar.Piece.{Piece}
use Rattle.mau_chart.specs.declared.grammar.Leaf.{Leaf}
use Rattle.mau_chart.specs.declared.grammar.Said.{Said}
use Rattle.mau_chart.specs.declared.grammar.Said.TheVariants.{Word, Var, Num}
use Rattle.mau_chart.specs.declared.grammar.Production.{Production}

-- the trees that tokens say
abbrev pub said_trees : Said → List Tree
said_trees Word = []
said_trees (Var v) = variable v.index v.sort ∷ []
said_trees (Num n) = numeral n ∷ []

abbrev pub made : Option OpId → List Tree → List Tree
made None ts = ts
made (Some f) ts = node f.0 ts ∷ []

mutual
  -- Reads ps ls k q i j ts: the text from i to j is one of kind k and level q, with the trees ts
  pub data Reads (ps : List Production) (ls : List Leaf) : ℕ → ℕ → ℕ → ℕ → List Tree → Type 0 where
    leaf_read : (n : ℕ) (l : Leaf) → slice_get ls n ≡ Some l → Reads ps ls l.kind l.level l.start l.end (said_trees l.said)
    form_read : (n : ℕ) (p : Production) {i j : ℕ} {ts : List Tree} → slice_get ps n ≡ Some p → Spells ps ls p.pieces.items i j ts → Reads ps ls p.kind p.level i j (made p.op ts)

  -- the text from i to j is these pieces, one behind the other
  pub data Spells (ps : List Production) (ls : List Leaf) : List Piece → ℕ → ℕ → List Tree → Type 0 where
    nothing_spelled : (i : ℕ) → Spells ps ls [] i i []
    piece_spelled : (c : Piece) (cs : List Piece) (q : ℕ) {i m j : ℕ} {ts us : List Tree} → Reads ps ls c.kind q i m ts → q ≤ c.upto → Spells ps ls cs m j us → Spells ps ls (c ∷ cs) i j (ts ++ us)
