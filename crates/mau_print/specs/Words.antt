-- The words of printed terms, and what they read as wherever they stand in a text.
use Rattle.std.specs.Prelude.{◌≡◌, ℕ, ◌+◌, ◌≤◌, nat_le, List, [], ◌∷◌, ◌++◌, codes, length, slice_get, Some, if◌then◌else◌}
use Rattle.mau_terms.specs.Tree.{Tree}
use Rattle.mau_grammar.specs.declared.production.Part.{Part}
use Rattle.mau_grammar.specs.declared.production.Part.TheVariants.{Word, Hole as Place}
use Rattle.mau_grammar.specs.Production.{greatest_level}
use Rattle.mau_grammar.specs.Productions.{enclosed}
use Rattle.mau_grammar.specs.Grammar.{GrammarOf}
use Rattle.mau_grammar.specs.Trees.{Reads}

-- a term as its words
pub record Phrase : Type 0 where
  pub level : ℕ
  pub words : List (List ℕ)

abbrev pub phrase : ℕ → List (List ℕ) → Phrase
phrase q ws = record { level = q; words = ws }

abbrev pub enclosed_words : List (List ℕ) → List (List ℕ)
enclosed_words ws = codes "(" ∷ (ws ++ codes ")" ∷ [])

-- `( t ) .S`
abbrev pub with_mark : List (List ℕ) → List ℕ → List (List ℕ)
with_mark ws sort = enclosed_words ws ++ (codes "." ++ sort) ∷ []

-- an argument at a place that admits levels up to this one: in parentheses exactly where its own is not admitted
abbrev pub guarded_words : ℕ → Phrase → List (List ℕ)
guarded_words upto x = if nat_le x.level upto then x.words else enclosed_words x.words

-- the words of a form, and the arguments at its places, in order
abbrev pub woven_words : List Part → List Phrase → List (List ℕ)
woven_words [] xs = []
woven_words (Word w ∷ ps) xs = w ∷ woven_words ps xs
woven_words (Place h ∷ ps) [] = woven_words ps []
woven_words (Place h ∷ ps) (x ∷ xs) = guarded_words h.upto x ++ woven_words ps xs

-- ---- words at a place of a text

-- the words ws stand in the text `whole` from the place i on
pub record Window (whole : List (List ℕ)) (i : ℕ) (ws : List (List ℕ)) : Type 0 where
  pub front : List (List ℕ)
  pub back : List (List ℕ)
  pub split : whole ≡ front ++ (ws ++ back)
  pub len : length front ≡ i

-- wherever they stand in the text, they are a term of the kind k and the level q, and ts is its one tree
abbrev pub ReadsHere : GrammarOf → List (List ℕ) → ℕ → ℕ → List (List ℕ) → List Tree → Type 0
ReadsHere g whole k q ws ts = (i : ℕ) → Window whole i ws → Reads g whole k q i (i + length ws) ts

-- the words of x read as the tree t in the kind k, which has parentheses
pub record IsRead (g : GrammarOf) (whole : List (List ℕ)) (k : ℕ) (x : Phrase) (t : Tree) : Type 0 where
  pub level : x.level ≤ greatest_level
  pub reads : ReadsHere g whole k x.level x.words (t ∷ [])
  pub parentheses : (n : ℕ) × (slice_get g.productions n ≡ Some (enclosed k))

-- each of several, in these kinds
abbrev pub AreRead : GrammarOf → List (List ℕ) → List ℕ → List Phrase → List Tree → Type 0
AreRead g whole [] [] [] = Unit {0}
AreRead g whole [] [] (t ∷ ts) = ⊥
AreRead g whole [] (x ∷ xs) ts = ⊥
AreRead g whole (k ∷ ks) [] ts = ⊥
AreRead g whole (k ∷ ks) (x ∷ xs) [] = ⊥
AreRead g whole (k ∷ ks) (x ∷ xs) (t ∷ ts) = IsRead g whole k x t × AreRead g whole ks xs ts
