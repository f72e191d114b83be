-- Productions: the ways to write a term of a kind.
use Rattle.std.specs.Prelude.{◌≡◌, ◌≢◌, ℕ, List, [], ◌∷◌, Bool, true, false, Option, None, count_by}
use Rattle.mau_terms.specs.declared.ids.OpId.{OpId}
use Rattle.mau_grammar.specs.declared.production.Part.{Part}
use Rattle.mau_grammar.specs.declared.production.Part.TheVariants.{Word, Hole as Place}
use Rattle.mau_grammar.specs.declared.production.Production.{Production}

-- a word
abbrev pub word : List ℕ → Part
word w = Word w

-- the level that is at least that of every term: a precedence is 255 at most
abbrev pub greatest_level : ℕ
greatest_level = 256

-- a place for a term of a kind, up to a level
abbrev pub place : ℕ → ℕ → Part
place k q = Place (record { kind = k; upto = q })

-- a place that admits every term of a kind
abbrev pub any : ℕ → Part
any k = place k greatest_level

abbrev pub production : ℕ → ℕ → Option OpId → List Part → Production
production k q f ps = record { kind = k; level = q; op = f; parts = ps }

abbrev pub is_place : Part → Bool
is_place (Word w) = false
is_place (Place h) = true

-- how many places for terms there are
abbrev pub places : List Part → ℕ
places ps = count_by is_place ps

-- the kinds of the places, in order
abbrev pub place_kinds : List Part → List ℕ
place_kinds [] = []
place_kinds (Word w ∷ ps) = place_kinds ps
place_kinds (Place h ∷ ps) = h.kind ∷ place_kinds ps

-- A production has a part; and one without an operator has one place, whose term it is.
pub record IsShaped (p : Production) : Type 0 where
  pub some : p.parts ≢ []
  pub one : p.op ≡ None → places p.parts ≡ 1
