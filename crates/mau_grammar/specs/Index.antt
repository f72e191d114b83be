-- How productions are found by the words of a text. Each production with a word has one of its words for its key, and what has no word at
-- all is found apart. So the productions that may read a text are those without a word, and those whose keys stand in it.
use Rattle.std.specs.Prelude.{◌≡◌, ℕ, zero, suc, List, [], ◌∷◌, ◌++◌, length, map, filter, Option, Some, None, slice_get, bytes_eq, if◌then◌else◌}
use Rattle.std.specs.Option.{option_map_or}
use Rattle.std.specs.HashMap.{get_by_text}
use Rattle.mau_grammar.specs.declared.index.Index.{Index}
use Rattle.mau_grammar.specs.declared.production.Part.{Part}
use Rattle.mau_grammar.specs.declared.production.Part.TheVariants.{Word, Hole as Place}
use Rattle.mau_grammar.specs.declared.production.Production.{Production}
use Rattle.mau_grammar.specs.Parts.{is_special}

-- the first word that is none of the characters that are tokens of their own, which many productions have
abbrev pub first_plain : List Part → Option (List ℕ)
first_plain [] = None
first_plain (Place h ∷ ps) = first_plain ps
first_plain (Word w ∷ ps) = if is_special w then first_plain ps else Some w

abbrev pub first_word : List Part → Option (List ℕ)
first_word [] = None
first_word (Place h ∷ ps) = first_word ps
first_word (Word w ∷ ps) = Some w

abbrev pub or_else : Option (List ℕ) → Option (List ℕ) → Option (List ℕ)
or_else (Some w) o = Some w
or_else None o = o

-- the key: the first such word, or else the first word; none where there is no word
abbrev pub key_of : List Part → Option (List ℕ)
key_of ps = or_else (first_plain ps) (first_word ps)

-- the key of the production n
abbrev pub key_at : List Production → ℕ → Option (List ℕ)
key_at ps n = option_map_or (λ p. key_of p.parts) (slice_get ps n) None

abbrev pub with_number : ℕ → Option (List ℕ) → List (List ℕ × ℕ)
with_number n None = []
with_number n (Some w) = (w, n) ∷ []

-- the keys of the first n productions that have one, with their numbers
abbrev pub keys_to : List Production → ℕ → List (List ℕ × ℕ)
keys_to ps zero = []
keys_to ps (suc n) = keys_to ps n ++ with_number n (key_at ps n)

-- the numbers that stand with the word w
abbrev pub numbers_with : List ℕ → List (List ℕ × ℕ) → List ℕ
numbers_with w ks = map (λ k. k.1) (filter (λ k. bytes_eq w k.0) ks)

-- the numbers of the productions with the key w, in order
abbrev pub keyed : List Production → List ℕ → List ℕ
keyed ps w = numbers_with w (keys_to ps (length ps))

abbrev pub if_none : ℕ → Option (List ℕ) → List ℕ
if_none n None = n ∷ []
if_none n (Some w) = []

-- the numbers of those of the first n productions that have no word
abbrev pub wordless_to : List Production → ℕ → List ℕ
wordless_to ps zero = []
wordless_to ps (suc n) = wordless_to ps n ++ if_none n (key_at ps n)

abbrev pub wordless : List Production → List ℕ
wordless ps = wordless_to ps (length ps)

-- an index tells these numbers
pub record IsIndexOf (ps : List Production) (i : Index) : Type 0 where
  pub keyed : (w : List ℕ) → option_map_or (λ ns. ns.items) (get_by_text i.by_key w) [] ≡ keyed ps w
  pub wordless : i.wordless.items ≡ wordless ps
