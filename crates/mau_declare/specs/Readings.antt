-- Readings of the parts of a module. A reading gives what they say, or an Err: the place in the text of the first token that names
-- no sort where one is to be named.
use Rattle.std.specs.Prelude.{ℕ, List, [], ◌∷◌, Result, Ok, Err}

-- a reading, and then what follows from it
abbrev pub and_then : {X Y : Type 0} → Result X ℕ → (X → Result Y ℕ) → Result Y ℕ
and_then (Ok x) more = more x
and_then (Err i) more = Err i

-- the members of a list, one after another: `step x a` reads a behind x
abbrev pub read_all : {X A : Type 0} → (X → A → Result X ℕ) → X → List A → Result X ℕ
read_all step x [] = Ok x
read_all step x (a ∷ xs) = and_then (step x a) (λ y. read_all step y xs)
