-- Parts of a list of words that follow one another.
use Rattle.std.specs.Prelude.{ℕ, zero, suc, ◌-◌, List, [], ◌∷◌, Ok, Err}
use Rattle.mau_modtext.specs.Word.{Word}
use Rattle.mau_modtext.specs.Faults.{OrFault}

-- a part before others
abbrev pub before_parts : {X : Type 0} → X → OrFault (List X) → OrFault (List X)
before_parts x (Ok xs) = Ok (x ∷ xs)
before_parts x (Err f) = Err f

-- a part of n words, and what follows behind it
abbrev pub with_part : {X : Type 0} → OrFault (X × ℕ) → (ℕ → OrFault (List X)) → OrFault (List X)
with_part (Ok p) more = before_parts p.0 (more p.1)
with_part (Err f) more = Err f

-- the parts of words, where the first `skip` words belong to a part before. `part` reads the part with which words begin,
-- and says of how many words it is.
abbrev pub parts_from : {X : Type 0} → (List Word → OrFault (X × ℕ)) → ℕ → List Word → OrFault (List X)
parts_from part skip [] = Ok []
parts_from part (suc skip) (w ∷ ws) = parts_from part skip ws
parts_from part zero (w ∷ ws) = with_part (part (w ∷ ws)) (λ n. parts_from part (n - 1) ws)

-- one part after another, up to the end of the words; the first fault of a part ends it
abbrev pub parts : {X : Type 0} → (List Word → OrFault (X × ℕ)) → List Word → OrFault (List X)
parts part ws = parts_from part 0 ws
