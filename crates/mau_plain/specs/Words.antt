-- Lists over some elements.
use Rattle.std.specs.Prelude.{ℕ, ◌≤◌, ◌∷◌, ◌++◌, [], List, All, Contains, length, map}

-- ws has each list of at most n elements of xs
abbrev pub HasWords : {A : Type 0} → List A → ℕ → List (List A) → Type 0
HasWords xs n ws = (w : List _) → All (Contains xs) w → length w ≤ n → Contains ws w

-- the lists that are an element of xs in front of one of ws
abbrev pub each_longer : {A : Type 0} → List A → List (List A) → List (List A)
each_longer xs [] = []
each_longer xs (w ∷ ws) = map (λ x. x ∷ w) xs ++ each_longer xs ws
