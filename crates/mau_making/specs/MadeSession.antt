-- The text of the session with a number, and what is written of its transcript.
use Rattle.std.specs.Prelude.{ℕ, zero, suc, ◌*◌, List, [], ◌++◌, codes, decimal}

-- the first n elements, each behind a space
abbrev pub elements : ℕ → List ℕ
elements zero = []
elements (suc n) = elements n ++ codes " e" ++ decimal (suc n)

-- sets of the first n elements, and a sum
abbrev pub made_modules : ℕ → List ℕ
made_modules n =
    codes "fmod MADE is\nsorts Elt Set .\nsubsort Elt < Set .\nops"
    ++ elements n
    ++ codes " : -> Elt .\nop none : -> Set .\nop __ : Set Set -> Set [assoc comm id: none] .\nendfm\n"
    ++ codes "fmod MADE-SUM is\nprotecting NAT .\nop sum : Nat -> Nat .\nvar N : Nat .\neq sum(0) = 0 .\neq sum(s N) = s N + sum(N) .\nendfm\n"

-- all ways to part the first j elements in two, and the sum up to 100 * j
abbrev pub made_pair : ℕ → List ℕ
made_pair j = codes "match in MADE : X:Set Y:Set <=?" ++ elements j ++ codes " .\nreduce in MADE-SUM : sum(" ++ decimal (100 * j) ++ codes ") .\n"

abbrev pub made_pairs : ℕ → List ℕ
made_pairs zero = []
made_pairs (suc j) = made_pairs j ++ made_pair (suc j)

-- the session with the number n
abbrev pub made_text : ℕ → List ℕ
made_text n = made_modules n ++ made_pairs n

-- a number behind its name
abbrev pub count_line : List ℕ → ℕ → List ℕ
count_line name n = name ++ decimal n ++ codes "\n"

-- the summary of its transcript: the items, the matchers listed, and the sum of the counts that are shown
abbrev pub summary_lines : ℕ → ℕ → ℕ → ℕ → List ℕ
summary_lines n items matchers rewrites = count_line (codes "session ") n ++ count_line (codes "items ") items ++ count_line (codes "matchers ") matchers ++ count_line (codes "rewrites ") rewrites
