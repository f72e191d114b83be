-- rewrite and frewrite in the vending machine, and in a system of its own.
use Rattle.std.proofs.Common.{◌≡◌, ℕ, [], ◌∷◌, Option, Some, None, refl}
use Rattle.mau_terms.specs.Tree.{Tree}
use Rattle.mau_evaluation.specs.Run.{stopped, Outcome, done, ended}
use Rattle.mau_evaluation.specs.Program.{Program}
use Rattle.mau_evaluation.specs.Evaluation.{levels, solve, admit}
use Rattle.mau_evaluation.specs.RuleRuns.{Stand, RuleEnd, normal, bound, PassEnd, rewrite_run, frewrite_run}
use Rattle.mau_evaluation.proofs.RunExamples.Programs.{system, vending, dollar, q, a, b, c, together, h, g, rl}

abbrev begun : Tree → Stand
begun t = record { term = t; turns = λ f. 0 }

-- the term, how the run ended, and how many rewrites were counted
abbrev shown : Outcome PassEnd → Option (Tree × RuleEnd × ℕ)
shown (done x r b) = Some ((x.0).term, x.1, r)
shown (ended e) = None

abbrev stand_of : Outcome PassEnd → Stand → Stand
stand_of (done x r b) s = x.0
stand_of (ended e) s = s

abbrev rewrite : Program → Option ℕ → ℕ → Stand → Outcome PassEnd
rewrite P n budget s = rewrite_run P (levels P 1000000 2000).eval (levels P 1000000 2000).sorts (solve P (levels P 1000000 1999)) n s budget

abbrev frewrite : Program → ℕ → Option ℕ → ℕ → Stand → Outcome PassEnd
frewrite P gas n budget s = frewrite_run P (levels P 1000000 2000).eval (levels P 1000000 2000).sorts (solve P (levels P 1000000 1999)) (admit P.sign.theory) gas n s budget

-- rewrite [1] $ $
one : shown (rewrite vending (Some 1) 1000000 (begun (together (dollar ∷ dollar ∷ [])))) ≡ Some (together (dollar ∷ c ∷ []), bound, 1)
one = refl

-- and then continue 1: at $ the rule behind buy-c is tried first
then_one : shown (rewrite vending (Some 1) 1000000 (stand_of (rewrite vending (Some 1) 1000000 (begun (together (dollar ∷ dollar ∷ [])))) (begun dollar))) ≡ Some (together (q ∷ a ∷ c ∷ []), bound, 1)
then_one = refl

-- rewrite $ $
to_the_end : shown (rewrite vending None 1000000 (begun (together (dollar ∷ dollar ∷ [])))) ≡ Some (together (q ∷ a ∷ c ∷ []), normal, 2)
to_the_end = refl

-- rewrite [1] q q q q
changed : shown (rewrite vending (Some 1) 1000000 (begun (together (q ∷ q ∷ q ∷ q ∷ [])))) ≡ Some (dollar, bound, 1)
changed = refl

-- the limit counts rewrites
too_many : rewrite vending None 1 (begun (together (dollar ∷ dollar ∷ []))) ≡ ended stopped
too_many = refl

-- frewrite [2] $ $: a pass rewrites at each place
fair : shown (frewrite vending 1 (Some 2) 1000000 (begun (together (dollar ∷ dollar ∷ [])))) ≡ Some (together (q ∷ a ∷ c ∷ []), bound, 2)
fair = refl

-- rl a => b . rl b => c .
abbrev P : Program
P = system [] (rl 1 a b ∷ rl 2 b c ∷ [])

-- frozen arguments stay
frozen : shown (rewrite P None 9 (begun (h a a))) ≡ Some (h c a, normal, 2)
frozen = refl

-- with gas 1 a pass rewrites once at each top, so that a third pass finds nothing; with gas 2 a second one
passes : shown (frewrite P 1 None 9 (begun (g a))) ≡ Some (g c, normal, 2)
passes = refl

-- [1] and gas 2: as soon as one was made no further place is rewritten
at_the_bound : shown (frewrite P 2 (Some 1) 9 (begun (h (g a) a))) ≡ Some (h (g b) a, bound, 1)
at_the_bound = refl
