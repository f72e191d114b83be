-- Where a run stands that has listed its start.
use Rattle.std.proofs.Common.{◌≡◌, ℕ, List, [], ◌∷◌, length, ap, arith}
use Rattle.mau_terms.specs.Tree.{Tree}
use Rattle.mau_evaluation.specs.Strategy.{Strategy}
use Rattle.mau_evaluation.specs.Configs.{Config}
use Rattle.mau_stratrun.specs.States.{State}
use Rattle.mau_stratrun.specs.Runs.{Began}
use Rattle.mau_solutions.specs.Listings.{outside, reached_first}
use Rattle.mau_solutions.specs.Standing.{first_of, reached_of}
use Rattle.mau_solutions.proofs.Coming.{reached_is}

pub first_reached : (s : State) (seen : List ℕ) (t : Tree) (e : Strategy) → length seen ≡ 1 → Began s seen t (outside e) → reached_of s seen ≡ reached_first e t
first_reached s [] t e l b = absurd (omega (arith, l))
first_reached s (x ∷ []) t e l b =
    reached_is (reached_of s (x ∷ [])) (reached_first e t) (ap (λ (c : Config). c.term) b) (ap (λ (c : Config). first_of c.todo) b) (ap (λ c. c ∷ []) b)
first_reached s (x ∷ y ∷ xs) t e l b = absurd (omega (arith, l))
