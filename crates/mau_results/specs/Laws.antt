-- Laws of allowed answers.
use Rattle.std.specs.Prelude.{◌≡◌, ◌<◌, ℕ, List, true, false}
use Rattle.mau_terms.specs.Tree.{Tree}
use Rattle.mau_poset.specs.Order.{Hierarchy, IsPoset}
use Rattle.mau_sorts.specs.SortSets.{IsLeast}
use Rattle.mau_api.specs.Meanings.{Meanings, AreMeanings}
use Rattle.mau_evaluation.specs.Evaluation.{has_number}
use Rattle.mau_evaluation.specs.Run.{Run}
use Rattle.mau_evaluation.specs.RuleRuns.{PassEnd}
use Rattle.mau_results.specs.Results.{IsShownSort, DerivesNothing, AnswerOf, MayAnswer}
use Rattle.mau_results.specs.Runs.{RunAnswerOf, MayRun}

-- where there is a least one of the sorts of a term, it is the one that is shown
abbrev pub LeastSortsAreShown : Type 0
LeastSortsAreShown =
    (h : Hierarchy) → IsPoset h → (sorts : List ℕ) (s : ℕ) → s < h.sorts →
    IsLeast h (λ r. has_number sorts r ≡ true) s → IsShownSort h (λ r. has_number sorts r ≡ true) s

-- where nothing is remembered and nothing derived, a term has one answer
abbrev pub AnswersAreOne : Type 0
AnswersAreOne = (m : Meanings) → AreMeanings m → DerivesNothing m → (t : Tree) (a b : AnswerOf) → MayAnswer m false t a → MayAnswer m false t b → a ≡ b

-- and so has a run
abbrev pub RunAnswersAreOne : Type 0
RunAnswersAreOne =
    (m : Meanings) → AreMeanings m → DerivesNothing m → (f : ℕ → ℕ → Run PassEnd) (a b : RunAnswerOf) → MayRun m false f a → MayRun m false f b → a ≡ b
