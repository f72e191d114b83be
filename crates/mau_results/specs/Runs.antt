-- What may be answered where rules are run: where the run stands then and how it ended, with the sort that is shown for its term and a count, or an end.
use Rattle.std.specs.Prelude.{◌≡◌, ◌⊎◌, ℕ, ◌≤◌, Bool, false, Option}
use Rattle.mau_terms.specs.Tree.{Tree}
use Rattle.mau_evaluation.specs.Run.{End, stopped, too_deep, overflowed, Run, done, ended}
use Rattle.mau_evaluation.specs.RuleRuns.{Stand, RuleEnd, PassEnd, rewrite_at, frewrite_at}
use Rattle.mau_api.specs.Meanings.{Meanings, program_of}
use Rattle.mau_results.specs.declared.kind.RunKind.{RunKind}
use Rattle.mau_results.specs.declared.kind.RunKind.TheVariants.{Rewriting, Fair}
use Rattle.mau_results.specs.Results.{HasShownSort, condition_levels, shown_count, DerivesNothing}

-- a run from a term on stands there, with the rules from the first on
abbrev pub run_from : Tree → Stand
run_from t = record { term = t; turns = λ f. 0 }

-- the run of n rewrites by rules, or of any number, from where it stands: under so many levels for conditions and one more for other terms
abbrev pub run_by : Meanings → RunKind → Option ℕ → Stand → ℕ → ℕ → Run PassEnd
run_by m Rewriting n s k B = rewrite_at (program_of m) k B n s
run_by m (Fair g) n s k B = frewrite_at (program_of m) k B g n s

-- ---- answers

-- where it stands and how it ended, with the shown sort of its term and a count; or an end
pub data RunAnswerOf : Type 0 where
  run_gives : (s : Stand) (e : RuleEnd) (sort count : ℕ) → RunAnswerOf
  run_ends : End → RunAnswerOf

-- the answer of a run f, under so many levels k, with the budget B of each condition of a membership and the budget b
pub data PlainRun (m : Meanings) (f : ℕ → ℕ → Run PassEnd) (k B b : ℕ) : RunAnswerOf → Type 0 where
  plain_run : (u : Stand) (e : RuleEnd) (sort r left : ℕ) → f k B b ≡ done (u, e) r left → HasShownSort m u.term sort
      → PlainRun m f k B b (run_gives u e sort (shown_count r))
  plain_run_end : (e : End) → f k B b ≡ ended e → PlainRun m f k B b (run_ends e)

-- ---- allowed answers

-- f is a run under so many levels, a budget of each condition of a membership, and a budget. It ends so, for an item with this budget: Stopped only where
-- just the limits of an item are too small, Too deep for just the levels, and Overflow for limits that are no smaller
abbrev pub HasRunCause : (ℕ → ℕ → Run PassEnd) → ℕ → End → Type 0
HasRunCause f budget stopped = (f condition_levels budget budget ≡ ended too_deep) ⊎ (f condition_levels budget budget ≡ ended stopped)
HasRunCause f budget too_deep = (B c : ℕ) × (f condition_levels B c ≡ ended too_deep)
HasRunCause f budget overflowed = (k B c : ℕ) × (condition_levels ≤ k) × (budget ≤ B) × (budget ≤ c) × (f k B c ≡ ended overflowed)

-- where it stands is the plain answer under some limits that are no smaller than the item's, and an end has its cause
abbrev pub IsRunCaused : Meanings → (ℕ → ℕ → Run PassEnd) → RunAnswerOf → Type 0
IsRunCaused m f (run_gives u e sort r) =
    (k B b : ℕ) × (condition_levels ≤ k) × (m.limit ≤ B) × (m.limit ≤ b) × PlainRun m f k B b (run_gives u e sort r)
IsRunCaused m f (run_ends e) = HasRunCause f m.limit e

-- what may be answered for a run f with the item's budget, where it is said whether results are remembered
pub record MayRun (m : Meanings) (remembered : Bool) (f : ℕ → ℕ → Run PassEnd) (a : RunAnswerOf) : Type 0 where
  pub caused : IsRunCaused m f a
  -- where the plain answer under the item's own limits is no end, it is the answer
  pub just : (u : Stand) (e : RuleEnd) (sort r : ℕ) → PlainRun m f condition_levels m.limit m.limit (run_gives u e sort r) → a ≡ run_gives u e sort r
  -- where nothing is remembered, it is the plain answer for just the item's budget, and for its levels or, where sorts were derived before, for more
  pub exact : remembered ≡ false → (k : ℕ) × (condition_levels ≤ k) × (DerivesNothing m → k ≡ condition_levels) × PlainRun m f k m.limit m.limit a
