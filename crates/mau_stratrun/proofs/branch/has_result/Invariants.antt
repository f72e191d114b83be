use Rattle.std.proofs.Common.{◌≡◌, ℕ, ◌<◌, get_or, slice_get, Some}
use Rattle.mau_strat.specs.declared.configs.Config.{Config}
use Rattle.mau_stratrun.specs.Branches.{IsResult}
use Rattle.mau_stratrun.proofs.branch.has_result.Given as goal

abbrev pub invariant-loop-place : goal.invariant-loop-place
invariant-loop-place l = (j : ℕ) (c : Config) → j < l.place → slice_get l.interner.configs (get_or l.listed j 0) ≡ Some c → IsResult l.interner l.frames.0 c → ⊥
