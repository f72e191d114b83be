-- What sorts a term has, and what may come of asking a condition, by what evaluation means.
use Rattle.std.specs.Prelude.{◌≡◌, ℕ, ◌≤◌, List, map, true, Option}
use Rattle.std.specs.List.{zip}
use Rattle.mau_terms.specs.Tree.{Tree}
use Rattle.mau_terms.specs.Subst.{variables}
use Rattle.mau_listing.specs.Matcher.{Matcher}
use Rattle.mau_program.specs.declared.statements.Fragment.{Fragment}
use Rattle.mau_evaluation.specs.Run.{Outcome, done}
use Rattle.mau_evaluation.specs.Evaluation.{Binding, has_number}
use Rattle.mau_api.specs.Programs.{fragment_of}
use Rattle.mau_api.specs.Meanings.{Meanings}
use Rattle.mau_results.specs.Results.{condition_levels, DerivesNothing}

-- by the meanings m the normal form t has the sort r: for some number of levels, with the budget of an item for each condition of a membership, its sorts are
-- known, and r is one of them
pub record HasDerivedSort (m : Meanings) (r : ℕ) (t : Tree) : Type 0 where
  pub levels : ℕ
  pub sorts : List ℕ
  pub known : (b : ℕ) → m.sorting levels m.limit t b ≡ done sorts 0 b
  pub has : has_number sorts r ≡ true

-- asking the condition c for the values of p's variables in x with a budget may give this: on the levels of a condition that an item asks or, where sorts were
-- derived before, on more
abbrev pub Asks : Meanings → Tree → List Fragment → Matcher → ℕ → Outcome (Option Binding) → Type 0
Asks m p c x b o = (k : ℕ) × (condition_levels ≤ k) × (DerivesNothing m → k ≡ condition_levels) × (m.solving k m.limit (map fragment_of c) (zip (variables p) x.values) b ≡ o)
