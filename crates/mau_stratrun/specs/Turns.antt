-- The strategies that have a fixed list of successors, on the same term: what each does first, before the rest.
use Rattle.std.specs.Prelude.{◌≡◌, ℕ, ◌<◌, ◌≤◌, List, [], ◌∷◌, map, length, slice_get, All, Option, Some, None}
use Rattle.mau_evaluation.specs.Strategy.{Strategy, idle, fail, every_rule, label, top_only, star, plus, to_normal, in_turn, either, or_else, branch, negation, attempt, test_of}
use Rattle.mau_strat.specs.declared.forms.Form.{Form}
use Rattle.mau_strat.specs.declared.forms.Form.TheVariants as form
use Rattle.mau_strat.specs.Forms.{LeafIn, strategy_at}
use Rattle.mau_stratrun.specs.declared.ahead.First.{First}
use Rattle.mau_stratrun.specs.declared.ahead.First.TheVariants.{Nothing, One, Two}
use Rattle.mau_stratrun.specs.declared.turns.Kind.{Kind}
use Rattle.mau_stratrun.specs.declared.turns.Kind.TheVariants.{ByCursor, ByBranch, ByTurns}
use Rattle.mau_stratrun.specs.Settings.{strategy_of, IsLeadIn}

-- `top(A)` where A is not one that it takes
abbrev pub IsNoTop : Strategy → Type 0
IsNoTop every_rule = ⊥
IsNoTop (label n gs) = ⊥
IsNoTop _ = Unit {0}

abbrev pub HasTurns : Strategy → Type 0
HasTurns idle = Unit {0}
HasTurns fail = Unit {0}
HasTurns (top_only e) = IsNoTop e
HasTurns (star e) = Unit {0}
HasTurns (plus e) = Unit {0}
HasTurns (to_normal e) = Unit {0}
HasTurns (in_turn e f) = Unit {0}
HasTurns (either e f) = Unit {0}
HasTurns (or_else e f) = Unit {0}
HasTurns (negation e) = Unit {0}
HasTurns (attempt e) = Unit {0}
HasTurns (test_of e) = Unit {0}
HasTurns _ = ⊥

abbrev pub turns : Strategy → List (List Strategy)
turns idle = [] ∷ []
turns (star e) = [] ∷ (e ∷ star e ∷ []) ∷ []
turns (plus e) = (in_turn e (star e) ∷ []) ∷ []
turns (to_normal e) = (in_turn (star e) (negation e) ∷ []) ∷ []
turns (in_turn e f) = (e ∷ f ∷ []) ∷ []
turns (either e f) = (e ∷ []) ∷ (f ∷ []) ∷ []
turns (or_else e f) = (branch e idle f ∷ []) ∷ []
turns (negation e) = (branch e fail idle ∷ []) ∷ []
turns (attempt e) = (branch e idle idle ∷ []) ∷ []
turns (test_of e) = (branch (negation e) fail idle ∷ []) ∷ []
turns _ = []

-- ---- by numbers

abbrev pub ids_of : First → List ℕ
ids_of Nothing = []
ids_of (One e) = e.0 ∷ []
ids_of (Two e f) = e.0 ∷ f.0 ∷ []

-- the one at a place; or there are no more
abbrev pub IsTurnAt : (ℕ → Strategy) → ℕ → List (List Strategy) → ℕ → Option First → Type 0
IsTurnAt strategy many ess at None = length ess ≤ at
IsTurnAt strategy many ess at (Some x) = (slice_get ess at ≡ Some (map strategy (ids_of x))) × All (λ e. e < many) (ids_of x)

-- in which way the successors of a strategy come
abbrev pub KindIs : (ℕ → Strategy) → ℕ → List Form → ℕ → Kind → Type 0
KindIs leaf leaves forms n (ByCursor lead) = (strategy_at leaf forms n ≡ strategy_of leaf lead) × IsLeadIn leaves lead
KindIs leaf leaves forms n (ByBranch e f g) = (strategy_at leaf forms n ≡ branch (strategy_at leaf forms e.0) (strategy_at leaf forms f.0) (strategy_at leaf forms g.0)) × (e.0 < length forms) × (f.0 < length forms) × (g.0 < length forms)
KindIs leaf leaves forms n (ByTurns x) = (slice_get forms n ≡ Some x) × HasTurns (strategy_at leaf forms n) × LeafIn 0 x

-- a form that is written in others
abbrev pub IsDerived : Form → Type 0
IsDerived (form.Plus e) = Unit {0}
IsDerived (form.Normal e) = Unit {0}
IsDerived (form.OrElse e f) = Unit {0}
IsDerived (form.Not e) = Unit {0}
IsDerived (form.Try e) = Unit {0}
IsDerived (form.TestOf e) = Unit {0}
IsDerived _ = ⊥
