-- Strategies by numbers: the number of a strategy is the place of its form, whose parts have smaller numbers. What a leaf is, its number says.
use Rattle.std.specs.Prelude.{◌≡◌, ◌↔◌, ℕ, ◌<◌, List, [], ◌∷◌, ◌++◌, All, length, fold, slice_get, slice_index_or, Some}
use Rattle.mau_evaluation.specs.Strategy.{Strategy, idle, fail, every_rule, label, top_only, call, test, star, plus, to_normal, in_turn, either, or_else, branch, negation, attempt, test_of, part_rewrite, label_by}
use Rattle.mau_strat.specs.declared.forms.Form.{Form}
use Rattle.mau_strat.specs.declared.forms.Form.TheVariants.{Leaf, Idle, Fail, All as AllRules, Top, Star, Plus, Normal, Then, Or, OrElse, If, Not, Try, TestOf}
use Rattle.mau_strat.specs.Sharing.{EachOnce, Extends}
use Rattle.mau_strat.specs.Configurations.{TellsApart}

-- the numbers of the parts of a form
abbrev pub parts : Form → List ℕ
parts (Leaf l) = []
parts Idle = []
parts Fail = []
parts AllRules = []
parts (Top e) = e.0 ∷ []
parts (Star e) = e.0 ∷ []
parts (Plus e) = e.0 ∷ []
parts (Normal e) = e.0 ∷ []
parts (Then e f) = e.0 ∷ f.0 ∷ []
parts (Or e f) = e.0 ∷ f.0 ∷ []
parts (OrElse e f) = e.0 ∷ f.0 ∷ []
parts (If e f g) = e.0 ∷ f.0 ∷ g.0 ∷ []
parts (Not e) = e.0 ∷ []
parts (Try e) = e.0 ∷ []
parts (TestOf e) = e.0 ∷ []

-- all are below n
abbrev pub AreBelow : ℕ → List ℕ → Type 0
AreBelow n ids = All (λ i. i < n) ids

-- what holds of the forms of strategies by numbers: each has one number, and its parts have smaller ones
pub record AreForms (forms : List Form) : Type 0 where
  pub once : EachOnce forms
  pub older : (n : ℕ) (f : Form) → slice_get forms n ≡ Some f → AreBelow n (parts f)

-- ---- the strategies that numbers stand for, over what the leaves stand for

module _ (leaf : ℕ → Strategy) where
  -- the strategy of a form, where g gives its parts
  abbrev pub strategy_over : (ℕ → Strategy) → Form → Strategy
  strategy_over g (Leaf l) = leaf l.0
  strategy_over g Idle = idle
  strategy_over g Fail = fail
  strategy_over g AllRules = every_rule
  strategy_over g (Top e) = top_only (g e.0)
  strategy_over g (Star e) = star (g e.0)
  strategy_over g (Plus e) = plus (g e.0)
  strategy_over g (Normal e) = to_normal (g e.0)
  strategy_over g (Then e f) = in_turn (g e.0) (g f.0)
  strategy_over g (Or e f) = either (g e.0) (g f.0)
  strategy_over g (OrElse e f) = or_else (g e.0) (g f.0)
  strategy_over g (If e f h) = branch (g e.0) (g f.0) (g h.0)
  strategy_over g (Not e) = negation (g e.0)
  strategy_over g (Try e) = attempt (g e.0)
  strategy_over g (TestOf e) = test_of (g e.0)

  -- the strategy at a place of a list; past its end idle, which is never meant
  abbrev pub strategy_or : List Strategy → ℕ → Strategy
  strategy_or ss n = slice_index_or ss n idle

  abbrev pub add_strategy : List Strategy → Form → List Strategy
  add_strategy ss f = ss ++ strategy_over (strategy_or ss) f ∷ []

  -- the strategies of all forms, in order
  abbrev pub strategies_of : List Form → List Strategy
  strategies_of forms = fold add_strategy [] forms

  -- the strategy that a number stands for
  abbrev pub strategy_at : List Form → ℕ → Strategy
  strategy_at forms n = strategy_or (strategies_of forms) n

-- ---- laws: each is proved, a public function of the module `laws` has it for its contract

-- labels, calls, tests, and forms with strategies inside parts or fragments
abbrev pub IsLeaf : Strategy → Type 0
IsLeaf (label n gs) = Unit {0}
IsLeaf (call n ts) = Unit {0}
IsLeaf (test k p c) = Unit {0}
IsLeaf (part_rewrite k p c us) = Unit {0}
IsLeaf (label_by n gs es) = Unit {0}
IsLeaf _ = ⊥

abbrev pub LeafIn : ℕ → Form → Type 0
LeafIn leaves (Leaf l) = l.0 < leaves
LeafIn leaves _ = Unit {0}

-- the strategy of a number is that of its form, over those of the parts
abbrev pub StrategyOfForm : Type 0
StrategyOfForm = (leaf : ℕ → Strategy) (forms : List Form) → AreForms forms → (n : ℕ) (f : Form) → slice_get forms n ≡ Some f → strategy_at leaf forms n ≡ strategy_over leaf (strategy_at leaf forms) f

-- numbers of strategies are equal exactly where the strategies are, if numbers of leaves stand for one leaf only if they are one
abbrev pub OneNumberWhereOneStrategy : Type 0
OneNumberWhereOneStrategy =
    (leaf : ℕ → Strategy) (leaves : ℕ) → TellsApart leaf leaves → ((l : ℕ) → l < leaves → IsLeaf (leaf l)) →
    (forms : List Form) → AreForms forms → All (LeafIn leaves) forms →
    (i j : ℕ) → i < length forms → j < length forms → (i ≡ j) ↔ (strategy_at leaf forms i ≡ strategy_at leaf forms j)

-- a number keeps its strategy as there are more
abbrev pub NumbersKeepStrategies : Type 0
NumbersKeepStrategies = (leaf : ℕ → Strategy) (old new : List Form) → Extends old new → (n : ℕ) → n < length old → strategy_at leaf new n ≡ strategy_at leaf old n
