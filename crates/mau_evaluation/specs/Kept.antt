-- Remembered results: what may be kept of an evaluation, and how often an evaluation must spend even where results are remembered.
use Rattle.std.specs.Prelude.{◌≡◌, ℕ, suc, ◌<◌, List, [], ◌∷◌, length, true, false, Some, ◌⊎◌}
use Rattle.mau_terms.specs.Tree.{Tree, variable, numeral, apply, node}
use Rattle.mau_terms.specs.Norm.{build, norm}
use Rattle.mau_terms.specs.Finite.{IsIn}
use Rattle.mau_evaluation.specs.Run.{done}
use Rattle.mau_evaluation.specs.Program.{Program}
use Rattle.mau_evaluation.specs.Evaluation.{levels, eval, applied, in_places, order_of, top_changed, at, has_number}
use Rattle.mau_evaluation.specs.Laws.{Comes}

-- u, with count r, may be remembered as the result of t
abbrev pub IsKept : Program → Tree → Tree → ℕ → Type 0
IsKept P t u r = Comes (λ k B. eval P k B t) u r

-- ---- which evaluations are due (in modules without executable conditions)

-- t is a variable or a numeral
abbrev pub IsLeaf : Tree → Type 0
IsLeaf (variable i s) = Unit {0}
IsLeaf (numeral n) = Unit {0}
IsLeaf (apply f ts) = ⊥

-- the normal form of a term with its arguments evaluated, for some limits, where its top doesn't change
pub data Rebuilt (P : Program) (t : Tree) : Tree → Type 0 where
  as_leaf : (u : Tree) → norm P.sign.theory t ≡ u → IsLeaf u → Rebuilt P t u
  with_values : (f : ℕ) (ts us : List Tree) (k B b r b' : ℕ) → norm P.sign.theory t ≡ node f ts →
      in_places P (levels P B k) (levels P B (suc k)).sorts (order_of P f ts) ts b ≡ done us r b' →
      top_changed (P.sign.theory f) (order_of P f ts) f us (build (P.sign.theory f) f us) ≡ false → Rebuilt P t (build (P.sign.theory f) f us)

-- one step from t to a term whose evaluation is due: an argument that is evaluated, the rebuilt term that is evaluated anew, or the normal form of the
-- replaced term. The values on which a step rests are there for some limits
pub data DueStep (P : Program) (t : Tree) : Tree → Type 0 where
  to_argument : (f : ℕ) (ts : List Tree) (i : ℕ) (v : Tree) → norm P.sign.theory t ≡ node f ts → has_number (order_of P f ts) i ≡ true → at ts i ≡ Some v → DueStep P t v
  to_rebuilt : (f : ℕ) (ts us : List Tree) (k B b r b' : ℕ) → norm P.sign.theory t ≡ node f ts →
      in_places P (levels P B k) (levels P B (suc k)).sorts (order_of P f ts) ts b ≡ done us r b' →
      top_changed (P.sign.theory f) (order_of P f ts) f us (build (P.sign.theory f) f us) ≡ true → DueStep P t (build (P.sign.theory f) f us)
  to_replaced : (u v : Tree) (k B b r b' : ℕ) → Rebuilt P t u → applied P (levels P B k) (levels P B (suc k)).sorts u b ≡ done (Some v) r b' → DueStep P t (norm P.sign.theory v)

-- one step or more
pub data Due (P : Program) : Tree → Tree → Type 0 where
  due_next : (t u : Tree) → DueStep P t u → Due P t u
  due_on : (t u v : Tree) → DueStep P t u → Due P u v → Due P t v

-- for some limits an application is found at the top of the rebuilt term
abbrev pub Applies : Program → Tree → Type 0
Applies P t = (u : Tree) × Rebuilt P t u × (v : Tree) × (r : ℕ) × Comes (λ k B. applied P (levels P B k) (levels P B (suc k)).sorts u) (Some v) r

-- these are different terms, each of them t or due from it, at each of which an application is found
abbrev pub AllApply : Program → Tree → List Tree → Type 0
AllApply P t [] = Unit {0}
AllApply P t (u ∷ us) = ((u ≡ norm P.sign.theory t) ⊎ Due P t u) × Applies P u × (IsIn u us → ⊥) × AllApply P t us

-- there are more than b different ones; or there is one that is due from itself
abbrev pub Spends : Program → Tree → ℕ → Type 0
Spends P t b =
    ((us : List Tree) × (b < length us) × AllApply P t us) ⊎ ((u : Tree) × ((u ≡ norm P.sign.theory t) ⊎ Due P t u) × Applies P u × Due P u u)
