-- The next solution behind the last one, and the first ones, in the order of solutions.
use Rattle.std.specs.Prelude.{◌≡◌, ◌⊎◌, ℕ, List, [], ◌∷◌, Bool, true, false, Option, None, Some}
use Rattle.std.specs.declared.cmp.Ordering.{Ordering}
use Rattle.std.specs.declared.cmp.Ordering.TheVariants.{Less}
use Rattle.mau_terms.specs.Tree.{Tree}
use Rattle.mau_terms.specs.Solution.{solution_cmp}
use Rattle.mau_terms.specs.declared.theory.Theory.{Theory}
use Rattle.mau_listing.specs.Matcher.{Matcher}

-- the order of solutions of the pattern p, where th gives the axioms of each operator
abbrev pub matcher_cmp : (ℕ → Theory) → Tree → Matcher → Matcher → Ordering
matcher_cmp th p x y = solution_cmp th p (x.left, x.values) (y.left, y.values)

-- x comes behind the last one, if there is one
abbrev pub IsBehind : (Matcher → Matcher → Ordering) → Option Matcher → Matcher → Type 0
IsBehind cmp None x = Unit {0}
IsBehind cmp (Some last) x = cmp last x ≡ Less

-- x is the least behind the last one of those that `Is` holds of
pub record IsLeastBehind (Is : Matcher → Type 0) (cmp : Matcher → Matcher → Ordering) (last : Option Matcher) (x : Matcher) : Type 0 where
  pub is_one : Is x
  pub behind : IsBehind cmp last x
  pub least : (y : Matcher) → Is y → IsBehind cmp last y → (cmp x y ≡ Less) ⊎ (x ≡ y)

-- the answer is the least one behind the last one, and `None` exactly where there is none
abbrev pub IsNext : (Matcher → Type 0) → (Matcher → Matcher → Ordering) → Option Matcher → Option Matcher → Type 0
IsNext Is cmp last None = (x : Matcher) → Is x → IsBehind cmp last x → ⊥
IsNext Is cmp last (Some x) = IsLeastBehind Is cmp last x

-- each of these is the next one, behind the one before it
abbrev pub AreNext : (Matcher → Type 0) → (Matcher → Matcher → Ordering) → Option Matcher → List Matcher → Type 0
AreNext Is cmp last [] = Unit {0}
AreNext Is cmp last (x ∷ xs) = IsNext Is cmp last (Some x) × AreNext Is cmp (Some x) xs

-- the last one of some, or the one before them
abbrev pub last_of : Option Matcher → List Matcher → Option Matcher
last_of last [] = last
last_of last (x ∷ xs) = last_of (Some x) xs

-- xs are the next ones in order, and `others` says whether there is another behind them
pub record AreFirst (Is : Matcher → Type 0) (cmp : Matcher → Matcher → Ordering) (last : Option Matcher) (xs : List Matcher) (others : Bool) : Type 0 where
  pub next : AreNext Is cmp last xs
  pub more : others ≡ true → (x : Matcher) × IsNext Is cmp (last_of last xs) (Some x)
  pub no_more : others ≡ false → IsNext Is cmp (last_of last xs) None
