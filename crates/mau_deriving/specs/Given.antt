-- What the memberships of a program give to a term.
use Rattle.std.specs.Prelude.{◌≡◌, ◌↔◌, ℕ, List, [], Option}
use Rattle.mau_terms.specs.Tree.{Tree, variable, numeral, apply, Trees}
use Rattle.mau_terms.specs.Finite.{IsIn}
use Rattle.mau_poset.specs.Order.{Hierarchy}
use Rattle.mau_sorts.specs.SortSets.{IsAbove}
use Rattle.mau_evaluation.specs.Run.{Run}
use Rattle.mau_evaluation.specs.Program.{Fragment, Program}
use Rattle.mau_evaluation.specs.Evaluation.{Binding, joined, solve, by_membership, sizes, sorts_in, sorts_of, levels}
use Rattle.mau_deriving.specs.Known.{AreKnownFrom}

module _ (P : Program) (B : ℕ) where
  -- how conditions are solved by j levels
  abbrev pub asks_by : ℕ → List Fragment → Binding → Run (Option Binding)
  asks_by j = solve P (levels P B j)

  -- the sorts on the level above
  abbrev pub sorts_on : ℕ → Tree → Run (List ℕ)
  sorts_on j = sorts_of P B (solve P (levels P B j))

  -- the memberships give to the operator f over ts just the sorts at and above these
  pub record HaveGiven (h : Hierarchy) (f : ℕ) (ts : Trees) (more : List ℕ) : Type 0 where
    pub given : List (List ℕ)
    pub known : AreKnownFrom (λ j. by_membership P B (asks_by j) (sorts_in P B (asks_by j) (sizes ts)) (apply f ts)) P.memberships given
    pub exact : (r : ℕ) → IsIn r (joined given) ↔ IsAbove h more r

  -- to a term; to a variable and to a numeral they give none
  abbrev pub GiveJust : Hierarchy → Tree → List ℕ → Type 0
  GiveJust h (variable i s) more = more ≡ []
  GiveJust h (numeral n) more = more ≡ []
  GiveJust h (apply f ts) more = HaveGiven h f ts more
