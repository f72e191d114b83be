-- Equations that are tried at the top of a term, one solution after another.
use Rattle.std.specs.Prelude.{◌≡◌, ℕ, suc, length, List, [], ◌∷◌, ◌++◌, Bool, true, false, ◌&&◌, not, if◌then◌else◌, Option, Some, None, slice_get}
use Rattle.std.specs.Option.{option_map}
use Rattle.mau_terms.specs.Tree.{Tree}
use Rattle.mau_terms.specs.Bare.{IsBareIn}
use Rattle.mau_terms.specs.Reading.{reading}
use Rattle.mau_terms.specs.View.{tree_of}
use Rattle.mau_terms.specs.declared.ids.TermId.{TermId}
use Rattle.mau_store.specs.Node.{Node}
use Rattle.mau_sorts.specs.Table.{Table}
use Rattle.mau_listing.specs.Asked.{Asked, asks, CanGoOn}
use Rattle.mau_program.specs.declared.program.Program as Typed
use Rattle.mau_program.specs.declared.statements.Equation as Written
use Rattle.mau_store.specs.Trees.{trees_at}
use Rattle.mau_store.specs.View.{numbers}
use Rattle.mau_listing.specs.Finite.{comes_behind}
use Rattle.mau_listing.specs.declared.solution.Solution as Given
use Rattle.mau_evaluation.specs.Run.{Run, gives, and_try, or_else, first_of}
use Rattle.mau_evaluation.specs.Program.{Equation, Program}
use Rattle.mau_evaluation.specs.Listing.{Solution, keep, compare, solutions_within}
use Rattle.mau_terms.specs.Subst.{variables}
use Rattle.mau_signature.specs.Signature.{SignatureOf, theory_at, terms_over}
use Rattle.mau_canon.specs.Standing.{StandWithin}
use Rattle.mau_reduce.specs.Bindings.{HaveKinds}
use Rattle.mau_reduce.specs.Contexts.{AreContexts}
use Rattle.mau_evaluation.specs.Evaluation.{levels, solve, apply_for, binding_of, replaced}

-- a solution by numbers, over the nodes of a store
abbrev pub solution_in : List Node → Given.Solution → Solution
solution_in nodes x = record {
  left = trees_at nodes (numbers x.left);
  right = trees_at nodes (numbers x.right);
  values = trees_at nodes (numbers x.values);
}

-- the solutions of the left side that come behind the last one, if there is one
abbrev pub solutions_behind : Program → Equation → Tree → Option Solution → List Solution
solutions_behind P e t last = keep (comes_behind (compare P.sign.theory e.left) last) (solutions_within P.sign e.left t)

-- what e makes of t by the first of these solutions for which it applies; k levels give the values of conditions, and B is the budget of each condition of
-- a membership
abbrev pub applied_by : Program → ℕ → ℕ → Equation → Tree → List Solution → Run (Option Tree)
applied_by P B k e t xs = first_of (apply_for P (levels P B k) (levels P B (suc k)).sorts e t) xs

-- the same by the solution x alone, whose values have their sorts
abbrev pub candidate_gives : Program → ℕ → ℕ → Equation → Tree → Solution → Run (Option Tree)
candidate_gives P B k e t x = and_try (solve P (levels P B k) e.cond (binding_of e.left x)) λ o. gives (replaced P.sign.theory e t x o)

-- a solution of the left side p in t, by numbers: its contexts stand around a part of t, its values, one for each variable of p, are terms of their kinds,
-- and t is of p's kind
pub record IsCandidate (s : SignatureOf) (nodes : List Node) (p t : Tree) (x : Given.Solution) : Type 0 where
  pub contexts : AreContexts s nodes t (numbers x.left) (numbers x.right)
  pub one_each : length x.values ≡ length (variables p)
  pub within : StandWithin (theory_at s) nodes (numbers x.values)
  pub kinds : HaveKinds s (variables p) (trees_at nodes (numbers x.values))
  pub kind : (k : ℕ) → IsBareIn (terms_over s) p k → IsBareIn (terms_over s) (reading (theory_at s) t) k

-- what an equation makes of t, if there is one
abbrev pub applied_one : Program → ℕ → ℕ → Tree → Option Equation → Run (Option Tree)
applied_one P B k t (Some e) = applied_by P B k e t (solutions_within P.sign e.left t)
applied_one P B k t None = gives None

-- what the equation with the number i makes of t, counted from 0
abbrev pub applied_number : Program → ℕ → ℕ → Tree → ℕ → Run (Option Tree)
applied_number P B k t i = applied_one P B k t (slice_get P.equations i)

-- what is left of it behind the last solution
abbrev pub left_of_one : Program → ℕ → ℕ → Tree → Option Solution → Option Equation → Run (Option Tree)
left_of_one P B k t last (Some e) = applied_by P B k e t (solutions_behind P e t last)
left_of_one P B k t last None = gives None

abbrev pub left_of_number : Program → ℕ → ℕ → Tree → ℕ → Option Solution → Run (Option Tree)
left_of_number P B k t i last = left_of_one P B k t last (slice_get P.equations i)

-- what is left of an equation behind its last solution, and then the equations with these numbers
abbrev pub left_of_all : Program → ℕ → ℕ → Tree → ℕ → Option Solution → List ℕ → Run (Option Tree)
left_of_all P B k t i last is = or_else (left_of_number P B k t i last) (first_of (applied_number P B k t) is)

-- i is the number of an executable equation
pub record IsExecutable (p : Typed.Program) (i : ℕ) : Type 0 where
  pub equation : Written.Equation
  pub at : slice_get p.equations i ≡ Some equation
  pub exec : equation.exec ≡ true

-- The equation with the number i is tried at the top of a term: a listing with contexts, if c, was asked for its left side there, is one for this signature, and
-- can go on behind its last solution; the equation is executable
pub record IsTried (c : Bool) (p : Typed.Program) (nodes : List Node) (table : Table) (term : TermId) (i : ℕ) (asks_for : Asked) (last : Option Given.Solution) (is_for : Type 0) : Type 0 where
  pub equation : Written.Equation
  pub at : slice_get p.equations i ≡ Some equation
  pub exec : equation.exec ≡ true
  pub asked : asks_for ≡ asks (tree_of equation.left) [] term
  pub signature : is_for
  pub ready : CanGoOn c p.sig nodes table asks_for last

-- what is left behind an equation that is tried, if there is one, and of the equations with these numbers
abbrev pub left_by : Program → ℕ → ℕ → List Node → Tree → Option (ℕ × Option Given.Solution) → List ℕ → Run (Option Tree)
left_by P B k nodes t None is = first_of (applied_number P B k t) is
left_by P B k nodes t (Some x) is = left_of_all P B k t x.0 (option_map (solution_in nodes) x.1) is

-- x is a candidate for the executable equation with the number i
pub record IsFound (p : Typed.Program) (nodes : List Node) (t : Tree) (i : ℕ) (x : Given.Solution) : Type 0 where
  pub equation : Written.Equation
  pub at : slice_get p.equations i ≡ Some equation
  pub exec : equation.exec ≡ true
  pub candidate : IsCandidate p.sig nodes (tree_of equation.left) t x

-- what it gives
abbrev pub one_gives : Program → ℕ → ℕ → Tree → Solution → Option Equation → Run (Option Tree)
one_gives P B k t x (Some e) = candidate_gives P B k e t x
one_gives P B k t x None = gives None

abbrev pub number_gives : Program → ℕ → ℕ → Tree → ℕ → Solution → Run (Option Tree)
number_gives P B k t i x = one_gives P B k t x (slice_get P.equations i)

-- the numbers from n on of the executable equations, of those with owise or of those without
abbrev pub numbers_of : Bool → ℕ → List Equation → List ℕ
numbers_of o n [] = []
numbers_of o n (e ∷ es) = if e.exec && (if o then e.owise else not e.owise) then n ∷ numbers_of o (suc n) es else numbers_of o (suc n) es

-- the order in which equations are tried
abbrev pub order_of_all : List Equation → List ℕ
order_of_all es = numbers_of false 0 es ++ numbers_of true 0 es
