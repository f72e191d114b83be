-- The candidate that was tried last at the top of a term.
use Rattle.std.specs.Prelude.{◌≡◌, ℕ, List, [], length, true, Option, Some, None, slice_get}
use Rattle.mau_terms.specs.Tree.{Tree}
use Rattle.mau_terms.specs.Subst.{Variable, variables}
use Rattle.mau_terms.specs.View.{tree_of}
use Rattle.mau_terms.specs.declared.ids.TermId.{TermId}
use Rattle.mau_store.specs.Node.{Node}
use Rattle.mau_sorts.specs.Table.{Table}
use Rattle.mau_listing.specs.Asked.{asks, IsGiven}
use Rattle.mau_listing.specs.declared.solution.Solution as Listed
use Rattle.mau_program.specs.declared.program.Program as Typed
use Rattle.mau_program.specs.declared.statements.Equation as Written
use Rattle.mau_reduce.specs.declared.given.Given.{Given}
use Rattle.mau_reduce.specs.declared.given.Given.TheVariants.{Nothing, TooLarge, Argument, Whole, Before}
use Rattle.mau_reduce.specs.declared.trying.Found.{Found}
use Rattle.mau_reduce.specs.Trying.{IsFound}

-- ---- the values with which it begins

-- the variables of the left side of the equation with the number i; behind all equations there are none
abbrev pub left_variables_of : Option Written.Equation → List Variable
left_variables_of (Some e) = variables (tree_of e.left)
left_variables_of None = []

abbrev pub left_variables : Typed.Program → ℕ → List Variable
left_variables p i = left_variables_of (slice_get p.equations i)

-- the numbers of their values; what a built-in gives has none
abbrev pub first_values : Given → Option Found → List TermId
first_values Nothing (Some y) = y.solution.values
first_values Nothing None = []
first_values TooLarge last = []
first_values (Argument i) last = []
first_values (Whole l) last = []
first_values (Before l) last = []

-- ---- what it is

-- the last candidate at the top of t is a solution for the executable equation with the number i; or it is the value that the built-in gives, and i is the
-- number behind all equations
abbrev pub IsLast : Typed.Program → List Node → Tree → ℕ → Given → Option Found → Type 0
IsLast p nodes t i Nothing (Some y) = (y.number ≡ i) × IsFound p nodes t i y.solution
IsLast p nodes t i Nothing None = ⊥
IsLast p nodes t i TooLarge last = ⊥
IsLast p nodes t i (Argument j) last = i ≡ length p.equations
IsLast p nodes t i (Whole l) last = i ≡ length p.equations
IsLast p nodes t i (Before l) last = i ≡ length p.equations

-- x solves the left side of the equation with the number i at the top of a term, by the entries of a table
pub record IsListed (p : Typed.Program) (nodes : List Node) (table : Table) (term : TermId) (i : ℕ) (x : Listed.Solution) : Type 0 where
  pub equation : Written.Equation
  pub at : slice_get p.equations i ≡ Some equation
  pub solves : IsGiven true p.sig nodes table (asks (tree_of equation.left) [] term) x

-- the last candidate does, if it is one of an equation
abbrev pub IsLastListed : Typed.Program → List Node → Table → TermId → ℕ → Given → Option Found → Type 0
IsLastListed p nodes table term i Nothing (Some y) = IsListed p nodes table term i y.solution
IsLastListed p nodes table term i Nothing None = ⊥
IsLastListed p nodes table term i TooLarge last = ⊥
IsLastListed p nodes table term i (Argument j) last = Unit {0}
IsLastListed p nodes table term i (Whole l) last = Unit {0}
IsLastListed p nodes table term i (Before l) last = Unit {0}
