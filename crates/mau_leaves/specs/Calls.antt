-- Searches for the bodies of a call, by the numbers of a store: where they stand, and what is left.
use Rattle.std.specs.Prelude.{◌≡◌, ℕ, suc, List, [], length, map, drop, All, Bool, true, false, Option, Some, None, IfSome, slice_get}
use Rattle.std.specs.Option.{option_map}
use Rattle.mau_terms.specs.Tree.{Tree}
use Rattle.mau_terms.specs.declared.ids.TermId.{TermId}
use Rattle.mau_terms.specs.declared.ids.VarId.{VarId}
use Rattle.mau_signature.specs.Signature.{SignatureOf}
use Rattle.mau_formula.specs.Operator.{Operator}
use Rattle.mau_store.specs.Node.{Node}
use Rattle.mau_sorts.specs.Table.{Table}
use Rattle.mau_listing.specs.Asked.{Asked}
use Rattle.mau_listing.specs.declared.solution.Solution as Listed
use Rattle.mau_program.specs.declared.program.Program as Typed
use Rattle.mau_program.specs.declared.definitions.StratDef as Written
use Rattle.mau_evaluation.specs.Program.{Program}
use Rattle.mau_evaluation.specs.Evaluation.{Binding}
use Rattle.mau_evaluation.specs.Engine.{Engine}
use Rattle.mau_evaluation.specs.Strategy.{StratDef}
use Rattle.mau_evaluation.specs.Configs.{Todo}
use Rattle.mau_evaluation.specs.Answers.{Answers, no_more, and_those, for_each}
use Rattle.mau_evaluation.specs.OrderedLists.{body_for, bodies_at, bodies_by}
use Rattle.mau_api.specs.Programs.{fragment_of, program_over}
use Rattle.mau_api.specs.Meanings.{Meanings}
use Rattle.mau_api.specs.Answers.{binding_in, IsFragment, IsValueOf, IsSolutionOf}
use Rattle.mau_stratforms.specs.Meanings.{definition_of}
use Rattle.mau_leaves.specs.Uses.{IsAskedFrom}
use Rattle.mau_leaves.specs.Searches.{found_in, last_in}
use Rattle.mau_leaves.specs.InTurn.{just}
use Rattle.mau_leaves.specs.Arguments.{last_found, left_of_arguments, IsArgumentSearch}
use Rattle.mau_leaves.specs.declared.uses.Standing.{Standing}
use Rattle.mau_leaves.specs.declared.uses.Standing.TheVariants.{Behind, Before, Within}
use Rattle.mau_leaves.specs.declared.arguments.ArgumentSearch.{ArgumentSearch}
use Rattle.mau_leaves.specs.declared.bodies.CallBodies.{CallBodies}

-- ---- what is left, with one engine, where bodies have k calls left

-- the bodies of a definition behind a solution of its condition under what is bound, or all of them, and then others; where nothing is said of what is bound,
-- none
abbrev pub IsLeftOf : Program → Engine → ℕ → StratDef → Option Binding → Option Binding → Answers Todo → Answers Todo → Type 0
IsLeftOf P L k d None last rest q = q ≡ no_more
IsLeftOf P L k d (Some σ) last rest q = (r : Answers Binding) × IsAskedFrom P L last d.cond σ r × (q ≡ and_those (for_each (body_for k d) r) rest)

-- ---- by numbers: a definition is not begun yet; or solutions of its argument patterns are searched for; or its condition is asked on, under one of them

-- `asked` and `given` say what a listing was asked, and what it gave last; the call has this name and these values of its arguments
module _ {K : Type 0} (asked : K → Asked) (given : K → Option Listed.Solution) (p : Typed.Program) (hooks : List Operator) (k : ℕ) (n : List ℕ) (vs : List Tree) where
  -- the bodies by the definitions from one on
  abbrev pub bodies_from : ℕ → Engine → Answers Todo
  bodies_from i = λ L. bodies_by (program_over p hooks) L (map definition_of (drop i p.strategies)) k n vs

  -- those of a definition by the solutions of its argument patterns that are left, and of those behind it
  abbrev pub bodies_left : List Node → ℕ → Written.StratDef → ArgumentSearch K → Engine → Answers Todo
  bodies_left nodes i d a = λ L. and_those (for_each (bodies_at (program_over p hooks) L k (definition_of d)) (left_of_arguments asked given p hooks nodes d.args vs a L)) (bodies_from (suc i) L)

  abbrev pub left_begun : List Node → ℕ → Written.StratDef → ArgumentSearch K → Standing → Engine → Answers Todo → Type 0
  left_begun nodes i d a Behind = just (bodies_left nodes i d a)
  left_begun nodes i d a Before = λ L. IsLeftOf (program_over p hooks) L k (definition_of d) (option_map (binding_in nodes) (last_found a.searches.items)) None (bodies_left nodes i d a L)
  left_begun nodes i d a (Within found) = λ L.
      IsLeftOf (program_over p hooks) L k (definition_of d) (option_map (binding_in nodes) (last_found a.searches.items)) (Some (binding_in nodes found.items)) (bodies_left nodes i d a L)

  abbrev pub left_of_one : List Node → ℕ → Option Written.StratDef → ArgumentSearch K → Standing → Engine → Answers Todo → Type 0
  left_of_one nodes i None a s = just (λ L. no_more)
  left_of_one nodes i (Some d) a s = left_begun nodes i d a s

  abbrev pub left_standing : List Node → ℕ → Option (ArgumentSearch K) → Standing → Engine → Answers Todo → Type 0
  left_standing nodes i None s = just (bodies_from i)
  left_standing nodes i (Some a) s = left_of_one nodes i (slice_get p.strategies i) a s

  abbrev pub left_of_call : List Node → CallBodies K → Engine → Answers Todo → Type 0
  left_of_call nodes s = left_standing nodes s.number s.arguments s.standing

-- the body that was found last, by the definition and the values of its variables
abbrev pub body_with : ℕ → List Node → Standing → Option Written.StratDef → Option Todo
body_with k nodes (Within found) (Some d) = Some (record { form = (definition_of d).body; calls = k; values = binding_in nodes found.items })
body_with k nodes s d = None

abbrev pub body_found : {K : Type 0} → Typed.Program → ℕ → List Node → CallBodies K → Option Todo
body_found p k nodes s = body_with k nodes s.standing (slice_get p.strategies s.number)

-- ---- what is known where it stands

-- a solution of the condition of d under what is bound
pub record IsShownFor (m : Meanings) (s : SignatureOf) (d : Written.StratDef) (bound : List (VarId × TermId)) (nodes : List Node) (table : Table) (found : List (VarId × TermId)) : Type 0 where
  pub values : All (IsValueOf s nodes table) found
  pub solution : IsSolutionOf m (map fragment_of d.cond) (binding_in nodes bound) (binding_in nodes found)

module _ {K : Type 0} (asked : K → Asked) (given : K → Option Listed.Solution) (is_for : K → SignatureOf → Type 0) (c : Bool) (p : Typed.Program) (m : Meanings) (nodes : List Node) (table : Table) where
  -- the condition of d is asked on under a solution of all its argument patterns
  pub record IsAskedOn (d : Written.StratDef) (a : ArgumentSearch K) (s : Standing) : Type 0 where
    pub bound : List (VarId × TermId)
    pub at : last_found a.searches.items ≡ Some bound
    pub all : length a.searches.items ≡ length d.args
    pub shown : IfSome (found_in s) (IsShownFor m p.sig d bound nodes table)

  abbrev pub StandsAt : Written.StratDef → ArgumentSearch K → Standing → Type 0
  StandsAt d a Behind = Unit {0}
  StandsAt d a Before = IsAskedOn d a Before
  StandsAt d a (Within found) = IsAskedOn d a (Within found)

  -- the definition with a number, no fragment of whose condition rewrites
  pub record IsBegun (vs : List TermId) (i : ℕ) (a : ArgumentSearch K) (s : Standing) : Type 0 where
    pub definition : Written.StratDef
    pub at : slice_get p.strategies i ≡ Some definition
    pub fragments : All (IsFragment p.sig) definition.cond
    pub arguments : IsArgumentSearch asked given is_for c p m nodes table definition.args vs a
    pub stands : StandsAt definition a s

  abbrev pub IsStanding : List TermId → ℕ → Option (ArgumentSearch K) → Standing → Type 0
  IsStanding vs i None s = s ≡ Behind
  IsStanding vs i (Some a) s = IsBegun vs i a s

  abbrev pub IsCallSearch : List TermId → CallBodies K → Type 0
  IsCallSearch vs s = IsStanding vs s.number s.arguments s.standing
