-- How a computation ends, in the words of an evaluator.
use Rattle.std.specs.Prelude.{◌≡◌, ℕ, List, Bool, Some, slice_get}
use Rattle.mau_terms.specs.declared.ids.VarId.{VarId}
use Rattle.mau_terms.specs.declared.ids.TermId.{TermId}
use Rattle.mau_formula.specs.Operator.{Operator}
use Rattle.mau_store.specs.Node.{Node}
use Rattle.mau_store.specs.Trees.{tree_at}
use Rattle.mau_sorts.specs.Table.{Table}
use Rattle.mau_program.specs.declared.program.Program as Typed
use Rattle.mau_evaluation.specs.Run.{Outcome, ended, stopped, too_deep, overflowed}
use Rattle.mau_evaluation.specs.Program.{Membership}
use Rattle.mau_api.specs.Programs.{program_over}
use Rattle.mau_api.specs.Meanings.{meanings_by}
use Rattle.mau_api.specs.Answers.{levels_of_condition, MayEnd, binding_in}
use Rattle.mau_api.specs.declared.results.EvalEnd.{EvalEnd}
use Rattle.mau_api.specs.declared.results.EvalEnd.TheVariants.{Stopped, TooDeep, Overflow, NoMemory}
use Rattle.mau_deriving.specs.Answered.{WasAnswered}
use Rattle.mau_deriving.specs.Given.{asks_by}
use Rattle.mau_settling.specs.Settlings.{Asks, CanEnd}
use Rattle.mau_settling.specs.declared.settling.Settling.{Settling}

-- it ends so; want of memory says nothing
abbrev pub EndsAs : {A : Type 0} → Outcome A → EvalEnd → Type 0
EndsAs o Stopped = o ≡ ended stopped
EndsAs o TooDeep = o ≡ ended too_deep
EndsAs o Overflow = o ≡ ended overflowed
EndsAs o NoMemory = Unit {0}

-- the condition of the membership with this number, under this binding, is answered so by some number of levels
abbrev pub IsAnsweredBy : Typed.Program → List Operator → ℕ → List Node → ℕ → List (VarId × TermId) → Bool → Type 0
IsAnsweredBy p hooks limit nodes at b holds =
    (m : Membership) → slice_get (program_over p hooks).memberships at ≡ Some m → WasAnswered (program_over p hooks) limit m.cond (binding_in nodes b) holds

-- it ends so by the levels of a condition that an item asks
abbrev pub IsEndedBy : Typed.Program → List Operator → ℕ → List Node → ℕ → List (VarId × TermId) → EvalEnd → Type 0
IsEndedBy p hooks limit nodes at b e =
    (m : Membership) → slice_get (program_over p hooks).memberships at ≡ Some m → EndsAs (asks_by (program_over p hooks) limit levels_of_condition m.cond (binding_in nodes b) limit) e

-- Where the condition that is asked ends, by the levels of a condition that an item asks, settling may end so: the sorts of the term or of an identity do. It is
-- proved: a function of the module `laws` has it for its contract.
abbrev pub ConditionsMayEnd : Type 0
ConditionsMayEnd =
    (p : Typed.Program) (hooks : List Operator) (limit : ℕ) (remembers : Bool) (nodes : List Node) (table : Table) (s : Settling) → CanEnd p hooks limit nodes table s →
    (at : ℕ) (b : List (VarId × TermId)) → Asks s at b → (m : Membership) → slice_get (program_over p hooks).memberships at ≡ Some m →
    (e : EvalEnd) → IsEndedBy p hooks limit nodes at b e → MayEnd (meanings_by p hooks limit remembers) (tree_at nodes s.term.0) e
