-- The next solution under which a condition holds.
use Rattle.std.specs.Prelude.{◌≡◌, ℕ, List, Bool, true, false, Option, Some, None, Result, Ok, Err}
use Rattle.std.specs.declared.cmp.Ordering.{Ordering}
use Rattle.mau_terms.specs.Tree.{Tree}
use Rattle.mau_terms.specs.Bare.{IsBareIn, IsBare}
use Rattle.mau_terms.specs.Reading.{reading}
use Rattle.mau_terms.specs.Subst.{variables}
use Rattle.mau_poset.specs.Order.{kind_of}
use Rattle.mau_signature.specs.Signature.{SignatureOf, theory_at, terms_over}
use Rattle.mau_sigcheck.specs.Built.{IsBuiltAndAccepted}
use Rattle.mau_store.specs.Node.{Node, Extends}
use Rattle.mau_store.specs.Trees.{tree_at}
use Rattle.mau_sorts.specs.Table.{Table, KeepsEntries}
use Rattle.mau_program.specs.declared.statements.Fragment.{Fragment}
use Rattle.mau_evaluation.specs.Run.{End, stopped, too_deep, overflowed, Outcome, done, ended}
use Rattle.mau_evaluation.specs.Evaluation.{Binding}
use Rattle.mau_evaluation.specs.HasSort.{HasHeads}
use Rattle.mau_listing.specs.declared.solution.Solution.{Solution}
use Rattle.mau_listing.specs.Matcher.{Matcher}
use Rattle.mau_listing.specs.Next.{matcher_cmp, IsNext}
use Rattle.mau_listing.specs.Question.{Question, IsSolution}
use Rattle.mau_listing.specs.Asked.{Asked, matcher_in, IsGiven, CanGoOn}
use Rattle.mau_api.specs.Terms.{IsNormalBare}
use Rattle.mau_api.specs.Meanings.{Meanings, program_of, meanings_by}
use Rattle.mau_api.specs.Answers.{IsAskable, AreSettled}
use Rattle.mau_api.specs.declared.results.EvalEnd.{EvalEnd}
use Rattle.mau_api.specs.declared.results.EvalEnd.TheVariants.{Stopped, TooDeep, Overflow, NoMemory}
use Rattle.mau_conditional.specs.Meant.{HasDerivedSort, Asks}
use Rattle.mau_conditional.specs.declared.next.Turn.{Turn}
use Rattle.mau_conditional.specs.declared.next.Turn.TheVariants.{NoneLeft, Passed, Holds}

-- ---- what comes next

-- a solution, or none, or an end
pub data NextOf : Type 0 where
  next_is : Matcher → NextOf
  none_is_left : NextOf
  asking_ended : End → NextOf

-- solutions are passed over up to the first for which the asking gives a binding
pub data NextWhere (Is : Matcher → Type 0) (cmp : Matcher → Matcher → Ordering) (asks : Matcher → ℕ → Outcome (Option Binding) → Type 0) : Option Matcher → ℕ → NextOf → ℕ → Type 0 where
  next_holds : (last : Option Matcher) (b : ℕ) (x : Matcher) (σ : Binding) (r left : ℕ) → IsNext Is cmp last (Some x) → asks x b (done (Some σ) r left)
      → NextWhere Is cmp asks last b (next_is x) left
  nothing_next : (last : Option Matcher) (b : ℕ) → IsNext Is cmp last None → NextWhere Is cmp asks last b none_is_left b
  next_ends : (last : Option Matcher) (b : ℕ) (x : Matcher) (e : End) (left : ℕ) → IsNext Is cmp last (Some x) → asks x b (ended e) → NextWhere Is cmp asks last b (asking_ended e) left
  next_passed : (last : Option Matcher) (b : ℕ) (x : Matcher) (r left : ℕ) (o : NextOf) (after : ℕ) → IsNext Is cmp last (Some x) → asks x b (done None r left)
      → NextWhere Is cmp asks (Some x) left o after → NextWhere Is cmp asks last b o after

-- of the solutions of a question those for which the condition c holds
abbrev pub NextFor : Bool → SignatureOf → Meanings → List Fragment → Question → Option Matcher → ℕ → NextOf → ℕ → Type 0
NextFor w s m c u = NextWhere (IsSolution w s (HasDerivedSort m) u) (matcher_cmp (theory_at s) u.pattern) (Asks m u.pattern c)

-- P holds of what came, by the nodes of a store; want of memory says nothing
abbrev pub IfCame : List Node → Result (Option Solution) EvalEnd → (NextOf → Type 0) → Type 0
IfCame nodes (Ok (Some x)) P = P (next_is (matcher_in nodes x))
IfCame nodes (Ok None) P = P none_is_left
IfCame nodes (Err Stopped) P = P (asking_ended stopped)
IfCame nodes (Err TooDeep) P = P (asking_ended too_deep)
IfCame nodes (Err Overflow) P = P (asking_ended overflowed)
IfCame nodes (Err NoMemory) P = Unit {0}

-- ---- one solution

-- what is answered to an asking of which `asks` says what may come: the condition has a solution, or has none, with so much left of the budget; or an end
abbrev pub IsAsked : (Outcome (Option Binding) → Type 0) → Result Bool EvalEnd → ℕ → Type 0
IsAsked asks (Ok true) left = (σ : Binding) × (r : ℕ) × asks (done (Some σ) r left)
IsAsked asks (Ok false) left = (r : ℕ) × asks (done None r left)
IsAsked asks (Err Stopped) left = asks (ended stopped)
IsAsked asks (Err TooDeep) left = asks (ended too_deep)
IsAsked asks (Err Overflow) left = asks (ended overflowed)
IsAsked asks (Err NoMemory) left = Unit {0}

-- x comes next, and this is what the asking for it gives, with so much left
pub record IsTurned (w : Bool) (s : SignatureOf) (m : Meanings) (c : List Fragment) (u : Question) (last : Option Matcher) (b : ℕ) (answer : Result Bool EvalEnd) (left : ℕ) (x : Matcher) : Type 0 where
  pub next : IsNext (IsSolution w s (HasDerivedSort m) u) (matcher_cmp (theory_at s) u.pattern) last (Some x)
  pub asked : IsAsked (Asks m u.pattern c x b) answer left

-- what comes of the next solution, where `now` is the last one then
abbrev pub IsTurnOf : Bool → SignatureOf → Meanings → List Fragment → Question → List Node → Option Matcher → ℕ → Result Turn EvalEnd → Option Matcher → ℕ → Type 0
IsTurnOf w s m c u nodes last b (Ok NoneLeft) now left = IsNext (IsSolution w s (HasDerivedSort m) u) (matcher_cmp (theory_at s) u.pattern) last None × (left ≡ b)
IsTurnOf w s m c u nodes last b (Ok Passed) now left = (x : Matcher) × IsTurned w s m c u last b (Ok false) left x × (now ≡ Some x)
IsTurnOf w s m c u nodes last b (Ok (Holds x)) now left = IsTurned w s m c u last b (Ok true) left (matcher_in nodes x)
IsTurnOf w s m c u nodes last b (Err NoMemory) now left = Unit {0}
IsTurnOf w s m c u nodes last b (Err Stopped) now left = (x : Matcher) × IsTurned w s m c u last b (Err Stopped) left x
IsTurnOf w s m c u nodes last b (Err TooDeep) now left = (x : Matcher) × IsTurned w s m c u last b (Err TooDeep) left x
IsTurnOf w s m c u nodes last b (Err Overflow) now left = (x : Matcher) × IsTurned w s m c u last b (Err Overflow) left x

-- ---- what is needed

-- the sorts that a term has are of its kind
abbrev pub SortsAreOfKind : Meanings → Type 0
SortsAreOfKind m =
    (t : Tree) (r k : ℕ) → IsNormalBare m.program.sig t → HasDerivedSort m r t → IsBareIn (terms_over m.program.sig) (reading (theory_at m.program.sig) t) k → kind_of m.program.sig.hierarchy r ≡ k

-- an evaluator goes by the definitions of evaluation, for a program of which this is known
pub record GoesByProgram (m : Meanings) : Type 0 where
  pub defined : m ≡ meanings_by m.program m.hooks m.limit m.remembers
  pub accepted : IsBuiltAndAccepted m.program.sig
  pub heads : HasHeads (program_of m)
  pub kinds : SortsAreOfKind m

-- it may be asked the condition c for values of p's variables
pub record CanBeAsked (s : SignatureOf) (m : Meanings) (p : Tree) (c : List Fragment) : Type 0 where
  pub goes : GoesByProgram m
  pub exactly : m.remembers ≡ false
  pub signature : s ≡ m.program.sig
  pub pattern : IsBare (terms_over s) p
  pub condition : IsAskable s (variables p) c

-- a listing can go on behind its last solution, and the sorts of the subject are settled
pub record IsReadyFor (w : Bool) (s : SignatureOf) (nodes : List Node) (table : Table) (a : Asked) (last : Option Solution) : Type 0 where
  pub can : CanGoOn w s nodes table a last
  pub settled : AreSettled s nodes table (tree_at nodes a.subject.0)

-- a store and a table have grown
pub record HaveGrown (old new : List Node) (before after : Table) : Type 0 where
  pub extends : Extends old new
  pub kept : KeepsEntries before after

-- ---- what holds behind one solution

-- where the condition holds, the listing gave it
abbrev pub IfHolds : Bool → SignatureOf → List Node → Table → Asked → Option Solution → Turn → Type 0
IfHolds w s nodes table a given NoneLeft = Unit {0}
IfHolds w s nodes table a given Passed = Unit {0}
IfHolds w s nodes table a given (Holds x) = IsGiven w s nodes table a x × (given ≡ Some x)
