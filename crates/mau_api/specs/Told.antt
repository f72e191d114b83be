-- Told runs: what is told of an evaluation, of a run of rules, of a pass or of a run that is made again, and what it leads from and to. Terms are
-- normal forms. Of the run of a whole item nothing is entered; within it a frame is entered, a step replaces the term at hand of the innermost frame
-- that is open, and where a frame is left, its term at hand is the value.
use Rattle.std.specs.Prelude.{◌≡◌, ℕ, suc, ◌+◌, ◌-◌, ◌^◌, min, List, [], ◌∷◌, ◌++◌, length, map, Bool, true, false, Some, slice_get, All}
use Rattle.std.specs.List.{slice_set}
use Rattle.mau_terms.specs.Tree.{Tree, apply, trees_of}
use Rattle.mau_terms.specs.Norm.{norm, build}
use Rattle.mau_terms.specs.Reading.{reading}
use Rattle.mau_terms.specs.Subst.{Variable, value_at, instance}
use Rattle.mau_terms.specs.Solution.{HaveSorts}
use Rattle.mau_terms.specs.View.{tree_of}
use Rattle.mau_terms.specs.declared.ids.TermId.{TermId}
use Rattle.mau_terms.specs.declared.ids.OpId.{OpId}
use Rattle.mau_signature.specs.Signature.{SignatureOf, theory_at, terms_over}
use Rattle.mau_formula.specs.Operator.{Operator}
use Rattle.mau_store.specs.Node.{Node, IsOf, Extends}
use Rattle.mau_store.specs.Trees.{tree_at, trees_at}
use Rattle.mau_store.specs.View.{numbers}
use Rattle.mau_sorts.specs.Table.{Table, KeepsEntries}
use Rattle.mau_listing.specs.Asked.{HasEntry}
use Rattle.mau_program.specs.declared.statements.Fragment.{Fragment}
use Rattle.mau_program.specs.declared.statements.Fragment.TheVariants.{Equal, Match, Sort}
use Rattle.mau_program.specs.declared.statements.Equation.{Equation}
use Rattle.mau_program.specs.declared.statements.Rule.{Rule}
use Rattle.mau_program.specs.declared.program.Program.{Program}
use Rattle.mau_evaluation.specs.Program.{value}
use Rattle.mau_evaluation.specs.Evaluation.{native}
use Rattle.mau_api.specs.declared.step.Place.{Place}
use Rattle.mau_api.specs.declared.step.Place.TheVariants.{Whole, Argument, Fragment as OfFragment}
use Rattle.mau_api.specs.declared.step.Statement.{Statement}
use Rattle.mau_api.specs.declared.step.Statement.TheVariants.{Equation as ByEquation, Rule as ByRule, BuiltIn}
use Rattle.mau_api.specs.declared.step.Step.{Step}
use Rattle.mau_api.specs.Events.{Event, entered, left, made}
use Rattle.mau_api.specs.Terms.{IsNormalTerm, IsBareWithin, fill, IsContextFor}
use Rattle.mau_api.specs.Variables.{numbered, statement_variables}
use Rattle.mau_api.specs.Programs.{program_over}

-- ---- what is told, by terms

-- one use of a statement in a context, with the values of its variables; before and after stand in the hole
pub record StepOf : Type 0 where
  pub statement : Statement
  pub context : Tree
  pub values : List Tree
  pub before : Tree
  pub after : Tree

pub data Told : Type 0 where
  enters : Tree → Place → Told
  leaves : Tree → Told
  steps : StepOf → Told

-- what a step and an event are over the nodes of a store
abbrev pub step_in : List Node → Step → StepOf
step_in nodes s = record {
  statement = s.statement;
  context = tree_of s.context;
  values = trees_at nodes (numbers s.values);
  before = tree_at nodes s.before.0;
  after = tree_at nodes s.after.0;
}

abbrev pub told_in : List Node → Event → Told
told_in nodes (entered t place) = enters (tree_at nodes t.0) place
told_in nodes (left t) = leaves (tree_at nodes t.0)
told_in nodes (made s) = steps (step_in nodes s)

-- ---- uses of statements

-- P r v says that the normal form v has the sort r. The values are those of the variables xs, and before and after are the instances of both sides
pub record IsInstance (s : SignatureOf) (P : ℕ → Tree → Type 0) (xs : List Variable) (left right : Tree) (x : StepOf) : Type 0 where
  pub one_each : length x.values ≡ length xs
  pub sorted : HaveSorts P xs x.values
  pub before : norm (theory_at s) (instance (value_at xs x.values) left) ≡ x.before
  pub after : norm (theory_at s) (instance (value_at xs x.values) right) ≡ x.after
  pub context : IsContextFor (terms_over s) left x.context

-- before is an operator over its arguments, in normal form, and after what is built in gives
pub record IsBuiltStep (p : Program) (hooks : List Operator) (f : ℕ) (x : StepOf) : Type 0 where
  pub no_values : x.values ≡ []
  pub normal : norm (theory_at p.sig) x.before ≡ x.before
  pub arguments : List Tree
  pub before : x.before ≡ apply f (trees_of arguments)
  pub result : Tree
  pub gives : native (program_over p hooks) x.before ≡ value result
  pub after : norm (theory_at p.sig) result ≡ x.after
  pub context : IsContextFor (terms_over p.sig) (reading (theory_at p.sig) x.before) x.context

-- the step leads from the term t at hand to u, and all is within the limits
pub record LeadsOver (s : SignatureOf) (x : StepOf) (t u : Tree) : Type 0 where
  pub from : norm (theory_at s) (fill x.context x.before) ≡ t
  pub to : norm (theory_at s) (fill x.context x.after) ≡ u
  pub normal : IsNormalTerm s u
  pub context : IsBareWithin s x.context
  pub values : All (IsNormalTerm s) x.values

-- ---- runs

-- no argument is entered first
abbrev pub IsNoArgument : Place → Type 0
IsNoArgument Whole = Unit {0}
IsNoArgument (Argument i) = ⊥
IsNoArgument (OfFragment j k) = Unit {0}

abbrev pub BeginsNoRound : List Told → Type 0
BeginsNoRound [] = Unit {0}
BeginsNoRound (enters t place ∷ xs) = IsNoArgument place
BeginsNoRound (leaves t ∷ xs) = Unit {0}
BeginsNoRound (steps x ∷ xs) = Unit {0}

module _ (p : Program) (hooks : List Operator) (P : ℕ → Tree → Type 0) where
  mutual
    -- what is told leads from the term at hand to another; rules are used only where the Bool is true
    pub data Leads : Bool → Tree → List Told → Tree → Type 0 where
      stands : {r : Bool} {t : Tree} → Leads r t [] t
      -- the whole of it is evaluated, or passed over
      on_whole : {r : Bool} {t u v : Tree} {xs ys : List Told} → Leads r t xs u → Leads r u ys v → Leads r t (enters t Whole ∷ xs ++ leaves u ∷ ys) v
      -- some of its arguments are, in one round, and it is rebuilt before anything else is told
      on_arguments : {r : Bool} {f : ℕ} {ts us : List Tree} {v : Tree} {xs ys : List Told} → LeadsIn r ts xs us → IsNormalTerm p.sig (build (theory_at p.sig f) f us) → BeginsNoRound ys →
          Leads r (build (theory_at p.sig f) f us) ys v → Leads r (apply f (trees_of ts)) (xs ++ ys) v
      -- the equation with the number n is used, after its condition was shown
      by_equation : {r : Bool} {t u v : Tree} {xs ys : List Told} (n : ℕ) (e : Equation) (x : StepOf) → numbered p.equations n ≡ Some e → e.exec ≡ true → x.statement ≡ ByEquation n →
          IsInstance p.sig P (statement_variables (tree_of e.left) e.cond (tree_of e.right)) (tree_of e.left) (tree_of e.right) x →
          Shown (value_at (statement_variables (tree_of e.left) e.cond (tree_of e.right)) x.values) 0 e.cond xs →
          LeadsOver p.sig x t u → Leads r u ys v → Leads r t (xs ++ steps x ∷ ys) v
      by_rule : {t u v : Tree} {xs ys : List Told} (n : ℕ) (q : Rule) (x : StepOf) → numbered p.rules n ≡ Some q → x.statement ≡ ByRule n →
          IsInstance p.sig P (statement_variables (tree_of q.left) q.cond (tree_of q.right)) (tree_of q.left) (tree_of q.right) x →
          Shown (value_at (statement_variables (tree_of q.left) q.cond (tree_of q.right)) x.values) 0 q.cond xs →
          LeadsOver p.sig x t u → Leads true u ys v → Leads true t (xs ++ steps x ∷ ys) v
      by_built_in : {r : Bool} {t u v : Tree} {ys : List Told} (f : OpId) (x : StepOf) → x.statement ≡ BuiltIn f → IsBuiltStep p hooks f.0 x →
          LeadsOver p.sig x t u → Leads r u ys v → Leads r t (steps x ∷ ys) v

    -- the same in one argument after the other, in any order; arguments are counted from 0, as they stood when the round began
    pub data LeadsIn : Bool → List Tree → List Told → List Tree → Type 0 where
      all_stand : {r : Bool} {ts : List Tree} → LeadsIn r ts [] ts
      in_one : {r : Bool} {ts us : List Tree} {t u : Tree} {xs ys : List Told} (i : ℕ) → slice_get ts i ≡ Some t → Leads r t xs u → LeadsIn r (slice_set ts i u) ys us →
          LeadsIn r ts (enters t (Argument i) ∷ xs ++ leaves u ∷ ys) us

    -- the sides of the fragments from the number j on are evaluated, and what that gives makes each fragment true; g gives the values of variables
    pub data Shown : (Variable → Tree) → ℕ → List Fragment → List Told → Type 0 where
      nothing_to_show : {g : Variable → Tree} {j : ℕ} → Shown g j [] []
      shows_equal : {g : Variable → Tree} {j : ℕ} {cs : List Fragment} {xs ys zs : List Told} (t u : _) {a b v : Tree} →
          norm (theory_at p.sig) (instance g (tree_of t)) ≡ a → norm (theory_at p.sig) (instance g (tree_of u)) ≡ b → IsNormalTerm p.sig a → IsNormalTerm p.sig b →
          Leads false a xs v → Leads false b ys v → Shown g (j + 1) cs zs →
          Shown g j (Equal t u ∷ cs) (enters a (OfFragment j 0) ∷ xs ++ leaves v ∷ enters b (OfFragment j 1) ∷ ys ++ leaves v ∷ zs)
      shows_match : {g : Variable → Tree} {j : ℕ} {cs : List Fragment} {ys zs : List Told} (q u : _) {b v : Tree} →
          norm (theory_at p.sig) (instance g (tree_of u)) ≡ b → norm (theory_at p.sig) (instance g (tree_of q)) ≡ v → IsNormalTerm p.sig b → Leads false b ys v →
          Shown g (j + 1) cs zs → Shown g j (Match q u ∷ cs) (enters b (OfFragment j 1) ∷ ys ++ leaves v ∷ zs)
      shows_sort : {g : Variable → Tree} {j : ℕ} {cs : List Fragment} {xs zs : List Told} (t : _) (r : ℕ) {a v : Tree} →
          norm (theory_at p.sig) (instance g (tree_of t)) ≡ a → IsNormalTerm p.sig a → Leads false a xs v → P r v →
          Shown g (j + 1) cs zs → Shown g j (Sort t r ∷ cs) (enters a (OfFragment j 0) ∷ xs ++ leaves v ∷ zs)

-- ---- events of a store

-- the numbers that are told are those of terms of the store
abbrev pub StandsIn : List Node → Event → Type 0
StandsIn nodes (entered t place) = IsOf nodes t.0
StandsIn nodes (left t) = IsOf nodes t.0
StandsIn nodes (made s) = IsOf nodes s.before.0 × IsOf nodes s.after.0 × All (IsOf nodes) (numbers s.values)

-- a count as it is shown
abbrev pub shown_count : ℕ → ℕ
shown_count r = min r (2 ^ 64 - 1)

-- how many steps are made
abbrev pub steps_in : List Event → ℕ
steps_in [] = 0
steps_in (entered t place ∷ es) = steps_in es
steps_in (left t ∷ es) = steps_in es
steps_in (made s ∷ es) = suc (steps_in es)

-- the events lead from t to u, where the entries of a table tell the sorts
pub record IsToldRun (p : Program) (hooks : List Operator) (nodes : List Node) (table : Table) (rules : Bool) (t : Tree) (es : List Event) (u : Tree) : Type 0 where
  pub stand : All (StandsIn nodes) es
  pub leads : Leads p hooks (HasEntry p.sig nodes table) rules t (map (told_in nodes) es) u

-- the events show a condition, where g gives the values of variables
pub record IsToldCondition (p : Program) (hooks : List Operator) (nodes : List Node) (table : Table) (g : Variable → Tree) (cond : List Fragment) (es : List Event) : Type 0 where
  pub stand : All (StandsIn nodes) es
  pub shown : Shown p hooks (HasEntry p.sig nodes table) g 0 cond (map (told_in nodes) es)

-- What is told grew from old to new by an evaluation of a whole term, which has the value; r steps are made, the least of their number and of what
-- a count shows at most
pub record TellsEvaluation (p : Program) (hooks : List Operator) (nodes : List Node) (table : Table) (old new : List Event) (term value : TermId) (r : ℕ) : Type 0 where
  pub events : List Event
  pub told : new ≡ old ++ (entered term Whole ∷ (events ++ left value ∷ []))
  pub run : IsToldRun p hooks nodes table false (tree_at nodes term.0) events (tree_at nodes value.0)
  pub count : r ≡ shown_count (steps_in events)

-- by the evaluations of a condition that holds, in the same way
pub record TellsCondition (p : Program) (hooks : List Operator) (nodes : List Node) (table : Table) (old new : List Event) (g : Variable → Tree) (cond : List Fragment) (r : ℕ) : Type 0 where
  pub events : List Event
  pub told : new ≡ old ++ events
  pub shown : IsToldCondition p hooks nodes table g cond events
  pub count : r ≡ shown_count (steps_in events)

-- by whatever was told behind the rest
abbrev pub TellsMore : List Event → List Event → Type 0
TellsMore old new = (events : List Event) × (new ≡ old ++ events)

-- ---- laws

-- a told run and then another are one, where the second does not go on with a round of arguments
abbrev pub RunsGoOn : Type 0
RunsGoOn =
    (p : Program) (hooks : List Operator) (nodes : List Node) (table : Table) (rules : Bool) (t u v : Tree) (es fs : List Event) →
    IsToldRun p hooks nodes table rules t es u → BeginsNoRound (map (told_in nodes) fs) → IsToldRun p hooks nodes table rules u fs v →
    IsToldRun p hooks nodes table rules t (es ++ fs) v

-- in a store and a table of sorts that grow a told run stays one
abbrev pub RunsStay : Type 0
RunsStay =
    (p : Program) (hooks : List Operator) (old new : List Node) (before after : Table) → Extends old new → KeepsEntries before after →
    (rules : Bool) (t : Tree) (es : List Event) (u : Tree) → IsToldRun p hooks old before rules t es u → IsToldRun p hooks new after rules t es u

-- and so does a condition that is told
abbrev pub ConditionsStay : Type 0
ConditionsStay =
    (p : Program) (hooks : List Operator) (old new : List Node) (before after : Table) → Extends old new → KeepsEntries before after →
    (g : Variable → Tree) (cond : List Fragment) (es : List Event) → IsToldCondition p hooks old before g cond es → IsToldCondition p hooks new after g cond es
