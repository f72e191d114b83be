-- What a watcher is told of uses of rules and of runs of them: by the told runs of mau_api.
use Rattle.std.specs.Prelude.{◌≡◌, ◌+◌, ◌-◌, ◌++◌, ℕ, suc, List, [], ◌∷◌, map, All, Bool, true, false, Some, slice_get}
use Rattle.mau_terms.specs.Tree.{Tree, variable, numeral, apply, list_of}
use Rattle.mau_terms.specs.declared.ids.TermId.{TermId}
use Rattle.mau_terms.specs.View.{tree_of}
use Rattle.mau_formula.specs.Operator.{Operator}
use Rattle.mau_store.specs.Node.{Node}
use Rattle.mau_store.specs.Trees.{tree_at, trees_at}
use Rattle.mau_store.specs.View.{numbers}
use Rattle.mau_sorts.specs.Table.{Table}
use Rattle.mau_listing.specs.Asked.{HasEntry}
use Rattle.mau_program.specs.declared.program.Program as Typed
use Rattle.mau_program.specs.declared.statements.Rule as Written
use Rattle.mau_evaluation.specs.Evaluation.{look_up}
use Rattle.mau_api.specs.Events.{Event, entered, left}
use Rattle.mau_api.specs.Variables.{statement_variables}
use Rattle.mau_api.specs.Told.{Told, told_in, LeadsIn, StandsIn, StepOf, IsInstance, LeadsOver, BeginsNoRound, IsToldRun, steps_in, shown_count, TellsCondition, TellsMore}
use Rattle.mau_api.specs.Answers.{binding_in}
use Rattle.mau_api.specs.declared.step.Statement.TheVariants.{Rule as ByRule}
use Rattle.mau_api.specs.declared.step.Place.TheVariants.{Whole, Argument}
use Rattle.mau_rules.specs.declared.attempt.Found.{Found}
use Rattle.mau_rules.specs.declared.frames.Frame.{Frame}

-- what was told before stays in front; and nothing is told where no steps are wanted
pub record TellsBehind (wanted : Bool) (old new : List Event) : Type 0 where
  pub more : TellsMore old new
  pub silent : wanted ≡ false → new ≡ old

-- the condition of the rule that is used was told, by the evaluations by which it holds
abbrev pub TellsFound : Typed.Program → List Operator → List Node → Table → List Event → List Event → Found → Type 0
TellsFound p hooks nodes table old new x =
    (rule : Written.Rule) → slice_get p.rules x.number ≡ Some rule → TellsCondition p hooks nodes table old new (look_up (binding_in nodes x.bound.items)) rule.cond x.rewrites

-- by the rule with the number i the step leads from the term t to u, both of them whole terms; vs are the values of its variables, and P r v says that v has
-- the sort r
pub record IsRuleStep (p : Typed.Program) (P : ℕ → Tree → Type 0) (i : ℕ) (vs : List Tree) (t u : Tree) (x : StepOf) : Type 0 where
  pub rule : Written.Rule
  pub at : slice_get p.rules i ≡ Some rule
  -- as it is shown, it is counted from 1
  pub statement : x.statement ≡ ByRule (suc i)
  pub values : x.values ≡ vs
  pub instance : IsInstance p.sig P (statement_variables (tree_of rule.left) rule.cond (tree_of rule.right)) (tree_of rule.left) (tree_of rule.right) x
  pub leads : LeadsOver p.sig x t u

-- What is told grew from old to new by a run of rules, or a part of one, that leads from the term t to u; r steps are made, the least of their number and of
-- what a count shows at most. It may stand behind another such run
pub record TellsRules (p : Typed.Program) (hooks : List Operator) (nodes : List Node) (table : Table) (old new : List Event) (t u : Tree) (r : ℕ) : Type 0 where
  pub events : List Event
  pub told : new ≡ old ++ events
  pub begins : BeginsNoRound (map (told_in nodes) events)
  pub run : IsToldRun p hooks nodes table true t events u
  pub count : r ≡ shown_count (steps_in events)

-- ---- passes

-- where a count showed so many steps, it shows n more
abbrev pub Adds : (before now n : ℕ) → Type 0
Adds before now n = (k : ℕ) → before ≡ shown_count k → now ≡ shown_count (k + n)

-- what is told grew by a part of a run that leads from t to u, and a count grew by its steps
pub record TellsPart (p : Typed.Program) (hooks : List Operator) (nodes : List Node) (table : Table) (old new : List Event) (t u : Tree) (before now : ℕ) : Type 0 where
  pub events : List Event
  pub told : new ≡ old ++ events
  pub begins : BeginsNoRound (map (told_in nodes) events)
  pub run : IsToldRun p hooks nodes table true t events u
  pub adds : Adds before now (steps_in events)

-- the term with which the first of some open terms was entered, or the one behind them
abbrev pub first_term : List Frame → TermId → TermId
first_term [] t = t
first_term (x ∷ xs) t = x.term

module _ (p : Typed.Program) (hooks : List Operator) (nodes : List Node) (table : Table) where
  -- a round led from the arguments of a term to other ones; of a term without arguments nothing was told
  abbrev pub RoundFrom : Tree → List Told → List Tree → Type 0
  RoundFrom (apply f ts) xs us = LeadsIn p hooks (HasEntry p.sig nodes table) true (list_of ts) xs us
  RoundFrom (variable i s) xs us = xs ≡ []
  RoundFrom (numeral n) xs us = xs ≡ []

  -- what was told of an open term: its arguments were passed over to what they are by now
  pub record TellsRound (x : Frame) (es : List Event) : Type 0 where
    pub stand : All (StandsIn nodes) es
    pub round : RoundFrom (tree_at nodes x.term.0) (map (told_in nodes) es) (trees_at nodes (numbers x.args.items))

  -- what was told of a term that was passed over: it led to another
  abbrev pub TellsReached : TermId → TermId → List Event → Type 0
  TellsReached t v es = IsToldRun p hooks nodes table true (tree_at nodes t.0) es (tree_at nodes v.0)

  -- What was told of the terms that are open, from the outermost one on: of each one its round, and then the next argument was entered. Q is what was told of the
  -- term t that was entered last
  abbrev pub TellsOpen : (List Event → Type 0) → TermId → List Frame → List Event → Type 0
  TellsOpen Q t [] es = Q es
  TellsOpen Q t (x ∷ xs) es =
      (round : List Event) × (inner : List Event) × (es ≡ round ++ entered (first_term xs t) (Argument (x.next - 1)) ∷ inner) × TellsRound x round × TellsOpen Q t xs inner

  -- what was told since a pass began with a term: so many steps are made
  pub record TellsWithin (Q : List Event → Type 0) (t : TermId) (xs : List Frame) (old new : List Event) (n : ℕ) : Type 0 where
    pub events : List Event
    pub told : new ≡ old ++ entered (first_term xs t) Whole ∷ events
    pub opened : TellsOpen Q t xs events
    pub count : steps_in events ≡ n

  -- a whole pass was told, which led from a term to another
  pub record TellsPass (t v : TermId) (old new : List Event) (n : ℕ) : Type 0 where
    pub events : List Event
    pub told : new ≡ old ++ (entered t Whole ∷ (events ++ left v ∷ []))
    pub reached : TellsReached t v events
    pub count : steps_in events ≡ n
