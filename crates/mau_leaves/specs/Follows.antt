-- What was given of the results of a leaf, and what is left of them.
use Rattle.std.specs.Prelude.{◌≡◌, ◌⊎◌, ℕ, List, [], ◌∷◌, ◌++◌, Option, Some, None, Result, Ok, Err}
use Rattle.mau_terms.specs.Tree.{Tree}
use Rattle.mau_terms.specs.declared.ids.TermId.{TermId}
use Rattle.mau_store.specs.Node.{Node}
use Rattle.mau_store.specs.Trees.{tree_at}
use Rattle.mau_evaluation.specs.Run.{End, stopped, too_deep, overflowed}
use Rattle.mau_evaluation.specs.Program.{Program}
use Rattle.mau_evaluation.specs.Engine.{Engine, Engines, engine_of}
use Rattle.mau_evaluation.specs.Strategy.{Strategy, every_rule, label, top_only, StratDef}
use Rattle.mau_evaluation.specs.Configs.{Todo}
use Rattle.mau_evaluation.specs.Answers.{Answers, before}
use Rattle.mau_evaluation.specs.OrderedLists.{results, bodies_for, LeafList}
use Rattle.mau_evaluation.specs.Entries.{LeafFront}
use Rattle.mau_evaluation.specs.Eventually.{Eventually}
use Rattle.mau_evaluation.specs.Questions.{Question, without, EndsWithin, EndsUnder, NeedsLeaf}
use Rattle.mau_api.specs.Answers.{levels_of_condition}
use Rattle.mau_api.specs.declared.results.EvalEnd.{EvalEnd}
use Rattle.mau_api.specs.declared.results.EvalEnd.TheVariants.{Stopped, TooDeep, Overflow, NoMemory}

-- Of a list these were given, and `now` says what is left behind them: from some limits on; and with engines that have no answer to a question it is so too, or the
-- list ends within those that were given.
pub record Given {A : Type 0} (E : Engines) (list : Engine → Answers A) (us : List A) (now : Engine → Answers A → Type 0) : Type 0 where
  pub always : Eventually E (λ L. (q : Answers A) × (list L ≡ before us q) × now L q)
  pub without_one : (u : Question) (e : End) → Eventually E (λ L.
      ((q : Answers A) × (list (without L u e) ≡ before us q) × now (without L u e) q) ⊎ EndsWithin e us (list (without L u e)))

-- of the results of d on t these were given
abbrev pub HasGiven : Program → Engines → Todo → Tree → List Tree → (Engine → Answers Tree → Type 0) → Type 0
HasGiven P E d t us now = Given E (λ L. results P L d t) us now

-- of the bodies of the call d, which have k calls left
abbrev pub HasGivenBodies : Program → Engines → List StratDef → ℕ → Todo → List Todo → (Engine → Answers Todo → Type 0) → Type 0
HasGivenBodies P E defs k d bs now = Given E (λ L. bodies_for P L defs k d.values d.form) bs now

-- an end has its cause: by the limits of an item, b being its budget, a question so ends without which the leaf has no results behind these
abbrev pub IsLeafDue : Program → ℕ → List StratDef → Todo → Tree → List Tree → EvalEnd → Type 0
IsLeafDue P b defs d t us Stopped = (q : Question) × EndsUnder P (engine_of P) defs levels_of_condition b q stopped × NeedsLeaf P (engine_of P) defs q d t us
IsLeafDue P b defs d t us TooDeep = (q : Question) × EndsUnder P (engine_of P) defs levels_of_condition b q too_deep × NeedsLeaf P (engine_of P) defs q d t us
IsLeafDue P b defs d t us Overflow = (q : Question) × EndsUnder P (engine_of P) defs levels_of_condition b q overflowed × NeedsLeaf P (engine_of P) defs q d t us
IsLeafDue P b defs d t us NoMemory = Unit {0}

-- What comes behind the first results us of the leaf d on t, where `new` says what is left then: one more, so that these are its first results; or us are all its
-- results; or an end that has its cause, after which what was left is left.
abbrev pub IsNextGiven : Program → ℕ → List StratDef → Todo → Tree → List Tree → (Engine → Answers Tree → Type 0) → List Node → Result (Option TermId) EvalEnd → Type 0
IsNextGiven P b defs d t us new nodes (Ok (Some id)) =
    HasGiven P (engine_of P) d t (us ++ tree_at nodes id.0 ∷ []) new × Eventually (engine_of P) (λ L. LeafFront P L defs d t (us ++ tree_at nodes id.0 ∷ []))
IsNextGiven P b defs d t us new nodes (Ok None) = Eventually (engine_of P) (λ L. LeafList P L d t us)
IsNextGiven P b defs d t us new nodes (Err e) = HasGiven P (engine_of P) d t us new × IsLeafDue P b defs d t us e

-- top(all), or top(l) where nothing is assigned
abbrev pub IsTopOf : Option (List ℕ) → Strategy → Type 0
IsTopOf None e = e ≡ top_only every_rule
IsTopOf (Some n) e = e ≡ top_only (label n [])
