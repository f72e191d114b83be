-- The laws of rule runs, of ordered lists, and of strategy runs.
use Rattle.std.specs.Prelude.{◌≡◌, ◌≤◌, ◌⊎◌, ℕ, suc, List, [], ◌∷◌, Option, Contains}
use Rattle.mau_terms.specs.Tree.{Tree}
use Rattle.mau_terms.specs.Finite.{IsIn}
use Rattle.mau_terms.specs.Bare.{IsLawful}
use Rattle.mau_evaluation.specs.Run.{End, Run, NeverRises}
use Rattle.mau_evaluation.specs.Program.{Fragment, Program}
use Rattle.mau_evaluation.specs.Evaluation.{Binding, levels, solve}
use Rattle.mau_evaluation.specs.Laws.{StaysTheSame}
use Rattle.mau_evaluation.specs.Higher.{IsHigher, IsRicher}
use Rattle.mau_evaluation.specs.Engine.{Engine, Engines, engine_of, IsLargerEngine}
use Rattle.mau_evaluation.specs.RuleRuns.{Stand, one_less, rewriting_on, rewriting, passing_on, passing, rewrite_at, frewrite_at}
use Rattle.mau_evaluation.specs.Strategy.{Strategy, branch, StratDef}
use Rattle.mau_evaluation.specs.Satisfies.{Sat, Cut}
use Rattle.mau_evaluation.specs.Configs.{Todo, Frame, Config, with_form, on, inside}
use Rattle.mau_evaluation.specs.ClosedLists.{EndsWith, IsClosedWithin, IsExhausted, LeavesAreRight, AreResults, AreBodies}
use Rattle.mau_evaluation.specs.Answers.{IsLonger}
use Rattle.mau_evaluation.specs.OrderedLists.{results, bodies_for, AsksFirst, AsksNext, LeafList, BodyList}
use Rattle.mau_evaluation.specs.Reach.{At, ClosedBehind, Reached, IsClosed}
use Rattle.mau_evaluation.specs.Entries.{IsFront, BeginsWith, NextOf, LeafFront, BodyFront, ReachedBy, IsAtBranch}
use Rattle.mau_evaluation.specs.Eventually.{Eventually, Begins, NextAll, RunsTo}
use Rattle.mau_evaluation.specs.Questions.{Question, without, EndsBy, EndsWithin, NeedsLeaf, NeedsBody}

-- ---- rule runs

-- what a rewrite run, and a frewrite run, gives is the same under larger limits
abbrev pub RuleRunsStay : Type 0
RuleRunsStay =
    ((P : Program) (n : Option ℕ) (s : Stand) → StaysTheSame (λ k B. rewrite_at P k B n s)) ×
    ((P : Program) (g : ℕ) (n : Option ℕ) (s : Stand) → StaysTheSame (λ k B. frewrite_at P k B g n s))

-- more levels alone turn only Too deep into something else
abbrev pub LevelsAloneInRuns : Type 0
LevelsAloneInRuns =
    ((P : Program) (k k' B : ℕ) → k ≤ k' → (n : Option ℕ) (s : Stand) → IsHigher (rewrite_at P k B n s) (rewrite_at P k' B n s)) ×
    ((P : Program) (k k' B : ℕ) → k ≤ k' → (g : ℕ) (n : Option ℕ) (s : Stand) → IsHigher (frewrite_at P k B g n s) (frewrite_at P k' B g n s))

-- and more budget alone only Stopped
abbrev pub BudgetsAloneInRuns : Type 0
BudgetsAloneInRuns =
    ((P : Program) (k B B' : ℕ) → B ≤ B' → (n : Option ℕ) (s : Stand) → IsRicher (rewrite_at P k B n s) (rewrite_at P k B' n s)) ×
    ((P : Program) (k B B' : ℕ) → B ≤ B' → (g : ℕ) (n : Option ℕ) (s : Stand) → IsRicher (frewrite_at P k B g n s) (frewrite_at P k B' g n s))

-- what a run counts and what it leaves are together at most its budget
abbrev pub RuleRunsFall : Type 0
RuleRunsFall =
    ((P : Program) (k B : ℕ) (n : Option ℕ) (s : Stand) → NeverRises (rewrite_at P k B n s)) ×
    ((P : Program) (k B g : ℕ) (n : Option ℕ) (s : Stand) → NeverRises (frewrite_at P k B g n s))

-- rewriting is a round and then rewriting, and passing a pass and then passing, with the budget that is left; so the bounds on their number say nothing
abbrev pub RuleRunsGoOn : Type 0
RuleRunsGoOn = (P : Program) (k B : ℕ) →
    let ev : Tree → Run Tree = (levels P B (suc k)).eval in
    let sorts : Tree → Run (List ℕ) = (levels P B (suc k)).sorts in
    let ask : List Fragment → Binding → Run (Option Binding) = solve P (levels P B k) in
    ((n : Option ℕ) (s : Stand) (b : ℕ) → rewriting P ev sorts ask n s b ≡ rewriting_on P ev sorts ask (rewriting P ev sorts ask (one_less n)) n s b) ×
    ((g : ℕ) (n : Option ℕ) (s : Stand) (b : ℕ) → passing P ev sorts ask g n s b ≡ passing_on P ev sorts ask (passing P ev sorts ask g) g n s b)

-- ---- ordered lists

-- the ordered lists of results and of bodies hold just what satisfies the strategy, and where there is such a list nothing is cut
abbrev pub OrderedListsAreRight : Type 0
OrderedListsAreRight = (P : Program) (L : Engine) (defs : List StratDef) → AsksFirst P L → LeavesAreRight P L defs (LeafList P L) (BodyList P L defs)

-- asked for one after another, a condition gives just the solutions that are shown, in their order
abbrev pub AskingsAreRight : Type 0
AskingsAreRight = (P : Program) → IsLawful P.sign → (k B b : ℕ) → AsksFirst P (engine_of P k B b) × AsksNext P (engine_of P k B b)

-- under larger limits the ordered lists have the same answers in the same order, and those that were whole are the same
abbrev pub OrderedListsStay : Type 0
OrderedListsStay = (P : Program) (L L' : Engine) (defs : List StratDef) → IsLargerEngine L L' →
    ((d : Todo) (t : Tree) → IsLonger (results P L d t) (results P L' d t)) ×
    ((k : ℕ) (ρ : Binding) (e : Strategy) → IsLonger (bodies_for P L defs k ρ e) (bodies_for P L' defs k ρ e)) ×
    ((d : Todo) (t : Tree) (us : List Tree) → LeafList P L d t us → LeafList P L' d t us) ×
    ((d : Todo) (t : Tree) (bs : List Todo) → BodyList P L defs d t bs → BodyList P L' defs d t bs)

-- first results and first bodies are so under larger limits too
abbrev pub FrontsStay : Type 0
FrontsStay = (P : Program) (L L' : Engine) (defs : List StratDef) → IsLargerEngine L L' →
    ((d : Todo) (t : Tree) (us : List Tree) → LeafFront P L defs d t us → LeafFront P L' defs d t us) ×
    ((d : Todo) (t : Tree) (bs : List Todo) → BodyFront P L defs d t bs → BodyFront P L' defs d t bs)

-- the engines of the definitions grow with their limits
abbrev pub EnginesGrow : Type 0
EnginesGrow = (P : Program) (k k' B B' b b' : ℕ) → k ≤ k' → B ≤ B' → b ≤ b' → IsLargerEngine (engine_of P k B b) (engine_of P k' B' b')

-- ---- lists of configurations

-- The closed list: where inside the frames zs all successors are listed, each entry's first strategy is exhausted. So its results are just those that satisfy it,
-- and it is not cut.
abbrev pub ListsExhaust : Type 0
ListsExhaust = (P : Program) (L : Engine) (defs : List StratDef) (seen : List Config) (zs : List Frame) →
    IsClosedWithin P L defs (AreResults P L defs) (AreBodies P L defs) zs seen →
    (t : Tree) (d : Todo) (ds : List Todo) (xs : List Frame) → EndsWith zs xs → IsIn (on t (d ∷ ds) xs) seen →
    IsExhausted P L defs (AreResults P L defs) (AreBodies P L defs) seen d t ds xs

-- there is one run: of two lists that it reaches one begins the other
abbrev pub ReachedIsOne : Type 0
ReachedIsOne = (P : Program) (L : Engine) (defs : List StratDef) (t : Tree) (d : Todo) (seen more : List Config) →
    ReachedBy P L defs t d seen → ReachedBy P L defs t d more → IsFront seen more ⊎ IsFront more seen

-- no entry stands in it twice
abbrev pub EntriesAreApart : Type 0
EntriesAreApart = (P : Program) (L : Engine) (defs : List StratDef) (t : Tree) (d : Todo) (seen : List Config) → ReachedBy P L defs t d seen →
    (i j : ℕ) (c : Config) → At seen i c → At seen j c → i ≡ j

-- each solution that a run reaches satisfies its strategy
abbrev pub SolutionsAreSat : Type 0
SolutionsAreSat = (P : Program) (L : Engine) (defs : List StratDef) → AsksFirst P L → (t : Tree) (d : Todo) (seen : List Config) → ReachedBy P L defs t d seen →
    (u : Tree) → Contains seen (on u [] []) → Sat P L defs d.calls d.values d.form t u

-- what is listed with nothing left inside the test of `E ? F : G` satisfies E
abbrev pub InsideIsSat : Type 0
InsideIsSat = (P : Program) (L : Engine) (defs : List StratDef) → AsksFirst P L → (t0 : Tree) (d0 : Todo) (seen : List Config) → ReachedBy P L defs t0 d0 seen →
    (t : Tree) (d : Todo) (e f g : Strategy) (ds : List Todo) (xs : List Frame) → d.form ≡ branch e f g →
    (v : Tree) → Contains seen (on v [] (inside d f t ds ∷ xs)) → Sat P L defs d.calls d.values e t v

-- when a run comes back to `E ? F : G`, each v that satisfies E is listed inside its test, and E is not cut; so where no result is listed inside, G is due
abbrev pub BranchesExhaust : Type 0
BranchesExhaust = (P : Program) (L : Engine) (defs : List StratDef) → AsksFirst P L → (t0 : Tree) (d0 : Todo) (seen : List Config) → ReachedBy P L defs t0 d0 seen →
    (j : ℕ) (t : Tree) (d : Todo) (e f g : Strategy) (ds : List Todo) (xs : List Frame) → IsAtBranch P L defs seen j t d e f g ds xs →
    ((v : Tree) → Sat P L defs d.calls d.values e t v → Contains seen (on v [] (inside d f t ds ∷ xs))) × (Cut P L defs d.calls d.values e t → ⊥)

-- when a run has ended, each u that satisfies its strategy is a solution, and the strategy is not cut
abbrev pub EndedListsExhaust : Type 0
EndedListsExhaust = (P : Program) (L : Engine) (defs : List StratDef) → AsksFirst P L → (t : Tree) (d : Todo) (seen : List Config) → ReachedBy P L defs t d seen →
    IsClosed (BeginsWith P L defs) (NextOf P L defs) seen →
    ((u : Tree) → Sat P L defs d.calls d.values d.form t u → Contains seen (on u [] [])) × (Cut P L defs d.calls d.values d.form t → ⊥)

-- ---- runs whose steps hold each from some limits on

-- such a run is one run for all limits from some on
abbrev pub RunsMeet : Type 0
RunsMeet = (P : Program) (E : Engines) (defs : List StratDef) → (start : Config) (seen : List Config) → Reached (Begins P E defs) (NextAll P E defs) start seen →
    Eventually E (λ L. Reached (BeginsWith P L defs) (NextOf P L defs) start seen)

-- a solution satisfies the strategy, for all limits from some on
abbrev pub SolutionsHold : Type 0
SolutionsHold = (P : Program) (E : Engines) (defs : List StratDef) → ((k B b : ℕ) → AsksFirst P (E k B b)) →
    (t : Tree) (d : Todo) (seen : List Config) → RunsTo P E defs t d seen →
    (u : Tree) → Contains seen (on u [] []) → Eventually E (λ L. Sat P L defs d.calls d.values d.form t u)

-- a run that has ended lists each u that satisfies its strategy, and nothing is cut, for all limits from some on
abbrev pub EndedRunsAreWhole : Type 0
EndedRunsAreWhole = (P : Program) (E : Engines) (defs : List StratDef) → ((k B b : ℕ) → AsksFirst P (E k B b)) →
    (t : Tree) (d : Todo) (seen : List Config) → RunsTo P E defs t d seen →
    IsClosed (Begins P E defs) (NextAll P E defs) seen →
    Eventually E (λ L. ((u : Tree) → Sat P L defs d.calls d.values d.form t u → Contains seen (on u [] [])) × (Cut P L defs d.calls d.values d.form t → ⊥))

-- a run that comes back to `E ? F : G` knows its successors: where no result is listed inside, E inside the test and G are all; where one is, E inside is
abbrev pub BranchesAreDecided : Type 0
BranchesAreDecided = (P : Program) (E : Engines) (defs : List StratDef) → ((k B b : ℕ) → AsksFirst P (E k B b)) →
    (t0 : Tree) (d0 : Todo) (seen : List Config) → RunsTo P E defs t0 d0 seen →
    (j : ℕ) (t : Tree) (d : Todo) (e f g : Strategy) (ds : List Todo) (xs : List Frame) → d.form ≡ branch e f g → At seen j (on t (d ∷ ds) xs) →
    Contains seen (on t (with_form d e ∷ []) (inside d f t ds ∷ xs)) → ClosedBehind (Begins P E defs) (NextAll P E defs) seen j →
    (((v : Tree) → Contains seen (on v [] (inside d f t ds ∷ xs)) → ⊥) →
    NextAll P E defs (on t (d ∷ ds) xs) (on t (with_form d e ∷ []) (inside d f t ds ∷ xs) ∷ on t (with_form d g ∷ ds) xs ∷ [])) ×
    ((v : Tree) → Contains seen (on v [] (inside d f t ds ∷ xs)) → NextAll P E defs (on t (d ∷ ds) xs) (on t (with_form d e ∷ []) (inside d f t ds ∷ xs) ∷ []))

-- ---- what a run cannot go on without

-- where a question so ends, an engine without it is that engine
abbrev pub WithoutIsItself : Type 0
WithoutIsItself = (L : Engine) (q : Question) (e : End) → EndsBy L q e → without L q e ≡ L

-- so where a question that results, or bodies, need so ends, they come to this end within those that are given
abbrev pub NeedsAreMet : Type 0
NeedsAreMet = (P : Program) (E : Engines) (defs : List StratDef) (q : Question) (d : Todo) →
    ((t : Tree) (us : List Tree) → NeedsLeaf P E defs q d t us → (e : End) → Eventually E (λ L. EndsBy L q e → EndsWithin e us (results P L d t))) ×
    ((k : ℕ) (bs : List Todo) → NeedsBody P E defs q k d bs → (e : End) → Eventually E (λ L. EndsBy L q e → EndsWithin e bs (bodies_for P L defs k d.values d.form)))
