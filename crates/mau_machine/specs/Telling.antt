-- What was told of what is under way, in frames and in the task at hand. Each frame and the task tell a piece of the events, from what the frame below
-- waits for on.
use Rattle.std.specs.Prelude.{◌≡◌, ◌⊎◌, ℕ, ◌+◌, List, [], ◌∷◌, ◌++◌, map, drop, length, Bool, true, false, Some, slice_get, All}
use Rattle.mau_terms.specs.Tree.{Tree, apply, trees_of}
use Rattle.mau_terms.specs.Norm.{norm}
use Rattle.mau_terms.specs.Subst.{Variable, instance}
use Rattle.mau_terms.specs.declared.ids.TermId.{TermId}
use Rattle.mau_store.specs.Node.{Node, IsOf}
use Rattle.mau_store.specs.Trees.{tree_at}
use Rattle.mau_sorts.specs.Table.{Table}
use Rattle.mau_listing.specs.Asked.{HasEntry}
use Rattle.mau_program.specs.declared.statements.Fragment.{Fragment}
use Rattle.mau_evaluation.specs.Evaluation.{Binding, look_up}
use Rattle.mau_api.specs.declared.step.Place.TheVariants.{Whole, Argument, Fragment as OfFragment}
use Rattle.mau_api.specs.declared.step.Step.{Step}
use Rattle.mau_api.specs.Events.{Event, entered, left, made}
use Rattle.mau_api.specs.Terms.{IsNormalTerm}
use Rattle.mau_api.specs.Told.{told_in, step_in, LeadsIn, Shown, StandsIn, IsToldRun, steps_in, shown_count}
use Rattle.mau_machine.specs.Uses.{IsUse}
use Rattle.mau_machine.specs.Words.{Words, Rules, IsExtension, side_of, rest_of, pattern_in, trees}
use Rattle.mau_machine.specs.declared.frame.Frame.{Frame}
use Rattle.mau_machine.specs.declared.frame.Frame.TheVariants as Waiting
use Rattle.mau_machine.specs.declared.frame.Control.{Control}
use Rattle.mau_machine.specs.declared.frame.Control.TheVariants as Next

-- what is under way since a piece of events began
pub data Job : Type 0 where
  -- the value of this term
  evaluating : Tree → Job
  -- the fragments of the condition e from i on, under a binding
  solving : (e i : ℕ) → Binding → Job

module _ (R : Rules) (nodes : List Node) (table : Table) where
  abbrev pub Has : ℕ → Tree → Type 0
  Has = HasEntry R.written.sig nodes table

  -- the events lead from t to v
  abbrev pub Runs : Tree → List Event → Tree → Type 0
  Runs t es v = IsToldRun R.written R.hooks nodes table false t es v

  -- they lead from arguments to others
  pub record RunsIn (ts : List Tree) (es : List Event) (us : List Tree) : Type 0 where
    pub stand : All (StandsIn nodes) es
    pub leads : LeadsIn R.written R.hooks Has false ts (map (told_in nodes) es) us

  -- they show these fragments, the first of which has the number j
  pub record Shows (g : Variable → Tree) (j : ℕ) (cs : List Fragment) (es : List Event) : Type 0 where
    pub stand : All (StandsIn nodes) es
    pub shown : Shown R.written R.hooks Has g j cs (map (told_in nodes) es)

  -- a condition is shown, and then a step leads from t to u
  pub record IsUsed (t : Tree) (es : List Event) (u : Tree) : Type 0 where
    pub before : List Event
    pub step : Step
    pub is : es ≡ before ++ made step ∷ []
    pub stands : StandsIn nodes (made step)
    pub binding : Binding
    pub cond : List Fragment
    pub shown : Shows (look_up binding) 0 cond before
    pub applies : IsUse R.written R.hooks Has cond binding t u (step_in nodes step)

  -- the events led from t0 to u by a step at last
  pub record EndsWithStep (t0 : Tree) (es : List Event) (u : Tree) : Type 0 where
    pub before : List Event
    pub last : List Event
    pub is : es ≡ before ++ last
    pub term : Tree
    pub runs : Runs t0 before term
    pub used : IsUsed term last u

  -- nothing is told yet, or a step was told last: a round of arguments may begin
  abbrev pub MayBegin : Tree → List Event → Tree → Type 0
  MayBegin t0 es u = ((es ≡ []) × (u ≡ t0)) ⊎ EndsWithStep t0 es u

  -- a round of the arguments of f is under way, and they are ts by now
  pub record IsInRound (t0 : Tree) (f : ℕ) (ts : List Tree) (es : List Event) : Type 0 where
    pub before : List Event
    pub round : List Event
    pub is : es ≡ before ++ round
    pub from : List Tree
    pub begins : MayBegin t0 before (apply f (trees_of from))
    pub leads : RunsIn from round ts

  -- the fragments of the condition e from i on are shown up to j, under σ and all that goes on from it
  pub record IsShown (e i : ℕ) (j : ℕ) (σ : Binding) (es : List Event) : Type 0 where
    pub front : List Fragment
    pub is : drop i (R.fragments e) ≡ front ++ drop j (R.fragments e)
    pub number : j ≡ i + length front
    pub shown : (τ : Binding) → IsExtension σ τ → Shows (look_up τ) i front es

  -- the value v of the right side of the fragment p := u at j is known; by what makes p equal to it that fragment is shown too
  pub record IsMatched (e i : ℕ) (j : ℕ) (σ : Binding) (v : Tree) (es : List Event) : Type 0 where
    pub front : List Fragment
    pub is : drop i (R.fragments e) ≡ front ++ drop (j + 1) (R.fragments e)
    pub number : j + 1 ≡ i + length front
    pub shown : (τ : Binding) → IsExtension σ τ → norm R.program.sign.theory (instance (look_up τ) (pattern_in (rest_of R e j))) ≡ v → Shows (look_up τ) i front es

  -- t is the number of x
  abbrev pub StandsAs : TermId → Tree → Type 0
  StandsAs t x = IsOf nodes t.0 × (tree_at nodes t.0 ≡ x)

  -- the term t is x, that side of a fragment under σ and all that goes on from it
  pub record IsSide (e j : ℕ) (right : Bool) (σ : Binding) (t : TermId) (x : Tree) : Type 0 where
    pub stands : StandsAs t x
    pub normal : IsNormalTerm R.written.sig x
    pub side : (τ : Binding) → IsExtension σ τ → norm R.program.sign.theory (side_of R e j right τ) ≡ x

module _ {A C S D : Type 0} where
  -- as many steps were told as are counted
  abbrev pub Counts : Control A C S D → (r steps : ℕ) → Type 0
  Counts (Next.Failed d) r n = Unit {0}
  Counts (Next.Choose c) r n = c.before ≡ shown_count n
  Counts (Next.Own c x) r n = c.before ≡ shown_count n
  Counts c r n = r ≡ shown_count n

  -- a frame that counts apart begins to count anew
  abbrev pub counted_on : Frame A C S D → ℕ → List Event → ℕ
  counted_on (Waiting.Choice c mark) m xs = 0
  counted_on (Waiting.Trying x before mark) m xs = 0
  counted_on (Waiting.Deriving x mark) m xs = 0
  counted_on f m xs = m + steps_in xs

module _ {A C S D : Type 0} (w : Words A C S D) (nodes : List Node) (table : Table) where
  -- what the task at hand has told of the job
  abbrev pub TellsTask : Job → Control A C S D → List Event → Type 0
  TellsTask (evaluating t0) (Next.Eval k t) es = MayBegin w.rules nodes table t0 es (w.tree t.0)
  TellsTask (evaluating t0) (Next.Evaluating a) es = IsInRound w.rules nodes table t0 a.op.0 (trees w a.args.items) es
  TellsTask (evaluating t0) (Next.Top k t) es = Runs w.rules nodes table t0 es (w.tree t.0)
  TellsTask (evaluating t0) (Next.Settle k t d) es = Runs w.rules nodes table t0 es (w.tree t.0)
  TellsTask (evaluating t0) (Next.Ready k t) es = Runs w.rules nodes table t0 es (w.tree t.0)
  TellsTask (evaluating t0) (Next.Attempt x) es = Runs w.rules nodes table t0 es (w.tree x.term.0)
  TellsTask (evaluating t0) (Next.Value t) es = Runs w.rules nodes table t0 es (w.tree t.0)
  TellsTask (solving e i σ) (Next.Solve c) es = (c.condition ≡ e) × IsExtension σ (w.bound c.binding) × IsShown w.rules nodes table e i c.at (w.bound c.binding) es
  TellsTask (solving e i σ) (Next.Choose c) es = (c.condition ≡ e) × IsExtension σ (w.chosen_from c.choices) × IsMatched w.rules nodes table e i c.at (w.chosen_from c.choices) (w.chosen_value c.choices) es
  TellsTask (solving e i σ) (Next.Own c x) es = (c.condition ≡ e) × IsExtension σ (w.chosen_from c.choices) × IsMatched w.rules nodes table e i c.at (w.chosen_from c.choices) (w.chosen_value c.choices) es
  TellsTask (solving e i σ) (Next.Held d τ) es = (d ≡ e) × IsExtension σ (w.bound τ) × ((υ : Binding) → IsExtension (w.bound τ) υ → Shows w.rules nodes table (look_up υ) i (drop i (w.rules.fragments e)) es)
  TellsTask J (Next.Failed d) es = Unit {0}
  -- never
  TellsTask J c es = ⊥

  -- a fragment's side was entered behind what is shown
  pub record HasEntered (e i : ℕ) (σ : Binding) (d j : ℕ) (right : Bool) (number : ℕ) (τ : Binding) (xs : List Event) (x : Tree) : Type 0 where
    pub before : List Event
    pub term : TermId
    pub is : xs ≡ before ++ entered term (OfFragment j number) ∷ []
    pub side : IsSide w.rules nodes table d j right τ term x
    pub same : d ≡ e
    pub extends : IsExtension σ τ
    pub shown : IsShown w.rules nodes table e i j τ before

  -- so were both sides of an equality, of which the first has the value v
  pub record HasEnteredBoth (e i : ℕ) (σ : Binding) (d j : ℕ) (τ : Binding) (v : TermId) (xs : List Event) (x : Tree) : Type 0 where
    pub before : List Event
    pub inner : List Event
    pub first : TermId
    pub second : TermId
    pub left_side : Tree
    pub is : xs ≡ before ++ entered first (OfFragment j 0) ∷ (inner ++ left v ∷ entered second (OfFragment j 1) ∷ [])
    pub side : IsSide w.rules nodes table d j false τ first left_side
    pub runs : Runs w.rules nodes table left_side inner (w.tree v.0)
    pub value : StandsAs w.rules nodes table v (w.tree v.0)
    pub other : IsSide w.rules nodes table d j true τ second x
    pub same : d ≡ e
    pub extends : IsExtension σ τ
    pub shown : IsShown w.rules nodes table e i j τ before

  -- an argument was entered
  pub record HasEnteredArgument (t0 : Tree) (f : ℕ) (ts : List Tree) (i : ℕ) (xs : List Event) (x : Tree) : Type 0 where
    pub before : List Event
    pub term : TermId
    pub is : xs ≡ before ++ entered term (Argument i) ∷ []
    pub stands : StandsAs w.rules nodes table term x
    pub at : slice_get ts i ≡ Some x
    pub round : IsInRound w.rules nodes table t0 f ts before

  -- a term whose top has changed was entered
  pub record HasEnteredAgain (t0 : Tree) (t : TermId) (xs : List Event) (x : Tree) : Type 0 where
    pub before : List Event
    pub is : xs ≡ before ++ entered t Whole ∷ []
    pub stands : StandsAs w.rules nodes table t x
    pub runs : Runs w.rules nodes table t0 before x

  -- what a frame has told of the job, up to the beginning of the one that it waits for. `behind` events stand before them, and `counted` steps were told
  -- before them since the last frame that counts apart
  abbrev pub TellsFrame : (behind counted : ℕ) → Job → Frame A C S D → List Event → Job → Type 0
  TellsFrame n m (evaluating t0) (Waiting.Argument a i) xs (evaluating x) = HasEnteredArgument t0 a.op.0 (trees w a.args.items) i xs x
  TellsFrame n m (evaluating t0) (Waiting.Again t) xs (evaluating x) = HasEnteredAgain t0 t xs x
  TellsFrame n m (solving e i σ) (Waiting.Left c) xs (evaluating x) = HasEntered e i σ c.condition c.at false 0 (w.bound c.binding) xs x
  TellsFrame n m (solving e i σ) (Waiting.Right c v) xs (evaluating x) = HasEnteredBoth e i σ c.condition c.at (w.bound c.binding) v xs x
  TellsFrame n m (solving e i σ) (Waiting.Sorting c) xs (evaluating x) = HasEntered e i σ c.condition c.at false 0 (w.bound c.binding) xs x
  TellsFrame n m (solving e i σ) (Waiting.Matching c) xs (evaluating x) = HasEntered e i σ c.condition c.at true 1 (w.bound c.binding) xs x
  TellsFrame n m (solving e i σ) (Waiting.Choice c mark) xs (solving d j τ) =
      (c.condition ≡ e) × IsExtension σ (w.chosen_from c.choices) × IsMatched w.rules nodes table e i c.at (w.chosen_from c.choices) (w.chosen_value c.choices) xs
      × (d ≡ e) × (j ≡ c.at + 1) × IsExtension (w.chosen_from c.choices) τ
      × ((υ : Binding) → IsExtension τ υ → norm w.rules.program.sign.theory (instance (look_up υ) (pattern_in (rest_of w.rules e c.at))) ≡ w.chosen_value c.choices)
      × (mark ≡ n + length xs) × (c.before ≡ shown_count (m + steps_in xs))
  TellsFrame n m (evaluating t0) (Waiting.Trying x before mark) xs (solving e i σ) =
      (e ≡ x.condition) × (i ≡ 0) × Runs w.rules nodes table t0 xs (w.tree x.term.0) × (mark ≡ n + length xs) × (before ≡ shown_count (m + steps_in xs))
  -- nothing is told of the condition of a membership in the end; while it is solved something is
  TellsFrame n m (evaluating t0) (Waiting.Deriving x mark) xs (solving e i σ) =
      (e ≡ x.condition) × (i ≡ 0) × Runs w.rules nodes table t0 xs (w.tree x.term.0) × (mark ≡ n + length xs) × (x.before ≡ shown_count (m + steps_in xs))
  -- never
  TellsFrame n m J f xs K = ⊥

  -- what frames and the task at hand have told of the job, where r is counted
  abbrev pub Tells : (behind counted : ℕ) → Job → List (Frame A C S D) → Control A C S D → (r : ℕ) → List Event → Type 0
  Tells n m J [] c r es = TellsTask J c es × Counts c r (m + steps_in es)
  Tells n m J (f ∷ fs) c r es =
      (xs : List Event) × (ys : List Event) × (K : Job) × (es ≡ xs ++ ys) × TellsFrame n m J f xs K × Tells (n + length xs) (counted_on f m xs) K fs c r ys

  -- the watcher was told that behind the events before
  pub record IsTelling (before : List Event) (J : Job) (fs : List (Frame A C S D)) (c : Control A C S D) (r : ℕ) (told : List Event) : Type 0 where
    pub events : List Event
    pub is : told ≡ before ++ events
    pub tells : Tells (length before) 0 J fs c r events
