-- What a step of the loop does.
use Rattle.std.specs.Prelude.{◌≡◌, ◌⊎◌, ◌+◌, ◌<◌, ◌++◌, ◌∷◌, [], ℕ, List, Bool, false}
use Rattle.mau_terms.specs.declared.ids.TermId.{TermId}
use Rattle.mau_store.specs.Node.{Node}
use Rattle.mau_sorts.specs.Table.{Table}
use Rattle.mau_evaluation.specs.Evaluation.{Binding}
use Rattle.mau_api.specs.declared.step.Step.{Step}
use Rattle.mau_api.specs.Events.{Event, made}
use Rattle.mau_api.specs.Told.{step_in, StandsIn, TellsMore}
use Rattle.mau_machine.specs.Uses.{IsUse}
use Rattle.mau_machine.specs.Telling.{Job, Has, TellsTask, Counts, IsTelling}
use Rattle.mau_evaluation.specs.Run.{Outcome, ended, too_deep, counted_if}
use Rattle.mau_evaluation.specs.Program.{Program}
use Rattle.mau_machine.specs.Words.{Words, DerivesNone, capped, solve_on}
use Rattle.mau_machine.specs.Machine.{as_answer, whole}
use Rattle.mau_machine.specs.Known.{Due, HoldsIn}
use Rattle.mau_machine.specs.declared.frame.Frame.{Frame}
use Rattle.mau_machine.specs.declared.frame.Frame.TheVariants as Waiting
use Rattle.mau_machine.specs.declared.frame.Settled.{Settled}
use Rattle.mau_machine.specs.declared.frame.Control.{Control}
use Rattle.mau_machine.specs.declared.frame.Control.TheVariants as Next

-- the two outcomes are answered alike
abbrev pub IsAlike : {A : Type 0} → Outcome A → Outcome A → Type 0
IsAlike o o' = capped o ≡ capped o'

-- f and g are what comes of a number of levels more than those at hand. The two are answered alike; or, by fewer than some number, f is too deep
pub record Follows {A : Type 0} (P : Program) (f g : ℕ → Outcome A) : Type 0 where
  pub enough : ℕ
  pub just : DerivesNone P → enough ≡ 0
  pub follows : (n : ℕ) → IsAlike (f n) (g n) ⊎ ((n < enough) × (f n ≡ ended too_deep))

-- For each frame that waits for the condition of a membership: what the frames above it and the task come to is what becomes of the condition that is asked,
-- by its own budget. So what is told of it at the end is an answer by some number of levels.
module _ {A C S D : Type 0} (w : Words A C S D) where
  abbrev pub AreAnswered : List (Frame A C S D) → Control A C S D → (r b : ℕ) → Type 0
  AreAnswered [] c r b = Unit {0}
  AreAnswered (Waiting.Deriving x mark ∷ fs) c r b =
      ((σ : Binding) × w.knows_asking x.term.0 x.condition σ x.settling
      × Follows w.rules.program (λ n. as_answer (counted_if 0 (solve_on w.rules (x.level + n) x.condition 0 σ w.rules.limit))) (λ n. whole w n fs c r b))
      × AreAnswered fs c r b
  AreAnswered (f ∷ fs) c r b = AreAnswered fs c r b

  -- one step: some frames wait on as they did; what comes of those above them and the task is what comes of those that stand there then and the next task
  pub record Goes (fs : List (Frame A C S D)) (c : Control A C S D) (r b : ℕ) (fs' : List (Frame A C S D)) (c' : Control A C S D) (r' b' : ℕ) : Type 0 where
    pub below : List (Frame A C S D)
    pub taken : List (Frame A C S D)
    pub put : List (Frame A C S D)
    pub was : fs ≡ below ++ taken
    pub is : fs' ≡ below ++ put
    pub follows : Follows w.rules.program (λ n. whole w n taken c r b) (λ n. whole w n put c' r' b')
    pub answered : AreAnswered put c' r' b'

  -- the settling of the term goes on
  abbrev pub IsSettledOn : Settled D → Control A C S D → Type 0
  IsSettledOn x c = (d : D) × (c ≡ Next.Settle x.level x.term d) × w.knows_settling x.term.0 d

module _ {A C S D : Type 0} where
  -- frames and a next task are known in the state after, where they were known in the state before
  abbrev pub StayKnown : Words A C S D → Words A C S D → List (Frame A C S D) → Control A C S D → List (Frame A C S D) → Control A C S D → Type 0
  StayKnown w w' fs c fs' c' = (asked : Due) → HoldsIn w asked fs c → HoldsIn w' asked fs' c'

  -- frames and a next task are known, whatever all is to give
  abbrev pub AreHeld : Words A C S D → List (Frame A C S D) → Control A C S D → Type 0
  AreHeld w fs c = (asked : Due) × HoldsIn w asked fs c

  -- what was told of frames and a task is told of those after
  abbrev pub StayTold : (w w' : Words A C S D) (nodes nodes' : List Node) (table table' : Table) (fs : List (Frame A C S D)) (c : Control A C S D) (r : ℕ) (told : List Event)
      (fs' : List (Frame A C S D)) (c' : Control A C S D) (r' : ℕ) (told' : List Event) → Type 0
  StayTold w w' nodes nodes' table table' fs c r told fs' c' r' told' =
      (before : List Event) (J : Job) (asked : Due) → HoldsIn w asked fs c → IsTelling w nodes table before J fs c r told → IsTelling w' nodes' table' before J fs' c' r' told'

  -- something is told of frames and a task
  abbrev pub AreTold : Words A C S D → List Node → Table → List (Frame A C S D) → Control A C S D → ℕ → List Event → Type 0
  AreTold w nodes table fs c r told = (before : List Event) × (J : Job) × IsTelling w nodes table before J fs c r told

  -- what was told before frames and a task stays in front
  abbrev pub StayFront : Words A C S D → List Node → Table → List (Frame A C S D) → Control A C S D → ℕ → (told told' : List Event) → Type 0
  StayFront w nodes table fs c r told told' = (before : List Event) (J : Job) → IsTelling w nodes table before J fs c r told → TellsMore before told'

  -- one use was told, which leads from the term t to u
  abbrev pub TellsUse : Words A C S D → List Node → Table → (e : ℕ) → Binding → (t u : TermId) → (told told' : List Event) → Type 0
  TellsUse w nodes table e σ t u told told' =
      (step : Step) × (told' ≡ told ++ made step ∷ []) × StandsIn nodes (made step)
      × IsUse w.rules.written w.rules.hooks (Has w.rules nodes table) (w.rules.fragments e) σ (w.tree t.0) (w.tree u.0) (step_in nodes step)

  -- what the task at hand has told stays told of the next one
  abbrev pub TaskStays : Words A C S D → List Node → Table → Control A C S D → Control A C S D → Type 0
  TaskStays w nodes table c d =
      (J : Job) (r n : ℕ) (es : List Event) → TellsTask w nodes table J c es × Counts c r n → TellsTask w nodes table J d es × Counts d r n

-- whether a watcher wants steps stays the same, and where it doesn't nothing is told
abbrev pub IsWatched : Bool → Bool → List Event → List Event → Type 0
IsWatched wanted wanted' told told' = (wanted' ≡ wanted) × (wanted ≡ false → told' ≡ told)
