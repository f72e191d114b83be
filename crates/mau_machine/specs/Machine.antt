-- What the loop's frames and its next task mean: computations that go on with outcomes.
use Rattle.std.specs.Prelude.{ℕ, suc, ◌+◌, List, [], ◌∷◌, drop, Bool, true, false, Option, Some, None}
use Rattle.std.specs.Option.{option_map}
use Rattle.mau_terms.specs.Tree.{Tree}
use Rattle.mau_terms.specs.Norm.{build}
use Rattle.mau_evaluation.specs.Run.{Outcome, done, ended, Run, stopped, counted, counted_if, and_then, and_try, choose, spend, where_true}
use Rattle.mau_evaluation.specs.Listing.{same_tree}
use Rattle.mau_evaluation.specs.Evaluation.{Binding, levels, in_places, within_limits, top_changed, at_top, go_from, put, has_number}
use Rattle.mau_machine.specs.Words.{Rules, Words, trees, rest_of, eval_on, sorts_on, solve_from, choose_from, choose_after, side_of, sort_in}
use Rattle.mau_machine.specs.declared.frame.Condition.{Condition}
use Rattle.mau_machine.specs.declared.frame.Frame.{Frame}
use Rattle.mau_machine.specs.declared.frame.Frame.TheVariants as Waiting
use Rattle.mau_machine.specs.declared.frame.Control.{Control}
use Rattle.mau_machine.specs.declared.frame.Control.TheVariants as Next

-- ---- frames and tasks, with what their handles stand for; k is a number of levels, e the number of a condition and i that of a fragment

pub data Waits : Type 0 where
  -- f over the arguments ts, of which those at the places in the order are evaluated; that at the place i is due, and those from next on are left
  argument : (k f : ℕ) (ts : List Tree) (order : List ℕ) (next i : ℕ) → Waits
  again : Waits
  -- a side of the fragment i; the condition is solved behind the solution `last`, if there is one
  left_side : (last : Option Binding) (k e i : ℕ) (σ : Binding) → Waits
  -- the left side has the value v
  right_side : (last : Option Binding) (k e i : ℕ) (σ : Binding) (v : Tree) → Waits
  sorting : (last : Option Binding) (k e i : ℕ) (σ : Binding) → Waits
  matching : (last : Option Binding) (k e i : ℕ) (σ : Binding) → Waits
  -- what the solutions give that are left, and what was counted before
  choice : (unchosen : Run (Option Binding)) (before : ℕ) → Waits
  -- the condition of a membership that may give a sort to the term t; what is left of the budget outside it, and what was counted before
  settling : (k : ℕ) (t : Tree) (budget before : ℕ) → Waits
  -- what the candidates give that are left, what the one that is tried makes of the term t, and what was counted before
  trying : (k : ℕ) (t : Tree) (untried : Run (Option Tree)) (makes : Binding → Tree) (before : ℕ) → Waits

pub data Task : Type 0 where
  evaluates : (k : ℕ) (t : Tree) → Task
  arguments : (k f : ℕ) (ts : List Tree) (order : List ℕ) (next : ℕ) → Task
  looks_at_top : (k : ℕ) (t : Tree) → Task
  attempts : (k : ℕ) (t : Tree) (untried : Run (Option Tree)) → Task
  solves : (last : Option Binding) (k e i : ℕ) (σ : Binding) → Task
  chooses : (unchosen : Run (Option Binding)) (before : ℕ) → Task
  has_value : (v : Tree) → Task
  holds : (σ : Binding) → Task
  fails : Task

-- the solution behind which a condition is solved
abbrev pub last_in : {A C S D : Type 0} → Words A C S D → Condition S → Option Binding
last_in w c = option_map (λ x. w.bound x.value) c.behind

-- by n levels more than stand in them
module _ {A C S D : Type 0} (w : Words A C S D) (n : ℕ) where
  abbrev pub waits_in : Frame A C S D → Waits
  waits_in (Waiting.Argument a i) = argument (a.level + n) a.op.0 (trees w a.args.items) a.order.items a.next i
  waits_in (Waiting.Again t) = again
  waits_in (Waiting.Left c) = left_side (last_in w c) (c.level + n) c.condition c.at (w.bound c.binding)
  waits_in (Waiting.Right c t) = right_side (last_in w c) (c.level + n) c.condition c.at (w.bound c.binding) (w.tree t.0)
  waits_in (Waiting.Sorting c) = sorting (last_in w c) (c.level + n) c.condition c.at (w.bound c.binding)
  waits_in (Waiting.Matching c) = matching (last_in w c) (c.level + n) c.condition c.at (w.bound c.binding)
  waits_in (Waiting.Choice c mark) = choice (w.unchosen c.choices (c.level + n) c.condition c.at) c.before
  waits_in (Waiting.Trying x before mark) = trying (x.level + n) (w.tree x.term.0) (w.untried x.attempts (x.level + n)) (w.makes x.attempts) before
  waits_in (Waiting.Deriving x mark) = settling (x.level + n) (w.tree x.term.0) x.budget x.before

  abbrev pub task_in : Control A C S D → Task
  task_in (Next.Eval k t) = evaluates (k + n) (w.tree t.0)
  task_in (Next.Evaluating a) = arguments (a.level + n) a.op.0 (trees w a.args.items) a.order.items a.next
  task_in (Next.Top k t) = looks_at_top (k + n) (w.tree t.0)
  task_in (Next.Settle k t d) = looks_at_top (k + n) (w.tree t.0)
  task_in (Next.Ready k t) = looks_at_top (k + n) (w.tree t.0)
  task_in (Next.Attempt x) = attempts (x.level + n) (w.tree x.term.0) (w.untried x.attempts (x.level + n))
  task_in (Next.Solve c) = solves (last_in w c) (c.level + n) c.condition c.at (w.bound c.binding)
  task_in (Next.Choose c) = chooses (w.unchosen c.choices (c.level + n) c.condition c.at) c.before
  task_in (Next.Own c x) = chooses (choose_after w.rules (w.bound x.value) (c.level + n) c.condition c.at (w.chosen_from c.choices) (w.chosen_value c.choices)) c.before
  task_in (Next.Value t) = has_value (w.tree t.0)
  task_in (Next.Held e σ) = holds (w.bound σ)
  task_in (Next.Failed e) = fails

-- ---- what they give

-- what a frame waits for: a value, or what became of a condition
pub data Reply : Type 0 where
  gave : Tree → Reply
  held : Binding → Reply
  failed : Reply

abbrev pub as_value : Outcome Tree → Outcome Reply
as_value (done t r b) = done (gave t) r b
as_value (ended e) = ended e

-- a failure counts nothing
abbrev pub as_answer : Outcome (Option Binding) → Outcome Reply
as_answer (done (Some σ) r b) = done (held σ) r b
as_answer (done None r b) = done failed 0 b
as_answer (ended e) = ended e

module _ (R : Rules) where
  -- a rebuilt term, and whether its top has changed
  abbrev pub from_built : ℕ → Bool → Tree → Run Tree
  from_built k changed t = choose changed (eval_on R k t) (at_top R.program (levels R.program R.limit k) (sorts_on R (suc k)) (eval_on R (suc k)) t)

  -- the arguments ts of f, of which those at the places is are evaluated; then what is built over them
  abbrev pub on_arguments : ℕ → ℕ → List ℕ → List ℕ → List Tree → Run Tree
  on_arguments k f order is ts =
      and_then (in_places R.program (levels R.program R.limit k) (sorts_on R (suc k)) is ts) λ us.
      and_then (within_limits R.program.sign.theory (build (R.program.sign.theory f) f us)) λ t.
      from_built k (top_changed (R.program.sign.theory f) order f us t) t

  -- the candidates that are left, and then the term
  abbrev pub on_attempts : ℕ → Tree → Run (Option Tree) → Run Tree
  on_attempts k t untried = and_then untried (go_from R.program (levels R.program R.limit k) (sorts_on R (suc k)) (eval_on R (suc k)) t)

  -- what p := u gives, where u has the value v: at all, or behind a solution
  abbrev pub choose_behind : Option Binding → ℕ → ℕ → ℕ → Binding → Tree → Run (Option Binding)
  choose_behind None k e i σ v = choose_from R k e i σ v
  choose_behind (Some last) k e i σ v = choose_after R last k e i σ v

  -- what a frame gives with a value or an answer, with what was counted since it began to wait
  abbrev pub after : Waits → Reply → ℕ → Run Reply
  after (argument k f ts order next i) (gave v) r = λ b. as_value (counted r (on_arguments k f order (drop next order) (put ts i v) b))
  after again (gave v) r = λ b. done (gave v) r b
  after (left_side last k e i σ) (gave v) r =
      λ b. as_answer (counted_if r (and_try (eval_on R k (side_of R e i true σ)) (λ u. where_true (same_tree v u) (solve_from R last k e (suc i) σ)) b))
  after (right_side last k e i σ u) (gave v) r = λ b. as_answer (counted_if r (where_true (same_tree u v) (solve_from R last k e (suc i) σ) b))
  after (sorting last k e i σ) (gave v) r =
      λ b. as_answer (counted_if r (and_try (sorts_on R k v) (λ ss. where_true (has_number ss (sort_in (rest_of R e i))) (solve_from R last k e (suc i) σ)) b))
  after (matching last k e i σ) (gave v) r = λ b. as_answer (counted_if r (choose_behind last k e i σ v b))
  after (choice unchosen before) (held σ) r = λ b. done (held σ) (before + r) b
  after (choice unchosen before) failed r = λ b. as_answer (counted_if before (unchosen b))
  after (trying k t untried makes before) (held σ) r = λ b. as_value (counted (before + r) (spend (eval_on R (suc k) (makes σ)) b))
  after (trying k t untried makes before) failed r = λ b. as_value (counted before (on_attempts k t untried b))
  -- whether the condition holds, settling goes on; its budget was its own, and it counts nothing
  after (settling k t budget before) (held σ) r = λ b. as_value (counted before (from_built k false t budget))
  after (settling k t budget before) failed r = λ b. as_value (counted before (from_built k false t budget))
  -- never
  after f reply r = λ b. ended stopped

  abbrev pub goes_on : Waits → Outcome Reply → Outcome Reply
  goes_on f (done x r b) = after f x r b
  goes_on f (ended e) = ended e

  -- what a task gives, with what was counted since the last frame that counts apart, and the budget that is left
  abbrev pub comes : Task → ℕ → Run Reply
  comes (evaluates k t) r = λ b. as_value (counted r (eval_on R k t b))
  comes (arguments k f ts order next) r = λ b. as_value (counted r (on_arguments k f order (drop next order) ts b))
  comes (looks_at_top k t) r = λ b. as_value (counted r (from_built k false t b))
  comes (attempts k t untried) r = λ b. as_value (counted r (on_attempts k t untried b))
  comes (solves last k e i σ) r = λ b. as_answer (counted_if r (solve_from R last k e i σ b))
  comes (chooses unchosen before) r = λ b. as_answer (counted_if before (unchosen b))
  comes (has_value v) r = λ b. done (gave v) r b
  comes (holds σ) r = λ b. done (held σ) r b
  comes fails r = λ b. done failed 0 b

module _ {A C S D : Type 0} (w : Words A C S D) (n : ℕ) where
  -- what comes of an outcome through frames, of which the first one waits longest
  abbrev pub through : List (Frame A C S D) → Outcome Reply → Outcome Reply
  through [] o = o
  through (f ∷ fs) o = goes_on w.rules (waits_in w n f) (through fs o)

  -- what comes of all: of what is done next, through the frames
  abbrev pub whole : List (Frame A C S D) → Control A C S D → ℕ → Run Reply
  whole fs c r = λ b. through fs (comes w.rules (task_in w n c) r b)
