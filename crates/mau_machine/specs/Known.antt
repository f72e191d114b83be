-- What is known of all handles in frames and in what is done next, and that each frame is given what it waits for.
use Rattle.std.specs.Prelude.{◌≡◌, ℕ, zero, suc, List, [], ◌∷◌, Option, Some, None, IfSome}
use Rattle.mau_terms.specs.Tree.{Tree}
use Rattle.mau_terms.specs.Bare.{TermSignature}
use Rattle.mau_evaluation.specs.Listing.{kind_at}
use Rattle.mau_machine.specs.Words.{Words, Asks, kind_of, trees, IsSolution}
use Rattle.mau_machine.specs.declared.goal.Goal.TheVariants as Goals
use Rattle.mau_machine.specs.declared.frame.Condition.{Condition}
use Rattle.mau_machine.specs.declared.frame.Frame.{Frame}
use Rattle.mau_machine.specs.declared.frame.Frame.TheVariants as Waiting
use Rattle.mau_machine.specs.declared.frame.Control.{Control}
use Rattle.mau_machine.specs.declared.frame.Control.TheVariants as Next

-- what is waited for
pub data Due : Type 0 where
  any_value : Due
  -- one of a term of this kind
  value_of : Option ℕ → Due
  -- what becomes of the condition with this number
  answer_to : ℕ → Due

-- the second is what the first asks
abbrev pub Suits : Due → Due → Type 0
Suits any_value any_value = Unit {0}
Suits any_value (value_of k) = Unit {0}
Suits any_value (answer_to e) = ⊥
Suits (value_of k) any_value = ⊥
Suits (value_of k) (value_of j) = j ≡ k
Suits (value_of k) (answer_to e) = ⊥
Suits (answer_to e) any_value = ⊥
Suits (answer_to e) (value_of k) = ⊥
Suits (answer_to e) (answer_to d) = d ≡ e

-- the kind of the term at a place
abbrev pub kind_in : TermSignature → List Tree → ℕ → Option ℕ
kind_in s [] i = None
kind_in s (t ∷ ts) zero = kind_at s t
kind_in s (t ∷ ts) (suc i) = kind_in s ts i

module _ {A C S D : Type 0} (w : Words A C S D) where
  -- the kind of the operator f over its arguments
  abbrev pub kind_under : ℕ → Option ℕ
  kind_under f = Some (w.rules.program.sign.result f)

  -- what a frame waits for
  abbrev pub asks : Frame A C S D → Due
  asks (Waiting.Argument a i) = value_of (kind_in w.rules.program.sign (trees w a.args.items) i)
  asks (Waiting.Again t) = value_of (kind_of w t.0)
  asks (Waiting.Left c) = any_value
  asks (Waiting.Right c t) = any_value
  asks (Waiting.Sorting c) = any_value
  asks (Waiting.Matching c) = any_value
  asks (Waiting.Choice c mark) = answer_to c.condition
  asks (Waiting.Trying x before mark) = answer_to x.condition
  asks (Waiting.Deriving x mark) = answer_to x.condition

  -- what comes of it for the frame below
  abbrev pub yields : Frame A C S D → Due
  yields (Waiting.Argument a i) = value_of (kind_under a.op.0)
  yields (Waiting.Again t) = value_of (kind_of w t.0)
  yields (Waiting.Left c) = answer_to c.condition
  yields (Waiting.Right c t) = answer_to c.condition
  yields (Waiting.Sorting c) = answer_to c.condition
  yields (Waiting.Matching c) = answer_to c.condition
  yields (Waiting.Choice c mark) = answer_to c.condition
  yields (Waiting.Trying x before mark) = value_of (kind_of w x.term.0)
  yields (Waiting.Deriving x mark) = value_of (kind_of w x.term.0)

  -- what comes of what is done next
  abbrev pub comes_to : Control A C S D → Due
  comes_to (Next.Eval k t) = value_of (kind_of w t.0)
  comes_to (Next.Evaluating a) = value_of (kind_under a.op.0)
  comes_to (Next.Top k t) = value_of (kind_of w t.0)
  comes_to (Next.Settle k t d) = value_of (kind_of w t.0)
  comes_to (Next.Ready k t) = value_of (kind_of w t.0)
  comes_to (Next.Attempt x) = value_of (kind_of w x.term.0)
  comes_to (Next.Solve c) = answer_to c.condition
  comes_to (Next.Choose c) = answer_to c.condition
  comes_to (Next.Own c x) = answer_to c.condition
  comes_to (Next.Value t) = value_of (kind_of w t.0)
  comes_to (Next.Held e σ) = answer_to e
  comes_to (Next.Failed e) = answer_to e

  -- from what all is to give, down to what is done next, each gives what is asked
  abbrev pub AreChained : Due → List (Frame A C S D) → Due → Type 0
  AreChained asked [] due = Suits asked due
  AreChained asked (f ∷ fs) due = Suits asked (yields f) × AreChained (asks f) fs due

  -- the solution behind which a condition is solved is known
  abbrev pub KnowsLast : Condition S → Type 0
  KnowsLast c = IfSome c.behind (λ x. w.knows_last x.value)

  -- what a frame holds is known
  abbrev pub IsKnown : Frame A C S D → Type 0
  IsKnown (Waiting.Argument a i) = w.knows_operands a.op.0 a.args.items
  IsKnown (Waiting.Again t) = w.knows_term t.0
  IsKnown (Waiting.Left c) = w.knows_binding c.condition c.at c.binding × Asks w.rules c.condition c.at Goals.Equality × KnowsLast c
  IsKnown (Waiting.Right c t) = w.knows_binding c.condition c.at c.binding × Asks w.rules c.condition c.at Goals.Equality × w.knows_value t.0 × KnowsLast c
  IsKnown (Waiting.Sorting c) = w.knows_binding c.condition c.at c.binding × Asks w.rules c.condition c.at Goals.Sort × KnowsLast c
  IsKnown (Waiting.Matching c) = w.knows_binding c.condition c.at c.binding × Asks w.rules c.condition c.at Goals.Matching × KnowsLast c
  IsKnown (Waiting.Choice c mark) = w.knows_choices c.condition c.at c.choices
  IsKnown (Waiting.Trying x before mark) = w.knows_value x.term.0 × w.knows_attempts x.term.0 x.attempts × w.knows_candidate x.term.0 x.condition x.attempts
  IsKnown (Waiting.Deriving x mark) = w.knows_term x.term.0

  -- what is done next is known
  abbrev pub IsKnownNext : Control A C S D → Type 0
  IsKnownNext (Next.Eval k t) = w.knows_term t.0
  IsKnownNext (Next.Evaluating a) = w.knows_operands a.op.0 a.args.items
  IsKnownNext (Next.Top k t) = w.knows_term t.0
  IsKnownNext (Next.Settle k t d) = w.knows_term t.0 × w.knows_settling t.0 d
  IsKnownNext (Next.Ready k t) = w.knows_value t.0
  IsKnownNext (Next.Attempt x) = w.knows_value x.term.0 × w.knows_attempts x.term.0 x.attempts
  IsKnownNext (Next.Solve c) = w.knows_binding c.condition c.at c.binding × KnowsLast c
  IsKnownNext (Next.Choose c) = w.knows_choices c.condition c.at c.choices
  IsKnownNext (Next.Own c x) = w.knows_choices c.condition c.at c.choices × w.knows_last x.value
  IsKnownNext (Next.Value t) = w.knows_value t.0
  IsKnownNext (Next.Held e σ) = IsSolution w e σ
  IsKnownNext (Next.Failed e) = Unit {0}

  abbrev pub AreKnown : List (Frame A C S D) → Type 0
  AreKnown [] = Unit {0}
  AreKnown (f ∷ fs) = IsKnown f × AreKnown fs

  -- all handles are known, and each is given what it asks
  pub record HoldsIn (asked : Due) (fs : List (Frame A C S D)) (c : Control A C S D) : Type 0 where
    pub frames : AreKnown fs
    pub next : IsKnownNext c
    pub chained : AreChained asked fs (comes_to c)
