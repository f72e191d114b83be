-- Configurations of a strategy run, and their successors in order.
use Rattle.std.specs.Prelude.{◌≡◌, ℕ, List, [], ◌∷◌, map, ◌⊎◌}
use Rattle.mau_terms.specs.Tree.{Tree}
use Rattle.mau_evaluation.specs.Program.{Program}
use Rattle.mau_evaluation.specs.Evaluation.{Binding}
use Rattle.mau_evaluation.specs.Engine.{Engine}
use Rattle.mau_evaluation.specs.Strategy.{Strategy, idle, fail, every_rule, label, top_only, call, test, star, plus, to_normal, in_turn, either, or_else, branch, negation, attempt, test_of, part_rewrite, label_by, StratDef}
use Rattle.mau_evaluation.specs.Satisfies.{Meaning, HasNone, meaning}

-- one member of what is left to do: a strategy, with the calls that are left to it and the values of its variables
pub record Todo : Type 0 where
  pub form : Strategy
  pub calls : ℕ
  pub values : Binding

-- what a run is inside of. An enclosing test: its strategy, what follows a result of it, the term on which it began, and the rest behind it.
pub data Frame : Type 0 where
  test_frame : Todo → Todo → Tree → List Todo → Frame

-- a term, the rest of the strategy, and the chain of frames, the innermost first
pub record Config : Type 0 where
  pub term : Tree
  pub todo : List Todo
  pub frames : List Frame

abbrev pub on : Tree → List Todo → List Frame → Config
on t ds xs = record { term = t; todo = ds; frames = xs }

-- another strategy with the same calls left and the same values
abbrev pub with_form : Todo → Strategy → Todo
with_form d e = record { form = e; calls = d.calls; values = d.values }

-- the test of d, which is `E ? f : G`, begun on t before ds
abbrev pub inside : Todo → Strategy → Tree → List Todo → Frame
inside d f t ds = test_frame d (with_form d f) t ds

-- The results of the leaves, which are idle, fail, labels, all, top and tests, are given as lists: `leaf d t us`, in their order. So are the bodies with which a call
-- goes on: `bodies d t bs`.
module _ (P : Program) (L : Engine) (defs : List StratDef) (leaf : Todo → Tree → List Tree → Type 0) (bodies : Todo → Tree → List Todo → Type 0) where
  abbrev pub means : Todo → Meaning
  means d = meaning P L defs d.calls d.values d.form

  -- one for each result
  abbrev pub LeafNext : Tree → Todo → List Todo → List Frame → List Config → Type 0
  LeafNext t d ds xs cs = (us : List Tree) × leaf d t us × (cs ≡ map (λ u. on u ds xs) us)

  -- cs are all successors of t with d, before ds and inside xs. What stands behind d stays behind it in each.
  abbrev pub NextBy : Strategy → Tree → Todo → List Todo → List Frame → List Config → Type 0
  -- `E ; F`: E and then F on the same term
  NextBy (in_turn e f) t d ds xs cs = cs ≡ on t (with_form d e ∷ with_form d f ∷ ds) xs ∷ []
  -- `E | F`: two on the same term, E and F
  NextBy (either e f) t d ds xs cs = cs ≡ on t (with_form d e ∷ ds) xs ∷ on t (with_form d f ∷ ds) xs ∷ []
  -- `E *`: two on the same term, nothing in its place, and E and then `E *`
  NextBy (star e) t d ds xs cs = cs ≡ on t ds xs ∷ on t (with_form d e ∷ with_form d (star e) ∷ ds) xs ∷ []
  -- a form with an equation: its right side
  NextBy (plus e) t d ds xs cs = cs ≡ on t (with_form d (in_turn e (star e)) ∷ ds) xs ∷ []
  NextBy (to_normal e) t d ds xs cs = cs ≡ on t (with_form d (in_turn (star e) (negation e)) ∷ ds) xs ∷ []
  NextBy (or_else e f) t d ds xs cs = cs ≡ on t (with_form d (branch e idle f) ∷ ds) xs ∷ []
  NextBy (negation e) t d ds xs cs = cs ≡ on t (with_form d (branch e fail idle) ∷ ds) xs ∷ []
  NextBy (attempt e) t d ds xs cs = cs ≡ on t (with_form d (branch e idle idle) ∷ ds) xs ∷ []
  NextBy (test_of e) t d ds xs cs = cs ≡ on t (with_form d (branch (negation e) fail idle) ∷ ds) xs ∷ []
  -- `E ? F : G`: E on t inside this test, and then, exactly where no v satisfies E from t, G on t. Where E is cut from t this is open, and so are the successors.
  NextBy (branch e f g) t d ds xs cs =
      ((v : Tree) × (means (with_form d e)).sat t v × (cs ≡ on t (with_form d e ∷ []) (inside d f t ds ∷ xs) ∷ [])) ⊎
      (HasNone (means (with_form d e)) t × ((means (with_form d e)).cut t → ⊥) × (cs ≡ on t (with_form d e ∷ []) (inside d f t ds ∷ xs) ∷ on t (with_form d g ∷ ds) xs ∷ []))
  -- a call: one for each of its bodies, on the same term
  NextBy (call n ts) t d ds xs cs = (bs : List Todo) × bodies d t bs × (cs ≡ map (λ b. on t (b ∷ ds) xs) bs)
  NextBy idle t d ds xs cs = LeafNext t d ds xs cs
  NextBy fail t d ds xs cs = LeafNext t d ds xs cs
  NextBy every_rule t d ds xs cs = LeafNext t d ds xs cs
  NextBy (label n gs) t d ds xs cs = LeafNext t d ds xs cs
  NextBy (top_only e) t d ds xs cs = LeafNext t d ds xs cs
  NextBy (test k p c) t d ds xs cs = LeafNext t d ds xs cs
  NextBy (part_rewrite k p c us) t d ds xs cs = LeafNext t d ds xs cs
  NextBy (label_by n gs es) t d ds xs cs = LeafNext t d ds xs cs

  -- of a result inside a frame: it goes on outside the test with F, and then the rest behind the test
  abbrev pub AfterFrame : Frame → Tree → List Frame → List Config → Type 0
  AfterFrame (test_frame d e b ds) t xs cs = cs ≡ on t (e ∷ ds) xs ∷ []

  -- they come from the first member of what is left; a solution, with nothing left and no frame, has none
  abbrev pub NextOn : Tree → List Todo → List Frame → List Config → Type 0
  NextOn t [] [] cs = cs ≡ []
  NextOn t [] (x ∷ xs) cs = AfterFrame x t xs cs
  NextOn t (d ∷ ds) xs cs = NextBy d.form t d ds xs cs

  -- cs are all successors of c, in order
  abbrev pub Next : Config → List Config → Type 0
  Next c cs = NextOn c.term c.todo c.frames cs
