-- What a strategy yields on a term, one after another, and why there may be no more.
use Rattle.std.specs.Prelude.{◌≡◌, ◌⊎◌, ℕ, suc, List, [], ◌∷◌, ◌++◌, map, Option, Some, None}
use Rattle.mau_terms.specs.Tree.{Tree}
use Rattle.mau_evaluation.specs.Run.{stopped, too_deep, overflowed}
use Rattle.mau_evaluation.specs.Engine.{engine_of}
use Rattle.mau_evaluation.specs.Strategy.{Strategy, call}
use Rattle.mau_evaluation.specs.Configs.{Todo, Frame, Config, on}
use Rattle.mau_evaluation.specs.Eventually.{Begins, NextAll}
use Rattle.mau_evaluation.specs.Questions.{Question, EndsUnder, NeedsLeaf, NeedsBody}
use Rattle.mau_stratrun.specs.declared.leaves.LeafEnd.{LeafEnd}
use Rattle.mau_stratrun.specs.declared.leaves.LeafEnd.TheVariants.{Stopped, TooDeep, Overflow, CallDepth, NoMemory}
use Rattle.mau_stratrun.specs.Settings.{Fixed}

-- a term, and what is to be done on it before the rest: nothing on a result, the body on the term of a call
pub record Yield : Type 0 where
  pub term : Tree
  pub first : List Todo

abbrev pub result_of : Tree → Yield
result_of u = record { term = u; first = [] }

abbrev pub body_on : Tree → Todo → Yield
body_on t b = record { term = t; first = b ∷ [] }

-- the configuration that goes on from it, before ds and inside xs
abbrev pub after : List Todo → List Frame → Yield → Config
after ds xs y = on y.term (y.first ++ ds) xs

abbrev pub IsCall : Strategy → Type 0
IsCall (call n ts) = Unit {0}
IsCall _ = ⊥

module _ (f : Fixed) where
  -- the first successors of a configuration are these, and all successors are these: from some limits on
  abbrev pub BeginsBy : Config → List Config → Type 0
  BeginsBy = Begins f.program (engine_of f.program) f.definitions

  abbrev pub NextBy : Config → List Config → Type 0
  NextBy = NextAll f.program (engine_of f.program) f.definitions

  -- these are the first that d yields on t, and these are all
  abbrev pub YieldsFirst : Todo → Tree → List Yield → Type 0
  YieldsFirst d t ys = (ds : List Todo) (xs : List Frame) → BeginsBy (on t (d ∷ ds) xs) (map (after ds xs) ys)

  abbrev pub YieldsAll : Todo → Tree → List Yield → Type 0
  YieldsAll d t ys = (ds : List Todo) (xs : List Frame) → NextBy (on t (d ∷ ds) xs) (map (after ds xs) ys)

  -- without an answer to the question there is nothing behind these
  abbrev pub NeedsMore : Question → Todo → Tree → List Yield → Type 0
  NeedsMore q d t ys =
      ((us : List Tree) × (ys ≡ map result_of us) × NeedsLeaf f.program (engine_of f.program) f.definitions q d t us) ⊎
      ((k : ℕ) × (bs : List Todo) × (d.calls ≡ suc k) × (ys ≡ map (body_on t) bs) × NeedsBody f.program (engine_of f.program) f.definitions q k d bs)

  -- what d yields on t behind these can't be had: by the limits of an item a question ends so, without which there is nothing; or no calls are left to a call
  abbrev pub IsCause : Todo → Tree → List Yield → LeafEnd → Type 0
  IsCause d t ys Stopped = (q : Question) × EndsUnder f.program (engine_of f.program) f.definitions f.levels f.budget q stopped × NeedsMore q d t ys
  IsCause d t ys TooDeep = (q : Question) × EndsUnder f.program (engine_of f.program) f.definitions f.levels f.budget q too_deep × NeedsMore q d t ys
  IsCause d t ys Overflow = (q : Question) × EndsUnder f.program (engine_of f.program) f.definitions f.levels f.budget q overflowed × NeedsMore q d t ys
  IsCause d t ys CallDepth = IsCall d.form × (d.calls ≡ 0)
  IsCause d t ys NoMemory = Unit {0}

  -- ---- successors of a configuration

  -- what comes behind the first successors: one more, or they are all
  abbrev pub IsAnswer : Config → List Config → Option Config → Type 0
  IsAnswer c given None = NextBy c given
  IsAnswer c given (Some x) = BeginsBy c (given ++ x ∷ [])

  abbrev pub IsEndOn : Tree → List Todo → List Frame → List Config → LeafEnd → Type 0
  IsEndOn t [] xs front e = ⊥
  IsEndOn t (d ∷ ds) xs front e = (ys : List Yield) × (front ≡ map (after ds xs) ys) × IsCause d t ys e

  -- behind these the next successor can't be had, for this cause
  abbrev pub IsEnd : Config → List Config → LeafEnd → Type 0
  IsEnd c front NoMemory = Unit {0}
  IsEnd c front Stopped = IsEndOn c.term c.todo c.frames front Stopped
  IsEnd c front TooDeep = IsEndOn c.term c.todo c.frames front TooDeep
  IsEnd c front Overflow = IsEndOn c.term c.todo c.frames front Overflow
  IsEnd c front CallDepth = IsEndOn c.term c.todo c.frames front CallDepth
