-- The list of configurations that a run of a strategy reaches, with one engine: its entries in order.
use Rattle.std.specs.Prelude.{◌≡◌, ℕ, zero, suc, List, [], ◌∷◌, ◌++◌, Contains, ◌⊎◌}
use Rattle.mau_terms.specs.Tree.{Tree}
use Rattle.mau_evaluation.specs.Program.{Program}
use Rattle.mau_evaluation.specs.Engine.{Engine}
use Rattle.mau_evaluation.specs.Strategy.{Strategy, branch, StratDef}
use Rattle.mau_evaluation.specs.Configs.{Todo, Frame, Config, with_form, on, inside, Next}
use Rattle.mau_evaluation.specs.Reach.{At, ClosedBehind, Reached}
use Rattle.mau_evaluation.specs.Answers.{Answers, before}
use Rattle.mau_evaluation.specs.OrderedLists.{results, bodies_for, IsLeaf, LeafList, BodyList}

abbrev pub IsFront : {A : Type 0} → List A → List A → Type 0
IsFront {A = A} xs ys = (zs : List A) × (ys ≡ xs ++ zs)

-- `E ? F : G` goes inside first, whatever comes of it
abbrev pub OpensBy : Strategy → Tree → Todo → List Todo → List Frame → List Config → Type 0
OpensBy (branch e f g) t d ds xs cs = cs ≡ on t (with_form d e ∷ []) (inside d f t ds ∷ xs) ∷ []
OpensBy _ t d ds xs cs = ⊥

abbrev pub OpensOn : Tree → List Todo → List Frame → List Config → Type 0
OpensOn t [] xs cs = ⊥
OpensOn t (d ∷ ds) xs cs = OpensBy d.form t d ds xs cs

module _ (P : Program) (L : Engine) (defs : List StratDef) where
  -- us are the first results of d on t, whatever comes behind them: more of them, no more, or an end
  abbrev pub LeafFront : Todo → Tree → List Tree → Type 0
  LeafFront d t us = IsLeaf d.form × ((rest : Answers Tree) × (results P L d t ≡ before us rest))

  -- bs are the first bodies of the call d
  abbrev pub BodyFrontWith : ℕ → Todo → List Todo → Type 0
  BodyFrontWith zero d bs = ⊥
  BodyFrontWith (suc k) d bs = (rest : Answers Todo) × (bodies_for P L defs k d.values d.form ≡ before bs rest)

  abbrev pub BodyFront : Todo → Tree → List Todo → Type 0
  BodyFront d t bs = BodyFrontWith d.calls d bs

  -- all successors of c are cs
  abbrev pub NextOf : Config → List Config → Type 0
  NextOf c cs = Next P L defs (LeafList P L) (BodyList P L defs) c cs

  -- the first successors of c are cs
  abbrev pub BeginsWith : Config → List Config → Type 0
  BeginsWith c cs = (cs ≡ []) ⊎ (OpensOn c.term c.todo c.frames cs ⊎ ((ds : List Config) × Next P L defs LeafFront BodyFront c ds × IsFront cs ds))

  -- The list that a run from t by d reaches, in the order of entry. The solutions are the terms of its entries `on u [] []`, which have nothing left and no frame.
  abbrev pub ReachedBy : Tree → Todo → List Config → Type 0
  ReachedBy t d seen = Reached BeginsWith NextOf (on t (d ∷ []) []) seen

  -- an entry `E ? F : G` at place j, asked for a further successor behind the one inside
  pub record IsAtBranch (seen : List Config) (j : ℕ) (t : Tree) (d : Todo) (e f g : Strategy) (ds : List Todo) (xs : List Frame) : Type 0 where
    pub form : d.form ≡ branch e f g
    pub stands : At seen j (on t (d ∷ ds) xs)
    pub entered : Contains seen (on t (with_form d e ∷ []) (inside d f t ds ∷ xs))
    pub behind : ClosedBehind BeginsWith NextOf seen j
