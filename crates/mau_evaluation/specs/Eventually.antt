-- What holds from some limits on: for some limits, and for all larger ones.
use Rattle.std.specs.Prelude.{ℕ, ◌≤◌, List, [], ◌∷◌}
use Rattle.mau_terms.specs.Tree.{Tree}
use Rattle.mau_evaluation.specs.Program.{Program}
use Rattle.mau_evaluation.specs.Engine.{Engine, Engines}
use Rattle.mau_evaluation.specs.Strategy.{StratDef}
use Rattle.mau_evaluation.specs.Configs.{Todo, Config, on}
use Rattle.mau_evaluation.specs.Reach.{Reached}
use Rattle.mau_evaluation.specs.Entries.{BeginsWith, NextOf}

-- So a fact survives that a later evaluation came to its end only under larger limits: facts that hold each from some limits on hold together for one pair of
-- limits, and for all larger ones.
pub record Eventually (E : Engines) (Holds : Engine → Type 0) : Type 0 where
  pub level : ℕ
  pub each : ℕ
  pub budget : ℕ
  pub holds : (k B b : ℕ) → level ≤ k → each ≤ B → budget ≤ b → Holds (E k B b)

module _ (P : Program) (E : Engines) (defs : List StratDef) where
  abbrev pub Begins : Config → List Config → Type 0
  Begins c cs = Eventually E (λ L. BeginsWith P L defs c cs)

  abbrev pub NextAll : Config → List Config → Type 0
  NextAll c cs = Eventually E (λ L. NextOf P L defs c cs)

  -- the list that a run from t by d reaches, where each of its steps holds from some limits on
  abbrev pub RunsTo : Tree → Todo → List Config → Type 0
  RunsTo t d seen = Reached Begins NextAll (on t (d ∷ []) []) seen
