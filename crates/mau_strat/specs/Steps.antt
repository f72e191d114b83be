-- What a step of a run does.
use Rattle.std.specs.Prelude.{◌≡◌, ℕ, ◌+◌, List, [], ◌∷◌, ◌++◌, length, Contains}
use Rattle.mau_strat.specs.declared.walk.Open.{Open}
use Rattle.mau_strat.specs.declared.walk.Went.{Went}
use Rattle.mau_strat.specs.declared.walk.Went.TheVariants.{Done, Again, Entered}
use Rattle.mau_strat.specs.declared.walk.Refusal.{Refusal}
use Rattle.mau_strat.specs.declared.walk.Refusal.TheVariants.{TooMany, NoMemory}
use Rattle.mau_strat.specs.declared.walk.StartError.{StartError}
use Rattle.mau_strat.specs.declared.walk.StartError.TheVariants.{OverLimit, NoMemory as NoRoom}
use Rattle.mau_evaluation.specs.Reach.{IsClosed}

-- a run is refused its start for the limit only where this holds
abbrev pub IfOverLimit : StartError → Type 0 → Type 0
IfOverLimit OverLimit p = p
IfOverLimit NoRoom p = Unit {0}

-- a successor is refused for the limit only where this holds
abbrev pub IfTooMany : Refusal → Type 0 → Type 0
IfTooMany TooMany p = p
IfTooMany NoMemory p = Unit {0}

-- what becomes of a successor that was given
abbrev pub EnterIs : List ℕ → List ℕ → List Open → Open → ℕ → List ℕ → List ℕ → List Open → Went → Type 0
EnterIs seen ps os o c seen' ps' os' Done = ⊥
EnterIs seen ps os o c seen' ps' os' Again = Contains seen c × (seen' ≡ seen) × (ps' ≡ ps) × (os' ≡ os ++ record { entry = o.entry; at = o.at + 1 } ∷ [])
EnterIs seen ps os o c seen' ps' os' (Entered d) =
    (d ≡ c) × (Contains seen c → ⊥) × (seen' ≡ seen ++ c ∷ []) × (ps' ≡ ps ++ o.entry ∷ []) × (os' ≡ (os ++ record { entry = o.entry; at = o.at + 1 } ∷ []) ++ record { entry = length seen; at = 0 } ∷ [])

module _ (Begins Next : ℕ → List ℕ → Type 0) where
  -- done: all entries have their successors listed; entered: one entry more
  abbrev pub TurnIs : List ℕ → List ℕ → Went → Type 0
  TurnIs old new Done = (new ≡ old) × IsClosed Begins Next new
  TurnIs old new Again = new ≡ old
  TurnIs old new (Entered c) = new ≡ old ++ c ∷ []
