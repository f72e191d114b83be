-- Lists of configurations in which all successors are listed.
use Rattle.std.specs.Prelude.{◌≡◌, ℕ, zero, suc, List, [], ◌∷◌, ◌⊎◌}
use Rattle.mau_terms.specs.Tree.{Tree}
use Rattle.mau_terms.specs.Finite.{IsIn}
use Rattle.mau_evaluation.specs.Program.{Program}
use Rattle.mau_evaluation.specs.Evaluation.{Binding}
use Rattle.mau_evaluation.specs.Engine.{Engine}
use Rattle.mau_evaluation.specs.Strategy.{Strategy, call, StratDef}
use Rattle.mau_evaluation.specs.Satisfies.{Meaning, meaning, calls_at, Sat, Cut}
use Rattle.mau_evaluation.specs.Configs.{Todo, Frame, Config, on, means, Next}

-- zs is an end of xs: these frames stand inside zs
abbrev pub EndsWith : List Frame → List Frame → Type 0
EndsWith zs [] = zs ≡ []
EndsWith zs (x ∷ xs) = (zs ≡ x ∷ xs) ⊎ EndsWith zs xs

module _ (P : Program) (L : Engine) (defs : List StratDef) (leaf : Todo → Tree → List Tree → Type 0) (bodies : Todo → Tree → List Todo → Type 0) where
  abbrev pub AllListed : List Config → List Config → Type 0
  AllListed [] seen = Unit {0}
  AllListed (c ∷ cs) seen = IsIn c seen × AllListed cs seen

  -- inside the frames zs each entry has all its successors listed; where zs is empty, each entry of the list
  abbrev pub IsClosedWithin : List Frame → List Config → Type 0
  IsClosedWithin zs seen = (c : Config) → EndsWith zs c.frames → IsIn c seen → (cs : List Config) × Next P L defs leaf bodies c cs × AllListed cs seen

  -- d was exhausted on t: each v that satisfies it is listed with what stands behind d, and d is not cut
  abbrev pub IsExhausted : List Config → Todo → Tree → List Todo → List Frame → Type 0
  IsExhausted seen d t ds xs = ((v : Tree) → (means P L defs leaf bodies d).sat t v → IsIn (on v ds xs) seen) × ((means P L defs leaf bodies d).cut t → ⊥)

  -- the lists of leaves and of bodies hold just the results, and where there is such a list nothing is cut
  pub record LeavesAreRight : Type 0 where
    pub leaf_gives : (d : Todo) (t : Tree) (us : List Tree) → leaf d t us → (u : Tree) → (means P L defs leaf bodies d).sat t u → IsIn u us
    pub leaf_right : (d : Todo) (t : Tree) (us : List Tree) → leaf d t us → (u : Tree) → IsIn u us → (means P L defs leaf bodies d).sat t u
    pub leaf_whole : (d : Todo) (t : Tree) (us : List Tree) → leaf d t us → (means P L defs leaf bodies d).cut t → ⊥
    -- a call with no calls left has no list; else its bodies have one call less, and lead just to what satisfies the call
    pub call_left : (n : List ℕ) (ts : List Tree) (ρ : Binding) (t : Tree) (bs : List Todo) → bodies (record { form = call n ts; calls = 0; values = ρ }) t bs → ⊥
    pub call_gives : (n : List ℕ) (ts : List Tree) (ρ : Binding) (k : ℕ) (t : Tree) (bs : List Todo) → bodies (record { form = call n ts; calls = suc k; values = ρ }) t bs → (u : Tree) →
        (calls_at P L defs (suc k) ρ n ts).sat t u → (e : Strategy) × (ρ' : Binding) × IsIn (record { form = e; calls = k; values = ρ' }) bs × Sat P L defs k ρ' e t u
    pub call_right : (d : Todo) (n : List ℕ) (ts : List Tree) → d.form ≡ call n ts → (t : Tree) (bs : List Todo) → bodies d t bs → (b : Todo) → IsIn b bs → (u : Tree) →
        (means P L defs leaf bodies b).sat t u → (means P L defs leaf bodies d).sat t u
    pub call_whole : (n : List ℕ) (ts : List Tree) (ρ : Binding) (k : ℕ) (t : Tree) (bs : List Todo) → bodies (record { form = call n ts; calls = suc k; values = ρ }) t bs →
        (calls_at P L defs (suc k) ρ n ts).cut t → (e : Strategy) × (ρ' : Binding) × IsIn (record { form = e; calls = k; values = ρ' }) bs × Cut P L defs k ρ' e t

-- ---- the lists by what they hold, in any order

module _ (P : Program) (L : Engine) (defs : List StratDef) where
  abbrev pub meant : Todo → Meaning
  meant d = meaning P L defs d.calls d.values d.form

  -- us are the results of d on t, and d is not cut there
  abbrev pub AreResults : Todo → Tree → List Tree → Type 0
  AreResults d t us = ((u : Tree) → (meant d).sat t u → IsIn u us) × ((u : Tree) → IsIn u us → (meant d).sat t u) × ((meant d).cut t → ⊥)

  -- bs are bodies with one call less than d has left, whose results are those of d on t, and one of which is cut where d is
  abbrev pub AreBodiesWith : ℕ → Todo → Tree → List Todo → Type 0
  AreBodiesWith zero d t bs = ⊥
  AreBodiesWith (suc k) d t bs =
      ((b : Todo) → IsIn b bs → (u : Tree) → (meant b).sat t u → (meant d).sat t u) ×
      ((u : Tree) → (meant d).sat t u → (e : Strategy) × (ρ : Binding) × IsIn (record { form = e; calls = k; values = ρ }) bs × Sat P L defs k ρ e t u) ×
      ((meant d).cut t → (e : Strategy) × (ρ : Binding) × IsIn (record { form = e; calls = k; values = ρ }) bs × Cut P L defs k ρ e t)

  abbrev pub AreBodies : Todo → Tree → List Todo → Type 0
  AreBodies d t bs = AreBodiesWith d.calls d t bs
