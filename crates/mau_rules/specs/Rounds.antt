-- One round of a run: one rewrite and the value of the whole term, and what is known of the run from what is known of the rest of it.
use Rattle.std.specs.Prelude.{◌≡◌, ◌⊎◌, ◌+◌, ℕ, suc, List, false, Option, Some, None, Result, Ok, Err}
use Rattle.mau_terms.specs.Tree.{Tree}
use Rattle.mau_store.specs.Node.{Node}
use Rattle.mau_store.specs.Trees.{tree_at}
use Rattle.mau_evaluation.specs.Run.{Run}
use Rattle.mau_evaluation.specs.Program.{Program}
use Rattle.mau_evaluation.specs.Evaluation.{levels, solve, eval}
use Rattle.mau_evaluation.specs.RuleRuns.{Stand, PassEnd, normal, one_less, is_out, rewriting}
use Rattle.mau_api.specs.Told.{shown_count}
use Rattle.mau_api.specs.declared.results.Reduced.{Reduced}
use Rattle.mau_api.specs.declared.results.EvalEnd.{EvalEnd}
use Rattle.mau_api.specs.declared.results.EvalEnd.TheVariants.{Stopped, TooDeep, Overflow, NoMemory}
use Rattle.mau_rules.specs.Known.{Item, Gives, Stops, IsTooDeep, Overflows, Got, Known, more}

-- the value of a term, under limits
abbrev pub value_by : Program → Tree → ℕ → ℕ → Run Tree
value_by P t k B = eval P (suc k) B t

-- t is evaluated once one application is taken from the budget; it is counted with those of the evaluation
abbrev pub KnownUse : Item → Program → Tree → ℕ → List Node → Result Reduced EvalEnd → ℕ → Type 0
KnownUse I P t before nodes (Ok x) after = (c r : ℕ) × (before ≡ suc c) × (x.rewrites ≡ shown_count (1 + r)) × Gives I (value_by P t) c (tree_at nodes x.term.0) r after
KnownUse I P t before nodes (Err Stopped) after = (before ≡ 0) ⊎ ((c : ℕ) × (before ≡ suc c) × Stops I (value_by P t) c)
KnownUse I P t before nodes (Err TooDeep) after = (c : ℕ) × (before ≡ suc c) × IsTooDeep I (value_by P t) c
KnownUse I P t before nodes (Err Overflow) after = (c : ℕ) × (before ≡ suc c) × Overflows I (value_by P t) c
KnownUse I P t before nodes (Err NoMemory) after = Unit {0}

-- the rest of a run from an evaluated term, of which so many rewrites may be made, under limits
abbrev pub rest_by : Program → Option ℕ → Stand → ℕ → ℕ → Run PassEnd
rest_by P n s k B = rewriting P (levels P B (suc k)).eval (levels P B (suc k)).sorts (solve P (levels P B k)) n s

-- what is known of the run from u on, with one rewrite less, is known of the run from s on, with r more counted
pub record IsRound (I : Item) (P : Program) (s : Stand) (before : ℕ) (u : Stand) (r after : ℕ) : Type 0 where
  pub known : (n : Option ℕ) → is_out n ≡ false → (o : Got PassEnd) (l : ℕ) → Known I (rest_by P (one_less n) u) after o l → Known I (rest_by P n s) before (more r o) l

-- from s on, where more rewrites may be made: none is found; or one, behind which the run stands at u; or it ends
abbrev pub KnownRound : Item → Program → Stand → ℕ → Stand → Result (Option ℕ) EvalEnd → ℕ → Type 0
KnownRound I P s before u (Ok None) after = (n : Option ℕ) → is_out n ≡ false → Gives I (rest_by P n s) before (s, normal) 0 after
KnownRound I P s before u (Ok (Some c)) after = (r : ℕ) × (c ≡ shown_count r) × IsRound I P s before u r after
KnownRound I P s before u (Err Stopped) after = (n : Option ℕ) → is_out n ≡ false → Stops I (rest_by P n s) before
KnownRound I P s before u (Err TooDeep) after = (n : Option ℕ) → is_out n ≡ false → IsTooDeep I (rest_by P n s) before
KnownRound I P s before u (Err Overflow) after = (n : Option ℕ) → is_out n ≡ false → Overflows I (rest_by P n s) before
KnownRound I P s before u (Err NoMemory) after = Unit {0}
