-- What is left of a run, once calls have answered: it is known of the run what is known of what is left of it.
use Rattle.std.specs.Prelude.{◌≡◌, ℕ}
use Rattle.mau_evaluation.specs.Run.{stopped, too_deep, overflowed, Run}
use Rattle.mau_evaluation.specs.RuleRuns.{PassEnd}
use Rattle.mau_api.specs.Told.{shown_count}
use Rattle.mau_api.specs.declared.results.EvalEnd.{EvalEnd}
use Rattle.mau_api.specs.declared.results.EvalEnd.TheVariants.{Stopped, TooDeep, Overflow, NoMemory}
use Rattle.mau_rules.specs.Known.{Item, Fails, Got, Known, more}

-- it ends so; want of memory says nothing
abbrev pub KnownEnd : Item → {A : Type 0} → (ℕ → ℕ → Run A) → ℕ → EvalEnd → Type 0
KnownEnd I f b Stopped = Fails I f b stopped
KnownEnd I f b TooDeep = Fails I f b too_deep
KnownEnd I f b Overflow = Fails I f b overflowed
KnownEnd I f b NoMemory = Unit {0}

-- of the run f, which began with the budget b0, `rest` is left with the budget b; so many applications are counted as are shown
pub record IsCounted (I : Item) (f : ℕ → ℕ → Run PassEnd) (b0 shown : ℕ) (rest : ℕ → ℕ → Run PassEnd) (b : ℕ) : Type 0 where
  pub count : ℕ
  pub shows : shown ≡ shown_count count
  pub known : (o : Got PassEnd) (after : ℕ) → Known I rest b o after → Known I f b0 (more count o) after
