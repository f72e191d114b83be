-- How a computation ends, as the code says it.
use Rattle.std.specs.Prelude.{◌≡◌}
use Rattle.mau_evaluation.specs.Run.{Outcome, ended, stopped, too_deep, overflowed}
use Rattle.mau_api.specs.declared.results.EvalEnd.{EvalEnd}
use Rattle.mau_api.specs.declared.results.EvalEnd.TheVariants.{Stopped, TooDeep, Overflow, NoMemory}

-- the outcome is this end; want of memory says nothing
abbrev pub IsEnd : {A : Type 0} → Outcome A → EvalEnd → Type 0
IsEnd o Stopped = o ≡ ended stopped
IsEnd o TooDeep = o ≡ ended too_deep
IsEnd o Overflow = o ≡ ended overflowed
IsEnd o NoMemory = Unit {0}
