use Rattle.std.proofs.Common.{take}
use Rattle.mau_trial.specs.Tried.{HoldsAtEach}
use Rattle.mau_reduce.specs.Compiled.{IsCompiledEquation}
use Rattle.mau_reduce.proofs.compiling.compile_all.Given as goal

abbrev pub invariant-loop-equation : goal.invariant-loop-equation
invariant-loop-equation l = HoldsAtEach (IsCompiledEquation l.program.sig) (take l.equation-index l.equations) l.found.items
