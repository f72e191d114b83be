use Rattle.std.proofs.Common.{take}
use Rattle.std.specs.Prelude.{All}
use Rattle.mau_module.specs.Stated.{IsLeftSide}
use Rattle.mau_module.proofs.own.have_left_sides.Given as goal

abbrev pub invariant-loop-equation : goal.invariant-loop-equation
invariant-loop-equation l = All (IsLeftSide l.signature) (take l.equation-index l.equations)
