use Rattle.std.proofs.Common.{◌≡◌, map, take}
use Rattle.mau_declare.specs.Elements.{declared}
use Rattle.mau_declare.proofs.elements.declare.Given as goal

abbrev pub invariant-loop-name : goal.invariant-loop-name
invariant-loop-name l = l.variables.items ≡ map (declared l.words l.sort) (take l.name-index l.names)
