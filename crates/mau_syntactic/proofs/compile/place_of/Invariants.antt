use Rattle.std.proofs.Common.{◌≡◌, ◌+◌, map, drop}
use Rattle.mau_terms.specs.View.{variable_of}
use Rattle.mau_syntactic.specs.Steps.{place_in}
use Rattle.mau_syntactic.proofs.compile.place_of.Given as goal

abbrev pub invariant-loop-place : goal.invariant-loop-place
invariant-loop-place l =
    place_in (map variable_of l.variables) (variable_of l.variable) ≡ l.place + place_in (map variable_of (drop l.place l.variables)) (variable_of l.variable)
