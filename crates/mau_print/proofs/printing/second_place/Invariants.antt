use Rattle.std.proofs.Common.{◌≡◌, ◌≤◌, take}
use Rattle.mau_grammar.specs.Production.{places}
use Rattle.mau_print.proofs.printing.second_place.Given as goal

abbrev pub invariant-loop-i : goal.invariant-loop-i
invariant-loop-i l = (places (take l.i l.parts) ≡ l.seen) × (l.seen ≤ 1)
