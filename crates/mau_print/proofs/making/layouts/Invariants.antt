use Rattle.std.proofs.Common.{◌≡◌, ◌≤◌, ◌*◌, ℕ, List, length, map, take}
use Rattle.mau_grammar.specs.Productions.{of_operators}
use Rattle.mau_print.specs.Layouts.{layout_of}
use Rattle.mau_print.specs.Beforehand.{AreKnown}
use Rattle.mau_print.proofs.making.layouts.Given as goal

abbrev pub invariant-loop-i : goal.invariant-loop-i
invariant-loop-i l =
    (l.at ≡ length (of_operators l.sig l.i)) × (l.at ≤ 4 * l.i)
    × ((owned : List (List ℕ)) → AreKnown l.grammar owned l.known → l.layouts.items ≡ map (layout_of l.sig.hierarchy l.grammar owned) (take l.i l.sig.declarations))
