use Rattle.std.proofs.Common.{◌≡◌, map, take, false}
use Rattle.mau_terms.specs.Tree.{trees_of}
use Rattle.mau_terms.specs.Depth.{depth}
use Rattle.mau_terms.specs.View.{tree_of}
use Rattle.mau_parse.specs.Overflow.{some_overflow}
use Rattle.mau_parse.proofs.overflow.+overflow.Given as goal

abbrev pub decreases-overflows : goal.decreases-overflows
decreases-overflows l = depth (tree_of l.term.now)

abbrev pub invariant-loop-argument : goal.invariant-loop-argument
invariant-loop-argument l = some_overflow l.grammar.successors (trees_of (map tree_of (take l.argument-index l.terms))) ≡ false
