use Rattle.std.proofs.Common.{◌≡◌, ◌∷◌, [], ◌++◌, true, map, length}
use Rattle.mau_terms.specs.Reading.{nest}
use Rattle.mau_terms.specs.View.{tree_of}
use Rattle.mau_canon.proofs.readback.nested.Given as goal

abbrev pub invariant-loop-term : goal.invariant-loop-term
invariant-loop-term l = nest true l.op.0 (map tree_of l.terms.items ++ tree_of l.whole ∷ []) ≡ nest true l.op.0 (map tree_of l.initial.terms.items ++ tree_of l.initial.whole ∷ [])

abbrev pub decreases-loop-term : goal.decreases-loop-term
decreases-loop-term l = length l.terms.items
