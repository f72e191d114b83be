use Rattle.std.proofs.Common.{ℕ, map}
use Rattle.mau_terms.specs.Tree.{trees_of, Tree}
use Rattle.mau_terms.specs.Subst.{Variable}
use Rattle.mau_terms.specs.View.{tree_of, variable_of}
use Rattle.mau_terms.specs.declared.theory.Theory.{Theory}
use Rattle.mau_match.specs.Sums.{AreShared}
use Rattle.mau_match.specs.Walked.{bound_of}
use Rattle.mau_match.proofs.sums.push_shares.Given as goal

-- with the variables that were added so far
abbrev pub invariant-loop-limit : goal.invariant-loop-limit
invariant-loop-limit l = (th : ℕ → Theory) (gg : Variable → Tree) → AreShared th (bound_of l.given) (map variable_of l.fn.hidden.items) gg l.op.0 (trees_of (map tree_of l.patterns)) l.fn.counts.items
    → AreShared th (bound_of l.given) (map variable_of l.hidden.items) gg l.op.0 (trees_of (map tree_of l.patterns)) l.counts.items
