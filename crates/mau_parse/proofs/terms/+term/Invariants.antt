use Rattle.std.proofs.Common.{◌≡◌, map, take}
use Rattle.mau_terms.specs.Tree.{trees_of}
use Rattle.mau_terms.specs.View.{tree_of}
use Rattle.mau_chart.specs.Nodes.{trees_at}
use Rattle.mau_parse.specs.Terms.{all_pairs, added, all_renamed}
use Rattle.mau_parse.proofs.terms.+term.Given as goal

abbrev pub decreases-term_of : goal.decreases-term_of
decreases-term_of l = l.id.0

abbrev pub invariant-loop-id : goal.invariant-loop-id
invariant-loop-id l = record {
  vars : l.vars ≡ added l.fn.vars (all_pairs l.pairs (trees_of (trees_at l.trees (take l.id-index l.ids))));
  terms : trees_of (map tree_of l.terms.items) ≡ all_renamed l.pairs l.vars (trees_of (trees_at l.trees (take l.id-index l.ids)));
}
