use Rattle.std.proofs.Common.{◌+◌, ◌*◌, take}
use Rattle.mau_terms.specs.View.{tree_of, variable_of}
use Rattle.mau_store.specs.Node.{Extends}
use Rattle.mau_store.specs.Trees.{tree_at, trees_at}
use Rattle.mau_store.specs.View.{numbers}
use Rattle.mau_match.specs.Led.{AreNeverWith}
use Rattle.mau_match.proofs.lead.+lead.Given as goal

abbrev pub decreases-may_lead : goal.decreases-may_lead
decreases-may_lead l = 2 * l.depth

abbrev pub decreases-may_lead_with : goal.decreases-may_lead_with
decreases-may_lead_with l = 2 * l.depth + 1

-- the values so far lead to nothing
abbrev pub invariant-may_lead_with-loop-value : goal.invariant-may_lead_with-loop-value
invariant-may_lead_with-loop-value l = record {
  extends : Extends l.fn.store l.store;
  never : AreNeverWith l.sig l.fn.store l.given (tree_of l.pattern) (tree_at l.fn.store l.subject.0) (variable_of l.choice.variable) (trees_at l.fn.store (numbers (take l.value-index l.choice.values.items)));
}
