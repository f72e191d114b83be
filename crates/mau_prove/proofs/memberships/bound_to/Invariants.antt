use Rattle.std.proofs.Common.{◌≡◌, List, map, take}
use Rattle.std.specs.Prelude.{All}
use Rattle.mau_terms.specs.declared.ids.VarId.{VarId}
use Rattle.mau_terms.specs.declared.ids.TermId.{TermId}
use Rattle.mau_store.specs.Node.{Node}
use Rattle.mau_api.specs.Answers.{IsValueOf}
use Rattle.mau_prove.specs.Making.{AreSomeKept}
use Rattle.mau_prove.proofs.memberships.bound_to.Given as goal

abbrev pub invariant-loop-i : goal.invariant-loop-i
invariant-loop-i l = record {
  variables : map (λ (b : VarId × TermId). b.0) l.found.items ≡ take l.i l.variables;
  values : (nodes : List Node) → AreSomeKept l.sig nodes l.known → All (IsValueOf l.sig nodes l.table) l.found.items;
}
