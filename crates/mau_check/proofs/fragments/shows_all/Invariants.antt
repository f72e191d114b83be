use Rattle.std.proofs.Common.{List, take}
use Rattle.mau_terms.specs.Tree.{Tree}
use Rattle.mau_terms.specs.Subst.{value_at}
use Rattle.mau_store.specs.Node.{Extends}
use Rattle.mau_logic.specs.Says.{Says}
use Rattle.mau_logic.specs.Shown.{ShowsAll}
use Rattle.mau_check.specs.Said.{AreSaid}
use Rattle.mau_check.specs.Told.{IsPlainTable}
use Rattle.mau_check.specs.Instances.{AreBound}
use Rattle.mau_check.specs.Variables.{variables_in}
use Rattle.mau_check.proofs.fragments.shows_all.Given as goal

abbrev pub invariant-loop-fragment : goal.invariant-loop-fragment
invariant-loop-fragment l = record {
  extends : Extends l.fn.store l.store;
  plain : IsPlainTable l.sig l.store l.plain;
  shown : (us : List Says) (vs : List Tree) → AreSaid l.sig l.fn.store l.uses us → AreBound l.sig l.fn.store l.values vs →
      ShowsAll l.sig us (value_at (variables_in l.values.variables.items) vs) (take l.fragment-index l.cond);
}
