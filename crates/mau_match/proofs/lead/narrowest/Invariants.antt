use Rattle.std.proofs.Common.{IfSome}
use Rattle.mau_terms.specs.View.{tree_of}
use Rattle.mau_store.specs.Node.{Extends}
use Rattle.mau_store.specs.Trees.{tree_at}
use Rattle.mau_match.specs.Led.{IsChoice}
use Rattle.mau_match.proofs.lead.narrowest.Given as goal

-- the choice so far has all values of its variable
abbrev pub invariant-loop-limit : goal.invariant-loop-limit
invariant-loop-limit l = record {
  extends : Extends l.fn.store l.store;
  choice : IfSome l.best (IsChoice l.sig l.fn.store l.store l.given (tree_of l.pattern) (tree_at l.fn.store l.subject.0));
}
