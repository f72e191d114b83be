use Rattle.std.proofs.Common.{subst, sym, refl, below_more, arith}
use Rattle.mau_store.specs.Trees.{tree_at}
use Rattle.mau_store.specs.View.{node_of}
use Rattle.mau_signature.specs.OverSignature.{IsTreeOver}
use Rattle.mau_sorts.proofs.Settling.{node_over, tree_from}
use Rattle.mau_sorts.proofs.ready.are_terms.Goals as goal

pub returns-then-not-is_node : goal.returns-then-not-is_node
returns-then-not-is_node c = (
  λ yes. absurd (cc yes),
  λ each. c.if-not-is_node.ensures.1
      (node_over c.args.sig.now (tree_at c.args.store.now) (node_of c.view.result)
      (subst (IsTreeOver c.args.sig.now) c.view.ensures.tree (each c.loop-i.i (omega (arith, c.loop-i-test.true, c.len-i-end.ensures.counted))))),
)

pub loop-i-preserved : goal.loop-i-preserved
loop-i-preserved c =
    let older = c.view.ensures.older in
    below_more (λ j. IsTreeOver c.args.sig.now (tree_at c.args.store.now j)) c.loop-i.i c.loop-i.invariant
    (subst (IsTreeOver c.args.sig.now) (sym c.view.ensures.tree)
    (tree_from c.args.sig.now (tree_at c.args.store.now) (node_of c.view.result) (c.if-not-is_node.ensures.0 refl) (λ k below. c.loop-i.invariant _ (older k 0 below))))

pub returns : goal.returns
returns c = (
  λ yes j there. c.loop-i.invariant j (omega (arith, there, c.loop-i-test.false, c.len-i-end.ensures.counted)),
  λ each. refl,
)
