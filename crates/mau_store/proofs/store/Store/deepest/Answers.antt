use Rattle.std.proofs.Common.{◌≡◌, ◌∙◌, ap, length, arith, subst}
use Rattle.std.proofs.lemmas.List.{take_all}
use Rattle.mau_terms.specs.Depth.{depth, list_depth}
use Rattle.mau_store.specs.Node.{IsOf}
use Rattle.mau_store.specs.View.{numbers}
use Rattle.mau_store.specs.Trees.{AreKept, tree_at, trees_at}
use Rattle.mau_store.proofs.Arguments.{id_below}
use Rattle.mau_store.proofs.Depths.{depth_at, length-depths, depth_bound, list_depth_ids-more}
use Rattle.mau_store.proofs.store.Store.deepest.Goals as goal

pub index-requires : goal.index-requires
index-requires c =
    let s = c.args.self.now in
    let kept = subst (λ ns. AreKept ns c.self.inside.depths.items) c.self.view_is c.self.invariant in
    let there : IsOf s _ = id_below (length s) c.args.ids.now c.loop-id.id-index (record { 0 = 0 }) c.loop-id-test.true c.requires in
    omega (arith, length-depths s c.self.inside.depths.items kept, there, c.self.inside.depths.ok.0)

pub loop-id-preserved : goal.loop-id-preserved
loop-id-preserved c =
    let s = c.args.self.now in
    let kept = subst (λ ns. AreKept ns c.self.inside.depths.items) c.self.view_is c.self.invariant in
    let there : IsOf s _ = id_below (length s) c.args.ids.now c.loop-id.id-index (record { 0 = 0 }) c.loop-id-test.true c.requires in
    let this : c.index.result.now ≡ depth (tree_at s _) = c.index.ensures ∙ depth_at s c.self.inside.depths.items _ _ kept there in
    record {
      deepest = omega (arith, c.max-deepest.ensures, c.loop-id.invariant.deepest, this, list_depth_ids-more s c.args.ids.now c.loop-id.id-index (record { 0 = 0 }) c.loop-id-test.true);
      bounded = omega (arith, c.max-deepest.ensures, c.loop-id.invariant.bounded, this, depth_bound s kept.are _ there);
    }

pub returns : goal.returns
returns c =
    let kept = subst (λ ns. AreKept ns c.self.inside.depths.items) c.self.view_is c.self.invariant in
    record {
      value = c.loop-id.invariant.deepest ∙ ap (λ ids. list_depth (trees_at c.args.self.now (numbers ids))) (take_all c.loop-id.id-index c.args.ids.now c.loop-id-test.false);
      bounded = omega (arith, length-depths c.args.self.now c.self.inside.depths.items kept, c.loop-id.invariant.bounded, c.self.inside.depths.ok.0, c.self.inside.depths.ok.1, c.self.inside.depths.small);
    }
