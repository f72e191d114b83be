use Rattle.std.proofs.Common.{◌++◌, sym, ap, ap₂, ◌∙◌, length}
use Rattle.mau_store.specs.Trees.{trees_at}
use Rattle.mau_store.specs.View.{numbers}
use Rattle.mau_store.proofs.Arguments.{id_below}
use Rattle.mau_canon.proofs.Elements.{all_pieces-ids, trees_at-append, AreOf-append}
use Rattle.mau_canon.proofs.normal.joined.Goals as goal

pub pieces-requires : goal.pieces-requires
pieces-requires c = id_below (length c.args.store.now) c.args.args.now c.loop-arg.arg-index (record { 0 = 0 }) c.loop-arg-test.true c.requires

pub loop-arg-preserved : goal.loop-arg-preserved
loop-arg-preserved c =
    let s = c.args.store.now in
    let h = c.args.theory.now in
    let old = c.loop-arg.items.items in
    let new = c.pieces.result.now in
    record {
      list =
          ap (λ ids. trees_at s (numbers ids)) c.in_ok-extend_from_slice.ensures.items
          ∙ trees_at-append s old new
          ∙ ap₂ (λ x y. x ++ y) c.loop-arg.invariant.list c.pieces.ensures.list
          ∙ sym (all_pieces-ids s h.assoc h.id c.args.op.0 c.args.args.now c.loop-arg.arg-index (record { 0 = 0 }) c.loop-arg-test.true);
      there = rw c.in_ok-extend_from_slice.ensures.items (AreOf-append s old new c.loop-arg.invariant.there c.pieces.ensures.there);
    }
