use Rattle.std.proofs.Common.{◌≡◌, [], ◌∷◌, false, length, sym, ap, ◌∙◌, subst, arith, length-append}
use Rattle.mau_store.specs.Node.{IsOf}
use Rattle.mau_store.specs.Trees.{tree_at}
use Rattle.mau_check.specs.Marks.{HasNoHole, AreMarks}
use Rattle.mau_check.proofs.HolesFilled.{mark_more}
use Rattle.mau_check.proofs.filling.mark.Goals as goal

pub loop-i-preserved : goal.loop-i-preserved
loop-i-preserved c =
    let nodes = c.args.store.now in
    let ms = c.loop-i.marks.items in
    let at = c.loop-i.invariant.counted in
    let m = c.is_marked-marked.result in
    let old = subst (AreMarks nodes) (sym c.deref.ensures.value) c.loop-i.invariant.marks in
    let here = λ (e : m ≡ false). subst (λ n. HasNoHole (tree_at nodes n)) (sym at) (subst HasNoHole (sym c.view.ensures.tree) (c.is_marked-marked.ensures nodes old e)) in
    record {
      marks = subst (AreMarks nodes) (sym c.in_ok-push.ensures.items) (mark_more nodes ms m c.loop-i.invariant.marks (subst (IsOf nodes) (sym at) (omega (arith, c.loop-i-test.true, c.len-i-end.ensures.counted))) here);
      counted = ap length c.in_ok-push.ensures.items ∙ length-append ms (m ∷ []) ∙ (omega (arith, at));
    }
