use Rattle.std.proofs.Common.{◌≡◌, ℕ, ◌+◌, ◌<◌, ◌≤◌, List, length, slice_index_or, take, drop, Option, IfSome, Some, None, refl, sym, ◌∙◌, ap, ap₂, subst, arith}
use Rattle.std.specs.declared.cmp.Ordering.TheVariants.{Equal, Greater}
use Rattle.mau_terms.specs.declared.ids.TermId.{TermId}
use Rattle.mau_store.proofs.Arguments.{id_below}
use Rattle.std.proofs.lemmas.List.{take_more}
use Rattle.mau_lists.specs.Lists.{IsSubList}
use Rattle.mau_lists.specs.Terms.{by_tree, no_term}
use Rattle.mau_lists.specs.Following.{first_above, replaced, fallen, HasRoom}
use Rattle.mau_lists.proofs.Steps.{found, item_met, item_below}
use Rattle.mau_lists.proofs.Members.{sub_skip, sub_met, sub_item, sub_fallen}
use Rattle.mau_lists.proofs.Ids.{same_id}
use Rattle.mau_lists.proofs.sub_lists.sub_list_behind.Goals as goal
use Rattle.mau_lists.proofs.sub_lists.sub_list_behind.Goals.{in-Equal, in-Greater}

room_fallen : (last items : List TermId) (depth : ℕ) (best : Option (ℕ × TermId)) (above : Option TermId) → depth ≤ length last → depth < length items → HasRoom last items best → HasRoom last items (fallen depth best above)
room_fallen last items depth best None h k r = r
room_fallen last items depth best (Some z) h k r = (h, k)

pub loop-i-preserved : goal.loop-i-preserved
loop-i-preserved c =
    let nodes = c.args.store.now in
    let last = c.args.last.now in
    let items = c.args.items.now in
    let depth = c.loop-i.depth in
    let i = c.loop-i.i in
    let v = c.loop-i.invariant in
    let l : depth < length last = omega (arith, v.depth_last, c.if-depth-last.false) in
    let x = slice_index_or last depth no_term in
    let y = slice_index_or items i no_term in
    elim c.match-compare.branch [
      | in-Equal w ↦
          let tie : by_tree nodes x y ≡ Equal = sym c.compare.ensures.order ∙ w.in-Equal.is in
          let one : x ≡ y = same_id x y ((c.compare.ensures.equal (id_below (length nodes) last depth no_term l c.requires.last) (id_below (length nodes) items i no_term c.loop-i-test.true c.requires.items)).0 w.in-Equal.is) in
          let above : c.above_next-above.result ≡ first_above (by_tree nodes) x (drop (i + 1) items) = c.above_next-above.ensures.next i refl ∙ ap (λ z. first_above (by_tree nodes) z (drop (i + 1) items)) (sym one) in
          let best : c.match-compare.best ≡ fallen depth c.loop-i.best c.above_next-above.result = w.best-is ∙ w.fallback-best.ensures.value in
          record {
            same = v.same
                ∙ item_met (by_tree nodes) no_term last items depth i c.loop-i.best c.loop-i-test.true l tie c.above_next-above.result above
                ∙ ap₂ (λ a b. found (by_tree nodes) no_term last items a (i + 1) b) (sym w.depth-is) (sym best);
            depth_last = omega (arith, l, w.depth-is);
            depth_seen = omega (arith, v.depth_seen, w.depth-is);
            room = subst (HasRoom last items) (sym best) (room_fallen last items depth c.loop-i.best c.above_next-above.result v.depth_last (omega (arith, v.depth_seen, c.loop-i-test.true)) v.room);
            met = subst (λ k. IsSubList (take k last) (take (i + 1) items)) (sym w.depth-is) (subst (λ s. IsSubList s (take (i + 1) items)) (sym (take_more last depth no_term l)) (sub_met no_term (take depth last) items i c.loop-i-test.true v.met x one));
            part = subst (λ o. IfSome (replaced last o) (λ s. IsSubList s items)) (sym best) (sub_fallen (by_tree nodes) no_term x last items depth i c.loop-i.best c.above_next-above.result c.loop-i-test.true v.met above v.part);
            above = c.above_next-above.ensures.next;
          }
      | in-Greater w ↦
          let below : by_tree nodes x y ≡ Greater = sym c.compare.ensures.order ∙ w.in-Greater.is in
          record {
            same = v.same
                ∙ item_below (by_tree nodes) no_term last items depth i c.loop-i.best c.loop-i-test.true l below
                ∙ ap₂ (λ a b. found (by_tree nodes) no_term last items a (i + 1) b) (sym w.depth-is) (sym w.best-is);
            depth_last = omega (arith, v.depth_last, w.depth-is);
            depth_seen = omega (arith, v.depth_seen, w.depth-is);
            room = subst (HasRoom last items) (sym w.best-is) v.room;
            met = subst (λ k. IsSubList (take k last) (take (i + 1) items)) (sym w.depth-is) (sub_skip no_term (take depth last) items i c.loop-i-test.true v.met);
            part = subst (λ o. IfSome (replaced last o) (λ s. IsSubList s items)) (sym w.best-is) v.part;
            above = c.above_next-above.ensures.next;
          }
    ]

pub returns-then-depth-last-clause-part : goal.returns-then-depth-last-clause-part
returns-then-depth-last-clause-part c = sub_item no_term (take c.loop-i.depth c.args.last.now) c.args.items.now c.loop-i.i c.loop-i-test.true c.loop-i.invariant.met

pub returns-in-Less-clause-part : goal.returns-in-Less-clause-part
returns-in-Less-clause-part c = sub_item no_term (take c.loop-i.depth c.args.last.now) c.args.items.now c.loop-i.i c.loop-i-test.true c.loop-i.invariant.met
