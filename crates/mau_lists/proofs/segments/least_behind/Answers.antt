use Rattle.std.proofs.Common.{◌≡◌, ◌⊎◌, ◌+◌, Option, Some, None, List, if◌then◌else◌, take, drop, sym, ◌∙◌, ap, subst, rules}
use Rattle.mau_terms.specs.declared.ids.TermId.{TermId}
use Rattle.mau_lists.specs.Following.{cut, FitsIn}
use Rattle.mau_lists.proofs.Least.{least_of-none}
use Rattle.mau_lists.proofs.SharedFronts.{BeginsAs, by_tree_total, best_begins, best_fits, window_shared, window_before, best_least}
use Rattle.mau_lists.proofs.segments.least_behind.Goals as goal
use Rattle.mau_lists.proofs.segments.least_behind.Goals.{then-is_behind, else-is_behind}

pub loop-i-preserved : goal.loop-i-preserved
loop-i-preserved c =
    let nodes = c.args.store.now in
    let last = c.args.last.now in
    let items = c.args.items.now in
    let i = c.loop-i.i in
    let inv = c.loop-i.invariant in
    let shared = c.front_at-shared.result.0 in
    let front : Option (List TermId) = Some (take (shared + 1) (drop i items)) in
    let window = window_shared last items i shared c.loop-i.window c.further-window.result inv.window c.front_at-shared.ensures.shared c.further-window.ensures in
    let reached = window_before i shared c.loop-i.window c.further-window.result inv.reached c.further-window.ensures in
    elim c.if-is_behind.branch [
      | then-is_behind w ↦
          let one : (c.if-is_behind.best ≡ c.loop-i.best) ⊎ (c.if-is_behind.best ≡ Some (i, shared + 1)) = subst (λ r. (r ≡ c.loop-i.best) ⊎ (r ≡ Some (i, shared + 1))) (sym w.best-is) w.lesser-best.ensures.one in
          record {
            same = best_least nodes last items i c.loop-i.best c.if-is_behind.best front c.loop-i-test.true inv.same (c.front_at-shared.ensures.next ∙ ap (λ b. if b then front else None) w.if-is_behind.true) (ap (cut items) w.best-is ∙ w.lesser-best.ensures.least);
            room = best_fits items i shared c.loop-i.best c.if-is_behind.best inv.room (c.front_at-shared.ensures.room (search (rules, w.if-is_behind.true))) one;
            begins = best_begins last items i shared c.loop-i.best c.if-is_behind.best inv.begins c.front_at-shared.ensures.shared one;
            window = window;
            reached = reached;
          }
      | else-is_behind w ↦
          record {
            same = best_least nodes last items i c.loop-i.best c.if-is_behind.best None c.loop-i-test.true inv.same (c.front_at-shared.ensures.next ∙ ap (λ b. if b then front else None) w.if-is_behind.false) (ap (cut items) w.best-is ∙ sym (least_of-none (by_tree_total nodes) (cut items c.loop-i.best)));
            room = subst (FitsIn items) (sym w.best-is) inv.room;
            begins = subst (BeginsAs nodes last items) (sym w.best-is) inv.begins;
            window = window;
            reached = reached;
          }
    ]
