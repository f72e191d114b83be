use Rattle.std.proofs.Common.{◌≡◌, ◌++◌, length, take, drop, IfSome, refl, sym, ◌∙◌, ap, subst, arith}
use Rattle.std.specs.Option.{option_map}
use Rattle.mau_store.specs.View.{numbers}
use Rattle.mau_lists.specs.Lists.{IsSubList}
use Rattle.mau_lists.specs.Terms.{by_tree, AreSorted, IsNextSubList}
use Rattle.mau_lists.specs.Following.{next_sub_list}
use Rattle.mau_lists.specs.Place.{front_of, IsWithin}
use Rattle.mau_lists.proofs.Buffers.{filled, holds_room}
use Rattle.mau_lists.proofs.Due.{next_sub_list_due}
use Rattle.mau_lists.proofs.sub_lists.SubLists.after.Goals as goal

pub invariant_of-self : goal.invariant_of-self
invariant_of-self c =
    let s = c.self.inside in
    let v = c.self.invariant in
    let e = c.put_behind-self-inside.ensures in
    let old : length s.due.items ≡ s.due.len = omega (arith, s.due.ok.0) in
    let new : length c.put_behind-self-inside.new.due ≡ s.due.len = omega (arith, e.len, c.deref_mut.ensures.len) in
    let wide : length c.put_behind-self-inside.new.due ≡ length s.items.items = omega (arith, new, old, v.due_room) in
    let value = c.deref.ensures.value in
    holds_room s.items.items s.given.items (take s.due.len (c.put_behind-self-inside.new.due ++ drop (length c.put_behind-self-inside.new.due) s.due.items)) c.put_behind-self-inside.new.due s.due.items s.due.len c.put_behind-self-inside.result
    (next_sub_list (by_tree c.args.store.now) c.args.list.now s.items.items)
    v.given_room wide old new
    (subst (λ l. IsWithin c.put_behind-self-inside.result (length l)) value e.room)
    (e.due ∙ ap (next_sub_list (by_tree c.args.store.now) c.args.list.now) value)
    (subst (λ l. IfSome (next_sub_list (by_tree c.args.store.now) c.args.list.now l) (λ t. IsSubList t l)) value e.part)
    refl

pub returns-clause-due : goal.returns-clause-due
returns-clause-due c =
    let s = c.self.inside in
    let v = c.self.invariant in
    let e = c.put_behind-self-inside.ensures in
    let nodes = c.args.store.now in
    let old : length s.due.items ≡ s.due.len = omega (arith, s.due.ok.0) in
    let new : length c.put_behind-self-inside.new.due ≡ s.due.len = omega (arith, e.len, c.deref_mut.ensures.len) in
    let buffer = take s.due.len (c.put_behind-self-inside.new.due ++ drop (length c.put_behind-self-inside.new.due) s.due.items) in
    let items : numbers s.items.items ≡ c.args.self.now.items = ap (λ p. p.items) c.self.view_is in
    let due : front_of c.put_behind-self-inside.result buffer ≡ next_sub_list (by_tree nodes) c.args.list.now s.items.items =
    ap (front_of c.put_behind-self-inside.result) (filled s.due.len c.put_behind-self-inside.new.due s.due.items new old)
    ∙ e.due
    ∙ ap (next_sub_list (by_tree nodes) c.args.list.now) c.deref.ensures.value in
    subst (λ is. IsNextSubList nodes is (numbers c.args.list.now) (option_map numbers (front_of c.put_behind-self-inside.result buffer))) items
    (next_sub_list_due nodes s.items.items c.args.list.now (front_of c.put_behind-self-inside.result buffer) (subst (AreSorted nodes) (sym items) c.requires.sorted) due)
