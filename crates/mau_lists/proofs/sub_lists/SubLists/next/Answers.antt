use Rattle.std.proofs.Common.{◌≡◌, ◌<◌, ◌++◌, length, take, drop, Some, IfSome, refl, sym, ◌∙◌, ap, ap₂, subst, arith}
use Rattle.std.specs.Option.{option_map}
use Rattle.mau_store.specs.Node.{AreOf}
use Rattle.mau_store.specs.View.{numbers}
use Rattle.mau_lists.specs.Lists.{IsSubList}
use Rattle.mau_lists.specs.Terms.{by_tree, AreSorted, IsNextSubList}
use Rattle.mau_lists.specs.Following.{next_sub_list}
use Rattle.mau_lists.specs.Place.{Place, front_of, IsStep, IsWithin}
use Rattle.mau_lists.proofs.Buffers.{filled, copied, holds_room}
use Rattle.mau_lists.proofs.Members.{sub_All, sub-keys}
use Rattle.mau_lists.proofs.Due.{sub_lists_step}
use Rattle.mau_lists.proofs.sub_lists.SubLists.next.Goals as goal

pub put_behind-self-inside-requires-clause-list : goal.put_behind-self-inside-requires-clause-list
put_behind-self-inside-requires-clause-list c =
    let s = c.self.inside in
    let v = c.self.invariant in
    let len = c.in-Some.len in
    let old : length s.given.items ≡ s.given.len = omega (arith, s.given.ok.0) in
    let new : length c.copy_front.new.to ≡ s.given.len = omega (arith, c.copy_front.ensures.len, c.deref_mut.ensures.len) in
    let given : take len c.deref-3.result.now ≡ take len s.due.items =
    copied s.given.len len c.deref-3.result.now c.copy_front.new.to s.given.items c.deref.result.now c.deref-3.ensures.value new old c.copy_front.ensures.front ∙ ap (take len) c.deref.ensures.value in
    let part : IsSubList (take len s.due.items) s.items.items = subst (λ o. IfSome (front_of o s.due.items) (λ l. IsSubList l s.items.items)) c.in-Some.is v.part in
    let items : numbers s.items.items ≡ c.args.self.now.items = ap (λ p. p.items) c.self.view_is in
    let all : AreOf c.args.store.now (numbers (take len s.due.items)) =
    sub_All (λ i. i < length c.args.store.now) (numbers (take len s.due.items)) (numbers s.items.items) (sub-keys (λ id. id.0) (take len s.due.items) s.items.items part) (subst (AreOf c.args.store.now) (sym items) c.requires.items) in
    subst (λ l. AreOf c.args.store.now (numbers l)) (sym given) all

pub invariant_of-self-2 : goal.invariant_of-self-2
invariant_of-self-2 c =
    let s = c.self.inside in
    let v = c.self.invariant in
    let e = c.put_behind-self-inside.ensures in
    let cmp = by_tree c.args.store.now in
    let list = take c.in-Some.len c.deref-3.result.now in
    let old : length s.due.items ≡ s.due.len = omega (arith, s.due.ok.0) in
    let new : length c.put_behind-self-inside.new.due ≡ s.due.len = omega (arith, e.len, c.deref_mut-2.ensures.len) in
    let wide : length c.put_behind-self-inside.new.due ≡ length s.items.items = omega (arith, new, old, v.due_room) in
    let old_given : length s.given.items ≡ s.given.len = omega (arith, s.given.ok.0) in
    let new_given : length c.copy_front.new.to ≡ s.given.len = omega (arith, c.copy_front.ensures.len, c.deref_mut.ensures.len) in
    let room : length (take s.given.len (c.copy_front.new.to ++ drop (length c.copy_front.new.to) s.given.items)) ≡ length s.items.items =
    ap length (filled s.given.len c.copy_front.new.to s.given.items new_given old_given) ∙ omega (arith, new_given, old_given, v.given_room) in
    let value = c.deref-2.ensures.value in
    holds_room s.items.items (take s.given.len (c.copy_front.new.to ++ drop (length c.copy_front.new.to) s.given.items))
    (take s.due.len (c.put_behind-self-inside.new.due ++ drop (length c.put_behind-self-inside.new.due) s.due.items)) c.put_behind-self-inside.new.due s.due.items s.due.len c.put_behind-self-inside.result
    (next_sub_list cmp list s.items.items)
    room wide old new
    (subst (λ l. IsWithin c.put_behind-self-inside.result (length l)) value e.room)
    (e.due ∙ ap (next_sub_list cmp list) value)
    (subst (λ l. IfSome (next_sub_list cmp list l) (λ t. IsSubList t l)) value e.part)
    refl

pub returns : goal.returns
returns c =
    let s = c.self.inside in
    let v = c.self.invariant in
    let e = c.put_behind-self-inside.ensures in
    let nodes = c.args.store.now in
    let len = c.in-Some.len in
    let is : s.due_len ≡ Some len = c.in-Some.is in
    let old : length s.given.items ≡ s.given.len = omega (arith, s.given.ok.0) in
    let new : length c.copy_front.new.to ≡ s.given.len = omega (arith, c.copy_front.ensures.len, c.deref_mut.ensures.len) in
    let front : take len c.deref.result.now ≡ take len s.due.items = ap (take len) c.deref.ensures.value in
    let third : take len c.deref-3.result.now ≡ take len s.due.items =
    copied s.given.len len c.deref-3.result.now c.copy_front.new.to s.given.items c.deref.result.now c.deref-3.ensures.value new old c.copy_front.ensures.front ∙ front in
    let given : take len c.deref-4.result.now ≡ take len s.due.items =
    copied s.given.len len c.deref-4.result.now c.copy_front.new.to s.given.items c.deref.result.now c.deref-4.ensures.value new old c.copy_front.ensures.front ∙ front in
    let items : numbers s.items.items ≡ c.args.self.now.items = ap (λ p. p.items) c.self.view_is in
    let old_due : length s.due.items ≡ s.due.len = omega (arith, s.due.ok.0) in
    let new_due : length c.put_behind-self-inside.new.due ≡ s.due.len = omega (arith, e.len, c.deref_mut-2.ensures.len) in
    let buffer = take s.due.len (c.put_behind-self-inside.new.due ++ drop (length c.put_behind-self-inside.new.due) s.due.items) in
    let found : front_of c.put_behind-self-inside.result buffer ≡ next_sub_list (by_tree nodes) (take len s.due.items) s.items.items =
    ap (front_of c.put_behind-self-inside.result) (filled s.due.len c.put_behind-self-inside.new.due s.due.items new_due old_due)
    ∙ e.due
    ∙ ap₂ (next_sub_list (by_tree nodes)) third c.deref-2.ensures.value in
    let due : front_of s.due_len s.due.items ≡ Some (take len s.due.items) = ap (λ o. front_of o s.due.items) is in
    let part : IsSubList (take len s.due.items) s.items.items = subst (λ o. IfSome (front_of o s.due.items) (λ l. IsSubList l s.items.items)) is v.part in
    let next : Place = record { items = numbers s.items.items; due = option_map numbers (front_of c.put_behind-self-inside.result buffer) } in (
      (refl, λ _. tt, subst (λ p. IsStep (IsNextSubList nodes) p next) c.self.view_is (sub_lists_step nodes s.items.items (take len s.due.items) (front_of s.due_len s.due.items) (front_of c.put_behind-self-inside.result buffer) (subst (AreSorted nodes) (sym items) c.requires.sorted) due found)),
      record {
        step = tt;
        value = sym (ap (λ p. p.due) c.self.view_is) ∙ ap (λ o. option_map numbers o) due ∙ ap (λ l. Some (numbers l)) (sym given);
        part = subst (IsSubList (numbers (take len c.deref-4.result.now))) items (subst (λ l. IsSubList (numbers l) (numbers s.items.items)) (sym given) (sub-keys (λ id. id.0) (take len s.due.items) s.items.items part));
        none = tt;
      },
    )
