use Rattle.std.proofs.Common.{◌≡◌, ◌+◌, ◌-◌, Some, take, drop, refl, sym, ◌∙◌, ap, ap₂, subst, arith}
use Rattle.std.specs.Option.{option_map}
use Rattle.mau_store.specs.View.{numbers}
use Rattle.mau_lists.specs.Lists.{IsPart}
use Rattle.mau_lists.specs.Terms.{by_tree, IsNextPart}
use Rattle.mau_lists.specs.Place.{Place, IsStep}
use Rattle.mau_lists.specs.Following.{next_part, cut}
use Rattle.mau_lists.proofs.Members.{part_cut, part-keys}
use Rattle.mau_lists.proofs.Due.{parts_step}
use Rattle.mau_lists.proofs.segments.Segments.next.Goals as goal

pub returns : goal.returns
returns c =
    let s = c.self.inside in
    let items = s.items.items in
    let nodes = c.args.store.now in
    let start = c.in-Some.start in
    let len = c.in-Some.len in
    let r = c.part_behind-self-inside.result in
    let is : s.due ≡ Some (start, len) = cc in
    let n : start + len - start ≡ len = omega arith in
    let given = take (start + len - start) (drop start c.deref-3.result.now) in
    let same : given ≡ take len (drop start items) = ap₂ (λ m l. take m (drop start l)) n c.deref-3.ensures.value in
    let second : take (start + len - start) (drop start c.deref.result.now) ≡ take len (drop start items) = ap₂ (λ m l. take m (drop start l)) n c.deref.ensures.value in
    let due : cut items s.due ≡ Some (take len (drop start items)) = ap (cut items) is in
    let found : next_part (by_tree nodes) (take len (drop start items)) items ≡ cut items r =
    ap₂ (next_part (by_tree nodes)) (sym second) (sym c.deref-2.ensures.value) ∙ c.part_behind-self-inside.ensures.next ∙ ap (λ l. cut l r) c.deref-2.ensures.value in
    let new : Place = record { items = numbers items; due = option_map numbers (cut items r) } in
    let old : numbers items ≡ c.args.self.now.items = ap (λ p. p.items) c.self.view_is in (
      (refl, λ _. tt, subst (λ p. IsStep (IsNextPart nodes) p new) c.self.view_is (parts_step nodes items (take len (drop start items)) s.due r due found)),
      record {
        step = tt;
        value = sym (ap (λ p. p.due) c.self.view_is) ∙ ap (λ o. option_map numbers o) due ∙ ap (λ l. Some (numbers l)) (sym same);
        part = subst (IsPart (numbers given)) old (subst (λ l. IsPart (numbers l) (numbers items)) (sym same) (part-keys (λ id. id.0) (take len (drop start items)) items (part_cut start len items)));
        none = tt;
      },
    )
