use Rattle.std.proofs.Common.{◌≡◌, sym, ap, subst}
use Rattle.std.specs.Option.{option_map}
use Rattle.mau_store.specs.View.{numbers}
use Rattle.mau_lists.specs.Terms.{by_tree, IsNextPart}
use Rattle.mau_lists.specs.Following.{next_part, cut}
use Rattle.mau_lists.proofs.Due.{next_part_due}
use Rattle.mau_lists.proofs.segments.Segments.after.Goals as goal

pub returns-clause-due : goal.returns-clause-due
returns-clause-due c =
    let s = c.self.inside in
    let nodes = c.args.store.now in
    let r = c.part_behind-self-inside.result in
    let found : next_part (by_tree nodes) c.args.list.now s.items.items ≡ cut s.items.items r = subst (λ l. next_part (by_tree nodes) c.args.list.now l ≡ cut l r) c.deref.ensures.value c.part_behind-self-inside.ensures.next in
    subst (λ is. IsNextPart nodes is (numbers c.args.list.now) (option_map numbers (cut s.items.items r))) (ap (λ p. p.items) c.self.view_is)
    (next_part_due nodes s.items.items c.args.list.now (cut s.items.items r) (sym found))
