use Rattle.std.proofs.Common.{◌≡◌, sym, subst}
use Rattle.std.specs.Prelude.{◌↔◌, ◌⊎◌}
use Rattle.mau_sigcheck.specs.Tuples.{IsKind}
use Rattle.mau_sorts.specs.SortSets.{SortsOf, IsAbove, IsIn, AreApart}
use Rattle.mau_sorts.proofs.MinimalSorts.{IsWith, with_exact, same_apart, same_sorts}
use Rattle.mau_sorts.proofs.sort_set.SortSet.with.Goals as goal

pub returns-clause-exact : goal.returns-clause-exact
returns-clause-exact c r =
    let h = c.args.poset.now in
    let ns = c.order.new.sorts.items in
    let is : IsWith h c.args.self c.args.more.now c.add_all.new.minimal.items ns = record {
      above = λ q. subst (λ (e : SortsOf). IsAbove h c.add_all.new.minimal.items q ↔ (IsAbove h e.minimal q ⊎ IsAbove h c.args.more.now q)) c.self.view_is (c.in_ok-add_all.ensures.above q);
      same = c.order.ensures.same;
    } in
    subst (λ (e : SortsOf). (IsAbove h ns r ⊎ (e.kind ≡ r)) ↔ (IsIn h c.args.self r ⊎ IsAbove h c.args.more.now r)) (sym c.self.view_is)
    (with_exact h c.args.self c.args.more.now c.add_all.new.minimal.items ns is r)

pub returns-clause-over : goal.returns-clause-over
returns-clause-over c = record {
  minimal = same_sorts c.args.poset.now c.add_all.new.minimal.items c.order.new.sorts.items c.order.ensures.same c.in_ok-add_all.ensures.sorts;
  kind = subst (λ (e : SortsOf). IsKind c.args.poset.now e.kind) (sym c.self.view_is) c.requires.over.kind;
}

pub returns-clause-apart : goal.returns-clause-apart
returns-clause-apart c =
    same_apart c.args.poset.now c.add_all.new.minimal.items c.order.new.sorts.items c.order.ensures.same
    (c.in_ok-add_all.ensures.apart (subst (λ (e : SortsOf). AreApart c.args.poset.now e.minimal) (sym c.self.view_is) c.requires.apart))
