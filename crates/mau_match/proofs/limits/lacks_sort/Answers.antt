use Rattle.std.proofs.Common.{◌≡◌, Bool, true, false, not, refl, sym, subst}
use Rattle.mau_sorts.specs.HasSort.{HasSort}
use Rattle.mau_sorts.specs.Table.{entry_at}
use Rattle.mau_sorts.specs.Derived.{set_or_none}
use Rattle.mau_sorts.proofs.Entries.{settled_entry}
use Rattle.mau_store.specs.Trees.{tree_at}
use Rattle.mau_match.proofs.limits.lacks_sort.Goals as goal

no_true : (b : Bool) → not b ≡ true → b ≡ true → ⊥
no_true true e k = cc
no_true false e k = cc

pub returns-in-Some : goal.returns-in-Some
returns-in-Some c = λ no known table has.
    let o = entry_at c.args.sorts.now c.args.id.0 in
    let at = settled_entry o c.in-Some.ensures.some in
    let here : HasSort c.args.sig.now known (tree_at c.args.store.now c.args.id.0) c.args.sort = subst (λ w. HasSort c.args.sig.now known w c.args.sort) (sym (c.if-not-is_unit.ensures refl)) has in
    no_true c.in-Some.has no ((c.in-Some.ensures.value (set_or_none o) at).1 (((table.entries c.args.id.0 (set_or_none o) at).1.exact c.args.sort).1 here))
