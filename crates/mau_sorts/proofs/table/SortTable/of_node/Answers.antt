use Rattle.std.proofs.Common.{subst, sym}
use Rattle.std.specs.Prelude.{◌↔◌}
use Rattle.mau_poset.specs.Order.{IsAtOrBelow}
use Rattle.mau_store.specs.View.{node_of}
use Rattle.mau_sorts.specs.SortSets.{IsIn, AreApart}
use Rattle.mau_sorts.specs.Derived.{NodeHas}
use Rattle.mau_sorts.proofs.table.SortTable.of_node.Goals as goal

pub returns-in_ok-of_numeral-in-Num-clause-exact : goal.returns-in_ok-of_numeral-in-Num-clause-exact
returns-in_ok-of_numeral-in-Num-clause-exact c r =
    subst (λ n. IsIn c.args.sig.now.hierarchy c.in_ok-of_numeral-in-Num.field-0 r ↔ NodeHas c.args.sig.now c.args.self.now (node_of n) r) (sym c.in-Num.is) (c.in_ok-of_numeral-in-Num.ensures.exact r)

pub returns-in_ok-of_sort-in-Var-clause-exact : goal.returns-in_ok-of_sort-in-Var-clause-exact
returns-in_ok-of_sort-in-Var-clause-exact c r =
    let s = c.args.sig.now in
    let here = subst (λ h. IsIn h c.in_ok-of_sort-in-Var.field-0 r ↔ IsAtOrBelow h c.in-Var.variable.sort r) c.poset.ensures.value (c.in_ok-of_sort-in-Var.ensures.exact r) in
    subst (λ n. IsIn s.hierarchy c.in_ok-of_sort-in-Var.field-0 r ↔ NodeHas s c.args.self.now (node_of n) r) (sym c.in-Var.is) here

pub returns-in_ok-of_sort-in-Var-clause-apart : goal.returns-in_ok-of_sort-in-Var-clause-apart
returns-in_ok-of_sort-in-Var-clause-apart c = subst (λ h. AreApart h c.in_ok-of_sort-in-Var.field-0.minimal) c.poset.ensures.value c.in_ok-of_sort-in-Var.ensures.apart
