use Rattle.std.proofs.Common.{ap, sym, ◌∙◌, subst}
use Rattle.std.specs.Prelude.{◌↔◌, All}
use Rattle.mau_store.specs.View.{numbers}
use Rattle.mau_sorts.specs.SortSets.{IsIn, IsOver}
use Rattle.mau_sorts.specs.HasSort.{Gives}
use Rattle.mau_sorts.specs.Derived.{AllIn, sets, sets_at}
use Rattle.mau_sorts.proofs.Entries.{sets_over, over_all}
use Rattle.mau_sorts.proofs.table.SortTable.of_operator.Goals as goal

pub of_list-requires-clause-items : goal.of_list-requires-clause-items
of_list-requires-clause-items c =
    subst (All (IsOver c.args.sig.now.hierarchy)) (sym (ap sets c.deref.ensures.value ∙ c.in_ok-sets.ensures))
    (sets_over c.args.sig.now.hierarchy c.args.self.now c.requires.over (numbers c.args.args.now) c.requires.args)

pub given-requires-clause-args : goal.given-requires-clause-args
given-requires-clause-args c =
    subst (All (IsOver c.args.sig.now.hierarchy)) (sym (ap sets c.deref-2.ensures.value ∙ c.in_ok-sets.ensures))
    (sets_over c.args.sig.now.hierarchy c.args.self.now c.requires.over (numbers c.args.args.now) c.requires.args)

pub returns-clause-exact : goal.returns-clause-exact
returns-clause-exact c r =
    let s = c.args.sig.now in
    let es = sets_at c.args.self.now (numbers c.args.args.now) in
    let same = ap sets c.deref-2.ensures.value ∙ c.in_ok-sets.ensures in
    let given = subst (λ xs. IsIn s.hierarchy c.in_ok-set-2.set r ↔ Gives s c.args.op.0 (AllIn s.hierarchy xs) r) same (c.in_ok-set-2.ensures.exact r) in
    let over = over_all s c.args.op.0 es r (ap (λ h. h.assoc) (sym c.theory.ensures.value) ∙ c.if-theory.false) in
    (λ a. over.0 (given.0 a), λ a. given.1 (over.1 a))
