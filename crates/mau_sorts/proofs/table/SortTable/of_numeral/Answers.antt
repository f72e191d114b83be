use Rattle.std.proofs.Common.{subst}
use Rattle.mau_sorts.specs.SortSets.{AreApart}
use Rattle.mau_sorts.proofs.Entries.{numeral_set}
use Rattle.mau_sorts.proofs.table.SortTable.of_numeral.Goals as goal

pub returns-clause-exact : goal.returns-clause-exact
returns-clause-exact c r =
    numeral_set c.args.sig.now c.poset.result.now c.in_ok-set.set c.args.value c.sort_of_numeral.result c.poset.ensures.value c.sort_of_numeral.ensures.value c.in_ok-set.ensures.exact r

pub returns-clause-apart : goal.returns-clause-apart
returns-clause-apart c = subst (λ h. AreApart h c.in_ok-set.set.minimal) c.poset.ensures.value c.in_ok-set.ensures.apart
