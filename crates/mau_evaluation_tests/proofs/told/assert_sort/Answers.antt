use Rattle.std.proofs.Common.{◌≡◌, Option, Some, None, Bool, true, is_some, refl, rules}
use Rattle.mau_sorts.specs.SortSets.{SortsOf}
use Rattle.mau_sorts.specs.Table.{entry_at}
use Rattle.mau_evaluation_tests.proofs.told.assert_sort.Goals as goal

entry_of : (o : Option SortsOf) → is_some o ≡ true → (e : SortsOf) × (o ≡ Some e)
entry_of (Some e) h = (e, refl)
entry_of None h = cc

pub returns-then-has : goal.returns-then-has
returns-then-has c =
    let e = entry_of (entry_at c.args.sorts.now c.args.id.0) c.in-Some.ensures.some in
    (e.0, e.1, (c.in-Some.ensures.value e.0 e.1).0 (search rules))
