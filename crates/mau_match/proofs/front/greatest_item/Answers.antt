use Rattle.std.proofs.Common.{sym, subst}
use Rattle.mau_domains.specs.Stored.{IsPartOver}
use Rattle.mau_match.proofs.front.greatest_item.Goals as goal

pub greatest_with-found-requires-clause-part : goal.greatest_with-found-requires-clause-part
greatest_with-found-requires-clause-part c =
    let x = c.part-item.result in
    subst (IsPartOver c.args.sig.now c.args.store.now) (sym c.part-item.is) (c.requires.parts c.loop-part.part-index x c.loop-part-test.true)
