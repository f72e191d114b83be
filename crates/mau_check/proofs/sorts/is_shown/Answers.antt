use Rattle.std.proofs.Common.{[], refl}
use Rattle.mau_store.specs.Trees.{tree_at}
use Rattle.mau_check.proofs.Tells.{sort_more}
use Rattle.mau_check.proofs.sorts.is_shown.Goals as goal

pub returns-then-plainly-clause-shown : goal.returns-then-plainly-clause-shown
returns-then-plainly-clause-shown c t us h =
    sort_more c.args.sig.now us (tree_at c.args.store.now c.args.id.0) c.args.sort ((c.in_ok-plainly.ensures.has [] refl).0 c.if-plainly.true)
