use Rattle.std.proofs.Common.{sym, subst}
use Rattle.mau_prove.specs.Making.{AreSomeKept}
use Rattle.mau_prove.proofs.Standing.{some_more}
use Rattle.mau_prove.proofs.lines.keep.Goals as goal

pub returns : goal.returns
returns c = λ s h one.
    let l = c.args.lines.now in
    subst (AreSomeKept s l.store) (sym c.in_ok-push-2.ensures.items) (some_more s l.store l.kept.items c.args.kept h one)
