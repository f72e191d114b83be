use Rattle.std.proofs.Common.{sym, ◌∙◌}
use Rattle.mau_check.proofs.Tells.{none_known}
use Rattle.mau_check.proofs.sorts.told_by.Goals as goal

pub returns-then-not-tell_sorts-clause-told : goal.returns-then-not-tell_sorts-clause-told
returns-then-not-tell_sorts-clause-told c us h = none_known c.args.sig.now c.args.store.now c.args.uses.now us h (sym c.tell_sorts.ensures ∙ c.if-not-tell_sorts.true)
