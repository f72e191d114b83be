use Rattle.std.proofs.Common.{sym, subst}
use Rattle.mau_prove.specs.Making.{Stand}
use Rattle.mau_prove.proofs.walk.go_on.Goals as goal

pub returns-in_ok-push-in-Left : goal.returns-in_ok-push-in-Left
returns-in_ok-push-in-Left c = subst (Stand c.args.program.now.sig) (sym c.leave.ensures) c.in_ok-end_round-in-Left.ensures
