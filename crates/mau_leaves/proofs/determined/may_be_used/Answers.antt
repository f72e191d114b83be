use Rattle.mau_leaves.proofs.NotDetermined.{may_not}
use Rattle.mau_leaves.proofs.determined.may_be_used.Goals as goal

pub returns-then-not-branch : goal.returns-then-not-branch
returns-then-not-branch c = λ e.
    may_not c.args.rule.now c.in-Some.variable c.in-Some.ensures.given.1 (c.in_ok-is_determined.ensures c.if-not-branch.true) c.if-rule.false
