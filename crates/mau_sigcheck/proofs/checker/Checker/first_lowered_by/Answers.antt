use Rattle.std.proofs.Common.{◌∙◌, ap}
use Rattle.mau_sigcheck.specs.Checking.{members_of}
use Rattle.mau_sigcheck.proofs.MemberLemmas.{in_kind}
use Rattle.mau_sigcheck.proofs.Identities.{first_at, none_lowered}
use Rattle.mau_sigcheck.proofs.checker.Checker.first_lowered_by.Goals as goal

pub lowers-requires-clause-x : goal.lowers-requires-clause-x
lowers-requires-clause-x c = (in_kind c.args.self.now.hierarchy c.result_kind.result c.members-x-items.result.now c.members-x-items.ensures c.loop-x.x-index c.loop-x-test.true).0

pub returns-then-lowers-clause-some : goal.returns-then-lowers-clause-some
returns-then-lowers-clause-some c =
    first_at c.args.self.now c.args.op.0 c.args.identity c.members-x-items.result.now (c.members-x-items.ensures ∙ ap (members_of c.args.self.now.hierarchy) c.result_kind.ensures.value)
    c.loop-x.x-index c.loop-x-test.true c.loop-x.invariant (c.lowers.ensures.0 c.if-lowers.true)

pub returns-clause-none : goal.returns-clause-none
returns-clause-none c =
    none_lowered c.args.self.now c.args.op.0 c.args.identity c.members-x-items.result.now (c.members-x-items.ensures ∙ ap (members_of c.args.self.now.hierarchy) c.result_kind.ensures.value)
    c.loop-x.x-index c.loop-x-test.false c.loop-x.invariant
