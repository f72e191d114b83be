use Rattle.std.proofs.Common.{None}
use Rattle.mau_session.proofs.Fresh.{fresh_over}
use Rattle.mau_session.proofs.query.Query.new.Goals as goal

pub returns-clause-query : goal.returns-clause-query
returns-clause-query c =
    let e = c.in_ok-number.ensures in
    fresh_over c.args.sig.now c.is_lawful.ensures
    (record { with_context = c.args.with_context; pattern = c.args.pattern; subject = c.args.subject; vars = c.args.vars; store = c.build_bare.new.store; number = c.in_ok-number.number; last = None; shown = 0 })
    c.requires.pattern c.requires.subject e.within e.ok c.requires.numbered c.requires.few c.requires.small
