use Rattle.std.proofs.Common.{◌≡◌, Some, None, sym, ◌∙◌}
use Rattle.mau_check.proofs.Naming.{named_made}
use Rattle.mau_check.proofs.named.named_by.Goals as goal

pub returns-in-None-clause-none : goal.returns-in-None-clause-none
returns-in-None-clause-none c s nodes terms before h k b = c.in-None.ensures.none s nodes terms h b.context

pub returns-in-None-kept_at-clause-none : goal.returns-in-None-kept_at-clause-none
returns-in-None-kept_at-clause-none c s nodes terms before h k b = c.in-None-kept_at.ensures.none s nodes terms h b.from

pub returns-in-None-kept_at-2-clause-none : goal.returns-in-None-kept_at-2-clause-none
returns-in-None-kept_at-2-clause-none c s nodes terms before h k b = c.in-None-kept_at-2.ensures.none s nodes terms h b.to

pub returns-in-Ok-None-clause-none : goal.returns-in-Ok-None-clause-none
returns-in-Ok-None-clause-none c s nodes terms before h k b = (rw c.in-Ok-None.field-0-is at (c.in-Ok-None.ensures.none s nodes terms h)) b.values

pub returns-in-Ok-None-said_all-clause-none : goal.returns-in-Ok-None-said_all-clause-none
returns-in-Ok-None-said_all-clause-none c s nodes terms before h k b =
    let e = rw c.in-Ok-None-said_all.field-0-is at (c.in-Ok-None-said_all.ensures.none s nodes before k) in
    let d : None ≡ Some b.uses = sym e ∙ b.at_uses in
    absurd cc

pub returns-clause-some : goal.returns-clause-some
returns-clause-some c s nodes terms before h k =
    named_made s nodes terms before (record { context = c.args.context; from = c.args.from; to = c.args.to; values = c.args.values.now; uses = c.args.uses.now })
    (record { context = c.in-Some.context; from = c.in-Some-kept_at.from; to = c.in-Some-kept_at-2.to; values = c.in-Ok-Some.values; uses = c.in-Ok-Some-said_all.uses })
    (c.in-Some.ensures.some s nodes terms h) (c.in-Some-kept_at.ensures.some s nodes terms h) (c.in-Some-kept_at-2.ensures.some s nodes terms h)
    (rw c.in-Ok-Some.field-0-is at (c.in-Ok-Some.ensures.some s nodes terms h)) (rw c.in-Ok-Some-said_all.field-0-is at (c.in-Ok-Some-said_all.ensures.some s nodes before k))
