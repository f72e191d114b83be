use Rattle.std.proofs.Common.{◌≡◌, Some, None, sym, ◌∙◌}
use Rattle.mau_check.proofs.Naming.{bound_made}
use Rattle.mau_check.proofs.named.bound_by.Goals as goal

pub returns-in-None-clause-none : goal.returns-in-None-clause-none
returns-in-None-clause-none c s nodes terms before h k b = c.in-None.ensures.none s nodes terms h b.of_term

pub returns-in-Ok-None-clause-none : goal.returns-in-Ok-None-clause-none
returns-in-Ok-None-clause-none c s nodes terms before h k b = (rw c.in-Ok-None.field-0-is at (c.in-Ok-None.ensures.none s nodes terms h)) b.values

pub returns-in-Ok-None-said_all-clause-none : goal.returns-in-Ok-None-said_all-clause-none
returns-in-Ok-None-said_all-clause-none c s nodes terms before h k b =
    let e = rw c.in-Ok-None-said_all.field-0-is at (c.in-Ok-None-said_all.ensures.none s nodes before k) in
    let d : None ≡ Some b.told = sym e ∙ b.at_uses in
    absurd cc

pub returns-clause-some : goal.returns-clause-some
returns-clause-some c s nodes terms before h k =
    bound_made s nodes terms before c.args.term c.args.values.now c.args.uses.now (record { term = c.in-Some.term; values = c.in-Ok-Some.values; uses = c.in-Ok-Some-said_all.uses }) (c.in-Some.ensures.some s nodes terms h)
    (rw c.in-Ok-Some.field-0-is at (c.in-Ok-Some.ensures.some s nodes terms h)) (rw c.in-Ok-Some-said_all.field-0-is at (c.in-Ok-Some-said_all.ensures.some s nodes before k))
