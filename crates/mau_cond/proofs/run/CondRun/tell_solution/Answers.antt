use Rattle.std.proofs.Common.{All, sym, subst}
use Rattle.std.specs.Prelude.{IfSome}
use Rattle.mau_api.specs.Answers.{IsValueOf}
use Rattle.mau_cond.proofs.run.CondRun.tell_solution.Goals as goal

pub returns-in-Some-clause-known : goal.returns-in-Some-clause-known
returns-in-Some-clause-known c = λ s nodes table h k.
    c.tell_some.ensures.known s nodes table h
    (subst (All (IsValueOf s nodes table)) (sym c.deref.ensures.value) (subst (λ o. IfSome o (λ told. All (IsValueOf s nodes table) told.items)) c.in-Some.is k))

pub returns-in-None-clause-known : goal.returns-in-None-clause-known
returns-in-None-clause-known c = λ s nodes table h k. c.tell_none.ensures.known s nodes table h
