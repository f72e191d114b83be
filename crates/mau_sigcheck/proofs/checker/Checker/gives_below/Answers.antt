use Rattle.std.proofs.Common.{◌≡◌, true, false}
use Rattle.mau_sigcheck.proofs.Identities.{below_exactly}
use Rattle.mau_sigcheck.proofs.checker.Checker.gives_below.Goals as goal

pub returns-in-Some : goal.returns-in-Some
returns-in-Some c =
    below_exactly c.args.self.now c.args.op.0 c.args.sorts.now c.args.x c.in-Some.lower c.is_strictly_below.result c.in-Some.ensures.value c.in-Some.ensures.one c.is_strictly_below.ensures

pub returns-in-None : goal.returns-in-None
returns-in-None c = (λ (e : false ≡ true). cc, λ w. let e = c.in-None.ensures.one w.lower w.given in cc)
