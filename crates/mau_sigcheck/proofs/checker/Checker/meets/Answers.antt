use Rattle.std.proofs.Common.{sym, subst}
use Rattle.std.specs.Prelude.{◌↔◌, IsTrue, is_some}
use Rattle.mau_sigcheck.specs.Checking.{Meets}
use Rattle.mau_sigcheck.proofs.Results.{some_exactly}
use Rattle.mau_sigcheck.proofs.checker.Checker.meets.Goals as goal

pub returns-in-LeastResult : goal.returns-in-LeastResult
returns-in-LeastResult c =
    let s = c.args.self.now in
    let n = c.args.op.0 in
    let sorts = c.args.sorts.now in
    subst (λ b. IsTrue b ↔ Meets s n c.args.demand sorts) (sym c.is_some.ensures)
    (subst (λ d. IsTrue (is_some c.result_of.result) ↔ Meets s n d sorts) (sym c.in-LeastResult.is)
    (some_exactly s n sorts c.result_of.result c.result_of.ensures.value c.result_of.ensures.one))
