use Rattle.std.proofs.Common.{◌<◌, Contains, sym, subst, arith}
use Rattle.mau_poset.specs.Order.{IsAtOrBelow}
use Rattle.mau_match.proofs.single.is_never_declared.Goals as goal

pub returns-clause-never : goal.returns-clause-never
returns-clause-never c = λ r d among below.
    let there = subst (λ ds. Contains ds d) (sym c.declarations-decls.ensures.value) among in
    let past : there.0 < c.loop-decl.decl-index = omega (arith, there.1, c.loop-decl-test.false) in
    c.loop-decl.invariant there.0 d past (subst (λ w. IsAtOrBelow c.args.sig.now.hierarchy w.result c.args.sort) (sym there.2) below)
