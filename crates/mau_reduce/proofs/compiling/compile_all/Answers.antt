use Rattle.std.proofs.Common.{◌<◌, ◌+◌, length, take, sym, subst}
use Rattle.mau_program.specs.declared.statements.Equation as Written
use Rattle.mau_trial.specs.Tried.{HoldsAtEach}
use Rattle.mau_reduce.specs.Compiled.{IsCompiledEquation}
use Rattle.mau_reduce.proofs.CompiledAt.{each_push, each_whole}
use Rattle.mau_reduce.proofs.FreeMatches.{left_bare}
use Rattle.mau_reduce.proofs.Numbered.{at_index}
use Rattle.mau_reduce.proofs.compiling.compile_all.Goals as goal

pub compile-requires : goal.compile-requires
compile-requires c =
    let p = c.args.program.now in
    let e = c.equation-item.result in
    left_bare p c.requires c.loop-equation.equation-index e
    (at_index p.equations c.items-equations.result.now c.loop-equation.equation-index e c.items-equations.ensures (subst (λ xs. c.loop-equation.equation-index < length xs) c.items-equations.ensures c.loop-equation-test.true) c.equation-item.is)

pub loop-equation-preserved : goal.loop-equation-preserved
loop-equation-preserved c =
    let R = IsCompiledEquation c.args.program.now.sig in
    let e = c.equation-item.result in
    subst (λ ys. HoldsAtEach R (take (c.loop-equation.equation-index + 1) c.items-equations.result.now) ys) (sym c.in_ok-push.ensures.items)
    (each_push R c.items-equations.result.now c.loop-equation.found.items c.loop-equation.equation-index e c.in_ok-compile.field-0 c.loop-equation-test.true c.loop-equation.invariant
    (subst (λ (d : Written.Equation). R d c.in_ok-compile.field-0) c.equation-item.is c.in_ok-compile.ensures))

pub returns : goal.returns
returns c =
    let R = IsCompiledEquation c.args.program.now.sig in
    subst (λ es. HoldsAtEach R es c.loop-equation.found.items) c.items-equations.ensures
    (each_whole R c.items-equations.result.now c.loop-equation.found.items c.loop-equation.equation-index c.loop-equation-test.false c.loop-equation.invariant)
