use Rattle.std.proofs.Common.{◌≡◌, true, false, sym, ◌∙◌, ap, arith}
use Rattle.mau_terms.specs.View.{tree_of}
use Rattle.mau_parse.specs.Overflow.{overflows}
use Rattle.mau_parse.proofs.Overflowing.{some_at, none_more, overflow_below, argument_falls}
use Rattle.mau_parse.proofs.overflow.+overflow.Goals as goal

pub overflows-requires : goal.overflows-requires
overflows-requires t c =
    let k = argument_falls (tree_of c.args.term.now) c.in-App.op.0 c.in-App.args c.items-terms.result.now c.loop-argument.argument-index c.argument-item.result (ap tree_of c.in-App.is) c.items-terms.ensures c.loop-argument-test.true c.argument-item.is in
    (omega (arith, k), tt)

pub returns-then-overflows : goal.returns-then-overflows
returns-then-overflows t c =
    let ss = c.args.grammar.now.successors in
    let found : overflows ss (tree_of c.argument-item.result) ≡ true = sym c.overflows.ensures ∙ c.if-overflows.true in
    sym (overflow_below ss (tree_of c.args.term.now) c.in-App.op.0 c.in-App.args c.items-terms.result.now (ap tree_of c.in-App.is) c.items-terms.ensures
    (some_at ss c.items-terms.result.now c.loop-argument.argument-index c.argument-item.result c.loop-argument-test.true c.argument-item.is found))

pub loop-argument-preserved : goal.loop-argument-preserved
loop-argument-preserved t c =
    let ss = c.args.grammar.now.successors in
    let none : overflows ss (tree_of c.argument-item.result) ≡ false = sym c.overflows.ensures ∙ c.if-overflows.false in
    none_more ss c.items-terms.result.now c.loop-argument.argument-index c.argument-item.result c.loop-argument-test.true c.argument-item.is c.loop-argument.invariant none
