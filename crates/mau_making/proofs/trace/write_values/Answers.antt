use Rattle.std.proofs.Common.{◌++◌, length, arith}
use Rattle.mau_store.proofs.Arguments.{id_below}
use Rattle.mau_making.proofs.Valued.{lines, one_line, all_lines}
use Rattle.mau_making.proofs.trace.write_values.Goals as goal

pub write_value-requires-clause-value : goal.write_value-requires-clause-value
write_value-requires-clause-value c =
    id_below (length c.args.store.now) c.args.values.now c.loop-i.i (record { 0 = 0 }) (omega (arith, c.min-count.ensures, c.loop-i-test.true)) c.requires.values

pub loop-i-preserved : goal.loop-i-preserved
loop-i-preserved c =
    let m = c.args.«module».now in
    let all = c.args.out.now.items ++ lines m c.args.own.now c.args.vars.now c.args.store.now c.args.variables.now c.args.values.now in
    one_line m c.args.own.now c.args.vars.now c.args.store.now c.loop-i.out.items c.write_value.new.out.items all c.args.variables.now c.args.values.now c.loop-i.i (record { index = 0; sort = 0 }) (record { 0 = 0 })
    (omega (arith, c.min-count.ensures, c.loop-i-test.true)) c.in_ok-write_value.ensures c.loop-i.invariant

pub returns : goal.returns
returns c =
    let m = c.args.«module».now in
    let all = c.args.out.now.items ++ lines m c.args.own.now c.args.vars.now c.args.store.now c.args.variables.now c.args.values.now in
    all_lines m c.args.own.now c.args.vars.now c.args.store.now c.loop-i.out.items all c.args.variables.now c.args.values.now c.loop-i.i (omega (arith, c.min-count.ensures, c.loop-i-test.false)) c.loop-i.invariant
