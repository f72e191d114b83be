use Rattle.std.proofs.Common.{arith}
use Rattle.mau_reducer.proofs.BuiltIns.{none_yet, one_more, all_found}
use Rattle.mau_reducer.proofs.reducer.built_ins_of.Goals as goal

pub loop-number-init : goal.loop-number-init
loop-number-init c = λ hooks. none_yet c.args.program.now.sig hooks c.new-found.result.items c.new-found.ensures.items

pub loop-number-preserved : goal.loop-number-preserved
loop-number-preserved c = λ hooks.
    one_more c.args.program.now.sig hooks c.loop-number.found.items c.push.new.self.items c.loop-number.number c.in_ok-built_in_of.field-0 c.in_ok-push.ensures.items (c.in_ok-built_in_of.ensures hooks) (c.loop-number.invariant hooks)

pub returns-clause-found : goal.returns-clause-found
returns-clause-found c = λ hooks. all_found c.args.program.now.sig hooks c.loop-number.found.items c.loop-number.number (omega arith) (c.loop-number.invariant hooks)
