use Rattle.std.proofs.Common.{sym, ◌∙◌}
use Rattle.mau_strattext.proofs.Leaves.{test_there, test_fault, test_open_there}
use Rattle.mau_strattext.proofs.leaf.read_test.Goals as goal

pub returns-in-Ok-clause-answer : goal.returns-in-Ok-clause-answer
returns-in-Ok-clause-answer c =
    test_there c.args.setting.now c.args.under_top c.args.place c.word.result.now c.in-Some-Some.kind c.in-Some.part c.in-Some-Some.first.now c.args.pieces.now
    c.in-Some-Some.more.now c.args.vars.now c.read_condition_of.new.vars c.in-Ok.test c.word.ensures (sym c.in-Some-Some.is-0 ∙ c.test_kind.ensures) c.in-Some.ensures
    c.in-Some-Some.ensures'.cases.0 c.in-Ok.ensures.reads

pub returns-in-Err-clause-answer : goal.returns-in-Err-clause-answer
returns-in-Err-clause-answer c =
    test_fault c.args.setting.now c.args.under_top c.args.place c.in-Some.part c.in-Some-Some.first.now c.args.pieces.now c.in-Some-Some.more.now c.args.vars.now
    c.in-Err.fault c.in-Some.ensures c.in-Some-Some.ensures'.cases.0 c.in-Err.ensures.fault

pub returns-in-Some-None-clause-answer : goal.returns-in-Some-None-clause-answer
returns-in-Some-None-clause-answer c = test_open_there c.args.setting.now c.args.place c.args.pieces.now c.args.vars.now c.in-Some-None.ensures'.cases
