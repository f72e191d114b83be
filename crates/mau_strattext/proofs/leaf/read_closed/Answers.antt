use Rattle.mau_strattext.proofs.Leaves.{sorts_found, called_there, called_fault, called_otherwise}
use Rattle.mau_strattext.proofs.leaf.read_closed.Goals as goal

pub read_arguments-requires : goal.read_arguments-requires
read_arguments-requires c =
    let s = c.args.setting.now in
    sorts_found s c.word-name.result.now c.saturating_sub.result c.in-Some.decl.now s.context.signature.hierarchy c.items.result.now c.in-Some.ensures c.requires.sorts c.items.ensures

pub returns-in-Ok-call_of-clause-answer : goal.returns-in-Ok-call_of-clause-answer
returns-in-Ok-call_of-clause-answer c =
    called_there c.args.setting.now c.args.under_top c.args.place c.word-name.result.now c.word-name.ensures c.args.pieces.now c.saturating_sub.result c.saturating_sub.ensures
    c.in-Some.decl.now c.items.result.now c.args.vars.now c.read_arguments.new.vars c.in-Ok.args c.in-Ok-call_of.strategy c.in-Some.ensures c.items.ensures
    c.in-Ok.ensures.answer c.in-Ok-call_of.ensures

pub returns-in-Err-clause-answer : goal.returns-in-Err-clause-answer
returns-in-Err-clause-answer c =
    called_fault c.args.setting.now c.args.under_top c.args.place c.word-name.result.now c.word-name.ensures c.args.pieces.now c.saturating_sub.result c.saturating_sub.ensures
    c.in-Some.decl.now c.items.result.now c.args.vars.now c.in-Err.fault c.requires.closed c.in-Some.ensures c.items.ensures c.in-Err.ensures.answer

pub returns-in-None-clause-answer : goal.returns-in-None-clause-answer
returns-in-None-clause-answer c =
    called_otherwise c.args.setting.now c.args.under_top c.args.place c.word-name.result.now c.word-name.ensures c.args.pieces.now c.saturating_sub.result
    c.saturating_sub.ensures c.args.vars.now c.start.result c.requires.declared c.requires.closed c.in-None.ensures c.start.ensures
