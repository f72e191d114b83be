use Rattle.std.proofs.lemmas.Result.{IfOk-weaker}
use Rattle.mau_formula.specs.Operators.{operators}
use Rattle.mau_session.specs.Environment.{environment_of}
use Rattle.mau_session.specs.KeptState.{state_of}
use Rattle.mau_session.proofs.Answering.{item_says, item_fails}
use Rattle.mau_session.proofs.answer.answer_item.Goals as goal

pub returns-in-Ok-clause-gained : goal.returns-in-Ok-clause-gained
returns-in-Ok-clause-gained g c =
    IfOk-weaker c.answer_body.result _ _ (λ r g. item_says (environment_of (operators c.args.session.now.hooks.now) c.args.session.now.limit) c.args.session.now.words.now (state_of c.args.state.now) c.args.number c.args.item.now c.index_at-word.result c.index_at-word.ensures.index _ _ _ _ r c.in-Ok.is g) c.answer_body.ensures.gained

pub returns-in_ok-write_text_fault-in-Err-clause-gained : goal.returns-in_ok-write_text_fault-in-Err-clause-gained
returns-in_ok-write_text_fault-in-Err-clause-gained g c =
    item_fails (environment_of (operators c.args.session.now.hooks.now) c.args.session.now.limit) c.args.session.now.words.now (state_of c.args.state.now) c.args.number c.args.item.now c.index_at-word.result c.index_at-word.ensures.index _ _ _ c.in-Err.is c.in_ok-write_text_fault-in-Err.ensures
