use Rattle.mau_formula.specs.Operators.{operators}
use Rattle.mau_session.specs.Environment.{environment_of}
use Rattle.mau_session.proofs.answer.answer_all.Goals as goal

pub answer_each-requires-clause-ready : goal.answer_each-requires-clause-ready
answer_each-requires-clause-ready g c = c.in_ok-state.ensures.ready (environment_of (operators c.args.session.now.hooks.now) c.args.session.now.limit)
