use Rattle.std.proofs.Common.{true, sym, ◌∙◌, subst}
use Rattle.mau_formula.specs.Operators.{operators}
use Rattle.mau_session.specs.Answers.{refusal_line}
use Rattle.mau_session.specs.Environment.{environment_of}
use Rattle.mau_session.specs.KeptState.{state_of}
use Rattle.mau_session.specs.StrategyAnswer.{StrategyAnswer, strategy_unplaced, strategy_unknown}
use Rattle.mau_session.proofs.Answering.{refused_with}
use Rattle.mau_session.proofs.strategies.answer_strategy.Goals as goal

pub returns-in-Some-clause-gained : goal.returns-in-Some-clause-gained
returns-in-Some-clause-gained g c =
    refused_with _ c.refuse.result c.refuse.ensures.bytes c.refuse.ensures.refused
    (λ g. record { bytes = _; answer = strategy_unplaced c.in-Some.word (sym c.in-Some.ensures.unbuilt); gained = g })

pub returns-in-Err-clause-gained : goal.returns-in-Err-clause-gained
returns-in-Err-clause-gained g c =
    let e = environment_of (operators c.args.session.now.hooks.now) c.args.session.now.limit in
    let ws = c.args.session.now.words.now in
    let st = state_of c.args.state.now in
    let u = c.in-Err.ensures.unknown in
    refused_with _ c.refuse-in-Err.result c.refuse-in-Err.ensures.bytes c.refuse-in-Err.ensures.refused
    (λ g. record {
      bytes = _;
      answer = subst (λ r. StrategyAnswer e ws st c.args.number c.args.item c.args.command.now st (refusal_line c.args.number ws r) true) (sym u.named)
          (strategy_unknown u.token (sym c.in-None.ensures.unbuilt) u.none);
      gained = g;
    })

pub answer_chosen-requires-clause-built : goal.answer_chosen-requires-clause-built
answer_chosen-requires-clause-built g c = sym c.in-None.ensures.unbuilt
