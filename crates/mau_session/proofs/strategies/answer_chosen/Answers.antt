use Rattle.std.proofs.Common.{◌≡◌, true, false, sym, ◌∙◌, subst}
use Rattle.mau_formula.specs.Operators.{operators}
use Rattle.mau_session.specs.Environment.{environment_of}
use Rattle.mau_session.specs.KeptState.{state_of, outcome_of}
use Rattle.mau_session.specs.State.{state_after}
use Rattle.mau_session.specs.StrategyAnswer.{StrategyAnswer, strategy_not_built, strategy_unbounded, strategy_answered}
use Rattle.mau_session.proofs.Answering.{refused_with}
use Rattle.mau_session.proofs.strategies.answer_chosen.Goals as goal

pub returns-in-Some-clause-gained : goal.returns-in-Some-clause-gained
returns-in-Some-clause-gained g c =
    refused_with _ c.refuse.result c.refuse.ensures.bytes c.refuse.ensures.refused
    (λ g. record {
      bytes = _;
      answer = strategy_not_built c.args.chosen c.module-module.result.now c.in-Some.field-0 c.requires.built c.requires.chosen c.module-module.ensures.there
          (sym c.rewriting_condition.ensures ∙ c.in-Some.is);
      gained = g;
    })

pub returns-in-Err-clause-gained : goal.returns-in-Err-clause-gained
returns-in-Err-clause-gained g c =
    refused_with _ c.refuse-in-Err.result c.refuse-in-Err.ensures.bytes c.refuse-in-Err.ensures.refused
    (λ g. record {
      bytes = _;
      answer = strategy_unbounded c.args.chosen c.module-module.result.now c.in-Err.refusal c.requires.built c.requires.chosen c.module-module.ensures.there
          (sym c.rewriting_condition.ensures ∙ c.in-None.is) (sym c.bound_of.ensures ∙ c.in-Err.is);
      gained = g;
    })

pub returns-in_ok-left-in-Ok-clause-gained : goal.returns-in_ok-left-in-Ok-clause-gained
returns-in_ok-left-in-Ok-clause-gained g c =
    let e = environment_of (operators c.args.session.now.hooks.now) c.args.session.now.limit in
    let ws = c.args.session.now.words.now in
    let st = state_of c.args.state.now in
    let left = outcome_of c.in_ok-left-in-Ok.left in
    let g = c.in_ok-left-in-Ok.ensures.gained in
    record {
      bytes = g.bytes;
      answer = subst (λ s. StrategyAnswer e ws st c.args.number c.args.item c.args.command.now s g.bytes c.conclude.result) (sym c.conclude.ensures.state)
          (subst (λ b. StrategyAnswer e ws st c.args.number c.args.item c.args.command.now (state_after st c.args.chosen left) g.bytes b) (sym c.conclude.ensures.refused)
          (strategy_answered c.args.chosen c.module-module.result.now c.in-Ok.most left g.bytes c.requires.built c.requires.chosen c.module-module.ensures.there
          (sym c.rewriting_condition.ensures ∙ c.in-None.is) (sym c.bound_of.ensures ∙ c.in-Ok.is) g.answer));
      gained = g.gained;
    }

pub returns-in_ok-left-in-Ok-clause-ready : goal.returns-in_ok-left-in-Ok-clause-ready
returns-in_ok-left-in-Ok-clause-ready g c =
    c.conclude.ensures.ready (environment_of (operators c.args.session.now.hooks.now) c.args.session.now.limit) c.module-module.result.now c.requires.ready c.module-module.ensures.there c.in_ok-left-in-Ok.ensures.ready
