use Rattle.std.proofs.Common.{sym, ◌∙◌, subst}
use Rattle.mau_formula.specs.Operators.{operators}
use Rattle.mau_session.specs.Environment.{environment_of}
use Rattle.mau_session.specs.KeptState.{state_of, outcome_of}
use Rattle.mau_session.specs.State.{state_after}
use Rattle.mau_session.specs.Gains.{ChosenAnswer, chosen_refused, chosen_answered}
use Rattle.mau_session.proofs.Answering.{refused_with}
use Rattle.mau_session.proofs.answer.answer_chosen.Goals as goal

pub returns-in-Err-clause-gained : goal.returns-in-Err-clause-gained
returns-in-Err-clause-gained g c =
    refused_with _ c.refuse.result c.refuse.ensures.bytes c.refuse.ensures.refused
    (λ g. record {
      bytes = _;
      answer = chosen_refused c.module-module.result.now c.in-Err.refusal c.module-module.ensures.there (sym c.bound_of.ensures ∙ c.in-Err.is);
      gained = g;
    })

pub returns-in_ok-left-in-Ok-clause-gained : goal.returns-in_ok-left-in-Ok-clause-gained
returns-in_ok-left-in-Ok-clause-gained g c =
    let e = environment_of (operators c.args.session.now.hooks.now) c.args.session.now.limit in
    let ws = c.args.session.now.words.now in
    let st = state_of c.args.state.now in
    let left = outcome_of c.in_ok-left-in-Ok.left in
    let g = c.in_ok-left-in-Ok.ensures.gained in
    record {
      bytes = g.bytes;
      answer = subst (λ s. ChosenAnswer e ws st c.args.number c.args.command.now c.args.chosen s g.bytes c.conclude.result) (sym c.conclude.ensures.state)
          (subst (λ b. ChosenAnswer e ws st c.args.number c.args.command.now c.args.chosen (state_after st c.args.chosen left) g.bytes b) (sym c.conclude.ensures.refused)
          (chosen_answered c.module-module.result.now c.in-Ok.most left g.bytes c.module-module.ensures.there (sym c.bound_of.ensures ∙ c.in-Ok.is) g.answer));
      gained = g.gained;
    }

pub returns-in_ok-left-in-Ok-clause-ready : goal.returns-in_ok-left-in-Ok-clause-ready
returns-in_ok-left-in-Ok-clause-ready g c =
    c.conclude.ensures.ready (environment_of (operators c.args.session.now.hooks.now) c.args.session.now.limit) c.module-module.result.now c.requires.ready c.module-module.ensures.there c.in_ok-left-in-Ok.ensures.ready
