use Rattle.std.proofs.Common.{◌≡◌, true, false, sym, ◌∙◌, subst}
use Rattle.mau_formula.specs.Operators.{operators}
use Rattle.mau_session.specs.Environment.{environment_of}
use Rattle.mau_session.specs.KeptState.{state_of, outcome_of}
use Rattle.mau_session.specs.State.{state_after}
use Rattle.mau_session.specs.Transcript.{ReduceAnswer, reduce_answered}
use Rattle.mau_session.proofs.Answering.{refused_with}
use Rattle.mau_session.proofs.reduce.reduce_chosen.Goals as goal

pub returns-clause-gained : goal.returns-clause-gained
returns-clause-gained g c =
    let e = environment_of (operators c.args.session.now.hooks.now) c.args.session.now.limit in
    let ws = c.args.session.now.words.now in
    let st = state_of c.args.state.now in
    let left = outcome_of c.in_ok-left.left in
    let g = c.in_ok-left.ensures.gained in
    record {
      bytes = g.bytes;
      answer = subst (λ s. ReduceAnswer e ws st c.args.number c.args.command.now s g.bytes c.conclude.result) (sym c.conclude.ensures.state)
          (subst (λ b. ReduceAnswer e ws st c.args.number c.args.command.now (state_after st c.args.chosen left) g.bytes b) (sym c.conclude.ensures.refused)
          (reduce_answered c.args.chosen c.module-module.result.now left g.bytes c.requires.term c.requires.chosen c.module-module.ensures.there g.answer));
      gained = g.gained;
    }

pub returns-clause-ready : goal.returns-clause-ready
returns-clause-ready g c = c.conclude.ensures.ready (environment_of (operators c.args.session.now.hooks.now) c.args.session.now.limit) c.module-module.result.now c.requires.ready c.module-module.ensures.there c.in_ok-left.ensures.ready
