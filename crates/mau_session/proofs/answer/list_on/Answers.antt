use Rattle.std.proofs.Common.{◌≡◌, Some, sym, ap, ◌∙◌, subst}
use Rattle.mau_formula.specs.Operators.{operators}
use Rattle.mau_module.specs.Modules.{ModuleOf}
use Rattle.mau_session.specs.Environment.{environment_of}
use Rattle.mau_session.specs.KeptQuery.{query_of, IsReadyKept}
use Rattle.mau_session.specs.KeptState.{state_of, outcome_of}
use Rattle.mau_session.proofs.Answering.{gains_on}
use Rattle.mau_session.proofs.answer.list_on.Goals as goal

pub list_further-requires-clause-ready : goal.list_further-requires-clause-ready
list_further-requires-clause-ready g c =
    let both : Some c.requires.there.0 ≡ Some c.module-module.result.now = sym c.requires.there.1 ∙ c.module-module.ensures.there in
    let same : c.requires.there.0 ≡ c.module-module.result.now = cc in
    subst (λ (m : ModuleOf). IsReadyKept (environment_of (operators c.args.session.now.hooks.now) c.args.session.now.limit) m c.args.sorts c.args.query) same c.requires.there.2

pub returns-clause-ready : goal.returns-clause-ready
returns-clause-ready g c = c.conclude.ensures.ready (environment_of (operators c.args.session.now.hooks.now) c.args.session.now.limit) c.module-module.result.now c.requires.ready c.module-module.ensures.there c.in_ok-left.ensures.ready

pub returns-clause-gained : goal.returns-clause-gained
returns-clause-gained g c =
    let e = environment_of (operators c.args.session.now.hooks.now) c.args.session.now.limit in
    let st = state_of c.args.state.now in
    gains_on e st c.args.number c.args.chosen (query_of c.args.query) c.args.most c.module-module.result.now c.module-module.ensures.there (outcome_of c.in_ok-left.left) (state_of c.conclude.new.self) c.args.out.now.items
    c.write_continue_head.new.out.items c.list_further.new.out.items c.conclude.result c.in_ok-write_continue_head.ensures c.in_ok-left.ensures.gained c.conclude.ensures.state c.conclude.ensures.refused
