use Rattle.std.proofs.Common.{◌≡◌, ◌++◌, ap, ◌∙◌, refl, append_assoc}
use Rattle.mau_formula.specs.Operators.{operators}
use Rattle.mau_session.specs.Environment.{environment_of}
use Rattle.mau_session.specs.Answers.{continue_head}
use Rattle.mau_session.specs.Where.{where_lines}
use Rattle.mau_session.specs.KeptQuery.{query_of}
use Rattle.mau_session.specs.KeptState.{state_of}
use Rattle.mau_session.specs.State.{state_after, refuses}
use Rattle.mau_session.proofs.AskedBy.{where_goes_on, module_ready}
use Rattle.mau_session.proofs.such_that.list_where_on.Goals as goal

pub list_further_where-requires-clause-ready : goal.list_further_where-requires-clause-ready
list_further_where-requires-clause-ready g c = module_ready (environment_of (operators c.args.session.now.hooks.now) c.args.session.now.limit) c.args.state.now.library c.args.chosen c.module-module.result.now c.args.sorts c.args.kept c.requires.there c.module-module.ensures.there

pub returns-clause-ready : goal.returns-clause-ready
returns-clause-ready g c = c.conclude.ensures.ready (environment_of (operators c.args.session.now.hooks.now) c.args.session.now.limit) c.module-module.result.now c.requires.ready c.module-module.ensures.there c.in_ok-left.ensures.ready

pub returns-clause-gained : goal.returns-clause-gained
returns-clause-gained g c =
    let e = environment_of (operators c.args.session.now.hooks.now) c.args.session.now.limit in
    let st = state_of c.args.state.now in
    let m = c.module-module.result.now in
    let q = query_of c.args.kept.query in
    let shown = c.in_ok-left.ensures.gained in
    record {
      «module» = m;
      there = c.module-module.ensures.there;
      found = shown.found;
      ending = shown.ending;
      shows = shown.listing;
      after = c.conclude.ensures.state ∙ ap (state_after st c.args.chosen) shown.leaves;
      gained =
          shown.gained ∙ (ap (λ bytes. bytes ++ where_lines m e.budget q shown.found shown.ending) c.in_ok-write_continue_head.ensures
          ∙ append_assoc c.args.out.now.items (continue_head c.args.number m) (where_lines m e.budget q shown.found shown.ending));
      answered = c.conclude.ensures.refused ∙ (ap refuses shown.leaves ∙ where_goes_on shown.ending _ _);
    }
