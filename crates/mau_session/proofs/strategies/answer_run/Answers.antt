use Rattle.std.proofs.Common.{◌≡◌, List, true, false, sym, ◌∙◌, ap₂}
use Rattle.std.proofs.lemmas.Result.{IfOk-weaker}
use Rattle.mau_program.specs.declared.statements.Rule.{Rule}
use Rattle.mau_program.specs.declared.definitions.StratDef.{StratDef}
use Rattle.mau_searched.specs.Searched.{is_searched}
use Rattle.mau_formula.specs.Operators.{operators}
use Rattle.mau_session.specs.Environment.{environment_of}
use Rattle.mau_session.specs.KeptState.{outcome_of}
use Rattle.mau_session.specs.StrategyAnswer.{not_searched}
use Rattle.mau_session.proofs.Strategic.{gains_strategy_term}
use Rattle.mau_session.proofs.strategies.answer_run.Goals as goal

pub returns-then-not-searched-clause-gained : goal.returns-then-not-searched-clause-gained
returns-then-not-searched-clause-gained g c = λ d read.
    let x = c.args.strategy.now in
    let same = ap₂ (λ (qs : List Rule) (ds : List StratDef). is_searched qs ds x) c.rules-rules.ensures c.strategies-definitions.ensures in
    record {
      bytes = _;
      answer = not_searched c.args.term.now x c.args.vars read (sym same ∙ (sym c.in_ok-searched.ensures ∙ c.if-not-searched.true));
      gained = c.in_ok-refuse.ensures.bytes;
    }

pub returns-clause-gained : goal.returns-clause-gained
returns-clause-gained g c = λ d read.
    let e = environment_of (operators c.args.session.now.hooks.now) c.args.session.now.limit in
    let ws = c.args.session.now.words.now in
    let m = c.args.module.now in
    let x = c.args.strategy.now in
    let same = ap₂ (λ (qs : List Rule) (ds : List StratDef). is_searched qs ds x) c.rules-rules.ensures c.strategies-definitions.ensures in
    let is : is_searched m.statements.rules m.statements.strategies x ≡ true = sym same ∙ (sym c.in_ok-searched.ensures ∙ c.if-not-searched.false) in
    IfOk-weaker c.begin.result _ _
    (λ left h. gains_strategy_term e ws m c.args.place.number c.args.place.item d c.args.most c.args.term.now x c.args.vars read is
    c.args.out.now.items c.write_strategy_head.new.out.items c.begin.new.out.items (outcome_of left) c.in_ok-write_strategy_head.ensures h)
    c.begin.ensures.gained
