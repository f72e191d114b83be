use Rattle.std.proofs.Common.{◌≢◌, Ok, Err, refl, subst}
use Rattle.mau_formula.specs.Operators.{operators}
use Rattle.mau_strattext.specs.Strategies.{IfTold, StrategyRead}
use Rattle.mau_strattext.specs.declared.fault.StratFault.{StratFault}
use Rattle.mau_strattext.specs.declared.fault.StratFault.TheVariants.{TooManyTokens, Unexpected, UnknownName, Parse, Arity, NoMemory}
use Rattle.mau_session.specs.Environment.{environment_of}
use Rattle.mau_session.specs.KeptState.{outcome_of, IsReadyOutcome}
use Rattle.mau_session.specs.declared.state.Outcome.TheVariants.{Refused}
use Rattle.mau_session.specs.StrategyRun.{strategy_setting}
use Rattle.mau_session.specs.StrategyGains.{GainsStrategyTerm}
use Rattle.mau_session.specs.StrategyAnswer.{strategy_unread}
use Rattle.mau_session.proofs.Answering.{unread_with}
use Rattle.mau_session.proofs.strategies.answer_uses.Goals as goal

-- a fault that is not want of memory is told
told : (P : StratFault → Type 0) (f : StratFault) → f ≢ NoMemory → IfTold P f → P f
told P (TooManyTokens n) other h = h
told P (Unexpected at) other h = h
told P (UnknownName at) other h = h
told P (Parse at f) other h = h
told P (Arity at) other h = h
told P NoMemory other h = absurd (other refl)

pub returns-in-Err-clause-gained : goal.returns-in-Err-clause-gained
returns-in-Err-clause-gained g c =
    let e = environment_of (operators c.args.session.now.hooks.now) c.args.session.now.limit in
    let ws = c.args.session.now.words.now in
    let m = c.args.module.now in
    let ns = c.args.vars in
    let f = c.in-Err.fault in
    unread_with Refused (λ l. GainsStrategyTerm e ws m c.args.place.number c.args.place.item c.args.command.now c.args.most c.args.out.now.items c.refuse_strategy.new.out.items (outcome_of l)) c.refuse_strategy.result
    c.refuse_strategy.ensures.bytes c.refuse_strategy.ensures.named c.refuse_strategy.ensures.refused
    (λ g n. record {
      bytes = _;
      answer = strategy_unread c.args.term.now ns f c.requires.read
          (told (λ f. StrategyRead (strategy_setting ws m c.args.command.now.second) ns ns (Err f)) f n
          (subst (λ ts. IfTold (λ f. StrategyRead (strategy_setting ws m ts) ns ns (Err f)) f) c.items.ensures c.in-Err.ensures.fault)) n;
      gained = g;
    })

pub returns-in-Err-clause-ready : goal.returns-in-Err-clause-ready
returns-in-Err-clause-ready g c =
    unread_with Refused (IsReadyOutcome (environment_of (operators c.args.session.now.hooks.now) c.args.session.now.limit) c.args.module.now) c.refuse_strategy.result c.refuse_strategy.ensures.bytes c.refuse_strategy.ensures.named c.refuse_strategy.ensures.refused (λ g n. tt)

pub returns-in-Ok-clause-gained : goal.returns-in-Ok-clause-gained
returns-in-Ok-clause-gained g c =
    let ws = c.args.session.now.words.now in
    let m = c.args.module.now in
    let os = c.read_uses.new.vars in
    let x = c.in-Ok.strategy in
    let read = subst (λ ts. StrategyRead (strategy_setting ws m ts) c.args.vars os (Ok x)) c.items.ensures c.in-Ok.ensures.read in
    c.answer_run.ensures.gained c.args.command.now (record { pairs = c.args.vars; term = c.requires.read; strategy = read })
