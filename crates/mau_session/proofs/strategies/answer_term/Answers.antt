use Rattle.std.proofs.Common.{◌<◌, ◌≤◌, length, sym, ap, subst, arith}
use Rattle.mau_parse.specs.declared.goals.Goal.TheVariants.{AnyKind}
use Rattle.mau_formula.specs.Operators.{operators}
use Rattle.mau_statement.specs.Parts.{IsUnread, TermReads}
use Rattle.mau_session.specs.Environment.{environment_of}
use Rattle.mau_session.specs.KeptState.{outcome_of, IsReadyOutcome}
use Rattle.mau_session.specs.declared.state.Outcome.TheVariants.{Refused}
use Rattle.mau_session.specs.StrategyGains.{GainsStrategyTerm}
use Rattle.mau_session.specs.StrategyAnswer.{term_unread}
use Rattle.mau_session.proofs.Answering.{unread_with}
use Rattle.mau_session.proofs.strategies.answer_term.Goals as goal

pub returns-in-Err-clause-gained : goal.returns-in-Err-clause-gained
returns-in-Err-clause-gained g c =
    let e = environment_of (operators c.args.session.now.hooks.now) c.args.session.now.limit in
    let ws = c.args.session.now.words.now in
    let m = c.args.module.now in
    let f = c.in-Err.fault in
    unread_with Refused (λ l. GainsStrategyTerm e ws m c.args.place.number c.args.place.item c.args.command.now c.args.most c.args.out.now.items c.refuse_term.new.out.items (outcome_of l)) c.refuse_term.result
    c.refuse_term.ensures.bytes c.refuse_term.ensures.named c.refuse_term.ensures.refused
    (λ g n. record {
      bytes = _;
      answer = term_unread f (subst (λ ns. IsUnread ws m.grammar c.args.command.now.first AnyKind ns f) c.new-vars.ensures (subst (λ ts. IsUnread ws m.grammar ts AnyKind c.new-vars.result f) c.items.ensures c.in-Err.ensures.fault)) n;
      gained = g;
    })

pub returns-in-Err-clause-ready : goal.returns-in-Err-clause-ready
returns-in-Err-clause-ready g c =
    unread_with Refused (IsReadyOutcome (environment_of (operators c.args.session.now.hooks.now) c.args.session.now.limit) c.args.module.now) c.refuse_term.result c.refuse_term.ensures.bytes c.refuse_term.ensures.named c.refuse_term.ensures.refused (λ g n. tt)

pub answer_uses-requires-clause-read : goal.answer_uses-requires-clause-read
answer_uses-requires-clause-read g c =
    let ws = c.args.session.now.words.now in
    let m = c.args.module.now in
    let t = c.in-Ok.term in
    let ns = c.read_term.new.vars in
    subst (λ os. TermReads ws m.grammar c.args.command.now.first AnyKind os ns t) c.new-vars.ensures (subst (λ ts. TermReads ws m.grammar ts AnyKind c.new-vars.result ns t) c.items.ensures c.in-Ok.ensures.term)
