use Rattle.std.proofs.Common.{◌≡◌, true, sym, ◌∙◌, ap, subst}
use Rattle.mau_declare.specs.Words.{first_index}
use Rattle.mau_formula.specs.Operators.{operators}
use Rattle.mau_statement.specs.Parts.{is_empty}
use Rattle.mau_session.specs.Answers.{refusal_line}
use Rattle.mau_session.specs.Environment.{environment_of}
use Rattle.mau_session.specs.KeptState.{state_of}
use Rattle.mau_session.specs.declared.refusal.Refusal.TheVariants.{NotBuilt}
use Rattle.mau_session.specs.Transcript.{ReduceAnswer, reduces_nothing, reduce_unknown}
use Rattle.mau_session.proofs.Answering.{refused_with}
use Rattle.mau_session.proofs.reduce.answer_reduce.Goals as goal

pub returns-in-Err-clause-gained : goal.returns-in-Err-clause-gained
returns-in-Err-clause-gained g c =
    let e = environment_of (operators c.args.session.now.hooks.now) c.args.session.now.limit in
    let ws = c.args.session.now.words.now in
    let st = state_of c.args.state.now in
    let u = c.in-Err.ensures.unknown in
    refused_with _ c.refuse-in-Err.result c.refuse-in-Err.ensures.bytes c.refuse-in-Err.ensures.refused
    (λ g. record {
      bytes = _;
      answer = subst (λ r. ReduceAnswer e ws st c.args.number c.args.command.now st (refusal_line c.args.number ws r) true) (sym u.named) (reduce_unknown u.token (ap (is_empty ws) (sym c.items-term.ensures) ∙ sym c.is_empty.ensures ∙ c.if-is_empty.false) u.none);
      gained = g;
    })

pub returns-then-is_empty-clause-gained : goal.returns-then-is_empty-clause-gained
returns-then-is_empty-clause-gained g c =
    let e = environment_of (operators c.args.session.now.hooks.now) c.args.session.now.limit in
    let ws = c.args.session.now.words.now in
    let st = state_of c.args.state.now in
    let first = c.args.command.now.first in
    let at : c.first_index.result ≡ first_index ws first = c.first_index.ensures.index ∙ ap (first_index ws) c.items-term.ensures in
    let empty : is_empty ws first ≡ true = ap (is_empty ws) (sym c.items-term.ensures) ∙ sym c.is_empty.ensures ∙ c.if-is_empty.true in
    refused_with _ c.refuse.result c.refuse.ensures.bytes c.refuse.ensures.refused
    (λ g. record {
      bytes = _;
      answer = subst (λ n. ReduceAnswer e ws st c.args.number c.args.command.now st (refusal_line c.args.number ws (NotBuilt n)) true) (sym at) (reduces_nothing empty);
      gained = g;
    })

pub reduce_chosen-requires-clause-term : goal.reduce_chosen-requires-clause-term
reduce_chosen-requires-clause-term g c = ap (is_empty c.args.session.now.words.now) (sym c.items-term.ensures) ∙ sym c.is_empty.ensures ∙ c.if-is_empty.false
