use Rattle.std.proofs.Common.{◌≡◌, ℕ, ◌+◌, ◌≤◌, length, take, sym, ap, ◌∙◌, subst, arith}
use Rattle.std.proofs.lemmas.List.{length-append}
use Rattle.mau_terms.specs.View.{tree_of}
use Rattle.mau_formula.specs.Operators.{operators}
use Rattle.mau_parse.specs.declared.goals.Goal.TheVariants.{AnyKind, Kind}
use Rattle.mau_statement.specs.Parts.{IsUnread, TermReads, part_texts}
use Rattle.mau_session.specs.Environment.{environment_of}
use Rattle.mau_session.specs.Matching.{numbered_from}
use Rattle.mau_session.specs.KeptState.{outcome_of, IsReadyOutcome}
use Rattle.mau_session.specs.declared.state.Outcome.TheVariants.{Refused}
use Rattle.mau_session.specs.Gains.{GainsTerms}
use Rattle.mau_session.specs.Transcript.{subject_refused}
use Rattle.mau_session.proofs.Extending.{Extends, read_extends, first_variables}
use Rattle.mau_session.proofs.Numbered.{read_numbered}
use Rattle.mau_session.proofs.Values.{length-numbered}
use Rattle.mau_session.proofs.Kinded.{kind_is}
use Rattle.mau_session.proofs.Answering.{unread_with}
use Rattle.mau_session.proofs.answer.answer_subject.Goals as goal

pub answer_read-requires-clause-read : goal.answer_read-requires-clause-read
answer_read-requires-clause-read g c =
    let ws = c.args.session.now.words.now in
    let m = c.args.module.now in
    let t = c.in-Ok.subject in
    let ns = c.args.vars in
    let os = c.read_term.new.vars in
    record {
      pairs = ns;
      pattern = c.requires.pattern;
      subject = subst (λ k. TermReads ws m.grammar c.args.command.now.second (Kind k) ns os t) c.kind_of_term.ensures (subst (λ ts. TermReads ws m.grammar ts (Kind c.kind_of_term.result) ns os t) c.items.ensures c.in-Ok.ensures.term);
    }

pub answer_read-requires-clause-usable : goal.answer_read-requires-clause-usable
answer_read-requires-clause-usable g c =
    let m = c.args.module.now in
    let ws = c.args.session.now.words.now in
    let ns = c.args.vars in
    let os = c.read_term.new.vars in
    let b = c.requires.bare in
    let same : c.kind_of_term.result ≡ b.0 = c.kind_of_term.ensures ∙ kind_is m (tree_of c.args.pattern) b.0 b.3 in
    let within : c.kind_of_term.result + 1 ≤ m.grammar.last_kind = omega (arith, same, b.2) in
    let s = c.in-Ok.ensures.bare within in
    let e : Extends ns os = read_extends m.grammar (part_texts ws c.items.result.now) (Kind c.kind_of_term.result) ns os c.in-Ok.subject c.in-Ok.ensures.term in
    let numbered = read_numbered m.grammar (part_texts ws c.args.command.now.first) AnyKind ns c.args.pattern c.requires.pattern in
    record {
      pattern = (b.0, b.3);
      subject = (s.0, s.3);
      numbered = numbered ∙ ap (numbered_from 0) (sym (first_variables ns os e) ∙ ap (λ n. take n os) (sym (ap length numbered ∙ length-numbered ns 0)));
      few = omega (arith, ap length e.is, length-append ns e.more, ap length numbered, length-numbered ns 0);
      small = omega (arith, c.read_term.ensures.few, c.requires.room, c.requires.few);
    }

pub returns-in-Err-clause-gained : goal.returns-in-Err-clause-gained
returns-in-Err-clause-gained g c =
    let e = environment_of (operators c.args.session.now.hooks.now) c.args.session.now.limit in
    let ws = c.args.session.now.words.now in
    let m = c.args.module.now in
    let f = c.in-Err.fault in
    let second = c.args.command.now.second in
    unread_with Refused (λ l. GainsTerms e ws m c.args.number c.args.command.now c.args.most c.args.out.now.items c.refuse_term.new.out.items (outcome_of l)) c.refuse_term.result
    c.refuse_term.ensures.bytes c.refuse_term.ensures.named c.refuse_term.ensures.refused
    (λ g n. record {
      bytes = _;
      answer = subject_refused c.args.pattern c.args.vars f c.requires.pattern
          (subst (λ k. IsUnread ws m.grammar second (Kind k) c.args.vars f) c.kind_of_term.ensures (subst (λ ts. IsUnread ws m.grammar ts (Kind c.kind_of_term.result) c.args.vars f) c.items.ensures c.in-Err.ensures.fault)) n;
      gained = g;
    })

pub returns-in-Err-clause-ready : goal.returns-in-Err-clause-ready
returns-in-Err-clause-ready g c =
    unread_with Refused (IsReadyOutcome (environment_of (operators c.args.session.now.hooks.now) c.args.session.now.limit) c.args.module.now) c.refuse_term.result c.refuse_term.ensures.bytes c.refuse_term.ensures.named c.refuse_term.ensures.refused (λ g n. tt)
