use Rattle.std.proofs.lemmas.Result.{IfOk-weaker}
use Rattle.std.proofs.Common.{◌≡◌, false, refl, sym, ◌∙◌}
use Rattle.mau_modtext.specs.declared.raw.CommandKind.{CommandKind}
use Rattle.mau_modtext.specs.declared.raw.CommandKind.TheVariants.{Match, Xmatch, Reduce, Rewrite, Frewrite, Dsrewrite, Continue}
use Rattle.mau_session.specs.Built.{is_match, is_continue, is_reduce, is_rewrite}
use Rattle.mau_session.specs.Transcript.{match_answered, continue_answered, reduce_is_answered, rewrite_is_answered, strategy_is_answered}
use Rattle.mau_session.proofs.answer.answer_command.Goals as goal

pub returns-then-is_match-clause-gained : goal.returns-then-is_match-clause-gained
returns-then-is_match-clause-gained g c =
    IfOk-weaker c.answer_match.result _ _
    (λ b g. record { bytes = g.bytes; answer = match_answered _ _ g.bytes b (sym c.is_match.ensures ∙ c.if-is_match.true) g.answer; gained = g.gained }) c.answer_match.ensures.gained

pub returns-then-is_continue-clause-gained : goal.returns-then-is_continue-clause-gained
returns-then-is_continue-clause-gained g c =
    IfOk-weaker c.answer_continue.result _ _
    (λ b g. record {
      bytes = g.bytes;
      answer = continue_answered _ _ g.bytes b (sym c.is_match.ensures ∙ c.if-is_match.false) (sym c.is_continue.ensures ∙ c.if-is_continue.true) g.answer;
      gained = g.gained;
    }) c.answer_continue.ensures.gained

pub returns-then-is_reduce-clause-gained : goal.returns-then-is_reduce-clause-gained
returns-then-is_reduce-clause-gained g c =
    IfOk-weaker c.answer_reduce.result _ _
    (λ b g. record {
      bytes = g.bytes;
      answer = reduce_is_answered _ _ g.bytes b (sym c.is_match.ensures ∙ c.if-is_match.false) (sym c.is_continue.ensures ∙ c.if-is_continue.false) (sym c.is_reduce.ensures ∙ c.if-is_reduce.true) g.answer;
      gained = g.gained;
    }) c.answer_reduce.ensures.gained

pub returns-then-is_rewrite-clause-gained : goal.returns-then-is_rewrite-clause-gained
returns-then-is_rewrite-clause-gained g c =
    IfOk-weaker c.answer_rewrite.result _ _
    (λ b g. record {
      bytes = g.bytes;
      answer = rewrite_is_answered _ _ g.bytes b (sym c.is_match.ensures ∙ c.if-is_match.false) (sym c.is_continue.ensures ∙ c.if-is_continue.false) (sym c.is_reduce.ensures ∙ c.if-is_reduce.false)
          (sym c.is_rewrite.ensures ∙ c.if-is_rewrite.true) g.answer;
      gained = g.gained;
    }) c.answer_rewrite.ensures.gained

-- the kind that is left
only_left : (k : CommandKind) → is_match k ≡ false → is_continue k ≡ false → is_reduce k ≡ false → is_rewrite k ≡ false → k ≡ Dsrewrite
only_left Match m n r w = absurd cc
only_left Xmatch m n r w = absurd cc
only_left Reduce m n r w = absurd cc
only_left Rewrite m n r w = absurd cc
only_left Frewrite m n r w = absurd cc
only_left Dsrewrite m n r w = refl
only_left Continue m n r w = absurd cc

pub returns-else-is_rewrite-clause-gained : goal.returns-else-is_rewrite-clause-gained
returns-else-is_rewrite-clause-gained g c =
    IfOk-weaker c.answer_strategy.result _ _
    (λ b g. record {
      bytes = g.bytes;
      answer = strategy_is_answered _ _ g.bytes b (only_left c.args.command.now.kind (sym c.is_match.ensures ∙ c.if-is_match.false) (sym c.is_continue.ensures ∙ c.if-is_continue.false)
          (sym c.is_reduce.ensures ∙ c.if-is_reduce.false) (sym c.is_rewrite.ensures ∙ c.if-is_rewrite.false)) g.answer;
      gained = g.gained;
    }) c.answer_strategy.ensures.gained
