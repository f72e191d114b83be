use Rattle.std.proofs.Common.{◌++◌, ap₂, sym, ◌∙◌}
use Rattle.mau_declare.specs.Words.{token_text}
use Rattle.mau_declare.specs.Forms.{pieces_of}
use Rattle.mau_declare.proofs.Counting.{flat_more}
use Rattle.mau_declare.proofs.forms.read_form.Goals as goal

pub loop-token-preserved : goal.loop-token-preserved
loop-token-preserved c =
    c.in_ok-push_pieces.ensures ∙ ap₂ (λ xs t. xs ++ pieces_of t) c.loop-token.invariant c.token_text.ensures
    ∙ sym (flat_more (λ t. pieces_of (token_text c.args.words.now t)) c.args.tokens.now c.loop-token.token-index _ c.loop-token-test.true)
