use Rattle.std.proofs.Common.{sym, ap, ◌∙◌}
use Rattle.mau_numerals.specs.Numerals.{number_up_to}
use Rattle.mau_tokens.specs.declared.token.Token.{Token}
use Rattle.mau_declare.specs.Words.{token_text}
use Rattle.mau_declare.proofs.Counting.{kept_more, passed_more}
use Rattle.mau_declare.proofs.attributes.read_numbers.Goals as goal
use Rattle.mau_declare.proofs.attributes.read_numbers.Goals.{in-Some+in_ok-push-in-Some, in-None}

pub loop-token-preserved : goal.loop-token-preserved
loop-token-preserved c =
    let found = λ (t : Token). number_up_to 255 (token_text c.args.words.now t) in
    let this = c.small_number.ensures ∙ ap (number_up_to 255) (c.as_bytes.ensures.value ∙ c.token_text.ensures) in
    elim c.match-small_number.branch [
      | in-Some+in_ok-push-in-Some w ↦ kept_more found c.args.value.now c.loop-token.token-index _ c.loop-token-test.true c.loop-token.numbers.items c.loop-token.invariant _ _ (sym this ∙ w.in-Some.is) (ap (λ v. v.items) w.numbers-is ∙ w.in_ok-push-in-Some.ensures.items)
      | in-None w ↦ passed_more found c.args.value.now c.loop-token.token-index _ c.loop-token-test.true c.loop-token.numbers.items c.loop-token.invariant _ (sym this ∙ w.in-None.is) (ap (λ v. v.items) w.numbers-is)
    ]
