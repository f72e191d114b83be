use Rattle.std.proofs.Common.{◌≡◌, true, sym, ap, ◌∙◌, arith}
use Rattle.std.specs.Prelude.{codes}
use Rattle.mau_modtext.specs.Words.{words_of}
use Rattle.mau_declare.specs.Words.{text_at, is_word}
use Rattle.mau_shapes.specs.Words.{beginning}
use Rattle.mau_definition.specs.Calls.{is_name, pair_size}
use Rattle.mau_definition.proofs.CallWords.{pair_behind, rest_of}
use Rattle.mau_definition.proofs.call.call_size.Goals as goal

pub returns-then-is : goal.returns-then-is
returns-then-is c =
    let bs = c.args.text.now in
    let ts = c.args.tokens.now in
    let name : is_name (beginning (text_at (words_of bs ts) 0)) ≡ true =
    ap (λ z. is_name (beginning (text_at z 0))) (sym c.new-words.ensures) ∙ (ap (λ z. is_name (beginning z)) (sym c.text.ensures) ∙ (sym c.is_name.ensures ∙ c.if-is_name.true)) in
    let bracket : is_word (words_of bs ts) (codes "(") 1 ≡ true = ap (λ z. is_word z (codes "(") 1) (sym c.new-words.ensures) ∙ (sym c.is.ensures ∙ c.if-is.true) in
    omega (arith, c.pair_size.ensures.value, ap (λ us. pair_size (words_of bs us)) (rest_of ts), pair_behind bs ts c.if-tokens-gt1.true name bracket)
