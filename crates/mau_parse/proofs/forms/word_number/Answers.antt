use Rattle.std.proofs.Common.{◌+◌, refl, sym, ◌∙◌, ap, arith, bytes_eq}
use Rattle.mau_parse.proofs.FormsPushed.{found_at, passed_at}
use Rattle.mau_parse.proofs.forms.word_number.Goals as goal

pub returns-then-eq : goal.returns-then-eq
returns-then-eq c =
    let w = c.args.word.now in
    found_at c.args.words.now w c.loop-i.i _ (omega (arith, c.loop-i-test.true, c.len-i-end.ensures)) (ap (λ v. bytes_eq v w) (sym c.text.ensures) ∙ sym c.eq.ensures ∙ c.if-eq.true) c.loop-i.invariant

pub loop-i-preserved : goal.loop-i-preserved
loop-i-preserved c =
    let w = c.args.word.now in
    passed_at c.args.words.now w c.loop-i.i (c.loop-i.i + 1) _ refl (omega (arith, c.loop-i-test.true, c.len-i-end.ensures)) (ap (λ v. bytes_eq v w) (sym c.text.ensures) ∙ sym c.eq.ensures ∙ c.if-eq.false) c.loop-i.invariant
