use Rattle.std.proofs.Common.{◌∙◌}
use Rattle.mau_print.proofs.Marked.{shared_many, shared_few}
use Rattle.mau_print.proofs.making.Known.is_shared.Goals as goal

pub returns-then-count-gt1 : goal.returns-then-count-gt1
returns-then-count-gt1 c = λ owned k. shared_many c.args.grammar.now owned c.args.text.now c.count.result (c.count.ensures ∙ k.counted c.args.text.now) c.if-count-gt1.true

pub returns : goal.returns
returns c = λ owned k. c.is_numeral_in.ensures ∙ shared_few c.args.grammar.now owned c.args.text.now c.count.result (c.count.ensures ∙ k.counted c.args.text.now) c.if-count-gt1.false
