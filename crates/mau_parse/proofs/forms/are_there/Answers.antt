use Rattle.std.proofs.Common.{subst, sym, ◌∙◌, ap}
use Rattle.mau_parse.specs.Charted.{word_number, IsThere}
use Rattle.mau_parse.proofs.FormsFound.{part_there, not_there}
use Rattle.mau_parse.proofs.forms.are_there.Goals as goal

pub returns-then-word_number-len : goal.returns-then-word_number-len
returns-then-word_number-len c there =
    let ws = c.args.words.now in
    let here : IsThere ws c.part-item.result = part_there ws c.args.parts.now c.loop-part.part-index c.part-item.result c.loop-part-test.true c.part-item.is (c.loop-part.invariant there) in
    absurd (not_there ws c.in-Word.word (ap (word_number ws) (sym c.as_str.ensures) ∙ sym c.word_number.ensures ∙ c.if-word_number-len.true ∙ c.len.ensures) (subst (IsThere ws) c.in-Word.is here))
