use Rattle.std.proofs.Common.{◌<◌, length, ◌∙◌, arith}
use Rattle.mau_strattext.proofs.Cuts.{begins_there}
use Rattle.mau_strattext.proofs.cut.is_at.Goals as goal

pub returns-then-place-count : goal.returns-then-place-count
returns-then-place-count c =
    let l : c.args.place < length c.args.words.now = omega (arith, c.requires, c.if-place-count.true) in
    c.is.ensures ∙ begins_there c.args.words.now c.args.place c.args.sign.now l
