use Rattle.std.proofs.Common.{◌<◌, length, drop, get_or, sym, ◌∙◌, arith}
use Rattle.mau_strattext.proofs.Bracketed.{blank, word_there, closing_here, closing_on, depth_by_text, small_behind}
use Rattle.mau_strattext.proofs.brackets.closing.Goals as goal

pub returns-then-is_outside-clause-closing : goal.returns-then-is_outside-clause-closing
returns-then-is_outside-clause-closing c =
    let ws = c.args.words.now in
    let i = c.loop-i.i in
    let w = get_or ws i blank in
    let l : i < length ws = omega (arith, c.requires, c.loop-i-test.true) in
    let there = word_there ws i c.text.result.now blank l c.text.ensures in
    closing_here ws (drop i ws) i c.loop-i.depth c.depth_behind-depth.result w c.loop-i.invariant.rest there.rest
    (depth_by_text c.loop-i.depth c.depth_behind-depth.result c.text.result.now w there.reads c.depth_behind-depth.ensures) (sym c.is_outside.ensures ∙ c.if-is_outside.true)

pub loop-i-preserved : goal.loop-i-preserved
loop-i-preserved c =
    let ws = c.args.words.now in
    let i = c.loop-i.i in
    let w = get_or ws i blank in
    let l : i < length ws = omega (arith, c.requires, c.loop-i-test.true) in
    let there = word_there ws i c.text.result.now blank l c.text.ensures in
    let deep = depth_by_text c.loop-i.depth c.depth_behind-depth.result c.text.result.now w there.reads c.depth_behind-depth.ensures in
    record {
      rest = closing_on ws (drop i ws) i c.loop-i.depth c.depth_behind-depth.result w c.loop-i.invariant.rest there.rest deep (sym c.is_outside.ensures ∙ c.if-is_outside.false);
      small = small_behind c.loop-i.depth c.depth_behind-depth.result i w deep c.loop-i.invariant.small;
    }
