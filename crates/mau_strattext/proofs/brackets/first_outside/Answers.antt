use Rattle.std.proofs.Common.{◌<◌, ◌+◌, length, drop, get_or, true, false, arith}
use Rattle.mau_modtext.specs.Brackets.{begins}
use Rattle.mau_strattext.proofs.Bracketed.{blank, word_there, first_here, first_on, depth_by_text, stands_by_text, small_behind}
use Rattle.mau_strattext.proofs.brackets.first_outside.Goals as goal

pub returns-then-stands-clause-first : goal.returns-then-stands-clause-first
returns-then-stands-clause-first c =
    let ws = c.args.words.now in
    let i = c.loop-i.i in
    let w = get_or ws i blank in
    let l : i < length ws = omega (arith, c.requires, c.loop-i-test.true) in
    let there = word_there ws i c.text-word.result.now blank l c.text-word.ensures in
    first_here (begins c.args.sign.now) ws (drop i ws) i c.loop-i.depth w c.loop-i.invariant.rest there.rest
    (stands_by_text c.loop-i.depth c.text-word.result.now c.args.sign.now w (drop (i + 1) ws) c.stands.result true there.reads c.stands.ensures c.if-stands.true)

pub loop-i-preserved : goal.loop-i-preserved
loop-i-preserved c =
    let ws = c.args.words.now in
    let i = c.loop-i.i in
    let w = get_or ws i blank in
    let l : i < length ws = omega (arith, c.requires, c.loop-i-test.true) in
    let there = word_there ws i c.text-word.result.now blank l c.text-word.ensures in
    let deep = depth_by_text c.loop-i.depth c.depth_behind-depth.result c.text-word.result.now w there.reads c.depth_behind-depth.ensures in
    record {
      rest = first_on (begins c.args.sign.now) ws (drop i ws) i c.loop-i.depth c.depth_behind-depth.result w c.loop-i.invariant.rest there.rest
          (stands_by_text c.loop-i.depth c.text-word.result.now c.args.sign.now w (drop (i + 1) ws) c.stands.result false there.reads c.stands.ensures c.if-stands.false) deep;
      small = small_behind c.loop-i.depth c.depth_behind-depth.result i w deep c.loop-i.invariant.small;
    }
