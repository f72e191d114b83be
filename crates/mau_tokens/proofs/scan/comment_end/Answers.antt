use Rattle.std.proofs.Common.{◌+◌, sym, subst}
use Rattle.mau_tokens.proofs.Depth.{IsDeep, begins_deep, goes_deeper, goes_up, stays_deep, ends_there}
use Rattle.mau_tokens.proofs.scan.comment_end.Goals.{then-bytes-last-eq40, else-bytes-last-eq40+then-bytes-last-eq41+else-depth-eq1, else-bytes-last-eq40+else-bytes-last-eq41}
use Rattle.mau_tokens.proofs.scan.comment_end.Goals as goal

pub loop-last-init : goal.loop-last-init
loop-last-init c = begins_deep c.args.bytes.now c.args.start c.requires.begins

pub returns-then-depth-eq1-clause-some : goal.returns-then-depth-eq1-clause-some
returns-then-depth-eq1-clause-some c =
    ends_there c.args.bytes.now c.args.start c.loop-last.last c.requires.there c.requires.begins
    (subst (IsDeep c.args.bytes.now c.args.start c.loop-last.last) c.if-depth-eq1.true c.loop-last.invariant)
    c.loop-last.auto.last c.loop-last-test.true c.if-bytes-last-eq41.true

pub loop-last-preserved : goal.loop-last-preserved
loop-last-preserved c =
    let bs = c.args.bytes.now in
    let i = c.args.start in
    let e = c.loop-last.last in
    let deep = c.loop-last.invariant in
    let there = c.loop-last.auto.last in
    let within = c.loop-last-test.true in
    elim c.if-bytes-last-eq40.branch [
      | then-bytes-last-eq40 w ↦ subst (IsDeep bs i (e + 1)) (sym w.depth-is) (goes_deeper bs i e _ deep there within w.if-bytes-last-eq40.true)
      | else-bytes-last-eq40+then-bytes-last-eq41+else-depth-eq1 w ↦
          subst (IsDeep bs i (e + 1)) (sym w.depth-is) (goes_up bs i e _ deep there within w.if-bytes-last-eq41.true w.if-depth-eq1.false)
      | else-bytes-last-eq40+else-bytes-last-eq41 w ↦
          subst (IsDeep bs i (e + 1)) (sym w.depth-is) (stays_deep bs i e _ deep there within w.if-bytes-last-eq40.false w.if-bytes-last-eq41.false)
    ]
