use Rattle.mau_tokens.proofs.Depth.{IsDeep}
use Rattle.mau_tokens.proofs.scan.comment_end.Given as goal

abbrev pub invariant-loop-last : goal.invariant-loop-last
invariant-loop-last l = IsDeep l.bytes l.start l.last l.depth
