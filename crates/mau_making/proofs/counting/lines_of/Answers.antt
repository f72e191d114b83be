use Rattle.std.proofs.Common.{◌==◌, rules}
use Rattle.std.proofs.lemmas.Iterator.Consumers.{map_from_collect}
use Rattle.std.proofs.lemmas.Iterator.Splits.{YieldsList-from_slice_split}
use Rattle.mau_making.proofs.counting.lines_of.Goals as goal

pub returns : goal.returns
returns c =
    let h = map_from_collect _ c.collect.ensures.ran (YieldsList-from_slice_split _ (λ b. b == 10) c.args.transcript.now c.split.ensures.rest c.split.ensures.done c.split.ensures.closure (search rules)) in
    rw c.in_ok-lines.was at h
