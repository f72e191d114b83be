use Rattle.std.proofs.Common.{◌≡◌, vec_len}
use Rattle.mau_poset.specs.Graph.{AreNeighbours, AreUppers}
use Rattle.mau_poset.proofs.rows.uppers.Given as goal

abbrev pub invariant-loop-a : goal.invariant-loop-a
invariant-loop-a l = (vec_len l.lists ≡ l.n) × AreNeighbours l.lists.items × AreUppers l.pairs l.lists.items
