use Rattle.std.proofs.Common.{◌≡◌, ◌≤◌, take, drop, length}
use Rattle.mau_cond.specs.Bound.{extended}
use Rattle.mau_cond.proofs.bound.Bound.extend.Given as goal

abbrev pub invariant-loop-pair : goal.invariant-loop-pair
invariant-loop-pair l =
    (extended l.self (drop l.pair-index l.told) ≡ extended l.initial.self l.told)
    × (take (length l.initial.self) l.self ≡ l.initial.self) × (length l.initial.self ≤ length l.self)
