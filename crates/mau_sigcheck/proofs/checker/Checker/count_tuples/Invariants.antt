use Rattle.std.proofs.Common.{◌≡◌, ◌*◌, ◌≤◌, min, drop}
use Rattle.mau_sigcheck.specs.Tuples.{tuples_of}
use Rattle.mau_sigcheck.proofs.checker.Checker.count_tuples.Given as goal

-- what is counted and the rest, together, are the whole
abbrev pub invariant-loop-kind : goal.invariant-loop-kind
invariant-loop-kind l = record {
  counted :
      min (l.count * tuples_of l.self.hierarchy (drop l.kind-index l.kinds)) 18446744073709551615
      ≡ min (tuples_of l.self.hierarchy l.kinds) 18446744073709551615;
  small : l.count ≤ 18446744073709551615;
}
