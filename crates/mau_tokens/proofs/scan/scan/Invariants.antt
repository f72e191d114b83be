use Rattle.std.proofs.Common.{◌-◌, ◌≤◌, length}
use Rattle.mau_tokens.proofs.Prefix.{Completes}
use Rattle.mau_tokens.proofs.scan.scan.Given as goal

abbrev pub invariant-loop-start : goal.invariant-loop-start
invariant-loop-start l = record {
  within : l.start ≤ length l.bytes;
  done : Completes 1024 l.bytes l.start l.tokens.items;
}

abbrev pub decreases-loop-start : goal.decreases-loop-start
decreases-loop-start l = length l.bytes - l.start
