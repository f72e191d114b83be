use Rattle.std.proofs.Common.{◌≡◌, ◌<◌, take}
use Rattle.std.specs.Prelude.{IfSome}
use Rattle.mau_module.specs.Library.{last_named}
use Rattle.mau_docheck.proofs.known.find_within.Given as goal

abbrev pub invariant-loop-i : goal.invariant-loop-i
invariant-loop-i l = record {
  number : l.last ≡ last_named (take l.i l.library) l.name;
  within : IfSome l.last (λ n. n < l.count);
}
