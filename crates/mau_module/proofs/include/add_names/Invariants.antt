use Rattle.std.proofs.Common.{◌≡◌, take}
use Rattle.std.specs.Prelude.{fold}
use Rattle.mau_declare.specs.Names.{with_name}
use Rattle.mau_module.proofs.include.add_names.Given as goal

abbrev pub invariant-loop-number : goal.invariant-loop-number
invariant-loop-number l = l.names ≡ fold with_name l.fn.names (take l.number l.more)
