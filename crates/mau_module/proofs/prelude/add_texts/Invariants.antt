use Rattle.std.proofs.Common.{◌≡◌, take}
use Rattle.std.specs.Prelude.{fold}
use Rattle.mau_declare.specs.Names.{with_name}
use Rattle.mau_module.proofs.prelude.add_texts.Given as goal

abbrev pub invariant-loop-name : goal.invariant-loop-name
invariant-loop-name l = l.names ≡ fold with_name l.fn.names (take l.name-index l.more)
