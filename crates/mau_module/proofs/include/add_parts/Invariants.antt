use Rattle.std.proofs.Common.{◌≡◌, take}
use Rattle.std.specs.Prelude.{fold}
use Rattle.mau_module.specs.Included.{with_part}
use Rattle.mau_module.proofs.include.add_parts.Given as goal

abbrev pub invariant-loop-part : goal.invariant-loop-part
invariant-loop-part l = l.parts.items ≡ fold with_part l.fn.parts.items (take l.part-index l.more)
