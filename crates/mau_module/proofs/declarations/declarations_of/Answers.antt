use Rattle.std.proofs.Common.{arith}
use Rattle.mau_module.proofs.Knowns.{known_at}
use Rattle.mau_module.proofs.declarations.declarations_of.Goals as goal

pub add_module_declarations-requires-clause-known : goal.add_module_declarations-requires-clause-known
add_module_declarations-requires-clause-known c = known_at c.args.library.now c.args.names.now c.args.parts.now c.loop-part.part-index 0 c.«module».result.now c.requires.known (omega arith) c.«module».ensures.there
