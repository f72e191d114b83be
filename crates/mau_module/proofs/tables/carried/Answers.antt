use Rattle.std.proofs.Common.{get_or, arith}
use Rattle.mau_module.proofs.Knowns.{known_at}
use Rattle.mau_module.proofs.tables.carried.Goals as goal

pub tables_from-requires-clause-known : goal.tables_from-requires-clause-known
tables_from-requires-clause-known c = known_at c.args.library.now c.args.names.now c.args.parts.now c.loop-part.part-index 0 c.module-module.result.now c.requires.known (omega arith) c.module-module.ensures.there

pub add_carried-requires : goal.add_carried-requires
add_carried-requires c =
    (c.len-modules.ensures.library.made (get_or c.args.parts.now c.loop-part.part-index 0) c.module-module.result.now c.module-module.ensures.there).own.few
