use Rattle.std.proofs.Common.{subst}
use Rattle.mau_module.specs.Libraries.{IsLibrary}
use Rattle.mau_module.proofs.Entering.{found_lawful}
use Rattle.mau_module.proofs.library.Library.find.Goals as goal

pub returns-clause-lawful : goal.returns-clause-lawful
returns-clause-lawful c = found_lawful c.args.self.now (subst IsLibrary c.self.view_is c.self.invariant) c.last_named.result
