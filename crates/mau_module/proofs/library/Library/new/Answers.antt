use Rattle.std.proofs.Common.{sym, subst}
use Rattle.mau_module.specs.Libraries.{IsLibrary}
use Rattle.mau_module.proofs.Entering.{no_library}
use Rattle.mau_module.proofs.library.Library.new.Goals as goal

pub invariant_of-result : goal.invariant_of-result
invariant_of-result c = subst IsLibrary (sym c.new.ensures.items) no_library
