use Rattle.std.proofs.Common.{◌<◌, length, refl, sym, subst}
use Rattle.std.proofs.lemmas.Option.{slice_get_read}
use Rattle.mau_module.proofs.Entering.{lawful_at}
use Rattle.mau_module.proofs.library.Library.module.Goals as goal

pub returns-clause-lawful : goal.returns-clause-lawful
returns-clause-lawful c =
    let ms = c.self.inside.modules.items in
    lawful_at ms c.self.invariant c.args.number c.index.result.now
    (slice_get_read ms (length ms) c.args.number c.index.result.now refl (subst (λ xs. c.args.number < length xs) (sym c.self.view_is) c.requires) c.index.ensures)
