use Rattle.mau_reducer.specs.Worlds.{basis_of}
use Rattle.mau_reducer.specs.Flags.{flags_by}
use Rattle.mau_reducer.proofs.flagged.FlaggedEvaluator.list.Goals as goal

pub returns-clause-fits : goal.returns-clause-fits
returns-clause-fits g c =
    let e = c.list.ensures in (
      e.fits.0,
      e.fits.1,
      flags_by g.L.Lister.with_context g.L.Lister.asked g.L.Lister.given g.L.Lister.is_for g.M.Lister.asked g.M.Lister.given g.M.Lister.is_for
          (basis_of g.N.Natives.operators c.args.self.now.world.world) (basis_of g.N.Natives.operators c.list.new.self) e.meanings c.args.store.now c.list.new.store
          c.args.self.now.world.world.table c.list.new.self.table c.list.new.self.begun e.extends e.kept e.fits.0.derived e.fits.0.identities c.args.self.now.world.levels.items c.requires.fits.2,
    )
