use Rattle.mau_store.specs.Trees.{tree_at}
use Rattle.mau_reducer.specs.Worlds.{basis_of}
use Rattle.mau_reducer.specs.LaterStates.{fit_later}
use Rattle.mau_reducer.proofs.Settlings.{value_settled}
use Rattle.mau_reducer.proofs.SettlingEnds.{settling_ends}
use Rattle.mau_reducer.proofs.flagged.FlaggedEvaluator.settle.Goals as goal

pub settle-requires-clause-term : goal.settle-requires-clause-term
settle-requires-clause-term g c = record { lawful = c.requires.fits.0.basis.reducible.lawful; term = c.requires.term }

pub returns-clause-settled : goal.returns-clause-settled
returns-clause-settled g c =
    value_settled (basis_of g.N.Natives.operators c.args.self.now.world.world) (basis_of g.N.Natives.operators c.settle.new.resting.world) c.args.store.now c.settle.new.store c.args.self.now.world.world.table c.settle.new.resting.world.table
    c.settle.new.resting.world.begun c.settle.ensures.grows c.args.term.0 c.requires.term c.settle.result c.settle.ensures.settled

pub returns-clause-ends : goal.returns-clause-ends
returns-clause-ends g c =
    settling_ends (basis_of g.N.Natives.operators c.args.self.now.world.world) c.requires.fits.0.basis c.levels_of_condition-levels.result c.levels_of_condition-levels.ensures (tree_at c.args.store.now c.args.term.0)
    c.requires.term.within.normal c.settle.result c.settle.ensures.ends

pub returns-clause-fits : goal.returns-clause-fits
returns-clause-fits g c = (
  fit_later (basis_of g.N.Natives.operators c.args.self.now.world.world) (basis_of g.N.Natives.operators c.settle.new.resting.world) c.args.store.now c.settle.new.store c.args.self.now.world.world.table c.settle.new.resting.world.table
      c.args.self.now.world.world.begun c.settle.new.resting.world.begun c.requires.fits.0 c.settle.ensures.grows,
  c.requires.fits.1,
  c.settle.ensures.resting,
)
