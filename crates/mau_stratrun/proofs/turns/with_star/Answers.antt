use Rattle.mau_stratrun.proofs.turns.with_star.Goals as goal

pub returns-clause-leaves : goal.returns-clause-leaves
returns-clause-leaves c leaves all = c.add-2.ensures.leaves leaves (c.add.ensures.leaves leaves all)
