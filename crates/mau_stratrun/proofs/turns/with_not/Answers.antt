use Rattle.mau_stratrun.proofs.turns.with_not.Goals as goal

pub returns-clause-leaves : goal.returns-clause-leaves
returns-clause-leaves c leaves all = c.with_fail.ensures.leaves leaves (c.add.ensures.leaves leaves all)
