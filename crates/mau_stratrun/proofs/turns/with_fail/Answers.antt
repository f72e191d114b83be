use Rattle.mau_stratrun.proofs.turns.with_fail.Goals as goal

pub returns-in-Err-add-clause-leaves : goal.returns-in-Err-add-clause-leaves
returns-in-Err-add-clause-leaves c leaves all = c.add-2.ensures.leaves leaves (c.add.ensures.leaves leaves all)

pub returns-clause-leaves : goal.returns-clause-leaves
returns-clause-leaves c leaves all = c.add-3.ensures.leaves leaves (c.add-2.ensures.leaves leaves (c.add.ensures.leaves leaves all))
