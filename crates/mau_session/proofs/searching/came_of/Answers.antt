use Rattle.std.proofs.Common.{subst}
use Rattle.mau_stratitems.specs.Shown.{ComesTo}
use Rattle.mau_session.proofs.searching.came_of.Goals as goal

pub returns-in-Solution : goal.returns-in-Solution
returns-in-Solution c p m old new nodes h = subst (ComesTo p m old new nodes) c.in-Solution.is h

pub returns-in-NoMore : goal.returns-in-NoMore
returns-in-NoMore c p m old new nodes h = subst (ComesTo p m old new nodes) c.in-NoMore.is h

pub returns-in-Stopped : goal.returns-in-Stopped
returns-in-Stopped c p m old new nodes h = subst (ComesTo p m old new nodes) c.in-Stopped.is h

pub returns-in-TooDeep : goal.returns-in-TooDeep
returns-in-TooDeep c p m old new nodes h = subst (ComesTo p m old new nodes) c.in-TooDeep.is h

pub returns-in-Overflow : goal.returns-in-Overflow
returns-in-Overflow c p m old new nodes h = subst (ComesTo p m old new nodes) c.in-Overflow.is h

pub returns-in-CallDepth : goal.returns-in-CallDepth
returns-in-CallDepth c p m old new nodes h = subst (ComesTo p m old new nodes) c.in-CallDepth.is h
