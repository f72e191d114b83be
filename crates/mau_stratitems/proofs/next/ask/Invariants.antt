use Rattle.mau_stratitems.proofs.Staying.{extends_on}
use Rattle.mau_stratitems.proofs.Standing.{IsOver}
use Rattle.mau_stratitems.proofs.next.ask.Given as goal

abbrev pub ghosts-ask_watched : goal.ghosts-ask_watched
ghosts-ask_watched g a = record {
  stays = IsOver a.program.now (g.E.Evaluator.meanings a.evaluator) a.run.leaves a.run.store;
  stays_on = λ p m l old new e s. (s.0, s.1, s.2, extends_on a.run.store old new s.3 e);
}
