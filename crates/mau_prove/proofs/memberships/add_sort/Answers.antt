use Rattle.mau_prove.proofs.Working.{at_first}
use Rattle.mau_prove.proofs.memberships.add_sort.Goals as goal

pub returns-then-is_plain : goal.returns-then-is_plain
returns-then-is_plain g c = at_first c.args.program.now (g.E.Evaluator.meanings c.args.evaluator.now) c.args.store.now c.args.known.now.items c.requires.working
