use Rattle.mau_store.specs.Trees.{tree_at}
use Rattle.mau_reduce.proofs.KeptOrders.{all_kept}
use Rattle.mau_reduce.proofs.attempts.begin_attempts.Goals as goal

pub returns-clause-untried : goal.returns-clause-untried
returns-clause-untried g c = λ B k b.
    all_kept c.args.program.now c.requires.reducible (g.N.Natives.operators c.args.natives.now) B k (tree_at c.args.store.now c.args.term.0) c.requires.term.within.normal c.requires.term.bare c.args.store.now
    c.given_at-given.result c.given_at-given.ensures.value b

pub returns-clause-given : goal.returns-clause-given
returns-clause-given g c = λ gives. record { answer = c.given_at-given.ensures.value; taken = c.given_at-given.ensures.taken gives }
