use Rattle.mau_reducer.proofs.Taking.{numbers_same}
use Rattle.mau_reducer.proofs.world.ReducerWorld.same.Goals as goal

pub returns : goal.returns
returns g c =
    numbers_same c.args.store.now c.len-nodes.ensures.nodes c.args.left.0 c.args.right.0 c.requires.left.term.within.there c.requires.right.term.within.there c.eq.result c.eq.ensures
