use Rattle.std.proofs.Common.{arith}
use Rattle.mau_terms.specs.Tree.{trees_of}
use Rattle.mau_store.specs.Trees.{tree_at, trees_at}
use Rattle.mau_store.specs.View.{numbers}
use Rattle.mau_reduce.proofs.KindsKept.{under_term}
use Rattle.mau_reducer.proofs.Taking.{top_built}
use Rattle.mau_reducer.proofs.reducer.Reducer.built_in_at.Goals as goal

pub overflow_sub-op : goal.overflow_sub-op
overflow_sub-op g c =
    let is = (under_term c.args.self.now.program.now.sig c.requires.lawful c.args.store.now c.in-App.ensures.nodes c.args.term.0 c.in-App.op.0 c.requires.term.bare.0 (numbers c.in-App.field-1.now) c.in-App.ensures.node
    record { within = c.requires.term.within; bare = c.requires.term.bare.1 }).0.operator in
    omega (arith, is.0)

pub returns-in-App : goal.returns-in-App
returns-in-App g c =
    let s = c.args.self.now.program.now.sig in
    let nodes = c.args.store.now in
    let is = (under_term s c.requires.lawful nodes c.in-App.ensures.nodes c.args.term.0 c.in-App.op.0 c.requires.term.bare.0 (numbers c.in-App.field-1.now) c.in-App.ensures.node
    record { within = c.requires.term.within; bare = c.requires.term.bare.1 }).0.operator in
    top_built s (g.N.Natives.operators c.args.self.now.natives) c.args.self.now.built_ins.items c.requires.built_ins (tree_at nodes c.args.term.0) c.in-App.op.0 (trees_of (trees_at nodes (numbers c.in-App.field-1.now)))
    c.in-App.ensures.tree is c.index.result.now c.index.ensures
