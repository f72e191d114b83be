use Rattle.std.proofs.Common.{◌≡◌, List, subst}
use Rattle.mau_terms.specs.Tree.{Tree}
use Rattle.mau_terms.specs.Norm.{build}
use Rattle.mau_signature.specs.Signature.{theory_at}
use Rattle.mau_store.specs.Trees.{tree_at}
use Rattle.mau_evaluation.specs.Run.{done}
use Rattle.mau_evaluation.specs.Evaluation.{within_limits, top_changed}
use Rattle.mau_machine.specs.Words.{IsEnd}
use Rattle.mau_reducer.specs.Worlds.{basis_of}
use Rattle.mau_reducer.specs.LaterStates.{store_grown}
use Rattle.mau_reducer.specs.KnownHandles.{term_kind}
use Rattle.mau_reducer.proofs.Taking.{trees_now, as_end}
use Rattle.mau_reducer.proofs.world.ReducerWorld.build.Goals as goal

pub returns-in-Ok-clause-value : goal.returns-in-Ok-clause-value
returns-in-Ok-clause-value g c = λ b.
    let s = c.args.self.now.program.now.sig in
    subst (λ (ts : List Tree). within_limits (theory_at s) (build (theory_at s c.args.op.0) c.args.op.0 ts) b ≡ done (tree_at c.rebuild.new.store c.in-Ok.rebuilt.term.0) 0 b)
    (trees_now s c.args.store.now c.rebuild.new.store c.rebuild.ensures.extends c.args.op.0 c.args.args.now c.requires.operands.under) (c.in-Ok.ensures.value b)

pub returns-in-Ok-clause-changed : goal.returns-in-Ok-clause-changed
returns-in-Ok-clause-changed g c =
    let s = c.args.self.now.program.now.sig in
    subst (λ (ts : List Tree). c.in-Ok.rebuilt.changed ≡ top_changed (theory_at s c.args.op.0) c.args.order.now c.args.op.0 ts (tree_at c.rebuild.new.store c.in-Ok.rebuilt.term.0))
    (trees_now s c.args.store.now c.rebuild.new.store c.rebuild.ensures.extends c.args.op.0 c.args.args.now c.requires.operands.under) c.in-Ok.ensures.changed

pub returns-in-Ok-clause-kind : goal.returns-in-Ok-clause-kind
returns-in-Ok-clause-kind g c = term_kind c.args.self.now.program.now.sig c.requires.operands.lawful c.rebuild.new.store _ c.in-Ok.rebuilt.term.0 c.in-Ok.ensures.term

pub returns-in-Ok-clause-grows : goal.returns-in-Ok-clause-grows
returns-in-Ok-clause-grows g c =
    store_grown (basis_of g.N.Natives.operators c.args.self.now) c.args.store.now c.rebuild.new.store c.args.self.now.table c.args.self.now.begun c.rebuild.ensures.extends c.requires.ready.0

pub returns-in-Err-clause-ends : goal.returns-in-Err-clause-ends
returns-in-Err-clause-ends g c = λ b.
    let s = c.args.self.now.program.now.sig in
    subst (λ (ts : List Tree). IsEnd (within_limits (theory_at s) (build (theory_at s c.args.op.0) c.args.op.0 ts) b) c.in-Err.end)
    (trees_now s c.args.store.now c.rebuild.new.store c.rebuild.ensures.extends c.args.op.0 c.args.args.now c.requires.operands.under)
    (as_end _ c.in-Err.end (c.in-Err.ensures.ends b))

pub returns-in-Err-clause-grows : goal.returns-in-Err-clause-grows
returns-in-Err-clause-grows g c =
    store_grown (basis_of g.N.Natives.operators c.args.self.now) c.args.store.now c.rebuild.new.store c.args.self.now.table c.args.self.now.begun c.rebuild.ensures.extends c.requires.ready.0
