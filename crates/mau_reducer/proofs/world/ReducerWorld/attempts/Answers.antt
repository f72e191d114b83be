use Rattle.std.proofs.Common.{◌≡◌, suc, drop, sym, subst}
use Rattle.std.specs.Option.{option_map}
use Rattle.mau_store.specs.Trees.{tree_at}
use Rattle.mau_evaluation.specs.Evaluation.{levels, applied}
use Rattle.mau_api.specs.Programs.{program_over}
use Rattle.mau_reduce.specs.Attempting.{untried_by}
use Rattle.mau_reduce.specs.ByTop.{order_for}
use Rattle.mau_reducer.specs.Worlds.{basis_of}
use Rattle.mau_reducer.specs.LaterStates.{same_state}
use Rattle.mau_reducer.proofs.Settlings.{sorts_settled}
use Rattle.mau_reducer.proofs.world.ReducerWorld.attempts.Goals as goal

pub returns-clause-value : goal.returns-clause-value
returns-clause-value g c =
    let w = c.args.self.now in
    let P = program_over w.program.now (g.N.Natives.operators w.natives) in
    let t = tree_at c.args.store.now c.args.term.0 in (
      sorts_settled (basis_of g.N.Natives.operators w) c.requires.ready.0.basis c.args.store.now w.table c.requires.ready.0.derived c.args.term.0 c.requires.term,
      λ k b.
          subst (λ a. untried_by P w.limit k c.args.store.now t a.given (option_map (λ x. (x.number, g.L.Lister.given x.listing)) a.tried) (drop a.next (order_for w.program.now t)) b
          ≡ applied P (levels P w.limit k) (levels P w.limit (suc k)).sorts t b)
          (sym c.in_ok-attempts.ensures.ok) (c.begin_attempts-begun.ensures.untried w.limit k b),
    )

pub returns-clause-grows : goal.returns-clause-grows
returns-clause-grows g c = same_state (basis_of g.N.Natives.operators c.args.self.now) c.args.store.now c.args.self.now.table c.args.self.now.begun c.requires.ready.0

pub returns-in_err-attempts-clause-grows : goal.returns-in_err-attempts-clause-grows
returns-in_err-attempts-clause-grows g c = same_state (basis_of g.N.Natives.operators c.args.self.now) c.args.store.now c.args.self.now.table c.args.self.now.begun c.requires.ready.0
