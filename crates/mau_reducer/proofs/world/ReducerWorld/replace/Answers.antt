use Rattle.std.proofs.Common.{◌≡◌, suc, IfOk, IfErr, sym, subst}
use Rattle.mau_terms.specs.Norm.{norm}
use Rattle.mau_signature.specs.Signature.{theory_at}
use Rattle.mau_store.specs.Trees.{tree_at}
use Rattle.mau_evaluation.specs.Evaluation.{eval}
use Rattle.mau_api.specs.Programs.{program_over}
use Rattle.mau_reduce.specs.Ends.{IsEnd}
use Rattle.mau_reduce.specs.Bindings.{bound_in}
use Rattle.mau_reduce.specs.Attempting.{makes_of}
use Rattle.mau_reducer.specs.Worlds.{basis_of}
use Rattle.mau_reducer.specs.LaterStates.{store_grown}
use Rattle.mau_reducer.proofs.Taking.{made_kind, made_known, as_ends}
use Rattle.mau_reducer.proofs.world.ReducerWorld.replace.Goals as goal

pub make-requires-clause-compiled : goal.make-requires-clause-compiled
make-requires-clause-compiled g c = c.requires.ready.0.basis.compiled

pub returns-clause-value : goal.returns-clause-value
returns-clause-value g c = λ k b.
    let P = program_over c.args.self.now.program.now (g.N.Natives.operators c.args.self.now.natives) in
    let new = c.make.new.store in
    let a = c.deref.result.now in
    rw (← c.deref.ensures) (subst (λ n. IfOk c.make.result (λ t. eval P (suc k) c.args.self.now.limit (makes_of P new (tree_at new n) a.given a.last (bound_in new c.args.binding.now)) b ≡ eval P (suc k) c.args.self.now.limit (tree_at new t.0) b))
    (sym c.requires.candidate.own) (c.make.ensures.value (g.N.Natives.operators c.args.self.now.natives) c.args.self.now.limit k b))

pub returns-clause-ends : goal.returns-clause-ends
returns-clause-ends g c = λ k b.
    let P = program_over c.args.self.now.program.now (g.N.Natives.operators c.args.self.now.natives) in
    let new = c.make.new.store in
    let a = c.deref.result.now in
    rw (← c.deref.ensures) (as_ends (eval P (suc k) c.args.self.now.limit (makes_of P new (tree_at new c.args.attempts.now.term.0) a.given a.last (bound_in new c.args.binding.now)) b) c.make.result
    (subst (λ n. IfErr c.make.result (IsEnd (eval P (suc k) c.args.self.now.limit (makes_of P new (tree_at new n) a.given a.last (bound_in new c.args.binding.now)) b)))
    (sym c.requires.candidate.own) (c.make.ensures.ends (g.N.Natives.operators c.args.self.now.natives) c.args.self.now.limit k b)))

pub returns-clause-is : goal.returns-clause-is
returns-clause-is g c =
    let P = program_over c.args.self.now.program.now (g.N.Natives.operators c.args.self.now.natives) in
    let new = c.make.new.store in
    let a = c.deref.result.now in
    rw (← c.deref.ensures) (subst (λ n. IfOk c.make.result (λ t. tree_at new t.0 ≡ norm (theory_at c.args.self.now.program.now.sig) (makes_of P new (tree_at new n) a.given a.last (bound_in new c.args.binding.now))))
    (sym c.requires.candidate.own) (c.make.ensures.is (g.N.Natives.operators c.args.self.now.natives)))

pub returns-clause-kind : goal.returns-clause-kind
returns-clause-kind g c =
    let known = c.requires.term.known in
    made_kind c.args.self.now.program.now.sig known.lawful c.args.store.now c.make.new.store c.make.ensures.extends known.term.bare.0 c.args.term.0 (record { within = known.term.within; bare = known.term.bare.1 }) c.make.result
    (c.make.ensures.kind (g.N.Natives.operators c.args.self.now.natives) known.term.bare.0 c.requires.ready.0.basis.gives (rw c.deref.ensures c.requires.candidate.given_at) (record { within = known.term.within; bare = known.term.bare.1 }))

pub returns-clause-known : goal.returns-clause-known
returns-clause-known g c =
    let known = c.requires.term.known in
    made_known c.args.self.now.program.now.sig known.lawful c.args.store.now c.make.new.store c.make.ensures.extends known.term.bare.0 c.args.term.0 (record { within = known.term.within; bare = known.term.bare.1 }) c.make.result
    (c.make.ensures.kind (g.N.Natives.operators c.args.self.now.natives) known.term.bare.0 c.requires.ready.0.basis.gives (rw c.deref.ensures c.requires.candidate.given_at) (record { within = known.term.within; bare = known.term.bare.1 }))

pub returns-clause-grows : goal.returns-clause-grows
returns-clause-grows g c =
    store_grown (basis_of g.N.Natives.operators c.args.self.now) c.args.store.now c.make.new.store c.args.self.now.table c.args.self.now.begun c.make.ensures.extends c.requires.ready.0
