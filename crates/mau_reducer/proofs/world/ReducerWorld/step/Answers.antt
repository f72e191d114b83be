use Rattle.std.proofs.Common.{map, ap, ◌∙◌}
use Rattle.mau_terms.specs.Norm.{norm}
use Rattle.mau_terms.specs.View.{variable_of}
use Rattle.mau_signature.specs.Signature.{theory_at}
use Rattle.mau_store.specs.Trees.{tree_at, trees_at}
use Rattle.mau_store.specs.View.{numbers}
use Rattle.mau_listing.specs.Asked.{HasEntry}
use Rattle.mau_api.specs.Programs.{program_over}
use Rattle.mau_reduce.specs.Bindings.{bound_in}
use Rattle.mau_reduce.specs.Attempting.{makes_of}
use Rattle.mau_reducer.specs.Worlds.{basis_of}
use Rattle.mau_reducer.specs.LaterStates.{store_grown}
use Rattle.mau_reducer.proofs.Taking.{solved_variables, variables_are, use_told, value_made}
use Rattle.mau_reducer.proofs.world.ReducerWorld.step.Goals as goal

pub step-requires-clause-variables : goal.step-requires-clause-variables
step-requires-clause-variables g c =
    let a = c.args.attempts.now.attempts.value in
    let σ = c.requires.solution in
    solved_variables (basis_of g.N.Natives.operators c.args.self.now) c.args.store.now c.args.self.now.table c.args.condition σ.0 c.args.binding.now σ.1 σ.2
    ∙ variables_are (basis_of g.N.Natives.operators c.args.self.now) c.requires.ready.0.basis c.args.store.now (tree_at c.args.store.now c.args.term.0) c.args.condition a.given a.last c.requires.candidate.last

pub returns-clause-used : goal.returns-clause-used
returns-clause-used g c =
    let b = basis_of g.N.Natives.operators c.args.self.now in
    let s = c.args.self.now.program.now.sig in
    let old = c.args.store.now in
    let new = c.step.new.store in
    let a = c.args.attempts.now.attempts.value in
    let σ = c.args.binding.now in
    let k = c.requires.solution in
    let named = solved_variables b old c.args.self.now.table c.args.condition k.0 σ k.1 k.2 ∙ variables_are b c.requires.ready.0.basis old (tree_at old c.args.term.0) c.args.condition a.given a.last c.requires.candidate.last in
    use_told b c.requires.ready.0.basis (HasEntry s new c.args.self.now.table) old new (tree_at old c.args.term.0) c.args.condition a.given a.last c.requires.candidate.last
    (map variable_of σ.variables.items) (trees_at new (numbers σ.values.items)) named (tree_at new c.args.term.0) (tree_at new c.args.after.0) c.step.result
    (rw (← c.deref.ensures) (c.step.ensures.equation c.args.self.now.table k.1.sorts))
    (λ v. c.step.ensures.built_in (g.N.Natives.operators c.args.self.now.natives) (rw c.deref.ensures v) (rw c.deref.ensures c.requires.candidate.given_at)
    (rw c.deref.ensures (c.requires.is
    ∙ (ap (λ n. norm (theory_at s) (makes_of (program_over c.args.self.now.program.now (g.N.Natives.operators c.args.self.now.natives)) old (tree_at old n) a.given a.last (bound_in old σ))) c.requires.candidate.own
    ∙ ap (norm (theory_at s)) (value_made (program_over c.args.self.now.program.now (g.N.Natives.operators c.args.self.now.natives)) old (tree_at old c.args.term.0) a.given a.last (bound_in old σ) v)))))

pub returns-clause-grows : goal.returns-clause-grows
returns-clause-grows g c =
    store_grown (basis_of g.N.Natives.operators c.args.self.now) c.args.store.now c.step.new.store c.args.self.now.table c.args.self.now.begun c.step.ensures.extends c.requires.ready.0
