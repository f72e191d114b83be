use Rattle.std.proofs.Common.{suc, false, sym, ap}
use Rattle.mau_terms.specs.declared.ids.TermId.{TermId}
use Rattle.mau_store.specs.Trees.{tree_at}
use Rattle.mau_api.specs.Answers.{binding_in}
use Rattle.mau_reduce.specs.declared.binding.Binding.{Binding as Kept}
use Rattle.mau_reduce.specs.Bindings.{bound_in}
use Rattle.mau_reduce.proofs.DerivedKinds.{sort_table}
use Rattle.mau_reduce.proofs.LaterStores.{bound_grown}
use Rattle.mau_machine.specs.Words.{rest_of}
use Rattle.mau_reducer.specs.Handles.{rules_of}
use Rattle.mau_reducer.specs.Worlds.{basis_of}
use Rattle.mau_reducer.specs.LaterStates.{store_grown}
use Rattle.mau_reducer.proofs.Conditions.{has_pattern, pattern_at, pattern_bare}
use Rattle.mau_reducer.proofs.Choosing.{asked_for, choice_one, own_next, known_one, choices_still}
use Rattle.mau_reducer.proofs.world.ReducerWorld.own.Goals as goal

pub unreachable-requires : goal.unreachable-requires
unreachable-requires g c = has_pattern (basis_of g.N.Natives.operators c.args.self.now) c.args.condition c.args.at c.requires.choices.asks (sym c.in-None.ensures)

pub own_choice-requires-clause-pattern : goal.own_choice-requires-clause-pattern
own_choice-requires-clause-pattern g c =
    let u = pattern_at (basis_of g.N.Natives.operators c.args.self.now) c.args.condition c.args.at c.in-Some.pattern.now (sym c.in-Some.ensures) in
    pattern_bare (basis_of g.N.Natives.operators c.args.self.now) c.args.condition c.args.at c.requires.ready.0.basis c.in-Some.pattern.now u.0 u.1

pub own_choice-requires-clause-choosing : goal.own_choice-requires-clause-choosing
own_choice-requires-clause-choosing g c =
    let u = pattern_at (basis_of g.N.Natives.operators c.args.self.now) c.args.condition c.args.at c.in-Some.pattern.now (sym c.in-Some.ensures) in
    asked_for g.L.Lister.with_context g.L.Lister.asked g.L.Lister.given g.L.Lister.is_for g.M.Lister.asked g.M.Lister.given g.M.Lister.is_for
    (basis_of g.N.Natives.operators c.args.self.now) c.args.store.now c.args.self.now.table c.args.condition c.args.at c.in-Some.pattern.now u.0 u.1 c.args.choices.now c.requires.choices

pub own_choice-requires-clause-sort_table : goal.own_choice-requires-clause-sort_table
own_choice-requires-clause-sort_table g c =
    sort_table c.args.self.now.program.now c.requires.ready.0.basis.reducible (g.N.Natives.operators c.args.self.now.natives) c.args.self.now.limit false c.args.store.now c.args.self.now.table c.requires.ready.0.derived

pub returns-in-Ok-clause-own : goal.returns-in-Ok-clause-own
returns-in-Ok-clause-own g c =
    let u = pattern_at (basis_of g.N.Natives.operators c.args.self.now) c.args.condition c.args.at c.in-Some.pattern.now (sym c.in-Some.ensures) in
    let b = (basis_of g.N.Natives.operators c.args.self.now) in
    let σ : Kept = record { variables = c.into_parts-variables.result.0; values = c.into_parts-variables.result.1 } in
    own_next g.L.Lister.with_context g.L.Lister.asked g.L.Lister.given g.L.Lister.is_for g.M.Lister.asked g.M.Lister.given g.M.Lister.is_for
    (basis_of g.N.Natives.operators c.args.self.now) c.args.store.now c.own_choice.new.store c.args.self.now.table c.args.self.now.table c.args.self.now.begun (store_grown (basis_of g.N.Natives.operators c.args.self.now) c.args.store.now c.own_choice.new.store c.args.self.now.table c.args.self.now.begun c.own_choice.ensures.extends c.requires.ready.0)
    c.args.condition c.args.at c.in-Some.pattern.now u.0 u.1 c.args.choices.now c.own_choice.new.choices c.requires.choices c.own_choice.ensures.binding c.own_choice.ensures.value
    (bound_in c.args.store.now c.args.last.now) (bound_in c.own_choice.new.store c.args.last.now) (bound_grown b.program c.args.store.now c.own_choice.new.store c.own_choice.ensures.extends c.args.last.now c.requires.last) σ c.in-Ok.bound c.into_parts-variables.ensures.pairs
    (c.in-Ok.ensures.own b.hooks b.limit c.requires.ready.0.derived (rest_of (rules_of b) c.args.condition (suc c.args.at)))

pub returns-in-Ok-clause-known : goal.returns-in-Ok-clause-known
returns-in-Ok-clause-known g c =
    let u = pattern_at (basis_of g.N.Natives.operators c.args.self.now) c.args.condition c.args.at c.in-Some.pattern.now (sym c.in-Some.ensures) in
    let σ : Kept = record { variables = c.into_parts-variables.result.0; values = c.into_parts-variables.result.1 } in (
      choices_still g.L.Lister.with_context g.L.Lister.asked g.L.Lister.given g.L.Lister.is_for g.M.Lister.asked g.M.Lister.given g.M.Lister.is_for
          (basis_of g.N.Natives.operators c.args.self.now) c.args.store.now c.own_choice.new.store c.args.self.now.table c.args.self.now.table c.args.self.now.begun (store_grown (basis_of g.N.Natives.operators c.args.self.now) c.args.store.now c.own_choice.new.store c.args.self.now.table c.args.self.now.begun c.own_choice.ensures.extends c.requires.ready.0)
          c.args.condition c.args.at c.in-Some.pattern.now u.0 u.1 c.args.choices.now c.own_choice.new.choices c.requires.choices c.own_choice.ensures.binding c.own_choice.ensures.value c.in-Ok.ensures.choosing,
      known_one g.L.Lister.with_context g.L.Lister.asked g.L.Lister.given g.L.Lister.is_for g.M.Lister.asked g.M.Lister.given g.M.Lister.is_for
          (basis_of g.N.Natives.operators c.args.self.now) c.args.store.now c.own_choice.new.store c.args.self.now.table c.args.self.now.table c.args.self.now.begun (store_grown (basis_of g.N.Natives.operators c.args.self.now) c.args.store.now c.own_choice.new.store c.args.self.now.table c.args.self.now.begun c.own_choice.ensures.extends c.requires.ready.0)
          c.args.condition c.args.at c.in-Some.pattern.now u.0 u.1 c.args.choices.now c.own_choice.new.choices c.requires.choices c.own_choice.ensures.binding c.own_choice.ensures.value σ c.in-Ok.bound c.into_parts-variables.ensures.pairs c.into_parts-variables.ensures.one_each c.in-Ok.ensures.values c.in-Ok.ensures.variables,
    )

pub returns-in-Ok-clause-begun : goal.returns-in-Ok-clause-begun
returns-in-Ok-clause-begun g c =
    (ap (binding_in c.own_choice.new.store) c.own_choice.ensures.binding, ap (λ (t : TermId). tree_at c.own_choice.new.store t.0) c.own_choice.ensures.value)

pub returns-in-Ok-clause-solves : goal.returns-in-Ok-clause-solves
returns-in-Ok-clause-solves g c =
    let u = pattern_at (basis_of g.N.Natives.operators c.args.self.now) c.args.condition c.args.at c.in-Some.pattern.now (sym c.in-Some.ensures) in
    let σ : Kept = record { variables = c.into_parts-variables.result.0; values = c.into_parts-variables.result.1 } in
    choice_one g.L.Lister.with_context g.L.Lister.asked g.L.Lister.given g.L.Lister.is_for g.M.Lister.asked g.M.Lister.given g.M.Lister.is_for
    (basis_of g.N.Natives.operators c.args.self.now) c.args.store.now c.own_choice.new.store c.args.self.now.table c.args.self.now.table c.args.self.now.begun (store_grown (basis_of g.N.Natives.operators c.args.self.now) c.args.store.now c.own_choice.new.store c.args.self.now.table c.args.self.now.begun c.own_choice.ensures.extends c.requires.ready.0)
    c.args.condition c.args.at c.in-Some.pattern.now u.0 u.1 c.args.choices.now c.own_choice.new.choices c.requires.choices c.own_choice.ensures.binding c.own_choice.ensures.value σ c.in-Ok.bound c.into_parts-variables.ensures.pairs c.in-Ok.ensures.extension c.in-Ok.ensures.solves

pub returns-in-Ok-clause-grows : goal.returns-in-Ok-clause-grows
returns-in-Ok-clause-grows g c = store_grown (basis_of g.N.Natives.operators c.args.self.now) c.args.store.now c.own_choice.new.store c.args.self.now.table c.args.self.now.begun c.own_choice.ensures.extends c.requires.ready.0

pub returns-in-Err-clause-grows : goal.returns-in-Err-clause-grows
returns-in-Err-clause-grows g c = store_grown (basis_of g.N.Natives.operators c.args.self.now) c.args.store.now c.own_choice.new.store c.args.self.now.table c.args.self.now.begun c.own_choice.ensures.extends c.requires.ready.0
