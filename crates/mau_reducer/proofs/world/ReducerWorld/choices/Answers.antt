use Rattle.std.proofs.Common.{◌≡◌, List, All, IfOk, map, sym, subst}
use Rattle.mau_terms.specs.View.{tree_of, variable_of}
use Rattle.mau_terms.specs.declared.ids.VarId.{VarId}
use Rattle.mau_terms.specs.declared.ids.TermId.{TermId}
use Rattle.mau_api.specs.Answers.{IsValueOf, AreApart}
use Rattle.mau_reducer.specs.Worlds.{basis_of}
use Rattle.mau_reducer.specs.LaterStates.{same_state}
use Rattle.mau_reducer.proofs.Conditions.{has_pattern, pattern_at, pattern_is, pattern_bare}
use Rattle.mau_reducer.proofs.Choosing.{one_value_each, all_values, all_apart, begun_value, begun_same, begun_known}
use Rattle.mau_reducer.proofs.world.ReducerWorld.choices.Goals as goal

pub unreachable-requires : goal.unreachable-requires
unreachable-requires g c = has_pattern (basis_of g.N.Natives.operators c.args.self.now) c.args.condition c.args.at c.requires.asks (sym c.in-None.ensures)

pub from_parts-bound-requires : goal.from_parts-bound-requires
from_parts-bound-requires g c = one_value_each (basis_of g.N.Natives.operators c.args.self.now) c.args.store.now c.args.self.now.table c.args.condition c.args.at c.args.binding c.requires.binding

pub begin_choices-requires-clause-pattern : goal.begin_choices-requires-clause-pattern
begin_choices-requires-clause-pattern g c =
    let b = basis_of g.N.Natives.operators c.args.self.now in
    let u = pattern_at b c.args.condition c.args.at c.in-Some.pattern.now (sym c.in-Some.ensures) in
    pattern_bare b c.args.condition c.args.at c.requires.ready.0.basis c.in-Some.pattern.now u.0 u.1

pub begin_choices-requires-clause-values : goal.begin_choices-requires-clause-values
begin_choices-requires-clause-values g c =
    subst (All (IsValueOf c.args.self.now.program.now.sig c.args.store.now c.args.self.now.table)) (sym c.from_parts-bound.ensures)
    (all_values (basis_of g.N.Natives.operators c.args.self.now) c.args.store.now c.args.self.now.table c.args.condition c.args.at c.args.binding c.requires.binding)

pub begin_choices-requires-clause-apart : goal.begin_choices-requires-clause-apart
begin_choices-requires-clause-apart g c =
    subst (λ (bs : List (VarId × TermId)). AreApart (map (λ (y : VarId × TermId). variable_of y.0) bs)) (sym c.from_parts-bound.ensures)
    (all_apart (basis_of g.N.Natives.operators c.args.self.now) c.requires.ready.0.basis.askable.apart c.args.store.now c.args.self.now.table c.args.condition c.args.at c.args.binding c.requires.binding)

pub returns-clause-value : goal.returns-clause-value
returns-clause-value g c =
    begun_value g.L.Lister.with_context g.L.Lister.asked g.L.Lister.given g.L.Lister.is_for g.M.Lister.asked g.M.Lister.given g.M.Lister.is_for
    (basis_of g.N.Natives.operators c.args.self.now) c.args.store.now c.args.self.now.table c.args.condition c.args.at c.args.binding c.requires.binding c.args.value c.begin_choices.result
    c.begin_choices.ensures.given (subst (λ bs. IfOk c.begin_choices.result (λ x. x.binding ≡ bs)) c.from_parts-bound.ensures c.begin_choices.ensures.binding) c.begin_choices.ensures.value

pub returns-clause-known : goal.returns-clause-known
returns-clause-known g c =
    let u = pattern_at (basis_of g.N.Natives.operators c.args.self.now) c.args.condition c.args.at c.in-Some.pattern.now (sym c.in-Some.ensures) in
    begun_known g.L.Lister.with_context g.L.Lister.asked g.L.Lister.given g.L.Lister.is_for g.M.Lister.asked g.M.Lister.given g.M.Lister.is_for
    (basis_of g.N.Natives.operators c.args.self.now) c.args.store.now c.args.self.now.table c.args.condition c.args.at c.args.binding c.requires.binding c.args.value (tree_of c.in-Some.pattern.now)
    (pattern_is (basis_of g.N.Natives.operators c.args.self.now) c.args.condition c.args.at c.in-Some.pattern.now u.0 u.1) c.requires.asks c.begin_choices.result
    (subst (λ bs. IfOk c.begin_choices.result (λ x. x.binding ≡ bs)) c.from_parts-bound.ensures c.begin_choices.ensures.binding) c.begin_choices.ensures.choosing

pub returns-clause-begun : goal.returns-clause-begun
returns-clause-begun g c =
    begun_same g.L.Lister.with_context g.L.Lister.asked g.L.Lister.given g.L.Lister.is_for g.M.Lister.asked g.M.Lister.given g.M.Lister.is_for
    (basis_of g.N.Natives.operators c.args.self.now) c.args.store.now c.args.self.now.table c.args.condition c.args.at c.args.binding c.requires.binding c.args.value c.begin_choices.result
    (subst (λ bs. IfOk c.begin_choices.result (λ x. x.binding ≡ bs)) c.from_parts-bound.ensures c.begin_choices.ensures.binding) c.begin_choices.ensures.value

pub returns-clause-grows : goal.returns-clause-grows
returns-clause-grows g c = same_state (basis_of g.N.Natives.operators c.args.self.now) c.args.store.now c.args.self.now.table c.args.self.now.begun c.requires.ready.0
