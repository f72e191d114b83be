use Rattle.std.proofs.Common.{◌≡◌, ◌<◌, List, [], length, map, All, Vec, Global, Option, Some, None, IfSome, Result, Ok, Err, refl, sym, ap, ◌∙◌, subst, arith}
use Rattle.std.specs.Option.{option_map}
use Rattle.mau_terms.specs.View.{variable_of}
use Rattle.mau_terms.specs.declared.ids.TermId.{TermId}
use Rattle.mau_terms.specs.declared.ids.VarId.{VarId}
use Rattle.mau_store.specs.Trees.{trees_at}
use Rattle.mau_store.specs.View.{numbers}
use Rattle.mau_program.specs.declared.definitions.StratDef as Written
use Rattle.mau_evaluation.specs.Evaluation.{Binding}
use Rattle.mau_api.specs.Programs.{fragment_of, program_over}
use Rattle.mau_api.specs.Answers.{IsAskable, IsValueOf, IsSolutionOf, binding_in}
use Rattle.mau_api.specs.declared.results.EvalEnd.{EvalEnd}
use Rattle.mau_cond.proofs.Grown.{bound_grown}
use Rattle.mau_reduce.proofs.Numbered.{at_index}
use Rattle.mau_leaves.specs.Answers.{IsNextShown}
use Rattle.mau_leaves.specs.Searches.{found_in, last_in, variables_in}
use Rattle.mau_leaves.specs.Arguments.{last_found}
use Rattle.mau_leaves.specs.Calls.{IsShownFor}
use Rattle.mau_leaves.proofs.Tables.{over_of}
use Rattle.mau_leaves.proofs.Bound.{shown_as, solution_as, behind_references, then_of, if_some}
use Rattle.mau_leaves.proofs.Definitions.{asked_at, one_definition, same_found, none_begun, none_found_yet, found_turn, none_turn, due_turn, stands_within, stands_behind, standing_grown, still_standing}
use Rattle.mau_leaves.proofs.bodies.ask_on.Goals as goal

pub unreachable-requires : goal.unreachable-requires
unreachable-requires g c =
    let m = g.E.Evaluator.meanings c.args.evaluator.now in
    let p = c.args.program.now in
    let old = c.args.store.now in
    let before = g.E.Evaluator.table c.args.evaluator.now in
    let s = c.args.bodies.now in
    let search = c.requires.search in
    none_begun g.L.Lister.asked g.L.Lister.given g.L.Lister.is_for g.L.Lister.with_context p m old before search.0 s.number s.arguments s.standing c.requires.within search.1 c.in-None.is

pub unreachable-requires-in-None-values_found : goal.unreachable-requires-in-None-values_found
unreachable-requires-in-None-values_found g c =
    let m = g.E.Evaluator.meanings c.args.evaluator.now in
    let p = c.args.program.now in
    let old = c.args.store.now in
    let before = g.E.Evaluator.table c.args.evaluator.now in
    let s = c.args.bodies.now in
    let search = c.requires.search in
    let a = c.in-Some.arguments in
    let k = asked_at g.L.Lister.asked g.L.Lister.given g.L.Lister.is_for g.L.Lister.with_context p m c.requires.goes_by c.requires.definitions old before s.number search.0 s.arguments s.standing c.requires.within search.1 a c.in-Some.is in
    none_found_yet a.searches.items k.bound k.found (ap last_found (sym c.deref.ensures.value) ∙ (sym c.values_found.ensures ∙ ap (option_map (λ z. z.now)) c.in-None-values_found.is))

pub bounds-definitions-number : goal.bounds-definitions-number
bounds-definitions-number g c =
    let m = g.E.Evaluator.meanings c.args.evaluator.now in
    let p = c.args.program.now in
    let old = c.args.store.now in
    let before = g.E.Evaluator.table c.args.evaluator.now in
    let s = c.args.bodies.now in
    let search = c.requires.search in
    let a = c.in-Some.arguments in
    let k = asked_at g.L.Lister.asked g.L.Lister.given g.L.Lister.is_for g.L.Lister.with_context p m c.requires.goes_by c.requires.definitions old before s.number search.0 s.arguments s.standing c.requires.within search.1 a c.in-Some.is in
    let h : s.number < length c.items-definitions.result.now = subst (λ (ds : List Written.StratDef). s.number < length ds) (sym c.items-definitions.ensures) k.within in
    h

pub offset_bounds-definitions-number : goal.offset_bounds-definitions-number
offset_bounds-definitions-number g c =
    let m = g.E.Evaluator.meanings c.args.evaluator.now in
    let p = c.args.program.now in
    let old = c.args.store.now in
    let before = g.E.Evaluator.table c.args.evaluator.now in
    let s = c.args.bodies.now in
    let search = c.requires.search in
    let a = c.in-Some.arguments in
    let k = asked_at g.L.Lister.asked g.L.Lister.given g.L.Lister.is_for g.L.Lister.with_context p m c.requires.goes_by c.requires.definitions old before s.number search.0 s.arguments s.standing c.requires.within search.1 a c.in-Some.is in
    let h : s.number < length c.items-definitions.result.now = subst (λ (ds : List Written.StratDef). s.number < length ds) (sym c.items-definitions.ensures) k.within in
    omega (arith, h, c.items-definitions.type_inv.1)

pub ask-requires-clause-condition : goal.ask-requires-clause-condition
ask-requires-clause-condition g c =
    let m = g.E.Evaluator.meanings c.args.evaluator.now in
    let p = c.args.program.now in
    let old = c.args.store.now in
    let before = g.E.Evaluator.table c.args.evaluator.now in
    let s = c.args.bodies.now in
    let search = c.requires.search in
    let a = c.in-Some.arguments in
    let k = asked_at g.L.Lister.asked g.L.Lister.given g.L.Lister.is_for g.L.Lister.with_context p m c.requires.goes_by c.requires.definitions old before s.number search.0 s.arguments s.standing c.requires.within search.1 a c.in-Some.is in
    let d = c.index-definitions-number.result in
    let low = k.within in
    let at = at_index p.strategies c.items-definitions.result.now s.number d c.items-definitions.ensures low c.index-definitions-number.is in
    let one : k.begun.definition ≡ d = one_definition g.L.Lister.asked g.L.Lister.given g.L.Lister.is_for g.L.Lister.with_context p m old before search.0 s.number a s.standing k.begun d at in
    let b = c.in-Some-values_found.bound.now in
    let bound : k.bound ≡ b = same_found a.searches.items k.bound k.found b (ap last_found (sym c.deref.ensures.value) ∙ (sym c.values_found.ensures ∙ ap (option_map (λ z. z.now)) c.in-Some-values_found.is)) in
    subst (λ cs. IsAskable p.sig (variables_in b) cs) (sym c.items.ensures)
    (subst (λ (x : Written.StratDef). IsAskable p.sig (variables_in b) x.cond) one (subst (λ (f : List (VarId × TermId)). IsAskable p.sig (variables_in f) k.begun.definition.cond) bound k.askable))

pub ask-requires-clause-bound : goal.ask-requires-clause-bound
ask-requires-clause-bound g c =
    let m = g.E.Evaluator.meanings c.args.evaluator.now in
    let p = c.args.program.now in
    let old = c.args.store.now in
    let before = g.E.Evaluator.table c.args.evaluator.now in
    let s = c.args.bodies.now in
    let search = c.requires.search in
    let a = c.in-Some.arguments in
    let k = asked_at g.L.Lister.asked g.L.Lister.given g.L.Lister.is_for g.L.Lister.with_context p m c.requires.goes_by c.requires.definitions old before s.number search.0 s.arguments s.standing c.requires.within search.1 a c.in-Some.is in
    let d = c.index-definitions-number.result in
    let low = k.within in
    let at = at_index p.strategies c.items-definitions.result.now s.number d c.items-definitions.ensures low c.index-definitions-number.is in
    let one : k.begun.definition ≡ d = one_definition g.L.Lister.asked g.L.Lister.given g.L.Lister.is_for g.L.Lister.with_context p m old before search.0 s.number a s.standing k.begun d at in
    let b = c.in-Some-values_found.bound.now in
    let bound : k.bound ≡ b = same_found a.searches.items k.bound k.found b (ap last_found (sym c.deref.ensures.value) ∙ (sym c.values_found.ensures ∙ ap (option_map (λ z. z.now)) c.in-Some-values_found.is)) in
    subst (All (IsValueOf p.sig old before)) bound k.values

pub ask-requires-clause-last : goal.ask-requires-clause-last
ask-requires-clause-last g c =
    let m = g.E.Evaluator.meanings c.args.evaluator.now in
    let p = c.args.program.now in
    let old = c.args.store.now in
    let before = g.E.Evaluator.table c.args.evaluator.now in
    let s = c.args.bodies.now in
    let search = c.requires.search in
    let a = c.in-Some.arguments in
    let k = asked_at g.L.Lister.asked g.L.Lister.given g.L.Lister.is_for g.L.Lister.with_context p m c.requires.goes_by c.requires.definitions old before s.number search.0 s.arguments s.standing c.requires.within search.1 a c.in-Some.is in
    let d = c.index-definitions-number.result in
    let low = k.within in
    let at = at_index p.strategies c.items-definitions.result.now s.number d c.items-definitions.ensures low c.index-definitions-number.is in
    let one : k.begun.definition ≡ d = one_definition g.L.Lister.asked g.L.Lister.given g.L.Lister.is_for g.L.Lister.with_context p m old before search.0 s.number a s.standing k.begun d at in
    let b = c.in-Some-values_found.bound.now in
    let bound : k.bound ≡ b = same_found a.searches.items k.bound k.found b (ap last_found (sym c.deref.ensures.value) ∙ (sym c.values_found.ensures ∙ ap (option_map (λ z. z.now)) c.in-Some-values_found.is)) in
    let shown = subst (λ (x : Written.StratDef). IfSome (found_in s.standing) (IsShownFor m p.sig x b old before)) one
    (subst (λ (f : List (VarId × TermId)). IfSome (found_in s.standing) (IsShownFor m p.sig k.begun.definition f old before)) bound k.shown) in
    behind_references (All (IsValueOf p.sig old before)) c.last_of-last.result (found_in s.standing) c.last_of-last.ensures
    (if_some (IsShownFor m p.sig d b old before) (All (IsValueOf p.sig old before)) (λ x h. h.values) (found_in s.standing) shown)

pub ask-requires-clause-solution : goal.ask-requires-clause-solution
ask-requires-clause-solution g c =
    let m = g.E.Evaluator.meanings c.args.evaluator.now in
    let p = c.args.program.now in
    let old = c.args.store.now in
    let before = g.E.Evaluator.table c.args.evaluator.now in
    let s = c.args.bodies.now in
    let search = c.requires.search in
    let a = c.in-Some.arguments in
    let k = asked_at g.L.Lister.asked g.L.Lister.given g.L.Lister.is_for g.L.Lister.with_context p m c.requires.goes_by c.requires.definitions old before s.number search.0 s.arguments s.standing c.requires.within search.1 a c.in-Some.is in
    let d = c.index-definitions-number.result in
    let low = k.within in
    let at = at_index p.strategies c.items-definitions.result.now s.number d c.items-definitions.ensures low c.index-definitions-number.is in
    let one : k.begun.definition ≡ d = one_definition g.L.Lister.asked g.L.Lister.given g.L.Lister.is_for g.L.Lister.with_context p m old before search.0 s.number a s.standing k.begun d at in
    let b = c.in-Some-values_found.bound.now in
    let bound : k.bound ≡ b = same_found a.searches.items k.bound k.found b (ap last_found (sym c.deref.ensures.value) ∙ (sym c.values_found.ensures ∙ ap (option_map (λ z. z.now)) c.in-Some-values_found.is)) in
    let shown = subst (λ (x : Written.StratDef). IfSome (found_in s.standing) (IsShownFor m p.sig x b old before)) one
    (subst (λ (f : List (VarId × TermId)). IfSome (found_in s.standing) (IsShownFor m p.sig k.begun.definition f old before)) bound k.shown) in
    behind_references (λ (f : List (VarId × TermId)). IsSolutionOf m (map fragment_of c.items.result.now) (binding_in old b) (binding_in old f)) c.last_of-last.result (found_in s.standing) c.last_of-last.ensures
    (if_some (IsShownFor m p.sig d b old before) (λ (f : List (VarId × TermId)). IsSolutionOf m (map fragment_of c.items.result.now) (binding_in old b) (binding_in old f))
    (λ f h. solution_as m (map fragment_of d.cond) (map fragment_of c.items.result.now) (sym (ap (map fragment_of) c.items.ensures)) (binding_in old b) (binding_in old b) refl (binding_in old f) (binding_in old f) refl h.solution) (found_in s.standing) shown)

pub returns-in-Ok-Some-clause-turn : goal.returns-in-Ok-Some-clause-turn
returns-in-Ok-Some-clause-turn g c = λ k' n vs is.
    let m = g.E.Evaluator.meanings c.args.evaluator.now in
    let p = c.args.program.now in
    let old = c.args.store.now in
    let before = g.E.Evaluator.table c.args.evaluator.now in
    let s = c.args.bodies.now in
    let search = c.requires.search in
    let a = c.in-Some.arguments in
    let k = asked_at g.L.Lister.asked g.L.Lister.given g.L.Lister.is_for g.L.Lister.with_context p m c.requires.goes_by c.requires.definitions old before s.number vs s.arguments s.standing c.requires.within is a c.in-Some.is in
    let d = c.index-definitions-number.result in
    let low = k.within in
    let at = at_index p.strategies c.items-definitions.result.now s.number d c.items-definitions.ensures low c.index-definitions-number.is in
    let one : k.begun.definition ≡ d = one_definition g.L.Lister.asked g.L.Lister.given g.L.Lister.is_for g.L.Lister.with_context p m old before vs s.number a s.standing k.begun d at in
    let b = c.in-Some-values_found.bound.now in
    let bound : k.bound ≡ b = same_found a.searches.items k.bound k.found b (ap last_found (sym c.deref.ensures.value) ∙ (sym c.values_found.ensures ∙ ap (option_map (λ z. z.now)) c.in-Some-values_found.is)) in
    let new = c.ask.new.store in
    let after = g.E.Evaluator.table c.ask.new.evaluator in
    let over = over_of p m (g.E.Evaluator.meanings c.ask.new.evaluator) c.ask.ensures.meanings c.requires.goes_by.program new after (g.met.E.Evaluator.derived c.ask.new.evaluator new c.ask.ensures.fits) in
    let told = shown_as (program_over p m.hooks) c.args.limit new (Ok (Some c.in-Ok-Some.found.items)) (option_map (λ z. binding_in old z.now) c.last_of-last.result) (last_in old s.standing)
    (then_of (binding_in old) c.last_of-last.result (found_in s.standing) c.last_of-last.ensures) (map fragment_of c.items.result.now) (map fragment_of k.begun.definition.cond) (ap (map fragment_of) c.items.ensures ∙ ap (λ (x : Written.StratDef). map fragment_of x.cond) (sym one))
    (binding_in old b) (binding_in old k.bound) (ap (binding_in old) (sym bound))
    (subst (λ (z : Option (Vec (VarId × TermId) Global)). IsNextShown (program_over p m.hooks) c.args.limit (option_map (λ z. binding_in old z.now) c.last_of-last.result) (map fragment_of c.items.result.now) (binding_in old b) new (Ok (option_map (λ y. y.items) z))) c.in-Ok-Some.field-0-is c.in-Ok-Some.ensures.shown) in
    found_turn g.L.Lister.asked g.L.Lister.given g.L.Lister.is_for g.L.Lister.with_context p m c.requires.runnable.reducible.lawful c.requires.goes_by c.requires.definitions old new before after c.ask.ensures.extends c.ask.ensures.kept over s.number vs k' n s a c.in-Some.is k c.requires.within c.in-Ok-Some.found told

pub returns-in-Ok-Some-clause-search : goal.returns-in-Ok-Some-clause-search
returns-in-Ok-Some-clause-search g c = λ vs is.
    let m = g.E.Evaluator.meanings c.args.evaluator.now in
    let p = c.args.program.now in
    let old = c.args.store.now in
    let before = g.E.Evaluator.table c.args.evaluator.now in
    let s = c.args.bodies.now in
    let search = c.requires.search in
    let a = c.in-Some.arguments in
    let k = asked_at g.L.Lister.asked g.L.Lister.given g.L.Lister.is_for g.L.Lister.with_context p m c.requires.goes_by c.requires.definitions old before s.number vs s.arguments s.standing c.requires.within is a c.in-Some.is in
    let d = c.index-definitions-number.result in
    let low = k.within in
    let at = at_index p.strategies c.items-definitions.result.now s.number d c.items-definitions.ensures low c.index-definitions-number.is in
    let one : k.begun.definition ≡ d = one_definition g.L.Lister.asked g.L.Lister.given g.L.Lister.is_for g.L.Lister.with_context p m old before vs s.number a s.standing k.begun d at in
    let b = c.in-Some-values_found.bound.now in
    let bound : k.bound ≡ b = same_found a.searches.items k.bound k.found b (ap last_found (sym c.deref.ensures.value) ∙ (sym c.values_found.ensures ∙ ap (option_map (λ z. z.now)) c.in-Some-values_found.is)) in
    let new = c.ask.new.store in
    let after = g.E.Evaluator.table c.ask.new.evaluator in
    let over = over_of p m (g.E.Evaluator.meanings c.ask.new.evaluator) c.ask.ensures.meanings c.requires.goes_by.program new after (g.met.E.Evaluator.derived c.ask.new.evaluator new c.ask.ensures.fits) in
    let values = subst (λ (z : Option (Vec (VarId × TermId) Global)). IfSome z (λ y. All (IsValueOf p.sig new after) y.items)) c.in-Ok-Some.field-0-is c.in-Ok-Some.ensures.values in
    let solution = subst (λ (z : Option (Vec (VarId × TermId) Global)). IfSome z (λ y. IsSolutionOf m (map fragment_of c.items.result.now) (binding_in old b) (binding_in new y.items))) c.in-Ok-Some.field-0-is c.in-Ok-Some.ensures.solution in
    stands_within g.L.Lister.asked g.L.Lister.given g.L.Lister.is_for g.L.Lister.with_context p m c.requires.runnable.reducible.lawful c.requires.goes_by c.requires.definitions old new before after c.ask.ensures.extends c.ask.ensures.kept over s.number vs s a c.in-Some.is k c.requires.within c.in-Ok-Some.found values
    (solution_as m (map fragment_of c.items.result.now) (map fragment_of k.begun.definition.cond) (ap (map fragment_of) c.items.ensures ∙ ap (λ (x : Written.StratDef). map fragment_of x.cond) (sym one)) (binding_in old b) (binding_in old k.bound)
    (ap (binding_in old) (sym bound)) (binding_in new c.in-Ok-Some.found.items) (binding_in new c.in-Ok-Some.found.items) refl solution)

pub returns-in-Ok-None-clause-turn : goal.returns-in-Ok-None-clause-turn
returns-in-Ok-None-clause-turn g c = λ k' n vs is.
    let m = g.E.Evaluator.meanings c.args.evaluator.now in
    let p = c.args.program.now in
    let old = c.args.store.now in
    let before = g.E.Evaluator.table c.args.evaluator.now in
    let s = c.args.bodies.now in
    let search = c.requires.search in
    let a = c.in-Some.arguments in
    let k = asked_at g.L.Lister.asked g.L.Lister.given g.L.Lister.is_for g.L.Lister.with_context p m c.requires.goes_by c.requires.definitions old before s.number vs s.arguments s.standing c.requires.within is a c.in-Some.is in
    let d = c.index-definitions-number.result in
    let low = k.within in
    let at = at_index p.strategies c.items-definitions.result.now s.number d c.items-definitions.ensures low c.index-definitions-number.is in
    let one : k.begun.definition ≡ d = one_definition g.L.Lister.asked g.L.Lister.given g.L.Lister.is_for g.L.Lister.with_context p m old before vs s.number a s.standing k.begun d at in
    let b = c.in-Some-values_found.bound.now in
    let bound : k.bound ≡ b = same_found a.searches.items k.bound k.found b (ap last_found (sym c.deref.ensures.value) ∙ (sym c.values_found.ensures ∙ ap (option_map (λ z. z.now)) c.in-Some-values_found.is)) in
    let new = c.ask.new.store in
    let after = g.E.Evaluator.table c.ask.new.evaluator in
    let over = over_of p m (g.E.Evaluator.meanings c.ask.new.evaluator) c.ask.ensures.meanings c.requires.goes_by.program new after (g.met.E.Evaluator.derived c.ask.new.evaluator new c.ask.ensures.fits) in
    let told = shown_as (program_over p m.hooks) c.args.limit new (Ok None) (option_map (λ z. binding_in old z.now) c.last_of-last.result) (last_in old s.standing)
    (then_of (binding_in old) c.last_of-last.result (found_in s.standing) c.last_of-last.ensures) (map fragment_of c.items.result.now) (map fragment_of k.begun.definition.cond) (ap (map fragment_of) c.items.ensures ∙ ap (λ (x : Written.StratDef). map fragment_of x.cond) (sym one))
    (binding_in old b) (binding_in old k.bound) (ap (binding_in old) (sym bound))
    (subst (λ (z : Option (Vec (VarId × TermId) Global)). IsNextShown (program_over p m.hooks) c.args.limit (option_map (λ z. binding_in old z.now) c.last_of-last.result) (map fragment_of c.items.result.now) (binding_in old b) new (Ok (option_map (λ y. y.items) z))) c.in-Ok-None.field-0-is c.in-Ok-None.ensures.shown) in
    none_turn g.L.Lister.asked g.L.Lister.given g.L.Lister.is_for g.L.Lister.with_context p m c.requires.runnable.reducible.lawful c.requires.goes_by c.requires.definitions old new before after c.ask.ensures.extends c.ask.ensures.kept over s.number vs k' n s a c.in-Some.is k c.requires.within told

pub returns-in-Ok-None-clause-search : goal.returns-in-Ok-None-clause-search
returns-in-Ok-None-clause-search g c = λ vs is.
    let m = g.E.Evaluator.meanings c.args.evaluator.now in
    let p = c.args.program.now in
    let old = c.args.store.now in
    let before = g.E.Evaluator.table c.args.evaluator.now in
    let s = c.args.bodies.now in
    let search = c.requires.search in
    let a = c.in-Some.arguments in
    let k = asked_at g.L.Lister.asked g.L.Lister.given g.L.Lister.is_for g.L.Lister.with_context p m c.requires.goes_by c.requires.definitions old before s.number vs s.arguments s.standing c.requires.within is a c.in-Some.is in
    let new = c.ask.new.store in
    let after = g.E.Evaluator.table c.ask.new.evaluator in
    let over = over_of p m (g.E.Evaluator.meanings c.ask.new.evaluator) c.ask.ensures.meanings c.requires.goes_by.program new after (g.met.E.Evaluator.derived c.ask.new.evaluator new c.ask.ensures.fits) in
    stands_behind g.L.Lister.asked g.L.Lister.given g.L.Lister.is_for g.L.Lister.with_context p m c.requires.runnable.reducible.lawful c.requires.goes_by c.requires.definitions old new before after c.ask.ensures.extends c.ask.ensures.kept over s.number vs s a c.in-Some.is k c.requires.within

pub returns-in-Err-clause-turn : goal.returns-in-Err-clause-turn
returns-in-Err-clause-turn g c = λ k' n vs is.
    let m = g.E.Evaluator.meanings c.args.evaluator.now in
    let p = c.args.program.now in
    let old = c.args.store.now in
    let before = g.E.Evaluator.table c.args.evaluator.now in
    let s = c.args.bodies.now in
    let search = c.requires.search in
    let a = c.in-Some.arguments in
    let k = asked_at g.L.Lister.asked g.L.Lister.given g.L.Lister.is_for g.L.Lister.with_context p m c.requires.goes_by c.requires.definitions old before s.number vs s.arguments s.standing c.requires.within is a c.in-Some.is in
    let d = c.index-definitions-number.result in
    let low = k.within in
    let at = at_index p.strategies c.items-definitions.result.now s.number d c.items-definitions.ensures low c.index-definitions-number.is in
    let one : k.begun.definition ≡ d = one_definition g.L.Lister.asked g.L.Lister.given g.L.Lister.is_for g.L.Lister.with_context p m old before vs s.number a s.standing k.begun d at in
    let b = c.in-Some-values_found.bound.now in
    let bound : k.bound ≡ b = same_found a.searches.items k.bound k.found b (ap last_found (sym c.deref.ensures.value) ∙ (sym c.values_found.ensures ∙ ap (option_map (λ z. z.now)) c.in-Some-values_found.is)) in
    let new = c.ask.new.store in
    let after = g.E.Evaluator.table c.ask.new.evaluator in
    let over = over_of p m (g.E.Evaluator.meanings c.ask.new.evaluator) c.ask.ensures.meanings c.requires.goes_by.program new after (g.met.E.Evaluator.derived c.ask.new.evaluator new c.ask.ensures.fits) in
    let told = shown_as (program_over p m.hooks) c.args.limit new (Err c.in-Err.end) (option_map (λ z. binding_in old z.now) c.last_of-last.result) (last_in old s.standing)
    (then_of (binding_in old) c.last_of-last.result (found_in s.standing) c.last_of-last.ensures) (map fragment_of c.items.result.now) (map fragment_of k.begun.definition.cond) (ap (map fragment_of) c.items.ensures ∙ ap (λ (x : Written.StratDef). map fragment_of x.cond) (sym one))
    (binding_in old b) (binding_in old k.bound) (ap (binding_in old) (sym bound))
    c.in-Err.ensures.shown in (
      still_standing g.L.Lister.asked g.L.Lister.given g.L.Lister.is_for g.L.Lister.with_context p m old new before after c.ask.ensures.extends c.ask.ensures.kept c.requires.goes_by over vs s.number k' n (trees_at old (numbers vs)) s.arguments s.standing is,
      due_turn g.L.Lister.asked g.L.Lister.given g.L.Lister.is_for g.L.Lister.with_context p m c.requires.runnable.reducible.lawful c.requires.goes_by c.requires.definitions old new before after c.ask.ensures.extends c.ask.ensures.kept over s.number vs k' n s a c.in-Some.is k c.requires.within c.args.limit c.in-Err.end told,
    )

pub returns-in-Err-clause-search : goal.returns-in-Err-clause-search
returns-in-Err-clause-search g c = λ vs is.
    let m = g.E.Evaluator.meanings c.args.evaluator.now in
    let p = c.args.program.now in
    let old = c.args.store.now in
    let before = g.E.Evaluator.table c.args.evaluator.now in
    let s = c.args.bodies.now in
    let search = c.requires.search in
    let new = c.ask.new.store in
    let after = g.E.Evaluator.table c.ask.new.evaluator in
    let over = over_of p m (g.E.Evaluator.meanings c.ask.new.evaluator) c.ask.ensures.meanings c.requires.goes_by.program new after (g.met.E.Evaluator.derived c.ask.new.evaluator new c.ask.ensures.fits) in
    standing_grown g.L.Lister.asked g.L.Lister.given g.L.Lister.is_for g.L.Lister.with_context p m old new before after c.ask.ensures.extends c.ask.ensures.kept c.requires.goes_by over vs s.number s.arguments s.standing is
