use Rattle.std.proofs.Common.{◌≡◌, ◌+◌, ◌<◌, ℕ, suc, List, [], length, map, All, Option, Some, None, IsSome, false, true, Result, Ok, Err, refl, sym, ap, ◌∙◌, subst, arith, add-one}
use Rattle.std.specs.Option.{option_map}
use Rattle.std.proofs.lemmas.List.{length-map}
use Rattle.mau_terms.specs.Tree.{Tree}
use Rattle.mau_terms.specs.Bare.{IsBare}
use Rattle.mau_terms.specs.View.{tree_of}
use Rattle.mau_signature.specs.Signature.{terms_over}
use Rattle.mau_store.specs.Trees.{trees_at}
use Rattle.mau_store.specs.View.{numbers}
use Rattle.mau_program.specs.LawfulStrategies.{IsLawfulDefinition}
use Rattle.mau_program.specs.declared.definitions.StratDef as Written
use Rattle.mau_evaluation.specs.Engine.{Engine, engine_of}
use Rattle.mau_api.specs.Programs.{program_over}
use Rattle.mau_api.specs.Answers.{binding_in}
use Rattle.mau_reduce.proofs.Numbered.{at_index, is_among}
use Rattle.mau_rules.proofs.Shown.{all_in}
use Rattle.mau_leaves.specs.Searches.{IsTurn}
use Rattle.mau_leaves.specs.InTurn.{just}
use Rattle.mau_leaves.specs.Arguments.{last_found, left_of_arguments, IsArgumentSearch}
use Rattle.mau_leaves.specs.Calls.{IsStanding}
use Rattle.mau_leaves.specs.Steps.{Passes, Throughout}
use Rattle.mau_leaves.specs.Calls.{left_standing}
use Rattle.mau_leaves.specs.declared.turn.Turn.{Turn}
use Rattle.mau_leaves.specs.declared.turn.Turn.TheVariants.{Found, Passed, Over}
use Rattle.mau_leaves.specs.declared.arguments.ArgumentSearch.{ArgumentSearch}
use Rattle.mau_leaves.proofs.Definitions.{begun_within, one_definition, matched_found, matched_passed, matched_over, matched_ends, standing_found, standing_matched}
use Rattle.mau_leaves.proofs.bodies.match_on.Goals as goal

some_of : {A : Type 0} (o : Option A) → IsSome o → (x : A) × (o ≡ Some x)
some_of None h = cc
some_of (Some x) h = (x, refl)

pub overflow_add-bodies : goal.overflow_add-bodies
overflow_add-bodies g c =
    let m = g.E.Evaluator.meanings c.args.evaluator.now in
    let p = c.args.program.now in
    let old = c.args.store.now in
    let before = g.E.Evaluator.table c.args.evaluator.now in
    let s = c.args.bodies.now in
    let vs = c.args.values.now in
    let some = some_of s.arguments c.requires.begun in
    let is = subst (λ (o : Option (ArgumentSearch _)). IsStanding g.L.Lister.asked g.L.Lister.given g.L.Lister.is_for g.L.Lister.with_context p m old before vs s.number o s.standing) some.1 c.requires.search in
    let h : s.number < length c.items-definitions.result.now = subst (λ (ds : List Written.StratDef). s.number < length ds) (sym c.items-definitions.ensures) (begun_within g.L.Lister.asked g.L.Lister.given g.L.Lister.is_for g.L.Lister.with_context p m old before vs s.number some.0 s.standing is) in
    omega (arith, h, c.items-definitions.type_inv.0)

pub turn_in-requires-clause-patterns : goal.turn_in-requires-clause-patterns
turn_in-requires-clause-patterns g c =
    let m = g.E.Evaluator.meanings c.args.evaluator.now in
    let p = c.args.program.now in
    let old = c.args.store.now in
    let before = g.E.Evaluator.table c.args.evaluator.now in
    let s = c.args.bodies.now in
    let vs = c.args.values.now in
    let a = c.in-Some.arguments in
    let is = subst (λ (o : Option (ArgumentSearch _)). IsStanding g.L.Lister.asked g.L.Lister.given g.L.Lister.is_for g.L.Lister.with_context p m old before vs s.number o s.standing) c.in-Some.is c.requires.search in
    let d = c.index-definitions-number.result in
    let low = begun_within g.L.Lister.asked g.L.Lister.given g.L.Lister.is_for g.L.Lister.with_context p m old before vs s.number a s.standing is in
    let at = at_index p.strategies c.items-definitions.result.now s.number d c.items-definitions.ensures low c.index-definitions-number.is in
    let one : is.definition ≡ d = one_definition g.L.Lister.asked g.L.Lister.given g.L.Lister.is_for g.L.Lister.with_context p m old before vs s.number a s.standing is d at in
    let own : map tree_of c.items-patterns.result.now ≡ is.definition.args = c.items-patterns.ensures ∙ ap (λ (x : Written.StratDef). x.args) (sym one) in
    let lawful = all_in (IsLawfulDefinition p.sig) p.strategies d c.requires.definitions (is_among p.strategies s.number d at) in
    subst (All (IsBare (terms_over p.sig))) (sym c.items-patterns.ensures) lawful.args

pub turn_in-requires-clause-search : goal.turn_in-requires-clause-search
turn_in-requires-clause-search g c =
    let m = g.E.Evaluator.meanings c.args.evaluator.now in
    let p = c.args.program.now in
    let old = c.args.store.now in
    let before = g.E.Evaluator.table c.args.evaluator.now in
    let s = c.args.bodies.now in
    let vs = c.args.values.now in
    let a = c.in-Some.arguments in
    let is = subst (λ (o : Option (ArgumentSearch _)). IsStanding g.L.Lister.asked g.L.Lister.given g.L.Lister.is_for g.L.Lister.with_context p m old before vs s.number o s.standing) c.in-Some.is c.requires.search in
    let d = c.index-definitions-number.result in
    let low = begun_within g.L.Lister.asked g.L.Lister.given g.L.Lister.is_for g.L.Lister.with_context p m old before vs s.number a s.standing is in
    let at = at_index p.strategies c.items-definitions.result.now s.number d c.items-definitions.ensures low c.index-definitions-number.is in
    let one : is.definition ≡ d = one_definition g.L.Lister.asked g.L.Lister.given g.L.Lister.is_for g.L.Lister.with_context p m old before vs s.number a s.standing is d at in
    let own : map tree_of c.items-patterns.result.now ≡ is.definition.args = c.items-patterns.ensures ∙ ap (λ (x : Written.StratDef). x.args) (sym one) in
    subst (λ (ps : List Tree). IsArgumentSearch g.L.Lister.asked g.L.Lister.given g.L.Lister.is_for g.L.Lister.with_context p m old before ps vs a) (sym own) is.arguments

pub returns-in-Ok-Found-clause-turn : goal.returns-in-Ok-Found-clause-turn
returns-in-Ok-Found-clause-turn g c = λ k n.
    let m = g.E.Evaluator.meanings c.args.evaluator.now in
    let p = c.args.program.now in
    let old = c.args.store.now in
    let before = g.E.Evaluator.table c.args.evaluator.now in
    let s = c.args.bodies.now in
    let vs = c.args.values.now in
    let a = c.in-Some.arguments in
    let is = subst (λ (o : Option (ArgumentSearch _)). IsStanding g.L.Lister.asked g.L.Lister.given g.L.Lister.is_for g.L.Lister.with_context p m old before vs s.number o s.standing) c.in-Some.is c.requires.search in
    let d = c.index-definitions-number.result in
    let low = begun_within g.L.Lister.asked g.L.Lister.given g.L.Lister.is_for g.L.Lister.with_context p m old before vs s.number a s.standing is in
    let at = at_index p.strategies c.items-definitions.result.now s.number d c.items-definitions.ensures low c.index-definitions-number.is in
    let one : is.definition ≡ d = one_definition g.L.Lister.asked g.L.Lister.given g.L.Lister.is_for g.L.Lister.with_context p m old before vs s.number a s.standing is d at in
    let own : map tree_of c.items-patterns.result.now ≡ is.definition.args = c.items-patterns.ensures ∙ ap (λ (x : Written.StratDef). x.args) (sym one) in
    let new = c.turn_in.new.store in
    let after = g.E.Evaluator.table c.turn_in.new.evaluator in
    let a' = c.turn_in.new.search in
    let told = subst (λ (ps : List Tree). IsTurn (program_over p m.hooks) c.args.limit (just (left_of_arguments g.L.Lister.asked g.L.Lister.given p m.hooks old ps (trees_at old (numbers vs)) a)) (just (left_of_arguments g.L.Lister.asked g.L.Lister.given p m.hooks new ps (trees_at old (numbers vs)) a'))
    (option_map (binding_in new) (last_found a'.searches.items)) (Ok Found)) own
    (subst (λ (t : Turn). IsTurn (program_over p m.hooks) c.args.limit (just (left_of_arguments g.L.Lister.asked g.L.Lister.given p m.hooks old (map tree_of c.items-patterns.result.now) (trees_at old (numbers vs)) a))
    (just (left_of_arguments g.L.Lister.asked g.L.Lister.given p m.hooks new (map tree_of c.items-patterns.result.now) (trees_at old (numbers vs)) a')) (option_map (binding_in new) (last_found a'.searches.items)) (Ok t)) c.in-Ok-Found.field-0-is c.in-Ok-Found.ensures.turn) in
    matched_found g.L.Lister.asked g.L.Lister.given g.L.Lister.is_for g.L.Lister.with_context p m old new before after s.number vs s a a' c.in-Some.is c.requires.idle is k n c.args.limit told

pub returns-in-Ok-Found-clause-search : goal.returns-in-Ok-Found-clause-search
returns-in-Ok-Found-clause-search g c =
    let m = g.E.Evaluator.meanings c.args.evaluator.now in
    let p = c.args.program.now in
    let old = c.args.store.now in
    let before = g.E.Evaluator.table c.args.evaluator.now in
    let s = c.args.bodies.now in
    let vs = c.args.values.now in
    let a = c.in-Some.arguments in
    let is = subst (λ (o : Option (ArgumentSearch _)). IsStanding g.L.Lister.asked g.L.Lister.given g.L.Lister.is_for g.L.Lister.with_context p m old before vs s.number o s.standing) c.in-Some.is c.requires.search in
    let d = c.index-definitions-number.result in
    let low = begun_within g.L.Lister.asked g.L.Lister.given g.L.Lister.is_for g.L.Lister.with_context p m old before vs s.number a s.standing is in
    let at = at_index p.strategies c.items-definitions.result.now s.number d c.items-definitions.ensures low c.index-definitions-number.is in
    let one : is.definition ≡ d = one_definition g.L.Lister.asked g.L.Lister.given g.L.Lister.is_for g.L.Lister.with_context p m old before vs s.number a s.standing is d at in
    let own : map tree_of c.items-patterns.result.now ≡ is.definition.args = c.items-patterns.ensures ∙ ap (λ (x : Written.StratDef). x.args) (sym one) in
    let new = c.turn_in.new.store in
    let after = g.E.Evaluator.table c.turn_in.new.evaluator in
    let a' = c.turn_in.new.search in
    let told = subst (λ (ps : List Tree). IsTurn (program_over p m.hooks) c.args.limit (just (left_of_arguments g.L.Lister.asked g.L.Lister.given p m.hooks old ps (trees_at old (numbers vs)) a)) (just (left_of_arguments g.L.Lister.asked g.L.Lister.given p m.hooks new ps (trees_at old (numbers vs)) a'))
    (option_map (binding_in new) (last_found a'.searches.items)) (Ok Found)) own
    (subst (λ (t : Turn). IsTurn (program_over p m.hooks) c.args.limit (just (left_of_arguments g.L.Lister.asked g.L.Lister.given p m.hooks old (map tree_of c.items-patterns.result.now) (trees_at old (numbers vs)) a))
    (just (left_of_arguments g.L.Lister.asked g.L.Lister.given p m.hooks new (map tree_of c.items-patterns.result.now) (trees_at old (numbers vs)) a')) (option_map (binding_in new) (last_found a'.searches.items)) (Ok t)) c.in-Ok-Found.field-0-is c.in-Ok-Found.ensures.turn) in
    let known = subst (λ (ps : List Tree). IsArgumentSearch g.L.Lister.asked g.L.Lister.given g.L.Lister.is_for g.L.Lister.with_context p m new after ps vs a') own c.turn_in.ensures.search in
    standing_found g.L.Lister.asked g.L.Lister.given g.L.Lister.is_for g.L.Lister.with_context p m old new before after s.number vs s a a' c.in-Some.is c.requires.idle is known (c.turn_in.ensures.all (c.in-Ok-Found.is ∙ ap Ok c.in-Ok-Found.field-0-is) ∙ (sym (length-map c.items-patterns.result.now tree_of) ∙ ap (λ (ps : List Tree). length ps) own)) told.0 told.1

pub returns-in-Ok-Over-clause-turn : goal.returns-in-Ok-Over-clause-turn
returns-in-Ok-Over-clause-turn g c = λ k n.
    let m = g.E.Evaluator.meanings c.args.evaluator.now in
    let p = c.args.program.now in
    let old = c.args.store.now in
    let before = g.E.Evaluator.table c.args.evaluator.now in
    let s = c.args.bodies.now in
    let vs = c.args.values.now in
    let a = c.in-Some.arguments in
    let is = subst (λ (o : Option (ArgumentSearch _)). IsStanding g.L.Lister.asked g.L.Lister.given g.L.Lister.is_for g.L.Lister.with_context p m old before vs s.number o s.standing) c.in-Some.is c.requires.search in
    let d = c.index-definitions-number.result in
    let low = begun_within g.L.Lister.asked g.L.Lister.given g.L.Lister.is_for g.L.Lister.with_context p m old before vs s.number a s.standing is in
    let at = at_index p.strategies c.items-definitions.result.now s.number d c.items-definitions.ensures low c.index-definitions-number.is in
    let one : is.definition ≡ d = one_definition g.L.Lister.asked g.L.Lister.given g.L.Lister.is_for g.L.Lister.with_context p m old before vs s.number a s.standing is d at in
    let own : map tree_of c.items-patterns.result.now ≡ is.definition.args = c.items-patterns.ensures ∙ ap (λ (x : Written.StratDef). x.args) (sym one) in
    let new = c.turn_in.new.store in
    let after = g.E.Evaluator.table c.turn_in.new.evaluator in
    let a' = c.turn_in.new.search in
    let told = subst (λ (ps : List Tree). IsTurn (program_over p m.hooks) c.args.limit (just (left_of_arguments g.L.Lister.asked g.L.Lister.given p m.hooks old ps (trees_at old (numbers vs)) a)) (just (left_of_arguments g.L.Lister.asked g.L.Lister.given p m.hooks new ps (trees_at old (numbers vs)) a'))
    (option_map (binding_in new) (last_found a'.searches.items)) (Ok Over)) own
    (subst (λ (t : Turn). IsTurn (program_over p m.hooks) c.args.limit (just (left_of_arguments g.L.Lister.asked g.L.Lister.given p m.hooks old (map tree_of c.items-patterns.result.now) (trees_at old (numbers vs)) a))
    (just (left_of_arguments g.L.Lister.asked g.L.Lister.given p m.hooks new (map tree_of c.items-patterns.result.now) (trees_at old (numbers vs)) a')) (option_map (binding_in new) (last_found a'.searches.items)) (Ok t)) c.in-Ok-Over.field-0-is c.in-Ok-Over.ensures.turn) in
    subst (λ j. Throughout (engine_of (program_over p m.hooks)) (left_standing g.L.Lister.asked g.L.Lister.given p m.hooks k n (trees_at old (numbers vs)) old s.number s.arguments s.standing) (λ L.
    Passes (left_standing g.L.Lister.asked g.L.Lister.given p m.hooks k n (trees_at old (numbers vs)) old s.number s.arguments s.standing L) (left_standing g.L.Lister.asked g.L.Lister.given p m.hooks k n (trees_at old (numbers vs)) new j None s.standing L))) (sym (add-one s.number))
    (matched_over g.L.Lister.asked g.L.Lister.given g.L.Lister.is_for g.L.Lister.with_context p m old new before after s.number vs s a a' c.in-Some.is c.requires.idle is k n c.args.limit told)

pub returns-in-Ok-Passed-clause-turn : goal.returns-in-Ok-Passed-clause-turn
returns-in-Ok-Passed-clause-turn g c = λ k n.
    let m = g.E.Evaluator.meanings c.args.evaluator.now in
    let p = c.args.program.now in
    let old = c.args.store.now in
    let before = g.E.Evaluator.table c.args.evaluator.now in
    let s = c.args.bodies.now in
    let vs = c.args.values.now in
    let a = c.in-Some.arguments in
    let is = subst (λ (o : Option (ArgumentSearch _)). IsStanding g.L.Lister.asked g.L.Lister.given g.L.Lister.is_for g.L.Lister.with_context p m old before vs s.number o s.standing) c.in-Some.is c.requires.search in
    let d = c.index-definitions-number.result in
    let low = begun_within g.L.Lister.asked g.L.Lister.given g.L.Lister.is_for g.L.Lister.with_context p m old before vs s.number a s.standing is in
    let at = at_index p.strategies c.items-definitions.result.now s.number d c.items-definitions.ensures low c.index-definitions-number.is in
    let one : is.definition ≡ d = one_definition g.L.Lister.asked g.L.Lister.given g.L.Lister.is_for g.L.Lister.with_context p m old before vs s.number a s.standing is d at in
    let own : map tree_of c.items-patterns.result.now ≡ is.definition.args = c.items-patterns.ensures ∙ ap (λ (x : Written.StratDef). x.args) (sym one) in
    let new = c.turn_in.new.store in
    let after = g.E.Evaluator.table c.turn_in.new.evaluator in
    let a' = c.turn_in.new.search in
    let told = subst (λ (ps : List Tree). IsTurn (program_over p m.hooks) c.args.limit (just (left_of_arguments g.L.Lister.asked g.L.Lister.given p m.hooks old ps (trees_at old (numbers vs)) a)) (just (left_of_arguments g.L.Lister.asked g.L.Lister.given p m.hooks new ps (trees_at old (numbers vs)) a'))
    (option_map (binding_in new) (last_found a'.searches.items)) (Ok Passed)) own
    (subst (λ (t : Turn). IsTurn (program_over p m.hooks) c.args.limit (just (left_of_arguments g.L.Lister.asked g.L.Lister.given p m.hooks old (map tree_of c.items-patterns.result.now) (trees_at old (numbers vs)) a))
    (just (left_of_arguments g.L.Lister.asked g.L.Lister.given p m.hooks new (map tree_of c.items-patterns.result.now) (trees_at old (numbers vs)) a')) (option_map (binding_in new) (last_found a'.searches.items)) (Ok t)) c.in-Ok-Passed.field-0-is c.in-Ok-Passed.ensures.turn) in
    matched_passed g.L.Lister.asked g.L.Lister.given g.L.Lister.is_for g.L.Lister.with_context p m old new before after s.number vs s a a' c.in-Some.is c.requires.idle is k n c.args.limit told

pub returns-in-Ok-Passed-clause-search : goal.returns-in-Ok-Passed-clause-search
returns-in-Ok-Passed-clause-search g c =
    let m = g.E.Evaluator.meanings c.args.evaluator.now in
    let p = c.args.program.now in
    let old = c.args.store.now in
    let before = g.E.Evaluator.table c.args.evaluator.now in
    let s = c.args.bodies.now in
    let vs = c.args.values.now in
    let a = c.in-Some.arguments in
    let is = subst (λ (o : Option (ArgumentSearch _)). IsStanding g.L.Lister.asked g.L.Lister.given g.L.Lister.is_for g.L.Lister.with_context p m old before vs s.number o s.standing) c.in-Some.is c.requires.search in
    let d = c.index-definitions-number.result in
    let low = begun_within g.L.Lister.asked g.L.Lister.given g.L.Lister.is_for g.L.Lister.with_context p m old before vs s.number a s.standing is in
    let at = at_index p.strategies c.items-definitions.result.now s.number d c.items-definitions.ensures low c.index-definitions-number.is in
    let one : is.definition ≡ d = one_definition g.L.Lister.asked g.L.Lister.given g.L.Lister.is_for g.L.Lister.with_context p m old before vs s.number a s.standing is d at in
    let own : map tree_of c.items-patterns.result.now ≡ is.definition.args = c.items-patterns.ensures ∙ ap (λ (x : Written.StratDef). x.args) (sym one) in
    let new = c.turn_in.new.store in
    let after = g.E.Evaluator.table c.turn_in.new.evaluator in
    let a' = c.turn_in.new.search in
    let known = subst (λ (ps : List Tree). IsArgumentSearch g.L.Lister.asked g.L.Lister.given g.L.Lister.is_for g.L.Lister.with_context p m new after ps vs a') own c.turn_in.ensures.search in
    standing_matched g.L.Lister.asked g.L.Lister.given g.L.Lister.is_for g.L.Lister.with_context p m old new before after s.number vs s a a' c.in-Some.is c.requires.idle is known

pub returns-in-Err-clause-turn : goal.returns-in-Err-clause-turn
returns-in-Err-clause-turn g c = λ k n.
    let m = g.E.Evaluator.meanings c.args.evaluator.now in
    let p = c.args.program.now in
    let old = c.args.store.now in
    let before = g.E.Evaluator.table c.args.evaluator.now in
    let s = c.args.bodies.now in
    let vs = c.args.values.now in
    let a = c.in-Some.arguments in
    let is = subst (λ (o : Option (ArgumentSearch _)). IsStanding g.L.Lister.asked g.L.Lister.given g.L.Lister.is_for g.L.Lister.with_context p m old before vs s.number o s.standing) c.in-Some.is c.requires.search in
    let d = c.index-definitions-number.result in
    let low = begun_within g.L.Lister.asked g.L.Lister.given g.L.Lister.is_for g.L.Lister.with_context p m old before vs s.number a s.standing is in
    let at = at_index p.strategies c.items-definitions.result.now s.number d c.items-definitions.ensures low c.index-definitions-number.is in
    let one : is.definition ≡ d = one_definition g.L.Lister.asked g.L.Lister.given g.L.Lister.is_for g.L.Lister.with_context p m old before vs s.number a s.standing is d at in
    let own : map tree_of c.items-patterns.result.now ≡ is.definition.args = c.items-patterns.ensures ∙ ap (λ (x : Written.StratDef). x.args) (sym one) in
    let new = c.turn_in.new.store in
    let after = g.E.Evaluator.table c.turn_in.new.evaluator in
    let a' = c.turn_in.new.search in
    let told = subst (λ (ps : List Tree). IsTurn (program_over p m.hooks) c.args.limit (just (left_of_arguments g.L.Lister.asked g.L.Lister.given p m.hooks old ps (trees_at old (numbers vs)) a)) (just (left_of_arguments g.L.Lister.asked g.L.Lister.given p m.hooks new ps (trees_at old (numbers vs)) a'))
    (option_map (binding_in new) (last_found a'.searches.items)) (Err c.in-Err.end)) own
    c.in-Err.ensures.turn in
    matched_ends g.L.Lister.asked g.L.Lister.given g.L.Lister.is_for g.L.Lister.with_context p m old new before after s.number vs s a a' c.in-Some.is c.requires.idle is k n c.args.limit c.in-Err.end told

pub returns-in-Err-clause-search : goal.returns-in-Err-clause-search
returns-in-Err-clause-search g c =
    let m = g.E.Evaluator.meanings c.args.evaluator.now in
    let p = c.args.program.now in
    let old = c.args.store.now in
    let before = g.E.Evaluator.table c.args.evaluator.now in
    let s = c.args.bodies.now in
    let vs = c.args.values.now in
    let a = c.in-Some.arguments in
    let is = subst (λ (o : Option (ArgumentSearch _)). IsStanding g.L.Lister.asked g.L.Lister.given g.L.Lister.is_for g.L.Lister.with_context p m old before vs s.number o s.standing) c.in-Some.is c.requires.search in
    let d = c.index-definitions-number.result in
    let low = begun_within g.L.Lister.asked g.L.Lister.given g.L.Lister.is_for g.L.Lister.with_context p m old before vs s.number a s.standing is in
    let at = at_index p.strategies c.items-definitions.result.now s.number d c.items-definitions.ensures low c.index-definitions-number.is in
    let one : is.definition ≡ d = one_definition g.L.Lister.asked g.L.Lister.given g.L.Lister.is_for g.L.Lister.with_context p m old before vs s.number a s.standing is d at in
    let own : map tree_of c.items-patterns.result.now ≡ is.definition.args = c.items-patterns.ensures ∙ ap (λ (x : Written.StratDef). x.args) (sym one) in
    let new = c.turn_in.new.store in
    let after = g.E.Evaluator.table c.turn_in.new.evaluator in
    let a' = c.turn_in.new.search in
    let known = subst (λ (ps : List Tree). IsArgumentSearch g.L.Lister.asked g.L.Lister.given g.L.Lister.is_for g.L.Lister.with_context p m new after ps vs a') own c.turn_in.ensures.search in
    standing_matched g.L.Lister.asked g.L.Lister.given g.L.Lister.is_for g.L.Lister.with_context p m old new before after s.number vs s a a' c.in-Some.is c.requires.idle is known
