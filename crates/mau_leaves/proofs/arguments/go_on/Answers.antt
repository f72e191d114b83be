use Rattle.std.proofs.Common.{Bool, Option, Some, Result, Ok, Err, List, [], ◌∷◌, ◌++◌, ◌≡◌, refl, sym, ap, ◌∙◌, subst}
use Rattle.mau_api.specs.Programs.{program_over}
use Rattle.mau_leaves.specs.Searches.{last_in, IsNextOne}
use Rattle.mau_leaves.specs.InTurn.{just}
use Rattle.mau_leaves.specs.Arguments.{matched_left}
use Rattle.mau_leaves.proofs.Tables.{over_of}
use Rattle.mau_leaves.proofs.StackTurns.{known_last, found_on, found_known, still_on, still_known, over_on, over_known, none_searched}
use Rattle.mau_leaves.proofs.arguments.go_on.Goals as goal

pub next_match-requires-clause-search : goal.next_match-requires-clause-search
next_match-requires-clause-search g c =
    let m = g.E.Evaluator.meanings c.args.evaluator.now in
    let p = c.args.program.now in
    let old = c.args.store.now in
    let before = g.E.Evaluator.table c.args.evaluator.now in
    let r = c.requires.search in
    let k = known_last g.L.Lister.asked g.L.Lister.given g.L.Lister.is_for g.L.Lister.with_context p m old before r.0 r.1 c.args.search.now c.pop.new.self.items c.in-Some.last c.in-Some.ensures.items r.2 in
    (_, k.pattern, k.value, k.known)

pub returns-in-Ok-true-clause-turn : goal.returns-in-Ok-true-clause-turn
returns-in-Ok-true-clause-turn g c = λ ps vs is.
    let m = g.E.Evaluator.meanings c.args.evaluator.now in
    let p = c.args.program.now in
    let old = c.args.store.now in
    let before = g.E.Evaluator.table c.args.evaluator.now in
    let new = c.next_match.new.store in
    let after = g.E.Evaluator.table c.next_match.new.evaluator in
    let w = c.in-Some.last in
    let w' = c.next_match.new.search in
    let ws = c.pop.new.self.items in
    let over = over_of p m (g.E.Evaluator.meanings c.next_match.new.evaluator) c.next_match.ensures.meanings c.requires.goes_by.program new after (g.met.E.Evaluator.derived c.next_match.new.evaluator new c.next_match.ensures.fits) in
    let told = subst (λ (t : Bool). IsNextOne (program_over p m.hooks) c.args.limit (just (matched_left g.L.Lister.asked g.L.Lister.given p m.hooks old w)) (just (matched_left g.L.Lister.asked g.L.Lister.given p m.hooks new w'))
    (last_in new w'.uses.standing) (Ok t)) c.in-Ok-true.field-0-test c.in-Ok-true.ensures.next in
    found_on g.L.Lister.asked g.L.Lister.given g.L.Lister.is_for g.L.Lister.with_context p m old new before after c.next_match.ensures.extends c.next_match.ensures.kept over ps vs c.args.search.now c.requires.idle ws w c.in-Some.ensures.items is w' c.args.limit c.put_back.new.search c.put_back.ensures.searches c.put_back.ensures.due told

pub returns-in-Ok-true-clause-search : goal.returns-in-Ok-true-clause-search
returns-in-Ok-true-clause-search g c = λ ps vs is.
    let m = g.E.Evaluator.meanings c.args.evaluator.now in
    let p = c.args.program.now in
    let old = c.args.store.now in
    let before = g.E.Evaluator.table c.args.evaluator.now in
    let new = c.next_match.new.store in
    let after = g.E.Evaluator.table c.next_match.new.evaluator in
    let w = c.in-Some.last in
    let w' = c.next_match.new.search in
    let ws = c.pop.new.self.items in
    let over = over_of p m (g.E.Evaluator.meanings c.next_match.new.evaluator) c.next_match.ensures.meanings c.requires.goes_by.program new after (g.met.E.Evaluator.derived c.next_match.new.evaluator new c.next_match.ensures.fits) in
    let told = subst (λ (t : Bool). IsNextOne (program_over p m.hooks) c.args.limit (just (matched_left g.L.Lister.asked g.L.Lister.given p m.hooks old w)) (just (matched_left g.L.Lister.asked g.L.Lister.given p m.hooks new w'))
    (last_in new w'.uses.standing) (Ok t)) c.in-Ok-true.field-0-test c.in-Ok-true.ensures.next in
    found_known g.L.Lister.asked g.L.Lister.given g.L.Lister.is_for g.L.Lister.with_context p m old new before after c.next_match.ensures.extends c.next_match.ensures.kept over ps vs c.args.search.now c.requires.idle ws w c.in-Some.ensures.items is w' c.args.limit c.put_back.new.search c.put_back.ensures.searches c.next_match.ensures.search told

pub returns-in-Ok-false-clause-turn : goal.returns-in-Ok-false-clause-turn
returns-in-Ok-false-clause-turn g c = λ ps vs is.
    let m = g.E.Evaluator.meanings c.args.evaluator.now in
    let p = c.args.program.now in
    let old = c.args.store.now in
    let before = g.E.Evaluator.table c.args.evaluator.now in
    let new = c.next_match.new.store in
    let after = g.E.Evaluator.table c.next_match.new.evaluator in
    let w = c.in-Some.last in
    let w' = c.next_match.new.search in
    let ws = c.pop.new.self.items in
    let over = over_of p m (g.E.Evaluator.meanings c.next_match.new.evaluator) c.next_match.ensures.meanings c.requires.goes_by.program new after (g.met.E.Evaluator.derived c.next_match.new.evaluator new c.next_match.ensures.fits) in
    let told = subst (λ (t : Bool). IsNextOne (program_over p m.hooks) c.args.limit (just (matched_left g.L.Lister.asked g.L.Lister.given p m.hooks old w)) (just (matched_left g.L.Lister.asked g.L.Lister.given p m.hooks new w'))
    (last_in new w'.uses.standing) (Ok t)) c.in-Ok-false.field-0-test c.in-Ok-false.ensures.next in
    over_on g.L.Lister.asked g.L.Lister.given g.L.Lister.is_for g.L.Lister.with_context p m old new before after c.next_match.ensures.extends c.next_match.ensures.kept over ps vs c.args.search.now c.requires.idle ws w c.in-Some.ensures.items is w' c.args.limit (record { searches = c.pop.new.self; due = c.args.search.now.due }) refl c.requires.idle told

pub returns-in-Ok-false-clause-search : goal.returns-in-Ok-false-clause-search
returns-in-Ok-false-clause-search g c = λ ps vs is.
    let m = g.E.Evaluator.meanings c.args.evaluator.now in
    let p = c.args.program.now in
    let old = c.args.store.now in
    let before = g.E.Evaluator.table c.args.evaluator.now in
    let new = c.next_match.new.store in
    let after = g.E.Evaluator.table c.next_match.new.evaluator in
    let w = c.in-Some.last in
    let w' = c.next_match.new.search in
    let ws = c.pop.new.self.items in
    let over = over_of p m (g.E.Evaluator.meanings c.next_match.new.evaluator) c.next_match.ensures.meanings c.requires.goes_by.program new after (g.met.E.Evaluator.derived c.next_match.new.evaluator new c.next_match.ensures.fits) in
    over_known g.L.Lister.asked g.L.Lister.given g.L.Lister.is_for g.L.Lister.with_context p m old new before after c.next_match.ensures.extends c.next_match.ensures.kept over ps vs c.args.search.now c.requires.idle ws w c.in-Some.ensures.items is (record { searches = c.pop.new.self; due = c.args.search.now.due }) refl c.requires.idle

pub returns-in-Err-clause-turn : goal.returns-in-Err-clause-turn
returns-in-Err-clause-turn g c = λ ps vs is.
    let m = g.E.Evaluator.meanings c.args.evaluator.now in
    let p = c.args.program.now in
    let old = c.args.store.now in
    let before = g.E.Evaluator.table c.args.evaluator.now in
    let new = c.next_match.new.store in
    let after = g.E.Evaluator.table c.next_match.new.evaluator in
    let w = c.in-Some.last in
    let w' = c.next_match.new.search in
    let ws = c.pop.new.self.items in
    let over = over_of p m (g.E.Evaluator.meanings c.next_match.new.evaluator) c.next_match.ensures.meanings c.requires.goes_by.program new after (g.met.E.Evaluator.derived c.next_match.new.evaluator new c.next_match.ensures.fits) in
    still_on g.L.Lister.asked g.L.Lister.given g.L.Lister.is_for g.L.Lister.with_context p m old new before after c.next_match.ensures.extends c.next_match.ensures.kept over ps vs c.args.search.now c.requires.idle ws w c.in-Some.ensures.items is w' c.args.limit c.in-Err.end c.put_back-in-Err.new.search c.put_back-in-Err.ensures.searches c.put_back-in-Err.ensures.due c.in-Err.ensures.next

pub returns-in-Err-clause-search : goal.returns-in-Err-clause-search
returns-in-Err-clause-search g c = λ ps vs is.
    let m = g.E.Evaluator.meanings c.args.evaluator.now in
    let p = c.args.program.now in
    let old = c.args.store.now in
    let before = g.E.Evaluator.table c.args.evaluator.now in
    let new = c.next_match.new.store in
    let after = g.E.Evaluator.table c.next_match.new.evaluator in
    let w = c.in-Some.last in
    let w' = c.next_match.new.search in
    let ws = c.pop.new.self.items in
    let over = over_of p m (g.E.Evaluator.meanings c.next_match.new.evaluator) c.next_match.ensures.meanings c.requires.goes_by.program new after (g.met.E.Evaluator.derived c.next_match.new.evaluator new c.next_match.ensures.fits) in
    still_known g.L.Lister.asked g.L.Lister.given g.L.Lister.is_for g.L.Lister.with_context p m old new before after c.next_match.ensures.extends c.next_match.ensures.kept over ps vs c.args.search.now c.requires.idle ws w c.in-Some.ensures.items is w' c.put_back-in-Err.new.search c.put_back-in-Err.ensures.searches c.put_back-in-Err.ensures.due c.next_match.ensures.search
