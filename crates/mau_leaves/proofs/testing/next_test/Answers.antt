use Rattle.std.proofs.Common.{true, Ok, subst}
use Rattle.mau_api.specs.Programs.{program_over}
use Rattle.mau_leaves.specs.Searches.{IsNextOne}
use Rattle.mau_leaves.specs.Subterms.{left_of_subterms, use_at_spot}
use Rattle.mau_leaves.proofs.Tables.{over_of}
use Rattle.mau_leaves.proofs.Holding.{test_then, found_test, none_test, ends_test}
use Rattle.mau_leaves.proofs.testing.next_test.Goals as goal

pub returns-in-Ok-true-clause-next : goal.returns-in-Ok-true-clause-next
returns-in-Ok-true-clause-next g c =
    let m = g.E.Evaluator.meanings c.args.evaluator.now in
    let p = c.args.program.now in
    let old = c.args.store.now in
    let new = c.next_in_subterms.new.store in
    let before = g.E.Evaluator.table c.args.evaluator.now in
    let after = g.E.Evaluator.table c.next_in_subterms.new.evaluator in
    let s = c.args.test.now in
    let w = c.next_in_subterms.new.search in
    let over = over_of p m (g.E.Evaluator.meanings c.next_in_subterms.new.evaluator) c.next_in_subterms.ensures.meanings c.requires.goes_by.program new after (g.met.E.Evaluator.derived c.next_in_subterms.new.evaluator new c.next_in_subterms.ensures.fits) in
    let o = use_at_spot g.L.Lister.asked g.L.Lister.given s.rule new w.spot in
    let one = subst (λ b. IsNextOne (program_over p m.hooks) c.args.limit (left_of_subterms g.L.Lister.asked g.L.Lister.given p m.hooks s.rule old s.uses)
    (left_of_subterms g.L.Lister.asked g.L.Lister.given p m.hooks s.rule new w) o (Ok b)) c.in-Ok-true.field-0-test c.in-Ok-true.ensures.next in
    found_test g.L.Lister.asked g.L.Lister.given g.L.Lister.is_for g.L.Lister.with_context p m old new before after c.next_in_subterms.ensures.extends c.next_in_subterms.ensures.kept over s c.requires.test c.if-test.false w c.args.limit o one

pub returns-in-Ok-true-clause-test : goal.returns-in-Ok-true-clause-test
returns-in-Ok-true-clause-test g c =
    let m = g.E.Evaluator.meanings c.args.evaluator.now in
    let p = c.args.program.now in
    let old = c.args.store.now in
    let new = c.next_in_subterms.new.store in
    let before = g.E.Evaluator.table c.args.evaluator.now in
    let after = g.E.Evaluator.table c.next_in_subterms.new.evaluator in
    let s = c.args.test.now in
    let w = c.next_in_subterms.new.search in
    let over = over_of p m (g.E.Evaluator.meanings c.next_in_subterms.new.evaluator) c.next_in_subterms.ensures.meanings c.requires.goes_by.program new after (g.met.E.Evaluator.derived c.next_in_subterms.new.evaluator new c.next_in_subterms.ensures.fits) in
    test_then g.L.Lister.asked g.L.Lister.given g.L.Lister.is_for g.L.Lister.with_context p m old new before after c.next_in_subterms.ensures.extends c.next_in_subterms.ensures.kept over s c.requires.test w true c.next_in_subterms.ensures.subterms

pub returns-in-Ok-false-clause-next : goal.returns-in-Ok-false-clause-next
returns-in-Ok-false-clause-next g c =
    let m = g.E.Evaluator.meanings c.args.evaluator.now in
    let p = c.args.program.now in
    let old = c.args.store.now in
    let new = c.next_in_subterms.new.store in
    let before = g.E.Evaluator.table c.args.evaluator.now in
    let after = g.E.Evaluator.table c.next_in_subterms.new.evaluator in
    let s = c.args.test.now in
    let w = c.next_in_subterms.new.search in
    let over = over_of p m (g.E.Evaluator.meanings c.next_in_subterms.new.evaluator) c.next_in_subterms.ensures.meanings c.requires.goes_by.program new after (g.met.E.Evaluator.derived c.next_in_subterms.new.evaluator new c.next_in_subterms.ensures.fits) in
    let o = use_at_spot g.L.Lister.asked g.L.Lister.given s.rule new w.spot in
    let one = subst (λ b. IsNextOne (program_over p m.hooks) c.args.limit (left_of_subterms g.L.Lister.asked g.L.Lister.given p m.hooks s.rule old s.uses)
    (left_of_subterms g.L.Lister.asked g.L.Lister.given p m.hooks s.rule new w) o (Ok b)) c.in-Ok-false.field-0-test c.in-Ok-false.ensures.next in
    none_test g.L.Lister.asked g.L.Lister.given g.L.Lister.is_for g.L.Lister.with_context p m old new before after c.next_in_subterms.ensures.extends c.next_in_subterms.ensures.kept over s c.requires.test c.if-test.false w c.args.limit o one

pub returns-in-Ok-false-clause-test : goal.returns-in-Ok-false-clause-test
returns-in-Ok-false-clause-test g c =
    let m = g.E.Evaluator.meanings c.args.evaluator.now in
    let p = c.args.program.now in
    let old = c.args.store.now in
    let new = c.next_in_subterms.new.store in
    let before = g.E.Evaluator.table c.args.evaluator.now in
    let after = g.E.Evaluator.table c.next_in_subterms.new.evaluator in
    let s = c.args.test.now in
    let w = c.next_in_subterms.new.search in
    let over = over_of p m (g.E.Evaluator.meanings c.next_in_subterms.new.evaluator) c.next_in_subterms.ensures.meanings c.requires.goes_by.program new after (g.met.E.Evaluator.derived c.next_in_subterms.new.evaluator new c.next_in_subterms.ensures.fits) in
    test_then g.L.Lister.asked g.L.Lister.given g.L.Lister.is_for g.L.Lister.with_context p m old new before after c.next_in_subterms.ensures.extends c.next_in_subterms.ensures.kept over s c.requires.test w s.over c.next_in_subterms.ensures.subterms

pub returns-in-Err-clause-next : goal.returns-in-Err-clause-next
returns-in-Err-clause-next g c =
    let m = g.E.Evaluator.meanings c.args.evaluator.now in
    let p = c.args.program.now in
    let old = c.args.store.now in
    let new = c.next_in_subterms.new.store in
    let before = g.E.Evaluator.table c.args.evaluator.now in
    let after = g.E.Evaluator.table c.next_in_subterms.new.evaluator in
    let s = c.args.test.now in
    let w = c.next_in_subterms.new.search in
    let over = over_of p m (g.E.Evaluator.meanings c.next_in_subterms.new.evaluator) c.next_in_subterms.ensures.meanings c.requires.goes_by.program new after (g.met.E.Evaluator.derived c.next_in_subterms.new.evaluator new c.next_in_subterms.ensures.fits) in
    ends_test g.L.Lister.asked g.L.Lister.given g.L.Lister.is_for g.L.Lister.with_context p m old new before after c.next_in_subterms.ensures.extends c.next_in_subterms.ensures.kept over s c.requires.test c.if-test.false w c.args.limit (use_at_spot g.L.Lister.asked g.L.Lister.given s.rule new w.spot) c.in-Err.end c.in-Err.ensures.next

pub returns-in-Err-clause-test : goal.returns-in-Err-clause-test
returns-in-Err-clause-test g c =
    let m = g.E.Evaluator.meanings c.args.evaluator.now in
    let p = c.args.program.now in
    let old = c.args.store.now in
    let new = c.next_in_subterms.new.store in
    let before = g.E.Evaluator.table c.args.evaluator.now in
    let after = g.E.Evaluator.table c.next_in_subterms.new.evaluator in
    let s = c.args.test.now in
    let w = c.next_in_subterms.new.search in
    let over = over_of p m (g.E.Evaluator.meanings c.next_in_subterms.new.evaluator) c.next_in_subterms.ensures.meanings c.requires.goes_by.program new after (g.met.E.Evaluator.derived c.next_in_subterms.new.evaluator new c.next_in_subterms.ensures.fits) in
    test_then g.L.Lister.asked g.L.Lister.given g.L.Lister.is_for g.L.Lister.with_context p m old new before after c.next_in_subterms.ensures.extends c.next_in_subterms.ensures.kept over s c.requires.test w s.over c.next_in_subterms.ensures.subterms
