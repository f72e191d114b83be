use Rattle.std.proofs.Common.{◌≡◌, false, sym, ap, subst}
use Rattle.std.specs.Prelude.{map, slice_index_or}
use Rattle.std.specs.Option.{option_map}
use Rattle.mau_terms.specs.declared.ids.VarId.{VarId}
use Rattle.mau_terms.specs.declared.ids.TermId.{TermId}
use Rattle.mau_api.specs.Programs.{fragment_of}
use Rattle.mau_api.specs.Meanings.{Meanings}
use Rattle.mau_api.specs.Answers.{IsValueOf, binding_in, uses_results}
use Rattle.mau_holding.proofs.Settled.{binding_grown}
use Rattle.mau_holding.proofs.Asked.{holding, failing, ending}
use Rattle.mau_holding.proofs.holding.holds.Goals as goal

pub solve-requires-clause-bound : goal.solve-requires-clause-bound
solve-requires-clause-bound g c = λ k d h.
    subst (λ (n : Meanings). IsValueOf n.program.sig c.settle_values.new.store (g.E.Evaluator.table c.settle_values.new.evaluator) (slice_index_or c.args.bound.now k d)) (sym c.settle_values.ensures.meanings)
    (c.in-Ok.ensures.settled k d h)

pub returns-in-Ok-Some-clause-asked : goal.returns-in-Ok-Some-clause-asked
returns-in-Ok-Some-clause-asked g c =
    let m = g.E.Evaluator.meanings c.args.evaluator.now in
    let n = g.E.Evaluator.meanings c.settle_values.new.evaluator in
    let wanted = g.W.StepWatcher.wanted c.args.watcher.now in
    let same : n ≡ m = c.settle_values.ensures.meanings in
    let alike = binding_grown m.program.sig c.args.store.now c.settle_values.new.store c.settle_values.ensures.extends c.args.bound.now c.requires.values in
    holding m n same c.requires.plain (map fragment_of c.args.cond.now) (binding_in c.args.store.now c.args.bound.now) (binding_in c.settle_values.new.store c.args.bound.now) alike c.args.budget.now c.solve.new.budget c.solve.new.store
    _ _ (ap (option_map _) c.in-Ok-Some.field-0-is) (c.in-Ok-Some.ensures.exact (subst (λ (k : Meanings). uses_results k wanted ≡ false) (sym same) c.requires.exactly))

pub returns-in-Ok-None-clause-asked : goal.returns-in-Ok-None-clause-asked
returns-in-Ok-None-clause-asked g c =
    let m = g.E.Evaluator.meanings c.args.evaluator.now in
    let n = g.E.Evaluator.meanings c.settle_values.new.evaluator in
    let wanted = g.W.StepWatcher.wanted c.args.watcher.now in
    let same : n ≡ m = c.settle_values.ensures.meanings in
    let alike = binding_grown m.program.sig c.args.store.now c.settle_values.new.store c.settle_values.ensures.extends c.args.bound.now c.requires.values in
    failing m n same c.requires.plain (map fragment_of c.args.cond.now) (binding_in c.args.store.now c.args.bound.now) (binding_in c.settle_values.new.store c.args.bound.now) alike c.args.budget.now c.solve.new.budget c.solve.new.store
    _ (ap (option_map _) c.in-Ok-None.field-0-is) (c.in-Ok-None.ensures.exact (subst (λ (k : Meanings). uses_results k wanted ≡ false) (sym same) c.requires.exactly))

pub returns-clause-asked : goal.returns-clause-asked
returns-clause-asked g c =
    let m = g.E.Evaluator.meanings c.args.evaluator.now in
    let n = g.E.Evaluator.meanings c.settle_values.new.evaluator in
    let wanted = g.W.StepWatcher.wanted c.args.watcher.now in
    let same : n ≡ m = c.settle_values.ensures.meanings in
    let alike = binding_grown m.program.sig c.args.store.now c.settle_values.new.store c.settle_values.ensures.extends c.args.bound.now c.requires.values in
    ending m n same c.requires.plain (map fragment_of c.args.cond.now) (binding_in c.args.store.now c.args.bound.now) (binding_in c.settle_values.new.store c.args.bound.now) alike c.args.budget.now c.solve.new.budget c.solve.new.store
    c.in-Err-solve.end (c.in-Err-solve.ensures.exact (subst (λ (k : Meanings). uses_results k wanted ≡ false) (sym same) c.requires.exactly))
