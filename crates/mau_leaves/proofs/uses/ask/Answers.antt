use Rattle.std.proofs.Common.{ℕ, List, map, All, Vec, Global, Bor, Option, Some, None, IfSome, IfOk, Result, Ok, Err, sym, subst}
use Rattle.std.specs.Option.{option_map}
use Rattle.mau_terms.specs.View.{variable_of}
use Rattle.mau_terms.specs.declared.ids.TermId.{TermId}
use Rattle.mau_terms.specs.declared.ids.VarId.{VarId}
use Rattle.mau_program.specs.declared.program.Program.{Program}
use Rattle.mau_evaluation.specs.Evaluation.{Binding}
use Rattle.mau_api.specs.Programs.{fragment_of, program_over}
use Rattle.mau_api.specs.Answers.{IsAskable, IsValueOf, IsSolutionOf, binding_in, solving_from, MaySolve, mapped}
use Rattle.mau_api.specs.declared.results.EvalEnd.{EvalEnd}
use Rattle.mau_leaves.specs.Answers.{IsNextShown}
use Rattle.mau_leaves.proofs.Limits.{next_shown}
use Rattle.mau_leaves.proofs.Bound.{all_solved}
use Rattle.mau_leaves.proofs.uses.ask.Goals as goal

abbrev result_of : Option (Vec (VarId × TermId) Global × ℕ) → Result (Option (Vec (VarId × TermId) Global × ℕ)) EvalEnd
result_of o = Ok o

pub solve-requires-clause-condition : goal.solve-requires-clause-condition
solve-requires-clause-condition g c = subst (λ (p : Program). IsAskable p.sig (map (λ (b : VarId × TermId). variable_of b.0) c.args.bound.now) c.args.cond.now) (sym c.requires.goes_by.program) c.requires.condition

pub solve-requires-clause-bound : goal.solve-requires-clause-bound
solve-requires-clause-bound g c = subst (λ (p : Program). All (IsValueOf p.sig c.args.store.now (g.E.Evaluator.table c.args.evaluator.now)) c.args.bound.now) (sym c.requires.goes_by.program) c.requires.bound

pub solve-requires-clause-last : goal.solve-requires-clause-last
solve-requires-clause-last g c =
    subst (λ (p : Program). IfSome c.args.last (λ x. All (IsValueOf p.sig c.args.store.now (g.E.Evaluator.table c.args.evaluator.now)) x.now)) (sym c.requires.goes_by.program) c.requires.last

pub returns-in-Ok-Some-clause-shown : goal.returns-in-Ok-Some-clause-shown
returns-in-Ok-Some-clause-shown g c =
    let m = g.E.Evaluator.meanings c.args.evaluator.now in
    let p = c.args.program.now in
    let conds = map fragment_of c.args.cond.now in
    let σ = binding_in c.args.store.now c.args.bound.now in
    let o : Option Binding = option_map (λ x. binding_in c.args.store.now x.now) c.args.last in
    let may : MaySolve m (solving_from m o conds σ) m.limit c.solve.new.store (mapped (option_map (λ (x : Vec (VarId × TermId) Global × ℕ). (x.0.items, x.1))) (result_of c.in-Ok-Some.field-0)) =
    subst (λ b. MaySolve m (solving_from m o conds σ) b c.solve.new.store (mapped (option_map (λ (x : Vec (VarId × TermId) Global × ℕ). (x.0.items, x.1))) (result_of c.in-Ok-Some.field-0))) c.requires.limit c.in-Ok-Some.ensures.allowed in
    subst (λ b. IsNextShown (program_over p m.hooks) b o conds σ c.solve.new.store (Ok (Some c.in-Ok-Some.found.items))) (sym c.requires.limit)
    (next_shown p m c.requires.goes_by.program c.requires.goes_by.defined (g.met.E.Evaluator.laws c.args.evaluator.now) conds σ o c.solve.new.store (Ok (Some (c.in-Ok-Some.found.items, c.in-Ok-Some.field-0-0-1)))
    (subst (λ (z : Option (Vec (VarId × TermId) Global × ℕ)). MaySolve m (solving_from m o conds σ) m.limit c.solve.new.store (mapped (option_map (λ (x : Vec (VarId × TermId) Global × ℕ). (x.0.items, x.1))) (result_of z))) c.in-Ok-Some.field-0-is may))

pub returns-in-Ok-Some-clause-solution : goal.returns-in-Ok-Some-clause-solution
returns-in-Ok-Some-clause-solution g c =
    let m = g.E.Evaluator.meanings c.args.evaluator.now in
    let conds = map fragment_of c.args.cond.now in
    let σ = binding_in c.args.store.now c.args.bound.now in
    let o : Option Binding = option_map (λ x. binding_in c.args.store.now x.now) c.args.last in
    let was : IfSome o (IsSolutionOf m conds σ) = by c.args.last c.requires.solution in
    let all = all_solved m conds σ o was c.solve.new.store c.args.limit c.solve.result c.solve.ensures.allowed in
    let one : IfOk (result_of c.in-Ok-Some.field-0) (λ z. IfSome z (λ x. IsSolutionOf m conds σ (binding_in c.solve.new.store x.0.items))) =
    subst (λ (r : Result (Option (Vec (VarId × TermId) Global × ℕ)) EvalEnd). IfOk r (λ z. IfSome z (λ x. IsSolutionOf m conds σ (binding_in c.solve.new.store x.0.items)))) c.in-Ok-Some.is all in
    subst (λ (z : Option (Vec (VarId × TermId) Global × ℕ)). IfSome z (λ x. IsSolutionOf m conds σ (binding_in c.solve.new.store x.0.items))) c.in-Ok-Some.field-0-is one
  where
    by : (o : Option (Bor (List (VarId × TermId)))) → IfSome o (λ x. IsSolutionOf (g.E.Evaluator.meanings c.args.evaluator.now) (map fragment_of c.args.cond.now) (binding_in c.args.store.now c.args.bound.now) (binding_in c.args.store.now x.now)) →
        IfSome (option_map (λ x. binding_in c.args.store.now x.now) o) (IsSolutionOf (g.E.Evaluator.meanings c.args.evaluator.now) (map fragment_of c.args.cond.now) (binding_in c.args.store.now c.args.bound.now))
    by None h = tt
    by (Some x) h = h

pub returns-in-Ok-None-clause-shown : goal.returns-in-Ok-None-clause-shown
returns-in-Ok-None-clause-shown g c =
    let m = g.E.Evaluator.meanings c.args.evaluator.now in
    let p = c.args.program.now in
    let conds = map fragment_of c.args.cond.now in
    let σ = binding_in c.args.store.now c.args.bound.now in
    let o : Option Binding = option_map (λ x. binding_in c.args.store.now x.now) c.args.last in
    let may : MaySolve m (solving_from m o conds σ) m.limit c.solve.new.store (mapped (option_map (λ (x : Vec (VarId × TermId) Global × ℕ). (x.0.items, x.1))) (result_of c.in-Ok-None.field-0)) =
    subst (λ b. MaySolve m (solving_from m o conds σ) b c.solve.new.store (mapped (option_map (λ (x : Vec (VarId × TermId) Global × ℕ). (x.0.items, x.1))) (result_of c.in-Ok-None.field-0))) c.requires.limit c.in-Ok-None.ensures.allowed in
    subst (λ b. IsNextShown (program_over p m.hooks) b o conds σ c.solve.new.store (Ok None)) (sym c.requires.limit)
    (next_shown p m c.requires.goes_by.program c.requires.goes_by.defined (g.met.E.Evaluator.laws c.args.evaluator.now) conds σ o c.solve.new.store (Ok None)
    (subst (λ (z : Option (Vec (VarId × TermId) Global × ℕ)). MaySolve m (solving_from m o conds σ) m.limit c.solve.new.store (mapped (option_map (λ (x : Vec (VarId × TermId) Global × ℕ). (x.0.items, x.1))) (result_of z))) c.in-Ok-None.field-0-is may))

pub returns-in-Err-clause-shown : goal.returns-in-Err-clause-shown
returns-in-Err-clause-shown g c =
    let m = g.E.Evaluator.meanings c.args.evaluator.now in
    let p = c.args.program.now in
    let conds = map fragment_of c.args.cond.now in
    let σ = binding_in c.args.store.now c.args.bound.now in
    let o : Option Binding = option_map (λ x. binding_in c.args.store.now x.now) c.args.last in
    subst (λ b. IsNextShown (program_over p m.hooks) b o conds σ c.solve.new.store (Err c.in-Err.end)) (sym c.requires.limit)
    (next_shown p m c.requires.goes_by.program c.requires.goes_by.defined (g.met.E.Evaluator.laws c.args.evaluator.now) conds σ o c.solve.new.store (Err c.in-Err.end)
    (subst (λ b. MaySolve m (solving_from m o conds σ) b c.solve.new.store (Err c.in-Err.end)) c.requires.limit c.in-Err.ensures.allowed))

pub returns-in-Ok-Some-clause-values : goal.returns-in-Ok-Some-clause-values
returns-in-Ok-Some-clause-values g c =
    let values = subst (λ (z : Option (Vec (VarId × TermId) Global × ℕ)). IfSome z (λ x. All (IsValueOf (g.E.Evaluator.meanings c.args.evaluator.now).program.sig c.solve.new.store (g.E.Evaluator.table c.solve.new.self)) x.0.items)) c.in-Ok-Some.field-0-is c.in-Ok-Some.ensures.values in
    subst (λ (p : Program). All (IsValueOf p.sig c.solve.new.store (g.E.Evaluator.table c.solve.new.self)) c.in-Ok-Some.found.items) c.requires.goes_by.program values
