use Rattle.std.proofs.Common.{List, map, [], All, Vec, Global}
use Rattle.mau_terms.specs.declared.ids.TermId.{TermId}
use Rattle.mau_terms.specs.declared.ids.VarId.{VarId}
use Rattle.mau_api.specs.Programs.{fragment_of}
use Rattle.mau_api.specs.Answers.{IsValueOf, IsSolutionOf, binding_in}
use Rattle.mau_settling_tests.proofs.Solved.{behind_references, next_solved}
use Rattle.mau_settling_tests.proofs.behind.next_of.Goals as goal

pub solve-requires-clause-last : goal.solve-requires-clause-last
solve-requires-clause-last g c =
    behind_references (λ (v : Vec (VarId × TermId) Global). v.items) (All (IsValueOf (g.E.Evaluator.meanings c.args.evaluator.now).program.sig c.args.store.now (g.E.Evaluator.table c.args.evaluator.now)))
    c.slice_of-behind.result c.args.last.now c.slice_of-behind.ensures c.requires.last

pub returns-clause-solution : goal.returns-clause-solution
returns-clause-solution g c =
    let m = g.E.Evaluator.meanings c.args.evaluator.now in
    let conds = map fragment_of c.args.cond.now in
    next_solved m conds [] c.args.store.now c.solve.new.store c.slice_of-behind.result
    (behind_references (λ (v : Vec (VarId × TermId) Global). v.items) (λ (xs : List (VarId × TermId)). IsSolutionOf m conds [] (binding_in c.args.store.now xs)) c.slice_of-behind.result c.args.last.now c.slice_of-behind.ensures c.requires.solution)
    c.args.limit c.solve.result c.solve.ensures.allowed
