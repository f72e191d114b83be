use Rattle.std.proofs.Common.{ℕ, map, [], All, Vec, Global, Option, IfSome, sym, subst, ◌∙◌}
use Rattle.mau_terms.specs.declared.ids.TermId.{TermId}
use Rattle.mau_terms.specs.declared.ids.VarId.{VarId}
use Rattle.mau_api.specs.Meanings.{Meanings}
use Rattle.mau_api.specs.Programs.{fragment_of}
use Rattle.mau_api.specs.Answers.{IsValueOf, IsSolutionOf, binding_in}
use Rattle.mau_settling_tests.proofs.behind.push_solutions.Goals as goal

pub next_of-requires-clause-last : goal.next_of-requires-clause-last
next_of-requires-clause-last g c =
    subst (λ (m : Meanings). IfSome c.loop.last (λ x. All (IsValueOf m.program.sig c.loop.store (g.E.Evaluator.table c.loop.evaluator)) x.items)) (sym c.loop.invariant.meanings) c.loop.invariant.values

pub loop-preserved : goal.loop-preserved
loop-preserved g c =
    let table = g.E.Evaluator.table c.next_of.new.evaluator in
    let values = subst (λ (z : Option (Vec (VarId × TermId) Global × ℕ)). IfSome z (λ x. All (IsValueOf (g.E.Evaluator.meanings c.loop.evaluator).program.sig c.next_of.new.store table) x.0.items)) c.in-Ok-Some.field-0-is c.in-Ok-Some.ensures.values in
    let solution = subst (λ (z : Option (Vec (VarId × TermId) Global × ℕ)). IfSome z (λ x. IsSolutionOf (g.E.Evaluator.meanings c.loop.evaluator) (map fragment_of c.args.cond.now) [] (binding_in c.next_of.new.store x.0.items))) c.in-Ok-Some.field-0-is c.in-Ok-Some.ensures.solution in
    record {
      meanings = c.next_of.ensures.meanings ∙ c.loop.invariant.meanings;
      fits = c.next_of.ensures.fits;
      values = subst (λ (m : Meanings). All (IsValueOf m.program.sig c.next_of.new.store table) c.in-Ok-Some.values.items) c.loop.invariant.meanings values;
      solution = subst (λ (m : Meanings). IsSolutionOf m (map fragment_of c.args.cond.now) [] (binding_in c.next_of.new.store c.in-Ok-Some.values.items)) c.loop.invariant.meanings solution;
    }
