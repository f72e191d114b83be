use Rattle.std.proofs.Common.{◌≡◌, [], map, All, IfSome}
use Rattle.mau_api.specs.Programs.{fragment_of}
use Rattle.mau_api.specs.Answers.{IsValueOf, IsSolutionOf, binding_in}
use Rattle.mau_settling_tests.proofs.behind.push_solutions.Given as goal

abbrev pub invariant-loop : goal.invariant-loop
invariant-loop g l =
    let m = g.E.Evaluator.meanings l.fn.evaluator in record {
      meanings : g.E.Evaluator.meanings l.evaluator ≡ m;
      fits : g.E.Evaluator.fits l.evaluator l.store;
      values : IfSome l.last (λ x. All (IsValueOf m.program.sig l.store (g.E.Evaluator.table l.evaluator)) x.items);
      solution : IfSome l.last (λ x. IsSolutionOf m (map fragment_of l.fn.cond) [] (binding_in l.store x.items));
    }
