use Rattle.std.proofs.Common.{◌≡◌, ℕ, ◌<◌, length, get_or}
use Rattle.mau_terms.specs.declared.ids.VarId.{VarId}
use Rattle.mau_terms.specs.declared.ids.TermId.{TermId}
use Rattle.mau_store.specs.Node.{Extends}
use Rattle.mau_api.specs.Answers.{IsValueOf}
use Rattle.mau_holding.proofs.holding.settle_values.Given as goal

abbrev pub invariant-loop-index : goal.invariant-loop-index
invariant-loop-index g l =
    let m = g.E.Evaluator.meanings l.fn.evaluator in record {
      meanings : g.E.Evaluator.meanings l.evaluator ≡ m;
      fits : g.E.Evaluator.fits l.evaluator l.store;
      extends : Extends l.fn.store l.store;
      values : (k : ℕ) (d : VarId × TermId) → k < l.index → k < length l.bound → IsValueOf m.program.sig l.store (g.E.Evaluator.table l.evaluator) (get_or l.bound k d);
    }
