-- The law of closed lists, for lists of results in any order.
use Rattle.std.proofs.Common.{ℕ, zero, suc, List}
use Rattle.mau_terms.specs.Tree.{Tree}
use Rattle.mau_terms.specs.Finite.{IsIn}
use Rattle.mau_evaluation.specs.Program.{Program}
use Rattle.mau_evaluation.specs.Engine.{Engine}
use Rattle.mau_evaluation.specs.Strategy.{StratDef}
use Rattle.mau_evaluation.specs.Configs.{Todo, means}
use Rattle.mau_evaluation.specs.ClosedLists.{LeavesAreRight, AreResults, AreBodies, AreBodiesWith}
use Rattle.mau_evaluation.specs.StrategyLaws.{ListsExhaust}
use Rattle.mau_evaluation.proofs.Closed.{closed_lists_exhaust}

module _ (P : Program) (L : Engine) (defs : List StratDef) where
  body_right : (k : ℕ) (d : Todo) (t : Tree) (bs : List Todo) → AreBodiesWith P L defs k d t bs → (b : Todo) → IsIn b bs → (u : Tree) →
      (means P L defs (AreResults P L defs) (AreBodies P L defs) b).sat t u → (means P L defs (AreResults P L defs) (AreBodies P L defs) d).sat t u
  body_right zero d t bs h = absurd h
  body_right (suc k) d t bs h = h.0

  all_right : LeavesAreRight P L defs (AreResults P L defs) (AreBodies P L defs)
  all_right = record {
    leaf_gives = λ d t us h. h.0;
    leaf_right = λ d t us h. h.1;
    leaf_whole = λ d t us h. h.2;
    call_left = λ n ts ρ t bs h. h;
    call_gives = λ n ts ρ k t bs h. h.1;
    call_right = λ d n ts e t bs h. body_right d.calls d t bs h;
    call_whole = λ n ts ρ k t bs h. h.2;
  }

pub lists_exhaust : ListsExhaust
lists_exhaust P L defs seen zs closed t d ds xs w i = closed_lists_exhaust P L defs (AreResults P L defs) (AreBodies P L defs) (all_right P L defs) seen zs closed t d ds xs w i
