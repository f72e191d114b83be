-- What is within the limits, and why a term is refused.
use Rattle.std.proofs.Common.{◌≡◌, ℕ, Bool, true, false, nat_lt, refl, sym, ap₂, subst}
use Rattle.std.proofs.lemmas.Bool.{lt-ltb, le-ltb}
use Rattle.mau_terms.specs.Tree.{Tree}
use Rattle.mau_terms.specs.Depth.{depth}
use Rattle.mau_terms.specs.Norm.{holds_overflow}
use Rattle.mau_terms.specs.declared.theory.Theory.{Theory}
use Rattle.mau_canon.specs.Within.{IsWithin, IsCause}
use Rattle.mau_canon.specs.declared.fault.BuildFault.{BuildFault}
use Rattle.mau_canon.specs.declared.fault.BuildFault.TheVariants.{TooDeep, Overflow, NoMemory}
use Rattle.mau_evaluation.specs.Run.{done}
use Rattle.mau_evaluation.specs.Evaluation.{admitted, within_limits, depth_limit}
use Rattle.mau_api.specs.Faults.{end_of}
use Rattle.mau_api.specs.declared.results.EvalEnd.{EvalEnd}
use Rattle.mau_reduce.specs.Ends.{IsEnd}

module _ (th : ℕ → Theory) (u : Tree) (b : ℕ) where
  by_tests : (x y : Bool) → nat_lt depth_limit (depth u) ≡ x → holds_overflow th u ≡ y → within_limits th u b ≡ admitted x y u b
  by_tests x y e k = ap₂ (λ p q. admitted p q u b) e k

  -- what is within the limits is given
  pub within_given : IsWithin th u → within_limits th u b ≡ done u 0 b
  within_given w = by_tests false false (le-ltb depth_limit (depth u) w.shallow) w.no_overflow

  -- and what is refused ends so
  pub refused_ends : (fault : BuildFault) → IsCause th u fault → IsEnd (within_limits th u b) (end_of fault)
  refused_ends TooDeep c = by_tests true (holds_overflow th u) (lt-ltb depth_limit (depth u) c) refl
  refused_ends Overflow c = by_tests false true (le-ltb depth_limit (depth u) c.0) c.1
  refused_ends NoMemory c = tt

-- the same, where the code has made an end of the fault
pub refused_ends_as : (th : ℕ → Theory) (u : Tree) (b : ℕ) (fault : BuildFault) (e : EvalEnd) → e ≡ end_of fault → IsCause th u fault → IsEnd (within_limits th u b) e
refused_ends_as th u b fault e same c = subst (IsEnd (within_limits th u b)) (sym same) (refused_ends th u b fault c)
