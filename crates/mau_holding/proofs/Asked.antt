-- What an evaluator answers that is asked a condition with just a budget, and derives no sort.
use Rattle.std.proofs.Common.{◌≡◌, ℕ, List, true, false, Option, Some, None, Result, Ok, Err, sym, subst}
use Rattle.mau_terms.specs.declared.ids.VarId.{VarId}
use Rattle.mau_terms.specs.declared.ids.TermId.{TermId}
use Rattle.mau_store.specs.Node.{Node}
use Rattle.mau_evaluation.specs.Run.{Outcome}
use Rattle.mau_evaluation.specs.Program.{Fragment}
use Rattle.mau_evaluation.specs.Evaluation.{Binding}
use Rattle.mau_api.specs.Meanings.{Meanings}
use Rattle.mau_api.specs.Answers.{DerivesNothing, levels_of_condition, binding_in, solving_from, IsSolved, IsSolvedExactly}
use Rattle.mau_api.specs.declared.results.EvalEnd.{EvalEnd}
use Rattle.mau_api.specs.declared.results.EvalEnd.TheVariants.{Stopped, TooDeep, Overflow, NoMemory}
use Rattle.mau_holding.specs.Holding.{IsPlain, IsAsked}

module _ (m n : Meanings) (same : n ≡ m) (plain : IsPlain m) (c : List Fragment) (σ τ : Binding) (alike : τ ≡ σ) (before after : ℕ) (nodes : List Node) where
  abbrev Answer : Type 0
  Answer = Result (Option (List (VarId × TermId) × ℕ)) EvalEnd

  abbrev outcome : Outcome (Option Binding)
  outcome = m.solving levels_of_condition m.limit c σ before

  abbrev Exactly : Answer → Type 0
  Exactly r = IsSolvedExactly n (solving_from n None c τ) before nodes r after

  solved : (r : Answer) → Exactly r → IsSolved outcome nodes r after
  solved r h =
      subst (λ t. IsSolved (m.solving levels_of_condition m.limit c t before) nodes r after) alike
      (subst (λ (k : Meanings). IsSolved (k.solving levels_of_condition k.limit c τ before) nodes r after) same
      (subst (λ k. IsSolved (n.solving k n.limit c τ before) nodes r after) (h.just (subst DerivesNothing (sym same) plain.derives_nothing)) h.is))

  pub holding : (o : Option (List (VarId × TermId) × ℕ)) (x : List (VarId × TermId) × ℕ) → o ≡ Some x → Exactly (Ok o) → IsAsked outcome (Ok true) after
  holding o x e h = let z = subst (λ k. IsSolved outcome nodes (Ok k) after) e (solved (Ok o) h) in (binding_in nodes x.0, z.0, z.1)

  pub failing : (o : Option (List (VarId × TermId) × ℕ)) → o ≡ None → Exactly (Ok o) → IsAsked outcome (Ok false) after
  failing o e h = subst (λ k. IsSolved outcome nodes (Ok k) after) e (solved (Ok o) h)

  pub ending : (e : EvalEnd) → Exactly (Err e) → IsAsked outcome (Err e) after
  ending Stopped h = solved (Err Stopped) h
  ending TooDeep h = solved (Err TooDeep) h
  ending Overflow h = solved (Err Overflow) h
  ending NoMemory h = tt
