-- What comes of asking a condition, by the answer of an evaluator that is asked with just a budget.
use Rattle.std.proofs.Common.{◌≡◌, ℕ, List, true, false, Option, Some, None, Result, Ok, Err, subst}
use Rattle.std.specs.Prelude.{map}
use Rattle.std.specs.List.{zip}
use Rattle.mau_terms.specs.Tree.{Tree}
use Rattle.mau_terms.specs.Subst.{variables}
use Rattle.mau_terms.specs.declared.ids.VarId.{VarId}
use Rattle.mau_terms.specs.declared.ids.TermId.{TermId}
use Rattle.mau_store.specs.Node.{Node}
use Rattle.mau_listing.specs.Matcher.{Matcher}
use Rattle.mau_program.specs.declared.statements.Fragment.{Fragment}
use Rattle.mau_evaluation.specs.Evaluation.{Binding}
use Rattle.mau_api.specs.Programs.{fragment_of}
use Rattle.mau_api.specs.Meanings.{Meanings}
use Rattle.mau_api.specs.Answers.{binding_in, solving_from, IsSolved, IsSolvedExactly}
use Rattle.mau_api.specs.declared.results.EvalEnd.{EvalEnd}
use Rattle.mau_api.specs.declared.results.EvalEnd.TheVariants.{Stopped, TooDeep, Overflow, NoMemory}
use Rattle.mau_conditional.specs.Meant.{Asks}
use Rattle.mau_conditional.specs.NextWhere.{IsAsked}

module _ (m : Meanings) (p : Tree) (c : List Fragment) (x : Matcher) (τ : Binding) (alike : τ ≡ zip (variables p) x.values) (before after : ℕ) (nodes : List Node) where
  abbrev Answer : Type 0
  Answer = Result (Option (List (VarId × TermId) × ℕ)) EvalEnd

  abbrev Exactly : Answer → Type 0
  Exactly r = IsSolvedExactly m (solving_from m None (map fragment_of c) τ) before nodes r after

  solved : (r : Answer) (h : Exactly r) → IsSolved (m.solving h.levels m.limit (map fragment_of c) (zip (variables p) x.values) before) nodes r after
  solved r h = subst (λ (t : Binding). IsSolved (m.solving h.levels m.limit (map fragment_of c) t before) nodes r after) alike h.is

  pub holding : (o : Option (List (VarId × TermId) × ℕ)) (y : List (VarId × TermId) × ℕ) → o ≡ Some y → Exactly (Ok o) → IsAsked (Asks m p c x before) (Ok true) after
  holding o y e h =
      let z = subst (λ k. IsSolved (m.solving h.levels m.limit (map fragment_of c) (zip (variables p) x.values) before) nodes (Ok k) after) e (solved (Ok o) h) in
      (binding_in nodes y.0, z.0, (h.levels, h.enough, h.just, z.1))

  pub failing : (o : Option (List (VarId × TermId) × ℕ)) → o ≡ None → Exactly (Ok o) → IsAsked (Asks m p c x before) (Ok false) after
  failing o e h =
      let z = subst (λ k. IsSolved (m.solving h.levels m.limit (map fragment_of c) (zip (variables p) x.values) before) nodes (Ok k) after) e (solved (Ok o) h) in
      (z.0, (h.levels, h.enough, h.just, z.1))

  pub ending : (e : EvalEnd) → Exactly (Err e) → IsAsked (Asks m p c x before) (Err e) after
  ending Stopped h = (h.levels, h.enough, h.just, solved (Err Stopped) h)
  ending TooDeep h = (h.levels, h.enough, h.just, solved (Err TooDeep) h)
  ending Overflow h = (h.levels, h.enough, h.just, solved (Err Overflow) h)
  ending NoMemory h = tt
