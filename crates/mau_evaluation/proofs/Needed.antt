-- What a run cannot go on without, with an engine that has no answer to it.
use Rattle.std.proofs.Common.{◌≡◌, ℕ, List, Bool, true, false, ◌==◌, ◌&&◌, if◌then◌else◌, refl, sym, ap, ◌∙◌, subst, eqb-true}
use Rattle.mau_terms.specs.Tree.{Tree}
use Rattle.mau_evaluation.specs.Run.{End, ended, Run}
use Rattle.mau_evaluation.specs.Program.{Fragment}
use Rattle.mau_evaluation.specs.Listing.{same_tree}
use Rattle.mau_evaluation.specs.Evaluation.{Binding}
use Rattle.mau_evaluation.specs.OrderedLists.{results, bodies_for}
use Rattle.mau_evaluation.specs.Questions.{evaluates, takes_sorts, asks, asks_after, same_list, same_fragment, same_binding, same_condition, but_ends, EndsWithin}
use Rattle.mau_evaluation.specs.StrategyLaws.{WithoutIsItself, NeedsAreMet}
use Rattle.mau_evaluation.proofs.Reduced.{same_tree_true}
use Rattle.mau_evaluation.proofs.BareTerms.{both_are}
use Rattle.mau_evaluation.proofs.Same.{condition_tells, binding_tells}

-- a computation that so ends there anyway
but_itself : {A : Type 0} (t : Bool) (n : ℕ) (e : End) (m : Run A) (b : ℕ) → (t ≡ true → m n ≡ ended e) → but_ends t n e m b ≡ m b
but_itself {A = A} t n e m b h = by (t && (b == n)) refl
  where
    by : (c : Bool) → (t && (b == n)) ≡ c → (if c then ended e else m b) ≡ m b
    by true q = let p = both_are t (b == n) q in sym (ap m (eqb-true b n p.1) ∙ h p.0)
    by false q = refl

pub without_is_itself : WithoutIsItself
without_is_itself L (evaluates t) e h =
    let same : (u : Tree) (b : ℕ) → but_ends (same_tree u t) L.budget e (L.level.eval u) b ≡ L.level.eval u b =
    λ u b. but_itself (same_tree u t) L.budget e (L.level.eval u) b (λ q. ap (λ w. L.level.eval w L.budget) (same_tree_true u t q) ∙ h) in
    λ i. record L { level = record { eval = λ u b. same u b i; sorts = L.level.sorts } }
without_is_itself L (takes_sorts t) e h =
    let same : (u : Tree) (b : ℕ) → but_ends (same_tree u t) L.budget e (L.level.sorts u) b ≡ L.level.sorts u b =
    λ u b. but_itself (same_tree u t) L.budget e (L.level.sorts u) b (λ q. ap (λ w. L.level.sorts w L.budget) (same_tree_true u t q) ∙ h) in
    λ i. record L { level = record { eval = L.level.eval; sorts = λ u b. same u b i } }
without_is_itself L (asks c σ) e h =
    let same : (d : List Fragment) (τ : Binding) (b : ℕ) → but_ends (same_condition d τ c σ) L.budget e (L.ask d τ) b ≡ L.ask d τ b =
    λ d τ b. but_itself (same_condition d τ c σ) L.budget e (L.ask d τ) b
    (λ q. let p = both_are (same_list same_fragment d c) (same_binding τ σ) q in
    ap (λ w. L.ask w τ L.budget) (condition_tells d c p.0) ∙ (ap (λ w. L.ask c w L.budget) (binding_tells τ σ p.1) ∙ h)) in
    λ i. record L { ask = λ d τ b. same d τ b i }
without_is_itself L (asks_after last c σ) e h =
    let same : (m : Binding) (d : List Fragment) (τ : Binding) (b : ℕ) → but_ends (same_binding m last && same_condition d τ c σ) L.budget e (L.ask_after m d τ) b ≡ L.ask_after m d τ b =
    λ m d τ b. but_itself (same_binding m last && same_condition d τ c σ) L.budget e (L.ask_after m d τ) b
    (λ q. let o = both_are (same_binding m last) (same_condition d τ c σ) q in
    let p = both_are (same_list same_fragment d c) (same_binding τ σ) o.1 in
    ap (λ w. L.ask_after w d τ L.budget) (binding_tells m last o.0) ∙ (ap (λ w. L.ask_after last w τ L.budget) (condition_tells d c p.0) ∙ (ap (λ w. L.ask_after last c w L.budget) (binding_tells τ σ p.1) ∙ h))) in
    λ i. record L { ask_after = λ m d τ b. same m d τ b i }

pub needs_are_met : NeedsAreMet
needs_are_met P E defs q d = (
  (λ t us n e. record {
    level = (n e).level;
    each = (n e).each;
    budget = (n e).budget;
    holds = λ k B b i j l h. subst (λ M. EndsWithin e us (results P M d t)) (without_is_itself (E k B b) q e h) ((n e).holds k B b i j l);
  }),
  (λ m bs n e. record {
    level = (n e).level;
    each = (n e).each;
    budget = (n e).budget;
    holds = λ k B b i j l h. subst (λ M. EndsWithin e bs (bodies_for P M defs m d.values d.form)) (without_is_itself (E k B b) q e h) ((n e).holds k B b i j l);
  }),
)
