-- Under larger limits the ordered lists have the same answers in the same order.
use Rattle.std.proofs.Common.{◌≡◌, ℕ, zero, suc, ◌+◌, ◌-◌, List, [], ◌∷◌, map, Bool, true, false, not, Option, Some, None, refl, sym, ◌∙◌, ap, subst, arith}
use Rattle.mau_terms.specs.Tree.{Tree}
use Rattle.mau_terms.specs.Subst.{Variable, variables, instance}
use Rattle.mau_evaluation.specs.Run.{stopped, too_deep, overflowed, Outcome, done, ended, Run, IsLarger, Grows}
use Rattle.mau_evaluation.specs.Program.{Fragment, equals, matches, has_sort, reaches, Rule, Program}
use Rattle.mau_evaluation.specs.Listing.{same_tree, keep, Solution, solutions, solutions_within}
use Rattle.mau_evaluation.specs.Evaluation.{Binding, look_up, extend, agree, has_number, have_sorts, levels}
use Rattle.mau_evaluation.specs.Engine.{Engine, IsLargerEngine}
use Rattle.mau_evaluation.specs.Rules.{Place, places_of, has_reach, bound_by, rewritten, root_of}
use Rattle.mau_evaluation.specs.Strategy.{Assign, Strategy, idle, every_rule, label, top_only, call, test, StratDef}
use Rattle.mau_evaluation.specs.Satisfies.{index_of, same_name, candidates_for}
use Rattle.mau_evaluation.specs.Configs.{Todo}
use Rattle.mau_evaluation.specs.Answers.{Answers, no_more, ends_by, answer, answers_of, before, and_those, for_each, asking, from_outcome, when, IsLonger}
use Rattle.mau_evaluation.specs.OrderedLists.{shown, asked_from, asked, only, rewritten_by, rewrites_for, rewrites_at, rewrites_by, may_use, put_first, values_of, put_at, assigned_at, assigned, is_labelled, if_used, labelled_rule, labelled_place, by_label, assigned_terms, labelled_results, any_rule, any_place, any_results, or_next, holding, first_holding, top_results, results_of, results, argument_at, argument_solutions, body_for, bodies_at, bodies_in, bodies_by, bodies_of, bodies_for, BodyListWith}
use Rattle.mau_evaluation.specs.Entries.{BodyFrontWith}
use Rattle.mau_evaluation.specs.StrategyLaws.{FrontsStay, OrderedListsStay, EnginesGrow}
use Rattle.mau_evaluation.proofs.Levels.{have_sorts_grow, solve_grows, solve_after_grows}
use Rattle.mau_evaluation.proofs.Stay.{larger}

-- ---- combinators

pub longer_itself : {A : Type 0} (p : Answers A) → IsLonger p p
longer_itself no_more = refl
longer_itself (ends_by stopped) = tt
longer_itself (ends_by too_deep) = tt
longer_itself (ends_by overflowed) = refl
longer_itself (answer x p) = (p, refl, longer_itself p)

-- what was whole is the same
pub whole_stays : {A : Type 0} (us : List A) (p p' : Answers A) → IsLonger p p' → p ≡ answers_of us → p' ≡ answers_of us
whole_stays us p p' h e = by us p' (subst (λ z. IsLonger z p') e h)
  where
    by : {A : Type 0} (us : List A) (p' : Answers A) → IsLonger (answers_of us) p' → p' ≡ answers_of us
    by [] p' h = h
    by (u ∷ us) p' h = h.1 ∙ ap (answer u) (by us h.0 h.2)

pub front_stays : {A : Type 0} (us : List A) (p p' rest : Answers A) → IsLonger p p' → p ≡ before us rest → (rest' : Answers A) × (p' ≡ before us rest')
front_stays us p p' rest h e = by us rest p' (subst (λ z. IsLonger z p') e h)
  where
    by : {A : Type 0} (us : List A) (rest p' : Answers A) → IsLonger (before us rest) p' → (rest' : Answers A) × (p' ≡ before us rest')
    by [] rest p' h = (p', refl)
    by (u ∷ us) rest p' h = let r = by us rest h.0 h.2 in (r.0, h.1 ∙ ap (answer u) r.1)

longer_those : {A : Type 0} (p p' q q' : Answers A) → IsLonger p p' → IsLonger q q' → IsLonger (and_those p q) (and_those p' q')
longer_those no_more p' q q' h k = subst (λ z. IsLonger q (and_those z q')) (sym h) k
longer_those (ends_by stopped) p' q q' h k = tt
longer_those (ends_by too_deep) p' q q' h k = tt
longer_those (ends_by overflowed) p' q q' h k = ap (λ z. and_those z q') h
longer_those (answer x p) p' q q' h k = (and_those h.0 q', ap (λ z. and_those z q') h.1, longer_those p h.0 q q' h.2 k)

longer_each : {A B : Type 0} (f f' : A → Answers B) → ((x : A) → IsLonger (f x) (f' x)) → (p p' : Answers A) → IsLonger p p' → IsLonger (for_each f p) (for_each f' p')
longer_each f f' h no_more p' k = ap (for_each f') k
longer_each f f' h (ends_by stopped) p' k = tt
longer_each f f' h (ends_by too_deep) p' k = tt
longer_each f f' h (ends_by overflowed) p' k = ap (for_each f') k
longer_each f f' h (answer x p) p' k =
    subst (λ z. IsLonger (and_those (f x) (for_each f p)) (for_each f' z)) (sym k.1) (longer_those (f x) (f' x) (for_each f p) (for_each f' k.0) (h x) (longer_each f f' h p k.0 k.2))

longer_over : {A B : Type 0} (f f' : A → Answers B) → ((x : A) → IsLonger (f x) (f' x)) → (xs : List A) → IsLonger (for_each f (answers_of xs)) (for_each f' (answers_of xs))
longer_over f f' h xs = longer_each f f' h (answers_of xs) (answers_of xs) (longer_itself (answers_of xs))

longer_when : {A : Type 0} (t : Bool) (p p' : Answers A) → IsLonger p p' → IsLonger (when t p) (when t p')
longer_when true p p' h = h
longer_when false p p' h = refl

outcome_longer : {A B : Type 0} (d : ℕ) (o o' : Outcome A) (f f' : A → Answers B) → IsLarger d o o' → ((x : A) → IsLonger (f x) (f' x)) → IsLonger (from_outcome f o) (from_outcome f' o')
outcome_longer d (done x r c) o' f f' h k = subst (λ z. IsLonger (f x) (from_outcome f' z)) (sym h) (k x)
outcome_longer d (ended stopped) o' f f' h k = tt
outcome_longer d (ended too_deep) o' f f' h k = tt
outcome_longer d (ended overflowed) o' f f' h k = ap (from_outcome f') h

module _ (P : Program) (L L' : Engine) (h : IsLargerEngine L L') where
  -- a computation from the budget
  larger_at : {A : Type 0} (m m' : Run A) → Grows m m' → IsLarger h.added (m L.budget) (m' L'.budget)
  larger_at m m' g = subst (λ b. IsLarger h.added (m L.budget) (m' b)) (sym h.budget_larger) (g L.budget h.added)

  longer_asking : {A B : Type 0} (m m' : Run A) (f f' : A → Answers B) → Grows m m' → ((x : A) → IsLonger (f x) (f' x)) → IsLonger (asking L.budget m f) (asking L'.budget m' f')
  longer_asking m m' f f' g k = outcome_longer h.added (m L.budget) (m' L'.budget) f f' (larger_at m m' g) k

  sorts_grow : (xs : List Variable) (vs : List Tree) → Grows (have_sorts L.level.sorts xs vs) (have_sorts L'.level.sorts xs vs)
  sorts_grow xs vs = have_sorts_grow L.level.sorts L'.level.sorts h.level_larger.sorts_grow xs vs

  shown_longer : (c : List Fragment) (σ : Binding) → IsLonger (shown P L c σ) (shown P L' c σ)
  shown_longer [] σ = (no_more, refl, refl)
  shown_longer (equals t u ∷ c) σ =
      longer_asking (L.below.eval (instance (look_up σ) t)) (L'.below.eval (instance (look_up σ) t))
      (λ v. asking L.budget (L.below.eval (instance (look_up σ) u)) λ w. when (same_tree v w) (shown P L c σ)) (λ v. asking L'.budget (L'.below.eval (instance (look_up σ) u)) λ w. when (same_tree v w) (shown P L' c σ))
      (h.below_larger.eval_grows (instance (look_up σ) t))
      λ v. longer_asking (L.below.eval (instance (look_up σ) u)) (L'.below.eval (instance (look_up σ) u)) (λ w. when (same_tree v w) (shown P L c σ)) (λ w. when (same_tree v w) (shown P L' c σ))
      (h.below_larger.eval_grows (instance (look_up σ) u)) λ w. longer_when (same_tree v w) (shown P L c σ) (shown P L' c σ) (shown_longer c σ)
  shown_longer (has_sort t s ∷ c) σ =
      longer_asking (L.below.eval (instance (look_up σ) t)) (L'.below.eval (instance (look_up σ) t))
      (λ v. asking L.budget (L.below.sorts v) λ ss. when (has_number ss s) (shown P L c σ)) (λ v. asking L'.budget (L'.below.sorts v) λ ss. when (has_number ss s) (shown P L' c σ))
      (h.below_larger.eval_grows (instance (look_up σ) t))
      λ v. longer_asking (L.below.sorts v) (L'.below.sorts v) (λ ss. when (has_number ss s) (shown P L c σ)) (λ ss. when (has_number ss s) (shown P L' c σ))
      (h.below_larger.sorts_grow v) λ ss. longer_when (has_number ss s) (shown P L c σ) (shown P L' c σ) (shown_longer c σ)
  shown_longer (matches p u ∷ c) σ =
      let one : Engine → (Binding → Answers Binding) → Solution → Answers Binding = λ M rest x. asking M.budget (have_sorts M.below.sorts (variables p) x.values) λ ok. when ok (rest (extend σ (variables p) x.values)) in
      let xs : Tree → List Solution = λ v. keep (λ x. agree P.sign.theory σ (variables p) x.values) (solutions P.sign p v) in
      longer_asking (L.below.eval (instance (look_up σ) u)) (L'.below.eval (instance (look_up σ) u))
      (λ v. for_each (one L (shown P L c)) (answers_of (xs v))) (λ v. for_each (one L' (shown P L' c)) (answers_of (xs v))) (h.below_larger.eval_grows (instance (look_up σ) u))
      λ v. longer_over (one L (shown P L c)) (one L' (shown P L' c))
      (λ x. longer_asking (have_sorts L.below.sorts (variables p) x.values) (have_sorts L'.below.sorts (variables p) x.values)
      (λ ok. when ok (shown P L c (extend σ (variables p) x.values))) (λ ok. when ok (shown P L' c (extend σ (variables p) x.values)))
      (have_sorts_grow L.below.sorts L'.below.sorts h.below_larger.sorts_grow (variables p) x.values)
      λ ok. longer_when ok (shown P L c (extend σ (variables p) x.values)) (shown P L' c (extend σ (variables p) x.values)) (shown_longer c (extend σ (variables p) x.values)))
      (xs v)
  shown_longer (reaches t u ∷ c) σ = refl

  asked_from_longer : (c : List Fragment) (σ : Binding) (o o' : Outcome (Option Binding)) (p p' : Answers Binding) → IsLarger h.added o o' → IsLonger p p' → IsLonger (asked_from P L c σ o p) (asked_from P L' c σ o' p')
  asked_from_longer c σ (ended stopped) o' p p' g k = tt
  asked_from_longer c σ (ended too_deep) o' p p' g k = tt
  asked_from_longer c σ (ended overflowed) o' p p' g k = ap (λ z. asked_from P L' c σ z p') g
  asked_from_longer c σ (done x r b) o' no_more p' g k =
      subst (λ z. IsLonger no_more (asked_from P L' c σ z p')) (sym g) (subst (λ z. asked_from P L' c σ (done x r (b + h.added)) z ≡ no_more) (sym k) refl)
  asked_from_longer c σ (done x r b) o' (ends_by stopped) p' g k = tt
  asked_from_longer c σ (done x r b) o' (ends_by too_deep) p' g k = tt
  asked_from_longer c σ (done x r b) o' (ends_by overflowed) p' g k =
      subst (λ z. asked_from P L' c σ z p' ≡ ends_by overflowed) (sym g) (subst (λ z. asked_from P L' c σ (done x r (b + h.added)) z ≡ ends_by overflowed) (sym k) refl)
  asked_from_longer c σ (done x r b) o' (answer last p) p' g k =
      let q = asked_from_longer c σ (L.ask_after last c σ L.budget) (L'.ask_after last c σ L'.budget) p k.0 (larger_at (L.ask_after last c σ) (L'.ask_after last c σ) (h.ask_after_grows last c σ)) k.2 in
      subst (λ z. IsLonger (asked_from P L c σ (done x r b) (answer last p)) (asked_from P L' c σ z p')) (sym g)
      (subst (λ z. IsLonger (asked_from P L c σ (done x r b) (answer last p)) (asked_from P L' c σ (done x r (b + h.added)) z)) (sym k.1) (asked_from P L' c σ (L'.ask_after last c σ L'.budget) k.0, refl, q))

  asked_longer : (c : List Fragment) (σ : Binding) → IsLonger (asked P L c σ) (asked P L' c σ)
  asked_longer c σ = asked_from_longer c σ (L.ask c σ L.budget) (L'.ask c σ L'.budget) (shown P L c σ) (shown P L' c σ) (larger_at (L.ask c σ) (L'.ask c σ) (h.ask_grows c σ)) (shown_longer c σ)

  rewrites_longer : (q : Rule) (σ : Binding) (s : Place) → IsLonger (rewrites_by P L q σ s) (rewrites_by P L' q σ s)
  rewrites_longer q σ s =
      longer_over (rewrites_at P L q σ s) (rewrites_at P L' q σ s)
      (λ x. longer_when (agree P.sign.theory σ (variables q.left) x.values) _ _
      (longer_asking (have_sorts L.level.sorts (variables q.left) x.values) (have_sorts L'.level.sorts (variables q.left) x.values) (λ ok. when ok (rewrites_for P L q σ s x)) (λ ok. when ok (rewrites_for P L' q σ s x))
      (sorts_grow (variables q.left) x.values)
      λ ok. longer_when ok (rewrites_for P L q σ s x) (rewrites_for P L' q σ s x)
      (longer_each (rewritten_by P L q s x) (rewritten_by P L' q s x)
      (λ y. longer_asking (L.level.eval (rewritten P L q s x y)) (L'.level.eval (rewritten P L q s x y)) (only) (only) (h.level_larger.eval_grows (rewritten P L q s x y)) λ v. longer_itself (answer v no_more))
      (asked P L q.cond (bound_by P L q σ x)) (asked P L' q.cond (bound_by P L q σ x)) (asked_longer q.cond (bound_by P L q σ x)))))
      (solutions_within P.sign q.left s.term)

  values_longer : (ts : List Tree) → IsLonger (values_of P L ts) (values_of P L' ts)
  values_longer [] = (no_more, refl, refl)
  values_longer (t ∷ ts) =
      longer_asking (L.level.eval t) (L'.level.eval t) (λ v. for_each (put_first v) (values_of P L ts)) (λ v. for_each (put_first v) (values_of P L' ts)) (h.level_larger.eval_grows t)
      λ v. longer_each (put_first v) (put_first v) (λ vs. longer_itself (answer (v ∷ vs) no_more)) (values_of P L ts) (values_of P L' ts) (values_longer ts)

  assigned_longer : (vars : List (List ℕ × ℕ)) (gs : List Assign) (vs : List Tree) → IsLonger (assigned P L vars gs vs) (assigned P L' vars gs vs)
  assigned_longer vars [] [] = (no_more, refl, refl)
  assigned_longer vars [] (v ∷ vs) = refl
  assigned_longer vars (g ∷ gs) [] = refl
  assigned_longer vars (g ∷ gs) (v ∷ vs) = by (assigned_longer vars gs vs) (index_of same_name vars 0 g.name g.sort)
    where
      by : IsLonger (assigned P L vars gs vs) (assigned P L' vars gs vs) → (o : Option Variable) →
          IsLonger (elim o [ None ↦ no_more | Some x ↦ assigned_at P L x v (assigned P L vars gs vs) ]) (elim o [ None ↦ no_more | Some x ↦ assigned_at P L' x v (assigned P L' vars gs vs) ])
      by k None = refl
      by k (Some x) =
          longer_asking (have_sorts L.level.sorts (x ∷ []) (v ∷ [])) (have_sorts L'.level.sorts (x ∷ []) (v ∷ [])) (λ ok. when ok (for_each (put_at x v) (assigned P L vars gs vs))) (λ ok. when ok (for_each (put_at x v) (assigned P L' vars gs vs)))
          (sorts_grow (x ∷ []) (v ∷ []))
          λ ok. longer_when ok (for_each (put_at x v) (assigned P L vars gs vs)) (for_each (put_at x v) (assigned P L' vars gs vs))
          (longer_each (put_at x v) (put_at x v) (λ σ. longer_itself (put_at x v σ)) (assigned P L vars gs vs) (assigned P L' vars gs vs) k)

  labelled_longer : (places : Tree → List Place) (ρ : Binding) (n : List ℕ) (gs : List Assign) (t : Tree) → IsLonger (labelled_results P L places ρ n gs t) (labelled_results P L' places ρ n gs t)
  labelled_longer places ρ n gs t =
      longer_each (by_label P L places n gs t) (by_label P L' places n gs t)
      (λ vs. longer_over (labelled_place P L n gs vs) (labelled_place P L' n gs vs)
      (λ s. longer_over (labelled_rule P L n gs vs s) (labelled_rule P L' n gs vs s)
      (λ q. longer_when (is_labelled n q.label) _ _ (longer_when (not (has_reach q.cond)) _ _
      (longer_each (if_used P L q s) (if_used P L' q s) (λ σ. longer_when (may_use q σ) (rewrites_by P L q σ s) (rewrites_by P L' q σ s) (rewrites_longer q σ s))
      (assigned P L q.vars gs vs) (assigned P L' q.vars gs vs) (assigned_longer q.vars gs vs))))
      P.rules)
      (places t))
      (values_of P L (assigned_terms ρ gs)) (values_of P L' (assigned_terms ρ gs)) (values_longer (assigned_terms ρ gs))

  any_longer : (places : Tree → List Place) (t : Tree) → IsLonger (any_results P L places t) (any_results P L' places t)
  any_longer places t =
      longer_over (any_place P L) (any_place P L')
      (λ s. longer_over (any_rule P L s) (any_rule P L' s)
      (λ q. longer_when (not (has_reach q.cond)) (if_used P L q s []) (if_used P L' q s []) (longer_when (may_use q []) (rewrites_by P L q [] s) (rewrites_by P L' q [] s) (rewrites_longer q [] s))) P.rules) (places t)

  longer_or : (b : Bool) (n n' p p' : Answers Tree) → IsLonger n n' → IsLonger p p' → IsLonger (or_next b n p) (or_next b n' p')
  longer_or true n n' p p' i k = k
  longer_or false n n' p p' i k = i

  longer_holding : (t : Tree) (n n' : Answers Tree) → IsLonger n n' → (o : Option Binding) → IsLonger (holding t n o) (holding t n' o)
  longer_holding t n n' k None = k
  longer_holding t n n' k (Some σ) = (no_more, refl, refl)

  holding_longer : (p : Tree) (c : List Fragment) (ρ : Binding) (t : Tree) (xs : List Solution) → IsLonger (first_holding P L p c ρ t xs) (first_holding P L' p c ρ t xs)
  holding_longer p c ρ t [] = refl
  holding_longer p c ρ t (x ∷ xs) =
      let n = first_holding P L p c ρ t xs in
      let n' = first_holding P L' p c ρ t xs in
      let i : IsLonger n n' = holding_longer p c ρ t xs in
      let a = L.ask c (extend ρ (variables p) x.values) in
      let a' = L'.ask c (extend ρ (variables p) x.values) in
      longer_or (agree P.sign.theory ρ (variables p) x.values) n n' _ _ i
      (longer_asking (have_sorts L.level.sorts (variables p) x.values) (have_sorts L'.level.sorts (variables p) x.values)
      (λ ok. or_next ok n (asking L.budget a (holding t n))) (λ ok. or_next ok n' (asking L'.budget a' (holding t n'))) (sorts_grow (variables p) x.values)
      λ ok. longer_or ok n n' _ _ i (longer_asking a a' (holding t n) (holding t n') (h.ask_grows c (extend ρ (variables p) x.values)) (longer_holding t n n' i)))

  top_longer : (ρ : Binding) (e : Strategy) (t : Tree) → IsLonger (top_results P L ρ e t) (top_results P L' ρ e t)
  top_longer ρ every_rule t = any_longer root_of t
  top_longer ρ (label n gs) t = labelled_longer root_of ρ n gs t
  top_longer ρ _ t = refl

  results_longer : (ρ : Binding) (e : Strategy) (t : Tree) → IsLonger (results_of P L ρ e t) (results_of P L' ρ e t)
  results_longer ρ idle t = (no_more, refl, refl)
  results_longer ρ every_rule t = any_longer (places_of P) t
  results_longer ρ (label n gs) t = labelled_longer (places_of P) ρ n gs t
  results_longer ρ (top_only e) t = top_longer ρ e t
  results_longer ρ (test k p c) t = holding_longer p c ρ t (candidates_for P k p t)
  results_longer ρ _ t = refl

  arguments_longer : (ps vs : List Tree) (σ : Binding) → IsLonger (argument_solutions P L ps vs σ) (argument_solutions P L' ps vs σ)
  arguments_longer [] [] σ = (no_more, refl, refl)
  arguments_longer [] (v ∷ vs) σ = refl
  arguments_longer (p ∷ ps) [] σ = refl
  arguments_longer (p ∷ ps) (v ∷ vs) σ =
      longer_over (λ x. argument_at P L p σ x (argument_solutions P L ps vs (extend σ (variables p) x.values))) (λ x. argument_at P L' p σ x (argument_solutions P L' ps vs (extend σ (variables p) x.values)))
      (λ x. let r = argument_solutions P L ps vs (extend σ (variables p) x.values) in let r' = argument_solutions P L' ps vs (extend σ (variables p) x.values) in
      longer_when (agree P.sign.theory σ (variables p) x.values) _ _
      (longer_asking (have_sorts L.level.sorts (variables p) x.values) (have_sorts L'.level.sorts (variables p) x.values) (λ ok. when ok r) (λ ok. when ok r') (sorts_grow (variables p) x.values)
      λ ok. longer_when ok r r' (arguments_longer ps vs (extend σ (variables p) x.values))))
      (solutions P.sign p v)

  module _ (defs : List StratDef) where
    bodies_longer : (k : ℕ) (ρ : Binding) (n : List ℕ) (ts : List Tree) → IsLonger (bodies_of P L defs k ρ n ts) (bodies_of P L' defs k ρ n ts)
    bodies_longer k ρ n ts =
        longer_each (bodies_by P L defs k n) (bodies_by P L' defs k n)
        (λ vs. longer_over (bodies_in P L k n vs) (bodies_in P L' k n vs)
        (λ d. longer_when (same_name d.name n) _ _
        (longer_each (bodies_at P L k d) (bodies_at P L' k d)
        (λ σ. longer_each (body_for k d) (body_for k d) (λ σ'. longer_itself (body_for k d σ')) (asked P L d.cond σ) (asked P L' d.cond σ) (asked_longer d.cond σ))
        (argument_solutions P L d.args vs []) (argument_solutions P L' d.args vs []) (arguments_longer d.args vs [])))
        defs)
        (values_of P L (map (instance (look_up ρ)) ts)) (values_of P L' (map (instance (look_up ρ)) ts)) (values_longer (map (instance (look_up ρ)) ts))

    all_bodies_longer : (k : ℕ) (ρ : Binding) (e : Strategy) → IsLonger (bodies_for P L defs k ρ e) (bodies_for P L' defs k ρ e)
    all_bodies_longer k ρ (call n ts) = bodies_longer k ρ n ts
    all_bodies_longer k ρ _ = refl

    bodies_stay : (k : ℕ) (d : Todo) (bs : List Todo) → BodyListWith P L defs k d bs → BodyListWith P L' defs k d bs
    bodies_stay zero d bs i = i
    bodies_stay (suc k) d bs i = whole_stays bs (bodies_for P L defs k d.values d.form) (bodies_for P L' defs k d.values d.form) (all_bodies_longer k d.values d.form) i

bodies_front : (P : Program) (L L' : Engine) (h : IsLargerEngine L L') (defs : List StratDef) (k : ℕ) (d : Todo) (bs : List Todo) → BodyFrontWith P L defs k d bs → BodyFrontWith P L' defs k d bs
bodies_front P L L' h defs zero d bs i = i
bodies_front P L L' h defs (suc k) d bs i = front_stays bs (bodies_for P L defs k d.values d.form) (bodies_for P L' defs k d.values d.form) i.0 (all_bodies_longer P L L' h defs k d.values d.form) i.1

pub fronts_stay : FrontsStay
fronts_stay P L L' defs h = (
  λ d t us i. (i.0, front_stays us (results P L d t) (results P L' d t) (i.1).0 (results_longer P L L' h d.values d.form t) (i.1).1),
  λ d t bs i. bodies_front P L L' h defs d.calls d bs i,
)

pub ordered_lists_stay : OrderedListsStay
ordered_lists_stay P L L' defs h = (
  λ d t. results_longer P L L' h d.values d.form t,
  λ k ρ e. all_bodies_longer P L L' h defs k ρ e,
  λ d t us i. (i.0, whole_stays us (results P L d t) (results P L' d t) (results_longer P L L' h d.values d.form t) i.1),
  λ d t bs i. bodies_stay P L L' h defs d.calls d bs i,
)

pub engines_grow : EnginesGrow
engines_grow P k k' B B' b b' i j l =
    let m = larger P k k' B B' i j in
    record {
      level_larger = larger P (suc k) (suc k') B B' (omega arith) j;
      below_larger = m;
      ask_grows = λ c σ. solve_grows P (levels P B k) (levels P B' k') m c σ;
      ask_after_grows = λ last c σ. solve_after_grows P (levels P B k) (levels P B' k') m last c σ;
      added = b' - b;
      budget_larger = omega arith;
    }
