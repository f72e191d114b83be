-- The ordered list of a condition's solutions holds just those that are shown.
use Rattle.std.proofs.Common.{◌≡◌, ℕ, List, [], ◌∷◌, Bool, true, Option, inl, inr, sym, subst}
use Rattle.mau_terms.specs.Tree.{Tree}
use Rattle.mau_terms.specs.Subst.{variables, instance}
use Rattle.mau_evaluation.specs.Run.{End, Outcome, done, ended}
use Rattle.mau_evaluation.specs.Program.{Fragment, equals, matches, has_sort, reaches, Program}
use Rattle.mau_evaluation.specs.Listing.{same_tree, keep, Solution, solutions}
use Rattle.mau_evaluation.specs.Evaluation.{Binding, look_up, extend, agree, has_number, have_sorts}
use Rattle.mau_evaluation.specs.Engine.{Engine}
use Rattle.mau_evaluation.specs.Rules.{Shows, AskingEnds}
use Rattle.mau_evaluation.specs.Answers.{Answers, no_more, ends_by, answer, answers_of, for_each, asking, when}
use Rattle.mau_evaluation.specs.OrderedLists.{shown, asked_from, asked}
use Rattle.mau_evaluation.proofs.Listed.{in_keep, from_keep}
use Rattle.mau_evaluation.proofs.Reduced.{same_tree_true}
use Rattle.mau_evaluation.proofs.Still.{same_tree_itself}
use Rattle.mau_evaluation.proofs.Each.{Has, IsWhole, has_list, list_has, has_each, into_each, whole_at, has_asking, into_asking, whole_asking, has_when, into_when, whole_when}

module _ (P : Program) (L : Engine) where
  abbrev chosen : Tree → Tree → Binding → List Solution
  chosen p v σ = keep (λ x. agree P.sign.theory σ (variables p) x.values) (solutions P.sign p v)

  abbrev equal_step : List Fragment → Binding → Tree → Tree → Answers Binding
  equal_step c σ v w = when (same_tree v w) (shown P L c σ)

  abbrev equal_on : List Fragment → Binding → Tree → Tree → Answers Binding
  equal_on c σ u v = asking L.budget (L.below.eval (instance (look_up σ) u)) (equal_step c σ v)

  abbrev sort_step : List Fragment → Binding → ℕ → List ℕ → Answers Binding
  sort_step c σ s ss = when (has_number ss s) (shown P L c σ)

  abbrev sort_on : List Fragment → Binding → ℕ → Tree → Answers Binding
  sort_on c σ s v = asking L.budget (L.below.sorts v) (sort_step c σ s)

  abbrev match_step : List Fragment → Binding → Tree → Solution → Bool → Answers Binding
  match_step c σ p x ok = when ok (shown P L c (extend σ (variables p) x.values))

  abbrev match_one : List Fragment → Binding → Tree → Solution → Answers Binding
  match_one c σ p x = asking L.budget (have_sorts L.below.sorts (variables p) x.values) (match_step c σ p x)

  abbrev match_on : List Fragment → Binding → Tree → Tree → Answers Binding
  match_on c σ p v = for_each (match_one c σ p) (answers_of (chosen p v σ))

  pub from_shown : (c : List Fragment) (σ σ' : Binding) → Has σ' (shown P L c σ) → Shows P L c σ σ'
  from_shown [] σ σ' (inl e) = e
  from_shown [] σ σ' (inr h) = absurd h
  from_shown (equals t u ∷ c) σ σ' h =
      let a = has_asking L.budget (L.below.eval (instance (look_up σ) t)) (equal_on c σ u) σ' h in
      let k = has_asking L.budget (L.below.eval (instance (look_up σ) u)) (equal_step c σ a.0) σ' a.4 in
      let g = has_when (same_tree a.0 k.0) (shown P L c σ) σ' k.4 in (
        a.0,
        a.1,
        a.2,
        k.1,
        k.2,
        a.3,
        subst (λ z. L.below.eval (instance (look_up σ) u) L.budget ≡ done z k.1 k.2) (sym (same_tree_true a.0 k.0 g.0)) k.3,
        from_shown c σ σ' g.1,
      )
  from_shown (has_sort t s ∷ c) σ σ' h =
      let a = has_asking L.budget (L.below.eval (instance (look_up σ) t)) (sort_on c σ s) σ' h in
      let k = has_asking L.budget (L.below.sorts a.0) (sort_step c σ s) σ' a.4 in
      let g = has_when (has_number k.0 s) (shown P L c σ) σ' k.4 in
      (a.0, k.0, a.1, a.2, k.1, k.2, a.3, k.3, g.0, from_shown c σ σ' g.1)
  from_shown (matches p u ∷ c) σ σ' h =
      let a = has_asking L.budget (L.below.eval (instance (look_up σ) u)) (match_on c σ p) σ' h in
      let x = has_each (match_one c σ p) (answers_of (chosen p a.0 σ)) σ' a.4 in
      let i = from_keep (λ y. agree P.sign.theory σ (variables p) y.values) x.0 (solutions P.sign p a.0) (has_list x.0 (chosen p a.0 σ) x.1) in
      let k = has_asking L.budget (have_sorts L.below.sorts (variables p) (x.0).values) (match_step c σ p x.0) σ' x.2 in
      let g = has_when k.0 (shown P L c (extend σ (variables p) (x.0).values)) σ' k.4 in (
        a.0,
        x.0,
        a.1,
        a.2,
        a.3,
        i.0,
        i.1,
        (k.1, k.2, subst (λ z. have_sorts L.below.sorts (variables p) (x.0).values L.budget ≡ done z k.1 k.2) g.0 k.3),
        from_shown c (extend σ (variables p) (x.0).values) σ' g.1,
      )
  from_shown (reaches t u ∷ c) σ σ' h = absurd h

  pub into_shown : (c : List Fragment) (σ σ' : Binding) → IsWhole (shown P L c σ) → Shows P L c σ σ' → Has σ' (shown P L c σ)
  into_shown [] σ σ' w e = inl e
  into_shown (equals t u ∷ c) σ σ' w s =
      let m = L.below.eval (instance (look_up σ) t) in
      let n = L.below.eval (instance (look_up σ) u) in
      let w1 = whole_asking L.budget m (equal_on c σ u) s.0 s.1 s.2 s.5 w in
      let w2 = whole_asking L.budget n (equal_step c σ s.0) s.0 s.3 s.4 s.6 w1 in
      into_asking L.budget m (equal_on c σ u) s.0 s.1 s.2 σ' s.5
      (into_asking L.budget n (equal_step c σ s.0) s.0 s.3 s.4 σ' s.6
      (into_when (same_tree s.0 s.0) (shown P L c σ) σ' (same_tree_itself s.0) (into_shown c σ σ' (whole_when (same_tree s.0 s.0) (shown P L c σ) (same_tree_itself s.0) w2) s.7)))
  into_shown (has_sort t j ∷ c) σ σ' w s =
      let m = L.below.eval (instance (look_up σ) t) in
      let w1 = whole_asking L.budget m (sort_on c σ j) s.0 s.2 s.3 s.6 w in
      let w2 = whole_asking L.budget (L.below.sorts s.0) (sort_step c σ j) s.1 s.4 s.5 s.7 w1 in
      into_asking L.budget m (sort_on c σ j) s.0 s.2 s.3 σ' s.6
      (into_asking L.budget (L.below.sorts s.0) (sort_step c σ j) s.1 s.4 s.5 σ' s.7
      (into_when (has_number s.1 j) (shown P L c σ) σ' s.8 (into_shown c σ σ' (whole_when (has_number s.1 j) (shown P L c σ) s.8 w2) s.9)))
  into_shown (matches p u ∷ c) σ σ' w s =
      let m = L.below.eval (instance (look_up σ) u) in
      let w1 = whole_asking L.budget m (match_on c σ p) s.0 s.2 s.3 s.4 w in
      let x = s.1 in
      let i = list_has x (chosen p s.0 σ) (in_keep (λ y. agree P.sign.theory σ (variables p) y.values) x (solutions P.sign p s.0) s.5 s.6) in
      let w2 = whole_at (match_one c σ p) (answers_of (chosen p s.0 σ)) w1 x i in
      let hs = have_sorts L.below.sorts (variables p) x.values in
      let w3 = whole_asking L.budget hs (match_step c σ p x) true (s.7).0 (s.7).1 (s.7).2 w2 in
      into_asking L.budget m (match_on c σ p) s.0 s.2 s.3 σ' s.4
      (into_each (match_one c σ p) (answers_of (chosen p s.0 σ)) x σ' w1 i
      (into_asking L.budget hs (match_step c σ p x) true (s.7).0 (s.7).1 σ' (s.7).2 (into_shown c (extend σ (variables p) x.values) σ' w3 s.8)))
  into_shown (reaches t u ∷ c) σ σ' w s = s

  -- ---- asked for one after another

  asked_shown : (c : List Fragment) (σ : Binding) (o : Outcome (Option Binding)) (p : Answers Binding) → IsWhole (asked_from P L c σ o p) → IsWhole p
  asked_shown c σ (ended e) p w = absurd w
  asked_shown c σ (done o r b) no_more w = tt
  asked_shown c σ (done o r b) (ends_by e) w = w
  asked_shown c σ (done o r b) (answer last p) w = asked_shown c σ (L.ask_after last c σ L.budget) p w

  into_asked : (c : List Fragment) (σ y : Binding) (o : Outcome (Option Binding)) (p : Answers Binding) → IsWhole (asked_from P L c σ o p) → Has y p → Has y (asked_from P L c σ o p)
  into_asked c σ y (ended e) p w h = absurd w
  into_asked c σ y (done o r b) no_more w h = h
  into_asked c σ y (done o r b) (ends_by e) w h = h
  into_asked c σ y (done o r b) (answer last p) w (inl e) = inl e
  into_asked c σ y (done o r b) (answer last p) w (inr h) = inr (into_asked c σ y (L.ask_after last c σ L.budget) p w h)

  from_asked : (c : List Fragment) (σ y : Binding) (o : Outcome (Option Binding)) (p : Answers Binding) → Has y (asked_from P L c σ o p) → Has y p
  from_asked c σ y (ended e) p h = absurd h
  from_asked c σ y (done o r b) no_more h = h
  from_asked c σ y (done o r b) (ends_by e) h = h
  from_asked c σ y (done o r b) (answer last p) (inl e) = inl e
  from_asked c σ y (done o r b) (answer last p) (inr h) = inr (from_asked c σ y (L.ask_after last c σ L.budget) p h)

  first_goes : (c : List Fragment) (σ : Binding) (o : Outcome (Option Binding)) (p : Answers Binding) → IsWhole (asked_from P L c σ o p) → (e : End) → o ≡ ended e → ⊥
  first_goes c σ o p w e q = let v : IsWhole (asked_from P L c σ (ended e) p) = subst (λ z. IsWhole (asked_from P L c σ z p)) q w in v

  next_goes : (c : List Fragment) (σ y : Binding) (o : Outcome (Option Binding)) (p : Answers Binding) → IsWhole (asked_from P L c σ o p) → Has y p → (e : End) → L.ask_after y c σ L.budget ≡ ended e → ⊥
  next_goes c σ y (ended z) p w h e q = w
  next_goes c σ y (done o r b) no_more w h e q = h
  next_goes c σ y (done o r b) (ends_by z) w h e q = w
  next_goes c σ y (done o r b) (answer last p) w (inl i) e q = first_goes c σ (L.ask_after last c σ L.budget) p w e (subst (λ z. L.ask_after z c σ L.budget ≡ ended e) i q)
  next_goes c σ y (done o r b) (answer last p) w (inr h) e q = next_goes c σ y (L.ask_after last c σ L.budget) p w h e q

  pub shows_asked : (c : List Fragment) (σ σ' : Binding) → IsWhole (asked P L c σ) → Shows P L c σ σ' → Has σ' (asked P L c σ)
  shows_asked c σ σ' w s = into_asked c σ σ' (L.ask c σ L.budget) (shown P L c σ) w (into_shown c σ σ' (asked_shown c σ (L.ask c σ L.budget) (shown P L c σ) w) s)

  pub asked_shows : (c : List Fragment) (σ σ' : Binding) → Has σ' (asked P L c σ) → Shows P L c σ σ'
  asked_shows c σ σ' h = from_shown c σ σ' (from_asked c σ σ' (L.ask c σ L.budget) (shown P L c σ) h)

  pub asked_goes : (c : List Fragment) (σ : Binding) → IsWhole (asked P L c σ) → AskingEnds P L c σ → ⊥
  asked_goes c σ w (inl a) = first_goes c σ (L.ask c σ L.budget) (shown P L c σ) w a.0 a.1
  asked_goes c σ w (inr a) =
      next_goes c σ a.0 (L.ask c σ L.budget) (shown P L c σ) w (into_shown c σ a.0 (asked_shown c σ (L.ask c σ L.budget) (shown P L c σ) w) a.2) a.1 a.3
