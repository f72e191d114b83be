-- No rule run raises its budget, and so a run is a round and then a run.
use Rattle.std.proofs.Common.{◌≡◌, ℕ, zero, suc, ◌+◌, ◌≤◌, List, [], ◌∷◌, Bool, true, false, Option, Some, None, refl, ap, ◌∙◌, arith, le_trans}
use Rattle.mau_terms.specs.Tree.{Tree, variable, numeral, apply, Trees, no_trees, tree, node}
use Rattle.mau_terms.specs.Norm.{norm}
use Rattle.mau_terms.specs.Subst.{variables}
use Rattle.mau_evaluation.specs.Run.{stopped, Outcome, done, ended, Run, gives, ends, counted, go_on, and_then, and_try, spending, first_of, choose, where_true, IsLeft, NeverRises, SameUpTo}
use Rattle.mau_evaluation.specs.Program.{Fragment, Rule, Program}
use Rattle.mau_evaluation.specs.Listing.{Solution, solutions_within}
use Rattle.mau_evaluation.specs.Evaluation.{Binding, have_sorts, binding_of, levels, solve, admit}
use Rattle.mau_evaluation.specs.Rules.{Place, places_of}
use Rattle.mau_evaluation.specs.RuleRuns.{Turns, Stand, normal, bound, PassEnd, numbered, rules_at, result_of, by_rule, at_place, one_rewrite, evaluated, go_on_from, rewriting_on, rewrites, rewriting, rewrite_run, Pass, PassList, one_less, is_out, with_term, top_from, at_top_up_to, top_of_pass, pass, pass_list, after_pass, passing_on, passes, passing, frewrite_run}
use Rattle.mau_evaluation.specs.StrategyLaws.{RuleRunsFall, RuleRunsGoOn}
use Rattle.mau_evaluation.proofs.Falls.{gives_falls, then_falls, try_falls, spending_falls, first_falls, choose_falls, where_falls, have_sorts_fall, solve_falls, levels_fall, then_same, choose_same, within_falls}

abbrev Asker : Type 0
Asker = List Fragment → Binding → Run (Option Binding)

-- ---- what a computation gives that made a rewrite took something from the budget

-- old: one had been made before
abbrev IsSpent : {A : Type 0} → (A → Bool) → Bool → ℕ → Outcome A → Type 0
IsSpent made old b (done x r c) = (c ≤ b) × (made x ≡ true → old ≡ false → suc c ≤ b)
IsSpent made old b (ended e) = Unit {0}

abbrev Spends : {A : Type 0} → (A → Bool) → Bool → Run A → Type 0
Spends made old m = (b : ℕ) → IsSpent made old b (m b)

gives_spends : {A : Type 0} (made : A → Bool) (x : A) → Spends made (made x) (gives x)
gives_spends made x b = (omega arith, λ e q. absurd (clash (made x) e q))
  where
    clash : (t : Bool) → t ≡ true → t ≡ false → ⊥
    clash true e q = cc
    clash false e q = cc

lower_spent : {A : Type 0} (made : A → Bool) (old : Bool) (r b c : ℕ) (o : Outcome A) → c ≤ b → IsSpent made old c o → IsSpent made old b (counted r o)
lower_spent made old r b c (done x q d) i h = (le_trans h.0 i, λ e p. le_trans (h.1 e p) i)
lower_spent made old r b c (ended e) i h = tt

then_spends : {A B : Type 0} (made : B → Bool) (old : Bool) (m : Run A) (k : A → Run B) → NeverRises m → ((x : A) → Spends made old (k x)) → Spends made old (and_then m k)
then_spends {A = A} made old m k h g b = by (m b) (h b)
  where
    by : (o : Outcome A) → IsLeft b o → IsSpent made old b (go_on k o)
    by (done x r c) i = lower_spent made old r b c (k x c) (less r c i) (g x c)
      where
        less : (r c : ℕ) → r + c ≤ b → c ≤ b
        less r c i = omega arith
    by (ended e) i = tt

-- the second goes on from what the first made
both_spend : {A B : Type 0} (made : A → Bool) (made' : B → Bool) (old : Bool) (m : Run A) (k : A → Run B) → Spends made old m → ((x : A) → Spends made' (made x) (k x)) → Spends made' old (and_then m k)
both_spend {A = A} {B = B} made made' old m k h g b = by (m b) (h b)
  where
    after : (x : A) (r c : ℕ) → (c ≤ b) × (made x ≡ true → old ≡ false → suc c ≤ b) → (t : Bool) → made x ≡ t → (o : Outcome B) → IsSpent made' t c o → IsSpent made' old b (counted r o)
    after x r c i true e (done y q d) j = (le_trans j.0 i.0, λ p w. le_trans (more d c j.0) (i.1 e w))
      where
        more : (d c : ℕ) → d ≤ c → suc d ≤ suc c
        more d c l = omega arith
    after x r c i false e (done y q d) j = (le_trans j.0 i.0, λ p w. le_trans (j.1 p refl) i.0)
    after x r c i t e (ended z) j = tt

    by : (o : Outcome A) → IsSpent made old b o → IsSpent made' old b (go_on k o)
    by (done x r c) i = after x r c i (made x) refl (k x c) (g x c)
    by (ended e) i = tt

-- a rewrite takes one
spending_spends : {A : Type 0} (made : A → Bool) (old : Bool) (m : Run A) → NeverRises m → Spends made old (spending m)
spending_spends made old m h zero = tt
spending_spends {A = A} made old m h (suc b) = by (m b) (h b)
  where
    by : (o : Outcome A) → IsLeft b o → IsSpent made old (suc b) (counted 1 o)
    by (done x r c) i = (less r c i, λ e q. one r c i)
      where
        less : (r c : ℕ) → r + c ≤ b → c ≤ suc b
        less r c i = omega arith

        one : (r c : ℕ) → r + c ≤ b → suc c ≤ suc b
        one r c i = omega arith
    by (ended e) i = tt

choose_spends : {A : Type 0} (made : A → Bool) (old t : Bool) (m k : Run A) → Spends made old m → Spends made old k → Spends made old (choose t m k)
choose_spends made old true m k h g = h
choose_spends made old false m k h g = g

module _ (P : Program) (ev : Tree → Run Tree) (so : Tree → Run (List ℕ)) (ask : Asker) (h : (t : Tree) → NeverRises (ev t)) (g : (t : Tree) → NeverRises (so t)) (a : (c : List Fragment) (σ : Binding) → NeverRises (ask c σ)) where
  by_rule_falls : (n : Turns) (s : Place) (q : ℕ × Rule) → NeverRises (by_rule P ev so ask n s q)
  by_rule_falls n s q =
      let one : Solution → Run (Option Stand) = λ x. and_try (have_sorts so (variables q.1.left) x.values) λ ok. where_true ok (and_try (ask q.1.cond (binding_of q.1.left x)) λ o. gives (result_of P ev so ask n s q x o)) in
      where_falls q.1.exec (first_of one (solutions_within P.sign q.1.left s.term))
      (first_falls one
      (λ x. try_falls (have_sorts so (variables q.1.left) x.values) (λ ok. where_true ok (and_try (ask q.1.cond (binding_of q.1.left x)) λ o. gives (result_of P ev so ask n s q x o))) (have_sorts_fall so g (variables q.1.left) x.values)
      λ ok. where_falls ok (and_try (ask q.1.cond (binding_of q.1.left x)) λ o. gives (result_of P ev so ask n s q x o))
      (try_falls (ask q.1.cond (binding_of q.1.left x)) (λ o. gives (result_of P ev so ask n s q x o)) (a q.1.cond (binding_of q.1.left x)) λ o. gives_falls (result_of P ev so ask n s q x o)))
      (solutions_within P.sign q.1.left s.term))

  at_place_falls : (n : Turns) (s : Place) → NeverRises (at_place P ev so ask n s)
  at_place_falls n s = first_falls (by_rule P ev so ask n s) (by_rule_falls n s) (rules_at (numbered 0 P.rules) n s.term)

  one_rewrite_falls : (s : Stand) → NeverRises (one_rewrite P ev so ask s)
  one_rewrite_falls s = first_falls (at_place P ev so ask s.turns) (at_place_falls s.turns) (places_of P s.term)

  evaluated_falls : (s : Stand) → NeverRises (evaluated P ev so ask s)
  evaluated_falls s = then_falls (ev s.term) (λ v. gives (record { term = v; turns = s.turns })) (h s.term) λ v. gives_falls {A = Stand} (record { term = v; turns = s.turns })

  -- ---- rewriting

  go_on_falls : (next : Stand → Run PassEnd) → ((s : Stand) → NeverRises (next s)) → (s : Stand) (o : Option Stand) → NeverRises (go_on_from P ev so ask next s o)
  go_on_falls next k s None = gives_falls {A = PassEnd} (s, normal)
  go_on_falls next k s (Some u) = spending_falls (and_then (evaluated P ev so ask u) next) (then_falls (evaluated P ev so ask u) next (evaluated_falls u) k)

  rewriting_falls : (next : Stand → Run PassEnd) → ((s : Stand) → NeverRises (next s)) → (n : Option ℕ) (s : Stand) → NeverRises (rewriting_on P ev so ask next n s)
  rewriting_falls next k n s =
      choose_falls (is_out n) (gives (s, bound)) (and_then (one_rewrite P ev so ask s) (go_on_from P ev so ask next s)) (gives_falls {A = PassEnd} (s, bound))
      (then_falls (one_rewrite P ev so ask s) (go_on_from P ev so ask next s) (one_rewrite_falls s) (go_on_falls next k s))

  rewrites_fall : (m : ℕ) (n : Option ℕ) (s : Stand) → NeverRises (rewrites P ev so ask m n s)
  rewrites_fall zero n s = rewriting_falls (λ u. ends stopped) (λ u b. tt) n s
  rewrites_fall (suc m) n s = rewriting_falls (rewrites P ev so ask m (one_less n)) (rewrites_fall m (one_less n)) n s

  pub rewrite_run_falls : (n : Option ℕ) (s : Stand) → NeverRises (rewrite_run P ev so ask n s)
  rewrite_run_falls n s = then_falls (evaluated P ev so ask s) (rewriting P ev so ask n) (evaluated_falls s) λ u b. rewrites_fall b n u b

  abbrev AgreeBelow : ℕ → (Stand → Run PassEnd) → (Stand → Run PassEnd) → Type 0
  AgreeBelow n next next' = (u : Stand) (b : ℕ) → suc b ≤ n → next u b ≡ next' u b

  go_on_same : (n : ℕ) (next next' : Stand → Run PassEnd) → AgreeBelow n next next' → (s : Stand) (o : Option Stand) → SameUpTo n (go_on_from P ev so ask next s o) (go_on_from P ev so ask next' s o)
  go_on_same n next next' k s None b i = refl
  go_on_same n next next' k s (Some u) zero i = refl
  go_on_same n next next' k s (Some u) (suc b) i =
      ap (counted 1) (then_same b (evaluated P ev so ask u) next next' (evaluated_falls u) (λ v c j. k v c (le_trans (more c b j) i)) b (omega arith))
    where
      more : (c b : ℕ) → c ≤ b → suc c ≤ suc b
      more c b j = omega arith

  rewriting_same : (n : ℕ) (next next' : Stand → Run PassEnd) → AgreeBelow n next next' → (c : Option ℕ) (s : Stand) → SameUpTo n (rewriting_on P ev so ask next c s) (rewriting_on P ev so ask next' c s)
  rewriting_same n next next' k c s =
      choose_same n (is_out c) (gives (s, bound)) (and_then (one_rewrite P ev so ask s) (go_on_from P ev so ask next s)) (and_then (one_rewrite P ev so ask s) (go_on_from P ev so ask next' s))
      (then_same n (one_rewrite P ev so ask s) (go_on_from P ev so ask next s) (go_on_from P ev so ask next' s) (one_rewrite_falls s) (go_on_same n next next' k s))

  none_below : (c b : ℕ) → suc c ≤ b → b ≤ 0 → ⊥
  none_below c b k i = omega arith

  less_below : (c b n : ℕ) → suc c ≤ b → b ≤ suc n → c ≤ n
  less_below c b n k i = omega arith

  -- as many rounds as there is budget are enough
  enough_rounds : (m m' : ℕ) (n : Option ℕ) (s : Stand) (b : ℕ) → b ≤ m → b ≤ m' → rewrites P ev so ask m n s b ≡ rewrites P ev so ask m' n s b
  enough_rounds zero zero n s b i j = refl
  enough_rounds zero (suc m') n s b i j = rewriting_same b (λ u. ends stopped) (rewrites P ev so ask m' (one_less n)) (λ u c k. absurd (none_below c b k i)) n s b (omega arith)
  enough_rounds (suc m) zero n s b i j = rewriting_same b (rewrites P ev so ask m (one_less n)) (λ u. ends stopped) (λ u c k. absurd (none_below c b k j)) n s b (omega arith)
  enough_rounds (suc m) (suc m') n s b i j =
      rewriting_same b (rewrites P ev so ask m (one_less n)) (rewrites P ev so ask m' (one_less n)) (λ u c k. enough_rounds m m' (one_less n) u c (less_below c b m k i) (less_below c b m' k j)) n s b (omega arith)

  pub rewriting_goes_on : (n : Option ℕ) (s : Stand) (b : ℕ) → rewriting P ev so ask n s b ≡ rewriting_on P ev so ask (rewriting P ev so ask (one_less n)) n s b
  rewriting_goes_on n s b =
      enough_rounds b (suc b) n s b (omega arith) (omega arith) ∙
      rewriting_same b (rewrites P ev so ask b (one_less n)) (rewriting P ev so ask (one_less n)) (λ u c k. enough_rounds b c (one_less n) u c (below c b k) (omega arith)) n s b (omega arith)
    where
      below : (c b : ℕ) → suc c ≤ b → c ≤ b
      below c b k = omega arith

  -- ---- passing

  abbrev moved : Pass → Stand → Pass
  moved s v = record { stand = v; left = one_less s.left; made = true }

  top_from_falls : (next : Pass → Run Pass) → ((s : Pass) → NeverRises (next s)) → (s : Pass) (o : Option Stand) → NeverRises (top_from P ev so ask next s o)
  top_from_falls next k s None = gives_falls s
  top_from_falls next k s (Some u) =
      spending_falls (and_then (evaluated P ev so ask u) λ v. next (moved s v)) (then_falls (evaluated P ev so ask u) (λ v. next (moved s v)) (evaluated_falls u) λ v. k (moved s v))

  abbrev root : Pass → Place
  root s = record { term = s.stand.term; around = λ v. v }

  top_falls : (n : ℕ) (s : Pass) → NeverRises (at_top_up_to P ev so ask n s)
  top_falls zero s = gives_falls s
  top_falls (suc n) s =
      choose_falls (is_out s.left) (gives s) (and_then (at_place P ev so ask s.stand.turns (root s)) (top_from P ev so ask (at_top_up_to P ev so ask n) s)) (gives_falls s)
      (then_falls (at_place P ev so ask s.stand.turns (root s)) (top_from P ev so ask (at_top_up_to P ev so ask n) s) (at_place_falls s.stand.turns (root s)) (top_from_falls (at_top_up_to P ev so ask n) (top_falls n) s))

  top_from_spends : (next : Pass → Run Pass) → ((s : Pass) → NeverRises (next s)) → (s : Pass) (o : Option Stand) → Spends (λ p. p.made) s.made (top_from P ev so ask next s o)
  top_from_spends next k s None = gives_spends (λ p. p.made) s
  top_from_spends next k s (Some u) =
      spending_spends (λ p. p.made) s.made (and_then (evaluated P ev so ask u) λ v. next (moved s v)) (then_falls (evaluated P ev so ask u) (λ v. next (moved s v)) (evaluated_falls u) λ v. k (moved s v))

  top_spends : (n : ℕ) (s : Pass) → Spends (λ p. p.made) s.made (at_top_up_to P ev so ask n s)
  top_spends zero s = gives_spends (λ p. p.made) s
  top_spends (suc n) s =
      choose_spends (λ p. p.made) s.made (is_out s.left) (gives s) (and_then (at_place P ev so ask s.stand.turns (root s)) (top_from P ev so ask (at_top_up_to P ev so ask n) s)) (gives_spends (λ p. p.made) s)
      (then_spends (λ p. p.made) s.made (at_place P ev so ask s.stand.turns (root s)) (top_from P ev so ask (at_top_up_to P ev so ask n) s) (at_place_falls s.stand.turns (root s)) (top_from_spends (at_top_up_to P ev so ask n) (top_falls n) s))

  passed_top_falls : (n : ℕ) (s : Pass) → NeverRises (top_of_pass P ev so ask n s)
  passed_top_falls n s =
      choose_falls (is_out s.left) (gives s) (and_then (ev s.stand.term) λ v. at_top_up_to P ev so ask n (with_term s v)) (gives_falls s)
      (then_falls (ev s.stand.term) (λ v. at_top_up_to P ev so ask n (with_term s v)) (h s.stand.term) λ v. top_falls n (with_term s v))

  passed_top_spends : (n : ℕ) (s : Pass) → Spends (λ p. p.made) s.made (top_of_pass P ev so ask n s)
  passed_top_spends n s =
      choose_spends (λ p. p.made) s.made (is_out s.left) (gives s) (and_then (ev s.stand.term) λ v. at_top_up_to P ev so ask n (with_term s v)) (gives_spends (λ p. p.made) s)
      (then_spends (λ p. p.made) s.made (ev s.stand.term) (λ v. at_top_up_to P ev so ask n (with_term s v)) (h s.stand.term) λ v. top_spends n (with_term s v))

  mutual
    pass_falls : (n : ℕ) (t : Tree) (s : Pass) → NeverRises (pass P ev so ask n t s)
    pass_falls n (variable i r) s = passed_top_falls n (with_term s (variable i r))
    pass_falls n (numeral m) s = passed_top_falls n (with_term s (numeral m))
    pass_falls n (apply f ts) s =
        then_falls (pass_list P ev so ask n f 0 ts s) (λ p. top_of_pass P ev so ask n (with_term p.state (node f p.items))) (list_falls n f 0 ts s) λ p. passed_top_falls n (with_term p.state (node f p.items))

    list_falls : (n f i : ℕ) (ts : Trees) (s : Pass) → NeverRises (pass_list P ev so ask n f i ts s)
    list_falls n f i no_trees s = gives_falls {A = PassList} (record { items = []; state = s })
    list_falls n f i (tree t ts) s =
        then_falls (choose (P.frozen f i) (gives (with_term s t)) (pass P ev so ask n t s))
        (λ q. and_then (pass_list P ev so ask n f (suc i) ts q) λ p. gives (record { items = q.stand.term ∷ p.items; state = p.state }))
        (choose_falls (P.frozen f i) (gives (with_term s t)) (pass P ev so ask n t s) (gives_falls (with_term s t)) (pass_falls n t s))
        λ q. then_falls (pass_list P ev so ask n f (suc i) ts q) (λ p. gives (record { items = q.stand.term ∷ p.items; state = p.state })) (list_falls n f (suc i) ts q)
        λ p. gives_falls {A = PassList} (record { items = q.stand.term ∷ p.items; state = p.state })

  mutual
    pass_spends : (n : ℕ) (t : Tree) (s : Pass) → Spends (λ p. p.made) s.made (pass P ev so ask n t s)
    pass_spends n (variable i r) s = passed_top_spends n (with_term s (variable i r))
    pass_spends n (numeral m) s = passed_top_spends n (with_term s (numeral m))
    pass_spends n (apply f ts) s =
        both_spend (λ p. p.state.made) (λ p. p.made) s.made (pass_list P ev so ask n f 0 ts s) (λ p. top_of_pass P ev so ask n (with_term p.state (node f p.items))) (list_spends n f 0 ts s)
        λ p. passed_top_spends n (with_term p.state (node f p.items))

    list_spends : (n f i : ℕ) (ts : Trees) (s : Pass) → Spends (λ p. p.state.made) s.made (pass_list P ev so ask n f i ts s)
    list_spends n f i no_trees s = gives_spends {A = PassList} (λ p. p.state.made) (record { items = []; state = s })
    list_spends n f i (tree t ts) s =
        both_spend (λ q. q.made) (λ p. p.state.made) s.made (choose (P.frozen f i) (gives (with_term s t)) (pass P ev so ask n t s))
        (λ q. and_then (pass_list P ev so ask n f (suc i) ts q) λ p. gives (record { items = q.stand.term ∷ p.items; state = p.state }))
        (choose_spends (λ q. q.made) s.made (P.frozen f i) (gives (with_term s t)) (pass P ev so ask n t s) (gives_spends (λ q. q.made) (with_term s t)) (pass_spends n t s))
        λ q. both_spend (λ p. p.state.made) (λ p. p.state.made) q.made (pass_list P ev so ask n f (suc i) ts q) (λ p. gives (record { items = q.stand.term ∷ p.items; state = p.state })) (list_spends n f (suc i) ts q)
        λ p. gives_spends {A = PassList} (λ w. w.state.made) (record { items = q.stand.term ∷ p.items; state = p.state })

  abbrev Next : Type 0
  Next = Option ℕ → Stand → Run PassEnd

  after_falls : (next : Next) → ((n : Option ℕ) (s : Stand) → NeverRises (next n s)) → (p : Pass) → NeverRises (after_pass P ev so ask next p)
  after_falls next k p =
      choose_falls (is_out p.left) (and_then (evaluated P ev so ask p.stand) λ v. gives (v, bound)) (choose p.made (next p.left p.stand) (gives (p.stand, normal)))
      (then_falls (evaluated P ev so ask p.stand) (λ v. gives (v, bound)) (evaluated_falls p.stand) λ v. gives_falls {A = PassEnd} (v, bound))
      (choose_falls p.made (next p.left p.stand) (gives (p.stand, normal)) (k p.left p.stand) (gives_falls {A = PassEnd} (p.stand, normal)))

  abbrev begun : Option ℕ → Stand → Pass
  begun n s = record { stand = s; left = n; made = false }

  passing_falls : (next : Next) → ((n : Option ℕ) (s : Stand) → NeverRises (next n s)) → (m : ℕ) (n : Option ℕ) (s : Stand) → NeverRises (passing_on P ev so ask next m n s)
  passing_falls next k m n s = then_falls (pass P ev so ask m s.term (begun n s)) (after_pass P ev so ask next) (pass_falls m s.term (begun n s)) (after_falls next k)

  passes_fall : (g m : ℕ) (n : Option ℕ) (s : Stand) → NeverRises (passes P ev so ask g m n s)
  passes_fall g zero n s = passing_falls (λ k u. ends stopped) (λ k u b. tt) g n s
  passes_fall g (suc m) n s = passing_falls (passes P ev so ask g m) (passes_fall g m) g n s

  pub frewrite_run_falls : (admitted : Tree → Run Tree) → ((t : Tree) → NeverRises (admitted t)) → (g : ℕ) (n : Option ℕ) (s : Stand) → NeverRises (frewrite_run P ev so ask admitted g n s)
  frewrite_run_falls admitted k g n s =
      then_falls (admitted s.term) (λ t. passing P ev so ask g n (record { term = t; turns = s.turns })) (k s.term) λ t b. passes_fall g b n (record { term = t; turns = s.turns }) b

  abbrev PassesAgree : ℕ → Next → Next → Type 0
  PassesAgree b next next' = (n : Option ℕ) (u : Stand) (c : ℕ) → suc c ≤ b → next n u c ≡ next' n u c

  after_same : (b : ℕ) (next next' : Next) → PassesAgree b next next' → (p : Pass) (c : ℕ) → (p.made ≡ true → suc c ≤ b) → after_pass P ev so ask next p c ≡ after_pass P ev so ask next' p c
  after_same b next next' k p c i = by (is_out p.left) p.made refl
    where
      last : Run PassEnd
      last = and_then (evaluated P ev so ask p.stand) λ v. gives (v, bound)

      by : (x y : Bool) → p.made ≡ y → choose x last (choose y (next p.left p.stand) (gives (p.stand, normal))) c ≡ choose x last (choose y (next' p.left p.stand) (gives (p.stand, normal))) c
      by true y e = refl
      by false true e = k p.left p.stand c (i e)
      by false false e = refl

  passing_same : (next next' : Next) (g : ℕ) (n : Option ℕ) (s : Stand) (b : ℕ) → PassesAgree b next next' → passing_on P ev so ask next g n s b ≡ passing_on P ev so ask next' g n s b
  passing_same next next' g n s b k = by (pass P ev so ask g s.term (begun n s) b) (pass_spends g s.term (begun n s) b)
    where
      by : (o : Outcome Pass) → IsSpent (λ p. p.made) false b o → go_on (after_pass P ev so ask next) o ≡ go_on (after_pass P ev so ask next') o
      by (done p r c) i = ap (counted r) (after_same b next next' k p c (λ e. i.1 e refl))
      by (ended e) i = refl

  enough_passes : (g m m' : ℕ) (n : Option ℕ) (s : Stand) (b : ℕ) → b ≤ m → b ≤ m' → passes P ev so ask g m n s b ≡ passes P ev so ask g m' n s b
  enough_passes g zero zero n s b i j = refl
  enough_passes g zero (suc m') n s b i j = passing_same (λ k u. ends stopped) (passes P ev so ask g m') g n s b (λ q u c k. absurd (none_below c b k i))
  enough_passes g (suc m) zero n s b i j = passing_same (passes P ev so ask g m) (λ k u. ends stopped) g n s b (λ q u c k. absurd (none_below c b k j))
  enough_passes g (suc m) (suc m') n s b i j =
      passing_same (passes P ev so ask g m) (passes P ev so ask g m') g n s b (λ q u c k. enough_passes g m m' q u c (less_below c b m k i) (less_below c b m' k j))

  pub passing_goes_on : (g : ℕ) (n : Option ℕ) (s : Stand) (b : ℕ) → passing P ev so ask g n s b ≡ passing_on P ev so ask (passing P ev so ask g) g n s b
  passing_goes_on g n s b =
      enough_passes g b (suc b) n s b (omega arith) (omega arith) ∙
      passing_same (passes P ev so ask g b) (passing P ev so ask g) g n s b (λ q u c k. enough_passes g b c q u c (below c b k) (omega arith))
    where
      below : (c b : ℕ) → suc c ≤ b → c ≤ b
      below c b k = omega arith

-- ---- under limits

module _ (P : Program) (k B : ℕ) where
  asks_fall : (c : List Fragment) (σ : Binding) → NeverRises (solve P (levels P B k) c σ)
  asks_fall c σ = solve_falls P (levels P B k) (levels_fall P B k) c σ

  rewrite_falls : (n : Option ℕ) (s : Stand) → NeverRises (rewrite_run P (levels P B (suc k)).eval (levels P B (suc k)).sorts (solve P (levels P B k)) n s)
  rewrite_falls n s = let f = levels_fall P B (suc k) in rewrite_run_falls P (levels P B (suc k)).eval (levels P B (suc k)).sorts (solve P (levels P B k)) f.eval_falls f.sorts_fall asks_fall n s

  frewrite_falls : (g : ℕ) (n : Option ℕ) (s : Stand) → NeverRises (frewrite_run P (levels P B (suc k)).eval (levels P B (suc k)).sorts (solve P (levels P B k)) (admit P.sign.theory) g n s)
  frewrite_falls g n s =
      let f = levels_fall P B (suc k) in
      frewrite_run_falls P (levels P B (suc k)).eval (levels P B (suc k)).sorts (solve P (levels P B k)) f.eval_falls f.sorts_fall asks_fall (admit P.sign.theory)
      (λ t. within_falls P (levels P B (suc k)) (levels P B (suc k)).sorts f f.sorts_fall (norm P.sign.theory t)) g n s

pub rule_runs_fall : RuleRunsFall
rule_runs_fall = (rewrite_falls, frewrite_falls)

pub rule_runs_go_on : RuleRunsGoOn
rule_runs_go_on P k B =
    let f = levels_fall P B (suc k) in (
      rewriting_goes_on P (levels P B (suc k)).eval (levels P B (suc k)).sorts (solve P (levels P B k)) f.eval_falls f.sorts_fall (asks_fall P k B),
      passing_goes_on P (levels P B (suc k)).eval (levels P B (suc k)).sorts (solve P (levels P B k)) f.eval_falls f.sorts_fall (asks_fall P k B),
    )
