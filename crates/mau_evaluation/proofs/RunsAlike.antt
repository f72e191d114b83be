-- Rule runs give the same under other limits, but for some ends: as evaluations do.
use Rattle.std.proofs.Common.{◌≡◌, ℕ, zero, suc, ◌+◌, ◌∙◌, List, [], ◌∷◌, true, false, Option, Some, None, inl, inr, refl, sym, subst, arith}
use Rattle.mau_terms.specs.Tree.{Tree, variable, numeral, apply, Trees, no_trees, tree, node}
use Rattle.mau_terms.specs.Subst.{variables}
use Rattle.mau_evaluation.specs.Run.{End, stopped, Run, gives, ends, and_then, and_try, first_of, choose, where_true}
use Rattle.mau_evaluation.specs.Program.{Fragment, Rule, Program}
use Rattle.mau_evaluation.specs.Listing.{Solution, solutions_within}
use Rattle.mau_evaluation.specs.Evaluation.{Binding, have_sorts, binding_of}
use Rattle.mau_evaluation.specs.Rules.{Place, places_of}
use Rattle.mau_evaluation.specs.RuleRuns.{Turns, Stand, normal, bound, PassEnd, numbered, rules_at, result_of, by_rule, at_place, one_rewrite, evaluated, go_on_from, rewriting_on, rewrites, rewriting, rewrite_run, Pass, one_less, is_out, top_from, at_top_up_to, pass, pass_list, after_pass, passing_on, passes, passing, frewrite_run}
use Rattle.mau_evaluation.proofs.Alike.{AreAlike, AlikeOn, gives_alike, and_then_alike, and_try_alike, spending_alike, first_of_alike, where_true_alike, choose_alike, have_sorts_alike, none_before}

abbrev Asker : Type 0
Asker = List Fragment → Binding → Run (Option Binding)

module _ (excused : End → Type 0) (D : ℕ → Type 0) (stops : (d : ℕ) → D (suc d) → excused stopped) where
  module _ (P : Program) (ev ev' : Tree → Run Tree) (so so' : Tree → Run (List ℕ)) (ask ask' : Asker) (h : AlikeOn excused D stops ev ev') (g : AlikeOn excused D stops so so') (a : (c : List Fragment) (σ : Binding) → AreAlike excused D stops (ask c σ) (ask' c σ)) where
    -- ---- rewrite

    by_rule_alike : (n : Turns) (s : Place) (q : ℕ × Rule) → AreAlike excused D stops (by_rule P ev so ask n s q) (by_rule P ev' so' ask' n s q)
    by_rule_alike n s q =
        let k : Solution → Option Binding → Run (Option Stand) = λ x o. gives (result_of P ev so ask n s q x o) in
        let one : (Tree → Run (List ℕ)) → Asker → Solution → Run (Option Stand) = λ f m x. and_try (have_sorts f (variables q.1.left) x.values) λ ok. where_true ok (and_try (m q.1.cond (binding_of q.1.left x)) (k x)) in
        where_true_alike excused D stops q.1.exec (first_of (one so ask) (solutions_within P.sign q.1.left s.term)) (first_of (one so' ask') (solutions_within P.sign q.1.left s.term))
        (first_of_alike excused D stops (one so ask) (one so' ask')
        (λ x. and_try_alike excused D stops (have_sorts so (variables q.1.left) x.values) (have_sorts so' (variables q.1.left) x.values)
        (λ ok. where_true ok (and_try (ask q.1.cond (binding_of q.1.left x)) (k x))) (λ ok. where_true ok (and_try (ask' q.1.cond (binding_of q.1.left x)) (k x)))
        (have_sorts_alike excused D stops so so' g (variables q.1.left) x.values)
        λ ok. where_true_alike excused D stops ok (and_try (ask q.1.cond (binding_of q.1.left x)) (k x)) (and_try (ask' q.1.cond (binding_of q.1.left x)) (k x))
        (and_try_alike excused D stops (ask q.1.cond (binding_of q.1.left x)) (ask' q.1.cond (binding_of q.1.left x)) (k x) (k x) (a q.1.cond (binding_of q.1.left x)) λ o. gives_alike excused D stops (result_of P ev so ask n s q x o)))
        (solutions_within P.sign q.1.left s.term))

    at_place_alike : (n : Turns) (p : Place) → AreAlike excused D stops (at_place P ev so ask n p) (at_place P ev' so' ask' n p)
    at_place_alike n p = first_of_alike excused D stops (by_rule P ev so ask n p) (by_rule P ev' so' ask' n p) (by_rule_alike n p) (rules_at (numbered 0 P.rules) n p.term)

    one_rewrite_alike : (s : Stand) → AreAlike excused D stops (one_rewrite P ev so ask s) (one_rewrite P ev' so' ask' s)
    one_rewrite_alike s =
        first_of_alike excused D stops (at_place P ev so ask s.turns) (at_place P ev' so' ask' s.turns) (at_place_alike s.turns) (places_of P s.term)

    evaluated_alike : (s : Stand) → AreAlike excused D stops (evaluated P ev so ask s) (evaluated P ev' so' ask' s)
    evaluated_alike s = and_then_alike excused D stops (ev s.term) (ev' s.term) (λ v. gives (record { term = v; turns = s.turns })) (λ v. gives (record { term = v; turns = s.turns })) (h s.term) λ v. gives_alike excused D stops (record { term = v; turns = s.turns })

    go_on_alike : (n n' : Stand → Run PassEnd) → ((s : Stand) → AreAlike excused D stops (n s) (n' s)) → (s : Stand) (o : Option Stand) → AreAlike excused D stops (go_on_from P ev so ask n s o) (go_on_from P ev' so' ask' n' s o)
    go_on_alike n n' k s None = gives_alike excused D stops (s, normal)
    go_on_alike n n' k s (Some u) = spending_alike excused D stops (and_then (evaluated P ev so ask u) n) (and_then (evaluated P ev' so' ask' u) n') (and_then_alike excused D stops (evaluated P ev so ask u) (evaluated P ev' so' ask' u) n n' (evaluated_alike u) k)

    rewriting_alike : (n n' : Stand → Run PassEnd) → ((s : Stand) → AreAlike excused D stops (n s) (n' s)) → (c : Option ℕ) (s : Stand) → AreAlike excused D stops (rewriting_on P ev so ask n c s) (rewriting_on P ev' so' ask' n' c s)
    rewriting_alike n n' k c s =
        choose_alike excused D stops (is_out c) (gives (s, bound)) (gives (s, bound)) (and_then (one_rewrite P ev so ask s) (go_on_from P ev so ask n s)) (and_then (one_rewrite P ev' so' ask' s) (go_on_from P ev' so' ask' n' s)) (gives_alike excused D stops (s, bound))
        (and_then_alike excused D stops (one_rewrite P ev so ask s) (one_rewrite P ev' so' ask' s) (go_on_from P ev so ask n s) (go_on_from P ev' so' ask' n' s) (one_rewrite_alike s) (go_on_alike n n' k s))

    -- where the first has no rounds left it is stopped
    rewrites_alike : (m m' d : ℕ) → m' ≡ m + d → D d → (n : Option ℕ) (s : Stand) → AreAlike excused D stops (rewrites P ev so ask m n s) (rewrites P ev' so' ask' m' n s)
    rewrites_alike zero zero d e q n s = rewriting_alike (λ u. ends stopped) (λ u. ends stopped) (λ u b c k. inr refl) n s
    rewrites_alike zero (suc m') d e q n s =
        let z : excused stopped = stops m' (subst D (sym (e ∙ none_before d)) q) in rewriting_alike (λ u. ends stopped) (rewrites P ev' so' ask' m' (one_less n)) (λ u b c k. inl z) n s
    rewrites_alike (suc m) zero d e q n s = absurd (omega arith)
    rewrites_alike (suc m) (suc m') d e q n s = rewriting_alike (rewrites P ev so ask m (one_less n)) (rewrites P ev' so' ask' m' (one_less n)) (rewrites_alike m m' d (omega arith) q (one_less n)) n s

    pub rewrite_run_alike : (n : Option ℕ) (s : Stand) → AreAlike excused D stops (rewrite_run P ev so ask n s) (rewrite_run P ev' so' ask' n s)
    rewrite_run_alike n s =
        and_then_alike excused D stops (evaluated P ev so ask s) (evaluated P ev' so' ask' s) (rewriting P ev so ask n) (rewriting P ev' so' ask' n) (evaluated_alike s) λ u b d q. rewrites_alike b (b + d) d refl q n u b d q

    -- ---- frewrite

    abbrev put : Pass → Stand → Pass
    put p v = record { stand = v; left = one_less p.left; made = true }

    from_alike : (n n' : Pass → Run Pass) → ((p : Pass) → AreAlike excused D stops (n p) (n' p)) → (p : Pass) (o : Option Stand) → AreAlike excused D stops (top_from P ev so ask n p o) (top_from P ev' so' ask' n' p o)
    from_alike n n' k p None = gives_alike excused D stops p
    from_alike n n' k p (Some u) =
        spending_alike excused D stops (and_then (evaluated P ev so ask u) (λ v. n (put p v))) (and_then (evaluated P ev' so' ask' u) (λ v. n' (put p v)))
        (and_then_alike excused D stops (evaluated P ev so ask u) (evaluated P ev' so' ask' u) (λ v. n (put p v)) (λ v. n' (put p v)) (evaluated_alike u) λ v. k (put p v))

    top_alike : (g : ℕ) (p : Pass) → AreAlike excused D stops (at_top_up_to P ev so ask g p) (at_top_up_to P ev' so' ask' g p)
    top_alike zero p = gives_alike excused D stops p
    top_alike (suc g) p =
        let q : Place = record { term = p.stand.term; around = λ v. v } in
        choose_alike excused D stops (is_out p.left) (gives p) (gives p) (and_then (at_place P ev so ask p.stand.turns q) (top_from P ev so ask (at_top_up_to P ev so ask g) p)) (and_then (at_place P ev' so' ask' p.stand.turns q) (top_from P ev' so' ask' (at_top_up_to P ev' so' ask' g) p)) (gives_alike excused D stops p)
        (and_then_alike excused D stops (at_place P ev so ask p.stand.turns q) (at_place P ev' so' ask' p.stand.turns q) (top_from P ev so ask (at_top_up_to P ev so ask g) p) (top_from P ev' so' ask' (at_top_up_to P ev' so' ask' g) p)
        (at_place_alike p.stand.turns q) (from_alike (at_top_up_to P ev so ask g) (at_top_up_to P ev' so' ask' g) (top_alike g) p))

    abbrev at_term : Pass → Tree → Pass
    at_term p v = record { stand = record { term = v; turns = p.stand.turns }; left = p.left; made = p.made }

    -- the value of a term, and then up to g rewrites at its top
    valued_alike : (g : ℕ) (t : Tree) (p : Pass) → AreAlike excused D stops (choose (is_out p.left) (gives (at_term p t)) (and_then (ev t) λ v. at_top_up_to P ev so ask g (at_term p v))) (choose (is_out p.left) (gives (at_term p t)) (and_then (ev' t) λ v. at_top_up_to P ev' so' ask' g (at_term p v)))
    valued_alike g t p =
        choose_alike excused D stops (is_out p.left) (gives (at_term p t)) (gives (at_term p t)) (and_then (ev t) λ v. at_top_up_to P ev so ask g (at_term p v)) (and_then (ev' t) λ v. at_top_up_to P ev' so' ask' g (at_term p v)) (gives_alike excused D stops (at_term p t))
        (and_then_alike excused D stops (ev t) (ev' t) (λ v. at_top_up_to P ev so ask g (at_term p v)) (λ v. at_top_up_to P ev' so' ask' g (at_term p v)) (h t) λ v. top_alike g (at_term p v))

    mutual
      pass_alike : (g : ℕ) (t : Tree) (p : Pass) → AreAlike excused D stops (pass P ev so ask g t p) (pass P ev' so' ask' g t p)
      pass_alike g (variable i r) p = valued_alike g (variable i r) p
      pass_alike g (numeral n) p = valued_alike g (numeral n) p
      pass_alike g (apply f ts) p =
          and_then_alike excused D stops (pass_list P ev so ask g f 0 ts p) (pass_list P ev' so' ask' g f 0 ts p)
          (λ q. choose (is_out q.state.left) (gives (at_term q.state (node f q.items))) (and_then (ev (node f q.items)) λ v. at_top_up_to P ev so ask g (at_term q.state v)))
          (λ q. choose (is_out q.state.left) (gives (at_term q.state (node f q.items))) (and_then (ev' (node f q.items)) λ v. at_top_up_to P ev' so' ask' g (at_term q.state v)))
          (list_alike g f 0 ts p) λ q. valued_alike g (node f q.items) q.state

      list_alike : (g f n : ℕ) (ts : Trees) (p : Pass) → AreAlike excused D stops (pass_list P ev so ask g f n ts p) (pass_list P ev' so' ask' g f n ts p)
      list_alike g f n no_trees p = gives_alike excused D stops (record { items = []; state = p })
      list_alike g f n (tree t ts) p =
          and_then_alike excused D stops (choose (P.frozen f n) (gives (at_term p t)) (pass P ev so ask g t p)) (choose (P.frozen f n) (gives (at_term p t)) (pass P ev' so' ask' g t p))
          (λ q. and_then (pass_list P ev so ask g f (suc n) ts q) λ r. gives (record { items = q.stand.term ∷ r.items; state = r.state }))
          (λ q. and_then (pass_list P ev' so' ask' g f (suc n) ts q) λ r. gives (record { items = q.stand.term ∷ r.items; state = r.state }))
          (choose_alike excused D stops (P.frozen f n) (gives (at_term p t)) (gives (at_term p t)) (pass P ev so ask g t p) (pass P ev' so' ask' g t p) (gives_alike excused D stops (at_term p t)) (pass_alike g t p))
          λ q. and_then_alike excused D stops (pass_list P ev so ask g f (suc n) ts q) (pass_list P ev' so' ask' g f (suc n) ts q)
          (λ r. gives (record { items = q.stand.term ∷ r.items; state = r.state })) (λ r. gives (record { items = q.stand.term ∷ r.items; state = r.state }))
          (list_alike g f (suc n) ts q) λ r. gives_alike excused D stops (record { items = q.stand.term ∷ r.items; state = r.state })

    after_alike : (n n' : Option ℕ → Stand → Run PassEnd) → ((c : Option ℕ) (s : Stand) → AreAlike excused D stops (n c s) (n' c s)) → (p : Pass) → AreAlike excused D stops (after_pass P ev so ask n p) (after_pass P ev' so' ask' n' p)
    after_alike n n' k p =
        choose_alike excused D stops (is_out p.left) (and_then (evaluated P ev so ask p.stand) λ v. gives (v, bound)) (and_then (evaluated P ev' so' ask' p.stand) λ v. gives (v, bound))
        (choose p.made (n p.left p.stand) (gives (p.stand, normal))) (choose p.made (n' p.left p.stand) (gives (p.stand, normal)))
        (and_then_alike excused D stops (evaluated P ev so ask p.stand) (evaluated P ev' so' ask' p.stand) (λ v. gives (v, bound)) (λ v. gives (v, bound)) (evaluated_alike p.stand) λ v. gives_alike excused D stops (v, bound))
        (choose_alike excused D stops p.made (n p.left p.stand) (n' p.left p.stand) (gives (p.stand, normal)) (gives (p.stand, normal)) (k p.left p.stand) (gives_alike excused D stops (p.stand, normal)))

    passing_alike : (n n' : Option ℕ → Stand → Run PassEnd) → ((c : Option ℕ) (s : Stand) → AreAlike excused D stops (n c s) (n' c s)) → (g : ℕ) (c : Option ℕ) (s : Stand) → AreAlike excused D stops (passing_on P ev so ask n g c s) (passing_on P ev' so' ask' n' g c s)
    passing_alike n n' k g c s =
        let p : Pass = record { stand = s; left = c; made = false } in
        and_then_alike excused D stops (pass P ev so ask g s.term p) (pass P ev' so' ask' g s.term p) (after_pass P ev so ask n) (after_pass P ev' so' ask' n') (pass_alike g s.term p) (after_alike n n' k)

    passes_alike : (g m m' d : ℕ) → m' ≡ m + d → D d → (c : Option ℕ) (s : Stand) → AreAlike excused D stops (passes P ev so ask g m c s) (passes P ev' so' ask' g m' c s)
    passes_alike g zero zero d e q c s = passing_alike (λ k u. ends stopped) (λ k u. ends stopped) (λ k u b i j. inr refl) g c s
    passes_alike g zero (suc m') d e q c s =
        let z : excused stopped = stops m' (subst D (sym (e ∙ none_before d)) q) in passing_alike (λ k u. ends stopped) (passes P ev' so' ask' g m') (λ k u b i j. inl z) g c s
    passes_alike g (suc m) zero d e q c s = absurd (omega arith)
    passes_alike g (suc m) (suc m') d e q c s = passing_alike (passes P ev so ask g m) (passes P ev' so' ask' g m') (passes_alike g m m' d (omega arith) q) g c s

    pub frewrite_run_alike : (ad ad' : Tree → Run Tree) → AlikeOn excused D stops ad ad' → (g : ℕ) (n : Option ℕ) (u : Stand) →
        AreAlike excused D stops (frewrite_run P ev so ask ad g n u) (frewrite_run P ev' so' ask' ad' g n u)
    frewrite_run_alike ad ad' k g n u =
        let first : Tree → Stand = λ t. record { term = t; turns = u.turns } in
        and_then_alike excused D stops (ad u.term) (ad' u.term) (λ t. passing P ev so ask g n (first t)) (λ t. passing P ev' so' ask' g n (first t)) (k u.term) λ t b d q. passes_alike g b (b + d) d refl q n (first t) b d q
