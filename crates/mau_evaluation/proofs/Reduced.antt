-- What an evaluation gives is irreducible.
use Rattle.std.proofs.Common.{◌≡◌, ℕ, zero, suc, ◌+◌, Bool, true, false, not, ◌&&◌, ◌||◌, nat_lt, List, [], ◌∷◌, length, Option, Some, None, ◌⊎◌, inl, inr, if◌then◌else◌, refl, sym, ◌∙◌, ap, ap₂, subst, arith}
use Rattle.std.specs.Ordering.{is_eq}
use Rattle.std.specs.declared.cmp.Ordering.{Ordering}
use Rattle.std.specs.declared.cmp.Ordering.TheVariants.{Less, Equal, Greater}
use Rattle.mau_terms.specs.Tree.{Tree, variable, numeral, apply, Trees, no_trees, tree, node, list_of, trees_of}
use Rattle.mau_terms.specs.Order.{tree_cmp}
use Rattle.mau_terms.specs.Norm.{pieces, all_pieces, arrange, finish, made, build}
use Rattle.mau_terms.specs.Subst.{variables, instance}
use Rattle.mau_terms.specs.Finite.{IsIn}
use Rattle.mau_terms.specs.declared.theory.Identity.{Identity}
use Rattle.mau_terms.specs.declared.theory.Theory.{Theory}
use Rattle.mau_terms.proofs.Orders.{tree_tied}
use Rattle.mau_terms.proofs.Pieces.{Each, Each-append, Each-arrange, Split, unit, many, one, split, list_of-trees_of}
use Rattle.mau_terms.proofs.Finite.{length-arrange}
use Rattle.mau_evaluation.specs.Run.{stopped, too_deep, overflowed, done, Run, gives, ends, and_then, and_try, spend, first_of, choose, where_true}
use Rattle.mau_evaluation.specs.Program.{Equation, Answer, no_value, value, too_large, Program}
use Rattle.mau_evaluation.specs.Listing.{same_tree, Solution, solutions_within}
use Rattle.mau_evaluation.specs.Evaluation.{Binding, look_up, has_number, Level, levels, have_sorts, solve, solve_at, binding_of, in_context, replaced, apply_for, try_equation, by_equations, by_answer, applied, native, order_by, order_of, settle, in_places, go_from, at_top, on_normal, rounds, admitted, within_limits, admit, count_up, names_all, is_none, top_changed_by, top_changed}
use Rattle.mau_evaluation.specs.Laws.{Comes, IsNo}
use Rattle.mau_evaluation.proofs.Invert.{not_done, same_value, counted_done, went, tried, Failed, some_is_not_none, both_failed, each_failed}
use Rattle.mau_evaluation.proofs.Places.{both_of, names_itself, Good, each_good, in_places_good, in_places_count}
use Rattle.std.proofs.lemmas.Bool.{or_parts}

pub same_tree_true : (t u : Tree) → same_tree t u ≡ true → t ≡ u
same_tree_true t u e = tree_tied t u (by (tree_cmp t u) e)
  where
    by : (o : Ordering) → is_eq o ≡ true → o ≡ Equal
    by Less e = cc
    by Equal e = refl
    by Greater e = cc

-- ---- no application was found at the top

-- the sorts of the values were known for some limits, and where they were those of the variables the condition was No
pub record WasTested (P : Program) (e : Equation) (x : Solution) : Type 0 where
  pub having : Bool
  pub count : ℕ
  pub comes : Comes (λ k B. have_sorts (levels P B k).sorts (variables e.left) x.values) having count
  pub refused : having ≡ true → IsNo (λ k B. solve_at P k B e.cond (binding_of e.left x))

-- no built-in applies, and each executable equation was tested with each of its solutions
pub record IsTestedTop (P : Program) (t : Tree) : Type 0 where
  pub no_native : native P t ≡ no_value
  pub tested : (e : Equation) → IsIn e P.equations → e.exec ≡ true → (x : Solution) → IsIn x (solutions_within P.sign e.left t) → WasTested P e x

module _ (P : Program) (B k : ℕ) where
  abbrev here : Level
  here = levels P B k

  abbrev sorts : Tree → Run (List ℕ)
  sorts = (levels P B (suc k)).sorts

  not_some : {A : Type 0} (x : A) → None ≡ Some x → ⊥
  not_some x e = cc

  no_replaced : (e : Equation) (t : Tree) (x : Solution) (o : Option Binding) → replaced P.sign.theory e t x o ≡ None → o ≡ None
  no_replaced e t x None h = refl
  no_replaced e t x (Some σ) h = absurd (not_some (in_context P.sign.theory t x.left x.right (instance (look_up σ) e.right)) (sym h))

  was_tested : (e : Equation) (t : Tree) (x : Solution) → Failed (apply_for P here sorts e t x) → WasTested P e x
  was_tested e t x h =
      let w = tried (have_sorts sorts (variables e.left) x.values) (λ ok. where_true ok (and_try (solve P here e.cond (binding_of e.left x)) λ o. gives (replaced P.sign.theory e t x o))) h.before None h.count h.after h.fails in
      record { having = w.middle; count = w.count; comes = record { level = suc k; each = B; budget = h.before; left = w.between; comes = w.first }; refused = by w.middle w.between w.behind h.after w.second }
    where
      by : (ok : Bool) (b r b' : ℕ) → where_true ok (and_try (solve P here e.cond (binding_of e.left x)) λ o. gives (replaced P.sign.theory e t x o)) b ≡ done None r b' → ok ≡ true →
          IsNo (λ k B. solve_at P k B e.cond (binding_of e.left x))
      by false b r b' p q = cc
      by true b r b' p q =
          let w = tried (solve P here e.cond (binding_of e.left x)) (λ o. gives (replaced P.sign.theory e t x o)) b None r b' p in
          let n : w.middle ≡ None = no_replaced e t x w.middle (same_value w.second) in
          (w.count, record { level = k; each = B; budget = b; left = w.between; comes = w.first ∙ ap (λ o. done o w.count w.between) n })

  tested : (t : Tree) (o : Bool) (e : Equation) → Failed (try_equation P here sorts t o e) → (e.exec && (if o then e.owise else not e.owise)) ≡ true → (x : Solution) → IsIn x (solutions_within P.sign e.left t) → WasTested P e x
  tested t o e h q x i =
      let m : Run (Option Tree) = first_of (apply_for P here sorts e t) (solutions_within P.sign e.left t) in
      let g : Failed m = record { before = h.before; count = h.count; after = h.after; fails = ap (λ c. where_true c m h.before) (sym q) ∙ h.fails } in
      was_tested e t x (each_failed (apply_for P here sorts e t) (solutions_within P.sign e.left t) g x i)

  equations_tested : (t : Tree) (b r b' : ℕ) → by_equations P here sorts t b ≡ done None r b' → (e : Equation) → IsIn e P.equations → e.exec ≡ true → (x : Solution) → IsIn x (solutions_within P.sign e.left t) → WasTested P e x
  equations_tested t b r b' h e i q x j =
      let p = both_failed (first_of (try_equation P here sorts t false) P.equations) (first_of (try_equation P here sorts t true) P.equations) b r b' h in
      by e.owise refl (each_failed (try_equation P here sorts t false) P.equations p.0 e i) (each_failed (try_equation P here sorts t true) P.equations p.1 e i)
    where
      by : (o : Bool) → e.owise ≡ o → Failed (try_equation P here sorts t false e) → Failed (try_equation P here sorts t true e) → WasTested P e x
      by true a f g = tested t true e g (ap (λ c. c && e.owise) q ∙ a) x j
      by false a f g = tested t false e f (ap (λ c. c && not e.owise) q ∙ ap not a) x j

  top_of : (t : Tree) (b r b' : ℕ) → applied P here sorts t b ≡ done None r b' → IsTestedTop P t
  top_of t b r b' h = by (native P t) refl h
    where
      by : (a : Answer) → native P t ≡ a → by_answer P here sorts a (by_equations P here sorts t) b ≡ done None r b' → IsTestedTop P t
      by no_value q h = record { no_native = q; tested = equations_tested t b r b' h }
      by (value v) q h = absurd (some_is_not_none v 0 r b b' h)
      by too_large q h = absurd (not_done overflowed None r b' h)

-- ---- still: tested, and lists have at least two elements, at active places

abbrev pub IsLong : Program → Tree → Type 0
IsLong P (apply f ts) = (P.sign.theory f).assoc ≡ true → nat_lt (length (list_of ts)) 2 ≡ false
IsLong P (variable i s) = Unit {0}
IsLong P (numeral n) = Unit {0}

abbrev mutual
  pub IsStill : Program → Tree → Type 0
  IsStill P (variable i s) = IsTestedTop P (variable i s)
  IsStill P (numeral n) = IsTestedTop P (numeral n)
  IsStill P (apply f ts) = IsTestedTop P (apply f ts) × IsLong P (apply f ts) × AreStill P (order_of P f (list_of ts)) 0 ts

  pub AreStill : Program → List ℕ → ℕ → Trees → Type 0
  AreStill P is n no_trees = Unit {0}
  AreStill P is n (tree t ts) = (has_number is n ≡ true → IsStill P t) × AreStill P is (suc n) ts

-- ---- the arguments of what was built

module _ (P : Program) where
  are_irreducible : (is : List ℕ) (n : ℕ) (ts : List Tree) → ((j k : ℕ) → k ≡ n + j → has_number is k ≡ true → Good (IsStill P) ts j) → AreStill P is n (trees_of ts)
  are_irreducible is n [] h = tt
  are_irreducible is n (t ∷ ts) h = (λ q. h 0 n (omega arith) q t refl, are_irreducible is (suc n) ts (λ j k q i. h (suc j) k (later n j k q) i))
    where
      later : (n j k : ℕ) → k ≡ suc n + j → k ≡ n + suc j
      later n j k q = omega arith

  all_irreducible : (is : List ℕ) (n : ℕ) (ts : List Tree) → Each (IsStill P) ts → AreStill P is n (trees_of ts)
  all_irreducible is n [] h = tt
  all_irreducible is n (t ∷ ts) h = (λ q. h.0, all_irreducible is (suc n) ts h.1)

  none_irreducible : (n : ℕ) (ts : Trees) → AreStill P [] n ts
  none_irreducible n no_trees = tt
  none_irreducible n (tree t ts) = (λ q. absurd (no_such q), none_irreducible (suc n) ts)
    where
      no_such : false ≡ true → ⊥
      no_such e = cc

  each_irreducible : (is : List ℕ) (n : ℕ) (ts : Trees) → names_all (count_up n (list_of ts)) is ≡ true → AreStill P is n ts → Each (IsStill P) (list_of ts)
  each_irreducible is n no_trees e h = tt
  each_irreducible is n (tree t ts) e h =
      let p = both_of (has_number is n) (names_all (count_up (suc n) (list_of ts)) is) e in
      (h.0 p.0, each_irreducible is (suc n) ts p.1 h.1)

  over_node : (f : ℕ) (ts : List Tree) → IsTestedTop P (node f ts) → ((P.sign.theory f).assoc ≡ true → nat_lt (length ts) 2 ≡ false) → AreStill P (order_of P f ts) 0 (trees_of ts) → IsStill P (node f ts)
  over_node f ts h l g = (h, λ q. ap (λ us. nat_lt (length us) 2) (list_of-trees_of ts) ∙ l q, subst (λ us. AreStill P (order_of P f us) 0 (trees_of ts)) (sym (list_of-trees_of ts)) g)

  piece_irreducible : (f : ℕ) (i : ℕ) (is : List ℕ) → (P.sign.theory f).assoc ≡ true → P.strat f ≡ i ∷ is → (u : Option Identity) (t : Tree) → IsStill P t → Each (IsStill P) (pieces true u f t)
  piece_irreducible f i is a q u t h = by (split true u f t)
    where
      by : Split true u f t → Each (IsStill P) (pieces true u f t)
      by (unit j e d g) = subst (Each (IsStill P)) (sym g) tt
      by (one g) = subst (Each (IsStill P)) (sym g) (h, tt)
      by (many ts e d g) =
          let o : order_of P f (list_of ts) ≡ count_up 0 (list_of ts) = ap₂ (λ b c. order_by b c (list_of ts)) a q in
          let s : AreStill P (count_up 0 (list_of ts)) 0 ts = subst (λ w. AreStill P w 0 ts) o ((subst (IsStill P) d h).2) in
          subst (Each (IsStill P)) (sym g) (each_irreducible (count_up 0 (list_of ts)) 0 ts (names_itself (count_up 0 (list_of ts))) s)

  pieces_irreducible : (f : ℕ) (i : ℕ) (is : List ℕ) → (P.sign.theory f).assoc ≡ true → P.strat f ≡ i ∷ is → (u : Option Identity) (ts : List Tree) → Each (IsStill P) ts → Each (IsStill P) (all_pieces true u f ts)
  pieces_irreducible f i is a q u [] h = tt
  pieces_irreducible f i is a q u (t ∷ ts) h = Each-append (IsStill P) (pieces true u f t) (all_pieces true u f ts) (piece_irreducible f i is a q u t h.0) (pieces_irreducible f i is a q u ts h.1)

finish_long : (a : Bool) (u : Option Identity) (s : Bool) (f : ℕ) (ts : List Tree) → nat_lt (length ts) 2 ≡ false → finish a u s f ts ≡ node f ts
finish_long a u s f [] e = cc
finish_long a u s f (t ∷ []) e = cc
finish_long a u s f (t ∷ v ∷ ts) e = refl

one_holds : (a b c : Bool) → (not a && (not b && not c)) ≡ false → (a ≡ true) ⊎ ((b ≡ true) ⊎ (c ≡ true))
one_holds true b c e = inl refl
one_holds false true c e = inr (inl refl)
one_holds false false true e = inr (inr refl)
one_holds false false false e = cc

not_false : (a : Bool) → not a ≡ false → a ≡ true
not_false true e = refl
not_false false e = cc

none_is_empty : (is : List ℕ) → is_none is ≡ true → is ≡ []
none_is_empty [] e = refl
none_is_empty (i ∷ is) e = cc

module _ (P : Program) where
  built_irreducible : (f : ℕ) (ts us : List Tree) (w : Tree) → ((j : ℕ) → has_number (order_of P f ts) j ≡ true → Good (IsStill P) us j) → count_up 0 us ≡ count_up 0 ts →
      w ≡ build (P.sign.theory f) f us → top_changed (P.sign.theory f) (order_of P f ts) f us w ≡ false → IsTestedTop P w → IsStill P w
  built_irreducible f ts us w good n e c top = by h.assoc refl
    where
      h : Theory
      h = P.sign.theory f

      at : (vs : List Tree) → w ≡ node f vs → (h.assoc ≡ true → nat_lt (length vs) 2 ≡ false) → AreStill P (order_of P f vs) 0 (trees_of vs) → IsStill P w
      at vs q l g = subst (IsStill P) (sym q) (over_node P f vs (subst (IsTestedTop P) q top) l g)

      not_both : h.assoc ≡ false → (vs : List Tree) → h.assoc ≡ true → nat_lt (length vs) 2 ≡ false
      not_both e vs g = no_such (sym g ∙ e)
        where
          no_such : {A : Type 0} → true ≡ false → A
          no_such e = cc

      in_list : (q : h.assoc ≡ true) (is : List ℕ) → P.strat f ≡ is → (vs : List Tree) → vs ≡ all_pieces true h.id f us → AreStill P (order_of P f (arrange h.comm vs)) 0 (trees_of (arrange h.comm vs))
      in_list q [] s vs v = subst (λ o. AreStill P o 0 (trees_of (arrange h.comm vs))) (sym (ap₂ (λ b c. order_by b c (arrange h.comm vs)) q s)) (none_irreducible P 0 (trees_of (arrange h.comm vs)))
      in_list q (i ∷ is) s vs v =
          let o : order_of P f ts ≡ count_up 0 us = ap₂ (λ b c. order_by b c ts) q s ∙ sym n in
          let each : Each (IsStill P) us = each_good (IsStill P) (count_up 0 us) 0 us (names_itself (count_up 0 us))
          (λ j k p m. good j (ap (λ x. has_number x j) o ∙ (ap (has_number (count_up 0 us)) (same j k p) ∙ m))) in
          all_irreducible P (order_of P f (arrange h.comm vs)) 0 (arrange h.comm vs)
          (Each-arrange (IsStill P) h.comm vs (subst (Each (IsStill P)) (sym v) (pieces_irreducible P f i is q s h.id us each)))
        where
          same : (j k : ℕ) → k ≡ 0 + j → j ≡ k
          same j k p = omega arith

      by : (a : Bool) → h.assoc ≡ a → IsStill P w
      by true q =
          let vs = all_pieces true h.id f us in
          let long : nat_lt (length vs) 2 ≡ false = sym (ap (λ a. top_changed_by a h (order_of P f ts) f us w) q) ∙ c in
          let made_so : w ≡ node f (arrange h.comm vs) = e ∙ (ap (λ a. made a h.comm h.id h.succ f us) q ∙ finish_long true h.id h.succ f (arrange h.comm vs) (ap (λ m. nat_lt m 2) (length-arrange h.comm vs) ∙ long)) in
          at (arrange h.comm vs) made_so (λ z. ap (λ m. nat_lt m 2) (length-arrange h.comm vs) ∙ long) (in_list q (P.strat f) refl vs refl)
      by false q =
          let os = order_of P f ts in
          let d = or_parts (not (same_tree w (node f (arrange h.comm us)))) (not (is_none os) && (not (names_all (count_up 0 us) os) && not (same_tree w (node f us)))) (sym (ap (λ a. top_changed_by a h os f us w) q) ∙ c) in
          let m : w ≡ node f (arrange h.comm us) = same_tree_true w (node f (arrange h.comm us)) (not_false (same_tree w (node f (arrange h.comm us))) d.0) in
          cases m (one_holds (is_none os) (names_all (count_up 0 us) os) (same_tree w (node f us)) d.1)
        where
          plain : (vs : List Tree) → order_of P f vs ≡ order_of P f ts
          plain vs = ap (λ b. order_by b (P.strat f) vs) q ∙ sym (ap (λ b. order_by b (P.strat f) ts) q)

          same : (j k : ℕ) → k ≡ 0 + j → j ≡ k
          same j k p = omega arith

          cases : w ≡ node f (arrange h.comm us) → (is_none (order_of P f ts) ≡ true) ⊎ ((names_all (count_up 0 us) (order_of P f ts) ≡ true) ⊎ (same_tree w (node f us) ≡ true)) → IsStill P w
          cases m (inl z) =
              at (arrange h.comm us) m (not_both q (arrange h.comm us)) (subst (λ o. AreStill P o 0 (trees_of (arrange h.comm us))) (sym (plain (arrange h.comm us) ∙ none_is_empty (order_of P f ts) z)) (none_irreducible P 0 (trees_of (arrange h.comm us))))
          cases m (inr (inl z)) =
              at (arrange h.comm us) m (not_both q (arrange h.comm us)) (all_irreducible P (order_of P f (arrange h.comm us)) 0 (arrange h.comm us)
              (Each-arrange (IsStill P) h.comm us (each_good (IsStill P) (order_of P f ts) 0 us z λ j k p i. good j (ap (has_number (order_of P f ts)) (same j k p) ∙ i))))
          cases m (inr (inr z)) =
              at us (same_tree_true w (node f us) z) (not_both q us)
              (are_irreducible P (order_of P f us) 0 us λ j k p i. good j (ap (has_number (order_of P f ts)) (same j k p) ∙ (ap (λ o. has_number o k) (sym (plain us)) ∙ i)))

  within_same : (b o : Bool) (u w : Tree) (c r c' : ℕ) → admitted b o u c ≡ done w r c' → w ≡ u
  within_same true o u w c r c' e = absurd (not_done too_deep w r c' e)
  within_same false true u w c r c' e = absurd (not_done overflowed w r c' e)
  within_same false false u w c r c' e = sym (same_value e)

  abbrev pub GivesStill : (Tree → Run Tree) → Type 0
  GivesStill m = (t : Tree) (b : ℕ) (u : Tree) (r b' : ℕ) → m t b ≡ done u r b' → IsStill P u

  module _ (B k : ℕ) (h : GivesStill (levels P B k).eval) (next : Tree → Run Tree) (g : GivesStill next) where
    abbrev l : Level
    l = levels P B k

    abbrev f : Tree → Run (List ℕ)
    f = (levels P B (suc k)).sorts

    spent : (v u : Tree) (b r b' : ℕ) → spend (next v) b ≡ done u r b' → IsStill P u
    spent v u zero r b' e = absurd (not_done stopped u r b' e)
    spent v u (suc b) r b' e = let q = counted_done 1 (next v b) u r b' e in g v b u q.0 b' q.1

    from : (w : Tree) → (IsTestedTop P w → IsStill P w) → (o : Option Tree) (b c r : ℕ) → applied P l f w b ≡ done o r c → (u : Tree) (r' b' : ℕ) → go_from P l f next w o c ≡ done u r' b' → IsStill P u
    from w i None b c r a u r' b' e = subst (IsStill P) (same_value e) (i (top_of P B k w b r c a))
    from w i (Some v) b c r a u r' b' e = spent v u c r' b' e

    at_top_irreducible : (w : Tree) → (IsTestedTop P w → IsStill P w) → (b : ℕ) (u : Tree) (r b' : ℕ) → at_top P l f next w b ≡ done u r b' → IsStill P u
    at_top_irreducible w i b u r b' e =
        let p = went (settle P l f w) (λ ss. and_then (applied P l f w) λ o. go_from P l f next w o) b u r b' e in
        let q = went (applied P l f w) (λ o. go_from P l f next w o) p.between u p.behind b' p.second in
        from w i q.middle p.between q.between q.count q.first u q.behind b' q.second

    on_normal_irreducible : GivesStill (on_normal P l f next)
    on_normal_irreducible (variable i s) b u r b' e = at_top_irreducible (variable i s) (λ x. x) b u r b' e
    on_normal_irreducible (numeral n) b u r b' e = at_top_irreducible (numeral n) (λ x. x) b u r b' e
    on_normal_irreducible (apply q ts) b u r b' e =
        let is = order_of P q (list_of ts) in
        let w = went (in_places P l f is (list_of ts)) (λ us. and_then (within_limits P.sign.theory (build (P.sign.theory q) q us)) λ t. choose (top_changed (P.sign.theory q) is q us t) (l.eval t) (at_top P l f next t)) b u r b' e in
        let v = went (within_limits P.sign.theory (build (P.sign.theory q) q w.middle)) (λ t. choose (top_changed (P.sign.theory q) is q w.middle t) (l.eval t) (at_top P l f next t)) w.between u w.behind b' w.second in
        by w.middle v.middle v.between v.behind (top_changed (P.sign.theory q) is q w.middle v.middle) refl
        (λ j n. in_places_good (IsStill P) P l f h is (list_of ts) w.middle b w.count w.between w.first j (inl n))
        (in_places_count (IsStill P) P l f h is (list_of ts) w.middle b w.count w.between w.first)
        (within_same _ _ _ _ _ _ _ v.first) v.second
      where
        by : (us : List Tree) (t : Tree) (c d : ℕ) (x : Bool) → top_changed (P.sign.theory q) (order_of P q (list_of ts)) q us t ≡ x →
            ((j : ℕ) → has_number (order_of P q (list_of ts)) j ≡ true → Good (IsStill P) us j) → count_up 0 us ≡ count_up 0 (list_of ts) → t ≡ build (P.sign.theory q) q us →
            choose x (l.eval t) (at_top P l f next t) c ≡ done u d b' → IsStill P u
        by us t c d true x good n m e = h t c u d b' e
        by us t c d false x good n m e = at_top_irreducible t (built_irreducible q (list_of ts) us t good n m x) c u d b' e

  module _ (B k : ℕ) (h : GivesStill (levels P B k).eval) where
    rounds_irreducible : (n : ℕ) → GivesStill (rounds P (levels P B k) (levels P B (suc k)).sorts n)
    rounds_irreducible zero t b u r b' e =
        let w = went (admit P.sign.theory t) (on_normal P (levels P B k) (levels P B (suc k)).sorts (λ u. ends stopped)) b u r b' e in
        on_normal_irreducible B k h (λ u. ends stopped) (λ t b u r b' e. absurd (not_done stopped u r b' e)) w.middle w.between u w.behind b' w.second
    rounds_irreducible (suc n) t b u r b' e =
        let w = went (admit P.sign.theory t) (on_normal P (levels P B k) (levels P B (suc k)).sorts (rounds P (levels P B k) (levels P B (suc k)).sorts n)) b u r b' e in
        on_normal_irreducible B k h (rounds P (levels P B k) (levels P B (suc k)).sorts n) (rounds_irreducible n) w.middle w.between u w.behind b' w.second

  pub values_still : (B k : ℕ) → GivesStill (levels P B k).eval
  values_still B zero t b u r b' e = absurd (not_done too_deep u r b' e)
  values_still B (suc k) t b u r b' e = rounds_irreducible B k (values_still B k) b t b u r b' e
