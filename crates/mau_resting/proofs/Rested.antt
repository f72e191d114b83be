-- A term over terms that are their own values, at whose top nothing applies, is its own value.
use Rattle.std.proofs.Common.{◌≡◌, ◌⊎◌, inl, inr, ℕ, zero, suc, ◌<◌, ◌≤◌, ◌+◌, ◌-◌, Bool, true, false, ◌==◌, ◌||◌, List, [], ◌∷◌, Option, Some, None, eq-eqb, refl, sym, ap, ◌∙◌, subst, arith}
use Rattle.std.proofs.lemmas.Bool.{le-ltb}
use Rattle.mau_terms.specs.Tree.{Tree, variable, numeral, apply, node}
use Rattle.mau_terms.specs.Norm.{build, norm, holds_overflow}
use Rattle.mau_terms.specs.Depth.{depth}
use Rattle.mau_terms.specs.declared.ids.TermId.{TermId}
use Rattle.mau_terms.proofs.Pieces.{list_of-trees_of}
use Rattle.mau_canon.specs.Within.{IsWithin}
use Rattle.mau_evaluation.specs.Run.{Outcome, done, ended, too_deep, Run, gives, ends, stopped, counted, go_on, and_then, choose}
use Rattle.mau_evaluation.specs.Program.{Program}
use Rattle.mau_evaluation.specs.Evaluation.{has_number, Level, levels, settle, applied, go_from, at_top, on_normal, admit, admitted, within_limits, in_places, put_value, order_of, top_changed, rounds, at, put}
use Rattle.mau_machine.specs.Words.{Words, DerivesNone, IsKnownBy, IsSettled, IsLeaf, trees, eval_on, settle_on, applied_on}
use Rattle.mau_resting.specs.Rests.{RestsBy, AreResting, AreKnownBy}

-- an outcome is x, with nothing counted and nothing spent; or, where few levels are there, it is too deep
abbrev Is : {A : Type 0} → (Few : Type 0) → Outcome A → A → (b : ℕ) → Type 0
Is Few o x b = (o ≡ done x 0 b) ⊎ (Few × (o ≡ ended too_deep))

-- m gives x with nothing counted or taken, and then k
step_to : {A B : Type 0} (Few : Type 0) (m : Run A) (k : A → Run B) (b : ℕ) (x : A) (y : B) → Is Few (m b) x b → Is Few (k x b) y b → Is Few (and_then m k b) y b
step_to {A = A} {B = B} Few m k b x y h g = by h g
  where
    by : Is Few (m b) x b → Is Few (k x b) y b → Is Few (and_then m k b) y b
    by (inl e) (inl i) = inl (ap (go_on k) e ∙ ap (counted 0) i)
    by (inl e) (inr q) = inr (q.0, ap (go_on k) e ∙ ap (counted 0) q.1)
    by (inr q) i = inr (q.0, ap (go_on k) q.1)

module _ (Few : Type 0) (P : Program) (B k : ℕ) where
  abbrev lower : Level
  lower = levels P B k

  abbrev own : Tree → Run (List ℕ)
  own = (levels P B (suc k)).sorts

  in_places_stay : (ts : List Tree) (is : List ℕ) → ((j : ℕ) → has_number is j ≡ true → (v : Tree) → at ts j ≡ Some v → (b : ℕ) → Is Few (lower.eval v b) v b) → (b : ℕ) → Is Few (in_places P lower own is ts b) ts b
  in_places_stay ts [] h b = inl refl
  in_places_stay ts (i ∷ is) h b =
      step_to Few (put_value P lower own lower.eval ts i (at ts i)) (in_places P lower own is) b ts ts (one (at ts i) refl) (in_places_stay ts is (λ j q. h j (or_right (i == j) (has_number is j) q)) b)
    where
      or_right : (x y : Bool) → y ≡ true → (x || y) ≡ true
      or_right true y e = refl
      or_right false y e = e

      put_same : (us : List Tree) (n : ℕ) (v : Tree) → at us n ≡ Some v → put us n v ≡ us
      put_same [] n v e = refl
      put_same (t ∷ us) zero v e = ap (λ w. w ∷ us) (sym (ap (got t) e))
        where
          got : Tree → Option Tree → Tree
          got t None = t
          got t (Some w) = w
      put_same (t ∷ us) (suc n) v e = ap (λ w. t ∷ w) (put_same us n v e)

      here : has_number (i ∷ is) i ≡ true
      here = ap (λ z. z || has_number is i) (eq-eqb i i refl)

      one : (o : Option Tree) → at ts i ≡ o → Is Few (put_value P lower own lower.eval ts i o b) ts b
      one None e = inl refl
      one (Some v) e = step_to Few (lower.eval v) (λ w. gives (put ts i w)) b v ts (h i here v e b) (inl (ap (λ w. done w 0 b) (put_same ts i v e)))

  -- a normal form within the limits at whose top nothing applies, where its sorts are known
  module _ (t : Tree) (b : ℕ) (ss : List ℕ) (admits : admit P.sign.theory t b ≡ done t 0 b) (settles : Is Few (settle P lower own t b) ss b) (none : Is Few (applied P lower own t b) None b) where
    top_rests : (next : Tree → Run Tree) → Is Few (at_top P lower own next t b) t b
    top_rests next =
        step_to Few (settle P lower own t) (λ us. and_then (applied P lower own t) λ o. go_from P lower own next t o) b ss t settles
        (step_to Few (applied P lower own t) (λ o. go_from P lower own next t o) b None t none (inl refl))

    round_rests : (n : ℕ) → ((next : Tree → Run Tree) → Is Few (on_normal P lower own next t b) t b) → Is Few (rounds P lower own n t b) t b
    round_rests zero on = step_to Few (admit P.sign.theory t) (on_normal P lower own (λ u. ends stopped)) b t t (inl admits) (on (λ u. ends stopped))
    round_rests (suc m) on = step_to Few (admit P.sign.theory t) (on_normal P lower own (rounds P lower own m)) b t t (inl admits) (on (rounds P lower own m))

    -- it is its own value, where it has no arguments
    pub leaf_rests : IsLeaf t → Is Few ((levels P B (suc k)).eval t b) t b
    leaf_rests h = round_rests b (λ next. subst (λ o. Is Few o t b) (sym (on_leaf t h next)) (top_rests next))
      where
        on_leaf : (u : Tree) → IsLeaf u → (next : Tree → Run Tree) → on_normal P lower own next u b ≡ at_top P lower own next u b
        on_leaf (variable i s) h next = refl
        on_leaf (numeral m) h next = refl
        on_leaf (apply q us) h next = absurd h

    -- or where its arguments are their own values by k levels, and it is what is built of them
    pub node_rests : (q : ℕ) (ts : List Tree) (order : List ℕ) → t ≡ node q ts → order ≡ order_of P q ts → ((j : ℕ) (v : Tree) → at ts j ≡ Some v → (c : ℕ) → Is Few (lower.eval v c) v c) →
        within_limits P.sign.theory (build (P.sign.theory q) q ts) b ≡ done t 0 b → top_changed (P.sign.theory q) order q ts t ≡ false → Is Few ((levels P B (suc k)).eval t b) t b
    node_rests q ts order e o rest built same = round_rests b on
      where
        after : (Tree → Run Tree) → List ℕ → List Tree → Run Tree
        after next is us = and_then (within_limits P.sign.theory (build (P.sign.theory q) q us)) λ w. choose (top_changed (P.sign.theory q) is q us w) (lower.eval w) (at_top P lower own next w)

        placed : (next : Tree → Run Tree) → Is Few (and_then (in_places P lower own order ts) (after next order) b) t b
        placed next =
            step_to Few (in_places P lower own order ts) (after next order) b ts t (in_places_stay ts order (λ j h v a. rest j v a) b)
            (step_to Few (within_limits P.sign.theory (build (P.sign.theory q) q ts)) (λ w. choose (top_changed (P.sign.theory q) order q ts w) (lower.eval w) (at_top P lower own next w)) b t t (inl built)
            (subst (λ z. Is Few (choose z (lower.eval t) (at_top P lower own next t) b) t b) (sym same) (top_rests next)))

        on : (next : Tree → Run Tree) → Is Few (on_normal P lower own next t b) t b
        on next =
            subst (λ o. Is Few o t b)
            (sym (ap (λ u. on_normal P lower own next u b) e
            ∙ (ap (λ us. and_then (in_places P lower own (order_of P q us) us) (after next (order_of P q us)) b) (list_of-trees_of ts)
            ∙ ap (λ is. and_then (in_places P lower own is ts) (after next is) b) (sym o))))
            (placed next)

-- ---- as a world has it

-- what is known of f is known of g, where the two are one
pub known_as : {A : Type 0} (P : Program) (f g : ℕ → Run A) (x : A) → ((k b : ℕ) → f k b ≡ g k b) → IsKnownBy P f x → IsKnownBy P g x
known_as P f g x same h = record { enough = h.enough; just = h.just; leads = λ k b. subst (λ o. Is (k < h.enough) o x b) (same k b) (h.leads k b) }

-- fewer levels than these
is_fewer : {A : Type 0} (k m n : ℕ) (o : Outcome A) (x : A) (b : ℕ) → m ≤ n → (o ≡ done x 0 b) ⊎ ((k < m) × (o ≡ ended too_deep)) → Is (k < n) o x b
is_fewer k m n o x b h (inl e) = inl e
is_fewer k m n o x b h (inr q) = inr (omega (arith, h, q.0), q.1)

no_sum : (a b c : ℕ) → a ≡ 0 → b ≡ 0 → c ≡ 0 → a + b + c ≡ 0
no_sum a b c h k l = omega (arith, h, k, l)

first_part : (a b c : ℕ) → a ≤ a + b + c
first_part a b c = omega arith

second_part : (a b c : ℕ) → b ≤ a + b + c
second_part a b c = omega arith

third_part : (a b c : ℕ) → c ≤ a + b + c
third_part a b c = omega arith

module _ {A C S D : Type 0} (w : Words A C S D) where
  abbrev P : Program
  P = w.rules.program

  admit_is : (t : Tree) → norm P.sign.theory t ≡ t → IsWithin P.sign.theory t → (b : ℕ) → admit P.sign.theory t b ≡ done t 0 b
  admit_is t n i b =
      ap (λ z. within_limits P.sign.theory z b) n
      ∙ (ap (λ d. admitted d (holds_overflow P.sign.theory t) t b) (le-ltb 1000 (depth t) i.shallow)
      ∙ ap (λ o. admitted false o t b) i.no_overflow)

  -- arguments that are their own values by n levels and more
  record ArgumentsRest (n : ℕ) (ts : List Tree) : Type 0 where
    enough : ℕ
    just : DerivesNone P → enough ≡ 0
    rest : (k j : ℕ) (v : Tree) → at ts j ≡ Some v → (c : ℕ) → Is (k < enough) (eval_on w.rules (n + k) v c) v c

  -- more levels than those that are kept
  pub rests_more : (m n : ℕ) (t : Tree) → m ≤ n → IsKnownBy P (λ k. eval_on w.rules (m + k) t) t → IsKnownBy P (λ k. eval_on w.rules (n + k) t) t
  rests_more m n t h r = record { enough = r.enough; just = r.just; leads = λ k b. by k b (r.leads (n - m + k) b) }
    where
      same : (k : ℕ) → m + (n - m + k) ≡ n + k
      same k = omega (arith, h)

      less : (k a : ℕ) → n - m + k < a → k < a
      less k a q = omega (arith, q)

      by : (k b : ℕ) → ((eval_on w.rules (m + (n - m + k)) t b ≡ done t 0 b) ⊎ ((n - m + k < r.enough) × (eval_on w.rules (m + (n - m + k)) t b ≡ ended too_deep))) →
          (eval_on w.rules (n + k) t b ≡ done t 0 b) ⊎ ((k < r.enough) × (eval_on w.rules (n + k) t b ≡ ended too_deep))
      by k b (inl e) = inl (ap (λ j. eval_on w.rules j t b) (sym (same k)) ∙ e)
      by k b (inr q) = inr (less k r.enough q.0, ap (λ j. eval_on w.rules j t b) (sym (same k)) ∙ q.1)

  arguments_rest : (levels : List ℕ) (n : ℕ) (args : List TermId) → AreResting w levels → AreKnownBy levels n args → ArgumentsRest n (trees w args)
  arguments_rest levels n [] rests known = record { enough = 0; just = λ z. refl; rest = λ k j v e c. absurd (no v e) }
    where
      no : (v : Tree) → None ≡ Some v → ⊥
      no v e = cc
  arguments_rest levels n (x ∷ args) rests known =
      let h : IsKnownBy P (λ k. eval_on w.rules (n + k) (w.tree x.0)) (w.tree x.0) = rests_more (suc known.0.0) n (w.tree x.0) known.0.2 (rests x.0 known.0.0 known.0.1).1 in
      let r = arguments_rest levels n args rests known.1 in
      record {
        enough = h.enough + r.enough + 0;
        just = λ z. no_sum h.enough r.enough 0 (h.just z) (r.just z) refl;
        rest = λ k j v e c. by h r k j v e c;
      }
    where
      by : (h : IsKnownBy P (λ k. eval_on w.rules (n + k) (w.tree x.0)) (w.tree x.0)) (r : ArgumentsRest n (trees w args)) (k j : ℕ) (v : Tree) → at (w.tree x.0 ∷ trees w args) j ≡ Some v → (c : ℕ) →
          Is (k < h.enough + r.enough + 0) (eval_on w.rules (n + k) v c) v c
      by h r k zero v e c =
          let is : w.tree x.0 ≡ v = cc in
          subst (λ u. Is (k < h.enough + r.enough + 0) (eval_on w.rules (n + k) u c) u c) is (is_fewer k h.enough (h.enough + r.enough + 0) (eval_on w.rules (n + k) (w.tree x.0) c) (w.tree x.0) c (first_part h.enough r.enough 0) (h.leads k c))
      by h r k (suc j) v e c = is_fewer k r.enough (h.enough + r.enough + 0) (eval_on w.rules (n + k) v c) v c (second_part h.enough r.enough 0) (r.rest k j v e c)

  module _ (t : ℕ) (normal : norm P.sign.theory (w.tree t) ≡ w.tree t) (within : IsWithin P.sign.theory (w.tree t)) (settles : IsSettled w.rules (w.tree t)) (none : IsKnownBy P (λ k. applied_on w.rules k (w.tree t)) None) where
    pub leaf_is : IsLeaf (w.tree t) → RestsBy w 1 t
    leaf_is leaf = record {
      enough = N;
      just = λ z. no_sum settles.1.enough none.enough 0 (settles.1.just z) (none.just z) refl;
      leads = λ k b. subst (λ j. Is (k < N) (eval_on w.rules j (w.tree t) b) (w.tree t) b) (one k) (by k b);
    }
      where
        N : ℕ
        N = settles.1.enough + none.enough + 0

        one : (k : ℕ) → suc k ≡ 1 + k
        one k = omega arith

        by : (k b : ℕ) → Is (k < N) (eval_on w.rules (suc k) (w.tree t) b) (w.tree t) b
        by k b =
            leaf_rests (k < N) P w.rules.limit k (w.tree t) b settles.0 (admit_is (w.tree t) normal within b)
            (is_fewer k settles.1.enough N (settle_on w.rules k (w.tree t) b) settles.0 b (first_part settles.1.enough none.enough 0) (settles.1.leads k b))
            (is_fewer k none.enough N (applied_on w.rules k (w.tree t) b) None b (second_part settles.1.enough none.enough 0) (none.leads k b)) leaf

    pub node_is : (levels : List ℕ) (n q : ℕ) (args : List TermId) (order : List ℕ) → AreResting w levels → AreKnownBy levels n args → w.tree t ≡ node q (trees w args) → order ≡ order_of P q (trees w args) →
        ((b : ℕ) → within_limits P.sign.theory (build (P.sign.theory q) q (trees w args)) b ≡ done (w.tree t) 0 b) → top_changed (P.sign.theory q) order q (trees w args) (w.tree t) ≡ false → RestsBy w (n + 1) t
    node_is levels n q args order rests known e o built same = record {
      enough = N;
      just = λ z. no_sum a.enough settles.1.enough none.enough (a.just z) (settles.1.just z) (none.just z);
      leads = λ k b. subst (λ j. Is (k < N) (eval_on w.rules j (w.tree t) b) (w.tree t) b) (one k) (by k b);
    }
      where
        a : ArgumentsRest n (trees w args)
        a = arguments_rest levels n args rests known

        N : ℕ
        N = a.enough + settles.1.enough + none.enough

        one : (k : ℕ) → suc (n + k) ≡ n + 1 + k
        one k = omega arith

        fewer : {X : Type 0} (k m : ℕ) (o : Outcome X) (x : X) (b : ℕ) → m ≤ N → (o ≡ done x 0 b) ⊎ ((n + k < m) × (o ≡ ended too_deep)) → Is (k < N) o x b
        fewer k m o x b h (inl i) = inl i
        fewer k m o x b h (inr r) = inr (omega (arith, h, r.0), r.1)

        by : (k b : ℕ) → Is (k < N) (eval_on w.rules (suc (n + k)) (w.tree t) b) (w.tree t) b
        by k b =
            node_rests (k < N) P w.rules.limit (n + k) (w.tree t) b settles.0 (admit_is (w.tree t) normal within b)
            (fewer k settles.1.enough (settle_on w.rules (n + k) (w.tree t) b) settles.0 b (second_part a.enough settles.1.enough none.enough) (settles.1.leads (n + k) b))
            (fewer k none.enough (applied_on w.rules (n + k) (w.tree t) b) None b (third_part a.enough settles.1.enough none.enough) (none.leads (n + k) b))
            q (trees w args) order e o
            (λ j v i c. is_fewer k a.enough N (eval_on w.rules (n + k) v c) v c (first_part a.enough settles.1.enough none.enough) (a.rest k j v i c)) (built b) same
