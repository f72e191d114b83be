-- A pass over a term, step by step: what is left of a run is the same, said in another way.
use Rattle.std.proofs.Common.{◌≡◌, ◌≤◌, ◌<◌, ◌+◌, ◌-◌, ◌++◌, ◌∷◌, [], List, ℕ, zero, suc, Bool, true, false, Option, Some, None, length, take, drop, get_or, refl, sym, ap, ap₂, ◌∙◌, arith, append_assoc, append-nil}
use Rattle.std.proofs.Math.Seq.{take-suc, drop-cons}
use Rattle.std.proofs.lemmas.List.{take_all, drop_all, take-append-drop}
use Rattle.mau_terms.specs.Tree.{Tree, variable, numeral, apply, Trees, no_trees, tree, node, list_of, trees_of}
use Rattle.mau_terms.proofs.Pieces.{list_of-trees_of, trees_of-list_of}
use Rattle.mau_evaluation.specs.Run.{Outcome, done, ended, Run, gives, counted, go_on, and_then, spend, spending, choose}
use Rattle.mau_evaluation.specs.Program.{Fragment, Program}
use Rattle.mau_evaluation.specs.Evaluation.{Binding}
use Rattle.mau_evaluation.specs.RuleRuns.{Stand, PassEnd, Pass, PassList, with_term, is_out, at_place, evaluated, top_from, at_top_up_to, top_of_pass, pass, pass_list}
use Rattle.mau_rules.specs.Walk.{around_last}
use Rattle.mau_rules.specs.Opened.{Goes, moved, value_of_use, once, after_once, from_open, behind}

-- ---- computations in a row

counted_zero : {A : Type 0} (o : Outcome A) → counted 0 o ≡ o
counted_zero (done x r b) = ap (λ q. done x q b) (none_more r)
  where
    none_more : (r : ℕ) → 0 + r ≡ r
    none_more r = omega arith
counted_zero (ended e) = refl

counted_twice : {A : Type 0} (r q : ℕ) (o : Outcome A) → counted r (counted q o) ≡ counted (r + q) o
counted_twice r q (done x p b) = ap (λ n. done x n b) (sum r q p)
  where
    sum : (r q p : ℕ) → r + (q + p) ≡ r + q + p
    sum r q p = omega arith
counted_twice r q (ended e) = refl

go_on_counted : {A B : Type 0} (k : A → Run B) (r : ℕ) (o : Outcome A) → go_on k (counted r o) ≡ counted r (go_on k o)
go_on_counted k r (done x q b) = sym (counted_twice r q (k x b))
go_on_counted k r (ended e) = refl

pub gives_then : {A B : Type 0} (x : A) (k : A → Run B) (b : ℕ) → and_then (gives x) k b ≡ k x b
gives_then x k b = counted_zero (k x b)

pub then_then : {A B C : Type 0} (m : Run A) (k : A → Run B) (l : B → Run C) (b : ℕ) → and_then (and_then m k) l b ≡ and_then m (λ x. and_then (k x) l) b
then_then {A = A} m k l b = by (m b)
  where
    by : (o : Outcome A) → go_on l (go_on k o) ≡ go_on (λ x. and_then (k x) l) o
    by (done x r c) = go_on_counted l r (k x c)
    by (ended e) = refl

pub then_same : {A B : Type 0} (m : Run A) (k k' : A → Run B) → ((x : A) (c : ℕ) → k x c ≡ k' x c) → (b : ℕ) → and_then m k b ≡ and_then m k' b
then_same {A = A} m k k' h b = by (m b)
  where
    by : (o : Outcome A) → go_on k o ≡ go_on k' o
    by (done x r c) = ap (counted r) (h x c)
    by (ended e) = refl

-- what is spent first is spent before what follows
spending_then : {A B : Type 0} (m : Run A) (k : A → Run B) (b : ℕ) → and_then (spending m) k b ≡ spend (and_then m k) b
spending_then m k zero = refl
spending_then m k (suc b) = go_on_counted k 1 (m b)

spending_same : {A : Type 0} (m m' : Run A) → ((c : ℕ) → m c ≡ m' c) → (b : ℕ) → spend m b ≡ spend m' b
spending_same m m' h zero = refl
spending_same m m' h (suc b) = ap (counted 1) (h b)

-- ---- lists with one element put in

take_put : {A : Type 0} (us : List A) (n : ℕ) (v : A) (rest : List A) → n ≤ length us → take (suc n) (take n us ++ v ∷ rest) ≡ take n us ++ v ∷ []
take_put us zero v rest h = refl
take_put [] (suc n) v rest h = absurd (omega arith)
take_put (u ∷ us) (suc n) v rest h = ap (λ ws. u ∷ ws) (take_put us n v rest (omega arith))

drop_put : {A : Type 0} (us : List A) (n : ℕ) (v : A) (rest : List A) → n ≤ length us → drop (suc n) (take n us ++ v ∷ rest) ≡ rest
drop_put us zero v rest h = refl
drop_put [] (suc n) v rest h = absurd (omega arith)
drop_put (u ∷ us) (suc n) v rest h = drop_put us n v rest (omega arith)

module _ (P : Program) (ev : Tree → Run Tree) (sorts : Tree → Run (List ℕ)) (ask : List Fragment → Binding → Run (Option Binding)) (g : ℕ) where
  abbrev Tops : ℕ → Pass → Run Pass
  Tops j s = at_top_up_to P ev sorts ask j s

  abbrev Top : Pass → Run Pass
  Top s = top_of_pass P ev sorts ask g s

  abbrev Passes : Tree → Pass → Run Pass
  Passes t s = pass P ev sorts ask g t s

  abbrev Listed : ℕ → ℕ → Trees → Pass → Run PassList
  Listed f n ts s = pass_list P ev sorts ask g f n ts s

  abbrev From : Tree → ℕ → Pass → Goes → Run PassEnd
  From t n s K = from_open P ev sorts ask g t n s K

  -- ---- a term is entered

  pub enter : (t : Tree) (s : Pass) (K : Goes) (b : ℕ) → and_then (pass P ev sorts ask g t s) K b ≡ from_open P ev sorts ask g t 0 s K b
  enter (variable i r) s K b = refl
  enter (numeral n) s K b = refl
  enter (apply f ts) s K b =
      then_then (Listed f 0 ts s) (λ p. Top (with_term p.state (node f p.items))) K b
      ∙ ap (λ us. and_then (Listed f 0 us s) (λ p. and_then (Top (with_term p.state (node f p.items))) K) b) (sym (trees_of-list_of ts))

  -- ---- its arguments

  module _ (f : ℕ) (us : List Tree) (n : ℕ) (s : Pass) (K : Goes) (b : ℕ) where
    abbrev With : List Tree → PassList → Run PassEnd
    With before p = and_then (Top (with_term p.state (node f (before ++ p.items)))) K

    opened : From (apply f (trees_of us)) n s K b ≡ and_then (Listed f n (trees_of (drop n us)) s) (With (take n us)) b
    opened = ap (λ vs. and_then (Listed f n (trees_of (drop n vs)) s) (With (take n vs)) b) (list_of-trees_of us)

    -- none is left
    pub past_all : length us ≤ n → from_open P ev sorts ask g (apply f (trees_of us)) n s K b ≡ and_then (top_of_pass P ev sorts ask g (with_term s (node f us))) K b
    past_all h =
        opened
        ∙ (ap₂ (λ vs ws. and_then (Listed f n (trees_of vs) s) (With ws) b) (drop_all n us h) (take_all n us h)
        ∙ (gives_then (record { items = []; state = s }) (With us) b ∙ ap (λ ws. and_then (Top (with_term s (node f ws))) K b) (append-nil us)))

    module _ (u : Tree) (low : n < length us) (at : get_or us n u ≡ u) where
      rest : List Tree
      rest = drop (suc n) us

      abbrev Items : Pass → PassList → Run PassList
      Items q p = gives (record { items = q.stand.term ∷ p.items; state = p.state })

      abbrev One : Bool → Run Pass
      One z = choose z (gives (with_term s u)) (Passes u s)

      first : From (apply f (trees_of us)) n s K b ≡ and_then (One (P.frozen f n)) (λ q. and_then (Listed f (suc n) (trees_of rest) q) (λ p. With (take n us ++ q.stand.term ∷ []) p)) b
      unfolding rest
      first =
          opened
          ∙ (ap (λ vs. and_then (Listed f n (trees_of vs) s) (With (take n us)) b) (drop-cons us n u low ∙ ap (λ w. w ∷ drop (suc n) us) at)
          ∙ (then_then (One (P.frozen f n)) (λ q. and_then (Listed f (suc n) (trees_of (drop (suc n) us)) q) (Items q)) (With (take n us)) b
          ∙ then_same (One (P.frozen f n)) (λ q. and_then (and_then (Listed f (suc n) (trees_of (drop (suc n) us)) q) (Items q)) (With (take n us)))
          (λ q. and_then (Listed f (suc n) (trees_of (drop (suc n) us)) q) (λ p. With (take n us ++ q.stand.term ∷ []) p))
          (λ q c. then_then (Listed f (suc n) (trees_of (drop (suc n) us)) q) (Items q) (With (take n us)) c
          ∙ then_same (Listed f (suc n) (trees_of (drop (suc n) us)) q) (λ p. and_then (Items q p) (With (take n us))) (λ p. With (take n us ++ q.stand.term ∷ []) p)
          (λ p d. gives_then (record { items = q.stand.term ∷ p.items; state = p.state }) (With (take n us)) d
          ∙ ap (λ ws. and_then (Top (with_term p.state (node f ws))) K d) (sym (append_assoc (take n us) (q.stand.term ∷ []) p.items))) c) b))

      pub past_frozen : P.frozen f n ≡ true → from_open P ev sorts ask g (apply f (trees_of us)) n s K b ≡ from_open P ev sorts ask g (apply f (trees_of us)) (suc n) (with_term s u) K b
      unfolding rest
      past_frozen e =
          first
          ∙ (ap (λ z. and_then (One z) (λ q. and_then (Listed f (suc n) (trees_of rest) q) (λ p. With (take n us ++ q.stand.term ∷ []) p)) b) e
          ∙ (gives_then (with_term s u) (λ q. and_then (Listed f (suc n) (trees_of rest) q) (λ p. With (take n us ++ q.stand.term ∷ []) p)) b
          ∙ (ap (λ ws. and_then (Listed f (suc n) (trees_of (drop (suc n) us)) (with_term s u)) (With ws) b) (sym (take-suc us n u low ∙ ap (λ w. take n us ++ w ∷ []) at))
          ∙ sym (ap (λ vs. and_then (Listed f (suc n) (trees_of (drop (suc n) vs)) (with_term s u)) (With (take (suc n) vs)) b) (list_of-trees_of us)))))

      low_enough : n ≤ length us
      low_enough = omega arith

      one_less : (k : ℕ) → suc k - 1 ≡ k
      one_less k = omega arith

      -- what stands in the place of the argument
      put : (v : Tree) → around_last (λ w. w) (apply f (trees_of us)) (suc n) v ≡ apply f (trees_of (take n us ++ v ∷ rest))
      unfolding rest
      put v =
          ap (λ vs. node f (take (suc n - 1) vs ++ v ∷ drop (suc n) vs)) (list_of-trees_of us)
          ∙ ap (λ k. node f (take k us ++ v ∷ drop (suc n) us)) (one_less n)

      behind_is : (q : Pass) (c : ℕ) → and_then (Listed f (suc n) (trees_of rest) q) (λ p. With (take n us ++ q.stand.term ∷ []) p) c ≡ behind P ev sorts ask g (apply f (trees_of us)) (suc n) K q c
      unfolding rest
      behind_is q c = let v = q.stand.term in
          sym (ap (λ t. From t (suc n) q K c) (put v)
          ∙ (ap (λ vs. and_then (Listed f (suc n) (trees_of (drop (suc n) vs)) q) (With (take (suc n) vs)) c) (list_of-trees_of (take n us ++ v ∷ drop (suc n) us))
          ∙ ap₂ (λ vs ws. and_then (Listed f (suc n) (trees_of vs) q) (With ws) c) (drop_put us n v (drop (suc n) us) low_enough) (take_put us n v (drop (suc n) us) low_enough)))

      pub enter_argument : P.frozen f n ≡ false → from_open P ev sorts ask g (apply f (trees_of us)) n s K b ≡ and_then (pass P ev sorts ask g u s) (behind P ev sorts ask g (apply f (trees_of us)) (suc n) K) b
      enter_argument e =
          first
          ∙ (ap (λ z. and_then (One z) (λ q. and_then (Listed f (suc n) (trees_of rest) q) (λ p. With (take n us ++ q.stand.term ∷ []) p)) b) e
          ∙ then_same (Passes u s) (λ q. and_then (Listed f (suc n) (trees_of rest) q) (λ p. With (take n us ++ q.stand.term ∷ []) p)) (behind P ev sorts ask g (apply f (trees_of us)) (suc n) K) behind_is b)

  -- ---- the term itself

  pub top_in : (s : Pass) (K : Goes) (b : ℕ) → is_out s.left ≡ false → and_then (top_of_pass P ev sorts ask g s) K b ≡ and_then (ev s.stand.term) (λ v. and_then (at_top_up_to P ev sorts ask g (with_term s v)) K) b
  top_in s K b e =
      ap (λ z. and_then (choose z (gives s) (and_then (ev s.stand.term) λ v. Tops g (with_term s v))) K b) e
      ∙ then_then (ev s.stand.term) (λ v. Tops g (with_term s v)) K b

  pub top_out : (s : Pass) (K : Goes) (b : ℕ) → is_out s.left ≡ true → and_then (top_of_pass P ev sorts ask g s) K b ≡ K s b
  top_out s K b e = ap (λ z. and_then (choose z (gives s) (and_then (ev s.stand.term) λ v. Tops g (with_term s v))) K b) e ∙ gives_then s K b

  pub tops_none : (s : Pass) (K : Goes) (b : ℕ) → and_then (at_top_up_to P ev sorts ask 0 s) K b ≡ K s b
  tops_none s K b = gives_then s K b

  abbrev Found : Pass → Run (Option Stand)
  Found s = at_place P ev sorts ask s.stand.turns (record { term = s.stand.term; around = λ v. v })

  pub tops_out : (j : ℕ) (s : Pass) (K : Goes) (b : ℕ) → is_out s.left ≡ true → and_then (at_top_up_to P ev sorts ask j s) K b ≡ K s b
  tops_out zero s K b e = gives_then s K b
  tops_out (suc j) s K b e = ap (λ z. and_then (choose z (gives s) (and_then (Found s) (top_from P ev sorts ask (Tops j) s))) K b) e ∙ gives_then s K b

  pub tops_once : (j : ℕ) (s : Pass) (K : Goes) (b : ℕ) → is_out s.left ≡ false →
      and_then (at_top_up_to P ev sorts ask (suc j) s) K b ≡ and_then (once P ev sorts ask s.stand) (after_once P ev sorts ask g j s K) b
  tops_once j s K b e =
      ap (λ z. and_then (choose z (gives s) (and_then (Found s) (top_from P ev sorts ask (Tops j) s))) K b) e
      ∙ (then_then (Found s) (top_from P ev sorts ask (Tops j) s) K b
      ∙ (then_same (Found s) (λ o. and_then (top_from P ev sorts ask (Tops j) s o) K) (λ o. and_then (value_of_use P ev sorts ask o) (after_once P ev sorts ask g j s K)) each b
      ∙ sym (then_then (Found s) (value_of_use P ev sorts ask) (after_once P ev sorts ask g j s K) b)))
    where
      each : (o : Option Stand) (c : ℕ) → and_then (top_from P ev sorts ask (Tops j) s o) K c ≡ and_then (value_of_use P ev sorts ask o) (after_once P ev sorts ask g j s K) c
      each None c = gives_then s K c ∙ sym (gives_then None (after_once P ev sorts ask g j s K) c)
      each (Some u) c =
          let value : Run Stand = evaluated P ev sorts ask u in
          spending_then (and_then value λ v. Tops j (moved s v)) K c
          ∙ (spending_same (and_then (and_then value λ v. Tops j (moved s v)) K) (and_then (and_then value λ v. gives (Some v)) (after_once P ev sorts ask g j s K))
          (λ d. then_then value (λ v. Tops j (moved s v)) K d
          ∙ (then_same value (λ v. and_then (Tops j (moved s v)) K) (λ v. and_then (gives (Some v)) (after_once P ev sorts ask g j s K))
          (λ v i. sym (gives_then (Some v) (after_once P ev sorts ask g j s K) i)) d
          ∙ sym (then_then value (λ v. gives (Some v)) (after_once P ev sorts ask g j s K) d))) c
          ∙ sym (spending_then (and_then value λ v. gives (Some v)) (after_once P ev sorts ask g j s K) c))

  -- ---- once as many rewrites as may be were made nothing is changed any more

  mutual
    out_pass : (t : Tree) (s : Pass) (b : ℕ) → is_out s.left ≡ true → pass P ev sorts ask g t s b ≡ done (with_term s t) 0 b
    out_pass (variable i r) s b e = ap (λ z. choose z (gives (with_term s (variable i r))) (and_then (ev (variable i r)) λ v. Tops g (with_term s v)) b) e
    out_pass (numeral n) s b e = ap (λ z. choose z (gives (with_term s (numeral n))) (and_then (ev (numeral n)) λ v. Tops g (with_term s v)) b) e
    out_pass (apply f ts) s b e =
        let l = out_list f 0 ts s e in
        let t = node f (list_of ts) in
        ap (λ o. go_on (λ p. Top (with_term p.state (node f p.items))) o) (l.1 b)
        ∙ (ap (λ z. counted 0 (choose z (gives (with_term s t)) (and_then (ev t) λ v. Tops g (with_term s v)) b)) e
        ∙ ap (λ us. done (with_term s (apply f us)) 0 b) (trees_of-list_of ts))

    out_list : (f n : ℕ) (ts : Trees) (s : Pass) → is_out s.left ≡ true → (u : Tree) × ((b : ℕ) → pass_list P ev sorts ask g f n ts s b ≡ done (record { items = list_of ts; state = with_term s u }) 0 b)
    out_list f n no_trees s e = (s.stand.term, λ b. refl)
    out_list f n (tree t ts) s e =
        let l = out_list f (suc n) ts (with_term s t) e in (
          l.0,
          λ b.
              ap (λ o. go_on (λ q. and_then (Listed f (suc n) ts q) λ p. gives (record { items = q.stand.term ∷ p.items; state = p.state })) o) (here (λ c. out_pass t s c e) (P.frozen f n) b)
              ∙ ap (λ o. counted 0 (go_on (λ (p : PassList). gives (record { items = t ∷ p.items; state = p.state })) o)) (l.1 b),
        )
      where
        here : ((c : ℕ) → pass P ev sorts ask g t s c ≡ done (with_term s t) 0 c) → (z : Bool) (b : ℕ) → choose z (gives (with_term s t)) (pass P ev sorts ask g t s) b ≡ done (with_term s t) 0 b
        here h true b = refl
        here h false b = h b

  pub out_open : (t : Tree) (n : ℕ) (s : Pass) (K : Goes) (b : ℕ) → is_out s.left ≡ true → from_open P ev sorts ask g t n s K b ≡ K (with_term s t) b
  out_open (variable i r) n s K b e = top_out (with_term s (variable i r)) K b e
  out_open (numeral m) n s K b e = top_out (with_term s (numeral m)) K b e
  out_open (apply f ts) n s K b e =
      let us = list_of ts in
      let l = out_list f n (trees_of (drop n us)) s e in
      ap (λ o. go_on (λ (p : PassList). and_then (Top (with_term p.state (node f (take n us ++ p.items)))) K) o) (l.1 b)
      ∙ (counted_zero (and_then (Top (with_term s (node f (take n us ++ list_of (trees_of (drop n us)))))) K b)
      ∙ (top_out (with_term s (node f (take n us ++ list_of (trees_of (drop n us))))) K b e
      ∙ ap (λ vs. K (with_term s (apply f vs)) b) (ap trees_of (ap (λ vs. take n us ++ vs) (list_of-trees_of (drop n us)) ∙ take-append-drop n us) ∙ trees_of-list_of ts)))
