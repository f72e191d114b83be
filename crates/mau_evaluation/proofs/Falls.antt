-- No computation raises its budget, and so an evaluation is one round and then an evaluation.
use Rattle.std.proofs.Common.{◌≡◌, ℕ, zero, suc, ◌+◌, ◌≤◌, List, [], ◌∷◌, ◌++◌, Bool, true, false, Option, Some, None, if◌then◌else◌, ◌&&◌, not, is_some, refl, ◌∙◌, ap, arith, le_trans}
use Rattle.mau_terms.specs.Tree.{Tree, variable, numeral, apply, list_of}
use Rattle.mau_terms.specs.Norm.{build, norm}
use Rattle.mau_terms.specs.Subst.{Variable, variables, instance}
use Rattle.mau_evaluation.specs.Run.{stopped, Outcome, done, ended, Run, gives, ends, counted, counted_if, go_on, try_on, and_then, and_try, spending, or_go_on, or_else, put_back, apart, first_of, each_in_turn, choose, where_true, IsLeft, NeverRises, SameUpTo}
use Rattle.mau_evaluation.specs.Program.{Fragment, equals, matches, has_sort, reaches, Equation, Membership, Answer, no_value, value, too_large, Program}
use Rattle.mau_evaluation.specs.Listing.{same_tree, keep, Solution, solutions, solutions_within}
use Rattle.mau_evaluation.specs.Evaluation.{Binding, look_up, extend, agree, has_number, Level, have_sorts, solve, any, joined, holds_for, by_membership, sorts_in, size, at, put, admitted, within_limits, admit, top_changed, native, replaced, binding_of, apply_for, try_equation, by_equations, by_answer, applied, settle, order_of, put_value, in_places, go_from, at_top, on_normal, rounds, no_level, levels}
use Rattle.mau_evaluation.specs.Laws.{BudgetsFall, EvaluationGoesOn}

pub gives_falls : {A : Type 0} (x : A) → NeverRises (gives x)
gives_falls x b = omega arith

pub counted_falls : {A : Type 0} (r b c : ℕ) (o : Outcome A) → r + c ≤ b → IsLeft c o → IsLeft b (counted r o)
counted_falls r b c (done x q d) i h = omega arith
counted_falls r b c (ended e) i h = tt

pub lower : {A : Type 0} (b c : ℕ) (o : Outcome A) → c ≤ b → IsLeft c o → IsLeft b o
lower b c (done x r d) h g = le_trans g h
lower b c (ended e) h g = tt

pub then_falls : {A B : Type 0} (m : Run A) (k : A → Run B) → NeverRises m → ((x : A) → NeverRises (k x)) → NeverRises (and_then m k)
then_falls {A = A} m k h g b = by (m b) (h b)
  where
    by : (o : Outcome A) → IsLeft b o → IsLeft b (go_on k o)
    by (done x r c) i = counted_falls r b c (k x c) i (g x c)
    by (ended e) i = tt

counted_if_falls : {A : Type 0} (r b c : ℕ) (o : Outcome (Option A)) → r + c ≤ b → IsLeft c o → IsLeft b (counted_if r o)
counted_if_falls r b c (done (Some x) q d) i h = omega arith
counted_if_falls r b c (done None q d) i h = omega arith
counted_if_falls r b c (ended e) i h = tt

pub try_falls : {A B : Type 0} (m : Run A) (k : A → Run (Option B)) → NeverRises m → ((x : A) → NeverRises (k x)) → NeverRises (and_try m k)
try_falls {A = A} m k h g b = by (m b) (h b)
  where
    by : (o : Outcome A) → IsLeft b o → IsLeft b (try_on k o)
    by (done x r c) i = counted_if_falls r b c (k x c) i (g x c)
    by (ended e) i = tt

pub spending_falls : {A : Type 0} (m : Run A) → NeverRises m → NeverRises (spending m)
spending_falls m h zero = tt
spending_falls m h (suc b) = counted_falls 1 (suc b) b (m b) (omega arith) (h b)

pub else_falls : {A : Type 0} (m k : Run (Option A)) → NeverRises m → NeverRises k → NeverRises (or_else m k)
else_falls {A = A} m k h g b = by (m b) (h b)
  where
    by : (o : Outcome (Option A)) → IsLeft b o → IsLeft b (or_go_on k o)
    by (done (Some x) r c) i = i
    by (done None r c) i = lower b c (k c) (less r c i) (g c)
      where
        less : (r c : ℕ) → r + c ≤ b → c ≤ b
        less r c i = omega arith
    by (ended e) i = tt

pub apart_falls : {A : Type 0} (n : ℕ) (m : Run A) → NeverRises (apart n m)
apart_falls {A = A} n m b = by (m n)
  where
    by : (o : Outcome A) → IsLeft b (put_back b o)
    by (done x r c) = omega arith
    by (ended e) = tt

pub first_falls : {A B : Type 0} (f : A → Run (Option B)) → ((x : A) → NeverRises (f x)) → (xs : List A) → NeverRises (first_of f xs)
first_falls {B = B} f h [] = gives_falls {A = Option B} None
first_falls f h (x ∷ xs) = else_falls (f x) (first_of f xs) (h x) (first_falls f h xs)

pub each_falls : {A B : Type 0} (f : A → Run B) → ((x : A) → NeverRises (f x)) → (xs : List A) → NeverRises (each_in_turn f xs)
each_falls {B = B} f h [] = gives_falls {A = List B} []
each_falls f h (x ∷ xs) = then_falls (f x) (λ y. and_then (each_in_turn f xs) (λ ys. gives (y ∷ ys))) (h x) λ y. then_falls (each_in_turn f xs) (λ ys. gives (y ∷ ys)) (each_falls f h xs) λ ys. gives_falls (y ∷ ys)

pub choose_falls : {A : Type 0} (t : Bool) (m k : Run A) → NeverRises m → NeverRises k → NeverRises (choose t m k)
choose_falls true m k h g = h
choose_falls false m k h g = g

pub where_falls : {A : Type 0} (t : Bool) (m : Run (Option A)) → NeverRises m → NeverRises (where_true t m)
where_falls true m h = h
where_falls {A = A} false m h = gives_falls {A = Option A} None

-- ---- of a level

pub record Falls (l : Level) : Type 0 where
  pub eval_falls : (t : Tree) → NeverRises (l.eval t)
  pub sorts_fall : (t : Tree) → NeverRises (l.sorts t)

pub have_sorts_fall : (f : Tree → Run (List ℕ)) → ((t : Tree) → NeverRises (f t)) → (xs : List Variable) (vs : List Tree) → NeverRises (have_sorts f xs vs)
have_sorts_fall f h [] vs = gives_falls true
have_sorts_fall f h (x ∷ xs) [] = gives_falls false
have_sorts_fall f h (x ∷ xs) (v ∷ vs) =
    then_falls (f v) (λ ss. choose (has_number ss x.1) (have_sorts f xs vs) (gives false)) (h v) λ ss. choose_falls (has_number ss x.1) (have_sorts f xs vs) (gives false) (have_sorts_fall f h xs vs) (gives_falls false)

module _ (P : Program) (l : Level) (h : Falls l) where
  pub solve_falls : (c : List Fragment) (σ : Binding) → NeverRises (solve P l c σ)
  solve_falls [] σ = gives_falls (Some σ)
  solve_falls (equals t u ∷ c) σ =
      try_falls (l.eval (instance (look_up σ) t)) (λ v. and_try (l.eval (instance (look_up σ) u)) λ w. where_true (same_tree v w) (solve P l c σ)) (h.eval_falls _)
      λ v. try_falls (l.eval (instance (look_up σ) u)) (λ w. where_true (same_tree v w) (solve P l c σ)) (h.eval_falls _) λ w. where_falls (same_tree v w) (solve P l c σ) (solve_falls c σ)
  solve_falls (has_sort t s ∷ c) σ =
      try_falls (l.eval (instance (look_up σ) t)) (λ v. and_try (l.sorts v) λ ss. where_true (has_number ss s) (solve P l c σ)) (h.eval_falls _)
      λ v. try_falls (l.sorts v) (λ ss. where_true (has_number ss s) (solve P l c σ)) (h.sorts_fall v) λ ss. where_falls (has_number ss s) (solve P l c σ) (solve_falls c σ)
  solve_falls (matches p u ∷ c) σ =
      try_falls (l.eval (instance (look_up σ) u)) (λ v. first_of (λ x. and_try (have_sorts l.sorts (variables p) x.values) λ ok. where_true ok (solve P l c (extend σ (variables p) x.values))) (keep (λ x. agree P.sign.theory σ (variables p) x.values) (solutions P.sign p v))) (h.eval_falls _)
      λ v. first_falls (λ x. and_try (have_sorts l.sorts (variables p) x.values) λ ok. where_true ok (solve P l c (extend σ (variables p) x.values)))
      (λ x. try_falls (have_sorts l.sorts (variables p) x.values) (λ ok. where_true ok (solve P l c (extend σ (variables p) x.values))) (have_sorts_fall l.sorts h.sorts_fall (variables p) x.values)
      λ ok. where_falls ok (solve P l c (extend σ (variables p) x.values)) (solve_falls c (extend σ (variables p) x.values)))
      (keep (λ x. agree P.sign.theory σ (variables p) x.values) (solutions P.sign p v))
  solve_falls (reaches t u ∷ c) σ = gives_falls {A = Option Binding} None

module _ (P : Program) (B : ℕ) (ask : List Fragment → Binding → Run (Option Binding)) where
  by_membership_falls : (f : Tree → Run (List ℕ)) → ((t : Tree) → NeverRises (f t)) → (t : Tree) (m : Membership) → NeverRises (by_membership P B ask f t m)
  by_membership_falls f h t m =
      choose_falls m.exec (and_then (each_in_turn (holds_for P B ask f m) (solutions P.sign m.left t)) λ bs. gives (if any bs then P.above m.sort else [])) (gives [])
      (then_falls (each_in_turn (holds_for P B ask f m) (solutions P.sign m.left t)) (λ bs. gives (if any bs then P.above m.sort else []))
      (each_falls (holds_for P B ask f m) (λ x. then_falls (and_try (have_sorts f (variables m.left) x.values) λ ok. where_true ok (apart B (ask m.cond (extend [] (variables m.left) x.values)))) (λ o. gives (is_some o))
      (try_falls (have_sorts f (variables m.left) x.values) (λ ok. where_true ok (apart B (ask m.cond (extend [] (variables m.left) x.values)))) (have_sorts_fall f h (variables m.left) x.values)
      λ ok. where_falls ok (apart B (ask m.cond (extend [] (variables m.left) x.values))) (apart_falls B (ask m.cond (extend [] (variables m.left) x.values))))
      λ o. gives_falls (is_some o)) (solutions P.sign m.left t))
      λ bs. gives_falls (if any bs then P.above m.sort else []))
      (gives_falls {A = List ℕ} [])

  sorts_in_fall : (n : ℕ) (t : Tree) → NeverRises (sorts_in P B ask n t)
  sorts_in_fall zero t = gives_falls {A = List ℕ} []
  sorts_in_fall (suc n) (variable i s) = gives_falls (P.above s)
  sorts_in_fall (suc n) (numeral m) = gives_falls (P.numeral_sorts m)
  sorts_in_fall (suc n) (apply f ts) =
      then_falls (each_in_turn (sorts_in P B ask n) (list_of ts)) (λ args. and_then (each_in_turn (by_membership P B ask (sorts_in P B ask n) (apply f ts)) P.memberships) λ more. gives (P.declared f args ++ joined more)) (each_falls (sorts_in P B ask n) (sorts_in_fall n) (list_of ts))
      λ args. then_falls (each_in_turn (by_membership P B ask (sorts_in P B ask n) (apply f ts)) P.memberships) (λ more. gives (P.declared f args ++ joined more)) (each_falls (by_membership P B ask (sorts_in P B ask n) (apply f ts)) (by_membership_falls (sorts_in P B ask n) (sorts_in_fall n) (apply f ts)) P.memberships)
      λ more. gives_falls (P.declared f args ++ joined more)

-- ---- the same up to a budget

pub then_same : {A B : Type 0} (n : ℕ) (m : Run A) (k k' : A → Run B) → NeverRises m → ((x : A) → SameUpTo n (k x) (k' x)) → SameUpTo n (and_then m k) (and_then m k')
then_same {A = A} n m k k' h g b i = by (m b) (h b)
  where
    by : (o : Outcome A) → IsLeft b o → go_on k o ≡ go_on k' o
    by (done x r c) j = ap (counted r) (g x c (le_trans (less r c j) i))
      where
        less : (r c : ℕ) → r + c ≤ b → c ≤ b
        less r c j = omega arith
    by (ended e) j = refl

pub choose_same : {A : Type 0} (n : ℕ) (t : Bool) (m k k' : Run A) → SameUpTo n k k' → SameUpTo n (choose t m k) (choose t m k')
choose_same n true m k k' h b i = refl
choose_same n false m k k' h b i = h b i

module _ (P : Program) (l : Level) (f : Tree → Run (List ℕ)) (h : Falls l) (g : (t : Tree) → NeverRises (f t)) where
  applied_falls : (t : Tree) → NeverRises (applied P l f t)
  applied_falls t = by (native P t)
    where
      one : (e : Equation) (x : Solution) → NeverRises (apply_for P l f e t x)
      one e x =
          try_falls (have_sorts f (variables e.left) x.values) (λ ok. where_true ok (and_try (solve P l e.cond (binding_of e.left x)) λ o. gives (replaced P.sign.theory e t x o))) (have_sorts_fall f g (variables e.left) x.values)
          λ ok. where_falls ok (and_try (solve P l e.cond (binding_of e.left x)) λ o. gives (replaced P.sign.theory e t x o))
          (try_falls (solve P l e.cond (binding_of e.left x)) (λ o. gives (replaced P.sign.theory e t x o)) (solve_falls P l h e.cond (binding_of e.left x)) λ o. gives_falls (replaced P.sign.theory e t x o))

      kind : (o : Bool) → NeverRises (first_of (try_equation P l f t o) P.equations)
      kind o = first_falls (try_equation P l f t o) (λ e. where_falls (e.exec && (if o then e.owise else not e.owise)) (first_of (apply_for P l f e t) (solutions_within P.sign e.left t)) (first_falls (apply_for P l f e t) (one e) (solutions_within P.sign e.left t))) P.equations

      by : (a : Answer) → NeverRises (by_answer P l f a (by_equations P l f t))
      by no_value = else_falls (first_of (try_equation P l f t false) P.equations) (first_of (try_equation P l f t true) P.equations) (kind false) (kind true)
      by (value v) = gives_falls (Some v)
      by too_large = λ b. tt

  settle_falls : (t : Tree) → NeverRises (settle P l f t)
  settle_falls t = then_falls (each_in_turn f P.units) (λ us. f t) (each_falls f g P.units) λ us. g t

  put_value_falls : (ts : List Tree) (i : ℕ) (o : Option Tree) → NeverRises (put_value P l f l.eval ts i o)
  put_value_falls ts i None = gives_falls ts
  put_value_falls ts i (Some t) = then_falls (l.eval t) (λ v. gives (put ts i v)) (h.eval_falls t) λ v. gives_falls (put ts i v)

  in_places_fall : (is : List ℕ) (ts : List Tree) → NeverRises (in_places P l f is ts)
  in_places_fall [] ts = gives_falls ts
  in_places_fall (i ∷ is) ts = then_falls (put_value P l f l.eval ts i (at ts i)) (in_places P l f is) (put_value_falls ts i (at ts i)) (in_places_fall is)

  pub within_falls : (u : Tree) → NeverRises (within_limits P.sign.theory u)
  within_falls u = by _ _
    where
      by : (x o : Bool) → NeverRises (admitted x o u)
      by true o b = tt
      by false true b = tt
      by false false b = omega arith

  from_falls : (next : Tree → Run Tree) → ((t : Tree) → NeverRises (next t)) → (t : Tree) (o : Option Tree) → NeverRises (go_from P l f next t o)
  from_falls next n t None = gives_falls t
  from_falls next n t (Some u) = spending_falls (next u) (n u)

  top_falls : (next : Tree → Run Tree) → ((t : Tree) → NeverRises (next t)) → (t : Tree) → NeverRises (at_top P l f next t)
  top_falls next n t =
      then_falls (settle P l f t) (λ ss. and_then (applied P l f t) λ o. go_from P l f next t o) (settle_falls t) λ ss. then_falls (applied P l f t) (λ o. go_from P l f next t o) (applied_falls t) λ o. from_falls next n t o

  normal_falls : (next : Tree → Run Tree) → ((t : Tree) → NeverRises (next t)) → (t : Tree) → NeverRises (on_normal P l f next t)
  normal_falls next n (variable i s) = top_falls next n (variable i s)
  normal_falls next n (numeral m) = top_falls next n (numeral m)
  normal_falls next n (apply q ts) =
      then_falls (in_places P l f (order_of P q (list_of ts)) (list_of ts)) (λ us. and_then (within_limits P.sign.theory (build (P.sign.theory q) q us)) λ t. choose (top_changed (P.sign.theory q) (order_of P q (list_of ts)) q us t) (l.eval t) (at_top P l f next t)) (in_places_fall (order_of P q (list_of ts)) (list_of ts))
      λ us. then_falls (within_limits P.sign.theory (build (P.sign.theory q) q us)) (λ t. choose (top_changed (P.sign.theory q) (order_of P q (list_of ts)) q us t) (l.eval t) (at_top P l f next t)) (within_falls (build (P.sign.theory q) q us))
      λ t. choose_falls (top_changed (P.sign.theory q) (order_of P q (list_of ts)) q us t) (l.eval t) (at_top P l f next t) (h.eval_falls t) (top_falls next n t)

  rounds_fall : (n : ℕ) (t : Tree) → NeverRises (rounds P l f n t)
  rounds_fall zero t = then_falls (admit P.sign.theory t) (on_normal P l f (λ u. ends stopped)) (within_falls (norm P.sign.theory t)) (normal_falls (λ u. ends stopped) (λ u b. tt))
  rounds_fall (suc n) t = then_falls (admit P.sign.theory t) (on_normal P l f (rounds P l f n)) (within_falls (norm P.sign.theory t)) (normal_falls (rounds P l f n) (rounds_fall n))

  -- ---- enough rounds

  -- next and next' agree below n, so that what comes after one application agrees up to n
  abbrev AgreeBelow : ℕ → (Tree → Run Tree) → (Tree → Run Tree) → Type 0
  AgreeBelow n next next' = (u : Tree) (b : ℕ) → suc b ≤ n → next u b ≡ next' u b

  from_same : (n : ℕ) (next next' : Tree → Run Tree) → AgreeBelow n next next' → (t : Tree) (o : Option Tree) → SameUpTo n (go_from P l f next t o) (go_from P l f next' t o)
  from_same n next next' a t None b i = refl
  from_same n next next' a t (Some u) zero i = refl
  from_same n next next' a t (Some u) (suc b) i = ap (counted 1) (a u b i)

  top_same : (n : ℕ) (next next' : Tree → Run Tree) → AgreeBelow n next next' → (t : Tree) → SameUpTo n (at_top P l f next t) (at_top P l f next' t)
  top_same n next next' a t =
      then_same n (settle P l f t) (λ ss. and_then (applied P l f t) λ o. go_from P l f next t o) (λ ss. and_then (applied P l f t) λ o. go_from P l f next' t o) (settle_falls t)
      λ ss. then_same n (applied P l f t) (λ o. go_from P l f next t o) (λ o. go_from P l f next' t o) (applied_falls t) λ o. from_same n next next' a t o

  normal_same : (n : ℕ) (next next' : Tree → Run Tree) → AgreeBelow n next next' → (t : Tree) → SameUpTo n (on_normal P l f next t) (on_normal P l f next' t)
  normal_same n next next' a (variable i s) = top_same n next next' a (variable i s)
  normal_same n next next' a (numeral m) = top_same n next next' a (numeral m)
  normal_same n next next' a (apply q ts) =
      then_same n (in_places P l f (order_of P q (list_of ts)) (list_of ts))
      (λ us. and_then (within_limits P.sign.theory (build (P.sign.theory q) q us)) λ t. choose (top_changed (P.sign.theory q) (order_of P q (list_of ts)) q us t) (l.eval t) (at_top P l f next t))
      (λ us. and_then (within_limits P.sign.theory (build (P.sign.theory q) q us)) λ t. choose (top_changed (P.sign.theory q) (order_of P q (list_of ts)) q us t) (l.eval t) (at_top P l f next' t))
      (in_places_fall (order_of P q (list_of ts)) (list_of ts))
      λ us. then_same n (within_limits P.sign.theory (build (P.sign.theory q) q us))
      (λ t. choose (top_changed (P.sign.theory q) (order_of P q (list_of ts)) q us t) (l.eval t) (at_top P l f next t))
      (λ t. choose (top_changed (P.sign.theory q) (order_of P q (list_of ts)) q us t) (l.eval t) (at_top P l f next' t))
      (within_falls (build (P.sign.theory q) q us))
      λ t. choose_same n (top_changed (P.sign.theory q) (order_of P q (list_of ts)) q us t) (l.eval t) (at_top P l f next t) (at_top P l f next' t) (top_same n next next' a t)

  -- as many rounds as there is budget are enough
  enough : (n m : ℕ) (t : Tree) (b : ℕ) → b ≤ n → b ≤ m → rounds P l f n t b ≡ rounds P l f m t b
  enough zero zero t b i j = refl
  enough zero (suc m) t b i j =
      then_same b (admit P.sign.theory t) (on_normal P l f (λ u. ends stopped)) (on_normal P l f (rounds P l f m)) (within_falls (norm P.sign.theory t)) (normal_same b (λ u. ends stopped) (rounds P l f m) (λ u c k. absurd (none c b k i))) b (omega arith)
    where
      none : (c b : ℕ) → suc c ≤ b → b ≤ 0 → ⊥
      none c b k i = omega arith
  enough (suc n) zero t b i j =
      then_same b (admit P.sign.theory t) (on_normal P l f (rounds P l f n)) (on_normal P l f (λ u. ends stopped)) (within_falls (norm P.sign.theory t)) (normal_same b (rounds P l f n) (λ u. ends stopped) (λ u c k. absurd (none c b k j))) b (omega arith)
    where
      none : (c b : ℕ) → suc c ≤ b → b ≤ 0 → ⊥
      none c b k i = omega arith
  enough (suc n) (suc m) t b i j =
      then_same b (admit P.sign.theory t) (on_normal P l f (rounds P l f n)) (on_normal P l f (rounds P l f m)) (within_falls (norm P.sign.theory t))
      (normal_same b (rounds P l f n) (rounds P l f m) (λ u c k. enough n m u c (less c b n k i) (less c b m k j))) b (omega arith)
    where
      less : (c b n : ℕ) → suc c ≤ b → b ≤ suc n → c ≤ n
      less c b n k i = omega arith

module _ (P : Program) (B : ℕ) where
  pub levels_fall : (k : ℕ) → Falls (levels P B k)
  levels_fall zero = record { eval_falls = λ t b. tt; sorts_fall = λ t. sorts_in_fall P B (solve P no_level) (size t) t }
  levels_fall (suc k) =
      let g : (t : Tree) → NeverRises ((levels P B (suc k)).sorts t) = λ t. sorts_in_fall P B (solve P (levels P B k)) (size t) t in
      record { eval_falls = λ t b. rounds_fall P (levels P B k) (levels P B (suc k)).sorts (levels_fall k) g b t b; sorts_fall = g }

  -- an evaluation is one round, and then an evaluation with the budget that is left
  pub one_round : (k : ℕ) (t : Tree) (b : ℕ) → (levels P B (suc k)).eval t b ≡ and_then (admit P.sign.theory t) (on_normal P (levels P B k) (levels P B (suc k)).sorts (levels P B (suc k)).eval) b
  one_round k t b =
      let g : (t : Tree) → NeverRises ((levels P B (suc k)).sorts t) = λ t. sorts_in_fall P B (solve P (levels P B k)) (size t) t in
      let h = levels_fall k in
      enough P (levels P B k) (levels P B (suc k)).sorts h g b (suc b) t b (omega arith) (omega arith) ∙
      then_same b (admit P.sign.theory t) (on_normal P (levels P B k) (levels P B (suc k)).sorts (rounds P (levels P B k) (levels P B (suc k)).sorts b)) (on_normal P (levels P B k) (levels P B (suc k)).sorts (levels P B (suc k)).eval)
      (within_falls P (levels P B k) (levels P B (suc k)).sorts h g (norm P.sign.theory t))
      (normal_same P (levels P B k) (levels P B (suc k)).sorts h g b (rounds P (levels P B k) (levels P B (suc k)).sorts b) (levels P B (suc k)).eval
      (λ u c i. enough P (levels P B k) (levels P B (suc k)).sorts h g b c u c (below c i) (omega arith)))
      b (omega arith)
    where
      below : (c : ℕ) → suc c ≤ b → c ≤ b
      below c i = omega arith

pub budgets_fall : BudgetsFall
budgets_fall = (λ P k B t. (levels_fall P B k).eval_falls t, λ P k B c σ. solve_falls P (levels P B k) (levels_fall P B k) c σ)

pub evaluation_goes_on : EvaluationGoesOn
evaluation_goes_on P k B t b = one_round P B k t b
