-- In a module without conditions a value evaluates to itself.
use Rattle.std.proofs.Common.{◌≡◌, ℕ, zero, suc, ◌+◌, ◌≤◌, Bool, true, false, not, ◌==◌, ◌&&◌, ◌||◌, nat_lt, is_some, List, [], ◌∷◌, ◌++◌, length, Option, Some, None, inl, inr, if◌then◌else◌, eq-eqb, refl, sym, ◌∙◌, ap, ap₂, subst, le_trans, arith}
use Rattle.std.proofs.lemmas.Bool.{le-ltb, ltb-false}
use Rattle.std.proofs.Math.Nat.{le-max_left, le-max_right}
use Rattle.mau_terms.specs.Tree.{Tree, variable, numeral, apply, Trees, no_trees, tree, node, list_of}
use Rattle.mau_terms.specs.Norm.{build, norm, norms, holds_overflow, hold_overflow, all_pieces, arrange}
use Rattle.mau_terms.specs.Depth.{depth, depths}
use Rattle.mau_terms.specs.Lawful.{AreLawful}
use Rattle.mau_terms.specs.Subst.{Variable, variables}
use Rattle.mau_terms.specs.Finite.{IsIn}
use Rattle.mau_terms.specs.declared.theory.Theory.{Theory}
use Rattle.mau_terms.proofs.Pieces.{Each, IsPiece, trees_of-list_of}
use Rattle.std.specs.Ordering.{is_eq, ordering_reverse}
use Rattle.std.specs.declared.cmp.Ordering.{Ordering}
use Rattle.std.specs.declared.cmp.Ordering.TheVariants.{Less, Equal, Greater}
use Rattle.mau_terms.specs.Order.{tree_cmp}
use Rattle.mau_terms.proofs.Orders.{tree_total}
use Rattle.mau_terms.proofs.Normal.{IsNormal, AreNormal, each_normal, build_normal, norm_normal, normal_fixed}
use Rattle.mau_evaluation.specs.Run.{stopped, too_deep, overflowed, done, Run, gives, ends, counted, counted_if, go_on, try_on, and_then, and_try, spend, or_go_on, or_else, put_back, apart, first_of, each_in_turn, choose, where_true}
use Rattle.mau_evaluation.specs.Program.{Fragment, Equation, Membership, Program}
use Rattle.mau_evaluation.specs.Listing.{same_tree, Solution, solutions, solutions_within}
use Rattle.mau_evaluation.specs.Evaluation.{Binding, extend, has_number, Level, levels, have_sorts, solve, any, joined, holds_for, by_membership, sorts_in, size, sizes, binding_of, replaced, apply_for, try_equation, by_equations, by_answer, applied, order_of, settle, at, put, put_value, in_places, go_from, at_top, on_normal, rounds, admitted, within_limits, admit, depth_limit, count_up, names_all, is_none, top_changed_by, top_changed, solve_at}
use Rattle.mau_evaluation.specs.Laws.{IsNo}
use Rattle.mau_evaluation.specs.Irreducible.{IsUnconditional, ValuesStay}
use Rattle.mau_evaluation.proofs.Invert.{not_done, same_value, some_is_not_none, counted_done, went}
use Rattle.mau_evaluation.proofs.Places.{names_itself, Good, each_good, in_places_good}
use Rattle.mau_evaluation.proofs.Stay.{stays_one, having_sorts_stays}
use Rattle.mau_evaluation.proofs.Reduced.{IsTestedTop, IsStill, AreStill, values_still}

-- ---- values are normal forms within the limits

module _ (P : Program) (lawful : AreLawful P.sign.theory) where
  abbrev Normal : Tree → Type 0
  Normal t = IsNormal P.sign.theory t

  -- a normal form within the limits
  abbrev Fit : Tree → Type 0
  Fit t = Normal t × (depth t ≤ depth_limit) × (holds_overflow P.sign.theory t ≡ false)

  abbrev GivesNormal : (Tree → Run Tree) → Type 0
  GivesNormal m = (t : Tree) (b : ℕ) (u : Tree) (r b' : ℕ) → m t b ≡ done u r b' → Fit u

  admitted_is : (x o : Bool) (u w : Tree) (c r c' : ℕ) → admitted x o u c ≡ done w r c' → w ≡ u
  admitted_is true o u w c r c' e = absurd (not_done too_deep w r c' e)
  admitted_is false true u w c r c' e = absurd (not_done overflowed w r c' e)
  admitted_is false false u w c r c' e = sym (same_value e)

  admitted_flags : (x o : Bool) (u w : Tree) (c r c' : ℕ) → admitted x o u c ≡ done w r c' → (x ≡ false) × (o ≡ false)
  admitted_flags true o u w c r c' e = absurd (not_done too_deep w r c' e)
  admitted_flags false true u w c r c' e = absurd (not_done overflowed w r c' e)
  admitted_flags false false u w c r c' e = (refl, refl)

  fits : (u w : Tree) (c r c' : ℕ) → Normal u → within_limits P.sign.theory u c ≡ done w r c' → Fit w
  fits u w c r c' n e =
      let g = admitted_flags (nat_lt depth_limit (depth u)) (holds_overflow P.sign.theory u) u w c r c' e in
      subst Fit (sym (admitted_is (nat_lt depth_limit (depth u)) (holds_overflow P.sign.theory u) u w c r c' e)) (n, ltb-false depth_limit (depth u) g.0, g.1)

  good_args : (ts : List Tree) → Each Normal ts → (j : ℕ) → Good Normal ts j
  good_args [] h j v e = absurd (no_tree v e)
    where
      no_tree : (v : Tree) → None ≡ Some v → ⊥
      no_tree v e = cc
  good_args (t ∷ ts) h zero v e = subst Normal (ap (got t) e) h.0
    where
      got : Tree → Option Tree → Tree
      got t None = t
      got t (Some v) = v
  good_args (t ∷ ts) h (suc j) v e = good_args ts h.1 j v e

  module _ (l : Level) (f : Tree → Run (List ℕ)) (h : GivesNormal l.eval) (next : Tree → Run Tree) (g : GivesNormal next) where
    spent_normal : (v u : Tree) (b r b' : ℕ) → spend (next v) b ≡ done u r b' → Fit u
    spent_normal v u zero r b' e = absurd (not_done stopped u r b' e)
    spent_normal v u (suc b) r b' e = let q = counted_done 1 (next v b) u r b' e in g v b u q.0 b' q.1

    from_normal : (w : Tree) → Fit w → (o : Option Tree) (c : ℕ) (u : Tree) (r b' : ℕ) → go_from P l f next w o c ≡ done u r b' → Fit u
    from_normal w n None c u r b' e = subst Fit (same_value e) n
    from_normal w n (Some v) c u r b' e = spent_normal v u c r b' e

    top_normal : (w : Tree) → Fit w → (b : ℕ) (u : Tree) (r b' : ℕ) → at_top P l f next w b ≡ done u r b' → Fit u
    top_normal w n b u r b' e =
        let p = went (settle P l f w) (λ ss. and_then (applied P l f w) λ o. go_from P l f next w o) b u r b' e in
        let q = went (applied P l f w) (λ o. go_from P l f next w o) p.between u p.behind b' p.second in
        from_normal w n q.middle q.between u q.behind b' q.second

    on_normal_normal : (t : Tree) → Fit t → (b : ℕ) (u : Tree) (r b' : ℕ) → on_normal P l f next t b ≡ done u r b' → Fit u
    on_normal_normal (variable i s) n b u r b' e = top_normal (variable i s) n b u r b' e
    on_normal_normal (numeral m) n b u r b' e = top_normal (numeral m) n b u r b' e
    on_normal_normal (apply q ts) n b u r b' e =
        let is = order_of P q (list_of ts) in
        let w = went (in_places P l f is (list_of ts)) (λ us. and_then (within_limits P.sign.theory (build (P.sign.theory q) q us)) λ t. choose (top_changed (P.sign.theory q) is q us t) (l.eval t) (at_top P l f next t)) b u r b' e in
        let v = went (within_limits P.sign.theory (build (P.sign.theory q) q w.middle)) (λ t. choose (top_changed (P.sign.theory q) is q w.middle t) (l.eval t) (at_top P l f next t)) w.between u w.behind b' w.second in
        by v.middle v.between v.behind (top_changed (P.sign.theory q) is q w.middle v.middle)
        (fits (build (P.sign.theory q) q w.middle) v.middle w.between v.count v.between (build_normal P.sign.theory lawful q w.middle
        (each_good Normal (count_up 0 w.middle) 0 w.middle (names_itself (count_up 0 w.middle))
        λ j k z i. in_places_good Normal P l f (λ t b u r b' e. (h t b u r b' e).0) is (list_of ts) w.middle b w.count w.between w.first j (inr (good_args (list_of ts) (each_normal P.sign.theory ts n.0.0) j)))) v.first)
        v.second
      where
        by : (t : Tree) (c d : ℕ) (x : Bool) → Fit t → choose x (l.eval t) (at_top P l f next t) c ≡ done u d b' → Fit u
        by t c d true m e = h t c u d b' e
        by t c d false m e = top_normal t m c u d b' e

  module _ (l : Level) (f : Tree → Run (List ℕ)) (h : GivesNormal l.eval) where
    admitted_normal : (t w : Tree) (b r c : ℕ) → admit P.sign.theory t b ≡ done w r c → Fit w
    admitted_normal t w b r c e = fits (norm P.sign.theory t) w b r c (norm_normal P.sign.theory lawful t) e

    rounds_normal : (n : ℕ) → GivesNormal (rounds P l f n)
    rounds_normal zero t b u r b' e =
        let w = went (admit P.sign.theory t) (on_normal P l f (λ u. ends stopped)) b u r b' e in
        on_normal_normal l f h (λ u. ends stopped) (λ t b u r b' e. absurd (not_done stopped u r b' e)) w.middle (admitted_normal t w.middle b w.count w.between w.first) w.between u w.behind b' w.second
    rounds_normal (suc n) t b u r b' e =
        let w = went (admit P.sign.theory t) (on_normal P l f (rounds P l f n)) b u r b' e in
        on_normal_normal l f h (rounds P l f n) (rounds_normal n) w.middle (admitted_normal t w.middle b w.count w.between w.first) w.between u w.behind b' w.second

  pub values_normal : (B k : ℕ) → GivesNormal (levels P B k).eval
  values_normal B zero t b u r b' e = absurd (not_done too_deep u r b' e)
  values_normal B (suc k) t b u r b' e = rounds_normal (levels P B k) (levels P B (suc k)).sorts (values_normal B k) b t b u r b' e

-- ---- computations that always give, and those that always fail

abbrev Always : {A : Type 0} → Run A → Type 0
Always {A = A} m = (b : ℕ) → (x : A) × (m b ≡ done x 0 b)

abbrev Never : {A : Type 0} → Run (Option A) → Type 0
Never m = (b : ℕ) → m b ≡ done None 0 b

gives_always : {A : Type 0} (x : A) → Always (gives x)
gives_always x b = (x, refl)

then_always : {A B : Type 0} (m : Run A) (k : A → Run B) → Always m → ((x : A) → Always (k x)) → Always (and_then m k)
then_always m k h g b = let p = h b in let q = g p.0 b in (q.0, ap (go_on k) p.1 ∙ ap (counted 0) q.1)

try_always : {A B : Type 0} (m : Run A) (k : A → Run (Option B)) → Always m → ((x : A) → Always (k x)) → Always (and_try m k)
try_always {B = B} m k h g b = let p = h b in let q = g p.0 b in (q.0, ap (try_on k) p.1 ∙ (ap (counted_if 0) q.1 ∙ by q.0))
  where
    by : (o : Option B) → counted_if 0 (done o 0 b) ≡ done o 0 b
    by None = refl
    by (Some x) = refl

each_always : {A B : Type 0} (f : A → Run B) (xs : List A) → ((x : A) → IsIn x xs → Always (f x)) → Always (each_in_turn f xs)
each_always f [] h = gives_always []
each_always f (x ∷ xs) h =
    then_always (f x) (λ y. and_then (each_in_turn f xs) (λ ys. gives (y ∷ ys))) (h x (inl refl))
    λ y. then_always (each_in_turn f xs) (λ ys. gives (y ∷ ys)) (each_always f xs (λ z i. h z (inr i))) λ ys. gives_always (y ∷ ys)

choose_always : {A : Type 0} (t : Bool) (m k : Run A) → (t ≡ true → Always m) → Always k → Always (choose t m k)
choose_always true m k h g = h refl
choose_always false m k h g = g

where_always : {A : Type 0} (t : Bool) (m : Run (Option A)) → Always m → Always (where_true t m)
where_always true m h = h
where_always false m h = gives_always None

apart_always : {A : Type 0} (n : ℕ) (m : Run A) → Always m → Always (apart n m)
apart_always n m h b = let p = h n in (p.0, ap (put_back b) p.1)

never_first : {A B : Type 0} (f : A → Run (Option B)) (xs : List A) → ((x : A) → IsIn x xs → Never (f x)) → Never (first_of f xs)
never_first f [] h b = refl
never_first f (x ∷ xs) h b = ap (or_go_on (first_of f xs)) (h x (inl refl) b) ∙ never_first f xs (λ z i. h z (inr i)) b

never_else : {A : Type 0} (m k : Run (Option A)) → Never m → Never k → Never (or_else m k)
never_else m k h g b = ap (or_go_on k) (h b) ∙ g b

never_where : {A : Type 0} (t : Bool) (m : Run (Option A)) → (t ≡ true → Never m) → Never (where_true t m)
never_where true m h = h refl
never_where false m h = λ b. refl

never_try : {A B : Type 0} (m : Run A) (k : A → Run (Option B)) → (b : ℕ) (x : A) → m b ≡ done x 0 b → k x b ≡ done None 0 b → and_try m k b ≡ done None 0 b
never_try m k b x h g = ap (try_on k) h ∙ ap (counted_if 0) g

-- m gives x with nothing counted or taken, and then k
step_to : {A B : Type 0} (m : Run A) (k : A → Run B) (b : ℕ) (x : A) (y : B) → m b ≡ done x 0 b → k x b ≡ done y 0 b → and_then m k b ≡ done y 0 b
step_to m k b x y h g = ap (go_on k) h ∙ ap (counted 0) g

pub same_tree_itself : (t : Tree) → same_tree t t ≡ true
same_tree_itself t = ap is_eq (tie (tree_cmp t t) (tree_total.antisymm t t))
  where
    tie : (o : Ordering) → o ≡ ordering_reverse o → o ≡ Equal
    tie Less e = cc
    tie Equal e = refl
    tie Greater e = cc

all_pieces_of : (a : Bool) (u : _) (f : ℕ) (ts : List Tree) → Each (IsPiece a u f) ts → all_pieces a u f ts ≡ ts
all_pieces_of a u f [] h = refl
all_pieces_of a u f (t ∷ ts) h = ap₂ (λ v w. v ++ w) h.0 (all_pieces_of a u f ts h.1)

module _ (th : ℕ → Theory) where
  norms_fixed : (ts : Trees) → AreNormal th ts → norms th ts ≡ list_of ts
  norms_fixed no_trees n = refl
  norms_fixed (tree t ts) n = ap₂ (λ v w. v ∷ w) (normal_fixed th t n.0) (norms_fixed ts n.1)

  built_again : (f : ℕ) (ts : Trees) → IsNormal th (apply f ts) → build (th f) f (list_of ts) ≡ apply f ts
  built_again f ts n = ap (build (th f) f) (sym (norms_fixed ts n.0)) ∙ normal_fixed th (apply f ts) n

  not_changed : (f : ℕ) (ts : Trees) (is : List ℕ) → IsNormal th (apply f ts) → ((th f).assoc ≡ true → nat_lt (length (list_of ts)) 2 ≡ false) → top_changed (th f) is f (list_of ts) (apply f ts) ≡ false
  not_changed f ts is n l = by (th f).assoc refl
    where
      false_and : (x y : Bool) → (x && (y && not true)) ≡ false
      false_and true true = refl
      false_and true false = refl
      false_and false y = refl

      neither : (x y : Bool) → x ≡ true → y ≡ false → (not x || y) ≡ false
      neither x y e g = ap (λ z. not z || y) e ∙ g

      itself : (us : List Tree) → us ≡ list_of ts → same_tree (apply f ts) (node f us) ≡ true
      itself us e = ap (λ w. same_tree (apply f ts) (node f w)) e ∙ (ap (λ w. same_tree (apply f ts) (apply f w)) (trees_of-list_of ts) ∙ same_tree_itself (apply f ts))

      by : (a : Bool) → (th f).assoc ≡ a → top_changed (th f) is f (list_of ts) (apply f ts) ≡ false
      by true q =
          ap (λ a. top_changed_by a (th f) is f (list_of ts) (apply f ts)) q ∙
          (ap (λ w. nat_lt (length w) 2) (all_pieces_of true (th f).id f (list_of ts) (subst (λ a. Each (IsPiece a (th f).id f) (list_of ts)) q n.1.whole)) ∙ l q)
      by false q =
          ap (λ a. top_changed_by a (th f) is f (list_of ts) (apply f ts)) q ∙
          neither (same_tree (apply f ts) (node f (arrange (th f).comm (list_of ts)))) (not (is_none is) && (not (names_all (count_up 0 (list_of ts)) is) && not (same_tree (apply f ts) (node f (list_of ts)))))
          (itself (arrange (th f).comm (list_of ts)) n.1.ordered)
          (ap (λ z. not (is_none is) && (not (names_all (count_up 0 (list_of ts)) is) && not z)) (itself (list_of ts) refl) ∙ false_and (not (is_none is)) (not (names_all (count_up 0 (list_of ts)) is)))

module _ (P : Program) (lawful : AreLawful P.sign.theory) (plain : IsUnconditional P) where
  no_condition : (l : Level) (σ : Binding) (c : List Fragment) → c ≡ [] → Always (solve P l c σ)
  no_condition l σ c e = subst (λ d. Always (solve P l d σ)) (sym e) (gives_always (Some σ))

  having_always : (f : Tree → Run (List ℕ)) → ((t : Tree) → Always (f t)) → (xs : List Variable) (vs : List Tree) → Always (have_sorts f xs vs)
  having_always f h [] vs = gives_always true
  having_always f h (x ∷ xs) [] = gives_always false
  having_always f h (x ∷ xs) (v ∷ vs) =
      then_always (f v) (λ ss. choose (has_number ss x.1) (have_sorts f xs vs) (gives false)) (h v)
      λ ss. choose_always (has_number ss x.1) (have_sorts f xs vs) (gives false) (λ e. having_always f h xs vs) (gives_always false)

  module _ (B : ℕ) (l : Level) where
    abbrev ask : List Fragment → Binding → Run (Option Binding)
    ask = solve P l

    membership_always : (f : Tree → Run (List ℕ)) → ((t : Tree) → Always (f t)) → (t : Tree) (m : Membership) → IsIn m P.memberships → Always (by_membership P B ask f t m)
    membership_always f h t m i =
        choose_always m.exec
        (and_then (each_in_turn (holds_for P B ask f m) (solutions P.sign m.left t)) λ bs. gives (if any bs then P.above m.sort else []))
        (gives [])
        (λ e. then_always (each_in_turn (holds_for P B ask f m) (solutions P.sign m.left t)) (λ bs. gives (if any bs then P.above m.sort else []))
        (each_always (holds_for P B ask f m) (solutions P.sign m.left t) λ x j. one x e) λ bs. gives_always (if any bs then P.above m.sort else []))
        (gives_always [])
      where
        one : (x : Solution) → m.exec ≡ true → Always (holds_for P B ask f m x)
        one x e =
            let σ : Binding = extend [] (variables m.left) x.values in
            then_always (and_try (have_sorts f (variables m.left) x.values) λ ok. where_true ok (apart B (ask m.cond σ))) (λ o. gives (is_some o))
            (try_always (have_sorts f (variables m.left) x.values) (λ ok. where_true ok (apart B (ask m.cond σ))) (having_always f h (variables m.left) x.values)
            λ ok. where_always ok (apart B (ask m.cond σ)) (apart_always B (ask m.cond σ) (no_condition l σ m.cond (plain.memberships m i e))))
            λ o. gives_always (is_some o)

    sorts_always : (n : ℕ) (t : Tree) → Always (sorts_in P B ask n t)
    sorts_always zero t = gives_always []
    sorts_always (suc n) (variable i s) = gives_always (P.above s)
    sorts_always (suc n) (numeral m) = gives_always (P.numeral_sorts m)
    sorts_always (suc n) (apply f ts) =
        then_always (each_in_turn (sorts_in P B ask n) (list_of ts)) (λ args. and_then (each_in_turn (by_membership P B ask (sorts_in P B ask n) (apply f ts)) P.memberships) λ more. gives (P.declared f args ++ joined more))
        (each_always (sorts_in P B ask n) (list_of ts) λ t i. sorts_always n t)
        λ args. then_always (each_in_turn (by_membership P B ask (sorts_in P B ask n) (apply f ts)) P.memberships) (λ more. gives (P.declared f args ++ joined more))
        (each_always (by_membership P B ask (sorts_in P B ask n) (apply f ts)) P.memberships λ m i. membership_always (sorts_in P B ask n) (sorts_always n) (apply f ts) m i)
        λ more. gives_always (P.declared f args ++ joined more)

  module _ (B k : ℕ) where
    abbrev l : Level
    l = levels P B k

    abbrev f : Tree → Run (List ℕ)
    f = (levels P B (suc k)).sorts

    f_always : (t : Tree) → Always (f t)
    f_always t = sorts_always B l (size t) t

    never_applies : (t : Tree) → IsTestedTop P t → (e : Equation) → IsIn e P.equations → e.exec ≡ true → (x : Solution) → IsIn x (solutions_within P.sign e.left t) → Never (apply_for P l f e t x)
    never_applies t h e i q x j b = by (p.0) p.1
      where
        p : (ok : Bool) × (have_sorts f (variables e.left) x.values b ≡ done ok 0 b)
        p = having_always f f_always (variables e.left) x.values b

        k' : Bool → Run (Option Tree)
        k' ok = where_true ok (and_try (solve P l e.cond (binding_of e.left x)) λ o. gives (replaced P.sign.theory e t x o))

        yes_no : IsNo (λ k B. solve_at P k B e.cond (binding_of e.left x)) → ⊥
        yes_no n =
            let c = n.1 in
            let g = no_condition (levels P c.each c.level) (binding_of e.left x) e.cond (plain.equations e i q) c.budget in
            some_is_not_none (binding_of e.left x) 0 n.0 c.budget c.left
            (subst (λ d. (solve P (levels P c.each c.level) d (binding_of e.left x) c.budget ≡ done None n.0 c.left)) (plain.equations e i q) c.comes)

        by : (ok : Bool) → have_sorts f (variables e.left) x.values b ≡ done ok 0 b → apply_for P l f e t x b ≡ done None 0 b
        by false z = never_try (have_sorts f (variables e.left) x.values) (λ ok. where_true ok (and_try (solve P l e.cond (binding_of e.left x)) λ o. gives (replaced P.sign.theory e t x o))) b false z refl
        by true z =
            let w = h.tested e i q x j in
            let one = stays_one (λ k B. have_sorts (levels P B k).sorts (variables e.left) x.values) (having_sorts_stays P (variables e.left) x.values) w.having true w.count 0 w.comes (record { level = suc k; each = B; budget = b; left = b; comes = z }) in
            absurd (yes_no (w.refused one.0))

    never_applied : (t : Tree) → IsTestedTop P t → Never (applied P l f t)
    never_applied t h b = ap (λ a. by_answer P l f a (by_equations P l f t) b) h.no_native ∙ never_else (first_of (try_equation P l f t false) P.equations) (first_of (try_equation P l f t true) P.equations) (some_kind false) (some_kind true) b
      where
        first : (x y : Bool) → (x && y) ≡ true → x ≡ true
        first true y e = refl
        first false y e = cc

        some_kind : (o : Bool) → Never (first_of (try_equation P l f t o) P.equations)
        some_kind o = never_first (try_equation P l f t o) P.equations λ e i.
            never_where (e.exec && (if o then e.owise else not e.owise)) (first_of (apply_for P l f e t) (solutions_within P.sign e.left t)) λ q.
            never_first (apply_for P l f e t) (solutions_within P.sign e.left t) λ x j. never_applies t h e i (first e.exec (if o then e.owise else not e.owise) q) x j

    at_top_stays : (next : Tree → Run Tree) (t : Tree) → IsTestedTop P t → (b : ℕ) → at_top P l f next t b ≡ done t 0 b
    at_top_stays next t h b =
        let s = then_always (each_in_turn f P.units) (λ us. f t) (each_always f P.units λ u i. f_always u) (λ us. f_always t) b in
        step_to (settle P l f t) (λ ss. and_then (applied P l f t) λ o. go_from P l f next t o) b s.0 t s.1
        (step_to (applied P l f t) (λ o. go_from P l f next t o) b None t (never_applied t h b) refl)

    in_places_stay : (ts : List Tree) (is : List ℕ) → ((j : ℕ) → has_number is j ≡ true → (v : Tree) → at ts j ≡ Some v → (b : ℕ) → l.eval v b ≡ done v 0 b) → (b : ℕ) → in_places P l f is ts b ≡ done ts 0 b
    in_places_stay ts [] h b = refl
    in_places_stay ts (i ∷ is) h b =
        step_to (put_value P l f l.eval ts i (at ts i)) (in_places P l f is) b ts ts (one (at ts i) refl) (in_places_stay ts is (λ j q. h j (or_right (i == j) (has_number is j) q)) b)
      where
        or_right : (x y : Bool) → y ≡ true → (x || y) ≡ true
        or_right true y e = refl
        or_right false y e = e

        put_same : (us : List Tree) (n : ℕ) (v : Tree) → at us n ≡ Some v → put us n v ≡ us
        put_same [] n v e = refl
        put_same (t ∷ us) zero v e = ap (λ w. w ∷ us) (sym (ap (got t) e))
          where
            got : Tree → Option Tree → Tree
            got t None = t
            got t (Some w) = w
        put_same (t ∷ us) (suc n) v e = ap (λ w. t ∷ w) (put_same us n v e)

        here : has_number (i ∷ is) i ≡ true
        here = ap (λ z. z || has_number is i) (eq-eqb i i refl)

        one : (o : Option Tree) → at ts i ≡ o → put_value P l f l.eval ts i o b ≡ done ts 0 b
        one None e = refl
        one (Some v) e = step_to (l.eval v) (λ w. gives (put ts i w)) b v ts (h i here v e b) (ap (λ w. done w 0 b) (put_same ts i v e))

  -- ---- the value itself

  no_trees_at : (j : ℕ) (v : Tree) → at [] j ≡ Some v → ⊥
  no_trees_at j v e = cc

  neither_of : (x y : Bool) → (x || y) ≡ false → (x ≡ false) × (y ≡ false)
  neither_of false y e = (refl, e)
  neither_of true y e = cc

  module _ (B : ℕ) where
    abbrev Stays : ℕ → Tree → Type 0
    Stays k t = (b : ℕ) → (levels P B k).eval t b ≡ done t 0 b

    admit_stays : (t : Tree) → IsNormal P.sign.theory t → depth t ≤ depth_limit → holds_overflow P.sign.theory t ≡ false → (b : ℕ) → within_limits P.sign.theory t b ≡ done t 0 b
    admit_stays t n d o b = ap₂ (λ x y. admitted x y t b) (le-ltb depth_limit (depth t) d) o

    rounds_stay : (k n : ℕ) (t : Tree) → IsNormal P.sign.theory t → depth t ≤ depth_limit → holds_overflow P.sign.theory t ≡ false → (b : ℕ) → ((next : Tree → Run Tree) → on_normal P (l B k) (f B k) next t b ≡ done t 0 b) → rounds P (l B k) (f B k) n t b ≡ done t 0 b
    rounds_stay k zero t n d o b h = step_to (admit P.sign.theory t) (on_normal P (l B k) (f B k) (λ u. ends stopped)) b t t (ap (λ w. within_limits P.sign.theory w b) (normal_fixed P.sign.theory t n) ∙ admit_stays t n d o b) (h (λ u. ends stopped))
    rounds_stay k (suc m) t n d o b h = step_to (admit P.sign.theory t) (on_normal P (l B k) (f B k) (rounds P (l B k) (f B k) m)) b t t (ap (λ w. within_limits P.sign.theory w b) (normal_fixed P.sign.theory t n) ∙ admit_stays t n d o b) (h (rounds P (l B k) (f B k) m))

    node_stays : (k q : ℕ) (ts : Trees) → IsStill P (apply q ts) → IsNormal P.sign.theory (apply q ts) → depth (apply q ts) ≤ depth_limit → holds_overflow P.sign.theory (apply q ts) ≡ false →
        ((j : ℕ) → has_number (order_of P q (list_of ts)) j ≡ true → (v : Tree) → at (list_of ts) j ≡ Some v → (b : ℕ) → (l B k).eval v b ≡ done v 0 b) →
        (next : Tree → Run Tree) (b : ℕ) → on_normal P (l B k) (f B k) next (apply q ts) b ≡ done (apply q ts) 0 b
    node_stays k q ts h n d o g next b =
        let is = order_of P q (list_of ts) in
        let again = built_again P.sign.theory q ts n in
        step_to (in_places P (l B k) (f B k) is (list_of ts)) (λ us. and_then (within_limits P.sign.theory (build (P.sign.theory q) q us)) λ t. choose (top_changed (P.sign.theory q) is q us t) ((l B k).eval t) (at_top P (l B k) (f B k) next t)) b (list_of ts) (apply q ts)
        (in_places_stay B k (list_of ts) is g b)
        (step_to (within_limits P.sign.theory (build (P.sign.theory q) q (list_of ts))) (λ t. choose (top_changed (P.sign.theory q) is q (list_of ts) t) ((l B k).eval t) (at_top P (l B k) (f B k) next t)) b (apply q ts) (apply q ts)
        (ap (λ w. within_limits P.sign.theory w b) again ∙ admit_stays (apply q ts) n d o b)
        (ap (λ z. choose z ((l B k).eval (apply q ts)) (at_top P (l B k) (f B k) next (apply q ts)) b) (not_changed P.sign.theory q ts is n h.1) ∙ at_top_stays B k next (apply q ts) h.0 b))

    below_one : (t : Tree) → 1 ≤ size t
    below_one (variable i s) = omega arith
    below_one (numeral n) = omega arith
    below_one (apply q ts) = omega arith

    mutual
      still_stays : (t : Tree) → IsStill P t → IsNormal P.sign.theory t → depth t ≤ depth_limit → holds_overflow P.sign.theory t ≡ false → (k : ℕ) → size t ≤ k → Stays k t
      still_stays (variable i s) h n d o zero z b = absurd (omega arith)
      still_stays (variable i s) h n d o (suc k) z b = rounds_stay k b (variable i s) n d o b (λ next. at_top_stays B k next (variable i s) h b)
      still_stays (numeral m) h n d o zero z b = absurd (omega arith)
      still_stays (numeral m) h n d o (suc k) z b = rounds_stay k b (numeral m) n d o b (λ next. at_top_stays B k next (numeral m) h b)
      still_stays (apply q ts) h n d o zero z b = absurd (omega arith)
      still_stays (apply q ts) h n d o (suc k) z b =
          rounds_stay k b (apply q ts) n d o b
          (λ next. node_stays k q ts h n d o (λ j i v e. trees_stay ts (order_of P q (list_of ts)) 0 h.2 n.0 (omega arith) (neither_of _ _ o).1 k (omega arith) j j (omega arith) i v e) next b)

      trees_stay : (ts : Trees) (is : List ℕ) (m : ℕ) → AreStill P is m ts → AreNormal P.sign.theory ts → depths ts ≤ depth_limit → hold_overflow P.sign.theory ts ≡ false → (k : ℕ) → sizes ts ≤ k →
          (j i : ℕ) → i ≡ m + j → has_number is i ≡ true → (v : Tree) → at (list_of ts) j ≡ Some v → Stays k v
      trees_stay no_trees is m h n d o k z j i p q v e = absurd (no_trees_at j v e)
      trees_stay (tree t ts) is m h n d o k z zero i p q v e =
          subst (Stays k) (some_tree' e) (still_stays t (h.0 (ap (has_number is) (same p) ∙ q)) n.0 (le_trans (le-max_left (depth t) (depths ts)) d) (neither_of _ _ o).0 k (less z))
        where
          some_tree' : Some t ≡ Some v → t ≡ v
          some_tree' e = ap (λ o. elim o [ Some w ↦ w | None ↦ t ]) e

          same : i ≡ m + 0 → m ≡ i
          same p = omega arith

          less : size t + sizes ts ≤ k → size t ≤ k
          less z = omega arith
      trees_stay (tree t ts) is m h n d o k z (suc j) i p q v e =
          trees_stay ts is (suc m) h.1 n.1 (le_trans (le-max_right (depth t) (depths ts)) d) (neither_of _ _ o).1 k (less z) j i (later p) q v e
        where
          later : i ≡ m + suc j → i ≡ suc m + j
          later p = omega arith

          less : size t + sizes ts ≤ k → sizes ts ≤ k
          less z = omega arith

pub values_stay : ValuesStay
values_stay P lawful plain k B b t u r b' e k' B' c z =
    let n = values_normal P lawful B k t b u r b' e in
    still_stays P lawful plain B' u (values_still P B k t b u r b' e) n.0 n.1 n.2 k' z c
