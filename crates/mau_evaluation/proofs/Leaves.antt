-- The ordered lists of rules hold just their results.
use Rattle.std.proofs.Common.{◌≡◌, ℕ, List, [], ◌∷◌, map, Bool, true, false, not, ◌&&◌, ◌||◌, ◌==◌, Option, Some, None, inl, inr, refl, sym, ◌∙◌, ap, subst, ap₂, ◌⊎◌}
use Rattle.std.proofs.lemmas.Bool.{eqb-true, eq-eqb}
use Rattle.mau_terms.specs.Tree.{Tree}
use Rattle.mau_terms.specs.Subst.{Variable, variables, instance}
use Rattle.mau_terms.specs.Finite.{IsIn}
use Rattle.mau_evaluation.specs.Run.{Outcome, done, ended, Run}
use Rattle.mau_evaluation.specs.Program.{Rule, Program}
use Rattle.mau_evaluation.specs.Listing.{Solution, solutions_within}
use Rattle.mau_evaluation.specs.Evaluation.{Binding, look_up, agree, have_sorts}
use Rattle.mau_evaluation.specs.Engine.{Engine}
use Rattle.mau_evaluation.specs.Rules.{Place, has_reach, Shows, AskingEnds, Evaluates, EvaluationEnds, bound_by, rewritten, Applies, Rewrites, RewritingEnds}
use Rattle.mau_evaluation.specs.Strategy.{Assign, StratDef}
use Rattle.mau_evaluation.specs.Satisfies.{index_of, same_name, binds_all, determined, may_add, Assigned, AreValues, SomeArgumentEnds, MayUse, SomeAssignEnds, labelled, with_any}
use Rattle.mau_evaluation.specs.Answers.{Answers, no_more, answer, answers_of, for_each, asking, from_outcome, when}
use Rattle.mau_evaluation.specs.OrderedLists.{asked, only, rewritten_by, rewrites_for, rewrites_at, rewrites_by, may_use, put_first, values_of, put_at, assigned_at, assigned, is_labelled, if_used, labelled_rule, labelled_place, by_label, assigned_terms, labelled_results, any_rule, any_place, any_results}
use Rattle.mau_evaluation.proofs.Stay.{one_done}
use Rattle.mau_evaluation.proofs.Each.{Has, IsWhole, has_list, list_has, has_each, into_each, whole_each, whole_at, has_asking, into_asking, whole_asking, asking_gives, has_when, into_when, whole_when}
use Rattle.mau_evaluation.proofs.Shown.{shows_asked, asked_shows, asked_goes}

pub both_true : (a b : Bool) → (a && b) ≡ true → (a ≡ true) × (b ≡ true)
both_true true b h = (refl, h)
both_true false b h = cc

pub same_name-is : (xs ys : List ℕ) → same_name xs ys ≡ true → xs ≡ ys
same_name-is [] [] h = refl
same_name-is [] (y ∷ ys) h = cc
same_name-is (x ∷ xs) [] h = cc
same_name-is (x ∷ xs) (y ∷ ys) h =
    let b = both_true (x == y) (same_name xs ys) h in ap₂ (λ a as_. a ∷ as_) (eqb-true x y b.0) (same_name-is xs ys b.1)

pub same_name_itself : (xs : List ℕ) → same_name xs xs ≡ true
same_name_itself [] = refl
same_name_itself (x ∷ xs) = ap₂ (λ a b. a && b) (eq-eqb x x refl) (same_name_itself xs)

pub labelled-is : (P : Program) (L : Engine) (n : List ℕ) (o : Option (List ℕ)) → is_labelled n o ≡ true → o ≡ Some n
labelled-is P L n None h = cc
labelled-is P L n (Some m) h = ap Some (same_name-is m n h)

pub is-labelled : (P : Program) (L : Engine) (n : List ℕ) (o : Option (List ℕ)) → o ≡ Some n → is_labelled n o ≡ true
is-labelled P L n o e = subst (λ z. is_labelled n z ≡ true) (sym e) (same_name_itself n)

pub not_true : (b : Bool) → not b ≡ true → b ≡ false
not_true true h = cc
not_true false h = refl

or_true : (b : Bool) → (b || true) ≡ true
or_true true = refl
or_true false = refl

only_one : {A : Type 0} (w x : A) → Has x (answer w no_more) → x ≡ w
only_one w x (inl e) = e
only_one w x (inr i) = absurd i

heads : {A : Type 0} (x y : A) (xs ys : List A) → x ∷ xs ≡ y ∷ ys → x ≡ y
heads x y xs ys e = cc

heads_rest : {A : Type 0} (x y : A) (xs ys : List A) → x ∷ xs ≡ y ∷ ys → xs ≡ ys
heads_rest x y xs ys e = cc

not_nil : {A : Type 0} (x : A) (xs : List A) → x ∷ xs ≡ [] → ⊥
not_nil x xs e = cc

not_cons : {A : Type 0} (x : A) (xs : List A) → [] ≡ x ∷ xs → ⊥
not_cons x xs e = cc

none_some : {A : Type 0} (x : A) → None ≡ Some x → ⊥
none_some x e = cc

some_one : {A : Type 0} (x y : A) → Some x ≡ Some y → x ≡ y
some_one x y e = cc

module _ (P : Program) (L : Engine) where
  abbrev sorts_of_left : Rule → Solution → Run Bool
  sorts_of_left q x = have_sorts L.level.sorts (variables q.left) x.values

  abbrev sorted : Rule → Binding → Place → Solution → Bool → Answers Tree
  sorted q σ s x ok = when ok (rewrites_for P L q σ s x)

  abbrev agrees : Rule → Binding → Solution → Bool
  agrees q σ x = agree P.sign.theory σ (variables q.left) x.values

  abbrev asked_sorts : Rule → Binding → Place → Solution → Answers Tree
  asked_sorts q σ s x = asking L.budget (sorts_of_left q x) (sorted q σ s x)

  from_rewrites : (q : Rule) (σ : Binding) (s : Place) (u : Tree) → Has u (rewrites_by P L q σ s) → Rewrites P L q σ s u
  from_rewrites q σ s u h =
      let l = answers_of (solutions_within P.sign q.left s.term) in
      let x = has_each (rewrites_at P L q σ s) l u h in
      let g = has_when (agrees q σ x.0) (asked_sorts q σ s x.0) u x.2 in
      let k = has_asking L.budget (sorts_of_left q x.0) (sorted q σ s x.0) u g.1 in
      let w = has_when k.0 (rewrites_for P L q σ s x.0) u k.4 in
      let y = has_each (rewritten_by P L q s x.0) (asked P L q.cond (bound_by P L q σ x.0)) u w.1 in
      let v = has_asking L.budget (L.level.eval (rewritten P L q s x.0 y.0)) (only) u y.2 in
      record {
        solution = x.0;
        result = y.0;
        applies = record {
          listed = has_list x.0 (solutions_within P.sign q.left s.term) x.1;
          agrees = g.0;
          sorts = (k.1, k.2, subst (λ z. sorts_of_left q x.0 L.budget ≡ done z k.1 k.2) w.0 k.3);
        };
        shown = asked_shows P L q.cond (bound_by P L q σ x.0) y.0 y.1;
        evaluates = (v.1, v.2, subst (λ z. L.level.eval (rewritten P L q s x.0 y.0) L.budget ≡ done z v.1 v.2) (sym (only_has v.0 v.4)) v.3);
      }
    where
      only_has : (v : Tree) → Has u (only v) → u ≡ v
      only_has v (inl e) = e
      only_has v (inr h) = absurd h

  -- the list of a solution is whole
  whole_for : (q : Rule) (σ : Binding) (s : Place) (x : Solution) → IsWhole (rewrites_by P L q σ s) → Applies P L q σ s x → IsWhole (rewrites_for P L q σ s x)
  whole_for q σ s x w a =
      let l = answers_of (solutions_within P.sign q.left s.term) in
      let w1 = whole_at (rewrites_at P L q σ s) l w x (list_has x (solutions_within P.sign q.left s.term) a.listed) in
      let w2 = whole_when (agrees q σ x) (asked_sorts q σ s x) a.agrees w1 in
      whole_asking L.budget (sorts_of_left q x) (sorted q σ s x) true (a.sorts).0 (a.sorts).1 (a.sorts).2 w2

  into_rewrites : (q : Rule) (σ : Binding) (s : Place) (u : Tree) → IsWhole (rewrites_by P L q σ s) → Rewrites P L q σ s u → Has u (rewrites_by P L q σ s)
  into_rewrites q σ s u w h =
      let l = answers_of (solutions_within P.sign q.left s.term) in
      let x = h.solution in
      let a = h.applies in
      let c = asked P L q.cond (bound_by P L q σ x) in
      let w3 = whole_for q σ s x w a in
      let i = shows_asked P L q.cond (bound_by P L q σ x) h.result (whole_each (rewritten_by P L q s x) c w3) h.shown in
      into_each (rewrites_at P L q σ s) l x u w (list_has x (solutions_within P.sign q.left s.term) a.listed)
      (into_when (agrees q σ x) (asked_sorts q σ s x) u a.agrees
      (into_asking L.budget (sorts_of_left q x) (sorted q σ s x) true (a.sorts).0 (a.sorts).1 u (a.sorts).2
      (into_each (rewritten_by P L q s x) c h.result u w3 i
      (into_asking L.budget (L.level.eval (rewritten P L q s x h.result)) (only) u (h.evaluates).0 (h.evaluates).1 u (h.evaluates).2 (inl refl)))))

  rewrites_go : (q : Rule) (σ : Binding) (s : Place) → IsWhole (rewrites_by P L q σ s) → RewritingEnds P L q σ s → ⊥
  rewrites_go q σ s w r = by (whole_for q σ s r.0 w r.1) r.2
    where
      by : IsWhole (rewrites_for P L q σ s r.0) → (AskingEnds P L q.cond (bound_by P L q σ r.0) ⊎ ((σ' : Binding) × Shows P L q.cond (bound_by P L q σ r.0) σ' × EvaluationEnds P L (rewritten P L q s r.0 σ'))) → ⊥
      by v (inl a) = asked_goes P L q.cond (bound_by P L q σ r.0) (whole_each (rewritten_by P L q s r.0) (asked P L q.cond (bound_by P L q σ r.0)) v) a
      by v (inr a) =
          let c = asked P L q.cond (bound_by P L q σ r.0) in
          let i = shows_asked P L q.cond (bound_by P L q σ r.0) a.0 (whole_each (rewritten_by P L q s r.0) c v) a.1 in
          asking_gives L.budget (L.level.eval (rewritten P L q s r.0 a.0)) (only) (whole_at (rewritten_by P L q s r.0) c v a.0 i) (a.2).0 (a.2).1

  -- ---- values of terms

  pub from_values : (defs : List StratDef) (ρ : Binding) (ts vs : List Tree) → Has vs (values_of P L (map (instance (look_up ρ)) ts)) → AreValues P L defs ρ ts vs
  from_values defs ρ [] vs (inl e) = e
  from_values defs ρ [] vs (inr h) = absurd h
  from_values defs ρ (t ∷ ts) vs h =
      let rest = values_of P L (map (instance (look_up ρ)) ts) in
      let a = has_asking L.budget (L.level.eval (instance (look_up ρ) t)) (λ v. for_each (put_first v) rest) vs h in
      let x = has_each (put_first a.0) rest vs a.4 in
      (a.0, x.0, (a.1, a.2, a.3), from_values defs ρ ts x.0 x.1, only_has (a.0 ∷ x.0) x.2)
    where
      only_has : (w : List Tree) → Has vs (answer w no_more) → vs ≡ w
      only_has w (inl e) = e
      only_has w (inr i) = absurd i

  pub into_values : (defs : List StratDef) (ρ : Binding) (ts vs : List Tree) → IsWhole (values_of P L (map (instance (look_up ρ)) ts)) → AreValues P L defs ρ ts vs → Has vs (values_of P L (map (instance (look_up ρ)) ts))
  into_values defs ρ [] vs w e = inl e
  into_values defs ρ (t ∷ ts) vs w a =
      let rest = values_of P L (map (instance (look_up ρ)) ts) in
      let m = L.level.eval (instance (look_up ρ) t) in
      let w1 = whole_asking L.budget m (λ v. for_each (put_first v) rest) a.0 (a.2).0 (a.2).1 (a.2).2 w in
      into_asking L.budget m (λ v. for_each (put_first v) rest) a.0 (a.2).0 (a.2).1 vs (a.2).2
      (into_each (put_first a.0) rest a.1 vs w1 (into_values defs ρ ts a.1 (whole_each (put_first a.0) rest w1) a.3) (inl a.4))

  pub values_go : (ρ : Binding) (ts : List Tree) → IsWhole (values_of P L (map (instance (look_up ρ)) ts)) → (defs : List StratDef) → SomeArgumentEnds P L defs ρ ts → ⊥
  values_go ρ [] w defs h = h
  values_go ρ (t ∷ ts) w defs (inl a) =
      asking_gives L.budget (L.level.eval (instance (look_up ρ) t)) (λ v. for_each (put_first v) (values_of P L (map (instance (look_up ρ)) ts))) w a.0 a.1
  values_go ρ (t ∷ ts) w defs (inr h) = by (L.level.eval (instance (look_up ρ) t) L.budget) (λ w1. values_go ρ ts w1 defs h) w
    where
      by : (o : Outcome Tree) → (IsWhole (values_of P L (map (instance (look_up ρ)) ts)) → ⊥) → IsWhole (from_outcome (λ v. for_each (put_first v) (values_of P L (map (instance (look_up ρ)) ts))) o) → ⊥
      by (done v r c) k w1 = k (whole_each (put_first v) (values_of P L (map (instance (look_up ρ)) ts)) w1)
      by (ended e) k w1 = w1

  -- ---- assignments

  abbrev terms_of : List Assign → List Tree
  terms_of gs = map (λ g. g.term) gs

  module _ (q : Rule) (ρ : Binding) where
    abbrev place_of : Assign → Option Variable
    place_of g = index_of same_name q.vars 0 g.name g.sort

    abbrev rest_of : Variable → Tree → Answers Binding → Bool → Answers Binding
    rest_of x v p ok = when ok (for_each (put_at x v) p)

    abbrev assigned_by : Tree → Answers Binding → Option Variable → Answers Binding
    assigned_by v p o = elim o [ None ↦ no_more | Some x ↦ assigned_at P L x v p ]

    from_assigned : (defs : List StratDef) (gs : List Assign) (vs : List Tree) (σ : Binding) → AreValues P L defs ρ (terms_of gs) vs → Has σ (assigned P L q.vars gs vs) → Assigned P L q ρ gs σ
    from_assigned defs [] [] σ a (inl e) = e
    from_assigned defs [] [] σ a (inr h) = absurd h
    from_assigned defs [] (v ∷ vs) σ a h = absurd h
    from_assigned defs (g ∷ gs) [] σ a h = absurd h
    from_assigned defs (g ∷ gs) (v ∷ vs) σ a h = by (λ y i. from_assigned defs gs vs y (subst (AreValues P L defs ρ (terms_of gs)) (sym (heads_rest v a.0 vs a.1 a.4)) a.3) i) (place_of g) refl h
      where
        by : ((y : Binding) → Has y (assigned P L q.vars gs vs) → Assigned P L q ρ gs y) → (o : Option Variable) → place_of g ≡ o → Has σ (assigned_by v (assigned P L q.vars gs vs) o) → Assigned P L q ρ (g ∷ gs) σ
        by more None e i = absurd i
        by more (Some x) e i =
            let rest = assigned P L q.vars gs vs in
            let m = have_sorts L.level.sorts (x ∷ []) (v ∷ []) in
            let k = has_asking L.budget m (rest_of x v rest) σ i in
            let w = has_when k.0 (for_each (put_at x v) rest) σ k.4 in
            let y = has_each (put_at x v) rest σ w.1 in
            let h1 = heads v a.0 vs a.1 a.4 in (
              x,
              v,
              y.0,
              e,
              subst (Evaluates P L (instance (look_up ρ) g.term)) (sym h1) a.2,
              (k.1, k.2, subst (λ z. m L.budget ≡ done z k.1 k.2) w.0 k.3),
              more y.0 y.1,
              only_one ((x, v) ∷ y.0) σ (has_when (may_add y.0 x v) (answer ((x, v) ∷ y.0) no_more) σ y.2).1,
              (has_when (may_add y.0 x v) (answer ((x, v) ∷ y.0) no_more) σ y.2).0,
            )

    values_for : (defs : List StratDef) (gs : List Assign) (σ : Binding) → Assigned P L q ρ gs σ → (vs : List Tree) × AreValues P L defs ρ (terms_of gs) vs
    values_for defs [] σ a = ([], refl)
    values_for defs (g ∷ gs) σ a = let r = values_for defs gs a.2 a.6 in (a.1 ∷ r.0, (a.1, r.0, a.4, r.1, refl))

    same_value : (t v w : Tree) → Evaluates P L t v → Evaluates P L t w → v ≡ w
    same_value t v w a b = (one_done v w a.0 b.0 a.1 b.1 (sym a.2 ∙ b.2)).0

    into_assigned : (defs : List StratDef) (gs : List Assign) (vs : List Tree) (σ : Binding) → AreValues P L defs ρ (terms_of gs) vs → IsWhole (assigned P L q.vars gs vs) → Assigned P L q ρ gs σ → Has σ (assigned P L q.vars gs vs)
    into_assigned defs [] [] σ a w e = inl e
    into_assigned defs [] (v ∷ vs) σ a w e = absurd (not_nil v vs a)
    into_assigned defs (g ∷ gs) [] σ a w e = absurd (not_cons a.0 a.1 a.4)
    into_assigned defs (g ∷ gs) (v ∷ vs) σ a w e = by (λ u. into_assigned defs gs vs e.2 (subst (AreValues P L defs ρ (terms_of gs)) (sym (heads_rest v a.0 vs a.1 a.4)) a.3) u e.6) (place_of g) refl w
      where
        by : (IsWhole (assigned P L q.vars gs vs) → Has e.2 (assigned P L q.vars gs vs)) → (o : Option Variable) → place_of g ≡ o → IsWhole (assigned_by v (assigned P L q.vars gs vs) o) → Has σ (assigned_by v (assigned P L q.vars gs vs) o)
        by more None d u = absurd (none_some e.0 (sym d ∙ e.3))
        by more (Some x) d u =
            let rest = assigned P L q.vars gs vs in
            let m = have_sorts L.level.sorts (x ∷ []) (v ∷ []) in
            let x1 : x ≡ e.0 = some_one x e.0 (sym d ∙ e.3) in
            let v1 : v ≡ e.1 = heads v a.0 vs a.1 a.4 ∙ same_value (instance (look_up ρ) g.term) a.0 e.1 a.2 e.4 in
            let hs : m L.budget ≡ done true (e.5).0 (e.5).1 = subst (λ z. have_sorts L.level.sorts (z ∷ []) (v ∷ []) L.budget ≡ done true (e.5).0 (e.5).1) (sym x1) (subst (λ z. have_sorts L.level.sorts (e.0 ∷ []) (z ∷ []) L.budget ≡ done true (e.5).0 (e.5).1) (sym v1) (e.5).2) in
            let w1 = whole_asking L.budget m (rest_of x v rest) true (e.5).0 (e.5).1 hs u in
            let a1 : may_add e.2 x v ≡ true = ap₂ (λ y z. may_add e.2 y z) x1 v1 ∙ e.8 in
            let i : Has σ (put_at x v e.2) = into_when (may_add e.2 x v) (answer ((x, v) ∷ e.2) no_more) σ a1 (inl (e.7 ∙ ap₂ (λ y z. (y, z) ∷ e.2) (sym x1) (sym v1))) in
            into_asking L.budget m (rest_of x v rest) true (e.5).0 (e.5).1 σ hs (into_each (put_at x v) rest e.2 σ w1 (more (whole_each (put_at x v) rest w1)) i)

  assign_ends : (defs : List StratDef) (ρ : Binding) (gs : List Assign) → SomeAssignEnds P L ρ gs → SomeArgumentEnds P L defs ρ (terms_of gs)
  assign_ends defs ρ [] h = h
  assign_ends defs ρ (g ∷ gs) (inl h) = inl h
  assign_ends defs ρ (g ∷ gs) (inr h) = inr (assign_ends defs ρ gs h)

  -- ---- rules at places

  may-use : (q : Rule) (σ : Binding) → IsIn q P.rules → not (has_reach q.cond) ≡ true → may_use q σ ≡ true → MayUse P L q σ
  may-use q σ i p h = record { listed = i; plain = not_true (has_reach q.cond) p; determines = by q.exec refl h }
    where
      by : (b : Bool) → q.exec ≡ b → (b || binds_all (determined q σ) q.vars 0) ≡ true → (q.exec ≡ true) ⊎ (binds_all (determined q σ) q.vars 0 ≡ true)
      by true e i = inl e
      by false e i = inr i

  use-may : (q : Rule) (σ : Binding) → MayUse P L q σ → may_use q σ ≡ true
  use-may q σ m = by m.determines
    where
      by : (q.exec ≡ true) ⊎ (binds_all (determined q σ) q.vars 0 ≡ true) → may_use q σ ≡ true
      by (inl e) = ap (λ b. b || binds_all (determined q σ) q.vars 0) e
      by (inr e) = ap (λ b. q.exec || b) e ∙ or_true q.exec

  plain_true : (q : Rule) → has_reach q.cond ≡ false → not (has_reach q.cond) ≡ true
  plain_true q h = ap not h

  module _ (places : Tree → List Place) where
    -- a rule at a place: what its list holds
    pub from_any : (t u : Tree) → Has u (any_results P L places t) → (with_any P L places).sat t u
    from_any t u h =
        let s = has_each (any_place P L) (answers_of (places t)) u h in
        let q = has_each (any_rule P L s.0) (answers_of P.rules) u s.2 in
        let r = has_when (not (has_reach (q.0).cond)) (if_used P L q.0 s.0 []) u q.2 in
        let m = has_when (may_use q.0 []) (rewrites_by P L q.0 [] s.0) u r.1 in
        (q.0, [], s.0, may-use q.0 [] (has_list q.0 P.rules q.1) r.0 m.0, refl, has_list s.0 (places t) s.1, from_rewrites q.0 [] s.0 u m.1)

    whole_any : (t : Tree) → IsWhole (any_results P L places t) → (q : Rule) (s : Place) → MayUse P L q [] → IsIn s (places t) → IsWhole (rewrites_by P L q [] s)
    whole_any t w q s m i =
        let w1 = whole_at (any_place P L) (answers_of (places t)) w s (list_has s (places t) i) in
        let w2 = whole_at (any_rule P L s) (answers_of P.rules) w1 q (list_has q P.rules m.listed) in
        let w3 = whole_when (not (has_reach q.cond)) (if_used P L q s []) (plain_true q m.plain) w2 in
        whole_when (may_use q []) (rewrites_by P L q [] s) (use-may q [] m) w3

    pub into_any : (t u : Tree) → IsWhole (any_results P L places t) → (with_any P L places).sat t u → Has u (any_results P L places t)
    into_any t u w h =
        let q = h.0 in
        let s = h.2 in
        let m = subst (MayUse P L q) h.4 h.3 in
        let w1 = whole_at (any_place P L) (answers_of (places t)) w s (list_has s (places t) h.5) in
        let r = subst (λ z. Rewrites P L q z s u) h.4 h.6 in
        into_each (any_place P L) (answers_of (places t)) s u w (list_has s (places t) h.5)
        (into_each (any_rule P L s) (answers_of P.rules) q u w1 (list_has q P.rules m.listed)
        (into_when (not (has_reach q.cond)) (if_used P L q s []) u (plain_true q m.plain)
        (into_when (may_use q []) (rewrites_by P L q [] s) u (use-may q [] m) (into_rewrites q [] s u (whole_any t w q s m h.5) r))))

    pub any_goes : (t : Tree) → IsWhole (any_results P L places t) → (with_any P L places).cut t → ⊥
    any_goes t w h = rewrites_go h.0 [] h.2 (whole_any t w h.0 h.2 (subst (MayUse P L h.0) h.4 h.3) h.5) (subst (λ z. RewritingEnds P L h.0 z h.2) h.4 h.6)

    module _ (defs : List StratDef) (ρ : Binding) (n : List ℕ) (gs : List Assign) where
      abbrev vals : Answers (List Tree)
      vals = values_of P L (assigned_terms ρ gs)

      pub from_labelled : (t u : Tree) → Has u (labelled_results P L places ρ n gs t) → (labelled P L places ρ n gs).sat t u
      from_labelled t u h =
          let v = has_each (by_label P L places n gs t) vals u h in
          let s = has_each (labelled_place P L n gs v.0) (answers_of (places t)) u v.2 in
          let q = has_each (labelled_rule P L n gs v.0 s.0) (answers_of P.rules) u s.2 in
          let uses = for_each (if_used P L q.0 s.0) (assigned P L (q.0).vars gs v.0) in
          let e = has_when (is_labelled n (q.0).label) (when (not (has_reach (q.0).cond)) uses) u q.2 in
          let r = has_when (not (has_reach (q.0).cond)) uses u e.1 in
          let b = has_each (if_used P L q.0 s.0) (assigned P L (q.0).vars gs v.0) u r.1 in
          let m = has_when (may_use q.0 b.0) (rewrites_by P L q.0 b.0 s.0) u b.2 in (
            q.0,
            b.0,
            s.0,
            may-use q.0 b.0 (has_list q.0 P.rules q.1) r.0 m.0,
            (labelled-is P L n (q.0).label e.0, from_assigned q.0 ρ defs gs v.0 b.0 (from_values defs ρ (terms_of gs) v.0 v.1) b.1),
            has_list s.0 (places t) s.1,
            from_rewrites q.0 b.0 s.0 u m.1,
          )

      -- where it is whole, the list of each rule at each place is there
      record Inside (t : Tree) (q : Rule) (σ : Binding) (s : Place) : Type 0 where
        vs : List Tree
        has_vs : Has vs vals
        whole_vs : IsWhole (by_label P L places n gs t vs)
        whole_s : IsWhole (labelled_place P L n gs vs s)
        whole_q : IsWhole (for_each (if_used P L q s) (assigned P L q.vars gs vs))
        has_σ : Has σ (assigned P L q.vars gs vs)
        whole_σ : IsWhole (rewrites_by P L q σ s)

      inside : (t : Tree) → IsWhole (labelled_results P L places ρ n gs t) → (q : Rule) (σ : Binding) (s : Place) → MayUse P L q σ → q.label ≡ Some n → Assigned P L q ρ gs σ → IsIn s (places t) → Inside t q σ s
      inside t w q σ s m e b i =
          let vw = whole_each (by_label P L places n gs t) vals w in
          let v = values_for q ρ defs gs σ b in
          let hv = into_values defs ρ (terms_of gs) v.0 vw v.1 in
          let w1 = whole_at (by_label P L places n gs t) vals w v.0 hv in
          let w2 = whole_at (labelled_place P L n gs v.0) (answers_of (places t)) w1 s (list_has s (places t) i) in
          let w3 = whole_at (labelled_rule P L n gs v.0 s) (answers_of P.rules) w2 q (list_has q P.rules m.listed) in
          let uses = for_each (if_used P L q s) (assigned P L q.vars gs v.0) in
          let w4 = whole_when (is_labelled n q.label) (when (not (has_reach q.cond)) uses) (is-labelled P L n q.label e) w3 in
          let w5 = whole_when (not (has_reach q.cond)) uses (plain_true q m.plain) w4 in
          let hσ = into_assigned q ρ defs gs v.0 σ v.1 (whole_each (if_used P L q s) (assigned P L q.vars gs v.0) w5) b in
          let w6 = whole_at (if_used P L q s) (assigned P L q.vars gs v.0) w5 σ hσ in
          record { vs = v.0; has_vs = hv; whole_vs = w1; whole_s = w2; whole_q = w5; has_σ = hσ; whole_σ = whole_when (may_use q σ) (rewrites_by P L q σ s) (use-may q σ m) w6 }

      pub into_labelled : (t u : Tree) → IsWhole (labelled_results P L places ρ n gs t) → (labelled P L places ρ n gs).sat t u → Has u (labelled_results P L places ρ n gs t)
      into_labelled t u w h =
          let q = h.0 in
          let σ = h.1 in
          let s = h.2 in
          let k = inside t w q σ s h.3 (h.4).0 (h.4).1 h.5 in
          let uses = for_each (if_used P L q s) (assigned P L q.vars gs k.vs) in
          into_each (by_label P L places n gs t) vals k.vs u w k.has_vs
          (into_each (labelled_place P L n gs k.vs) (answers_of (places t)) s u k.whole_vs (list_has s (places t) h.5)
          (into_each (labelled_rule P L n gs k.vs s) (answers_of P.rules) q u k.whole_s (list_has q P.rules (h.3).listed)
          (into_when (is_labelled n q.label) (when (not (has_reach q.cond)) uses) u (is-labelled P L n q.label (h.4).0)
          (into_when (not (has_reach q.cond)) uses u (plain_true q (h.3).plain)
          (into_each (if_used P L q s) (assigned P L q.vars gs k.vs) σ u k.whole_q k.has_σ
          (into_when (may_use q σ) (rewrites_by P L q σ s) u (use-may q σ h.3) (into_rewrites q σ s u k.whole_σ h.6)))))))

      pub labelled_goes : (t : Tree) → IsWhole (labelled_results P L places ρ n gs t) → (labelled P L places ρ n gs).cut t → ⊥
      labelled_goes t w (inl h) = values_go ρ (terms_of gs) (whole_each (by_label P L places n gs t) vals w) defs (assign_ends defs ρ gs h)
      labelled_goes t w (inr h) = rewrites_go h.0 h.1 h.2 (inside t w h.0 h.1 h.2 h.3 (h.4).0 (h.4).1 h.5).whole_σ h.6
