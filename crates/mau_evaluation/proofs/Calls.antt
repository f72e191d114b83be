-- The ordered lists of tests and of bodies hold just what satisfies them.
use Rattle.std.proofs.Common.{◌≡◌, ℕ, List, [], ◌∷◌, map, Bool, true, false, Option, Some, None, inl, inr, refl, sym, ◌∙◌, ap, subst}
use Rattle.mau_terms.specs.Tree.{Tree}
use Rattle.mau_terms.specs.Subst.{variables, instance}
use Rattle.mau_terms.specs.Finite.{IsIn}
use Rattle.mau_terms.proofs.Finite.{in_each_of}
use Rattle.mau_evaluation.specs.Run.{Outcome, done, ended, Run}
use Rattle.mau_evaluation.specs.Program.{Fragment, Program}
use Rattle.mau_evaluation.specs.Listing.{Solution, solutions}
use Rattle.mau_evaluation.specs.Evaluation.{Binding, look_up, extend, agree, have_sorts}
use Rattle.mau_evaluation.specs.Engine.{Engine}
use Rattle.mau_evaluation.specs.Rules.{Shows, AskingEnds}
use Rattle.mau_evaluation.specs.Strategy.{TestKind, StratDef}
use Rattle.mau_evaluation.specs.Satisfies.{same_name, test_places, listed_for, candidates_for, IsTried, IsSkipped, EndsFirst, tested, SomeArgumentEnds, Match, Called}
use Rattle.mau_evaluation.specs.Configs.{Todo}
use Rattle.mau_evaluation.specs.Answers.{Answers, no_more, answer, answers_of, for_each, asking, from_outcome, when, FirstBy}
use Rattle.mau_evaluation.specs.OrderedLists.{shown, asked, values_of, or_next, holding, first_holding, argument_at, argument_solutions, body_for, bodies_at, bodies_in, bodies_by, bodies_of, AsksFirst}
use Rattle.mau_evaluation.proofs.Listed.{from_each_of}
use Rattle.mau_evaluation.proofs.Each.{Has, IsWhole, has_list, list_has, has_each, into_each, whole_each, whole_at, has_asking, into_asking, whole_asking, asking_gives, has_when, into_when, whole_when}
use Rattle.mau_evaluation.proofs.Shown.{from_shown, into_shown, shows_asked, asked_shows, asked_goes}
use Rattle.mau_evaluation.proofs.Leaves.{same_name-is, same_name_itself, from_values, into_values, values_go}

module _ (P : Program) (L : Engine) (asks : AsksFirst P L) where
  module _ (p : Tree) (c : List Fragment) (ρ : Binding) (t : Tree) where
    abbrev after : Solution → Binding
    after x = extend ρ (variables p) x.values

    abbrev sorts_at : Solution → Run Bool
    sorts_at x = have_sorts L.level.sorts (variables p) x.values

    abbrev asked_at : Solution → Answers Tree → Answers Tree
    asked_at x rest = asking L.budget (L.ask c (after x)) (holding t rest)

    abbrev sorted_at : Solution → Answers Tree → Bool → Answers Tree
    sorted_at x rest ok = or_next ok rest (asked_at x rest)

    abbrev at_one : Solution → Answers Tree → Answers Tree
    at_one x rest = asking L.budget (sorts_at x) (sorted_at x rest)

    abbrev agrees : Solution → Bool
    agrees x = agree P.sign.theory ρ (variables p) x.values

    abbrev tests : List Solution → Answers Tree
    tests xs = first_holding P L p c ρ t xs

    abbrev Found : List Solution → Type 0
    Found xs = (x : Solution) × (σ : Binding) × IsIn x xs × IsTried P L p ρ x × Shows P L c (after x) σ

    -- what the asking says of the condition
    answered_shows : (x : Solution) (σ : Binding) (r b : ℕ) → L.ask c (after x) L.budget ≡ done (Some σ) r b → Shows P L c (after x) σ
    answered_shows x σ r b e =
        let f = subst (λ o. FirstBy o (shown P L c (after x))) e (asks c (after x)) in
        from_shown P L c (after x) σ (subst (Has σ) (sym f.1) (inl refl))

    asked_none : (x : Solution) (r b : ℕ) → L.ask c (after x) L.budget ≡ done None r b → (σ : Binding) → Shows P L c (after x) σ → ⊥
    asked_none x r b e σ s =
        let f : shown P L c (after x) ≡ no_more = subst (λ o. FirstBy o (shown P L c (after x))) e (asks c (after x)) in
        let h : Has σ no_more = subst (Has σ) f (into_shown P L c (after x) σ (subst IsWhole (sym f) tt) s) in h

    from_test : (xs : List Solution) (u : Tree) → Has u (tests xs) → (u ≡ t) × Found xs
    from_test [] u h = absurd h
    from_test (x ∷ xs) u h = by_agree (from_test xs u) (agrees x) refl h
      where
        later : (u ≡ t) × Found xs → (u ≡ t) × Found (x ∷ xs)
        later f = (f.0, (f.1.0, f.1.1, inr f.1.2, f.1.3, f.1.4))

        by_answer : (Has u (tests xs) → (u ≡ t) × Found xs) → IsTried P L p ρ x → (o : Option Binding) (r b : ℕ) → L.ask c (after x) L.budget ≡ done o r b → Has u (holding t (tests xs) o) → (u ≡ t) × Found (x ∷ xs)
        by_answer more a None r b e i = later (more i)
        by_answer more a (Some σ) r b e (inl q) = (q, (x, σ, inl refl, a, answered_shows x σ r b e))
        by_answer more a (Some σ) r b e (inr q) = absurd q

        by_sorts : (Has u (tests xs) → (u ≡ t) × Found xs) → agrees x ≡ true → (ok : Bool) (r b : ℕ) → sorts_at x L.budget ≡ done ok r b → Has u (sorted_at x (tests xs) ok) → (u ≡ t) × Found (x ∷ xs)
        by_sorts more g false r b e i = later (more i)
        by_sorts more g true r b e i = let k = has_asking L.budget (L.ask c (after x)) (holding t (tests xs)) u i in by_answer more (g, (r, b, e)) k.0 k.1 k.2 k.3 k.4

        by_agree : (Has u (tests xs) → (u ≡ t) × Found xs) → (ok : Bool) → agrees x ≡ ok → Has u (or_next ok (tests xs) (at_one x (tests xs))) → (u ≡ t) × Found (x ∷ xs)
        by_agree more false g i = later (more i)
        by_agree more true g i = let k = has_asking L.budget (sorts_at x) (sorted_at x (tests xs)) u i in by_sorts more g k.0 k.1 k.2 k.3 k.4

    -- what stands behind one that doesn't hold
    into_test : (xs : List Solution) → IsWhole (tests xs) → Found xs → Has t (tests xs)
    into_test [] w f = absurd f.2
    into_test (x ∷ xs) w f = by_agree (λ v i. into_test xs v (f.0, f.1, i, f.3, f.4)) (agrees x) refl w
      where
        -- either found at x or behind it
        by_answer : ((IsWhole (tests xs)) → IsIn f.0 xs → Has t (tests xs)) → (o : Option Binding) (r b : ℕ) → L.ask c (after x) L.budget ≡ done o r b → IsIn f.0 (x ∷ xs) → IsWhole (holding t (tests xs) o) → Has t (holding t (tests xs) o)
        by_answer more (Some σ) r b e i v = inl refl
        by_answer more None r b e (inl q) v = absurd (asked_none x r b e f.1 (subst (λ z. Shows P L c (after z) f.1) q f.4))
        by_answer more None r b e (inr i) v = more v i

        on_answer : ((IsWhole (tests xs)) → IsIn f.0 xs → Has t (tests xs)) → (o : Outcome (Option Binding)) → L.ask c (after x) L.budget ≡ o → IsWhole (from_outcome (holding t (tests xs)) o) → Has t (from_outcome (holding t (tests xs)) o)
        on_answer more (done o r b) e v = by_answer more o r b e f.2 v
        on_answer more (ended z) e v = absurd v

        no_such : (r b r' b' : ℕ) → done true r b ≡ done false r' b' → ⊥
        no_such r b r' b' e = cc

        by_sorts : ((IsWhole (tests xs)) → IsIn f.0 xs → Has t (tests xs)) → (ok : Bool) (r b : ℕ) → sorts_at x L.budget ≡ done ok r b → IsIn f.0 (x ∷ xs) → IsWhole (sorted_at x (tests xs) ok) → Has t (sorted_at x (tests xs) ok)
        by_sorts more true r b e i v = on_answer more (L.ask c (after x) L.budget) refl v
        by_sorts more false r b e (inl q) v =
            absurd (no_such ((f.3).1).0 ((f.3).1).1 r b (sym ((f.3).1).2 ∙ (ap (λ z. sorts_at z L.budget) q ∙ e)))
        by_sorts more false r b e (inr i) v = more v i

        on_sorts : ((IsWhole (tests xs)) → IsIn f.0 xs → Has t (tests xs)) → (o : Outcome Bool) → sorts_at x L.budget ≡ o → IsWhole (from_outcome (sorted_at x (tests xs)) o) → Has t (from_outcome (sorted_at x (tests xs)) o)
        on_sorts more (done ok r b) e v = by_sorts more ok r b e f.2 v
        on_sorts more (ended z) e v = absurd v

        true_false : true ≡ false → ⊥
        true_false e = cc

        at_false : ((IsWhole (tests xs)) → IsIn f.0 xs → Has t (tests xs)) → agrees x ≡ false → IsIn f.0 (x ∷ xs) → IsWhole (tests xs) → Has t (tests xs)
        at_false more g (inl q) v = absurd (true_false (sym (f.3).0 ∙ (ap agrees q ∙ g)))
        at_false more g (inr i) v = more v i

        by_agree : ((IsWhole (tests xs)) → IsIn f.0 xs → Has t (tests xs)) → (ok : Bool) → agrees x ≡ ok → IsWhole (or_next ok (tests xs) (at_one x (tests xs))) → Has t (or_next ok (tests xs) (at_one x (tests xs)))
        by_agree more false g v = at_false more g f.2 v
        by_agree more true g v = on_sorts more (sorts_at x L.budget) refl v

    test_goes : (xs : List Solution) → IsWhole (tests xs) → EndsFirst P L p c ρ xs → ⊥
    test_goes [] w h = h
    test_goes (x ∷ xs) w h = on_end (λ v i. test_goes xs v i) h
      where
        at_asked : IsTried P L p ρ x → IsWhole (asked_at x (tests xs))
        at_asked a =
            let w1 = subst (λ ok. IsWhole (or_next ok (tests xs) (at_one x (tests xs)))) a.0 w in
            whole_asking L.budget (sorts_at x) (sorted_at x (tests xs)) true (a.1).0 (a.1).1 (a.1).2 w1

        skipped : IsSkipped P L p ρ x → IsWhole (tests xs)
        skipped (inl g) = subst (λ ok. IsWhole (or_next ok (tests xs) (at_one x (tests xs)))) g w
        skipped (inr g) = on (agrees x) w
          where
            on : (ok : Bool) → IsWhole (or_next ok (tests xs) (at_one x (tests xs))) → IsWhole (tests xs)
            on true v = whole_asking L.budget (sorts_at x) (sorted_at x (tests xs)) false g.0 g.1 g.2 v
            on false v = v

        on_end : (IsWhole (tests xs) → EndsFirst P L p c ρ xs → ⊥) → EndsFirst P L p c ρ (x ∷ xs) → ⊥
        on_end more (inl e) = asking_gives L.budget (L.ask c (after x)) (holding t (tests xs)) (at_asked e.0) (e.1).0 (e.1).1
        on_end more (inr (inl e)) = more (whole_asking L.budget (L.ask c (after x)) (holding t (tests xs)) None (e.1).0 (e.1).1 (e.1).2 (at_asked e.0)) e.2
        on_end more (inr (inr e)) = more (skipped e.0) e.1

  module _ (k : TestKind) (p : Tree) (c : List Fragment) (ρ : Binding) (t : Tree) where
    pub from_tested : (u : Tree) → Has u (first_holding P L p c ρ t (candidates_for P k p t)) → (tested P L k p c ρ).sat t u
    from_tested u h =
        let f = from_test p c ρ t (candidates_for P k p t) u h in
        let s = from_each_of (λ s. listed_for P k p s.term) (test_places k t) f.1.0 f.1.2 in
        (f.0, (s.0, f.1.0, f.1.1, s.1, s.2, (f.1.3).0, (f.1.3).1, f.1.4))

    pub into_tested : (u : Tree) → IsWhole (first_holding P L p c ρ t (candidates_for P k p t)) → (tested P L k p c ρ).sat t u → Has u (first_holding P L p c ρ t (candidates_for P k p t))
    into_tested u w h =
        let g = h.1 in
        let i = in_each_of (λ s. listed_for P k p s.term) g.0 (test_places k t) g.1 g.3 g.4 in
        subst (λ z. Has z (first_holding P L p c ρ t (candidates_for P k p t))) (sym h.0) (into_test p c ρ t (candidates_for P k p t) w (g.1, g.2, i, (g.5, g.6), g.7))

    pub tested_goes : IsWhole (first_holding P L p c ρ t (candidates_for P k p t)) → (tested P L k p c ρ).cut t → ⊥
    tested_goes w h = test_goes p c ρ t (candidates_for P k p t) w h

module _ (P : Program) (L : Engine) (defs : List StratDef) where
  abbrev at_argument : Tree → List Tree → List Tree → Binding → Solution → Answers Binding
  at_argument p ps vs σ x = argument_at P L p σ x (argument_solutions P L ps vs (extend σ (variables p) x.values))

  abbrev sorted_argument : Tree → Answers Binding → Bool → Answers Binding
  sorted_argument p rest ok = when ok rest

  from_arguments : (ps vs : List Tree) (σ σ' : Binding) → Has σ' (argument_solutions P L ps vs σ) → Match P L defs ps vs σ σ'
  from_arguments [] [] σ σ' (inl e) = e
  from_arguments [] [] σ σ' (inr h) = absurd h
  from_arguments [] (v ∷ vs) σ σ' h = h
  from_arguments (p ∷ ps) [] σ σ' h = h
  from_arguments (p ∷ ps) (v ∷ vs) σ σ' h =
      let x = has_each (at_argument p ps vs σ) (answers_of (solutions P.sign p v)) σ' h in
      let rest = argument_solutions P L ps vs (extend σ (variables p) (x.0).values) in
      let m = have_sorts L.level.sorts (variables p) (x.0).values in
      let g = has_when (agree P.sign.theory σ (variables p) (x.0).values) (asking L.budget m (sorted_argument p rest)) σ' x.2 in
      let k = has_asking L.budget m (sorted_argument p rest) σ' g.1 in
      let o = has_when k.0 rest σ' k.4 in
      (x.0, has_list x.0 (solutions P.sign p v) x.1, g.0, (k.1, k.2, subst (λ z. m L.budget ≡ done z k.1 k.2) o.0 k.3), from_arguments ps vs (extend σ (variables p) (x.0).values) σ' o.1)

  into_arguments : (ps vs : List Tree) (σ σ' : Binding) → IsWhole (argument_solutions P L ps vs σ) → Match P L defs ps vs σ σ' → Has σ' (argument_solutions P L ps vs σ)
  into_arguments [] [] σ σ' w e = inl e
  into_arguments [] (v ∷ vs) σ σ' w h = h
  into_arguments (p ∷ ps) [] σ σ' w h = h
  into_arguments (p ∷ ps) (v ∷ vs) σ σ' w h =
      let x = h.0 in
      let l = answers_of (solutions P.sign p v) in
      let i = list_has x (solutions P.sign p v) h.1 in
      let rest = argument_solutions P L ps vs (extend σ (variables p) x.values) in
      let m = have_sorts L.level.sorts (variables p) x.values in
      let b = agree P.sign.theory σ (variables p) x.values in
      let w1 = whole_at (at_argument p ps vs σ) l w x i in
      let w2 = whole_when b (asking L.budget m (sorted_argument p rest)) h.2 w1 in
      let w3 = whole_asking L.budget m (sorted_argument p rest) true (h.3).0 (h.3).1 (h.3).2 w2 in
      into_each (at_argument p ps vs σ) l x σ' w i
      (into_when b (asking L.budget m (sorted_argument p rest)) σ' h.2
      (into_asking L.budget m (sorted_argument p rest) true (h.3).0 (h.3).1 σ' (h.3).2 (into_arguments ps vs (extend σ (variables p) x.values) σ' w3 h.4)))

  module _ (k : ℕ) (n : List ℕ) (ts : List Tree) (ρ : Binding) where
    abbrev list : Answers Todo
    list = bodies_of P L defs k ρ n ts

    abbrev vals : Answers (List Tree)
    vals = values_of P L (map (instance (look_up ρ)) ts)

    abbrev of_def : StratDef → Binding → Todo
    of_def d σ = record { form = d.body; calls = k; values = σ }

    -- a body in the list is one of a definition that is called
    pub from_bodies : (b : Todo) → Has b list → (d : StratDef) × (σ : Binding) × (σ' : Binding) × Called P L defs ρ n ts d σ × Shows P L d.cond σ σ' × (b ≡ of_def d σ')
    from_bodies b h =
        let v = has_each (bodies_by P L defs k n) vals b h in
        let d = has_each (bodies_in P L k n v.0) (answers_of defs) b v.2 in
        let e = has_when (same_name (d.0).name n) (for_each (bodies_at P L k d.0) (argument_solutions P L (d.0).args v.0 [])) b d.2 in
        let s = has_each (bodies_at P L k d.0) (argument_solutions P L (d.0).args v.0 []) b e.1 in
        let z = has_each (body_for k d.0) (asked P L (d.0).cond s.0) b s.2 in (
          d.0,
          s.0,
          z.0,
          record { listed = has_list d.0 defs d.1; named = same_name-is (d.0).name n e.0; values = v.0; are_values = from_values P L defs ρ ts v.0 v.1; match = from_arguments (d.0).args v.0 [] s.0 s.1 },
          asked_shows P L (d.0).cond s.0 z.0 z.1,
          only_one (of_def d.0 z.0) z.2,
        )
      where
        only_one : (w : Todo) → Has b (answer w no_more) → b ≡ w
        only_one w (inl e) = e
        only_one w (inr i) = absurd i

    record Inside (d : StratDef) (σ : Binding) (vs : List Tree) : Type 0 where
      has_vs : Has vs vals
      whole_vs : IsWhole (bodies_by P L defs k n vs)
      whole_d : IsWhole (for_each (bodies_at P L k d) (argument_solutions P L d.args vs []))
      has_σ : Has σ (argument_solutions P L d.args vs [])
      whole_σ : IsWhole (for_each (body_for k d) (asked P L d.cond σ))

    named_true : (d : StratDef) → d.name ≡ n → same_name d.name n ≡ true
    named_true d e = subst (λ m. same_name m n ≡ true) (sym e) (same_name_itself n)

    inside : IsWhole list → (d : StratDef) (σ : Binding) (c : Called P L defs ρ n ts d σ) → Inside d σ c.values
    inside w d σ c =
        let hv = into_values P L defs ρ ts c.values (whole_each (bodies_by P L defs k n) vals w) c.are_values in
        let w1 = whole_at (bodies_by P L defs k n) vals w c.values hv in
        let w2 = whole_at (bodies_in P L k n c.values) (answers_of defs) w1 d (list_has d defs c.listed) in
        let w3 = whole_when (same_name d.name n) (for_each (bodies_at P L k d) (argument_solutions P L d.args c.values [])) (named_true d c.named) w2 in
        let hσ = into_arguments d.args c.values [] σ (whole_each (bodies_at P L k d) (argument_solutions P L d.args c.values []) w3) c.match in
        record { has_vs = hv; whole_vs = w1; whole_d = w3; has_σ = hσ; whole_σ = whole_at (bodies_at P L k d) (argument_solutions P L d.args c.values []) w3 σ hσ }

    pub into_bodies : IsWhole list → (d : StratDef) (σ σ' : Binding) → Called P L defs ρ n ts d σ → Shows P L d.cond σ σ' → Has (of_def d σ') list
    into_bodies w d σ σ' c s =
        let a = inside w d σ c in
        let b = of_def d σ' in
        let i = shows_asked P L d.cond σ σ' (whole_each (body_for k d) (asked P L d.cond σ) a.whole_σ) s in
        into_each (bodies_by P L defs k n) vals c.values b w a.has_vs
        (into_each (bodies_in P L k n c.values) (answers_of defs) d b a.whole_vs (list_has d defs c.listed)
        (into_when (same_name d.name n) (for_each (bodies_at P L k d) (argument_solutions P L d.args c.values [])) b (named_true d c.named)
        (into_each (bodies_at P L k d) (argument_solutions P L d.args c.values []) σ b a.whole_d a.has_σ
        (into_each (body_for k d) (asked P L d.cond σ) σ' b a.whole_σ i (inl refl)))))

    pub bodies_go : IsWhole list → (d : StratDef) (σ : Binding) → Called P L defs ρ n ts d σ → AskingEnds P L d.cond σ → ⊥
    bodies_go w d σ c a = asked_goes P L d.cond σ (whole_each (body_for k d) (asked P L d.cond σ) (inside w d σ c).whole_σ) a

    pub values_all_go : IsWhole list → SomeArgumentEnds P L defs ρ ts → ⊥
    values_all_go w a = values_go P L ρ ts (whole_each (bodies_by P L defs k n) vals w) defs a
