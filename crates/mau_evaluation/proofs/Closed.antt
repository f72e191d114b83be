-- The closed list: where all successors are listed, each entry's first strategy is exhausted.
use Rattle.std.proofs.Common.{◌≡◌, ℕ, zero, suc, List, [], ◌∷◌, map, inl, inr, sym, subst}
use Rattle.mau_terms.specs.Tree.{Tree}
use Rattle.mau_terms.specs.Finite.{IsIn}
use Rattle.mau_evaluation.specs.Program.{Program}
use Rattle.mau_evaluation.specs.Evaluation.{Binding}
use Rattle.mau_evaluation.specs.Engine.{Engine}
use Rattle.mau_evaluation.specs.Strategy.{Strategy, idle, fail, every_rule, label, top_only, call, test, star, plus, to_normal, in_turn, either, or_else, branch, negation, attempt, test_of, part_rewrite, label_by, StratDef}
use Rattle.mau_evaluation.specs.Satisfies.{Chain, none_more, one_more, HasNone, Sat, Cut}
use Rattle.mau_evaluation.specs.Configs.{Todo, Frame, Config, with_form, on, inside, means, LeafNext, NextBy}
use Rattle.mau_evaluation.specs.ClosedLists.{AllListed, EndsWith, IsClosedWithin, LeavesAreRight, IsExhausted}

module _ (P : Program) (L : Engine) (defs : List StratDef) (leaf : Todo → Tree → List Tree → Type 0) (bodies : Todo → Tree → List Todo → Type 0) where
  abbrev Listed : List Config → List Config → Type 0
  Listed cs seen = AllListed P L defs leaf bodies cs seen

  abbrev Exhausted : List Config → Todo → Tree → List Todo → List Frame → Type 0
  Exhausted seen d t ds xs = IsExhausted P L defs leaf bodies seen d t ds xs

  module _ (right : LeavesAreRight P L defs leaf bodies) (seen : List Config) (zs : List Frame) (closed : IsClosedWithin P L defs leaf bodies zs seen) where
    listed_map : {A : Type 0} (f : A → Config) (us : List A) → Listed (map f us) seen → (u : A) → IsIn u us → IsIn (f u) seen
    listed_map f [] h u i = absurd i
    listed_map f (v ∷ us) h u (inl e) = subst (λ w. IsIn (f w) seen) (sym e) h.0
    listed_map f (v ∷ us) h u (inr i) = listed_map f us h.1 u i

    -- the listed successors, by an equation for them
    all_of : (cs ds : List Config) → cs ≡ ds → Listed cs seen → Listed ds seen
    all_of cs ds e h = subst (λ w. Listed w seen) e h

    -- what follows a result of a test stands behind it
    behind_test : (v t : Tree) (d : Todo) (f : Strategy) (ds : List Todo) (xs : List Frame) → EndsWith zs xs → IsIn (on v [] (inside d f t ds ∷ xs)) seen → IsIn (on v (with_form d f ∷ ds) xs) seen
    behind_test v t d f ds xs z i = let c = closed (on v [] (inside d f t ds ∷ xs)) (inr z) i in (all_of c.0 (on v (with_form d f ∷ ds) xs ∷ []) c.1 c.2).0

    module _ (k : ℕ) (ρ : Binding) where
      abbrev here : Strategy → Todo
      here e = record { form = e; calls = k; values = ρ }

      abbrev Works : Strategy → Type 0
      Works e = (t : Tree) (ds : List Todo) (xs : List Frame) → EndsWith zs xs → IsIn (on t (here e ∷ ds) xs) seen → Exhausted seen (here e) t ds xs

      leaf_works : (e : Strategy) → ((t : Tree) (ds : List Todo) (xs : List Frame) (cs : List Config) → NextBy P L defs leaf bodies e t (here e) ds xs cs → LeafNext P L defs leaf bodies t (here e) ds xs cs) → Works e
      leaf_works e n t ds xs w i =
          let c = closed (on t (here e ∷ ds) xs) w i in
          let m = n t ds xs c.0 c.1 in (
            λ v s. listed_map (λ u. on u ds xs) m.0 (all_of c.0 (map (λ u. on u ds xs) m.0) m.2 c.2) v (right.leaf_gives (here e) t m.0 m.1 v s),
            right.leaf_whole (here e) t m.0 m.1,
          )

      turn_works : (e f : Strategy) → Works e → Works f → Works (in_turn e f)
      turn_works e f p q t ds xs w i =
          let c = closed (on t (here (in_turn e f) ∷ ds) xs) w i in
          let a = p t (here f ∷ ds) xs w (all_of c.0 (on t (here e ∷ here f ∷ ds) xs ∷ []) c.1 c.2).0 in
          (λ u s. (q s.0 ds xs w (a.0 s.0 s.1)).0 u s.2, ⊎_cut a)
        where
          ⊎_cut : Exhausted seen (here e) t (here f ∷ ds) xs → (means P L defs leaf bodies (here (in_turn e f))).cut t → ⊥
          ⊎_cut a (inl z) = a.1 z
          ⊎_cut a (inr z) = (q z.0 ds xs w (a.0 z.0 z.1)).1 z.2

      either_works : (e f : Strategy) → Works e → Works f → Works (either e f)
      either_works e f p q t ds xs w i =
          let c = closed (on t (here (either e f) ∷ ds) xs) w i in
          let h = all_of c.0 (on t (here e ∷ ds) xs ∷ on t (here f ∷ ds) xs ∷ []) c.1 c.2 in
          (by (p t ds xs w h.0) (q t ds xs w h.1.0), no (p t ds xs w h.0) (q t ds xs w h.1.0))
        where
          by : Exhausted seen (here e) t ds xs → Exhausted seen (here f) t ds xs → (u : Tree) → (means P L defs leaf bodies (here (either e f))).sat t u → IsIn (on u ds xs) seen
          by a b u (inl s) = a.0 u s
          by a b u (inr s) = b.0 u s

          no : Exhausted seen (here e) t ds xs → Exhausted seen (here f) t ds xs → (means P L defs leaf bodies (here (either e f))).cut t → ⊥
          no a b (inl z) = a.1 z
          no a b (inr z) = b.1 z

      module _ (e : Strategy) (p : Works e) (ds : List Todo) (xs : List Frame) (w : EndsWith zs xs) where
        star_two : (t : Tree) → IsIn (on t (here (star e) ∷ ds) xs) seen → IsIn (on t ds xs) seen × IsIn (on t (here e ∷ here (star e) ∷ ds) xs) seen
        star_two t i = let c = closed (on t (here (star e) ∷ ds) xs) w i in let h = all_of c.0 (on t ds xs ∷ on t (here e ∷ here (star e) ∷ ds) xs ∷ []) c.1 c.2 in (h.0, h.1.0)

        -- a chain's end is listed with the star before it
        along : (t u : Tree) → Chain (means P L defs leaf bodies (here e)).sat t u → IsIn (on t (here (star e) ∷ ds) xs) seen → IsIn (on u (here (star e) ∷ ds) xs) seen
        along t u none_more i = i
        along t u (one_more {u = v} s r) i = along v u r ((p t (here (star e) ∷ ds) xs w (star_two t i).1).0 v s)

      star_works : (e : Strategy) → Works e → Works (star e)
      star_works e p t ds xs w i = (
        λ u s. (star_two e p ds xs w u (along e p ds xs w t u s i)).0,
        λ z. (p z.0 (here (star e) ∷ ds) xs w (star_two e p ds xs w z.0 (along e p ds xs w t z.0 z.1 i)).1).1 z.2,
      )

      branch_works : (e f g : Strategy) → Works e → Works f → Works g → Works (branch e f g)
      branch_works e f g p q r t ds xs w i = let c = closed (on t (here (branch e f g) ∷ ds) xs) w i in by c.0 c.1 c.2
        where
          first : Exhausted seen (here e) t [] (inside (here (branch e f g)) f t ds ∷ xs) → (v : Tree) → Sat P L defs k ρ e t v → Exhausted seen (here f) v ds xs
          first a v s = q v ds xs w (behind_test v t (here (branch e f g)) f ds xs w (a.0 v s))

          some : Exhausted seen (here e) t [] (inside (here (branch e f g)) f t ds ∷ xs) → (HasNone (means P L defs leaf bodies (here e)) t → Exhausted seen (here g) t ds xs) → Exhausted seen (here (branch e f g)) t ds xs
          some a b = (sat, cut)
            where
              sat : (u : Tree) → Sat P L defs k ρ (branch e f g) t u → IsIn (on u ds xs) seen
              sat u (inl s) = (first a s.0 s.1).0 u s.2
              sat u (inr s) = (b s.0).0 u s.2

              cut : Cut P L defs k ρ (branch e f g) t → ⊥
              cut (inl z) = a.1 z
              cut (inr (inl z)) = (first a z.0 z.1).1 z.2
              cut (inr (inr z)) = (b z.0).1 z.1

          by : (cs : List Config) → NextBy P L defs leaf bodies (branch e f g) t (here (branch e f g)) ds xs cs → Listed cs seen → Exhausted seen (here (branch e f g)) t ds xs
          by cs (inl n) h =
              let m = all_of cs (on t (here e ∷ []) (inside (here (branch e f g)) f t ds ∷ xs) ∷ []) n.2 h in
              some (p t [] (inside (here (branch e f g)) f t ds ∷ xs) (inr w) m.0) (λ z. absurd (z n.0 n.1))
          by cs (inr n) h =
              let m = all_of cs (on t (here e ∷ []) (inside (here (branch e f g)) f t ds ∷ xs) ∷ on t (here g ∷ ds) xs ∷ []) n.2 h in
              some (p t [] (inside (here (branch e f g)) f t ds ∷ xs) (inr w) m.0) (λ z. r t ds xs w m.1.0)

      -- a form by its equation
      by_works : (e f : Strategy) → ((t : Tree) (ds : List Todo) (xs : List Frame) (cs : List Config) → NextBy P L defs leaf bodies e t (here e) ds xs cs → cs ≡ on t (here f ∷ ds) xs ∷ []) →
          ((t : Tree) (ds : List Todo) (xs : List Frame) → Exhausted seen (here f) t ds xs → Exhausted seen (here e) t ds xs) → Works f → Works e
      by_works e f n m p t ds xs w i =
          let c = closed (on t (here e ∷ ds) xs) w i in m t ds xs (p t ds xs w (all_of c.0 (on t (here f ∷ ds) xs ∷ []) (n t ds xs c.0 c.1) c.2).0)

      idle_works : Works idle
      idle_works = leaf_works idle (λ t ds xs cs n. n)

      fail_works : Works fail
      fail_works = leaf_works fail (λ t ds xs cs n. n)

      module _ (calls_work : (n : List ℕ) (ts : List Tree) → Works (call n ts)) where
        works : (e : Strategy) → Works e
        works idle = idle_works
        works fail = fail_works
        works every_rule = leaf_works every_rule (λ t ds xs cs n. n)
        works (label n gs) = leaf_works (label n gs) (λ t ds xs cs m. m)
        works (top_only e) = leaf_works (top_only e) (λ t ds xs cs n. n)
        works (call n ts) = calls_work n ts
        works (test j q c) = leaf_works (test j q c) (λ t ds xs cs n. n)
        works (part_rewrite j q c us) = leaf_works (part_rewrite j q c us) (λ t ds xs cs n. n)
        works (label_by n gs es) = leaf_works (label_by n gs es) (λ t ds xs cs m. m)
        works (star e) = star_works e (works e)
        works (plus e) = by_works (plus e) (in_turn e (star e)) (λ t ds xs cs n. n) (λ t ds xs x. x) (turn_works e (star e) (works e) (star_works e (works e)))
        works (to_normal e) =
            by_works (to_normal e) (in_turn (star e) (negation e)) (λ t ds xs cs n. n) (λ t ds xs x. x)
            (turn_works (star e) (negation e) (star_works e (works e)) (by_works (negation e) (branch e fail idle) (λ t ds xs cs n. n) (λ t ds xs x. x) (branch_works e fail idle (works e) fail_works idle_works)))
        works (in_turn e f) = turn_works e f (works e) (works f)
        works (either e f) = either_works e f (works e) (works f)
        works (or_else e f) = by_works (or_else e f) (branch e idle f) (λ t ds xs cs n. n) (λ t ds xs x. x) (branch_works e idle f (works e) idle_works (works f))
        works (branch e f g) = branch_works e f g (works e) (works f) (works g)
        works (negation e) = by_works (negation e) (branch e fail idle) (λ t ds xs cs n. n) (λ t ds xs x. x) (branch_works e fail idle (works e) fail_works idle_works)
        works (attempt e) = by_works (attempt e) (branch e idle idle) (λ t ds xs cs n. n) (λ t ds xs x. x) (branch_works e idle idle (works e) idle_works idle_works)
        works (test_of e) =
            by_works (test_of e) (branch (negation e) fail idle) (λ t ds xs cs n. n) (λ t ds xs x. x)
            (branch_works (negation e) fail idle (by_works (negation e) (branch e fail idle) (λ t ds xs cs n. n) (λ t ds xs x. x) (branch_works e fail idle (works e) fail_works idle_works)) fail_works idle_works)

    all_work : (k : ℕ) (ρ : Binding) (e : Strategy) → Works k ρ e
    all_work zero ρ e = works zero ρ (λ n ts t ds xs w i. let c = closed (on t (here zero ρ (call n ts) ∷ ds) xs) w i in absurd (right.call_left n ts ρ t c.1.0 c.1.1)) e
    all_work (suc k) ρ e = works (suc k) ρ (calls (λ σ f. all_work k σ f)) e
      where
        calls : ((σ : Binding) (f : Strategy) → Works k σ f) → (n : List ℕ) (ts : List Tree) → Works (suc k) ρ (call n ts)
        calls ih n ts t ds xs w i =
            let c = closed (on t (here (suc k) ρ (call n ts) ∷ ds) xs) w i in
            let h = all_of c.0 (map (λ b. on t (b ∷ ds) xs) c.1.0) c.1.2 c.2 in (
              λ u s. let m = right.call_gives n ts ρ k t c.1.0 c.1.1 u s in (ih m.1 m.0 t ds xs w (listed_map (λ b. on t (b ∷ ds) xs) c.1.0 h (here k m.1 m.0) m.2)).0 u m.3,
              λ z. let m = right.call_whole n ts ρ k t c.1.0 c.1.1 z in (ih m.1 m.0 t ds xs w (listed_map (λ b. on t (b ∷ ds) xs) c.1.0 h (here k m.1 m.0) m.2)).1 m.3,
            )

  -- in a list that holds all successors of its entries each entry's first strategy is exhausted
  pub closed_lists_exhaust : LeavesAreRight P L defs leaf bodies → (seen : List Config) (zs : List Frame) → IsClosedWithin P L defs leaf bodies zs seen →
      (t : Tree) (d : Todo) (ds : List Todo) (xs : List Frame) → EndsWith zs xs → IsIn (on t (d ∷ ds) xs) seen → IsExhausted P L defs leaf bodies seen d t ds xs
  closed_lists_exhaust right seen zs closed t d ds xs w i = all_work right seen zs closed d.calls d.values d.form t ds xs w i
