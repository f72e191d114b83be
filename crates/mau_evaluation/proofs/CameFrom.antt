-- What an entry may lead to, the entry that it was entered from may lead to.
use Rattle.std.proofs.Common.{◌≡◌, ℕ, List, [], ◌∷◌, map, inl, inr, refl, sym, subst}
use Rattle.mau_terms.specs.Tree.{Tree}
use Rattle.mau_terms.specs.Finite.{IsIn}
use Rattle.mau_evaluation.specs.Program.{Program}
use Rattle.mau_evaluation.specs.Evaluation.{Binding}
use Rattle.mau_evaluation.specs.Engine.{Engine}
use Rattle.mau_evaluation.specs.Strategy.{Strategy, idle, fail, every_rule, label, top_only, call, test, star, plus, to_normal, in_turn, either, or_else, branch, negation, attempt, test_of, part_rewrite, label_by, StratDef}
use Rattle.mau_evaluation.specs.Satisfies.{none_more, one_more, HasNone, Sat}
use Rattle.mau_evaluation.specs.Configs.{Todo, Frame, test_frame, Config, with_form, on, inside, means, LeafNext, NextBy, NextOn}

-- the parts of a frame
abbrev pub opened_by : Frame → Todo
opened_by (test_frame d e t ds) = d

abbrev pub begun_on : Frame → Tree
begun_on (test_frame d e t ds) = t

abbrev pub behind_of : Frame → List Todo
behind_of (test_frame d e t ds) = ds

module _ (P : Program) (L : Engine) (defs : List StratDef) (leaf : Todo → Tree → List Tree → Type 0) (bodies : Todo → Tree → List Todo → Type 0) where
  -- the listed results and bodies lead just to what satisfies the strategy; so it is of first results and bodies too
  pub record LeavesAreSound : Type 0 where
    pub leaf_sound : (d : Todo) (t : Tree) (us : List Tree) → leaf d t us → (u : Tree) → IsIn u us → (means P L defs leaf bodies d).sat t u
    pub call_sound : (d : Todo) (n : List ℕ) (ts : List Tree) → d.form ≡ call n ts → (t : Tree) (bs : List Todo) → bodies d t bs → (b : Todo) → IsIn b bs → (u : Tree) →
        (means P L defs leaf bodies b).sat t u → (means P L defs leaf bodies d).sat t u

  -- what is left to do leads from t to u
  abbrev pub Follow : List Todo → Tree → Tree → Type 0
  Follow [] t u = t ≡ u
  Follow (d ∷ ds) t u = (v : Tree) × (means P L defs leaf bodies d).sat t v × Follow ds v u

  -- what a result inside a frame leads to outside it, before the rest behind it
  abbrev pub Leads : Frame → Tree → Tree → Type 0
  Leads (test_frame d e b ds) v w = (means P L defs leaf bodies e).sat v w

  -- what a configuration may lead to: what is left to do, and then, frame by frame, what stands behind it
  abbrev pub Come : List Frame → List Todo → Tree → Tree → Type 0
  Come [] ds t u = Follow ds t u
  Come (x ∷ xs) ds t u = (v : Tree) × Follow ds t v × (w : Tree) × Leads x v w × Come xs (behind_of x) w u

  abbrev pub sat_of : Todo → Tree → Tree → Type 0
  sat_of d t u = (means P L defs leaf bodies d).sat t u

  pub come_by : (xs : List Frame) (ds es : List Todo) (s t : Tree) → ((w : Tree) → Follow ds s w → Follow es t w) → (u : Tree) → Come xs ds s u → Come xs es t u
  come_by [] ds es s t h u c = h u c
  come_by (x ∷ xs) ds es s t h u c = (c.0, h c.0 c.1, c.2, c.3, c.4)

  first_of_all : (xs : List Frame) (e : Todo) (ds : List Todo) (t u : Tree) → Come xs (e ∷ ds) t u → (w : Tree) × sat_of e t w × Come xs ds w u
  first_of_all [] e ds t u c = c
  first_of_all (x ∷ xs) e ds t u c = (c.1.0, c.1.1, (c.0, c.1.2, c.2, c.3, c.4))

  in_one : (c d : Config) → IsIn c (d ∷ []) → c ≡ d
  in_one c d (inl e) = e
  in_one c d (inr h) = absurd h

  in_mapped : {A : Type 0} (f : A → Config) (xs : List A) (c : Config) → IsIn c (map f xs) → (x : A) × IsIn x xs × (c ≡ f x)
  in_mapped f [] c i = absurd i
  in_mapped f (x ∷ xs) c (inl e) = (x, inl refl, e)
  in_mapped f (x ∷ xs) c (inr i) = let p = in_mapped f xs c i in (p.0, inr p.1, p.2)

  abbrev pub CameFrom : Config → Config → Type 0
  CameFrom c d = (u : Tree) → Come c.frames c.todo c.term u → Come d.frames d.todo d.term u

  module _ (right : LeavesAreSound) where
    from_leaf : (t : Tree) (d : Todo) (ds : List Todo) (xs : List Frame) (cs : List Config) → LeafNext P L defs leaf bodies t d ds xs cs → (c : Config) → IsIn c cs → CameFrom c (on t (d ∷ ds) xs)
    from_leaf t d ds xs cs n c i =
        let p = in_mapped (λ u. on u ds xs) n.0 c (subst (IsIn c) n.2 i) in
        subst (λ z. CameFrom z (on t (d ∷ ds) xs)) (sym p.2) (come_by xs ds (d ∷ ds) p.0 t (λ w f. (p.0, right.leaf_sound d t n.0 n.1 p.0 p.1, f)))

    from_one : (t : Tree) (d : Todo) (e : Strategy) (ds : List Todo) (xs : List Frame) (cs : List Config) → cs ≡ on t (with_form d e ∷ ds) xs ∷ [] → ((w : Tree) → sat_of (with_form d e) t w → sat_of d t w) → (c : Config) → IsIn c cs → CameFrom c (on t (d ∷ ds) xs)
    from_one t d e ds xs cs n h c i =
        subst (λ z. CameFrom z (on t (d ∷ ds) xs)) (sym (in_one c (on t (with_form d e ∷ ds) xs) (subst (IsIn c) n i))) (come_by xs (with_form d e ∷ ds) (d ∷ ds) t t (λ w f. (f.0, h f.0 f.1, f.2)))

    module _ (e f g : Strategy) (k : ℕ) (ρ : Binding) (t : Tree) (ds : List Todo) (xs : List Frame) where
      abbrev d : Todo
      d = record { form = branch e f g; calls = k; values = ρ }

      abbrev to_e : Config
      to_e = on t (with_form d e ∷ []) (inside d f t ds ∷ xs)

      abbrev whole : Config
      whole = on t (d ∷ ds) xs

      pub test_in : CameFrom to_e whole
      test_in u z = come_by xs ds (d ∷ ds) z.2 t (λ a q. (z.2, inl (z.0, subst (λ v. Sat P L defs k ρ e t v) z.1.2 z.1.1, z.3), q)) u z.4

      two : HasNone (means P L defs leaf bodies (with_form d e)) t → ((means P L defs leaf bodies (with_form d e)).cut t → ⊥) → (c : Config) → IsIn c (to_e ∷ on t (with_form d g ∷ ds) xs ∷ []) → CameFrom c whole
      two a b c (inl q) = subst (λ z. CameFrom z whole) (sym q) test_in
      two a b c (inr (inl q)) = subst (λ z. CameFrom z whole) (sym q) (come_by xs (with_form d g ∷ ds) (d ∷ ds) t t (λ w z. (z.0, inr (a, b, z.1), z.2)))
      two a b c (inr (inr q)) = absurd q

      from_branch : (cs : List Config) → NextBy P L defs leaf bodies (branch e f g) t d ds xs cs → (c : Config) → IsIn c cs → CameFrom c whole
      from_branch cs (inl m) c j = subst (λ z. CameFrom z whole) (sym (in_one c to_e (subst (IsIn c) m.2 j))) test_in
      from_branch cs (inr m) c j = two m.0 m.1 c (subst (IsIn c) m.2 j)

    -- at a strategy whose form is known
    from_form : (g : Strategy) (k : ℕ) (ρ : Binding) (t : Tree) (ds : List Todo) (xs : List Frame) (cs : List Config) → NextBy P L defs leaf bodies g t (record { form = g; calls = k; values = ρ }) ds xs cs → (c : Config) → IsIn c cs → CameFrom c (on t (record { form = g; calls = k; values = ρ } ∷ ds) xs)
    from_form idle k ρ t ds xs cs n c i = from_leaf t _ ds xs cs n c i
    from_form fail k ρ t ds xs cs n c i = from_leaf t _ ds xs cs n c i
    from_form every_rule k ρ t ds xs cs n c i = from_leaf t _ ds xs cs n c i
    from_form (label m gs) k ρ t ds xs cs n c i = from_leaf t _ ds xs cs n c i
    from_form (top_only e) k ρ t ds xs cs n c i = from_leaf t _ ds xs cs n c i
    from_form (test j q r) k ρ t ds xs cs n c i = from_leaf t _ ds xs cs n c i
    from_form (part_rewrite j q r us) k ρ t ds xs cs n c i = from_leaf t _ ds xs cs n c i
    from_form (label_by m gs es) k ρ t ds xs cs n c i = from_leaf t _ ds xs cs n c i
    from_form (call m ts) k ρ t ds xs cs n c i =
        let d : Todo = record { form = call m ts; calls = k; values = ρ } in
        let p = in_mapped (λ b. on t (b ∷ ds) xs) n.0 c (subst (IsIn c) n.2 i) in
        subst (λ z. CameFrom z (on t (d ∷ ds) xs)) (sym p.2) (come_by xs (p.0 ∷ ds) (d ∷ ds) t t (λ w f. (f.0, right.call_sound d m ts refl t n.0 n.1 p.0 p.1 f.0 f.1, f.2)))
    from_form (star e) k ρ t ds xs cs n c i = by (subst (IsIn c) n i)
      where
        d : Todo
        d = record { form = star e; calls = k; values = ρ }

        by : IsIn c (on t ds xs ∷ on t (record { form = e; calls = k; values = ρ } ∷ record { form = star e; calls = k; values = ρ } ∷ ds) xs ∷ []) → CameFrom c (on t (record { form = star e; calls = k; values = ρ } ∷ ds) xs)
        by (inl q) = subst (λ z. CameFrom z (on t (record { form = star e; calls = k; values = ρ } ∷ ds) xs)) (sym q) (come_by xs ds (record { form = star e; calls = k; values = ρ } ∷ ds) t t (λ w f. (t, none_more, f)))
        by (inr (inl q)) = subst (λ z. CameFrom z (on t (record { form = star e; calls = k; values = ρ } ∷ ds) xs)) (sym q)
            (come_by xs (record { form = e; calls = k; values = ρ } ∷ record { form = star e; calls = k; values = ρ } ∷ ds) (record { form = star e; calls = k; values = ρ } ∷ ds) t t (λ w f. (f.2.0, one_more f.1 f.2.1, f.2.2)))
        by (inr (inr q)) = absurd q
    from_form (plus e) k ρ t ds xs cs n c i = from_one t (record { form = plus e; calls = k; values = ρ }) (in_turn e (star e)) ds xs cs n (λ w s. s) c i
    from_form (to_normal e) k ρ t ds xs cs n c i = from_one t (record { form = to_normal e; calls = k; values = ρ }) (in_turn (star e) (negation e)) ds xs cs n (λ w s. s) c i
    from_form (or_else e f) k ρ t ds xs cs n c i = from_one t (record { form = or_else e f; calls = k; values = ρ }) (branch e idle f) ds xs cs n (λ w s. s) c i
    from_form (negation e) k ρ t ds xs cs n c i = from_one t (record { form = negation e; calls = k; values = ρ }) (branch e fail idle) ds xs cs n (λ w s. s) c i
    from_form (attempt e) k ρ t ds xs cs n c i = from_one t (record { form = attempt e; calls = k; values = ρ }) (branch e idle idle) ds xs cs n (λ w s. s) c i
    from_form (test_of e) k ρ t ds xs cs n c i = from_one t (record { form = test_of e; calls = k; values = ρ }) (branch (negation e) fail idle) ds xs cs n (λ w s. s) c i
    from_form (in_turn e f) k ρ t ds xs cs n c i =
        let d : Todo = record { form = in_turn e f; calls = k; values = ρ } in
        subst (λ z. CameFrom z (on t (d ∷ ds) xs)) (sym (in_one c (on t (with_form d e ∷ with_form d f ∷ ds) xs) (subst (IsIn c) n i)))
        (come_by xs (with_form d e ∷ with_form d f ∷ ds) (d ∷ ds) t t (λ w z. (z.2.0, (z.0, z.1, z.2.1), z.2.2)))
    from_form (either e f) k ρ t ds xs cs n c i = by (subst (IsIn c) n i)
      where
        by : IsIn c (on t (record { form = e; calls = k; values = ρ } ∷ ds) xs ∷ on t (record { form = f; calls = k; values = ρ } ∷ ds) xs ∷ []) → CameFrom c (on t (record { form = either e f; calls = k; values = ρ } ∷ ds) xs)
        by (inl q) = subst (λ z. CameFrom z (on t (record { form = either e f; calls = k; values = ρ } ∷ ds) xs)) (sym q) (come_by xs (record { form = e; calls = k; values = ρ } ∷ ds) (record { form = either e f; calls = k; values = ρ } ∷ ds) t t (λ w z. (z.0, inl z.1, z.2)))
        by (inr (inl q)) = subst (λ z. CameFrom z (on t (record { form = either e f; calls = k; values = ρ } ∷ ds) xs)) (sym q) (come_by xs (record { form = f; calls = k; values = ρ } ∷ ds) (record { form = either e f; calls = k; values = ρ } ∷ ds) t t (λ w z. (z.0, inr z.1, z.2)))
        by (inr (inr q)) = absurd q
    from_form (branch e f g) k ρ t ds xs cs n c i = from_branch e f g k ρ t ds xs cs n c i

    pub from_next : (t : Tree) (ds : List Todo) (xs : List Frame) (cs : List Config) → NextOn P L defs leaf bodies t ds xs cs → (c : Config) → IsIn c cs → CameFrom c (on t ds xs)
    from_next t [] [] cs n c i = absurd (subst (IsIn c) n i)
    from_next t [] (test_frame d e b ds ∷ xs) cs n c i =
        subst (λ z. CameFrom z (on t [] (test_frame d e b ds ∷ xs))) (sym (in_one c (on t (e ∷ ds) xs) (subst (IsIn c) n i))) (λ u z. let r = first_of_all xs e ds t u z in (t, refl, r.0, r.1, r.2))
    from_next t (d ∷ ds) xs cs n c i = from_form d.form d.calls d.values t ds xs cs n c i
