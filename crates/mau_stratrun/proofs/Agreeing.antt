-- Two lists of first successors of a configuration agree, so such lists of one length are one.
use Rattle.std.proofs.Common.{◌≡◌, ℕ, zero, suc, List, [], ◌∷◌, ◌++◌, map, inl, inr, refl, sym, ap, ap₂, ◌∙◌, subst, ◌⊎◌}
use Rattle.std.proofs.lemmas.List.{append-nil, append_assoc, map-append}
use Rattle.mau_terms.specs.Tree.{Tree}
use Rattle.mau_evaluation.specs.Program.{Program}
use Rattle.mau_evaluation.specs.Engine.{Engine}
use Rattle.mau_evaluation.specs.Strategy.{Strategy, idle, fail, every_rule, label, top_only, call, test, star, plus, to_normal, in_turn, either, or_else, branch, negation, attempt, test_of, part_rewrite, label_by, StratDef}
use Rattle.mau_evaluation.specs.Configs.{Todo, Frame, test_frame, Config, with_form, on, LeafNext, NextBy, NextOn}
use Rattle.mau_evaluation.specs.Answers.{Answers, no_more, answer, answers_of, before}
use Rattle.mau_evaluation.specs.OrderedLists.{LeafList, BodyListWith, BodyList}
use Rattle.mau_evaluation.specs.Entries.{IsFront, OpensBy, OpensOn, LeafFront, BodyFrontWith, BodyFront, NextOf, BeginsWith}

-- ---- fronts of lists

-- one of the lists begins the other
abbrev pub Agree : {A : Type 0} → List A → List A → Type 0
Agree xs ys = IsFront xs ys ⊎ IsFront ys xs

pub front_itself : {A : Type 0} (xs : List A) → IsFront xs xs
front_itself xs = ([], sym (append-nil xs))

pub front_through : {A : Type 0} (xs ys zs : List A) → IsFront xs ys → IsFront ys zs → IsFront xs zs
front_through xs ys zs a b = (a.0 ++ b.0, b.1 ∙ (ap (λ w. w ++ b.0) a.1 ∙ append_assoc xs a.0 b.0))

front_cons : {A : Type 0} (x : A) (xs ys : List A) → IsFront xs ys → IsFront (x ∷ xs) (x ∷ ys)
front_cons x xs ys h = (h.0, ap (λ w. x ∷ w) h.1)

front_map : {A B : Type 0} (f : A → B) (xs ys : List A) → IsFront xs ys → IsFront (map f xs) (map f ys)
front_map f xs ys h = (map f h.0, ap (map f) h.1 ∙ map-append f xs h.0)

agree_cons : {A : Type 0} (x : A) (xs ys : List A) → Agree xs ys → Agree (x ∷ xs) (x ∷ ys)
agree_cons x xs ys (inl h) = inl (front_cons x xs ys h)
agree_cons x xs ys (inr h) = inr (front_cons x ys xs h)

-- two fronts of one list
pub fronts_agree : {A : Type 0} (xs ys zs : List A) → IsFront xs zs → IsFront ys zs → Agree xs ys
fronts_agree [] ys zs a b = inl (ys, refl)
fronts_agree (x ∷ xs) [] zs a b = inr (x ∷ xs, refl)
fronts_agree (x ∷ xs) (y ∷ ys) zs a b = by (head_of (sym a.1 ∙ b.1)) (fronts_agree xs ys (ys ++ b.0) (a.0, sym (tail_of (sym a.1 ∙ b.1))) (b.0, refl))
  where
    head_of : x ∷ (xs ++ a.0) ≡ y ∷ (ys ++ b.0) → x ≡ y
    head_of e = cc

    tail_of : x ∷ (xs ++ a.0) ≡ y ∷ (ys ++ b.0) → xs ++ a.0 ≡ ys ++ b.0
    tail_of e = cc

    by : x ≡ y → Agree xs ys → Agree (x ∷ xs) (y ∷ ys)
    by e h = subst (λ w. Agree (x ∷ xs) (w ∷ ys)) e (agree_cons x xs ys h)

-- fronts of lists that agree
agree_fronts : {A : Type 0} (xs ys as_ bs : List A) → IsFront xs as_ → IsFront ys bs → Agree as_ bs → Agree xs ys
agree_fronts xs ys as_ bs a b (inl h) = fronts_agree xs ys bs (front_through xs as_ bs a h) b
agree_fronts xs ys as_ bs a b (inr h) = fronts_agree xs ys as_ a (front_through ys bs as_ b h)

-- ---- answers before a rest

answers_agree : {A : Type 0} (us vs : List A) (p q : Answers A) → before us p ≡ before vs q → Agree us vs
answers_agree [] vs p q e = inl (vs, refl)
answers_agree (u ∷ us) [] p q e = inr (u ∷ us, refl)
answers_agree (u ∷ us) (v ∷ vs) p q e = subst (λ w. Agree (u ∷ us) (w ∷ vs)) (head_of e) (agree_cons u us vs (answers_agree us vs p q (tail_of e)))
  where
    head_of : answer u (before us p) ≡ answer v (before vs q) → u ≡ v
    head_of k = cc

    tail_of : answer u (before us p) ≡ answer v (before vs q) → before us p ≡ before vs q
    tail_of k = cc

-- a front of a whole list
answers_front : {A : Type 0} (us vs : List A) (p : Answers A) → before us p ≡ answers_of vs → IsFront us vs
answers_front [] vs p e = (vs, refl)
answers_front (u ∷ us) [] p e = absurd (no e)
  where
    no : answer u (before us p) ≡ no_more → ⊥
    no k = cc
answers_front (u ∷ us) (v ∷ vs) p e = subst (λ w. IsFront (u ∷ us) (w ∷ vs)) (head_of e) (front_cons u us vs (answers_front us vs p (tail_of e)))
  where
    head_of : answer u (before us p) ≡ answer v (answers_of vs) → u ≡ v
    head_of k = cc

    tail_of : answer u (before us p) ≡ answer v (answers_of vs) → before us p ≡ answers_of vs
    tail_of k = cc

-- ---- successors

module _ (P : Program) (L : Engine) (defs : List StratDef) where
  abbrev Lists : Todo → Tree → List Tree → Type 0
  Lists = LeafFront P L defs

  abbrev Bodies : Todo → Tree → List Todo → Type 0
  Bodies = BodyFront P L defs

  bodies_agree : (k : ℕ) (d : Todo) (bs cs : List Todo) → BodyFrontWith P L defs k d bs → BodyFrontWith P L defs k d cs → Agree bs cs
  bodies_agree zero d bs cs a b = absurd a
  bodies_agree (suc k) d bs cs a b = answers_agree bs cs a.0 b.0 (sym a.1 ∙ b.1)

  bodies_front : (k : ℕ) (d : Todo) (bs cs : List Todo) → BodyFrontWith P L defs k d bs → BodyListWith P L defs k d cs → IsFront bs cs
  bodies_front zero d bs cs a b = absurd a
  bodies_front (suc k) d bs cs a b = answers_front bs cs a.0 (sym a.1 ∙ b)

  agree_map : {A : Type 0} (f : A → Config) (us vs : List A) (ds ds' : List Config) → ds ≡ map f us → ds' ≡ map f vs → Agree us vs → Agree ds ds'
  agree_map f us vs ds ds' a b (inl h) = inl (subst (IsFront ds) (sym b) (subst (λ w. IsFront w (map f vs)) (sym a) (front_map f us vs h)))
  agree_map f us vs ds ds' a b (inr h) = inr (subst (IsFront ds') (sym a) (subst (λ w. IsFront w (map f us)) (sym b) (front_map f vs us h)))

  front_by_map : {A : Type 0} (f : A → Config) (us vs : List A) (ds cs : List Config) → ds ≡ map f us → cs ≡ map f vs → IsFront us vs → IsFront ds cs
  front_by_map f us vs ds cs a b h = subst (IsFront ds) (sym b) (subst (λ w. IsFront w (map f vs)) (sym a) (front_map f us vs h))

  front_by : (ws ds cs : List Config) → ds ≡ ws → cs ≡ ws → IsFront ds cs
  front_by ws ds cs a b = subst (IsFront ds) (sym b) (subst (λ w. IsFront w ws) (sym a) (front_itself ws))

  leaves_front : (t : Tree) (d : Todo) (ds : List Todo) (xs : List Frame) (es cs : List Config) → LeafNext P L defs Lists Bodies t d ds xs es → LeafNext P L defs (LeafList P L) (BodyList P L defs) t d ds xs cs → IsFront es cs
  leaves_front t d ds xs es cs a b = front_by_map (λ u. on u ds xs) a.0 b.0 es cs a.2 b.2 (answers_front a.0 b.0 ((a.1).1).0 (sym ((a.1).1).1 ∙ (b.1).1))

  leaves_agree : (t : Tree) (d : Todo) (ds : List Todo) (xs : List Frame) (es cs : List Config) → LeafNext P L defs Lists Bodies t d ds xs es → LeafNext P L defs Lists Bodies t d ds xs cs → Agree es cs
  leaves_agree t d ds xs es cs a b = agree_map (λ u. on u ds xs) a.0 b.0 es cs a.2 b.2 (answers_agree a.0 b.0 ((a.1).1).0 ((b.1).1).0 (sym ((a.1).1).1 ∙ ((b.1).1).1))

  form_agree : (e : Strategy) (t : Tree) (d : Todo) (ds : List Todo) (xs : List Frame) (es cs : List Config) → NextBy P L defs Lists Bodies e t d ds xs es → NextBy P L defs Lists Bodies e t d ds xs cs → Agree es cs
  form_agree idle t d ds xs es cs a b = leaves_agree t d ds xs es cs a b
  form_agree fail t d ds xs es cs a b = leaves_agree t d ds xs es cs a b
  form_agree every_rule t d ds xs es cs a b = leaves_agree t d ds xs es cs a b
  form_agree (label n gs) t d ds xs es cs a b = leaves_agree t d ds xs es cs a b
  form_agree (top_only e) t d ds xs es cs a b = leaves_agree t d ds xs es cs a b
  form_agree (test k p c) t d ds xs es cs a b = leaves_agree t d ds xs es cs a b
  form_agree (part_rewrite k p c us) t d ds xs es cs a b = leaves_agree t d ds xs es cs a b
  form_agree (label_by n gs hs) t d ds xs es cs a b = leaves_agree t d ds xs es cs a b
  form_agree (call n ts) t d ds xs es cs a b = agree_map (λ z. on t (z ∷ ds) xs) a.0 b.0 es cs a.2 b.2 (bodies_agree d.calls d a.0 b.0 a.1 b.1)
  form_agree (branch e f g) t d ds xs es cs (inl a) (inl b) = inl (front_by _ es cs a.2 b.2)
  form_agree (branch e f g) t d ds xs es cs (inl a) (inr b) = absurd (b.0 a.0 a.1)
  form_agree (branch e f g) t d ds xs es cs (inr a) (inl b) = absurd (a.0 b.0 b.1)
  form_agree (branch e f g) t d ds xs es cs (inr a) (inr b) = inl (front_by _ es cs a.2 b.2)
  form_agree (in_turn e f) t d ds xs es cs a b = inl (front_by _ es cs a b)
  form_agree (either e f) t d ds xs es cs a b = inl (front_by _ es cs a b)
  form_agree (star e) t d ds xs es cs a b = inl (front_by _ es cs a b)
  form_agree (plus e) t d ds xs es cs a b = inl (front_by _ es cs a b)
  form_agree (to_normal e) t d ds xs es cs a b = inl (front_by _ es cs a b)
  form_agree (or_else e f) t d ds xs es cs a b = inl (front_by _ es cs a b)
  form_agree (negation e) t d ds xs es cs a b = inl (front_by _ es cs a b)
  form_agree (attempt e) t d ds xs es cs a b = inl (front_by _ es cs a b)
  form_agree (test_of e) t d ds xs es cs a b = inl (front_by _ es cs a b)

  form_front : (e : Strategy) (t : Tree) (d : Todo) (ds : List Todo) (xs : List Frame) (es cs : List Config) → NextBy P L defs Lists Bodies e t d ds xs es → NextBy P L defs (LeafList P L) (BodyList P L defs) e t d ds xs cs → IsFront es cs
  form_front idle t d ds xs es cs a b = leaves_front t d ds xs es cs a b
  form_front fail t d ds xs es cs a b = leaves_front t d ds xs es cs a b
  form_front every_rule t d ds xs es cs a b = leaves_front t d ds xs es cs a b
  form_front (label n gs) t d ds xs es cs a b = leaves_front t d ds xs es cs a b
  form_front (top_only e) t d ds xs es cs a b = leaves_front t d ds xs es cs a b
  form_front (test k p c) t d ds xs es cs a b = leaves_front t d ds xs es cs a b
  form_front (part_rewrite k p c us) t d ds xs es cs a b = leaves_front t d ds xs es cs a b
  form_front (label_by n gs hs) t d ds xs es cs a b = leaves_front t d ds xs es cs a b
  form_front (call n ts) t d ds xs es cs a b = front_by_map (λ z. on t (z ∷ ds) xs) a.0 b.0 es cs a.2 b.2 (bodies_front d.calls d a.0 b.0 a.1 b.1)
  form_front (branch e f g) t d ds xs es cs (inl a) (inl b) = front_by _ es cs a.2 b.2
  form_front (branch e f g) t d ds xs es cs (inl a) (inr b) = absurd (b.0 a.0 a.1)
  form_front (branch e f g) t d ds xs es cs (inr a) (inl b) = absurd (a.0 b.0 b.1)
  form_front (branch e f g) t d ds xs es cs (inr a) (inr b) = front_by _ es cs a.2 b.2
  form_front (in_turn e f) t d ds xs es cs a b = front_by _ es cs a b
  form_front (either e f) t d ds xs es cs a b = front_by _ es cs a b
  form_front (star e) t d ds xs es cs a b = front_by _ es cs a b
  form_front (plus e) t d ds xs es cs a b = front_by _ es cs a b
  form_front (to_normal e) t d ds xs es cs a b = front_by _ es cs a b
  form_front (or_else e f) t d ds xs es cs a b = front_by _ es cs a b
  form_front (negation e) t d ds xs es cs a b = front_by _ es cs a b
  form_front (attempt e) t d ds xs es cs a b = front_by _ es cs a b
  form_front (test_of e) t d ds xs es cs a b = front_by _ es cs a b

  next_agree : (t : Tree) (ds : List Todo) (xs : List Frame) (es cs : List Config) → NextOn P L defs Lists Bodies t ds xs es → NextOn P L defs Lists Bodies t ds xs cs → Agree es cs
  next_agree t [] [] es cs a b = inl (front_by [] es cs a b)
  next_agree t [] (test_frame d e u ds ∷ xs) es cs a b = inl (front_by _ es cs a b)
  next_agree t (d ∷ ds) xs es cs a b = form_agree d.form t d ds xs es cs a b

  next_front : (t : Tree) (ds : List Todo) (xs : List Frame) (es cs : List Config) → NextOn P L defs Lists Bodies t ds xs es → NextOn P L defs (LeafList P L) (BodyList P L defs) t ds xs cs → IsFront es cs
  next_front t [] [] es cs a b = front_by [] es cs a b
  next_front t [] (test_frame d e u ds ∷ xs) es cs a b = front_by _ es cs a b
  next_front t (d ∷ ds) xs es cs a b = form_front d.form t d ds xs es cs a b

  -- what goes inside first is the first of the successors
  opening_front : (leaf : Todo → Tree → List Tree → Type 0) (bodies : Todo → Tree → List Todo → Type 0) (e : Strategy) (t : Tree) (d : Todo) (ds : List Todo) (xs : List Frame) (es cs : List Config) →
      OpensBy e t d ds xs es → NextBy P L defs leaf bodies e t d ds xs cs → IsFront es cs
  opening_front leaf bodies (branch e f g) t d ds xs es cs a (inl b) = front_by _ es cs a b.2
  opening_front leaf bodies (branch e f g) t d ds xs es cs a (inr b) = (on t (with_form d g ∷ ds) xs ∷ [], b.2 ∙ ap (λ w. w ++ on t (with_form d g ∷ ds) xs ∷ []) (sym a))
  opening_front leaf bodies _ t d ds xs es cs a b = absurd a

  opens_front : (leaf : Todo → Tree → List Tree → Type 0) (bodies : Todo → Tree → List Todo → Type 0) (t : Tree) (ds : List Todo) (xs : List Frame) (es cs : List Config) → OpensOn t ds xs es → NextOn P L defs leaf bodies t ds xs cs → IsFront es cs
  opens_front leaf bodies t [] xs es cs a b = absurd a
  opens_front leaf bodies t (d ∷ ds) xs es cs a b = opening_front leaf bodies d.form t d ds xs es cs a b

  openings_agree : (e : Strategy) (t : Tree) (d : Todo) (ds : List Todo) (xs : List Frame) (es cs : List Config) → OpensBy e t d ds xs es → OpensBy e t d ds xs cs → IsFront es cs
  openings_agree (branch e f g) t d ds xs es cs a b = front_by _ es cs a b
  openings_agree _ t d ds xs es cs a b = absurd a

  opens_agree : (t : Tree) (ds : List Todo) (xs : List Frame) (es cs : List Config) → OpensOn t ds xs es → OpensOn t ds xs cs → IsFront es cs
  opens_agree t [] xs es cs a b = absurd a
  opens_agree t (d ∷ ds) xs es cs a b = openings_agree d.form t d ds xs es cs a b

  pub begins_agree : (c : Config) (es cs : List Config) → BeginsWith P L defs c es → BeginsWith P L defs c cs → Agree es cs
  begins_agree c es cs (inl a) b = inl (cs, ap (λ w. w ++ cs) (sym a))
  begins_agree c es cs (inr a) (inl b) = inr (es, ap (λ w. w ++ es) (sym b))
  begins_agree c es cs (inr (inl a)) (inr (inl b)) = inl (opens_agree c.term c.todo c.frames es cs a b)
  begins_agree c es cs (inr (inl a)) (inr (inr b)) = fronts_agree es cs b.0 (opens_front Lists Bodies c.term c.todo c.frames es b.0 a b.1) b.2
  begins_agree c es cs (inr (inr a)) (inr (inl b)) = fronts_agree es cs a.0 a.2 (opens_front Lists Bodies c.term c.todo c.frames cs a.0 b a.1)
  begins_agree c es cs (inr (inr a)) (inr (inr b)) = agree_fronts es cs a.0 b.0 a.2 b.2 (next_agree c.term c.todo c.frames a.0 b.0 a.1 b.1)

  pub begins_front : (c : Config) (es cs : List Config) → BeginsWith P L defs c es → NextOf P L defs c cs → IsFront es cs
  begins_front c es cs (inl a) b = (cs, ap (λ w. w ++ cs) (sym a))
  begins_front c es cs (inr (inl a)) b = opens_front (LeafList P L) (BodyList P L defs) c.term c.todo c.frames es cs a b
  begins_front c es cs (inr (inr a)) b = front_through es a.0 cs a.2 (next_front c.term c.todo c.frames a.0 cs a.1 b)

  -- ---- all successors are first ones

  answers_before : {A : Type 0} (us : List A) → answers_of us ≡ before us no_more
  answers_before [] = refl
  answers_before (u ∷ us) = ap (answer u) (answers_before us)

  all_leaves : (t : Tree) (d : Todo) (ds : List Todo) (xs : List Frame) (cs : List Config) → LeafNext P L defs (LeafList P L) (BodyList P L defs) t d ds xs cs → LeafNext P L defs Lists Bodies t d ds xs cs
  all_leaves t d ds xs cs a = (a.0, ((a.1).0, (no_more, (a.1).1 ∙ answers_before a.0)), a.2)

  all_bodies : (k : ℕ) (d : Todo) (bs : List Todo) → BodyListWith P L defs k d bs → BodyFrontWith P L defs k d bs
  all_bodies zero d bs a = a
  all_bodies (suc k) d bs a = (no_more, a ∙ answers_before bs)

  all_by : (e : Strategy) (t : Tree) (d : Todo) (ds : List Todo) (xs : List Frame) (cs : List Config) → NextBy P L defs (LeafList P L) (BodyList P L defs) e t d ds xs cs → NextBy P L defs Lists Bodies e t d ds xs cs
  all_by idle t d ds xs cs a = all_leaves t d ds xs cs a
  all_by fail t d ds xs cs a = all_leaves t d ds xs cs a
  all_by every_rule t d ds xs cs a = all_leaves t d ds xs cs a
  all_by (label n gs) t d ds xs cs a = all_leaves t d ds xs cs a
  all_by (top_only e) t d ds xs cs a = all_leaves t d ds xs cs a
  all_by (test k p c) t d ds xs cs a = all_leaves t d ds xs cs a
  all_by (part_rewrite k p c us) t d ds xs cs a = all_leaves t d ds xs cs a
  all_by (label_by n gs hs) t d ds xs cs a = all_leaves t d ds xs cs a
  all_by (call n ts) t d ds xs cs a = (a.0, all_bodies d.calls d a.0 a.1, a.2)
  all_by (branch e f g) t d ds xs cs a = a
  all_by (in_turn e f) t d ds xs cs a = a
  all_by (either e f) t d ds xs cs a = a
  all_by (star e) t d ds xs cs a = a
  all_by (plus e) t d ds xs cs a = a
  all_by (to_normal e) t d ds xs cs a = a
  all_by (or_else e f) t d ds xs cs a = a
  all_by (negation e) t d ds xs cs a = a
  all_by (attempt e) t d ds xs cs a = a
  all_by (test_of e) t d ds xs cs a = a

  all_on : (t : Tree) (ds : List Todo) (xs : List Frame) (cs : List Config) → NextOn P L defs (LeafList P L) (BodyList P L defs) t ds xs cs → NextOn P L defs Lists Bodies t ds xs cs
  all_on t [] [] cs a = a
  all_on t [] (test_frame d e u ds ∷ xs) cs a = a
  all_on t (d ∷ ds) xs cs a = all_by d.form t d ds xs cs a

  pub all_begin : (c : Config) (cs front : List Config) → NextOf P L defs c cs → IsFront front cs → BeginsWith P L defs c front
  all_begin c cs front a h = inr (inr (cs, all_on c.term c.todo c.frames cs a, h))

  -- first ones begin with their first ones
  pub fewer_begin : (c : Config) (cs front : List Config) → BeginsWith P L defs c cs → IsFront front cs → BeginsWith P L defs c front
  fewer_begin c cs [] b h = inl refl
  fewer_begin c cs (x ∷ xs) (inl e) h = absurd (none (sym e ∙ h.1))
    where
      none : [] ≡ x ∷ (xs ++ h.0) → ⊥
      none k = cc
  fewer_begin c cs (x ∷ xs) (inr (inl o)) h = inr (inl (opens_fewer c.term c.todo c.frames cs o))
    where
      one_of : (y : Config) → x ∷ (xs ++ h.0) ≡ y ∷ [] → x ∷ xs ≡ y ∷ []
      one_of y e = let n : xs ++ h.0 ≡ [] = cc in let k : x ≡ y = cc in ap₂ (λ u us. u ∷ us) k (empty xs h.0 n)
        where
          empty : (us vs : List Config) → us ++ vs ≡ [] → us ≡ []
          empty [] vs m = refl
          empty (u ∷ us) vs m = absurd (cc)

      opens_by : (e : Strategy) (t : Tree) (d : Todo) (ds : List Todo) (zs : List Frame) (ys : List Config) → ys ≡ x ∷ (xs ++ h.0) → OpensBy e t d ds zs ys → OpensBy e t d ds zs (x ∷ xs)
      opens_by (branch e f g) t d ds zs ys k a = one_of _ (sym k ∙ a)
      opens_by _ t d ds zs ys k a = absurd a

      opens_fewer : (t : Tree) (ds : List Todo) (zs : List Frame) (ys : List Config) → OpensOn t ds zs cs → OpensOn t ds zs (x ∷ xs)
      opens_fewer t [] zs ys a = absurd a
      opens_fewer t (d ∷ ds) zs ys a = opens_by d.form t d ds zs cs h.1 a
  fewer_begin c cs (x ∷ xs) (inr (inr a)) h = inr (inr (a.0, a.1, front_through (x ∷ xs) cs a.0 h a.2))
