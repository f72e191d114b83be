-- There is one run: of two lists that it reaches one begins the other.
use Rattle.std.proofs.Common.{◌≡◌, ℕ, zero, suc, ◌<◌, ◌≤◌, List, [], ◌∷◌, ◌++◌, length, map, All, Contains, inl, inr, refl, sym, ap, ap₂, ◌∙◌, subst, ◌⊎◌, arith}
use Rattle.std.proofs.lemmas.Bool.{cases_lt}
use Rattle.std.proofs.Math.Nat.{eq-or-lt_of_le}
use Rattle.std.proofs.lemmas.List.{append-nil, append_assoc, map-append}
use Rattle.std.proofs.lemmas.List.Elements.{All-contains}
use Rattle.mau_terms.specs.Tree.{Tree}
use Rattle.mau_terms.specs.Finite.{IsIn}
use Rattle.mau_evaluation.specs.Program.{Program}
use Rattle.mau_evaluation.specs.Engine.{Engine}
use Rattle.mau_evaluation.specs.Strategy.{Strategy, idle, fail, every_rule, label, top_only, call, test, star, plus, to_normal, in_turn, either, or_else, branch, negation, attempt, test_of, part_rewrite, label_by, StratDef}
use Rattle.mau_evaluation.specs.Configs.{Todo, Frame, test_frame, Config, with_form, on, LeafNext, NextBy, NextOn}
use Rattle.mau_evaluation.specs.Answers.{Answers, no_more, answer, answers_of, before}
use Rattle.mau_evaluation.specs.OrderedLists.{LeafList, BodyListWith, BodyList}
use Rattle.mau_evaluation.specs.Reach.{At, IsNextEntry, begun, entered}
use Rattle.mau_evaluation.specs.Entries.{IsFront, OpensBy, OpensOn, LeafFront, BodyFrontWith, BodyFront, NextOf, BeginsWith, ReachedBy}
use Rattle.mau_evaluation.specs.StrategyLaws.{ReachedIsOne, EntriesAreApart}
use Rattle.mau_evaluation.proofs.Inside.{in_list, once}
use Rattle.mau_evaluation.proofs.Meet.{same_at}

-- ---- fronts of lists

-- one of the lists begins the other
abbrev Agree : {A : Type 0} → List A → List A → Type 0
Agree xs ys = IsFront xs ys ⊎ IsFront ys xs

front_itself : {A : Type 0} (xs : List A) → IsFront xs xs
front_itself xs = ([], sym (append-nil xs))

front_through : {A : Type 0} (xs ys zs : List A) → IsFront xs ys → IsFront ys zs → IsFront xs zs
front_through xs ys zs a b = (a.0 ++ b.0, b.1 ∙ (ap (λ w. w ++ b.0) a.1 ∙ append_assoc xs a.0 b.0))

front_cons : {A : Type 0} (x : A) (xs ys : List A) → IsFront xs ys → IsFront (x ∷ xs) (x ∷ ys)
front_cons x xs ys h = (h.0, ap (λ w. x ∷ w) h.1)

front_map : {A B : Type 0} (f : A → B) (xs ys : List A) → IsFront xs ys → IsFront (map f xs) (map f ys)
front_map f xs ys h = (map f h.0, ap (map f) h.1 ∙ map-append f xs h.0)

agree_cons : {A : Type 0} (x : A) (xs ys : List A) → Agree xs ys → Agree (x ∷ xs) (x ∷ ys)
agree_cons x xs ys (inl h) = inl (front_cons x xs ys h)
agree_cons x xs ys (inr h) = inr (front_cons x ys xs h)

-- two fronts of one list
fronts_agree : {A : Type 0} (xs ys zs : List A) → IsFront xs zs → IsFront ys zs → Agree xs ys
fronts_agree [] ys zs a b = inl (ys, refl)
fronts_agree (x ∷ xs) [] zs a b = inr (x ∷ xs, refl)
fronts_agree (x ∷ xs) (y ∷ ys) zs a b = by (head_of (sym a.1 ∙ b.1)) (fronts_agree xs ys (ys ++ b.0) (a.0, sym (tail_of (sym a.1 ∙ b.1))) (b.0, refl))
  where
    head_of : x ∷ (xs ++ a.0) ≡ y ∷ (ys ++ b.0) → x ≡ y
    head_of e = cc

    tail_of : x ∷ (xs ++ a.0) ≡ y ∷ (ys ++ b.0) → xs ++ a.0 ≡ ys ++ b.0
    tail_of e = cc

    by : x ≡ y → Agree xs ys → Agree (x ∷ xs) (y ∷ ys)
    by e h = subst (λ w. Agree (x ∷ xs) (w ∷ ys)) e (agree_cons x xs ys h)

-- fronts of lists that agree
agree_fronts : {A : Type 0} (xs ys as_ bs : List A) → IsFront xs as_ → IsFront ys bs → Agree as_ bs → Agree xs ys
agree_fronts xs ys as_ bs a b (inl h) = fronts_agree xs ys bs (front_through xs as_ bs a h) b
agree_fronts xs ys as_ bs a b (inr h) = fronts_agree xs ys as_ a (front_through ys bs as_ b h)

-- ---- answers before a rest

answers_agree : {A : Type 0} (us vs : List A) (p q : Answers A) → before us p ≡ before vs q → Agree us vs
answers_agree [] vs p q e = inl (vs, refl)
answers_agree (u ∷ us) [] p q e = inr (u ∷ us, refl)
answers_agree (u ∷ us) (v ∷ vs) p q e = subst (λ w. Agree (u ∷ us) (w ∷ vs)) (head_of e) (agree_cons u us vs (answers_agree us vs p q (tail_of e)))
  where
    head_of : answer u (before us p) ≡ answer v (before vs q) → u ≡ v
    head_of k = cc

    tail_of : answer u (before us p) ≡ answer v (before vs q) → before us p ≡ before vs q
    tail_of k = cc

-- a front of a whole list
answers_front : {A : Type 0} (us vs : List A) (p : Answers A) → before us p ≡ answers_of vs → IsFront us vs
answers_front [] vs p e = (vs, refl)
answers_front (u ∷ us) [] p e = absurd (no e)
  where
    no : answer u (before us p) ≡ no_more → ⊥
    no k = cc
answers_front (u ∷ us) (v ∷ vs) p e = subst (λ w. IsFront (u ∷ us) (w ∷ vs)) (head_of e) (front_cons u us vs (answers_front us vs p (tail_of e)))
  where
    head_of : answer u (before us p) ≡ answer v (answers_of vs) → u ≡ v
    head_of k = cc

    tail_of : answer u (before us p) ≡ answer v (answers_of vs) → before us p ≡ answers_of vs
    tail_of k = cc

-- ---- successors

module _ (P : Program) (L : Engine) (defs : List StratDef) where
  abbrev Lists : Todo → Tree → List Tree → Type 0
  Lists = LeafFront P L defs

  abbrev Bodies : Todo → Tree → List Todo → Type 0
  Bodies = BodyFront P L defs

  bodies_agree : (k : ℕ) (d : Todo) (bs cs : List Todo) → BodyFrontWith P L defs k d bs → BodyFrontWith P L defs k d cs → Agree bs cs
  bodies_agree zero d bs cs a b = absurd a
  bodies_agree (suc k) d bs cs a b = answers_agree bs cs a.0 b.0 (sym a.1 ∙ b.1)

  bodies_front : (k : ℕ) (d : Todo) (bs cs : List Todo) → BodyFrontWith P L defs k d bs → BodyListWith P L defs k d cs → IsFront bs cs
  bodies_front zero d bs cs a b = absurd a
  bodies_front (suc k) d bs cs a b = answers_front bs cs a.0 (sym a.1 ∙ b)

  agree_by : (f : Config → Config) (cs ds ds' : List Config) → ds ≡ cs → ds' ≡ cs → Agree ds ds'
  agree_by f cs ds ds' a b = inl (subst (IsFront ds) (sym b) (subst (λ w. IsFront w cs) (sym a) (front_itself cs)))

  agree_map : {A : Type 0} (f : A → Config) (us vs : List A) (ds ds' : List Config) → ds ≡ map f us → ds' ≡ map f vs → Agree us vs → Agree ds ds'
  agree_map f us vs ds ds' a b (inl h) = inl (subst (IsFront ds) (sym b) (subst (λ w. IsFront w (map f vs)) (sym a) (front_map f us vs h)))
  agree_map f us vs ds ds' a b (inr h) = inr (subst (IsFront ds') (sym a) (subst (λ w. IsFront w (map f us)) (sym b) (front_map f vs us h)))

  front_by_map : {A : Type 0} (f : A → Config) (us vs : List A) (ds cs : List Config) → ds ≡ map f us → cs ≡ map f vs → IsFront us vs → IsFront ds cs
  front_by_map f us vs ds cs a b h = subst (IsFront ds) (sym b) (subst (λ w. IsFront w (map f vs)) (sym a) (front_map f us vs h))

  front_by : (ws ds cs : List Config) → ds ≡ ws → cs ≡ ws → IsFront ds cs
  front_by ws ds cs a b = subst (IsFront ds) (sym b) (subst (λ w. IsFront w ws) (sym a) (front_itself ws))

  leaves_front : (t : Tree) (d : Todo) (ds : List Todo) (xs : List Frame) (es cs : List Config) → LeafNext P L defs Lists Bodies t d ds xs es → LeafNext P L defs (LeafList P L) (BodyList P L defs) t d ds xs cs → IsFront es cs
  leaves_front t d ds xs es cs a b = front_by_map (λ u. on u ds xs) a.0 b.0 es cs a.2 b.2 (answers_front a.0 b.0 ((a.1).1).0 (sym ((a.1).1).1 ∙ (b.1).1))

  leaves_agree : (t : Tree) (d : Todo) (ds : List Todo) (xs : List Frame) (es cs : List Config) → LeafNext P L defs Lists Bodies t d ds xs es → LeafNext P L defs Lists Bodies t d ds xs cs → Agree es cs
  leaves_agree t d ds xs es cs a b = agree_map (λ u. on u ds xs) a.0 b.0 es cs a.2 b.2 (answers_agree a.0 b.0 ((a.1).1).0 ((b.1).1).0 (sym ((a.1).1).1 ∙ ((b.1).1).1))

  form_agree : (e : Strategy) (t : Tree) (d : Todo) (ds : List Todo) (xs : List Frame) (es cs : List Config) → NextBy P L defs Lists Bodies e t d ds xs es → NextBy P L defs Lists Bodies e t d ds xs cs → Agree es cs
  form_agree idle t d ds xs es cs a b = leaves_agree t d ds xs es cs a b
  form_agree fail t d ds xs es cs a b = leaves_agree t d ds xs es cs a b
  form_agree every_rule t d ds xs es cs a b = leaves_agree t d ds xs es cs a b
  form_agree (label n gs) t d ds xs es cs a b = leaves_agree t d ds xs es cs a b
  form_agree (top_only e) t d ds xs es cs a b = leaves_agree t d ds xs es cs a b
  form_agree (test k p c) t d ds xs es cs a b = leaves_agree t d ds xs es cs a b
  form_agree (part_rewrite k p c us) t d ds xs es cs a b = leaves_agree t d ds xs es cs a b
  form_agree (label_by n gs hs) t d ds xs es cs a b = leaves_agree t d ds xs es cs a b
  form_agree (call n ts) t d ds xs es cs a b = agree_map (λ z. on t (z ∷ ds) xs) a.0 b.0 es cs a.2 b.2 (bodies_agree d.calls d a.0 b.0 a.1 b.1)
  form_agree (branch e f g) t d ds xs es cs (inl a) (inl b) = inl (front_by _ es cs a.2 b.2)
  form_agree (branch e f g) t d ds xs es cs (inl a) (inr b) = absurd (b.0 a.0 a.1)
  form_agree (branch e f g) t d ds xs es cs (inr a) (inl b) = absurd (a.0 b.0 b.1)
  form_agree (branch e f g) t d ds xs es cs (inr a) (inr b) = inl (front_by _ es cs a.2 b.2)
  form_agree (in_turn e f) t d ds xs es cs a b = inl (front_by _ es cs a b)
  form_agree (either e f) t d ds xs es cs a b = inl (front_by _ es cs a b)
  form_agree (star e) t d ds xs es cs a b = inl (front_by _ es cs a b)
  form_agree (plus e) t d ds xs es cs a b = inl (front_by _ es cs a b)
  form_agree (to_normal e) t d ds xs es cs a b = inl (front_by _ es cs a b)
  form_agree (or_else e f) t d ds xs es cs a b = inl (front_by _ es cs a b)
  form_agree (negation e) t d ds xs es cs a b = inl (front_by _ es cs a b)
  form_agree (attempt e) t d ds xs es cs a b = inl (front_by _ es cs a b)
  form_agree (test_of e) t d ds xs es cs a b = inl (front_by _ es cs a b)

  form_front : (e : Strategy) (t : Tree) (d : Todo) (ds : List Todo) (xs : List Frame) (es cs : List Config) → NextBy P L defs Lists Bodies e t d ds xs es → NextBy P L defs (LeafList P L) (BodyList P L defs) e t d ds xs cs → IsFront es cs
  form_front idle t d ds xs es cs a b = leaves_front t d ds xs es cs a b
  form_front fail t d ds xs es cs a b = leaves_front t d ds xs es cs a b
  form_front every_rule t d ds xs es cs a b = leaves_front t d ds xs es cs a b
  form_front (label n gs) t d ds xs es cs a b = leaves_front t d ds xs es cs a b
  form_front (top_only e) t d ds xs es cs a b = leaves_front t d ds xs es cs a b
  form_front (test k p c) t d ds xs es cs a b = leaves_front t d ds xs es cs a b
  form_front (part_rewrite k p c us) t d ds xs es cs a b = leaves_front t d ds xs es cs a b
  form_front (label_by n gs hs) t d ds xs es cs a b = leaves_front t d ds xs es cs a b
  form_front (call n ts) t d ds xs es cs a b = front_by_map (λ z. on t (z ∷ ds) xs) a.0 b.0 es cs a.2 b.2 (bodies_front d.calls d a.0 b.0 a.1 b.1)
  form_front (branch e f g) t d ds xs es cs (inl a) (inl b) = front_by _ es cs a.2 b.2
  form_front (branch e f g) t d ds xs es cs (inl a) (inr b) = absurd (b.0 a.0 a.1)
  form_front (branch e f g) t d ds xs es cs (inr a) (inl b) = absurd (a.0 b.0 b.1)
  form_front (branch e f g) t d ds xs es cs (inr a) (inr b) = front_by _ es cs a.2 b.2
  form_front (in_turn e f) t d ds xs es cs a b = front_by _ es cs a b
  form_front (either e f) t d ds xs es cs a b = front_by _ es cs a b
  form_front (star e) t d ds xs es cs a b = front_by _ es cs a b
  form_front (plus e) t d ds xs es cs a b = front_by _ es cs a b
  form_front (to_normal e) t d ds xs es cs a b = front_by _ es cs a b
  form_front (or_else e f) t d ds xs es cs a b = front_by _ es cs a b
  form_front (negation e) t d ds xs es cs a b = front_by _ es cs a b
  form_front (attempt e) t d ds xs es cs a b = front_by _ es cs a b
  form_front (test_of e) t d ds xs es cs a b = front_by _ es cs a b

  next_agree : (t : Tree) (ds : List Todo) (xs : List Frame) (es cs : List Config) → NextOn P L defs Lists Bodies t ds xs es → NextOn P L defs Lists Bodies t ds xs cs → Agree es cs
  next_agree t [] [] es cs a b = inl (front_by [] es cs a b)
  next_agree t [] (test_frame d e u ds ∷ xs) es cs a b = inl (front_by _ es cs a b)
  next_agree t (d ∷ ds) xs es cs a b = form_agree d.form t d ds xs es cs a b

  next_front : (t : Tree) (ds : List Todo) (xs : List Frame) (es cs : List Config) → NextOn P L defs Lists Bodies t ds xs es → NextOn P L defs (LeafList P L) (BodyList P L defs) t ds xs cs → IsFront es cs
  next_front t [] [] es cs a b = front_by [] es cs a b
  next_front t [] (test_frame d e u ds ∷ xs) es cs a b = front_by _ es cs a b
  next_front t (d ∷ ds) xs es cs a b = form_front d.form t d ds xs es cs a b

  -- what goes inside first is the first of the successors
  opening_front : (leaf : Todo → Tree → List Tree → Type 0) (bodies : Todo → Tree → List Todo → Type 0) (e : Strategy) (t : Tree) (d : Todo) (ds : List Todo) (xs : List Frame) (es cs : List Config) →
      OpensBy e t d ds xs es → NextBy P L defs leaf bodies e t d ds xs cs → IsFront es cs
  opening_front leaf bodies (branch e f g) t d ds xs es cs a (inl b) = front_by _ es cs a b.2
  opening_front leaf bodies (branch e f g) t d ds xs es cs a (inr b) = (on t (with_form d g ∷ ds) xs ∷ [], b.2 ∙ ap (λ w. w ++ on t (with_form d g ∷ ds) xs ∷ []) (sym a))
  opening_front leaf bodies _ t d ds xs es cs a b = absurd a

  opens_front : (leaf : Todo → Tree → List Tree → Type 0) (bodies : Todo → Tree → List Todo → Type 0) (t : Tree) (ds : List Todo) (xs : List Frame) (es cs : List Config) → OpensOn t ds xs es → NextOn P L defs leaf bodies t ds xs cs → IsFront es cs
  opens_front leaf bodies t [] xs es cs a b = absurd a
  opens_front leaf bodies t (d ∷ ds) xs es cs a b = opening_front leaf bodies d.form t d ds xs es cs a b

  openings_agree : (e : Strategy) (t : Tree) (d : Todo) (ds : List Todo) (xs : List Frame) (es cs : List Config) → OpensBy e t d ds xs es → OpensBy e t d ds xs cs → IsFront es cs
  openings_agree (branch e f g) t d ds xs es cs a b = front_by _ es cs a b
  openings_agree _ t d ds xs es cs a b = absurd a

  opens_agree : (t : Tree) (ds : List Todo) (xs : List Frame) (es cs : List Config) → OpensOn t ds xs es → OpensOn t ds xs cs → IsFront es cs
  opens_agree t [] xs es cs a b = absurd a
  opens_agree t (d ∷ ds) xs es cs a b = openings_agree d.form t d ds xs es cs a b

  begins_agree : (c : Config) (es cs : List Config) → BeginsWith P L defs c es → BeginsWith P L defs c cs → Agree es cs
  begins_agree c es cs (inl a) b = inl (cs, ap (λ w. w ++ cs) (sym a))
  begins_agree c es cs (inr a) (inl b) = inr (es, ap (λ w. w ++ es) (sym b))
  begins_agree c es cs (inr (inl a)) (inr (inl b)) = inl (opens_agree c.term c.todo c.frames es cs a b)
  begins_agree c es cs (inr (inl a)) (inr (inr b)) = fronts_agree es cs b.0 (opens_front Lists Bodies c.term c.todo c.frames es b.0 a b.1) b.2
  begins_agree c es cs (inr (inr a)) (inr (inl b)) = fronts_agree es cs a.0 a.2 (opens_front Lists Bodies c.term c.todo c.frames cs a.0 b a.1)
  begins_agree c es cs (inr (inr a)) (inr (inr b)) = agree_fronts es cs a.0 b.0 a.2 b.2 (next_agree c.term c.todo c.frames a.0 b.0 a.1 b.1)

  begins_front : (c : Config) (es cs : List Config) → BeginsWith P L defs c es → NextOf P L defs c cs → IsFront es cs
  begins_front c es cs (inl a) b = (cs, ap (λ w. w ++ cs) (sym a))
  begins_front c es cs (inr (inl a)) b = opens_front (LeafList P L) (BodyList P L defs) c.term c.todo c.frames es cs a b
  begins_front c es cs (inr (inr a)) b = front_through es a.0 cs a.2 (next_front c.term c.todo c.frames a.0 cs a.1 b)

  -- ---- the next entry

  one_next : (seen : List Config) (c c' : Config) (given given' : List Config) → All (Contains seen) given → (Contains seen c → ⊥) → All (Contains seen) given' → (Contains seen c' → ⊥) →
      Agree (given ++ c ∷ []) (given' ++ c' ∷ []) → c ≡ c'
  one_next seen c c' given given' l n l' n' h = by given given' (λ x i. All-contains (Contains seen) given x l (in_list x given i)) (λ x i. All-contains (Contains seen) given' x l' (in_list x given' i)) h
    where
      heads : {x y : Config} {xs ys : List Config} → Agree (x ∷ xs) (y ∷ ys) → (x ≡ y) × Agree xs ys
      heads {x = x} {y = y} {xs = xs} {ys = ys} (inl a) = (sym (first a.1), inl (a.0, rest a.1))
        where
          first : y ∷ ys ≡ x ∷ (xs ++ a.0) → y ≡ x
          first e = cc

          rest : y ∷ ys ≡ x ∷ (xs ++ a.0) → ys ≡ xs ++ a.0
          rest e = cc
      heads {x = x} {y = y} {xs = xs} {ys = ys} (inr a) = (first a.1, inr (a.0, rest a.1))
        where
          first : x ∷ xs ≡ y ∷ (ys ++ a.0) → x ≡ y
          first e = cc

          rest : x ∷ xs ≡ y ∷ (ys ++ a.0) → xs ≡ ys ++ a.0
          rest e = cc

      by : (given given' : List Config) → ((x : Config) → IsIn x given → Contains seen x) → ((x : Config) → IsIn x given' → Contains seen x) → Agree (given ++ c ∷ []) (given' ++ c' ∷ []) → c ≡ c'
      by [] [] a b k = (heads k).0
      by [] (y ∷ given') a b k = absurd (n (subst (Contains seen) (sym (heads k).0) (b y (inl refl))))
      by (x ∷ given) [] a b k = absurd (n' (subst (Contains seen) (heads k).0 (a x (inl refl))))
      by (x ∷ given) (y ∷ given') a b k = by given given' (λ z i. a z (inr i)) (λ z i. b z (inr i)) (heads k).1

  -- a later entry has none that is not listed
  none_later : (seen : List Config) (c c' : Config) (n : IsNextEntry (BeginsWith P L defs) (NextOf P L defs) seen c) (n' : IsNextEntry (BeginsWith P L defs) (NextOf P L defs) seen c') → n.from < n'.from → ⊥
  none_later seen c c' n n' l =
      let k = n.behind n'.from n'.entry l n'.stands in
      let f = begins_front n'.entry (n'.given ++ c' ∷ []) k.0 n'.begins k.1 in
      n'.fresh (All-contains (Contains seen) k.0 c' k.2 (in_list c' k.0 (subst (IsIn c') (sym f.1) (inside (n'.given ++ c' ∷ []) f.0 (last n'.given)))))
    where
      last : (xs : List Config) → IsIn c' (xs ++ c' ∷ [])
      last [] = inl refl
      last (x ∷ xs) = inr (last xs)

      inside : (xs zs : List Config) → IsIn c' xs → IsIn c' (xs ++ zs)
      inside [] zs i = absurd i
      inside (x ∷ xs) zs (inl e) = inl e
      inside (x ∷ xs) zs (inr i) = inr (inside xs zs i)

  one_entry : (seen : List Config) (c c' : Config) → IsNextEntry (BeginsWith P L defs) (NextOf P L defs) seen c → IsNextEntry (BeginsWith P L defs) (NextOf P L defs) seen c' → c ≡ c'
  one_entry seen c c' n n' = by (order (cases_lt n.from n'.from))
    where
      or_same : (n'.from ≡ n.from) ⊎ (n'.from < n.from) → (n'.from < n.from) ⊎ (n.from ≡ n'.from)
      or_same (inl h) = inr (sym h)
      or_same (inr h) = inl h

      order : (n.from < n'.from) ⊎ (n'.from ≤ n.from) → (n.from < n'.from) ⊎ ((n'.from < n.from) ⊎ (n.from ≡ n'.from))
      order (inl h) = inl h
      order (inr h) = inr (or_same (eq-or-lt_of_le h))

      by : (n.from < n'.from) ⊎ ((n'.from < n.from) ⊎ (n.from ≡ n'.from)) → c ≡ c'
      by (inl h) = absurd (none_later seen c c' n n' h)
      by (inr (inl h)) = absurd (none_later seen c' c n' n h)
      by (inr (inr h)) =
          let e : n.entry ≡ n'.entry = same_at seen n'.from n.entry n'.entry (subst (λ i. At seen i n.entry) h n.stands) n'.stands in
          one_next seen c c' n.given n'.given n.listed n.fresh n'.listed n'.fresh
          (begins_agree n'.entry (n.given ++ c ∷ []) (n'.given ++ c' ∷ []) (subst (λ z. BeginsWith P L defs z (n.given ++ c ∷ [])) e n.begins) n'.begins)

  -- ---- the list

  module _ (t : Tree) (d : Todo) where
    begins_with : (seen : List Config) → ReachedBy P L defs t d seen → (zs : List Config) × (seen ≡ on t (d ∷ []) [] ∷ zs)
    begins_with seen begun = ([], refl)
    begins_with seen (entered old c r n) = let h = begins_with old r in (h.0 ++ c ∷ [], ap (λ w. w ++ c ∷ []) h.1)

    -- a list with a last one more, parted at some place
    parted : (xs : List Config) (c : Config) (old : List Config) (z : Config) (zs : List Config) → xs ++ c ∷ [] ≡ old ++ z ∷ zs → ((old ≡ xs) × (z ≡ c)) ⊎ ((ws : List Config) × (xs ≡ old ++ z ∷ ws))
    parted [] c [] z zs e = inl (refl, first e)
      where
        first : c ∷ [] ≡ z ∷ zs → z ≡ c
        first q = cc
    parted [] c (y ∷ old) z zs e = absurd (longer old (ap length e))
      where
        longer : (old : List Config) → 1 ≡ length (y ∷ (old ++ z ∷ zs)) → ⊥
        longer [] q = no q
          where
            no : 1 ≡ length (y ∷ z ∷ zs) → ⊥
            no q = omega arith
        longer (x ∷ old) q = no q
          where
            no : 1 ≡ length (y ∷ x ∷ (old ++ z ∷ zs)) → ⊥
            no q = omega arith
    parted (x ∷ xs) c [] z zs e = inr (xs, ap (λ w. w ∷ xs) (first e))
      where
        first : x ∷ (xs ++ c ∷ []) ≡ z ∷ zs → x ≡ z
        first q = cc
    parted (x ∷ xs) c (y ∷ old) z zs e = by (parted xs c old z zs (rest e))
      where
        first : x ∷ (xs ++ c ∷ []) ≡ y ∷ (old ++ z ∷ zs) → y ≡ x
        first q = cc

        rest : x ∷ (xs ++ c ∷ []) ≡ y ∷ (old ++ z ∷ zs) → xs ++ c ∷ [] ≡ old ++ z ∷ zs
        rest q = cc

        by : ((old ≡ xs) × (z ≡ c)) ⊎ ((ws : List Config) × (xs ≡ old ++ z ∷ ws)) → ((y ∷ old ≡ x ∷ xs) × (z ≡ c)) ⊎ ((ws : List Config) × (x ∷ xs ≡ y ∷ (old ++ z ∷ ws)))
        by (inl h) = inl (ap₂ (λ w ws. w ∷ ws) (first e) h.0, h.1)
        by (inr h) = inr (h.0, ap₂ (λ w ws. w ∷ ws) (sym (first e)) h.1)

    -- what stands behind a reached front is its next entry
    entry_behind : (seen : List Config) → ReachedBy P L defs t d seen → (x : Config) (old : List Config) (z : Config) (zs : List Config) → seen ≡ (x ∷ old) ++ z ∷ zs → IsNextEntry (BeginsWith P L defs) (NextOf P L defs) (x ∷ old) z
    entry_behind seen begun x old z zs e = absurd (longer old (ap length e))
      where
        longer : (old : List Config) → 1 ≡ length (x ∷ (old ++ z ∷ zs)) → ⊥
        longer [] q = no q
          where
            no : 1 ≡ length (x ∷ z ∷ zs) → ⊥
            no q = omega arith
        longer (y ∷ old) q = no q
          where
            no : 1 ≡ length (x ∷ y ∷ (old ++ z ∷ zs)) → ⊥
            no q = omega arith
    entry_behind seen (entered before_it c r n) x old z zs e = by (λ ws q. entry_behind before_it r x old z ws q) (parted before_it c (x ∷ old) z zs e)
      where
        by : ((ws : List Config) → before_it ≡ (x ∷ old) ++ z ∷ ws → IsNextEntry (BeginsWith P L defs) (NextOf P L defs) (x ∷ old) z) →
            ((x ∷ old ≡ before_it) × (z ≡ c)) ⊎ ((ws : List Config) × (before_it ≡ (x ∷ old) ++ z ∷ ws)) → IsNextEntry (BeginsWith P L defs) (NextOf P L defs) (x ∷ old) z
        by k (inl h) = subst (λ w. IsNextEntry (BeginsWith P L defs) (NextOf P L defs) (x ∷ old) w) (sym h.1) (subst (λ ys. IsNextEntry (BeginsWith P L defs) (NextOf P L defs) ys c) (sym h.0) n)
        by k (inr h) = k h.0 h.1

    reached_agree : (seen more : List Config) → ReachedBy P L defs t d seen → ReachedBy P L defs t d more → Agree seen more
    reached_agree seen more r begun = let h = begins_with seen r in inr (h.0, h.1)
    reached_agree seen more r (entered old c q n) = by (reached_agree seen old r q)
      where
        by : Agree seen old → Agree seen (old ++ c ∷ [])
        by (inl h) = inl (h.0 ++ c ∷ [], ap (λ w. w ++ c ∷ []) h.1 ∙ append_assoc seen h.0 (c ∷ []))
        by (inr h) = behind h.0 h.1
          where
            behind : (zs : List Config) → seen ≡ old ++ zs → Agree seen (old ++ c ∷ [])
            behind [] e = inl (c ∷ [], ap (λ w. w ++ c ∷ []) (sym (e ∙ append-nil old)))
            behind (z ∷ zs) e =
                let b = begins_with old q in
                let m = entry_behind seen r (on t (d ∷ []) []) b.0 z zs (e ∙ ap (λ w. w ++ z ∷ zs) b.1) in
                let same : z ≡ c = one_entry old z c (subst (λ w. IsNextEntry (BeginsWith P L defs) (NextOf P L defs) w z) (sym b.1) m) n in
                inr (zs, e ∙ (ap (λ w. old ++ w ∷ zs) same ∙ sym (append_assoc old (c ∷ []) zs)))

pub reached_is_one : ReachedIsOne
reached_is_one P L defs t d seen more r q = reached_agree P L defs t d seen more r q

pub entries_are_apart : EntriesAreApart
entries_are_apart P L defs t d seen r i j c a b = once P L defs t d seen r i j c a b
