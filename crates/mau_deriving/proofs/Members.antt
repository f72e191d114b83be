-- The sorts of a term by its parts: arguments, memberships and the solutions of their heads, one after another.
use Rattle.std.proofs.Common.{◌≡◌, ◌⊎◌, inl, inr, ℕ, suc, ◌<◌, ◌≤◌, List, [], ◌∷◌, ◌++◌, Bool, true, false, if◌then◌else◌, is_some, Option, None, sym, ap, ◌∙◌, subst, arith}
use Rattle.std.proofs.lemmas.Bool.{cases_lt}
use Rattle.mau_terms.specs.Tree.{Tree, apply, Trees, list_of}
use Rattle.mau_terms.specs.Norm.{norm}
use Rattle.mau_terms.specs.Subst.{Variable, variables}
use Rattle.mau_evaluation.specs.Run.{End, too_deep, Outcome, done, ended, Run, gives, put_back, and_then, and_try, apart, each_in_turn, choose, where_true}
use Rattle.mau_evaluation.specs.Program.{Fragment, Membership, Program}
use Rattle.mau_evaluation.specs.Listing.{Solution, solutions}
use Rattle.mau_evaluation.specs.Evaluation.{Binding, extend, has_number, have_sorts, any, joined, holds_for, by_membership, size, sorts_in, sorts_at, levels, settle}
use Rattle.mau_evaluation.specs.HasSort.{HasHeads}
use Rattle.mau_evaluation.proofs.Fuel.{fuel_is_enough}
use Rattle.mau_evaluation.proofs.Invert.{not_done}
use Rattle.mau_evaluation.proofs.Limits.{levels_alone}
use Rattle.mau_deriving.specs.Known.{IsKnownFrom, EndsWith, AreKnownFrom}
use Rattle.mau_deriving.specs.Given.{asks_by, sorts_on}
use Rattle.mau_deriving.specs.Answered.{WasAnswered}
use Rattle.mau_deriving.proofs.Known.{IsSoFrom, gives_known, then_known, first_ends, second_ends, try_known, try_ends, apart_ends, each_known, each_ends}

-- ---- the same computations

pub known_along : {A : Type 0} (f g : ℕ → Run A) (x : A) → ((j b : ℕ) → g j b ≡ f j b) → IsKnownFrom f x → IsKnownFrom g x
known_along f g x e p = record { enough = p.enough; known = λ j b. by j b (p.known j b) }
  where
    by : (j b : ℕ) → IsSoFrom p.enough j (f j b) (done x 0 b) → IsSoFrom p.enough j (g j b) (done x 0 b)
    by j b (inl h) = inl (e j b ∙ h)
    by j b (inr h) = inr (h.0, e j b ∙ h.1)

pub ends_along : {A C : Type 0} (f g : ℕ → Run A) (h : ℕ → Outcome C) → ((j b : ℕ) → g j b ≡ f j b) → EndsWith f h → EndsWith g h
ends_along f g h e p = record { enough = p.enough; ends = λ j b d i. by j b d (p.ends j b d i) }
  where
    by : (j b : ℕ) (d : End) → IsSoFrom p.enough j (f j b) (ended d) → IsSoFrom p.enough j (g j b) (ended d)
    by j b d (inl i) = inl (e j b ∙ i)
    by j b d (inr i) = inr (i.0, e j b ∙ i.1)

-- what is known by some number of levels, and stays the same by more, is known from there on
known_from : {A : Type 0} (f : ℕ → Run A) (x : A) (n : ℕ) → ((b : ℕ) → f n b ≡ done x 0 b) → ((j k b : ℕ) → j ≤ k → (f j b ≡ ended too_deep) ⊎ (f j b ≡ f k b)) → IsKnownFrom f x
known_from f x n h higher = record { enough = n; known = λ j b. by j b (cases_lt j n) }
  where
    less : (j b : ℕ) → j < n → (f j b ≡ ended too_deep) ⊎ (f j b ≡ f n b) → IsSoFrom n j (f j b) (done x 0 b)
    less j b l (inl e) = inr (l, e)
    less j b l (inr e) = inl (e ∙ h b)

    more : (j b : ℕ) → (f n b ≡ ended too_deep) ⊎ (f n b ≡ f j b) → IsSoFrom n j (f j b) (done x 0 b)
    more j b (inl e) = absurd (not_done too_deep x 0 b (sym e ∙ h b))
    more j b (inr e) = inl (sym e ∙ h b)

    by : (j b : ℕ) → (j < n) ⊎ (n ≤ j) → IsSoFrom n j (f j b) (done x 0 b)
    by j b (inl l) = less j b l (higher j n b (omega arith))
    by j b (inr l) = more j b (higher n j b l)

module _ (P : Program) (B : ℕ) where
  abbrev asks : ℕ → List Fragment → Binding → Run (Option Binding)
  asks = asks_by P B

  abbrev sorts_by : ℕ → Tree → Run (List ℕ)
  sorts_by = sorts_on P B

  -- ---- conditions

  pub answered : (c : List Fragment) (σ : Binding) (holds : Bool) → (a : WasAnswered P B c σ holds) → IsKnownFrom (λ j. apart B (asks j c σ)) a.solution
  answered c σ holds a = known_from (λ j. apart B (asks j c σ)) a.solution a.levels (λ b. ap (put_back b) a.was) (λ j k b l. by j k b (levels_alone.2 P j k B l c σ B))
    where
      by : (j k b : ℕ) → (asks j c σ B ≡ ended too_deep) ⊎ (asks j c σ B ≡ asks k c σ B) → (apart B (asks j c σ) b ≡ ended too_deep) ⊎ (apart B (asks j c σ) b ≡ apart B (asks k c σ) b)
      by j k b (inl e) = inl (ap (put_back b) e)
      by j k b (inr e) = inr (ap (put_back b) e)

  -- ---- sorts that are known by some number of levels

  pub sorts_known : (t : Tree) (ss : List ℕ) (n : ℕ) → norm P.sign.theory t ≡ t → ((b : ℕ) → sorts_at P n B t b ≡ done ss 0 b) → IsKnownFrom (λ j. sorts_by j t) ss
  sorts_known t ss n normal h = record { enough = n; known = λ j b. by j b (cases_lt (suc j) n) }
    where
      at : (k b : ℕ) → sorts_at P k B t b ≡ (levels P B k).sorts t b
      at k b = ap (λ u. (levels P B k).sorts u b) normal

      less : (j b : ℕ) → suc j < n → (sorts_at P (suc j) B t b ≡ ended too_deep) ⊎ (sorts_at P (suc j) B t b ≡ sorts_at P n B t b) → IsSoFrom n j (sorts_by j t b) (done ss 0 b)
      less j b l (inl e) = inr (omega (arith, l), sym (at (suc j) b) ∙ e)
      less j b l (inr e) = inl (sym (at (suc j) b) ∙ (e ∙ h b))

      more : (j b : ℕ) → (sorts_at P n B t b ≡ ended too_deep) ⊎ (sorts_at P n B t b ≡ sorts_at P (suc j) B t b) → IsSoFrom n j (sorts_by j t b) (done ss 0 b)
      more j b (inl e) = absurd (not_done too_deep ss 0 b (sym e ∙ h b))
      more j b (inr e) = inl (sym (at (suc j) b) ∙ (sym e ∙ h b))

      by : (j b : ℕ) → (suc j < n) ⊎ (n ≤ suc j) → IsSoFrom n j (sorts_by j t b) (done ss 0 b)
      by j b (inl l) = less j b l (levels_alone.1 P (suc j) n B (omega arith) t b)
      by j b (inr l) = more j b (levels_alone.1 P n (suc j) B l t b)

  -- by any fuel from its size on
  pub fuelled : HasHeads P → (t : Tree) (ss : List ℕ) (n : ℕ) → size t ≤ n → IsKnownFrom (λ j. sorts_by j t) ss → IsKnownFrom (λ j. sorts_in P B (asks j) n t) ss
  fuelled heads t ss n l = known_along (λ j. sorts_by j t) (λ j. sorts_in P B (asks j) n t) ss (λ j b. fuel_is_enough P heads B (asks j) n t b l)

  -- ---- whether values have the sorts of variables

  abbrev pub have_all : List Variable → List (List ℕ) → Bool
  have_all [] sss = true
  have_all (x ∷ xs) [] = false
  have_all (x ∷ xs) (ss ∷ sss) = if has_number ss x.1 then have_all xs sss else false

  module _ (f : ℕ → Tree → Run (List ℕ)) where
    pub having_known : (xs : List Variable) (vs : List Tree) (sss : List (List ℕ)) → AreKnownFrom f vs sss → IsKnownFrom (λ j. have_sorts (f j) xs vs) (have_all xs sss)
    having_known [] vs sss h = gives_known true
    having_known (x ∷ xs) [] [] h = gives_known false
    having_known (x ∷ xs) [] (ss ∷ sss) h = absurd h
    having_known (x ∷ xs) (v ∷ vs) [] h = absurd h
    having_known (x ∷ xs) (v ∷ vs) (ss ∷ sss) h =
        then_known (λ j. f j v) (λ j rs. choose (has_number rs x.1) (have_sorts (f j) xs vs) (gives false)) ss (if has_number ss x.1 then have_all xs sss else false) h.0
        (by (has_number ss x.1) (having_known xs vs sss h.1))
      where
        by : (t : Bool) → IsKnownFrom (λ j. have_sorts (f j) xs vs) (have_all xs sss) → IsKnownFrom (λ j. choose t (have_sorts (f j) xs vs) (gives false)) (if t then have_all xs sss else false)
        by true k = k
        by false k = gives_known false

    -- ---- one solution of a head

    module _ (m : Membership) (x : Solution) where
      abbrev holds : ℕ → Run Bool
      holds j = holds_for P B (asks j) (f j) m x

      abbrev σ : Binding
      σ = extend [] (variables m.left) x.values

      pub not_had : IsKnownFrom (λ j. have_sorts (f j) (variables m.left) x.values) false → IsKnownFrom (λ j. holds_for P B (asks j) (f j) m x) false
      not_had h =
          then_known (λ j. and_try (have_sorts (f j) (variables m.left) x.values) λ ok. where_true ok (apart B (asks j m.cond σ))) (λ j o. gives (is_some o)) None false
          (try_known (λ j. have_sorts (f j) (variables m.left) x.values) (λ j ok. where_true ok (apart B (asks j m.cond σ))) false None h (gives_known None)) (gives_known false)

      pub was_told : (w : Bool) → IsKnownFrom (λ j. have_sorts (f j) (variables m.left) x.values) true → WasAnswered P B m.cond (extend [] (variables m.left) x.values) w →
          IsKnownFrom (λ j. holds_for P B (asks j) (f j) m x) w
      was_told w h a =
          subst (IsKnownFrom (λ j. holds_for P B (asks j) (f j) m x)) a.is
          (then_known (λ j. and_try (have_sorts (f j) (variables m.left) x.values) λ ok. where_true ok (apart B (asks j m.cond σ))) (λ j o. gives (is_some o)) a.solution (is_some a.solution)
          (try_known (λ j. have_sorts (f j) (variables m.left) x.values) (λ j ok. where_true ok (apart B (asks j m.cond σ))) true a.solution h (answered m.cond σ w a))
          (gives_known (is_some a.solution)))

      pub ends_asked : IsKnownFrom (λ j. have_sorts (f j) (variables m.left) x.values) true →
          EndsWith (λ j. holds_for P B (asks j) (f j) m x) (λ j. asks j m.cond (extend [] (variables m.left) x.values) B)
      ends_asked h =
          first_ends (λ j. and_try (have_sorts (f j) (variables m.left) x.values) λ ok. where_true ok (apart B (asks j m.cond σ))) (λ j o. gives (is_some o)) (λ j. asks j m.cond σ B)
          (try_ends (λ j. have_sorts (f j) (variables m.left) x.values) (λ j ok. where_true ok (apart B (asks j m.cond σ))) (λ j. asks j m.cond σ B) true h (apart_ends B (λ j. asks j m.cond σ)))

    -- ---- one membership

    module _ (t : Tree) (m : Membership) where
      abbrev after_all : List Bool → Run (List ℕ)
      after_all bs = gives (if any bs then P.above m.sort else [])

      along : (e : Bool) → m.exec ≡ e → (j b : ℕ) → by_membership P B (asks j) (f j) t m b ≡ choose e (and_then (each_in_turn (holds_for P B (asks j) (f j) m) (solutions P.sign m.left t)) after_all) (gives []) b
      along e h j b = ap (λ w. choose w (and_then (each_in_turn (holds_for P B (asks j) (f j) m) (solutions P.sign m.left t)) after_all) (gives []) b) h

      pub skipped : m.exec ≡ false → IsKnownFrom (λ j. by_membership P B (asks j) (f j) t m) []
      skipped h = known_along (λ j. gives []) (λ j. by_membership P B (asks j) (f j) t m) [] (along false h) (gives_known [])

      pub passed : m.exec ≡ true → (bs : List Bool) → AreKnownFrom (λ j. holds_for P B (asks j) (f j) m) (solutions P.sign m.left t) bs →
          IsKnownFrom (λ j. by_membership P B (asks j) (f j) t m) (if any bs then P.above m.sort else [])
      passed h bs k =
          known_along (λ j. and_then (each_in_turn (holds_for P B (asks j) (f j) m) (solutions P.sign m.left t)) after_all) (λ j. by_membership P B (asks j) (f j) t m) (if any bs then P.above m.sort else []) (along true h)
          (then_known (λ j. each_in_turn (holds_for P B (asks j) (f j) m) (solutions P.sign m.left t)) (λ j cs. after_all cs) bs (if any bs then P.above m.sort else [])
          (each_known (λ j. holds_for P B (asks j) (f j) m) (solutions P.sign m.left t) bs k) (gives_known (if any bs then P.above m.sort else [])))

      pub member_ends : {C : Type 0} (g : ℕ → Outcome C) → m.exec ≡ true → (xs : List Solution) (bs : List Bool) (x : Solution) (more : List Solution) → solutions P.sign m.left t ≡ xs ++ x ∷ more →
          AreKnownFrom (λ j. holds_for P B (asks j) (f j) m) xs bs → EndsWith (λ j. holds_for P B (asks j) (f j) m x) g → EndsWith (λ j. by_membership P B (asks j) (f j) t m) g
      member_ends g h xs bs x more e k z =
          ends_along (λ j. and_then (each_in_turn (holds_for P B (asks j) (f j) m) (solutions P.sign m.left t)) after_all) (λ j. by_membership P B (asks j) (f j) t m) g (along true h)
          (first_ends (λ j. each_in_turn (holds_for P B (asks j) (f j) m) (solutions P.sign m.left t)) (λ j cs. after_all cs) g
          (subst (λ zs. EndsWith (λ j. each_in_turn (holds_for P B (asks j) (f j) m) zs) g) (sym e) (each_ends (λ j. holds_for P B (asks j) (f j) m) g xs bs x more k z)))

  -- ---- a term

  module _ (n f : ℕ) (ts : Trees) where
    abbrev below : ℕ → Tree → Run (List ℕ)
    below j = sorts_in P B (asks j) n

    abbrev members : ℕ → Membership → Run (List ℕ)
    members j = by_membership P B (asks j) (sorts_in P B (asks j) n) (apply f ts)

    pub term_known : (args more : List (List ℕ)) → AreKnownFrom (λ j. sorts_in P B (asks j) n) (list_of ts) args →
        AreKnownFrom (λ j. by_membership P B (asks j) (sorts_in P B (asks j) n) (apply f ts)) P.memberships more →
        IsKnownFrom (λ j. sorts_in P B (asks j) (suc n) (apply f ts)) (P.declared f args ++ joined more)
    term_known args more h k =
        then_known (λ j. each_in_turn (below j) (list_of ts)) (λ j as_. and_then (each_in_turn (members j) P.memberships) λ ms. gives (P.declared f as_ ++ joined ms)) args (P.declared f args ++ joined more)
        (each_known below (list_of ts) args h)
        (then_known (λ j. each_in_turn (members j) P.memberships) (λ j ms. gives (P.declared f args ++ joined ms)) more (P.declared f args ++ joined more)
        (each_known members P.memberships more k) (gives_known (P.declared f args ++ joined more)))

    pub ends_in_member : {C : Type 0} (g : ℕ → Outcome C) (args more : List (List ℕ)) (ms : List Membership) (m : Membership) (rest : List Membership) →
        AreKnownFrom (λ j. sorts_in P B (asks j) n) (list_of ts) args → P.memberships ≡ ms ++ m ∷ rest →
        AreKnownFrom (λ j. by_membership P B (asks j) (sorts_in P B (asks j) n) (apply f ts)) ms more →
        EndsWith (λ j. by_membership P B (asks j) (sorts_in P B (asks j) n) (apply f ts) m) g → EndsWith (λ j. sorts_in P B (asks j) (suc n) (apply f ts)) g
    ends_in_member g args more ms m rest h e k z =
        second_ends (λ j. each_in_turn (below j) (list_of ts)) (λ j as_. and_then (each_in_turn (members j) P.memberships) λ xs. gives (P.declared f as_ ++ joined xs)) g args
        (each_known below (list_of ts) args h)
        (first_ends (λ j. each_in_turn (members j) P.memberships) (λ j xs. gives (P.declared f args ++ joined xs)) g
        (subst (λ xs. EndsWith (λ j. each_in_turn (members j) xs) g) (sym e) (each_ends members g ms more m rest k z)))

    pub ends_in_argument : {C : Type 0} (g : ℕ → Outcome C) (args : List (List ℕ)) (us : List Tree) (u : Tree) (rest : List Tree) → list_of ts ≡ us ++ u ∷ rest →
        AreKnownFrom (λ j. sorts_in P B (asks j) n) us args → EndsWith (λ j. sorts_in P B (asks j) n u) g → EndsWith (λ j. sorts_in P B (asks j) (suc n) (apply f ts)) g
    ends_in_argument g args us u rest e h z =
        first_ends (λ j. each_in_turn (below j) (list_of ts)) (λ j as_. and_then (each_in_turn (members j) P.memberships) λ xs. gives (P.declared f as_ ++ joined xs)) g
        (subst (λ xs. EndsWith (λ j. each_in_turn (below j) xs) g) (sym e) (each_ends below g us args u rest h z))

  -- ---- a term behind the identities

  pub settle_known : (t : Tree) (uss : List (List ℕ)) (ss : List ℕ) → AreKnownFrom sorts_by P.units uss → IsKnownFrom (λ j. sorts_by j t) ss →
      IsKnownFrom (λ j. settle P (levels P B j) (levels P B (suc j)).sorts t) ss
  settle_known t uss ss h k = then_known (λ j. each_in_turn (sorts_by j) P.units) (λ j us. sorts_by j t) uss ss (each_known sorts_by P.units uss h) k

  pub settle_ends : {C : Type 0} (g : ℕ → Outcome C) (t : Tree) (uss : List (List ℕ)) → AreKnownFrom sorts_by P.units uss → EndsWith (λ j. sorts_by j t) g →
      EndsWith (λ j. settle P (levels P B j) (levels P B (suc j)).sorts t) g
  settle_ends g t uss h z = second_ends (λ j. each_in_turn (sorts_by j) P.units) (λ j us. sorts_by j t) g uss (each_known sorts_by P.units uss h) z

  pub settle_ends_before : {C : Type 0} (g : ℕ → Outcome C) (t : Tree) (uss : List (List ℕ)) (us : List Tree) (u : Tree) (rest : List Tree) → P.units ≡ us ++ u ∷ rest → AreKnownFrom sorts_by us uss →
      EndsWith (λ j. sorts_by j u) g → EndsWith (λ j. settle P (levels P B j) (levels P B (suc j)).sorts t) g
  settle_ends_before g t uss us u rest e h z =
      first_ends (λ j. each_in_turn (sorts_by j) P.units) (λ j vs. sorts_by j t) g
      (subst (λ xs. EndsWith (λ j. each_in_turn (sorts_by j) xs) g) (sym e) (each_ends sorts_by g us uss u rest h z))
