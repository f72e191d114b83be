-- The derivation of the sorts of a term, step by step.
use Rattle.std.proofs.Common.{◌≡◌, ◌⊎◌, inl, inr, ℕ, zero, suc, ◌≤◌, List, [], ◌∷◌, ◌++◌, map, length, take, Bool, true, false, ◌||◌, if◌then◌else◌, ⊎_elim, Some, refl, sym, ap, ◌∙◌, subst, arith, append-nil}
use Rattle.std.specs.Prelude.{◌↔◌, slice_get}
use Rattle.mau_terms.specs.Tree.{Tree, Trees, apply, list_of}
use Rattle.mau_terms.specs.Subst.{variables}
use Rattle.mau_terms.specs.Finite.{IsIn}
use Rattle.mau_poset.specs.Order.{Hierarchy, IsAtOrBelow}
use Rattle.mau_sorts.specs.SortSets.{IsAbove}
use Rattle.mau_sorts.proofs.MinimalSorts.{IsAbove-nil, IsAbove-push}
use Rattle.mau_evaluation.specs.Run.{Run}
use Rattle.mau_evaluation.specs.Program.{Fragment, Membership, Program}
use Rattle.mau_evaluation.specs.Listing.{Solution, keep, solutions}
use Rattle.mau_evaluation.specs.Evaluation.{Binding, have_sorts, any, joined, holds_for, by_membership, sizes, sorts_in}
use Rattle.mau_evaluation.proofs.Listed.{split_append}
use Rattle.mau_deriving.specs.Known.{IsKnownFrom, EndsWith, AreKnownFrom}
use Rattle.mau_deriving.specs.Answered.{WasAnswered}
use Rattle.mau_deriving.specs.Given.{asks_by, sorts_on, HaveGiven}
use Rattle.mau_deriving.specs.Derivations.{head_binding, AreAnswered, AreOpen, found_after, IsDeriving}
use Rattle.mau_deriving.proofs.Known.{known_more}
use Rattle.mau_deriving.proofs.Members.{not_had, was_told, ends_asked, skipped, passed, member_ends, ends_in_member}

-- ---- lists

pub split_at : {A : Type 0} (xs : List A) (i : ℕ) (x : A) → slice_get xs i ≡ Some x → (more : List A) × (xs ≡ take i xs ++ x ∷ more)
split_at [] i x e = cc
split_at (y ∷ xs) zero x e = let same : y ≡ x = cc in (xs, ap (λ z. z ∷ xs) same)
split_at (y ∷ xs) (suc i) x e = let r = split_at xs i x e in (r.0, ap (λ zs. y ∷ zs) r.1)

pub take_next : {A : Type 0} (xs : List A) (i : ℕ) (x : A) → slice_get xs i ≡ Some x → take (suc i) xs ≡ take i xs ++ x ∷ []
take_next [] i x e = cc
take_next (y ∷ xs) zero x e = let same : y ≡ x = cc in ap (λ z. z ∷ []) same
take_next (y ∷ xs) (suc i) x e = ap (λ zs. y ∷ zs) (take_next xs i x e)

pub take_whole : {A : Type 0} (xs : List A) (n : ℕ) → length xs ≤ n → take n xs ≡ xs
take_whole [] zero l = refl
take_whole [] (suc n) l = refl
take_whole (x ∷ xs) zero l = absurd (omega arith)
take_whole (x ∷ xs) (suc n) l = ap (λ zs. x ∷ zs) (take_whole xs n (omega arith))

joined_more : (xss : List (List ℕ)) (ys : List ℕ) (r : ℕ) → IsIn r (joined (xss ++ ys ∷ [])) ↔ (IsIn r (joined xss) ⊎ IsIn r ys)
joined_more xss ys r = (there xss, back xss)
  where
    left : (xs zs : List ℕ) → IsIn r xs → IsIn r (xs ++ zs)
    left [] zs i = absurd i
    left (x ∷ xs) zs (inl e) = inl e
    left (x ∷ xs) zs (inr i) = inr (left xs zs i)

    right : (xs zs : List ℕ) → IsIn r zs → IsIn r (xs ++ zs)
    right [] zs i = i
    right (x ∷ xs) zs i = inr (right xs zs i)

    there : (wss : List (List ℕ)) → IsIn r (joined (wss ++ ys ∷ [])) → IsIn r (joined wss) ⊎ IsIn r ys
    there [] i = inr (subst (IsIn r) (append-nil ys) i)
    there (ws ∷ wss) i = by (split_append r ws (joined (wss ++ ys ∷ [])) i) (there wss)
      where
        after : IsIn r (joined wss) ⊎ IsIn r ys → IsIn r (ws ++ joined wss) ⊎ IsIn r ys
        after (inl j) = inl (right ws (joined wss) j)
        after (inr j) = inr j

        by : IsIn r ws ⊎ IsIn r (joined (wss ++ ys ∷ [])) → (IsIn r (joined (wss ++ ys ∷ [])) → IsIn r (joined wss) ⊎ IsIn r ys) → IsIn r (ws ++ joined wss) ⊎ IsIn r ys
        by (inl j) rest = inl (left ws (joined wss) j)
        by (inr j) rest = after (rest j)

    back : (wss : List (List ℕ)) → IsIn r (joined wss) ⊎ IsIn r ys → IsIn r (joined (wss ++ ys ∷ []))
    back [] (inl i) = absurd i
    back [] (inr i) = subst (IsIn r) (sym (append-nil ys)) i
    back (ws ∷ wss) (inl i) = by (split_append r ws (joined wss) i) (λ j. back wss (inl j))
      where
        by : IsIn r ws ⊎ IsIn r (joined wss) → (IsIn r (joined wss) → IsIn r (joined (wss ++ ys ∷ []))) → IsIn r (ws ++ joined (wss ++ ys ∷ []))
        by (inl j) rest = left ws (joined (wss ++ ys ∷ [])) j
        by (inr j) rest = right ws (joined (wss ++ ys ∷ [])) (rest j)
    back (ws ∷ wss) (inr i) = right ws (joined (wss ++ ys ∷ [])) (back wss (inr i))

any_more : (bs : List Bool) (b : Bool) → any (bs ++ b ∷ []) ≡ (any bs || b)
any_more [] true = refl
any_more [] false = refl
any_more (true ∷ bs) b = refl
any_more (false ∷ bs) b = any_more bs b

-- ---- one membership

module _ (P : Program) (B f : ℕ) (ts : Trees) where
  abbrev smaller : ℕ → Tree → Run (List ℕ)
  smaller j = sorts_in P B (asks_by P B j) (sizes ts)

  abbrev member : ℕ → Membership → Run (List ℕ)
  member j = by_membership P B (asks_by P B j) (sorts_in P B (asks_by P B j) (sizes ts)) (apply f ts)

  module _ (m : Membership) (test : Solution → Bool) where
    abbrev holds : ℕ → Solution → Run Bool
    holds j = holds_for P B (asks_by P B j) (sorts_in P B (asks_by P B j) (sizes ts)) m

    abbrev Tells : List Solution → Type 0
    Tells xs = (x : Solution) → IsIn x xs → IsKnownFrom (λ j. have_sorts (sorts_in P B (asks_by P B j) (sizes ts)) (variables m.left) x.values) (test x)

    abbrev questions : List Solution → List Binding
    questions xs = map (head_binding m) (keep test xs)

    -- what is known of the solutions of which all questions were answered
    record AreSo (xs : List Solution) (bs : List Bool) : Type 0 where
      all : List Bool
      known : AreKnownFrom (λ j. holds_for P B (asks_by P B j) (sorts_in P B (asks_by P B j) (sizes ts)) m) xs all
      same : any all ≡ any bs

    all_answered : (xs : List Solution) (bs : List Bool) → Tells xs → AreAnswered P B m.cond (map (head_binding m) (keep test xs)) bs → AreSo xs bs
    all_answered [] [] tells a = record { all = []; known = tt; same = refl }
    all_answered [] (b ∷ bs) tells a = absurd a
    all_answered (x ∷ xs) bs tells a = by (test x) refl a (λ cs c. all_answered xs cs (λ y i. tells y (inr i)) c)
      where
        after : (cs : List Bool) (b : Bool) → AreSo xs cs → IsKnownFrom (λ j. holds j x) b → (b || any cs) ≡ any bs → AreSo (x ∷ xs) bs
        after cs b rest k e = record { all = b ∷ rest.all; known = (k, rest.known); same = ap (λ w. b || w) rest.same ∙ e }

        asked : (cs : List Bool) → test x ≡ true → cs ≡ bs → AreAnswered P B m.cond (head_binding m x ∷ questions xs) cs → ((ds : List Bool) → AreAnswered P B m.cond (questions xs) ds → AreSo xs ds) → AreSo (x ∷ xs) bs
        asked [] e same c rest = absurd c
        asked (c ∷ cs) e same d rest =
            after cs c (rest cs d.1)
            (was_told P B (λ j. smaller j) m x c (subst (λ w. IsKnownFrom (λ j. have_sorts (smaller j) (variables m.left) x.values) w) e (tells x (inl refl))) d.0) (ap any same)

        by : (w : Bool) → test x ≡ w → AreAnswered P B m.cond (map (head_binding m) (if w then x ∷ keep test xs else keep test xs)) bs →
            ((ds : List Bool) → AreAnswered P B m.cond (questions xs) ds → AreSo xs ds) → AreSo (x ∷ xs) bs
        by true e c rest = asked bs e refl c rest
        by false e c rest = after bs false (rest bs c) (not_had P B (λ j. smaller j) m x (subst (λ w. IsKnownFrom (λ j. have_sorts (smaller j) (variables m.left) x.values) w) e (tells x (inl refl)))) refl

    -- where one more question is asked
    record IsAsked (xs : List Solution) (σ : Binding) : Type 0 where
      front : List Solution
      all : List Bool
      x : Solution
      rest : List Solution
      split : xs ≡ front ++ x ∷ rest
      known : AreKnownFrom (λ j. holds_for P B (asks_by P B j) (sorts_in P B (asks_by P B j) (sizes ts)) m) front all
      has : IsKnownFrom (λ j. have_sorts (sorts_in P B (asks_by P B j) (sizes ts)) (variables m.left) x.values) true
      is : head_binding m x ≡ σ

    one_asked : (xs : List Solution) (n : ℕ) (bs : List Bool) (σ : Binding) → Tells xs → slice_get (map (head_binding m) (keep test xs)) n ≡ Some σ →
        AreAnswered P B m.cond (take n (map (head_binding m) (keep test xs))) bs → IsAsked xs σ
    one_asked [] n bs σ tells at a = cc
    one_asked (x ∷ xs) n bs σ tells at a = by (test x) refl n at bs a (λ k cs e c. one_asked xs k cs σ (λ y i. tells y (inr i)) e c)
      where
        further : (b : Bool) → IsKnownFrom (λ j. holds j x) b → IsAsked xs σ → IsAsked (x ∷ xs) σ
        further b k rest = record {
          front = x ∷ rest.front;
          all = b ∷ rest.all;
          x = rest.x;
          rest = rest.rest;
          split = ap (λ zs. x ∷ zs) rest.split;
          known = (k, rest.known);
          has = rest.has;
          is = rest.is;
        }

        Rest : Type 0
        Rest = (k : ℕ) (cs : List Bool) → slice_get (questions xs) k ≡ Some σ → AreAnswered P B m.cond (take k (questions xs)) cs → IsAsked xs σ

        asked : test x ≡ true → (k : ℕ) → slice_get (head_binding m x ∷ questions xs) k ≡ Some σ → (cs : List Bool) → AreAnswered P B m.cond (take k (head_binding m x ∷ questions xs)) cs →
            ((k : ℕ) (cs : List Bool) → slice_get (questions xs) k ≡ Some σ → AreAnswered P B m.cond (take k (questions xs)) cs → IsAsked xs σ) → IsAsked (x ∷ xs) σ
        asked e zero h cs c rest =
            let same : head_binding m x ≡ σ = cc in
            record {
              front = [];
              all = [];
              x = x;
              rest = xs;
              split = refl;
              known = tt;
              has = subst (λ w. IsKnownFrom (λ j. have_sorts (smaller j) (variables m.left) x.values) w) e (tells x (inl refl));
              is = same;
            }
        asked e (suc k) h [] c rest = absurd c
        asked e (suc k) h (b ∷ cs) c rest =
            further b (was_told P B (λ j. smaller j) m x b (subst (λ w. IsKnownFrom (λ j. have_sorts (smaller j) (variables m.left) x.values) w) e (tells x (inl refl))) c.0) (rest k cs h c.1)

        by : (w : Bool) → test x ≡ w → (k : ℕ) → slice_get (map (head_binding m) (if w then x ∷ keep test xs else keep test xs)) k ≡ Some σ → (cs : List Bool) →
            AreAnswered P B m.cond (take k (map (head_binding m) (if w then x ∷ keep test xs else keep test xs))) cs →
            ((k : ℕ) (cs : List Bool) → slice_get (questions xs) k ≡ Some σ → AreAnswered P B m.cond (take k (questions xs)) cs → IsAsked xs σ) → IsAsked (x ∷ xs) σ
        by true e k h cs c rest = asked e k h cs c rest
        by false e k h cs c rest =
            further false (not_had P B (λ j. smaller j) m x (subst (λ w. IsKnownFrom (λ j. have_sorts (smaller j) (variables m.left) x.values) w) e (tells x (inl refl)))) (rest k cs h c)

  -- ---- the whole

  module _ (h : Hierarchy) where
    pub begun : (qs : List Binding) → ((m : Membership) → slice_get P.memberships 0 ≡ Some m → AreOpen P B f ts m qs) → IsDeriving P B f ts h 0 0 qs false []
    begun qs opened = record {
      given = [];
      known = tt;
      exact = λ r. ((λ i. absurd i), (λ a. absurd (IsAbove-nil h r a)));
      opened = opened;
      answers = [];
      answered = λ m e. tt;
      is = refl;
      some = omega arith;
    }

    answered_more : (c : List Fragment) (qs : List Binding) (bs : List Bool) (σ : Binding) (b : Bool) → AreAnswered P B c qs bs → WasAnswered P B c σ b → AreAnswered P B c (qs ++ σ ∷ []) (bs ++ b ∷ [])
    answered_more c [] [] σ b a w = (w, tt)
    answered_more c [] (d ∷ bs) σ b a w = absurd a
    answered_more c (τ ∷ qs) [] σ b a w = absurd a
    answered_more c (τ ∷ qs) (d ∷ bs) σ b a w = (a.0, answered_more c qs bs σ b a.1 w)

    within : {A : Type 0} (xs : List A) (i : ℕ) (x : A) → slice_get xs i ≡ Some x → suc i ≤ length xs
    within [] i x e = cc
    within (y ∷ xs) zero x e = omega arith
    within (y ∷ xs) (suc i) x e = let l = within xs i x e in omega arith

    -- an answer
    pub told : (at asked : ℕ) (qs : List Binding) (was : Bool) (found : List ℕ) → IsDeriving P B f ts h at asked qs was found → (m : Membership) → slice_get P.memberships at ≡ Some m →
        (σ : Binding) → slice_get qs asked ≡ Some σ → (b : Bool) → WasAnswered P B m.cond σ b → IsDeriving P B f ts h at (suc asked) qs (was || b) found
    told at asked qs was found d m e σ q b w = record {
      given = d.given;
      known = d.known;
      exact = d.exact;
      opened = d.opened;
      answers = d.answers ++ b ∷ [];
      answered = λ n i.
          let same : m ≡ n = (let z : Some m ≡ Some n = sym e ∙ i in cc) in
          subst (λ zs. AreAnswered P B n.cond zs (d.answers ++ b ∷ [])) (sym (take_next qs asked σ q))
          (answered_more n.cond (take asked qs) d.answers σ b (d.answered n i) (subst (λ (k : Membership). WasAnswered P B k.cond σ b) same w));
      is = any_more d.answers b ∙ ap (λ v. v || b) d.is;
      some = within qs asked σ q;
    }

    -- where a condition is asked and ends, the sorts of the term end
    pub asked_ends : (at asked : ℕ) (qs : List Binding) (was : Bool) (found : List ℕ) → IsDeriving P B f ts h at asked qs was found → (m : Membership) → slice_get P.memberships at ≡ Some m →
        (σ : Binding) → slice_get qs asked ≡ Some σ → (args : List (List ℕ)) → AreKnownFrom (λ j. sorts_in P B (asks_by P B j) (sizes ts)) (list_of ts) args →
        EndsWith (λ j. sorts_on P B j (apply f ts)) (λ j. asks_by P B j m.cond σ B)
    asked_ends at asked qs was found d m e σ q args k = by m.exec refl
      where
        here : List Binding → Type 0
        here zs = slice_get zs asked ≡ Some σ

        nothing : (k : ℕ) → slice_get [] k ≡ Some σ → EndsWith (λ j. sorts_on P B j (apply f ts)) (λ j. asks_by P B j m.cond σ B)
        nothing k z = cc

        by : (w : Bool) → m.exec ≡ w → EndsWith (λ j. sorts_on P B j (apply f ts)) (λ j. asks_by P B j m.cond σ B)
        by false x = let none = (d.opened m e).others x in nothing asked (subst here none q)
        by true x =
            let own = (d.opened m e).executable x in
            let one = one_asked m own.test (solutions P.sign m.left (apply f ts)) asked d.answers σ own.tells (subst (λ zs. slice_get zs asked ≡ Some σ) own.are q)
            (subst (λ zs. AreAnswered P B m.cond (take asked zs) d.answers) own.are (d.answered m e)) in
            let s = split_at P.memberships at m e in
            ends_in_member P B (sizes ts) f ts (λ j. asks_by P B j m.cond σ B) args d.given (take at P.memberships) m s.0 k s.1 d.known
            (member_ends P B (λ j. smaller j) (apply f ts) m (λ j. asks_by P B j m.cond σ B) x one.front one.all one.x one.rest one.split one.known
            (subst (λ τ. EndsWith (λ j. holds_for P B (asks_by P B j) (smaller j) m one.x) (λ j. asks_by P B j m.cond τ B)) one.is (ends_asked P B (λ j. smaller j) m one.x one.has)))

    -- what a membership gave of which all questions were answered
    gave : (at : ℕ) (qs : List Binding) (was : Bool) (found : List ℕ) → IsDeriving P B f ts h at (length qs) qs was found → (m : Membership) → slice_get P.memberships at ≡ Some m →
        IsKnownFrom (λ j. by_membership P B (asks_by P B j) (sorts_in P B (asks_by P B j) (sizes ts)) (apply f ts) m) (if was then P.above m.sort else [])
    gave at qs was found d m e = by m.exec refl
      where
        none_answered : (bs : List Bool) → AreAnswered P B m.cond [] bs → any bs ≡ false
        none_answered [] a = refl
        none_answered (b ∷ bs) a = absurd a

        by : (w : Bool) → m.exec ≡ w → IsKnownFrom (λ j. member j m) (if was then P.above m.sort else [])
        by false x =
            let none : qs ≡ [] = (d.opened m e).others x in
            let a = subst (λ zs. AreAnswered P B m.cond zs d.answers) (take_whole qs (length qs) (omega arith) ∙ none) (d.answered m e) in
            let no : was ≡ false = sym d.is ∙ none_answered d.answers a in
            subst (λ v. IsKnownFrom (λ j. member j m) (if v then P.above m.sort else [])) (sym no) (skipped P B (λ j. smaller j) (apply f ts) m x)
        by true x =
            let own = (d.opened m e).executable x in
            let a = subst (λ zs. AreAnswered P B m.cond zs d.answers) (take_whole qs (length qs) (omega arith) ∙ own.are) (d.answered m e) in
            let all = all_answered m own.test (solutions P.sign m.left (apply f ts)) d.answers own.tells a in
            subst (λ v. IsKnownFrom (λ j. member j m) (if v then P.above m.sort else [])) (all.same ∙ d.is) (passed P B (λ j. smaller j) (apply f ts) m x all.all all.known)

    -- the next membership
    pub advanced : (at : ℕ) (qs : List Binding) (was : Bool) (found : List ℕ) → IsDeriving P B f ts h at (length qs) qs was found → (m : Membership) → slice_get P.memberships at ≡ Some m →
        ((r : ℕ) → IsIn r (P.above m.sort) ↔ IsAtOrBelow h m.sort r) →
        (next : List Binding) → ((n : Membership) → slice_get P.memberships (suc at) ≡ Some n → AreOpen P B f ts n next) →
        IsDeriving P B f ts h (suc at) 0 next false (found_after was found m.sort)
    advanced at qs was found d m e above next opened = record {
      given = d.given ++ (if was then P.above m.sort else []) ∷ [];
      known = subst (λ ms. AreKnownFrom member ms (d.given ++ (if was then P.above m.sort else []) ∷ [])) (sym (take_next P.memberships at m e))
          (known_more member (take at P.memberships) d.given m (if was then P.above m.sort else []) d.known (gave at qs was found d m e));
      exact = λ r. by r was;
      opened = opened;
      answers = [];
      answered = λ n i. tt;
      is = refl;
      some = omega arith;
    }
      where
        by : (r : ℕ) (w : Bool) → IsIn r (joined (d.given ++ (if w then P.above m.sort else []) ∷ [])) ↔ IsAbove h (found_after w found m.sort) r
        by r true =
            let j = joined_more d.given (P.above m.sort) r in
            let p = IsAbove-push h found m.sort r in (
              (λ i. p.1 (⊎_elim (λ (a : IsIn r (joined d.given)). inl ((d.exact r).0 a)) (λ (a : IsIn r (P.above m.sort)). inr ((above r).0 a)) (j.0 i))),
              (λ a. j.1 (⊎_elim (λ (b : IsAbove h found r). inl ((d.exact r).1 b)) (λ (b : IsAtOrBelow h m.sort r). inr ((above r).1 b)) (p.0 a))),
            )
        by r false =
            let j = joined_more d.given [] r in (
              (λ i. (d.exact r).0 (⊎_elim (λ (a : IsIn r (joined d.given)). a) (λ (a : IsIn r []). absurd a) (j.0 i))),
              (λ a. j.1 (inl ((d.exact r).1 a))),
            )

    -- all memberships are done with
    pub finished : (at asked : ℕ) (qs : List Binding) (was : Bool) (found : List ℕ) → IsDeriving P B f ts h at asked qs was found → length P.memberships ≤ at → HaveGiven P B h f ts found
    finished at asked qs was found d l = record {
      given = d.given;
      known = subst (λ ms. AreKnownFrom member ms d.given) (take_whole P.memberships at l) d.known;
      exact = d.exact;
    }
