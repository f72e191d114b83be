-- The arguments that an evaluation went through, by their places.
use Rattle.std.proofs.Common.{◌≡◌, ℕ, zero, suc, ◌+◌, Bool, true, false, ◌==◌, ◌&&◌, ◌||◌, List, [], ◌∷◌, Option, Some, None, ◌⊎◌, inl, inr, refl, sym, ◌∙◌, ap, subst, arith, eq-eqb, eqb-true}
use Rattle.mau_terms.specs.Tree.{Tree}
use Rattle.mau_terms.proofs.Pieces.{Each}
use Rattle.mau_evaluation.specs.Run.{done, Run, gives}
use Rattle.mau_evaluation.specs.Program.{Program}
use Rattle.mau_evaluation.specs.Evaluation.{has_number, Level, at, put, count_up, names_all, put_value, in_places}
use Rattle.mau_evaluation.proofs.Invert.{went, same_value}

abbrev tree_or : Tree → Option Tree → Tree
tree_or t (Some v) = v
tree_or t None = t

pub some_tree : {v w : Tree} → Some v ≡ Some w → v ≡ w
some_tree {v = v} e = ap (tree_or v) e

at-put_same : (ts : List Tree) (i : ℕ) (v w : Tree) → at (put ts i v) i ≡ Some w → v ≡ w
at-put_same [] i v w e = cc
at-put_same (t ∷ ts) zero v w e = some_tree e
at-put_same (t ∷ ts) (suc i) v w e = at-put_same ts i v w e

apart_numbers : (i j : ℕ) → (i == j) ≡ false → i ≡ j → ⊥
apart_numbers i j e q = no_such (sym (eq-eqb i j q) ∙ e)
  where
    no_such : true ≡ false → ⊥
    no_such e = cc

at-put_other : (ts : List Tree) (i j : ℕ) (v : Tree) → (i ≡ j → ⊥) → at (put ts i v) j ≡ at ts j
at-put_other [] i j v e = refl
at-put_other (t ∷ ts) zero zero v e = absurd (e refl)
at-put_other (t ∷ ts) zero (suc j) v e = refl
at-put_other (t ∷ ts) (suc i) zero v e = refl
at-put_other (t ∷ ts) (suc i) (suc j) v e = at-put_other ts i j v (λ q. e (ap suc q))

count_up-put : (n : ℕ) (ts : List Tree) (i : ℕ) (v : Tree) → count_up n (put ts i v) ≡ count_up n ts
count_up-put n [] i v = refl
count_up-put n (t ∷ ts) zero v = refl
count_up-put n (t ∷ ts) (suc i) v = ap (λ w. n ∷ w) (count_up-put (suc n) ts i v)

-- ---- numbers named

or_left : (a b : Bool) → a ≡ true → (a || b) ≡ true
or_left a b e = ap (λ w. w || b) e

or_right : (a b : Bool) → b ≡ true → (a || b) ≡ true
or_right true b e = refl
or_right false b e = e

and_both : (a b : Bool) → a ≡ true → b ≡ true → (a && b) ≡ true
and_both a b e h = ap (λ w. w && b) e ∙ h

pub both_of : (a b : Bool) → (a && b) ≡ true → (a ≡ true) × (b ≡ true)
both_of true b e = (refl, e)
both_of false b e = cc

names_more : (xs ys : List ℕ) (y : ℕ) → names_all xs ys ≡ true → names_all xs (y ∷ ys) ≡ true
names_more [] ys y e = refl
names_more (x ∷ xs) ys y e =
    let p = both_of (has_number ys x) (names_all xs ys) e in
    and_both (has_number (y ∷ ys) x) (names_all xs (y ∷ ys)) (or_right (y == x) (has_number ys x) p.0) (names_more xs ys y p.1)

pub names_itself : (xs : List ℕ) → names_all xs xs ≡ true
names_itself [] = refl
names_itself (x ∷ xs) = and_both (has_number (x ∷ xs) x) (names_all xs (x ∷ xs)) (or_left (x == x) (has_number xs x) (eq-eqb x x refl)) (names_more xs xs x (names_itself xs))

module _ (Q : Tree → Type 0) where
  abbrev pub Good : List Tree → ℕ → Type 0
  Good ts j = (v : Tree) → at ts j ≡ Some v → Q v

  pub each_good : (is : List ℕ) (n : ℕ) (ts : List Tree) → names_all (count_up n ts) is ≡ true → ((j k : ℕ) → k ≡ n + j → has_number is k ≡ true → Good ts j) → Each Q ts
  each_good is n [] e h = tt
  each_good is n (t ∷ ts) e h =
      let p = both_of (has_number is n) (names_all (count_up (suc n) ts) is) e in
      (h 0 n (omega arith) p.0 t refl, each_good is (suc n) ts p.1 (λ j k q i. h (suc j) k (later n j k q) i))
    where
      later : (n j k : ℕ) → k ≡ suc n + j → k ≡ n + suc j
      later n j k q = omega arith

  module _ (P : Program) (l : Level) (f : Tree → Run (List ℕ)) (h : (t : Tree) (b : ℕ) (v : Tree) (r b' : ℕ) → l.eval t b ≡ done v r b' → Q v) where
    put_good : (ts us : List Tree) (i : ℕ) (o : Option Tree) (b r b' : ℕ) → at ts i ≡ o → put_value P l f l.eval ts i o b ≡ done us r b' → (j : ℕ) →
        ((i == j) ≡ true → Good us j) × ((i == j) ≡ false → Good ts j → Good us j)
    put_good ts us i None b r b' a e j = (
      λ q v p. absurd (none_some v (sym a ∙ (ap (λ n. at ts n) (eqb-true i j q) ∙ (ap (λ w. at w j) (same_value e) ∙ p)))),
      λ q g v p. g v (ap (λ w. at w j) (same_value e) ∙ p),
    )
      where
        none_some : (v : Tree) → None ≡ Some v → ⊥
        none_some v e = cc
    put_good ts us i (Some t) b r b' a e j =
        let w = went (l.eval t) (λ v. gives (put ts i v)) b us r b' e in (
          λ q v p. subst Q (at-put_same ts i w.middle v (ap (λ n. at (put ts i w.middle) n) (eqb-true i j q) ∙ (ap (λ z. at z j) (same_value w.second) ∙ p))) (h t b w.middle w.count w.between w.first),
          λ q g v p. g v (sym (at-put_other ts i j w.middle (apart_numbers i j q)) ∙ (ap (λ z. at z j) (same_value w.second) ∙ p)),
        )

    pub in_places_good : (is : List ℕ) (ts us : List Tree) (b r b' : ℕ) → in_places P l f is ts b ≡ done us r b' → (j : ℕ) → ((has_number is j ≡ true) ⊎ Good ts j) → Good us j
    in_places_good [] ts us b r b' e j (inl q) = absurd (no_such q)
      where
        no_such : false ≡ true → ⊥
        no_such e = cc
    in_places_good [] ts us b r b' e j (inr g) = subst (λ w. Good w j) (same_value e) g
    in_places_good (i ∷ is) ts us b r b' e j g =
        let w = went (put_value P l f l.eval ts i (at ts i)) (in_places P l f is) b us r b' e in
        let p = put_good ts w.middle i (at ts i) b w.count w.between refl w.first j in
        in_places_good is w.middle us w.between w.behind b' w.second j (by w.middle p (i == j) refl g)
      where
        by : (ws : List Tree) → ((i == j) ≡ true → Good ws j) × ((i == j) ≡ false → Good ts j → Good ws j) → (c : Bool) → (i == j) ≡ c → ((has_number (i ∷ is) j ≡ true) ⊎ Good ts j) → ((has_number is j ≡ true) ⊎ Good ws j)
        by ws p true q g = inr (p.0 q)
        by ws p false q (inl a) = inl (sym (ap (λ c. c || has_number is j) q) ∙ a)
        by ws p false q (inr a) = inr (p.1 q a)

    put_count : (ts us : List Tree) (i : ℕ) (o : Option Tree) (b r b' : ℕ) → put_value P l f l.eval ts i o b ≡ done us r b' → count_up 0 us ≡ count_up 0 ts
    put_count ts us i None b r b' e = ap (count_up 0) (sym (same_value e))
    put_count ts us i (Some t) b r b' e =
        let w = went (l.eval t) (λ v. gives (put ts i v)) b us r b' e in
        ap (count_up 0) (sym (same_value w.second)) ∙ count_up-put 0 ts i w.middle

    pub in_places_count : (is : List ℕ) (ts us : List Tree) (b r b' : ℕ) → in_places P l f is ts b ≡ done us r b' → count_up 0 us ≡ count_up 0 ts
    in_places_count [] ts us b r b' e = ap (count_up 0) (sym (same_value e))
    in_places_count (i ∷ is) ts us b r b' e =
        let w = went (put_value P l f l.eval ts i (at ts i)) (in_places P l f is) b us r b' e in
        in_places_count is w.middle us w.between w.behind b' w.second ∙ put_count ts w.middle i (at ts i) b w.count w.between w.first
