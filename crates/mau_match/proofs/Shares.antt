-- A variable that is an argument of a commutative operator more than once: each element of its list is there as often.
use Rattle.std.proofs.Common.{◌≡◌, ℕ, ◌+◌, ◌*◌, ◌/◌, ◌<◌, ◌≤◌, ◌==◌, nat_lt, List, [], ◌∷◌, ◌++◌, Bool, true, false, not, ◌&&◌, ◌||◌, Option, Some, None, inl, inr, if◌then◌else◌, refl, sym, ◌∙◌, ap, ap₂, subst, arith, ltb-true, ltb-false}
use Rattle.std.specs.Ordering.{is_gt}
use Rattle.std.proofs.Math.Nat.{mul-le-mul_left, le_of_mul-le-mul_left, le-div_iff_mul-le}
use Rattle.std.proofs.lemmas.Bool.{and_parts}
use Rattle.mau_terms.specs.Tree.{Tree, variable, numeral, apply, Trees, no_trees, tree}
use Rattle.mau_terms.specs.Order.{tree_cmp, insert_tree, sort_trees}
use Rattle.mau_terms.specs.Norm.{all_pieces, norm, norms}
use Rattle.mau_terms.specs.Lawful.{AreLawful}
use Rattle.mau_terms.specs.Subst.{Variable, same_variable, has_variable, instance, instances}
use Rattle.mau_terms.specs.Solution.{list_under}
use Rattle.mau_terms.specs.Finite.{IsIn}
use Rattle.mau_terms.specs.declared.theory.Theory.{Theory}
use Rattle.mau_terms.proofs.Variables.{same-is}
use Rattle.mau_domains.specs.Parts.{Reach, whole, front, inside, Leaves, Reaches, some_of}
use Rattle.mau_match.specs.Parts.{AnyOf, same_tree, without, without_all, weaker, from_some, is_bound, are_bound, known_in, how_many, every, copies, copies_in, is_own, are_own, own_part, shared_part, taken_part}
use Rattle.mau_match.specs.Possible.{free, frees}
use Rattle.mau_match.proofs.Removal.{same_is, same_itself, Less1, is_without, LessAll, is_without_all}
use Rattle.mau_match.proofs.KnownElements.{frees_known}
use Rattle.mau_match.proofs.Sound.{owns}

-- ---- how often an element stands in a list

pub many-append : (t : Tree) (xs ys : List Tree) → how_many t (xs ++ ys) ≡ how_many t xs + how_many t ys
many-append t [] ys = omega arith
many-append t (x ∷ xs) ys = by (same_tree t x) (many-append t xs ys)
  where
    by : (b : Bool) → how_many t (xs ++ ys) ≡ how_many t xs + how_many t ys → (if b then 1 + how_many t (xs ++ ys) else how_many t (xs ++ ys)) ≡ (if b then 1 + how_many t xs else how_many t xs) + how_many t ys
    by true e = omega (arith, e)
    by false e = e

swap_steps : (b d : Bool) (n : ℕ) → (if b then 1 + (if d then 1 + n else n) else (if d then 1 + n else n)) ≡ (if d then 1 + (if b then 1 + n else n) else (if b then 1 + n else n))
swap_steps true true n = refl
swap_steps true false n = refl
swap_steps false true n = refl
swap_steps false false n = refl

many_insert : (t u : Tree) (l : List Tree) → how_many t (insert_tree u l) ≡ how_many t (u ∷ l)
many_insert t u [] = refl
many_insert t u (v ∷ l) = by (is_gt (tree_cmp u v)) (many_insert t u l)
  where
    by : (b : Bool) → how_many t (insert_tree u l) ≡ how_many t (u ∷ l) → how_many t (if b then v ∷ insert_tree u l else u ∷ v ∷ l) ≡ how_many t (u ∷ v ∷ l)
    by true e = ap (λ n. if same_tree t v then 1 + n else n) e ∙ swap_steps (same_tree t v) (same_tree t u) (how_many t l)
    by false e = refl

many_sort : (t : Tree) (l : List Tree) → how_many t (sort_trees l) ≡ how_many t l
many_sort t [] = refl
many_sort t (u ∷ l) = many_insert t u (sort_trees l) ∙ ap (λ n. if same_tree t u then 1 + n else n) (many_sort t l)

pub many_same : (t : Tree) (a b : List Tree) → sort_trees a ≡ sort_trees b → how_many t a ≡ how_many t b
many_same t a b e = sym (many_sort t a) ∙ ap (how_many t) e ∙ many_sort t b

many_itself : (t : Tree) (l : List Tree) → how_many t (t ∷ l) ≡ 1 + how_many t l
many_itself t l = ap (λ b. if b then 1 + how_many t l else how_many t l) (same_itself t)

many_other : (t u : Tree) (l : List Tree) → same_tree t u ≡ false → how_many t (u ∷ l) ≡ how_many t l
many_other t u l e = ap (λ b. if b then 1 + how_many t l else how_many t l) e

none_many : (t : Tree) (us : List Tree) → (IsIn t us → ⊥) → how_many t us ≡ 0
none_many t [] n = refl
none_many t (u ∷ us) n = by (same_tree t u) refl (none_many t us (λ i. n (inr i)))
  where
    by : (b : Bool) → same_tree t u ≡ b → how_many t us ≡ 0 → (if b then 1 + how_many t us else how_many t us) ≡ 0
    by true e h = absurd (n (inl (same_is t u e)))
    by false e h = h

-- a list each element of which stands as often in another is a part of that
covered : (xs ys : List Tree) → ((t : Tree) → how_many t xs ≤ how_many t ys) → (rest : List Tree) × (sort_trees (xs ++ rest) ≡ sort_trees ys)
covered [] ys h = (ys, refl)
covered (x ∷ xs) ys h = by (without x ys) (is_without x ys) (λ vs k. covered xs vs k)
  where
    less : (vs : List Tree) → sort_trees (x ∷ vs) ≡ sort_trees ys → (t : Tree) → how_many t xs ≤ how_many t vs
    less vs e t = at (same_tree t x) (many_same t (x ∷ vs) ys e) (h t)
      where
        at : (b : Bool) → (if b then 1 + how_many t vs else how_many t vs) ≡ how_many t ys → (if b then 1 + how_many t xs else how_many t xs) ≤ how_many t ys → how_many t xs ≤ how_many t vs
        at true k l = omega (arith, k, l)
        at false k l = omega (arith, k, l)

    by : (o : Option (List Tree)) → Less1 x ys o → ((vs : List Tree) → ((t : Tree) → how_many t xs ≤ how_many t vs) → (rest : List Tree) × (sort_trees (xs ++ rest) ≡ sort_trees vs)) → (rest : List Tree) × (sort_trees (x ∷ (xs ++ rest)) ≡ sort_trees ys)
    by None n ih = absurd (omega (arith, h x, none_many x ys n, many_itself x xs))
    by (Some vs) e ih = let r = ih vs (less vs e) in (r.0, ap (insert_tree x) r.1 ∙ e)

nothing_left : (rest : List Tree) → ((t : Tree) → how_many t rest ≡ 0) → rest ≡ []
nothing_left [] h = refl
nothing_left (r ∷ rest) h = absurd (omega (arith, h r, many_itself r rest))

-- ---- every so manieth of equal elements

kept_more : (m e c : ℕ) → 0 < m → nat_lt e ((c + 1) / m) ≡ true → m * (e + 1) ≤ c + 1
kept_more m e c p h =
    let k : e + 1 ≤ (c + 1) / m = omega (arith, ltb-true e ((c + 1) / m) h) in
    let l : (e + 1) * m ≤ c + 1 = (le-div_iff_mul-le {k = m} {x = e + 1} {y = c + 1} p).0 k in
    omega (arith, l)

kept_same : (m e c : ℕ) → 0 < m → nat_lt e ((c + 1) / m) ≡ false → c + 1 < m * e + m
kept_same m e c p h = by (nat_lt (c + 1) (m * e + m)) refl
  where
    by : (b : Bool) → nat_lt (c + 1) (m * e + m) ≡ b → c + 1 < m * e + m
    by true k = ltb-true (c + 1) (m * e + m) k
    by false k =
        let l : (e + 1) * m ≤ c + 1 = omega (arith, ltb-false (c + 1) (m * e + m) k) in
        let n : e + 1 ≤ (c + 1) / m = (le-div_iff_mul-le {k = m} {x = e + 1} {y = c + 1} p).1 l in
        absurd (omega (arith, n, ltb-false e ((c + 1) / m) h))

record IsThinned (m e c r u : ℕ) : Type 0 where
  enough : m * (e + r) ≤ c + u
  few : c + u < m * (e + r) + m

thinned : (m : ℕ) → 0 < m → (t : Tree) (seen kept us : List Tree) → m * how_many t kept ≤ how_many t seen → how_many t seen < m * how_many t kept + m
    → IsThinned m (how_many t kept) (how_many t seen) (how_many t (every m seen kept us)) (how_many t us)
thinned m p t seen kept [] h k = record { enough = omega (arith, h); few = omega (arith, k) }
thinned m p t seen kept (u ∷ us) h k =
    by (same_tree t u) refl (nat_lt (how_many u kept) ((how_many u seen + 1) / m)) refl (thinned m p t (seen ++ u ∷ []) (kept ++ u ∷ []) us) (thinned m p t (seen ++ u ∷ []) kept us)
  where
    by : (b : Bool) → same_tree t u ≡ b → (d : Bool) → nat_lt (how_many u kept) ((how_many u seen + 1) / m) ≡ d
        → (m * how_many t (kept ++ u ∷ []) ≤ how_many t (seen ++ u ∷ []) → how_many t (seen ++ u ∷ []) < m * how_many t (kept ++ u ∷ []) + m → IsThinned m (how_many t (kept ++ u ∷ [])) (how_many t (seen ++ u ∷ [])) (how_many t (every m (seen ++ u ∷ []) (kept ++ u ∷ []) us)) (how_many t us))
        → (m * how_many t kept ≤ how_many t (seen ++ u ∷ []) → how_many t (seen ++ u ∷ []) < m * how_many t kept + m → IsThinned m (how_many t kept) (how_many t (seen ++ u ∷ [])) (how_many t (every m (seen ++ u ∷ []) kept us)) (how_many t us))
        → IsThinned m (how_many t kept) (how_many t seen) (how_many t (if d then u ∷ every m (seen ++ u ∷ []) (kept ++ u ∷ []) us else every m (seen ++ u ∷ []) kept us)) (if b then 1 + how_many t us else how_many t us)
    by true s d j more less =
        let same : t ≡ u = same_is t u s in
        let one : (l : List Tree) → how_many t (l ++ u ∷ []) ≡ how_many t l + 1 = (λ l. many-append t l (u ∷ []) ∙ ap (λ b. how_many t l + (if b then 1 + 0 else 0)) s) in
        at d (subst (λ w. nat_lt (how_many w kept) ((how_many w seen + 1) / m) ≡ d) (sym same) j) (one seen) (one kept)
      where
        at : (d : Bool) → nat_lt (how_many t kept) ((how_many t seen + 1) / m) ≡ d → how_many t (seen ++ u ∷ []) ≡ how_many t seen + 1 → how_many t (kept ++ u ∷ []) ≡ how_many t kept + 1
            → IsThinned m (how_many t kept) (how_many t seen) (how_many t (if d then u ∷ every m (seen ++ u ∷ []) (kept ++ u ∷ []) us else every m (seen ++ u ∷ []) kept us)) (1 + how_many t us)
        at true i sn kn =
            let x : m * (how_many t kept + 1) ≤ how_many t seen + 1 = kept_more m (how_many t kept) (how_many t seen) p i in
            let y : m * how_many t (kept ++ u ∷ []) ≡ m * (how_many t kept + 1) = ap (λ n. m * n) kn in
            let r = more (omega (arith, x, y, sn)) (omega (arith, y, sn, k)) in
            let z : how_many t (u ∷ every m (seen ++ u ∷ []) (kept ++ u ∷ []) us) ≡ 1 + how_many t (every m (seen ++ u ∷ []) (kept ++ u ∷ []) us) = ap (λ b. if b then 1 + how_many t (every m (seen ++ u ∷ []) (kept ++ u ∷ []) us) else how_many t (every m (seen ++ u ∷ []) (kept ++ u ∷ []) us)) s in
            subst (λ n. IsThinned m (how_many t kept) (how_many t seen) n (1 + how_many t us)) (sym z)
            (moved (how_many t kept) (how_many t seen) (how_many t (every m (seen ++ u ∷ []) (kept ++ u ∷ []) us)) (how_many t us) (subst (λ n. IsThinned m n (how_many t seen + 1) (how_many t (every m (seen ++ u ∷ []) (kept ++ u ∷ []) us)) (how_many t us)) kn (subst (λ n. IsThinned m (how_many t (kept ++ u ∷ [])) n (how_many t (every m (seen ++ u ∷ []) (kept ++ u ∷ []) us)) (how_many t us)) sn r)))
          where
            moved : (e c r n : ℕ) → IsThinned m (e + 1) (c + 1) r n → IsThinned m e c (1 + r) (1 + n)
            moved e c r n w = record { enough = omega (arith, w.enough); few = omega (arith, w.few) }
        at false i sn kn =
            let x : how_many t seen + 1 < m * how_many t kept + m = kept_same m (how_many t kept) (how_many t seen) p i in
            let r = less (omega (arith, h, sn)) (omega (arith, x, sn)) in
            moved (how_many t kept) (how_many t seen) (how_many t (every m (seen ++ u ∷ []) kept us)) (how_many t us) (subst (λ n. IsThinned m (how_many t kept) n (how_many t (every m (seen ++ u ∷ []) kept us)) (how_many t us)) sn r)
          where
            moved : (e c r n : ℕ) → IsThinned m e (c + 1) r n → IsThinned m e c r (1 + n)
            moved e c r n w = record { enough = omega (arith, w.enough); few = omega (arith, w.few) }
    by false s d j more less = at d
      where
        none : (l : List Tree) → how_many t (l ++ u ∷ []) ≡ how_many t l
        none l = many-append t l (u ∷ []) ∙ ap (λ b. how_many t l + (if b then 1 + 0 else 0)) s ∙ (let z : how_many t l + 0 ≡ how_many t l = omega arith in z)

        at : (d : Bool) → IsThinned m (how_many t kept) (how_many t seen) (how_many t (if d then u ∷ every m (seen ++ u ∷ []) (kept ++ u ∷ []) us else every m (seen ++ u ∷ []) kept us)) (how_many t us)
        at true =
            let r = more (subst (λ n. m * n ≤ how_many t (seen ++ u ∷ [])) (sym (none kept)) (subst (λ n. m * how_many t kept ≤ n) (sym (none seen)) h)) (subst (λ n. how_many t (seen ++ u ∷ []) < m * n + m) (sym (none kept)) (subst (λ n. n < m * how_many t kept + m) (sym (none seen)) k)) in
            subst (λ n. IsThinned m (how_many t kept) (how_many t seen) n (how_many t us)) (sym (many_other t u (every m (seen ++ u ∷ []) (kept ++ u ∷ []) us) s))
            (subst (λ n. IsThinned m n (how_many t seen) (how_many t (every m (seen ++ u ∷ []) (kept ++ u ∷ []) us)) (how_many t us)) (none kept) (subst (λ n. IsThinned m (how_many t (kept ++ u ∷ [])) n (how_many t (every m (seen ++ u ∷ []) (kept ++ u ∷ []) us)) (how_many t us)) (none seen) r))
        at false =
            let r = less (subst (λ n. m * how_many t kept ≤ n) (sym (none seen)) h) (subst (λ n. n < m * how_many t kept + m) (sym (none seen)) k) in
            subst (λ n. IsThinned m (how_many t kept) n (how_many t (every m (seen ++ u ∷ []) kept us)) (how_many t us)) (none seen) r

-- ---- the variable among the arguments

-- the list fs has xs so many times, and the elements `more`, which are none where it is the variable's own
record HasCopies (k : ℕ) (own : Bool) (xs fs : List Tree) : Type 0 where
  more : List Tree
  counted : (t : Tree) → how_many t fs ≡ k * how_many t xs + how_many t more
  none : own ≡ true → more ≡ []

module _ (th : ℕ → Theory) (bound : List Variable) (g gg : Variable → Tree) (x : Variable) (agree : (y : Variable) → has_variable bound y ≡ true → norm th (g y) ≡ norm th (gg y)) (lawful : AreLawful th) (f : ℕ) (a : (th f).assoc ≡ true) where
  abbrev own_list : List Tree
  own_list = list_under (th f) f (norm th (gg x))

  no_copies : (b : Bool) (fs : List Tree) → fs ≡ [] → HasCopies 0 b (list_under (th f) f (norm th (gg x))) fs
  no_copies b fs e = record { more = []; counted = λ t. let k : how_many t fs ≡ 0 = ap (how_many t) e in omega (arith, k); none = λ k. refl }

  only_more : (b : Bool) (fs : List Tree) → b ≡ false → HasCopies 0 b (list_under (th f) f (norm th (gg x))) fs
  only_more b fs e = record { more = fs; counted = λ t. omega arith; none = λ k. cc }

  mutual
    bound_copies : (p : Tree) → is_bound bound p ≡ true → copies bound x f p ≡ 0
    bound_copies (variable i s) e = by (same_variable (i, s) x) (has_variable bound (i, s)) e
      where
        by : (d b : Bool) → b ≡ true → ◌≡◌ {A = ℕ} (if d && not b then 1 else 0) 0
        by true true e = refl
        by false true e = refl
        by d false e = cc
    bound_copies (numeral n) e = refl
    bound_copies (apply h ts) e = by (h == f) (bound_copies_in ts e)
      where
        by : (d : Bool) → copies_in bound x f ts ≡ 0 → (if d then copies_in bound x f ts else 0) ≡ 0
        by true k = k
        by false k = refl

    bound_copies_in : (ps : Trees) → are_bound bound ps ≡ true → copies_in bound x f ps ≡ 0
    bound_copies_in no_trees e = refl
    bound_copies_in (tree p ps) e =
        let k = and_parts (is_bound bound p) (are_bound bound ps) e in
        omega (arith, bound_copies p k.0, bound_copies_in ps k.1)

  mutual
    has_copies : (p : Tree) → HasCopies (copies bound x f p) (is_own bound x f p) (list_under (th f) f (norm th (gg x))) (free th bound gg f p)
    has_copies (variable i s) = by (has_variable bound (i, s)) refl (same_variable (i, s) x) refl
      where
        by : (b : Bool) → has_variable bound (i, s) ≡ b → (d : Bool) → same_variable (i, s) x ≡ d → HasCopies (if d && not b then 1 else 0) (b || d) (list_under (th f) f (norm th (gg x))) (if b then [] else list_under (th f) f (norm th (gg (i, s))))
        by true e true k = no_copies true [] refl
        by true e false k = no_copies true [] refl
        by false e true k = record {
          more = [];
          counted = λ t. ap (λ y. how_many t (list_under (th f) f (norm th (gg y)))) (same-is (i, s) x k) ∙ (let z : how_many t (list_under (th f) f (norm th (gg x))) ≡ 1 * how_many t (list_under (th f) f (norm th (gg x))) + 0 = omega arith in z);
          none = λ j. refl;
        }
        by false e false k = only_more false _ refl
    has_copies (numeral n) = no_copies true [] refl
    has_copies (apply h ts) = by (have_copies ts) (are_bound bound ts) refl (h == f)
      where
        by : HasCopies (copies_in bound x f ts) (are_own bound x f ts) (list_under (th f) f (norm th (gg x))) (frees th bound gg f ts) → (b : Bool) → are_bound bound ts ≡ b → (d : Bool)
            → HasCopies (if d then copies_in bound x f ts else 0) (b || (d && are_own bound x f ts)) (list_under (th f) f (norm th (gg x))) (if b then [] else if d then frees th bound gg f ts else list_under (th f) f (norm th (instance gg (apply h ts))))
        by ih true e true = subst (λ k. HasCopies k true (list_under (th f) f (norm th (gg x))) []) (sym (bound_copies_in ts e)) (no_copies true [] refl)
        by ih true e false = no_copies true [] refl
        by ih false e true = ih
        by ih false e false = only_more false _ refl

    have_copies : (ps : Trees) → HasCopies (copies_in bound x f ps) (are_own bound x f ps) (list_under (th f) f (norm th (gg x))) (frees th bound gg f ps)
    have_copies no_trees = no_copies true [] refl
    have_copies (tree p ps) =
        let h = has_copies p in
        let k = have_copies ps in
        record {
          more = h.more ++ k.more;
          counted = λ t. omega (arith, many-append t (free th bound gg f p) (frees th bound gg f ps), many-append t h.more k.more, h.counted t, k.counted t);
          none = λ b. let e = and_parts (is_own bound x f p) (are_own bound x f ps) b in ap₂ (λ v w. v ++ w) (h.none e.0) (k.none e.1);
        }

  module _ (c : (th f).comm ≡ true) (ps : Trees) (r : Reach) (ts : List Tree) (h : Reaches true r (list_under (th f) f (norm th (gg x)) ++ all_pieces (th f).assoc (th f).id f (norms th (instances gg ps))) ts) where
    abbrev ks : List Tree
    ks = known_in th bound g x f ps

    abbrev fs : List Tree
    fs = frees th bound gg f ps

    abbrev m : ℕ
    m = 1 + copies_in bound x f ps

    -- all items: what is known, and the rest
    all_counted : (t : Tree) → how_many t ts ≡ how_many t (known_in th bound g x f ps) + (how_many t h.left + (how_many t (list_under (th f) f (norm th (gg x))) + (how_many t (frees th bound gg f ps) + how_many t h.right)))
    all_counted t =
        let l = list_under (th f) f (norm th (gg x)) in
        let qs = all_pieces (th f).assoc (th f).id f (norms th (instances gg ps)) in
        omega (arith, many_same t (h.left ++ ((l ++ qs) ++ h.right)) ts h.all, many-append t h.left ((l ++ qs) ++ h.right), many-append t (l ++ qs) h.right, many-append t l qs, many_same t qs (ks ++ fs) (frees_known th bound g gg x agree lawful f a ps), many-append t ks fs)

    none_known : without_all (known_in th bound g x f ps) ts ≡ None → ⊥
    none_known e =
        let n : LessAll ks ts None = subst (LessAll ks ts) e (is_without_all ks ts) in
        let k = covered ks ts (λ t. omega (arith, all_counted t)) in
        n k.0 k.1

    module _ (us : List Tree) (e : without_all (known_in th bound g x f ps) ts ≡ Some us) where
      left_counted : (t : Tree) → how_many t us ≡ how_many t h.left + (how_many t (list_under (th f) f (norm th (gg x))) + (how_many t (frees th bound gg f ps) + how_many t h.right))
      left_counted t =
          let n : sort_trees (ks ++ us) ≡ sort_trees ts = subst (LessAll ks ts) e (is_without_all ks ts) in
          omega (arith, many_same t (ks ++ us) ts n, many-append t ks us, all_counted t)

      root : List Tree
      root = every (1 + copies_in bound x f ps) [] [] us

      thin : (t : Tree) → IsThinned (1 + copies_in bound x f ps) 0 0 (how_many t (every (1 + copies_in bound x f ps) [] [] us)) (how_many t us)
      thin t = thinned (1 + copies_in bound x f ps) (omega arith) t [] [] us (omega arith) (omega arith)

      copies_here : HasCopies (copies_in bound x f ps) (are_own bound x f ps) (list_under (th f) f (norm th (gg x))) (frees th bound gg f ps)
      copies_here = have_copies ps

      within : (t : Tree) → how_many t (list_under (th f) f (norm th (gg x))) ≤ how_many t (every (1 + copies_in bound x f ps) [] [] us)
      within t = at (copies_in bound x f ps) (how_many t (list_under (th f) f (norm th (gg x)))) (how_many t (every (1 + copies_in bound x f ps) [] [] us)) (how_many t us) (how_many t h.left) (how_many t h.right) (how_many t copies_here.more) (how_many t (frees th bound gg f ps)) (thin t).few (left_counted t) (copies_here.counted t)
        where
          at : (k n r u l ri mo fr : ℕ) → 0 + u < (1 + k) * (0 + r) + (1 + k) → u ≡ l + (n + (fr + ri)) → fr ≡ k * n + mo → n ≤ r
          at k n r u l ri mo fr few cu cf = by (nat_lt r n) refl
            where
              by : (b : Bool) → nat_lt r n ≡ b → n ≤ r
              by false j = ltb-false r n j
              by true j =
                  let lt : r + 1 ≤ n = omega (arith, ltb-true r n j) in
                  let le : (1 + k) * (r + 1) ≤ (1 + k) * n = mul-le-mul_left (1 + k) lt in
                  absurd (omega (arith, le, few, cu, cf))

      rest : (rest : List Tree) × (sort_trees (list_under (th f) f (norm th (gg x)) ++ rest) ≡ sort_trees (every (1 + copies_in bound x f ps) [] [] us))
      rest = covered (list_under (th f) f (norm th (gg x))) (every (1 + copies_in bound x f ps) [] [] us) within

      exact : are_own bound x f ps ≡ true → h.left ≡ [] → h.right ≡ [] → rest.0 ≡ []
      exact o le ri = nothing_left rest.0 (λ t.
          let n = how_many t (list_under (th f) f (norm th (gg x))) in
          let more : how_many t copies_here.more ≡ 0 = ap (how_many t) (copies_here.none o) in
          let lz : how_many t h.left ≡ 0 = ap (how_many t) le in
          let rz : how_many t h.right ≡ 0 = ap (how_many t) ri in
          let both : how_many t (list_under (th f) f (norm th (gg x)) ++ rest.0) ≡ how_many t (every (1 + copies_in bound x f ps) [] [] us) = many_same t (list_under (th f) f (norm th (gg x)) ++ rest.0) (every (1 + copies_in bound x f ps) [] [] us) rest.1 in
          at (copies_in bound x f ps) n (how_many t (every (1 + copies_in bound x f ps) [] [] us)) (how_many t us) (how_many t h.left) (how_many t h.right) (how_many t copies_here.more) (how_many t (frees th bound gg f ps)) (how_many t rest.0) (thin t).enough (left_counted t) (copies_here.counted t) lz rz more (both' t both))
        where
          both' : (t : Tree) → how_many t (list_under (th f) f (norm th (gg x)) ++ rest.0) ≡ how_many t (every (1 + copies_in bound x f ps) [] [] us) → how_many t (list_under (th f) f (norm th (gg x))) + how_many t rest.0 ≡ how_many t (every (1 + copies_in bound x f ps) [] [] us)
          both' t e = sym (many-append t (list_under (th f) f (norm th (gg x))) rest.0) ∙ e

          at : (k n r u l ri mo fr re : ℕ) → (1 + k) * (0 + r) ≤ 0 + u → u ≡ l + (n + (fr + ri)) → fr ≡ k * n + mo → l ≡ 0 → ri ≡ 0 → mo ≡ 0 → n + re ≡ r → re ≡ 0
          at k n r u l ri mo fr re en cu cf lz rz mz b =
              let le : (1 + k) * r ≤ (1 + k) * n = omega (arith, en, cu, cf, lz, rz, mz) in
              let lt : r ≤ n = le_of_mul-le-mul_left {m = r} {n = n} {k = 1 + k} le (omega arith) in
              omega (arith, lt, b)

      leaf : (q : Reach) (o : Bool) (ls : List Tree) → (o ≡ true → q ≡ whole → ls ≡ []) → Leaves (if o then q else weaker q) [] ls
      leaf whole true ls n = (refl, n refl refl)
      leaf whole false ls n = refl
      leaf front true ls n = refl
      leaf front false ls n = refl
      leaf inside true ls n = tt
      leaf inside false ls n = tt

      leaves_whole : (q : Reach) → q ≡ whole → (l ri : List Tree) → Leaves q l ri → (l ≡ []) × (ri ≡ [])
      leaves_whole whole e l ri k = k
      leaves_whole front e l ri k = cc
      leaves_whole inside e l ri k = cc

      pub shared : Reaches true (if are_own bound x f ps then r else weaker r) (list_under (th f) f (norm th (gg x))) (every (1 + copies_in bound x f ps) [] [] us)
      shared = record {
        left = [];
        right = rest.0;
        leaves = leaf r (are_own bound x f ps) rest.0 (λ o q. let k = leaves_whole r q h.left h.right h.leaves in exact o k.0 k.1);
        all = rest.1;
      }

  -- the value of the variable is of the part that it may take
  pub shares : (ps : Trees) (r : Reach) (ts : List Tree) → Reaches (th f).comm r (list_under (th f) f (norm th (gg x)) ++ all_pieces (th f).assoc (th f).id f (norms th (instances gg ps))) ts → AnyOf th (shared_part th bound g x f ps r ts) (norm th (gg x))
  shares ps r ts h = by (th f).comm refl h
    where
      z : Tree
      z = norm th (gg x)

      l : List Tree
      l = list_under (th f) f (norm th (gg x)) ++ all_pieces (th f).assoc (th f).id f (norms th (instances gg ps))

      by : (c : Bool) → (th f).comm ≡ c → Reaches (th f).comm r l ts → AnyOf th (if c then from_some (without_all (known_in th bound g x f ps) ts) (λ us. some_of (if are_own bound x f ps then r else weaker r) f (every (1 + copies_in bound x f ps) [] [] us) ∷ []) else own_part th bound g x f ps r ts) z
      by false c h = owns th bound g gg x agree f a lawful ps r ts z h
      by true c h = met (without_all (known_in th bound g x f ps) ts) refl (subst (λ d. Reaches d r l ts) c h)
        where
          met : (o : Option (List Tree)) → without_all (known_in th bound g x f ps) ts ≡ o → Reaches true r l ts → AnyOf th (from_some o (λ us. some_of (if are_own bound x f ps then r else weaker r) f (every (1 + copies_in bound x f ps) [] [] us) ∷ [])) z
          met None e k = none_known c ps r ts k e
          met (Some us) e k = inl (subst (λ d. Reaches d (if are_own bound x f ps then r else weaker r) (list_under (th f) f z) (every (1 + copies_in bound x f ps) [] [] us)) (sym c) (shared c ps r ts k us e))

  -- and so is that of a pattern with it
  pub takes : (p : Tree) (ps : Trees) (r : Reach) (ts : List Tree) → Reaches (th f).comm r (list_under (th f) f (norm th (instance gg p)) ++ all_pieces (th f).assoc (th f).id f (norms th (instances gg ps))) ts → AnyOf th (taken_part th bound g x f p ps r ts) (norm th (instance gg p))
  takes (variable i s) ps r ts h = by (same_variable (i, s) x) refl
    where
      by : (b : Bool) → same_variable (i, s) x ≡ b → AnyOf th (if b then shared_part th bound g x f ps r ts else own_part th bound g x f ps r ts) (norm th (gg (i, s)))
      by false e = owns th bound g gg x agree f a lawful ps r ts (norm th (gg (i, s))) h
      by true e =
          subst (λ y. AnyOf th (shared_part th bound g x f ps r ts) (norm th (gg y))) (sym (same-is (i, s) x e))
          (shares ps r ts (subst (λ y. Reaches (th f).comm r (list_under (th f) f (norm th (gg y)) ++ all_pieces (th f).assoc (th f).id f (norms th (instances gg ps))) ts) (same-is (i, s) x e) h))
  takes (numeral n) ps r ts h = owns th bound g gg x agree f a lawful ps r ts (norm th (numeral n)) h
  takes (apply k qs) ps r ts h = owns th bound g gg x agree f a lawful ps r ts (norm th (instance gg (apply k qs))) h
