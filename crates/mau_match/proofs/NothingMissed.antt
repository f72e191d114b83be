-- The walk over a pattern misses no value that its variable has in a solution.
use Rattle.std.proofs.Common.{◌≡◌, ℕ, ◌+◌, ◌-◌, ◌≤◌, List, [], ◌∷◌, ◌++◌, length, map, Bool, true, false, not, ◌&&◌, ◌||◌, ◌==◌, nat_lt, Option, Some, None, inl, inr, ◌⊎◌, if◌then◌else◌, refl, sym, ◌∙◌, ap, ap₂, subst, append-nil, arith, length-append, eqb-true, eq-eqb, lt-ltb}
use Rattle.mau_terms.specs.Tree.{Tree, variable, numeral, apply, node, Trees, no_trees, tree, list_of, trees_of}
use Rattle.mau_terms.specs.Norm.{unit_tree, is_unit, all_pieces, arrange, finish, build, norm, norms}
use Rattle.mau_terms.specs.Lawful.{AreLawful}
use Rattle.mau_terms.specs.Subst.{Variable, has_variable, instance, instances}
use Rattle.mau_terms.specs.Solution.{list_under, over_list}
use Rattle.mau_terms.specs.Finite.{IsIn, each_of, units_of}
use Rattle.mau_terms.specs.declared.theory.Identity.{Identity}
use Rattle.mau_terms.specs.declared.theory.Identity.TheVariants.{Const, Num}
use Rattle.mau_terms.specs.declared.theory.Theory.{Theory}
use Rattle.mau_terms.proofs.Pieces.{unit_is_unit, Split, unit, many, one, split, Each, list_of-trees_of, arrange-arrange, arrange_left, arrange_right, arrange_none, arrange_one}
use Rattle.mau_terms.proofs.Normal.{IsNormal, norms_normal, build_normal}
use Rattle.mau_terms.proofs.Finite.{in_left, in_right, length-arrange, length_within, each_in, over_its_list, finish_true_one}
use Rattle.mau_terms.proofs.Variables.{same-is}
use Rattle.mau_domains.specs.Parts.{Reach, whole, Part, just, some_of, Reaches, IsOf}
use Rattle.mau_match.specs.Parts.{AnyOf, headed, folded_by, occurs, occurs_among, lists_in, alone_in, folded_parts, apart_from, is_bound, any_of, lists_of, taken_part, rest_behind, parts_of, parts_among, parts_at, parts_any, parts_folded, IsFairAt, IsFair, AreFair}
use Rattle.mau_match.proofs.Builds.{all_in, arranged_list, Built, placed, counted, folded, IsFolded, built_other, list_of_built}
use Rattle.mau_match.proofs.KnownElements.{bound_norm}
use Rattle.mau_match.proofs.Lengths.{not_too_few}
use Rattle.mau_match.proofs.Shares.{takes}
use Rattle.mau_match.proofs.Sound.{any_left, any_right, any_each, any_each_part, any_just, in_each, one_reaches, rests, AnyRest}

no_elements : (ts : List Tree) → length ts ≤ 0 → ts ≡ []
no_elements [] h = refl
no_elements (t ∷ ts) h = absurd (omega arith)

pub head_op : (f h : ℕ) (ts us : Trees) → apply f ts ≡ apply h us → f ≡ h
head_op f h ts us e = cc

same_args : (f h : ℕ) (ts us : Trees) → apply f ts ≡ apply h us → ts ≡ us
same_args f h ts us e = cc

not_same : (f h : ℕ) → (f == h) ≡ false → f ≡ h → ⊥
not_same f h n e = let k : (f == h) ≡ true = eq-eqb f h e in cc

no_unit_args : (f : ℕ) (us : Trees) (j : Identity) → apply f us ≡ unit_tree j → list_of us ≡ []
no_unit_args f us (Const c) e = ap list_of (same_args f c.0 us no_trees e)
no_unit_args f us (Num n) e = cc

positive : (n : ℕ) → nat_lt 0 (n + 1) ≡ true
positive n = lt-ltb 0 (n + 1) (omega arith)

either_true : (a b : Bool) → (a || b) ≡ true → a ≡ false → b ≡ true
either_true true b e h = cc
either_true false b e h = e

module _ (th : ℕ → Theory) (lawful : AreLawful th) (bound : List Variable) (g gg : Variable → Tree) (x : Variable) (agree : (y : Variable) → has_variable bound y ≡ true → norm th (g y) ≡ norm th (gg y)) where
  -- ---- an associative operator

  abbrev pub Way : ℕ → List Tree → Part → Type 0
  Way f zs q = ((l : Reach × List Tree) × IsIn l (lists_in th f q) × Reaches (th f).comm l.0 (all_pieces (th f).assoc (th f).id f zs) l.1) ⊎ (IsIn q (apart_from th f q) × ((i : Identity) × ((th f).id ≡ Some i) × IsFolded i zs (build (th f) f zs)))

  pub ways : (f : ℕ) → (th f).assoc ≡ true → (zs : List Tree) → Each (IsNormal th) zs → IsFairAt th f zs → (q : Part) → IsOf th q (build (th f) f zs) → Way f zs q
  ways f a zs n fair q h = by q h
    where
      c : Bool
      c = (th f).comm

      all : List Tree
      all = all_pieces (th f).assoc (th f).id f zs

      v : Tree
      v = build (th f) f zs

      lb : list_under (th f) f v ≡ arrange c all
      lb = list_of_built th f zs a n

      -- the whole list of v
      own : Reaches c whole all (list_under (th f) f v)
      own = record {
        left = [];
        right = [];
        leaves = (refl, refl);
        all = ap (arrange c) (append-nil all) ∙ sym (arrange-arrange c all) ∙ ap (arrange c) (sym lb);
      }

      len : length (list_under (th f) f v) ≡ length all
      len = ap length lb ∙ length-arrange c all

      -- without an identity each of two arguments has an element
      not_few : (th f).id ≡ None → length all ≤ 1 → ⊥
      not_few u l = at zs (fair.two_by_assoc a) (fair.filled a u) l
        where
          at : (ys : List Tree) → length ys ≡ 2 → ((z : Tree) → IsIn z ys → list_under (th f) f z ≡ [] → ⊥) → length (all_pieces (th f).assoc (th f).id f ys) ≤ 1 → ⊥
          at [] e k m = omega (arith, e)
          at (y ∷ []) e k m = omega (arith, e)
          at (y ∷ w ∷ z ∷ ys) e k m = omega (arith, e)
          at (y ∷ w ∷ []) e k m = two (list_under (th f) f y) (list_under (th f) f w) (k y (inl refl)) (k w (inr (inl refl))) m
            where
              two : (us ws : List Tree) → (us ≡ [] → ⊥) → (ws ≡ [] → ⊥) → length (us ++ (ws ++ [])) ≤ 1 → ⊥
              two [] ws i j m = i refl
              two (p ∷ us) [] i j m = j refl
              two (p ∷ us) (r ∷ ws) i j m = omega (arith, m, length-append us ((r ∷ ws) ++ []), length-append ws [])

      -- z is over its list
      empty_unit : (i : Identity) → (th f).id ≡ Some i → (z : Tree) → IsIn z zs → list_under (th f) f z ≡ [] → z ≡ unit_tree i
      empty_unit i u z k e =
          sym (over_its_list th f z a (each_in th (IsNormal th) z zs n k))
          ∙ ap (over_list (th f) f) e
          ∙ ap (finish (th f).assoc (th f).id (th f).succ f) (arrange_none c)
          ∙ ap₂ (λ b w. finish b w (th f).succ f []) a u

      -- z is the one element of its list
      over_single : (z y : Tree) → IsIn z zs → list_under (th f) f z ≡ y ∷ [] → z ≡ y
      over_single z y k w =
          sym (over_its_list th f z a (each_in th (IsNormal th) z zs n k))
          ∙ ap (over_list (th f) f) w
          ∙ ap (finish (th f).assoc (th f).id (th f).succ f) (arrange_one c y)
          ∙ ap (λ b'. finish b' (th f).id (th f).succ f (y ∷ [])) a
          ∙ finish_true_one (th f).id (th f).succ f y

      -- v has no list under f
      gone : list_under (th f) f v ≡ [] → (u : Option Identity) → (th f).id ≡ u → (i : Identity) × ((th f).id ≡ Some i) × IsFolded i zs v
      gone e None u = absurd (not_few u (let j : length (list_under (th f) f v) ≡ 0 = ap length e in omega (arith, len, j)))
      gone e (Some i) u = (i, u, at zs (fair.two_by_assoc a) (λ z k. empty_unit i u z k (no_elements (list_under (th f) f z) (let j : length (list_under (th f) f v) ≡ 0 = ap length e in omega (arith, length_within (th f).assoc (th f).id f z zs k, len, j)))) whole_unit)
        where
          whole_unit : v ≡ unit_tree i
          whole_unit =
              sym (over_its_list th f v a (build_normal th lawful f zs n))
              ∙ ap (over_list (th f) f) e
              ∙ ap (finish (th f).assoc (th f).id (th f).succ f) (arrange_none c)
              ∙ ap₂ (λ b w. finish b w (th f).succ f []) a u

          at : (ys : List Tree) → length ys ≡ 2 → ((z : Tree) → IsIn z ys → z ≡ unit_tree i) → v ≡ unit_tree i → IsFolded i ys v
          at [] l h w = absurd (omega (arith, l))
          at (y ∷ []) l h w = absurd (omega (arith, l))
          at (y ∷ y' ∷ z ∷ ys) l h w = absurd (omega (arith, l))
          at (y ∷ y' ∷ []) l h w = inl (ap₂ (λ p r. p ∷ r ∷ []) (h y (inl refl)) (h y' (inr (inl refl)) ∙ sym w))

      -- v is the one element of its list
      single : list_under (th f) f v ≡ v ∷ [] → (u : Option Identity) → (th f).id ≡ u → (i : Identity) × ((th f).id ≡ Some i) × IsFolded i zs v
      single e None u = absurd (not_few u (let j : length (list_under (th f) f v) ≡ 1 = ap length e in omega (arith, len, j)))
      single e (Some i) u = (i, u, at zs (fair.two_by_assoc a) (empty_unit i u) over_single (sym lb ∙ e))
        where
          at : (ys : List Tree) → length ys ≡ 2 → ((z : Tree) → IsIn z ys → list_under (th f) f z ≡ [] → z ≡ unit_tree i) → ((z y : Tree) → IsIn z ys → list_under (th f) f z ≡ y ∷ [] → z ≡ y) → arrange c (all_pieces (th f).assoc (th f).id f ys) ≡ v ∷ [] → IsFolded i ys v
          at [] l h k w = absurd (omega (arith, l))
          at (y ∷ []) l h k w = absurd (omega (arith, l))
          at (y ∷ y' ∷ z ∷ ys) l h k w = absurd (omega (arith, l))
          at (y ∷ y' ∷ []) l h k w = two (list_under (th f) f y) (list_under (th f) f y') refl refl w
            where
              size : (us : List Tree) → arrange c us ≡ v ∷ [] → length us ≡ 1
              size us w = sym (length-arrange c us) ∙ ap length w

              lone : (p : Tree) → arrange c (p ∷ []) ≡ v ∷ [] → p ≡ v
              lone p w = let r : p ∷ [] ≡ v ∷ [] = sym (arrange_one c p) ∙ w in first_of r
                where
                  first_of : p ∷ [] ≡ v ∷ [] → p ≡ v
                  first_of r = cc

              two : (us ws : List Tree) → list_under (th f) f y ≡ us → list_under (th f) f y' ≡ ws → arrange c (us ++ (ws ++ [])) ≡ v ∷ [] → IsFolded i (y ∷ y' ∷ []) v
              two [] [] eu ew w = absurd (omega (arith, size [] w))
              two [] (p ∷ []) eu ew w = inl (ap₂ (λ a b. a ∷ b ∷ []) (h y (inl refl) eu) (k y' p (inr (inl refl)) ew ∙ lone p w))
              two [] (p ∷ p' ∷ ws) eu ew w = absurd (omega (arith, size (p ∷ p' ∷ (ws ++ [])) w))
              two (p ∷ []) [] eu ew w = inr (ap₂ (λ a b. a ∷ b ∷ []) (k y p (inl refl) eu ∙ lone p w) (h y' (inr (inl refl)) ew))
              two (p ∷ []) (r ∷ ws) eu ew w = absurd (omega (arith, size (p ∷ r ∷ (ws ++ [])) w))
              two (p ∷ p' ∷ us) ws eu ew w = absurd (omega (arith, size (p ∷ p' ∷ (us ++ (ws ++ []))) w))

      by : (q : Part) → IsOf th q v → Way f zs q
      by (just t) o = inl ((whole, list_under (th f) f t), inl refl, subst (λ w. Reaches c whole all (list_under (th f) f w)) o own)
      by (some_of r h ts) o = at (f == h) refl
        where
          at : (d : Bool) → (f == h) ≡ d → Way f zs (some_of r h ts)
          at true e =
              let o' : Reaches c r (list_under (th f) f v) ts = subst (λ k. Reaches (th k).comm r (list_under (th k) k v) ts) (sym (eqb-true f h e)) o in
              let rt : Reach × List Tree = (r, ts) in
              inl (
                rt,
                subst (λ d. IsIn rt (if d then rt ∷ [] else each_of (λ e. if headed f e then (whole, list_under (th f) f e) ∷ [] else []) ts)) (sym e) (inl refl),
                record {
                  left = o'.left;
                  right = o'.right;
                  leaves = o'.leaves;
                  all =
                      sym (arrange_right c o'.left (all ++ o'.right))
                      ∙ ap (λ w. arrange c (o'.left ++ w)) (sym (arrange_left c all o'.right))
                      ∙ arrange_right c o'.left (arrange c all ++ o'.right)
                      ∙ ap (λ w. arrange c (o'.left ++ (w ++ o'.right))) (sym lb)
                      ∙ o'.all;
                },
              )
          at false e = apart (split (th f).assoc (th f).id f v)
            where
              away : (i : Identity) × ((th f).id ≡ Some i) × IsFolded i zs v → Way f zs (some_of r h ts)
              away w = inr (subst (λ d. IsIn (some_of r h ts) (if d then [] else some_of r h ts ∷ [])) (sym e) (inl refl), w)

              listed : (us : Trees) → v ≡ apply f us → IsIn v ts → Way f zs (some_of r h ts)
              listed us k i =
                  let hd : headed f v ≡ true = ap (headed f) k ∙ eq-eqb f f refl in
                  let F : Tree → List (Reach × List Tree) = (λ e. if headed f e then (whole, list_under (th f) f e) ∷ [] else []) in
                  let w : Reach × List Tree = (whole, list_under (th f) f v) in
                  let j : IsIn w (F v) = subst (λ d. IsIn w (if d then w ∷ [] else [])) (sym hd) (inl refl) in
                  inl (w, subst (λ d. IsIn w (if d then (r, ts) ∷ [] else each_of F ts)) (sym e) (in_each F v ts w i j), own)

              apart : Split (th f).assoc (th f).id f v → Way f zs (some_of r h ts)
              apart (unit i u k p) = away (gone p (th f).id refl)
              apart (one p) = away (single p (th f).id refl)
              apart (many us b k p) = under (split (th h).assoc (th h).id h v)
                where
                  under : Split (th h).assoc (th h).id h v → Way f zs (some_of r h ts)
                  under (one w) = listed us k (one_reaches (th h).comm r v ts (subst (λ l. Reaches (th h).comm r l ts) w o))
                  under (many ws b' k' w) = absurd (not_same f h e (head_op f h us ws (sym k ∙ k')))
                  under (unit j u k' w) = away (gone (p ∙ no_unit_args f us j (sym k ∙ k')) (th f).id refl)

  -- ---- any other operator

  alone_is : (q : Part) (v : Tree) → ((h : ℕ) (us : Trees) → (th h).assoc ≡ true → v ≡ apply h us → ⊥) → IsOf th q v → IsIn v (alone_in th q)
  alone_is (just t) v nope o = inl o
  alone_is (some_of r h ts) v nope o = by (split (th h).assoc (th h).id h v)
    where
      by : Split (th h).assoc (th h).id h v → IsIn v (units_of (th h).id ++ ts)
      by (one p) = in_right v (units_of (th h).id) ts (one_reaches (th h).comm r v ts (subst (λ l. Reaches (th h).comm r l ts) p o))
      by (many us b k p) = absurd (nope h us b k)
      by (unit i u k p) = in_left v (units_of (th h).id) ts (subst (λ w. IsIn v (units_of w)) (sym u) (inl k))

  abbrev OtherWay : ℕ → List Tree → Part → Type 0
  OtherWay f zs q =
      IsIn zs (each_of (lists_of th f) (alone_in th q))
      ⊎ ((z : Tree) → IsIn z zs → AnyOf th (each_of (any_of th f) (alone_in th q)) z)
      ⊎ ((i : Identity) × ((th f).id ≡ Some i) × IsFolded i zs (build (th f) f zs))

  other_ways : (f : ℕ) → (th f).assoc ≡ false → (zs : List Tree) → IsFairAt th f zs → (q : Part) → IsOf th q (build (th f) f zs) → OtherWay f zs q
  other_ways f a zs fair q o = by (built_other th f zs a fair.two_by_unit)
    where
      v : Tree
      v = build (th f) f zs

      alone : List Tree
      alone = alone_in th q

      by : Built (th f) f zs v → OtherWay f zs q
      by (folded i u e) = inr (inr (i, u, e))
      by (counted n s e i) =
          let nope : (h : ℕ) (us : Trees) → (th h).assoc ≡ true → v ≡ apply h us → ⊥ = (λ h us b k. let j : numeral (n + 1) ≡ apply h us = sym e ∙ k in cc) in
          let m : n + 1 - 1 ≡ n = omega arith in
          inr (inl (λ z k. any_each th (any_of th f) v alone z (alone_is q v nope o)
          (subst (λ w. AnyOf th (any_of th f w) z) (sym e)
          (subst (λ d. AnyOf th (if d then just (numeral (n + 1 - 1)) ∷ [] else []) z) (sym (ap₂ (λ p r. p && r) s (positive n)))
          (inl (elim (all_in zs (numeral n ∷ []) z i k) [ inl w ↦ w ∙ ap numeral (sym m) | inr w ↦ absurd w ]))))))
      by (placed es e i nc) = at (th f).comm refl
        where
          nope : (h : ℕ) (us : Trees) → (th h).assoc ≡ true → v ≡ apply h us → ⊥
          nope h us b k =
              let j : f ≡ h = head_op f h (trees_of es) us (sym e ∙ k) in
              let b' : (th f).assoc ≡ true = subst (λ w. (th w).assoc ≡ true) (sym j) b in
              cc

          there : IsIn v alone
          there = alone_is q v nope o

          at : (c : Bool) → (th f).comm ≡ c → OtherWay f zs q
          at true w = inr (inl (λ z k. any_each th (any_of th f) v alone z there
              (subst (λ t. AnyOf th (any_of th f t) z) (sym e)
              (subst (λ d. AnyOf th (if d then map just (list_of (trees_of es)) else []) z) (sym (ap₂ (λ p r. p && r) (eq-eqb f f refl) w))
              (any_just th (list_of (trees_of es)) z (subst (IsIn z) (sym (list_of-trees_of es)) (all_in zs es z i k)))))))
          at false w =
              inl (in_each (lists_of th f) v alone zs there
              (subst (λ t. IsIn zs (lists_of th f t)) (sym e)
              (subst (λ d. IsIn zs (if d then list_of (trees_of es) ∷ [] else [])) (sym (ap₂ (λ p r. p && not r) (eq-eqb f f refl) w))
              (inl (arranged_list (th f).comm zs es w nc ∙ sym (list_of-trees_of es))))))

  -- an operator that is neither associative nor has an identity, over arguments, is none of a part's lists
  pub alone_value : (f : ℕ) → (th f).assoc ≡ false → (th f).id ≡ None → (zs : List Tree) → IsFairAt th f zs → (q : Part) → IsOf th q (build (th f) f zs) → IsIn (build (th f) f zs) (alone_in th q)
  alone_value f a u zs fair q o = by (built_other th f zs a fair.two_by_unit)
    where
      v : Tree
      v = build (th f) f zs

      by : Built (th f) f zs v → IsIn v (alone_in th q)
      by (folded i k e) = let n : None ≡ Some i = sym u ∙ k in absurd (cc)
      by (counted n s e i) = alone_is q v (λ h us b k. let j : numeral (n + 1) ≡ apply h us = sym e ∙ k in cc) o
      by (placed es e i nc) =
          alone_is q v (λ h us b k.
          let j : f ≡ h = head_op f h (trees_of es) us (sym e ∙ k) in
          let b' : (th f).assoc ≡ true = subst (λ w. (th w).assoc ≡ true) (sym j) b in
          cc) o

  -- if it is not the successor either, it is built of just these arguments
  pub only_placed : (f : ℕ) → (th f).assoc ≡ false → (th f).succ ≡ false → (th f).id ≡ None → (zs : List Tree) → IsFairAt th f zs → build (th f) f zs ≡ node f (arrange (th f).comm zs)
  only_placed f a n u zs fair = by (built_other th f zs a fair.two_by_unit)
    where
      v : Tree
      v = build (th f) f zs

      by : Built (th f) f zs v → v ≡ node f (arrange (th f).comm zs)
      by (folded i k e) = let m : None ≡ Some i = sym u ∙ k in absurd (cc)
      by (counted k s e i) = let m : false ≡ true = sym n ∙ s in absurd (cc)
      by (placed es e i nc) = e ∙ ap (node f) (sym nc)

  -- ---- the walk

  any_rests : (f : ℕ) (m : List Tree) (ls : List (Reach × List Tree)) (F : Reach × List Tree → List Part) (z : Tree) → AnyRest th bound g gg x agree f m ls → ((l : Reach × List Tree) → Reaches (th f).comm l.0 m l.1 → AnyOf th (F l) z) → AnyOf th (each_of F ls) z
  any_rests f m [] F z h k = absurd h
  any_rests f m (l ∷ ls) F z (inl h) k = any_left th (F l) (each_of F ls) z (k l h)
  any_rests f m (l ∷ ls) F z (inr h) k = any_right th (F l) (each_of F ls) z (any_rests f m ls F z h k)

  mutual
    pub walk : (p : Tree) → IsFair th gg p → occurs x p ≡ true → (q : Part) → IsOf th q (norm th (instance gg p)) → AnyOf th (parts_of th bound g x p q) (norm th (gg x))
    walk (variable i s) fair hx q o = inl (subst (λ y. IsOf th q (norm th (gg y))) (same-is (i, s) x hx) o)
    walk (numeral n) fair hx q o = cc
    walk (apply f ps) fair hx q o =
        by (λ a r ts h. walk_among f ps fair.1 hx a (λ u. fair.0.filled a u) r ts h) (λ es e. walk_at ps fair.1 hx es e) (λ qs h. walk_any ps fair.1 hx qs h) (λ i q v u o e. walk_folded f ps fair.1 hx i q v u o e) (th f).assoc refl
      where
        zs : List Tree
        zs = norms th (instances gg ps)

        y : Tree
        y = norm th (gg x)

        by : ((f-a : (th f).assoc ≡ true) → (r : Reach) (ts : List Tree) → Reaches (th f).comm r (all_pieces (th f).assoc (th f).id f zs) ts → AnyOf th (parts_among th bound g x f ps r ts) y)
            → ((es : List Tree) → zs ≡ es → AnyOf th (parts_at th bound g x ps es) y)
            → ((qs : List Part) → ((z : Tree) → IsIn z zs → AnyOf th qs z) → AnyOf th (parts_any th bound g x ps qs) y)
            → ((i : Identity) (q : Part) (v : Tree) → (th f).id ≡ Some i → IsOf th q v → IsFolded i zs v → AnyOf th (parts_folded th bound g x f ps q) y)
            → (a : Bool) → (th f).assoc ≡ a
            → AnyOf th (if a then each_of (λ l. parts_among th bound g x f ps l.0 l.1) (lists_in th f q) ++ each_of (λ q'. parts_folded th bound g x f ps q') (apart_from th f q)
            else each_of (λ es. parts_at th bound g x ps es) (each_of (lists_of th f) (alone_in th q)) ++ (parts_any th bound g x ps (each_of (any_of th f) (alone_in th q)) ++ parts_folded th bound g x f ps q)) y
        by among at any fold true a = at' (ways f a zs (norms_normal th lawful (instances gg ps)) fair.0 q o)
          where
            at' : Way f zs q → AnyOf th (each_of (λ l. parts_among th bound g x f ps l.0 l.1) (lists_in th f q) ++ each_of (λ q'. parts_folded th bound g x f ps q') (apart_from th f q)) y
            at' (inl w) = any_left th _ _ y (any_each th (λ l. parts_among th bound g x f ps l.0 l.1) w.0 (lists_in th f q) y w.1 (among a w.0.0 w.0.1 w.2))
            at' (inr w) = any_right th _ _ y (any_each th (λ q'. parts_folded th bound g x f ps q') q (apart_from th f q) y w.0 (fold w.1.0 q (build (th f) f zs) w.1.1 o w.1.2))
        by among at any fold false a = at' (other_ways f a zs fair.0 q o)
          where
            at' : OtherWay f zs q → AnyOf th (each_of (λ es. parts_at th bound g x ps es) (each_of (lists_of th f) (alone_in th q)) ++ (parts_any th bound g x ps (each_of (any_of th f) (alone_in th q)) ++ parts_folded th bound g x f ps q)) y
            at' (inl w) = any_left th _ _ y (any_each th (λ es. parts_at th bound g x ps es) zs (each_of (lists_of th f) (alone_in th q)) y w (at zs refl))
            at' (inr (inl w)) = any_right th _ _ y (any_left th _ _ y (any (each_of (any_of th f) (alone_in th q)) w))
            at' (inr (inr w)) = any_right th _ _ y (any_right th (parts_any th bound g x ps (each_of (any_of th f) (alone_in th q))) _ y (fold w.0 q (build (th f) f zs) w.1 o w.2))

    walk_among : (f : ℕ) (ps : Trees) → AreFair th gg ps → occurs_among x ps ≡ true → (f-a : (th f).assoc ≡ true) → ((th f).id ≡ None → (z : Tree) → IsIn z (norms th (instances gg ps)) → list_under (th f) f z ≡ [] → ⊥) → (r : Reach) (ts : List Tree) → Reaches (th f).comm r (all_pieces (th f).assoc (th f).id f (norms th (instances gg ps))) ts → AnyOf th (parts_among th bound g x f ps r ts) (norm th (gg x))
    walk_among f no_trees fair hx a full r ts h = cc
    walk_among f (tree p ps) fair hx a full r ts h =
        subst (λ d. AnyOf th (if d then [] else (if occurs x p then each_of (parts_of th bound g x p) (taken_part th bound g x f p ps r ts) else each_of (λ l. parts_among th bound g x f ps l.0 l.1) (rest_behind th bound g x f p r ts))) (norm th (gg x)))
        (sym (not_too_few th lawful gg f a (tree p ps) fair full r ts h))
        (by (λ k q o. walk p fair.0 k q o) (λ k l o. walk_among f ps fair.1 k a (λ u z i. full u z (inr i)) l.0 l.1 o) (occurs x p) refl)
      where
        y : Tree
        y = norm th (gg x)

        by : (occurs x p ≡ true → (q : Part) → IsOf th q (norm th (instance gg p)) → AnyOf th (parts_of th bound g x p q) y)
            → (occurs_among x ps ≡ true → (l : Reach × List Tree) → Reaches (th f).comm l.0 (all_pieces (th f).assoc (th f).id f (norms th (instances gg ps))) l.1 → AnyOf th (parts_among th bound g x f ps l.0 l.1) y)
            → (b : Bool) → occurs x p ≡ b
            → AnyOf th (if b then each_of (parts_of th bound g x p) (taken_part th bound g x f p ps r ts) else each_of (λ l. parts_among th bound g x f ps l.0 l.1) (rest_behind th bound g x f p r ts)) y
        by here later true e = any_each_part th (parts_of th bound g x p) (taken_part th bound g x f p ps r ts) (norm th (instance gg p)) y (takes th bound g gg x agree lawful f a p ps r ts h) (here e)
        by here later false e = any_rests f _ (rest_behind th bound g x f p r ts) (λ l. parts_among th bound g x f ps l.0 l.1) y (rests th bound g gg x agree f a lawful p r ts _ h) (later (either_true (occurs x p) (occurs_among x ps) hx e))

    walk_at : (ps : Trees) → AreFair th gg ps → occurs_among x ps ≡ true → (es : List Tree) → norms th (instances gg ps) ≡ es → AnyOf th (parts_at th bound g x ps es) (norm th (gg x))
    walk_at no_trees fair hx es e = cc
    walk_at (tree p ps) fair hx [] e = cc
    walk_at (tree p ps) fair hx (t ∷ es) e =
        by (λ k o. walk p fair.0 k (just t) o) (λ k. walk_at ps fair.1 k es (let j : norms th (instances gg ps) ≡ es = cc in j)) (occurs x p) refl
      where
        by : (occurs x p ≡ true → norm th (instance gg p) ≡ t → AnyOf th (parts_of th bound g x p (just t)) (norm th (gg x)))
            → (occurs_among x ps ≡ true → AnyOf th (parts_at th bound g x ps es) (norm th (gg x)))
            → (b : Bool) → occurs x p ≡ b → AnyOf th (if b then parts_of th bound g x p (just t) else parts_at th bound g x ps es) (norm th (gg x))
        by here later true k = here k (let j : norm th (instance gg p) ≡ t = cc in j)
        by here later false k = later (either_true (occurs x p) (occurs_among x ps) hx k)

    walk_any : (ps : Trees) → AreFair th gg ps → occurs_among x ps ≡ true → (qs : List Part) → ((z : Tree) → IsIn z (norms th (instances gg ps)) → AnyOf th qs z) → AnyOf th (parts_any th bound g x ps qs) (norm th (gg x))
    walk_any no_trees fair hx qs h = cc
    walk_any (tree p ps) fair hx qs h =
        by (λ k q o. walk p fair.0 k q o) (λ k. walk_any ps fair.1 k qs (λ z i. h z (inr i))) (occurs x p) refl
      where
        by : (occurs x p ≡ true → (q : Part) → IsOf th q (norm th (instance gg p)) → AnyOf th (parts_of th bound g x p q) (norm th (gg x)))
            → (occurs_among x ps ≡ true → AnyOf th (parts_any th bound g x ps qs) (norm th (gg x)))
            → (b : Bool) → occurs x p ≡ b → AnyOf th (if b then each_of (parts_of th bound g x p) qs else parts_any th bound g x ps qs) (norm th (gg x))
        by here later true k = any_each_part th (parts_of th bound g x p) qs (norm th (instance gg p)) (norm th (gg x)) (h (norm th (instance gg p)) (inl refl)) (here k)
        by here later false k = later (either_true (occurs x p) (occurs_among x ps) hx k)

    walk_folded : (f : ℕ) (ps : Trees) → AreFair th gg ps → occurs_among x ps ≡ true → (i : Identity) (q : Part) (v : Tree) → (th f).id ≡ Some i → IsOf th q v → IsFolded i (norms th (instances gg ps)) v → AnyOf th (parts_folded th bound g x f ps q) (norm th (gg x))
    walk_folded f no_trees fair hx i q v u o e = cc
    walk_folded f (tree p no_trees) fair hx i q v u o (inl e) = cc
    walk_folded f (tree p no_trees) fair hx i q v u o (inr e) = cc
    walk_folded f (tree p (tree p' ps)) fair hx i q v u o e =
        by (λ k q o. walk p fair.0 k q o) (λ k q o. walk p' fair.1.0 k q o) (occurs x p) refl
      where
        z : Tree
        z = norm th (instance gg p)

        z' : Tree
        z' = norm th (instance gg p')

        y : Tree
        y = norm th (gg x)

        alone : norms th (instances gg ps) ≡ []
        alone = elim e [ inl k ↦ cc-one k | inr k ↦ cc-two k ]
          where
            cc-one : z ∷ z' ∷ norms th (instances gg ps) ≡ unit_tree i ∷ v ∷ [] → norms th (instances gg ps) ≡ []
            cc-one k = cc

            cc-two : z ∷ z' ∷ norms th (instances gg ps) ≡ v ∷ unit_tree i ∷ [] → norms th (instances gg ps) ≡ []
            cc-two k = cc

        -- the part of one of them, by the other
        part : (other : Tree) (w : Tree) → (w ≡ unit_tree i) ⊎ ((w ≡ v) × (norm th (instance gg other) ≡ unit_tree i)) → AnyOf th (folded_parts th bound g x f other q) w
        part other w h = subst (λ o'. AnyOf th (folded_by o' (is_bound bound other) (norm th (instance g other)) q) w) (sym u) (at h)
          where
            at : (w ≡ unit_tree i) ⊎ ((w ≡ v) × (norm th (instance gg other) ≡ unit_tree i)) → AnyOf th (just (unit_tree i) ∷ (if is_bound bound other && not (is_unit (Some i) (norm th (instance g other))) then [] else q ∷ [])) w
            at (inl k) = inl k
            at (inr k) = inr (test (is_bound bound other) refl)
              where
                test : (b : Bool) → is_bound bound other ≡ b → AnyOf th (if b && not (is_unit (Some i) (norm th (instance g other))) then [] else q ∷ []) w
                test false e' = inl (subst (IsOf th q) (sym k.0) o)
                test true e' =
                    let t : is_unit (Some i) (norm th (instance g other)) ≡ true = ap (is_unit (Some i)) (bound_norm th bound g gg x agree other e' ∙ k.1) ∙ unit_is_unit i in
                    subst (λ d. AnyOf th (if not d then [] else q ∷ []) w) (sym t) (inl (subst (IsOf th q) (sym k.0) o))

        first : (z ≡ unit_tree i) ⊎ ((z ≡ v) × (z' ≡ unit_tree i))
        first = elim e [ inl k ↦ inl (left k) | inr k ↦ inr (left k, right k) ]
          where
            left : {w w' : Tree} → z ∷ z' ∷ norms th (instances gg ps) ≡ w ∷ w' ∷ [] → z ≡ w
            left k = cc

            right : {w w' : Tree} → z ∷ z' ∷ norms th (instances gg ps) ≡ w ∷ w' ∷ [] → z' ≡ w'
            right k = cc

        second : (z' ≡ unit_tree i) ⊎ ((z' ≡ v) × (z ≡ unit_tree i))
        second = elim e [ inl k ↦ inr (right k, left k) | inr k ↦ inl (right k) ]
          where
            left : {w w' : Tree} → z ∷ z' ∷ norms th (instances gg ps) ≡ w ∷ w' ∷ [] → z ≡ w
            left k = cc

            right : {w w' : Tree} → z ∷ z' ∷ norms th (instances gg ps) ≡ w ∷ w' ∷ [] → z' ≡ w'
            right k = cc

        -- a third argument there is none
        only : (ps : Trees) → norms th (instances gg ps) ≡ [] → occurs_among x ps ≡ true → ⊥
        only no_trees k h = cc
        only (tree p ps) k h = cc

        by : (occurs x p ≡ true → (q : Part) → IsOf th q z → AnyOf th (parts_of th bound g x p q) y)
            → (occurs x p' ≡ true → (q : Part) → IsOf th q z' → AnyOf th (parts_of th bound g x p' q) y)
            → (b : Bool) → occurs x p ≡ b
            → AnyOf th (if b then each_of (parts_of th bound g x p) (folded_parts th bound g x f p' q) else each_of (parts_of th bound g x p') (folded_parts th bound g x f p q)) y
        by here there true k = any_each_part th (parts_of th bound g x p) (folded_parts th bound g x f p' q) z y (part p' z first) (here k)
        by here there false k = any_each_part th (parts_of th bound g x p') (folded_parts th bound g x f p q) z' y (part p z' second) (there (in-second (occurs x p') refl))
          where
            in-second : (b : Bool) → occurs x p' ≡ b → occurs x p' ≡ true
            in-second true j = j
            in-second false j = absurd (only ps alone (either_true (occurs x p') (occurs_among x ps) (either_true (occurs x p) (occurs_among x (tree p' ps)) hx k) j))
