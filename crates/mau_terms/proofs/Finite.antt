-- A pattern and a subject have finitely many solutions.
use Rattle.std.proofs.Common.{◌≡◌, ℕ, zero, suc, ◌+◌, ◌-◌, ◌≤◌, List, [], ◌∷◌, ◌++◌, length, Bool, true, false, ◌&&◌, nat_lt, Option, Some, None, inl, inr, if◌then◌else◌, refl, sym, ◌∙◌, ap, ap₂, subst, map, arith, length-append}
use Rattle.std.specs.Ordering.{is_gt}
use Rattle.mau_terms.specs.Tree.{Tree, variable, numeral, apply, Trees, no_trees, tree, node, list_of, trees_of}
use Rattle.mau_terms.specs.Order.{tree_cmp, insert_tree, sort_trees}
use Rattle.mau_terms.specs.Norm.{greatest_numeral, pieces, all_pieces, arrange, finish, over_one, made, build, norm, norms}
use Rattle.mau_terms.specs.Lawful.{AreLawful}
use Rattle.mau_terms.specs.Subst.{Variable, instance, instances, Occurs, OccursIn}
use Rattle.mau_terms.specs.Solution.{list_under, over_list}
use Rattle.mau_terms.specs.Finite.{IsIn, each_of, words, arguments_of, one_less, units_of, parts_under, candidates, all_candidates}
use Rattle.mau_terms.specs.declared.theory.Theory.{Theory}
use Rattle.mau_terms.specs.declared.theory.Identity.{Identity}
use Rattle.mau_terms.proofs.Pieces.{list_of-trees_of, trees_of-list_of, Split, unit, many, one, split, Each, IsPiece, pieces-finish, Each-arrange, arrange_none, arrange_one}
use Rattle.mau_terms.proofs.Normal.{IsNormal, norms_normal, whole_all_pieces}

-- ---- membership

pub in_left : {A : Type 0} (x : A) (xs ys : List A) → IsIn x xs → IsIn x (xs ++ ys)
in_left x [] ys h = absurd h
in_left x (y ∷ xs) ys (inl e) = inl e
in_left x (y ∷ xs) ys (inr h) = inr (in_left x xs ys h)

pub in_right : {A : Type 0} (x : A) (xs ys : List A) → IsIn x ys → IsIn x (xs ++ ys)
in_right x [] ys h = h
in_right x (y ∷ xs) ys h = inr (in_right x xs ys h)

pub in_map : {A B : Type 0} (f : A → B) (x : A) (xs : List A) → IsIn x xs → IsIn (f x) (map f xs)
in_map f x [] h = absurd h
in_map f x (y ∷ xs) (inl e) = inl (ap f e)
in_map f x (y ∷ xs) (inr h) = inr (in_map f x xs h)

pub in_each_of : {A B : Type 0} (f : A → List B) (x : A) (xs : List A) (z : B) → IsIn x xs → IsIn z (f x) → IsIn z (each_of f xs)
in_each_of f x [] z h k = absurd h
in_each_of f x (y ∷ xs) z (inl e) k = in_left z (f y) (each_of f xs) (subst (λ w. IsIn z (f w)) e k)
in_each_of f x (y ∷ xs) z (inr h) k = in_right z (f y) (each_of f xs) (in_each_of f x xs z h k)

abbrev pub AllIn : {A : Type 0} → List A → List A → Type 0
AllIn [] ys = Unit {0}
AllIn (x ∷ xs) ys = IsIn x ys × AllIn xs ys

AllIn-more : {A : Type 0} (xs : List A) (y : A) (ys : List A) → AllIn xs ys → AllIn xs (y ∷ ys)
AllIn-more [] y ys h = tt
AllIn-more (x ∷ xs) y ys h = (inr h.0, AllIn-more xs y ys h.1)

pub AllIn-itself : {A : Type 0} (xs : List A) → AllIn xs xs
AllIn-itself [] = tt
AllIn-itself (x ∷ xs) = (inl refl, AllIn-more xs x xs (AllIn-itself xs))

pub AllIn-left : {A : Type 0} (xs ys zs : List A) → AllIn xs ys → AllIn xs (ys ++ zs)
AllIn-left [] ys zs h = tt
AllIn-left (x ∷ xs) ys zs h = (in_left x ys zs h.0, AllIn-left xs ys zs h.1)

pub AllIn-right : {A : Type 0} (xs ys zs : List A) → AllIn xs zs → AllIn xs (ys ++ zs)
AllIn-right [] ys zs h = tt
AllIn-right (x ∷ xs) ys zs h = (in_right x ys zs h.0, AllIn-right xs ys zs h.1)

pub in_words : {A : Type 0} (n : ℕ) (ys xs : List A) → length ys ≤ n → AllIn ys xs → IsIn ys (words n xs)
in_words zero [] xs l h = inl refl
in_words zero (y ∷ ys) xs l h = absurd (omega arith)
in_words (suc n) [] xs l h = inl refl
in_words (suc n) (y ∷ ys) xs l h =
    inr (in_each_of (λ x. map (λ w. x ∷ w) (words n xs)) y xs (y ∷ ys) h.0 (in_map (λ w. y ∷ w) ys (words n xs) (in_words n ys xs (omega arith) h.1)))

-- ---- sorting keeps the elements and their number

in_insert : (x t : Tree) (us : List Tree) → IsIn x (t ∷ us) → IsIn x (insert_tree t us)
in_insert x t [] h = h
in_insert x t (u ∷ us) h = by (in_insert x t us) (is_gt (tree_cmp t u)) h
  where
    by : (IsIn x (t ∷ us) → IsIn x (insert_tree t us)) → (b : Bool) → IsIn x (t ∷ u ∷ us) → IsIn x (if b then u ∷ insert_tree t us else t ∷ u ∷ us)
    by ih true (inl e) = inr (ih (inl e))
    by ih true (inr (inl e)) = inl e
    by ih true (inr (inr k)) = inr (ih (inr k))
    by ih false k = k

in_sort : (x : Tree) (ts : List Tree) → IsIn x ts → IsIn x (sort_trees ts)
in_sort x [] h = h
in_sort x (t ∷ ts) (inl e) = in_insert x t (sort_trees ts) (inl e)
in_sort x (t ∷ ts) (inr h) = in_insert x t (sort_trees ts) (inr (in_sort x ts h))

pub in_arrange : (c : Bool) (x : Tree) (ts : List Tree) → IsIn x ts → IsIn x (arrange c ts)
in_arrange true x ts h = in_sort x ts h
in_arrange false x ts h = h

pub AllIn-arrange : (c : Bool) (xs ts : List Tree) → AllIn xs ts → AllIn xs (arrange c ts)
AllIn-arrange c [] ts h = tt
AllIn-arrange c (x ∷ xs) ts h = (in_arrange c x ts h.0, AllIn-arrange c xs ts h.1)

pub length_insert : (t : Tree) (us : List Tree) → length (insert_tree t us) ≡ suc (length us)
length_insert t [] = refl
length_insert t (u ∷ us) = by (length_insert t us) (is_gt (tree_cmp t u))
  where
    by : length (insert_tree t us) ≡ suc (length us) → (b : Bool) → length (if b then u ∷ insert_tree t us else t ∷ u ∷ us) ≡ suc (suc (length us))
    by ih true = ap suc ih
    by ih false = refl

pub length_sort : (ts : List Tree) → length (sort_trees ts) ≡ length ts
length_sort [] = refl
length_sort (t ∷ ts) = length_insert t (sort_trees ts) ∙ ap suc (length_sort ts)

pub length-arrange : (c : Bool) (ts : List Tree) → length (arrange c ts) ≡ length ts
length-arrange true ts = length_sort ts
length-arrange false ts = refl

-- ---- the arguments of what was built are among its parts

module _ (a : Bool) (u : Option Identity) (f : ℕ) where
  pub pieces_within : (z : Tree) (zs : List Tree) → IsIn z zs → AllIn (pieces a u f z) (all_pieces a u f zs)
  pieces_within z [] h = absurd h
  pieces_within z (y ∷ zs) (inl e) = subst (λ w. AllIn (pieces a u f w) (pieces a u f y ++ all_pieces a u f zs)) (sym e) (AllIn-left (pieces a u f y) (pieces a u f y) (all_pieces a u f zs) (AllIn-itself (pieces a u f y)))
  pieces_within z (y ∷ zs) (inr h) = AllIn-right (pieces a u f z) (pieces a u f y) (all_pieces a u f zs) (pieces_within z zs h)

  pub length_within : (z : Tree) (zs : List Tree) → IsIn z zs → length (pieces a u f z) ≤ length (all_pieces a u f zs)
  length_within z [] h = absurd h
  length_within z (y ∷ zs) (inl e) = let k : length (pieces a u f z) ≡ length (pieces a u f y) = ap (λ w. length (pieces a u f w)) e in omega (arith, k, length-append (pieces a u f y) (all_pieces a u f zs))
  length_within z (y ∷ zs) (inr h) = omega (arith, length_within z zs h, length-append (pieces a u f y) (all_pieces a u f zs))

pub finish_true_one : (u : Option Identity) (s : Bool) (f : ℕ) (x : Tree) → finish true u s f (x ∷ []) ≡ x
finish_true_one None s f x = refl
finish_true_one (Some i) s f x = refl

module _ (th : ℕ → Theory) where
  -- a normal form is over its list, under an associative operator
  pub over_its_list : (f : ℕ) (x : Tree) → (th f).assoc ≡ true → IsNormal th x → over_list (th f) f (list_under (th f) f x) ≡ x
  over_its_list f x a n = by (split (th f).assoc (th f).id f x)
    where
      by : Split (th f).assoc (th f).id f x → finish (th f).assoc (th f).id (th f).succ f (arrange (th f).comm (pieces (th f).assoc (th f).id f x)) ≡ x
      by (unit i u e p) =
          ap (λ w. finish (th f).assoc (th f).id (th f).succ f (arrange (th f).comm w)) p
          ∙ ap (finish (th f).assoc (th f).id (th f).succ f) (arrange_none (th f).comm)
          ∙ ap₂ (λ b v. finish b v (th f).succ f []) a u
          ∙ sym e
      by (many ts b e p) =
          let m : IsNormal th (apply f ts) = subst (IsNormal th) e n in
          ap (λ w. finish (th f).assoc (th f).id (th f).succ f (arrange (th f).comm w)) p
          ∙ ap (finish (th f).assoc (th f).id (th f).succ f) m.1.ordered
          ∙ m.1.long
          ∙ ap (apply f) (trees_of-list_of ts)
          ∙ sym e
      by (one p) =
          ap (λ w. finish (th f).assoc (th f).id (th f).succ f (arrange (th f).comm w)) p
          ∙ ap (finish (th f).assoc (th f).id (th f).succ f) (arrange_one (th f).comm x)
          ∙ ap (λ b. finish b (th f).id (th f).succ f (x ∷ [])) a
          ∙ finish_true_one (th f).id (th f).succ f x

  pub each_in : (P : Tree → Type 0) (z : Tree) (zs : List Tree) → Each P zs → IsIn z zs → P z
  each_in P z [] p h = absurd h
  each_in P z (y ∷ zs) p (inl e) = subst P (sym e) p.0
  each_in P z (y ∷ zs) p (inr h) = each_in P z zs p.1 h

  -- under an associative operator
  assoc_part : (f : ℕ) → (th f).assoc ≡ true → (z : Tree) (zs : List Tree) → Each (IsNormal th) zs → IsIn z zs → let l = list_under (th f) f (build (th f) f zs) in IsIn z (map (over_list (th f) f) (words (length l) l))
  assoc_part f a z zs n h =
      let u = (th f).id in
      let l = list_under (th f) f (build (th f) f zs) in
      let all = all_pieces (th f).assoc u f zs in
      let e : l ≡ arrange (th f).comm all = by (th f).assoc a (whole_all_pieces th f zs n) in
      let p : AllIn (list_under (th f) f z) l = subst (λ w. AllIn (list_under (th f) f z) w) (sym e) (AllIn-arrange (th f).comm (list_under (th f) f z) all (pieces_within (th f).assoc u f z zs h)) in
      let k : length (list_under (th f) f z) ≤ length l = omega (arith, ap length e, length-arrange (th f).comm all, length_within (th f).assoc u f z zs h) in
      subst (λ w. IsIn w (map (over_list (th f) f) (words (length l) l))) (over_its_list f z a (each_in (IsNormal th) z zs n h))
      (in_map (over_list (th f) f) (list_under (th f) f z) (words (length l) l) (in_words (length l) (list_under (th f) f z) l k p))
    where
      by : (b : Bool) → b ≡ true → Each (IsPiece b (th f).id f) (all_pieces b (th f).id f zs) → pieces b (th f).id f (finish b (th f).id (th f).succ f (arrange (th f).comm (all_pieces b (th f).id f zs))) ≡ arrange (th f).comm (all_pieces b (th f).id f zs)
      by true eb w = pieces-finish (th f).id (th f).succ f (arrange (th f).comm (all_pieces true (th f).id f zs)) (Each-arrange (IsPiece true (th f).id f) (th f).comm (all_pieces true (th f).id f zs) w)
      by false eb w = cc

in_args : (f : ℕ) (ys : List Tree) (rest : List Tree) (z : Tree) → IsIn z ys → IsIn z (node f ys ∷ (arguments_of (node f ys) ++ rest))
in_args f ys rest z h = inr (in_left z (list_of (trees_of ys)) rest (subst (λ w. IsIn z w) (sym (list_of-trees_of ys)) h))

-- under another operator
finish_part : (u : Option Identity) (s : Bool) (f : ℕ) (ys rest : List Tree) (z : Tree) → IsIn z ys → let t = finish false u s f ys in IsIn z (t ∷ (arguments_of t ++ (one_less t ++ rest)))
finish_part u s f [] rest z h = absurd h
finish_part (Some i) s f (y ∷ []) rest z (inl e) = inl e
finish_part (Some i) s f (y ∷ []) rest z (inr h) = absurd h
finish_part None s f (y ∷ []) rest z (inr h) = absurd h
finish_part None s f (y ∷ []) rest z (inl e) = by y e
  where
    by : (v : Tree) → z ≡ v → let t = over_one s f v in IsIn z (t ∷ (arguments_of t ++ (one_less t ++ rest)))
    by (variable i r) k = in_args f (variable i r ∷ []) (one_less (node f (variable i r ∷ [])) ++ rest) z (inl k)
    by (apply g ts) k = in_args f (apply g ts ∷ []) (one_less (node f (apply g ts ∷ [])) ++ rest) z (inl k)
    by (numeral n) k = at (s && nat_lt n greatest_numeral)
      where
        at : (b : Bool) → let t = if b then numeral (n + 1) else node f (numeral n ∷ []) in IsIn z (t ∷ (arguments_of t ++ (one_less t ++ rest)))
        at true = let q : n + 1 - 1 ≡ n = omega arith in inr (inl (k ∙ ap numeral (sym q)))
        at false = in_args f (numeral n ∷ []) (one_less (node f (numeral n ∷ [])) ++ rest) z (inl k)
finish_part None s f (y ∷ y' ∷ ys) rest z h = in_args f (y ∷ y' ∷ ys) (one_less (node f (y ∷ y' ∷ ys)) ++ rest) z h
finish_part (Some i) s f (y ∷ y' ∷ ys) rest z h = in_args f (y ∷ y' ∷ ys) (one_less (node f (y ∷ y' ∷ ys)) ++ rest) z h

other_part : (c : Bool) (u : Option Identity) (s : Bool) (f : ℕ) (zs rest : List Tree) (z : Tree) → IsIn z zs → let t = made false c u s f zs in IsIn z (units_of u ++ (t ∷ (arguments_of t ++ (one_less t ++ rest))))
other_part c u s f zs rest z h = by (split false u f z)
  where
    t : Tree
    t = made false c u s f zs

    by : Split false u f z → let t = made false c u s f zs in IsIn z (units_of u ++ (t ∷ (arguments_of t ++ (one_less t ++ rest))))
    by (unit i e k p) = in_left z (units_of u) _ (subst (λ v. IsIn z (units_of v)) (sym e) (inl k))
    by (many ts e k p) = cc
    by (one p) =
        let within : AllIn (z ∷ []) (all_pieces false u f zs) = subst (λ w. AllIn w (all_pieces false u f zs)) p (pieces_within false u f z zs h) in
        in_right z (units_of u) _ (finish_part u s f (arrange c (all_pieces false u f zs)) rest z (in_arrange c z (all_pieces false u f zs) within.0))

module _ (th : ℕ → Theory) where
  pub part_of_built : (f : ℕ) (z : Tree) (zs : List Tree) → Each (IsNormal th) zs → IsIn z zs → IsIn z (parts_under th f (build (th f) f zs))
  part_of_built f z zs n h = by (th f).assoc refl
    where
      t : Tree
      t = build (th f) f zs

      by : (a : Bool) → (th f).assoc ≡ a → IsIn z (parts_under th f (build (th f) f zs))
      by true e =
          let v = build (th f) f zs in
          in_right z (units_of (th f).id) _ (inr (in_right z (arguments_of v) _ (in_right z (one_less v) _ (assoc_part th f e z zs n h))))
      by false e =
          let l = list_under (th f) f (build (th f) f zs) in
          let rest = map (over_list (th f) f) (words (length l) l) in
          subst (λ a. let v = made a (th f).comm (th f).id (th f).succ f zs in IsIn z (units_of (th f).id ++ (v ∷ (arguments_of v ++ (one_less v ++ rest))))) (sym e)
          (other_part (th f).comm (th f).id (th f).succ f zs rest z h)

  module _ (lawful : AreLawful th) (g : Variable → Tree) (x : Variable) where
    mutual
      pub value_is_candidate : (p : Tree) → Occurs x p → IsIn (norm th (g x)) (candidates th p (norm th (instance g p)))
      value_is_candidate (variable i s) o = inl (ap (λ y. norm th (g y)) o)
      value_is_candidate (numeral n) o = absurd o
      value_is_candidate (apply f ps) o =
          value_is_among ps o (norms th (instances g ps)) (parts_under th f (norm th (instance g (apply f ps)))) (AllIn-itself (norms th (instances g ps)))
          (λ z h. part_of_built f z (norms th (instances g ps)) (norms_normal th lawful (instances g ps)) h)

      value_is_among : (ps : Trees) → OccursIn x ps → (zs ts : List Tree) → AllIn (norms th (instances g ps)) zs → ((z : Tree) → IsIn z zs → IsIn z ts) → IsIn (norm th (g x)) (all_candidates th ps ts)
      value_is_among no_trees o zs ts w h = absurd o
      value_is_among (tree p ps) (inl o) zs ts w h =
          in_left (norm th (g x)) (each_of (candidates th p) ts) (all_candidates th ps ts)
          (in_each_of (candidates th p) (norm th (instance g p)) ts (norm th (g x)) (h (norm th (instance g p)) w.0) (value_is_candidate p o))
      value_is_among (tree p ps) (inr o) zs ts w h =
          in_right (norm th (g x)) (each_of (candidates th p) ts) (all_candidates th ps ts) (value_is_among ps o zs ts w.1 h)
