-- A normal form is no smaller than those that it is built over, and no smaller than the values in it.
use Rattle.std.proofs.Common.{◌≡◌, ℕ, zero, suc, ◌+◌, ◌≤◌, List, [], ◌∷◌, ◌++◌, length, Bool, true, false, ◌&&◌, if◌then◌else◌, nat_lt, Option, Some, None, ◌⊎◌, inl, inr, refl, sym, ◌∙◌, ap, subst, arith, length-append}
use Rattle.std.specs.Ordering.{is_gt}
use Rattle.mau_terms.specs.Tree.{Tree, variable, numeral, apply, Trees, no_trees, tree, node, list_of, trees_of}
use Rattle.mau_terms.specs.Order.{tree_cmp, insert_tree, sort_trees}
use Rattle.mau_terms.specs.Norm.{greatest_numeral, unit_tree, pieces, all_pieces, arrange, finish, over_one, build, norm, norms}
use Rattle.mau_terms.specs.Lawful.{AreLawful}
use Rattle.mau_terms.specs.Subst.{Variable, instance, instances, Occurs, OccursIn}
use Rattle.mau_terms.specs.Finite.{IsIn}
use Rattle.mau_terms.specs.declared.theory.Identity.{Identity}
use Rattle.mau_terms.specs.declared.theory.Identity.TheVariants.{Const, Num}
use Rattle.mau_terms.specs.declared.theory.Theory.{Theory}
use Rattle.mau_terms.proofs.Pieces.{trees_of-list_of, Split, unit, many, one, split, Each}
use Rattle.mau_terms.proofs.Normal.{IsNormal, norms_normal}
use Rattle.mau_terms.proofs.Finite.{length-arrange}
use Rattle.mau_evaluation.specs.Evaluation.{size, sizes}

-- ---- lists

abbrev pub total : List Tree → ℕ
total [] = 0
total (t ∷ ts) = size t + total ts

pub total-sizes : (ts : List Tree) → sizes (trees_of ts) ≡ total ts
total-sizes [] = refl
total-sizes (t ∷ ts) = ap (λ n. size t + n) (total-sizes ts)

total-append : (ts us : List Tree) → total (ts ++ us) ≡ total ts + total us
total-append [] us = omega arith
total-append (t ∷ ts) us = let h = total-append ts us in omega (arith, h)

total-insert : (t : Tree) (us : List Tree) → total (insert_tree t us) ≡ size t + total us
total-insert t [] = refl
total-insert t (u ∷ us) = by (total-insert t us) (is_gt (tree_cmp t u))
  where
    by : total (insert_tree t us) ≡ size t + total us → (b : Bool) → total (if b then u ∷ insert_tree t us else t ∷ u ∷ us) ≡ size t + (size u + total us)
    by h true = omega (arith, h)
    by h false = refl

total-arrange : (c : Bool) (ts : List Tree) → total (arrange c ts) ≡ total ts
total-arrange false ts = refl
total-arrange true [] = refl
total-arrange true (t ∷ ts) = total-insert t (sort_trees ts) ∙ ap (λ n. size t + n) (total-arrange true ts)

-- 1 where there are two or more
abbrev top_of : ℕ → ℕ
top_of zero = 0
top_of (suc zero) = 0
top_of (suc (suc n)) = 1

-- how large a list is with an operator above it, if it needs one
abbrev weight : List Tree → ℕ
weight ts = top_of (length ts) + total ts

top_more : (m n : ℕ) → m ≤ n → top_of m ≤ top_of n
top_more zero n h = omega arith
top_more (suc zero) n h = omega arith
top_more (suc (suc m)) zero h = absurd (omega arith)
top_more (suc (suc m)) (suc zero) h = absurd (omega arith)
top_more (suc (suc m)) (suc (suc n)) h = omega arith

weight_left : (ts us : List Tree) → weight ts ≤ weight (ts ++ us)
weight_left ts us =
    let l : length ts ≤ length (ts ++ us) = omega (arith, length-append ts us) in
    omega (arith, top_more (length ts) (length (ts ++ us)) l, total-append ts us)

weight_right : (ts us : List Tree) → weight us ≤ weight (ts ++ us)
weight_right ts us =
    let l : length us ≤ length (ts ++ us) = omega (arith, length-append ts us) in
    omega (arith, top_more (length us) (length (ts ++ us)) l, total-append ts us)

weight-arrange : (c : Bool) (ts : List Tree) → weight (arrange c ts) ≡ weight ts
weight-arrange c ts = ap (λ n. top_of n + total (arrange c ts)) (length-arrange c ts) ∙ ap (λ n. top_of (length ts) + n) (total-arrange c ts)

-- an element is no larger than all
pub element_size : (ts : Trees) (z : Tree) → IsIn z (list_of ts) → size z ≤ sizes ts
element_size no_trees z i = absurd i
element_size (tree t ts) z (inl e) = subst (λ w. size w ≤ size t + sizes ts) (sym e) (omega arith)
element_size (tree t ts) z (inr i) = let h : size z ≤ sizes ts = element_size ts z i in omega (arith, h)

-- ---- what is built

pub least_size : (t : Tree) → 1 ≤ size t
least_size (variable i s) = omega arith
least_size (numeral n) = omega arith
least_size (apply f ts) = omega arith

unit_size : (i : Identity) → size (unit_tree i) ≡ 1
unit_size (Const c) = refl
unit_size (Num n) = refl

over_one_size : (s : Bool) (f : ℕ) (t : Tree) → size t ≤ size (over_one s f t)
over_one_size s f (variable i r) = omega arith
over_one_size s f (numeral n) = by (s && nat_lt n greatest_numeral)
  where
    by : (b : Bool) → 1 ≤ size (if b then numeral (n + 1) else node f (numeral n ∷ []))
    by true = omega arith
    by false = omega arith
over_one_size s f (apply g ts) = omega arith

finish_size : (a : Bool) (u : Option Identity) (s : Bool) (f : ℕ) (ts : List Tree) → weight ts ≤ size (finish a u s f ts)
finish_size a u s f [] = omega arith
finish_size true None s f (t ∷ []) = omega arith
finish_size true (Some i) s f (t ∷ []) = omega arith
finish_size false (Some i) s f (t ∷ []) = omega arith
finish_size false None s f (t ∷ []) = omega (arith, over_one_size s f t)
finish_size true None s f (t ∷ u ∷ ts) = omega (arith, total-sizes ts)
finish_size true (Some i) s f (t ∷ u ∷ ts) = omega (arith, total-sizes ts)
finish_size false None s f (t ∷ u ∷ ts) = omega (arith, total-sizes ts)
finish_size false (Some i) s f (t ∷ u ∷ ts) = omega (arith, total-sizes ts)

module _ (th : ℕ → Theory) where
  -- a normal form is a leaf or weighs no more than its pieces
  pieces_weigh : (f : ℕ) (t : Tree) → IsNormal th t → (size t ≡ 1) ⊎ (size t ≤ weight (pieces (th f).assoc (th f).id f t))
  pieces_weigh f t n = by (split (th f).assoc (th f).id f t)
    where
      by : Split (th f).assoc (th f).id f t → (size t ≡ 1) ⊎ (size t ≤ weight (pieces (th f).assoc (th f).id f t))
      by (unit i u e p) = inl (ap size e ∙ unit_size i)
      by (one p) = inr (subst (λ ps. size t ≤ weight ps) (sym p) (omega arith))
      by (many ts a e p) =
          let m : IsNormal th (apply f ts) = subst (IsNormal th) e n in
          let q : finish true (th f).id (th f).succ f (list_of ts) ≡ node f (list_of ts) = subst (λ b. finish b (th f).id (th f).succ f (list_of ts) ≡ node f (list_of ts)) a m.1.long in
          subst (λ z. (size z ≡ 1) ⊎ (size z ≤ weight (pieces (th f).assoc (th f).id f t))) (sym e)
          (subst (λ ps. (suc (sizes ts) ≡ 1) ⊎ (suc (sizes ts) ≤ weight ps)) (sym p) (long ts (th f).id (th f).succ q))
        where
          long : (us : Trees) (i : Option Identity) (s : Bool) → finish true i s f (list_of us) ≡ node f (list_of us) → (suc (sizes us) ≡ 1) ⊎ (suc (sizes us) ≤ weight (list_of us))
          long no_trees i s q = inl refl
          long (tree u no_trees) None s q = let k : size u ≡ suc (size u + 0) = ap size q in absurd (omega arith)
          long (tree u no_trees) (Some i) s q = let k : size u ≡ suc (size u + 0) = ap size q in absurd (omega arith)
          long (tree u (tree v us)) i s q = let k : sizes us ≡ total (list_of us) = ap sizes (sym (trees_of-list_of us)) ∙ total-sizes (list_of us) in inr (omega arith)

  all_weigh : (f : ℕ) (ns : List Tree) → Each (IsNormal th) ns → (n : Tree) → IsIn n ns → (size n ≡ 1) ⊎ (size n ≤ weight (all_pieces (th f).assoc (th f).id f ns))
  all_weigh f [] e n i = absurd i
  all_weigh f (m ∷ ns) e n (inl h) = subst (λ z. (size z ≡ 1) ⊎ (size z ≤ weight (all_pieces (th f).assoc (th f).id f (m ∷ ns)))) (sym h) (by (pieces_weigh f m e.0))
    where
      by : (size m ≡ 1) ⊎ (size m ≤ weight (pieces (th f).assoc (th f).id f m)) → (size m ≡ 1) ⊎ (size m ≤ weight (all_pieces (th f).assoc (th f).id f (m ∷ ns)))
      by (inl k) = inl k
      by (inr k) = inr (omega (arith, weight_left (pieces (th f).assoc (th f).id f m) (all_pieces (th f).assoc (th f).id f ns)))
  all_weigh f (m ∷ ns) e n (inr h) = by (all_weigh f ns e.1 n h)
    where
      by : (size n ≡ 1) ⊎ (size n ≤ weight (all_pieces (th f).assoc (th f).id f ns)) → (size n ≡ 1) ⊎ (size n ≤ weight (all_pieces (th f).assoc (th f).id f (m ∷ ns)))
      by (inl k) = inl k
      by (inr k) = inr (omega (arith, weight_right (pieces (th f).assoc (th f).id f m) (all_pieces (th f).assoc (th f).id f ns)))

  pub built_size : (f : ℕ) (ns : List Tree) → Each (IsNormal th) ns → (n : Tree) → IsIn n ns → size n ≤ size (build (th f) f ns)
  built_size f ns e n i = by (all_weigh f ns e n i)
    where
      by : (size n ≡ 1) ⊎ (size n ≤ weight (all_pieces (th f).assoc (th f).id f ns)) → size n ≤ size (build (th f) f ns)
      by (inl k) = omega (arith, least_size (build (th f) f ns))
      by (inr k) =
          let ps = all_pieces (th f).assoc (th f).id f ns in
          omega (arith, weight-arrange (th f).comm ps, finish_size (th f).assoc (th f).id (th f).succ f (arrange (th f).comm ps))

  -- ---- values in instances

  module _ (lawful : AreLawful th) (g : Variable → Tree) (y : Variable) where
    mutual
      -- the value of a variable that occurs
      pub value_size : (p : Tree) → Occurs y p → size (norm th (g y)) ≤ size (norm th (instance g p))
      value_size (variable i s) e = subst (λ w. size (norm th (g y)) ≤ size (norm th (g w))) e (omega arith)
      value_size (numeral n) e = absurd e
      value_size (apply f ps) e =
          let q = value_among ps e in
          let h = built_size f (norms th (instances g ps)) (norms_normal th lawful (instances g ps)) q.0 q.1 in
          let k : size (norm th (g y)) ≤ size q.0 = q.2 in
          omega (arith, h, k)

      pub value_among : (ps : Trees) → OccursIn y ps → (n : Tree) × IsIn n (norms th (instances g ps)) × (size (norm th (g y)) ≤ size n)
      value_among no_trees e = absurd e
      value_among (tree p ps) (inl e) = (norm th (instance g p), inl refl, value_size p e)
      value_among (tree p ps) (inr e) = let q = value_among ps e in (q.0, inr q.1, q.2)
