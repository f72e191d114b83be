-- A pattern with known elements in front of a variable: it is the pattern itself, where the variable's list begins with these and goes on.
use Rattle.std.proofs.Common.{◌≡◌, ◌<◌, ◌^◌, ◌≤◌, ℕ, zero, suc, List, [], ◌∷◌, ◌++◌, length, take, Bool, true, false, None, if◌then◌else◌, inl, inr, refl, sym, ◌∙◌, ap, ap₂, subst, arith, append-nil}
use Rattle.std.proofs.lemmas.Bool.{or_parts}
use Rattle.mau_terms.specs.Tree.{Tree, variable, numeral, apply, Trees, no_trees, tree}
use Rattle.mau_terms.specs.Norm.{norm, norms, build, arrange, finish}
use Rattle.mau_terms.specs.Lawful.{AreLawful}
use Rattle.mau_terms.specs.Bare.{TermSignature, IsBareIn, AreBareIn, IsLawful}
use Rattle.mau_terms.specs.Subst.{Variable, same_variable, instance, instances}
use Rattle.mau_terms.specs.Solution.{list_under}
use Rattle.mau_terms.specs.Finite.{IsIn}
use Rattle.mau_terms.specs.declared.theory.Theory.{Theory}
use Rattle.mau_terms.proofs.Finite.{length-arrange, over_its_list}
use Rattle.mau_terms.proofs.Normal.{IsNormal, whole_pieces, normal_pieces, pieces_all, build_normal, normal_fixed}
use Rattle.mau_terms.proofs.Pieces.{Each, IsPiece, arrange_right}
use Rattle.mau_terms.proofs.Variables.{same_itself, same-is}
use Rattle.mau_lists.specs.Lists.{IsBelow}
use Rattle.mau_lists.specs.Terms.{IsBefore}
use Rattle.mau_listing.proofs.Answered.{normal_is}
use Rattle.mau_match.specs.Parts.{occurs, occurs_among, IsFairAt, IsFair, AreFair}
use Rattle.mau_match.specs.Skipped.{IsPast}
use Rattle.mau_match.specs.Fronts.{split_at}
use Rattle.mau_match.proofs.Builds.{list_of_built}
use Rattle.mau_match.proofs.Skipping.{past_below}

-- ---- instances

module _ (f : ℕ) (x y : Variable) (a b : Tree) (gg : Variable → Tree) where
  -- the same values, where y has a and x has b
  abbrev pub with_parts : Variable → Tree
  with_parts z = if same_variable z y then a else (if same_variable z x then b else gg z)

  -- the same values, where x has f over both
  abbrev pub with_both : Variable → Tree
  with_both z = if same_variable z x then apply f (tree a (tree b no_trees)) else gg z

  pub first_part : with_parts (y.0, y.1) ≡ a
  first_part = ap (λ d. if d then a else (if same_variable (y.0, y.1) x then b else gg (y.0, y.1))) (same_itself y)

  pub second_part : (i s : ℕ) → same_variable (i, s) y ≡ false → same_variable (i, s) x ≡ true → with_parts (i, s) ≡ b
  second_part i s n e = ap (λ d. if d then a else (if same_variable (i, s) x then b else gg (i, s))) n ∙ ap (λ d. if d then b else gg (i, s)) e

  pub other_part : (z : Variable) → same_variable z y ≡ false → same_variable z x ≡ false → with_parts z ≡ gg z
  other_part z n e = ap (λ d. if d then a else (if same_variable z x then b else gg z)) n ∙ ap (λ d. if d then b else gg z) e

  mutual
    pub split_instance : (p : Tree) → occurs y p ≡ false → instance with_parts (instance (split_at f x y) p) ≡ instance with_both p
    split_instance (variable i s) n = by (same_variable (i, s) x) refl
      where
        by : (d : Bool) → same_variable (i, s) x ≡ d → instance with_parts (if d then apply f (tree (variable y.0 y.1) (tree (variable i s) no_trees)) else variable i s) ≡ (if d then apply f (tree a (tree b no_trees)) else gg (i, s))
        by true e = ap₂ (λ v w. apply f (tree v (tree w no_trees))) first_part (second_part i s n e)
        by false e = other_part (i, s) n e
    split_instance (numeral k) n = refl
    split_instance (apply h ts) n = ap (apply h) (split_instances ts n)

    pub split_instances : (ps : Trees) → occurs_among y ps ≡ false → instances with_parts (instances (split_at f x y) ps) ≡ instances with_both ps
    split_instances no_trees n = refl
    split_instances (tree p ps) n =
        let k = or_parts (occurs y p) (occurs_among y ps) n in
        ap₂ tree (split_instance p k.0) (split_instances ps k.1)

  module _ (th : ℕ → Theory) (two : IsFairAt th f (norm th a ∷ norm th b ∷ [])) where
    mutual
      pub split_fair : (p : Tree) → occurs y p ≡ false → IsFair th with_both p → IsFair th with_parts (instance (split_at f x y) p)
      split_fair (variable i s) n fair = by (same_variable (i, s) x) refl
        where
          by : (d : Bool) → same_variable (i, s) x ≡ d → IsFair th with_parts (if d then apply f (tree (variable y.0 y.1) (tree (variable i s) no_trees)) else variable i s)
          by true e = (subst (IsFairAt th f) (ap₂ (λ v w. norm th v ∷ norm th w ∷ []) (sym first_part) (sym (second_part i s n e))) two, (tt, (tt, tt)))
          by false e = tt
      split_fair (numeral k) n fair = tt
      split_fair (apply h ts) n fair = (subst (λ us. IsFairAt th h (norms th us)) (sym (split_instances ts n)) fair.0, split_fairs ts n fair.1)

      pub split_fairs : (ps : Trees) → occurs_among y ps ≡ false → AreFair th with_both ps → AreFair th with_parts (instances (split_at f x y) ps)
      split_fairs no_trees n fair = tt
      split_fairs (tree p ps) n fair =
          let k = or_parts (occurs y p) (occurs_among y ps) n in
          (split_fair p k.0 fair.0, split_fairs ps k.1 fair.1)

-- what is bare stays so
module _ (s : TermSignature) (lawful : IsLawful s) (f : ℕ) (is : s.has_operator f ≡ true) (assoc : (s.theory f).assoc ≡ true) (x y : Variable) (small : y.0 < 2 ^ 32) (sort : y.1 ≡ x.1) (kind : s.kind_of x.1 ≡ s.result f) where
  mutual
    pub split_bare : (p : Tree) (k : ℕ) → IsBareIn s p k → IsBareIn s (instance (split_at f x y) p) k
    split_bare (variable i r) k b = by (same_variable (i, r) x) refl
      where
        by : (d : Bool) → same_variable (i, r) x ≡ d → IsBareIn s (if d then apply f (tree (variable y.0 y.1) (tree (variable i r) no_trees)) else variable i r) k
        by false e = b
        by true e =
            let same : r ≡ x.1 = ap (λ (v : Variable). v.1) (same-is (i, r) x e) in
            let own : s.kind_of r ≡ s.result f = ap s.kind_of same ∙ kind in
            let at : s.kind_of y.1 ≡ s.result f = ap s.kind_of sort ∙ kind in
            let has : s.has_sort y.1 ≡ true = ap s.has_sort (sort ∙ sym same) ∙ b.1 in
            (is, sym own ∙ b.2, subst (AreBareIn s (tree (variable y.0 y.1) (tree (variable i r) no_trees))) (sym (lawful.assoc_kinds f assoc)) ((small, has, at), ((b.0, b.1, own), tt)))
    split_bare (numeral n) k b = b
    split_bare (apply h ts) k b = (b.0, b.1, split_bares ts (s.arguments h) b.2)

    pub split_bares : (ps : Trees) (ks : List ℕ) → AreBareIn s ps ks → AreBareIn s (instances (split_at f x y) ps) ks
    split_bares no_trees [] b = tt
    split_bares no_trees (k ∷ ks) b = absurd b
    split_bares (tree p ps) [] b = absurd b
    split_bares (tree p ps) (k ∷ ks) b = (split_bare p k b.0, split_bares ps ks b.1)

-- ---- a value whose list begins with some elements and goes on

each_right : (P : Tree → Type 0) (xs ys : List Tree) → Each P (xs ++ ys) → Each P ys
each_right P [] ys h = h
each_right P (x ∷ xs) ys h = each_right P xs ys h.1

module _ (th : ℕ → Theory) (lawful : AreLawful th) (f : ℕ) (a : (th f).assoc ≡ true) (u : Tree) (n : norm th u ≡ u) (xs : List Tree) (r : Tree) (rs : List Tree) (key : list_under (th f) f u ≡ xs ++ r ∷ rs) where
  -- the value of what goes on
  abbrev pub rest_value : Tree
  rest_value = build (th f) f (r ∷ rs)

  normal : IsNormal th u
  normal = normal_is th lawful u n

  rest_pieces : Each (IsPiece (th f).assoc (th f).id f) (r ∷ rs)
  rest_pieces = each_right (IsPiece (th f).assoc (th f).id f) xs (r ∷ rs) (subst (Each (IsPiece (th f).assoc (th f).id f)) key (whole_pieces th f u normal))

  rest_each : Each (IsNormal th) (r ∷ rs)
  rest_each = each_right (IsNormal th) xs (r ∷ rs) (subst (Each (IsNormal th)) key (normal_pieces th f u normal))

  pub rest_normal : norm th rest_value ≡ rest_value
  rest_normal = normal_fixed th rest_value (build_normal th lawful f (r ∷ rs) rest_each)

  pub rest_list : list_under (th f) f rest_value ≡ arrange (th f).comm (r ∷ rs)
  rest_list = list_of_built th f (r ∷ rs) a rest_each ∙ ap (arrange (th f).comm) (pieces_all th (th f).assoc (th f).id f (r ∷ rs) rest_pieces)

  pub rest_some : 1 ≤ length (list_under (th f) f rest_value)
  rest_some = omega (arith, ap length rest_list, length-arrange (th f).comm (r ∷ rs))

  -- f over a term with those elements and this value is the value
  pub both_is : (t : Tree) → norm th t ≡ t → list_under (th f) f t ≡ xs → norm th (apply f (tree t (tree rest_value no_trees))) ≡ u
  both_is t m e =
      ap₂ (λ v w. build (th f) f (v ∷ w ∷ [])) m rest_normal
      ∙ ap (finish (th f).assoc (th f).id (th f).succ f)
      (ap (arrange (th f).comm) (ap₂ (λ v w. v ++ w) e (append-nil (list_under (th f) f rest_value) ∙ rest_list))
      ∙ arrange_right (th f).comm xs (r ∷ rs)
      ∙ ap (arrange (th f).comm) (sym key))
      ∙ over_its_list th f u a normal

  not_none : (ts : List Tree) → 1 ≤ length ts → ts ≡ [] → ⊥
  not_none ts h e = absurd (omega (arith, h, ap length e))

  pub both_fair : (t : Tree) → norm th t ≡ t → list_under (th f) f t ≡ xs → ((th f).id ≡ None → 1 ≤ length xs) → IsFairAt th f (norm th t ∷ norm th rest_value ∷ [])
  both_fair t m e some = record {
    two_by_unit = λ i k. refl;
    two_by_assoc = λ k. refl;
    filled = λ k none. full none;
  }
    where
      full : (th f).id ≡ None → (z : Tree) → IsIn z (norm th t ∷ norm th rest_value ∷ []) → list_under (th f) f z ≡ [] → ⊥
      full none z (inl k) q = not_none xs (some none) (sym e ∙ ap (list_under (th f) f) (sym m ∙ sym k) ∙ q)
      full none z (inr (inl k)) q = not_none (list_under (th f) f rest_value) rest_some (ap (list_under (th f) f) (sym rest_normal ∙ sym k) ∙ q)
      full none z (inr (inr k)) q = absurd k

-- ---- lists behind all that begin alike

-- a list behind another one that does not go on with its first elements is past these
pub past_front : (k : ℕ) (l t : List Tree) → k ≤ length l → IsBelow IsBefore l t → ((y : Tree) (ys : List Tree) → t ≡ take k l ++ y ∷ ys → ⊥) → IsPast (take k l) t
past_front zero [] [] h b n = absurd b
past_front zero (x ∷ l) [] h b n = absurd b
past_front zero l (c ∷ t) h b n = absurd (n c t refl)
past_front (suc k) [] t h b n = absurd (omega (arith, h))
past_front (suc k) (x ∷ l) [] h b n = absurd b
past_front (suc k) (x ∷ l) (c ∷ t) h (inl b) n = inl b
past_front (suc k) (x ∷ l) (c ∷ t) h (inr b) n = inr (b.0, past_front k l t (omega (arith, h)) b.1 (λ y ys e. n y ys (ap₂ (λ v w. v ∷ w) (sym b.0) e)))

pub behind_front_and : (k : ℕ) (l t : List Tree) (z : Tree) → k ≤ length l → IsBelow IsBefore l t → ((y : Tree) (ys : List Tree) → t ≡ take k l ++ y ∷ ys → ⊥) → IsBelow IsBefore (take k l ++ z ∷ []) t
behind_front_and k l t z h b n = past_below (take k l) t z (past_front k l t h b n)
