-- Each bare term is equal to its normal form, read as a bare term.
use Rattle.std.proofs.Common.{◌≡◌, ℕ, ◌+◌, List, [], ◌∷◌, ◌++◌, Bool, true, false, nat_lt, if◌then◌else◌, Option, Some, None, refl, sym, ◌∙◌, ap, ap₂, subst, map, append-nil, ltb-true}
use Rattle.std.specs.Ordering.{is_gt}
use Rattle.mau_terms.specs.Tree.{Tree, variable, numeral, apply, Trees, no_trees, tree, node, list_of, trees_of}
use Rattle.mau_terms.specs.Order.{tree_cmp}
use Rattle.mau_terms.specs.Norm.{greatest_numeral, unit_tree, pieces, all_pieces, arrange, finish, over_one, made, build, norm, norms}
use Rattle.mau_terms.specs.Axioms.{binary}
use Rattle.mau_terms.specs.Reading.{nest, reading, readings}
use Rattle.mau_terms.specs.Bare.{TermSignature, AreBareIn, IsLawful}
use Rattle.mau_terms.specs.declared.theory.Identity.{Identity}
use Rattle.mau_terms.specs.declared.theory.Identity.TheVariants.{Const, Num}
use Rattle.mau_terms.specs.declared.theory.Theory.{Theory}
use Rattle.mau_terms.proofs.Pieces.{list_of-trees_of, Split, unit, many, one, split, Each, alone_element}
use Rattle.mau_terms.proofs.Normal.{IsNormal, norms_normal}
use Rattle.mau_terms.proofs.Chains.{Chain, stop_in, chain_end, chain_in_trans, chain_here, chain_there, chain_below}
use Rattle.mau_terms.proofs.Leads.{Leads, LeadsIn, stays, same, onward, across, drop_left, drop_right, count_up}
use Rattle.mau_terms.proofs.Nested.{empty, nested, join, arranged}

map-append : (g : Tree → Tree) (ts us : List Tree) → map g (ts ++ us) ≡ map g ts ++ map g us
map-append g [] us = refl
map-append g (t ∷ ts) us = ap (λ w. g t ∷ w) (map-append g ts us)

module _ (th : ℕ → Theory) where
  readings_map : (ts : Trees) → readings th ts ≡ map (reading th) (list_of ts)
  readings_map no_trees = refl
  readings_map (tree t ts) = ap (λ w. reading th t ∷ w) (readings_map ts)

  reading_unit : (i : Identity) → reading th (unit_tree i) ≡ unit_tree i
  reading_unit (Const c) = by (th c.0).assoc
    where
      by : (a : Bool) → nest a c.0 [] ≡ apply c.0 no_trees
      by true = refl
      by false = refl
  reading_unit (Num n) = refl

  reading_apply : (a : Bool) (f : ℕ) (ts : Trees) → (th f).assoc ≡ a → reading th (apply f ts) ≡ nest a f (map (reading th) (list_of ts))
  reading_apply a f ts e = ap₂ (λ b w. nest b f w) e (readings_map ts)

  reading_node : (a : Bool) (f : ℕ) (ts : List Tree) → (th f).assoc ≡ a → reading th (node f ts) ≡ nest a f (map (reading th) ts)
  reading_node a f ts e = reading_apply a f (trees_of ts) e ∙ ap (λ w. nest a f (map (reading th) w)) (list_of-trees_of ts)

  finish_empty : (u : Option Identity) (s : Bool) (f : ℕ) → finish true u s f [] ≡ empty u f
  finish_empty None s f = refl
  finish_empty (Some i) s f = refl

  many_nested : (u : Option Identity) (s : Bool) (f : ℕ) (ts : List Tree) → finish true u s f ts ≡ node f ts → nest true f (map (reading th) ts) ≡ nested u f (map (reading th) ts)
  many_nested u s f [] e = sym e ∙ finish_empty u s f
  many_nested u s f (t ∷ ts) e = refl

  -- a normal form is read as the nested list of its pieces
  pieces-reading : (f : ℕ) (x : Tree) → (th f).assoc ≡ true → IsNormal th x → reading th x ≡ nested (th f).id f (map (reading th) (pieces true (th f).id f x))
  pieces-reading f x a n = by (split true (th f).id f x)
    where
      R : Tree → Tree
      R = reading th

      by : Split true (th f).id f x → reading th x ≡ nested (th f).id f (map (reading th) (pieces true (th f).id f x))
      by (unit i u e p) =
          ap (reading th) e ∙ reading_unit i ∙ ap (λ v. empty v f) (sym u) ∙ ap (λ w. nested (th f).id f (map (reading th) w)) (sym p)
      by (many ts b e p) =
          let m : IsNormal th (apply f ts) = subst (IsNormal th) e n in
          let long : finish true (th f).id (th f).succ f (list_of ts) ≡ node f (list_of ts) = subst (λ c. finish c (th f).id (th f).succ f (list_of ts) ≡ node f (list_of ts)) a m.1.long in
          ap (reading th) e ∙ reading_apply true f ts a ∙ many_nested (th f).id (th f).succ f (list_of ts) long ∙ ap (λ w. nested (th f).id f (map (reading th) w)) (sym p)
      by (one p) = ap (λ w. nested (th f).id f (map (reading th) w)) (sym p)

  finish-reading : (u : Option Identity) (s : Bool) (f : ℕ) (ts : List Tree) → (th f).assoc ≡ true → reading th (finish true u s f ts) ≡ nested u f (map (reading th) ts)
  finish-reading None s f [] a = reading_node true f [] a
  finish-reading (Some i) s f [] a = reading_unit i
  finish-reading None s f (t ∷ []) a = refl
  finish-reading (Some i) s f (t ∷ []) a = refl
  finish-reading None s f (t ∷ v ∷ ts) a = reading_node true f (t ∷ v ∷ ts) a
  finish-reading (Some i) s f (t ∷ v ∷ ts) a = reading_node true f (t ∷ v ∷ ts) a

  free_pieces : (f : ℕ) (ts : List Tree) → all_pieces false None f ts ≡ ts
  free_pieces f [] = refl
  free_pieces f (t ∷ ts) = ap₂ (λ v w. v ++ w) (alone_element f t) (free_pieces f ts)

module _ (s : TermSignature) (lawful : IsLawful s) where
  abbrev R : Tree → Tree
  R = reading s.theory

  -- ---- binary normal forms under an associative operator

  built_assoc : (f : ℕ) → (s.theory f).assoc ≡ true → (x y : Tree) → IsNormal s.theory x → IsNormal s.theory y → Leads s (s.result f) (binary f (R x) (R y)) (R (build (s.theory f) f (x ∷ y ∷ [])))
  built_assoc f a x y n m =
      let r = s.result f in
      let u = (s.theory f).id in
      let c = (s.theory f).comm in
      let xs = pieces true u f x in
      let ys = pieces true u f y in
      let all = xs ++ (ys ++ []) in
      let e1 : binary f (R x) (R y) ≡ binary f (nested u f (map R xs)) (nested u f (map R ys)) = ap₂ (binary f) (pieces-reading s.theory f x a n) (pieces-reading s.theory f y a m) in
      let e2 : map R xs ++ map R ys ≡ map R all = sym (map-append R xs ys) ∙ ap (λ w. map R (xs ++ w)) (sym (append-nil ys)) in
      let e3 : nested u f (map R (arrange c all)) ≡ R (build (s.theory f) f (x ∷ y ∷ [])) =
      sym (finish-reading s.theory u (s.theory f).succ f (arrange c all) a) ∙ ap (λ b. R (made b c u (s.theory f).succ f (x ∷ y ∷ []))) (sym a) in
      onward s r (binary f (R x) (R y)) (binary f (nested u f (map R xs)) (nested u f (map R ys))) (R (build (s.theory f) f (x ∷ y ∷ []))) (same s r _ _ e1)
      (onward s r (binary f (nested u f (map R xs)) (nested u f (map R ys))) (nested u f (map R xs ++ map R ys)) (R (build (s.theory f) f (x ∷ y ∷ []))) (join s lawful f a u refl (map R xs) (map R ys))
      (onward s r (nested u f (map R xs ++ map R ys)) (nested u f (map R all)) (R (build (s.theory f) f (x ∷ y ∷ []))) (same s r _ _ (ap (nested u f) e2))
      (onward s r (nested u f (map R all)) (nested u f (map R (arrange c all))) (R (build (s.theory f) f (x ∷ y ∷ []))) (arranged s lawful f a u R all) (same s r _ _ e3))))

  -- ---- binary arguments that are sorted or not, under an operator that is not associative

  sorted_two : (f k : ℕ) (c : Bool) → (s.theory f).comm ≡ c → (s.theory f).assoc ≡ false → (x y : Tree) → Leads s k (binary f (R x) (R y)) (R (node f (arrange c (x ∷ y ∷ []))))
  sorted_two f k true e a x y = by (is_gt (tree_cmp x y))
    where
      by : (b : Bool) → Leads s k (binary f (R x) (R y)) (R (node f (if b then y ∷ x ∷ [] else x ∷ y ∷ [])))
      by true = onward s k (binary f (R x) (R y)) (binary f (R y) (R x)) (R (node f (y ∷ x ∷ []))) (across s lawful f k (R x) (R y) e) (same s k _ _ (sym (reading_node s.theory false f (y ∷ x ∷ []) a)))
      by false = same s k _ _ (sym (reading_node s.theory false f (x ∷ y ∷ []) a))
  sorted_two f k false e a x y = same s k _ _ (sym (reading_node s.theory false f (x ∷ y ∷ []) a))

  -- ---- an identity, without associativity

  built_unit : (f k : ℕ) (i : Identity) (c : Bool) → (s.theory f).id ≡ Some i → (s.theory f).comm ≡ c → (s.theory f).assoc ≡ false → (b : Bool) (x y : Tree) → Leads s k (binary f (R x) (R y)) (R (made false c (Some i) b f (x ∷ y ∷ [])))
  built_unit f k i c e ec a b x y = by (split false (Some i) f x) (split false (Some i) f y)
    where
      goal : List Tree → List Tree → Type 0
      goal xs ys = Leads s k (binary f (R x) (R y)) (R (finish false (Some i) b f (arrange c (xs ++ (ys ++ [])))))

      some_one : (j : Identity) → Some i ≡ Some j → unit_tree j ≡ unit_tree i
      some_one j h = let h' : i ≡ j = cc in ap unit_tree (sym h')

      none : (c : Bool) → finish false (Some i) b f (arrange c []) ≡ unit_tree i
      none true = refl
      none false = refl

      lone : (c : Bool) (z : Tree) → finish false (Some i) b f (arrange c (z ∷ [])) ≡ z
      lone true z = refl
      lone false z = refl

      long : (c : Bool) → finish false (Some i) b f (arrange c (x ∷ y ∷ [])) ≡ node f (arrange c (x ∷ y ∷ []))
      long true = by (is_gt (tree_cmp x y))
        where
          by : (h : Bool) → finish false (Some i) b f (if h then y ∷ x ∷ [] else x ∷ y ∷ []) ≡ node f (if h then y ∷ x ∷ [] else x ∷ y ∷ [])
          by true = refl
          by false = refl
      long false = refl

      -- R of the unit
      unit_read : (j : Identity) (z : Tree) → Some i ≡ Some j → z ≡ unit_tree j → R z ≡ unit_tree i
      unit_read j z h ez = ap R ez ∙ reading_unit s.theory j ∙ some_one j h

      by : Split false (Some i) f x → Split false (Some i) f y → Leads s k (binary f (R x) (R y)) (R (finish false (Some i) b f (arrange c (pieces false (Some i) f x ++ (pieces false (Some i) f y ++ [])))))
      by (many ts h ex p) q = cc
      by (unit j hj ex p) (many ts h ey q) = cc
      by (one p) (many ts h ey q) = cc
      by (unit j hj ex p) (unit l hl ey q) =
          onward s k (binary f (R x) (R y)) (binary f (unit_tree i) (R y)) _ (same s k _ _ (ap (λ w. binary f w (R y)) (unit_read j x hj ex)))
          (onward s k (binary f (unit_tree i) (R y)) (R y) _ (drop_left s lawful f k i (R y) e)
          (same s k _ _ (ap R (ey ∙ some_one l hl ∙ sym (none c)) ∙ ap₂ (λ v w. R (finish false (Some i) b f (arrange c (v ++ (w ++ []))))) (sym p) (sym q))))
      by (unit j hj ex p) (one q) =
          onward s k (binary f (R x) (R y)) (binary f (unit_tree i) (R y)) _ (same s k _ _ (ap (λ w. binary f w (R y)) (unit_read j x hj ex)))
          (onward s k (binary f (unit_tree i) (R y)) (R y) _ (drop_left s lawful f k i (R y) e)
          (same s k _ _ (ap R (sym (lone c y)) ∙ ap₂ (λ v w. R (finish false (Some i) b f (arrange c (v ++ (w ++ []))))) (sym p) (sym q))))
      by (one p) (unit l hl ey q) =
          onward s k (binary f (R x) (R y)) (binary f (R x) (unit_tree i)) _ (same s k _ _ (ap (λ w. binary f (R x) w) (unit_read l y hl ey)))
          (onward s k (binary f (R x) (unit_tree i)) (R x) _ (drop_right s lawful f k i (R x) e)
          (same s k _ _ (ap R (sym (lone c x)) ∙ ap₂ (λ v w. R (finish false (Some i) b f (arrange c (v ++ (w ++ []))))) (sym p) (sym q))))
      by (one p) (one q) =
          onward s k (binary f (R x) (R y)) (R (node f (arrange c (x ∷ y ∷ [])))) _ (sorted_two f k c ec a x y)
          (same s k _ _ (ap R (sym (long c)) ∙ ap₂ (λ v w. R (finish false (Some i) b f (arrange c (v ++ (w ++ []))))) (sym p) (sym q)))

  -- ---- neither

  built_one : (f k : ℕ) (b : Bool) → (s.theory f).succ ≡ b → (s.theory f).assoc ≡ false → (x : Tree) → Leads s k (node f (R x ∷ [])) (R (over_one b f x))
  built_one f k b e a (variable i r) = same s k _ _ (sym (reading_node s.theory false f (variable i r ∷ []) a))
  built_one f k false e a (numeral n) = same s k _ _ (sym (reading_node s.theory false f (numeral n ∷ []) a))
  built_one f k true e a (numeral n) = by (nat_lt n greatest_numeral) refl
    where
      by : (h : Bool) → nat_lt n greatest_numeral ≡ h → Leads s k (node f (numeral n ∷ [])) (R (if h then numeral (n + 1) else node f (numeral n ∷ [])))
      by true h = count_up s lawful f k n e (ltb-true n greatest_numeral h)
      by false h = same s k _ _ (sym (reading_node s.theory false f (numeral n ∷ []) a))
  built_one f k b e a (apply g ts) = same s k _ _ (sym (reading_node s.theory false f (apply g ts ∷ []) a))

  built_free : (f k : ℕ) → (s.theory f).assoc ≡ false → (ts : List Tree) → Leads s k (node f (map R ts)) (R (finish false None (s.theory f).succ f ts))
  built_free f k a [] = same s k _ _ (sym (reading_node s.theory false f [] a))
  built_free f k a (t ∷ []) = built_one f k (s.theory f).succ refl a t
  built_free f k a (t ∷ v ∷ ts) = same s k _ _ (sym (reading_node s.theory false f (t ∷ v ∷ ts) a))

  finish_two : (b : Bool) (f : ℕ) (c : Bool) (x y : Tree) → finish false None b f (arrange c (x ∷ y ∷ [])) ≡ node f (arrange c (x ∷ y ∷ []))
  finish_two b f true x y = by (is_gt (tree_cmp x y))
    where
      by : (h : Bool) → finish false None b f (if h then y ∷ x ∷ [] else x ∷ y ∷ []) ≡ node f (if h then y ∷ x ∷ [] else x ∷ y ∷ [])
      by true = refl
      by false = refl
  finish_two b f false x y = refl

  -- ---- any operator

  -- a binary operator has binary arguments
  with_two : (f k m n : ℕ) (u : Tree) → s.arguments f ≡ m ∷ n ∷ [] → (g : List Tree → Tree) → (ts : List Tree) → Each (IsNormal s.theory) ts → ((x y : Tree) → IsNormal s.theory x → IsNormal s.theory y → Leads s k (binary f (R x) (R y)) (g (x ∷ y ∷ []))) → Leads s k (node f (map R ts)) (g ts)
  with_two f k m n u e g [] ns h b = absurd (let bs : AreBareIn s no_trees (m ∷ n ∷ []) = subst (AreBareIn s no_trees) e b.2 in bs)
  with_two f k m n u e g (x ∷ []) ns h b = absurd (let bs : AreBareIn s (tree (R x) no_trees) (m ∷ n ∷ []) = subst (AreBareIn s (tree (R x) no_trees)) e b.2 in bs.1)
  with_two f k m n u e g (x ∷ y ∷ []) ns h b = h x y ns.0 ns.1.0 b
  with_two f k m n u e g (x ∷ y ∷ z ∷ ts) ns h b = absurd (let bs : AreBareIn s (tree (R x) (tree (R y) (trees_of (R z ∷ map R ts)))) (m ∷ n ∷ []) = subst (AreBareIn s (tree (R x) (tree (R y) (trees_of (R z ∷ map R ts))))) e b.2 in bs.1.1)

  built : (f k : ℕ) (ts : List Tree) → Each (IsNormal s.theory) ts → Leads s k (node f (map R ts)) (R (build (s.theory f) f ts))
  built f k ts n = by_assoc (s.theory f).assoc refl
    where
      h : Theory
      h = s.theory f

      by_comm : (c : Bool) → (s.theory f).assoc ≡ false → (s.theory f).id ≡ None → (s.theory f).comm ≡ c → Leads s k (node f (map R ts)) (R (made false c None (s.theory f).succ f ts))
      by_comm true a u e =
          let p = lawful.comm_kinds f e in
          with_two f k p.0 p.0 (numeral 0) p.1 (λ zs. R (made false true None (s.theory f).succ f zs)) ts n (λ x y nx ny.
          onward s k (binary f (R x) (R y)) (R (node f (arrange true (x ∷ y ∷ [])))) (R (made false true None (s.theory f).succ f (x ∷ y ∷ []))) (sorted_two f k true e a x y)
          (same s k _ _ (ap R (sym (finish_two (s.theory f).succ f true x y) ∙ ap (λ w. finish false None (s.theory f).succ f (arrange true w)) (sym (free_pieces s.theory f (x ∷ y ∷ [])))))))
      by_comm false a u e =
          onward s k (node f (map R ts)) (R (finish false None (s.theory f).succ f ts)) (R (made false false None (s.theory f).succ f ts)) (built_free f k a ts)
          (same s k _ _ (ap (λ w. R (finish false None (s.theory f).succ f w)) (sym (free_pieces s.theory f ts))))

      by_id : (u : Option Identity) → (s.theory f).assoc ≡ false → (s.theory f).id ≡ u → Leads s k (node f (map R ts)) (R (made false (s.theory f).comm u (s.theory f).succ f ts))
      by_id None a e = by_comm (s.theory f).comm a e refl
      by_id (Some i) a e =
          with_two f k (s.result f) (s.result f) (numeral 0) ((lawful.unit_kinds f i e).0) (λ zs. R (made false (s.theory f).comm (Some i) (s.theory f).succ f zs)) ts n (λ x y nx ny.
          built_unit f k i (s.theory f).comm e refl a (s.theory f).succ x y)

      by_assoc : (a : Bool) → (s.theory f).assoc ≡ a → Leads s k (node f (map R ts)) (R (made a (s.theory f).comm (s.theory f).id (s.theory f).succ f ts))
      by_assoc true e =
          with_two f k (s.result f) (s.result f) (numeral 0) (lawful.assoc_kinds f e) (λ zs. R (made true (s.theory f).comm (s.theory f).id (s.theory f).succ f zs)) ts n (λ x y nx ny b.
          let c : Chain s (s.result f) (binary f (R x) (R y)) (R (build (s.theory f) f (x ∷ y ∷ []))) = built_assoc f e x y nx ny (b.0, refl, b.2) in
          subst (λ k'. Chain s k' (binary f (R x) (R y)) (R (made true (s.theory f).comm (s.theory f).id (s.theory f).succ f (x ∷ y ∷ [])))) b.1
          (subst (λ a'. Chain s (s.result f) (binary f (R x) (R y)) (R (made a' (s.theory f).comm (s.theory f).id (s.theory f).succ f (x ∷ y ∷ [])))) e c))
      by_assoc false e = by_id (s.theory f).id e refl

  mutual
    pub lead_norm : (k : ℕ) (t : Tree) → Leads s k t (R (norm s.theory t))
    lead_norm k (variable i r) = stays s k (variable i r)
    lead_norm k (numeral n) = stays s k (numeral n)
    lead_norm k (apply f ts) =
        onward s k (apply f ts) (node f (map R (norms s.theory ts))) (R (norm s.theory (apply f ts)))
        (λ b. chain_below f b.0 b.1 (lead_norms (s.arguments f) ts b.2))
        (built f k (norms s.theory ts) (norms_normal s.theory lawful.theories ts))

    pub lead_norms : (ks : List ℕ) (ts : Trees) → LeadsIn s ks ts (trees_of (map R (norms s.theory ts)))
    lead_norms ks no_trees b = stop_in b
    lead_norms [] (tree t ts) b = absurd b
    lead_norms (k ∷ ks) (tree t ts) b =
        let c = lead_norm k t b.0 in
        chain_in_trans (chain_here ts b.1 c) (chain_there (R (norm s.theory t)) (chain_end c) (lead_norms ks ts b.1))
