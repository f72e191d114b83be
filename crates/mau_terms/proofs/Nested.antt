-- Lists nested to the right under an associative operator.
use Rattle.std.proofs.Common.{◌≡◌, ℕ, List, [], ◌∷◌, ◌++◌, Bool, true, false, Option, Some, None, refl, sym, subst, map, if◌then◌else◌}
use Rattle.std.specs.Ordering.{is_gt}
use Rattle.mau_terms.specs.Tree.{Tree, no_trees, node}
use Rattle.mau_terms.specs.Order.{tree_cmp, insert_tree, sort_trees}
use Rattle.mau_terms.specs.Norm.{unit_tree, arrange}
use Rattle.mau_terms.specs.Axioms.{binary}
use Rattle.mau_terms.specs.Reading.{nest_from}
use Rattle.mau_terms.specs.Bare.{TermSignature, IsBareIn, AreBareIn, IsLawful}
use Rattle.mau_terms.specs.declared.theory.Identity.{Identity}
use Rattle.mau_terms.proofs.Leads.{Leads, stays, same, onward, two_bare, below_two, to_right, to_left, across, drop_left, drop_right}

abbrev pub empty : Option Identity → ℕ → Tree
empty None f = node f []
empty (Some i) f = unit_tree i

abbrev pub nested : Option Identity → ℕ → List Tree → Tree
nested u f [] = empty u f
nested u f (t ∷ ts) = nest_from f t ts

insert_some : (t : Tree) (us : List Tree) → (w : Tree) × (ws : List Tree) × (insert_tree t us ≡ w ∷ ws)
insert_some t [] = (t, [], refl)
insert_some t (u ∷ us) = by (is_gt (tree_cmp t u))
  where
    by : (b : Bool) → (w : Tree) × (ws : List Tree) × ((if b then u ∷ insert_tree t us else t ∷ u ∷ us) ≡ w ∷ ws)
    by true = (u, insert_tree t us, refl)
    by false = (t, u ∷ us, refl)

cons_nested : (u : Option Identity) (f : ℕ) (g : Tree → Tree) (x : Tree) (l : List Tree) (w : Tree) (ws : List Tree) → l ≡ w ∷ ws → binary f x (nested u f (map g l)) ≡ nested u f (x ∷ map g l)
cons_nested u f g x l w ws e = subst (λ l'. binary f x (nested u f (map g l')) ≡ nested u f (x ∷ map g l')) (sym e) refl

module _ (s : TermSignature) (lawful : IsLawful s) (f : ℕ) (a : (s.theory f).assoc ≡ true) where
  -- no list of no element is bare, where there is no identity
  no_empty : (k : ℕ) {A : Type 0} → IsBareIn s (node f []) k → A
  no_empty k b = absurd (let bs : AreBareIn s no_trees (s.result f ∷ s.result f ∷ []) = subst (AreBareIn s no_trees) (lawful.assoc_kinds f a) b.2 in bs)

  empty_left : (u : Option Identity) → (s.theory f).id ≡ u → (t : Tree) → Leads s (s.result f) (binary f (empty u f) t) t
  empty_left None e t b = no_empty (s.result f) ((two_bare s f (s.result f) (s.result f) (s.result f) (node f []) t (lawful.assoc_kinds f a) b).0)
  empty_left (Some i) e t b = drop_left s lawful f (s.result f) i t e b

  empty_right : (u : Option Identity) → (s.theory f).id ≡ u → (t : Tree) → Leads s (s.result f) (binary f t (empty u f)) t
  empty_right None e t b = no_empty (s.result f) ((two_bare s f (s.result f) (s.result f) (s.result f) t (node f []) (lawful.assoc_kinds f a) b).1)
  empty_right (Some i) e t b = drop_right s lawful f (s.result f) i t e b

  join_from : (u : Option Identity) → (s.theory f).id ≡ u → (x : Tree) (xs ys : List Tree) → Leads s (s.result f) (binary f (nest_from f x xs) (nested u f ys)) (nest_from f x (xs ++ ys))
  join_from u e x [] [] = empty_right u e x
  join_from u e x [] (y ∷ ys) = stays s (s.result f) (binary f x (nest_from f y ys))
  join_from u e x (x' ∷ xs) ys =
      let r = s.result f in
      onward s r (binary f (binary f x (nest_from f x' xs)) (nested u f ys)) (binary f x (binary f (nest_from f x' xs) (nested u f ys))) (binary f x (nest_from f x' (xs ++ ys)))
      (to_right s lawful f r x (nest_from f x' xs) (nested u f ys) a)
      (below_two s f r r r x (binary f (nest_from f x' xs) (nested u f ys)) x (nest_from f x' (xs ++ ys)) (lawful.assoc_kinds f a) (stays s r x) (join_from u e x' xs ys))

  pub join : (u : Option Identity) → (s.theory f).id ≡ u → (xs ys : List Tree) → Leads s (s.result f) (binary f (nested u f xs) (nested u f ys)) (nested u f (xs ++ ys))
  join u e [] ys = empty_left u e (nested u f ys)
  join u e (x ∷ xs) ys = join_from u e x xs ys

  swap : (s.theory f).comm ≡ true → (x y : Tree) (zs : List Tree) → Leads s (s.result f) (nest_from f x (y ∷ zs)) (nest_from f y (x ∷ zs))
  swap c x y [] = across s lawful f (s.result f) x y c
  swap c x y (z ∷ zs) =
      let r = s.result f in
      let k = lawful.assoc_kinds f a in
      let v = nest_from f z zs in
      onward s r (binary f x (binary f y v)) (binary f (binary f x y) v) (binary f y (binary f x v)) (to_left s lawful f r x y v a)
      (onward s r (binary f (binary f x y) v) (binary f (binary f y x) v) (binary f y (binary f x v))
      (below_two s f r r r (binary f x y) v (binary f y x) v k (across s lawful f r x y c) (stays s r v))
      (to_right s lawful f r y x v a))

  module _ (c : (s.theory f).comm ≡ true) (u : Option Identity) (g : Tree → Tree) where
    inserted : (t : Tree) (us : List Tree) → Leads s (s.result f) (nested u f (g t ∷ map g us)) (nested u f (map g (insert_tree t us)))
    inserted t [] = stays s (s.result f) (g t)
    inserted t (v ∷ us) = by (inserted t us) (is_gt (tree_cmp t v))
      where
        by : Leads s (s.result f) (nested u f (g t ∷ map g us)) (nested u f (map g (insert_tree t us))) → (b : Bool) → Leads s (s.result f) (nested u f (g t ∷ g v ∷ map g us)) (nested u f (map g (if b then v ∷ insert_tree t us else t ∷ v ∷ us)))
        by ih false = stays s (s.result f) (nest_from f (g t) (g v ∷ map g us))
        by ih true =
            let r = s.result f in
            let l = insert_tree t us in
            let p = insert_some t us in
            onward s r (nest_from f (g t) (g v ∷ map g us)) (nest_from f (g v) (g t ∷ map g us)) (nested u f (g v ∷ map g l)) (swap c (g t) (g v) (map g us))
            (onward s r (binary f (g v) (nest_from f (g t) (map g us))) (binary f (g v) (nested u f (map g l))) (nested u f (g v ∷ map g l))
            (below_two s f r r r (g v) (nest_from f (g t) (map g us)) (g v) (nested u f (map g l)) (lawful.assoc_kinds f a) (stays s r (g v)) ih)
            (same s r _ _ (cons_nested u f g (g v) l p.0 p.1 p.2)))

    sorted : (ts : List Tree) → Leads s (s.result f) (nested u f (map g ts)) (nested u f (map g (sort_trees ts)))
    sorted [] = stays s (s.result f) (empty u f)
    sorted (t ∷ []) = stays s (s.result f) (g t)
    sorted (t ∷ t' ∷ ts) =
        let r = s.result f in
        let l = sort_trees (t' ∷ ts) in
        let p = insert_some t' (sort_trees ts) in
        onward s r (binary f (g t) (nested u f (map g (t' ∷ ts)))) (binary f (g t) (nested u f (map g l))) (nested u f (map g (insert_tree t l)))
        (below_two s f r r r (g t) (nested u f (map g (t' ∷ ts))) (g t) (nested u f (map g l)) (lawful.assoc_kinds f a) (stays s r (g t)) (sorted (t' ∷ ts)))
        (onward s r (binary f (g t) (nested u f (map g l))) (nested u f (g t ∷ map g l)) (nested u f (map g (insert_tree t l)))
        (same s r _ _ (cons_nested u f g (g t) l p.0 p.1 p.2))
        (inserted t l))

  pub arranged : (u : Option Identity) (g : Tree → Tree) (ts : List Tree) → Leads s (s.result f) (nested u f (map g ts)) (nested u f (map g (arrange (s.theory f).comm ts)))
  arranged u g ts = by (s.theory f).comm refl
    where
      by : (c : Bool) → (s.theory f).comm ≡ c → Leads s (s.result f) (nested u f (map g ts)) (nested u f (map g (arrange c ts)))
      by true e = sorted e u g ts
      by false e = stays s (s.result f) (nested u f (map g ts))
