-- Sorting trees: the answer depends on the trees alone, and not on the order in which they come.
use Rattle.std.proofs.Common.{◌≡◌, List, [], ◌∷◌, ◌++◌, Bool, true, false, if◌then◌else◌, refl, sym, ◌∙◌, ap}
use Rattle.std.specs.declared.cmp.Ordering.{Ordering}
use Rattle.std.specs.declared.cmp.Ordering.TheVariants.{Less, Equal, Greater}
use Rattle.std.specs.Ordering.{is_gt, ordering_reverse}
use Rattle.std.specs.Cmp.{upto}
use Rattle.mau_terms.specs.Tree.{Tree}
use Rattle.mau_terms.specs.Order.{tree_cmp, insert_tree, sort_trees}
use Rattle.mau_terms.proofs.Orders.{tree_total, tree_tied}

abbrev pub above : Tree → Tree → Bool
above t u = is_gt (tree_cmp t u)

-- insertion, given the answer of its test
pub insert_past : (t u : Tree) (us : List Tree) → above t u ≡ true → insert_tree t (u ∷ us) ≡ u ∷ insert_tree t us
insert_past t u us e = ap (λ b. if b then u ∷ insert_tree t us else t ∷ u ∷ us) e

pub insert_here : (t u : Tree) (us : List Tree) → above t u ≡ false → insert_tree t (u ∷ us) ≡ t ∷ u ∷ us
insert_here t u us e = ap (λ b. if b then u ∷ insert_tree t us else t ∷ u ∷ us) e

back : (o p : Ordering) → o ≡ ordering_reverse p → is_gt o ≡ true → is_gt p ≡ false
back o Less e h = refl
back o Equal e h = refl
back o Greater e h = cc

-- of binary trees one is not above the other
pub one_way : (t u : Tree) → above t u ≡ true → above u t ≡ false
one_way t u = back (tree_cmp t u) (tree_cmp u t) (tree_total.antisymm t u)

level : (o p : Ordering) → o ≡ ordering_reverse p → is_gt o ≡ false → is_gt p ≡ false → o ≡ Equal
level o Less e h k = cc
level o Equal e h k = e
level o Greater e h k = cc

neither : (t u : Tree) → above t u ≡ false → above u t ≡ false → t ≡ u
neither t u h k = tree_tied t u (level (tree_cmp t u) (tree_cmp u t) (tree_total.antisymm t u) h k)

chain : (t u v : Tree) → above t u ≡ false → above u v ≡ false → above t v ≡ false
chain t u v = upto tree_total t u v

pub bool_ne : {A : Type 0} → (b : Bool) → b ≡ true → b ≡ false → A
bool_ne b e h = cc

-- both are at most v
both_here : (t u v : Tree) (us : List Tree) → above t v ≡ false → above u v ≡ false → insert_tree t (u ∷ v ∷ us) ≡ insert_tree u (t ∷ v ∷ us)
both_here t u v us e h = by (above t u) (above u t) refl refl
  where
    by : (a b : Bool) → above t u ≡ a → above u t ≡ b → insert_tree t (u ∷ v ∷ us) ≡ insert_tree u (t ∷ v ∷ us)
    by true true k l = bool_ne (above u t) l (one_way t u k)
    by true false k l = insert_past t u (v ∷ us) k ∙ ap (λ w. u ∷ w) (insert_here t v us e) ∙ sym (insert_here u t (v ∷ us) l)
    by false true k l = insert_here t u (v ∷ us) k ∙ ap (λ w. t ∷ w) (sym (insert_here u v us h)) ∙ sym (insert_past u t (v ∷ us) l)
    by false false k l = ap (λ w. insert_tree t (w ∷ v ∷ us)) (sym (neither t u k l)) ∙ ap (λ w. insert_tree w (t ∷ v ∷ us)) (neither t u k l)

-- u is at most v, and t is not
one_here : (t u v : Tree) (us : List Tree) → above t v ≡ true → above u v ≡ false → insert_tree t (insert_tree u (v ∷ us)) ≡ insert_tree u (insert_tree t (v ∷ us))
one_here t u v us e h = by (above t u) refl
  where
    by : (a : Bool) → above t u ≡ a → insert_tree t (insert_tree u (v ∷ us)) ≡ insert_tree u (insert_tree t (v ∷ us))
    by true k =
        ap (insert_tree t) (insert_here u v us h)
        ∙ insert_past t u (v ∷ us) k
        ∙ ap (λ w. u ∷ w) (insert_past t v us e)
        ∙ sym (insert_here u v (insert_tree t us) h)
        ∙ ap (insert_tree u) (sym (insert_past t v us e))
    by false k = bool_ne (above t v) e (chain t u v k h)

-- binary insertions may change places
pub swap_insert : (t u : Tree) (us : List Tree) → insert_tree t (insert_tree u us) ≡ insert_tree u (insert_tree t us)
swap_insert t u [] = ends (above t u) (above u t) refl refl
  where
    ends : (a b : Bool) → above t u ≡ a → above u t ≡ b → insert_tree t (u ∷ []) ≡ insert_tree u (t ∷ [])
    ends true true e h = bool_ne (above u t) h (one_way t u e)
    ends true false e h = insert_past t u [] e ∙ sym (insert_here u t [] h)
    ends false true e h = insert_here t u [] e ∙ sym (insert_past u t [] h)
    ends false false e h = ap (λ v. insert_tree t (v ∷ [])) (sym (neither t u e h)) ∙ ap (λ v. insert_tree v (t ∷ [])) (neither t u e h)
swap_insert t u (v ∷ us) = inner (swap_insert t u us) (above t v) (above u v) refl refl
  where
    inner : insert_tree t (insert_tree u us) ≡ insert_tree u (insert_tree t us) → (a b : Bool) → above t v ≡ a → above u v ≡ b → insert_tree t (insert_tree u (v ∷ us)) ≡ insert_tree u (insert_tree t (v ∷ us))
    inner ih true true e h =
        ap (insert_tree t) (insert_past u v us h)
        ∙ insert_past t v (insert_tree u us) e
        ∙ ap (λ w. v ∷ w) ih
        ∙ sym (insert_past u v (insert_tree t us) h)
        ∙ ap (insert_tree u) (sym (insert_past t v us e))
    inner ih true false e h = one_here t u v us e h
    inner ih false true e h = sym (one_here u t v us h e)
    inner ih false false e h =
        ap (insert_tree t) (insert_here u v us h)
        ∙ both_here t u v us e h
        ∙ ap (insert_tree u) (sym (insert_here t v us e))

-- each of ts put into us
abbrev pub insert_all : List Tree → List Tree → List Tree
insert_all [] us = us
insert_all (t ∷ ts) us = insert_tree t (insert_all ts us)

insert_all-insert : (t : Tree) (ts us : List Tree) → insert_all ts (insert_tree t us) ≡ insert_tree t (insert_all ts us)
insert_all-insert t [] us = refl
insert_all-insert t (u ∷ ts) us = ap (insert_tree u) (insert_all-insert t ts us) ∙ swap_insert u t (insert_all ts us)

all_of_inserted : (t : Tree) (ts us : List Tree) → insert_all (insert_tree t ts) us ≡ insert_tree t (insert_all ts us)
all_of_inserted t [] us = refl
all_of_inserted t (u ∷ ts) us = by (all_of_inserted t ts us) (above t u) refl
  where
    by : insert_all (insert_tree t ts) us ≡ insert_tree t (insert_all ts us) → (a : Bool) → above t u ≡ a → insert_all (insert_tree t (u ∷ ts)) us ≡ insert_tree t (insert_all (u ∷ ts) us)
    by ih true e = ap (λ w. insert_all w us) (insert_past t u ts e) ∙ ap (insert_tree u) ih ∙ swap_insert u t (insert_all ts us)
    by ih false e = ap (λ w. insert_all w us) (insert_here t u ts e)

all_of_sorted : (ts us : List Tree) → insert_all (sort_trees ts) us ≡ insert_all ts us
all_of_sorted [] us = refl
all_of_sorted (t ∷ ts) us = all_of_inserted t (sort_trees ts) us ∙ ap (insert_tree t) (all_of_sorted ts us)

pub sort-append : (ts us : List Tree) → sort_trees (ts ++ us) ≡ insert_all ts (sort_trees us)
sort-append [] us = refl
sort-append (t ∷ ts) us = ap (insert_tree t) (sort-append ts us)

sort_by_all : (ts : List Tree) → insert_all ts [] ≡ sort_trees ts
sort_by_all [] = refl
sort_by_all (t ∷ ts) = ap (insert_tree t) (sort_by_all ts)

pub sort-sort : (ts : List Tree) → sort_trees (sort_trees ts) ≡ sort_trees ts
sort-sort ts = sym (sort_by_all (sort_trees ts)) ∙ all_of_sorted ts [] ∙ sort_by_all ts

pub sort_left : (ts us : List Tree) → sort_trees (sort_trees ts ++ us) ≡ sort_trees (ts ++ us)
sort_left ts us = sort-append (sort_trees ts) us ∙ all_of_sorted ts (sort_trees us) ∙ sym (sort-append ts us)

pub sort_right : (ts us : List Tree) → sort_trees (ts ++ sort_trees us) ≡ sort_trees (ts ++ us)
sort_right ts us = sort-append ts (sort_trees us) ∙ ap (insert_all ts) (sort-sort us) ∙ sym (sort-append ts us)

all_swapped : (ts us : List Tree) → insert_all ts (sort_trees us) ≡ insert_all us (sort_trees ts)
all_swapped [] us = sym (sort_by_all us)
all_swapped (t ∷ ts) us = ap (insert_tree t) (all_swapped ts us) ∙ sym (insert_all-insert t us (sort_trees ts))

pub sort_swap : (ts us : List Tree) → sort_trees (ts ++ us) ≡ sort_trees (us ++ ts)
sort_swap ts us = sort-append ts us ∙ all_swapped ts us ∙ sym (sort-append us ts)
