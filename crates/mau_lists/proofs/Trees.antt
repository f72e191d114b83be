-- The order of trees, as the laws of the next lists ask for it; lists that are sorted by it.
use Rattle.std.proofs.Common.{◌≡◌, List, [], ◌∷◌, Bool, true, false, inl, inr, ◌⊎◌, if◌then◌else◌, refl, sym, ◌∙◌, ap, subst}
use Rattle.std.specs.declared.cmp.Ordering.{Ordering}
use Rattle.std.specs.declared.cmp.Ordering.TheVariants.{Less, Equal, Greater}
use Rattle.std.specs.Ordering.{MatchOrdering, is_gt, ordering_reverse}
use Rattle.mau_terms.specs.Tree.{Tree}
use Rattle.mau_terms.specs.Order.{tree_cmp, insert_tree, sort_trees}
use Rattle.mau_terms.proofs.Orders.{tree_total, tree_tied}
use Rattle.mau_lists.specs.Lists.{AreFrom, IsAscending}
use Rattle.mau_lists.specs.Terms.{IsBefore}

pub irrefl : (t : Tree) → IsBefore t t → ⊥
irrefl t e = let k : tree_cmp t t ≡ Greater = tree_total.antisymm t t ∙ ap ordering_reverse e in let l : Less ≡ Greater = sym e ∙ k in cc

pub chain : (t u v : Tree) → IsBefore t u → IsBefore u v → IsBefore t v
chain t u v e h = tree_total.trans t u v e h

pub ranks : (t u : Tree) → MatchOrdering (tree_cmp t u) (IsBefore t u) (t ≡ u) (IsBefore u t)
ranks t u = by (tree_cmp t u) refl
  where
    by : (o : Ordering) → tree_cmp t u ≡ o → MatchOrdering o (IsBefore t u) (t ≡ u) (IsBefore u t)
    by Less e = e
    by Equal e = tree_tied t u e
    by Greater e = tree_total.antisymm u t ∙ ap ordering_reverse e

-- ---- a sorted list stands in order

from_insert : (x t : Tree) (us : List Tree) → (IsBefore x t ⊎ (x ≡ t)) → AreFrom IsBefore x us → AreFrom IsBefore x (insert_tree t us)
from_insert x t [] l h = (l, tt)
from_insert x t (u ∷ us) l h = by (from_insert x t us l h.1) (is_gt (tree_cmp t u))
  where
    by : AreFrom IsBefore x (insert_tree t us) → (b : Bool) → AreFrom IsBefore x (if b then u ∷ insert_tree t us else t ∷ u ∷ us)
    by ih true = (h.0, ih)
    by ih false = (l, h)

pub less_from : (t u : Tree) (us : List Tree) → (IsBefore t u ⊎ (t ≡ u)) → AreFrom IsBefore u us → AreFrom IsBefore t us
less_from t u [] l h = tt
less_from t u (v ∷ us) (inl l) (inl h, r) = (inl (chain t u v l h), less_from t u us (inl l) r)
less_from t u (v ∷ us) (inl l) (inr e, r) = (inl (subst (IsBefore t) e l), less_from t u us (inl l) r)
less_from t u (v ∷ us) (inr e) h = subst (λ w. AreFrom IsBefore w (v ∷ us)) (sym e) h

ascending_insert : (t : Tree) (us : List Tree) → IsAscending IsBefore us → IsAscending IsBefore (insert_tree t us)
ascending_insert t [] h = (tt, tt)
ascending_insert t (u ∷ us) h = by (ascending_insert t us h.1) (tree_cmp t u) refl
  where
    here : (IsBefore t u ⊎ (t ≡ u)) → IsAscending IsBefore (t ∷ u ∷ us)
    here l = ((l, less_from t u us l h.0), h)

    by : IsAscending IsBefore (insert_tree t us) → (o : Ordering) → tree_cmp t u ≡ o → IsAscending IsBefore (if is_gt o then u ∷ insert_tree t us else t ∷ u ∷ us)
    by ih Less e = here (inl e)
    by ih Equal e = here (inr (tree_tied t u e))
    by ih Greater e = (from_insert u t us (inl (tree_total.antisymm u t ∙ ap ordering_reverse e)) h.0, ih)

pub sorted_ascends : (ts : List Tree) → IsAscending IsBefore (sort_trees ts)
sorted_ascends [] = tt
sorted_ascends (t ∷ ts) = ascending_insert t (sort_trees ts) (sorted_ascends ts)

-- ---- what stands in order is sorted

pub not_greater : (t u : Tree) → IsBefore t u ⊎ (t ≡ u) → is_gt (tree_cmp t u) ≡ false
not_greater t u (inl l) = ap is_gt l
not_greater t u (inr e) = by (tree_cmp t u) refl
  where
    by : (o : Ordering) → tree_cmp t u ≡ o → is_gt o ≡ false
    by Less k = refl
    by Equal k = refl
    by Greater k = absurd (irrefl u (subst (λ w. IsBefore u w) e (tree_total.antisymm u t ∙ ap ordering_reverse k)))

insert_front : (t : Tree) (ts : List Tree) → AreFrom IsBefore t ts → insert_tree t ts ≡ t ∷ ts
insert_front t [] p = refl
insert_front t (u ∷ us) p = ap (λ b. if b then u ∷ insert_tree t us else t ∷ u ∷ us) (not_greater t u p.0)

pub sort_ascending : (ts : List Tree) → IsAscending IsBefore ts → sort_trees ts ≡ ts
sort_ascending [] p = refl
sort_ascending (t ∷ ts) p = ap (insert_tree t) (sort_ascending ts p.1) ∙ insert_front t ts p.0

pub ascending_sorted : (ts : List Tree) → sort_trees ts ≡ ts → IsAscending IsBefore ts
ascending_sorted ts e = subst (IsAscending IsBefore) e (sorted_ascends ts)
