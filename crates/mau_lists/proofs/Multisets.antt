-- Sub-lists, parts and fronts in other words.
use Rattle.std.proofs.Common.{◌≡◌, ◌⊎◌, List, [], ◌∷◌, ◌++◌, Bool, true, false, if◌then◌else◌, inl, inr, refl, sym, ◌∙◌, ap, subst}
use Rattle.std.specs.Ordering.{is_gt}
use Rattle.mau_terms.specs.Tree.{Tree}
use Rattle.mau_terms.specs.Order.{tree_cmp, insert_tree, sort_trees}
use Rattle.mau_terms.proofs.Sorting.{swap_insert, insert_all, sort-append, sort_swap}
use Rattle.mau_lists.specs.Lists.{IsSubList, IsFront, IsPart, AreFrom, IsAscending}
use Rattle.mau_lists.specs.Terms.{IsBefore}
use Rattle.mau_lists.specs.Laws.{SubListsAreSubMultisets, PartsStandBetween, FrontsStandFirst, SortedWhereAscending}
use Rattle.mau_lists.proofs.Members.{part_front}
use Rattle.mau_lists.proofs.Trees.{sort_ascending, ascending_sorted}

pub sorted_where_ascending : SortedWhereAscending
sorted_where_ascending ts = (ascending_sorted ts, sort_ascending ts)

-- ---- from a sub-list to what fills it up

sub_from : (x : Tree) (xs ys : List Tree) → IsSubList xs ys → AreFrom IsBefore x ys → AreFrom IsBefore x xs
sub_from x [] ys s p = tt
sub_from x (z ∷ xs) [] s p = absurd s
sub_from x (z ∷ xs) (y ∷ ys) (inl s) p = (subst (λ w. IsBefore x w ⊎ (x ≡ w)) (sym s.0) p.0, sub_from x xs ys s.1 p.1)
sub_from x (z ∷ xs) (y ∷ ys) (inr s) p = sub_from x (z ∷ xs) ys s p.1

pub sub_ascends : (xs ys : List Tree) → IsSubList xs ys → IsAscending IsBefore ys → IsAscending IsBefore xs
sub_ascends [] ys s p = tt
sub_ascends (x ∷ xs) [] s p = absurd s
sub_ascends (x ∷ xs) (y ∷ ys) (inl s) p = (subst (λ w. AreFrom IsBefore w xs) (sym s.0) (sub_from y xs ys s.1 p.0), sub_ascends xs ys s.1 p.1)
sub_ascends (x ∷ xs) (y ∷ ys) (inr s) p = sub_ascends (x ∷ xs) ys s p.1

sort_inserted : (ts : List Tree) (u : Tree) (us : List Tree) → sort_trees (ts ++ u ∷ us) ≡ insert_tree u (sort_trees (ts ++ us))
sort_inserted [] u us = refl
sort_inserted (t ∷ ts) u us = ap (insert_tree t) (sort_inserted ts u us) ∙ swap_insert t u (sort_trees (ts ++ us))

filled_up : (xs ys : List Tree) → IsSubList xs ys → (zs : List Tree) × (sort_trees (xs ++ zs) ≡ sort_trees ys)
filled_up [] ys s = (ys, refl)
filled_up (x ∷ xs) [] s = absurd s
filled_up (x ∷ xs) (y ∷ ys) (inl s) = let r = filled_up xs ys s.1 in (r.0, ap (insert_tree x) r.1 ∙ ap (λ w. insert_tree w (sort_trees ys)) s.0)
filled_up (x ∷ xs) (y ∷ ys) (inr s) = let r = filled_up (x ∷ xs) ys s in (y ∷ r.0, sort_inserted (x ∷ xs) y r.0 ∙ ap (insert_tree y) r.1)

-- ---- and back

sub_all : (ts : List Tree) → IsSubList ts ts
sub_all [] = tt
sub_all (t ∷ ts) = inl (refl, sub_all ts)

sub_insert : (zs ws : List Tree) (t : Tree) → IsSubList zs ws → IsSubList zs (insert_tree t ws)
sub_insert [] ws t h = tt
sub_insert (z ∷ zs) [] t h = absurd h
sub_insert (z ∷ zs) (w ∷ ws) t h = by (λ k. sub_insert zs ws t k) (λ k. sub_insert (z ∷ zs) ws t k) (is_gt (tree_cmp t w)) h
  where
    by : (IsSubList zs ws → IsSubList zs (insert_tree t ws)) → (IsSubList (z ∷ zs) ws → IsSubList (z ∷ zs) (insert_tree t ws)) → (b : Bool) → IsSubList (z ∷ zs) (w ∷ ws) → IsSubList (z ∷ zs) (if b then w ∷ insert_tree t ws else t ∷ w ∷ ws)
    by f j true (inl k) = inl (k.0, f k.1)
    by f j true (inr k) = inr (j k)
    by f j false k = inr k

sub_insert_all : (ts zs ws : List Tree) → IsSubList zs ws → IsSubList zs (insert_all ts ws)
sub_insert_all [] zs ws h = h
sub_insert_all (t ∷ ts) zs ws h = sub_insert zs (insert_all ts ws) t (sub_insert_all ts zs ws h)

-- a sorted list is a sub-list of the sorted list of its terms and others
pub sub_of_sorted : (xs zs : List Tree) → sort_trees xs ≡ xs → IsSubList xs (sort_trees (xs ++ zs))
sub_of_sorted xs zs e =
    subst (IsSubList xs) (sym (sort_swap xs zs ∙ sort-append zs xs)) (sub_insert_all zs xs (sort_trees xs) (subst (IsSubList xs) (sym e) (sub_all xs)))

pub sub_lists_are_sub_multisets : SubListsAreSubMultisets
sub_lists_are_sub_multisets xs ys e = (
  λ s. let r = filled_up xs ys s in (sort_ascending xs (sub_ascends xs ys s (ascending_sorted ys e)), (r.0, r.1 ∙ e)),
  λ m. subst (IsSubList xs) m.1.1 (sub_of_sorted xs m.1.0 m.0),
)

-- ---- fronts and parts

front_rest : (xs ys : List Tree) → IsFront xs ys → (right : List Tree) × (xs ++ right ≡ ys)
front_rest [] ys h = (ys, refl)
front_rest (x ∷ xs) [] h = absurd h
front_rest (x ∷ xs) (y ∷ ys) h = let r = front_rest xs ys h.1 in (r.0, ap (λ w. w ∷ (xs ++ r.0)) h.0 ∙ ap (λ l. y ∷ l) r.1)

front_append : (xs right : List Tree) → IsFront xs (xs ++ right)
front_append [] right = tt
front_append (x ∷ xs) right = (refl, front_append xs right)

pub fronts_stand_first : FrontsStandFirst
fronts_stand_first xs ys = (front_rest xs ys, λ r. subst (IsFront xs) r.1 (front_append xs r.0))

part_append : (left xs right : List Tree) → IsPart xs (left ++ (xs ++ right))
part_append [] xs right = part_front xs (xs ++ right) (front_append xs right)
part_append (t ∷ left) xs right = inr (part_append left xs right)

part_rest : (xs ys : List Tree) → IsPart xs ys → (left : List Tree) × (right : List Tree) × (left ++ (xs ++ right) ≡ ys)
part_rest xs [] h = let r = front_rest xs [] h in ([], r.0, r.1)
part_rest xs (y ∷ ys) (inl h) = let r = front_rest xs (y ∷ ys) h in ([], r.0, r.1)
part_rest xs (y ∷ ys) (inr h) = let r = part_rest xs ys h in (y ∷ r.0, r.1, ap (λ l. y ∷ l) r.2)

pub parts_stand_between : PartsStandBetween
parts_stand_between xs ys = (part_rest xs ys, λ r. subst (IsPart xs) r.2 (part_append r.0 xs r.1))
