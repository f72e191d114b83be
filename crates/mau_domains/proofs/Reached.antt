-- What is of a list part, by the lists of values.
use Rattle.std.proofs.Common.{◌≡◌, List, [], ◌++◌, Bool, true, false, refl, sym, ◌∙◌, ap, subst, append-nil}
use Rattle.mau_terms.specs.Tree.{Tree}
use Rattle.mau_terms.specs.Order.{sort_trees}
use Rattle.mau_terms.specs.Norm.{arrange}
use Rattle.mau_terms.proofs.Sorting.{sort-sort, sort_swap, sort_left}
use Rattle.std.proofs.Common.{append_assoc}
use Rattle.mau_lists.specs.Lists.{IsSubList}
use Rattle.mau_lists.proofs.Multisets.{sub_lists_are_sub_multisets, sub_of_sorted, fronts_stand_first, parts_stand_between}
use Rattle.mau_domains.specs.Parts.{Reach, whole, front, inside, Reaches}
use Rattle.mau_domains.specs.Lists.{IsListIn}

pub more_left : (a b c : List Tree) → sort_trees a ≡ sort_trees b → sort_trees (a ++ c) ≡ sort_trees (b ++ c)
more_left a b c e = sym (sort_left a c) ∙ ap (λ w. sort_trees (w ++ c)) e ∙ sort_left b c

pub past : (a b c : List Tree) → sort_trees (a ++ (b ++ c)) ≡ sort_trees (b ++ (a ++ c))
past a b c = ap sort_trees (sym (append_assoc a b c)) ∙ more_left (a ++ b) (b ++ a) c (sort_swap a b) ∙ ap sort_trees (append_assoc b a c)

-- a list that stands in such a reach of another is a sub-list of it, where both are sorted
reached_sub : (r : Reach) (xs ys : List Tree) → Reaches true r xs ys → sort_trees xs ≡ xs → IsSubList xs (sort_trees ys)
reached_sub r xs ys h e = subst (IsSubList xs) (past xs h.left h.right ∙ h.all) (sub_of_sorted xs (h.left ++ h.right) e)

between : (c : Bool) (xs ys left right : List Tree) → arrange c (left ++ (xs ++ right)) ≡ arrange c ys → left ≡ [] → right ≡ [] → arrange c xs ≡ arrange c ys
between c xs ys left right e l r =
    ap (arrange c) (sym (append-nil xs))
    ∙ ap (λ w. arrange c (xs ++ w)) (sym r)
    ∙ ap (λ w. arrange c (w ++ (xs ++ right))) (sym l)
    ∙ e

-- what reaches so far is such a list, where it stands in order
pub reached_in : (c : Bool) (r : Reach) (xs ys : List Tree) → arrange c xs ≡ xs → Reaches c r xs ys → IsListIn c r ys xs
reached_in true whole xs ys o h = sym o ∙ between true xs ys h.left h.right h.all h.leaves.0 h.leaves.1
reached_in true front xs ys o h = reached_sub front xs ys h o
reached_in true inside xs ys o h = reached_sub inside xs ys h o
reached_in false whole xs ys o h = between false xs ys h.left h.right h.all h.leaves.0 h.leaves.1
reached_in false front xs ys o h = (fronts_stand_first xs ys).1 (h.right, ap (λ w. w ++ (xs ++ h.right)) (sym h.leaves) ∙ h.all)
reached_in false inside xs ys o h = (parts_stand_between xs ys).1 (h.left, h.right, h.all)

-- such a list reaches so far
pub in_reached : (c : Bool) (r : Reach) (xs ys : List Tree) → IsListIn c r ys xs → Reaches c r xs ys
in_reached true whole xs ys h = record {
  left = [];
  right = [];
  leaves = (refl, refl);
  all = ap sort_trees (append-nil xs ∙ h) ∙ sort-sort ys;
}
in_reached true front xs ys h =
    let m = (sub_lists_are_sub_multisets xs (sort_trees ys) (sort-sort ys)).0 h in
    record { left = []; right = m.1.0; leaves = refl; all = m.1.1 }
in_reached true inside xs ys h =
    let m = (sub_lists_are_sub_multisets xs (sort_trees ys) (sort-sort ys)).0 h in
    record { left = []; right = m.1.0; leaves = tt; all = m.1.1 }
in_reached false whole xs ys h = record { left = []; right = []; leaves = (refl, refl); all = append-nil xs ∙ h }
in_reached false front xs ys h = let m = (fronts_stand_first xs ys).0 h in record { left = []; right = m.0; leaves = refl; all = m.1 }
in_reached false inside xs ys h = let m = (parts_stand_between xs ys).0 h in record { left = m.0; right = m.1; leaves = tt; all = m.2 }
