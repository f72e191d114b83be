-- The computed lists are the next ones, of lists of terms; and the next list is one.
use Rattle.mau_terms.specs.Order.{tree_cmp}
use Rattle.mau_lists.specs.Lists.{IsSubList, IsPart}
use Rattle.mau_lists.specs.Terms.{IsBefore}
use Rattle.mau_lists.specs.Laws.{SubListsAreNext, FrontsAreNext, PartsAreNext, NextIsOne}
use Rattle.mau_lists.proofs.Following.{is_next_sub_list, is_next_front, is_next_part, next_is_one as one}
use Rattle.mau_lists.proofs.Trees.{irrefl, chain, ranks, ascending_sorted}

pub sub_lists_are_next : SubListsAreNext
sub_lists_are_next xs ys e = is_next_sub_list IsBefore irrefl chain tree_cmp ranks xs ys (ascending_sorted ys e)

pub fronts_are_next : FrontsAreNext
fronts_are_next = is_next_front IsBefore irrefl chain tree_cmp ranks

pub parts_are_next : PartsAreNext
parts_are_next = is_next_part IsBefore irrefl chain tree_cmp ranks

pub next_is_one : NextIsOne
next_is_one = record {
  sub_list = λ xs ys. one IsBefore irrefl chain tree_cmp ranks (λ ts. IsSubList ts ys) xs;
  part = λ xs ys. one IsBefore irrefl chain tree_cmp ranks (λ ts. IsPart ts ys) xs;
}
