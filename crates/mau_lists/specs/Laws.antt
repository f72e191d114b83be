-- The laws of sub-multisets and parts of lists of terms. Each is proved: a public function of the module `laws` has it for its
-- contract.
use Rattle.std.specs.Prelude.{◌≡◌, ◌↔◌, ℕ, ◌<◌, List, [], ◌++◌, map, Option, Some}
use Rattle.mau_terms.specs.Tree.{Tree}
use Rattle.mau_terms.specs.Order.{tree_cmp, sort_trees}
use Rattle.mau_store.specs.Node.{Node, AreOf, Extends}
use Rattle.mau_store.specs.Trees.{trees_at}
use Rattle.mau_lists.specs.Lists.{IsSubList, IsFront, IsPart, IsBelow, IsAscending, IsNextOrEnd, IsAmong, AreExactly}
use Rattle.mau_lists.specs.Terms.{IsBefore, IsNextSubList, IsNextPart}
use Rattle.mau_lists.specs.Place.{Place, IsStep}
use Rattle.mau_lists.specs.Following.{next_sub_list, next_front, next_part}
use Rattle.mau_lists.specs.Listed.{sub_lists, fronts, parts, sub_lists_left, parts_left}
use Rattle.mau_lists.specs.Runs.{IsSubListRun, IsPartRun}

-- ---- the kinds of lists, in other words

-- the sub-lists of a sorted list are the sorted lists that some terms fill up to it: its sub-multisets
abbrev pub SubListsAreSubMultisets : Type 0
SubListsAreSubMultisets =
    (xs ys : List Tree) → sort_trees ys ≡ ys →
    IsSubList xs ys ↔ ((sort_trees xs ≡ xs) × ((zs : List Tree) × (sort_trees (xs ++ zs) ≡ ys)))

-- a part is what stands between some terms and some others
abbrev pub PartsStandBetween : Type 0
PartsStandBetween =
    (xs ys : List Tree) → IsPart xs ys ↔ ((left : List Tree) × (right : List Tree) × (left ++ (xs ++ right) ≡ ys))

-- a front is a part with nothing before it
abbrev pub FrontsStandFirst : Type 0
FrontsStandFirst = (xs ys : List Tree) → IsFront xs ys ↔ ((right : List Tree) × (xs ++ right ≡ ys))

-- a list of terms is sorted exactly where it is ascending
abbrev pub SortedWhereAscending : Type 0
SortedWhereAscending = (ts : List Tree) → (sort_trees ts ≡ ts) ↔ IsAscending IsBefore ts

-- the plain programs write down these lists, and no others
pub record AreListed : Type 0 where
  pub sub_lists : (xs ys : List Tree) → IsSubList xs ys ↔ IsAmong xs (sub_lists ys)
  pub fronts : (xs ys : List Tree) → IsFront xs ys ↔ IsAmong xs (fronts ys)
  pub parts : (xs ys : List Tree) → IsPart xs ys ↔ IsAmong xs (parts ys)

-- ---- what is computed is the next list, and none exactly after the last

abbrev pub SubListsAreNext : Type 0
SubListsAreNext =
    (xs ys : List Tree) → sort_trees ys ≡ ys → IsNextOrEnd IsBefore (λ ts. IsSubList ts ys) xs (next_sub_list tree_cmp xs ys)

abbrev pub FrontsAreNext : Type 0
FrontsAreNext = (xs ys : List Tree) → IsNextOrEnd IsBefore (λ ts. IsFront ts ys) xs (next_front tree_cmp xs ys)

abbrev pub PartsAreNext : Type 0
PartsAreNext = (xs ys : List Tree) → IsNextOrEnd IsBefore (λ ts. IsPart ts ys) xs (next_part tree_cmp xs ys)

-- the next list is one: what a call promises determines what it gives
pub record NextIsOne : Type 0 where
  pub sub_list : (xs ys : List Tree) (o p : Option (List Tree)) →
      IsNextOrEnd IsBefore (λ ts. IsSubList ts ys) xs o → IsNextOrEnd IsBefore (λ ts. IsSubList ts ys) xs p → o ≡ p
  pub part : (xs ys : List Tree) (o p : Option (List Tree)) →
      IsNextOrEnd IsBefore (λ ts. IsPart ts ys) xs o → IsNextOrEnd IsBefore (λ ts. IsPart ts ys) xs p → o ≡ p

-- ---- whole runs

-- the calls from the first on give all sub-multisets of the items, ascending, each once
abbrev pub RunsGiveAllSubLists : Type 0
RunsGiveAllSubLists =
    (nodes : List Node) (items : List ℕ) (all : List (List ℕ)) → AreOf nodes items → IsSubListRun items nodes (Some []) all →
    AreExactly IsBefore (λ ts. IsSubList ts (trees_at nodes items)) (map (trees_at nodes) all)

-- the calls behind a list give all that are behind it, whether it is one of them or not
abbrev pub RunsGoOnBehindSubLists : Type 0
RunsGoOnBehindSubLists =
    (nodes later : List Node) (items list : List ℕ) (due : Option (List ℕ)) (all : List (List ℕ)) → AreOf nodes items →
    IsNextSubList nodes items list due → Extends nodes later → IsSubListRun items later due all →
    AreExactly IsBefore (λ ts. IsSubList ts (trees_at nodes items) × IsBelow IsBefore (trees_at nodes list) ts) (map (trees_at nodes) all)

-- the same of parts
abbrev pub RunsGiveAllParts : Type 0
RunsGiveAllParts =
    (nodes : List Node) (items : List ℕ) (all : List (List ℕ)) → AreOf nodes items → IsPartRun items nodes (Some []) all →
    AreExactly IsBefore (λ ts. IsPart ts (trees_at nodes items)) (map (trees_at nodes) all)

abbrev pub RunsGoOnBehindParts : Type 0
RunsGoOnBehindParts =
    (nodes later : List Node) (items list : List ℕ) (due : Option (List ℕ)) (all : List (List ℕ)) → AreOf nodes items →
    IsNextPart nodes items list due → Extends nodes later → IsPartRun items later due all →
    AreExactly IsBefore (λ ts. IsPart ts (trees_at nodes items) × IsBelow IsBefore (trees_at nodes list) ts) (map (trees_at nodes) all)

-- ---- runs end

-- each call that gives a list leaves fewer behind
abbrev pub SubListCallsLeaveFewer : Type 0
SubListCallsLeaveFewer =
    (nodes : List Node) (old new : Place) (list : List ℕ) → IsStep (IsNextSubList nodes) old new → old.due ≡ Some list →
    sub_lists_left nodes new < sub_lists_left nodes old

abbrev pub PartCallsLeaveFewer : Type 0
PartCallsLeaveFewer =
    (nodes : List Node) (old new : Place) (list : List ℕ) → IsStep (IsNextPart nodes) old new → old.due ≡ Some list →
    parts_left nodes new < parts_left nodes old
