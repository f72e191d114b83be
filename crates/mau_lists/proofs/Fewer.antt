-- Each call leaves fewer lists behind.
use Rattle.std.proofs.Common.{◌≡◌, ℕ, ◌+◌, ◌<◌, ◌≤◌, List, [], ◌∷◌, Bool, true, false, cond, count_by, Option, Some, None, inl, inr, refl, sym, ◌∙◌, ap, subst, arith}
use Rattle.std.specs.Option.{option_map}
use Rattle.std.specs.declared.cmp.Ordering.{Ordering}
use Rattle.std.specs.declared.cmp.Ordering.TheVariants.{Less, Equal, Greater}
use Rattle.std.specs.Ordering.{MatchOrdering, is_lt}
use Rattle.std.proofs.lemmas.List.Sums.{sum_by-cons}
use Rattle.mau_terms.specs.Tree.{Tree}
use Rattle.mau_terms.specs.Order.{tree_cmp}
use Rattle.mau_terms.specs.Solution.{list_cmp}
use Rattle.mau_store.specs.Node.{Node}
use Rattle.mau_store.specs.Trees.{trees_at}
use Rattle.mau_lists.specs.Lists.{IsSubList, IsPart, IsBelow, IsNextOrEnd, IsAmong}
use Rattle.mau_lists.specs.Terms.{IsBefore, IsNextSubList, IsNextPart}
use Rattle.mau_lists.specs.Place.{IsDueAfter}
use Rattle.mau_lists.specs.Listed.{sub_lists, parts, count_behind, count_from}
use Rattle.mau_lists.specs.Laws.{SubListCallsLeaveFewer, PartCallsLeaveFewer}
use Rattle.mau_lists.proofs.Following.{lists_ranked, lists_chain, not_itself}
use Rattle.mau_lists.proofs.Trees.{irrefl, chain, ranks}
use Rattle.mau_lists.proofs.Listed.{sub_listed, part_listed}

-- ---- the order of lists, as a relation and as computed

itself_not : (xs : List Tree) → IsBelow IsBefore xs xs → ⊥
itself_not = not_itself IsBefore irrefl chain tree_cmp ranks

pub below_cmp : (xs ys : List Tree) → list_cmp xs ys ≡ Less → IsBelow IsBefore xs ys
below_cmp xs ys e = subst (λ o. MatchOrdering o (IsBelow IsBefore xs ys) (xs ≡ ys) (IsBelow IsBefore ys xs)) e (lists_ranked IsBefore irrefl chain tree_cmp ranks xs ys)

pub cmp_below : (xs ys : List Tree) → IsBelow IsBefore xs ys → list_cmp xs ys ≡ Less
cmp_below xs ys h = by (list_cmp xs ys) (lists_ranked IsBefore irrefl chain tree_cmp ranks xs ys)
  where
    by : (o : Ordering) → MatchOrdering o (IsBelow IsBefore xs ys) (xs ≡ ys) (IsBelow IsBefore ys xs) → o ≡ Less
    by Less k = refl
    by Equal k = absurd (itself_not ys (subst (λ w. IsBelow IsBefore w ys) k h))
    by Greater k = absurd (itself_not xs (lists_chain IsBefore irrefl chain tree_cmp ranks xs ys xs h k))

less_is : (o : Ordering) → is_lt o ≡ true → o ≡ Less
less_is Less e = refl
less_is Equal e = cc
less_is Greater e = cc

abbrev after : List Tree → List Tree → Bool
after xs s = is_lt (list_cmp xs s)

-- ---- counting

module _ (P Q : List Tree → Bool) (more : (s : List Tree) → P s ≡ true → Q s ≡ true) where
  one_at_most : (s : List Tree) → cond (P s) 1 0 ≤ cond (Q s) 1 0
  one_at_most s = by (P s) (Q s) refl (more s)
    where
      by : (b c : Bool) → P s ≡ b → (P s ≡ true → c ≡ true) → cond b 1 0 ≤ cond c 1 0
      by false c e m = omega arith
      by true true e m = omega arith
      by true false e m = let k : false ≡ true = m e in cc

  abbrev number : ℕ → ℕ
  number n = n

  count_first : (R : List Tree → Bool) (s : List Tree) (ss : List (List Tree)) → count_by R (s ∷ ss) ≡ cond (R s) 1 0 + count_by R ss
  count_first R s ss = sum_by-cons (λ t. cond (R t) 1 0) s ss

  count_grows : (ss : List (List Tree)) → count_by P ss ≤ count_by Q ss
  count_grows [] = omega arith
  count_grows (s ∷ ss) = omega (arith, one_at_most s, count_grows ss, count_first P s ss, count_first Q s ss)

  count_less : (s : List Tree) → P s ≡ false → Q s ≡ true → (ss : List (List Tree)) → IsAmong s ss → count_by P ss < count_by Q ss
  count_less s p q [] h = absurd h
  count_less s p q (t ∷ ss) (inl h) =
      let here : number (cond (P t) 1 0) ≡ number 0 = ap (λ b. cond b 1 0) (ap P (sym h) ∙ p) in
      let there : number (cond (Q t) 1 0) ≡ number 1 = ap (λ b. cond b 1 0) (ap Q (sym h) ∙ q) in
      omega (arith, here, there, count_grows ss, count_first P t ss, count_first Q t ss)
  count_less s p q (t ∷ ss) (inr h) = omega (arith, one_at_most t, count_less s p q ss h, count_first P t ss, count_first Q t ss)

-- behind a list that is behind xs there are fewer
fewer_behind : (xs s : List Tree) (all : List (List Tree)) → IsBelow IsBefore xs s → IsAmong s all → count_behind s all < count_behind xs all
fewer_behind xs s all b h = count_less (after s) (after xs) more s itself (ap is_lt (cmp_below xs s b)) all h
  where
    more : (t : List Tree) → after s t ≡ true → after xs t ≡ true
    more t e = ap is_lt (cmp_below xs t (lists_chain IsBefore irrefl chain tree_cmp ranks xs s t b (below_cmp s t (less_is (list_cmp s t) e))))

    itself : after s s ≡ false
    itself = by (list_cmp s s) refl
      where
        by : (o : Ordering) → list_cmp s s ≡ o → is_lt o ≡ false
        by Less e = absurd (itself_not s (below_cmp s s e))
        by Equal e = refl
        by Greater e = refl

module _ (nodes : List Node) (Is : List Tree → Type 0) (all : List (List Tree)) (listed : (s : List Tree) → Is s → IsAmong s all) where
  due_leaves_fewer : (list : List ℕ) (due : Option (List ℕ)) → IsNextOrEnd IsBefore Is (trees_at nodes list) (option_map (trees_at nodes) due) → count_from nodes all due < count_from nodes all (Some list)
  due_leaves_fewer list None n = omega arith
  due_leaves_fewer list (Some next) n = omega (arith, fewer_behind (trees_at nodes list) (trees_at nodes next) all n.behind (listed (trees_at nodes next) n.is_one))

pub sub_list_calls_leave_fewer : SubListCallsLeaveFewer
sub_list_calls_leave_fewer nodes old new list step e =
    let all = sub_lists (trees_at nodes old.items) in
    let next : IsNextSubList nodes old.items list new.due = subst (λ o. IsDueAfter (IsNextSubList nodes) old.items o new.due) e step.due in
    let fewer : count_from nodes all new.due < count_from nodes all (Some list) = due_leaves_fewer nodes (λ ts. IsSubList ts (trees_at nodes old.items)) all (λ s h. sub_listed s (trees_at nodes old.items) h) list new.due next in
    subst (λ o. count_from nodes (sub_lists (trees_at nodes new.items)) new.due < count_from nodes all o) (sym e)
    (subst (λ is. count_from nodes (sub_lists (trees_at nodes is)) new.due < count_from nodes all (Some list)) (sym step.items) fewer)

pub part_calls_leave_fewer : PartCallsLeaveFewer
part_calls_leave_fewer nodes old new list step e =
    let all = parts (trees_at nodes old.items) in
    let next : IsNextPart nodes old.items list new.due = subst (λ o. IsDueAfter (IsNextPart nodes) old.items o new.due) e step.due in
    let fewer : count_from nodes all new.due < count_from nodes all (Some list) = due_leaves_fewer nodes (λ ts. IsPart ts (trees_at nodes old.items)) all (λ s h. part_listed s (trees_at nodes old.items) h) list new.due next in
    subst (λ o. count_from nodes (parts (trees_at nodes new.items)) new.due < count_from nodes all o) (sym e)
    (subst (λ is. count_from nodes (parts (trees_at nodes is)) new.due < count_from nodes all (Some list)) (sym step.items) fewer)
