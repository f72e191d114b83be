-- Longer lists of terms of a store.
use Rattle.std.proofs.Common.{◌≡◌, ℕ, ◌<◌, ◌≤◌, List, [], ◌∷◌, true, false, Option, Some, None, IfSome, map, take, length, drop, get_or, All, refl, sym, ◌∙◌, ap, ap₂, subst, arith, Vec}
use Rattle.std.proofs.lemmas.List.{length-map, length-take}
use Rattle.std.proofs.lemmas.List.Elements.{All-head}
use Rattle.std.specs.Option.{option_map}
use borrow.Author.Tests.{ltb-true, ltb-false}
use Rattle.mau_terms.specs.Tree.{Tree}
use Rattle.mau_terms.specs.Order.{tree_cmp}
use Rattle.mau_terms.specs.declared.ids.TermId.{TermId}
use Rattle.mau_store.specs.Node.{Node}
use Rattle.mau_store.specs.Trees.{tree_at, trees_at}
use Rattle.mau_store.specs.View.{numbers}
use Rattle.mau_lists.specs.Lists.{IsSubList, IsFront, IsNextOrEnd}
use Rattle.mau_lists.specs.Terms.{IsBefore, by_tree, AreSorted, IsNextSubList, IsNextPart}
use Rattle.mau_lists.specs.Following.{next_front}
use Rattle.mau_lists.specs.Listed.{parts_left}
use Rattle.mau_lists.proofs.Fewer.{part_calls_leave_fewer}
use Rattle.mau_lists.proofs.Following.{is_next_front}
use Rattle.mau_lists.proofs.Keyed.{next_front-keys}
use Rattle.mau_lists.proofs.Trees.{irrefl, chain, ranks, ascending_sorted}
use Rattle.mau_domains.specs.Lists.{is_long, IsLong}
use Rattle.mau_domains.specs.Stored.{list_in, is_short_list}
use Rattle.mau_domains.proofs.Longer.{IsFound, found_first, found_next, found_long, long_sub_list, long_front}

-- ---- by lengths

pub long_by : (ts : List Tree) → 2 ≤ length ts → is_long ts ≡ true
long_by [] h = absurd (omega arith)
long_by (t ∷ []) h = absurd (omega arith)
long_by (t ∷ u ∷ ts) h = refl

pub short_by : (ts : List Tree) → length ts < 2 → is_long ts ≡ false
short_by [] h = refl
short_by (t ∷ []) h = refl
short_by (t ∷ u ∷ ts) h = absurd (omega arith)

-- ---- the first of some ids

pub first_id : (P : ℕ → Type 0) (ids : List TermId) (d : TermId) → 1 ≤ length ids → All P (numbers ids) → P (get_or ids 0 d).0
first_id P [] d h a = absurd (omega arith)
first_id P (i ∷ ids) d h a = All-head P i.0 (numbers ids) a

pub first_term : (nodes : List Node) (ids : List TermId) (d : TermId) → 1 ≤ length ids → trees_at nodes (numbers ids) ≡ tree_at nodes (get_or ids 0 d).0 ∷ trees_at nodes (numbers (drop 1 ids))
first_term nodes [] d h = absurd (omega arith)
first_term nodes (i ∷ ids) d h = refl

module _ (nodes : List Node) where
  terms_length : (ids : List TermId) → length (trees_at nodes (numbers ids)) ≡ length ids
  terms_length ids = length-map (numbers ids) (tree_at nodes) ∙ length-map ids (λ id. id.0)

  terms : (ids : List TermId) → map (λ id. tree_at nodes id.0) ids ≡ trees_at nodes (numbers ids)
  terms [] = refl
  terms (id ∷ ids) = ap (λ ts. tree_at nodes id.0 ∷ ts) (terms ids)

  -- ---- lists that a call made

  pub due_list : {Z : Type 0} (o : Option (Vec TermId Z)) → option_map (trees_at nodes) (option_map (λ v. numbers v.items) o) ≡ list_in nodes o
  due_list None = refl
  due_list (Some v) = refl

  module _ {Z : Type 0} (Is : List Tree → Type 0) (us : List Tree) where
    pub found_start : (o : Option (Vec TermId Z)) → IsNextOrEnd IsBefore Is us (option_map (trees_at nodes) (option_map (λ v. numbers v.items) o)) → IsFound Is us (list_in nodes o)
    found_start o h = found_first Is us (list_in nodes o) (subst (IsNextOrEnd IsBefore Is us) (due_list o) h)

    pub found_further : (o p : Option (Vec TermId Z)) → is_short_list o ≡ true → IsFound Is us (list_in nodes o) → IfSome o (λ v. IsNextOrEnd IsBefore Is (trees_at nodes (numbers v.items)) (option_map (trees_at nodes) (option_map (λ v. numbers v.items) p))) → IsFound Is us (list_in nodes p)
    found_further None p e f h = absurd (cc)
    found_further (Some v) p e f h =
        let l : length v.items < 2 = ltb-true (length v.items) 2 e in
        found_next Is us (trees_at nodes (numbers v.items)) (short_by (trees_at nodes (numbers v.items)) (omega (arith, terms_length v.items))) f (list_in nodes p)
        (subst (IsNextOrEnd IsBefore Is (trees_at nodes (numbers v.items))) (due_list p) h)

    pub found_end : (o : Option (Vec TermId Z)) → is_short_list o ≡ false → IsFound Is us (list_in nodes o) → IsNextOrEnd IsBefore (IsLong Is) us (list_in nodes o)
    found_end None e f = found_long Is us None f tt
    found_end (Some v) e f =
        let l : 2 ≤ length v.items = ltb-false (length v.items) 2 e in
        found_long Is us (Some (trees_at nodes (numbers v.items))) f (long_by (trees_at nodes (numbers v.items)) (omega (arith, terms_length v.items)))

  -- behind one short sub-list stands a long one, if any
  pub found_sub_list : {Z : Type 0} (items : List TermId) (us : List Tree) → AreSorted nodes (numbers items) → (o p : Option (Vec TermId Z)) → is_short_list o ≡ true
      → IsFound (λ t. IsSubList t (trees_at nodes (numbers items))) us (list_in nodes o)
      → IfSome o (λ v. IsNextSubList nodes (numbers items) (numbers v.items) (option_map (λ w. numbers w.items) p))
      → IsNextOrEnd IsBefore (IsLong (λ t. IsSubList t (trees_at nodes (numbers items)))) us (list_in nodes p)
  found_sub_list items us sorted None p e f h = absurd (cc)
  found_sub_list items us sorted (Some v) p e f h =
      let ts = trees_at nodes (numbers items) in
      let Is : List Tree → Type 0 = λ t. IsSubList t ts in
      let s = trees_at nodes (numbers v.items) in
      let l : length v.items < 2 = ltb-true (length v.items) 2 e in
      let n : IsNextOrEnd IsBefore Is s (list_in nodes p) = subst (IsNextOrEnd IsBefore Is s) (due_list p) h in
      let short : is_long s ≡ false = short_by s (omega (arith, terms_length v.items)) in
      found_long Is us (list_in nodes p) (found_next Is us s short f (list_in nodes p) n)
      (long_sub_list ts us s (ascending_sorted ts sorted) short f.1 f.0 (list_in nodes p) n)

  -- ---- fronts, by how long they are

  abbrev pub front_in : List TermId → Option ℕ → Option (List Tree)
  front_in items o = option_map (λ n. trees_at nodes (numbers (take n items))) o

  module _ (items list : List TermId) where
    pub front_due : (o : Option ℕ) → next_front (by_tree nodes) list items ≡ option_map (λ n. take n items) o → IsNextOrEnd IsBefore (λ t. IsFront t (trees_at nodes (numbers items))) (trees_at nodes (numbers list)) (front_in items o)
    front_due o e =
        let ts = trees_at nodes (numbers list) in
        let us = trees_at nodes (numbers items) in
        let term : TermId → Tree = λ id. tree_at nodes id.0 in
        let computed : front_in items o ≡ next_front tree_cmp ts us =
        joined o
        ∙ ap (option_map (map term)) (sym e)
        ∙ next_front-keys term tree_cmp list items
        ∙ ap₂ (λ xs ys. next_front tree_cmp xs ys) (terms list) (terms items) in
        subst (IsNextOrEnd IsBefore (λ vs. IsFront vs us) ts) (sym computed) (is_next_front IsBefore irrefl chain tree_cmp ranks ts us)
      where
        joined : (o : Option ℕ) → option_map (λ n. trees_at nodes (numbers (take n items))) o ≡ option_map (map (λ id. tree_at nodes id.0)) (option_map (λ n. take n items) o)
        joined None = refl
        joined (Some n) = ap Some (sym (terms (take n items)))

  module _ (items last : List TermId) where
    abbrev Is : List Tree → Type 0
    Is t = IsFront t (trees_at nodes (numbers items))

    abbrev us : List Tree
    us = trees_at nodes (numbers last)

    pub no_front : next_front (by_tree nodes) last items ≡ None → IsNextOrEnd IsBefore (IsLong (λ t. IsFront t (trees_at nodes (numbers items)))) (trees_at nodes (numbers last)) None
    no_front e = found_long Is us None (found_first Is us None (front_due items last None e)) tt

    pub long_enough : (n : ℕ) → n ≤ length items → 2 ≤ n → next_front (by_tree nodes) last items ≡ Some (take n items) → IsNextOrEnd IsBefore (IsLong (λ t. IsFront t (trees_at nodes (numbers items)))) (trees_at nodes (numbers last)) (Some (trees_at nodes (numbers (take n items))))
    long_enough n h l e =
        let s = trees_at nodes (numbers (take n items)) in
        found_long Is us (Some s) (found_first Is us (Some s) (front_due items last (Some n) e)) (long_by s (omega (arith, terms_length (take n items), length-take n items)))

    pub second_front : (n : ℕ) → n < 2 → next_front (by_tree nodes) last items ≡ Some (take n items) → (o : Option ℕ) → next_front (by_tree nodes) (take n items) items ≡ option_map (λ n. take n items) o
        → IsNextOrEnd IsBefore (IsLong (λ t. IsFront t (trees_at nodes (numbers items)))) (trees_at nodes (numbers last)) (front_in items o)
    second_front n l e o k =
        let s = trees_at nodes (numbers (take n items)) in
        let f = found_first Is us (Some s) (front_due items last (Some n) e) in
        let short : is_long s ≡ false = short_by s (omega (arith, terms_length (take n items), length-take n items)) in
        let next = front_due items (take n items) o k in
        found_long Is us (front_in items o) (found_next Is us s short f (front_in items o) next) (long_front (trees_at nodes (numbers items)) us s short f.1 f.0 (front_in items o) next)

-- the part behind a part leaves fewer behind
pub fewer_parts : {Z : Type 0} (nodes : List Node) (items : List TermId) (o p : Option (Vec TermId Z)) → is_short_list o ≡ true → IfSome o (λ v. IsNextPart nodes (numbers items) (numbers v.items) (option_map (λ w. numbers w.items) p))
    → parts_left nodes (record { items = numbers items; due = option_map (λ v. numbers v.items) p }) < parts_left nodes (record { items = numbers items; due = option_map (λ v. numbers v.items) o })
fewer_parts nodes items None p e h = absurd (cc)
fewer_parts nodes items (Some v) p e h =
    part_calls_leave_fewer nodes (record { items = numbers items; due = Some (numbers v.items) }) (record { items = numbers items; due = option_map (λ w. numbers w.items) p }) (numbers v.items) (record { items = refl; due = h }) refl
