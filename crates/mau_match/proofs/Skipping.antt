-- Lists that are passed over: those behind a list and up to another one are too short.
use Rattle.std.proofs.Common.{◌≡◌, ◌⊎◌, ℕ, zero, suc, ◌+◌, ◌-◌, ◌≤◌, ◌<◌, List, [], ◌∷◌, ◌++◌, length, take, drop, get_or, slice_index_or, Bool, true, false, Some, None, if◌then◌else◌, inl, inr, refl, sym, ◌∙◌, ap, subst, append_assoc, append-nil, length-append, length-drop, map, Contains, arith}
use Rattle.std.specs.Ordering.{is_eq}
use Rattle.std.proofs.lemmas.List.{drop_more, drop_all, take-map, map-append}
use Rattle.std.proofs.lemmas.List.Elements.{All-append, All-cons, All-nil, All-take, All-drop, All-contains_itself}
use Rattle.mau_terms.specs.Tree.{Tree}
use Rattle.mau_terms.specs.Order.{tree_cmp}
use Rattle.mau_lists.specs.Lists.{IsSubList, IsBelow, IsAscending, AreFrom}
use Rattle.mau_lists.specs.Terms.{IsBefore}
use Rattle.mau_lists.proofs.Following.{head_from}
use Rattle.mau_lists.proofs.Fewer.{below_cmp, cmp_below}
use Rattle.mau_domains.proofs.Keys.{key_total}
use Rattle.mau_lists.proofs.Trees.{irrefl, chain, ranks}
use Rattle.mau_terms.specs.declared.ids.TermId.{TermId}
use Rattle.mau_store.specs.Node.{Node}
use Rattle.mau_lists.specs.Terms.{by_tree, no_term}
use Rattle.mau_match.proofs.Places.{terms, terms_joined}
use Rattle.mau_store.specs.View.{numbers}
use Rattle.mau_store.specs.Trees.{tree_at}
use Rattle.mau_lists.specs.Terms.{AreSorted}
use Rattle.mau_lists.proofs.Trees.{ascending_sorted}
use Rattle.mau_canon.specs.Standing.{StandsWithin, StandWithin}
use Rattle.mau_canon.proofs.Standing.{stand_among, stand_at}
use Rattle.mau_listing.proofs.Growth.{trees_long}
use Rattle.mau_terms.specs.declared.theory.Theory.{Theory}
use Rattle.mau_match.specs.Parts.{same_tree}
use Rattle.mau_match.specs.Skipped.{rest_of, without_last, IsPast, IsCut, IsFar, IsFurther, IsPassed, IsPassedBy}
use Rattle.mau_terms.specs.Norm.{arrange}
use Rattle.mau_terms.specs.Order.{sort_trees}
use Rattle.mau_terms.specs.Lawful.{AreLawful}
use Rattle.mau_terms.specs.Solution.{list_under, value_key}
use Rattle.mau_terms.proofs.Normal.{IsNormal, whole_pieces}
use Rattle.mau_terms.proofs.Solutions.{list_of_made}
use Rattle.mau_terms.proofs.Finite.{over_its_list}
use Rattle.mau_listing.proofs.Answered.{normal_is}
use Rattle.mau_domains.specs.Parts.{Reach, whole, front, inside, some_of}
use Rattle.mau_domains.specs.Lists.{IsListIn}
use Rattle.mau_domains.specs.Stored.{part_in}
use Rattle.mau_domains.specs.Values.{IsValueOf}
use Rattle.mau_domains.specs.declared.part.Part.{Part as PartOfCode}
use Rattle.mau_domains.proofs.Reached.{reached_in}
use Rattle.mau_match.specs.Values.{IsValueOfAny}
use Rattle.mau_match.specs.Walked.{parts_in}
use Rattle.mau_match.proofs.Removal.{same_is, same_itself}

is_same : (t u : Tree) → t ≡ u → same_tree t u ≡ true
is_same t u e = subst (λ w. same_tree t w ≡ true) e (same_itself t)

sub_length : (xs ys : List Tree) → IsSubList xs ys → length xs ≤ length ys
sub_length [] ys h = omega arith
sub_length (x ∷ xs) [] h = absurd h
sub_length (x ∷ xs) (y ∷ ys) (inl h) = omega (arith, sub_length xs ys h.1)
sub_length (x ∷ xs) (y ∷ ys) (inr h) = omega (arith, sub_length (x ∷ xs) ys h)

sub_rest : (x : Tree) (xs ys : List Tree) → IsSubList (x ∷ xs) ys → IsSubList xs ys
sub_rest x xs [] h = absurd h
sub_rest x [] (y ∷ ys) h = tt
sub_rest x (z ∷ xs) (y ∷ ys) (inl h) = inr h.1
sub_rest x (z ∷ xs) (y ∷ ys) (inr h) = inr (sub_rest x (z ∷ xs) ys h)

-- a sub-list whose first element is that of the list, or behind it
sub_behind : (c y : Tree) (cs ys : List Tree) → (c ≡ y → ⊥) → IsSubList (c ∷ cs) (y ∷ ys) → IsSubList (c ∷ cs) ys
sub_behind c y cs ys n (inl h) = absurd (n h.0)
sub_behind c y cs ys n (inr h) = h

sub_after : (c y : Tree) (cs ys : List Tree) → IsSubList (c ∷ cs) (y ∷ ys) → IsSubList cs ys
sub_after c y cs ys (inl h) = h.1
sub_after c y cs ys (inr h) = sub_rest c cs ys h

other : (x y : Tree) → same_tree x y ≡ false → x ≡ y → ⊥
other x y n e = let k : true ≡ false = sym (is_same x y e) ∙ n in cc

-- ---- one element more

-- the list with the next item is before each sub-list behind it that has two more elements
step : (ys : List Tree) → IsAscending IsBefore ys → (xs t : List Tree) (b : Tree) (bs : List Tree) → rest_of xs ys ≡ Some (b ∷ bs) → IsSubList t ys → IsBelow IsBefore xs t → 2 + length xs ≤ length t → IsBelow IsBefore (xs ++ b ∷ []) t
step ys a [] [] b bs e h k l = absurd k
step [] a [] (c ∷ cs) b bs e h k l = absurd h
step (y ∷ ys) a [] (c ∷ cs) b bs e h k l = by (let i : y ≡ b = cc in i) h
  where
    more : (cs : List Tree) → 2 + 0 ≤ length (c ∷ cs) → IsBelow IsBefore [] cs
    more [] l = absurd (omega (arith, l))
    more (d ∷ ds) l = tt

    by : y ≡ b → IsSubList (c ∷ cs) (y ∷ ys) → IsBelow IsBefore (b ∷ []) (c ∷ cs)
    by i (inl h) = inr (sym i ∙ sym h.0, more cs l)
    by i (inr h) = elim (head_from IsBefore irrefl chain tree_cmp ranks y c cs ys a.0 h) [ inl m ↦ inl (subst (λ w. IsBefore w c) i m) | inr m ↦ inr (sym i ∙ m, more cs l) ]
step [] a (x ∷ xs) t b bs e h k l = cc
step (y ∷ ys) a (x ∷ xs) [] b bs e h k l = absurd k
step (y ∷ ys) a (x ∷ xs) (c ∷ cs) b bs e h (inl k) l = inl k
step (y ∷ ys) a (x ∷ xs) (c ∷ cs) b bs e h (inr k) l =
    by (λ e'. step ys a.1 xs cs b bs e' (sub_after c y cs ys h) k.1 (omega (arith, l))) (λ e' i. step ys a.1 (x ∷ xs) (c ∷ cs) b bs e' i (inr k) l) (same_tree x y) refl e
  where
    by : (rest_of xs ys ≡ Some (b ∷ bs) → IsBelow IsBefore (xs ++ b ∷ []) cs) → (rest_of (x ∷ xs) ys ≡ Some (b ∷ bs) → IsSubList (c ∷ cs) ys → IsBelow IsBefore (x ∷ xs ++ b ∷ []) (c ∷ cs))
        → (d : Bool) → same_tree x y ≡ d → (if d then rest_of xs ys else rest_of (x ∷ xs) ys) ≡ Some (b ∷ bs) → IsBelow IsBefore (x ∷ xs ++ b ∷ []) (c ∷ cs)
    by one two true s e = inr (k.0, one e)
    by one two false s e = two e (sub_behind c y cs ys (λ i. other x y s (k.0 ∙ i)) h)

rest_more : (ys xs : List Tree) (b : Tree) (bs : List Tree) → rest_of xs ys ≡ Some (b ∷ bs) → rest_of (xs ++ b ∷ []) ys ≡ Some bs
rest_more [] [] b bs e = cc
rest_more (y ∷ ys) [] b bs e =
    let i : y ≡ b = cc in
    let j : ys ≡ bs = cc in
    ap (λ d. if d then Some ys else rest_of (b ∷ []) ys) (is_same b y (sym i)) ∙ ap Some j
rest_more [] (x ∷ xs) b bs e = cc
rest_more (y ∷ ys) (x ∷ xs) b bs e = by (rest_more ys xs b bs) (rest_more ys (x ∷ xs) b bs) (same_tree x y) e
  where
    by : (rest_of xs ys ≡ Some (b ∷ bs) → rest_of (xs ++ b ∷ []) ys ≡ Some bs) → (rest_of (x ∷ xs) ys ≡ Some (b ∷ bs) → rest_of (x ∷ xs ++ b ∷ []) ys ≡ Some bs)
        → (d : Bool) → (if d then rest_of xs ys else rest_of (x ∷ xs) ys) ≡ Some (b ∷ bs) → (if d then rest_of (xs ++ b ∷ []) ys else rest_of (x ∷ xs ++ b ∷ []) ys) ≡ Some bs
    by one two true e = one e
    by one two false e = two e

-- the list with more of the next items is before each sub-list behind it that is longer
pub grown : (m : ℕ) (ys : List Tree) → IsAscending IsBefore ys → (xs rest t : List Tree) → rest_of xs ys ≡ Some rest → m ≤ length rest → IsSubList t ys → IsBelow IsBefore xs t → m + length xs < length t → IsBelow IsBefore (xs ++ take m rest) t
grown zero ys a xs rest t e l h k m = subst (λ w. IsBelow IsBefore w t) (sym (append-nil xs)) k
grown (suc n) ys a xs [] t e l h k m = absurd (omega (arith, l))
grown (suc n) ys a xs (b ∷ bs) t e l h k m =
    subst (λ w. IsBelow IsBefore w t) (append_assoc xs (b ∷ []) (take n bs))
    (grown n ys a (xs ++ b ∷ []) bs t (rest_more ys xs b bs e) (omega (arith, l)) h (step ys a xs t b bs e h k (omega (arith, m))) (omega (arith, m, length-append xs (b ∷ []))))

-- ---- too few items follow

within : (y x : Tree) (ys rest : List Tree) → rest_of (x ∷ []) ys ≡ Some rest → AreFrom IsBefore y ys → IsBefore y x ⊎ (y ≡ x)
within y x [] rest e a = cc
within y x (z ∷ ys) rest e a = by (within y x ys rest) (same_tree x z) refl e
  where
    by : (rest_of (x ∷ []) ys ≡ Some rest → AreFrom IsBefore y ys → IsBefore y x ⊎ (y ≡ x)) → (d : Bool) → same_tree x z ≡ d → (if d then Some ys else rest_of (x ∷ []) ys) ≡ Some rest → IsBefore y x ⊎ (y ≡ x)
    by ih true s e = subst (λ w. IsBefore y w ⊎ (y ≡ w)) (sym (same_is x z s)) a.0
    by ih false s e = ih e a.1

one : (ys : List Tree) → IsAscending IsBefore ys → (x : Tree) (t rest : List Tree) → rest_of (x ∷ []) ys ≡ Some rest → IsSubList t ys → IsBelow IsBefore (x ∷ []) t → length t ≤ 1 + length rest
one [] a x t rest e h k = cc
one (y ∷ ys) a x [] rest e h k = absurd k
one (y ∷ ys) a x (c ∷ cs) rest e h k = by (one ys a.1 x (c ∷ cs) rest) (same_tree x y) refl e
  where
    low : IsBelow IsBefore (x ∷ []) (c ∷ cs) → IsBefore x c ⊎ (x ≡ c)
    low (inl l) = inl l
    low (inr l) = inr l.0

    never : same_tree x y ≡ false → c ≡ y → IsBefore x c ⊎ (x ≡ c) → IsBefore y x ⊎ (y ≡ x) → ⊥
    never s i l (inr m) = other x y s (sym m)
    never s i (inr l) m = other x y s (l ∙ i)
    never s i (inl l) (inl m) = irrefl x (chain x y x (subst (IsBefore x) i l) m)

    by : (rest_of (x ∷ []) ys ≡ Some rest → IsSubList (c ∷ cs) ys → IsBelow IsBefore (x ∷ []) (c ∷ cs) → length (c ∷ cs) ≤ 1 + length rest) → (d : Bool) → same_tree x y ≡ d → (if d then Some ys else rest_of (x ∷ []) ys) ≡ Some rest → length (c ∷ cs) ≤ 1 + length rest
    by ih true s e = let i : ys ≡ rest = cc in omega (arith, sub_length (c ∷ cs) (y ∷ ys) h, ap length i)
    by ih false s e = ih e (sub_behind c y cs ys (λ i. never s i (low k) (within y x ys rest e a.0)) h) k

-- a sub-list behind the list that has more elements than are left is past all but the last element
pub past : (ys : List Tree) → IsAscending IsBefore ys → (x : Tree) (xs t rest : List Tree) → rest_of (x ∷ xs) ys ≡ Some rest → IsSubList t ys → IsBelow IsBefore (x ∷ xs) t → 1 + length xs + length rest < length t → IsPast (without_last (x ∷ xs)) t
past [] a x xs t rest e h k l = cc
past (y ∷ ys) a x xs [] rest e h k l = absurd k
past (y ∷ ys) a x [] (c ∷ cs) rest e h k l = absurd (omega (arith, l, one (y ∷ ys) a x (c ∷ cs) rest e h k))
past (y ∷ ys) a x (w ∷ xs) (c ∷ cs) rest e h (inl k) l = inl k
past (y ∷ ys) a x (w ∷ xs) (c ∷ cs) rest e h (inr k) l =
    by (λ e'. past ys a.1 w xs cs rest e' (sub_after c y cs ys h) k.1 (omega (arith, l))) (λ e' i. past ys a.1 x (w ∷ xs) (c ∷ cs) rest e' i (inr k) l) (same_tree x y) refl e
  where
    by : (rest_of (w ∷ xs) ys ≡ Some rest → IsPast (without_last (w ∷ xs)) cs) → (rest_of (x ∷ w ∷ xs) ys ≡ Some rest → IsSubList (c ∷ cs) ys → IsPast (without_last (x ∷ w ∷ xs)) (c ∷ cs))
        → (d : Bool) → same_tree x y ≡ d → (if d then rest_of (w ∷ xs) ys else rest_of (x ∷ w ∷ xs) ys) ≡ Some rest → IsPast (without_last (x ∷ w ∷ xs)) (c ∷ cs)
    by first later true s e = inr (k.0, first e)
    by first later false s e = later e (sub_behind c y cs ys (λ i. other x y s (k.0 ∙ i)) h)

-- a sub-list whose first element is greater has its elements among what follows
one_past : (ys : List Tree) → IsAscending IsBefore ys → (x : Tree) (t rest : List Tree) → rest_of (x ∷ []) ys ≡ Some rest → IsSubList t ys → IsPast (x ∷ []) t → length t ≤ length rest
one_past [] a x t rest e h k = cc
one_past (y ∷ ys) a x [] rest e h k = absurd k
one_past (y ∷ ys) a x (c ∷ cs) rest e h (inr k) = absurd k.1
one_past (y ∷ ys) a x (c ∷ cs) rest e h (inl k) = by (one_past ys a.1 x (c ∷ cs) rest) (same_tree x y) refl e
  where
    never : IsBefore y x ⊎ (y ≡ x) → c ≡ y → ⊥
    never (inl m) i = irrefl x (chain x y x (subst (IsBefore x) i k) m)
    never (inr m) i = irrefl x (subst (IsBefore x) (i ∙ m) k)

    by : (rest_of (x ∷ []) ys ≡ Some rest → IsSubList (c ∷ cs) ys → IsPast (x ∷ []) (c ∷ cs) → length (c ∷ cs) ≤ length rest) → (d : Bool) → same_tree x y ≡ d → (if d then Some ys else rest_of (x ∷ []) ys) ≡ Some rest → length (c ∷ cs) ≤ length rest
    by ih true s e =
        let i : ys ≡ rest = cc in
        omega (arith, sub_length (c ∷ cs) ys (sub_behind c y cs ys (never (inr (sym (same_is x y s)))) h), ap length i)
    by ih false s e = ih e (sub_behind c y cs ys (never (within y x ys rest e a.0)) h) (inl k)

-- one that is past the list and has more elements than can follow is past all but the last element
pub past_more : (ys : List Tree) → IsAscending IsBefore ys → (x : Tree) (xs t rest : List Tree) → rest_of (x ∷ xs) ys ≡ Some rest → IsSubList t ys → IsPast (x ∷ xs) t → length xs + length rest < length t → IsPast (without_last (x ∷ xs)) t
past_more [] a x xs t rest e h k l = cc
past_more (y ∷ ys) a x xs [] rest e h k l = absurd k
past_more (y ∷ ys) a x [] (c ∷ cs) rest e h k l = absurd (omega (arith, l, one_past (y ∷ ys) a x (c ∷ cs) rest e h k))
past_more (y ∷ ys) a x (w ∷ xs) (c ∷ cs) rest e h (inl k) l = inl k
past_more (y ∷ ys) a x (w ∷ xs) (c ∷ cs) rest e h (inr k) l =
    by (λ e'. past_more ys a.1 w xs cs rest e' (sub_after c y cs ys h) k.1 (omega (arith, l))) (λ e' i. past_more ys a.1 x (w ∷ xs) (c ∷ cs) rest e' i (inr k) l) (same_tree x y) refl e
  where
    by : (rest_of (w ∷ xs) ys ≡ Some rest → IsPast (without_last (w ∷ xs)) cs) → (rest_of (x ∷ w ∷ xs) ys ≡ Some rest → IsSubList (c ∷ cs) ys → IsPast (without_last (x ∷ w ∷ xs)) (c ∷ cs))
        → (d : Bool) → same_tree x y ≡ d → (if d then rest_of (w ∷ xs) ys else rest_of (x ∷ w ∷ xs) ys) ≡ Some rest → IsPast (without_last (x ∷ w ∷ xs)) (c ∷ cs)
    by first later true s e = inr (k.0, first e)
    by first later false s e = later e (sub_behind c y cs ys (λ i. other x y s (k.0 ∙ i)) h)

-- what is past a list stands behind it with anything at its end
pub past_below : (xs t : List Tree) (z : Tree) → IsPast xs t → IsBelow IsBefore (xs ++ z ∷ []) t
past_below [] t z h = absurd h
past_below (x ∷ xs) [] z h = absurd h
past_below (x ∷ xs) (c ∷ cs) z (inl h) = inl h
past_below (x ∷ xs) (c ∷ cs) z (inr h) = inr (h.0, past_below xs cs z h.1)

without_last_is : (xs : List Tree) → without_last xs ≡ take (length xs - 1) xs
without_last_is [] = refl
without_last_is (x ∷ []) = refl
without_last_is (x ∷ y ∷ xs) = ap (λ w. x ∷ w) (without_last_is (y ∷ xs)) ∙ ap (λ n. take n (x ∷ y ∷ xs)) (let e : suc (length (y ∷ xs) - 1) ≡ length (x ∷ y ∷ xs) - 1 = omega arith in e)

-- the first elements but the last of them
take_less : (k : ℕ) (xs : List Tree) → k < length xs → without_last (take (suc k) xs) ≡ take k xs
take_less k [] h = absurd (omega (arith, h))
take_less zero (x ∷ xs) h = refl
take_less (suc k) (x ∷ []) h = absurd (omega (arith, h))
take_less (suc k) (x ∷ y ∷ xs) h = ap (λ w. x ∷ w) (take_less k (y ∷ xs) (omega (arith, h)))

-- ---- what follows, one place after another

module _ (nodes : List Node) (list items : List TermId) (k i : ℕ) where
  pub rest_done : length list ≤ k → rest_of (terms nodes (drop k list)) (terms nodes (drop i items)) ≡ Some (terms nodes (drop i items))
  rest_done h = ap (λ w. rest_of (terms nodes w) (terms nodes (drop i items))) (drop_all k list h)

  pub rest_past : k < length list → length items ≤ i → rest_of (terms nodes (drop k list)) (terms nodes (drop i items)) ≡ None
  rest_past h l =
      ap (λ w. rest_of (terms nodes w) (terms nodes (drop i items))) (drop_more list k no_term h)
      ∙ ap (λ w. rest_of (terms nodes (slice_index_or list k no_term ∷ drop (k + 1) list)) (terms nodes w)) (drop_all i items l)

  pub rest_step : k < length list → i < length items → (b : Bool) → is_eq (by_tree nodes (slice_index_or list k no_term) (slice_index_or items i no_term)) ≡ b
      → rest_of (terms nodes (drop k list)) (terms nodes (drop i items)) ≡ rest_of (terms nodes (drop (if b then k + 1 else k) list)) (terms nodes (drop (i + 1) items))
  rest_step h l b e =
      ap (λ w. rest_of (terms nodes w) (terms nodes (drop i items))) (drop_more list k no_term h)
      ∙ ap (λ w. rest_of (terms nodes (slice_index_or list k no_term ∷ drop (k + 1) list)) (terms nodes w)) (drop_more items i no_term l)
      ∙ ap (λ d. if d then rest_of (terms nodes (drop (k + 1) list)) (terms nodes (drop (i + 1) items)) else rest_of (terms nodes (slice_index_or list k no_term ∷ drop (k + 1) list)) (terms nodes (drop (i + 1) items))) e
      ∙ by b
    where
      by : (b : Bool) → (if b then rest_of (terms nodes (drop (k + 1) list)) (terms nodes (drop (i + 1) items)) else rest_of (terms nodes (slice_index_or list k no_term ∷ drop (k + 1) list)) (terms nodes (drop (i + 1) items)))
          ≡ rest_of (terms nodes (drop (if b then k + 1 else k) list)) (terms nodes (drop (i + 1) items))
      by true = refl
      by false = ap (λ w. rest_of (terms nodes w) (terms nodes (drop (i + 1) items))) (sym (drop_more list k no_term h))

-- ---- lists that are made

module _ (nodes : List Node) where
  pub terms_take : (n : ℕ) (ids : List TermId) → terms nodes (take n ids) ≡ take n (terms nodes ids)
  terms_take n ids = sym (take-map (tree_at nodes) n (numbers ids) ∙ ap (map (tree_at nodes)) (take-map (λ (id : TermId). id.0) n ids))

  module _ (items list : List TermId) (sorted : AreSorted nodes (numbers items)) (from least : ℕ) (rest : rest_of (terms nodes list) (terms nodes items) ≡ Some (terms nodes (drop from items))) (room : from ≤ length items) where
    pub far_grown : (n : ℕ) → n ≡ least - 1 - length list → length list < least → least ≤ length list + (length items - from) → (far : List TermId) → far ≡ list ++ take n (drop from items) → IsFar (terms nodes items) (terms nodes list) least (terms nodes far)
    far_grown n e short enough far is t sub long below =
        let rs = drop from items in
        let same : terms nodes far ≡ terms nodes list ++ take n (terms nodes (drop from items)) = ap (terms nodes) is ∙ terms_joined nodes list (take n rs) ∙ ap (λ w. terms nodes list ++ w) (terms_take n rs) in
        let m : n ≤ length (terms nodes (drop from items)) = omega (arith, trees_long nodes rs, length-drop from items, e, enough, short, room) in
        let l : n + length (terms nodes list) < length t = omega (arith, trees_long nodes list, e, long, short) in
        subst (λ w. IsBelow IsBefore w t) (sym same) (grown n (terms nodes items) (ascending_sorted (terms nodes items) sorted) (terms nodes list) (terms nodes rs) t rest m sub below l)

    -- too few items follow: at first the last element is given up
    pub cut_first : 1 ≤ length list → length list + (length items - from) < least → IsCut (terms nodes items) (terms nodes list) least (length list - 1)
    cut_first some few t sub long below =
        subst (λ w. IsPast w t) (without_last_is (terms nodes list) ∙ ap (λ n. take (n - 1) (terms nodes list)) (trees_long nodes list))
        (by (terms nodes list) rest below (omega (arith, some, trees_long nodes list)) (omega (arith, few, long, trees_long nodes list, trees_long nodes (drop from items), length-drop from items)))
      where
        by : (xs : List Tree) → rest_of xs (terms nodes items) ≡ Some (terms nodes (drop from items)) → IsBelow IsBefore xs t → 1 ≤ length xs → length xs + length (terms nodes (drop from items)) < length t → IsPast (without_last xs) t
        by [] e k h l = absurd (omega (arith, h))
        by (x ∷ xs) e k h l = past (terms nodes items) (ascending_sorted (terms nodes items) sorted) x xs t (terms nodes (drop from items)) e sub k (omega (arith, l))

  module _ (items list : List TermId) (sorted : AreSorted nodes (numbers items)) (least : ℕ) where
    -- and so is one more, where too few items follow the elements before it
    pub cut_more : (k from : ℕ) → suc k ≤ length list → rest_of (terms nodes (take (suc k) list)) (terms nodes items) ≡ Some (terms nodes (drop from items)) → k + (length items - from) < least → IsCut (terms nodes items) (terms nodes list) least (suc k) → IsCut (terms nodes items) (terms nodes list) least k
    cut_more k from room rest few h t sub long below =
        subst (λ w. IsPast w t) (take_less k (terms nodes list) (omega (arith, room, trees_long nodes list)))
        (by (take (suc k) (terms nodes list)) (ap (λ w. rest_of w (terms nodes items)) (sym (terms_take (suc k) list)) ∙ rest) (h t sub long below)
        (let n : length (take (suc k) (terms nodes list)) ≡ suc k = ap length (sym (terms_take (suc k) list)) ∙ trees_long nodes (take (suc k) list) ∙ length-take-of (suc k) list room in omega (arith, n, few, long, trees_long nodes (drop from items), length-drop from items)))
      where
        length-take-of : (n : ℕ) (ids : List TermId) → n ≤ length ids → length (take n ids) ≡ n
        length-take-of zero ids h = refl
        length-take-of (suc n) [] h = absurd (omega (arith, h))
        length-take-of (suc n) (x ∷ ids) h = ap suc (length-take-of n ids (omega (arith, h)))

        by : (xs : List Tree) → rest_of xs (terms nodes items) ≡ Some (terms nodes (drop from items)) → IsPast xs t → length xs + length (terms nodes (drop from items)) < suc (length t) → IsPast (without_last xs) t
        by [] e k l = absurd k
        by (x ∷ xs) e k l = past_more (terms nodes items) (ascending_sorted (terms nodes items) sorted) x xs t (terms nodes (drop from items)) e sub k (omega (arith, l))

    pub cut_less : (c from : ℕ) → 0 < c → c < length list → c < least → rest_of (terms nodes (take c list)) (terms nodes items) ≡ Some (terms nodes (drop from items)) → length items - from ≤ least - c → IsCut (terms nodes items) (terms nodes list) least c → IsCut (terms nodes items) (terms nodes list) least (c - 1)
    cut_less zero from some room short rest few h = absurd (omega (arith, some))
    cut_less (suc k) from some room short rest few h = subst (IsCut (terms nodes items) (terms nodes list) least) (let e : k ≡ suc k - 1 = omega arith in e) (cut_more k from (omega (arith, room)) rest (omega (arith, few, short)) h)

    -- the elements that are left, and any behind them
    pub far_cut : (k : ℕ) → IsCut (terms nodes items) (terms nodes list) least k → (z : TermId) (far : List TermId) → far ≡ take k list ++ z ∷ [] → IsFar (terms nodes items) (terms nodes list) least (terms nodes far)
    far_cut k h z far is t sub long below =
        let same : terms nodes far ≡ take k (terms nodes list) ++ tree_at nodes z.0 ∷ [] = ap (terms nodes) is ∙ terms_joined nodes (take k list) (z ∷ []) ∙ ap (λ w. w ++ tree_at nodes z.0 ∷ []) (terms_take k list) in
        subst (λ w. IsBelow IsBefore w t) (sym same) (past_below (take k (terms nodes list)) t (tree_at nodes z.0) (h t sub long below))

pub stand_joined : (th : ℕ → Theory) (nodes : List Node) (xs ys : List TermId) → StandWithin th nodes (numbers xs) → StandWithin th nodes (numbers ys) → StandWithin th nodes (numbers (xs ++ ys))
stand_joined th nodes xs ys hx hy = subst (StandWithin th nodes) (sym (map-append (λ (id : TermId). id.0) xs ys)) (All-append (StandsWithin th nodes) (numbers xs) (numbers ys) hx hy)

pub stand_part : (th : ℕ → Theory) (nodes : List Node) (n m : ℕ) (ids : List TermId) → StandWithin th nodes (numbers ids) → StandWithin th nodes (numbers (take n (drop m ids)))
stand_part th nodes n m ids h = stand_among th nodes (take n (drop m ids)) ids (All-take (Contains ids) n (drop m ids) (All-drop (Contains ids) m ids (All-contains_itself ids))) h

pub stand_last : (th : ℕ → Theory) (nodes : List Node) (ids : List TermId) (d : TermId) → 1 ≤ length ids → StandWithin th nodes (numbers ids) → StandWithin th nodes (numbers (get_or ids (length ids - 1) d ∷ []))
stand_last th nodes ids d some h = All-cons (StandsWithin th nodes) (get_or ids (length ids - 1) d).0 [] (stand_at th nodes ids (length ids - 1) d (omega (arith, some)) h) (All-nil (StandsWithin th nodes))

-- ---- values as sub-lists

sub_itself : (ts : List Tree) → IsSubList ts ts
sub_itself [] = tt
sub_itself (t ∷ ts) = inl (refl, sub_itself ts)

-- a value of a list part under a commutative operator is compared as a sub-list of its items
pub value_sub : (th : ℕ → Theory) → AreLawful th → (f : ℕ) → (th f).assoc ≡ true → (th f).comm ≡ true → (r : Reach) (ts : List Tree) (u : Tree) → IsValueOf th (some_of r f ts) u → IsSubList (value_key th (Some f) u) (sort_trees ts)
value_sub th lawful f a m r ts u w = subst (λ v. IsSubList (list_under (th f) f v) (sort_trees ts)) (sym w.normal) (by r (subst (λ c. IsListIn c r ts l) m (reached_in (th f).comm r l ts order w.of)))
  where
    l : List Tree
    l = list_under (th f) f u

    n : IsNormal th u
    n = normal_is th lawful u w.normal

    order : arrange (th f).comm (list_under (th f) f u) ≡ list_under (th f) f u
    order = sym (list_of_made th f (list_under (th f) f u) a (whole_pieces th f u n)) ∙ ap (list_under (th f) f) (over_its_list th f u a n)

    by : (r : Reach) → IsListIn true r ts (list_under (th f) f u) → IsSubList (list_under (th f) f u) (sort_trees ts)
    by whole e = subst (λ w. IsSubList w (sort_trees ts)) (sym e) (sub_itself (sort_trees ts))
    by front h = h
    by inside h = h

pub only_value : (th : ℕ → Theory) (nodes : List Node) (parts : List PartOfCode) (d q : PartOfCode) → length parts ≡ 1 → get_or parts 0 d ≡ q → (u : Tree) → IsValueOfAny th (parts_in nodes parts) u → IsValueOf th (part_in nodes q) u
only_value th nodes [] d q l e u h = absurd h
only_value th nodes (p ∷ []) d q l e u (inl h) = subst (λ x. IsValueOf th (part_in nodes x) u) e h
only_value th nodes (p ∷ []) d q l e u (inr h) = absurd h
only_value th nodes (p ∷ o ∷ parts) d q l e u h = absurd (omega (arith, l))

-- ---- how far

module _ (th : ℕ → Theory) (f : ℕ) (items : List Tree) (least : ℕ) (v w : Tree) where
  pub passed_same : v ≡ w → IsPassedBy th f items least v w
  passed_same e = subst (IsPassedBy th f items least v) e (record { far = λ t s l b. b; back = λ u b. b })

  pub passed_by : (list far : List Tree) → value_key th (Some f) v ≡ list → IsFar items list least far → IsFurther th f v far w → IsPassedBy th f items least v w
  passed_by list far e h k = record {
    far = λ t s l b. subst (λ x. IsBelow IsBefore x t) (sym k.key) (h t s l (subst (λ x. IsBelow IsBefore x t) e b));
    back = λ u b. (key_total th (Some f) 0).trans v w u k.behind b;
  }

  pub passed_any : (Q : Tree → Type 0) → ((u : Tree) → Q u → IsSubList (value_key th (Some f) u) items) → IsPassedBy th f items least v w → IsPassed th (Some f) Q least v w
  passed_any Q sub h = record {
    onward = λ u q l b. cmp_below (value_key th (Some f) w) (value_key th (Some f) u) (h.far (value_key th (Some f) u) (sub u q) l (below_cmp (value_key th (Some f) v) (value_key th (Some f) u) b));
    back = h.back;
  }
