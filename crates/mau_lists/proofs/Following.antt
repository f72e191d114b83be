-- The computed lists are the next ones.
use Rattle.std.proofs.Common.{◌≡◌, List, [], ◌∷◌, Option, Some, None, inl, inr, ◌⊎◌, refl, sym, ◌∙◌, ap, subst}
use Rattle.std.specs.declared.cmp.Ordering.{Ordering}
use Rattle.std.specs.declared.cmp.Ordering.TheVariants.{Less, Equal, Greater}
use Rattle.std.specs.Ordering.{MatchOrdering}
use Rattle.mau_lists.specs.Lists.{IsSubList, IsFront, IsPart, IsBelow, IsUpto, AreFrom, IsAscending, IsNext, IsNextOrEnd}
use Rattle.mau_lists.specs.Following.{choose, first_above, alone, or_else, after_front, next_sub_list, next_front, least_of, next_part}
use Rattle.std.specs.Cmp.Lexicographic.{slice_cmp}
use Rattle.std.specs.Ordering.{ordering_then}

module _ {A : Type 0} (L : A → A → Type 0) (irrefl : (x : A) → L x x → ⊥) (chain : (x y z : A) → L x y → L y z → L x z) (cmp : A → A → Ordering) (ranks : (x y : A) → MatchOrdering (cmp x y) (L x y) (x ≡ y) (L y x)) where
  -- a case for each answer of the order
  by_order : {B : Type 0} (G : B → Type 0) (x y : A) (a b c : B) → (L x y → G a) → ((x ≡ y) → G b) → (L y x → G c) → G (choose (cmp x y) a b c)
  by_order {B} G x y a b c f g h = at (cmp x y) (ranks x y)
    where
      at : (o : Ordering) → MatchOrdering o (L x y) (x ≡ y) (L y x) → G (choose o a b c)
      at Less k = f k
      at Equal k = g k
      at Greater k = h k

  -- an element of a list from y on is y or above it
  pub head_from : (y : A) (x : A) (t ys : List A) → AreFrom L y ys → IsSubList (x ∷ t) ys → L y x ⊎ (y ≡ x)
  head_from y x t [] a s = absurd s
  head_from y x t (z ∷ ys) a (inl s) = elim (a.0) [ inl b ↦ inl (subst (L y) (sym s.0) b) | inr b ↦ inr (b ∙ sym s.0) ]
  head_from y x t (z ∷ ys) a (inr s) = head_from y x t ys a.1 s

  upto_head : (y z : A) (t : List A) → L y z ⊎ (y ≡ z) → IsUpto L (y ∷ []) (z ∷ t)
  upto_head y z t (inl l) = inl (inl l)
  upto_head y z [] (inr e) = inr (ap (λ w. w ∷ []) e)
  upto_head y z (u ∷ t) (inr e) = inl (inr (e, tt))

  -- sub-lists of ys whose first element is above x
  abbrev Above : A → List A → List A → Type 0
  Above x ys [] = ⊥
  Above x ys (z ∷ t) = L x z × IsSubList (z ∷ t) ys

  abbrev FirstAbove : A → List A → Option (List A) → Type 0
  FirstAbove x ys None = (t : List A) → Above x ys t → ⊥
  FirstAbove x ys (Some s) = Above x ys s × ((t : List A) → Above x ys t → IsUpto L s t)

  above_tail : (x y : A) (ys t : List A) → (L x y → ⊥) → Above x (y ∷ ys) t → Above x ys t
  above_tail x y ys [] n a = a
  above_tail x y ys (z ∷ t) n (l, inl s) = absurd (n (subst (L x) s.0 l))
  above_tail x y ys (z ∷ t) n (l, inr s) = (l, s)

  above_more : (x y : A) (ys t : List A) → Above x ys t → Above x (y ∷ ys) t
  above_more x y ys [] a = a
  above_more x y ys (z ∷ t) a = (a.0, inr a.1)

  above_skip : (x y : A) (ys : List A) (o : Option (List A)) → (L x y → ⊥) → FirstAbove x ys o → FirstAbove x (y ∷ ys) o
  above_skip x y ys None n h = λ t a. h t (above_tail x y ys t n a)
  above_skip x y ys (Some s) n h = (above_more x y ys s h.0, λ t a. h.1 t (above_tail x y ys t n a))

  not_above : (x : A) (t : List A) → Above x [] t → ⊥
  not_above x [] h = h
  not_above x (z ∷ t) h = h.1

  is_first_above : (x : A) (ys : List A) → IsAscending L ys → FirstAbove x ys (alone (first_above cmp x ys))
  is_first_above x [] a = λ t h. not_above x t h
  is_first_above x (y ∷ ys) a =
      by_order (λ o. FirstAbove x (y ∷ ys) (alone o)) x y (Some y) (first_above cmp x ys) (first_above cmp x ys)
      (λ l. ((l, inl (refl, tt)), least))
      (λ e. above_skip x y ys (alone (first_above cmp x ys)) (λ l. irrefl x (subst (L x) (sym e) l)) (is_first_above x ys a.1))
      (λ l. above_skip x y ys (alone (first_above cmp x ys)) (λ k. irrefl x (chain x y x k l)) (is_first_above x ys a.1))
    where
      least : (t : List A) → Above x (y ∷ ys) t → IsUpto L (y ∷ []) t
      least [] h = absurd h
      least (z ∷ t) (l, inl s) = upto_head y z t (inr (sym s.0))
      least (z ∷ t) (l, inr s) = upto_head y z t (head_from y z t ys a.0 s)

  abbrev Sub : List A → List A → Type 0
  Sub ys t = IsSubList t ys

  sub_skip : (x : A) (xs : List A) (y : A) (ys : List A) (o : Option (List A)) → L y x → IsNextOrEnd L (Sub ys) (x ∷ xs) o → IsNextOrEnd L (Sub (y ∷ ys)) (x ∷ xs) o
  sub_skip x xs y ys o l h = by o h
    where
      tail : (t : List A) → IsSubList t (y ∷ ys) → IsBelow L (x ∷ xs) t → IsSubList t ys
      tail [] s b = tt
      tail (z ∷ t) (inr s) b = s
      tail (z ∷ t) (inl s) (inl b) = absurd (irrefl x (chain x y x (subst (L x) s.0 b) l))
      tail (z ∷ t) (inl s) (inr b) = absurd (irrefl x (subst (λ w. L w x) (sym (b.0 ∙ s.0)) l))

      more : (t : List A) → IsSubList t ys → IsSubList t (y ∷ ys)
      more [] s = tt
      more (z ∷ t) s = inr s

      by : (o : Option (List A)) → IsNextOrEnd L (Sub ys) (x ∷ xs) o → IsNextOrEnd L (Sub (y ∷ ys)) (x ∷ xs) o
      by None k = λ t s b. k t (tail t s b) b
      by (Some s) k = record { is_one = more s k.is_one; behind = k.behind; least = λ t u b. k.least t (tail t u b) b }

  -- the first element is kept, or goes up
  sub_keep : (x : A) (xs : List A) (y : A) (ys : List A) (o p : Option (List A)) → IsAscending L (y ∷ ys) → (x ≡ y) → IsNextOrEnd L (Sub ys) xs o → FirstAbove x ys p → IsNextOrEnd L (Sub (y ∷ ys)) (x ∷ xs) (or_else (after_front (x ∷ []) o) p)
  sub_keep x xs y ys o p a e h f = by o p h f
    where
      -- a sub-list that begins with y goes on in ys
      onward : (z : A) (t : List A) → (x ≡ z) → IsSubList (z ∷ t) (y ∷ ys) → IsSubList t ys
      onward z t k (inl s) = s.1
      onward z t k (inr s) = later t ys s
        where
          later : (t ys : List A) → IsSubList (z ∷ t) ys → IsSubList t ys
          later [] ys s = tt
          later (w ∷ t) [] s = s
          later (w ∷ t) (v ∷ ys) (inl s) = inr s.1
          later (w ∷ t) (v ∷ ys) (inr s) = inr (later (w ∷ t) ys s)

      up : (z : A) (t : List A) → L x z → IsSubList (z ∷ t) (y ∷ ys) → Above x ys (z ∷ t)
      up z t l (inl s) = absurd (irrefl x (subst (L x) (s.0 ∙ sym e) l))
      up z t l (inr s) = (l, s)

      by : (o p : Option (List A)) → IsNextOrEnd L (Sub ys) xs o → FirstAbove x ys p → IsNextOrEnd L (Sub (y ∷ ys)) (x ∷ xs) (or_else (after_front (x ∷ []) o) p)
      by (Some s) p k g = record { is_one = inl (e, k.is_one); behind = inr (refl, k.behind); least = least }
        where
          least : (t : List A) → IsSubList t (y ∷ ys) → IsBelow L (x ∷ xs) t → IsUpto L (x ∷ s) t
          least [] u b = absurd b
          least (z ∷ t) u (inl b) = inl (inl b)
          least (z ∷ t) u (inr b) = elim (k.least t (onward z t b.0 u) b.1) [ inl c ↦ inl (inr (b.0, c)) | inr c ↦ inr (ap (λ w. w ∷ s) b.0 ∙ ap (λ w. z ∷ w) c) ]
      by None None k g = λ t u b. none t u b
        where
          none : (t : List A) → IsSubList t (y ∷ ys) → IsBelow L (x ∷ xs) t → ⊥
          none [] u b = b
          none (z ∷ t) u (inl b) = g (z ∷ t) (up z t b u)
          none (z ∷ t) u (inr b) = k t (onward z t b.0 u) b.1
      by None (Some s) k g = record { is_one = one s g.0; behind = behind s g.0; least = least }
        where
          one : (s : List A) → Above x ys s → IsSubList s (y ∷ ys)
          one [] h = tt
          one (z ∷ s) h = inr h.1

          behind : (s : List A) → Above x ys s → IsBelow L (x ∷ xs) s
          behind [] h = h
          behind (z ∷ s) h = inl h.0

          least : (t : List A) → IsSubList t (y ∷ ys) → IsBelow L (x ∷ xs) t → IsUpto L s t
          least [] u b = absurd b
          least (z ∷ t) u (inl b) = g.1 (z ∷ t) (up z t b u)
          least (z ∷ t) u (inr b) = absurd (k t (onward z t b.0 u) b.1)

  -- the computed list is the next one, and None comes exactly after the last
  pub is_next_sub_list : (xs ys : List A) → IsAscending L ys → IsNextOrEnd L (Sub ys) xs (next_sub_list cmp xs ys)
  is_next_sub_list xs [] a = λ t s b. none xs t s b
    where
      none : (xs t : List A) → IsSubList t [] → IsBelow L xs t → ⊥
      none [] [] s b = b
      none [] (z ∷ t) s b = s
      none (x ∷ xs) [] s b = b
      none (x ∷ xs) (z ∷ t) s b = s
  is_next_sub_list [] (y ∷ ys) a = record { is_one = inl (refl, tt); behind = tt; least = least }
    where
      least : (t : List A) → IsSubList t (y ∷ ys) → IsBelow L [] t → IsUpto L (y ∷ []) t
      least [] s b = absurd b
      least (z ∷ t) (inl s) b = upto_head y z t (inr (sym s.0))
      least (z ∷ t) (inr s) b = upto_head y z t (head_from y z t ys a.0 s)
  is_next_sub_list (x ∷ xs) (y ∷ ys) a =
      by_order (IsNextOrEnd L (Sub (y ∷ ys)) (x ∷ xs)) x y (Some (y ∷ [])) (or_else (after_front (x ∷ []) (next_sub_list cmp xs ys)) (alone (first_above cmp x ys))) (next_sub_list cmp (x ∷ xs) ys)
      (λ l. record { is_one = inl (refl, tt); behind = inl l; least = least })
      (λ e. sub_keep x xs y ys (next_sub_list cmp xs ys) (alone (first_above cmp x ys)) a e (is_next_sub_list xs ys a.1) (is_first_above x ys a.1))
      (λ l. sub_skip x xs y ys (next_sub_list cmp (x ∷ xs) ys) l (is_next_sub_list (x ∷ xs) ys a.1))
    where
      least : (t : List A) → IsSubList t (y ∷ ys) → IsBelow L (x ∷ xs) t → IsUpto L (y ∷ []) t
      least [] s b = absurd b
      least (z ∷ t) (inl s) b = upto_head y z t (inr (sym s.0))
      least (z ∷ t) (inr s) b = upto_head y z t (head_from y z t ys a.0 s)

  -- ---- the order of lists

  abbrev Ranked : List A → List A → Ordering → Type 0
  Ranked xs ys o = MatchOrdering o (IsBelow L xs ys) (xs ≡ ys) (IsBelow L ys xs)

  pub lists_ranked : (xs ys : List A) → Ranked xs ys (slice_cmp cmp xs ys)
  lists_ranked [] [] = refl
  lists_ranked [] (y ∷ ys) = tt
  lists_ranked (x ∷ xs) [] = tt
  lists_ranked (x ∷ xs) (y ∷ ys) = at (lists_ranked xs ys) (cmp x y) (ranks x y)
    where
      behind : (x ≡ y) → (o : Ordering) → Ranked xs ys o → Ranked (x ∷ xs) (y ∷ ys) o
      behind e Less h = inr (e, h)
      behind e Equal h = ap (λ w. w ∷ xs) e ∙ ap (λ w. y ∷ w) h
      behind e Greater h = inr (sym e, h)

      at : Ranked xs ys (slice_cmp cmp xs ys) → (o : Ordering) → MatchOrdering o (L x y) (x ≡ y) (L y x) → Ranked (x ∷ xs) (y ∷ ys) (ordering_then o (slice_cmp cmp xs ys))
      at ih Less h = inl h
      at ih Greater h = inl h
      at ih Equal h = behind h (slice_cmp cmp xs ys) ih

  pub lists_chain : (xs ys zs : List A) → IsBelow L xs ys → IsBelow L ys zs → IsBelow L xs zs
  lists_chain [] ys [] h k = no ys k
    where
      no : (ys : List A) → IsBelow L ys [] → ⊥
      no [] k = k
      no (y ∷ ys) k = k
  lists_chain [] ys (z ∷ zs) h k = tt
  lists_chain (x ∷ xs) [] zs h k = absurd h
  lists_chain (x ∷ xs) (y ∷ ys) [] h k = absurd k
  lists_chain (x ∷ xs) (y ∷ ys) (z ∷ zs) (inl h) (inl k) = inl (chain x y z h k)
  lists_chain (x ∷ xs) (y ∷ ys) (z ∷ zs) (inl h) (inr k) = inl (subst (L x) k.0 h)
  lists_chain (x ∷ xs) (y ∷ ys) (z ∷ zs) (inr h) (inl k) = inl (subst (λ w. L w z) (sym h.0) k)
  lists_chain (x ∷ xs) (y ∷ ys) (z ∷ zs) (inr h) (inr k) = inr (h.0 ∙ k.0, lists_chain xs ys zs h.1 k.1)

  pub upto_chain : (xs ys zs : List A) → IsUpto L xs ys → IsUpto L ys zs → IsUpto L xs zs
  upto_chain xs ys zs (inl h) (inl k) = inl (lists_chain xs ys zs h k)
  upto_chain xs ys zs (inl h) (inr k) = inl (subst (IsBelow L xs) k h)
  upto_chain xs ys zs (inr h) k = subst (λ w. IsUpto L w zs) (sym h) k

  -- ---- fronts and parts

  abbrev Front : List A → List A → Type 0
  Front ys t = IsFront t ys

  abbrev Part : List A → List A → Type 0
  Part ys t = IsPart t ys

  pub is_next_front : (xs ys : List A) → IsNextOrEnd L (Front ys) xs (next_front cmp xs ys)
  is_next_front xs [] = λ t s b. none xs t s b
    where
      none : (xs t : List A) → IsFront t [] → IsBelow L xs t → ⊥
      none [] [] s b = b
      none [] (z ∷ t) s b = s
      none (x ∷ xs) [] s b = b
      none (x ∷ xs) (z ∷ t) s b = s
  is_next_front [] (y ∷ ys) = record { is_one = (refl, tt); behind = tt; least = least }
    where
      least : (t : List A) → IsFront t (y ∷ ys) → IsBelow L [] t → IsUpto L (y ∷ []) t
      least [] s b = absurd b
      least (z ∷ t) s b = upto_head y z t (inr (sym s.0))
  is_next_front (x ∷ xs) (y ∷ ys) =
      by_order (IsNextOrEnd L (Front (y ∷ ys)) (x ∷ xs)) x y (Some (y ∷ [])) (after_front (y ∷ []) (next_front cmp xs ys)) None
      (λ l. record { is_one = (refl, tt); behind = inl l; least = least })
      (λ e. keep e (next_front cmp xs ys) (is_next_front xs ys))
      (λ l. λ t s b. none l t s b)
    where
      least : (t : List A) → IsFront t (y ∷ ys) → IsBelow L (x ∷ xs) t → IsUpto L (y ∷ []) t
      least [] s b = absurd b
      least (z ∷ t) s b = upto_head y z t (inr (sym s.0))

      none : L y x → (t : List A) → IsFront t (y ∷ ys) → IsBelow L (x ∷ xs) t → ⊥
      none l [] s b = b
      none l (z ∷ t) s (inl b) = irrefl x (chain x y x (subst (L x) s.0 b) l)
      none l (z ∷ t) s (inr b) = irrefl x (subst (λ w. L w x) (sym (b.0 ∙ s.0)) l)

      keep : (x ≡ y) → (o : Option (List A)) → IsNextOrEnd L (Front ys) xs o → IsNextOrEnd L (Front (y ∷ ys)) (x ∷ xs) (after_front (y ∷ []) o)
      keep e None k = λ t u b. end t u b
        where
          end : (t : List A) → IsFront t (y ∷ ys) → IsBelow L (x ∷ xs) t → ⊥
          end [] u b = b
          end (z ∷ t) u (inl b) = irrefl x (subst (L x) (u.0 ∙ sym e) b)
          end (z ∷ t) u (inr b) = k t u.1 b.1
      keep e (Some s) k = record { is_one = (refl, k.is_one); behind = inr (e, k.behind); least = first }
        where
          first : (t : List A) → IsFront t (y ∷ ys) → IsBelow L (x ∷ xs) t → IsUpto L (y ∷ s) t
          first [] u b = absurd b
          first (z ∷ t) u (inl b) = absurd (irrefl x (subst (L x) (u.0 ∙ sym e) b))
          first (z ∷ t) u (inr b) = elim (k.least t u.1 b.1) [ inl c ↦ inl (inr (sym u.0, c)) | inr c ↦ inr (ap (λ w. w ∷ s) (sym u.0) ∙ ap (λ w. z ∷ w) c) ]

  -- the first of two kinds of lists
  both : (P Q : List A → Type 0) (xs : List A) (o p : Option (List A)) → IsNextOrEnd L P xs o → IsNextOrEnd L Q xs p → IsNextOrEnd L (λ t. P t ⊎ Q t) xs (least_of cmp o p)
  both P Q xs None None h k = λ t s b. elim s [ inl u ↦ h t u b | inr u ↦ k t u b ]
  both P Q xs None (Some t) h k = record { is_one = inr k.is_one; behind = k.behind; least = λ v s b. elim s [ inl u ↦ absurd (h v u b) | inr u ↦ k.least v u b ] }
  both P Q xs (Some s) None h k = record { is_one = inl h.is_one; behind = h.behind; least = λ v s b. elim s [ inl u ↦ h.least v u b | inr u ↦ absurd (k v u b) ] }
  both P Q xs (Some s) (Some t) h k = at (slice_cmp cmp s t) (lists_ranked s t)
    where
      first : IsUpto L s t → IsNext L (λ t. P t ⊎ Q t) xs s
      first e = record { is_one = inl h.is_one; behind = h.behind; least = λ v w b. elim w [ inl u ↦ h.least v u b | inr u ↦ upto_chain s t v e (k.least v u b) ] }

      at : (o : Ordering) → Ranked s t o → IsNextOrEnd L (λ t. P t ⊎ Q t) xs (choose o (Some s) (Some s) (Some t))
      at Less r = first (inl r)
      at Equal r = first (inr r)
      at Greater r = record { is_one = inr k.is_one; behind = k.behind; least = λ v w b. elim w [ inl u ↦ upto_chain t s v (inl r) (h.least v u b) | inr u ↦ k.least v u b ] }

  -- the computed part is the next one, and None comes exactly after the last
  pub is_next_part : (xs ys : List A) → IsNextOrEnd L (Part ys) xs (next_part cmp xs ys)
  is_next_part xs [] = is_next_front xs []
  is_next_part xs (y ∷ ys) = both (Front (y ∷ ys)) (Part ys) xs (next_front cmp xs (y ∷ ys)) (next_part cmp xs ys) (is_next_front xs (y ∷ ys)) (is_next_part xs ys)

  -- ---- the next list is one

  pub not_itself : (xs : List A) → IsBelow L xs xs → ⊥
  not_itself [] h = h
  not_itself (x ∷ xs) (inl l) = irrefl x l
  not_itself (x ∷ xs) (inr h) = not_itself xs h.1

  one_least : (xs ys : List A) → IsUpto L xs ys → IsUpto L ys xs → xs ≡ ys
  one_least xs ys (inl h) (inl k) = absurd (not_itself xs (lists_chain xs ys xs h k))
  one_least xs ys (inl h) (inr k) = sym k
  one_least xs ys (inr h) k = h

  pub next_is_one : (Is : List A → Type 0) (xs : List A) (o p : Option (List A)) → IsNextOrEnd L Is xs o → IsNextOrEnd L Is xs p → o ≡ p
  next_is_one Is xs None None h k = refl
  next_is_one Is xs None (Some t) h k = absurd (h t k.is_one k.behind)
  next_is_one Is xs (Some s) None h k = absurd (k s h.is_one h.behind)
  next_is_one Is xs (Some s) (Some t) h k = ap Some (one_least s t (h.least t k.is_one k.behind) (k.least s h.is_one h.behind))
