-- Lists of minimal sorts: what is above a list that grows, and which sorts stay when one is added.
use Rattle.std.proofs.Common.{◌≡◌, ◌<◌, ◌+◌, ℕ, List, [], ◌∷◌, ◌++◌, ⊎_elim, inl, inr, length, take, get_or, sym, ◌∙◌, subst, arith}
use Rattle.std.specs.Prelude.{◌↔◌, ◌⊎◌, Contains}
use Rattle.std.proofs.lemmas.List.{take_more}
use Rattle.std.proofs.lemmas.List.Elements.{All-contains, All-push, Contains-get_or, Contains-push, Contains-push_cases, Contains-append_left}
use Rattle.mau_poset.specs.Order.{Hierarchy, IsPoset, IsAtOrBelow}
use Rattle.mau_poset.proofs.Orders.{transitive}
use Rattle.mau_sorts.specs.SortSets.{SortsOf, IsAbove, IsIn, AreApart, AreNotAbove, AreSorts}

no_member : {X : Type 0} (x : X) → ¬ Contains [] x
no_member x (k, below, e) = absurd (omega arith)

pub IsAbove-nil : (h : Hierarchy) (r : ℕ) → ¬ IsAbove h [] r
IsAbove-nil h r (m, among, low) = no_member m among

-- ---- one sort more

pub IsAbove-push : (h : Hierarchy) (ms : List ℕ) (x r : ℕ) → IsAbove h (ms ++ x ∷ []) r ↔ (IsAbove h ms r ⊎ IsAtOrBelow h x r)
IsAbove-push h ms x r = (
  λ (m, among, low). ⊎_elim
      (λ old. inl (m, old, low))
      (λ (is_new : x ≡ m). inr (subst (λ y. IsAtOrBelow h y r) (sym is_new) low))
      (Contains-push_cases ms x m among),
  ⊎_elim
      (λ (m, among, low). (m, Contains-append_left ms (x ∷ []) m among, low))
      (λ low. (x, Contains-push ms x, low)),
)

pub IsAbove-take_more : (h : Hierarchy) (ms : List ℕ) (i r : ℕ) → i < length ms → IsAbove h (take (i + 1) ms) r ↔ (IsAbove h (take i ms) r ⊎ IsAtOrBelow h (get_or ms i 0) r)
IsAbove-take_more h ms i r below = subst (λ xs. IsAbove h xs r ↔ (IsAbove h (take i ms) r ⊎ IsAtOrBelow h (get_or ms i 0) r)) (sym (take_more ms i 0 below)) (IsAbove-push h (take i ms) (get_or ms i 0) r)

-- none of the first i, and not the next one
pub not_above_more : (h : Hierarchy) (ms : List ℕ) (i r : ℕ) → i < length ms → ¬ IsAbove h (take i ms) r → ¬ IsAtOrBelow h (get_or ms i 0) r → ¬ IsAbove h (take (i + 1) ms) r
not_above_more h ms i r below none not_next above = ⊎_elim none not_next ((IsAbove-take_more h ms i r below).0 above)

-- ---- those of a list that are not above a sort

pub AreNotAbove-nil : (h : Hierarchy) (x : ℕ) → AreNotAbove h x [] []
AreNotAbove-nil h x = record { kept_ones = λ m among. absurd (no_member m among); others = λ m among. absurd (no_member m among) }

keep_next : (h : Hierarchy) (x : ℕ) (ms kept : List ℕ) (y : ℕ) → AreNotAbove h x ms kept → ¬ IsAtOrBelow h x y → AreNotAbove h x (ms ++ y ∷ []) (kept ++ y ∷ [])
keep_next h x ms kept y are not_above = record {
  kept_ones = λ m among. ⊎_elim
      (λ old. let both = are.kept_ones m old in (Contains-append_left ms (y ∷ []) m both.0, both.1))
      (λ (is_new : y ≡ m). (subst (Contains (ms ++ y ∷ [])) is_new (Contains-push ms y), subst (λ z. ¬ IsAtOrBelow h x z) is_new not_above))
      (Contains-push_cases kept y m among);
  others = λ m among. ⊎_elim
      (λ old. ⊎_elim (λ had. inl (Contains-append_left kept (y ∷ []) m had)) (λ above. inr above) (are.others m old))
      (λ (is_new : y ≡ m). inl (subst (Contains (kept ++ y ∷ [])) is_new (Contains-push kept y)))
      (Contains-push_cases ms y m among);
}

drop_next : (h : Hierarchy) (x : ℕ) (ms kept : List ℕ) (y : ℕ) → AreNotAbove h x ms kept → IsAtOrBelow h x y → AreNotAbove h x (ms ++ y ∷ []) kept
drop_next h x ms kept y are above = record {
  kept_ones = λ m among. let both = are.kept_ones m among in (Contains-append_left ms (y ∷ []) m both.0, both.1);
  others = λ m among. ⊎_elim
      (λ old. are.others m old)
      (λ (is_new : y ≡ m). inr (subst (IsAtOrBelow h x) is_new above))
      (Contains-push_cases ms y m among);
}

pub keep_more : (h : Hierarchy) (x : ℕ) (ms kept : List ℕ) (i : ℕ) → i < length ms → AreNotAbove h x (take i ms) kept → ¬ IsAtOrBelow h x (get_or ms i 0) → AreNotAbove h x (take (i + 1) ms) (kept ++ get_or ms i 0 ∷ [])
keep_more h x ms kept i below are not_above = subst (λ xs. AreNotAbove h x xs (kept ++ get_or ms i 0 ∷ [])) (sym (take_more ms i 0 below)) (keep_next h x (take i ms) kept (get_or ms i 0) are not_above)

pub drop_more : (h : Hierarchy) (x : ℕ) (ms kept : List ℕ) (i : ℕ) → i < length ms → AreNotAbove h x (take i ms) kept → IsAtOrBelow h x (get_or ms i 0) → AreNotAbove h x (take (i + 1) ms) kept
drop_more h x ms kept i below are above = subst (λ xs. AreNotAbove h x xs kept) (sym (take_more ms i 0 below)) (drop_next h x (take i ms) kept (get_or ms i 0) are above)

-- ---- a sort that is added

pub added_above : (h : Hierarchy) (x : ℕ) (ms kept : List ℕ) → IsPoset h → AreNotAbove h x ms kept → (r : ℕ) → IsAbove h (kept ++ x ∷ []) r ↔ (IsAbove h ms r ⊎ IsAtOrBelow h x r)
added_above h x ms kept poset are r = (
  λ above. ⊎_elim
      (λ (m, among, low). inl (m, (are.kept_ones m among).0, low))
      (λ low. inr low)
      ((IsAbove-push h kept x r).0 above),
  ⊎_elim
      (λ (m, among, low). ⊎_elim
      (λ had. (m, Contains-append_left kept (x ∷ []) m had, low))
      (λ above. (x, Contains-push kept x, transitive h poset.within x m r above low))
      (are.others m among))
      (λ low. (x, Contains-push kept x, low)),
)

pub added_apart : (h : Hierarchy) (x : ℕ) (ms kept : List ℕ) → AreNotAbove h x ms kept → ¬ IsAbove h ms x → AreApart h ms → AreApart h (kept ++ x ∷ [])
added_apart h x ms kept are none apart a b a_among b_among low = ⊎_elim
    (λ a_old. ⊎_elim
    (λ b_old. apart a b (are.kept_ones a a_old).0 (are.kept_ones b b_old).0 low)
    (λ (b_new : x ≡ b). absurd (none (a, (are.kept_ones a a_old).0, subst (IsAtOrBelow h a) (sym b_new) low)))
    (Contains-push_cases kept x b b_among))
    (λ (a_new : x ≡ a). ⊎_elim
    (λ b_old. absurd ((are.kept_ones b b_old).1 (subst (λ y. IsAtOrBelow h y b) (sym a_new) low)))
    (λ (b_new : x ≡ b). sym a_new ∙ b_new)
    (Contains-push_cases kept x b b_among))
    (Contains-push_cases kept x a a_among)

-- members of a list of sorts, kept, are sorts
kept_sorts : (h : Hierarchy) (ms kept : List ℕ) → ((m : ℕ) → Contains kept m → Contains ms m) → AreSorts h ms → AreSorts h kept
kept_sorts h ms kept among sorts k d below = All-contains (λ m. m < h.sorts) ms (get_or kept k d) sorts (among (get_or kept k d) (Contains-get_or kept k d below))

pub added_sorts : (h : Hierarchy) (x : ℕ) (ms kept : List ℕ) → AreNotAbove h x ms kept → AreSorts h ms → x < h.sorts → AreSorts h (kept ++ x ∷ [])
added_sorts h x ms kept are sorts x_sort = All-push (λ m. m < h.sorts) kept x (kept_sorts h ms kept (λ m among. (are.kept_ones m among).0) sorts) x_sort

-- a sort that is there, or above one that is there, adds nothing
pub nothing_added : (h : Hierarchy) (x : ℕ) (ms : List ℕ) → IsPoset h → IsAbove h ms x → (r : ℕ) → IsAbove h ms r ↔ (IsAbove h ms r ⊎ IsAtOrBelow h x r)
nothing_added h x ms poset (m, among, low) r = (λ above. inl above, ⊎_elim (λ above. above) (λ higher. (m, among, transitive h poset.within m x r low higher)))

-- ---- several sorts that are added

-- after the first i of some more
pub record AreAdded (h : Hierarchy) (old more new : List ℕ) : Type 0 where
  pub above : (r : ℕ) → IsAbove h new r ↔ (IsAbove h old r ⊎ IsAbove h more r)
  pub apart : AreApart h old → AreApart h new
  pub sorts : AreSorts h new

pub AreAdded-nil : (h : Hierarchy) (old : List ℕ) → AreSorts h old → AreAdded h old [] old
AreAdded-nil h old sorts = record {
  above = λ r. (λ a. inl a, ⊎_elim (λ a. a) (λ none. absurd (IsAbove-nil h r none)));
  apart = λ a. a;
  sorts = sorts;
}

pub AreAdded-more : (h : Hierarchy) (old more mid new : List ℕ) (i : ℕ) → i < length more → AreAdded h old (take i more) mid
    → ((r : ℕ) → IsAbove h new r ↔ (IsAbove h mid r ⊎ IsAtOrBelow h (get_or more i 0) r)) → (AreApart h mid → AreApart h new) → AreSorts h new
    → AreAdded h old (take (i + 1) more) new
AreAdded-more h old more mid new i below had above apart sorts = record {
  above = λ r. let next = IsAbove-take_more h more i r below in (
    λ a. ⊎_elim
        (λ m. ⊎_elim (λ o. inl o) (λ t. inr (next.1 (inl t))) ((had.above r).0 m))
        (λ l. inr (next.1 (inr l)))
        ((above r).0 a),
    ⊎_elim
        (λ o. (above r).1 (inl ((had.above r).1 (inl o))))
        (λ t. ⊎_elim (λ e. (above r).1 (inl ((had.above r).1 (inr e)))) (λ l. (above r).1 (inr l)) (next.0 t)),
  );
  apart = λ a. apart (had.apart a);
  sorts = sorts;
}

-- ---- a set with more sorts, in order

-- ns are the minimal sorts of e with some more, in another order
pub record IsWith (h : Hierarchy) (e : SortsOf) (more mid ns : List ℕ) : Type 0 where
  pub above : (r : ℕ) → IsAbove h mid r ↔ (IsAbove h e.minimal r ⊎ IsAbove h more r)
  pub same : (m : ℕ) → Contains ns m ↔ Contains mid m

pub with_exact : (h : Hierarchy) (e : SortsOf) (more mid ns : List ℕ) → IsWith h e more mid ns → (r : ℕ)
    → (IsAbove h ns r ⊎ (e.kind ≡ r)) ↔ (IsIn h e r ⊎ IsAbove h more r)
with_exact h e more mid ns is r = (
  ⊎_elim
      (λ (m, among, low). ⊎_elim (λ o. inl (inl o)) (λ n. inr n) ((is.above r).0 (m, (is.same m).0 among, low)))
      (λ k. inl (inr k)),
  ⊎_elim (⊎_elim (λ o. back (inl o)) (λ k. inr k)) (λ n. back (inr n)),
)
  where
    back : (IsAbove h e.minimal r ⊎ IsAbove h more r) → IsAbove h ns r ⊎ (e.kind ≡ r)
    back x = let a = (is.above r).1 x in inl (a.0, (is.same a.0).1 a.1, a.2)

pub same_apart : (h : Hierarchy) (mid ns : List ℕ) → ((m : ℕ) → Contains ns m ↔ Contains mid m) → AreApart h mid → AreApart h ns
same_apart h mid ns same apart a b a_among b_among low = apart a b ((same a).0 a_among) ((same b).0 b_among) low

pub same_sorts : (h : Hierarchy) (mid ns : List ℕ) → ((m : ℕ) → Contains ns m ↔ Contains mid m) → AreSorts h mid → AreSorts h ns
same_sorts h mid ns same sorts = kept_sorts h mid ns (λ m among. (same m).0 among) sorts
