-- What a listing shows is determined.
use Rattle.std.proofs.Common.{◌≡◌, ◌⊎◌, inl, inr, ⊎_elim, ℕ, zero, suc, ◌<◌, ◌≤◌, Bool, List, [], ◌∷◌, length, get_or, All, Contains, Option, Some, refl, sym, ap, ap₂, subst, arith}
use Rattle.std.proofs.lemmas.Bool.{cases_lt}
use Rattle.std.proofs.lemmas.List.Elements.{All-head, All-tail}
use Rattle.std.specs.Ordering.{ordering_reverse}
use Rattle.std.specs.declared.cmp.Ordering.{Ordering}
use Rattle.std.specs.declared.cmp.Ordering.TheVariants.{Less, Equal, Greater}
use Rattle.mau_terms.specs.Tree.{Tree}
use Rattle.mau_listing.specs.Matcher.{Matcher}
use Rattle.mau_listing.proofs.Ordered.{matchers_are_ordered}
use Rattle.mau_api.specs.Meanings.{Meanings}
use Rattle.mau_module.specs.Modules.{ModuleOf}
use Rattle.mau_session.specs.Terms.{terms_in}
use Rattle.mau_session.specs.Matching.{IsSolution, IsBefore, IsBehind, AreFirst, AreAll, class_of, Shows, shows_all, shows_first}
use Rattle.mau_session.proofs.Showing.{before_trans, behind_trans}

own_reverse : (o : Ordering) → o ≡ ordering_reverse o → o ≡ Less → ⊥
own_reverse Less e h = absurd cc
own_reverse Equal e h = absurd cc
own_reverse Greater e h = absurd cc

contains_cases : {A : Type 0} (x y : A) (xs : List A) → Contains (x ∷ xs) y → (x ≡ y) ⊎ Contains xs y
contains_cases x y xs among = by among.0 among.1 among.2
  where
    by : (k : ℕ) → k < length (x ∷ xs) → get_or (x ∷ xs) k y ≡ y → (x ≡ y) ⊎ Contains xs y
    by zero h e = inl e
    by (suc k) h e = inr (k, omega (arith, h), e)

module _ (m : ModuleOf) (means : Meanings) (w : Bool) (p t : Tree) where
  never_before : (xs : Matcher) → IsBefore m p xs xs → ⊥
  never_before xs h = own_reverse _ ((matchers_are_ordered (terms_in m).theory p).antisymm xs xs) h

  not_both : (xs ys : Matcher) → IsBefore m p xs ys → IsBefore m p ys xs → ⊥
  not_both xs ys h k = never_before xs (before_trans m p xs ys xs h k)

  -- ---- the rest of a listing

  rest_first : (last : Option Matcher) (xs : Matcher) (found : List Matcher) → AreFirst m means w p t last (xs ∷ found) → AreFirst m means w p t (Some xs) found
  rest_first last xs found f = record {
    solutions = All-tail (IsSolution m means w p t) xs found f.solutions;
    behind = λ k d h. f.ascending 0 (suc k) d (omega arith) (omega (arith, h));
    ascending = λ i j d h l. f.ascending (suc i) (suc j) d (omega (arith, h)) (omega (arith, l));
    others = λ ys is before.
        ⊎_elim
        (λ (among : Contains (xs ∷ found) ys).
        ⊎_elim (λ (same : xs ≡ ys). absurd (never_before xs (subst (IsBefore m p xs) (sym same) before))) (λ (later : Contains found ys). inl later) (contains_cases xs ys found among))
        (λ (all : All (λ zs. IsBefore m p zs ys) (xs ∷ found)). inr (All-tail (λ zs. IsBefore m p zs ys) xs found all))
        (f.others ys is (behind_trans m p last xs ys (All-head (IsBehind m p last) xs found f.behind) before));
  }

  rest_all : (last : Option Matcher) (xs : Matcher) (found : List Matcher) → AreAll m means w p t last (xs ∷ found) → AreAll m means w p t (Some xs) found
  rest_all last xs found a = record {
    first = rest_first last xs found a.first;
    complete = λ vs left right solves before.
        let ys = class_of m left right vs in
        ⊎_elim (λ (same : xs ≡ ys). absurd (never_before xs (subst (IsBefore m p xs) (sym same) before))) (λ (later : Contains found ys). later)
        (contains_cases xs ys found (a.complete vs left right solves (behind_trans m p last xs ys (All-head (IsBehind m p last) xs found a.first.behind) before)));
  }

  -- ---- two listings

  -- the first of one is the first of the other, or behind it
  same_or_behind : (last : Option Matcher) (xs ys : Matcher) (f g : List Matcher) → AreFirst m means w p t last (xs ∷ f) → AreFirst m means w p t last (ys ∷ g) → (ys ≡ xs) ⊎ IsBefore m p ys xs
  same_or_behind last xs ys f g a b =
      ⊎_elim
      (λ (among : Contains (ys ∷ g) xs).
      ⊎_elim inl (λ (later : Contains g xs). inr (subst (IsBefore m p ys) later.2 (let low = later.1 in b.ascending 0 (suc later.0) xs (omega arith) (omega (arith, low))))) (contains_cases ys xs g among))
      (λ (all : All (λ zs. IsBefore m p zs xs) (ys ∷ g)). inr (All-head (λ zs. IsBefore m p zs xs) ys g all))
      (b.others xs (All-head (IsSolution m means w p t) xs f a.solutions) (All-head (IsBehind m p last) xs f a.behind))

  first_same : (last : Option Matcher) (xs ys : Matcher) (f g : List Matcher) → AreFirst m means w p t last (xs ∷ f) → AreFirst m means w p t last (ys ∷ g) → xs ≡ ys
  first_same last xs ys f g a b =
      ⊎_elim (λ (same : ys ≡ xs). sym same)
      (λ (before : IsBefore m p ys xs). ⊎_elim (λ (same : xs ≡ ys). same) (λ (behind : IsBefore m p xs ys). absurd (not_both xs ys behind before)) (same_or_behind last ys xs g f b a))
      (same_or_behind last xs ys f g a b)

  firsts_same : (last : Option Matcher) (f g : List Matcher) → AreFirst m means w p t last f → AreFirst m means w p t last g → length f ≡ length g → f ≡ g
  firsts_same last [] [] a b e = refl
  firsts_same last [] (ys ∷ g) a b e = absurd (omega (arith, e))
  firsts_same last (xs ∷ f) [] a b e = absurd (omega (arith, e))
  firsts_same last (xs ∷ f) (ys ∷ g) a b e =
      let same = first_same last xs ys f g a b in
      ap₂ (λ zs h. zs ∷ h) same
      (firsts_same (Some xs) f g (rest_first last xs f a) (subst (λ zs. AreFirst m means w p t (Some zs) g) (sym same) (rest_first last ys g b)) (omega (arith, e)))

  -- no listing of first solutions is longer than all
  none_longer : (last : Option Matcher) (f g : List Matcher) → AreAll m means w p t last f → AreFirst m means w p t last g → length f < length g → ⊥
  none_longer last f [] a b h = omega (arith, h)
  none_longer last [] (ys ∷ g) a b h =
      let is = All-head (IsSolution m means w p t) ys g b.solutions in
      let same : class_of m ys.left ys.right is.values ≡ ys = ap (λ vs. record { left = ys.left; right = ys.right; values = vs }) is.normal in
      let among = a.complete is.values ys.left ys.right is.solves (subst (IsBehind m p last) (sym same) (All-head (IsBehind m p last) ys g b.behind)) in
      let low = among.1 in
      omega (arith, low)
  none_longer last (xs ∷ f) (ys ∷ g) a b h =
      let same = first_same last xs ys f g a.first b in
      none_longer (Some xs) f g (rest_all last xs f a) (subst (λ zs. AreFirst m means w p t (Some zs) g) (sym same) (rest_first last ys g b)) (omega (arith, h))

  pub record AreOneListing (f g : List Matcher) (e d : Bool) : Type 0 where
    pub found : f ≡ g
    pub ended : e ≡ d

  pub shows_once : (last : Option Matcher) (most : Option ℕ) (f g : List Matcher) (e d : Bool) → Shows m means w p t last most f e → Shows m means w p t last most g d → AreOneListing f g e d
  shows_once last _ _ _ _ _ (shows_all most f a h) (shows_all most' g b k) =
      let as_long : length f ≡ length g =
      ⊎_elim (λ (low : length f < length g). absurd (none_longer last f g a b.first low))
      (λ (high : length g ≤ length f). ⊎_elim (λ (low : length g < length f). absurd (none_longer last g f b a.first low)) (λ (low : length f ≤ length g). omega (arith, high, low)) (cases_lt (length g) (length f)))
      (cases_lt (length f) (length g)) in
      record { found = firsts_same last f g a.first b.first as_long; ended = refl }
  shows_once last _ _ _ _ _ (shows_all _ f a h) (shows_first n g b k) = absurd (none_longer last f g a b (omega (arith, h, k)))
  shows_once last _ _ _ _ _ (shows_first n f a h) (shows_all _ g b k) = absurd (none_longer last g f b a (omega (arith, h, k)))
  shows_once last _ _ _ _ _ (shows_first n f a h) (shows_first n' g b k) = record { found = firsts_same last f g a b (omega (arith, h, k)); ended = refl }
