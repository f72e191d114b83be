-- What is left of the solutions of a left side, after one more.
use Rattle.std.proofs.Common.{◌≡◌, ℕ, List, [], ◌∷◌, map, Bool, true, false, if◌then◌else◌, Option, Some, None, inl, inr, refl, sym, ap, ◌∙◌, subst}
use Rattle.std.specs.Option.{option_map}
use Rattle.std.specs.Cmp.{IsTotalOrder}
use Rattle.std.specs.Ordering.{ordering_reverse, is_lt}
use Rattle.std.specs.declared.cmp.Ordering.{Ordering}
use Rattle.std.specs.declared.cmp.Ordering.TheVariants.{Less, Equal, Greater}
use Rattle.mau_terms.specs.Tree.{Tree}
use Rattle.mau_terms.specs.Finite.{IsIn}
use Rattle.mau_terms.specs.declared.theory.Theory.{Theory}
use Rattle.mau_listing.specs.Finite.{comes_behind}
use Rattle.mau_listing.specs.Matcher.{Matcher}
use Rattle.mau_listing.specs.Next.{matcher_cmp, IsBehind}
use Rattle.mau_evaluation.specs.Run.{Run, gives, or_go_on, or_else, first_of}
use Rattle.mau_evaluation.specs.Program.{Program}
use Rattle.mau_evaluation.specs.Listing.{Solution, keep, compare, IsAscending, AllAfter}
use Rattle.mau_evaluation.proofs.Listed.{in_map, from_map, in_keep, from_keep}
use Rattle.mau_api.specs.Remaining.{as_matcher, AllBehind, Ascend, AreLeft}
use Rattle.mau_reduce.specs.Comes.{ComesTo}
use Rattle.mau_reduce.proofs.Comes.{comes_same, comes_from, comes_as, comes_passed}

-- ---- what comes behind another one

module _ (c : Solution → Solution → Ordering) (total : IsTotalOrder c) where
  abbrev behind : Option Solution → Solution → Bool
  behind last x = comes_behind c last x

  less_is : (x y : Solution) → c x y ≡ Less → is_lt (c x y) ≡ true
  less_is x y e = ap is_lt e

  is_less : (o : Ordering) → is_lt o ≡ true → o ≡ Less
  is_less Less e = refl
  is_less Equal e = cc
  is_less Greater e = cc

  -- not in the other direction
  not_back : (x y : Solution) → c x y ≡ Less → is_lt (c y x) ≡ false
  not_back x y e = by (c x y) (c y x) (total.antisymm x y) e
    where
      by : (o p : Ordering) → o ≡ ordering_reverse p → o ≡ Less → is_lt p ≡ false
      by o Less h e = cc
      by o Equal h e = refl
      by o Greater h e = refl

  pub not_itself : (x : Solution) → is_lt (c x x) ≡ false
  not_itself x = by (c x x) refl
    where
      by : (o : Ordering) → c x x ≡ o → is_lt (c x x) ≡ false
      by Less e = not_back x x e
      by Equal e = ap is_lt e
      by Greater e = ap is_lt e

  -- all that stand behind x in an ascending list come behind it
  all_after : (x : Solution) (ys : List Solution) → AllAfter c x ys → keep (behind (Some x)) ys ≡ ys
  all_after x [] a = refl
  all_after x (y ∷ ys) a = ap (λ b. if b then y ∷ keep (behind (Some x)) ys else keep (behind (Some x)) ys) (less_is x y a.0) ∙ ap (λ zs. y ∷ zs) (all_after x ys a.1)

  after_last : (last : Option Solution) (x y : Solution) → behind last x ≡ true → c x y ≡ Less → behind last y ≡ true
  after_last None x y h e = refl
  after_last (Some l) x y h e = less_is l y (total.trans l x y (is_less (c l x) h) e)

  all_behind : (last : Option Solution) (x : Solution) (ys : List Solution) → behind last x ≡ true → AllAfter c x ys → keep (behind last) ys ≡ ys
  all_behind last x [] h a = refl
  all_behind last x (y ∷ ys) h a = ap (λ b. if b then y ∷ keep (behind last) ys else keep (behind last) ys) (after_last last x y h a.0) ∙ ap (λ zs. y ∷ zs) (all_behind last x ys h a.1)

  among_after : (x : Solution) (ys : List Solution) → AllAfter c x ys → (y : Solution) → IsIn y ys → c x y ≡ Less
  among_after x [] a y i = absurd i
  among_after x (z ∷ ys) a y (inl e) = subst (λ w. c x w ≡ Less) (sym e) a.0
  among_after x (z ∷ ys) a y (inr i) = among_after x ys a.1 y i

  -- ---- one solution after another, where each is tested

  abbrev pub head : List Solution → Option Solution
  head [] = None
  head (x ∷ xs) = Some x

  module _ (test : Solution → Bool) where
    -- the first one that passes both
    abbrev pub first_passed : Option Solution → List Solution → Option Solution
    first_passed last xs = head (keep test (keep (behind last) xs))

    module _ (P : Program) {A : Type 0} (f : ℕ → Solution → Run (Option A)) where
      abbrev pub Fails : List Solution → Type 0
      Fails xs = (x : Solution) → IsIn x xs → test x ≡ false → ComesTo P (λ k. f k x) (λ k. gives None)

      pub none_passes : (last : Option Solution) (xs : List Solution) → Fails xs → first_passed last xs ≡ None → ComesTo P (λ k. first_of (f k) (keep (behind last) xs)) (λ k. gives None)
      none_passes last [] fails e = comes_same (λ k b. refl)
      none_passes last (x ∷ xs) fails e = by (none_passes last xs (λ y i. fails y (inr i))) (behind last x) (test x) refl e
        where
          at : (t : Bool) → test x ≡ t → head (if t then x ∷ keep test (keep (behind last) xs) else keep test (keep (behind last) xs)) ≡ None → (first_passed last xs ≡ None) × (test x ≡ false)
          at true h k = cc
          at false h k = (k, h)

          by : (first_passed last xs ≡ None → ComesTo P (λ k. first_of (f k) (keep (behind last) xs)) (λ k. gives None)) → (w t : Bool) → test x ≡ t →
              head (keep test (if w then x ∷ keep (behind last) xs else keep (behind last) xs)) ≡ None →
              ComesTo P (λ k. first_of (f k) (if w then x ∷ keep (behind last) xs else keep (behind last) xs)) (λ k. gives None)
          by rest false t h k = rest k
          by rest true t h k =
              let p = at (test x) refl k in
              comes_passed (fails x (inl refl) p.1) (rest p.0)

      pub record Passes (last : Option Solution) (xs : List Solution) (x : Solution) : Type 0 where
        pub there : IsIn x xs
        pub tested : test x ≡ true
        pub rest : ComesTo P (λ k. first_of (f k) (keep (behind last) xs)) (λ k. or_else (f k x) (first_of (f k) (keep (behind (Some x)) xs)))

      pub one_passes : (last : Option Solution) (xs : List Solution) (x : Solution) → IsAscending c xs → Fails xs → first_passed last xs ≡ Some x → Passes last xs x
      one_passes last [] x ascends fails e = cc
      one_passes last (y ∷ ys) x ascends fails e = by (one_passes last ys x ascends.1 (λ z i. fails z (inr i))) (behind last y) refl (test y) refl
        where
          -- a head that is passed over
          past : Passes last ys x → keep (behind (Some x)) (y ∷ ys) ≡ keep (behind (Some x)) ys
          past p = ap (λ b. if b then y ∷ keep (behind (Some x)) ys else keep (behind (Some x)) ys) (not_back y x (among_after y ys ascends.0 x p.there))

          behind_it : Passes last ys x → (k b : ℕ) → or_go_on (first_of (f k) (keep (behind (Some x)) ys)) (f k x b) ≡ or_go_on (first_of (f k) (keep (behind (Some x)) (y ∷ ys))) (f k x b)
          behind_it p k b = ap (λ zs. or_go_on (first_of (f k) zs) (f k x b)) (sym (past p))

          by : (first_passed last ys ≡ Some x → Passes last ys x) → (w : Bool) → behind last y ≡ w → (t : Bool) → test y ≡ t → Passes last (y ∷ ys) x
          by below false k t h =
              let p = below (sym (ap (λ b. head (keep test (if b then y ∷ keep (behind last) ys else keep (behind last) ys))) k) ∙ e) in
              record {
                there = inr p.there;
                tested = p.tested;
                rest = comes_from (λ n b. ap (λ d. first_of (f n) (if d then y ∷ keep (behind last) ys else keep (behind last) ys) b) k) (comes_as p.rest (behind_it p));
              }
          by below true k false h =
              let at : head (if false then y ∷ keep test (keep (behind last) ys) else keep test (keep (behind last) ys)) ≡ Some x =
              sym (ap (λ d. head (keep test (if d then y ∷ keep (behind last) ys else keep (behind last) ys))) k ∙ ap (λ d. head (if d then y ∷ keep test (keep (behind last) ys) else keep test (keep (behind last) ys))) h) ∙ e in
              let p = below at in
              record {
                there = inr p.there;
                tested = p.tested;
                rest = comes_from (λ n b. ap (λ d. first_of (f n) (if d then y ∷ keep (behind last) ys else keep (behind last) ys) b) k) (comes_as (comes_passed (fails y (inl refl) h) p.rest) (behind_it p));
              }
          by below true k true h =
              let at : Some y ≡ Some x =
              sym (ap (λ d. head (keep test (if d then y ∷ keep (behind last) ys else keep (behind last) ys))) k ∙ ap (λ d. head (if d then y ∷ keep test (keep (behind last) ys) else keep test (keep (behind last) ys))) h) ∙ e in
              let same : y ≡ x = cc in
              let own : keep (behind (Some y)) (y ∷ ys) ≡ ys = ap (λ d. if d then y ∷ keep (behind (Some y)) ys else keep (behind (Some y)) ys) (not_itself y) ∙ all_after y ys ascends.0 in
              let others : keep (behind last) ys ≡ ys = all_behind last y ys k ascends.0 in
              subst (Passes last (y ∷ ys)) same (record {
                there = inl refl;
                tested = h;
                rest = comes_same (λ n b.
                    ap (λ d. first_of (f n) (if d then y ∷ keep (behind last) ys else keep (behind last) ys) b) k
                    ∙ ap (λ zs. or_go_on (first_of (f n) zs) (f n y b)) (others ∙ sym own));
              })

-- ---- as a listing gives them

module _ (Is : Matcher → Type 0) (th : ℕ → Theory) (p : Tree) (test : Solution → Bool) (xs : List Solution) where
  abbrev Cmp : Matcher → Matcher → Ordering
  Cmp = matcher_cmp th p

  behind_so : (last : Option Solution) (x : Solution) → comes_behind (compare th p) last x ≡ true → IsBehind Cmp (option_map as_matcher last) (as_matcher x)
  behind_so None x e = tt
  behind_so (Some l) x e = by (compare th p l x) e
    where
      by : (o : Ordering) → is_lt o ≡ true → o ≡ Less
      by Less e = refl
      by Equal e = cc
      by Greater e = cc

  so_behind : (last : Option Solution) (x : Solution) → IsBehind Cmp (option_map as_matcher last) (as_matcher x) → comes_behind (compare th p) last x ≡ true
  so_behind None x h = refl
  so_behind (Some l) x h = ap is_lt h

  abbrev after : Option Solution → List Solution
  after last = keep test (keep (comes_behind (compare th p) last) xs)

  all_ascend : (x : Matcher) (g : Solution → Bool) (ys : List Solution) → AllBehind Cmp x (map as_matcher ys) → AllBehind Cmp x (map as_matcher (keep g ys))
  all_ascend x g [] a = tt
  all_ascend x g (y ∷ ys) a = by (g y) (all_ascend x g ys a.1)
    where
      by : (b : Bool) → AllBehind Cmp x (map as_matcher (keep g ys)) → AllBehind Cmp x (map as_matcher (if b then y ∷ keep g ys else keep g ys))
      by true r = (a.0, r)
      by false r = r

  ascend_kept : (g : Solution → Bool) (ys : List Solution) → Ascend Cmp (map as_matcher ys) → Ascend Cmp (map as_matcher (keep g ys))
  ascend_kept g [] a = tt
  ascend_kept g (y ∷ ys) a = by (g y) (ascend_kept g ys a.1)
    where
      by : (b : Bool) → Ascend Cmp (map as_matcher (keep g ys)) → Ascend Cmp (map as_matcher (if b then y ∷ keep g ys else keep g ys))
      by true r = (all_ascend (as_matcher y) g ys a.0, r)
      by false r = r

  as_matchers : (ys : List Solution) → IsAscending (compare th p) ys → Ascend Cmp (map as_matcher ys)
  as_matchers [] a = tt
  as_matchers (y ∷ ys) a = (all y ys a.0, as_matchers ys a.1)
    where
      all : (x : Solution) (zs : List Solution) → AllAfter (compare th p) x zs → AllBehind Cmp (as_matcher x) (map as_matcher zs)
      all x [] a = tt
      all x (z ∷ zs) a = (a.0, all x zs a.1)

  -- from all that is left at the beginning to what is left behind another one
  pub left_behind : IsAscending (compare th p) xs → AreLeft Is Cmp None (map as_matcher (keep test xs)) → (last : Option Solution) → AreLeft Is Cmp (option_map as_matcher last) (map as_matcher (after last))
  left_behind ascends left last = record {
    each = λ m. (
      (λ i.
          let y = from_map as_matcher (after last) m i in
          let a = from_keep test y.0 (keep (comes_behind (compare th p) last) xs) y.1 in
          let b = from_keep (comes_behind (compare th p) last) y.0 xs a.0 in (
            ((left.each m).0 (subst (λ w. IsIn w (map as_matcher (keep test xs))) (sym y.2) (in_map as_matcher y.0 (keep test xs) (in_keep test y.0 xs b.0 a.1)))).0,
            subst (IsBehind Cmp (option_map as_matcher last)) (sym y.2) (behind_so last y.0 b.1),
          )),
      (λ h.
          let y = from_map as_matcher (keep test xs) m ((left.each m).1 (h.0, tt)) in
          let a = from_keep test y.0 xs y.1 in
          let b = so_behind last y.0 (subst (IsBehind Cmp (option_map as_matcher last)) y.2 h.1) in
          subst (λ w. IsIn w (map as_matcher (after last))) (sym y.2)
          (in_map as_matcher y.0 (after last) (in_keep test y.0 (keep (comes_behind (compare th p) last) xs) (in_keep (comes_behind (compare th p) last) y.0 xs a.0 b) a.1))),
    );
    ascend = ascend_kept test (keep (comes_behind (compare th p) last) xs) (ascend_kept (comes_behind (compare th p) last) xs (as_matchers xs ascends));
  }
