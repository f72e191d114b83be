-- The solutions that were shown one after another are the first ones, and all of them where none is left.
use Rattle.std.proofs.Common.{◌≡◌, ◌⊎◌, inl, inr, ⊎_elim, suc, Bool, List, [], ◌∷◌, ◌++◌, get_or, All, AllPairs, Contains, Option, None, Some, refl, subst, arith}
use Rattle.std.proofs.lemmas.List.Elements.{All-nil, All-head, All-tail, All-push, Contains-append_left, Contains-push}
use Rattle.std.proofs.lemmas.List.Kept.{AllPairs-cons}
use Rattle.mau_terms.specs.Tree.{Tree}
use Rattle.mau_listing.specs.Matcher.{Matcher}
use Rattle.mau_listing.proofs.Ordered.{matchers_are_ordered}
use Rattle.mau_api.specs.Meanings.{Meanings}
use Rattle.mau_module.specs.Modules.{ModuleOf}
use Rattle.mau_session.specs.Terms.{terms_in}
use Rattle.mau_session.specs.Matching.{IsSolution, IsBefore, IsBehind, AreFirst, AreAll, class_of, last_shown}
use Rattle.mau_session.specs.Next.{IsNext, NoneIsBehind}

-- ---- the order

pub before_trans : (m : ModuleOf) (p : Tree) (xs ys zs : Matcher) → IsBefore m p xs ys → IsBefore m p ys zs → IsBefore m p xs zs
before_trans m p xs ys zs a b = (matchers_are_ordered (terms_in m).theory p).trans xs ys zs a b

pub behind_trans : (m : ModuleOf) (p : Tree) (last : Option Matcher) (xs ys : Matcher) → IsBehind m p last xs → IsBefore m p xs ys → IsBehind m p last ys
behind_trans m p None xs ys a b = tt
behind_trans m p (Some zs) xs ys a b = before_trans m p zs xs ys a b

-- ---- lists that grow at their ends

pairs_push : {X : Type 0} (R : X → X → Type 0) (xs : List X) (x : X) → AllPairs R xs → All (λ y. R y x) xs → AllPairs R (xs ++ x ∷ [])
pairs_push R [] x pairs all = AllPairs-cons R x [] (All-nil (R x)) pairs
pairs_push R (y ∷ xs) x pairs all =
    AllPairs-cons R y (xs ++ x ∷ []) (All-push (R y) xs x (λ k d h. pairs 0 (suc k) d (omega arith) (omega (arith, h))) (All-head (λ z. R z x) y xs all))
    (pairs_push R xs x (λ i j d h l. pairs (suc i) (suc j) d (omega (arith, h)) (omega (arith, l))) (All-tail (λ z. R z x) y xs all))

All-last : {X : Type 0} (P : X → Type 0) (xs : List X) (x : X) → All P (xs ++ x ∷ []) → P x
All-last P [] x all = All-head P x [] all
All-last P (y ∷ xs) x all = All-last P xs x (All-tail P y (xs ++ x ∷ []) all)

pub last_shown-push : (last : Option Matcher) (found : List Matcher) (xs : Matcher) → last_shown last (found ++ xs ∷ []) ≡ Some xs
last_shown-push last [] xs = refl
last_shown-push last (ys ∷ found) xs = last_shown-push (Some ys) found xs

module _ (m : ModuleOf) (means : Meanings) (w : Bool) (p t : Tree) (last : Option Matcher) where
  -- found was shown behind `last`, and then `now` is the last one: what comes behind it is what comes behind `last` and all of them
  pub record AreShown (now : Option Matcher) (found : List Matcher) : Type 0 where
    pub first : AreFirst m means w p t last found
    pub now_is : last_shown last found ≡ now
    pub covers : (xs : Matcher) → IsBehind m p now xs → IsBehind m p last xs × All (λ ys. IsBefore m p ys xs) found
    pub reaches : (xs : Matcher) → IsBehind m p last xs → All (λ ys. IsBefore m p ys xs) found → IsBehind m p now xs

  pub none_shown : AreShown last []
  none_shown = record {
    first = record {
      solutions = All-nil (IsSolution m means w p t);
      behind = All-nil (IsBehind m p last);
      ascending = λ i j d h l. absurd (omega (arith, l));
      others = λ xs is behind. inr (All-nil (λ ys. IsBefore m p ys xs));
    };
    now_is = refl;
    covers = λ xs behind. (behind, All-nil (λ ys. IsBefore m p ys xs));
    reaches = λ xs behind all. behind;
  }

  pub one_shown : (now : Option Matcher) (found : List Matcher) (xs : Matcher) → AreShown now found → IsNext m means w p t now xs → AreShown (Some xs) (found ++ xs ∷ [])
  one_shown now found xs shown next =
      let here = shown.covers xs next.behind in
      record {
        first = record {
          solutions = All-push (IsSolution m means w p t) found xs shown.first.solutions next.is_one;
          behind = All-push (IsBehind m p last) found xs shown.first.behind here.0;
          ascending = pairs_push (IsBefore m p) found xs shown.first.ascending here.1;
          others = λ ys is behind. by ys is behind (shown.first.others ys is behind);
        };
        now_is = last_shown-push last found xs;
        covers = λ ys behind. (behind_trans m p last xs ys here.0 behind, All-push (λ zs. IsBefore m p zs ys) found xs (λ k d h. before_trans m p (get_or found k d) xs ys (here.1 k d h) behind) behind);
        reaches = λ ys behind all. All-last (λ zs. IsBefore m p zs ys) found xs all;
      }
    where
      by : (ys : Matcher) → IsSolution m means w p t ys → IsBehind m p last ys → Contains found ys ⊎ All (λ zs. IsBefore m p zs ys) found
          → Contains (found ++ xs ∷ []) ys ⊎ All (λ zs. IsBefore m p zs ys) (found ++ xs ∷ [])
      by ys is behind (inl among) = inl (Contains-append_left found (xs ∷ []) ys among)
      by ys is behind (inr all) =
          ⊎_elim
          (λ (before : IsBefore m p xs ys). inr (All-push (λ zs. IsBefore m p zs ys) found xs all before))
          (λ (same : xs ≡ ys). inl (subst (Contains (found ++ xs ∷ [])) same (Contains-push found xs)))
          (next.least ys is (shown.reaches ys behind all))

  pub all_shown : (now : Option Matcher) (found : List Matcher) → AreShown now found → NoneIsBehind m means w p t now → AreAll m means w p t last found
  all_shown now found shown none = record {
    first = shown.first;
    complete = λ vs left right solves behind.
        let x = class_of m left right vs in
        let is : IsSolution m means w p t x = record { values = vs; normal = refl; solves = solves } in
        ⊎_elim
        (λ (among : Contains found x). among)
        (λ (all : All (λ ys. IsBefore m p ys x) found). absurd (none x is (shown.reaches x behind all)))
        (shown.first.others x is behind);
  }
