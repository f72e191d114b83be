-- Lists of terms that are bare terms of some kinds, place by place.
use Rattle.std.proofs.Common.{◌≡◌, ℕ, zero, suc, ◌<◌, List, [], ◌∷◌, take, length, get_or, map, refl, ap, arith}
use Rattle.mau_terms.specs.Tree.{trees_of}
use Rattle.mau_terms.specs.Bare.{TermSignature, IsBareIn, AreBareIn}
use Rattle.mau_terms.specs.View.{tree_of}
use Rattle.mau_terms.specs.declared.bare.Bare.{Bare}

module _ (s : TermSignature) (kind : ℕ → ℕ) where
  -- one more bare term of the kind of its place
  pub bare_more : (bs : List Bare) (ss : List ℕ) (k : ℕ) (d : Bare) (e : ℕ) → k < length bs → k < length ss → AreBareIn s (trees_of (map tree_of (take k bs))) (map kind (take k ss)) → IsBareIn s (tree_of (get_or bs k d)) (kind (get_or ss k e))
      → AreBareIn s (trees_of (map tree_of (take (suc k) bs))) (map kind (take (suc k) ss))
  bare_more [] ss k d e h h' p q = absurd (omega arith)
  bare_more (b ∷ bs) [] k d e h h' p q = absurd (omega arith)
  bare_more (b ∷ bs) (x ∷ ss) zero d e h h' p q = (q, tt)
  bare_more (b ∷ bs) (x ∷ ss) (suc k) d e h h' p q = (p.0, bare_more bs ss k d e (omega arith) (omega arith) p.1 q)

  pub bare_at : (bs : List Bare) (ss : List ℕ) (k : ℕ) (d : Bare) (e : ℕ) → k < length bs → AreBareIn s (trees_of (map tree_of bs)) (map kind ss) → IsBareIn s (tree_of (get_or bs k d)) (kind (get_or ss k e))
  bare_at [] ss k d e h p = absurd (omega arith)
  bare_at (b ∷ bs) [] k d e h p = absurd p
  bare_at (b ∷ bs) (x ∷ ss) zero d e h p = p.0
  bare_at (b ∷ bs) (x ∷ ss) (suc k) d e h p = bare_at bs ss k d e (omega arith) p.1

  -- there are as many as kinds
  pub as_many : (bs : List Bare) (ss : List ℕ) → AreBareIn s (trees_of (map tree_of bs)) (map kind ss) → length bs ≡ length ss
  as_many [] [] p = refl
  as_many [] (x ∷ ss) p = absurd p
  as_many (b ∷ bs) [] p = absurd p
  as_many (b ∷ bs) (x ∷ ss) p = ap suc (as_many bs ss p.1)
