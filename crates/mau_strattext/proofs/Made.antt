-- What is made of the latest strategies.
use Rattle.std.proofs.Common.{◌≡◌, ℕ, List, ◌∷◌, Some, Result, Ok, Err, OnOk, sym, subst, ap, ◌∙◌}
use Rattle.mau_program.specs.Trees.{StrategyOf, branch}
use Rattle.mau_shapes.specs.declared.pieces.Piece.{Piece}
use Rattle.mau_shapes.specs.declared.pieces.Piece.TheVariants.{Wrapped, Marked, Joined, Chosen}
use Rattle.mau_strattext.specs.Setting.{SettingOf, word_at}
use Rattle.mau_strattext.specs.Reads.{wrapped_by, marked_by, joined_by}
use Rattle.mau_strattext.specs.Building.{Makes, wraps, marks, joins, chooses}

-- where it went well
pub where_ok : {A E : Type 0} {P Q : Type 0} (r : Result A E) → (P → Q) → OnOk r P → OnOk r Q
where_ok (Ok x) h p = h p
where_ok (Err e) h p = tt

module _ (s : SettingOf) (i : ℕ) where
  pub made : (p : Piece) {old new old' new' : List StrategyOf} → old ≡ old' → new ≡ new' → Makes s p old' new' → Makes s p old new
  made p {old} {new} {old'} {new'} e h m = subst (λ zs. Makes s p zs new) (sym e) (subst (λ zs. Makes s p old' zs) (sym h) m)

  pub wrap_made : (w : List ℕ) (x y : StrategyOf) (xs old new : List StrategyOf) → w ≡ word_at s i → wrapped_by w x ≡ Some y → old ≡ x ∷ xs → new ≡ y ∷ xs
      → Makes s (Wrapped i) old new
  wrap_made w x y xs old new e h a b = made (Wrapped i) a b (wraps i x y xs (subst (λ v. wrapped_by v x ≡ Some y) e h))

  pub mark_made : (w : List ℕ) (x y : StrategyOf) (xs old new : List StrategyOf) → w ≡ word_at s i → marked_by w x ≡ Some y → old ≡ x ∷ xs → new ≡ y ∷ xs
      → Makes s (Marked i) old new
  mark_made w x y xs old new e h a b = made (Marked i) a b (marks i x y xs (subst (λ v. marked_by v x ≡ Some y) e h))

  pub join_made : (w : List ℕ) (x y z : StrategyOf) (xs ms old new : List StrategyOf) → w ≡ word_at s i → joined_by w x y ≡ Some z → old ≡ y ∷ ms → ms ≡ x ∷ xs
      → new ≡ z ∷ xs → Makes s (Joined i) old new
  join_made w x y z xs ms old new e h a m b = made (Joined i) (a ∙ ap (λ zs. y ∷ zs) m) b (joins i x y z xs (subst (λ v. joined_by v x y ≡ Some z) e h))

pub choose_made : (s : SettingOf) (a b c z : StrategyOf) (xs ms ls old new : List StrategyOf) → z ≡ branch a b c → old ≡ c ∷ ls → ls ≡ b ∷ ms → ms ≡ a ∷ xs → new ≡ z ∷ xs
    → Makes s Chosen old new
choose_made s a b c z xs ms ls old new e h k m n =
    made s 0 Chosen (h ∙ ap (λ zs. c ∷ zs) (k ∙ ap (λ zs. b ∷ zs) m)) (n ∙ ap (λ y. y ∷ xs) e) (chooses a b c xs)
