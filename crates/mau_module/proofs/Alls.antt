-- What holds of each member of a list, one after another.
use Rattle.std.proofs.Common.{◌≡◌, ℕ, ◌+◌, ◌<◌, List, [], ◌∷◌, length, get_or, take, sym, ap, ◌∙◌, subst, add-one, arith}
use Rattle.std.specs.Prelude.{All}
use Rattle.std.proofs.Math.Seq.{take-suc, take-length}
use Rattle.std.proofs.lemmas.List.Elements.{All-push}

module _ {X : Type 0} (P : X → Type 0) (xs : List X) (i : ℕ) where
  pub all_more : (x : X) → i < length xs → x ≡ get_or xs i x → All P (take i xs) → P x → All P (take (i + 1) xs)
  all_more x l e a p =
      subst (All P) (sym (ap (λ k. take k xs) (add-one i) ∙ take-suc xs i x l)) (All-push P (take i xs) (get_or xs i x) a (subst P e p))

  pub all_at : (d : X) → i < length xs → All P (take i xs) → P (get_or xs i d) → All P (take (i + 1) xs)
  all_at d l a p =
      subst (All P) (sym (ap (λ k. take k xs) (add-one i) ∙ take-suc xs i d l)) (All-push P (take i xs) (get_or xs i d) a p)

  pub all_whole : i ≡ length xs → All P (take i xs) → All P xs
  all_whole e a = subst (All P) (ap (λ k. take k xs) e ∙ take-length xs) a

pub all_one : {X : Type 0} (P : X → Type 0) (x : X) → P x → All P (x ∷ [])
all_one P x p = All-push P [] x (λ k d l. absurd (omega (arith, l))) p
