-- Lists that are written one element after another, and texts one part after another.
use Rattle.std.proofs.Common.{◌≡◌, ℕ, suc, ◌+◌, List, ◌++◌, Result, refl, sym, ap, ◌∙◌, subst, add-one, append_assoc}
use Rattle.std.specs.Prelude.{codes, decimal, OnOk}
use Rattle.mau_terms.proofs.Outcomes.{IfOk-then}
use Rattle.mau_making.specs.MadeSession.{elements, made_pair, made_pairs}

pub more_elements : (o : List ℕ) (n : ℕ) → o ++ elements n ++ codes " e" ++ decimal (n + 1) ≡ o ++ elements (n + 1)
more_elements o n =
    ap (λ zs. zs ++ decimal (n + 1)) (append_assoc o (elements n) (codes " e"))
    ∙ append_assoc o (elements n ++ codes " e") (decimal (n + 1))
    ∙ subst (λ k. o ++ (elements n ++ codes " e" ++ decimal k) ≡ o ++ elements k) (sym (add-one n)) refl

pub more_pairs : (o : List ℕ) (n : ℕ) → (o ++ made_pairs n) ++ made_pair (n + 1) ≡ o ++ made_pairs (n + 1)
more_pairs o n = append_assoc o (made_pairs n) (made_pair (n + 1)) ∙ subst (λ k. o ++ (made_pairs n ++ made_pair k) ≡ o ++ made_pairs k) (sym (add-one n)) refl

-- ---- parts

pub two : (o a b v w : List ℕ) → v ≡ o ++ a → w ≡ v ++ b → w ≡ o ++ (a ++ b)
two o a b v w is then = then ∙ ap (λ zs. zs ++ b) is ∙ append_assoc o a b

-- the last part
pub last : {E : Type 0} (r : Result (Unit {0}) E) (o a b v w : List ℕ) → v ≡ o ++ a → OnOk r (w ≡ v ++ b) → OnOk r (w ≡ o ++ (a ++ b))
last r o a b v w is then = IfOk-then (λ _. w ≡ v ++ b) (λ _. w ≡ o ++ (a ++ b)) (λ x e. two o a b v w is e) r then
