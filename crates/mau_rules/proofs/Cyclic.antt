-- Lists of numbered rules in cyclic order, from one behind the first n on.
use Rattle.std.proofs.Common.{◌≡◌, ◌≤◌, ◌<◌, ◌+◌, ◌-◌, ◌∷◌, ◌++◌, [], List, ℕ, zero, suc, length, take, drop, get_or, refl, ap, ap₂, ◌∙◌, arith, length-append, length-drop, length-take, min}
use Rattle.std.proofs.Math.Seq.{take-append_seam, drop-append_seam}
use Rattle.std.proofs.lemmas.List.{get_or-take, get_or-drop, get_or_append_left, get_or-append_right}
use Rattle.mau_evaluation.specs.Program.{Rule}
use Rattle.mau_evaluation.specs.RuleRuns.{numbered, cyclically}

pub numbered_length : (n : ℕ) (qs : List Rule) → length (numbered n qs) ≡ length qs
numbered_length n [] = refl
numbered_length n (q ∷ qs) = ap suc (numbered_length (suc n) qs)

pub numbered_at : (n : ℕ) (qs : List Rule) (i : ℕ) (d : Rule) (e : ℕ × Rule) → i < length qs → get_or (numbered n qs) i e ≡ (n + i, get_or qs i d)
numbered_at n [] i d e h = absurd (omega arith)
numbered_at n (q ∷ qs) zero d e h = ap (λ k. (k, q)) (omega arith)
numbered_at n (q ∷ qs) (suc i) d e h = numbered_at (suc n) qs i d e (omega arith) ∙ ap (λ k. (k, get_or qs i d)) (omega arith)

module _ (qs : List (ℕ × Rule)) (n : ℕ) where
  pub cyclic_length : length (cyclically n qs) ≡ length qs
  cyclic_length = length-append (drop n qs) (take n qs) ∙ (ap₂ (λ a b. a + b) (length-drop n qs) (length-take n qs) ∙ both n (length qs))
    where
      both : (n l : ℕ) → (l - n) + min n l ≡ l
      both n l = omega arith

  -- behind the first n
  pub cyclic_behind : (i : ℕ) (e : ℕ × Rule) → n + i < length qs → get_or (cyclically n qs) i e ≡ get_or qs (n + i) e
  cyclic_behind i e h = get_or_append_left (drop n qs) (take n qs) e i (omega (arith, length-drop n qs)) ∙ get_or-drop n qs i e

  -- and then those
  pub cyclic_before : (i : ℕ) (e : ℕ × Rule) → n ≤ length qs → length qs ≤ n + i → i < length qs → get_or (cyclically n qs) i e ≡ get_or qs (i - (length qs - n)) e
  cyclic_before i e h low high =
      get_or-append_right (drop n qs) (take n qs) (length qs - n) i e (length-drop n qs) (omega arith)
      ∙ get_or-take n qs (i - (length qs - n)) e (omega arith)

  -- where n is past the end the first is the first
  pub cyclic_past : (i : ℕ) (e : ℕ × Rule) → length qs ≤ n → i < length qs → get_or (cyclically n qs) i e ≡ get_or qs i e
  cyclic_past i e h low =
      get_or-append_right (drop n qs) (take n qs) 0 i e (length-drop n qs ∙ omega arith) (omega arith)
      ∙ (get_or-take n qs (i - 0) e (omega arith) ∙ ap (λ j. get_or qs j e) (omega arith))

-- two parts, the second first
pub cyclic_seam : (xs before behind : List (ℕ × Rule)) → xs ≡ before ++ behind → cyclically (length before) xs ≡ behind ++ before
cyclic_seam xs before behind e =
    ap (λ zs. cyclically (length before) zs) e ∙ ap₂ (λ ys zs. ys ++ zs) (drop-append_seam before behind) (take-append_seam before behind)
