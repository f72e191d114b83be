-- Sums over lines, one line after another.
use Rattle.std.proofs.Common.{◌≡◌, ◌<◌, ◌+◌, ℕ, List, [], ◌∷◌, ◌++◌, map, take, get_or, length, refl, sym, ap, ap₂, ◌∙◌, subst, arith}
use Rattle.std.proofs.lemmas.List.{take_more, map-append}
use Rattle.mau_making.specs.Counted.{total, AreCountsIn, one_if, number_behind}
use Rattle.std.specs.Prelude.{codes}
use denote.Ref.{Bor}

total_more : (c : List ℕ → ℕ) (ls : List (List ℕ)) (l : List ℕ) → total c (ls ++ l ∷ []) ≡ total c ls + c l
total_more c [] l = omega arith
total_more c (x ∷ ls) l = let e = total_more c ls l in omega (arith, e)

-- one more line
pub more_counts : (ls : List (List ℕ)) (l : List ℕ) (i m r i' m' r' : ℕ) → AreCountsIn ls i m r → i' ≡ i + one_if (codes "[") l → m' ≡ m + one_if (codes "Matcher ") l → r' ≡ r + number_behind (codes "rewrites: ") l
    → AreCountsIn (ls ++ l ∷ []) i' m' r'
more_counts ls l i m r i' m' r' h a b c = record {
  items_are = a ∙ ap (λ n. n + one_if (codes "[") l) h.items_are ∙ sym (total_more (one_if (codes "[")) ls l);
  matchers_are = b ∙ ap (λ n. n + one_if (codes "Matcher ") l) h.matchers_are ∙ sym (total_more (one_if (codes "Matcher ")) ls l);
  rewrites_are = c ∙ ap (λ n. n + number_behind (codes "rewrites: ") l) h.rewrites_are ∙ sym (total_more (number_behind (codes "rewrites: ")) ls l);
}

pub lines_more : (ls : List (Bor (List ℕ))) (i : ℕ) (d : Bor (List ℕ)) → i < length ls → map (λ (x : Bor (List ℕ)). x.now) (take (i + 1) ls) ≡ map (λ (x : Bor (List ℕ)). x.now) (take i ls) ++ (get_or ls i d).now ∷ []
lines_more ls i d below = ap (map (λ (x : Bor (List ℕ)). x.now)) (take_more ls i d below) ∙ map-append (λ (x : Bor (List ℕ)). x.now) (take i ls) (get_or ls i d ∷ [])
