-- The numbers of productions that an index tells: none is missing.
use Rattle.std.proofs.Common.{◌≡◌, ℕ, zero, suc, ◌<◌, ◌≤◌, List, [], ◌∷◌, ◌++◌, length, map, filter, Bool, true, false, Option, Some, None, ◌⊎◌, inl, inr, refl, sym, ◌∙◌, ap, subst, arith, slice_get, bytes_eq, if◌then◌else◌}
use Rattle.std.proofs.lemmas.Bool.{cases_lt}
use Rattle.std.proofs.lemmas.List.{map-append}
use Rattle.std.proofs.lemmas.List.Elements.{filter-append}
use Rattle.std.proofs.lemmas.Slice.Eq.{bytes_eq-Decides}
use Rattle.mau_grammar.specs.declared.production.Production.{Production}
use Rattle.mau_grammar.specs.Index.{key_at, with_number, keys_to, numbers_with, keyed, if_none, wordless_to, wordless}

-- x stands in the list
abbrev pub Stands : List ℕ → ℕ → Type 0
Stands xs x = (m : ℕ) × (slice_get xs m ≡ Some x)

stands_left : (xs ys : List ℕ) (x : ℕ) → Stands xs x → Stands (xs ++ ys) x
stands_left [] ys x h = absurd (none h.1)
  where
    none : ◌≡◌ {A = Option ℕ} None (Some x) → ⊥
    none e = cc
stands_left (y ∷ xs) ys x (zero, e) = (0, e)
stands_left (y ∷ xs) ys x (suc m, e) = let r = stands_left xs ys x (m, e) in (suc r.0, r.1)

stands_right : (xs ys : List ℕ) (x : ℕ) → Stands ys x → Stands (xs ++ ys) x
stands_right [] ys x h = h
stands_right (y ∷ xs) ys x h = let r = stands_right xs ys x h in (suc r.0, r.1)

-- the last of the first k, or one before it
pub before_or_last : (n k : ℕ) → n < suc k → (n < k) ⊎ (n ≡ k)
before_or_last n k h = by (cases_lt n k)
  where
    by : (n < k) ⊎ (k ≤ n) → (n < k) ⊎ (n ≡ k)
    by (inl l) = inl l
    by (inr g) = inr (omega (arith, h, g))

-- ---- productions without a word

wordless_below : (ps : List Production) (n k : ℕ) → n < k → key_at ps n ≡ None → Stands (wordless_to ps k) n
wordless_below ps n zero h e = absurd (omega (arith, h))
wordless_below ps n (suc k) h e = by (λ l. wordless_below ps n k l e) (before_or_last n k h)
  where
    by : (n < k → Stands (wordless_to ps k) n) → (n < k) ⊎ (n ≡ k) → Stands (wordless_to ps k ++ if_none k (key_at ps k)) n
    by before (inl l) = stands_left (wordless_to ps k) _ n (before l)
    by before (inr q) = stands_right (wordless_to ps k) _ n (subst (λ z. Stands (if_none z (key_at ps z)) n) q (subst (λ o. Stands (if_none n o) n) (sym e) (0, refl)))

pub wordless_stands : (ps : List Production) (n : ℕ) → n < length ps → key_at ps n ≡ None → Stands (wordless ps) n
wordless_stands ps n h e = wordless_below ps n (length ps) h e

-- ---- productions by their keys

numbers_with-append : (w : List ℕ) (xs ys : List (List ℕ × ℕ)) → numbers_with w (xs ++ ys) ≡ numbers_with w xs ++ numbers_with w ys
numbers_with-append w xs ys =
    ap (map (λ k. k.1)) (filter-append (λ k. bytes_eq w k.0) xs ys) ∙ map-append (λ k. k.1) (filter (λ k. bytes_eq w k.0) xs) (filter (λ k. bytes_eq w k.0) ys)

itself : (w : List ℕ) (n : ℕ) → Stands (numbers_with w ((w, n) ∷ [])) n
itself w n = by (bytes_eq w w) ((bytes_eq-Decides w w).1 refl) refl
  where
    by : (b : Bool) → b ≡ true → bytes_eq w w ≡ b → Stands (numbers_with w ((w, n) ∷ [])) n
    by true t e = subst (λ ks. Stands (numbers_of ks) n) (sym (ap (λ b. if b then (w, n) ∷ [] else []) e)) (0, refl)
      where
        numbers_of : List (List ℕ × ℕ) → List ℕ
        numbers_of ks = map (λ k. k.1) ks
    by false t e = absurd (never t)
      where
        never : false ≡ true → ⊥
        never z = cc

keyed_below : (ps : List Production) (w : List ℕ) (n k : ℕ) → n < k → key_at ps n ≡ Some w → Stands (numbers_with w (keys_to ps k)) n
keyed_below ps w n zero h e = absurd (omega (arith, h))
keyed_below ps w n (suc k) h e = subst (λ xs. Stands xs n) (sym (numbers_with-append w (keys_to ps k) (with_number k (key_at ps k)))) (by (λ l. keyed_below ps w n k l e) (before_or_last n k h))
  where
    by : (n < k → Stands (numbers_with w (keys_to ps k)) n) → (n < k) ⊎ (n ≡ k) → Stands (numbers_with w (keys_to ps k) ++ numbers_with w (with_number k (key_at ps k))) n
    by before (inl l) = stands_left (numbers_with w (keys_to ps k)) _ n (before l)
    by before (inr q) =
        stands_right (numbers_with w (keys_to ps k)) _ n
        (subst (λ z. Stands (numbers_with w (with_number z (key_at ps z))) n) q (subst (λ o. Stands (numbers_with w (with_number n o)) n) (sym e) (itself w n)))

pub keyed_stands : (ps : List Production) (w : List ℕ) (n : ℕ) → n < length ps → key_at ps n ≡ Some w → Stands (keyed ps w) n
keyed_stands ps w n h e = keyed_below ps w n (length ps) h e
