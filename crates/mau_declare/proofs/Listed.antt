-- Names in a list, one more at the end.
use Rattle.std.proofs.Common.{◌≡◌, ℕ, suc, ◌+◌, List, [], ◌∷◌, ◌++◌, Bool, true, false, cond, map, refl, sym, ap, ap₂, ◌∙◌, codes, arith}
use Rattle.std.specs.Prelude.{filter}
use Rattle.std.specs.List.{range_with_len}
use Rattle.std.proofs.lemmas.List.{append_assoc, map-append}
use Rattle.std.proofs.lemmas.List.Elements.{filter-append}
use Rattle.mau_declare.specs.Flattened.{comma_names}
use Rattle.mau_declare.proofs.Ranges.{range_suc}

abbrev pub is_nil : {X : Type 0} → List X → Bool
is_nil [] = true
is_nil (x ∷ xs) = false

-- a name more, behind a comma unless it is the first
pub comma_more : (xs : List (List ℕ)) (y : List ℕ) → comma_names xs ++ (cond (is_nil xs) [] (codes ",") ++ y) ≡ comma_names (xs ++ y ∷ [])
comma_more [] y = refl
comma_more (x ∷ []) y = sym (append_assoc x (codes ",") y)
comma_more (x ∷ z ∷ xs) y =
    append_assoc (x ++ codes ",") (comma_names (z ∷ xs)) (codes "," ++ y)
    ∙ ap (λ t. x ++ codes "," ++ t) (comma_more (z ∷ xs) y)

nil_map : {X Y : Type 0} (f : X → Y) (xs : List X) → is_nil (map f xs) ≡ is_nil xs
nil_map f [] = refl
nil_map f (x ∷ xs) = refl

module _ (test : ℕ → Bool) (name : ℕ → List ℕ) (s : ℕ) where
  abbrev pub passing : List ℕ
  passing = filter test (range_with_len 0 s)

  more : filter test (range_with_len 0 (s + 1)) ≡ passing ++ filter test (s ∷ [])
  more =
      let n : s + 1 ≡ suc s = omega arith in
      let z : 0 + s ≡ s = omega arith in
      ap (λ k. filter test (range_with_len 0 k)) n ∙ ap (filter test) (range_suc 0 s) ∙ ap (λ k. filter test (range_with_len 0 s ++ k ∷ [])) z ∙ filter-append test (range_with_len 0 s) (s ∷ [])

  snoc_not_nil : {X : Type 0} (xs : List X) (x : X) → false ≡ is_nil (xs ++ x ∷ [])
  snoc_not_nil [] x = refl
  snoc_not_nil (y ∷ xs) x = refl

  append_nil : {X : Type 0} (xs : List X) → xs ++ [] ≡ xs
  append_nil [] = refl
  append_nil (x ∷ xs) = ap (λ ys. x ∷ ys) (append_nil xs)

  -- the sort s passes the test, and its name is written
  pub named_next : (old out out' : List ℕ) (is_first : Bool) → test s ≡ true → is_first ≡ is_nil passing → out ≡ old ++ comma_names (map name passing)
      → out' ≡ out ++ (cond is_first [] (codes ",")) ++ name s
      → (out' ≡ old ++ comma_names (map name (filter test (range_with_len 0 (s + 1))))) × (false ≡ is_nil (filter test (range_with_len 0 (s + 1))))
  named_next old out out' is_first t f o w =
      let l : filter test (range_with_len 0 (s + 1)) ≡ passing ++ s ∷ [] = more ∙ ap (λ b. passing ++ cond b (s ∷ []) []) t in
      let n : map name (filter test (range_with_len 0 (s + 1))) ≡ map name passing ++ name s ∷ [] = ap (map name) l ∙ map-append name passing (s ∷ []) in (
        w ∙ append_assoc out (cond is_first [] (codes ",")) (name s)
            ∙ ap₂ (λ x b. x ++ (cond b [] (codes ",") ++ name s)) o (f ∙ sym (nil_map name passing))
            ∙ append_assoc old (comma_names (map name passing)) (cond (is_nil (map name passing)) [] (codes ",") ++ name s)
            ∙ ap (λ x. old ++ x) (comma_more (map name passing) (name s) ∙ ap comma_names (sym n)),
        snoc_not_nil passing s ∙ ap is_nil (sym l),
      )

  -- it doesn't pass
  pub passed_over : (old out : List ℕ) (is_first : Bool) → test s ≡ false → is_first ≡ is_nil passing → out ≡ old ++ comma_names (map name passing)
      → (out ≡ old ++ comma_names (map name (filter test (range_with_len 0 (s + 1))))) × (is_first ≡ is_nil (filter test (range_with_len 0 (s + 1))))
  passed_over old out is_first t f o =
      let l : filter test (range_with_len 0 (s + 1)) ≡ passing = more ∙ ap (λ b. passing ++ cond b (s ∷ []) []) t ∙ append_nil passing in
      (o ∙ ap (λ xs. old ++ comma_names (map name xs)) (sym l), f ∙ ap is_nil (sym l))
