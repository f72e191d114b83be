-- The declarations of an operator after their attributes are united.
use Rattle.std.proofs.Common.{◌≡◌, ◌≢◌, ℕ, ◌+◌, ◌≤◌, zero, suc, List, [], ◌∷◌, ◌++◌, length, replicate, All, refl, ◌∙◌, ap, arith}
use Rattle.std.proofs.lemmas.List.Elements.{All-map, All-weaker, All-same}
use Rattle.mau_poset.specs.Order.{Hierarchy}
use Rattle.mau_signature.specs.declared.decl.Decl.{Decl}
use Rattle.mau_signature.specs.Attributes.{united, with_attributes, with_united}
use Rattle.mau_signature.specs.Faults.{HasSorts}

pub sorts-united : (h : Hierarchy) (ds es : List Decl) → es ≡ with_united ds → All (HasSorts h) ds → All (HasSorts h) es
sorts-united h ds es e a =
    All-same (HasSorts h) es (with_united ds) e
    (All-map (HasSorts h) (with_attributes (united ds)) ds
    (All-weaker (HasSorts h) (λ d. HasSorts h (with_attributes (united ds) d)) (λ d s. record { arguments = s.arguments; result = s.result }) ds a))

pub arity-united : (ds es : List Decl) → es ≡ with_united ds → All (λ d. length d.args ≤ 16) ds → All (λ d. length d.args ≤ 16) es
arity-united ds es e a =
    All-same (λ d. length d.args ≤ 16) es (with_united ds) e (All-map (λ d. length d.args ≤ 16) (with_attributes (united ds)) ds a)

pub some-united : (ds es : List Decl) → es ≡ with_united ds → ds ≢ [] → es ≢ []
some-united [] es e n = absurd (n refl)
some-united (d ∷ ds) es e n = λ h. cc

pub replicate-end : {X : Type 0} (n : ℕ) (x : X) → replicate n x ++ x ∷ [] ≡ replicate (n + 1) x
replicate-end {X} n x = by n ∙ ap (λ m. replicate m x) next
  where
    next : suc n ≡ n + 1
    next = omega arith

    by : (m : ℕ) → replicate m x ++ x ∷ [] ≡ replicate (suc m) x
    by zero = refl
    by (suc m) = ap (λ ys. x ∷ ys) (by m)
