-- The trees of lists of numbers.
use Rattle.std.proofs.Common.{◌≡◌, ℕ, zero, suc, ◌+◌, ◌<◌, ◌≤◌, List, [], ◌∷◌, ◌++◌, length, get_or, take, drop, refl, sym, ◌∙◌, ap, ap₂, subst, arith, take_all, append-nil}
use Rattle.std.proofs.lemmas.List.{take_all as take_whole, drop_all}
use Rattle.mau_terms.specs.Tree.{Tree, numeral}
use Rattle.mau_terms.specs.declared.ids.TermId.{TermId}
use Rattle.mau_chart.specs.Nodes.{tree_at, trees_at, AllBelow}

pub length-trees_at : (s : List Tree) (ts : List TermId) → length (trees_at s ts) ≡ length ts
length-trees_at s [] = refl
length-trees_at s (t ∷ ts) = ap suc (length-trees_at s ts)

pub more_alike : (s : List Tree) (ts us : List TermId) (i : ℕ) (d : TermId) → i < length ts → i < length us → trees_at s (take i ts) ≡ trees_at s (take i us) → tree_at s (get_or ts i d).0 ≡ tree_at s (get_or us i d).0 → trees_at s (take (suc i) ts) ≡ trees_at s (take (suc i) us)
more_alike s [] us i d h k e q = absurd (omega arith)
more_alike s (t ∷ ts) [] i d h k e q = absurd (omega arith)
more_alike s (t ∷ ts) (u ∷ us) zero d h k e q = ap (λ v. v ∷ []) q
more_alike s (t ∷ ts) (u ∷ us) (suc i) d h k e q =
    ap₂ (λ v w. v ∷ w) (ap head e) (more_alike s ts us i d (omega arith) (omega arith) (ap rest e) q)
  where
    head : List Tree → Tree
    head [] = numeral 0
    head (v ∷ vs) = v

    rest : List Tree → List Tree
    rest [] = []
    rest (v ∷ vs) = vs

pub alike_at : (s : List Tree) (ts us : List TermId) (i : ℕ) (d : TermId) → i < length ts → i < length us → trees_at s ts ≡ trees_at s us → tree_at s (get_or ts i d).0 ≡ tree_at s (get_or us i d).0
alike_at s [] us i d h k e = absurd (omega arith)
alike_at s (t ∷ ts) [] i d h k e = absurd (omega arith)
alike_at s (t ∷ ts) (u ∷ us) zero d h k e = ap head e
  where
    head : List Tree → Tree
    head [] = numeral 0
    head (v ∷ vs) = v
alike_at s (t ∷ ts) (u ∷ us) (suc i) d h k e = alike_at s ts us i d (omega arith) (omega arith) (ap rest e)
  where
    rest : List Tree → List Tree
    rest [] = []
    rest (v ∷ vs) = vs

pub below_at : (n : ℕ) (ts : List TermId) (i : ℕ) (d : TermId) → AllBelow n ts → i < length ts → (get_or ts i d).0 < n
below_at n [] i d h l = absurd (omega arith)
below_at n (t ∷ ts) zero d h l = h.0
below_at n (t ∷ ts) (suc i) d h l = below_at n ts i d h.1 (omega arith)

pub more_alike_to : (s : List Tree) (ts us : List TermId) (i n : ℕ) (d : TermId) → n ≡ i + 1 → i < length ts → i < length us → trees_at s (take i ts) ≡ trees_at s (take i us) → tree_at s (get_or ts i d).0 ≡ tree_at s (get_or us i d).0 → trees_at s (take n ts) ≡ trees_at s (take n us)
more_alike_to s ts us i n d w h k e q =
    let z : suc i ≡ n = omega (arith, w) in
    subst (λ m. trees_at s (take m ts) ≡ trees_at s (take m us)) z (more_alike s ts us i d h k e q)

pub trees_at-append : (s : List Tree) (ts us : List TermId) → trees_at s (ts ++ us) ≡ trees_at s ts ++ trees_at s us
trees_at-append s [] us = refl
trees_at-append s (t ∷ ts) us = ap (λ vs. tree_at s t.0 ∷ vs) (trees_at-append s ts us)

pub AllBelow-append : (n : ℕ) (ts us : List TermId) → AllBelow n ts → AllBelow n us → AllBelow n (ts ++ us)
AllBelow-append n [] us h k = k
AllBelow-append n (t ∷ ts) us h k = (h.0, AllBelow-append n ts us h.1 k)

-- a list that was written whole
pub filled : {A : Type 0} (n : ℕ) (new old : List A) → length new ≡ n → length old ≡ n → take n (new ++ drop (length new) old) ≡ new
filled n new old e h =
    ap (λ l. take n (new ++ l)) (drop_all (length new) old (omega (arith, e, h)))
    ∙ ap (take n) (append-nil new)
    ∙ take_whole n new (omega (arith, e))
