-- Leaves by numbers.
use Rattle.std.proofs.Common.{◌≡◌, ◌⊎◌, inl, inr, ℕ, zero, suc, ◌+◌, ◌<◌, List, [], ◌∷◌, ◌++◌, length, map, get_or, slice_get, Bool, true, false, Some, refl, ap, sym, ◌∙◌, subst, arith, append-nil}
use Rattle.std.proofs.lemmas.List.{map-append}
use Rattle.std.proofs.lemmas.Option.{slice_get-get_or}
use Rattle.mau_evaluation.specs.Strategy.{Strategy, idle}
use Rattle.mau_program.specs.Trees.{StrategyOf}
use Rattle.mau_strat.specs.Sharing.{EachOnce, Extends}
use Rattle.mau_strat.specs.Configurations.{TellsApart}
use Rattle.mau_strat.specs.Forms.{IsLeaf}
use Rattle.mau_stratforms.specs.Meanings.{meaning_of, meant}
use Rattle.mau_stratforms.specs.Tables.{IsTable, leaf_in, TablesTellApart}
use Rattle.mau_stratforms.proofs.Bodies.{at_place}

pub tables_tell_apart : TablesTellApart
tables_tell_apart table t = (apart, λ l h. t.leaves l (leaf_in table l) (slice_get-get_or table l idle h))
  where
    apart : TellsApart (leaf_in table) (length table)
    apart j k h i e = t.once j k (leaf_in table j) (slice_get-get_or table j idle h) (slice_get-get_or table k idle i ∙ ap Some (sym e))

no_place : {A : Type 0} (p : A) (j : ℕ) → slice_get {X = A} [] j ≡ Some p → ⊥
no_place p j e = cc

pub no_table : IsTable []
no_table = record { once = λ j k x h i. absurd (no_place x j h); leaves = λ l x h. absurd (no_place x l h) }

-- a leaf that is not there goes last
pub one_more_leaf : (table : List Strategy) (x : Strategy) → IsTable table → IsLeaf x → ((l : ℕ) → slice_get table l ≡ Some x → ⊥) → IsTable (table ++ x ∷ [])
one_more_leaf table x t i none = record { once = once; leaves = λ l y h. leaf_by l y (at_place table x l y h) }
  where
    leaf_by : (l : ℕ) (y : Strategy) → (slice_get table l ≡ Some y) ⊎ ((l ≡ length table) × (y ≡ x)) → IsLeaf y
    leaf_by l y (inl h) = t.leaves l y h
    leaf_by l y (inr h) = subst IsLeaf (sym h.1) i

    once : EachOnce (table ++ x ∷ [])
    once j k y h i = by (at_place table x j y h) (at_place table x k y i)
      where
        by : (slice_get table j ≡ Some y) ⊎ ((j ≡ length table) × (y ≡ x)) → (slice_get table k ≡ Some y) ⊎ ((k ≡ length table) × (y ≡ x)) → j ≡ k
        by (inl a) (inl b) = t.once j k y a b
        by (inl a) (inr b) = absurd (none j (a ∙ ap Some b.1))
        by (inr a) (inl b) = absurd (none k (b ∙ ap Some a.1))
        by (inr a) (inr b) = a.0 ∙ sym b.0

pub last_leaf : (table : List Strategy) (x : Strategy) (n : ℕ) → n ≡ length table → slice_get (table ++ x ∷ []) n ≡ Some x
last_leaf table x n e = subst (λ k. slice_get (table ++ x ∷ []) k ≡ Some x) (sym e) (by table)
  where
    by : (xs : List Strategy) → slice_get (xs ++ x ∷ []) (length xs) ≡ Some x
    by [] = refl
    by (y ∷ ys) = by ys

-- ---- the places of mapped lists

pub at_mapped : {A B : Type 0} (f : A → B) (xs : List A) (i : ℕ) (x : A) → i < length xs → x ≡ get_or xs i x → slice_get (map f xs) i ≡ Some (f x)
at_mapped f [] i x h e = absurd (omega arith)
at_mapped f (y ∷ ys) zero x h e = ap (λ z. Some (f z)) (sym e)
at_mapped f (y ∷ ys) (suc i) x h e = at_mapped f ys i x (omega arith) e

-- ---- the table of what strategies of a program mean

not_both : (b : Bool) → b ≡ true → b ≡ false → ⊥
not_both b p q = absurd (cc)

same_some : {A : Type 0} (a b : A) → Some a ≡ Some b → a ≡ b
same_some a b e = cc

pub mapped : {A B : Type 0} (f : A → B) (xs : List A) → length (map f xs) ≡ length xs
mapped f [] = refl
mapped f (x ∷ xs) = omega (arith, mapped f xs)

-- so far none of the first ones is it
pub not_there : (xs : List StrategyOf) (m : Strategy) (n : ℕ) (x : StrategyOf) (b : Bool) → n < length xs → x ≡ get_or xs n x → (meaning_of x ≡ m → b ≡ true) → b ≡ false →
    ((k : ℕ) → k < n → slice_get (meant xs) k ≡ Some m → ⊥) → (k : ℕ) → k < n + 1 → slice_get (meant xs) k ≡ Some m → ⊥
not_there xs m n x b h e f fails g k l q = by (split k n l)
  where
    split : (i j : ℕ) → i < j + 1 → (i < j) ⊎ (i ≡ j)
    split zero zero p = inr refl
    split zero (suc j) p = inl (omega arith)
    split (suc i) zero p = absurd (omega arith)
    split (suc i) (suc j) p = next (split i j (omega arith))
      where
        next : (i < j) ⊎ (i ≡ j) → (suc i < suc j) ⊎ (suc i ≡ suc j)
        next (inl z) = inl (omega arith)
        next (inr z) = inr (omega arith)

    by : (k < n) ⊎ (k ≡ n) → ⊥
    by (inl i) = g k i q
    by (inr i) = not_both b (f (same_some (meaning_of x) m (sym (at_mapped meaning_of xs n x h e) ∙ (ap (slice_get (meant xs)) (sym i) ∙ q)))) fails

module _ (old : List StrategyOf) (x y : StrategyOf) (new : List StrategyOf) (e : new ≡ old ++ x ∷ []) (same : x ≡ y) where
  pushed : meant new ≡ meant old ++ meaning_of y ∷ []
  pushed = ap meant e ∙ (map-append meaning_of old (x ∷ []) ∙ ap (λ z. meant old ++ meaning_of z ∷ []) same)

  pub added_leaf : IsTable (meant old) → IsLeaf (meaning_of y) → ((l : ℕ) → slice_get (meant old) l ≡ Some (meaning_of y) → ⊥) → IsTable (meant new)
  added_leaf t i none = subst IsTable (sym pushed) (one_more_leaf (meant old) (meaning_of y) t i none)

  pub added_place : (n : ℕ) → n ≡ length old → slice_get (meant new) n ≡ Some (meaning_of y)
  added_place n k = subst (λ xs. slice_get xs n ≡ Some (meaning_of y)) (sym pushed) (last_leaf (meant old) (meaning_of y) n (k ∙ sym (mapped meaning_of old)))

pub table_extends : (old new : List StrategyOf) (x : StrategyOf) → (new ≡ old) ⊎ (new ≡ old ++ x ∷ []) → Extends (meant old) (meant new)
table_extends old new x (inl e) = ([], ap meant e ∙ sym (append-nil (meant old)))
table_extends old new x (inr e) = (meaning_of x ∷ [], ap meant e ∙ map-append meaning_of old (x ∷ []))
