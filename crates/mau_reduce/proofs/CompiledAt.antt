-- Compiled equations by their numbers.
use Rattle.std.proofs.Common.{◌≡◌, ◌↔◌, true, ℕ, zero, suc, ◌+◌, ◌<◌, ◌≤◌, List, [], ◌∷◌, ◌++◌, length, take, get_or, slice_get, Option, Some, None, IfSome, refl, sym, subst, arith}
use Rattle.std.specs.Prelude.{IsSome}
use Rattle.std.proofs.lemmas.Option.{slice_get_within, get_or_from_slice_get}
use Rattle.mau_terms.specs.Tree.{Tree}
use Rattle.mau_terms.specs.View.{tree_of}
use Rattle.mau_signature.specs.Signature.{SignatureOf, theory_at}
use Rattle.mau_syntactic.specs.Free.{has_free_operators}
use Rattle.mau_program.specs.declared.statements.Equation as Written
use Rattle.mau_trial.specs.Tried.{HoldsAtEach}
use Rattle.mau_trial.proofs.AtEach.{each_at, each_long}
use Rattle.mau_reduce.specs.declared.compiling.CompiledEquation.{CompiledEquation}
use Rattle.mau_reduce.specs.Compiled.{IsPatternOf, IsCompiledEquation}
use Rattle.mau_reduce.proofs.Ordered.{take_whole}

module _ (s : SignatureOf) (es : List Written.Equation) (cs : List CompiledEquation) (all : HoldsAtEach (IsCompiledEquation s) es cs) where
  pub compiled_there : (i : ℕ) → i < length es → i < length cs
  compiled_there i h = omega (arith, h, each_long (IsCompiledEquation s) es cs all)

  pub compiled_at : (i : ℕ) (e : Written.Equation) (c : CompiledEquation) → slice_get es i ≡ Some e → c ≡ get_or cs i c → IsCompiledEquation s e c
  compiled_at i e c at is =
      subst (IsCompiledEquation s e) (sym is)
      (subst (λ (d : Written.Equation). IsCompiledEquation s d (get_or cs i c)) (get_or_from_slice_get es i e e at)
      (each_at (IsCompiledEquation s) es cs i e c (slice_get_within es i e at) all))

  pub pattern_at : (i : ℕ) (c : CompiledEquation) → c ≡ get_or cs i c → (q : Tree) → c.pattern ≡ Some q → IfSome (slice_get es i) (λ e. IsPatternOf s e q)
  pattern_at i c is q kept = by (slice_get es i) refl
    where
      by : (o : Option Written.Equation) → slice_get es i ≡ o → IfSome o (λ e. IsPatternOf s e q)
      by None at = tt
      by (Some e) at = subst (λ o. IfSome o (IsPatternOf s e)) kept (compiled_at i e c at is).pattern

-- one more behind the others
pub each_push : {A B : Type 0} (R : A → B → Type 0) (xs : List A) (ys : List B) (i : ℕ) (d : A) (y : B) → i < length xs → HoldsAtEach R (take i xs) ys → R (get_or xs i d) y → HoldsAtEach R (take (i + 1) xs) (ys ++ y ∷ [])
each_push R xs ys i d y h all r = subst (λ n. HoldsAtEach R (take n xs) (ys ++ y ∷ [])) (next i) (more R xs ys i d y h all r)
  where
    next : (i : ℕ) → suc i ≡ i + 1
    next i = omega arith

    more : {A B : Type 0} (R : A → B → Type 0) (xs : List A) (ys : List B) (i : ℕ) (d : A) (y : B) → i < length xs → HoldsAtEach R (take i xs) ys → R (get_or xs i d) y → HoldsAtEach R (take (suc i) xs) (ys ++ y ∷ [])
    more R [] ys i d y h all r = absurd (omega (arith, h))
    more R (x ∷ xs) [] zero d y h all r = (r, tt)
    more R (x ∷ xs) (z ∷ ys) zero d y h all r = absurd all
    more R (x ∷ xs) [] (suc i) d y h all r = absurd all
    more R (x ∷ xs) (z ∷ ys) (suc i) d y h all r = (all.0, more R xs ys i d y (omega (arith, h)) all.1 r)

pub each_whole : {A B : Type 0} (R : A → B → Type 0) (xs : List A) (ys : List B) (i : ℕ) → length xs ≤ i → HoldsAtEach R (take i xs) ys → HoldsAtEach R xs ys
each_whole R xs ys i h all = subst (λ zs. HoldsAtEach R zs ys) (take_whole xs i h) all

-- the pattern that was made
pub pattern_of : (s : SignatureOf) (e : Written.Equation) (o : Option Tree) → IfSome o (λ t. t ≡ tree_of e.left) → IsSome o ↔ (has_free_operators (theory_at s) (tree_of e.left) ≡ true) → IfSome o (IsPatternOf s e)
pattern_of s e None is free = tt
pattern_of s e (Some t) is free = record { tree = is; free = subst (λ z. has_free_operators (theory_at s) z ≡ true) (sym is) (free.0 refl) }
