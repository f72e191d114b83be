-- What is kept of lines, one after another and in stores that grow.
use Rattle.std.proofs.Common.{◌≡◌, ℕ, sym, subst, IfSome, OnOk, OnErr, List, [], ◌∷◌, ◌++◌, Option, Some, None, Result, Ok, Err, IfOk}
use Rattle.mau_terms.specs.Tree.{Tree}
use Rattle.mau_signature.specs.Signature.{SignatureOf}
use Rattle.mau_store.specs.Node.{Node, Extends}
use Rattle.mau_logic.specs.Lines.{terms_at}
use Rattle.mau_logic.specs.Justified.{With}
use Rattle.mau_check.specs.declared.kept.Kept.{Kept}
use Rattle.mau_check.specs.Kept.{IsKeptFor, AreKeptFor, IsKept, AreKept}
use Rattle.mau_check.proofs.Equals.{are_kept_extended}
use Rattle.mau_check.proofs.Numbers.{zip_push}
use Rattle.mau_prove.specs.Making.{AreSomeKept, IsOne}

pub some_more : (s : SignatureOf) (nodes : List Node) (ks : List (Option Kept)) (k : Kept) → AreSomeKept s nodes ks → IsOne s nodes k → AreSomeKept s nodes (ks ++ Some k ∷ [])
some_more s nodes ks k h one = (h.0 ++ Some one.0 ∷ [], zip_push (IsKept s nodes) ks h.0 (Some k) (Some one.0) h.1 one.1)

pub some_grown : (s : SignatureOf) (old new : List Node) → Extends old new → (ks : List (Option Kept)) → AreSomeKept s old ks → AreSomeKept s new ks
some_grown s old new e ks h = (h.0, are_kept_extended s old new e ks h.0 h.1)

-- one of a term that is there
pub one_of : (s : SignatureOf) (nodes : List Node) (k : Kept) (t : Option Tree) → With t (IsKeptFor s nodes k) → IsOne s nodes k
one_of s nodes k (Some t) h = (t, h)
one_of s nodes k None h = absurd h

-- terms of which all are there
pub all_of : (s : SignatureOf) (nodes : List Node) (ks : List Kept) (ts : Option (List Tree)) → With ts (AreKeptFor s nodes ks) → (us : List Tree) × AreKeptFor s nodes ks us
all_of s nodes ks (Some ts) h = (ts, h)
all_of s nodes ks None h = absurd h

-- what is found at some places is of terms
pub all_kept : {V : Type 0} (items : V → List Kept) (s : SignatureOf) (nodes : List Node) (ks lent : List (Option Kept)) (numbers : List ℕ) (o : Option V) (found : V) → AreSomeKept s nodes ks → ks ≡ lent → o ≡ Some found →
    ((terms : List (Option Tree)) → AreKept s nodes lent terms → IfSome o (λ v. With (terms_at terms numbers) (AreKeptFor s nodes (items v)))) → (us : List Tree) × AreKeptFor s nodes (items found) us
all_kept items s nodes ks lent numbers o found h e d f =
    all_of s nodes (items found) (terms_at h.0 numbers)
    (subst (λ x. IfSome x (λ v. With (terms_at h.0 numbers) (AreKeptFor s nodes (items v)))) d (f h.0 (subst (λ xs. AreKept s nodes xs h.0) e h.1)))

-- one place more
pub one_place_more : (s : SignatureOf) (nodes : List Node) (ks : List (Option Kept)) (o : Option Kept) → AreSomeKept s nodes ks → IfSome o (IsOne s nodes) → AreSomeKept s nodes (ks ++ o ∷ [])
one_place_more s nodes ks (Some k) h one = some_more s nodes ks k h one
one_place_more s nodes ks None h one = (h.0 ++ None ∷ [], zip_push (IsKept s nodes) ks h.0 None None h.1 (λ w. w))

-- where there is no memory for it, all stays as it was
pub pushed : {A E : Type 0} (s : SignatureOf) (nodes : List Node) (ks new : List (Option Kept)) (o : Option Kept) (r : Result A E) → OnOk r (new ≡ ks ++ o ∷ []) → OnErr r (new ≡ ks) → AreSomeKept s nodes ks → IfSome o (IsOne s nodes) → AreSomeKept s nodes new
pushed s nodes ks new o (Ok x) e d h one = subst (AreSomeKept s nodes) (sym e) (one_place_more s nodes ks o h one)
pushed s nodes ks new o (Err x) e d h one = subst (AreSomeKept s nodes) (sym d) h

-- what is kept, if anything, is one of a term
pub one_kept : {E : Type 0} (s : SignatureOf) (nodes : List Node) (t : Tree) (r : Result (Option Kept) E) → IfOk r (λ k. IsKept s nodes k (Some t)) → IfOk r (λ o. IfSome o (IsOne s nodes))
one_kept s nodes t (Ok (Some k)) h = (t, h)
one_kept s nodes t (Ok None) h = tt
one_kept s nodes t (Err e) h = tt

pub one_over : {E : Type 0} (s : SignatureOf) (nodes : List Node) (t : Option Tree) (r : Result (Option Kept) E) → IfOk r (λ o. IfSome o (λ k. With t (IsKeptFor s nodes k))) → IfOk r (λ o. IfSome o (IsOne s nodes))
one_over s nodes t (Ok (Some k)) h = one_of s nodes k t h
one_over s nodes t (Ok None) h = tt
one_over s nodes t (Err e) h = tt
