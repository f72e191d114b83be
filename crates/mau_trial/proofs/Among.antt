-- Elements of a list, and numbers among others.
use Rattle.std.proofs.Common.{ℕ, zero, suc, List, [], ◌∷◌, All, Contains, map, subst, ap, arith}
use Rattle.std.proofs.lemmas.List.Elements.{All-nil, All-cons, All-head, All-tail}
use Rattle.mau_terms.specs.declared.ids.TermId.{TermId}
use Rattle.mau_store.specs.View.{numbers}

pub contains_none : {A : Type 0} (x : A) → Contains [] x → ⊥
contains_none x c = let lt = c.1 in omega arith

pub in_map : {A B : Type 0} (f : A → B) (x : A) (xs : List A) → Contains xs x → Contains (map f xs) (f x)
in_map f x [] c = let below = c.1 in absurd (omega arith)
in_map f x (z ∷ xs) (zero, h, e) = (zero, omega arith, ap f e)
in_map f x (z ∷ xs) (suc k, h, e) = let rest = in_map f x xs (k, omega arith, e) in let lt = rest.1 in (suc rest.0, omega arith, rest.2)

pub all_one : {A : Type 0} (P : A → Type 0) (xs : List A) (x : A) → All P xs → Contains xs x → P x
all_one P xs x all among = subst P among.2 (all among.0 x among.1)

numbers_at : (P : ℕ → Type 0) (ids : List TermId) (id : TermId) → All P (numbers ids) → Contains ids id → P id.0
numbers_at P [] id all among = absurd (contains_none id among)
numbers_at P (i ∷ ids) id all (zero, h, e) = subst (λ (j : TermId). P j.0) e (all zero 0 (omega arith))
numbers_at P (i ∷ ids) id all (suc k, h, e) = numbers_at P ids id (λ n d lt. all (suc n) d (omega (arith, lt))) (k, omega (arith, h), e)

-- what holds of some numbers holds of those of a list of them
pub numbers_among : (P : ℕ → Type 0) (ids l : List TermId) → All P (numbers ids) → All (Contains ids) l → All P (numbers l)
numbers_among P ids [] all among = All-nil P
numbers_among P ids (x ∷ xs) all among =
    All-cons P x.0 (numbers xs) (numbers_at P ids x all (All-head (Contains ids) x xs among)) (numbers_among P ids xs all (All-tail (Contains ids) x xs among))
