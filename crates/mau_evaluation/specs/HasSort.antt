-- The sorts of a normal form as finite derivations: by declarations, and by memberships whose conditions hold. (Sorts by further axioms:
-- J. Meseguer, "Membership algebra as a logical framework for equational specification", WADT 1997.)
use Rattle.std.specs.Prelude.{◌≡◌, ℕ, ◌≤◌, List, [], ◌∷◌, map, true, false, Option, None}
use Rattle.mau_terms.specs.Tree.{Tree, variable, numeral, apply, Trees, list_of}
use Rattle.mau_terms.specs.Norm.{norm}
use Rattle.mau_terms.specs.Bare.{IsBare, IsLawful}
use Rattle.mau_terms.specs.Subst.{variables}
use Rattle.mau_terms.specs.Finite.{IsIn}
use Rattle.mau_terms.specs.declared.theory.Theory.{Theory}
use Rattle.mau_evaluation.specs.Run.{Run}
use Rattle.mau_evaluation.specs.Program.{Fragment, Membership, Program}
use Rattle.mau_evaluation.specs.Listing.{Solution, solutions}
use Rattle.mau_evaluation.specs.Evaluation.{Binding, binding_of, size, sorts_in, sorts_of, sorts_at, solve_at}
use Rattle.mau_evaluation.specs.Laws.{Comes, IsYes}

-- the sort of each variable of p, by first occurrence
abbrev pub variable_sorts : Tree → List (List ℕ)
variable_sorts p = map (λ y. y.1 ∷ []) (variables p)

mutual
  -- the normal form t has the sort r: an element of this type is a finite derivation of it. With a sort a term has all that stand above it
  pub data HasSort (P : Program) : Tree → ℕ → Type 0 where
    of_variable : (i s r : ℕ) → IsIn r (P.above s) → HasSort P (variable i s) r
    of_numeral : (n r : ℕ) → IsIn r (P.numeral_sorts n) → HasSort P (numeral n) r
    -- the arguments have these sorts, and over them the declarations of f give r
    by_declaration : (f : ℕ) (ts : Trees) (sorts : List (List ℕ)) (r : ℕ) → HaveThese P (list_of ts) sorts → IsIn r (P.declared f sorts) → HasSort P (apply f ts) r
    -- t is an instance of the head of an executable membership, the values have their variables' sorts, and the condition holds for some limits
    by_membership : (m : Membership) (t : Tree) (x : Solution) (r : ℕ) → IsIn m P.memberships → m.exec ≡ true → IsIn x (solutions P.sign m.left t) →
        HaveThese P x.values (variable_sorts m.left) → IsYes (λ k B. solve_at P k B m.cond (binding_of m.left x)) →
        IsIn r (P.above m.sort) → HasSort P t r

  -- each of the terms has all the sorts that stand in its place
  pub data HaveThese (P : Program) : List Tree → List (List ℕ) → Type 0 where
    none_left : HaveThese P [] []
    next_term : (t : Tree) (ts : List Tree) (sorts : List (List ℕ)) → HaveThese P ts sorts → HaveThese P (t ∷ ts) ([] ∷ sorts)
    next_sort : (t : Tree) (ts : List Tree) (r : ℕ) (rs : List ℕ) (sorts : List (List ℕ)) → HasSort P t r → HaveThese P (t ∷ ts) (rs ∷ sorts) →
        HaveThese P (t ∷ ts) ((r ∷ rs) ∷ sorts)

-- ---- what accepted modules have, and without which derivations might give more than is computed

-- the normal form of a head is an operator over arguments that isn't associative, has no identity and isn't the successor
abbrev pub IsHead : (ℕ → Theory) → Tree → Type 0
IsHead th (variable i s) = ⊥
IsHead th (numeral n) = ⊥
IsHead th (apply f ts) = ((th f).assoc ≡ false) × ((th f).id ≡ None) × ((th f).succ ≡ false)

pub record HasHeads (P : Program) : Type 0 where
  pub signature : IsLawful P.sign
  pub bare : (m : Membership) → IsIn m P.memberships → IsBare P.sign m.left
  pub head : (m : Membership) → IsIn m P.memberships → IsHead P.sign.theory (norm P.sign.theory m.left)

-- in each place there are at least these sorts
abbrev pub AreAmong : List (List ℕ) → List (List ℕ) → Type 0
AreAmong [] [] = Unit {0}
AreAmong [] (rs ∷ more) = ⊥
AreAmong (ss ∷ sorts) [] = ⊥
AreAmong (ss ∷ sorts) (rs ∷ more) = ((r : ℕ) → IsIn r ss → IsIn r rs) × AreAmong sorts more

-- where the arguments have more sorts, declarations give no fewer
abbrev pub DeclaredGrow : Program → Type 0
DeclaredGrow P = (f : ℕ) (sorts more : List (List ℕ)) → AreAmong sorts more → (r : ℕ) → IsIn r (P.declared f sorts) → IsIn r (P.declared f more)

-- ---- the laws

-- where the sorts of a term are known, each of them has a derivation, in any program
abbrev pub KnownSortsAreDerived : Type 0
KnownSortsAreDerived = (P : Program) (t : Tree) (ss : List ℕ) (q : ℕ) → Comes (λ k B. sorts_at P k B t) ss q → (r : ℕ) → IsIn r ss → HasSort P (norm P.sign.theory t) r

-- and each sort that has a derivation is one of them
abbrev pub DerivedSortsAreKnown : Type 0
DerivedSortsAreKnown = (P : Program) → HasHeads P → DeclaredGrow P → (t : Tree) (ss : List ℕ) (q : ℕ) → Comes (λ k B. sorts_at P k B t) ss q → (r : ℕ) → HasSort P (norm P.sign.theory t) r → IsIn r ss

-- sorts are computed by at most n terms, each smaller than the one before, and any n from the size of the term on gives the same
abbrev pub FuelIsEnough : Type 0
FuelIsEnough = (P : Program) → HasHeads P → (B : ℕ) (ask : List Fragment → Binding → Run (Option Binding)) (n : ℕ) (t : Tree) (b : ℕ) → size t ≤ n → sorts_in P B ask n t b ≡ sorts_of P B ask t b
