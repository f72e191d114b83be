-- The derivation of the sorts of a term f over ts whose arguments are settled: memberships one after another, the solutions of their heads one after another.
use Rattle.std.specs.Prelude.{◌≡◌, ◌↔◌, ◌≤◌, ℕ, List, [], ◌∷◌, ◌++◌, Bool, true, false, Some, map, take, length, slice_get}
use Rattle.mau_terms.specs.Tree.{Trees, apply}
use Rattle.mau_terms.specs.Subst.{variables}
use Rattle.mau_terms.specs.Finite.{IsIn}
use Rattle.mau_poset.specs.Order.{Hierarchy}
use Rattle.mau_sorts.specs.SortSets.{IsAbove}
use Rattle.mau_evaluation.specs.Program.{Fragment, Membership, Program}
use Rattle.mau_evaluation.specs.Listing.{Solution, keep, solutions}
use Rattle.mau_evaluation.specs.Evaluation.{Binding, extend, have_sorts, any, joined, by_membership, sizes, sorts_in}
use Rattle.mau_deriving.specs.Known.{IsKnownFrom, AreKnownFrom}
use Rattle.mau_deriving.specs.Answered.{WasAnswered}
use Rattle.mau_deriving.specs.Given.{asks_by}

-- the values of a solution of a head, as they are bound
abbrev pub head_binding : Membership → Solution → Binding
head_binding m x = extend [] (variables m.left) x.values

-- the sorts that are found, with one more where the membership holds
abbrev pub found_after : Bool → List ℕ → ℕ → List ℕ
found_after true found r = found ++ r ∷ []
found_after false found r = found

module _ (P : Program) (B : ℕ) where
  -- each was answered
  abbrev pub AreAnswered : List Fragment → List Binding → List Bool → Type 0
  AreAnswered c [] [] = Unit {0}
  AreAnswered c [] (b ∷ bs) = ⊥
  AreAnswered c (σ ∷ qs) [] = ⊥
  AreAnswered c (σ ∷ qs) (b ∷ bs) = WasAnswered P B c σ b × AreAnswered c qs bs

  module _ (f : ℕ) (ts : Trees) where
    -- the conditions of m that have to be asked, in order: one for each solution of its head whose values have their sorts
    pub record AreQuestions (m : Membership) (qs : List Binding) : Type 0 where
      pub test : Solution → Bool
      pub tells : (x : Solution) → IsIn x (solutions P.sign m.left (apply f ts)) →
          IsKnownFrom (λ j. have_sorts (sorts_in P B (asks_by P B j) (sizes ts)) (variables m.left) x.values) (test x)
      pub are : qs ≡ map (head_binding m) (keep test (solutions P.sign m.left (apply f ts)))

    -- the questions of a membership; of one that isn't executable there are none
    pub record AreOpen (m : Membership) (qs : List Binding) : Type 0 where
      pub executable : m.exec ≡ true → AreQuestions m qs
      pub others : m.exec ≡ false → qs ≡ []

    -- The memberships before the place `at` gave just the sorts at and above those that are found; the questions of the one there are `qs`, of which so many
    -- were answered, and `holds` says whether one of these holds.
    pub record IsDeriving (h : Hierarchy) (at asked : ℕ) (qs : List Binding) (holds : Bool) (found : List ℕ) : Type 0 where
      pub given : List (List ℕ)
      pub known : AreKnownFrom (λ j. by_membership P B (asks_by P B j) (sorts_in P B (asks_by P B j) (sizes ts)) (apply f ts)) (take at P.memberships) given
      pub exact : (r : ℕ) → IsIn r (joined given) ↔ IsAbove h found r
      pub opened : (m : Membership) → slice_get P.memberships at ≡ Some m → AreOpen m qs
      pub answers : List Bool
      pub answered : (m : Membership) → slice_get P.memberships at ≡ Some m → AreAnswered m.cond (take asked qs) answers
      pub is : any answers ≡ holds
      pub some : asked ≤ length qs
