-- Conditions as they are written.
use Rattle.std.proofs.Common.{◌≡◌, ◌==◌, ◌+◌, ◌-◌, ◌<◌, ◌≤◌, nat_lt, IfSome, ℕ, zero, suc, length, arith, eqb-true, eq-eqb, if◌then◌else◌, List, [], ◌∷◌, All, Bool, true, false, Option, Some, None, map, drop, slice_get, refl, sym, ap, ◌∙◌, subst}
use Rattle.std.specs.Option.{option_map}
use Rattle.std.proofs.lemmas.Option.{slice_get-map, slice_get_past, slice_get_within, get_or_from_slice_get}
use Rattle.std.proofs.lemmas.Bool.{lt-ltb, le-ltb}
use Rattle.mau_terms.specs.Bare.{IsBare}
use Rattle.mau_terms.specs.Subst.{variables}
use Rattle.mau_terms.specs.View.{tree_of}
use Rattle.mau_terms.specs.declared.bare.Bare.{Bare}
use Rattle.mau_signature.specs.Signature.{SignatureOf, terms_over}
use Rattle.mau_program.specs.declared.program.Program as Typed
use Rattle.mau_program.specs.declared.statements.Equation.{Equation}
use Rattle.mau_program.specs.declared.statements.Membership.{Membership}
use Rattle.mau_program.specs.declared.statements.Fragment as Written
use Rattle.mau_program.specs.declared.statements.Fragment.TheVariants.{Equal, Match, Sort, Reach}
use Rattle.mau_formula.specs.Operator.{Operator}
use Rattle.mau_api.specs.Programs.{program_over, equation_of, fragment_of}
use Rattle.mau_reduce.specs.Attempting.{cond_in, cond_at}
use Rattle.mau_program.specs.LawfulStatements.{IsLawfulFragment, IsLawfulEquation, IsLawfulMembership}
use Rattle.mau_evaluation.specs.Program as Evaluated
use Rattle.mau_machine.specs.declared.goal.Goal.TheVariants as Goals
use Rattle.mau_machine.specs.Words.{goal_of, HasSideBy, side_by, pattern_in, sort_in, rest_of, Asks, HasSide}
use Rattle.mau_signature.specs.Faults.{IsSort}
use Rattle.mau_api.specs.Answers.{IsFragment}
use Rattle.mau_reducer.specs.Basis.{Basis, IsBasis}
use Rattle.mau_reducer.specs.Handles.{written_in, membership_numbered, cond_of, other_by, written_by, written_at, first_in, variables_of_head, first_other, first_at, side_written, pattern_written, sort_written, rules_of, goal_in}
use Rattle.mau_reducer.specs.Fragments.{rest_is}

-- ---- the same condition

condition_in : (o : Option Equation) → cond_in (option_map equation_of o) ≡ map fragment_of (written_in [] o)
condition_in (Some e) = refl
condition_in None = refl

condition_of : (p : Typed.Program) (hooks : List Operator) (e : ℕ) → cond_at (program_over p hooks) e ≡ map fragment_of (written_in [] (slice_get p.equations e))
condition_of p hooks e = ap cond_in (slice_get-map equation_of p.equations e) ∙ condition_in (slice_get p.equations e)

not_equal : (a b : ℕ) → (a ≡ b → ⊥) → (a == b) ≡ false
not_equal a b apart = by (a == b) refl
  where
    by : (w : Bool) → (a == b) ≡ w → w ≡ false
    by false q = refl
    by true q = absurd (apart (eqb-true a b q))

-- it is none that is asked
pub not_asked : (n e : ℕ) → e ≤ n → (e == suc n) ≡ false
not_asked n e h = not_equal e (suc n) (λ k. omega (arith, k, h))

-- the one that is asked
pub asked_other : (p : Typed.Program) (asked : List Written.Fragment) (e : ℕ) → e ≡ suc (length p.equations) → other_by p asked e ≡ asked
asked_other p asked e h = ap (λ w. if w then asked else cond_of (membership_numbered p e)) (eq-eqb e (suc (length p.equations)) h)

-- those of memberships
pub member_other : (p : Typed.Program) (asked : List Written.Fragment) (e : ℕ) → suc (length p.equations) < e → other_by p asked e ≡ cond_of (slice_get p.memberships (e - suc (suc (length p.equations))))
member_other p asked e h =
    ap (λ w. if w then asked else cond_of (membership_numbered p e)) (not_equal e (suc (length p.equations)) (λ k. omega (arith, k, h)))
    ∙ ap (λ w. cond_of (if w then slice_get p.memberships (e - suc (suc (length p.equations))) else None)) (lt-ltb (suc (length p.equations)) e h)

-- nor that of a membership
pub none_numbered : (p : Typed.Program) (e : ℕ) → e ≤ suc (length p.equations) → membership_numbered p e ≡ None
none_numbered p e h = ap (λ w. if w then slice_get p.memberships (e - suc (suc (length p.equations))) else None) (le-ltb (suc (length p.equations)) e h)

pub no_other : (p : Typed.Program) (asked : List Written.Fragment) (e : ℕ) → e ≤ length p.equations → other_by p asked e ≡ []
no_other p asked e h =
    ap (λ w. if w then asked else cond_of (membership_numbered p e)) (not_asked (length p.equations) e h)
    ∙ ap cond_of (none_numbered p e (omega (arith, h)))

pub no_first : (b : Basis) (e : ℕ) → e ≤ length b.program.equations → first_other b e ≡ []
no_first b e h =
    ap (λ w. if w then b.asked_under else variables_of_head (membership_numbered b.program e)) (not_asked (length b.program.equations) e h)
    ∙ ap variables_of_head (none_numbered b.program e (omega (arith, h)))

-- that of the membership at a place
module _ (p : Typed.Program) (at : ℕ) (m : Membership) (there : slice_get p.memberships at ≡ Some m) (e : ℕ) (is : e ≡ suc (suc (length p.equations)) + at) where
  not_the_asked : (e == suc (length p.equations)) ≡ false
  not_the_asked = not_equal e (suc (length p.equations)) (λ k. omega (arith, k, is))

  pub is_numbered : membership_numbered p e ≡ Some m
  is_numbered =
      let place : e - suc (suc (length p.equations)) ≡ at = omega (arith, is) in
      ap (λ w. if w then slice_get p.memberships (e - suc (suc (length p.equations))) else None) (lt-ltb (suc (length p.equations)) e (omega (arith, is)))
      ∙ (ap (slice_get p.memberships) place ∙ there)

  pub no_equation : slice_get p.equations e ≡ None
  no_equation = slice_get_past p.equations e (omega (arith, is))

  pub written_of_member : (asked : List Written.Fragment) → written_by p asked e ≡ m.cond
  written_of_member asked =
      ap (written_in (other_by p asked e)) no_equation
      ∙ (ap (λ w. if w then asked else cond_of (membership_numbered p e)) not_the_asked ∙ ap cond_of is_numbered)

  pub first_of_member : (b : Basis) → b.program ≡ p → first_at b e ≡ variables (tree_of m.left)
  first_of_member b same =
      let none : slice_get b.program.equations e ≡ None = ap (λ (q : Typed.Program). slice_get q.equations e) same ∙ no_equation in
      let not_it : (e == suc (length b.program.equations)) ≡ false = ap (λ (q : Typed.Program). e == suc (length q.equations)) same ∙ not_the_asked in
      let numbered : membership_numbered b.program e ≡ Some m = ap (λ (q : Typed.Program). membership_numbered q e) same ∙ is_numbered in
      ap (first_in (first_other b e)) none
      ∙ (ap (λ w. if w then b.asked_under else variables_of_head (membership_numbered b.program e)) not_it ∙ ap variables_of_head numbered)

pub condition_is : (b : Basis) (e : ℕ) → e ≤ length b.program.equations → cond_at (program_over b.program b.hooks) e ≡ map fragment_of (written_at b e)
condition_is b e h =
    condition_of b.program b.hooks e
    ∙ ap (λ fs. map fragment_of (written_in fs (slice_get b.program.equations e))) (sym (no_other b.program b.asked e h))

-- ---- what the next fragment asks

pub goal_is : (fs : List Written.Fragment) (i : ℕ) → goal_in (slice_get fs i) ≡ goal_of (drop i (map fragment_of fs))
goal_is [] zero = refl
goal_is [] (suc i) = refl
goal_is (Equal t u ∷ fs) zero = refl
goal_is (Match t u ∷ fs) zero = refl
goal_is (Sort t s ∷ fs) zero = refl
goal_is (Reach t u ∷ fs) zero = refl
goal_is (f ∷ fs) (suc i) = goal_is fs i

-- ---- the fragment at a place

pub at_place : {A : Type 0} (P : A → Type 0) (xs : List A) → All P xs → (i : ℕ) (x : A) → slice_get xs i ≡ Some x → P x
at_place P xs all i x e = subst P (get_or_from_slice_get xs i x x e) (all i x (slice_get_within xs i x e))

pub from_place : {A : Type 0} (xs : List A) (i : ℕ) (x : A) → slice_get xs i ≡ Some x → drop i xs ≡ x ∷ drop (suc i) xs
from_place [] i x e = cc
from_place (y ∷ xs) zero x e = let same : y ≡ x = cc in ap (λ z. z ∷ xs) same
from_place (y ∷ xs) (suc i) x e = from_place xs i x e

-- its terms are bare, and what is tested is a sort or a kind; of one that is solved by rules nothing is asked
abbrev IsBuiltFragment : SignatureOf → Written.Fragment → Type 0
IsBuiltFragment s (Equal t u) = IsBare (terms_over s) (tree_of t) × IsBare (terms_over s) (tree_of u)
IsBuiltFragment s (Match p u) = IsBare (terms_over s) (tree_of p) × IsBare (terms_over s) (tree_of u)
IsBuiltFragment s (Sort t r) = IsBare (terms_over s) (tree_of t) × IsSort s.hierarchy r
IsBuiltFragment s (Reach t u) = Unit {0}

asked_built : (s : SignatureOf) (f : Written.Fragment) → IsFragment s f → IsBuiltFragment s f
asked_built s (Equal t u) h = h
asked_built s (Match p u) h = h
asked_built s (Sort t r) h = h
asked_built s (Reach t u) h = tt

lawful_built : (s : SignatureOf) (f : Written.Fragment) → IsLawfulFragment s f → IsBuiltFragment s f
lawful_built s (Equal t u) h = ((h.kind, h.first), (h.kind, h.second))
lawful_built s (Match p u) h = ((h.kind, h.first), (h.kind, h.second))
lawful_built s (Sort t r) h = (h.0, let low : r < s.hierarchy.sorts = h.1 in omega (arith, low))
lawful_built s (Reach t u) h = tt

-- it is built as it may be
fragment_built : (b : Basis) → IsBasis b → (e i : ℕ) (f : Written.Fragment) → slice_get (written_at b e) i ≡ Some f → IsBuiltFragment b.program.sig f
fragment_built b is e i f h = by (slice_get b.program.equations e) refl (e == suc (length b.program.equations)) (membership_numbered b.program e) numbered h
  where
    numbered : (o : Option Membership) → membership_numbered b.program e ≡ o → IfSome o (λ m. (at : ℕ) × (slice_get b.program.memberships at ≡ Some m))
    numbered None q = tt
    numbered (Some m) q = which (nat_lt (suc (length b.program.equations)) e) q
      where
        which : (w : Bool) → (if w then slice_get b.program.memberships (e - suc (suc (length b.program.equations))) else None) ≡ Some m → (at : ℕ) × (slice_get b.program.memberships at ≡ Some m)
        which true k = (e - suc (suc (length b.program.equations)), k)
        which false k = absurd (cc k)

    of_member : (o : Option Membership) → IfSome o (λ m. (at : ℕ) × (slice_get b.program.memberships at ≡ Some m)) → slice_get (cond_of o) i ≡ Some f → IsBuiltFragment b.program.sig f
    of_member None there k = absurd (cc k)
    of_member (Some m) there k =
        lawful_built b.program.sig f
        (at_place (IsLawfulFragment b.program.sig) m.cond (at_place (IsLawfulMembership b.program.sig) b.program.memberships is.lawful.memberships there.0 m there.1).parts.condition i f k)

    by : (o : Option Equation) → slice_get b.program.equations e ≡ o → (w : Bool) (q : Option Membership) → ((z : Option Membership) → membership_numbered b.program e ≡ z → IfSome z (λ m. (at : ℕ) × (slice_get b.program.memberships at ≡ Some m))) →
        slice_get (written_in (if w then b.asked else cond_of (membership_numbered b.program e)) o) i ≡ Some f → IsBuiltFragment b.program.sig f
    by None d true q there k = asked_built b.program.sig f (at_place (IsFragment b.program.sig) b.asked is.askable.fragments i f k)
    by None d false q there k = of_member (membership_numbered b.program e) (there (membership_numbered b.program e) refl) k
    by (Some x) d w q there k =
        lawful_built b.program.sig f
        (at_place (IsLawfulFragment b.program.sig) x.cond (at_place (IsLawfulEquation b.program.sig) b.program.equations is.lawful.equations e x d).parts.condition i f k)

-- what it asks
module _ (b : Basis) (e i : ℕ) where
  abbrev here : Option Written.Fragment
  here = slice_get (written_at b e) i

  pub asked_is : goal_of (rest_of (rules_of b) e i) ≡ goal_in here
  asked_is = sym (goal_is (written_at b e) i)

  -- from it on
  pub rest_from : (f : Written.Fragment) → here ≡ Some f → rest_of (rules_of b) e i ≡ fragment_of f ∷ map fragment_of (drop (suc i) (written_at b e))
  rest_from f h = rest_is b e i ∙ ap (map fragment_of) (from_place (written_at b e) i f h)

  -- ---- sides

  -- such a side is there
  side_there : (right : Bool) (o : Option Written.Fragment) → HasSideBy right (goal_in o) → side_written right o ≡ None → ⊥
  side_there right None k n = k
  side_there right (Some (Equal t u)) k n = cc
  side_there right (Some (Match p u)) k n = cc
  side_there right (Some (Sort t s)) k n = cc
  side_there right (Some (Reach t u)) k n = k

  pub has_side : (right : Bool) → HasSide (rules_of b) e i right → side_written right here ≡ None → ⊥
  has_side right k n = side_there right here (subst (HasSideBy right) asked_is k) n

  -- it is the one that is evaluated
  side_in : (right : Bool) (o : Option Written.Fragment) (t : Bare) → side_written right o ≡ Some t → HasSideBy right (goal_in o) → (f : Written.Fragment) × (o ≡ Some f) × ((c : List Evaluated.Fragment) → side_by right (fragment_of f ∷ c) ≡ tree_of t)
  side_in right None t h k = cc
  side_in true (Some (Equal v u)) t h k = let same : u ≡ t = cc in (Equal v u, refl, λ c. ap tree_of same)
  side_in false (Some (Equal v u)) t h k = let same : v ≡ t = cc in (Equal v u, refl, λ c. ap tree_of same)
  side_in right (Some (Match p u)) t h k = let same : u ≡ t = cc in (Match p u, refl, λ c. ap tree_of same)
  side_in right (Some (Sort v s)) t h k = let same : v ≡ t = cc in (Sort v s, refl, λ c. ap tree_of same)
  side_in right (Some (Reach v u)) t h k = cc

  pub side_is : (right : Bool) (t : Bare) → side_written right here ≡ Some t → HasSide (rules_of b) e i right → side_by right (rest_of (rules_of b) e i) ≡ tree_of t
  side_is right t h k =
      let f = side_in right here t h (subst (HasSideBy right) asked_is k) in
      ap (side_by right) (rest_from f.0 f.1) ∙ f.2 (map fragment_of (drop (suc i) (written_at b e)))

  side_bare_of : (right : Bool) (o : Option Written.Fragment) (t : Bare) → side_written right o ≡ Some t → ((f : Written.Fragment) → o ≡ Some f → IsBuiltFragment b.program.sig f) → IsBare (terms_over b.program.sig) (tree_of t)
  side_bare_of right None t h lawful = absurd (cc h)
  side_bare_of true (Some (Equal v u)) t h lawful = let same : u ≡ t = cc in let l = lawful (Equal v u) refl in subst (λ z. IsBare (terms_over b.program.sig) (tree_of z)) same l.1
  side_bare_of false (Some (Equal v u)) t h lawful = let same : v ≡ t = cc in let l = lawful (Equal v u) refl in subst (λ z. IsBare (terms_over b.program.sig) (tree_of z)) same l.0
  side_bare_of right (Some (Match p u)) t h lawful = let same : u ≡ t = cc in let l = lawful (Match p u) refl in subst (λ z. IsBare (terms_over b.program.sig) (tree_of z)) same l.1
  side_bare_of right (Some (Sort v s)) t h lawful = let same : v ≡ t = cc in let l = lawful (Sort v s) refl in subst (λ z. IsBare (terms_over b.program.sig) (tree_of z)) same l.0
  side_bare_of right (Some (Reach v u)) t h lawful = absurd (cc h)

  pub side_bare : IsBasis b → (right : Bool) (t : Bare) → side_written right here ≡ Some t → IsBare (terms_over b.program.sig) (tree_of t)
  side_bare is right t h = side_bare_of right here t h (λ f d. fragment_built b is e i f d)

  -- ---- patterns

  pattern_there : (o : Option Written.Fragment) → Goals.Matching ≡ goal_in o → pattern_written o ≡ None → ⊥
  pattern_there None k n = cc
  pattern_there (Some (Equal t u)) k n = cc
  pattern_there (Some (Match p u)) k n = cc
  pattern_there (Some (Sort t s)) k n = cc
  pattern_there (Some (Reach t u)) k n = cc

  pub has_pattern : Asks (rules_of b) e i Goals.Matching → pattern_written here ≡ None → ⊥
  has_pattern k n = pattern_there here (k ∙ asked_is) n

  matched : (o : Option Written.Fragment) (p : Bare) → pattern_written o ≡ Some p → (u : Bare) × (o ≡ Some (Match p u))
  matched None p h = cc
  matched (Some (Equal t u)) p h = cc
  matched (Some (Match q u)) p h = let same : q ≡ p = cc in (u, ap (λ z. Some (Match z u)) same)
  matched (Some (Sort t s)) p h = cc
  matched (Some (Reach t u)) p h = cc

  pub pattern_at : (p : Bare) → pattern_written here ≡ Some p → (u : Bare) × (here ≡ Some (Match p u))
  pattern_at p h = matched here p h

  pub pattern_is : (p u : Bare) → here ≡ Some (Match p u) → pattern_in (rest_of (rules_of b) e i) ≡ tree_of p
  pattern_is p u h = ap pattern_in (rest_from (Match p u) h)

  pub pattern_bare : IsBasis b → (p u : Bare) → here ≡ Some (Match p u) → IsBare (terms_over b.program.sig) (tree_of p)
  pattern_bare is p u h = (fragment_built b is e i (Match p u) h).0

  -- ---- tested sorts

  sort_there : (o : Option Written.Fragment) → Goals.Sort ≡ goal_in o → sort_written o ≡ None → ⊥
  sort_there None k n = cc
  sort_there (Some (Equal t u)) k n = cc
  sort_there (Some (Match p u)) k n = cc
  sort_there (Some (Sort t s)) k n = cc
  sort_there (Some (Reach t u)) k n = cc

  pub has_sort_there : Asks (rules_of b) e i Goals.Sort → sort_written here ≡ None → ⊥
  has_sort_there k n = sort_there here (k ∙ asked_is) n

  tested : (o : Option Written.Fragment) (r : ℕ) → sort_written o ≡ Some r → (t : Bare) × (o ≡ Some (Sort t r))
  tested None r h = cc
  tested (Some (Equal t u)) r h = cc
  tested (Some (Match q u)) r h = cc
  tested (Some (Sort t s)) r h = let same : s ≡ r = cc in (t, ap (λ z. Some (Sort t z)) same)
  tested (Some (Reach t u)) r h = cc

  pub sort_at : (r : ℕ) → sort_written here ≡ Some r → (t : Bare) × (here ≡ Some (Sort t r))
  sort_at r h = tested here r h

  pub sort_is : (t : Bare) (r : ℕ) → here ≡ Some (Sort t r) → sort_in (rest_of (rules_of b) e i) ≡ r
  sort_is t r h = ap sort_in (rest_from (Sort t r) h)

  -- it is one of the signature
  pub sort_over : IsBasis b → (r : ℕ) → sort_written here ≡ Some r → IsSort b.program.sig.hierarchy r
  sort_over is r h = let t = sort_at r h in (fragment_built b is e i (Sort t.0 r) t.1).1

-- ---- behind the conditions of equations

pub asked_there : (p : Typed.Program) (asked : List Written.Fragment) (e : ℕ) → e ≡ suc (length p.equations) → other_by p asked e ≡ asked
asked_there p asked e is = ap (λ (w : Bool). if w then asked else cond_of (membership_numbered p e)) (eq-eqb e (suc (length p.equations)) is)

pub member_there : (p : Typed.Program) (asked : List Written.Fragment) (e : ℕ) → suc (length p.equations) < e → other_by p asked e ≡ cond_of (slice_get p.memberships (e - suc (suc (length p.equations))))
member_there p asked e low =
    ap (λ (w : Bool). if w then asked else cond_of (membership_numbered p e)) (by (e == suc (length p.equations)) refl)
    ∙ ap (λ (w : Bool). cond_of (if w then slice_get p.memberships (e - suc (suc (length p.equations))) else None)) (lt-ltb (suc (length p.equations)) e low)
  where
    by : (w : Bool) → (e == suc (length p.equations)) ≡ w → w ≡ false
    by false q = refl
    by true q = let k : e ≡ suc (length p.equations) = eqb-true e (suc (length p.equations)) q in absurd (omega (arith, k, low))
