-- What a world's handles stand for, and what its calls say of them.
use Rattle.std.specs.Prelude.{◌≡◌, ℕ, suc, ◌^◌, ◌-◌, ◌⊎◌, ◌<◌, min, List, [], ◌∷◌, map, drop, Bool, true, false, Option, Some, None, is_some, if◌then◌else◌}
use Rattle.mau_terms.specs.Tree.{Tree, variable, numeral, apply}
use Rattle.mau_terms.specs.Norm.{norm}
use Rattle.mau_terms.specs.Subst.{Variable, variables, instance}
use Rattle.mau_terms.specs.Finite.{IsIn}
use Rattle.mau_terms.specs.declared.ids.TermId.{TermId}
use Rattle.mau_evaluation.specs.Run.{End, Outcome, done, ended, Run, stopped, too_deep, overflowed, gives, ends, and_try, first_of, where_true}
use Rattle.mau_evaluation.specs.Program.{Fragment, equals, matches, has_sort, reaches, Membership, Program}
use Rattle.mau_evaluation.specs.Listing.{keep, solutions, kind_at}
use Rattle.mau_evaluation.specs.Evaluation.{Binding, look_up, binds, extend, agree, has_number, have_sorts, levels, eval, solve, own_and_after, solve_after, settle, applied}
use Rattle.mau_signature.specs.Signature.{theory_at}
use Rattle.mau_formula.specs.Operator.{Operator}
use Rattle.mau_program.specs.declared.program.Program as Written
use Rattle.mau_program.specs.declared.statements.Fragment as WrittenFragment
use Rattle.mau_api.specs.Programs.{fragment_of}
use Rattle.mau_api.specs.declared.results.EvalEnd.{EvalEnd}
use Rattle.mau_api.specs.declared.results.EvalEnd.TheVariants.{Stopped, TooDeep, Overflow, NoMemory}
use Rattle.mau_machine.specs.declared.goal.Goal.{Goal}
use Rattle.mau_machine.specs.declared.goal.Goal.TheVariants as Goals

-- ---- outcomes as they are answered

abbrev pub greatest_count : ℕ
greatest_count = 2 ^ 64 - 1

-- with the count as it is shown
abbrev pub capped : {A : Type 0} → Outcome A → Outcome A
capped (done x r b) = done x (min r greatest_count) b
capped (ended e) = ended e

-- the outcome is this end; want of memory says nothing
abbrev pub IsEnd : {A : Type 0} → Outcome A → EvalEnd → Type 0
IsEnd o Stopped = o ≡ ended stopped
IsEnd o TooDeep = o ≡ ended too_deep
IsEnd o Overflow = o ≡ ended overflowed
IsEnd o NoMemory = Unit {0}

-- ---- what comes of more levels

-- A sort that is kept was derived by some number of levels, and by fewer it may be too deep. So a computation that goes by kept sorts is right from some
-- number of levels on. Where nothing is derived it is right by each number.

-- no membership of the program is executable
abbrev pub DerivesNone : Program → Type 0
DerivesNone P = (x : Membership) → IsIn x P.memberships → x.exec ≡ true → ⊥

-- f and g are computed by a number of levels. By each number f gives what g gives; or, by fewer than some number, it is too deep
pub record LeadsTo {A : Type 0} (P : Program) (f g : ℕ → Run A) : Type 0 where
  pub enough : ℕ
  pub just : DerivesNone P → enough ≡ 0
  pub leads : (k b : ℕ) → (f k b ≡ g k b) ⊎ ((k < enough) × (f k b ≡ ended too_deep))

-- f gives x, counts nothing and leaves the budget
abbrev pub IsKnownBy : {A : Type 0} → Program → (ℕ → Run A) → A → Type 0
IsKnownBy P f x = LeadsTo P f (λ k. gives x)

-- f ends so, by each number of levels, or by fewer than some number it is too deep; want of memory says nothing
abbrev pub EndsBy : {A : Type 0} → Program → (ℕ → Run A) → EvalEnd → Type 0
EndsBy P f Stopped = LeadsTo P f (λ k. ends stopped)
EndsBy P f TooDeep = LeadsTo P f (λ k. ends too_deep)
EndsBy P f Overflow = LeadsTo P f (λ k. ends overflowed)
EndsBy P f NoMemory = Unit {0}

-- where g ends, f ends so too; or, by fewer levels than some number, it is too deep
pub record EndsWhere {A B : Type 0} (P : Program) (f : ℕ → Run A) (g : ℕ → Outcome B) : Type 0 where
  pub enough : ℕ
  pub just : DerivesNone P → enough ≡ 0
  pub ends : (k b : ℕ) (e : End) → g k ≡ ended e → (f k b ≡ ended e) ⊎ ((k < enough) × (f k b ≡ ended too_deep))

-- f is what comes of a number of levels more than those at hand: the outcome o, with the count as it is shown; or, by fewer than some number, it is too deep
pub record Comes {A : Type 0} (P : Program) (f : ℕ → Outcome A) (o : Outcome A) : Type 0 where
  pub enough : ℕ
  pub just : DerivesNone P → enough ≡ 0
  pub comes : (n : ℕ) → (capped (f n) ≡ o) ⊎ ((n < enough) × (f n ≡ ended too_deep))

-- f ends so: too deep it is by the levels at hand
abbrev pub ComesToEnd : {A : Type 0} → Program → (ℕ → Outcome A) → EvalEnd → Type 0
ComesToEnd P f Stopped = Comes P f (ended stopped)
ComesToEnd P f TooDeep = f 0 ≡ ended too_deep
ComesToEnd P f Overflow = Comes P f (ended overflowed)
ComesToEnd P f NoMemory = Unit {0}

-- ---- what a world goes by

-- no call changes it
pub record Rules : Type 0 where
  pub program : Program
  -- the budget of each condition of a membership
  pub limit : ℕ
  -- the condition that has a number: that of a candidate or of a membership, or one that is asked
  pub cond : ℕ → List Fragment
  -- the same as they are written, by which steps are told
  pub written : Written.Program
  pub hooks : List Operator
  pub fragments : ℕ → List WrittenFragment.Fragment
  pub is_cond : (e : ℕ) → cond e ≡ map fragment_of (fragments e)
  pub is_theory : program.sign.theory ≡ theory_at written.sig

-- What handles stand for in a state, and which of them are known there. A, C, S and D are the types of handles of candidates, of solutions of fragments,
-- of bindings, and of settlings.
pub record Words (A C S D : Type 0) : Type 1 where
  pub rules : Rules
  -- terms
  pub tree : ℕ → Tree
  pub knows_term : ℕ → Type 0
  -- the term is known, and so are its sorts, those of all below it, and those of the identities
  pub knows_value : ℕ → Type 0
  -- the terms are known, and the operator f may be built over them
  pub knows_operands : (f : ℕ) → List TermId → Type 0
  -- the values of variables
  pub bound : S → Binding
  -- σ is a binding for the condition e, from its fragment i on
  pub knows_binding : (e i : ℕ) → S → Type 0
  -- σ has values of variables: a condition may be solved behind it, where it is a solution of that
  pub knows_last : S → Type 0
  -- the sorts of the term t are being settled
  pub knows_settling : (t : ℕ) → D → Type 0
  -- and the condition e has to be solved next, where σ has the values of its variables
  pub knows_asking : (t e : ℕ) (σ : Binding) → D → Type 0
  -- what the candidates give that are left, by k levels
  pub untried : A → (k : ℕ) → Run (Option Tree)
  -- they are candidates for an application at the top of the term t
  pub knows_attempts : (t : ℕ) → A → Type 0
  -- what the last candidate makes of that term
  pub makes : A → Binding → Tree
  -- the last candidate is one for the term t, and has the condition e
  pub knows_candidate : (t e : ℕ) → A → Type 0
  -- what the solutions give that are left, at the fragment i of the condition e, by k levels
  pub unchosen : C → (k e i : ℕ) → Run (Option Binding)
  pub knows_choices : (e i : ℕ) → C → Type 0
  -- the binding and the value with which the solutions began
  pub chosen_from : C → Binding
  pub chosen_value : C → Tree

-- what is known in a state is known in a later one, and stands for the same
pub record Keeps {A C S D : Type 0} (w w' : Words A C S D) : Type 0 where
  pub rules : w'.rules ≡ w.rules
  pub terms : (t : ℕ) → w.knows_term t → w'.knows_term t × (w'.tree t ≡ w.tree t)
  pub values : (t : ℕ) → w.knows_value t → w'.knows_value t × (w'.tree t ≡ w.tree t)
  pub operands : (f : ℕ) (ts : List TermId) → w.knows_operands f ts → w'.knows_operands f ts × (map (λ t. w'.tree t.0) ts ≡ map (λ t. w.tree t.0) ts)
  pub bindings : (e i : ℕ) (σ : S) → w.knows_binding e i σ → w'.knows_binding e i σ × (w'.bound σ ≡ w.bound σ)
  pub lasts : (σ : S) → w.knows_last σ → w'.knows_last σ × (w'.bound σ ≡ w.bound σ)
  pub settlings : (t : ℕ) (d : D) → w.knows_settling t d → w'.knows_settling t d
  pub askings : (t e : ℕ) (σ : Binding) (d : D) → w.knows_asking t e σ d → w'.knows_asking t e σ d
  pub attempts : (t : ℕ) (a : A) → w.knows_attempts t a → w'.knows_attempts t a × ((k b : ℕ) → w'.untried a k b ≡ w.untried a k b)
  pub candidates : (t e : ℕ) (a : A) → w.knows_candidate t e a → w'.knows_candidate t e a × ((σ : Binding) → w'.makes a σ ≡ w.makes a σ)
  pub choices : (e i : ℕ) (c : C) → w.knows_choices e i c → w'.knows_choices e i c × ((k b : ℕ) → w'.unchosen c k e i b ≡ w.unchosen c k e i b)
  pub chosen : (e i : ℕ) (c : C) → w.knows_choices e i c → (w'.chosen_from c ≡ w.chosen_from c) × (w'.chosen_value c ≡ w.chosen_value c)

-- ---- bindings

-- what σ binds has the same value in τ
abbrev pub IsExtension : Binding → Binding → Type 0
IsExtension σ τ = (x : Variable) → binds σ x ≡ true → (binds τ x ≡ true) × (look_up τ x ≡ look_up σ x)

-- ---- fragments

-- what a fragment asks; nothing behind the last one
abbrev pub goal_of : List Fragment → Goal
goal_of [] = Goals.Nothing
goal_of (equals t u ∷ c) = Goals.Equality
goal_of (matches p u ∷ c) = Goals.Matching
goal_of (has_sort t s ∷ c) = Goals.Sort
goal_of (reaches t u ∷ c) = Goals.Reaching

-- a fragment of that kind has a left or a right side that is evaluated
abbrev pub HasSideBy : Bool → Goal → Type 0
HasSideBy right Goals.Nothing = ⊥
HasSideBy right Goals.Equality = Unit {0}
HasSideBy right Goals.Sort = right ≡ false
HasSideBy right Goals.Matching = right ≡ true
HasSideBy right Goals.Reaching = ⊥

-- the left or the right side of the first fragment; p := u and t : s have one that is evaluated
abbrev pub side_by : Bool → List Fragment → Tree
side_by right [] = numeral 0
side_by right (equals t u ∷ c) = if right then u else t
side_by right (matches p u ∷ c) = u
side_by right (has_sort t s ∷ c) = t
side_by right (reaches t u ∷ c) = t

abbrev pub sort_in : List Fragment → ℕ
sort_in [] = 0
sort_in (equals t u ∷ c) = 0
sort_in (matches p u ∷ c) = 0
sort_in (has_sort t s ∷ c) = s
sort_in (reaches t u ∷ c) = 0

abbrev pub pattern_in : List Fragment → Tree
pattern_in [] = numeral 0
pattern_in (equals t u ∷ c) = t
pattern_in (matches p u ∷ c) = p
pattern_in (has_sort t s ∷ c) = t
pattern_in (reaches t u ∷ c) = t

-- ---- what k levels give

module _ (R : Rules) where
  -- the condition e from its fragment i on
  abbrev pub rest_of : ℕ → ℕ → List Fragment
  rest_of e i = drop i (R.cond e)

  abbrev pub eval_on : ℕ → Tree → Run Tree
  eval_on k t = eval R.program k R.limit t

  abbrev pub sorts_on : ℕ → Tree → Run (List ℕ)
  sorts_on k t = (levels R.program R.limit k).sorts t

  abbrev pub solve_on : ℕ → ℕ → ℕ → Binding → Run (Option Binding)
  solve_on k e i σ = solve R.program (levels R.program R.limit k) (rest_of e i) σ

  -- the fragments c by k levels: their first solution, or the first one behind another
  abbrev pub solved_from : Option Binding → ℕ → List Fragment → Binding → Run (Option Binding)
  solved_from None k c σ = solve R.program (levels R.program R.limit k) c σ
  solved_from (Some last) k c σ = solve_after R.program (levels R.program R.limit k) last c σ

  -- those of the condition e from its fragment i on
  abbrev pub solve_from : Option Binding → ℕ → ℕ → ℕ → Binding → Run (Option Binding)
  solve_from last k e i σ = solved_from last k (rest_of e i) σ

  abbrev pub settle_on : ℕ → Tree → Run (List ℕ)
  settle_on k t = settle R.program (levels R.program R.limit k) (sorts_on (suc k)) t

  abbrev pub applied_on : ℕ → Tree → Run (Option Tree)
  applied_on k t = applied R.program (levels R.program R.limit k) (sorts_on (suc k)) t

  -- what the fragment p := u at i gives, where u has the value v
  abbrev pub choose_from : ℕ → ℕ → ℕ → Binding → Tree → Run (Option Binding)
  choose_from k e i σ v =
      let p = pattern_in (rest_of e i) in
      first_of (λ x. and_try (have_sorts (sorts_on k) (variables p) x.values) λ ok. where_true ok (solve_on k e (suc i) (extend σ (variables p) x.values)))
      (keep (λ x. agree R.program.sign.theory σ (variables p) x.values) (solutions R.program.sign p v))

  -- the same behind the solution `last`
  abbrev pub choose_after : Binding → ℕ → ℕ → ℕ → Binding → Tree → Run (Option Binding)
  choose_after last k e i σ v =
      let p = pattern_in (rest_of e i) in
      own_and_after R.program (levels R.program R.limit k) (λ x. agree R.program.sign.theory last (variables p) x.values)
      (λ x. and_try (have_sorts (sorts_on k) (variables p) x.values) λ ok. where_true ok (solve_from (Some last) k e (suc i) (extend σ (variables p) x.values)))
      (λ x. and_try (have_sorts (sorts_on k) (variables p) x.values) λ ok. where_true ok (solve_on k e (suc i) (extend σ (variables p) x.values)))
      (keep (λ x. agree R.program.sign.theory σ (variables p) x.values) (solutions R.program.sign p v))

  -- the fragment at i asks this
  abbrev pub Asks : ℕ → ℕ → Goal → Type 0
  Asks e i g = g ≡ goal_of (rest_of e i)

  -- it has that side
  abbrev pub HasSide : ℕ → ℕ → Bool → Type 0
  HasSide e i right = HasSideBy right (goal_of (rest_of e i))

  -- it tests its values and binds nothing
  abbrev pub PassesOn : ℕ → ℕ → Type 0
  PassesOn e i = (Asks e i Goals.Equality) ⊎ (Asks e i Goals.Sort)

  -- a side of it, under a binding
  abbrev pub side_of : ℕ → ℕ → Bool → Binding → Tree
  side_of e i right σ = instance (look_up σ) (side_by right (rest_of e i))

  -- v's sorts are known, and the answer says whether the fragment's is among them
  abbrev pub IsSorted : ℕ → ℕ → Tree → Bool → Type 0
  IsSorted e i v has = (ss : List ℕ) × IsKnownBy R.program (λ k. sorts_on k v) ss × (has_number ss (sort_in (rest_of e i)) ≡ has)

  -- t's sorts and those of the identities are known
  abbrev pub IsSettled : Tree → Type 0
  IsSettled t = (ss : List ℕ) × IsKnownBy R.program (λ k. settle_on k t) ss

  -- by some number of levels, with a budget of its own, the condition e has a solution, or has none
  pub record IsAnswered (e : ℕ) (σ : Binding) (holds : Bool) : Type 0 where
    pub levels : ℕ
    pub solution : Option Binding
    pub count : ℕ
    pub left : ℕ
    pub was : solve_on levels e 0 σ R.limit ≡ done solution count left
    pub is : is_some solution ≡ holds

-- a numeral or a variable
abbrev pub IsLeaf : Tree → Type 0
IsLeaf (variable i s) = Unit {0}
IsLeaf (numeral n) = Unit {0}
IsLeaf (apply f ts) = ⊥

module _ {A C S D : Type 0} (w : Words A C S D) where
  abbrev pub trees : List TermId → List Tree
  trees ids = map (λ t. w.tree t.0) ids

  -- the kind of a term, by its top
  abbrev pub kind_of : ℕ → Option ℕ
  kind_of t = kind_at w.rules.program.sign (w.tree t)

  -- nothing is tried yet at the top of t, whose sorts are known
  abbrev pub IsUntried : Tree → A → Type 0
  IsUntried t a = IsSettled w.rules t × ((k b : ℕ) → w.untried a k b ≡ applied_on w.rules k t b)

  -- nothing is chosen yet at the fragment p := u, where u has the value v
  abbrev pub IsUnchosen : ℕ → ℕ → Binding → Tree → C → Type 0
  IsUnchosen e i σ v c = (k b : ℕ) → w.unchosen c k e i b ≡ choose_from w.rules k e i σ v b

  -- σ is a binding for which all of the condition e is solved
  abbrev pub IsSolution : ℕ → S → Type 0
  IsSolution e σ = (i : ℕ) × w.knows_binding e i σ × Asks w.rules e i Goals.Nothing

  -- τ goes on from the binding with which the solutions of the fragment p := u began, and by it, whatever else is bound, p has the value of u
  abbrev pub IsChoiceOf : ℕ → ℕ → C → Binding → Type 0
  IsChoiceOf e i c τ = IsExtension (w.chosen_from c) τ
      × ((υ : Binding) → IsExtension τ υ → norm w.rules.program.sign.theory (instance (look_up υ) (pattern_in (rest_of w.rules e i))) ≡ w.chosen_value c)
