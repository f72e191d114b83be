-- Equations by their numbers, tried one after another.
use Rattle.std.proofs.Common.{◌≡◌, ℕ, zero, suc, ◌+◌, ◌<◌, ◌≤◌, List, [], ◌∷◌, ◌++◌, map, drop, length, get_or, slice_get, Bool, true, false, ◌&&◌, not, if◌then◌else◌, Option, Some, None, IfOk, IfSome, IfNone, Result, Ok, Err, inl, inr, refl, sym, ap, ◌∙◌, subst, arith, zero-add}
use Rattle.std.specs.Option.{option_map}
use Rattle.std.proofs.Math.Seq.{drop-cons}
use Rattle.std.proofs.lemmas.Option.{slice_get-map, slice_get-get_or}
use Rattle.mau_terms.specs.Tree.{Tree}
use Rattle.mau_terms.specs.Finite.{IsIn}
use Rattle.mau_terms.specs.declared.ids.TermId.{TermId}
use Rattle.mau_formula.specs.Operator.{Operator}
use Rattle.mau_listing.specs.Finite.{comes_behind}
use Rattle.mau_program.specs.declared.program.Program as Typed
use Rattle.mau_program.specs.declared.statements.Equation as Written
use Rattle.mau_evaluation.specs.Run.{Outcome, done, ended, Run, gives, or_go_on, or_else, first_of, where_true}
use Rattle.mau_evaluation.specs.Program.{Equation, Program}
use Rattle.mau_evaluation.specs.Listing.{Solution, keep, compare, solutions_within}
use Rattle.mau_evaluation.specs.Evaluation.{levels, try_equation, by_equations}
use Rattle.mau_api.specs.Programs.{program_over, equation_of}
use Rattle.mau_store.specs.Node.{Node}
use Rattle.mau_sorts.specs.Table.{Table}
use Rattle.mau_listing.specs.Asked.{Asked}
use Rattle.mau_listing.specs.declared.solution.Solution as Given
use Rattle.mau_reduce.specs.Comes.{ComesTo}
use Rattle.mau_reduce.proofs.Comes.{comes_same, comes_from, comes_as, comes_through, comes_or, comes_passed}
use Rattle.mau_reduce.specs.Trying.{solution_in, solutions_behind, applied_by, candidate_gives, applied_one, applied_number, left_of_one, one_gives, left_of_number, left_of_all, left_by, number_gives, numbers_of, order_of_all, IsExecutable, IsTried, IsFound}

-- ---- at a place

pub equation_there : (p : Typed.Program) (hooks : List Operator) (i : ℕ) (e : Written.Equation) → slice_get p.equations i ≡ Some e → slice_get (program_over p hooks).equations i ≡ Some (equation_of e)
equation_there p hooks i e at = slice_get-map equation_of p.equations i ∙ ap (option_map equation_of) at

pub is_among : {A : Type 0} (xs : List A) (i : ℕ) (x : A) → slice_get xs i ≡ Some x → IsIn x xs
is_among [] i x e = cc
is_among (y ∷ xs) zero x e = let same : x ≡ y = cc in inl same
is_among (y ∷ xs) (suc i) x e = inr (is_among xs i x e)

pub in_equations : (p : Typed.Program) (i : ℕ) (e : Written.Equation) → slice_get p.equations i ≡ Some e → IsIn (equation_of e) (map equation_of p.equations)
in_equations p i e at = is_among (map equation_of p.equations) i (equation_of e) (slice_get-map equation_of p.equations i ∙ ap (option_map equation_of) at)

-- there is one at a number
pub one_at : {A : Type 0} (xs : List A) (i : ℕ) (x y : A) → slice_get xs i ≡ Some x → slice_get xs i ≡ Some y → x ≡ y
one_at xs i x y e k = cc

-- an executable one
pub exec_at : (p : Typed.Program) (i : ℕ) → IsExecutable p i → (e : Written.Equation) → slice_get p.equations i ≡ Some e → e.exec ≡ true
exec_at p i is e at = let same : is.equation ≡ e = cc in subst (λ (d : Written.Equation). d.exec ≡ true) same is.exec

-- one that is tried is executable
pub executable_of : (c : Bool) (p : Typed.Program) (nodes : List Node) (table : Table) (term : TermId) (i : ℕ) (a : Asked) (last : Option Given.Solution) (is_for : Type 0) → IsTried c p nodes table term i a last is_for → IsExecutable p i
executable_of c p nodes table term i a last is_for is = record { equation = is.equation; at = is.at; exec = is.exec }

pub executable_found : (p : Typed.Program) (nodes : List Node) (t : Tree) (i : ℕ) (x : Given.Solution) → IsFound p nodes t i x → IsExecutable p i
executable_found p nodes t i x is = record { equation = is.equation; at = is.at; exec = is.exec }

-- ---- runs

pub or_again : {A : Type 0} (R T : Run (Option A)) (o : Outcome (Option A)) → or_go_on R (or_go_on T o) ≡ or_go_on (or_else T R) o
or_again R T (done (Some x) r b) = refl
or_again R T (done None r b) = refl
or_again R T (ended e) = refl

pub or_nothing : {A : Type 0} (R : Run (Option A)) (b : ℕ) → or_else (gives None) R b ≡ R b
or_nothing R b = refl

all_kept : {A : Type 0} (f : A → Bool) (xs : List A) → ((x : A) → f x ≡ true) → keep f xs ≡ xs
all_kept f [] h = refl
all_kept f (x ∷ xs) h = ap (λ b. if b then x ∷ keep f xs else keep f xs) (h x) ∙ ap (λ ys. x ∷ ys) (all_kept f xs h)

module _ (P : Program) (B k : ℕ) (t : Tree) where
  -- at the beginning all solutions are left
  pub all_behind_none : (e : Equation) → solutions_behind P e t None ≡ solutions_within P.sign e.left t
  all_behind_none e = all_kept (comes_behind (compare P.sign.theory e.left) None) (solutions_within P.sign e.left t) (λ x. refl)

  pub number_begins : (i : ℕ) → left_of_number P B k t i None ≡ applied_number P B k t i
  number_begins i = by (slice_get P.equations i)
    where
      by : (o : Option Equation) → left_of_one P B k t None o ≡ applied_one P B k t o
      by (Some e) = ap (applied_by P B k e t) (all_behind_none e)
      by None = refl

  module _ (i : ℕ) (e : Equation) (at : slice_get P.equations i ≡ Some e) where
    pub left_at : (last : Option Solution) → left_of_number P B k t i last ≡ applied_by P B k e t (solutions_behind P e t last)
    left_at last = ap (left_of_one P B k t last) at

    pub gives_at : (x : Solution) → number_gives P B k t i x ≡ candidate_gives P B k e t x
    gives_at x = ap (one_gives P B k t x) at

  -- the first of the numbers is begun
  pub among_begun : (is : List ℕ) (n b : ℕ) → n < length is → first_of (applied_number P B k t) (drop n is) b ≡ left_of_all P B k t (get_or is n 0) None (drop (n + 1) is) b
  among_begun is n b h =
      ap (λ xs. first_of (applied_number P B k t) xs b) (drop-cons is n 0 h)
      ∙ (ap (λ o. or_go_on (first_of (applied_number P B k t) (drop (suc n) is)) o) (ap (λ r. r b) (sym (number_begins (get_or is n 0))))
      ∙ ap (λ m. left_of_all P B k t (get_or is n 0) None (drop m is) b) (more n))
    where
      more : (n : ℕ) → suc n ≡ n + 1
      more n = omega arith

  pub none_more : (is : List ℕ) (n : ℕ) (b : ℕ) → length is ≤ n → first_of (applied_number P B k t) (drop n is) b ≡ done None 0 b
  none_more is n b h = ap (λ xs. first_of (applied_number P B k t) xs b) (past is n h)
    where
      past : (xs : List ℕ) (n : ℕ) → length xs ≤ n → drop n xs ≡ []
      past [] zero h = refl
      past [] (suc n) h = refl
      past (x ∷ xs) zero h = absurd (omega (arith, h))
      past (x ∷ xs) (suc n) h = past xs n (omega (arith, h))

pub at_index : {A : Type 0} (xs ys : List A) (i : ℕ) (e : A) → ys ≡ xs → i < length xs → e ≡ get_or ys i e → slice_get xs i ≡ Some e
at_index xs ys i e same h is = slice_get-get_or xs i e h ∙ ap Some (ap (λ zs. get_or zs i e) (sym same) ∙ sym is)

pub none_if : {A : Type 0} (X : Type 0) (o : Option A) → (o ≡ None → X) → IfNone o X
none_if X None f = f refl
none_if X (Some x) f = tt

pub some_if : {A : Type 0} (P : A → Type 0) (o : Option A) → ((x : A) → o ≡ Some x → P x) → IfSome o P
some_if P None f = tt
some_if P (Some x) f = f x refl

-- what a listing says of one equation, by its number
module _ (P : Program) (B : ℕ) (t : Tree) (i : ℕ) (e : Equation) (at : slice_get P.equations i ≡ Some e) (new : List Node) (last : Option Solution) (o : Option Given.Solution) where
  pub none_of_number : o ≡ None → IfNone o (ComesTo P (λ k. applied_by P B k e t (solutions_behind P e t last)) (λ k. gives None)) → ComesTo P (λ k. left_of_number P B k t i last) (λ k. gives None)
  none_of_number is h =
      comes_from (λ k b. ap (λ r. r b) (left_at P B k t i e at last)) (subst (λ z. IfNone z (ComesTo P (λ k. applied_by P B k e t (solutions_behind P e t last)) (λ k. gives None))) is h)

  pub one_of_number : (x : Given.Solution) → o ≡ Some x →
      IfSome o (λ y. ComesTo P (λ k. applied_by P B k e t (solutions_behind P e t last)) (λ k. or_else (candidate_gives P B k e t (solution_in new y)) (applied_by P B k e t (solutions_behind P e t (Some (solution_in new y)))))) →
      ComesTo P (λ k. left_of_number P B k t i last) (λ k. or_else (number_gives P B k t i (solution_in new x)) (left_of_number P B k t i (Some (solution_in new x))))
  one_of_number x is h =
      comes_from (λ k b. ap (λ r. r b) (left_at P B k t i e at last))
      (comes_as (subst (λ z. IfSome z (λ y. ComesTo P (λ k. applied_by P B k e t (solutions_behind P e t last)) (λ k. or_else (candidate_gives P B k e t (solution_in new y)) (applied_by P B k e t (solutions_behind P e t (Some (solution_in new y))))))) is h)
      (λ k b. ap (λ r. or_go_on r (candidate_gives P B k e t (solution_in new x) b)) (sym (left_at P B k t i e at (Some (solution_in new x))))
      ∙ ap (λ r. or_go_on (left_of_number P B k t i (Some (solution_in new x))) (r b)) (sym (gives_at P B k t i e at (solution_in new x)))))

-- the number at a place is tried, in a store in which the term is the same
module _ (P : Program) (B : ℕ) (t t' : Tree) (same : t' ≡ t) (is : List ℕ) (n : ℕ) (h : n < length is) {X : Type 0} (o : Option X) where
  pub among_none : o ≡ None → IfNone o (ComesTo P (λ k. left_of_number P B k t' (get_or is n 0) None) (λ k. gives None)) →
      ComesTo P (λ k. first_of (applied_number P B k t) (drop n is)) (λ k. first_of (applied_number P B k t) (drop (n + 1) is))
  among_none e z =
      let y : ComesTo P (λ k. left_of_number P B k t (get_or is n 0) None) (λ k. gives None) =
      subst (λ u. ComesTo P (λ k. left_of_number P B k u (get_or is n 0) None) (λ k. gives None)) same
      (subst (λ w. IfNone w (ComesTo P (λ k. left_of_number P B k t' (get_or is n 0) None) (λ k. gives None))) e z) in
      comes_from (λ k b. among_begun P B k t is n b h) (comes_passed y (comes_same (λ k b. refl)))

-- ---- the order of all equations

module _ (P : Program) (B k : ℕ) (t : Tree) where
  first_append : {A : Type 0} (f : A → Run (Option Tree)) (xs ys : List A) (b : ℕ) → first_of f (xs ++ ys) b ≡ or_go_on (first_of f ys) (first_of f xs b)
  first_append f [] ys b = refl
  first_append f (x ∷ xs) ys b = by (first_append f xs ys) (f x b)
    where
      by : ((c : ℕ) → first_of f (xs ++ ys) c ≡ or_go_on (first_of f ys) (first_of f xs c)) → (o : Outcome (Option Tree)) → or_go_on (first_of f (xs ++ ys)) o ≡ or_go_on (first_of f ys) (or_go_on (first_of f xs) o)
      by rest (done (Some u) r c) = refl
      by rest (done None r c) = rest c
      by rest (ended e) = refl

  -- equations that are tried by one test, from the number n on
  one_kind : (o : Bool) (n : ℕ) (es : List Equation) → ((i : ℕ) (e : Equation) → slice_get es i ≡ Some e → slice_get P.equations (n + i) ≡ Some e) → (b : ℕ) →
      first_of (try_equation P (levels P B k) (levels P B (suc k)).sorts t o) es b ≡ first_of (applied_number P B k t) (numbers_of o n es) b
  one_kind o n [] there b = refl
  one_kind o n (e ∷ es) there b =
      by (λ j c. one_kind o (suc n) es (λ i d at. subst (λ m. slice_get P.equations m ≡ Some d) (next n i) (there (suc i) d at)) c j) (e.exec && (if o then e.owise else not e.owise))
    where
      next : (n i : ℕ) → n + suc i ≡ suc n + i
      next n i = omega arith

      this : (n : ℕ) → n + zero ≡ n
      this n = omega arith

      own : applied_by P B k e t (solutions_within P.sign e.left t) ≡ applied_number P B k t n
      own = sym (ap (applied_one P B k t) (subst (λ m. slice_get P.equations m ≡ Some e) (this n) (there zero e refl)))

      by : first_of (try_equation P (levels P B k) (levels P B (suc k)).sorts t o) es ≡ first_of (applied_number P B k t) (numbers_of o (suc n) es) → (w : Bool) →
          or_go_on (first_of (try_equation P (levels P B k) (levels P B (suc k)).sorts t o) es) (where_true w (applied_by P B k e t (solutions_within P.sign e.left t)) b)
          ≡ first_of (applied_number P B k t) (if w then n ∷ numbers_of o (suc n) es else numbers_of o (suc n) es) b
      by rest true = ap (λ K. or_go_on K (applied_by P B k e t (solutions_within P.sign e.left t) b)) rest ∙ ap (λ m. or_go_on (first_of (applied_number P B k t) (numbers_of o (suc n) es)) (m b)) own
      by rest false = ap (λ K. K b) rest

  pub by_order : (b : ℕ) → by_equations P (levels P B k) (levels P B (suc k)).sorts t b ≡ first_of (applied_number P B k t) (order_of_all P.equations) b
  by_order b =
      let ordinary = one_kind false 0 P.equations (λ i e at. subst (λ m. slice_get P.equations m ≡ Some e) (sym (zero-add i)) at) in
      let others = one_kind true 0 P.equations (λ i e at. subst (λ m. slice_get P.equations m ≡ Some e) (sym (zero-add i)) at) in
      ap (or_go_on (first_of (try_equation P (levels P B k) (levels P B (suc k)).sorts t true) P.equations)) (ordinary b)
      ∙ (ap (λ K. or_go_on K (first_of (applied_number P B k t) (numbers_of false 0 P.equations) b)) (λ j c. others c j)
      ∙ sym (first_append (applied_number P B k t) (numbers_of false 0 P.equations) (numbers_of true 0 P.equations) b))

-- behind an equation that is tried
module _ (P : Program) (B k : ℕ) (t : Tree) (rest : List ℕ) (b : ℕ) where
  pub behind_is : (nodes : List Node) {Y : Type 0} (num : Y → ℕ) (last : Y → Option Given.Solution) (o : Option Y) (y : Y) → o ≡ Some y →
      left_by P B k nodes t (option_map (λ z. (num z, last z)) o) rest b ≡ left_of_all P B k t (num y) (option_map (solution_in nodes) (last y)) rest b
  behind_is nodes num last o y e = ap (λ w. left_by P B k nodes t (option_map (λ z. (num z, last z)) w) rest b) e

module _ (P : Program) (B : ℕ) (t : Tree) (rest : List ℕ) where
  pub none_behind : (i : ℕ) (last : Option Solution) → ComesTo P (λ k. left_of_number P B k t i last) (λ k. gives None) → ComesTo P (λ k. left_of_all P B k t i last rest) (λ k. first_of (applied_number P B k t) rest)
  none_behind i last z = comes_passed z (comes_same (λ k b. refl))

  pub one_behind : (i : ℕ) (last : Option Solution) (x : Solution) →
      ComesTo P (λ k. left_of_number P B k t i last) (λ k. or_else (number_gives P B k t i x) (left_of_number P B k t i (Some x))) →
      ComesTo P (λ k. left_of_all P B k t i last rest) (λ k. or_else (number_gives P B k t i x) (left_of_all P B k t i (Some x) rest))
  one_behind i last x z =
      comes_as (comes_or (λ k. first_of (applied_number P B k t) rest) z)
      (λ k b. or_again (first_of (applied_number P B k t) rest) (left_of_number P B k t i (Some x)) (number_gives P B k t i x b))

  pub found_behind : (nodes new : List Node) {Y : Type 0} (num : Y → ℕ) (last : Y → Option Given.Solution) (o : Option Y) (y : Y) → o ≡ Some y →
      (f : Option Given.Solution) (x : Given.Solution) → f ≡ Some x →
      IfSome f (λ z. ComesTo P (λ k. left_of_number P B k t (num y) (option_map (solution_in nodes) (last y))) (λ k. or_else (number_gives P B k t (num y) (solution_in new z)) (left_of_number P B k t (num y) (Some (solution_in new z))))) →
      (j : ℕ) → j ≡ num y → (after : Option Given.Solution) → IfSome f (λ z. after ≡ Some z) →
      ComesTo P (λ k. left_by P B k nodes t (option_map (λ z. (num z, last z)) o) rest) (λ k. or_else (number_gives P B k t (num y) (solution_in new x)) (left_of_all P B k t j (option_map (solution_in new) after) rest))
  found_behind nodes new num last o y e f x is z j own after given =
      comes_from (λ k b. behind_is P B k t rest b nodes num last o y e)
      (comes_as (one_behind (num y) (option_map (solution_in nodes) (last y)) (solution_in new x)
      (subst (λ w. IfSome w (λ v. ComesTo P (λ k. left_of_number P B k t (num y) (option_map (solution_in nodes) (last y))) (λ k. or_else (number_gives P B k t (num y) (solution_in new v)) (left_of_number P B k t (num y) (Some (solution_in new v)))))) is z))
      (λ k b. ap (λ m. or_go_on (left_of_all P B k t m (Some (solution_in new x)) rest) (number_gives P B k t (num y) (solution_in new x) b)) (sym own)
      ∙ ap (λ w. or_go_on (left_of_all P B k t j (option_map (solution_in new) w) rest) (number_gives P B k t (num y) (solution_in new x) b)) (sym (subst (λ w. IfSome w (λ v. after ≡ Some v)) is given))))

-- one candidate of an equation, with the listing that goes on behind it
pub begun_with : (P : Program) (B : ℕ) (t : Tree) (rest : List ℕ) (new : List Node) {Y : Type 0} (num : Y → ℕ) (last : Y → Option Given.Solution) (i : ℕ) (y : Y) (x : Given.Solution) → num y ≡ i → last y ≡ Some x →
    ComesTo P (λ k. left_of_number P B k t i None) (λ k. or_else (number_gives P B k t i (solution_in new x)) (left_of_number P B k t i (Some (solution_in new x)))) →
    ComesTo P (λ k. left_of_all P B k t i None rest) (λ k. or_else (number_gives P B k t i (solution_in new x)) (left_of_all P B k t (num y) (option_map (solution_in new) (last y)) rest))
begun_with P B t rest new num last i y x number given z =
    comes_as (one_behind P B t rest i None (solution_in new x) z)
    (λ k b. ap (λ m. or_go_on (left_of_all P B k t m (Some (solution_in new x)) rest) (number_gives P B k t i (solution_in new x) b)) (sym number)
    ∙ ap (λ w. or_go_on (left_of_all P B k t (num y) (option_map (solution_in new) w) rest) (number_gives P B k t i (solution_in new x) b)) (sym given))

-- what is left first, in a later store in which the term is the same
pub none_through : {P : Program} {A : Type 0} {X E : Type 0} (r : Result (Option X) E) (F : Tree → ℕ → Run A) (l d : ℕ → Run A) (t t' : Tree) → t' ≡ t → ComesTo P l (F t) → IfOk r (λ o. IfNone o (ComesTo P (F t') d)) →
    IfOk r (λ o. IfNone o (ComesTo P l d))
none_through {P = P} (Ok None) F l d t t' same e h = comes_through e (subst (λ u. ComesTo P (F u) d) same h)
none_through (Ok (Some x)) F l d t t' same e h = tt
none_through (Err x) F l d t t' same e h = tt

pub some_through : {P : Program} {A : Type 0} {X E : Type 0} (r : Result (Option X) E) (F : Tree → ℕ → Run A) (G : X → Tree → ℕ → Run A) (l : ℕ → Run A) (t t' : Tree) → t' ≡ t → ComesTo P l (F t) →
    IfOk r (λ o. IfSome o (λ x. ComesTo P (F t') (G x t'))) → IfOk r (λ o. IfSome o (λ x. ComesTo P l (G x t)))
some_through (Ok None) F G l t t' same e h = tt
some_through {P = P} (Ok (Some x)) F G l t t' same e h = comes_through e (subst (λ u. ComesTo P (F u) (G x u)) same h)
some_through (Err x) F G l t t' same e h = tt
