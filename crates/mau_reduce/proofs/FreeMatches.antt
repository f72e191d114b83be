-- An equation whose left side has no axioms, by the one solution that it has in a term.
use Rattle.std.proofs.Common.{◌≡◌, ℕ, List, [], ◌∷◌, slice_get, true, false, if◌then◌else◌, Option, Some, None, IfSome, IfNone, Result, Ok, Err, IfOk, refl, sym, ap, ap₂, ◌∙◌, subst}
use Rattle.std.specs.Option.{option_map}
use Rattle.mau_terms.specs.Tree.{Tree}
use Rattle.mau_terms.specs.Bare.{IsBare}
use Rattle.mau_terms.specs.View.{tree_of}
use Rattle.mau_terms.specs.declared.ids.TermId.{TermId}
use Rattle.mau_signature.specs.Signature.{theory_at, terms_over}
use Rattle.mau_formula.specs.Operator.{Operator}
use Rattle.mau_store.specs.Node.{Node}
use Rattle.mau_store.specs.Trees.{tree_at}
use Rattle.mau_sorts.specs.HasSort.{Known}
use Rattle.mau_sorts.specs.Table.{Table}
use Rattle.mau_listing.specs.Asked.{asks, question_in, matcher_in, BySort, IsGiven}
use Rattle.mau_listing.specs.Finite.{comes_behind}
use Rattle.mau_listing.specs.Next.{matcher_cmp, IsNext}
use Rattle.mau_listing.specs.Question.{IsSolution}
use Rattle.mau_listing.specs.declared.solution.Solution as Given
use Rattle.mau_program.specs.declared.program.Program as Typed
use Rattle.mau_program.specs.declared.statements.Equation as Written
use Rattle.mau_evaluation.specs.Run.{Outcome, done, ended, Run, gives, or_go_on, or_else, first_of}
use Rattle.mau_evaluation.specs.Listing.{keep, compare, solutions_within}
use Rattle.mau_evaluation.proofs.Listed.{compare_total}
use Rattle.mau_api.specs.Terms.{IsTerm}
use Rattle.mau_api.specs.Meanings.{meanings_by}
use Rattle.mau_api.specs.Answers.{IsDerivedTable, AreSettled}
use Rattle.mau_api.specs.Programs.{program_over, equation_of}
use Rattle.mau_syntactic.specs.Free.{has_free_operators}
use Rattle.mau_syntactic.specs.Match.{IsMatch}
use Rattle.mau_syntactic.proofs.Solving.{matches_are_solutions, matches_are_listed}
use Rattle.mau_reduce.specs.Reducible.{IsReducible}
use Rattle.mau_reduce.specs.Trying.{solution_in, solutions_behind, applied_by, left_of_number, left_of_all, number_gives, applied_number, IsCandidate, IsExecutable, IsFound}
use Rattle.mau_reduce.specs.Lasts.{IsListed}
use Rattle.mau_reduce.specs.Comes.{ComesTo}
use Rattle.mau_reduce.specs.Tables.{IsSortTable}
use Rattle.mau_reduce.proofs.Comes.{comes_as, comes_or}
use Rattle.mau_reduce.specs.Compiled.{IsPatternOf}
use Rattle.mau_reduce.proofs.Leftover.{not_itself}
use Rattle.mau_reduce.proofs.Numbered.{equation_there, in_equations, exec_at, left_at, none_of_number, one_of_number}
use Rattle.mau_reduce.proofs.Candidates.{none_next, one_next, candidate_next}

-- a left side is a bare term
pub left_bare : (p : Typed.Program) → IsReducible p → (i : ℕ) (e : Written.Equation) → slice_get p.equations i ≡ Some e → IsBare (terms_over p.sig) (tree_of e.left)
left_bare p red i e at = let sides = red.sides (equation_of e) (in_equations p i e at) in (sides.kind, sides.left)

-- what gives nothing may be left out
passed_by : {A : Type 0} (K L : Run (Option A)) → ((c : ℕ) → L c ≡ done None 0 c) → (o : Outcome (Option A)) → or_go_on K (or_go_on L o) ≡ or_go_on K o
passed_by K L none (done (Some x) r c) = refl
passed_by K L none (done None r c) = ap (or_go_on K) (none c)
passed_by K L none (ended e) = refl

module _ (p : Typed.Program) (red : IsReducible p) (i : ℕ) (exec : IsExecutable p i) (e : Written.Equation) (at : slice_get p.equations i ≡ Some e) (nodes : List Node) (table : Table) (id : TermId) (term : IsTerm p.sig nodes id.0)
    (settled : AreSettled p.sig nodes table (tree_at nodes id.0)) (o : Option Given.Solution) where
  abbrev t : Tree
  t = tree_at nodes id.0

  abbrev NextBy : Known → Option Given.Solution → Type 0
  NextBy known z = IsNext (IsSolution true p.sig (BySort p.sig known) (question_in nodes (asks (tree_of e.left) [] id))) (matcher_cmp (theory_at p.sig) (tree_of e.left)) None (option_map (matcher_in nodes) z)

  abbrev bare : IsBare (terms_over p.sig) (tree_of e.left)
  bare = left_bare p red i e at

  module _ (hooks : List Operator) (B : ℕ) (derived : IsDerivedTable (meanings_by p hooks B false) nodes table) (next : NextBy derived.known o) where
    free_none : o ≡ None → ComesTo (program_over p hooks) (λ k. left_of_number (program_over p hooks) B k t i None) (λ k. gives None)
    free_none is =
        none_of_number (program_over p hooks) B t i (equation_of e) (equation_there p hooks i e at) nodes None o is
        (none_next p red (equation_of e) bare nodes nodes table id term.within.normal term.bare settled true refl (asks (tree_of e.left) [] id) refl None {N = ℕ} hooks B derived (Ok o) next)

    module _ (free : has_free_operators (theory_at p.sig) (tree_of e.left) ≡ true) (x : Given.Solution) (is : o ≡ Some x) where
      is_match : ((solution_in nodes x).left ≡ []) × ((solution_in nodes x).right ≡ []) × IsMatch (tree_of e.left) t (solution_in nodes x).values
      is_match =
          let one = (subst (NextBy derived.known) is next).is_one in
          let all = (matches_are_solutions true p.sig red.lawful derived.known (question_in nodes (asks (tree_of e.left) [] id)) free term.within.normal term.bare (matcher_in nodes x)).0 one in
          (all.0, all.1, all.2)

      only_one : solutions_within (terms_over p.sig) (tree_of e.left) t ≡ solution_in nodes x ∷ []
      only_one =
          ((matches_are_listed (terms_over p.sig) red.lawful (tree_of e.left) t free term.within.normal term.bare).0 (solution_in nodes x).values is_match.2).1
          ∙ ap₂ (λ l r. record { left = l; right = r; values = (solution_in nodes x).values } ∷ []) (sym is_match.0) (sym is_match.1)

      -- none comes behind it
      none_behind_it : solutions_behind (program_over p []) (equation_of e) t (Some (solution_in nodes x)) ≡ []
      none_behind_it =
          ap (keep (comes_behind (compare (theory_at p.sig) (tree_of e.left)) (Some (solution_in nodes x)))) only_one
          ∙ ap (λ w. if w then solution_in nodes x ∷ [] else []) (not_itself (compare (theory_at p.sig) (tree_of e.left)) (compare_total (theory_at p.sig) (tree_of e.left)) (solution_in nodes x))

      left_none : (k c : ℕ) → left_of_number (program_over p hooks) B k t i (Some (solution_in nodes x)) c ≡ done None 0 c
      left_none k c =
          ap (λ r. r c) (left_at (program_over p hooks) B k t i (equation_of e) (equation_there p hooks i e at) (Some (solution_in nodes x)))
          ∙ ap (λ xs. applied_by (program_over p hooks) B k (equation_of e) t xs c) none_behind_it

      free_one : (rest : List ℕ) → ComesTo (program_over p hooks) (λ k. left_of_all (program_over p hooks) B k t i None rest)
          (λ k. or_else (number_gives (program_over p hooks) B k t i (solution_in nodes x)) (first_of (applied_number (program_over p hooks) B k t) rest))
      free_one rest =
          comes_as (comes_or (λ k. first_of (applied_number (program_over p hooks) B k t) rest)
          (one_of_number (program_over p hooks) B t i (equation_of e) (equation_there p hooks i e at) nodes None o x is
          (one_next p red (equation_of e) bare nodes nodes table id term.within.normal term.bare settled true refl (asks (tree_of e.left) [] id) refl None {N = ℕ} hooks B derived (Ok o) next)))
          (λ k b. passed_by (first_of (applied_number (program_over p hooks) B k t) rest) (left_of_number (program_over p hooks) B k t i (Some (solution_in nodes x))) (left_none k) (number_gives (program_over p hooks) B k t i (solution_in nodes x) b))

    -- all of it, as a call answers
    pub none_matched : IfNone o (ComesTo (program_over p hooks) (λ k. left_of_number (program_over p hooks) B k t i None) (λ k. gives None))
    none_matched = by o refl
      where
        by : (w : Option Given.Solution) → o ≡ w → IfNone w (ComesTo (program_over p hooks) (λ k. left_of_number (program_over p hooks) B k t i None) (λ k. gives None))
        by None is = free_none is
        by (Some x) is = tt

    pub one_matched : has_free_operators (theory_at p.sig) (tree_of e.left) ≡ true → (rest : List ℕ) →
        IfSome o (λ x. ComesTo (program_over p hooks) (λ k. left_of_all (program_over p hooks) B k t i None rest)
        (λ k. or_else (number_gives (program_over p hooks) B k t i (solution_in nodes x)) (first_of (applied_number (program_over p hooks) B k t) rest)))
    one_matched free rest = by o refl
      where
        by : (w : Option Given.Solution) → o ≡ w → IfSome w (λ x. ComesTo (program_over p hooks) (λ k. left_of_all (program_over p hooks) B k t i None rest)
            (λ k. or_else (number_gives (program_over p hooks) B k t i (solution_in nodes x)) (first_of (applied_number (program_over p hooks) B k t) rest)))
        by None is = tt
        by (Some x) is = free_one free x is rest

  module _ (sorts : IsSortTable p.sig nodes table) (next : NextBy sorts.known o) (solves : IfSome o (IsGiven true p.sig nodes table (asks (tree_of e.left) [] id))) where
    free_found : (x : Given.Solution) → o ≡ Some x → IsFound p nodes t i x
    free_found x is = record {
      equation = e;
      at = at;
      exec = exec_at p i exec e at;
      candidate =
          subst (λ z. IfSome z (IsCandidate p.sig nodes (tree_of e.left) t)) is
          (candidate_next p red (equation_of e) bare nodes nodes table id term.within.normal term.bare settled true refl (asks (tree_of e.left) [] id) refl None sorts table {N = ℕ} (Ok o) next solves);
    }

    pub found_matched : IfSome o (IsFound p nodes t i)
    found_matched = by o refl
      where
        by : (w : Option Given.Solution) → o ≡ w → IfSome w (IsFound p nodes t i)
        by None is = tt
        by (Some x) is = free_found x is

  pub listed_matched : IfSome o (IsGiven true p.sig nodes table (asks (tree_of e.left) [] id)) → IfSome o (IsListed p nodes table id i)
  listed_matched solves = by o solves
    where
      by : (w : Option Given.Solution) → IfSome w (IsGiven true p.sig nodes table (asks (tree_of e.left) [] id)) → IfSome w (IsListed p nodes table id i)
      by None k = tt
      by (Some x) k = record { equation = e; at = at; solves = k }

-- ---- answers

-- the pattern that is kept of an executable equation
pub pattern_is : (p : Typed.Program) (i : ℕ) (exec : IsExecutable p i) (q : Tree) → IfSome (slice_get p.equations i) (λ e. IsPatternOf p.sig e q) → IsPatternOf p.sig exec.equation q
pattern_is p i exec q h = subst (λ o. IfSome o (λ e. IsPatternOf p.sig e q)) exec.at h

module _ (p : Typed.Program) (red : IsReducible p) (i : ℕ) (exec : IsExecutable p i) (nodes : List Node) (table : Table) (id : TermId) (term : IsTerm p.sig nodes id.0) (settled : AreSettled p.sig nodes table (tree_at nodes id.0)) where
  abbrev pub Next : Known → Tree → Option Given.Solution → Type 0
  Next known q o = IsNext (IsSolution true p.sig (BySort p.sig known) (question_in nodes (asks q [] id))) (matcher_cmp (theory_at p.sig) q) None (option_map (matcher_in nodes) o)

  abbrev pub Solved : Tree → Option Given.Solution → Type 0
  Solved q o = IfSome o (IsGiven true p.sig nodes table (asks q [] id))

  module _ (q : Tree) (is : IsPatternOf p.sig exec.equation q) where
    next_of : (known : Known) (o : Option Given.Solution) → Next known q o → Next known (tree_of exec.equation.left) o
    next_of known o n = subst (λ w. Next known w o) is.tree n

    solved_of : (o : Option Given.Solution) → Solved q o → Solved (tree_of exec.equation.left) o
    solved_of o n = subst (λ w. Solved w o) is.tree n

    module _ {N : Type 0} (hooks : List Operator) (B : ℕ) (derived : IsDerivedTable (meanings_by p hooks B false) nodes table) where
      pub none_answer : (r : Result (Option Given.Solution) N) → IfOk r (Next derived.known q) →
          IfOk r (λ o. IfNone o (ComesTo (program_over p hooks) (λ k. left_of_number (program_over p hooks) B k (tree_at nodes id.0) i None) (λ k. gives None)))
      none_answer (Ok o) n = none_matched p red i exec exec.equation exec.at nodes table id term settled o hooks B derived (next_of derived.known o n)
      none_answer (Err x) n = tt

      pub one_answer : (r : Result (Option Given.Solution) N) → IfOk r (Next derived.known q) → (rest : List ℕ) →
          IfOk r (λ o. IfSome o (λ x. ComesTo (program_over p hooks) (λ k. left_of_all (program_over p hooks) B k (tree_at nodes id.0) i None rest)
          (λ k. or_else (number_gives (program_over p hooks) B k (tree_at nodes id.0) i (solution_in nodes x)) (first_of (applied_number (program_over p hooks) B k (tree_at nodes id.0)) rest))))
      one_answer (Ok o) n rest =
          one_matched p red i exec exec.equation exec.at nodes table id term settled o hooks B derived (next_of derived.known o n) (subst (λ w. has_free_operators (theory_at p.sig) w ≡ true) is.tree is.free) rest
      one_answer (Err x) n rest = tt

    pub found_answer : {N : Type 0} (sorts : IsSortTable p.sig nodes table) (r : Result (Option Given.Solution) N) → IfOk r (Next sorts.known q) → IfOk r (Solved q) → IfOk r (λ o. IfSome o (IsFound p nodes (tree_at nodes id.0) i))
    found_answer sorts (Ok o) n h = found_matched p red i exec exec.equation exec.at nodes table id term settled o sorts (next_of sorts.known o n) (solved_of o h)
    found_answer sorts (Err x) n h = tt

    pub listed_answer : {N : Type 0} (r : Result (Option Given.Solution) N) → IfOk r (Solved q) → IfOk r (λ o. IfSome o (IsListed p nodes table id i))
    listed_answer (Ok o) h = listed_matched p red i exec exec.equation exec.at nodes table id term settled o (solved_of o h)
    listed_answer (Err x) h = tt
