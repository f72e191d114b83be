-- The next candidate: what it leaves, and what is known of it in the later state.
use Rattle.std.proofs.Common.{◌≡◌, ◌≤◌, ℕ, List, Bool, Option, Some, None, IfSome, IfNone, Result, Ok, Err, IfOk, IfErr, map, drop, length, slice_get, sym, ap, ap₂, ◌∙◌, subst, arith}
use Rattle.std.specs.Option.{option_map}
use Rattle.std.proofs.lemmas.Option.{slice_get_past, slice_get_within}
use Rattle.std.proofs.lemmas.Bool.{and_parts}
use Rattle.std.specs.Prelude.{fold}
use Rattle.mau_terms.specs.Tree.{Tree}
use Rattle.mau_terms.specs.Solution.{HaveSorts}
use Rattle.mau_terms.specs.Subst.{Variable, variables}
use Rattle.mau_terms.specs.View.{tree_of, variable_of}
use Rattle.mau_signature.specs.Signature.{SignatureOf, theory_at}
use Rattle.mau_store.specs.Node.{Node}
use Rattle.mau_store.specs.Trees.{tree_at, trees_at}
use Rattle.mau_store.specs.View.{numbers}
use Rattle.mau_sorts.specs.Table.{Table}
use Rattle.mau_listing.specs.Asked.{Asked, HasEntry}
use Rattle.mau_listing.specs.declared.solution.Solution.{Solution}
use Rattle.mau_program.specs.declared.statements.Equation.{Equation}
use Rattle.mau_program.specs.declared.statements.Fragment.{Fragment as Written}
use Rattle.mau_program.specs.LawfulStatements.{IsLawfulEquation}
use Rattle.mau_program.specs.Binding.{has_only, bound_behind, are_bound}
use Rattle.mau_evaluation.specs.Run.{Run, Outcome, or_go_on, try_on, gives}
use Rattle.mau_evaluation.specs.Program.{Program, Fragment}
use Rattle.mau_evaluation.specs.Evaluation.{levels, solve}
use Rattle.mau_api.specs.Terms.{IsTerm}
use Rattle.mau_api.specs.Programs.{program_over, fragment_of}
use Rattle.mau_api.specs.declared.results.EvalEnd.{EvalEnd}
use Rattle.mau_reduce.specs.declared.attempts.Attempts.{Attempts}
use Rattle.mau_reduce.specs.declared.binding.Binding.{Binding as Kept}
use Rattle.mau_reduce.specs.declared.given.Given.{Given}
use Rattle.mau_reduce.specs.declared.given.Given.TheVariants as Giving
use Rattle.mau_reduce.specs.declared.trying.Found.{Found}
use Rattle.mau_reduce.specs.Ends as Reduced
use Rattle.mau_reduce.specs.Bindings.{bound_in, AreValues}
use Rattle.mau_reduce.specs.Trying.{IsTried}
use Rattle.mau_reduce.specs.ByTop.{order_for}
use Rattle.mau_reduce.specs.Giving.{IsGivenAt}
use Rattle.mau_reduce.specs.Attempting.{untried_by, cond_at, makes_of}
use Rattle.mau_reduce.specs.Lasts.{left_variables_of, left_variables, IsLast, IsLastListed}
use Rattle.mau_reduce.proofs.KindsKept.{is_term_kept, tree_kept}
use Rattle.mau_reduce.proofs.LaterStores.{given_grown}
use Rattle.mau_machine.specs.Words.{LeadsTo, IsKnownBy, EndsBy, solve_on}
use Rattle.mau_reducer.specs.declared.reducer.Candidates.{Candidates}
use Rattle.mau_reducer.specs.Basis.{Basis, IsBasis}
use Rattle.mau_reducer.specs.Handles.{as_id, written_in, other_by, written_at, first_in, first_other, first_at, AreBoundFrom, AreKnownCandidates, IsKnownCandidate, IsKnownBinding, words_of}
use Rattle.mau_reducer.specs.States.{ComesOf}
use Rattle.mau_reducer.specs.LaterStates.{words_kept}
use Rattle.mau_reducer.proofs.Conditions.{at_place, no_other, no_first, condition_is}
use Rattle.mau_reduce.specs.Comes.{ComesTo}
use Rattle.mau_reduce.proofs.Comes.{comes_from, comes_as}
use Rattle.mau_reducer.proofs.Leading.{leads_of, ends_by}

-- the left side of a candidate binds what its condition may have
module _ (b : Basis) (is : IsBasis b) (nodes : List Node) (u : Tree) (e : ℕ) where
  abbrev begun : List Variable → List Written → Option Equation → Bool
  begun xs fs o = are_bound (first_in xs o) (written_in fs o)

  none_there : e ≡ length b.program.equations → slice_get b.program.equations e ≡ None
  none_there d = ap (slice_get b.program.equations) d ∙ slice_get_past b.program.equations (length b.program.equations) (omega arith)

  behind : e ≡ length b.program.equations → AreBoundFrom b e 0
  behind d =
      ap (begun (first_other b e) (other_by b.program b.asked e)) (none_there d)
      ∙ ap₂ are_bound (no_first b e (omega (arith, d))) (no_other b.program b.asked e (omega (arith, d)))

  low_one : (g : Given) (last : Option Found) → IsLast b.program nodes u e g last → e ≤ length b.program.equations
  low_one Giving.Nothing (Some y) k = let within = slice_get_within b.program.equations e k.1.equation k.1.at in omega (arith, within)
  low_one Giving.Nothing None k = absurd k
  low_one Giving.TooLarge last k = absurd k
  low_one (Giving.Argument j) last k = omega (arith, k)
  low_one (Giving.Whole l) last k = omega (arith, k)
  low_one (Giving.Before l) last k = omega (arith, k)

  first_behind : e ≡ length b.program.equations → left_variables b.program e ≡ first_at b e
  first_behind d = ap left_variables_of (none_there d) ∙ sym (ap (first_in (first_other b e)) (none_there d) ∙ no_first b e (omega (arith, d)))

  first_is : (g : Given) (last : Option Found) → IsLast b.program nodes u e g last → left_variables b.program e ≡ first_at b e
  first_is Giving.Nothing (Some y) k = ap left_variables_of k.1.at ∙ sym (ap (first_in (first_other b e)) k.1.at)
  first_is Giving.Nothing None k = absurd k
  first_is Giving.TooLarge last k = absurd k
  first_is (Giving.Argument j) last k = first_behind k
  first_is (Giving.Whole l) last k = first_behind k
  first_is (Giving.Before l) last k = first_behind k

  bound_first : (g : Given) (last : Option Found) → IsLast b.program nodes u e g last → AreBoundFrom b e 0
  bound_first Giving.Nothing (Some y) k =
      let q = k.1.equation in
      ap (begun (first_other b e) (other_by b.program b.asked e)) k.1.at
      ∙ (and_parts (are_bound (variables (tree_of q.left)) q.cond) (has_only (fold bound_behind (variables (tree_of q.left)) q.cond) (tree_of q.right))
      ((at_place (IsLawfulEquation b.program.sig) b.program.equations is.lawful.equations e q k.1.at).bound k.1.exec)).0
  bound_first Giving.Nothing None k = absurd k
  bound_first Giving.TooLarge last k = absurd k
  bound_first (Giving.Argument j) last k = behind k
  bound_first (Giving.Whole l) last k = behind k
  bound_first (Giving.Before l) last k = behind k

-- a state, and the one after the call; t is the term
module _ {L M : Type 0} (c : Bool) (asked : L → Asked) (given : L → Option Solution) (is_for : L → SignatureOf → Type 0)
    (asked_whole : M → Asked) (given_whole : M → Option Solution) (is_for_whole : M → SignatureOf → Type 0) (b : Basis) (is : IsBasis b) (old new : List Node) (before after : Table)
    (begun : Bool) (h : ComesOf b b old new before after begun) (t : ℕ) (term : IsTerm b.program.sig old t) where
  abbrev P : Program
  P = program_over b.program b.hooks

  -- what is left to try
  abbrev left_of : List Node → Tree → List ℕ → Attempts L → ℕ → Run (Option Tree)
  left_of nodes u os a k = untried_by P b.limit k nodes u a.given (option_map (λ x. (x.number, given x.listing)) a.tried) (drop a.next os)

  same : tree_at new t ≡ tree_at old t
  same = tree_kept (theory_at b.program.sig) old new t h.extends term.within

  -- the order of the equations that may apply at the top of the term
  abbrev order : List ℕ
  order = order_for b.program (tree_at old t)

  module _ (a : Candidates L) (known : AreKnownCandidates c asked given is_for asked_whole given_whole is_for_whole b old before t a) where
    untried_was : (k n : ℕ) → (words_of c asked given is_for asked_whole given_whole is_for_whole b new after).untried a k n ≡ left_of old (tree_at old t) order a.attempts.value k n
    untried_was k n =
        ((words_kept c asked given is_for asked_whole given_whole is_for_whole b b old new before after begun h).attempts t a known).1 k n
        ∙ ap (λ i. left_of old (tree_at old i) (order_for b.program (tree_at old i)) a.attempts.value k n) known.own

    pub none : (r : Result (Option (ℕ × Kept)) EvalEnd) → IfOk r (λ o. IfNone o (ComesTo P (left_of old (tree_at old t) order a.attempts.value) (λ k. gives None))) →
        IfOk r (λ o. IfNone o (IsKnownBy P ((words_of c asked given is_for asked_whole given_whole is_for_whole b new after).untried a) None))
    none (Ok None) e = leads_of (comes_from untried_was e)
    none (Ok (Some x)) e = tt
    none (Err d) e = tt

    pub ends : (r : Result (Option (ℕ × Kept)) EvalEnd) → ((k n : ℕ) → IfErr r (Reduced.IsEnd (left_of old (tree_at old t) order a.attempts.value k n))) →
        IfErr r (EndsBy P ((words_of c asked given is_for asked_whole given_whole is_for_whole b new after).untried a))
    ends (Ok o) e = tt
    ends (Err d) e = ends_by P ((words_of c asked given is_for asked_whole given_whole is_for_whole b new after).untried a) d (λ k n. subst (λ o. Reduced.IsEnd o d) (sym (untried_was k n)) (e k n))

    -- what is left after the call
    module _ (a' : Candidates L) (own : a'.term.0 ≡ t) where
      abbrev after_one : ℕ → ℕ → Kept → Tree → List ℕ → List Fragment → Outcome (Option Tree)
      after_one k n σ u os fs =
          or_go_on (left_of new u os a'.attempts.value k) (try_on (λ τ. gives (option_map (makes_of P new u a'.attempts.value.given a'.attempts.value.last) τ)) (solve P (levels P b.limit k) fs (bound_in new σ) n))

      at_own : tree_at old t ≡ tree_at new a'.term.0
      at_own = sym (ap (tree_at new) own ∙ same)

      after_same : (k n e : ℕ) (σ : Kept) → e ≤ length b.program.equations → after_one k n σ (tree_at old t) order (cond_at P e)
          ≡ after_one k n σ (tree_at new a'.term.0) (order_for b.program (tree_at new a'.term.0)) (map fragment_of (written_at b e))
      after_same k n e σ low =
          ap (λ u. after_one k n σ u (order_for b.program u) (cond_at P e)) at_own
          ∙ ap (after_one k n σ (tree_at new a'.term.0) (order_for b.program (tree_at new a'.term.0))) (condition_is b e low)

      pub some : (r : Result (Option (ℕ × Kept)) EvalEnd) → IfOk r (λ o. IfSome o (λ x. IsLast b.program new (tree_at old t) x.0 a'.attempts.value.given a'.attempts.value.last)) →
          IfOk r (λ o. IfSome o (λ x. ComesTo P (left_of old (tree_at old t) order a.attempts.value) (λ k n. after_one k n x.1 (tree_at old t) order (cond_at P x.0)))) →
          IfOk r (λ o. IfSome o (λ x. LeadsTo P ((words_of c asked given is_for asked_whole given_whole is_for_whole b new after).untried a)
          (λ k n. or_go_on ((words_of c asked given is_for asked_whole given_whole is_for_whole b new after).untried a' k)
          (try_on (λ σ. gives (option_map ((words_of c asked given is_for asked_whole given_whole is_for_whole b new after).makes a') σ)) (solve_on (words_of c asked given is_for asked_whole given_whole is_for_whole b new after).rules k x.0 0 ((words_of c asked given is_for asked_whole given_whole is_for_whole b new after).bound x.1) n)))))
      some (Ok None) last e = tt
      some (Ok (Some x)) last e =
          leads_of (comes_from untried_was (comes_as e (λ k n. after_same k n x.0 x.1 (low_one b is new (tree_at old t) x.0 a'.attempts.value.given a'.attempts.value.last last))))
      some (Err d) last e = tt

      -- what is known
      module _ (given_is : a'.attempts.value.given ≡ a.attempts.value.given) where
        given_now : IsGivenAt b.program.sig b.hooks new (tree_at new t) a'.attempts.value.given
        given_now =
            subst (IsGivenAt b.program.sig b.hooks new (tree_at new t)) (sym given_is)
            (subst (λ u. IsGivenAt b.program.sig b.hooks new u a.attempts.value.given) (sym same) (given_grown b.program old new h.extends b.hooks (tree_at old t) a.attempts.value.given known.given_at))

        known_one : (x : ℕ × Kept) → AreValues b.program.sig new x.1 → IsLast b.program new (tree_at old t) x.0 a'.attempts.value.given a'.attempts.value.last →
            IsLastListed b.program new after (as_id t) x.0 a'.attempts.value.given a'.attempts.value.last → map variable_of x.1.variables.items ≡ left_variables b.program x.0 →
            HaveSorts (HasEntry b.program.sig new after) (map variable_of x.1.variables.items) (trees_at new (numbers x.1.values.items)) →
            IfSome a'.attempts.value.tried (λ y. IsTried c b.program new after (as_id t) y.number (asked y.listing) (given y.listing) (is_for y.listing b.program.sig)) →
            AreKnownCandidates c asked given is_for asked_whole given_whole is_for_whole b new after t a' × IsKnownCandidate c asked given is_for asked_whole given_whole is_for_whole b new after t x.0 a' × IsKnownBinding b new after x.0 0 x.1
        known_one x values last listed variables sorts tried = (
          record { own = own; term = is_term_kept b.program.sig old new t h.extends term; tried = tried; given_at = given_now },
          record {
            own = own;
            term = is_term_kept b.program.sig old new t h.extends term;
            reducible = is.reducible;
            given_at = given_now;
            last = subst (λ u. IsLast b.program new u x.0 a'.attempts.value.given a'.attempts.value.last) (sym same) last;
            listed = listed;
          },
          record {
            values = values;
            variables = variables ∙ first_is b is new (tree_at old t) x.0 a'.attempts.value.given a'.attempts.value.last last;
            sorts = sorts;
            bound = bound_first b is new (tree_at old t) x.0 a'.attempts.value.given a'.attempts.value.last last;
          },
        )

        pub all_known : (r : Result (Option (ℕ × Kept)) EvalEnd) → IfOk r (λ o. IfSome o (λ x. AreValues b.program.sig new x.1)) →
            IfOk r (λ o. IfSome o (λ x. IsLast b.program new (tree_at old t) x.0 a'.attempts.value.given a'.attempts.value.last)) →
            IfOk r (λ o. IfSome o (λ x. IsLastListed b.program new after (as_id t) x.0 a'.attempts.value.given a'.attempts.value.last)) →
            IfOk r (λ o. IfSome o (λ x. map variable_of x.1.variables.items ≡ left_variables b.program x.0)) →
            IfOk r (λ o. IfSome o (λ x. HaveSorts (HasEntry b.program.sig new after) (map variable_of x.1.variables.items) (trees_at new (numbers x.1.values.items)))) →
            IfOk r (λ o. IfSome o (λ x. IfSome a'.attempts.value.tried (λ y. IsTried c b.program new after (as_id t) y.number (asked y.listing) (given y.listing) (is_for y.listing b.program.sig)))) →
            IfOk r (λ o. IfSome o (λ x. AreKnownCandidates c asked given is_for asked_whole given_whole is_for_whole b new after t a' × IsKnownCandidate c asked given is_for asked_whole given_whole is_for_whole b new after t x.0 a' × IsKnownBinding b new after x.0 0 x.1))
        all_known (Ok None) values last listed variables sorts tried = tt
        all_known (Ok (Some x)) values last listed variables sorts tried = known_one x values last listed variables sorts tried
        all_known (Err d) values last listed variables sorts tried = tt
