-- The solutions of a matching fragment: with what they begin, and what the next one gives.
use Rattle.std.proofs.Common.{◌≡◌, ◌==◌, if◌then◌else◌, true, false, ◌∷◌, ℕ, suc, List, [], All, Bool, Option, Some, None, IfSome, IfNone, Result, Ok, Err, IfOk, map, drop, take, length, slice_get, sym, ap, ◌∙◌, subst}
use Rattle.std.specs.Option.{option_map}
use Rattle.std.specs.List.{zip}
use Rattle.std.specs.Prelude.{fold}
use Rattle.mau_terms.specs.Tree.{Tree}
use Rattle.mau_terms.specs.Norm.{norm}
use Rattle.mau_terms.specs.Subst.{Variable, add_variables, instance}
use Rattle.mau_terms.specs.View.{tree_of, variable_of}
use Rattle.mau_terms.specs.declared.bare.Bare.{Bare}
use Rattle.mau_terms.specs.declared.ids.VarId.{VarId}
use Rattle.mau_terms.specs.declared.ids.TermId.{TermId}
use Rattle.mau_terms.specs.declared.memory.NoMemory.{NoMemory as Failed}
use Rattle.mau_terms.proofs.Variables.{distinct}
use Rattle.mau_signature.specs.Signature.{SignatureOf, theory_at}
use Rattle.mau_store.specs.Node.{Node}
use Rattle.mau_store.specs.Trees.{tree_at}
use Rattle.mau_sorts.specs.Table.{Table}
use Rattle.mau_listing.specs.Asked.{Asked}
use Rattle.mau_listing.specs.declared.solution.Solution.{Solution}
use Rattle.mau_program.specs.declared.statements.Fragment as Written
use Rattle.mau_program.specs.declared.statements.Fragment.TheVariants.{Equal, Match, Sort, Reach}
use Rattle.mau_program.specs.declared.statements.Equation.{Equation}
use Rattle.mau_program.specs.declared.statements.Membership.{Membership}
use Rattle.mau_program.specs.Binding.{bound_behind}
use Rattle.mau_evaluation.specs.Run.{Run, gives, or_go_on, or_else}
use Rattle.mau_evaluation.specs.Program as Evaluated
use Rattle.mau_evaluation.specs.Program.{Program}
use Rattle.mau_evaluation.specs.Evaluation.{Binding, levels, look_up, solve, solve_after}
use Rattle.mau_api.specs.Programs.{program_over}
use Rattle.mau_api.specs.Answers.{IsValueOf, binding_in, AreApart}
use Rattle.mau_reduce.specs.declared.binding.Binding.{Binding as Kept}
use Rattle.mau_reduce.specs.Bindings.{bound_in}
use Rattle.mau_reduce.specs.Trying.{solution_in}
use Rattle.mau_machine.specs.declared.goal.Goal.TheVariants as Goals
use Rattle.mau_machine.specs.Words.{Words, LeadsTo, IsKnownBy, rest_of, pattern_in, solve_on, solve_from, choose_after, Asks, IsUnchosen, IsExtension, IsChoiceOf}
use Rattle.mau_choices.specs.declared.choices.Choices.{Choices}
use Rattle.mau_reduce.specs.Comes.{ComesTo}
use Rattle.mau_reduce.proofs.Comes.{comes_from, comes_as}
use Rattle.mau_reducer.specs.declared.at_once.Sorting.{Sorting}
use Rattle.mau_reducer.proofs.Leading.{leads_of}
use Rattle.mau_choices.specs.Choosing.{left_of_choices, behind_own, IsChoosing}
use Rattle.mau_choices.proofs.Begun.{unchosen_begun, own_begun}
use Rattle.mau_choices.proofs.Later.{value_same, binding_same, left_same}
use Rattle.mau_reducer.specs.declared.reducer.Candidates.{Candidates}
use Rattle.mau_reducer.specs.Basis.{Basis}
use Rattle.mau_reducer.specs.Handles.{membership_numbered, variables_of_head, written_at, first_in, first_other, first_at, bound_before, rules_of, IsKnownBinding, AreKnownChoices, words_of}
use Rattle.mau_reducer.specs.States.{ComesOf}
use Rattle.mau_reducer.specs.Fragments.{bound_next, bound_on}
use Rattle.mau_reducer.proofs.Conditions.{from_place, pattern_is}
use Rattle.mau_reducer.proofs.Pairs.{pairs_bound, variables_paired, values_paired, paired_within, paired_kinds, paired_sorts}

-- ---- bindings in pairs

abbrev pub pairs_of : Kept → List (VarId × TermId)
pairs_of σ = zip σ.variables.items σ.values.items

pub bound_pairs : (nodes : List Node) (σ : Kept) (bs : List (VarId × TermId)) → pairs_of σ ≡ bs → bound_in nodes σ ≡ binding_in nodes bs
bound_pairs nodes σ bs e = sym (pairs_bound nodes σ.variables.items σ.values.items) ∙ ap (binding_in nodes) e

module _ (b : Basis) (nodes : List Node) (table : Table) (e i : ℕ) (σ : Kept) (h : IsKnownBinding b nodes table e i σ) where
  pub one_value_each : length σ.variables.items ≡ length σ.values.items
  one_value_each = sym h.values.one_each

  pub all_values : All (IsValueOf b.program.sig nodes table) (pairs_of σ)
  all_values = values_paired b.program.sig nodes table σ.variables.items σ.values.items h.values.within h.values.kinds h.sorts

  pub all_variables : map (λ (y : VarId × TermId). variable_of y.0) (pairs_of σ) ≡ bound_before b e i
  all_variables = variables_paired σ.variables.items σ.values.items one_value_each ∙ h.variables

-- variables that are bound one after another are apart
bound_apart : (fs : List Written.Fragment) (xs : List Variable) → AreApart xs → AreApart (fold bound_behind xs fs)
bound_apart [] xs d = d
bound_apart (Equal t u ∷ fs) xs d = bound_apart fs xs d
bound_apart (Match p u ∷ fs) xs d = bound_apart fs (add_variables xs (tree_of p)) (distinct (tree_of p) xs d)
bound_apart (Sort t s ∷ fs) xs d = bound_apart fs xs d
bound_apart (Reach t u ∷ fs) xs d = bound_apart fs (add_variables xs (tree_of u)) (distinct (tree_of u) xs d)

head_apart : (o : Option Membership) → AreApart (variables_of_head o)
head_apart None = tt
head_apart (Some m) = distinct (tree_of m.left) [] tt

other_apart : (b : Basis) → AreApart b.asked_under → (e : ℕ) (w : Bool) → AreApart (if w then b.asked_under else variables_of_head (membership_numbered b.program e))
other_apart b d e true = d
other_apart b d e false = head_apart (membership_numbered b.program e)

first_apart : (xs : List Variable) → AreApart xs → (o : Option Equation) → AreApart (first_in xs o)
first_apart xs d None = d
first_apart xs d (Some q) = distinct (tree_of q.left) [] tt

pub before_apart : (b : Basis) → AreApart b.asked_under → (e i : ℕ) → AreApart (bound_before b e i)
before_apart b d e i =
    bound_apart (take i (written_at b e)) (first_at b e) (first_apart (first_other b e) (other_apart b d e (e == suc (length b.program.equations))) (slice_get b.program.equations e))

pub all_apart : (b : Basis) → AreApart b.asked_under → (nodes : List Node) (table : Table) (e i : ℕ) (σ : Kept) → IsKnownBinding b nodes table e i σ → AreApart (map (λ (y : VarId × TermId). variable_of y.0) (pairs_of σ))
all_apart b d nodes table e i σ h = subst AreApart (sym (all_variables b nodes table e i σ h)) (before_apart b d e i)

-- ---- where they begin

module _ {L M : Type 0} (c : Bool) (asked : L → Asked) (given : L → Option Solution) (is_for : L → SignatureOf → Type 0)
    (asked_whole : M → Asked) (given_whole : M → Option Solution) (is_for_whole : M → SignatureOf → Type 0) (b : Basis) (nodes : List Node) (table : Table)
    (e i : ℕ) (σ : Kept) (h : IsKnownBinding b nodes table e i σ) (v : TermId) where
  abbrev words : Words (Candidates L) (Choices M) Kept Sorting
  words = words_of c asked given is_for asked_whole given_whole is_for_whole b nodes table

  abbrev P : Program
  P = program_over b.program b.hooks

  abbrev left_for : ℕ → List (VarId × TermId) → TermId → Option Solution → Run (Option Binding)
  left_for k bs t o =
      left_of_choices P (levels P b.limit k) (pattern_in (rest_of (rules_of b) e i)) (rest_of (rules_of b) e (suc i)) (binding_in nodes bs) (tree_at nodes t.0) (option_map (solution_in nodes) o)

  begun_one : (x : Choices M) → given_whole x.listing ≡ None → x.binding ≡ pairs_of σ → x.value ≡ v → IsUnchosen words e i (bound_in nodes σ) (tree_at nodes v.0) x
  begun_one x g p w = λ k n.
      ap (λ o. left_for k x.binding x.value o n) g
      ∙ (ap (λ bs. left_for k bs x.value None n) p
      ∙ (ap (λ t. left_for k (pairs_of σ) t None n) w
      ∙ (ap (λ τ. left_of_choices P (levels P b.limit k) (pattern_in (rest_of (rules_of b) e i)) (rest_of (rules_of b) e (suc i)) τ (tree_at nodes v.0) None n)
      (pairs_bound nodes σ.variables.items σ.values.items)
      ∙ ap (λ r. r n) (unchosen_begun (rules_of b) k e i (bound_in nodes σ) (tree_at nodes v.0)))))

  pub begun_value : (r : Result (Choices M) Failed) → IfOk r (λ x. given_whole x.listing ≡ None) → IfOk r (λ x. x.binding ≡ pairs_of σ) → IfOk r (λ x. x.value ≡ v) →
      IfOk r (IsUnchosen words e i (bound_in nodes σ) (tree_at nodes v.0))
  begun_value (Ok x) g p w = begun_one x g p w
  begun_value (Err d) g p w = tt

  pub begun_same : (r : Result (Choices M) Failed) → IfOk r (λ x. x.binding ≡ pairs_of σ) → IfOk r (λ x. x.value ≡ v) →
      IfOk r (λ x. (words.chosen_from x ≡ bound_in nodes σ) × (words.chosen_value x ≡ tree_at nodes v.0))
  begun_same (Ok x) p w = (ap (binding_in nodes) p ∙ pairs_bound nodes σ.variables.items σ.values.items, ap (λ (t : TermId). tree_at nodes t.0) w)
  begun_same (Err d) p w = tt

  pub begun_known : (pattern : Tree) → pattern_in (rest_of (rules_of b) e i) ≡ pattern → Asks (rules_of b) e i Goals.Matching → (r : Result (Choices M) Failed) →
      IfOk r (λ x. x.binding ≡ pairs_of σ) →
      IfOk r (λ x. IsChoosing b.program.sig nodes table pattern x.binding x.value (asked_whole x.listing) (given_whole x.listing) (is_for_whole x.listing b.program.sig)) →
      IfOk r (AreKnownChoices c asked given is_for asked_whole given_whole is_for_whole b nodes table e i)
  begun_known pattern q k (Ok x) p choosing = record {
    asks = k;
    choosing = subst (λ t. IsChoosing b.program.sig nodes table t x.binding x.value (asked_whole x.listing) (given_whole x.listing) (is_for_whole x.listing b.program.sig)) (sym q) choosing;
    variables = ap (map (λ (y : VarId × TermId). variable_of y.0)) p ∙ all_variables b nodes table e i σ h;
    bound = h.bound;
  }
  begun_known pattern q k (Err d) p choosing = tt

-- ---- the next one

-- as it is asked
pub asked_for : {L M : Type 0} (c : Bool) (asked : L → Asked) (given : L → Option Solution) (is_for : L → SignatureOf → Type 0)
    (asked_whole : M → Asked) (given_whole : M → Option Solution) (is_for_whole : M → SignatureOf → Type 0) (b : Basis) (nodes : List Node) (table : Table)
    (e i : ℕ) (p u : Bare) → slice_get (written_at b e) i ≡ Some (Match p u) → (x : Choices M) → AreKnownChoices c asked given is_for asked_whole given_whole is_for_whole b nodes table e i x →
    IsChoosing b.program.sig nodes table (tree_of p) x.binding x.value (asked_whole x.listing) (given_whole x.listing) (is_for_whole x.listing b.program.sig)
asked_for c asked given is_for asked_whole given_whole is_for_whole b nodes table e i p u at x k =
    subst (λ t. IsChoosing b.program.sig nodes table t x.binding x.value (asked_whole x.listing) (given_whole x.listing) (is_for_whole x.listing b.program.sig)) (pattern_is b e i p u at) k.choosing

module _ {L M : Type 0} (c : Bool) (asked : L → Asked) (given : L → Option Solution) (is_for : L → SignatureOf → Type 0)
    (asked_whole : M → Asked) (given_whole : M → Option Solution) (is_for_whole : M → SignatureOf → Type 0) (b : Basis) (old new : List Node) (before after : Table)
    (begun : Bool) (h : ComesOf b b old new before after begun) (e i : ℕ) (p u : Bare) (at : slice_get (written_at b e) i ≡ Some (Match p u)) (x x' : Choices M)
    (is : AreKnownChoices c asked given is_for asked_whole given_whole is_for_whole b old before e i x) (same_binding : x'.binding ≡ x.binding) (same_value : x'.value ≡ x.value) where
  abbrev words_now : Words (Candidates L) (Choices M) Kept Sorting
  words_now = words_of c asked given is_for asked_whole given_whole is_for_whole b new after

  abbrev Q : Program
  Q = program_over b.program b.hooks

  abbrev behind_it : List Evaluated.Fragment
  behind_it = rest_of (rules_of b) e (suc i)

  -- as they are told of
  abbrev left_in : ℕ → List Node → Option Solution → Run (Option Binding)
  left_in k nodes o = left_of_choices Q (levels Q b.limit k) (tree_of p) behind_it (binding_in old x.binding) (tree_at old x.value.0) (option_map (solution_in nodes) o)

  pattern_so : pattern_in (rest_of (rules_of b) e i) ≡ tree_of p
  pattern_so = pattern_is b e i p u at

  unchosen_was : (k n : ℕ) → words_now.unchosen x k e i n ≡ left_in k old (given_whole x.listing) n
  unchosen_was k n =
      ap (λ r. r n)
      (left_same b.program.sig old new before after (pattern_in (rest_of (rules_of b) e i)) x.binding x.value (asked_whole x.listing) (given_whole x.listing) (is_for_whole x.listing b.program.sig)
      h.extends h.kept h.derived.over is.choosing Q (levels Q b.limit k) behind_it)
      ∙ ap (λ t. left_of_choices Q (levels Q b.limit k) t behind_it (binding_in old x.binding) (tree_at old x.value.0) (option_map (solution_in old) (given_whole x.listing)) n) pattern_so

  binding_so : binding_in new x.binding ≡ binding_in old x.binding
  binding_so =
      binding_same b.program.sig old new before after (pattern_in (rest_of (rules_of b) e i)) x.binding x.value (asked_whole x.listing) (given_whole x.listing) (is_for_whole x.listing b.program.sig)
      h.extends h.kept h.derived.over is.choosing

  value_so : tree_at new x.value.0 ≡ tree_at old x.value.0
  value_so =
      value_same b.program.sig old new before after (pattern_in (rest_of (rules_of b) e i)) x.binding x.value (asked_whole x.listing) (given_whole x.listing) (is_for_whole x.listing b.program.sig)
      h.extends h.kept h.derived.over is.choosing

  from_same : binding_in new x'.binding ≡ binding_in old x.binding
  from_same = ap (binding_in new) same_binding ∙ binding_so

  value_now : tree_at new x'.value.0 ≡ tree_at old x.value.0
  value_now = ap (λ (t : TermId). tree_at new t.0) same_value ∙ value_so

  unchosen_now : (k : ℕ) → words_now.unchosen x' k e i ≡ left_in k new (given_whole x'.listing)
  unchosen_now k =
      ap (λ t. left_of_choices Q (levels Q b.limit k) t behind_it (binding_in new x'.binding) (tree_at new x'.value.0) (option_map (solution_in new) (given_whole x'.listing))) pattern_so
      ∙ (ap (λ σ. left_of_choices Q (levels Q b.limit k) (tree_of p) behind_it σ (tree_at new x'.value.0) (option_map (solution_in new) (given_whole x'.listing))) from_same
      ∙ ap (λ t. left_of_choices Q (levels Q b.limit k) (tree_of p) behind_it (binding_in old x.binding) t (option_map (solution_in new) (given_whole x'.listing))) value_now)

  -- there is none
  pub none_next : (o : Option (List (VarId × TermId))) (r : Option Kept) → option_map pairs_of r ≡ o →
      IfNone o (ComesTo Q (λ k. left_in k old (given_whole x.listing)) (λ k. gives None)) → IfNone r (IsKnownBy Q (λ k. words_now.unchosen x k e i) None)
  none_next o (Some σ) q f = tt
  none_next None None q f = leads_of (comes_from unchosen_was f)
  none_next (Some τ) None q f = absurd (cc q)

  some_one : (σ : Kept) (τ : List (VarId × TermId)) → pairs_of σ ≡ τ →
      ComesTo Q (λ k. left_in k old (given_whole x.listing)) (λ k. or_else (solve Q (levels Q b.limit k) behind_it (binding_in new τ)) (left_in k new (given_whole x'.listing))) →
      LeadsTo Q (λ k. words_now.unchosen x k e i) (λ k n. or_go_on (words_now.unchosen x' k e i) (solve_on (rules_of b) k e (suc i) (bound_in new σ) n))
  some_one σ τ q f =
      leads_of (comes_from unchosen_was (comes_as f (λ k n.
      ap (λ r. or_go_on r (solve Q (levels Q b.limit k) behind_it (binding_in new τ) n)) (sym (unchosen_now k))
      ∙ ap (λ ρ. or_go_on (words_now.unchosen x' k e i) (solve Q (levels Q b.limit k) behind_it ρ n)) (sym (bound_pairs new σ τ q)))))

  pub some_next : (o : Option (List (VarId × TermId))) (r : Option Kept) → option_map pairs_of r ≡ o →
      IfSome o (λ τ. ComesTo Q (λ k. left_in k old (given_whole x.listing)) (λ k. or_else (solve Q (levels Q b.limit k) behind_it (binding_in new τ)) (left_in k new (given_whole x'.listing)))) →
      IfSome r (λ σ. LeadsTo Q (λ k. words_now.unchosen x k e i) (λ k n. or_go_on (words_now.unchosen x' k e i) (solve_on (rules_of b) k e (suc i) (bound_in new σ) n)))
  some_next o None q f = tt
  some_next None (Some σ) q f = absurd (cc q)
  some_next (Some τ) (Some σ) q f = let same : pairs_of σ ≡ τ = cc in some_one σ τ same f

  -- it goes on from the same binding
  pub from_now : (r : Option Kept) → IfSome r (λ σ. (words_now.chosen_from x' ≡ words_now.chosen_from x) × (words_now.chosen_value x' ≡ words_now.chosen_value x))
  from_now None = tt
  from_now (Some σ) = (ap (binding_in new) same_binding, ap (λ (t : TermId). tree_at new t.0) same_value)

  -- by it the pattern has the value
  pub choice_one : (σ : Kept) (τ : List (VarId × TermId)) → pairs_of σ ≡ τ → IsExtension (binding_in old x.binding) (binding_in new τ) →
      ((υ : Binding) → IsExtension (binding_in new τ) υ → norm (theory_at b.program.sig) (instance (look_up υ) (tree_of p)) ≡ tree_at old x.value.0) → IsChoiceOf words_now e i x (bound_in new σ)
  choice_one σ τ q more solves =
      let same = bound_pairs new σ τ q in (
        subst (λ ρ. IsExtension ρ (bound_in new σ)) (sym binding_so) (subst (IsExtension (binding_in old x.binding)) (sym same) more),
        λ υ d.
            ap (λ t. norm (theory_at b.program.sig) (instance (look_up υ) t)) pattern_so
            ∙ (solves υ (subst (λ ρ. IsExtension ρ υ) same d) ∙ sym value_so),
      )

  pub choice_next : (o : Option (List (VarId × TermId))) (r : Option Kept) → option_map pairs_of r ≡ o → IfSome o (λ τ. IsExtension (binding_in old x.binding) (binding_in new τ)) →
      IfSome o (λ τ. (υ : Binding) → IsExtension (binding_in new τ) υ → norm (theory_at b.program.sig) (instance (look_up υ) (tree_of p)) ≡ tree_at old x.value.0) →
      IfSome r (λ σ. IsChoiceOf words_now e i x (bound_in new σ))
  choice_next o None q more solves = tt
  choice_next None (Some σ) q more solves = absurd (cc q)
  choice_next (Some τ) (Some σ) q more solves = let same : pairs_of σ ≡ τ = cc in choice_one σ τ same more solves

  -- ---- behind a solution of the condition

  own_was : (last : Binding) (k n : ℕ) → choose_after (rules_of b) last k e i (words_now.chosen_from x) (words_now.chosen_value x) n
      ≡ behind_own Q (levels Q b.limit k) (tree_of p) behind_it last (binding_in old x.binding) (tree_at old x.value.0) n
  own_was last k n =
      sym (own_begun (rules_of b) last k e i (binding_in new x.binding) (tree_at new x.value.0) n)
      ∙ (ap (λ t. behind_own Q (levels Q b.limit k) t behind_it last (binding_in new x.binding) (tree_at new x.value.0) n) pattern_so
      ∙ (ap (λ σ. behind_own Q (levels Q b.limit k) (tree_of p) behind_it last σ (tree_at new x.value.0) n) binding_so
      ∙ ap (λ t. behind_own Q (levels Q b.limit k) (tree_of p) behind_it last (binding_in old x.binding) t n) value_so))

  pub own_next : (l now : Binding) → now ≡ l → (σ : Kept) (τ : List (VarId × TermId)) → pairs_of σ ≡ τ →
      ComesTo Q (λ k. behind_own Q (levels Q b.limit k) (tree_of p) behind_it l (binding_in old x.binding) (tree_at old x.value.0))
      (λ k. or_else (solve_after Q (levels Q b.limit k) l behind_it (binding_in new τ)) (left_in k new (given_whole x'.listing))) →
      LeadsTo Q (λ k. choose_after (rules_of b) now k e i (words_now.chosen_from x) (words_now.chosen_value x))
      (λ k n. or_go_on (words_now.unchosen x' k e i) (solve_from (rules_of b) (Some now) k e (suc i) (bound_in new σ) n))
  own_next l now same σ τ q f =
      subst (λ z. LeadsTo Q (λ k. choose_after (rules_of b) z k e i (words_now.chosen_from x) (words_now.chosen_value x))
      (λ k n. or_go_on (words_now.unchosen x' k e i) (solve_from (rules_of b) (Some z) k e (suc i) (bound_in new σ) n))) (sym same)
      (leads_of (comes_from (own_was l) (comes_as f (λ k n.
      ap (λ r. or_go_on r (solve_after Q (levels Q b.limit k) l behind_it (binding_in new τ) n)) (sym (unchosen_now k))
      ∙ ap (λ ρ. or_go_on (words_now.unchosen x' k e i) (solve_after Q (levels Q b.limit k) l behind_it ρ n)) (sym (bound_pairs new σ τ q))))))

  -- what is known then
  pub known_one : (σ : Kept) (τ : List (VarId × TermId)) → pairs_of σ ≡ τ → length σ.variables.items ≡ length σ.values.items → All (IsValueOf b.program.sig new after) τ →
      map (λ (y : VarId × TermId). variable_of y.0) τ ≡ add_variables (map (λ (y : VarId × TermId). variable_of y.0) x.binding) (tree_of p) → IsKnownBinding b new after e (suc i) σ
  known_one σ τ q n values added =
      let all : All (IsValueOf b.program.sig new after) (pairs_of σ) = subst (All (IsValueOf b.program.sig new after)) (sym q) values in
      let from = from_place (written_at b e) i (Match p u) at in
      record {
        values = record {
          one_each = sym n;
          within = paired_within b.program.sig new after σ.variables.items σ.values.items n all;
          kinds = paired_kinds b.program.sig new after σ.variables.items σ.values.items n all;
        };
        variables =
            sym (variables_paired σ.variables.items σ.values.items n)
            ∙ (ap (map (λ (y : VarId × TermId). variable_of y.0)) q
            ∙ (added
            ∙ (ap (λ ys. add_variables ys (tree_of p)) is.variables
            ∙ sym (bound_next b e i (Match p u) (drop (suc i) (written_at b e)) from))));
        sorts = paired_sorts b.program.sig new after σ.variables.items σ.values.items n all;
        bound = (bound_on b e i (Match p u) (drop (suc i) (written_at b e)) from is.bound).1;
      }

  pub choices_still : IsChoosing b.program.sig new after (tree_of p) x.binding x.value (asked_whole x'.listing) (given_whole x'.listing) (is_for_whole x'.listing b.program.sig) →
      AreKnownChoices c asked given is_for asked_whole given_whole is_for_whole b new after e i x'
  choices_still choosing = record {
    asks = is.asks;
    choosing =
        subst (λ t. IsChoosing b.program.sig new after t x'.binding x'.value (asked_whole x'.listing) (given_whole x'.listing) (is_for_whole x'.listing b.program.sig)) (sym pattern_so)
        (subst (λ bs. IsChoosing b.program.sig new after (tree_of p) bs x'.value (asked_whole x'.listing) (given_whole x'.listing) (is_for_whole x'.listing b.program.sig)) (sym same_binding)
        (subst (λ t. IsChoosing b.program.sig new after (tree_of p) x.binding t (asked_whole x'.listing) (given_whole x'.listing) (is_for_whole x'.listing b.program.sig)) (sym same_value) choosing));
    variables = ap (map (λ (y : VarId × TermId). variable_of y.0)) same_binding ∙ is.variables;
    bound = is.bound;
  }

  pub known_next : (o : Option (List (VarId × TermId))) (r : Option Kept) → option_map pairs_of r ≡ o → IfSome r (λ σ. length σ.variables.items ≡ length σ.values.items) →
      IfSome o (All (IsValueOf b.program.sig new after)) →
      IfSome o (λ τ. map (λ (y : VarId × TermId). variable_of y.0) τ ≡ add_variables (map (λ (y : VarId × TermId). variable_of y.0) x.binding) (tree_of p)) →
      IsChoosing b.program.sig new after (tree_of p) x.binding x.value (asked_whole x'.listing) (given_whole x'.listing) (is_for_whole x'.listing b.program.sig) →
      IfSome r (λ σ. AreKnownChoices c asked given is_for asked_whole given_whole is_for_whole b new after e i x' × IsKnownBinding b new after e (suc i) σ)
  known_next o None q n values added choosing = tt
  known_next None (Some σ) q n values added choosing = absurd (cc q)
  known_next (Some τ) (Some σ) q n values added choosing = let same : pairs_of σ ≡ τ = cc in (choices_still choosing, known_one σ τ same n values added)
