-- One turn of the search for the solutions of argument patterns.
use Rattle.std.proofs.Common.{◌≡◌, ◌≤◌, ◌<◌, ℕ, zero, suc, get_or, List, [], ◌∷◌, ◌++◌, length, Bool, true, false, Option, Some, None, IsSome, IfSome, Result, Ok, Err, slice_get, arith, refl, sym, ap, ap₂, ◌∙◌, subst}
use Rattle.std.specs.Option.{option_map}
use Rattle.mau_terms.specs.Tree.{Tree}
use Rattle.mau_terms.specs.Subst.{Variable}
use Rattle.mau_terms.specs.declared.ids.TermId.{TermId}
use Rattle.mau_terms.specs.declared.ids.VarId.{VarId}
use Rattle.mau_signature.specs.Signature.{SignatureOf}
use Rattle.mau_store.specs.Node.{Node, Extends}
use Rattle.mau_store.specs.Trees.{tree_at, trees_at}
use Rattle.mau_store.specs.View.{numbers}
use Rattle.mau_sorts.specs.Table.{Table, KeepsEntries, AreOver}
use Rattle.mau_listing.specs.Asked.{Asked}
use Rattle.mau_listing.specs.declared.solution.Solution as Listed
use Rattle.mau_program.specs.declared.program.Program as Typed
use Rattle.mau_evaluation.specs.Run.{End}
use Rattle.mau_evaluation.specs.Program.{Program}
use Rattle.mau_evaluation.specs.Evaluation.{Binding}
use Rattle.mau_evaluation.specs.Engine.{Engine, engine_of}
use Rattle.mau_evaluation.specs.Answers.{Answers, no_more, ends_by, answer, and_those, for_each}
use Rattle.mau_evaluation.specs.OrderedLists.{argument_solutions}
use Rattle.mau_api.specs.Programs.{rule_of, program_over}
use Rattle.mau_api.specs.Meanings.{Meanings}
use Rattle.mau_api.specs.Answers.{binding_in}
use Rattle.mau_api.specs.declared.results.EvalEnd.{EvalEnd}
use Rattle.mau_rules.specs.Runnable.{GoesBy}
use Rattle.mau_leaves.specs.Steps.{Gives, IsOver, Passes, Throughout}
use Rattle.mau_leaves.specs.Uses.{behind}
use Rattle.mau_leaves.specs.Answers.{IsDueBy}
use Rattle.mau_leaves.specs.Searches.{stand_of, found_in, last_in, variables_in, IsNextOne}
use Rattle.mau_leaves.specs.InTurn.{just}
use Rattle.mau_leaves.specs.Arguments.{AreBound, due_under, last_found, left_matched, matched_left, left_behind_all, left_of_arguments, IsPatternSearch, AreSearches, IsArgumentSearch, IsDeeper}
use Rattle.mau_leaves.specs.declared.uses.Standing.{Standing}
use Rattle.mau_leaves.specs.declared.uses.Standing.TheVariants.{Behind}
use Rattle.mau_leaves.specs.declared.arguments.PatternSearch.{PatternSearch}
use Rattle.mau_leaves.specs.declared.arguments.ArgumentSearch.{ArgumentSearch}
use Rattle.mau_leaves.proofs.Steps.{through_always}
use Rattle.mau_leaves.proofs.Within.{just_same, step_inside, due_inside, passes_inside}
use Rattle.mau_leaves.proofs.Matching.{patterns_in_turn}
use Rattle.mau_leaves.proofs.Stacks.{reached, bound_reached, rest_at, rest_of, rest_none, rest_values, AreNoMore, variables_after, found_last, bound_behind, bound_is, around, in_parts, in_whole, around_ends, around_answer, no_more_searches, first_searches, last_searches, both_searches, IsLast, the_last, one_search, searches_grown, around_same}

-- ---- where solutions are due

module _ {K : Type 0} (asked : K → Asked) (given : K → Option Listed.Solution) (is_for : K → SignatureOf → Type 0) (c : Bool) (p : Typed.Program) (m : Meanings) (nodes : List Node) (table : Table) (ps : List Tree) (ids : List TermId)
    (ws : List (PatternSearch K)) (is : AreSearches asked given is_for c p m nodes table [] ps ids ws) where
  abbrev P : Program
  P = program_over p m.hooks

  abbrev vs : List Tree
  vs = trees_at nodes (numbers ids)

  abbrev Left : Bool → List (PatternSearch K) → Engine → Answers Binding
  Left due us = left_behind_all asked given p m.hooks nodes due ps vs (Some []) us

  fits : AreNoMore ps vs ws
  fits = no_more_searches asked given is_for c p m nodes table nodes [] ps ids ws is

  -- none is due any more
  idle : (L : Engine) → Left false ws L ≡ around asked given p m.hooks nodes ps vs ws no_more L
  idle L = in_whole asked given p m.hooks nodes L false ps vs (Some []) ws

  no_values : length ids ≤ length ws → rest_of vs ws ≡ []
  no_values h = rest_values nodes ids ws ∙ ap (λ (js : List TermId). trees_at nodes (numbers js)) (rest_none ids ws h)

  module _ (found : List (VarId × TermId)) (at : last_found ws ≡ Some found) where
    bound_found : bound_behind asked given p m.hooks nodes (Some []) ws ≡ Some (binding_in nodes found)
    bound_found = bound_is asked given p m.hooks nodes (Some []) ws ∙ ap (option_map (binding_in nodes)) at

    due_now : (L : Engine) (qs us : List Tree) → rest_of ps ws ≡ qs → rest_of vs ws ≡ us → Left true ws L ≡ around asked given p m.hooks nodes ps vs ws (argument_solutions P L qs us (binding_in nodes found)) L
    due_now L qs us e h =
        in_whole asked given p m.hooks nodes L true ps vs (Some []) ws
        ∙ ((λ i. around asked given p m.hooks nodes ps vs ws (due_under P L true (bound_found i) (rest_of ps ws) (rest_of vs ws)) L)
        ∙ (λ i. around asked given p m.hooks nodes ps vs ws (argument_solutions P L (e i) (h i) (binding_in nodes found)) L))

    -- all patterns were gone through
    pub found_turn : length ps ≤ length ws → length ids ≤ length ws →
        Throughout (engine_of (program_over p m.hooks)) (just (left_behind_all asked given p m.hooks nodes true ps (trees_at nodes (numbers ids)) (Some []) ws)) (λ L.
        Gives (just (left_behind_all asked given p m.hooks nodes true ps (trees_at nodes (numbers ids)) (Some []) ws) L) (binding_in nodes found)
        (just (left_behind_all asked given p m.hooks nodes false ps (trees_at nodes (numbers ids)) (Some []) ws) L))
    found_turn h k =
        through_always (engine_of P) (just (Left true ws)) {H = λ L. Gives (just (Left true ws) L) (binding_in nodes found) (just (Left false ws) L)}
        (λ L q n. (
          Left false ws L,
          n ∙ (due_now L [] [] (rest_none ps ws h) (no_values k) ∙ (around_answer asked given p m.hooks nodes L (binding_in nodes found) no_more ps vs ws fits ∙ ap (answer (binding_in nodes found)) (sym (idle L)))),
          refl,
        ))

    abbrev PassesOver : Type 0
    PassesOver =
        Throughout (engine_of (program_over p m.hooks)) (just (left_behind_all asked given p m.hooks nodes true ps (trees_at nodes (numbers ids)) (Some []) ws)) (λ L.
        Passes (just (left_behind_all asked given p m.hooks nodes true ps (trees_at nodes (numbers ids)) (Some []) ws) L) (just (left_behind_all asked given p m.hooks nodes false ps (trees_at nodes (numbers ids)) (Some []) ws) L))

    -- there are more values than patterns, or more patterns than values
    pub more_values_turn : length ps ≤ length ws → (v : Tree) (us : List Tree) → rest_of (trees_at nodes (numbers ids)) ws ≡ v ∷ us → PassesOver
    more_values_turn h v us e = just_same (engine_of P) (Left true ws) (Left false ws) (λ L. due_now L [] (v ∷ us) (rest_none ps ws h) e ∙ sym (idle L))

    pub more_patterns_turn : (q : Tree) (qs : List Tree) → rest_of ps ws ≡ q ∷ qs → length ids ≤ length ws → PassesOver
    more_patterns_turn q qs e h = just_same (engine_of P) (Left true ws) (Left false ws) (λ L. due_now L (q ∷ qs) [] e (no_values h) ∙ sym (idle L))

    -- the next pattern is begun
    pub deeper_turn : (q : Tree) (qs : List Tree) (v : TermId) (js : List TermId) → rest_of ps ws ≡ q ∷ qs → rest_of ids ws ≡ v ∷ js → (next : PatternSearch K) →
        IsPatternSearch asked given is_for c p m nodes table (variables_in found) q v next → next.uses.bound.items ≡ found → given next.uses.listing ≡ None →
        Throughout (engine_of (program_over p m.hooks)) (just (left_behind_all asked given p m.hooks nodes true ps (trees_at nodes (numbers ids)) (Some []) ws)) (λ L.
        Passes (just (left_behind_all asked given p m.hooks nodes true ps (trees_at nodes (numbers ids)) (Some []) ws) L)
        (just (left_behind_all asked given p m.hooks nodes false ps (trees_at nodes (numbers ids)) (Some []) (ws ++ next ∷ [])) L))
    deeper_turn q qs v js e h next search bound begun = just_same (engine_of P) (Left true ws) (Left false (ws ++ next ∷ [])) same
      where
        values : rest_of vs ws ≡ tree_at nodes v.0 ∷ trees_at nodes (numbers js)
        values = rest_values nodes ids ws ∙ ap (λ (is : List TermId). trees_at nodes (numbers is)) h

        matched : (L : Engine) → matched_left asked given p m.hooks nodes next L ≡ left_matched P L (rule_of next.rule) (binding_in nodes found) (tree_at nodes v.0) (behind None)
        matched L = λ i. left_matched P L (rule_of next.rule) (binding_in nodes (bound i)) (tree_at nodes (search.subject i).0) (stand_of nodes (begun i) next.uses.standing)

        own : (L : Engine) → for_each (argument_solutions P L qs (trees_at nodes (numbers js))) (matched_left asked given p m.hooks nodes next L) ≡
            argument_solutions P L (q ∷ qs) (tree_at nodes v.0 ∷ trees_at nodes (numbers js)) (binding_in nodes found)
        own L =
            ap (for_each (argument_solutions P L qs (trees_at nodes (numbers js)))) (matched L)
            ∙ (patterns_in_turn P L (rule_of next.rule) qs (trees_at nodes (numbers js)) (tree_at nodes v.0) (binding_in nodes found)
            ∙ ap (λ t. argument_solutions P L (t ∷ qs) (tree_at nodes v.0 ∷ trees_at nodes (numbers js)) (binding_in nodes found)) search.rule.left)

        begins : (L : Engine) → Left false (ws ++ next ∷ []) L ≡
            around asked given p m.hooks nodes ps vs ws (for_each (argument_solutions P L qs (trees_at nodes (numbers js))) (matched_left asked given p m.hooks nodes next L)) L
        begins L =
            in_parts asked given p m.hooks nodes L false ps vs (Some []) ws (next ∷ [])
            ∙ (λ i. around asked given p m.hooks nodes ps vs ws (left_behind_all asked given p m.hooks nodes false (e i) (values i) (bound_behind asked given p m.hooks nodes (Some []) ws) (next ∷ []) L) L)

        same : (L : Engine) → Left true ws L ≡ Left false (ws ++ next ∷ []) L
        same L =
            due_now L (q ∷ qs) (tree_at nodes v.0 ∷ trees_at nodes (numbers js)) e values
            ∙ (ap (λ a. around asked given p m.hooks nodes ps vs ws a L) (sym (own L)) ∙ sym (begins L))

-- ---- where none is due

module _ {K : Type 0} (asked : K → Asked) (given : K → Option Listed.Solution) (is_for : K → SignatureOf → Type 0) (c : Bool) (p : Typed.Program) (m : Meanings) (old new : List Node) (before after : Table) (extends : Extends old new)
    (kept : KeepsEntries before after) (ps : List Tree) (ids : List TermId) (ws : List (PatternSearch K)) (w : PatternSearch K) (is : AreSearches asked given is_for c p m old before [] ps ids (ws ++ w ∷ [])) where
  abbrev S : Program
  S = program_over p m.hooks

  abbrev olds : List Tree
  olds = trees_at old (numbers ids)

  abbrev Stand_ : List Node → Bool → List (PatternSearch K) → Engine → Answers Binding
  Stand_ nodes due us = left_behind_all asked given p m.hooks nodes due ps olds (Some []) us

  firsts : AreSearches asked given is_for c p m old before [] ps ids ws
  firsts = first_searches asked given is_for c p m old before [] ps ids ws (w ∷ []) is

  pub last_one : IsLast asked given is_for c p m old before (variables_after [] ps ws) (rest_of ps ws) (rest_of ids ws) w
  last_one = the_last asked given is_for c p m old before (variables_after [] ps ws) (rest_of ps ws) (rest_of ids ws) w (last_searches asked given is_for c p m old before [] ps ids ws (w ∷ []) is)

  abbrev lasts : List TermId
  lasts = last_one.values

  fits_old : AreNoMore ps olds ws
  fits_old = no_more_searches asked given is_for c p m old before old [] ps ids ws firsts

  values : rest_of olds ws ≡ tree_at old last_one.value.0 ∷ trees_at old (numbers last_one.values)
  values = rest_values old ids ws ∙ ap (λ (is : List TermId). trees_at old (numbers is)) last_one.value_first

  -- what the last pattern's solutions lead to
  abbrev F : Engine → Binding → Answers Binding
  F L = argument_solutions S L last_one.patterns (trees_at old (numbers last_one.values))

  abbrev T : Engine → Answers Binding → Answers Binding
  T L a = around asked given p m.hooks old ps olds ws (for_each (F L) a) L

  strict : (L : Engine) (e : End) → T L (ends_by e) ≡ ends_by e
  strict L e = around_ends asked given p m.hooks old L e ps olds ws fits_old

  at_last : (nodes : List Node) (L : Engine) (due : Bool) (x : PatternSearch K) → Stand_ nodes due (ws ++ x ∷ []) L ≡
      around asked given p m.hooks nodes ps olds ws (and_those (due_under S L due (last_in nodes x.uses.standing) last_one.patterns (trees_at old (numbers last_one.values))) (for_each (F L) (matched_left asked given p m.hooks nodes x L))) L
  at_last nodes L due x =
      in_parts asked given p m.hooks nodes L due ps olds (Some []) ws (x ∷ [])
      ∙ (λ i. around asked given p m.hooks nodes ps olds ws (left_behind_all asked given p m.hooks nodes due (last_one.first i) (values i) (bound_behind asked given p m.hooks nodes (Some []) ws) (x ∷ []) L) L)

  -- in the new store
  around_new : (L : Engine) (a : Answers Binding) → around asked given p m.hooks new ps olds ws a L ≡ around asked given p m.hooks old ps olds ws a L
  around_new L a = ap (λ (f : Engine → Answers Binding). f L) (around_same asked given is_for c p m old new before after extends kept olds [] ps ids ws firsts a)

  begun_as : (λ (L : Engine). T L (matched_left asked given p m.hooks old w L)) ≡ Stand_ old false (ws ++ w ∷ [])
  begun_as = λ i L. sym (at_last old L false w) i

  module _ (w' : PatternSearch K) where
    abbrev M : Engine → Answers Binding
    M = matched_left asked given p m.hooks old w

    abbrev M' : Engine → Answers Binding
    M' = matched_left asked given p m.hooks new w'

    -- one was found
    pub found_next : (σ : Binding) → last_in new w'.uses.standing ≡ Some σ → Throughout (engine_of (program_over p m.hooks)) (just M) (λ L. Gives (just M L) σ (just M' L)) →
        Throughout (engine_of (program_over p m.hooks)) (just (left_behind_all asked given p m.hooks old false ps (trees_at old (numbers ids)) (Some []) (ws ++ w ∷ []))) (λ L.
        Passes (just (left_behind_all asked given p m.hooks old false ps (trees_at old (numbers ids)) (Some []) (ws ++ w ∷ [])) L)
        (just (left_behind_all asked given p m.hooks new true ps (trees_at old (numbers ids)) (Some []) (ws ++ w' ∷ [])) L))
    found_next σ at h =
        subst (λ (f : Engine → Answers Binding). Throughout (engine_of S) (just f) (λ L. Passes (just f L) (just (Stand_ new true (ws ++ w' ∷ [])) L))) begun_as
        (step_inside M T strict (engine_of S) {H = λ L. Gives (just M L) σ (just M' L)} {K = λ L. Passes (just (λ L. T L (M L)) L) (just (Stand_ new true (ws ++ w' ∷ [])) L)}
        (λ L k q n. n ∙ (then L (k (M L) refl) ∙ sym (found_is L))) h)
      where
        found_is : (L : Engine) → Stand_ new true (ws ++ w' ∷ []) L ≡ around asked given p m.hooks old ps olds ws (and_those (F L σ) (for_each (F L) (M' L))) L
        found_is L =
            at_last new L true w'
            ∙ ((λ i. around asked given p m.hooks new ps olds ws (and_those (due_under S L true (at i) last_one.patterns (trees_at old (numbers last_one.values))) (for_each (F L) (M' L))) L)
            ∙ around_new L (and_those (F L σ) (for_each (F L) (M' L))))

        then : (L : Engine) → (q : Answers Binding) × (M L ≡ answer σ q) × (q ≡ M' L) → T L (M L) ≡ around asked given p m.hooks old ps olds ws (and_those (F L σ) (for_each (F L) (M' L))) L
        then L (q, e, f) = ap (T L) e ∙ ap (λ z. around asked given p m.hooks old ps olds ws (and_those (F L σ) (for_each (F L) z)) L) f

    -- an end
    pub still_next : Throughout (engine_of (program_over p m.hooks)) (just M) (λ L. Passes (just M L) (just M' L)) →
        Throughout (engine_of (program_over p m.hooks)) (just (left_behind_all asked given p m.hooks old false ps (trees_at old (numbers ids)) (Some []) (ws ++ w ∷ []))) (λ L.
        Passes (just (left_behind_all asked given p m.hooks old false ps (trees_at old (numbers ids)) (Some []) (ws ++ w ∷ [])) L)
        (just (left_behind_all asked given p m.hooks new false ps (trees_at old (numbers ids)) (Some []) (ws ++ w' ∷ [])) L))
    still_next h =
        subst (λ (f : Engine → Answers Binding). Throughout (engine_of S) (just f) (λ L. Passes (just f L) (just (Stand_ new false (ws ++ w' ∷ [])) L))) begun_as
        (step_inside M T strict (engine_of S) {H = λ L. Passes (just M L) (just M' L)} {K = λ L. Passes (just (λ L. T L (M L)) L) (just (Stand_ new false (ws ++ w' ∷ [])) L)}
        (λ L k q n. n ∙ (ap (T L) (k (M L) refl) ∙ sym (at_last new L false w' ∙ around_new L (for_each (F L) (M' L))))) h)

  pub due_next : (b : ℕ) (e : EvalEnd) → IsDueBy (program_over p m.hooks) b (just (matched_left asked given p m.hooks old w)) e →
      IsDueBy (program_over p m.hooks) b (just (left_behind_all asked given p m.hooks old false ps (trees_at old (numbers ids)) (Some []) (ws ++ w ∷ []))) e
  due_next b e h = subst (λ (f : Engine → Answers Binding). IsDueBy S b (just f) e) begun_as (due_inside (matched_left asked given p m.hooks old w) T strict S b e h)

  -- there is no other: the searches before it are gone on with
  pub over_next : Throughout (engine_of (program_over p m.hooks)) (just (matched_left asked given p m.hooks old w)) (λ L. IsOver (just (matched_left asked given p m.hooks old w) L)) →
      Throughout (engine_of (program_over p m.hooks)) (just (left_behind_all asked given p m.hooks old false ps (trees_at old (numbers ids)) (Some []) (ws ++ w ∷ []))) (λ L.
      Passes (just (left_behind_all asked given p m.hooks old false ps (trees_at old (numbers ids)) (Some []) (ws ++ w ∷ [])) L) (just (left_behind_all asked given p m.hooks new false ps (trees_at old (numbers ids)) (Some []) ws) L))
  over_next h =
      subst (λ (f : Engine → Answers Binding). Throughout (engine_of S) (just f) (λ L. Passes (just f L) (just (Stand_ new false ws) L))) begun_as
      (step_inside (matched_left asked given p m.hooks old w) T strict (engine_of S) {H = λ L. IsOver (just (matched_left asked given p m.hooks old w) L)}
      {K = λ L. Passes (just (λ L. T L (matched_left asked given p m.hooks old w L)) L) (just (Stand_ new false ws) L)}
      (λ L k q n. n ∙ (ap (T L) (k (matched_left asked given p m.hooks old w L) refl) ∙ sym (in_whole asked given p m.hooks new L false ps olds (Some []) ws ∙ around_new L no_more))) h)

  -- what is known then
  pub searches_with : AreOver p.sig.hierarchy after → (w' : PatternSearch K) →
      ((xs : List Variable) (q : Tree) (v : TermId) → IsPatternSearch asked given is_for c p m old before xs q v w → IsPatternSearch asked given is_for c p m new after xs q v w') → AreSearches asked given is_for c p m new after [] ps ids (ws ++ w' ∷ [])
  searches_with over w' h =
      both_searches asked given is_for c p m new after [] ps ids ws (w' ∷ []) (searches_grown asked given is_for c p m old new before after extends kept over [] ps ids ws firsts)
      (one_search asked given is_for c p m new after (variables_after [] ps ws) (rest_of ps ws) (rest_of ids ws) last_one.pattern last_one.patterns last_one.value last_one.values w' last_one.first last_one.value_first
      (h (variables_after [] ps ws) last_one.pattern last_one.value last_one.known))

  pub searches_without : AreOver p.sig.hierarchy after → AreSearches asked given is_for c p m new after [] ps ids ws
  searches_without over = searches_grown asked given is_for c p m old new before after extends kept over [] ps ids ws firsts

-- ---- the same of a search

module _ {K : Type 0} (asked : K → Asked) (given : K → Option Listed.Solution) (is_for : K → SignatureOf → Type 0) (c : Bool) (p : Typed.Program) (m : Meanings) (goes : GoesBy p m) (nodes : List Node) (table : Table) (ps : List Tree) (ids : List TermId)
    (s : ArgumentSearch K) (due : s.due ≡ true) (is : IsArgumentSearch asked given is_for c p m nodes table ps ids s) where
  abbrev R : Program
  R = program_over p m.hooks

  abbrev js : List TermId
  js = ids

  abbrev us : List Tree
  us = trees_at nodes (numbers ids)

  abbrev held : List (PatternSearch K)
  held = s.searches.items

  some_found : (o : Option (List (VarId × TermId))) → IsSome o → (found : List (VarId × TermId)) × (o ≡ Some found)
  some_found None h = cc
  some_found (Some f) h = (f, refl)

  got : (found : List (VarId × TermId)) × (last_found s.searches.items ≡ Some found)
  got = some_found (last_found s.searches.items) (is.stands due)

  pub bound_got : IfSome (last_found s.searches.items) (AreBound p.sig nodes table)
  bound_got = subst (λ (o : Option (List (VarId × TermId))). IfSome o (AreBound p.sig nodes table)) (sym got.1) (bound_reached asked given is_for c p m nodes table goes ps ids s.searches.items is.searches got.0 got.1)

  abbrev GoesInto : ArgumentSearch K → Type 0
  GoesInto s' =
      Throughout (engine_of (program_over p m.hooks)) (just (left_of_arguments asked given p m.hooks nodes ps (trees_at nodes (numbers ids)) s)) (λ L.
      Passes (just (left_of_arguments asked given p m.hooks nodes ps (trees_at nodes (numbers ids)) s) L) (just (left_of_arguments asked given p m.hooks nodes ps (trees_at nodes (numbers ids)) s') L))

  was_due : left_behind_all asked given p m.hooks nodes true ps us (Some []) held ≡ left_of_arguments asked given p m.hooks nodes ps us s
  was_due = λ i. left_behind_all asked given p m.hooks nodes (sym due i) ps us (Some []) held

  goes_into : (s' : ArgumentSearch K) (xs : List (PatternSearch K)) → s'.searches.items ≡ xs → s'.due ≡ false → Throughout (engine_of R) (just (left_behind_all asked given p m.hooks nodes true ps us (Some []) held)) (λ L.
      Passes (just (left_behind_all asked given p m.hooks nodes true ps us (Some []) held) L) (just (left_behind_all asked given p m.hooks nodes false ps us (Some []) xs) L)) → GoesInto s'
  goes_into s' xs parts idle h =
      subst (λ (f : Engine → Answers Binding). Throughout (engine_of R) (just f) (λ L. Passes (just f L) (just (left_of_arguments asked given p m.hooks nodes ps us s') L))) was_due
      (subst (λ (g : Engine → Answers Binding). Throughout (engine_of R) (just (left_behind_all asked given p m.hooks nodes true ps us (Some []) held)) (λ L. Passes (just (left_behind_all asked given p m.hooks nodes true ps us (Some []) held) L) (just g L)))
      (λ i. left_behind_all asked given p m.hooks nodes (sym idle i) ps us (Some []) (sym parts i)) h)

  found_is : (f : List (VarId × TermId)) → last_found held ≡ Some f → got.0 ≡ f
  found_is f e = one (sym got.1 ∙ e)
    where
      one : Some got.0 ≡ Some f → got.0 ≡ f
      one k = cc

  module _ (q : Tree) (v : TermId) (pattern : slice_get ps (length s.searches.items) ≡ Some q) (value : slice_get ids (length s.searches.items) ≡ Some v) (s' : ArgumentSearch K) (deeper : IsDeeper asked given is_for c p m nodes table q v s s') where
    pub deeper_on : GoesInto s'
    deeper_on =
        let qs = rest_at ps held q pattern in
        let vs = rest_at ids held v value in
        goes_into s' (held ++ deeper.next ∷ []) deeper.searches deeper.due
        (deeper_turn asked given is_for c p m nodes table ps ids held is.searches deeper.found deeper.at q qs.0 v vs.0 qs.1 vs.1 deeper.next deeper.search deeper.bound deeper.begun.0)

    pub deeper_known : IsArgumentSearch asked given is_for c p m nodes table ps ids s'
    deeper_known =
        let qs = rest_at ps held q pattern in
        let vs = rest_at ids held v value in
        let r = reached asked given is_for c p m nodes table goes ps ids held is.searches deeper.found deeper.at in
        record {
          searches = subst (AreSearches asked given is_for c p m nodes table [] ps ids) (sym deeper.searches)
              (both_searches asked given is_for c p m nodes table [] ps ids held (deeper.next ∷ []) is.searches
              (one_search asked given is_for c p m nodes table (variables_after [] ps held) (rest_of ps held) (rest_of ids held) q qs.0 v vs.0 deeper.next qs.1 vs.1
              (subst (λ xs. IsPatternSearch asked given is_for c p m nodes table xs q v deeper.next) r.variables deeper.search)));
          stands = λ e. clash (sym deeper.due ∙ e);
        }
      where
        clash : {X : Type 0} → false ≡ true → X
        clash e = cc

  module _ (s' : ArgumentSearch K) (parts : s'.searches.items ≡ s.searches.items) (idle : s'.due ≡ false) where
    pub more_patterns_on : (q : Tree) → slice_get ps (length s.searches.items) ≡ Some q → length ids ≤ length s.searches.items → GoesInto s'
    more_patterns_on q pattern h =
        let qs = rest_at ps held q pattern in
        goes_into s' held parts idle (more_patterns_turn asked given is_for c p m nodes table ps ids held is.searches got.0 got.1 q qs.0 qs.1 h)

    pub more_values_on : length ps ≤ length s.searches.items → (v : TermId) → slice_get ids (length s.searches.items) ≡ Some v → GoesInto s'
    more_values_on h v value =
        let vs = rest_at ids held v value in
        goes_into s' held parts idle
        (more_values_turn asked given is_for c p m nodes table ps ids held is.searches got.0 got.1 h (tree_at nodes v.0) (trees_at nodes (numbers vs.0))
        (rest_values nodes ids held ∙ ap (λ (js : List TermId). trees_at nodes (numbers js)) vs.1))

    pub all_on : length ps ≤ length s.searches.items → length ids ≤ length s.searches.items → (σ : Binding) × (option_map (binding_in nodes) (last_found s'.searches.items) ≡ Some σ) ×
        Throughout (engine_of (program_over p m.hooks)) (just (left_of_arguments asked given p m.hooks nodes ps (trees_at nodes (numbers ids)) s)) (λ L.
        Gives (just (left_of_arguments asked given p m.hooks nodes ps (trees_at nodes (numbers ids)) s) L) σ (just (left_of_arguments asked given p m.hooks nodes ps (trees_at nodes (numbers ids)) s') L))
    all_on h k = (
      binding_in nodes got.0,
      ap (option_map (binding_in nodes)) (ap last_found parts ∙ got.1),
      subst (λ (f : Engine → Answers Binding). Throughout (engine_of R) (just f) (λ L. Gives (just f L) (binding_in nodes got.0) (just (left_of_arguments asked given p m.hooks nodes ps us s') L))) was_due
          (subst (λ (g : Engine → Answers Binding). Throughout (engine_of R) (just (left_behind_all asked given p m.hooks nodes true ps us (Some []) held)) (λ L.
          Gives (just (left_behind_all asked given p m.hooks nodes true ps us (Some []) held) L) (binding_in nodes got.0) (just g L)))
          (λ i. left_behind_all asked given p m.hooks nodes (sym idle i) ps us (Some []) (sym parts i)) (found_turn asked given is_for c p m nodes table ps ids held is.searches got.0 got.1 h k)),
    )

    pub idle_known : IsArgumentSearch asked given is_for c p m nodes table ps ids s'
    idle_known = record { searches = subst (AreSearches asked given is_for c p m nodes table [] ps ids) (sym parts) is.searches; stands = λ e. clash (sym idle ∙ e) }
      where
        clash : {X : Type 0} → false ≡ true → X
        clash e = cc

    pub all_gone : length ps ≤ length s.searches.items → length s'.searches.items ≡ length ps
    all_gone h = ap (λ (ws : List (PatternSearch K)). length ws) parts ∙ (let k = no_longer ps ids held (no_more_searches asked given is_for c p m nodes table nodes [] ps ids held is.searches) in omega (arith, k, h))
      where
        no_longer : (ps : List Tree) (ids : List TermId) (ws : List (PatternSearch K)) → AreNoMore ps (trees_at nodes (numbers ids)) ws → length ws ≤ length ps
        no_longer ps ids [] h = omega arith
        no_longer [] ids (w ∷ ws) h = absurd h
        no_longer (q ∷ ps) [] (w ∷ ws) h = absurd h
        no_longer (q ∷ ps) (id ∷ ids) (w ∷ ws) h = let k = no_longer ps ids ws h in omega (arith, k)

-- the same words
module _ {K : Type 0} (asked : K → Asked) (given : K → Option Listed.Solution) (is_for : K → SignatureOf → Type 0) (c : Bool) (p : Typed.Program) (m : Meanings) (nodes : List Node) (table : Table) (ps : List Tree) (ids : List TermId)
    (s s' : ArgumentSearch K) (parts : s'.searches.items ≡ s.searches.items) (due : s'.due ≡ s.due) where
  pub unchanged_on : Throughout (engine_of (program_over p m.hooks)) (just (left_of_arguments asked given p m.hooks nodes ps (trees_at nodes (numbers ids)) s)) (λ L.
      Passes (just (left_of_arguments asked given p m.hooks nodes ps (trees_at nodes (numbers ids)) s) L) (just (left_of_arguments asked given p m.hooks nodes ps (trees_at nodes (numbers ids)) s') L))
  unchanged_on =
      just_same (engine_of (program_over p m.hooks)) (left_of_arguments asked given p m.hooks nodes ps (trees_at nodes (numbers ids)) s) (left_of_arguments asked given p m.hooks nodes ps (trees_at nodes (numbers ids)) s')
      (λ L i. left_behind_all asked given p m.hooks nodes (sym due i) ps (trees_at nodes (numbers ids)) (Some []) (sym parts i) L)

  pub unchanged_known : IsArgumentSearch asked given is_for c p m nodes table ps ids s → IsArgumentSearch asked given is_for c p m nodes table ps ids s'
  unchanged_known is = record {
    searches = subst (AreSearches asked given is_for c p m nodes table [] ps ids) (sym parts) is.searches;
    stands = λ e. subst (λ (ws : List (PatternSearch K)). IsSome (last_found ws)) (sym parts) (is.stands (sym due ∙ e));
  }

-- what stands at a number
pub some_at : {A : Type 0} (xs : List A) (n : ℕ) → n < length xs → (x : A) × (slice_get xs n ≡ Some x)
some_at [] n h = absurd (omega (arith, h))
some_at (x ∷ xs) zero h = (x, refl)
some_at (x ∷ xs) (suc n) h = some_at xs n (omega (arith, h))

pub read_at : {A : Type 0} (xs : List A) (n : ℕ) → n < length xs → (d : A) → slice_get xs n ≡ Some (get_or xs n d)
read_at [] n h d = absurd (omega (arith, h))
read_at (x ∷ xs) zero h d = refl
read_at (x ∷ xs) (suc n) h d = read_at xs n (omega (arith, h)) d

-- the last one
pub known_last : {K : Type 0} (asked : K → Asked) (given : K → Option Listed.Solution) (is_for : K → SignatureOf → Type 0) (c : Bool) (p : Typed.Program) (m : Meanings) (nodes : List Node) (table : Table) (ps : List Tree) (ids : List TermId)
    (s : ArgumentSearch K) (ws : List (PatternSearch K)) (w : PatternSearch K) → s.searches.items ≡ ws ++ w ∷ [] → IsArgumentSearch asked given is_for c p m nodes table ps ids s →
    IsLast asked given is_for c p m nodes table (variables_after [] ps ws) (rest_of ps ws) (rest_of ids ws) w
known_last asked given is_for c p m nodes table ps ids s ws w parts is =
    the_last asked given is_for c p m nodes table (variables_after [] ps ws) (rest_of ps ws) (rest_of ids ws) w
    (last_searches asked given is_for c p m nodes table [] ps ids ws (w ∷ []) (subst (AreSearches asked given is_for c p m nodes table [] ps ids) parts is.searches))

-- ---- the same of a search whose last pattern is gone on with

module _ {K : Type 0} (asked : K → Asked) (given : K → Option Listed.Solution) (is_for : K → SignatureOf → Type 0) (c : Bool) (p : Typed.Program) (m : Meanings) (old new : List Node) (before after : Table) (extends : Extends old new)
    (kept : KeepsEntries before after) (over : AreOver p.sig.hierarchy after) (ps : List Tree) (ids : List TermId) (s : ArgumentSearch K) (idle : s.due ≡ false) (ws : List (PatternSearch K)) (w : PatternSearch K) (parts : s.searches.items ≡ ws ++ w ∷ [])
    (is : IsArgumentSearch asked given is_for c p m old before ps ids s) where
  abbrev Q : Program
  Q = program_over p m.hooks

  there : AreSearches asked given is_for c p m old before [] ps ids (ws ++ w ∷ [])
  there = subst (AreSearches asked given is_for c p m old before [] ps ids) parts is.searches

  abbrev given_values : List Tree
  given_values = trees_at old (numbers ids)

  was : left_behind_all asked given p m.hooks old false ps given_values (Some []) (ws ++ w ∷ []) ≡ left_of_arguments asked given p m.hooks old ps given_values s
  was = λ i. left_behind_all asked given p m.hooks old (sym idle i) ps given_values (Some []) (sym parts i)

  abbrev GoesOn : ArgumentSearch K → Type 0
  GoesOn s' =
      Throughout (engine_of (program_over p m.hooks)) (just (left_of_arguments asked given p m.hooks old ps (trees_at old (numbers ids)) s)) (λ L.
      Passes (just (left_of_arguments asked given p m.hooks old ps (trees_at old (numbers ids)) s) L) (just (left_of_arguments asked given p m.hooks new ps (trees_at old (numbers ids)) s') L))

  module _ (s' : ArgumentSearch K) (due' : Bool) (is_due : s'.due ≡ due') (xs : List (PatternSearch K)) (parts' : s'.searches.items ≡ xs) where
    abbrev Now : Engine → Answers Binding
    Now = left_behind_all asked given p m.hooks new due' ps given_values (Some []) xs

    goes_on : Throughout (engine_of Q) (just (left_behind_all asked given p m.hooks old false ps given_values (Some []) (ws ++ w ∷ []))) (λ L.
        Passes (just (left_behind_all asked given p m.hooks old false ps given_values (Some []) (ws ++ w ∷ [])) L) (just Now L)) → GoesOn s'
    goes_on h =
        subst (λ (f : Engine → Answers Binding). Throughout (engine_of Q) (just f) (λ L. Passes (just f L) (just (left_of_arguments asked given p m.hooks new ps given_values s') L))) was
        (subst (λ (g : Engine → Answers Binding). Throughout (engine_of Q) (just (left_behind_all asked given p m.hooks old false ps given_values (Some []) (ws ++ w ∷ []))) (λ L.
        Passes (just (left_behind_all asked given p m.hooks old false ps given_values (Some []) (ws ++ w ∷ [])) L) (just g L))) (λ i. left_behind_all asked given p m.hooks new (sym is_due i) ps given_values (Some []) (sym parts' i)) h)

  module _ (w' : PatternSearch K) where
    abbrev N : Engine → Answers Binding
    N = matched_left asked given p m.hooks old w

    abbrev N' : Engine → Answers Binding
    N' = matched_left asked given p m.hooks new w'

    module _ (s' : ArgumentSearch K) (parts' : s'.searches.items ≡ ws ++ w' ∷ [])
        (known : (xs : List Variable) (q : Tree) (v : TermId) → IsPatternSearch asked given is_for c p m old before xs q v w → IsPatternSearch asked given is_for c p m new after xs q v w') where
      searches_then : AreSearches asked given is_for c p m new after [] ps ids s'.searches.items
      searches_then = subst (AreSearches asked given is_for c p m new after [] ps ids) (sym parts') (searches_with asked given is_for c p m old new before after extends kept ps ids ws w there over w' known)

      found_search : (σ : Binding) → last_in new w'.uses.standing ≡ Some σ → IsArgumentSearch asked given is_for c p m new after ps ids s'
      found_search σ at = record {
        searches = searches_then;
        stands = λ e. subst (λ (o : Option (List (VarId × TermId))). IsSome o) (sym (ap last_found parts' ∙ found_last (Some []) ws w')) (some (found_in w'.uses.standing) at);
      }
        where
          some : (o : Option (List (VarId × TermId))) → option_map (binding_in new) o ≡ Some σ → IsSome o
          some None e = cc
          some (Some f) e = refl

      still_search : s'.due ≡ false → IsArgumentSearch asked given is_for c p m new after ps ids s'
      still_search due = record { searches = searches_then; stands = λ e. clash (sym due ∙ e) }
        where
          clash : {X : Type 0} → false ≡ true → X
          clash e = cc

    -- one was found, and is due
    pub found_on : (b : ℕ) (s' : ArgumentSearch K) → s'.searches.items ≡ ws ++ w' ∷ [] → s'.due ≡ true → IsNextOne (program_over p m.hooks) b (just N) (just N') (last_in new w'.uses.standing) (Ok true) → GoesOn s'
    found_on b s' parts' due (σ, at, h) = goes_on s' true due (ws ++ w' ∷ []) parts' (found_next asked given is_for c p m old new before after extends kept ps ids ws w there w' σ at h)

    pub found_known : (b : ℕ) (s' : ArgumentSearch K) → s'.searches.items ≡ ws ++ w' ∷ [] →
        ((xs : List Variable) (q : Tree) (v : TermId) → IsPatternSearch asked given is_for c p m old before xs q v w → IsPatternSearch asked given is_for c p m new after xs q v w') →
        IsNextOne (program_over p m.hooks) b (just N) (just N') (last_in new w'.uses.standing) (Ok true) → IsArgumentSearch asked given is_for c p m new after ps ids s'
    found_known b s' parts' known (σ, at, h) = found_search s' parts' known σ at

    -- an end
    pub still_on : (b : ℕ) (e : EvalEnd) (s' : ArgumentSearch K) → s'.searches.items ≡ ws ++ w' ∷ [] → s'.due ≡ false → IsNextOne (program_over p m.hooks) b (just N) (just N') (last_in new w'.uses.standing) (Err e) →
        GoesOn s' × IsDueBy (program_over p m.hooks) b (just (left_of_arguments asked given p m.hooks old ps (trees_at old (numbers ids)) s)) e
    still_on b e s' parts' due (h, d) = (
      goes_on s' false due (ws ++ w' ∷ []) parts' (still_next asked given is_for c p m old new before after extends kept ps ids ws w there w' h),
      subst (λ (f : Engine → Answers Binding). IsDueBy Q b (just f) e) was (due_next asked given is_for c p m old new before after extends kept ps ids ws w there b e d),
    )

    pub still_known : (s' : ArgumentSearch K) → s'.searches.items ≡ ws ++ w' ∷ [] → s'.due ≡ false →
        ((xs : List Variable) (q : Tree) (v : TermId) → IsPatternSearch asked given is_for c p m old before xs q v w → IsPatternSearch asked given is_for c p m new after xs q v w') → IsArgumentSearch asked given is_for c p m new after ps ids s'
    still_known s' parts' due known = still_search s' parts' known due

    -- there is no other
    pub over_on : (b : ℕ) (s' : ArgumentSearch K) → s'.searches.items ≡ ws → s'.due ≡ false → IsNextOne (program_over p m.hooks) b (just N) (just N') (last_in new w'.uses.standing) (Ok false) → GoesOn s'
    over_on b s' parts' due h = goes_on s' false due ws parts' (over_next asked given is_for c p m old new before after extends kept ps ids ws w there h)

  pub over_known : (s' : ArgumentSearch K) → s'.searches.items ≡ ws → s'.due ≡ false → IsArgumentSearch asked given is_for c p m new after ps ids s'
  over_known s' parts' due = record {
    searches = subst (AreSearches asked given is_for c p m new after [] ps ids) (sym parts') (searches_without asked given is_for c p m old new before after extends kept ps ids ws w there over);
    stands = λ e. clash (sym due ∙ e);
  }
    where
      clash : {X : Type 0} → false ≡ true → X
      clash e = cc

-- where there are no searches none is left
pub none_searched : {K : Type 0} (asked : K → Asked) (given : K → Option Listed.Solution) (p : Typed.Program) (m : Meanings) (nodes : List Node) (ps vs : List Tree) →
    Throughout (engine_of (program_over p m.hooks)) (just (left_behind_all asked given p m.hooks nodes false ps vs (Some []) [])) (λ L. IsOver (just (left_behind_all asked given p m.hooks nodes false ps vs (Some []) []) L))
none_searched asked given p m nodes ps vs =
    through_always (engine_of (program_over p m.hooks)) (just (left_behind_all asked given p m.hooks nodes false ps vs (Some []) [])) {H = λ L. IsOver (just (left_behind_all asked given p m.hooks nodes false ps vs (Some []) []) L)} (λ L q n. n)
