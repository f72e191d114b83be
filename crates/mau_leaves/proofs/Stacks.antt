-- Searches for the solutions of argument patterns: the first of them and those behind, and the same in a store that has grown.
use Rattle.std.proofs.Common.{◌≡◌, ◌<◌, ◌≤◌, ◌-◌, ℕ, zero, suc, List, [], ◌∷◌, ◌++◌, length, map, fold, All, Bool, true, false, Option, Some, None, IsSome, slice_get, refl, sym, ap, ap₂, ◌∙◌, subst, arith}
use Rattle.std.specs.Option.{option_map}
use Rattle.std.proofs.lemmas.List.Elements.{All-nil}
use Rattle.mau_terms.specs.Tree.{Tree}
use Rattle.mau_terms.specs.Subst.{Variable, variables, add_variables}
use Rattle.mau_terms.specs.declared.ids.TermId.{TermId}
use Rattle.mau_terms.specs.declared.ids.VarId.{VarId}
use Rattle.mau_terms.proofs.Variables.{distinct}
use Rattle.mau_signature.specs.Signature.{SignatureOf}
use Rattle.mau_formula.specs.Operator.{Operator}
use Rattle.mau_store.specs.Node.{Node, Extends}
use Rattle.mau_store.specs.Trees.{tree_at, trees_at}
use Rattle.mau_store.specs.View.{numbers}
use Rattle.mau_sorts.specs.Table.{Table, KeepsEntries, AreOver}
use Rattle.mau_listing.specs.Asked.{Asked}
use Rattle.mau_listing.specs.declared.solution.Solution as Listed
use Rattle.mau_program.specs.declared.program.Program as Typed
use Rattle.mau_evaluation.specs.Run.{End}
use Rattle.mau_evaluation.specs.Program.{Program}
use Rattle.mau_evaluation.specs.Evaluation.{Binding}
use Rattle.mau_evaluation.specs.Engine.{Engine}
use Rattle.mau_evaluation.specs.Answers.{Answers, no_more, ends_by, answer, and_those, for_each}
use Rattle.mau_evaluation.specs.OrderedLists.{argument_solutions}
use Rattle.mau_cond.proofs.Grown.{bound_grown}
use Rattle.mau_api.specs.Programs.{program_over}
use Rattle.mau_api.specs.Meanings.{Meanings}
use Rattle.mau_api.specs.Answers.{binding_in, IsValueOf, AreApart}
use Rattle.mau_rules.specs.Runnable.{GoesBy}
use Rattle.mau_leaves.specs.Searches.{found_in, last_in, variables_in}
use Rattle.mau_leaves.specs.Arguments.{due_under, found_behind, last_found, AreBound, matched_left, left_behind_all, left_of_arguments, IsPatternSearch, AreSearches, IsArgumentSearch}
use Rattle.mau_leaves.specs.declared.uses.Standing.{Standing}
use Rattle.mau_leaves.specs.declared.uses.Standing.TheVariants.{Behind, Before, Within}
use Rattle.mau_leaves.specs.declared.arguments.PatternSearch.{PatternSearch}
use Rattle.mau_leaves.specs.declared.arguments.ArgumentSearch.{ArgumentSearch}
use Rattle.mau_leaves.proofs.Patterns.{found_by, found_variables, pattern_grown, matched_same, last_same}

-- ---- behind as many

-- those behind as many as ws
abbrev pub rest_of : {A B : Type 0} → List A → List B → List A
rest_of xs [] = xs
rest_of [] (w ∷ ws) = []
rest_of (x ∷ xs) (w ∷ ws) = rest_of xs ws

pub rest_at : {A B : Type 0} (xs : List A) (ws : List B) (x : A) → slice_get xs (length ws) ≡ Some x → (ys : List A) × (rest_of xs ws ≡ x ∷ ys)
rest_at [] [] x e = cc
rest_at [] (w ∷ ws) x e = cc
rest_at (y ∷ xs) [] x e = (xs, ap (λ z. z ∷ xs) (one e))
  where
    one : Some y ≡ Some x → y ≡ x
    one k = cc
rest_at (y ∷ xs) (w ∷ ws) x e = rest_at xs ws x e

pub rest_none : {A B : Type 0} (xs : List A) (ws : List B) → length xs ≤ length ws → rest_of xs ws ≡ []
rest_none [] [] h = refl
rest_none [] (w ∷ ws) h = refl
rest_none (x ∷ xs) [] h = absurd (omega (arith, h))
rest_none (x ∷ xs) (w ∷ ws) h = rest_none xs ws (omega (arith, h))

pub rest_values : {B : Type 0} (nodes : List Node) (ids : List TermId) (ws : List B) → rest_of (trees_at nodes (numbers ids)) ws ≡ trees_at nodes (numbers (rest_of ids ws))
rest_values nodes ids [] = refl
rest_values nodes [] (w ∷ ws) = refl
rest_values nodes (id ∷ ids) (w ∷ ws) = rest_values nodes ids ws

-- there are no more of ws than of xs and ys
abbrev pub AreNoMore : {A B C : Type 0} → List A → List B → List C → Type 0
AreNoMore xs ys [] = Unit {0}
AreNoMore [] ys (w ∷ ws) = ⊥
AreNoMore (x ∷ xs) [] (w ∷ ws) = ⊥
AreNoMore (x ∷ xs) (y ∷ ys) (w ∷ ws) = AreNoMore xs ys ws

-- the variables that have values behind as many patterns as ws
abbrev pub variables_after : {B : Type 0} → List Variable → List Tree → List B → List Variable
variables_after xs ps [] = xs
variables_after xs [] (w ∷ ws) = xs
variables_after xs (q ∷ ps) (w ∷ ws) = variables_after (add_variables xs q) ps ws

pub all_variables : {B : Type 0} (xs : List Variable) (ps : List Tree) (ws : List B) → length ws ≡ length ps → variables_after xs ps ws ≡ fold add_variables xs ps
all_variables xs [] [] e = refl
all_variables xs [] (w ∷ ws) e = absurd (omega (arith, e))
all_variables xs (q ∷ ps) [] e = absurd (omega (arith, e))
all_variables xs (q ∷ ps) (w ∷ ws) e = all_variables (add_variables xs q) ps ws (omega (arith, e))

after_apart : {B : Type 0} (xs : List Variable) (ps : List Tree) (ws : List B) → AreApart xs → AreApart (variables_after xs ps ws)
after_apart xs ps [] h = h
after_apart xs [] (w ∷ ws) h = h
after_apart xs (q ∷ ps) (w ∷ ws) h = after_apart (add_variables xs q) ps ws (distinct q xs h)

-- what the last one found
pub found_last : {K : Type 0} (o : Option (List (VarId × TermId))) (ws : List (PatternSearch K)) (w : PatternSearch K) → found_behind o (ws ++ w ∷ []) ≡ found_in w.uses.standing
found_last o [] w = refl
found_last o (x ∷ ws) w = found_last (found_in x.uses.standing) ws w

-- by the number of the last one
one_less : (n : ℕ) → suc n - 1 ≡ n
one_less n = omega arith

at_last : {A : Type 0} (x y : A) (ws : List A) (o : Option A) → slice_get (x ∷ y ∷ ws) (length (x ∷ y ∷ ws) - 1) ≡ o → slice_get (y ∷ ws) (length (y ∷ ws) - 1) ≡ o
at_last x y ws o e = ap (slice_get (y ∷ ws)) (one_less (length ws)) ∙ (ap (slice_get (x ∷ y ∷ ws)) (sym (one_less (suc (length ws)))) ∙ e)

last_behind : {K : Type 0} (o : Option (List (VarId × TermId))) (ws : List (PatternSearch K)) (w : PatternSearch K) → slice_get ws (length ws - 1) ≡ Some w → found_behind o ws ≡ found_in w.uses.standing
last_behind o [] w e = cc
last_behind {K = K} o (x ∷ []) w e = ap (λ (z : PatternSearch K). found_in z.uses.standing) (one e)
  where
    one : Some x ≡ Some w → x ≡ w
    one k = cc
last_behind o (x ∷ y ∷ ws) w e = last_behind (found_in x.uses.standing) (y ∷ ws) w (at_last x y ws (Some w) e)

pub last_is : {K : Type 0} (ws : List (PatternSearch K)) (w : PatternSearch K) → slice_get ws (length ws - 1) ≡ Some w → last_found ws ≡ found_in w.uses.standing
last_is ws w e = last_behind (Some []) ws w e

never_none : {A : Type 0} (x : A) (ws : List A) → slice_get (x ∷ ws) (length (x ∷ ws) - 1) ≡ None → ⊥
never_none x [] e = cc
never_none x (y ∷ ws) e = never_none y ws (at_last x y ws None e)

pub last_none : {K : Type 0} (ws : List (PatternSearch K)) → slice_get ws (length ws - 1) ≡ None → last_found ws ≡ Some []
last_none [] e = refl
last_none (x ∷ ws) e = absurd (never_none x ws e)

module _ {K : Type 0} (asked : K → Asked) (given : K → Option Listed.Solution) (p : Typed.Program) (hooks : List Operator) (nodes : List Node) where
  abbrev P : Program
  P = program_over p hooks

  -- what the last one found, or o
  abbrev pub bound_behind : Option Binding → List (PatternSearch K) → Option Binding
  bound_behind o [] = o
  bound_behind o (w ∷ ws) = bound_behind (last_in nodes w.uses.standing) ws

  pub bound_is : (o : Option (List (VarId × TermId))) (ws : List (PatternSearch K)) → bound_behind (option_map (binding_in nodes) o) ws ≡ option_map (binding_in nodes) (found_behind o ws)
  bound_is o [] = refl
  bound_is o (w ∷ ws) = bound_is (found_in w.uses.standing) ws

  -- what is left where a is left behind some searches
  abbrev pub around : List Tree → List Tree → List (PatternSearch K) → Answers Binding → Engine → Answers Binding
  around ps vs [] a = λ L. a
  around [] vs (w ∷ ws) a = λ L. no_more
  around (q ∷ ps) [] (w ∷ ws) a = λ L. no_more
  around (q ∷ ps) (v ∷ vs) (w ∷ ws) a = λ L. and_those (around ps vs ws a L) (for_each (argument_solutions (program_over p hooks) L ps vs) (matched_left asked given p hooks nodes w L))

  pub in_parts : (L : Engine) (due : Bool) (ps vs : List Tree) (o : Option Binding) (ws us : List (PatternSearch K)) →
      left_behind_all asked given p hooks nodes due ps vs o (ws ++ us) L ≡ around ps vs ws (left_behind_all asked given p hooks nodes due (rest_of ps ws) (rest_of vs ws) (bound_behind o ws) us L) L
  in_parts L due ps vs o [] us = refl
  in_parts L due [] vs o (w ∷ ws) us = refl
  in_parts L due (q ∷ ps) [] o (w ∷ ws) us = refl
  in_parts L due (q ∷ ps) (v ∷ vs) o (w ∷ ws) us =
      ap (λ z. and_those z (for_each (argument_solutions P L ps vs) (matched_left asked given p hooks nodes w L))) (in_parts L due ps vs (last_in nodes w.uses.standing) ws us)

  -- behind them all
  pub in_whole : (L : Engine) (due : Bool) (ps vs : List Tree) (o : Option Binding) (ws : List (PatternSearch K)) →
      left_behind_all asked given p hooks nodes due ps vs o ws L ≡ around ps vs ws (due_under (program_over p hooks) L due (bound_behind o ws) (rest_of ps ws) (rest_of vs ws)) L
  in_whole L due ps vs o [] = refl
  in_whole L due [] vs o (w ∷ ws) = refl
  in_whole L due (q ∷ ps) [] o (w ∷ ws) = refl
  in_whole L due (q ∷ ps) (v ∷ vs) o (w ∷ ws) = ap (λ z. and_those z (for_each (argument_solutions P L ps vs) (matched_left asked given p hooks nodes w L))) (in_whole L due ps vs (last_in nodes w.uses.standing) ws)

  pub around_ends : (L : Engine) (e : End) (ps vs : List Tree) (ws : List (PatternSearch K)) → AreNoMore ps vs ws → around ps vs ws (ends_by e) L ≡ ends_by e
  around_ends L e ps vs [] h = refl
  around_ends L e [] vs (w ∷ ws) h = absurd h
  around_ends L e (q ∷ ps) [] (w ∷ ws) h = absurd h
  around_ends L e (q ∷ ps) (v ∷ vs) (w ∷ ws) h = ap (λ z. and_those z (for_each (argument_solutions P L ps vs) (matched_left asked given p hooks nodes w L))) (around_ends L e ps vs ws h)

  pub around_answer : (L : Engine) (σ : Binding) (a : Answers Binding) (ps vs : List Tree) (ws : List (PatternSearch K)) → AreNoMore ps vs ws → around ps vs ws (answer σ a) L ≡ answer σ (around ps vs ws a L)
  around_answer L σ a ps vs [] h = refl
  around_answer L σ a [] vs (w ∷ ws) h = absurd h
  around_answer L σ a (q ∷ ps) [] (w ∷ ws) h = absurd h
  around_answer L σ a (q ∷ ps) (v ∷ vs) (w ∷ ws) h = ap (λ z. and_those z (for_each (argument_solutions P L ps vs) (matched_left asked given p hooks nodes w L))) (around_answer L σ a ps vs ws h)

-- ---- what is known of searches

module _ {K : Type 0} (asked : K → Asked) (given : K → Option Listed.Solution) (is_for : K → SignatureOf → Type 0) (c : Bool) (p : Typed.Program) (m : Meanings) where
  module _ (nodes : List Node) (table : Table) where
    abbrev Searches : List Variable → List Tree → List TermId → List (PatternSearch K) → Type 0
    Searches xs ps ids ws = AreSearches asked given is_for c p m nodes table xs ps ids ws

    pub no_more_searches : (at : List Node) (xs : List Variable) (ps : List Tree) (ids : List TermId) (ws : List (PatternSearch K)) → AreSearches asked given is_for c p m nodes table xs ps ids ws → AreNoMore ps (trees_at at (numbers ids)) ws
    no_more_searches at xs ps ids [] h = tt
    no_more_searches at xs [] ids (w ∷ ws) h = absurd h
    no_more_searches at xs (q ∷ ps) [] (w ∷ ws) h = absurd h
    no_more_searches at xs (q ∷ ps) (id ∷ ids) (w ∷ ws) h = no_more_searches at (add_variables xs q) ps ids ws h.1

    pub first_searches : (xs : List Variable) (ps : List Tree) (ids : List TermId) (ws us : List (PatternSearch K)) → AreSearches asked given is_for c p m nodes table xs ps ids (ws ++ us) → AreSearches asked given is_for c p m nodes table xs ps ids ws
    first_searches xs ps ids [] us h = tt
    first_searches xs [] ids (w ∷ ws) us h = h
    first_searches xs (q ∷ ps) [] (w ∷ ws) us h = h
    first_searches xs (q ∷ ps) (id ∷ ids) (w ∷ ws) us h = (h.0, first_searches (add_variables xs q) ps ids ws us h.1)

    pub last_searches : (xs : List Variable) (ps : List Tree) (ids : List TermId) (ws us : List (PatternSearch K)) → AreSearches asked given is_for c p m nodes table xs ps ids (ws ++ us) →
        AreSearches asked given is_for c p m nodes table (variables_after xs ps ws) (rest_of ps ws) (rest_of ids ws) us
    last_searches xs ps ids [] us h = h
    last_searches xs [] ids (w ∷ ws) us h = absurd h
    last_searches xs (q ∷ ps) [] (w ∷ ws) us h = absurd h
    last_searches xs (q ∷ ps) (id ∷ ids) (w ∷ ws) us h = last_searches (add_variables xs q) ps ids ws us h.1

    pub both_searches : (xs : List Variable) (ps : List Tree) (ids : List TermId) (ws us : List (PatternSearch K)) → AreSearches asked given is_for c p m nodes table xs ps ids ws →
        AreSearches asked given is_for c p m nodes table (variables_after xs ps ws) (rest_of ps ws) (rest_of ids ws) us → AreSearches asked given is_for c p m nodes table xs ps ids (ws ++ us)
    both_searches xs ps ids [] us h k = k
    both_searches xs [] ids (w ∷ ws) us h k = absurd h
    both_searches xs (q ∷ ps) [] (w ∷ ws) us h k = absurd h
    both_searches xs (q ∷ ps) (id ∷ ids) (w ∷ ws) us h k = (h.0, both_searches (add_variables xs q) ps ids ws us h.1 k)

    -- the last one
    pub record IsLast (xs : List Variable) (ps : List Tree) (ids : List TermId) (w : PatternSearch K) : Type 0 where
      pub pattern : Tree
      pub patterns : List Tree
      pub value : TermId
      pub values : List TermId
      pub first : ps ≡ pattern ∷ patterns
      pub value_first : ids ≡ value ∷ values
      pub known : IsPatternSearch asked given is_for c p m nodes table xs pattern value w

    pub the_last : (xs : List Variable) (ps : List Tree) (ids : List TermId) (w : PatternSearch K) → AreSearches asked given is_for c p m nodes table xs ps ids (w ∷ []) → IsLast xs ps ids w
    the_last xs [] ids w h = absurd h
    the_last xs (q ∷ ps) [] w h = absurd h
    the_last xs (q ∷ ps) (id ∷ ids) w h = record { pattern = q; patterns = ps; value = id; values = ids; first = refl; value_first = refl; known = h.0 }

    pub one_search : (xs : List Variable) (ps : List Tree) (ids : List TermId) (q : Tree) (qs : List Tree) (v : TermId) (vs : List TermId) (w : PatternSearch K) → ps ≡ q ∷ qs → ids ≡ v ∷ vs →
        IsPatternSearch asked given is_for c p m nodes table xs q v w → AreSearches asked given is_for c p m nodes table xs ps ids (w ∷ [])
    one_search xs ps ids q qs v vs w e h is =
        subst (λ rs. AreSearches asked given is_for c p m nodes table xs rs ids (w ∷ [])) (sym e) (subst (λ us. AreSearches asked given is_for c p m nodes table xs (q ∷ qs) us (w ∷ [])) (sym h) (is, tt))

    -- what was found last
    pub record IsReached (xs : List Variable) (found : List (VarId × TermId)) : Type 0 where
      pub variables : variables_in found ≡ xs
      pub values : All (IsValueOf p.sig nodes table) found

    module _ (goes : GoesBy p m) where
      reached_behind : (xs : List Variable) (ps : List Tree) (ids : List TermId) (o : Option (List (VarId × TermId))) (ws : List (PatternSearch K)) → AreSearches asked given is_for c p m nodes table xs ps ids ws →
          ((f : List (VarId × TermId)) → o ≡ Some f → IsReached xs f) → (found : List (VarId × TermId)) → found_behind o ws ≡ Some found → IsReached (variables_after xs ps ws) found
      reached_behind xs ps ids o [] h k found e = k found e
      reached_behind xs [] ids o (w ∷ ws) h k found e = absurd h
      reached_behind xs (q ∷ ps) [] o (w ∷ ws) h k found e = absurd h
      reached_behind xs (q ∷ ps) (id ∷ ids) o (w ∷ ws) h k found e =
          reached_behind (add_variables xs q) ps ids (found_in w.uses.standing) ws h.1
          (λ f at. record {
            variables = found_variables asked given is_for c p m goes nodes table xs q id w h.0 f at;
            values = (found_by asked given is_for c p m goes nodes table xs q id w h.0 f at).values;
          })
          found e

      pub reached : (ps : List Tree) (ids : List TermId) (ws : List (PatternSearch K)) → AreSearches asked given is_for c p m nodes table [] ps ids ws → (found : List (VarId × TermId)) → last_found ws ≡ Some found →
          IsReached (variables_after [] ps ws) found
      reached ps ids ws h found e = reached_behind [] ps ids (Some []) ws h (λ f k. record { variables = ap variables_in (one f k); values = subst (All (IsValueOf p.sig nodes table)) (sym (one f k)) (All-nil (IsValueOf p.sig nodes table)) }) found e
        where
          one : (f : List (VarId × TermId)) → Some [] ≡ Some f → f ≡ []
          one f k = cc

      pub bound_reached : (ps : List Tree) (ids : List TermId) (ws : List (PatternSearch K)) → AreSearches asked given is_for c p m nodes table [] ps ids ws → (found : List (VarId × TermId)) → last_found ws ≡ Some found →
          AreBound p.sig nodes table found
      bound_reached ps ids ws h found e =
          let r = reached ps ids ws h found e in
          record { values = r.values; apart = subst AreApart (sym r.variables) (after_apart [] ps ws tt) }

  -- ---- in a store that has grown

  module _ (old new : List Node) (before after : Table) (extends : Extends old new) (kept : KeepsEntries before after) where
    pub searches_grown : AreOver p.sig.hierarchy after → (xs : List Variable) (ps : List Tree) (ids : List TermId) (ws : List (PatternSearch K)) → AreSearches asked given is_for c p m old before xs ps ids ws →
        AreSearches asked given is_for c p m new after xs ps ids ws
    searches_grown over xs ps ids [] h = tt
    searches_grown over xs [] ids (w ∷ ws) h = h
    searches_grown over xs (q ∷ ps) [] (w ∷ ws) h = h
    searches_grown over xs (q ∷ ps) (id ∷ ids) (w ∷ ws) h = (pattern_grown asked given is_for c p m old new before after extends kept xs q id w h.0 over, searches_grown over (add_variables xs q) ps ids ws h.1)

    pub around_same : (vs : List Tree) (xs : List Variable) (ps : List Tree) (ids : List TermId) (ws : List (PatternSearch K)) → AreSearches asked given is_for c p m old before xs ps ids ws → (a : Answers Binding) →
        around asked given p m.hooks new ps vs ws a ≡ around asked given p m.hooks old ps vs ws a
    around_same vs xs ps ids [] h a = refl
    around_same vs xs [] ids (w ∷ ws) h a = refl
    around_same [] xs (q ∷ ps) ids (w ∷ ws) h a = refl
    around_same (v ∷ vs) xs (q ∷ ps) [] (w ∷ ws) h a = absurd h
    around_same (v ∷ vs) xs (q ∷ ps) (id ∷ ids) (w ∷ ws) h a =
        let one = matched_same asked given is_for c p m old new before after extends kept xs q id w h.0 in
        let rest = around_same vs (add_variables xs q) ps ids ws h.1 a in
        λ i L. and_those (rest i L) (for_each (argument_solutions (program_over p m.hooks) L ps vs) (one i L))

    left_same_behind : (due : Bool) (vs : List Tree) (o o' : Option Binding) → o' ≡ o → (xs : List Variable) (ps : List Tree) (ids : List TermId) (ws : List (PatternSearch K)) → AreSearches asked given is_for c p m old before xs ps ids ws →
        left_behind_all asked given p m.hooks new due ps vs o' ws ≡ left_behind_all asked given p m.hooks old due ps vs o ws
    left_same_behind due vs o o' e xs ps ids [] h = λ i L. due_under (program_over p m.hooks) L due (e i) ps vs
    left_same_behind due vs o o' e xs [] ids (w ∷ ws) h = refl
    left_same_behind due [] o o' e xs (q ∷ ps) ids (w ∷ ws) h = refl
    left_same_behind due (v ∷ vs) o o' e xs (q ∷ ps) [] (w ∷ ws) h = absurd h
    left_same_behind due (v ∷ vs) o o' e xs (q ∷ ps) (id ∷ ids) (w ∷ ws) h =
        let one = matched_same asked given is_for c p m old new before after extends kept xs q id w h.0 in
        let last = last_same asked given is_for c p m old new before after extends kept xs q id w h.0 in
        let rest = left_same_behind due vs (last_in old w.uses.standing) (last_in new w.uses.standing) last (add_variables xs q) ps ids ws h.1 in
        λ i L. and_those (rest i L) (for_each (argument_solutions (program_over p m.hooks) L ps vs) (one i L))

    -- what is left is the same
    pub arguments_same : (ps vs : List Tree) (ids : List TermId) (s : ArgumentSearch K) → IsArgumentSearch asked given is_for c p m old before ps ids s →
        left_of_arguments asked given p m.hooks new ps vs s ≡ left_of_arguments asked given p m.hooks old ps vs s
    arguments_same ps vs ids s h = left_same_behind s.due vs (Some []) (Some []) refl [] ps ids s.searches.items h.searches

    pub arguments_grown : AreOver p.sig.hierarchy after → (ps : List Tree) (ids : List TermId) (s : ArgumentSearch K) → IsArgumentSearch asked given is_for c p m old before ps ids s → IsArgumentSearch asked given is_for c p m new after ps ids s
    arguments_grown over ps ids s h = record { searches = searches_grown over [] ps ids s.searches.items h.searches; stands = h.stands }
