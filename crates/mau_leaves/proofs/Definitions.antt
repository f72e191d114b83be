-- The bodies of a call, definition after definition.
use Rattle.std.proofs.Common.{◌≡◌, ℕ, suc, ◌<◌, ◌≤◌, List, [], ◌∷◌, length, map, drop, fold, All, Vec, Global, Bool, true, false, Option, Some, None, IsSome, IfSome, Result, Ok, Err, slice_get, refl, sym, ap, ◌∙◌, subst, arith, length-drop}
use Rattle.std.specs.Option.{option_map}
use Rattle.std.proofs.Math.Seq.{drop-cons}
use Rattle.std.proofs.lemmas.Option.{slice_get_within, get_or_from_slice_get}
use Rattle.std.proofs.lemmas.List.Elements.{All-nil, All-cons, All-head, All-tail}
use Rattle.mau_terms.specs.Tree.{Tree}
use Rattle.mau_terms.specs.Bare.{IsLawful}
use Rattle.mau_terms.specs.Subst.{add_variables}
use Rattle.mau_terms.specs.declared.ids.TermId.{TermId}
use Rattle.mau_terms.specs.declared.ids.VarId.{VarId}
use Rattle.mau_signature.specs.Faults.{IsSort}
use Rattle.mau_signature.specs.Signature.{SignatureOf}
use Rattle.mau_formula.specs.Operator.{Operator}
use Rattle.mau_store.specs.Node.{Node, Extends}
use Rattle.mau_store.specs.Trees.{trees_at}
use Rattle.mau_store.specs.View.{numbers}
use Rattle.mau_sorts.specs.Table.{Table, KeepsEntries, AreOver}
use Rattle.mau_listing.specs.Asked.{Asked}
use Rattle.mau_listing.specs.declared.solution.Solution as Listed
use Rattle.mau_program.specs.LawfulStatements.{IsLawfulFragment}
use Rattle.mau_program.specs.Binding.{are_bound}
use Rattle.mau_program.specs.LawfulStrategies.{IsLawfulDefinition, variables_in as variables_of_all}
use Rattle.mau_program.specs.declared.program.Program as Typed
use Rattle.mau_program.specs.declared.definitions.StratDef as Written
use Rattle.mau_program.specs.declared.statements.Fragment as WrittenFragment
use Rattle.mau_program.specs.declared.statements.Fragment.TheVariants as Part
use Rattle.mau_evaluation.specs.Run.{End, done, ended}
use Rattle.mau_evaluation.specs.Program.{Program}
use Rattle.mau_evaluation.specs.Evaluation.{Binding}
use Rattle.mau_evaluation.specs.Engine.{Engine, engine_of}
use Rattle.mau_evaluation.specs.Strategy.{StratDef}
use Rattle.mau_evaluation.specs.Configs.{Todo}
use Rattle.mau_evaluation.specs.Rules.{has_reach}
use Rattle.mau_evaluation.specs.Satisfies.{same_name}
use Rattle.mau_evaluation.specs.Answers.{Answers, no_more, ends_by, answer, answers_of, and_those, for_each, when}
use Rattle.mau_evaluation.specs.OrderedLists.{body_for, bodies_at, bodies_in, argument_solutions, asked}
use Rattle.mau_cond.proofs.Grown.{each, value_grown, bound_grown}
use Rattle.mau_api.specs.Programs.{fragment_of, program_over}
use Rattle.mau_api.specs.Meanings.{Meanings}
use Rattle.mau_api.specs.Answers.{binding_in, IsFragment, IsAskable, IsValueOf, IsSolutionOf}
use Rattle.mau_api.specs.declared.results.EvalEnd.{EvalEnd}
use Rattle.mau_reduce.proofs.Numbered.{is_among}
use Rattle.mau_rules.specs.Runnable.{GoesBy}
use Rattle.mau_rules.proofs.Shown.{all_in}
use Rattle.mau_stratforms.specs.Meanings.{definition_of}
use Rattle.mau_leaves.specs.Steps.{Gives, IsOver, Passes, EndsNow, Throughout}
use Rattle.mau_leaves.specs.Uses.{condition_from, question_from}
use Rattle.mau_leaves.specs.Answers.{ComesTo, QuestionEnds, IsDueBy}
use Rattle.mau_leaves.specs.Searches.{found_in, last_in, variables_in, IsTurn}
use Rattle.mau_leaves.specs.InTurn.{just}
use Rattle.mau_leaves.specs.Arguments.{last_found, left_behind_all, left_of_arguments, AreSearches, IsArgumentSearch}
use Rattle.mau_leaves.specs.Calls.{IsLeftOf, bodies_from, bodies_left, left_begun, left_of_one, left_standing, body_with, IsShownFor, IsAskedOn, StandsAt, IsBegun, IsStanding}
use Rattle.mau_leaves.specs.declared.turn.Turn.{Turn}
use Rattle.mau_leaves.specs.declared.turn.Turn.TheVariants.{Found, Passed, Over}
use Rattle.mau_leaves.specs.declared.uses.Standing.{Standing}
use Rattle.mau_leaves.specs.declared.uses.Standing.TheVariants.{Behind, Before, Within}
use Rattle.mau_leaves.specs.declared.arguments.PatternSearch.{PatternSearch}
use Rattle.mau_leaves.specs.declared.arguments.ArgumentSearch.{ArgumentSearch}
use Rattle.mau_leaves.specs.declared.bodies.CallBodies.{CallBodies}
use Rattle.mau_leaves.proofs.Engines.{AsksRightly}
use Rattle.mau_leaves.proofs.Askings.{asked_gives, asked_over, asked_ends}
use Rattle.mau_leaves.proofs.Rewrites.{those_none, those_assoc}
use Rattle.mau_leaves.proofs.Steps.{through_always}
use Rattle.mau_leaves.proofs.Within.{just_same, step_inside, due_inside}
use Rattle.mau_leaves.proofs.Throughs.{asked_through, asked_due}
use Rattle.mau_leaves.proofs.Stacks.{variables_after, all_variables, reached, bound_reached, arguments_same, arguments_grown}

-- ---- with one engine

abbrev body_by : ℕ → StratDef → Binding → Todo
body_by k d s = record { form = d.body; calls = k; values = s }

module _ (P : Program) (L : Engine) (right : AsksRightly P L) (k : ℕ) (d : StratDef) (σ : Binding) (o : Option Binding) (rest : Answers Todo) where
  body_given : (s : Binding) (r l : ℕ) → condition_from P L o d.cond σ L.budget ≡ done (Some s) r l → Gives (IsLeftOf P L k d (Some σ) o rest) (body_by k d s) (IsLeftOf P L k d (Some σ) (Some s) rest)
  body_given s r l e p (z, n, h) =
      let g = asked_gives P L right d.cond σ o s r l e z n in (
        and_those (for_each (body_for k d) g.0) rest,
        h ∙ ap (λ y. and_those (for_each (body_for k d) y) rest) g.1,
        (g.0, g.2, refl),
      )

  body_passed : (r l : ℕ) → condition_from P L o d.cond σ L.budget ≡ done None r l → Passes (IsLeftOf P L k d (Some σ) o rest) (λ q. q ≡ rest)
  body_passed r l e p (z, n, h) = h ∙ ap (λ y. and_those (for_each (body_for k d) y) rest) (asked_over P L right d.cond σ o r l e z n)

  body_ends : (f : End) → condition_from P L o d.cond σ L.budget ≡ ended f → EndsNow (IsLeftOf P L k d (Some σ) o rest) f
  body_ends f e p (z, n, h) = h ∙ ap (λ y. and_those (for_each (body_for k d) y) rest) (asked_ends P L right d.cond σ o f e z n)

-- ---- throughout

module _ (P : Program) (lawful : IsLawful P.sign) (k : ℕ) (d : StratDef) (σ : Binding) (o : Option Binding) (rest : Engine → Answers Todo) where
  abbrev now : Option Binding → Engine → Answers Todo → Type 0
  now last L = IsLeftOf P L k d (Some σ) last (rest L)

  pub given_body : (s : Binding) → ComesTo P (λ L. condition_from P L o d.cond σ) (Some s) →
      Throughout (engine_of P) (λ L. IsLeftOf P L k d (Some σ) o (rest L)) (λ L. Gives (IsLeftOf P L k d (Some σ) o (rest L)) (record { form = d.body; calls = k; values = s }) (IsLeftOf P L k d (Some σ) (Some s) (rest L)))
  given_body s comes =
      asked_through P lawful (now o) o d.cond σ (λ L right f h. body_ends P L right k d σ o (rest L) f h) (Some s) (λ L. Gives (now o L) (body_by k d s) (now (Some s) L))
      (λ L right r l h. body_given P L right k d σ o (rest L) s r l h) comes

  pub passed_body : ComesTo P (λ L. condition_from P L o d.cond σ) None → Throughout (engine_of P) (λ L. IsLeftOf P L k d (Some σ) o (rest L)) (λ L. Passes (IsLeftOf P L k d (Some σ) o (rest L)) (just rest L))
  passed_body comes =
      asked_through P lawful (now o) o d.cond σ (λ L right f h. body_ends P L right k d σ o (rest L) f h) None (λ L. Passes (now o L) (just rest L)) (λ L right r l h. body_passed P L right k d σ o (rest L) r l h) comes

  pub due_body : (b : ℕ) (e : EvalEnd) → QuestionEnds P b (question_from o d.cond σ) e → IsDueBy P b (λ L. IsLeftOf P L k d (Some σ) o (rest L)) e
  due_body b e h = asked_due P lawful (now o) o d.cond σ (λ L right f i. body_ends P L right k d σ o (rest L) f i) b e h

-- ---- definitions, one after another

drop_from : {A : Type 0} (xs : List A) (n : ℕ) (x : A) → slice_get xs n ≡ Some x → drop n xs ≡ x ∷ drop (suc n) xs
drop_from xs n x at = drop-cons xs n x (slice_get_within xs n x at) ∙ ap (λ y. y ∷ drop (suc n) xs) (get_or_from_slice_get xs n x x at)

none_there : {A : Type 0} (ys : List A) → length ys ≤ 0 → ys ≡ []
none_there [] h = refl
none_there (y ∷ ys) h = absurd (omega (arith, h))

drop_none : {A : Type 0} (xs : List A) (n : ℕ) → length xs ≤ n → drop n xs ≡ []
drop_none xs n h = none_there (drop n xs) (omega (arith, length-drop n xs))

module _ {K : Type 0} (asked_of : K → Asked) (given : K → Option Listed.Solution) (p : Typed.Program) (hooks : List Operator) (k : ℕ) (n : List ℕ) (vs : List Tree) where
  abbrev Q : Program
  Q = program_over p hooks

  abbrev From : ℕ → Engine → Answers Todo
  From i = bodies_from asked_of given p hooks k n vs i

  abbrev Standing_ : List Node → ℕ → Option (ArgumentSearch K) → Standing → Engine → Answers Todo → Type 0
  Standing_ nodes i a s = left_standing asked_of given p hooks k n vs nodes i a s

  from_one : (L : Engine) (i : ℕ) (d : Written.StratDef) → slice_get p.strategies i ≡ Some d → From i L ≡ and_those (bodies_in Q L k n vs (definition_of d)) (From (suc i) L)
  from_one L i d at = ap (λ ds. for_each (bodies_in Q L k n vs) (answers_of (map definition_of ds))) (drop_from p.strategies i d at)

  module _ (nodes : List Node) where
    -- one of another name has none
    pub passes_name : (i : ℕ) (d : Written.StratDef) → slice_get p.strategies i ≡ Some d → same_name d.name n ≡ false →
        Throughout (engine_of (program_over p hooks)) (left_standing asked_of given p hooks k n vs nodes i None Behind) (λ L.
        Passes (left_standing asked_of given p hooks k n vs nodes i None Behind L) (left_standing asked_of given p hooks k n vs nodes (suc i) None Behind L))
    passes_name i d at e =
        just_same (engine_of Q) (From i) (From (suc i))
        (λ L. from_one L i d at ∙ ap (λ b. and_those (when b (for_each (bodies_at Q L k (definition_of d)) (argument_solutions Q L d.args vs []))) (From (suc i) L)) e)

    pub over_definitions : (i : ℕ) → length p.strategies ≤ i →
        Throughout (engine_of (program_over p hooks)) (left_standing asked_of given p hooks k n vs nodes i None Behind) (λ L. IsOver (left_standing asked_of given p hooks k n vs nodes i None Behind L))
    over_definitions i h =
        through_always (engine_of Q) (just (From i)) {H = λ L. IsOver (just (From i) L)} (λ L q e. e ∙ ap (λ ds. for_each (bodies_in Q L k n vs) (answers_of (map definition_of ds))) (drop_none p.strategies i h))

    -- one of the name is begun: all solutions of its argument patterns are due
    pub begins_definition : (i : ℕ) (d : Written.StratDef) → slice_get p.strategies i ≡ Some d → same_name d.name n ≡ true → (a : ArgumentSearch K) → a.searches.items ≡ [] → a.due ≡ true →
        Throughout (engine_of (program_over p hooks)) (left_standing asked_of given p hooks k n vs nodes i None Behind) (λ L.
        Passes (left_standing asked_of given p hooks k n vs nodes i None Behind L) (left_standing asked_of given p hooks k n vs nodes i (Some a) Behind L))
    begins_definition i d at e a none due =
        subst (λ (f : Engine → Answers Todo → Type 0). Throughout (engine_of Q) (just (From i)) (λ L. Passes (just (From i) L) (f L))) (ap (λ (o : Option Written.StratDef). left_of_one asked_of given p hooks k n vs nodes i o a Behind) (sym at))
        (just_same (engine_of Q) (From i) (bodies_left asked_of given p hooks k n vs nodes i d a)
        (λ L.
        from_one L i d at
        ∙ (ap (λ b. and_those (when b (for_each (bodies_at Q L k (definition_of d)) (argument_solutions Q L d.args vs []))) (From (suc i) L)) e
        ∙ (λ j. and_those (for_each (bodies_at Q L k (definition_of d)) (left_behind_all asked_of given p hooks nodes (sym due j) d.args vs (Some []) (sym none j) L)) (From (suc i) L)))))

    -- the same where nothing was begun
    pub begun_standing : (i : ℕ) (d : Written.StratDef) → slice_get p.strategies i ≡ Some d → same_name d.name n ≡ true → (a : ArgumentSearch K) → a.searches.items ≡ [] → a.due ≡ true → (o : Option (ArgumentSearch K)) → o ≡ None → (s : Standing) → s ≡ Behind →
        Throughout (engine_of (program_over p hooks)) (left_standing asked_of given p hooks k n vs nodes i o s) (λ L.
        Passes (left_standing asked_of given p hooks k n vs nodes i o s L) (left_standing asked_of given p hooks k n vs nodes i (Some a) s L))
    begun_standing i d at e a none due o idle s behind =
        subst (λ (z : Option (ArgumentSearch K)). Throughout (engine_of Q) (Standing_ nodes i z s) (λ L. Passes (Standing_ nodes i z s L) (Standing_ nodes i (Some a) s L))) (sym idle)
        (subst (λ (z : Standing). Throughout (engine_of Q) (just (From i)) (λ L. Passes (just (From i) L) (Standing_ nodes i (Some a) z L))) (sym behind) (begins_definition i d at e a none due))

  -- ---- solutions of its argument patterns are searched for

  module _ (old new : List Node) (i : ℕ) (d : Written.StratDef) (at : slice_get p.strategies i ≡ Some d) (a : ArgumentSearch K) where
    abbrev D : StratDef
    D = definition_of d

    -- what the solutions that are left lead to
    abbrev T : Engine → Answers Binding → Answers Todo
    T L x = and_those (for_each (bodies_at Q L k D) x) (From (suc i) L)

    strict : (L : Engine) (e : End) → T L (ends_by e) ≡ ends_by e
    strict L e = refl

    abbrev LA : Engine → Answers Binding
    LA = left_of_arguments asked_of given p hooks old d.args vs a

    here : (nodes : List Node) (b : ArgumentSearch K) (s : Standing) → left_begun asked_of given p hooks k n vs nodes i d b s ≡ Standing_ nodes i (Some b) s
    here nodes b s = ap (λ (o : Option Written.StratDef). left_of_one asked_of given p hooks k n vs nodes i o b s) (sym at)

    module _ (a' : ArgumentSearch K) where
      abbrev LA' : Engine → Answers Binding
      LA' = left_of_arguments asked_of given p hooks new d.args vs a'

      abbrev StandsThen : Standing → Type 0
      StandsThen s =
          Throughout (engine_of (program_over p hooks)) (left_standing asked_of given p hooks k n vs old i (Some a) Behind) (λ L.
          Passes (left_standing asked_of given p hooks k n vs old i (Some a) Behind L) (left_standing asked_of given p hooks k n vs new i (Some a') s L))

      then_stands : (s : Standing) → Throughout (engine_of Q) (just (bodies_left asked_of given p hooks k n vs old i d a)) (λ L.
          Passes (just (bodies_left asked_of given p hooks k n vs old i d a) L) (left_begun asked_of given p hooks k n vs new i d a' s L)) → StandsThen s
      then_stands s h =
          subst (λ (f : Engine → Answers Todo → Type 0). Throughout (engine_of Q) f (λ L. Passes (f L) (Standing_ new i (Some a') s L))) (here old a Behind)
          (subst (λ (g : Engine → Answers Todo → Type 0). Throughout (engine_of Q) (just (bodies_left asked_of given p hooks k n vs old i d a)) (λ L. Passes (just (bodies_left asked_of given p hooks k n vs old i d a) L) (g L))) (here new a' s) h)

      -- one was found: the condition is asked under it
      pub match_found : (σ : Binding) → option_map (binding_in new) (last_found a'.searches.items) ≡ Some σ → Throughout (engine_of (program_over p hooks)) (just LA) (λ L. Gives (just LA L) σ (just LA' L)) → StandsThen Before
      match_found σ found h =
          then_stands Before
          (step_inside LA T strict (engine_of Q) {H = λ L. Gives (just LA L) σ (just LA' L)} {K = λ L. Passes (just (λ L. T L (LA L)) L) (left_begun asked_of given p hooks k n vs new i d a' Before L)}
          (λ L g q m. subst (λ (o : Option Binding). IsLeftOf Q L k D o None (bodies_left asked_of given p hooks k n vs new i d a' L) q) (sym found) (asked Q L D.cond σ, refl, m ∙ parts L (g (LA L) refl))) h)
        where
          parts : (L : Engine) → (r : Answers Binding) × (LA L ≡ answer σ r) × (r ≡ LA' L) → T L (LA L) ≡ and_those (for_each (body_for k D) (asked Q L D.cond σ)) (T L (LA' L))
          parts L (r, e, f) = ap (T L) e ∙ (those_assoc (bodies_at Q L k D σ) (for_each (bodies_at Q L k D) r) (From (suc i) L) ∙ ap (λ z. and_those (bodies_at Q L k D σ) (T L z)) f)

      pub match_passed : Throughout (engine_of (program_over p hooks)) (just LA) (λ L. Passes (just LA L) (just LA' L)) → StandsThen Behind
      match_passed h =
          then_stands Behind
          (step_inside LA T strict (engine_of Q) {H = λ L. Passes (just LA L) (just LA' L)} {K = λ L. Passes (just (λ L. T L (LA L)) L) (just (λ L. T L (LA' L)) L)} (λ L g q m. m ∙ ap (T L) (g (LA L) refl)) h)

    -- there is none left: the next definition is next
    pub match_over : Throughout (engine_of (program_over p hooks)) (just LA) (λ L. IsOver (just LA L)) →
        Throughout (engine_of (program_over p hooks)) (left_standing asked_of given p hooks k n vs old i (Some a) Behind) (λ L.
        Passes (left_standing asked_of given p hooks k n vs old i (Some a) Behind L) (left_standing asked_of given p hooks k n vs new (suc i) None Behind L))
    match_over h =
        subst (λ (f : Engine → Answers Todo → Type 0). Throughout (engine_of Q) f (λ L. Passes (f L) (just (From (suc i)) L))) (here old a Behind)
        (step_inside LA T strict (engine_of Q) {H = λ L. IsOver (just LA L)} {K = λ L. Passes (just (λ L. T L (LA L)) L) (just (From (suc i)) L)} (λ L g q m. m ∙ ap (T L) (g (LA L) refl)) h)

    pub match_due : (b : ℕ) (e : EvalEnd) → IsDueBy (program_over p hooks) b (just LA) e → IsDueBy (program_over p hooks) b (left_standing asked_of given p hooks k n vs old i (Some a) Behind) e
    match_due b e h = subst (λ (f : Engine → Answers Todo → Type 0). IsDueBy Q b f e) (here old a Behind) (due_inside LA T strict Q b e h)

  -- ---- its condition is asked on

  module _ (lawful : IsLawful (program_over p hooks).sign) (old new : List Node) (i : ℕ) (d : Written.StratDef) (at : slice_get p.strategies i ≡ Some d) (a : ArgumentSearch K) (bound : List (VarId × TermId)) (found : last_found a.searches.items ≡ Some bound)
      (bound_same : binding_in new bound ≡ binding_in old bound) (same : left_of_arguments asked_of given p hooks new d.args vs a ≡ left_of_arguments asked_of given p hooks old d.args vs a) where
    abbrev σ : Binding
    σ = binding_in old bound

    abbrev rest : Engine → Answers Todo
    rest = bodies_left asked_of given p hooks k n vs old i d a

    rest_same : bodies_left asked_of given p hooks k n vs new i d a ≡ rest
    rest_same = λ j L. and_those (for_each (bodies_at Q L k (definition_of d)) (same j L)) (From (suc i) L)

    abbrev Own : Option Binding → Engine → Answers Todo → Type 0
    Own o L = IsLeftOf Q L k (definition_of d) (Some σ) o (rest L)

    begun : (s : Standing) → left_begun asked_of given p hooks k n vs old i d a s ≡ Standing_ old i (Some a) s
    begun s = ap (λ (o : Option Written.StratDef). left_of_one asked_of given p hooks k n vs old i o a s) (sym at)

    begun_new : (s : Standing) → left_begun asked_of given p hooks k n vs new i d a s ≡ Standing_ new i (Some a) s
    begun_new s = ap (λ (o : Option Written.StratDef). left_of_one asked_of given p hooks k n vs new i o a s) (sym at)

    stands_at : (s : Standing) → (s ≡ Behind → ⊥) → Own (last_in old s) ≡ Standing_ old i (Some a) s
    stands_at Behind h = absurd (h refl)
    stands_at Before h = (λ j L. IsLeftOf Q L k (definition_of d) (option_map (binding_in old) (sym found j)) None (rest L)) ∙ begun Before
    stands_at (Within f) h = (λ j L. IsLeftOf Q L k (definition_of d) (option_map (binding_in old) (sym found j)) (Some (binding_in old f.items)) (rest L)) ∙ begun (Within f)

    stands_then : (f : Vec (VarId × TermId) Global) → Own (Some (binding_in new f.items)) ≡ Standing_ new i (Some a) (Within f)
    stands_then f =
        (λ j L. IsLeftOf Q L k (definition_of d) (Some (sym bound_same j)) (Some (binding_in new f.items)) (sym rest_same j L))
        ∙ ((λ j L. IsLeftOf Q L k (definition_of d) (option_map (binding_in new) (sym found j)) (Some (binding_in new f.items)) (bodies_left asked_of given p hooks k n vs new i d a L)) ∙ begun_new (Within f))

    stands_next : just rest ≡ Standing_ new i (Some a) Behind
    stands_next = (λ j. just (sym rest_same j)) ∙ begun_new Behind

    pub found_body : (s : Standing) → (s ≡ Behind → ⊥) → (f : Vec (VarId × TermId) Global) → ComesTo Q (λ L. condition_from Q L (last_in old s) (definition_of d).cond σ) (Some (binding_in new f.items)) →
        (x : Todo) × (body_with k new (Within f) (slice_get p.strategies i) ≡ Some x) ×
        Throughout (engine_of (program_over p hooks)) (left_standing asked_of given p hooks k n vs old i (Some a) s) (λ L.
        Gives (left_standing asked_of given p hooks k n vs old i (Some a) s L) x (left_standing asked_of given p hooks k n vs new i (Some a) (Within f) L))
    found_body s h f comes = (
      body_by k (definition_of d) (binding_in new f.items),
      ap (body_with k new (Within f)) at,
      subst (λ (g : Engine → Answers Todo → Type 0). Throughout (engine_of Q) g (λ L. Gives (g L) (body_by k (definition_of d) (binding_in new f.items)) (Standing_ new i (Some a) (Within f) L))) (stands_at s h)
          (subst (λ (g : Engine → Answers Todo → Type 0). Throughout (engine_of Q) (Own (last_in old s)) (λ L. Gives (Own (last_in old s) L) (body_by k (definition_of d) (binding_in new f.items)) (g L))) (stands_then f)
          (given_body Q lawful k (definition_of d) σ (last_in old s) rest (binding_in new f.items) comes)),
    )

    pub no_body : (s : Standing) → (s ≡ Behind → ⊥) → ComesTo Q (λ L. condition_from Q L (last_in old s) (definition_of d).cond σ) None →
        Throughout (engine_of (program_over p hooks)) (left_standing asked_of given p hooks k n vs old i (Some a) s) (λ L.
        Passes (left_standing asked_of given p hooks k n vs old i (Some a) s L) (left_standing asked_of given p hooks k n vs new i (Some a) Behind L))
    no_body s h comes =
        subst (λ (g : Engine → Answers Todo → Type 0). Throughout (engine_of Q) g (λ L. Passes (g L) (Standing_ new i (Some a) Behind L))) (stands_at s h)
        (subst (λ (g : Engine → Answers Todo → Type 0). Throughout (engine_of Q) (Own (last_in old s)) (λ L. Passes (Own (last_in old s) L) (g L))) stands_next
        (passed_body Q lawful k (definition_of d) σ (last_in old s) rest comes))

    pub body_due : (s : Standing) → (s ≡ Behind → ⊥) → (b : ℕ) (e : EvalEnd) → QuestionEnds Q b (question_from (last_in old s) (definition_of d).cond σ) e →
        IsDueBy (program_over p hooks) b (left_standing asked_of given p hooks k n vs old i (Some a) s) e
    body_due s h b e ends = subst (λ (g : Engine → Answers Todo → Type 0). IsDueBy Q b g e) (stands_at s h) (due_body Q lawful k (definition_of d) σ (last_in old s) rest b e ends)

-- ---- what is known of the definition that is begun

module _ {K : Type 0} (asked_of : K → Asked) (given : K → Option Listed.Solution) (is_for : K → SignatureOf → Type 0) (c : Bool) (p : Typed.Program) (m : Meanings) where
  module _ (nodes : List Node) (table : Table) (vs : List TermId) (i : ℕ) where
    abbrev pub Begun : ArgumentSearch K → Standing → Type 0
    Begun a s = IsBegun asked_of given is_for c p m nodes table vs i a s

    -- where it stands at a condition there are searches
    pub begun_here : (o : Option (ArgumentSearch K)) (s : Standing) → (s ≡ Behind → ⊥) → IsStanding asked_of given is_for c p m nodes table vs i o s → (a : ArgumentSearch K) × (o ≡ Some a) × IsBegun asked_of given is_for c p m nodes table vs i a s
    begun_here None s h is = absurd (h is)
    begun_here (Some a) s h is = (a, refl, is)

    module _ (a : ArgumentSearch K) (s : Standing) (is : IsBegun asked_of given is_for c p m nodes table vs i a s) where
      pub begun_within : i < length p.strategies
      begun_within = slice_get_within p.strategies i is.definition is.at

      pub one_definition : (d : Written.StratDef) → slice_get p.strategies i ≡ Some d → is.definition ≡ d
      one_definition d at = one (sym is.at ∙ at)
        where
          one : Some is.definition ≡ Some d → is.definition ≡ d
          one e = cc

      pub asked_there : (s ≡ Behind → ⊥) → IsAskedOn asked_of given is_for c p m nodes table is.definition a s
      asked_there h = by s h is.stands
        where
          by : (t : Standing) → (t ≡ Behind → ⊥) → StandsAt asked_of given is_for c p m nodes table is.definition a t → IsAskedOn asked_of given is_for c p m nodes table is.definition a t
          by Behind h k = absurd (h refl)
          by Before h k = k
          by (Within f) h k = k

      -- its condition may be asked under what was found
      pub askable_there : GoesBy p m → IsLawfulDefinition p.sig is.definition → (bound : List (VarId × TermId)) → last_found a.searches.items ≡ Some bound → length a.searches.items ≡ length is.definition.args →
          IsAskable p.sig (variables_in bound) is.definition.cond
      askable_there goes lawful bound at all =
          let r = reached asked_of given is_for c p m nodes table goes is.definition.args vs a.searches.items is.arguments.searches bound at in
          let own : variables_in bound ≡ variables_of_all is.definition.args = r.variables ∙ all_variables [] is.definition.args a.searches.items all in
          let apart = (bound_reached asked_of given is_for c p m nodes table goes is.definition.args vs a.searches.items is.arguments.searches bound at).apart in
          record { fragments = is.fragments; bound = subst (λ xs. are_bound xs is.definition.cond ≡ true) (sym own) lawful.bound; apart = apart }

      pub values_there : GoesBy p m → (bound : List (VarId × TermId)) → last_found a.searches.items ≡ Some bound → All (IsValueOf p.sig nodes table) bound
      values_there goes bound at = (reached asked_of given is_for c p m nodes table goes is.definition.args vs a.searches.items is.arguments.searches bound at).values

  -- ---- where its condition is asked on

  module _ (goes : GoesBy p m) (lawful : All (IsLawfulDefinition p.sig) p.strategies) (nodes : List Node) (table : Table) (i : ℕ) where
    pub record IsAskedAt (vs : List TermId) (a : ArgumentSearch K) (s : Standing) : Type 0 where
      pub begun : IsBegun asked_of given is_for c p m nodes table vs i a s
      pub within : i < length p.strategies
      pub bound : List (VarId × TermId)
      pub found : last_found a.searches.items ≡ Some bound
      pub all : length a.searches.items ≡ length begun.definition.args
      pub askable : IsAskable p.sig (variables_in bound) begun.definition.cond
      pub values : All (IsValueOf p.sig nodes table) bound
      pub shown : IfSome (found_in s) (IsShownFor m p.sig begun.definition bound nodes table)

    asked_by : (vs : List TermId) (a : ArgumentSearch K) (s : Standing) → (s ≡ Behind → ⊥) → IsBegun asked_of given is_for c p m nodes table vs i a s → IsAskedAt vs a s
    asked_by vs a s h is =
        let k = asked_there nodes table vs i a s is h in
        record {
          begun = is;
          within = begun_within nodes table vs i a s is;
          bound = k.bound;
          found = k.at;
          all = k.all;
          askable = askable_there nodes table vs i a s is goes (all_in (IsLawfulDefinition p.sig) p.strategies is.definition lawful (is_among p.strategies i is.definition is.at)) k.bound k.at k.all;
          values = values_there nodes table vs i a s is goes k.bound k.at;
          shown = k.shown;
        }

    pub asked_at : (vs : List TermId) (o : Option (ArgumentSearch K)) (s : Standing) → (s ≡ Behind → ⊥) → IsStanding asked_of given is_for c p m nodes table vs i o s → (a : ArgumentSearch K) → o ≡ Some a → IsAskedAt vs a s
    asked_at vs o s h is a e = asked_by vs a s h (subst (λ (o : Option (ArgumentSearch K)). IsStanding asked_of given is_for c p m nodes table vs i o s) e is)

  -- ---- in a store that has grown

  module _ (old new : List Node) (before after : Table) (extends : Extends old new) (kept : KeepsEntries before after) where
    shown_grown : (d : Written.StratDef) (bound : List (VarId × TermId)) → All (IsValueOf p.sig old before) bound → (found : List (VarId × TermId)) → IsShownFor m p.sig d bound old before found → IsShownFor m p.sig d bound new after found
    shown_grown d bound values found h = record {
      values = each (IsValueOf p.sig old before) (IsValueOf p.sig new after) (value_grown p.sig old new before after extends kept) found h.values;
      solution =
          subst (λ σ. IsSolutionOf m (map fragment_of d.cond) σ (binding_in new found)) (sym (bound_grown p.sig old new before after extends kept bound values))
          (subst (IsSolutionOf m (map fragment_of d.cond) (binding_in old bound)) (sym (bound_grown p.sig old new before after extends kept found h.values)) h.solution);
    }

    module _ (goes : GoesBy p m) (over : AreOver p.sig.hierarchy after) (vs : List TermId) (i : ℕ) where
      asked_grown : (a : ArgumentSearch K) (s : Standing) (is : IsBegun asked_of given is_for c p m old before vs i a s) (t : Standing) → IsAskedOn asked_of given is_for c p m old before is.definition a t →
          IsAskedOn asked_of given is_for c p m new after is.definition a t
      asked_grown a s is t h = record { bound = h.bound; at = h.at; all = h.all; shown = by (found_in t) h.shown }
        where
          by : (o : Option (List (VarId × TermId))) → IfSome o (IsShownFor m p.sig is.definition h.bound old before) → IfSome o (IsShownFor m p.sig is.definition h.bound new after)
          by None k = tt
          by (Some f) k = shown_grown is.definition h.bound (values_there old before vs i a s is goes h.bound h.at) f k

      pub begun_grown : (a : ArgumentSearch K) (s : Standing) → IsBegun asked_of given is_for c p m old before vs i a s → IsBegun asked_of given is_for c p m new after vs i a s
      begun_grown a s is = record {
        definition = is.definition;
        at = is.at;
        fragments = is.fragments;
        arguments = arguments_grown asked_of given is_for c p m old new before after extends kept over is.definition.args vs a is.arguments;
        stands = by s is.stands;
      }
        where
          by : (t : Standing) → StandsAt asked_of given is_for c p m old before is.definition a t → StandsAt asked_of given is_for c p m new after is.definition a t
          by Behind h = tt
          by Before h = asked_grown a s is Before h
          by (Within f) h = asked_grown a s is (Within f) h

      pub standing_grown : (o : Option (ArgumentSearch K)) (s : Standing) → IsStanding asked_of given is_for c p m old before vs i o s → IsStanding asked_of given is_for c p m new after vs i o s
      standing_grown None s h = h
      standing_grown (Some a) s h = begun_grown a s h

      module _ (k : ℕ) (n : List ℕ) (ts : List Tree) where
        bodies_same : (a : ArgumentSearch K) (s : Standing) (is : IsBegun asked_of given is_for c p m old before vs i a s) →
            bodies_left asked_of given p m.hooks k n ts new i is.definition a ≡ bodies_left asked_of given p m.hooks k n ts old i is.definition a
        bodies_same a s is =
            let same = arguments_same asked_of given is_for c p m old new before after extends kept is.definition.args ts vs a is.arguments in
            λ j L. and_those (for_each (bodies_at (program_over p m.hooks) L k (definition_of is.definition)) (same j L)) (bodies_from asked_of given p m.hooks k n ts (suc i) L)

        last_shown_same : (a : ArgumentSearch K) (s : Standing) (is : IsBegun asked_of given is_for c p m old before vs i a s) → (bound : List (VarId × TermId)) → last_found a.searches.items ≡ Some bound →
            option_map (binding_in new) (last_found a.searches.items) ≡ option_map (binding_in old) (last_found a.searches.items)
        last_shown_same a s is bound at =
            ap (option_map (binding_in new)) at
            ∙ (ap Some (bound_grown p.sig old new before after extends kept bound (values_there old before vs i a s is goes bound at)) ∙ sym (ap (option_map (binding_in old)) at))

        one_same : (a : ArgumentSearch K) (s : Standing) (is : IsBegun asked_of given is_for c p m old before vs i a s) → (t : Standing) → StandsAt asked_of given is_for c p m old before is.definition a t →
            left_begun asked_of given p m.hooks k n ts new i is.definition a t ≡ left_begun asked_of given p m.hooks k n ts old i is.definition a t
        one_same a s is Behind h = let same = bodies_same a s is in λ j. just (same j)
        one_same a s is Before h =
            let same = bodies_same a s is in
            let last = last_shown_same a s is h.bound h.at in
            λ j L. IsLeftOf (program_over p m.hooks) L k (definition_of is.definition) (last j) None (same j L)
        one_same a s is (Within f) h =
            let same = bodies_same a s is in
            let last = last_shown_same a s is h.bound h.at in
            let own = bound_grown p.sig old new before after extends kept f.items h.shown.values in
            λ j L. IsLeftOf (program_over p m.hooks) L k (definition_of is.definition) (last j) (Some (own j)) (same j L)

        pub standing_same : (o : Option (ArgumentSearch K)) (s : Standing) → IsStanding asked_of given is_for c p m old before vs i o s →
            left_standing asked_of given p m.hooks k n ts new i o s ≡ left_standing asked_of given p m.hooks k n ts old i o s
        standing_same None s h = refl
        standing_same (Some a) s h =
            ap (λ (o : Option Written.StratDef). left_of_one asked_of given p m.hooks k n ts new i o a s) h.at
            ∙ (one_same a s h s h.stands ∙ sym (ap (λ (o : Option Written.StratDef). left_of_one asked_of given p m.hooks k n ts old i o a s) h.at))

        pub still_standing : (o : Option (ArgumentSearch K)) (s : Standing) → IsStanding asked_of given is_for c p m old before vs i o s →
            Throughout (engine_of (program_over p m.hooks)) (left_standing asked_of given p m.hooks k n ts old i o s) (λ L.
            Passes (left_standing asked_of given p m.hooks k n ts old i o s L) (left_standing asked_of given p m.hooks k n ts new i o s L))
        still_standing o s h =
            through_always (engine_of (program_over p m.hooks)) (left_standing asked_of given p m.hooks k n ts old i o s)
            {H = λ L. Passes (left_standing asked_of given p m.hooks k n ts old i o s L) (left_standing asked_of given p m.hooks k n ts new i o s L)}
            (λ L q x. subst (λ (f : Engine → Answers Todo → Type 0). f L q) (sym (standing_same o s h)) x)

      pub found_same : (k : ℕ) (o : Option (ArgumentSearch K)) (s : Standing) → IsStanding asked_of given is_for c p m old before vs i o s → body_with k new s (slice_get p.strategies i) ≡ body_with k old s (slice_get p.strategies i)
      found_same k o Behind h = refl
      found_same k o Before h = refl
      found_same k None (Within f) h = cc
      found_same k (Some a) (Within f) h =
          ap (body_with k new (Within f)) h.at
          ∙ (ap (λ σ. Some (record { form = (definition_of h.definition).body; calls = k; values = σ })) (bound_grown p.sig old new before after extends kept f.items h.stands.shown.values) ∙ sym (ap (body_with k old (Within f)) h.at))

-- what is known of a definition that was begun just now
pub idle_standing : {K : Type 0} (asked_of : K → Asked) (given : K → Option Listed.Solution) (is_for : K → SignatureOf → Type 0) (c : Bool) (p : Typed.Program) (m : Meanings) (nodes : List Node) (table : Table) (vs : List TermId) (i : ℕ)
    (d : Written.StratDef) → slice_get p.strategies i ≡ Some d → All (IsFragment p.sig) d.cond → (a : ArgumentSearch K) → a.searches.items ≡ [] → (s : Standing) → s ≡ Behind → IsStanding asked_of given is_for c p m nodes table vs i (Some a) s
idle_standing asked_of given is_for c p m nodes table vs i d at fragments a none s behind = record {
  definition = d;
  at = at;
  fragments = fragments;
  arguments = record {
    searches = subst (AreSearches asked_of given is_for c p m nodes table [] d.args vs) (sym none) tt;
    stands = λ e. subst (λ (ws : List (PatternSearch _)). IsSome (last_found ws)) (sym none) refl;
  };
  stands = subst (StandsAt asked_of given is_for c p m nodes table d a) (sym behind) tt;
}

-- ---- the next solution of a condition that is asked on

pub none_found_yet : {K : Type 0} (ws : List (PatternSearch K)) (f : List (VarId × TermId)) → last_found ws ≡ Some f → last_found ws ≡ None → ⊥
none_found_yet ws f e h = clash (sym e ∙ h)
  where
    clash : Some f ≡ None → ⊥
    clash k = cc

pub same_found : {K : Type 0} (ws : List (PatternSearch K)) (f : List (VarId × TermId)) → last_found ws ≡ Some f → (b : List (VarId × TermId)) → last_found ws ≡ Some b → f ≡ b
same_found ws f e b h = one (sym e ∙ h)
  where
    one : Some f ≡ Some b → f ≡ b
    one k = cc

pub none_begun : {K : Type 0} (asked_of : K → Asked) (given : K → Option Listed.Solution) (is_for : K → SignatureOf → Type 0) (c : Bool) (p : Typed.Program) (m : Meanings) (nodes : List Node) (table : Table) (vs : List TermId) (i : ℕ)
    (o : Option (ArgumentSearch K)) (s : Standing) → (s ≡ Behind → ⊥) → IsStanding asked_of given is_for c p m nodes table vs i o s → o ≡ None → ⊥
none_begun asked_of given is_for c p m nodes table vs i None s h is e = h is
none_begun asked_of given is_for c p m nodes table vs i (Some a) s h is e = cc

module _ {K : Type 0} (asked_of : K → Asked) (given : K → Option Listed.Solution) (is_for : K → SignatureOf → Type 0) (c : Bool) (p : Typed.Program) (m : Meanings) (sound : IsLawful (program_over p m.hooks).sign) (goes : GoesBy p m)
    (lawful : All (IsLawfulDefinition p.sig) p.strategies) (old new : List Node) (before after : Table) (extends : Extends old new) (kept : KeepsEntries before after) (over : AreOver p.sig.hierarchy after) (i : ℕ) (vs : List TermId) where
  abbrev Asked_ : ArgumentSearch K → Standing → Type 0
  Asked_ a s = IsAskedAt asked_of given is_for c p m goes lawful old before i vs a s

  bound_kept : (a : ArgumentSearch K) (st : Standing) (k : Asked_ a st) → binding_in new k.bound ≡ binding_in old k.bound
  bound_kept a st k = bound_grown p.sig old new before after extends kept k.bound k.values

  args_kept : (a : ArgumentSearch K) (st : Standing) (k : Asked_ a st) (ts : List Tree) → left_of_arguments asked_of given p m.hooks new k.begun.definition.args ts a ≡ left_of_arguments asked_of given p m.hooks old k.begun.definition.args ts a
  args_kept a st k ts = arguments_same asked_of given is_for c p m old new before after extends kept k.begun.definition.args ts vs a k.begun.arguments

  module _ (k : ℕ) (n : List ℕ) (s : CallBodies K) (a : ArgumentSearch K) (held : s.arguments ≡ Some a) (is : IsAskedAt asked_of given is_for c p m goes lawful old before i vs a s.standing) (within : s.standing ≡ Behind → ⊥) where
    abbrev ts : List Tree
    ts = trees_at old (numbers vs)

    abbrev Was : Engine → Answers Todo → Type 0
    Was = left_standing asked_of given p m.hooks k n ts old i s.arguments s.standing

    abbrev Now : Option (ArgumentSearch K) → Standing → Engine → Answers Todo → Type 0
    Now o st = left_standing asked_of given p m.hooks k n ts new i o st

    held_was : left_standing asked_of given p m.hooks k n ts old i (Some a) s.standing ≡ Was
    held_was = ap (λ (o : Option (ArgumentSearch K)). left_standing asked_of given p m.hooks k n ts old i o s.standing) (sym held)

    held_now : (st : Standing) → Now (Some a) st ≡ Now s.arguments st
    held_now st = ap (λ (o : Option (ArgumentSearch K)). Now o st) (sym held)

    pub found_turn : (f : Vec (VarId × TermId) Global) → ComesTo (program_over p m.hooks) (λ L. condition_from (program_over p m.hooks) L (last_in old s.standing) (map fragment_of is.begun.definition.cond) (binding_in old is.bound)) (Some (binding_in new f.items)) →
        (x : Todo) × (body_with k new (Within f) (slice_get p.strategies i) ≡ Some x) ×
        Throughout (engine_of (program_over p m.hooks)) (left_standing asked_of given p m.hooks k n (trees_at old (numbers vs)) old i s.arguments s.standing) (λ L.
        Gives (left_standing asked_of given p m.hooks k n (trees_at old (numbers vs)) old i s.arguments s.standing L) x (left_standing asked_of given p m.hooks k n (trees_at old (numbers vs)) new i s.arguments (Within f) L))
    found_turn f comes =
        let h = found_body asked_of given p m.hooks k n ts sound old new i is.begun.definition is.begun.at a is.bound is.found (bound_kept a s.standing is) (args_kept a s.standing is ts) s.standing within f comes in (
          h.0,
          h.1,
          subst (λ (g : Engine → Answers Todo → Type 0). Throughout (engine_of (program_over p m.hooks)) g (λ L. Gives (g L) h.0 (Now s.arguments (Within f) L))) held_was
              (subst (λ (g : Engine → Answers Todo → Type 0). Throughout (engine_of (program_over p m.hooks)) (left_standing asked_of given p m.hooks k n ts old i (Some a) s.standing) (λ L.
              Gives (left_standing asked_of given p m.hooks k n ts old i (Some a) s.standing L) h.0 (g L))) (held_now (Within f)) h.2),
        )

    pub none_turn : ComesTo (program_over p m.hooks) (λ L. condition_from (program_over p m.hooks) L (last_in old s.standing) (map fragment_of is.begun.definition.cond) (binding_in old is.bound)) None →
        Throughout (engine_of (program_over p m.hooks)) (left_standing asked_of given p m.hooks k n (trees_at old (numbers vs)) old i s.arguments s.standing) (λ L.
        Passes (left_standing asked_of given p m.hooks k n (trees_at old (numbers vs)) old i s.arguments s.standing L) (left_standing asked_of given p m.hooks k n (trees_at old (numbers vs)) new i s.arguments Behind L))
    none_turn comes =
        let h = no_body asked_of given p m.hooks k n ts sound old new i is.begun.definition is.begun.at a is.bound is.found (bound_kept a s.standing is) (args_kept a s.standing is ts) s.standing within comes in
        subst (λ (g : Engine → Answers Todo → Type 0). Throughout (engine_of (program_over p m.hooks)) g (λ L. Passes (g L) (Now s.arguments Behind L))) held_was
        (subst (λ (g : Engine → Answers Todo → Type 0). Throughout (engine_of (program_over p m.hooks)) (left_standing asked_of given p m.hooks k n ts old i (Some a) s.standing) (λ L.
        Passes (left_standing asked_of given p m.hooks k n ts old i (Some a) s.standing L) (g L))) (held_now Behind) h)

    pub due_turn : (b : ℕ) (e : EvalEnd) → QuestionEnds (program_over p m.hooks) b (question_from (last_in old s.standing) (map fragment_of is.begun.definition.cond) (binding_in old is.bound)) e →
        IsDueBy (program_over p m.hooks) b (left_standing asked_of given p m.hooks k n (trees_at old (numbers vs)) old i s.arguments s.standing) e
    due_turn b e ends =
        subst (λ (g : Engine → Answers Todo → Type 0). IsDueBy (program_over p m.hooks) b g e) held_was
        (body_due asked_of given p m.hooks k n ts sound old new i is.begun.definition is.begun.at a is.bound is.found (bound_kept a s.standing is) (args_kept a s.standing is ts) s.standing within b e ends)

  module _ (s : CallBodies K) (a : ArgumentSearch K) (held : s.arguments ≡ Some a) (is : IsAskedAt asked_of given is_for c p m goes lawful old before i vs a s.standing) (within : s.standing ≡ Behind → ⊥) where
    then_standing : (st : Standing) → StandsAt asked_of given is_for c p m new after is.begun.definition a st → IsStanding asked_of given is_for c p m new after vs i s.arguments st
    then_standing st h =
        subst (λ (o : Option (ArgumentSearch K)). IsStanding asked_of given is_for c p m new after vs i o st) (sym held)
        (record {
          definition = is.begun.definition;
          at = is.begun.at;
          fragments = is.begun.fragments;
          arguments = arguments_grown asked_of given is_for c p m old new before after extends kept over is.begun.definition.args vs a is.begun.arguments;
          stands = h;
        })

    pub stands_within : (f : Vec (VarId × TermId) Global) → All (IsValueOf p.sig new after) f.items → IsSolutionOf m (map fragment_of is.begun.definition.cond) (binding_in old is.bound) (binding_in new f.items) →
        IsStanding asked_of given is_for c p m new after vs i s.arguments (Within f)
    stands_within f values solution =
        then_standing (Within f)
        (record {
          bound = is.bound;
          at = is.found;
          all = is.all;
          shown = record { values = values; solution = subst (λ σ. IsSolutionOf m (map fragment_of is.begun.definition.cond) σ (binding_in new f.items)) (sym (bound_kept a s.standing is)) solution };
        })

    pub stands_behind : IsStanding asked_of given is_for c p m new after vs i s.arguments Behind
    stands_behind = then_standing Behind tt

-- ---- one turn of the search for the solutions of the argument patterns

module _ {K : Type 0} (asked_of : K → Asked) (given : K → Option Listed.Solution) (is_for : K → SignatureOf → Type 0) (c : Bool) (p : Typed.Program) (m : Meanings) (old new : List Node) (before after : Table) (i : ℕ) (vs : List TermId)
    (s : CallBodies K) (a a' : ArgumentSearch K) (held : s.arguments ≡ Some a) (idle : s.standing ≡ Behind) (is : IsBegun asked_of given is_for c p m old before vs i a s.standing) where
  abbrev E : Program
  E = program_over p m.hooks

  abbrev values : List Tree
  values = trees_at old (numbers vs)

  abbrev LeftIn : List Node → ArgumentSearch K → Engine → Answers Binding
  LeftIn nodes b = left_of_arguments asked_of given p m.hooks nodes is.definition.args values b

  module _ (k : ℕ) (n : List ℕ) where
    abbrev Stand : List Node → ℕ → Option (ArgumentSearch K) → Standing → Engine → Answers Todo → Type 0
    Stand nodes j o st = left_standing asked_of given p m.hooks k n values nodes j o st

    stood : Stand old i (Some a) Behind ≡ Stand old i s.arguments s.standing
    stood = λ j. Stand old i (sym held j) (sym idle j)

    abbrev GoesTo : ℕ → Option (ArgumentSearch K) → Standing → Type 0
    GoesTo j o st =
        Throughout (engine_of (program_over p m.hooks)) (left_standing asked_of given p m.hooks k n (trees_at old (numbers vs)) old i s.arguments s.standing) (λ L.
        Passes (left_standing asked_of given p m.hooks k n (trees_at old (numbers vs)) old i s.arguments s.standing L) (left_standing asked_of given p m.hooks k n (trees_at old (numbers vs)) new j o st L))

    goes_from : (g : Engine → Answers Todo → Type 0) → Throughout (engine_of E) (Stand old i (Some a) Behind) (λ L. Passes (Stand old i (Some a) Behind L) (g L)) →
        Throughout (engine_of E) (Stand old i s.arguments s.standing) (λ L. Passes (Stand old i s.arguments s.standing L) (g L))
    goes_from g h = subst (λ (f : Engine → Answers Todo → Type 0). Throughout (engine_of E) f (λ L. Passes (f L) (g L))) stood h

    pub matched_found : (b : ℕ) → IsTurn (program_over p m.hooks) b (just (LeftIn old a)) (just (LeftIn new a')) (option_map (binding_in new) (last_found a'.searches.items)) (Ok Found) → GoesTo i (Some a') Before
    matched_found b (σ, found, h) = goes_from (Stand new i (Some a') Before) (match_found asked_of given p m.hooks k n values old new i is.definition is.at a a' σ found h)

    pub matched_passed : (b : ℕ) → IsTurn (program_over p m.hooks) b (just (LeftIn old a)) (just (LeftIn new a')) (option_map (binding_in new) (last_found a'.searches.items)) (Ok Passed) → GoesTo i (Some a') s.standing
    matched_passed b h =
        subst (λ (st : Standing). GoesTo i (Some a') st) (sym idle) (goes_from (Stand new i (Some a') Behind) (match_passed asked_of given p m.hooks k n values old new i is.definition is.at a a' h))

    pub matched_over : (b : ℕ) → IsTurn (program_over p m.hooks) b (just (LeftIn old a)) (just (LeftIn new a')) (option_map (binding_in new) (last_found a'.searches.items)) (Ok Over) → GoesTo (suc i) None s.standing
    matched_over b h = goes_from (Stand new (suc i) None s.standing) (match_over asked_of given p m.hooks k n values old new i is.definition is.at a h)

    pub matched_ends : (b : ℕ) (e : EvalEnd) → IsTurn (program_over p m.hooks) b (just (LeftIn old a)) (just (LeftIn new a')) (option_map (binding_in new) (last_found a'.searches.items)) (Err e) →
        GoesTo i (Some a') s.standing × IsDueBy (program_over p m.hooks) b (left_standing asked_of given p m.hooks k n (trees_at old (numbers vs)) old i s.arguments s.standing) e
    matched_ends b e (h, d) = (
      matched_passed b h,
      subst (λ (f : Engine → Answers Todo → Type 0). IsDueBy E b f e) stood (match_due asked_of given p m.hooks k n values old new i is.definition is.at a b e d),
    )

  pub standing_found : IsArgumentSearch asked_of given is_for c p m new after is.definition.args vs a' → length a'.searches.items ≡ length is.definition.args → (σ : Binding) → option_map (binding_in new) (last_found a'.searches.items) ≡ Some σ →
      IsStanding asked_of given is_for c p m new after vs i (Some a') Before
  standing_found known all σ found =
      let f = got (last_found a'.searches.items) found in
      record { definition = is.definition; at = is.at; fragments = is.fragments; arguments = known; stands = record { bound = f.0; at = f.1; all = all; shown = tt } }
    where
      got : (o : Option (List (VarId × TermId))) → option_map (binding_in new) o ≡ Some σ → (f : List (VarId × TermId)) × (o ≡ Some f)
      got None e = cc
      got (Some f) e = (f, refl)

  pub standing_matched : IsArgumentSearch asked_of given is_for c p m new after is.definition.args vs a' → IsStanding asked_of given is_for c p m new after vs i (Some a') s.standing
  standing_matched known =
      record { definition = is.definition; at = is.at; fragments = is.fragments; arguments = known; stands = subst (StandsAt asked_of given is_for c p m new after is.definition a') (sym idle) tt }

-- ---- the fragments of a lawful definition, no one of which rewrites

a_sort : (s : SignatureOf) (r : ℕ) → r < s.hierarchy.sorts → IsSort s.hierarchy r
a_sort s r h = omega arith

pub fragments_of : (s : SignatureOf) (cond : List WrittenFragment.Fragment) → All (IsLawfulFragment s) cond → has_reach (map fragment_of cond) ≡ false → All (IsFragment s) cond
fragments_of s [] h e = All-nil (IsFragment s)
fragments_of s (Part.Equal t u ∷ cs) h e =
    let f = All-head (IsLawfulFragment s) (Part.Equal t u) cs h in
    All-cons (IsFragment s) (Part.Equal t u) cs ((f.kind, f.first), (f.kind, f.second)) (fragments_of s cs (All-tail (IsLawfulFragment s) (Part.Equal t u) cs h) e)
fragments_of s (Part.Match t u ∷ cs) h e =
    let f = All-head (IsLawfulFragment s) (Part.Match t u) cs h in
    All-cons (IsFragment s) (Part.Match t u) cs ((f.kind, f.first), (f.kind, f.second)) (fragments_of s cs (All-tail (IsLawfulFragment s) (Part.Match t u) cs h) e)
fragments_of s (Part.Sort t r ∷ cs) h e =
    All-cons (IsFragment s) (Part.Sort t r) cs (let f = All-head (IsLawfulFragment s) (Part.Sort t r) cs h in (f.0, a_sort s r f.1)) (fragments_of s cs (All-tail (IsLawfulFragment s) (Part.Sort t r) cs h) e)
fragments_of s (Part.Reach t u ∷ cs) h e = cc
