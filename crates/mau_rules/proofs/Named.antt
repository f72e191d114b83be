-- What solves a condition has values of just the variables that are bound behind it: with those of a statement's left side these are all its variables.
use Rattle.std.proofs.Common.{◌≡◌, ◌≤◌, ℕ, suc, List, [], ◌∷◌, ◌++◌, length, map, Bool, true, false, if◌then◌else◌, Option, Some, None, refl, sym, ap, ap₂, ◌∙◌, arith, Vec, Global, Result, Ok, Err, IfOk, IfSome, slice_get}
use Rattle.std.specs.Prelude.{fold}
use Rattle.std.specs.List.{zip}
use Rattle.std.specs.Option.{option_map}
use Rattle.std.proofs.lemmas.List.{length-map}
use Rattle.mau_terms.specs.Tree.{Tree}
use Rattle.mau_terms.specs.Subst.{Variable, variables, add_variables, instance}
use Rattle.mau_terms.specs.View.{tree_of, variable_of}
use Rattle.mau_terms.specs.declared.ids.VarId.{VarId}
use Rattle.mau_terms.specs.declared.ids.TermId.{TermId}
use Rattle.mau_store.specs.Node.{Node}
use Rattle.mau_program.specs.declared.program.Program as Typed
use Rattle.mau_program.specs.declared.statements.Rule as WrittenRule
use Rattle.mau_program.specs.declared.statements.Fragment as Written
use Rattle.mau_program.specs.declared.statements.Fragment.TheVariants as Part
use Rattle.mau_program.specs.Binding.{bound_behind}
use Rattle.mau_evaluation.specs.Run.{Outcome, done, ended, Run, or_go_on, first_of, and_try, choose, gives, where_true}
use Rattle.mau_evaluation.specs.Program.{Program}
use Rattle.mau_evaluation.specs.Listing.{same_tree, Solution, keep, solutions}
use Rattle.mau_evaluation.specs.Evaluation.{Binding, Level, binds, extend, look_up, agree, has_number, have_sorts, levels, solve}
use Rattle.mau_evaluation.proofs.Invert.{not_done, same_value, tried, went}
use Rattle.mau_api.specs.Programs.{fragment_of, program_over}
use Rattle.mau_api.specs.Variables.{statement_variables}
use Rattle.mau_api.specs.Meanings.{Meanings, AreMeanings}
use Rattle.mau_api.specs.Answers.{binding_in, solving_from, MaySolve, mapped}
use Rattle.mau_api.specs.declared.results.EvalEnd.{EvalEnd}
use Rattle.mau_choices.proofs.Agreeing.{bound_variables}
use Rattle.mau_choices.proofs.Added.{variables_extended}
use Rattle.mau_choices.proofs.Numbered.{variables_bound}
use Rattle.mau_reduce.proofs.AllBound.{bound_are_all}
use Rattle.mau_reduce.proofs.Numbered.{one_at}
use Rattle.mau_rules.specs.Runnable.{IsRunnable, GoesBy}
use Rattle.mau_rules.proofs.Solving.{same_solving}
use Rattle.mau_rules.proofs.Shown.{lawful_rule, zip_variables}

-- ---- computations that gave something

-- some element gave it
pub record Gave {A B : Type 0} (f : A → Run (Option B)) (y : B) : Type 0 where
  pub element : A
  pub before : ℕ
  pub count : ℕ
  pub after : ℕ
  pub gave : f element before ≡ done (Some y) count after

none_gave : {B : Type 0} (y : B) (b r c : ℕ) → gives {A = Option B} None b ≡ done (Some y) r c → ⊥
none_gave y b r c e = let same : None ≡ Some y = same_value e in cc

pub first_gave : {A B : Type 0} (f : A → Run (Option B)) (xs : List A) (b : ℕ) (y : B) (r c : ℕ) → first_of f xs b ≡ done (Some y) r c → Gave f y
first_gave f [] b y r c e = absurd (none_gave y b r c e)
first_gave {B = B} f (x ∷ xs) b y r c e = by (λ d. first_gave f xs d y r c) (f x b) refl e
  where
    by : ((d : ℕ) → first_of f xs d ≡ done (Some y) r c → Gave f y) → (o : Outcome (Option B)) → f x b ≡ o → or_go_on (first_of f xs) o ≡ done (Some y) r c → Gave f y
    by rest (done (Some z) p d) h k = record { element = x; before = b; count = r; after = c; gave = h ∙ k }
    by rest (done None p d) h k = rest d k
    by rest (ended d) h k = absurd (not_done d (Some y) r c k)

-- the test held
pub where_gave : {B : Type 0} (t : Bool) (m : Run (Option B)) (b : ℕ) (y : B) (r c : ℕ) → where_true t m b ≡ done (Some y) r c → (t ≡ true) × (m b ≡ done (Some y) r c)
where_gave true m b y r c e = (refl, e)
where_gave false m b y r c e = absurd (none_gave y b r c e)

-- ---- values

-- there is one for each variable at least, where they have their sorts
pub values_enough : (f : Tree → Run (List ℕ)) (xs : List Variable) (vs : List Tree) (b : ℕ) (t : Bool) (r c : ℕ) → have_sorts f xs vs b ≡ done t r c → t ≡ true → length xs ≤ length vs
values_enough f [] vs b t r c e h = omega arith
values_enough f (x ∷ xs) [] b t r c e h = let same : false ≡ t = same_value e in cc
values_enough f (x ∷ xs) (v ∷ vs) b t r c e h =
    let w = went (f v) (λ ss. choose (has_number ss x.1) (have_sorts f xs vs) (gives false)) b t r c e in
    by (λ d q k. values_enough f xs vs d t q c k h) (has_number w.middle x.1) w.between w.behind w.second
  where
    by : ((d q : ℕ) → have_sorts f xs vs d ≡ done t q c → length xs ≤ length vs) → (n : Bool) (d q : ℕ) → choose n (have_sorts f xs vs) (gives false) d ≡ done t q c → suc (length xs) ≤ suc (length vs)
    by rest true d q k = omega (arith, rest d q k)
    by rest false d q k = let same : false ≡ t = same_value k in cc

-- those beyond the variables are not taken
pub record Cut (σ : Binding) (xs : List Variable) (vs : List Tree) : Type 0 where
  pub taken : List Tree
  pub one_each : length taken ≡ length xs
  pub same : extend σ xs vs ≡ extend σ xs taken

pub values_cut : (xs : List Variable) (vs : List Tree) → length xs ≤ length vs → (σ : Binding) → Cut σ xs vs
values_cut [] vs h σ = record { taken = []; one_each = refl; same = refl }
values_cut (x ∷ xs) [] h σ = absurd (omega (arith, h))
values_cut (x ∷ xs) (v ∷ vs) h σ =
    let rest = values_cut xs vs (omega (arith, h)) (if binds σ x then σ else σ ++ (x, v) ∷ []) in
    record { taken = v ∷ rest.taken; one_each = ap suc rest.one_each; same = rest.same }

pub names_extended : (p : Tree) (vs : List Tree) (σ : Binding) → length (variables p) ≤ length vs → bound_variables (extend σ (variables p) vs) ≡ add_variables (bound_variables σ) p
names_extended p vs σ h = let cut = values_cut (variables p) vs h σ in ap bound_variables cut.same ∙ variables_extended p cut.taken σ cut.one_each

-- ---- conditions

module _ (P : Program) (l : Level) where
  abbrev solve_on : List Written.Fragment → Binding → Run (Option Binding)
  solve_on cs σ = solve P l (map fragment_of cs) σ

  -- how a solution of a matched term goes on
  abbrev matched_on : Tree → List Written.Fragment → Binding → Solution → Run (Option Binding)
  matched_on p cs σ x = and_try (have_sorts l.sorts (variables p) x.values) λ ok. where_true ok (solve_on cs (extend σ (variables p) x.values))

  pub solved_variables : (cs : List Written.Fragment) (σ τ : Binding) (b r c : ℕ) → solve_on cs σ b ≡ done (Some τ) r c → bound_variables τ ≡ fold bound_behind (bound_variables σ) cs
  solved_variables [] σ τ b r c e = let same : Some σ ≡ Some τ = same_value e in let one : σ ≡ τ = cc in ap bound_variables (sym one)
  solved_variables (Part.Equal t u ∷ cs) σ τ b r c e =
      let first = tried (l.eval (instance (look_up σ) (tree_of t))) (λ v. and_try (l.eval (instance (look_up σ) (tree_of u))) λ w. where_true (same_tree v w) (solve_on cs σ)) b (Some τ) r c e in
      let second = tried (l.eval (instance (look_up σ) (tree_of u))) (λ w. where_true (same_tree first.middle w) (solve_on cs σ)) first.between (Some τ) first.behind c first.second in
      let held = where_gave (same_tree first.middle second.middle) (solve_on cs σ) second.between τ second.behind c second.second in
      solved_variables cs σ τ second.between second.behind c held.1
  solved_variables (Part.Sort t s ∷ cs) σ τ b r c e =
      let first = tried (l.eval (instance (look_up σ) (tree_of t))) (λ v. and_try (l.sorts v) λ ss. where_true (has_number ss s) (solve_on cs σ)) b (Some τ) r c e in
      let second = tried (l.sorts first.middle) (λ ss. where_true (has_number ss s) (solve_on cs σ)) first.between (Some τ) first.behind c first.second in
      let held = where_gave (has_number second.middle s) (solve_on cs σ) second.between τ second.behind c second.second in
      solved_variables cs σ τ second.between second.behind c held.1
  solved_variables (Part.Match p u ∷ cs) σ τ b r c e =
      let first = tried (l.eval (instance (look_up σ) (tree_of u)))
      (λ v. first_of (matched_on (tree_of p) cs σ) (keep (λ x. agree P.sign.theory σ (variables (tree_of p)) x.values) (solutions P.sign (tree_of p) v))) b (Some τ) r c e in
      let some = first_gave (matched_on (tree_of p) cs σ) (keep (λ x. agree P.sign.theory σ (variables (tree_of p)) x.values) (solutions P.sign (tree_of p) first.middle)) first.between τ first.behind c first.second in
      let x = some.element in
      let second = tried (have_sorts l.sorts (variables (tree_of p)) x.values) (λ ok. where_true ok (solve_on cs (extend σ (variables (tree_of p)) x.values))) some.before (Some τ) some.count some.after some.gave in
      let held = where_gave second.middle (solve_on cs (extend σ (variables (tree_of p)) x.values)) second.between τ second.behind some.after second.second in
      let enough = values_enough l.sorts (variables (tree_of p)) x.values some.before second.middle second.count second.between second.first held.0 in
      solved_variables cs (extend σ (variables (tree_of p)) x.values) τ second.between second.behind some.after held.1
      ∙ ap (λ xs. fold bound_behind xs cs) (names_extended (tree_of p) x.values σ enough)
  solved_variables (Part.Reach t u ∷ cs) σ τ b r c e = absurd (none_gave τ b r c e)

-- ---- what the condition of a rule answers, as the code has it

module _ (p : Typed.Program) (run : IsRunnable p) (m : Meanings) (goes : GoesBy p m) (laws : AreMeanings m) (wanted : Bool) (i : ℕ) (actual rule : WrittenRule.Rule) (at : slice_get p.rules i ≡ Some actual) (there : slice_get p.rules i ≡ Some rule)
    (exec : actual.exec ≡ true) (nodes : List Node) (xs : List VarId) (ids : List TermId) (vars : map variable_of xs ≡ variables (tree_of actual.left)) (many : length ids ≡ length (variables (tree_of actual.left)))
    (asked bound : List (VarId × TermId)) (same : asked ≡ bound) (zipped : bound ≡ zip xs ids) (conds : List Written.Fragment) (written : conds ≡ actual.cond) where
  abbrev all_of : WrittenRule.Rule → List Variable
  all_of q = statement_variables (tree_of q.left) q.cond (tree_of q.right)

  first_ones : bound_variables (binding_in nodes asked) ≡ variables (tree_of actual.left)
  first_ones =
      variables_bound nodes asked
      ∙ (ap (map (λ (b : VarId × TermId). variable_of b.0)) (same ∙ zipped) ∙ (zip_variables xs ids (many ∙ (ap length (sym vars) ∙ length-map xs variable_of)) ∙ vars))

  behind_all : fold bound_behind (bound_variables (binding_in nodes asked)) conds ≡ all_of rule
  behind_all =
      ap₂ (λ ys (cs : List Written.Fragment). fold bound_behind ys cs) first_ones written
      ∙ (sym (bound_are_all (tree_of actual.left) actual.cond (tree_of actual.right) ((lawful_rule p run i actual at).bound exec))
      ∙ ap all_of (one_at p.rules i actual rule at there))

  pub named_at : (before : ℕ) (new : List Node) (r : Result (Option (Vec (VarId × TermId) Global × ℕ)) EvalEnd) →
      MaySolve m (solving_from m None (map fragment_of conds) (binding_in nodes asked)) before new (mapped (option_map (λ x. (x.0.items, x.1))) r) →
      IfOk r (λ o. IfSome o (λ x. map (λ b. variable_of b.0) x.0.items ≡ statement_variables (tree_of rule.left) rule.cond (tree_of rule.right)))
  named_at before new (Ok (Some x)) h =
      let w = h.1 in
      let P = program_over p m.hooks in
      let e = sym (ap (λ (f : ℕ → ℕ → Run (Option Binding)). f w.0 w.1 w.2) (same_solving p run m goes laws wanted (map fragment_of conds) (binding_in nodes asked))) ∙ w.7 in
      sym (variables_bound new x.0.items)
      ∙ (solved_variables P (levels P w.1 w.0) conds (binding_in nodes asked) (binding_in new x.0.items) w.2 h.0 w.3 e ∙ behind_all)
  named_at before new (Ok None) h = tt
  named_at before new (Err e) h = tt
