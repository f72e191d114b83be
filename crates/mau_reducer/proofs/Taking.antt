-- What the world's calls give, from what the calls of mau_reduce do.
use Rattle.std.proofs.Common.{◌≡◌, ◌<◌, ◌-◌, ℕ, zero, suc, inl, inr, fold, get_or, slice_get, arith, nat_eq, eqb-true, length, List, [], ◌∷◌, Bool, true, false, if◌then◌else◌, Option, Some, None, Result, Ok, Err, IfOk, IfErr, map, drop, refl, sym, ap, ap₂, ◌∙◌, subst}
use Rattle.mau_terms.specs.Tree.{Tree, variable, numeral, apply, Trees, no_trees, tree}
use Rattle.mau_terms.specs.Bare.{IsLawful}
use Rattle.mau_terms.specs.declared.ids.TermId.{TermId}
use Rattle.mau_signature.specs.Signature.{SignatureOf, theory_at, terms_over}
use Rattle.mau_formula.specs.Operator.{Operator}
use Rattle.mau_store.specs.Node.{Node, IsOf, AreNodes, Extends}
use Rattle.mau_store.proofs.Numbers.{one_number}
use Rattle.std.proofs.lemmas.Bool.{eqb-false}
use Rattle.mau_evaluation.specs.Listing.{same_tree}
use Rattle.mau_evaluation.proofs.Still.{same_tree_itself}
use Rattle.mau_reduce.proofs.Tops.{same_tree_not}
use Rattle.mau_reduce.specs.Ends as Reduced
use Rattle.mau_machine.specs.Words as Ends
use Rattle.mau_api.specs.declared.results.EvalEnd.{EvalEnd}
use Rattle.mau_api.specs.declared.results.EvalEnd.TheVariants.{Stopped, TooDeep, Overflow, NoMemory}
use Rattle.mau_store.specs.Trees.{tree_at, trees_at}
use Rattle.mau_store.specs.View.{numbers}
use Rattle.mau_sorts.specs.Table.{Table}
use Rattle.mau_evaluation.specs.Run.{Outcome}
use Rattle.mau_evaluation.specs.Program.{Program}
use Rattle.mau_api.specs.Programs.{fragment_of}
use Rattle.mau_reduce.specs.Kinds.{IsTermIn, AreUnder}
use Rattle.mau_reduce.proofs.KindsKept.{trees_kept, term_kept}
use Rattle.mau_evaluation.specs.Listing.{kind_at}
use Rattle.mau_reducer.specs.KnownHandles.{term_kind, is_term}
use Rattle.std.proofs.lemmas.List.{get_or_default}
use Rattle.std.proofs.lemmas.Option.{slice_get_past}
use Rattle.mau_terms.specs.Subst.{Variable, same_variable, value_at, instance, instances, variables}
use Rattle.mau_terms.specs.View.{tree_of, variable_of}
use Rattle.mau_signature.specs.Signature.{IsOperator}
use Rattle.mau_program.specs.declared.statements.Equation.{Equation}
use Rattle.mau_program.specs.declared.statements.Fragment.{Fragment}
use Rattle.mau_program.specs.declared.statements.Fragment.TheVariants.{Equal, Match, Sort, Reach}
use Rattle.mau_program.specs.LawfulStatements.{IsLawfulEquation}
use Rattle.mau_program.specs.Binding.{bound_behind}
use Rattle.mau_evaluation.specs.Evaluation.{Binding, look_up}
use Rattle.mau_api.specs.BuiltIns.{built_in_at, name_at}
use Rattle.mau_api.specs.Variables.{statement_variables}
use Rattle.mau_api.specs.Told.{StepOf, step_in}
use Rattle.mau_api.specs.declared.step.Step.{Step}
use Rattle.mau_terms.specs.declared.memory.NoMemory.{NoMemory as Failed}
use Rattle.mau_reduce.specs.Attempting.{makes_of}
use Rattle.mau_machine.specs.Uses.{SameInstances, IsUse}
use Rattle.mau_machine.specs.declared.goal.Goal.TheVariants as Goals
use Rattle.mau_machine.specs.Words.{goal_of, Asks}
use Rattle.mau_reduce.specs.declared.binding.Binding.{Binding as Kept}
use Rattle.mau_reduce.specs.Bindings.{paired}
use Rattle.mau_reduce.specs.declared.built_in.BuiltIn.{BuiltIn}
use Rattle.mau_reduce.specs.declared.built_in.BuiltIn.TheVariants.{Nothing}
use Rattle.mau_reduce.specs.declared.given.Given.{Given}
use Rattle.mau_reduce.specs.declared.given.Given.TheVariants as Giving
use Rattle.mau_reduce.specs.declared.trying.Found.{Found}
use Rattle.mau_reduce.specs.BuiltOperators.{meaning_of, IsBuiltAt}
use Rattle.mau_reduce.specs.Giving.{GivesValue, given_value}
use Rattle.mau_reduce.specs.Lasts.{IsLast}
use Rattle.mau_reduce.specs.Steps.{equation_variables_of, equation_variables, IsEquationStep, IsBuiltInStep}
use Rattle.mau_reduce.proofs.AllBound.{bound_are_all}
use Rattle.mau_reducer.specs.Basis.{Basis, IsBasis, AreBuiltIns}
use Rattle.mau_reducer.specs.Handles.{written_in, other_by, written_at, first_in, first_other, first_at, rules_of, IsKnownTerm, IsKnownBinding}
use Rattle.mau_reducer.specs.Fragments.{all_taken, rest_is}
use Rattle.mau_reducer.proofs.Conditions.{at_place, no_other, no_first}
use Rattle.mau_reducer.specs.LaterStates.{numbers_mapped}

-- ---- operands

-- the trees of operands, in the same store and in a later one
pub trees_of_ids : (nodes : List Node) (ts : List TermId) → trees_at nodes (numbers ts) ≡ map (λ t. tree_at nodes t.0) ts
trees_of_ids nodes ts = numbers_mapped (tree_at nodes) ts

pub trees_now : (s : SignatureOf) (old new : List Node) → Extends old new → (f : ℕ) (ts : List TermId) → AreUnder s old f (numbers ts) → trees_at old (numbers ts) ≡ map (λ t. tree_at new t.0) ts
trees_now s old new x f ts under = sym (trees_kept (theory_at s) old new (numbers ts) x under.within) ∙ trees_of_ids new ts

-- ---- ends

-- both crates say them alike
pub as_end : {A : Type 0} (o : Outcome A) (e : EvalEnd) → Reduced.IsEnd o e → Ends.IsEnd o e
as_end o Stopped h = h
as_end o TooDeep h = h
as_end o Overflow h = h
as_end o NoMemory h = h

-- ---- equal terms

-- two numbers of a store stand for one term just where they are one
pub numbers_same : (nodes : List Node) → AreNodes nodes → (i j : ℕ) → IsOf nodes i → IsOf nodes j → (r : Bool) → r ≡ nat_eq i j → r ≡ same_tree (tree_at nodes i) (tree_at nodes j)
numbers_same nodes are i j k l true e = sym (ap (λ n. same_tree (tree_at nodes n) (tree_at nodes j)) (eqb-true i j (sym e)) ∙ same_tree_itself (tree_at nodes j))
numbers_same nodes are i j k l false e = sym (same_tree_not (tree_at nodes i) (tree_at nodes j) (λ q. eqb-false i j (sym e) (one_number nodes are i j k l q)))

-- ---- what is built in of a top

-- that of the operator f at the top of t, where the built-in with its place is taken
pub top_built : (s : SignatureOf) (hooks : List Operator) (bs : List BuiltIn) → AreBuiltIns s hooks bs → (t : Tree) (f : ℕ) (ts : Trees) → t ≡ apply f ts → IsOperator s f → (x : BuiltIn) → x ≡ get_or bs (f - 1) x → IsBuiltAt s hooks t x
top_built s hooks bs are t f ts e is x x_is = λ g us k. built g us k
  where
    taken : (n : ℕ) → IsOperator s n → n ≡ f → built_in_at s hooks n ≡ meaning_of hooks (name_at s n) x
    taken zero o d = absurd (omega (arith, o.0))
    taken (suc i) o d =
        let low : i < length bs = omega (arith, o.1, are.one_each) in
        let place : f - 1 ≡ i = omega (arith, d) in
        are.built_in i o
        ∙ ap (meaning_of hooks (name_at s (suc i))) (get_or_default bs i Nothing x low ∙ sym (x_is ∙ ap (λ n. get_or bs n x) place))

    built : (g : ℕ) (us : Trees) → t ≡ apply g us → built_in_at s hooks g ≡ meaning_of hooks (name_at s g) x
    built g us k =
        let same : apply f ts ≡ apply g us = sym e ∙ k in
        let top : f ≡ g = cc in
        subst (λ n. built_in_at s hooks n ≡ meaning_of hooks (name_at s n) x) top (taken f is refl)

-- ---- equations at their places

one_equation : (b : Basis) → IsBasis b → (e : ℕ) (q : Equation) → slice_get b.program.equations e ≡ Some q → q.exec ≡ true →
    statement_variables (tree_of q.left) q.cond (tree_of q.right) ≡ fold bound_behind (variables (tree_of q.left)) q.cond
one_equation b is e q at exec =
    bound_are_all (tree_of q.left) q.cond (tree_of q.right) ((at_place (IsLawfulEquation b.program.sig) b.program.equations is.lawful.equations e q at).bound exec)

-- ---- the variables of the last candidate

-- those that are bound behind its whole condition
abbrev pub bound_at_end : Basis → ℕ → List Variable
bound_at_end b e = fold bound_behind (first_at b e) (written_at b e)

abbrev ended : List Variable → List Fragment → Option Equation → List Variable
ended xs fs o = fold bound_behind (first_in xs o) (written_in fs o)

pub variables_are : (b : Basis) → IsBasis b → (nodes : List Node) (t : Tree) (e : ℕ) (given : Given) (last : Option Found) → IsLast b.program nodes t e given last → bound_at_end b e ≡ equation_variables b.program e
variables_are b is nodes t e given last h = by given last h
  where
    behind : e ≡ length b.program.equations → bound_at_end b e ≡ equation_variables b.program e
    behind d =
        let none : slice_get b.program.equations e ≡ None = ap (slice_get b.program.equations) d ∙ slice_get_past b.program.equations (length b.program.equations) (omega arith) in
        ap (ended (first_other b e) (other_by b.program b.asked e)) none
        ∙ (ap₂ (fold bound_behind) (no_first b e (omega (arith, d))) (no_other b.program b.asked e (omega (arith, d))) ∙ sym (ap equation_variables_of none))

    by : (given : Given) (last : Option Found) → IsLast b.program nodes t e given last → bound_at_end b e ≡ equation_variables b.program e
    by Giving.Nothing (Some y) k = ap (ended (first_other b e) (other_by b.program b.asked e)) k.1.at ∙ (sym (one_equation b is e k.1.equation k.1.at k.1.exec) ∙ sym (ap equation_variables_of k.1.at))
    by Giving.Nothing None k = absurd k
    by Giving.TooLarge last k = absurd k
    by (Giving.Argument j) last k = behind k
    by (Giving.Whole l) last k = behind k
    by (Giving.Before l) last k = behind k

-- a solution of the condition has the values of them all
pub solved_variables : (b : Basis) (nodes : List Node) (table : Table) (e i : ℕ) (σ : Kept) → IsKnownBinding b nodes table e i σ → Asks (rules_of b) e i Goals.Nothing → map variable_of σ.variables.items ≡ bound_at_end b e
solved_variables b nodes table e i σ h k =
    h.variables ∙ ap (fold bound_behind (first_at b e)) (all_taken (written_at b e) i (none (drop i (written_at b e)) (k ∙ ap goal_of (rest_is b e i))))
  where
    none : (fs : List Fragment) → Goals.Nothing ≡ goal_of (map fragment_of fs) → fs ≡ []
    none [] d = refl
    none (Equal t u ∷ fs) d = cc
    none (Match t u ∷ fs) d = cc
    none (Sort t s ∷ fs) d = cc
    none (Reach t u ∷ fs) d = cc

-- ---- instances by the values of a solution

paired_value : (xs : List Variable) (vs : List Tree) (x : Variable) → look_up (paired xs vs) x ≡ value_at xs vs x
paired_value [] vs x = refl
paired_value (y ∷ xs) [] x = refl
paired_value (y ∷ xs) (v ∷ vs) x = ap (λ t. if same_variable y x then v else t) (paired_value xs vs x)

mutual
  instance_all : (g h : Variable → Tree) → ((x : Variable) → g x ≡ h x) → (t : Tree) → instance g t ≡ instance h t
  instance_all g h f (variable i s) = f (i, s)
  instance_all g h f (numeral n) = refl
  instance_all g h f (apply o ts) = ap (apply o) (instances_all g h f ts)

  instances_all : (g h : Variable → Tree) → ((x : Variable) → g x ≡ h x) → (ts : Trees) → instances g ts ≡ instances h ts
  instances_all g h f no_trees = refl
  instances_all g h f (tree t ts) = ap₂ tree (instance_all g h f t) (instances_all g h f ts)

same_instances : (g h : Variable → Tree) → ((x : Variable) → g x ≡ h x) → (fs : List Fragment) → SameInstances g h fs
same_instances g h f [] = tt
same_instances g h f (Equal t u ∷ fs) = (instance_all g h f (tree_of t), instance_all g h f (tree_of u), same_instances g h f fs)
same_instances g h f (Match q u ∷ fs) = (instance_all g h f (tree_of q), instance_all g h f (tree_of u), same_instances g h f fs)
same_instances g h f (Sort t r ∷ fs) = (instance_all g h f (tree_of t), same_instances g h f fs)
same_instances g h f (Reach t u ∷ fs) = tt

-- ---- the step that is told

pub use_of : (b : Basis) → IsBasis b → (P : ℕ → Tree → Type 0) (nodes : List Node) (u : Tree) (e : ℕ) (given : Given) (last : Option Found) → IsLast b.program nodes u e given last →
    (xs : List Variable) (vs : List Tree) → xs ≡ equation_variables b.program e → (t v : Tree) (x : StepOf) →
    ((GivesValue given → ⊥) → IsEquationStep b.program P e vs t v x) → (GivesValue given → IsBuiltInStep b.program b.hooks t v x) → IsUse b.program b.hooks P (written_at b e) (paired xs vs) t v x
use_of b is P nodes u e given last h xs vs are t v x equation built = by given last h equation built
  where
    of_built : e ≡ length b.program.equations → IsBuiltInStep b.program b.hooks t v x → IsUse b.program b.hooks P (written_at b e) (paired xs vs) t v x
    of_built d s =
        inr (record {
          operator = s.operator;
          condition =
              ap (written_in (other_by b.program b.asked e)) (ap (slice_get b.program.equations) d ∙ slice_get_past b.program.equations (length b.program.equations) (omega arith))
              ∙ no_other b.program b.asked e (omega (arith, d));
          statement = s.statement;
          built = s.built;
          leads = s.leads;
        })

    by : (given : Given) (last : Option Found) → IsLast b.program nodes u e given last → ((GivesValue given → ⊥) → IsEquationStep b.program P e vs t v x) → (GivesValue given → IsBuiltInStep b.program b.hooks t v x) →
        IsUse b.program b.hooks P (written_at b e) (paired xs vs) t v x
    by Giving.Nothing (Some y) k equation built =
        let s = equation (λ z. z) in
        let named : xs ≡ statement_variables (tree_of s.equation.left) s.equation.cond (tree_of s.equation.right) = are ∙ ap equation_variables_of s.at in
        let cond : written_at b e ≡ s.equation.cond = ap (written_in (other_by b.program b.asked e)) s.at in
        inl (record {
          number = suc e;
          equation = s.equation;
          numbered = s.at;
          exec = s.exec;
          condition = sym cond;
          statement = s.statement;
          instance = s.instance;
          same =
              same_instances (look_up (paired xs vs)) (value_at (statement_variables (tree_of s.equation.left) s.equation.cond (tree_of s.equation.right)) x.values)
              (λ z. paired_value xs vs z ∙ ap₂ (λ ys us. value_at ys us z) named (sym s.values)) (written_at b e);
          leads = s.leads;
        })
    by Giving.Nothing None k equation built = absurd k
    by Giving.TooLarge last k equation built = absurd k
    by (Giving.Argument j) last k equation built = of_built k (built tt)
    by (Giving.Whole l) last k equation built = of_built k (built tt)
    by (Giving.Before l) last k equation built = of_built k (built tt)

-- what a built-in makes is its value
pub value_made : (P : Program) (nodes : List Node) (t : Tree) (given : Given) (last : Option Found) (σ : Binding) → GivesValue given → makes_of P nodes t given last σ ≡ given_value nodes P.sign.theory t given
value_made P nodes t Giving.Nothing last σ v = absurd v
value_made P nodes t Giving.TooLarge last σ v = absurd v
value_made P nodes t (Giving.Argument j) last σ v = refl
value_made P nodes t (Giving.Whole l) last σ v = refl
value_made P nodes t (Giving.Before l) last σ v = refl

pub use_told : (b : Basis) → IsBasis b → (P : ℕ → Tree → Type 0) (old new : List Node) (u : Tree) (e : ℕ) (given : Given) (last : Option Found) → IsLast b.program old u e given last →
    (xs : List Variable) (vs : List Tree) → xs ≡ equation_variables b.program e → (t v : Tree) (r : Result Step Failed) →
    ((GivesValue given → ⊥) → IfOk r (λ x. IsEquationStep b.program P e vs t v (step_in new x))) → (GivesValue given → IfOk r (λ x. IsBuiltInStep b.program b.hooks t v (step_in new x))) →
    IfOk r (λ x. IsUse b.program b.hooks P (written_at b e) (paired xs vs) t v (step_in new x))
use_told b is P old new u e given last h xs vs are t v (Ok x) equation built = use_of b is P old u e given last h xs vs are t v (step_in new x) equation built
use_told b is P old new u e given last h xs vs are t v (Err d) equation built = tt

-- ---- what is made

module _ (s : SignatureOf) (lawful : IsLawful (terms_over s)) (old new : List Node) (x : Extends old new) (k term : ℕ) (is : IsTermIn s old k term) where
  pub made_kind : (r : Result TermId EvalEnd) → IfOk r (λ t. IsTermIn s new k t.0) → IfOk r (λ t. kind_at (terms_over s) (tree_at new t.0) ≡ kind_at (terms_over s) (tree_at new term))
  made_kind (Ok t) h = term_kind s lawful new k t.0 h ∙ sym (term_kind s lawful new k term (term_kept s old new k term x is))
  made_kind (Err e) h = tt

  pub made_known : (r : Result TermId EvalEnd) → IfOk r (λ t. IsTermIn s new k t.0) → IfOk r (λ t. IsKnownTerm s new t.0)
  made_known (Ok t) h = record { lawful = lawful; term = is_term s new k t.0 h }
  made_known (Err e) h = tt

pub as_ends : {A : Type 0} (o : Outcome A) (r : Result TermId EvalEnd) → IfErr r (Reduced.IsEnd o) → IfErr r (Ends.IsEnd o)
as_ends o (Ok t) h = tt
as_ends o (Err e) h = as_end o e h
