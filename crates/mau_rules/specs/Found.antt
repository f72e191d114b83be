-- Uses of rules that were found, and what is known of the search for them.
use Rattle.std.specs.Prelude.{◌≡◌, ℕ, suc, List, All, Bool, true, Option, Some, None, Result, Ok, Err, slice_get, length, map}
use Rattle.std.specs.List.{zip}
use Rattle.mau_terms.specs.Tree.{Tree, apply}
use Rattle.mau_terms.specs.Bare.{IsBareIn}
use Rattle.mau_terms.specs.Reading.{reading}
use Rattle.mau_terms.specs.Subst.{variables, instance}
use Rattle.mau_terms.specs.View.{tree_of, variable_of}
use Rattle.mau_terms.specs.declared.ids.TermId.{TermId}
use Rattle.mau_terms.specs.declared.ids.VarId.{VarId}
use Rattle.mau_signature.specs.Signature.{SignatureOf, theory_at, terms_over}
use Rattle.mau_store.specs.Node.{Node}
use Rattle.mau_store.specs.Trees.{tree_at, trees_at}
use Rattle.mau_store.specs.View.{numbers}
use Rattle.mau_sorts.specs.Table.{Table}
use Rattle.mau_listing.specs.declared.solution.Solution as Listed
use Rattle.mau_program.specs.declared.program.Program as Typed
use Rattle.mau_program.specs.declared.statements.Rule as Written
use Rattle.mau_evaluation.specs.Run.{Run}
use Rattle.mau_evaluation.specs.Program.{Fragment, Rule, Program}
use Rattle.mau_evaluation.specs.Evaluation.{Binding, look_up, in_context, levels, solve}
use Rattle.mau_evaluation.specs.Rules.{Place}
use Rattle.mau_evaluation.specs.RuleRuns.{Turns, Stand, turn_to, by_rule, at_place, one_rewrite}
use Rattle.mau_api.specs.Told.{shown_count}
use Rattle.mau_api.specs.Programs.{rule_of}
use Rattle.mau_api.specs.Variables.{statement_variables}
use Rattle.mau_api.specs.Meanings.{Meanings}
use Rattle.mau_api.specs.Answers.{binding_in, IsValueOf, uses_results, levels_of_condition, DerivesNothing}
use Rattle.mau_api.specs.declared.results.Reduced.{Reduced}
use Rattle.mau_api.specs.declared.results.EvalEnd.{EvalEnd}
use Rattle.mau_api.specs.declared.results.EvalEnd.TheVariants.{Stopped, TooDeep, Overflow, NoMemory}
use Rattle.mau_reduce.specs.Contexts.{AreContexts}
use Rattle.mau_rules.specs.declared.attempt.Found.{Found}
use Rattle.mau_rules.specs.Known.{Item, Gives, Stops, IsTooDeep, Overflows}

-- ---- rules by their numbers

-- i is the number of an executable rule
pub record IsExecutable (p : Typed.Program) (i : ℕ) : Type 0 where
  pub rule : Written.Rule
  pub at : slice_get p.rules i ≡ Some rule
  pub exec : rule.exec ≡ true

-- the values of a solution are those of the variables of the pattern p, one for each, and have their sorts
pub record IsValued (s : SignatureOf) (nodes : List Node) (table : Table) (p : Tree) (x : Listed.Solution) : Type 0 where
  pub one_each : length x.values ≡ length (variables p)
  pub values : (xs : List VarId) → map variable_of xs ≡ variables p → All (IsValueOf s nodes table) (zip xs x.values)

-- ---- what was found

-- x is a use of an executable rule at the normal form t: contexts around a part of t, and values of variables that have their sorts
pub record IsFound (p : Typed.Program) (nodes : List Node) (table : Table) (t : Tree) (x : Found) : Type 0 where
  pub rule : Written.Rule
  pub at : slice_get p.rules x.number ≡ Some rule
  pub exec : rule.exec ≡ true
  pub contexts : AreContexts p.sig nodes t (numbers x.solution.left) (numbers x.solution.right)
  pub bound : All (IsValueOf p.sig nodes table) x.bound.items
  -- all variables of the rule have values, in the order in which these are told
  pub named : map (λ b. variable_of b.0) x.bound.items ≡ statement_variables (tree_of rule.left) rule.cond (tree_of rule.right)
  pub kind : (k : ℕ) → IsBareIn (terms_over p.sig) (tree_of rule.left) k → IsBareIn (terms_over p.sig) (reading (theory_at p.sig) t) k

-- the stand that a rule leads to at a place, by contexts and values of its variables; the next turn is behind it
abbrev pub stand_by : Program → Turns → Place → ℕ × Rule → List Tree → List Tree → Binding → Stand
stand_by P g s q left right σ =
    record { term = s.around (in_context P.sign.theory s.term left right (instance (look_up σ) q.1.right)); turns = turn_to g s.term (suc q.0) }

-- the same, by the nodes of a store, where the rule is there
abbrev pub stand_with : Program → Turns → Place → List Node → Found → Option Written.Rule → Option Stand
stand_with P g s nodes x (Some rule) = Some (stand_by P g s (x.number, rule_of rule) (trees_at nodes (numbers x.solution.left)) (trees_at nodes (numbers x.solution.right)) (binding_in nodes x.bound.items))
stand_with P g s nodes x None = None

abbrev pub found_stand : Typed.Program → Program → Turns → Place → List Node → Found → Option Stand
found_stand p P g s nodes x = stand_with P g s nodes x (slice_get p.rules x.number)

-- u in the place of the part that was matched
abbrev pub between : SignatureOf → List Node → Found → Tree → Tree
between s nodes x u = in_context (theory_at s) (tree_at nodes x.term.0) (trees_at nodes (numbers x.solution.left)) (trees_at nodes (numbers x.solution.right)) u

-- the instance of the rule's right side there
abbrev pub tree_with : Typed.Program → List Node → Found → Option Written.Rule → Tree
tree_with p nodes x (Some rule) = between p.sig nodes x (instance (look_up (binding_in nodes x.bound.items)) (tree_of rule.right))
tree_with p nodes x None = tree_at nodes x.term.0

abbrev pub found_tree : Typed.Program → List Node → Found → Tree
found_tree p nodes x = tree_with p nodes x (slice_get p.rules x.number)

-- ---- what is known of a search

-- the limits of an item, for an evaluator that goes by m
abbrev pub item_of : Meanings → Bool → Item
item_of m wanted = record { least = levels_of_condition; limit = m.limit; uses = uses_results m wanted; plain = DerivesNothing m }

-- of a condition
abbrev pub KnownSolving : Item → (ℕ → ℕ → Run (Option Binding)) → ℕ → List Node → Result (Option (List (VarId × TermId) × ℕ)) EvalEnd → ℕ → Type 0
KnownSolving I f before nodes (Ok None) after = (r : ℕ) × Gives I f before None r after
KnownSolving I f before nodes (Ok (Some x)) after = (r : ℕ) × (x.1 ≡ shown_count r) × Gives I f before (Some (binding_in nodes x.0)) r after
KnownSolving I f before nodes (Err Stopped) after = Stops I f before
KnownSolving I f before nodes (Err TooDeep) after = IsTooDeep I f before
KnownSolving I f before nodes (Err Overflow) after = Overflows I f before
KnownSolving I f before nodes (Err NoMemory) after = Unit {0}

-- of an evaluation
abbrev pub KnownEvaluation : Item → (ℕ → ℕ → Run Tree) → ℕ → List Node → Result Reduced EvalEnd → ℕ → Type 0
KnownEvaluation I f before nodes (Ok x) after = (r : ℕ) × (x.rewrites ≡ shown_count r) × Gives I f before (tree_at nodes x.term.0) r after
KnownEvaluation I f before nodes (Err Stopped) after = Stops I f before
KnownEvaluation I f before nodes (Err TooDeep) after = IsTooDeep I f before
KnownEvaluation I f before nodes (Err Overflow) after = Overflows I f before
KnownEvaluation I f before nodes (Err NoMemory) after = Unit {0}

-- the first solution of a condition, under limits
abbrev pub solving_by : Program → List Fragment → Binding → ℕ → ℕ → Run (Option Binding)
solving_by P c σ k B = solve P (levels P B k) c σ

-- of a computation that fails or gives a stand, from what was found
abbrev pub KnownSearch : Item → (ℕ → ℕ → Run (Option Stand)) → ℕ → (Found → Option Stand) → Result (Option Found) EvalEnd → ℕ → Type 0
KnownSearch I f before stand (Ok None) after = Gives I f before None 0 after
KnownSearch I f before stand (Ok (Some x)) after = (r : ℕ) × (x.rewrites ≡ shown_count r) × Gives I f before (stand x) r after
KnownSearch I f before stand (Err Stopped) after = Stops I f before
KnownSearch I f before stand (Err TooDeep) after = IsTooDeep I f before
KnownSearch I f before stand (Err Overflow) after = Overflows I f before
KnownSearch I f before stand (Err NoMemory) after = Unit {0}

-- the computations of one rule at a place, of all rules there, and of all places, under limits
abbrev pub rule_at : Program → Turns → Place → ℕ × Rule → ℕ → ℕ → Run (Option Stand)
rule_at P g s q k B = by_rule P (levels P B (suc k)).eval (levels P B (suc k)).sorts (solve P (levels P B k)) g s q

abbrev pub rules_in : Program → Turns → Place → ℕ → ℕ → Run (Option Stand)
rules_in P g s k B = at_place P (levels P B (suc k)).eval (levels P B (suc k)).sorts (solve P (levels P B k)) g s

abbrev pub one_by : Program → Stand → ℕ → ℕ → Run (Option Stand)
one_by P s k B = one_rewrite P (levels P B (suc k)).eval (levels P B (suc k)).sorts (solve P (levels P B k)) s

-- the number of the rule that is tried first at a term
abbrev pub turn_at : Turns → Tree → ℕ
turn_at g (apply f ts) = g f
turn_at g t = 0
