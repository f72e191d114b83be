-- Searches for the uses of one rule by the numbers of a store: where they stand, and what is left.
use Rattle.std.specs.Prelude.{◌≡◌, ℕ, List, [], map, All, Bool, true, false, Option, Some, None, IfSome, Result, Ok, Err}
use Rattle.std.specs.Option.{option_map}
use Rattle.mau_terms.specs.Tree.{Tree}
use Rattle.mau_terms.specs.Bare.{IsBareIn}
use Rattle.mau_terms.specs.Reading.{reading}
use Rattle.mau_terms.specs.Subst.{Variable, variables, add_variables}
use Rattle.mau_terms.specs.View.{tree_of, variable_of}
use Rattle.mau_terms.specs.declared.ids.TermId.{TermId}
use Rattle.mau_terms.specs.declared.ids.VarId.{VarId}
use Rattle.mau_signature.specs.Signature.{SignatureOf, theory_at, terms_over}
use Rattle.mau_formula.specs.Operator.{Operator}
use Rattle.mau_store.specs.Node.{Node}
use Rattle.mau_store.specs.Trees.{tree_at}
use Rattle.mau_store.specs.View.{numbers}
use Rattle.mau_sorts.specs.Table.{Table}
use Rattle.mau_listing.specs.Asked.{Asked, asks, CanGoOn}
use Rattle.mau_listing.specs.declared.solution.Solution as Listed
use Rattle.mau_program.specs.LawfulStatements.{AreOfOneKind}
use Rattle.mau_program.specs.declared.program.Program as Typed
use Rattle.mau_program.specs.declared.statements.Rule as Written
use Rattle.mau_evaluation.specs.Program.{Program}
use Rattle.mau_evaluation.specs.Listing.{Solution}
use Rattle.mau_evaluation.specs.Evaluation.{Binding, extend}
use Rattle.mau_evaluation.specs.Engine.{Engine, engine_of}
use Rattle.mau_evaluation.specs.Answers.{Answers}
use Rattle.mau_api.specs.Programs.{rule_of, program_over}
use Rattle.mau_api.specs.Remaining.{is_whole}
use Rattle.mau_api.specs.Meanings.{Meanings}
use Rattle.mau_api.specs.Answers.{binding_in, IsValueOf, IsAskable, AreApart, IsSolutionOf, AreSettled}
use Rattle.mau_api.specs.declared.results.EvalEnd.{EvalEnd}
use Rattle.mau_reduce.specs.Contexts.{AreContexts}
use Rattle.mau_reduce.specs.Trying.{solution_in}
use Rattle.mau_rules.specs.Found.{IsValued}
use Rattle.mau_leaves.specs.Steps.{Gives, IsOver, Passes, Throughout}
use Rattle.mau_leaves.specs.Uses.{Use, Stand, behind, at_one, IsLeft}
use Rattle.mau_leaves.specs.Answers.{IsDueBy}
use Rattle.mau_leaves.specs.declared.turn.Turn.{Turn}
use Rattle.mau_leaves.specs.declared.turn.Turn.TheVariants.{Found, Passed, Over}
use Rattle.mau_leaves.specs.declared.uses.Standing.{Standing}
use Rattle.mau_leaves.specs.declared.uses.Standing.TheVariants.{Behind, Before, Within}

-- whether a solution is gone through: all are, or those whose contexts are empty
abbrev pub takes : Bool → Solution → Bool
takes true x = is_whole x
takes false x = true

-- ---- where a search stands

-- by the last solution of the left side that its listing gave
abbrev pub stand_of : List Node → Option Listed.Solution → Standing → Stand
stand_of nodes None s = behind None
stand_of nodes (Some x) Behind = behind (Some (solution_in nodes x))
stand_of nodes (Some x) Before = at_one (solution_in nodes x) None
stand_of nodes (Some x) (Within found) = at_one (solution_in nodes x) (Some (binding_in nodes found.items))

-- what is left of the uses of a rule at the subject of the listing, under what is bound: by the solutions without contexts, or by all
abbrev pub left_in : Typed.Program → List Operator → Written.Rule → Bool → List (VarId × TermId) → List Node → Asked → Option Listed.Solution → Standing → Engine → Answers Use → Type 0
left_in p hooks rule w bound nodes a given s = λ L. IsLeft (program_over p hooks) L w (rule_of rule) (binding_in nodes bound) (tree_at nodes a.subject.0) (stand_of nodes given s)

-- the use that was found last
abbrev pub use_in : Written.Rule → List Node → Option Listed.Solution → Standing → Option Use
use_in rule nodes (Some x) (Within found) = Some (record { rule = rule_of rule; solution = solution_in nodes x; values = binding_in nodes found.items })
use_in rule nodes given s = None

-- the last solution of the condition, by numbers and as terms
abbrev pub found_in : Standing → Option (List (VarId × TermId))
found_in Behind = None
found_in Before = None
found_in (Within found) = Some found.items

abbrev pub last_in : List Node → Standing → Option Binding
last_in nodes s = option_map (binding_in nodes) (found_in s)

-- ---- what is known where it stands

-- the variables that have values before
abbrev pub variables_in : List (VarId × TermId) → List Variable
variables_in bound = map (λ b. variable_of b.0) bound

-- a rule that can be used where some variables, each once, have values before: its sides are of one kind, and its condition may be asked where these and the
-- variables of its left side have values
pub record IsUsable (s : SignatureOf) (xs : List Variable) (rule : Written.Rule) : Type 0 where
  pub sides : AreOfOneKind (terms_over s) rule.left rule.right
  pub condition : IsAskable s (add_variables xs (tree_of rule.left)) rule.cond
  pub apart : AreApart xs

-- x is a solution of the rule's left side in t, with contexts around a part of it, and values that have their sorts
pub record IsAtSolution (s : SignatureOf) (rule : Written.Rule) (t : Tree) (nodes : List Node) (table : Table) (x : Listed.Solution) : Type 0 where
  pub valued : IsValued s nodes table (tree_of rule.left) x
  pub contexts : AreContexts s nodes t (numbers x.left) (numbers x.right)
  pub kind : (k : ℕ) → IsBareIn (terms_over s) (tree_of rule.left) k → IsBareIn (terms_over s) (reading (theory_at s) t) k

-- what is bound, and the values of the rule's other variables in x
abbrev pub bound_at : List Node → Written.Rule → List (VarId × TermId) → Listed.Solution → Binding
bound_at nodes rule bound x = extend (binding_in nodes bound) (variables (tree_of rule.left)) (solution_in nodes x).values

-- these are values of a solution of the rule's condition for x
pub record IsShownFor (m : Meanings) (s : SignatureOf) (rule : Written.Rule) (bound : List (VarId × TermId)) (nodes : List Node) (table : Table) (x : Listed.Solution) (found : List (VarId × TermId)) : Type 0 where
  pub values : All (IsValueOf s nodes table) found
  pub solution : IsSolutionOf m (rule_of rule).cond (bound_at nodes rule bound x) (binding_in nodes found)

abbrev pub IsShownBehind : Meanings → SignatureOf → Written.Rule → List (VarId × TermId) → List Node → Table → Listed.Solution → Standing → Type 0
IsShownBehind m s rule bound nodes table x k = IfSome (found_in k) (IsShownFor m s rule bound nodes table x)

-- at a solution there is one
abbrev pub StandsAt : Meanings → SignatureOf → Written.Rule → List (VarId × TermId) → List Node → Table → Option Listed.Solution → Standing → Type 0
StandsAt m s rule bound nodes table None Behind = Unit {0}
StandsAt m s rule bound nodes table None Before = ⊥
StandsAt m s rule bound nodes table None (Within found) = ⊥
StandsAt m s rule bound nodes table (Some x) k = IsShownBehind m s rule bound nodes table x k

-- a search for the uses of a rule that can be used, under what is bound
pub record IsSearch (c : Bool) (p : Typed.Program) (m : Meanings) (rule : Written.Rule) (bound : List (VarId × TermId)) (nodes : List Node) (table : Table) (a : Asked) (given : Option Listed.Solution) (s : Standing) : Type 0 where
  pub asked : a ≡ asks (tree_of rule.left) bound a.subject
  pub values : All (IsValueOf p.sig nodes table) bound
  pub settled : AreSettled p.sig nodes table (tree_at nodes a.subject.0)
  pub ready : CanGoOn c p.sig nodes table a given
  pub at : IfSome given (IsAtSolution p.sig rule (tree_at nodes a.subject.0) nodes table)
  pub stands : StandsAt m p.sig rule bound nodes table given s

-- ---- what a turn does, where `old` and `new` say what is left before it and behind it

abbrev pub IsTurn : {A : Type 0} → Program → ℕ → (Engine → Answers A → Type 0) → (Engine → Answers A → Type 0) → Option A → Result Turn EvalEnd → Type 0
IsTurn {A = A} P b old new o (Ok Found) = (x : A) × (o ≡ Some x) × Throughout (engine_of P) old (λ L. Gives (old L) x (new L))
IsTurn P b old new o (Ok Passed) = Throughout (engine_of P) old (λ L. Passes (old L) (new L))
IsTurn P b old new o (Ok Over) = Throughout (engine_of P) old (λ L. IsOver (old L))
IsTurn P b old new o (Err e) = Throughout (engine_of P) old (λ L. Passes (old L) (new L)) × IsDueBy P b old e

-- the next one, or none is left, or an end; after an end what is left is so still
abbrev pub IsNextOne : {A : Type 0} → Program → ℕ → (Engine → Answers A → Type 0) → (Engine → Answers A → Type 0) → Option A → Result Bool EvalEnd → Type 0
IsNextOne {A = A} P b old new o (Ok true) = (x : A) × (o ≡ Some x) × Throughout (engine_of P) old (λ L. Gives (old L) x (new L))
IsNextOne P b old new o (Ok false) = Throughout (engine_of P) old (λ L. IsOver (old L))
IsNextOne P b old new o (Err e) = Throughout (engine_of P) old (λ L. Passes (old L) (new L)) × IsDueBy P b old e
