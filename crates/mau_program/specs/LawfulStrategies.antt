-- Definitions of strategies over a signature: when they are lawful. In a strategy the pattern of a test, the p of its matching fragments and
-- the name of an assignment may have new variables; all its other terms have bound variables only.
use Rattle.std.specs.Prelude.{◌≡◌, ℕ, List, [], ◌∷◌, ◌&&◌, true, All, fold}
use Rattle.std.specs.List.{list_any}
use Rattle.mau_poset.specs.Order.{kind_of}
use Rattle.mau_terms.specs.Tree.{Tree}
use Rattle.mau_terms.specs.Bare.{IsBare, IsBareIn}
use Rattle.mau_terms.specs.Subst.{Variable, has_variable, add_variables, variables}
use Rattle.mau_terms.specs.View.{tree_of, variable_of}
use Rattle.mau_terms.specs.declared.bare.Bare.{Bare}
use Rattle.mau_signature.specs.Faults.{IsSort}
use Rattle.mau_signature.specs.Signature.{SignatureOf, terms_over}
use Rattle.mau_program.specs.declared.statements.Fragment.{Fragment}
use Rattle.mau_program.specs.declared.strategies.Assign.{Assign}
use Rattle.mau_program.specs.declared.definitions.StratDef.{StratDef}
use Rattle.mau_program.specs.Trees.{StrategyOf, idle, fail, every_rule, label, top_only, call, test, star, plus, to_normal, in_turn, either, or_else, branch, negation, attempt, test_of, part_rewrite, label_by, Strategies, no_strategies, strategy, Uses, no_uses, use_of}
use Rattle.mau_program.specs.Binding.{has_only, bound_behind, are_bound, listed}
use Rattle.mau_program.specs.LawfulStatements.{IsLawfulFragment, HasListedIn}

-- ---- the terms of a strategy, where the variables xs are bound

-- an argument of a call: a bare term
pub record IsLawfulArgument (s : SignatureOf) (xs : List Variable) (t : Tree) : Type 0 where
  pub bare : IsBare (terms_over s) t
  pub bound : has_only xs t ≡ true

-- the value of an assignment is of the kind of the variable's sort
pub record IsLawfulAssign (s : SignatureOf) (xs : List Variable) (a : Assign) : Type 0 where
  pub sort : IsSort s.hierarchy a.sort
  pub value : IsBareIn (terms_over s) (tree_of a.value) (kind_of s.hierarchy a.sort)
  pub bound : has_only xs (tree_of a.value) ≡ true

-- a pattern with its condition
pub record IsLawfulTest (s : SignatureOf) (xs : List Variable) (pattern : Bare) (cond : List Fragment) : Type 0 where
  pub matched : IsBare (terms_over s) (tree_of pattern)
  pub condition : All (IsLawfulFragment s) cond
  pub bound : are_bound (add_variables xs (tree_of pattern)) cond ≡ true

-- what is bound behind it
abbrev pub behind_test : List Variable → Bare → List Fragment → List Variable
behind_test xs pattern cond = fold bound_behind (add_variables xs (tree_of pattern)) cond

-- ---- strategies, where the variables xs are bound

abbrev mutual
  pub IsLawfulStrategy : SignatureOf → List Variable → StrategyOf → Type 0
  IsLawfulStrategy s xs idle = Unit {0}
  IsLawfulStrategy s xs fail = Unit {0}
  IsLawfulStrategy s xs every_rule = Unit {0}
  IsLawfulStrategy s xs (label l as_) = All (IsLawfulAssign s xs) as_
  IsLawfulStrategy s xs (top_only e) = IsLawfulStrategy s xs e
  IsLawfulStrategy s xs (call f ts) = All (IsLawfulArgument s xs) ts
  IsLawfulStrategy s xs (test k p c) = IsLawfulTest s xs p c
  IsLawfulStrategy s xs (star e) = IsLawfulStrategy s xs e
  IsLawfulStrategy s xs (plus e) = IsLawfulStrategy s xs e
  IsLawfulStrategy s xs (to_normal e) = IsLawfulStrategy s xs e
  IsLawfulStrategy s xs (in_turn e f) = IsLawfulStrategy s xs e × IsLawfulStrategy s xs f
  IsLawfulStrategy s xs (either e f) = IsLawfulStrategy s xs e × IsLawfulStrategy s xs f
  IsLawfulStrategy s xs (or_else e f) = IsLawfulStrategy s xs e × IsLawfulStrategy s xs f
  IsLawfulStrategy s xs (branch e f g) = IsLawfulStrategy s xs e × IsLawfulStrategy s xs f × IsLawfulStrategy s xs g
  IsLawfulStrategy s xs (negation e) = IsLawfulStrategy s xs e
  IsLawfulStrategy s xs (attempt e) = IsLawfulStrategy s xs e
  IsLawfulStrategy s xs (test_of e) = IsLawfulStrategy s xs e
  IsLawfulStrategy s xs (part_rewrite k p c us) = IsLawfulTest s xs p c × AreLawfulUses s (variables (tree_of p)) (behind_test xs p c) us
  IsLawfulStrategy s xs (label_by l as_ es) = All (IsLawfulAssign s xs) as_ × AreLawfulStrategies s xs es

  pub AreLawfulStrategies : SignatureOf → List Variable → Strategies → Type 0
  AreLawfulStrategies s xs no_strategies = Unit {0}
  AreLawfulStrategies s xs (strategy e es) = IsLawfulStrategy s xs e × AreLawfulStrategies s xs es

  -- the variables whose values are rewritten are among ps
  pub AreLawfulUses : SignatureOf → List Variable → List Variable → Uses → Type 0
  AreLawfulUses s ps xs no_uses = Unit {0}
  AreLawfulUses s ps xs (use_of v e us) = (has_variable ps (variable_of v) ≡ true) × IsLawfulStrategy s xs e × AreLawfulUses s ps xs us

-- ---- definitions

-- the variables of some patterns
abbrev pub variables_in : List Tree → List Variable
variables_in ts = fold add_variables [] ts

-- the arguments are bare terms and bind first, then the condition, and then stands the body
pub record IsLawfulDefinition (s : SignatureOf) (d : StratDef) : Type 0 where
  pub args : All (IsBare (terms_over s)) d.args
  pub condition : All (IsLawfulFragment s) d.cond
  pub listed : All (λ t. has_only (listed d.vars) t ≡ true) d.args × All (HasListedIn d.vars) d.cond
  pub bound : are_bound (variables_in d.args) d.cond ≡ true
  pub body : IsLawfulStrategy s (fold bound_behind (variables_in d.args) d.cond) d.body
