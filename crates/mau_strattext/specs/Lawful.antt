-- What holds of the terms of each strategy that is read. Which variables are bound isn't asked here.
use Rattle.std.specs.Prelude.{List, [], ◌∷◌, All}
use Rattle.mau_terms.specs.Bare.{IsBare, IsBareIn}
use Rattle.mau_terms.specs.View.{tree_of}
use Rattle.mau_poset.specs.Order.{kind_of}
use Rattle.mau_signature.specs.Faults.{IsSort}
use Rattle.mau_signature.specs.Signature.{SignatureOf, terms_over}
use Rattle.mau_program.specs.LawfulStatements.{IsLawfulFragment}
use Rattle.mau_program.specs.declared.strategies.Assign.{Assign}
use Rattle.mau_program.specs.Trees.{StrategyOf, idle, fail, every_rule, label, top_only, call, test, star, plus, to_normal, in_turn, either, or_else, branch, negation, attempt, test_of, part_rewrite, label_by}

-- the value of an assignment is of the kind of the variable's sort
pub record IsTypedAssign (s : SignatureOf) (a : Assign) : Type 0 where
  pub sort : IsSort s.hierarchy a.sort
  pub value : IsBareIn (terms_over s) (tree_of a.value) (kind_of s.hierarchy a.sort)

-- all terms are bare ones, those of an assignment and of a fragment of one kind; and no form of later work is there
abbrev pub IsTyped : SignatureOf → StrategyOf → Type 0
IsTyped s idle = Unit {0}
IsTyped s fail = Unit {0}
IsTyped s every_rule = Unit {0}
IsTyped s (label l as_) = All (IsTypedAssign s) as_
IsTyped s (top_only x) = IsTyped s x
IsTyped s (call f ts) = All (IsBare (terms_over s)) ts
IsTyped s (test k p c) = IsBare (terms_over s) (tree_of p) × All (IsLawfulFragment s) c
IsTyped s (star x) = IsTyped s x
IsTyped s (plus x) = IsTyped s x
IsTyped s (to_normal x) = IsTyped s x
IsTyped s (in_turn x y) = IsTyped s x × IsTyped s y
IsTyped s (either x y) = IsTyped s x × IsTyped s y
IsTyped s (or_else x y) = IsTyped s x × IsTyped s y
IsTyped s (branch x y z) = IsTyped s x × IsTyped s y × IsTyped s z
IsTyped s (negation x) = IsTyped s x
IsTyped s (attempt x) = IsTyped s x
IsTyped s (test_of x) = IsTyped s x
IsTyped s (part_rewrite k p c us) = ⊥
IsTyped s (label_by l as_ xs) = ⊥

abbrev pub AreTyped : SignatureOf → List StrategyOf → Type 0
AreTyped s [] = Unit {0}
AreTyped s (x ∷ xs) = IsTyped s x × AreTyped s xs
