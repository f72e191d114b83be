-- Declarations and statements in other numbers of sorts, kinds and operators: those of a module that includes theirs.
use Rattle.std.specs.Prelude.{ℕ, ◌+◌, List, [], ◌∷◌, ◌++◌, map, fold, Bool, not, ◌&&◌, nat_lt, nat_le, length, replicate, if◌then◌else◌, Option}
use Rattle.std.specs.List.{list_any, position_or_len, range_with_len}
use Rattle.std.specs.Option.{option_map_or}
use Rattle.mau_terms.specs.Tree.{Tree, variable, numeral, apply, Trees, no_trees, tree}
use Rattle.mau_terms.specs.Vars.{same_pair}
use Rattle.mau_terms.specs.declared.ids.OpId.{OpId}
use Rattle.mau_terms.specs.declared.bare.Bare.{Bare}
use Rattle.mau_terms.specs.declared.bare.Bare.TheVariants.{Var, Num, App}
use Rattle.mau_signature.specs.Names.{operator_of}
use Rattle.mau_signature.specs.Signature.{SignatureOf, declarations_at, number_of}
use Rattle.mau_signature.specs.declared.decl.Decl.{Decl}
use Rattle.mau_program.specs.declared.statements.Fragment.{Fragment}
use Rattle.mau_program.specs.declared.statements.Fragment.TheVariants.{Equal, Match, Sort, Reach}
use Rattle.mau_program.specs.declared.statements.Equation.{Equation}
use Rattle.mau_program.specs.declared.statements.Membership.{Membership}
use Rattle.mau_program.specs.declared.statements.Rule.{Rule}

-- the numbers that sorts and kinds, and operators, have in another module
pub record Numbers : Type 0 where
  pub sort : ℕ → ℕ
  pub operator : ℕ → ℕ

-- ---- declarations

-- a declaration, by the numbers of its sorts
abbrev pub declaration_to : (ℕ → ℕ) → Decl → Decl
declaration_to number d = record d { args = map number d.args; result = number d.result }

-- ---- operators: one keeps its form and the kinds of its arguments

-- the number of an operator; 0 where there is none
abbrev pub op_or_zero : Option OpId → ℕ
op_or_zero r = option_map_or (λ o. o.0) r 0

-- the number, over the new signature, of the operator with these declarations
abbrev pub operator_like : (ℕ → ℕ) → SignatureOf → List Decl → ℕ
operator_like sort new [] = 0
operator_like sort new (d ∷ ds) = op_or_zero (number_of new.names (operator_of new.hierarchy (declaration_to sort d)))

-- the number of an operator of the old signature over the new one; 0 for any other number
abbrev pub operator_to : (ℕ → ℕ) → SignatureOf → SignatureOf → ℕ → ℕ
operator_to sort old new n = if nat_lt 0 n && nat_le n (length old.declarations) then operator_like sort new (declarations_at old n) else 0

-- ---- variables: one keeps its place, and its name too, unless a variable before it has that name and, now, its sort

-- a name with so many apostrophes behind it
abbrev pub primed : List ℕ → ℕ → List ℕ
primed name n = name ++ replicate n 39

-- one of these is that name with that sort
abbrev pub is_taken : List (List ℕ × ℕ) → List ℕ × ℕ → Bool
is_taken pairs p = list_any (same_pair p) pairs

-- the least number of apostrophes with which the variable p is none of these; it is at most their number
abbrev pub apostrophes : List (List ℕ × ℕ) → List ℕ × ℕ → ℕ
apostrophes pairs p = position_or_len (λ n. not (is_taken pairs (primed p.0 n, p.1))) (range_with_len 0 (length pairs + 1))

-- one more, behind the others
abbrev pub with_variable : List (List ℕ × ℕ) → List ℕ × ℕ → List (List ℕ × ℕ)
with_variable pairs p = pairs ++ (primed p.0 (apostrophes pairs p), p.1) ∷ []

-- one more of a statement
abbrev pub carry : (ℕ → ℕ) → List (List ℕ × ℕ) → List ℕ × ℕ → List (List ℕ × ℕ)
carry sort pairs p = with_variable pairs (p.0, sort p.1)

-- the variables of a statement
abbrev pub variables_to : (ℕ → ℕ) → List (List ℕ × ℕ) → List (List ℕ × ℕ)
variables_to sort pairs = fold (carry sort) [] pairs

-- ---- terms: a variable keeps its place and has its new sort, an operator has its new number

abbrev mutual
  pub tree_to : Numbers → Tree → Tree
  tree_to n (variable i s) = variable i (n.sort s)
  tree_to n (numeral v) = numeral v
  tree_to n (apply f ts) = apply (n.operator f) (trees_to n ts)

  pub trees_to : Numbers → Trees → Trees
  trees_to n no_trees = no_trees
  trees_to n (tree t ts) = tree (tree_to n t) (trees_to n ts)

-- the same of a term of the code, whose arguments are seen as their trees
abbrev pub term_to : Numbers → Bare → Bare
term_to n (Var v) = Var (record { index = v.index; sort = n.sort v.sort })
term_to n (Num v) = Num v
term_to n (App f ts) = App (record { 0 = n.operator f.0 }) (map (tree_to n) ts)

-- ---- statements

-- a part of a condition
abbrev pub fragment_to : Numbers → Fragment → Fragment
fragment_to n (Equal t u) = Equal (term_to n t) (term_to n u)
fragment_to n (Match p u) = Match (term_to n p) (term_to n u)
fragment_to n (Sort t s) = Sort (term_to n t) (n.sort s)
fragment_to n (Reach t u) = Reach (term_to n t) (term_to n u)

abbrev pub equation_to : Numbers → Equation → Equation
equation_to n e = record e {
  left = term_to n e.left;
  right = term_to n e.right;
  cond = map (fragment_to n) e.cond;
  vars = variables_to n.sort e.vars;
}

abbrev pub membership_to : Numbers → Membership → Membership
membership_to n m = record m {
  left = term_to n m.left;
  sort = n.sort m.sort;
  cond = map (fragment_to n) m.cond;
  vars = variables_to n.sort m.vars;
}

abbrev pub rule_to : Numbers → Rule → Rule
rule_to n r = record r {
  left = term_to n r.left;
  right = term_to n r.right;
  cond = map (fragment_to n) r.cond;
  vars = variables_to n.sort r.vars;
}
