-- Numbers that keep kinds: over the new signature sorts, kinds and operators lie as they did over the old one. What is lawful stays so in
-- such numbers, but for the left sides of equations and the heads of memberships, which more axioms may make unlawful.
use Rattle.std.specs.Prelude.{◌≡◌, ℕ, ◌<◌, List, All, map, Some, true}
use Rattle.mau_poset.specs.Order.{kind_of}
use Rattle.mau_terms.specs.Tree.{Tree}
use Rattle.mau_terms.specs.Bare.{IsBareIn}
use Rattle.mau_terms.specs.Vars.{AreDistinct}
use Rattle.mau_terms.specs.View.{tree_of}
use Rattle.mau_signature.specs.Faults.{IsSort}
use Rattle.mau_signature.specs.Signature.{SignatureOf, IsOperator, theory_at, terms_over}
use Rattle.mau_program.specs.declared.statements.Equation.{Equation}
use Rattle.mau_program.specs.declared.statements.Membership.{Membership}
use Rattle.mau_program.specs.declared.statements.Rule.{Rule}
use Rattle.mau_program.specs.declared.definitions.StratDef.{StratDef}
use Rattle.mau_program.specs.Tops.{is_left_side, is_head}
use Rattle.mau_program.specs.LawfulStatements.{IsLawfulEquation, IsLawfulMembership, IsLawfulRule}
use Rattle.mau_program.specs.LawfulStrategies.{IsLawfulDefinition}
use Rattle.mau_renumber.specs.Carried.{Numbers, tree_to, variables_to, equation_to, membership_to, rule_to}
use Rattle.mau_renumber.specs.Strategies.{definition_to}

-- ---- numbers that keep kinds

-- an operator is one again, over the same kinds
pub record KeepsOperator (n : Numbers) (old new : SignatureOf) (f : ℕ) : Type 0 where
  pub there : IsOperator new (n.operator f)
  pub arguments : (terms_over new).arguments (n.operator f) ≡ map n.sort ((terms_over old).arguments f)
  pub result : (terms_over new).result (n.operator f) ≡ n.sort ((terms_over old).result f)

-- a sort is one again, and the kind of a sort or kind is carried to the kind of what it is carried to; so are operators and numerals
pub record KeepsKinds (n : Numbers) (old new : SignatureOf) : Type 0 where
  pub sorts : (a : ℕ) → a < old.hierarchy.sorts → n.sort a < new.hierarchy.sorts
  pub there : (a : ℕ) → IsSort old.hierarchy a → IsSort new.hierarchy (n.sort a)
  pub kinds : (a : ℕ) → IsSort old.hierarchy a → kind_of new.hierarchy (n.sort a) ≡ n.sort (kind_of old.hierarchy a)
  pub operators : (f : ℕ) → IsOperator old f → KeepsOperator n old new f
  pub numerals : (k : ℕ) → (terms_over old).numerals ≡ Some k → (terms_over new).numerals ≡ Some (n.sort k)

-- ---- laws

-- variables stay apart: each keeps its place, with its sort in the new numbers, and no two of them are one
abbrev pub VariablesStayApart : Type 0
VariablesStayApart = (sort : ℕ → ℕ) (pairs : List (List ℕ × ℕ)) →
    AreDistinct (variables_to sort pairs) × (map (λ p. p.1) (variables_to sort pairs) ≡ map (λ p. sort p.1) pairs)

-- bare terms stay bare, in the kind to which theirs is carried
abbrev pub TermsStayBare : Type 0
TermsStayBare = (n : Numbers) (old new : SignatureOf) → KeepsKinds n old new → (t : Tree) (k : ℕ) → IsBareIn (terms_over old) t k → IsBareIn (terms_over new) (tree_to n t) (n.sort k)

-- lawful statements stay lawful, where the left side or head is lawful again
pub record StatementsStayLawful (n : Numbers) (old new : SignatureOf) : Type 0 where
  pub equations : (e : Equation) → IsLawfulEquation old e → is_left_side (theory_at new) (tree_of (equation_to n e).left) ≡ true → IsLawfulEquation new (equation_to n e)
  pub memberships : (m : Membership) → IsLawfulMembership old m → is_head (theory_at new) (tree_of (membership_to n m).left) ≡ true → IsLawfulMembership new (membership_to n m)
  pub rules : (r : Rule) → IsLawfulRule old r → IsLawfulRule new (rule_to n r)
  pub strategies : (d : StratDef) → IsLawfulDefinition old d → IsLawfulDefinition new (definition_to n d)

abbrev pub LawfulStatementsStay : Type 0
LawfulStatementsStay = (n : Numbers) (old new : SignatureOf) → KeepsKinds n old new → StatementsStayLawful n old new
