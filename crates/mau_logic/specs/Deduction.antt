-- Rewriting logic over a program: which sentences follow from its statements. These are the rules of deduction of the textbooks. (Rules and their reflexivity,
-- congruence, replacement and transitivity: J. Meseguer, "Conditional rewriting logic as a unified model of concurrency", Theoretical Computer Science 96,
-- 1992; equations and memberships: A. Bouhoula, J.-P. Jouannaud and J. Meseguer, "Specification and proof in membership equational logic", Theoretical
-- Computer Science 236, 2000; all three: R. Bruni and J. Meseguer, "Semantic foundations for generalized rewrite theories", Theoretical Computer Science
-- 360, 2006.)
use Rattle.std.specs.Prelude.{◌≡◌, ℕ, List, [], ◌∷◌, ◌++◌, length, map, Contains, Some}
use Rattle.mau_poset.specs.Order.{IsAtOrBelow}
use Rattle.mau_terms.specs.Tree.{Tree, variable, numeral, apply, Trees, tree, list_of}
use Rattle.mau_terms.specs.Norm.{norm}
use Rattle.mau_terms.specs.Reading.{reading}
use Rattle.mau_terms.specs.Axioms.{Axiom}
use Rattle.mau_terms.specs.Bare.{IsBare, IsBareIn}
use Rattle.mau_terms.specs.Subst.{Variable, instance}
use Rattle.mau_terms.specs.View.{tree_of}
use Rattle.mau_signature.specs.declared.decl.Decl.{Decl}
use Rattle.mau_signature.specs.Signature.{declarations_at, theory_at, terms_over}
use Rattle.mau_sigcheck.specs.Accepted.{IsSortOfNumeral}
use Rattle.mau_formula.specs.Operator.{Operator}
use Rattle.mau_evaluation.specs.Program.{value}
use Rattle.mau_program.specs.declared.statements.Fragment.{Fragment}
use Rattle.mau_program.specs.declared.statements.Fragment.TheVariants.{Equal, Match, Sort, Reach}
use Rattle.mau_program.specs.declared.statements.Equation.{Equation}
use Rattle.mau_program.specs.declared.statements.Rule.{Rule}
use Rattle.mau_program.specs.declared.statements.Membership.{Membership}
use Rattle.mau_program.specs.declared.program.Program.{Program}
use Rattle.mau_api.specs.Variables.{numbered, statement_variables}
use Rattle.mau_api.specs.BuiltIns.{built_answer}
use Rattle.mau_logic.specs.Lines.{over}
use Rattle.mau_logic.specs.Justified.{membership_variables}

-- ---- sentences

-- t = u; t has the sort r, where a kind counts as a sort; t is rewritten to u
pub data Sentence : Type 0 where
  equals : Tree → Tree → Sentence
  belongs : Tree → ℕ → Sentence
  rewrites : Tree → Tree → Sentence

-- one for each two trees in the same place
abbrev pub between : (Tree → Tree → Sentence) → Trees → Trees → List Sentence
between R (tree t ts) (tree u us) = R t u ∷ between R ts us
between R ts us = []

-- each tree has the sort in its place
abbrev pub all_belong : Trees → List ℕ → List Sentence
all_belong (tree t ts) (r ∷ rs) = belongs t r ∷ all_belong ts rs
all_belong ts rs = []

-- what a fragment of a condition says of the values of its variables
abbrev pub condition_of : (Variable → Tree) → Fragment → Sentence
condition_of g (Equal t u) = equals (instance g (tree_of t)) (instance g (tree_of u))
condition_of g (Match p u) = equals (instance g (tree_of u)) (instance g (tree_of p))
condition_of g (Sort t r) = belongs (instance g (tree_of t)) r
condition_of g (Reach t u) = rewrites (instance g (tree_of t)) (instance g (tree_of u))

-- the values of these variables have their sorts, and a condition holds for them
abbrev pub premises : (Variable → Tree) → List Variable → List Fragment → List Sentence
premises g xs cs = map (λ x. belongs (g x) x.1) xs ++ map (condition_of g) cs

-- those of a statement, of which g gives the values of all variables
abbrev pub equation_premises : Equation → (Variable → Tree) → List Sentence
equation_premises e g = premises g (statement_variables (tree_of e.left) e.cond (tree_of e.right)) e.cond

abbrev pub rule_premises : Rule → (Variable → Tree) → List Sentence
rule_premises q g = premises g (statement_variables (tree_of q.left) q.cond (tree_of q.right)) q.cond

abbrev pub membership_premises : Membership → (Variable → Tree) → List Sentence
membership_premises m g = premises g (membership_variables m) m.cond

-- ---- deduction

module _ (p : Program) (hooks : List Operator) where
  -- all terms are bare terms
  abbrev pub IsTerm : Tree → Type 0
  IsTerm t = IsBare (terms_over p.sig) t

  -- the normal form of what is built in gives, read as a bare term
  abbrev pub as_term : Tree → Tree
  as_term t = reading (theory_at p.sig) (norm (theory_at p.sig) t)

  mutual
    pub data Holds : Sentence → Type 0 where
      -- equality
      equal_itself : {t : Tree} → IsTerm t → Holds (equals t t)
      equal_back : {t u : Tree} → Holds (equals t u) → Holds (equals u t)
      equal_onward : {t u v : Tree} → Holds (equals t u) → Holds (equals u v) → Holds (equals t v)
      equal_under : (f : ℕ) (ts us : Trees) → IsTerm (apply f ts) → IsTerm (apply f us) → AllHold (between equals ts us) →
          Holds (equals (apply f ts) (apply f us))
      -- by an axiom of an operator, by an equation whose condition holds, and by what an operator has built in
      by_axiom : {t u : Tree} → Axiom (theory_at p.sig) t u → IsTerm t → IsTerm u → Holds (equals t u)
      by_equation : (n : ℕ) (e : Equation) (g : Variable → Tree) → numbered p.equations n ≡ Some e → AllHold (equation_premises e g) →
          IsTerm (instance g (tree_of e.left)) → IsTerm (instance g (tree_of e.right)) →
          Holds (equals (instance g (tree_of e.left)) (instance g (tree_of e.right)))
      by_built_in : (f : ℕ) (ts : List Tree) (whole answer : Tree) → over p.sig f ts ≡ Some whole → built_answer p.sig hooks f ts ≡ value answer →
          IsTerm whole → IsTerm (as_term answer) → Holds (equals whole (as_term answer))
      -- sorts: of variables, numerals and operators, the kind of each term, and what is above a sort
      variable_has : (i r : ℕ) → IsTerm (variable i r) → Holds (belongs (variable i r) r)
      numeral_has : (n r : ℕ) → IsTerm (numeral n) → IsSortOfNumeral p.sig.numerals n r → Holds (belongs (numeral n) r)
      operator_has : (f : ℕ) (d : Decl) (ts : Trees) → Contains (declarations_at p.sig f) d → IsTerm (apply f ts) → length (list_of ts) ≡ length d.args →
          AllHold (all_belong ts d.args) → Holds (belongs (apply f ts) d.result)
      kind_has : {t : Tree} {k : ℕ} → IsBareIn (terms_over p.sig) t k → Holds (belongs t k)
      above_has : {t : Tree} {q r : ℕ} → Holds (belongs t q) → IsAtOrBelow p.sig.hierarchy q r → Holds (belongs t r)
      -- equal terms have the same sorts
      equal_has : {t u : Tree} {r : ℕ} → Holds (equals t u) → Holds (belongs t r) → Holds (belongs u r)
      by_membership : (n : ℕ) (m : Membership) (g : Variable → Tree) → numbered p.memberships n ≡ Some m → AllHold (membership_premises m g) →
          IsTerm (instance g (tree_of m.left)) → Holds (belongs (instance g (tree_of m.left)) m.sort)
      -- rewriting: reflexivity, congruence, replacement, transitivity, of terms up to equality
      stays : {t : Tree} → IsTerm t → Holds (rewrites t t)
      rewrites_under : (f : ℕ) (ts us : Trees) → IsTerm (apply f ts) → IsTerm (apply f us) → AllHold (between rewrites ts us) →
          Holds (rewrites (apply f ts) (apply f us))
      by_rule : (n : ℕ) (q : Rule) (g : Variable → Tree) → numbered p.rules n ≡ Some q → AllHold (rule_premises q g) →
          IsTerm (instance g (tree_of q.left)) → IsTerm (instance g (tree_of q.right)) →
          Holds (rewrites (instance g (tree_of q.left)) (instance g (tree_of q.right)))
      rewrites_onward : {t u v : Tree} → Holds (rewrites t u) → Holds (rewrites u v) → Holds (rewrites t v)
      rewrites_equal : {t u v w : Tree} → Holds (equals t u) → Holds (rewrites u v) → Holds (equals v w) → Holds (rewrites t w)

    pub data AllHold : List Sentence → Type 0 where
      none_holds : AllHold []
      one_holds : {x : Sentence} {xs : List Sentence} → Holds x → AllHold xs → AllHold (x ∷ xs)
