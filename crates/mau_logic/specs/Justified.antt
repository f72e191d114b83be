-- Justified facts and sections.
use Rattle.std.specs.Prelude.{◌≡◌, ℕ, ◌-◌, ◌<◌, ◌≤◌, List, [], ◌∷◌, length, take, All, Bool, true, false, Option, Some, None, slice_get}
use Rattle.mau_poset.specs.Order.{IsAtOrBelow}
use Rattle.mau_terms.specs.Tree.{Tree}
use Rattle.mau_terms.specs.Norm.{norm}
use Rattle.mau_terms.specs.Reading.{reading}
use Rattle.mau_terms.specs.Bare.{EqualModulo}
use Rattle.mau_terms.specs.Subst.{Variable, variables, value_at, instance}
use Rattle.mau_terms.specs.Solution.{HaveSorts}
use Rattle.mau_terms.specs.View.{tree_of}
use Rattle.mau_signature.specs.Signature.{SignatureOf, IsOperator, theory_at, terms_over}
use Rattle.mau_formula.specs.Operator.{Operator}
use Rattle.mau_evaluation.specs.Program.{value}
use Rattle.mau_program.specs.declared.statements.Fragment.{Fragment}
use Rattle.mau_program.specs.declared.statements.Equation.{Equation}
use Rattle.mau_program.specs.declared.statements.Rule.{Rule}
use Rattle.mau_program.specs.declared.statements.Membership.{Membership}
use Rattle.mau_program.specs.declared.program.Program.{Program}
use Rattle.mau_facts.specs.declared.document.Fact.{Fact}
use Rattle.mau_facts.specs.declared.document.Fact.TheVariants.{Same, Step, Built, Under, Chain, SortDecl, SortMb}
use Rattle.mau_facts.specs.declared.document.Section.{Section}
use Rattle.mau_api.specs.Variables.{numbered, condition_variables, statement_variables}
use Rattle.mau_api.specs.Terms.{IsBareWithin, fill, IsContextFor}
use Rattle.mau_api.specs.BuiltIns.{built_answer}
use Rattle.mau_logic.specs.Lines.{all_numbered, term_at, terms_at, over, section_terms}
use Rattle.mau_logic.specs.Says.{Says, leads, all_said}
use Rattle.mau_logic.specs.Shown.{HasSortBy, ShowsAll}

-- ---- what facts name

-- P holds of what is there
abbrev pub With : {A : Type 0} → Option A → (A → Type 0) → Type 0
With (Some x) P = P x
With None P = ⊥

-- P holds of the term with this number, which is a bare term within the limits
abbrev pub WithTerm : SignatureOf → List (Option Tree) → ℕ → (Tree → Type 0) → Type 0
WithTerm s terms n P = With (term_at terms n) (λ t. IsBareWithin s t × P t)

abbrev pub WithTerms : SignatureOf → List (Option Tree) → List ℕ → (List Tree → Type 0) → Type 0
WithTerms s terms ns P = With (terms_at terms ns) (λ ts. All (IsBareWithin s) ts × P ts)

-- ---- steps

-- one use of a statement leads from t to u in the context c: vs are the values of its variables xs, and us what the facts in use say
pub record Uses (s : SignatureOf) (xs : List Variable) (left right : Tree) (cond : List Fragment) (c t u : Tree) (vs : List Tree) (us : List Says) : Type 0 where
  pub context : IsContextFor (terms_over s) left c
  pub one_each : length vs ≡ length xs
  pub from : EqualModulo (terms_over s) t (fill c (instance (value_at xs vs) left))
  pub to : EqualModulo (terms_over s) (fill c (instance (value_at xs vs) right)) u
  pub sorted : HaveSorts (HasSortBy s us) xs vs
  pub shown : ShowsAll s us (value_at xs vs) cond

-- owise counts for nothing here
abbrev pub UsesEquation : SignatureOf → Equation → Tree → Tree → Tree → List Tree → List Says → Type 0
UsesEquation s e = Uses s (statement_variables (tree_of e.left) e.cond (tree_of e.right)) (tree_of e.left) (tree_of e.right) e.cond

abbrev pub UsesRule : SignatureOf → Rule → Tree → Tree → Tree → List Tree → List Says → Type 0
UsesRule s q = Uses s (statement_variables (tree_of q.left) q.cond (tree_of q.right)) (tree_of q.left) (tree_of q.right) q.cond

-- that of the rule with a number, where the Bool is true, or else of the equation
abbrev pub UsesStatement : Program → Bool → ℕ → Tree → Tree → Tree → List Tree → List Says → Type 0
UsesStatement p true n c t u vs us = With (numbered p.rules n) λ q. UsesRule p.sig q c t u vs us
UsesStatement p false n c t u vs us = With (numbered p.equations n) λ e. UsesEquation p.sig e c t u vs us

-- one use of what is built in of the operator f, over the terms ts; what it gives is a normal form
pub record UsesBuilt (s : SignatureOf) (hooks : List Operator) (f : ℕ) (c t u : Tree) (ts : List Tree) : Type 0 where
  pub operator : IsOperator s f
  pub whole : Tree
  pub over_arguments : over s f ts ≡ Some whole
  pub answer : Tree
  pub gives : built_answer s hooks f ts ≡ value answer
  pub context : IsContextFor (terms_over s) whole c
  pub from : EqualModulo (terms_over s) t (fill c whole)
  pub to : EqualModulo (terms_over s) (fill c (reading (theory_at s) (norm (theory_at s) answer))) u

-- ---- under an operator, and chains

-- what the facts lead from and to
abbrev pub Lead : List Says → List Tree → List Tree → Type 0
Lead [] ts us = (ts ≡ []) × (us ≡ [])
Lead (leads e t u ∷ xs) ts us = (ts' : List Tree) × (us' : List Tree) × Lead xs ts' us' × (ts ≡ t ∷ ts') × (us ≡ u ∷ us')
Lead (x ∷ xs) ts us = ⊥

-- the operator f over where the facts begin is t, and over where they end it is u
pub record IsUnder (s : SignatureOf) (f : ℕ) (xs : List Says) (t u : Tree) : Type 0 where
  pub operator : IsOperator s f
  pub starts : List Tree
  pub ends : List Tree
  pub lead : Lead xs starts ends
  pub some : xs ≡ [] → ⊥
  pub from : With (over s f starts) (EqualModulo (terms_over s) t)
  pub to : With (over s f ends) (λ v. EqualModulo (terms_over s) v u)

-- there is one at least, and each begins where the one before it ends
abbrev pub LeadOn : SignatureOf → List Says → Type 0
LeadOn s [] = ⊥
LeadOn s (leads e t u ∷ []) = Unit {0}
LeadOn s (leads e t u ∷ leads d v w ∷ xs) = EqualModulo (terms_over s) u v × LeadOn s (leads d v w ∷ xs)
LeadOn s _ = ⊥

-- ---- sorts by memberships

abbrev pub membership_variables : Membership → List Variable
membership_variables m = condition_variables (variables (tree_of m.left)) m.cond

-- the membership m gives t the sort r
pub record IsMember (s : SignatureOf) (m : Membership) (r : ℕ) (t : Tree) (vs : List Tree) (us : List Says) : Type 0 where
  pub one_each : length vs ≡ length (membership_variables m)
  pub head : EqualModulo (terms_over s) t (instance (value_at (membership_variables m) vs) (tree_of m.left))
  pub sort : IsAtOrBelow s.hierarchy m.sort r
  pub sorted : HaveSorts (HasSortBy s us) (membership_variables m) vs
  pub shown : ShowsAll s us (value_at (membership_variables m) vs) m.cond

-- ---- facts

-- the number of a sort, counted from 1
abbrev pub IsSortNumber : SignatureOf → ℕ → Type 0
IsSortNumber s r = (1 ≤ r) × (r ≤ s.hierarchy.sorts)

-- The fact is justified, where terms are those of its section and before is what the facts before it say. Which axioms a fact of the second format
-- names is not asked.
abbrev pub IsJustified : Program → List Operator → List (Option Tree) → List Says → Fact → Type 0
IsJustified p hooks terms before (Same t u axioms) = WithTerm p.sig terms t λ x. WithTerm p.sig terms u λ y. EqualModulo (terms_over p.sig) x y
IsJustified p hooks terms before (Step f) =
    WithTerm p.sig terms f.context λ c. WithTerm p.sig terms f.from λ t. WithTerm p.sig terms f.to λ u.
    WithTerms p.sig terms f.bind λ vs. With (all_numbered before f.uses) λ us.
    UsesStatement p f.rule f.number c t u vs us
IsJustified p hooks terms before (Built f) =
    WithTerm p.sig terms f.context λ c. WithTerm p.sig terms f.from λ t. WithTerm p.sig terms f.to λ u.
    WithTerms p.sig terms f.args λ ts. UsesBuilt p.sig hooks f.op c t u ts
IsJustified p hooks terms before (Under f) =
    WithTerm p.sig terms f.from λ t. WithTerm p.sig terms f.to λ u. With (all_numbered before f.facts) λ xs. IsUnder p.sig f.op xs t u
IsJustified p hooks terms before (Chain ns) = With (all_numbered before ns) (LeadOn p.sig)
IsJustified p hooks terms before (SortDecl f) =
    WithTerm p.sig terms f.term λ t. IsSortNumber p.sig f.sort × With (all_numbered before f.uses) (λ us. HasSortBy p.sig us (f.sort - 1) t)
IsJustified p hooks terms before (SortMb f) =
    WithTerm p.sig terms f.term λ t. IsSortNumber p.sig f.sort × (WithTerms p.sig terms f.bind λ vs. With (all_numbered before f.uses) λ us.
    With (numbered p.memberships f.membership) λ m. IsMember p.sig m (f.sort - 1) t vs us)

-- ---- sections

-- the first k of some facts are justified, each from those before it
abbrev pub AreJustifiedOver : Program → List Operator → List (Option Tree) → List Fact → ℕ → Type 0
AreJustifiedOver p hooks terms facts k = (i : ℕ) (f : Fact) → i < k → slice_get facts i ≡ Some f → IsJustified p hooks terms (all_said terms (take i facts)) f

-- those of a section, over its terms
abbrev pub AreJustified : Program → List Operator → Section → ℕ → Type 0
AreJustified p hooks x k = AreJustifiedOver p hooks (section_terms p x) x.facts k

-- all facts are
abbrev pub IsJustifiedSection : Program → List Operator → Section → Type 0
IsJustifiedSection p hooks x = AreJustified p hooks x (length x.facts)

-- the fact k, counted from 1, is the first that is not
pub record IsFirstUnjustified (p : Program) (hooks : List Operator) (x : Section) (k : ℕ) : Type 0 where
  pub fact : Fact
  pub at : numbered x.facts k ≡ Some fact
  pub before : AreJustified p hooks x (k - 1)
  pub unjustified : IsJustified p hooks (section_terms p x) (all_said (section_terms p x) (take (k - 1) x.facts)) fact → ⊥
