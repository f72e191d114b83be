-- Statements of a program over a signature: when they are lawful.
use Rattle.std.specs.Prelude.{◌≡◌, ℕ, ◌<◌, List, [], ◌&&◌, true, All, fold}
use Rattle.mau_poset.specs.Order.{kind_of}
use Rattle.mau_terms.specs.Bare.{TermSignature, IsBare, IsBareIn}
use Rattle.mau_terms.specs.View.{tree_of}
use Rattle.mau_terms.specs.declared.bare.Bare.{Bare}
use Rattle.mau_signature.specs.Signature.{SignatureOf, theory_at, terms_over}
use Rattle.mau_program.specs.declared.statements.Fragment.{Fragment}
use Rattle.mau_program.specs.declared.statements.Fragment.TheVariants.{Equal, Match, Sort, Reach}
use Rattle.mau_program.specs.declared.statements.Equation.{Equation}
use Rattle.mau_program.specs.declared.statements.Membership.{Membership}
use Rattle.mau_program.specs.declared.statements.Rule.{Rule}
use Rattle.mau_program.specs.Binding.{has_only, are_bound, binds, listed}
use Rattle.mau_program.specs.Tops.{is_left_side, is_head}
use Rattle.mau_terms.specs.Subst.{variables}

-- ---- terms and sorts

-- both are bare terms of one kind
pub record AreOfOneKind (s : TermSignature) (a b : Bare) : Type 0 where
  pub kind : ℕ
  pub first : IsBareIn s (tree_of a) kind
  pub second : IsBareIn s (tree_of b) kind

-- the two terms of a fragment are of one kind, and what it tests is a sort
abbrev pub IsLawfulFragment : SignatureOf → Fragment → Type 0
IsLawfulFragment s (Equal t u) = AreOfOneKind (terms_over s) t u
IsLawfulFragment s (Match p u) = AreOfOneKind (terms_over s) p u
IsLawfulFragment s (Sort t sort) = IsBare (terms_over s) (tree_of t) × (sort < s.hierarchy.sorts)
IsLawfulFragment s (Reach t u) = AreOfOneKind (terms_over s) t u

-- so are the two sides of an equation or a rule
pub record HasLawfulSides (s : SignatureOf) (left right : Bare) (cond : List Fragment) : Type 0 where
  pub sides : AreOfOneKind (terms_over s) left right
  pub condition : All (IsLawfulFragment s) cond

-- the head of a membership is of the kind of its sort
pub record HasLawfulHead (s : SignatureOf) (m : Membership) : Type 0 where
  pub sort : m.sort < s.hierarchy.sorts
  pub head : IsBareIn (terms_over s) (tree_of m.left) (kind_of s.hierarchy m.sort)
  pub condition : All (IsLawfulFragment s) m.cond

-- ---- variables: those that a statement lists, and no others

abbrev pub HasListed : List (List ℕ × ℕ) → Bare → Type 0
HasListed pairs t = has_only (listed pairs) (tree_of t) ≡ true

abbrev pub HasListedIn : List (List ℕ × ℕ) → Fragment → Type 0
HasListedIn pairs (Equal t u) = HasListed pairs t × HasListed pairs u
HasListedIn pairs (Match p u) = HasListed pairs p × HasListed pairs u
HasListedIn pairs (Sort t sort) = HasListed pairs t
HasListedIn pairs (Reach t u) = HasListed pairs t × HasListed pairs u

-- ---- statements

-- the normal form of the left side is no variable; where the equation is executable, its variables are bound in order
pub record IsLawfulEquation (s : SignatureOf) (e : Equation) : Type 0 where
  pub parts : HasLawfulSides s e.left e.right e.cond
  pub listed : HasListed e.vars e.left × HasListed e.vars e.right × All (HasListedIn e.vars) e.cond
  pub left_side : is_left_side (theory_at s) (tree_of e.left) ≡ true
  pub bound : e.exec ≡ true → binds (tree_of e.left) e.cond (tree_of e.right) ≡ true

-- the normal form of the head has an operator that may be one of a head
pub record IsLawfulMembership (s : SignatureOf) (m : Membership) : Type 0 where
  pub parts : HasLawfulHead s m
  pub listed : HasListed m.vars m.left × All (HasListedIn m.vars) m.cond
  pub head : is_head (theory_at s) (tree_of m.left) ≡ true
  pub bound : m.exec ≡ true → are_bound (variables (tree_of m.left)) m.cond ≡ true

pub record IsLawfulRule (s : SignatureOf) (r : Rule) : Type 0 where
  pub parts : HasLawfulSides s r.left r.right r.cond
  pub listed : HasListed r.vars r.left × HasListed r.vars r.right × All (HasListedIn r.vars) r.cond
  pub bound : r.exec ≡ true → binds (tree_of r.left) r.cond (tree_of r.right) ≡ true
