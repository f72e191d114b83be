-- Tests: their results by the uses of a rule, and searches for these by the numbers of a store.
use Rattle.std.specs.Prelude.{◌≡◌, List, [], All, Bool, true, false, Option}
use Rattle.mau_terms.specs.Tree.{Tree}
use Rattle.mau_terms.specs.Bare.{IsBare}
use Rattle.mau_terms.specs.Subst.{Variable, add_variables}
use Rattle.mau_terms.specs.View.{tree_of}
use Rattle.mau_terms.specs.declared.ids.TermId.{TermId}
use Rattle.mau_terms.specs.declared.ids.VarId.{VarId}
use Rattle.mau_signature.specs.Signature.{SignatureOf, terms_over}
use Rattle.mau_formula.specs.Operator.{Operator}
use Rattle.mau_store.specs.Node.{Node}
use Rattle.mau_store.specs.Trees.{tree_at}
use Rattle.mau_sorts.specs.Table.{Table}
use Rattle.mau_listing.specs.Asked.{Asked}
use Rattle.mau_listing.specs.declared.solution.Solution as Listed
use Rattle.mau_program.specs.Binding.{are_bound}
use Rattle.mau_program.specs.declared.program.Program as Typed
use Rattle.mau_program.specs.declared.statements.Fragment as WrittenFragment
use Rattle.mau_program.specs.declared.statements.Rule as Written
use Rattle.mau_program.specs.declared.strategies.TestKind as WrittenKind
use Rattle.mau_program.specs.declared.strategies.TestKind.TheVariants as Kind
use Rattle.mau_evaluation.specs.Engine.{Engine}
use Rattle.mau_evaluation.specs.Answers.{Answers, no_more, ends_by, answer}
use Rattle.mau_api.specs.Meanings.{Meanings}
use Rattle.mau_api.specs.Answers.{IsFragment, AreApart}
use Rattle.mau_leaves.specs.Uses.{Use}
use Rattle.mau_leaves.specs.Subterms.{left_of_subterms, IsSubject, IsSubtermSearch}
use Rattle.mau_leaves.specs.declared.subterms.Spot.TheVariants.{Before}
use Rattle.mau_leaves.specs.declared.testing.TestCursor.{TestCursor}

-- t, where there is a first one; and nothing behind it
abbrev pub first_only : {A : Type 0} → Tree → Answers A → Answers Tree
first_only t no_more = no_more
first_only t (ends_by e) = ends_by e
first_only t (answer x p) = answer t no_more

-- whether a test of this kind looks at what is below the root, in frozen arguments too
abbrev pub looks_below : WrittenKind.TestKind → Bool
looks_below Kind.Match = false
looks_below Kind.Xmatch = false
looks_below Kind.Amatch = true

-- whether it looks at the solutions without contexts alone
abbrev pub looks_whole : WrittenKind.TestKind → Bool
looks_whole Kind.Match = true
looks_whole Kind.Xmatch = false
looks_whole Kind.Amatch = false

-- A pattern and a condition over a signature, no fragment of which rewrites, and whose variables are bound in order where the variables xs, each once, have values
-- before.
pub record MayAsk (s : SignatureOf) (xs : List Variable) (p : Tree) (cond : List WrittenFragment.Fragment) : Type 0 where
  pub pattern : IsBare (terms_over s) p
  pub fragments : All (IsFragment s) cond
  pub bound : are_bound (add_variables xs p) cond ≡ true
  pub apart : AreApart xs

-- the rule of a test
pub record IsTestOf (p : Tree) (cond : List WrittenFragment.Fragment) (q : Written.Rule) : Type 0 where
  pub left : tree_of q.left ≡ p
  pub right : tree_of q.right ≡ p
  pub condition : q.cond ≡ cond

module _ {K : Type 0} (asked : K → Asked) (given : K → Option Listed.Solution) where
  -- what is left of the results: the term where a use is left, or none where the search is over
  abbrev pub left_over : Bool → Typed.Program → List Operator → List Node → TestCursor K → Engine → Answers Tree → Type 0
  left_over true p hooks nodes s = λ L q. q ≡ no_more
  left_over false p hooks nodes s = λ L q. (r : Answers Use) × left_of_subterms asked given p hooks s.rule nodes s.uses L r × (q ≡ first_only (tree_at nodes s.term.0) r)

  abbrev pub left_of_test : Typed.Program → List Operator → List Node → TestCursor K → Engine → Answers Tree → Type 0
  left_of_test p hooks nodes s = left_over s.over p hooks nodes s

  pub record IsTest (is_for : K → SignatureOf → Type 0) (c : Bool) (p : Typed.Program) (m : Meanings) (nodes : List Node) (table : Table) (s : TestCursor K) : Type 0 where
    pub subject : IsSubject p.sig nodes table s.term.0
    pub search : IsSubtermSearch asked given is_for c p m s.rule nodes table s.uses

  -- the search for the result of a test under what is bound, which stands before all
  pub record IsBegunTest (is_for : K → SignatureOf → Type 0) (c : Bool) (p : Typed.Program) (m : Meanings) (nodes : List Node) (table : Table) (bound : List (VarId × TermId)) (kind : WrittenKind.TestKind) (pattern : Tree) (cond : List WrittenFragment.Fragment)
      (term : TermId) (s : TestCursor K) : Type 0 where
    pub rule : IsTestOf pattern cond s.rule
    pub test : IsTest is_for c p m nodes table s
    pub subject : s.term ≡ term
    pub begun : (s.uses.way.items ≡ []) × (s.uses.spot ≡ Before term) × (s.over ≡ false)
    pub looks : (s.uses.bound.items ≡ bound) × (s.uses.whole ≡ looks_whole kind) × (s.uses.below ≡ looks_below kind)
