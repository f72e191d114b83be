-- Questions and solutions by the numbers of a store, and what is known of the sorts of its terms.
use Rattle.std.specs.Prelude.{◌≡◌, ◌⊎◌, ℕ, List, All, Bool, true, false, Contains, Option, None, Some, IfSome, [], length, map, slice_get}
use Rattle.mau_terms.specs.Tree.{Tree, variable, numeral, apply, Trees, no_trees, tree}
use Rattle.mau_terms.specs.Norm.{norm, unit_tree}
use Rattle.mau_terms.specs.Bare.{IsBare}
use Rattle.mau_terms.specs.Reading.{reading}
use Rattle.mau_terms.specs.Subst.{Variable, variables}
use Rattle.mau_terms.specs.View.{variable_of}
use Rattle.mau_terms.specs.declared.ids.VarId.{VarId}
use Rattle.mau_terms.specs.declared.ids.TermId.{TermId}
use Rattle.mau_terms.specs.declared.theory.Identity.{Identity}
use Rattle.mau_terms.specs.declared.theory.Theory.{Theory}
use Rattle.mau_signature.specs.Signature.{SignatureOf, theory_at, terms_over}
use Rattle.mau_store.specs.Node.{Node, IsOf, arguments}
use Rattle.mau_store.specs.Trees.{tree_at, trees_at}
use Rattle.mau_store.specs.View.{numbers}
use Rattle.mau_canon.specs.Standing.{StandsWithin, StandWithin}
use Rattle.mau_sorts.specs.SortSets.{SortsOf, IsIn}
use Rattle.mau_sorts.specs.HasSort.{Known, HasSort}
use Rattle.mau_sorts.specs.Table.{Table, entry_at, IsSettled, IsReady, AreEntries, AreOver}
use Rattle.mau_listing.specs.declared.solution.Solution.{Solution}
use Rattle.mau_listing.specs.Question.{Question, IsSolution}
use Rattle.mau_listing.specs.Matcher.{Matcher}

-- ---- by numbers

-- a pattern, variables with numbers for values, and the number of a subject
pub record Asked : Type 0 where
  pub pattern : Tree
  pub bound : List (VarId × TermId)
  pub subject : TermId

abbrev pub asks : Tree → List (VarId × TermId) → TermId → Asked
asks p bound t = record { pattern = p; bound = bound; subject = t }

-- the values as terms
abbrev pub bound_in : List Node → List (VarId × TermId) → List (Variable × Tree)
bound_in nodes bound = map {B = Variable × Tree} (λ b. (variable_of b.0, tree_at nodes b.1.0)) bound

-- the question that this is over the nodes of a store
abbrev pub question_in : List Node → Asked → Question
question_in nodes a = record {
  pattern = a.pattern;
  bound = bound_in nodes a.bound;
  subject = tree_at nodes a.subject.0;
}

-- what a solution is over the nodes of a store
abbrev pub matcher_in : List Node → Solution → Matcher
matcher_in nodes x = record {
  left = trees_at nodes (numbers x.left);
  right = trees_at nodes (numbers x.right);
  values = trees_at nodes (numbers x.values);
}

-- the last solution that was given, after one more answer
abbrev pub last_after : Option Solution → Option Solution → Option Solution
last_after last None = last
last_after last (Some x) = Some x

-- ---- what may be asked

-- the pattern is a bare term, and the numbers stand for normal forms within the limits, the subject's for that of a bare term
pub record IsAskable (s : SignatureOf) (nodes : List Node) (a : Asked) : Type 0 where
  pub pattern : IsBare (terms_over s) a.pattern
  pub bound : All (λ b. StandsWithin (theory_at s) nodes b.1.0) a.bound
  pub subject : StandsWithin (theory_at s) nodes a.subject.0
  pub bare : IsBare (terms_over s) (reading (theory_at s) (tree_at nodes a.subject.0))

-- ---- sorts by a table

-- the term has a number, and its sorts are settled
pub record IsTreeSettled (nodes : List Node) (table : Table) (t : Tree) : Type 0 where
  pub number : ℕ
  pub there : IsOf nodes number
  pub tree : tree_at nodes number ≡ t
  pub settled : IsSettled table number

-- the entry of a term has the sort r
pub record HasEntry (s : SignatureOf) (nodes : List Node) (table : Table) (r : ℕ) (t : Tree) : Type 0 where
  pub number : ℕ
  pub there : IsOf nodes number
  pub tree : tree_at nodes number ≡ t
  pub entry : SortsOf
  pub at : entry_at table number ≡ Some entry
  pub has : IsIn s.hierarchy entry r

-- the entries of the table say what sorts the terms have, where just of settled terms more is known than declarations tell, and they
-- were settled with further sorts
pub record IsTableOf (s : SignatureOf) (known : Known) (nodes : List Node) (table : Table) : Type 0 where
  pub entries : AreEntries s known nodes table
  pub settled : (t : Tree) (r : ℕ) → Contains known (t, r) → IsTreeSettled nodes table t
  pub further : (t : Tree) (r : ℕ) (c : Contains known (t, r)) → Contains table.further (settled t r c).number

-- each settled number is that of a term of the store, and its arguments are settled
abbrev pub IsClosedTable : List Node → Table → Type 0
IsClosedTable nodes table = (i : ℕ) → IsSettled table i → (n : Node) × (slice_get nodes i ≡ Some n) × All (IsSettled table) (arguments n)

-- t has the sort r
abbrev pub BySort : SignatureOf → Known → ℕ → Tree → Type 0
BySort s known r t = HasSort s known t r

-- ---- what has to be settled

-- u is a proper subterm of a tree
abbrev mutual
  pub IsBelow : Tree → Tree → Type 0
  IsBelow u (variable i s) = ⊥
  IsBelow u (numeral n) = ⊥
  IsBelow u (apply f ts) = IsBelowOne u ts

  -- u is one of some trees, or a proper subterm of one
  pub IsBelowOne : Tree → Trees → Type 0
  IsBelowOne u no_trees = ⊥
  IsBelowOne u (tree t ts) = (u ≡ t) ⊎ (IsBelow u t ⊎ IsBelowOne u ts)

-- the top is an operator that is neither associative nor the successor, and has no identity
abbrev pub HasPlainTop : (ℕ → Theory) → Tree → Type 0
HasPlainTop th (variable i s) = ⊥
HasPlainTop th (numeral n) = ⊥
HasPlainTop th (apply f ts) = ((th f).assoc ≡ false) × ((th f).succ ≡ false) × ((th f).id ≡ None)

-- the identities and the proper subterms of the subject are settled; the subject too, but under a pattern with a plain top, under
-- which it is no value
pub record IsSettledFor (s : SignatureOf) (nodes : List Node) (table : Table) (a : Asked) : Type 0 where
  pub identities : (f : ℕ) (i : Identity) → (theory_at s f).id ≡ Some i → IsTreeSettled nodes table (unit_tree i)
  pub below : (u : Tree) → IsBelow u (tree_at nodes a.subject.0) → IsTreeSettled nodes table u
  pub subject : IsTreeSettled nodes table (tree_at nodes a.subject.0) ⊎ HasPlainTop (theory_at s) (norm (theory_at s) a.pattern)

-- ---- what a listing may settle

-- a numeral, or a list of an associative operator
abbrev pub IsNumeralOrList : (ℕ → Theory) → Tree → Type 0
IsNumeralOrList th (variable i s) = ⊥
IsNumeralOrList th (numeral n) = Unit {0}
IsNumeralOrList th (apply f ts) = (th f).assoc ≡ true

-- the term with the number i was settled before, or is one of the store, a numeral or a list and not the subject t
abbrev pub MaySettle : SignatureOf → List Node → Table → Tree → ℕ → Type 0
MaySettle s nodes old t i = IsSettled old i ⊎ (IsOf nodes i × IsNumeralOrList (theory_at s) (tree_at nodes i) × (tree_at nodes i ≡ t → ⊥))

-- the term with the number i is settled, or a listing may settle it: it is a numeral or a list, not the subject, and its arguments
-- are settled
abbrev pub IsSettleable : SignatureOf → List Node → Table → ℕ → ℕ → Type 0
IsSettleable s nodes table subject i = IsSettled table i ⊎ ((i ≡ subject → ⊥) × IsNumeralOrList (theory_at s) (tree_at nodes i) × IsReady s nodes table i)

-- ---- a solution that was given

-- its numbers stand for normal forms within the limits, its values are settled, and by their entries it solves the question
pub record IsGiven (c : Bool) (s : SignatureOf) (nodes : List Node) (table : Table) (a : Asked) (x : Solution) : Type 0 where
  pub left : StandWithin (theory_at s) nodes (numbers x.left)
  pub right : StandWithin (theory_at s) nodes (numbers x.right)
  pub values : StandWithin (theory_at s) nodes (numbers x.values)
  pub settled : All (IsSettled table) (numbers x.values)
  pub solves : IsSolution c s (HasEntry s nodes table) (question_in nodes a) (matcher_in nodes x)

-- x is a point of the order of solutions without contexts, whether it is a solution or not: its numbers stand for normal forms within
-- the limits, one for each variable of the pattern, and they are settled
pub record IsPoint (s : SignatureOf) (nodes : List Node) (table : Table) (a : Asked) (x : Solution) : Type 0 where
  pub no_left : x.left ≡ []
  pub no_right : x.right ≡ []
  pub values : StandWithin (theory_at s) nodes (numbers x.values)
  pub one_each : length x.values ≡ length (variables a.pattern)
  pub settled : All (IsSettled table) (numbers x.values)

-- what a listing goes on behind: a solution with its context, or without contexts any point
abbrev pub CanBeLast : Bool → SignatureOf → List Node → Table → Asked → Solution → Type 0
CanBeLast false s nodes table a x = IsPoint s nodes table a x
CanBeLast true s nodes table a x = IsGiven true s nodes table a x

-- what a listing needs of the signature, the store and the table to go on behind its last solution
pub record CanGoOn (c : Bool) (s : SignatureOf) (nodes : List Node) (table : Table) (a : Asked) (last : Option Solution) : Type 0 where
  pub askable : IsAskable s nodes a
  pub settled : IsSettledFor s nodes table a
  pub over : AreOver s.hierarchy table
  pub given : IfSome last (CanBeLast c s nodes table a)
