-- What a listing is asked, and what solves it: by trees, never by numbers of a store.
use Rattle.std.specs.Prelude.{◌≡◌, ℕ, List, [], Bool, true, false, Contains, map}
use Rattle.mau_terms.specs.Tree.{Tree}
use Rattle.mau_terms.specs.Norm.{norm}
use Rattle.mau_terms.specs.Reading.{reading}
use Rattle.mau_terms.specs.Subst.{Variable, variables, value_at, has_variable}
use Rattle.mau_terms.specs.Solution.{Solves, SolvesWithin}
use Rattle.mau_signature.specs.Signature.{SignatureOf, theory_at, terms_over}
use Rattle.mau_listing.specs.Matcher.{Matcher}

-- a pattern, values that some variables have beforehand, and a subject; the values and the subject are normal forms
pub record Question : Type 0 where
  pub pattern : Tree
  pub bound : List (Variable × Tree)
  pub subject : Tree

-- each variable of the pattern p that has a value beforehand has it among the values vs
abbrev pub AgreesWith : Tree → List (Variable × Tree) → List Tree → Type 0
AgreesWith p bound vs = (b : Variable × Tree) → Contains bound b → has_variable (variables p) b.0 ≡ true → value_at (variables p) vs b.0 ≡ b.1

-- P r t says that the normal form t has the sort r; here it is said of bare terms
abbrev pub OfNorm : (ℕ → Tree → Type 0) → SignatureOf → ℕ → Tree → Type 0
OfNorm P s r v = P r (norm (theory_at s) v)

-- x solves q without context, where P tells the sorts: some bare terms with these normal forms are a solution
pub record IsWhole (s : SignatureOf) (P : ℕ → Tree → Type 0) (q : Question) (x : Matcher) : Type 0 where
  pub bare : List Tree
  pub values : map (norm (theory_at s)) bare ≡ x.values
  pub solves : Solves (terms_over s) (OfNorm P s) q.pattern (reading (theory_at s) q.subject) bare
  pub agrees : AgreesWith q.pattern q.bound x.values
  pub no_left : x.left ≡ []
  pub no_right : x.right ≡ []

-- the same with its context
pub record IsPart (s : SignatureOf) (P : ℕ → Tree → Type 0) (q : Question) (x : Matcher) : Type 0 where
  pub bare : List Tree
  pub values : map (norm (theory_at s)) bare ≡ x.values
  pub solves : SolvesWithin (terms_over s) (OfNorm P s) q.pattern (reading (theory_at s) q.subject) bare x.left x.right
  pub agrees : AgreesWith q.pattern q.bound x.values

-- x solves q, with contexts or without
abbrev pub IsSolution : Bool → SignatureOf → (ℕ → Tree → Type 0) → Question → Matcher → Type 0
IsSolution false s P q x = IsWhole s P q x
IsSolution true s P q x = IsPart s P q x
