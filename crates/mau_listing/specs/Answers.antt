-- Solutions without context by normal forms alone. A law says that they are the same.
use Rattle.std.specs.Prelude.{◌≡◌, ℕ, List, length, map}
use Rattle.mau_terms.specs.Tree.{Tree}
use Rattle.mau_terms.specs.Norm.{norm}
use Rattle.mau_terms.specs.Bare.{IsBare}
use Rattle.mau_terms.specs.Reading.{reading}
use Rattle.mau_terms.specs.Laws.{AreNorms}
use Rattle.mau_terms.specs.Subst.{variables, with_values}
use Rattle.mau_terms.specs.Solution.{HaveSorts}
use Rattle.mau_signature.specs.Signature.{SignatureOf, theory_at, terms_over}
use Rattle.mau_listing.specs.Question.{Question, AgreesWith}

-- the normal forms vs, one for each variable of the pattern, make a bare instance whose normal form is the subject
pub record IsAnswer (s : SignatureOf) (P : ℕ → Tree → Type 0) (q : Question) (vs : List Tree) : Type 0 where
  pub one_each : length vs ≡ length (variables q.pattern)
  pub normal : AreNorms (theory_at s) vs
  pub bare : IsBare (terms_over s) (with_values q.pattern (map (reading (theory_at s)) vs))
  pub whole : norm (theory_at s) (with_values q.pattern vs) ≡ q.subject
  pub sorts : HaveSorts P (variables q.pattern) vs
  pub agrees : AgreesWith q.pattern q.bound vs
