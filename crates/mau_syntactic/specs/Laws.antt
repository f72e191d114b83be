-- The laws of matching without axioms. Each is proved: a public function of the module `laws` has it for its contract.
use Rattle.std.specs.Prelude.{◌≡◌, ◌↔◌, ◌⊎◌, List, [], ◌∷◌, All, Bool, true}
use Rattle.mau_terms.specs.Tree.{Tree}
use Rattle.mau_terms.specs.Norm.{norm}
use Rattle.mau_terms.specs.Bare.{TermSignature, IsBare, IsLawful}
use Rattle.mau_terms.specs.Reading.{reading}
use Rattle.mau_terms.specs.Subst.{variables}
use Rattle.mau_terms.specs.Solution.{HaveSorts}
use Rattle.mau_signature.specs.Signature.{SignatureOf, theory_at, terms_over}
use Rattle.mau_sorts.specs.HasSort.{Known}
use Rattle.mau_listing.specs.Asked.{IsBelow, BySort}
use Rattle.mau_listing.specs.Question.{Question, AgreesWith, IsSolution}
use Rattle.mau_listing.specs.Matcher.{Matcher}
use Rattle.mau_evaluation.specs.Listing.{plain, solutions, solutions_within}
use Rattle.mau_syntactic.specs.Free.{has_free_operators}
use Rattle.mau_syntactic.specs.Match.{IsMatch}

-- a pattern matches a term by one list of values at most
abbrev pub MatchIsOne : Type 0
MatchIsOne = (p t : Tree) (vs ws : List Tree) → IsMatch p t vs → IsMatch p t ws → vs ≡ ws

-- each value is the term or stands below it
abbrev pub ValuesAreBelow : Type 0
ValuesAreBelow = (p t : Tree) (vs : List Tree) → IsMatch p t vs → All (λ v. (v ≡ t) ⊎ IsBelow v t) vs

-- where the operators of a pattern are free, its solutions in a normal form, with contexts or without, are what matches, where the
-- values have the sorts of the variables and agree with those that they had beforehand; the contexts are empty
abbrev pub MatchesAreSolutions : Type 0
MatchesAreSolutions =
    (c : Bool) (s : SignatureOf) → IsLawful (terms_over s) → (known : Known) (q : Question) →
    has_free_operators (theory_at s) q.pattern ≡ true → norm (theory_at s) q.subject ≡ q.subject →
    IsBare (terms_over s) (reading (theory_at s) q.subject) → (x : Matcher) →
    IsSolution c s (BySort s known) q x ↔
    ((x.left ≡ []) × (x.right ≡ []) × IsMatch q.pattern q.subject x.values ×
    HaveSorts (BySort s known) (variables q.pattern) x.values × AgreesWith q.pattern q.bound x.values)

-- the computed lists of solutions of such a pattern p in a normal form t have what matches for their only entry, and none where nothing
-- matches
abbrev pub MatchesAreListed : Type 0
MatchesAreListed =
    (s : TermSignature) → IsLawful s → (p t : Tree) → has_free_operators s.theory p ≡ true → norm s.theory t ≡ t →
    IsBare s (reading s.theory t) →
    ((vs : List Tree) → IsMatch p t vs → (solutions s p t ≡ plain vs ∷ []) × (solutions_within s p t ≡ plain vs ∷ [])) ×
    (((vs : List Tree) → ¬ IsMatch p t vs) → (solutions s p t ≡ []) × (solutions_within s p t ≡ []))
