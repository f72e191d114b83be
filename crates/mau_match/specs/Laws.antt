-- The laws of listings. Each is proved: a public function of the module `laws` has it for its contract.
use Rattle.std.specs.Prelude.{◌≡◌, ℕ, List, ◌∷◌, ◌++◌, length, true}
use Rattle.mau_terms.specs.Tree.{Tree, apply, Trees}
use Rattle.mau_terms.specs.Norm.{norm}
use Rattle.mau_terms.specs.Bare.{TermSignature, IsBare, IsLawful}
use Rattle.mau_terms.specs.Subst.{Variable, variables, with_values}
use Rattle.mau_terms.specs.Solution.{FitsUnder, list_under}
use Rattle.mau_terms.specs.Finite.{each_of}
use Rattle.mau_signature.specs.Signature.{SignatureOf, terms_over, theory_at}
use Rattle.mau_sorts.specs.HasSort.{Known}
use Rattle.mau_listing.specs.Question.{Question}
use Rattle.mau_listing.specs.Asked.{BySort}
use Rattle.mau_listing.specs.Answers.{IsAnswer}
use Rattle.mau_domains.specs.Parts.{Part, just, some_of, front, IsOf}
use Rattle.mau_match.specs.Parts.{occurs_among, AnyOf, parts_of}
use Rattle.mau_match.specs.Taken.{first_with, taken}
use Rattle.mau_match.specs.Given.{given_variables, given_at}

-- in each answer in which the first variables xs have the values vs, the value u of the next variable x is of one of the parts that the
-- walk over the pattern gives
abbrev pub PartsHoldAnswers : Type 0
PartsHoldAnswers =
    (s : SignatureOf) → IsLawful (terms_over s) → (known : Known) (q : Question) →
    (xs : List Variable) (x : Variable) (zs : List Variable) → variables q.pattern ≡ xs ++ x ∷ zs →
    (vs : List Tree) → length xs ≡ length vs → (u : Tree) (us : List Tree) → IsAnswer s (BySort s known) q (vs ++ u ∷ us) →
    AnyOf (theory_at s) (parts_of (theory_at s) (given_variables q xs) (given_at q xs vs) x q.pattern (just q.subject)) u

-- with a left and a right context the same walk serves, from what stands behind the left one
abbrev pub PartWithContexts : Type 0
PartWithContexts =
    (s : TermSignature) → IsLawful s → (f : ℕ) → (s.theory f).assoc ≡ true → (p t : Tree) (vs left right : List Tree) →
    FitsUnder s f p t vs left right →
    (rest : List Tree) × (left ++ rest ≡ list_under (s.theory f) f (norm s.theory t)) × IsOf s.theory (some_of front f rest) (norm s.theory (with_values p vs))

-- the walk over an operator goes on in the first argument in which the variable occurs, with each part that this argument may take
abbrev pub WalkGoesOn : Type 0
WalkGoesOn =
    (s : TermSignature) → IsLawful s → (bound : List Variable) (g : Variable → Tree) (x : Variable) (f : ℕ) (ps : Trees) →
    IsBare s (apply f ps) → occurs_among x ps ≡ true → (q : Part) →
    parts_of s.theory bound g x (apply f ps) q ≡ each_of (parts_of s.theory bound g x (first_with x ps)) (taken s.theory bound g x f ps q)
