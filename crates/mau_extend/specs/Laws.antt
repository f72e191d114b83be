-- The laws of widened patterns. Each is proved: a public function of the module `laws` has it for its contract.
use Rattle.std.specs.Prelude.{◌≡◌, ℕ, Bool, Some}
use Rattle.mau_terms.specs.Norm.{norm}
use Rattle.mau_terms.specs.Bare.{IsBare, IsLawful}
use Rattle.mau_terms.specs.Reading.{reading}
use Rattle.mau_terms.specs.Subst.{Variable}
use Rattle.mau_poset.specs.Order.{kind_of}
use Rattle.mau_signature.specs.Signature.{SignatureOf, theory_at, terms_over}
use Rattle.mau_sorts.specs.HasSort.{Known}
use Rattle.mau_listing.specs.Question.{Question, IsWhole, IsPart}
use Rattle.mau_listing.specs.Matcher.{Matcher}
use Rattle.mau_listing.specs.Asked.{BySort}
use Rattle.mau_extend.specs.Widened.{widened_question, CanBeWidened, HasShape, widened_found, IsNarrowed, IsWide}

-- a solution of the widened pattern is one with contexts, where these are wide enough, whatever tells the sorts
abbrev pub WideOnesAreParts : Type 0
WideOnesAreParts =
    (s : SignatureOf) → IsLawful (terms_over s) → (known : Known) (q : Question) → norm (theory_at s) q.subject ≡ q.subject →
    (h k : Bool) (f : ℕ) (a b : Variable) → CanBeWidened s q h f a b → (y x : Matcher) →
    IsWhole s (BySort s known) (widened_question h k f a b q) y → IsNarrowed h k (theory_at s f) f y x →
    IsWide (theory_at s f) f q.subject x → IsPart s (BySort s known) q x

-- a solution with contexts is one of the widened pattern, where its contexts can be arguments and the variables for them are of the
-- operator's kind
abbrev pub PartsAreWideOnes : Type 0
PartsAreWideOnes =
    (s : SignatureOf) → IsLawful (terms_over s) → ((p : ℕ × ℕ) → s.numerals ≡ Some p → kind_of s.hierarchy p.0 ≡ kind_of s.hierarchy p.1) →
    (known : Known) (q : Question) → norm (theory_at s) q.subject ≡ q.subject → IsBare (terms_over s) (reading (theory_at s) q.subject) →
    (h k : Bool) (f : ℕ) (a b : Variable) → CanBeWidened s q h f a b → a.1 ≡ (terms_over s).result f → b.1 ≡ (terms_over s).result f →
    (x : Matcher) → IsPart s (BySort s known) q x → HasShape h k (theory_at s f) x →
    IsWhole s (BySort s known) (widened_question h k f a b q) (widened_found h k (theory_at s f) f x)
