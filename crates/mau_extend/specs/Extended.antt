-- Widened patterns as the code has them.
use Rattle.std.specs.Prelude.{◌≡◌, ◌≢◌, ◌⊎◌, ◌<◌, ◌+◌, ◌^◌, ℕ, List, All, length, Option, None, Some, Bool}
use Rattle.std.specs.declared.cmp.Ordering.{Ordering}
use Rattle.std.specs.declared.cmp.Ordering.TheVariants.{Less}
use Rattle.mau_terms.specs.Tree.{Tree}
use Rattle.mau_terms.specs.View.{variable_of}
use Rattle.mau_terms.specs.declared.ids.TermId.{TermId}
use Rattle.mau_terms.specs.declared.ids.VarId.{VarId}
use Rattle.mau_signature.specs.Signature.{SignatureOf, IsOperator, theory_at, terms_over}
use Rattle.mau_store.specs.Node.{Node}
use Rattle.mau_store.specs.Trees.{tree_at}
use Rattle.mau_store.specs.View.{numbers}
use Rattle.mau_canon.specs.Standing.{StandWithin}
use Rattle.mau_listing.specs.declared.solution.Solution.{Solution}
use Rattle.std.specs.Option.{option_map}
use Rattle.mau_sorts.specs.HasSort.{Known}
use Rattle.mau_listing.specs.declared.places.Place.{Place}
use Rattle.mau_listing.specs.Question.{Question, IsPart}
use Rattle.mau_listing.specs.Matcher.{Matcher}
use Rattle.mau_listing.specs.Next.{matcher_cmp, IsBehind}
use Rattle.mau_sorts.specs.Table.{Table}
use Rattle.mau_listing.specs.Asked.{Asked, BySort, IsPoint, matcher_in}
use Rattle.mau_extend.specs.declared.shape.Shape.{Shape}
use Rattle.mau_extend.specs.declared.start.Start.{Start}
use Rattle.mau_extend.specs.declared.start.Start.TheVariants.{Nowhere, First, Behind}
use Rattle.mau_extend.specs.Widened.{widened, as_term, CanBeWidened, CanBeArgument, HasShape, widened_found, IsNextAmong, IsNarrowed, IsWide}

-- no variable of the places has this index, and none that has a value beforehand
pub record IsUnused (ps : List Place) (bound : List (VarId × TermId)) (i : ℕ) : Type 0 where
  pub in_pattern : All (λ p. p.variable.index ≢ i) ps
  pub beforehand : All (λ b. b.0.index ≢ i) bound

-- no two indexes below 2^32 - 1 are unused
abbrev pub AreUsedUp : List Place → List (VarId × TermId) → Type 0
AreUsedUp ps bound = (i j : ℕ) → i < j → j + 1 < 2 ^ 32 → IsUnused ps bound i → IsUnused ps bound j → ⊥

-- the pattern of the question can be widened so, with variables of the operator's kind
pub record IsShapeOf (s : SignatureOf) (q : Question) (w : Shape) : Type 0 where
  pub operator : IsOperator s w.op.0
  pub can : CanBeWidened s q w.left w.op.0 (variable_of w.first) (variable_of w.last)
  pub first_sort : w.first.sort ≡ (terms_over s).result w.op.0
  pub last_sort : w.last.sort ≡ (terms_over s).result w.op.0

-- a pattern, widened so
abbrev pub shaped : Shape → Tree → Tree
shaped w p = widened w.left w.right w.op.0 (as_term (variable_of w.first)) p (as_term (variable_of w.last))

-- what is asked, with the pattern widened so
abbrev pub shaped_asked : Shape → Asked → Asked
shaped_asked w a = record a { pattern = shaped w a.pattern }

-- the solutions that this shape is for
abbrev pub IsShaped : SignatureOf → Known → Question → Shape → Matcher → Type 0
IsShaped s known q w x = IsPart s (BySort s known) q x × HasShape w.left w.right (theory_at s w.op.0) x

-- all solutions of this shape behind the last one stand behind the given one of the widened pattern
abbrev pub IsAheadOf : SignatureOf → Known → Question → Shape → Option Matcher → Option Matcher → Type 0
IsAheadOf s known q w last given =
    (x : Matcher) → IsShaped s known q w x → IsBehind (matcher_cmp (theory_at s) q.pattern) last x →
    IsBehind (matcher_cmp (theory_at s) (shaped w q.pattern)) given (widened_found w.left w.right (theory_at s w.op.0) w.op.0 x)

-- the answer is the least solution behind the last one, as far as those of this shape are concerned
abbrev pub IsNextShaped : SignatureOf → Known → Question → Shape → Option Matcher → Option Matcher → Type 0
IsNextShaped s known q w = IsNextAmong (IsPart s (BySort s known) q) (IsShaped s known q w) (matcher_cmp (theory_at s) q.pattern)

-- ---- where a listing of the widened pattern goes on

-- behind a point it goes on from settled normal forms
abbrev pub CanStart : SignatureOf → List Node → Table → Asked → Start → Type 0
CanStart s nodes table a Nowhere = Unit {0}
CanStart s nodes table a First = Unit {0}
CanStart s nodes table a (Behind y) = IsPoint s nodes table a y

-- nowhere, where no solution of this shape stands behind the last one; else all of these stand behind it
abbrev pub IsStartOf : SignatureOf → Known → Question → Shape → Option Matcher → List Node → Start → Type 0
IsStartOf s known q w last nodes Nowhere = (x : Matcher) → IsShaped s known q w x → IsBehind (matcher_cmp (theory_at s) q.pattern) last x → ⊥
IsStartOf s known q w last nodes First = IsAheadOf s known q w last None
IsStartOf s known q w last nodes (Behind y) = IsAheadOf s known q w last (Some (matcher_in nodes y))

-- ---- which solutions of the widened pattern count

-- x is what the solution y of the widened pattern is; its contexts are wide enough, and it stands behind the last one
pub record IsAccepted (s : SignatureOf) (nodes : List Node) (a : Asked) (w : Shape) (last : Option Solution) (y x : Solution) : Type 0 where
  pub narrowed : IsNarrowed w.left w.right (theory_at s w.op.0) w.op.0 (matcher_in nodes y) (matcher_in nodes x)
  pub wide : IsWide (theory_at s w.op.0) w.op.0 (tree_at nodes a.subject.0) (matcher_in nodes x)
  pub behind : IsBehind (matcher_cmp (theory_at s) a.pattern) (option_map (matcher_in nodes) last) (matcher_in nodes x)

-- what the solution y of the widened pattern is does not count
abbrev pub IsRefused : SignatureOf → List Node → Asked → Shape → Option Solution → Solution → Type 0
IsRefused s nodes a w last y =
    (x : Matcher) × IsNarrowed w.left w.right (theory_at s w.op.0) w.op.0 (matcher_in nodes y) x
    × (IsWide (theory_at s w.op.0) w.op.0 (tree_at nodes a.subject.0) x → IsBehind (matcher_cmp (theory_at s) a.pattern) (option_map (matcher_in nodes) last) x → ⊥)

-- ---- the next solution

-- the same for all shapes with these contexts
abbrev pub IsNextOf : SignatureOf → Known → Question → Bool → Bool → ℕ → Option Matcher → Option Matcher → Type 0
IsNextOf s known q h k f = IsNextAmong (IsPart s (BySort s known) q) (λ x. IsPart s (BySort s known) q x × HasShape h k (theory_at s f) x) (matcher_cmp (theory_at s) q.pattern)

-- as far as solutions are concerned whose left context is one of these
abbrev pub IsNextBeside : SignatureOf → Known → Question → Bool → ℕ → Option Matcher → Option Matcher → Type 0
IsNextBeside s known q h f = IsNextAmong (IsPart s (BySort s known) q) (λ x. IsPart s (BySort s known) q x × CanBeArgument h (theory_at s f) x.left) (matcher_cmp (theory_at s) q.pattern)

-- the values of x are normal forms within the limits, one for each place
pub record IsListed (s : SignatureOf) (nodes : List Node) (ps : List Place) (x : Solution) : Type 0 where
  pub values : StandWithin (theory_at s) nodes (numbers x.values)
  pub one_each : length x.values ≡ length ps

-- the least of what is there
abbrev pub IsLesser : (Matcher → Matcher → Ordering) → Option Matcher → Option Matcher → Option Matcher → Type 0
IsLesser cmp None other o = o ≡ other
IsLesser cmp (Some x) None o = o ≡ Some x
IsLesser cmp (Some x) (Some y) o = ((cmp y x ≡ Less) × (o ≡ Some y)) ⊎ ((cmp y x ≡ Less → ⊥) × (o ≡ Some x))
