-- The laws of listings. Each is proved: a public function of the module `laws` has it for its contract.
use Rattle.std.specs.Prelude.{◌≡◌, ◌↔◌, ◌<◌, ℕ, List, [], Bool, true, false, All, AllPairs, Contains, Option, None, Some}
use Rattle.std.specs.Cmp.{IsTotalOrder}
use Rattle.std.specs.declared.cmp.Ordering.TheVariants.{Less, Equal as Tied}
use Rattle.mau_terms.specs.Tree.{Tree}
use Rattle.mau_terms.specs.Norm.{norm}
use Rattle.mau_terms.specs.Bare.{IsBare, IsLawful}
use Rattle.mau_terms.specs.Reading.{reading}
use Rattle.mau_terms.specs.declared.theory.Theory.{Theory}
use Rattle.mau_signature.specs.Signature.{SignatureOf, theory_at, terms_over}
use Rattle.mau_store.specs.Node.{Node, AreNodes, Extends}
use Rattle.mau_store.specs.Trees.{tree_at}
use Rattle.mau_sorts.specs.HasSort.{Known, HasSort}
use Rattle.mau_sorts.specs.Table.{Table, IsSettled, AreOver, KeepsEntries}
use Rattle.mau_listing.specs.declared.solution.Solution.{Solution}
use Rattle.mau_listing.specs.Question.{Question, IsSolution}
use Rattle.mau_listing.specs.Matcher.{Matcher}
use Rattle.mau_listing.specs.Answers.{IsAnswer}
use Rattle.mau_listing.specs.Next.{matcher_cmp, IsBehind, AreFirst}
use Rattle.mau_listing.specs.Asked.{Asked, HasEntry, IsTreeSettled, IsTableOf, IsClosedTable, BySort, IsBelow, CanGoOn}
use Rattle.mau_listing.specs.Finite.{count_behind, count_left}

-- ---- solutions without context

-- they are the answers by normal forms
abbrev pub AnswersAreSolutions : Type 0
AnswersAreSolutions =
    (s : SignatureOf) → IsLawful (terms_over s) → (known : Known) (q : Question) → norm (theory_at s) q.subject ≡ q.subject →
    IsBare (terms_over s) (reading (theory_at s) q.subject) → (x : Matcher) →
    IsSolution false s (BySort s known) q x ↔ ((x.left ≡ []) × (x.right ≡ []) × IsAnswer s (BySort s known) q x.values)

-- ---- solutions with empty contexts

-- they are the solutions without contexts, whatever the top of the pattern is
abbrev pub WholesAreParts : Type 0
WholesAreParts =
    (s : SignatureOf) → IsLawful (terms_over s) → (known : Known) (q : Question) → IsBare (terms_over s) (reading (theory_at s) q.subject) → (x : Matcher) →
    IsSolution false s (BySort s known) q x ↔ ((x.left ≡ []) × (x.right ≡ []) × IsSolution true s (BySort s known) q x)

-- ---- the order of solutions

-- it is total
abbrev pub MatchersAreOrdered : Type 0
MatchersAreOrdered = (th : ℕ → Theory) (p : Tree) → IsTotalOrder (matcher_cmp th p)

-- two solutions of a question that tie are one, whatever the sorts are
abbrev pub TiesAreOne : Type 0
TiesAreOne =
    (c : Bool) (s : SignatureOf) → IsLawful (terms_over s) → (known : Known) (q : Question) (x y : Matcher) →
    IsSolution c s (BySort s known) q x → IsSolution c s (BySort s known) q y →
    matcher_cmp (theory_at s) q.pattern x y ≡ Tied → x ≡ y

-- ---- sorts

-- the entries of a table say what sorts the terms have
abbrev pub EntriesAreSorts : Type 0
EntriesAreSorts =
    (s : SignatureOf) (known : Known) (nodes : List Node) (table : Table) → IsTableOf s known nodes table →
    (r : ℕ) (t : Tree) → HasEntry s nodes table r t → HasSort s known t r

-- ---- listings that go on

-- what lets a listing go on stays in a store and a table that grow
abbrev pub ListingsGoOn : Type 0
ListingsGoOn =
    (c : Bool) (s : SignatureOf) (old new : List Node) (before after : Table) → Extends old new → KeepsEntries before after →
    AreOver s.hierarchy after → (a : Asked) (last : Option Solution) → CanGoOn c s old before a last → CanGoOn c s new after a last

-- in a store that grows a closed table stays closed
abbrev pub ClosedStay : Type 0
ClosedStay = (old new : List Node) (table : Table) → Extends old new → IsClosedTable old table → IsClosedTable new table

-- where a table is closed, all that is below a settled term is settled
abbrev pub ClosedBelow : Type 0
ClosedBelow =
    (nodes : List Node) → AreNodes nodes → (table : Table) → IsClosedTable nodes table → (i : ℕ) → IsSettled table i →
    (u : Tree) → IsBelow u (tree_at nodes i) → IsTreeSettled nodes table u

-- ---- listings that end

-- with each solution behind the last one the number of what may be left falls
abbrev pub CountFalls : Type 0
CountFalls =
    (c : Bool) (s : SignatureOf) → IsLawful (terms_over s) → (known : Known) (q : Question) → norm (theory_at s) q.subject ≡ q.subject →
    (last : Option Matcher) (x : Matcher) → IsSolution c s (BySort s known) q x → IsBehind (matcher_cmp (theory_at s) q.pattern) last x →
    count_behind s q (Some x) < count_behind s q last

-- and in a store that grows it stays what it is
abbrev pub CountStays : Type 0
CountStays =
    (c : Bool) (s : SignatureOf) (old new : List Node) (table : Table) → Extends old new → (a : Asked) (last : Option Solution) →
    CanGoOn c s old table a last → count_left s new a last ≡ count_left s old a last

-- ---- whole listings

-- where none is left behind the first ones, these are all
abbrev pub AllAreListed : Type 0
AllAreListed =
    (c : Bool) (s : SignatureOf) (known : Known) (q : Question) (xs : List Matcher) →
    AreFirst (IsSolution c s (BySort s known) q) (matcher_cmp (theory_at s) q.pattern) None xs false →
    (x : Matcher) → IsSolution c s (BySort s known) q x → Contains xs x

-- the first ones are solutions in ascending order, so each is there once
abbrev pub FirstAscend : Type 0
FirstAscend =
    (c : Bool) (s : SignatureOf) (known : Known) (q : Question) (last : Option Matcher) (xs : List Matcher) (others : Bool) →
    AreFirst (IsSolution c s (BySort s known) q) (matcher_cmp (theory_at s) q.pattern) last xs others →
    All (IsSolution c s (BySort s known) q) xs × AllPairs (λ x y. matcher_cmp (theory_at s) q.pattern x y ≡ Less) xs
