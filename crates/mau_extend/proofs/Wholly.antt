-- Without an associative top solutions with contexts are those without.
use Rattle.std.proofs.Common.{◌≡◌, ℕ, List, true, false, Option, None, Some, IfSome, sym, subst}
use Rattle.std.specs.declared.cmp.Ordering.{Ordering}
use Rattle.mau_terms.specs.Tree.{Tree}
use Rattle.mau_terms.specs.Norm.{norm}
use Rattle.mau_terms.specs.Reading.{reading}
use Rattle.mau_terms.specs.Solution.{FitsAt, assoc_top}
use Rattle.mau_signature.specs.Signature.{SignatureOf, theory_at, terms_over}
use Rattle.mau_store.specs.Node.{Node}
use Rattle.mau_sorts.specs.Table.{Table}
use Rattle.mau_listing.specs.declared.solution.Solution.{Solution}
use Rattle.mau_listing.specs.Question.{Question, IsWhole, IsPart, IsSolution}
use Rattle.mau_listing.specs.Matcher.{Matcher}
use Rattle.mau_listing.specs.Next.{IsNext}
use Rattle.mau_listing.specs.Asked.{Asked, question_in, matcher_in, HasEntry, IsGiven, CanBeLast, CanGoOn}
use Rattle.mau_listing.proofs.Growth.{given_is_last}

module _ (s : SignatureOf) (P : ℕ → Tree → Type 0) (q : Question) (top : assoc_top (theory_at s) (norm (theory_at s) q.pattern) ≡ None) where
  pub whole_is_part : (x : Matcher) → IsWhole s P q x → IsPart s P q x
  whole_is_part x is = record {
    bare = is.bare;
    values = is.values;
    solves = (subst (λ o. FitsAt (terms_over s) o q.pattern (reading (theory_at s) q.subject) is.bare x.left x.right) (sym top) (is.solves.0, is.no_left, is.no_right), is.solves.1);
    agrees = is.agrees;
  }

  pub part_is_whole : (x : Matcher) → IsPart s P q x → IsWhole s P q x
  part_is_whole x is =
      let fits : FitsAt (terms_over s) None q.pattern (reading (theory_at s) q.subject) is.bare x.left x.right =
      subst (λ o. FitsAt (terms_over s) o q.pattern (reading (theory_at s) q.subject) is.bare x.left x.right) top is.solves.0 in
      record { bare = is.bare; values = is.values; solves = (fits.0, is.solves.1); agrees = is.agrees; no_left = fits.1; no_right = fits.2 }

  pub whole_next : (cmp : Matcher → Matcher → Ordering) (last o : Option Matcher) → IsNext (IsSolution false s P q) cmp last o → IsNext (IsSolution true s P q) cmp last o
  whole_next cmp last None n = λ x is. n x (part_is_whole x is)
  whole_next cmp last (Some x) n = record { is_one = whole_is_part x n.is_one; behind = n.behind; least = λ z is. n.least z (part_is_whole z is) }

module _ (s : SignatureOf) (nodes : List Node) (table : Table) (a : Asked) (top : assoc_top (theory_at s) (norm (theory_at s) a.pattern) ≡ None) where
  pub given_part : (x : Solution) → IsGiven false s nodes table a x → IsGiven true s nodes table a x
  given_part x is = record { left = is.left; right = is.right; values = is.values; settled = is.settled; solves = whole_is_part s (HasEntry s nodes table) (question_in nodes a) top (matcher_in nodes x) is.solves }

  given_whole : (x : Solution) → IsGiven true s nodes table a x → IsGiven false s nodes table a x
  given_whole x is = record { left = is.left; right = is.right; values = is.values; settled = is.settled; solves = part_is_whole s (HasEntry s nodes table) (question_in nodes a) top (matcher_in nodes x) is.solves }

  pub whole_can : (last : Option Solution) → CanGoOn true s nodes table a last → CanGoOn false s nodes table a last
  whole_can last can = record { askable = can.askable; settled = can.settled; over = can.over; given = by last can.given }
    where
      by : (o : Option Solution) → IfSome o (CanBeLast true s nodes table a) → IfSome o (CanBeLast false s nodes table a)
      by None h = tt
      by (Some x) h = given_is_last false s nodes table a x (given_whole x h)

  pub some_part : (o : Option Solution) → IfSome o (IsGiven false s nodes table a) → IfSome o (IsGiven true s nodes table a)
  some_part None h = tt
  some_part (Some x) h = given_part x h
