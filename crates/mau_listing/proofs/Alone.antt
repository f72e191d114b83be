-- Solutions with empty contexts are solutions without.
use Rattle.std.proofs.Common.{◌≡◌, ℕ, List, [], ◌++◌, Bool, true, false, if◌then◌else◌, Option, Some, None, inr, refl, sym, ap, ◌∙◌, subst, append-nil}
use Rattle.mau_terms.specs.Tree.{Tree, variable, numeral, apply}
use Rattle.mau_terms.specs.Norm.{norm}
use Rattle.mau_terms.specs.Bare.{TermSignature, IsBare, IsLawful}
use Rattle.mau_terms.specs.Reading.{reading}
use Rattle.mau_terms.specs.Subst.{with_values}
use Rattle.mau_terms.specs.Solution.{Fits, FitsAt, FitsWithin, IsListOf, assoc_top, list_under, over_list}
use Rattle.mau_terms.specs.declared.theory.Theory.{Theory}
use Rattle.mau_terms.proofs.Chains.{first_bare}
use Rattle.mau_terms.proofs.Finite.{over_its_list}
use Rattle.mau_terms.proofs.Law.{equal_norm, norm_equal}
use Rattle.mau_terms.proofs.Normal.{norm_normal}
use Rattle.mau_terms.proofs.Pieces.{arrange_none}
use Rattle.mau_signature.specs.Signature.{SignatureOf, theory_at, terms_over}
use Rattle.mau_listing.specs.Question.{Question, IsWhole, IsPart}
use Rattle.mau_listing.specs.Matcher.{Matcher}
use Rattle.mau_listing.specs.Asked.{BySort}
use Rattle.mau_listing.specs.Laws.{WholesAreParts}

-- the top that `assoc_top` finds is associative
pub top_assoc : (th : ℕ → Theory) (t : Tree) (f : ℕ) → assoc_top th t ≡ Some f → (th f).assoc ≡ true
top_assoc th (variable i s) f e = cc
top_assoc th (numeral n) f e = cc
top_assoc th (apply g ts) f e = by (th g).assoc refl e
  where
    by : (b : Bool) → (th g).assoc ≡ b → (if b then Some g else None) ≡ Some f → (th f).assoc ≡ true
    by true h k = let same : g ≡ f = cc in subst (λ x. (th x).assoc ≡ true) same h
    by false h k = cc

module _ (s : TermSignature) (lawful : IsLawful s) (p t : Tree) (vs : List Tree) where
  abbrev th : ℕ → Theory
  th = s.theory

  abbrev whole : Tree
  whole = norm s.theory (with_values p vs)

  -- a normal form is over its list, with nothing around it
  itself : (f : ℕ) → (s.theory f).assoc ≡ true → over_list (s.theory f) f ([] ++ (list_under (s.theory f) f (norm s.theory (with_values p vs)) ++ [])) ≡ norm s.theory (with_values p vs)
  itself f assoc = ap (over_list (th f) f) (append-nil (list_under (th f) f whole)) ∙ over_its_list th f whole assoc (norm_normal th lawful.theories (with_values p vs))

  no_list : (f : ℕ) → IsListOf s.theory f []
  no_list f = record { pieces = tt; ordered = arrange_none (th f).comm }

  pub alone_fits : IsBare s t → FitsWithin s p t vs [] [] → Fits s p t vs
  alone_fits bare = by (assoc_top th (norm th p)) refl
    where
      by : (o : Option ℕ) → assoc_top s.theory (norm s.theory p) ≡ o → FitsAt s o p t vs [] [] → Fits s p t vs
      by None e h = h.0
      by (Some f) e h = record {
        one_each = h.one_each;
        equal = norm_equal s lawful (with_values p vs) t h.bare bare (sym (h.whole ∙ itself f (top_assoc th (norm th p) f e)));
      }

  pub fits_alone : Fits s p t vs → FitsWithin s p t vs [] []
  fits_alone fits = by (assoc_top th (norm th p)) refl
    where
      by : (o : Option ℕ) → assoc_top s.theory (norm s.theory p) ≡ o → FitsAt s o p t vs [] []
      by None e = (fits, refl, refl)
      by (Some f) e = record {
        one_each = fits.one_each;
        bare = first_bare fits.equal;
        left_list = no_list f;
        right_list = no_list f;
        rest_alone = λ c. refl;
        whole = sym (itself f (top_assoc th (norm th p) f e) ∙ equal_norm s lawful fits.equal);
        part = inr (refl, refl);
      }

module _ (s : SignatureOf) (lawful : IsLawful (terms_over s)) (P : ℕ → Tree → Type 0) (q : Question) (x : Matcher) where
  pub whole_is_part : IsWhole s P q x → IsPart s P q x
  whole_is_part is = record {
    bare = is.bare;
    values = is.values;
    solves = (
      subst (λ l. FitsWithin (terms_over s) q.pattern (reading (theory_at s) q.subject) is.bare l x.right) (sym is.no_left)
          (subst (λ r. FitsWithin (terms_over s) q.pattern (reading (theory_at s) q.subject) is.bare [] r) (sym is.no_right)
          (fits_alone (terms_over s) lawful q.pattern (reading (theory_at s) q.subject) is.bare is.solves.0)),
      is.solves.1,
    );
    agrees = is.agrees;
  }

  pub part_is_whole : IsBare (terms_over s) (reading (theory_at s) q.subject) → x.left ≡ [] → x.right ≡ [] → IsPart s P q x → IsWhole s P q x
  part_is_whole bare l r is = record {
    bare = is.bare;
    values = is.values;
    solves = (
      alone_fits (terms_over s) lawful q.pattern (reading (theory_at s) q.subject) is.bare bare
          (subst (λ rs. FitsWithin (terms_over s) q.pattern (reading (theory_at s) q.subject) is.bare [] rs) r
          (subst (λ ls. FitsWithin (terms_over s) q.pattern (reading (theory_at s) q.subject) is.bare ls x.right) l is.solves.0)),
      is.solves.1,
    );
    agrees = is.agrees;
    no_left = l;
    no_right = r;
  }

pub wholes_are_parts : WholesAreParts
wholes_are_parts s lawful known q bare x = (
  λ is. (is.no_left, is.no_right, whole_is_part s lawful (BySort s known) q x is),
  λ is. part_is_whole s lawful (BySort s known) q x bare is.0 is.1 is.2,
)
