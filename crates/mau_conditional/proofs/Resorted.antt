-- Solutions by other sorts: where the values of the listed ones have the same sorts, they are the same.
use Rattle.std.proofs.Common.{◌≡◌, inl, inr, ℕ, List, [], ◌∷◌, map, Bool, true, false, refl, subst}
use Rattle.mau_terms.specs.Tree.{Tree}
use Rattle.mau_terms.specs.Norm.{norm}
use Rattle.mau_terms.specs.Bare.{IsBare, IsLawful}
use Rattle.mau_terms.specs.Reading.{reading}
use Rattle.mau_terms.specs.Subst.{Variable, variables}
use Rattle.mau_terms.specs.Solution.{HaveSorts, FitsWithin}
use Rattle.mau_terms.specs.Finite.{IsIn}
use Rattle.mau_terms.proofs.Finite.{in_map}
use Rattle.mau_evaluation.proofs.BareTerms.{norm-reading-is}
use Rattle.mau_signature.specs.Signature.{SignatureOf, theory_at, terms_over}
use Rattle.mau_listing.specs.Matcher.{Matcher}
use Rattle.mau_listing.specs.Question.{Question, OfNorm, IsSolution}
use Rattle.mau_listing.proofs.Alone.{fits_alone}
use Rattle.mau_evaluation.specs.Listing.{Solution, solutions_within}
use Rattle.mau_evaluation.proofs.Solved.{solutions_within_are_listed}

module _ (s : SignatureOf) (P Q : ℕ → Tree → Type 0) where
  resort : (xs : List Variable) (vs : List Tree) → ((v : Tree) → IsIn v vs → (r : ℕ) → OfNorm P s r v → OfNorm Q s r v) → HaveSorts (OfNorm P s) xs vs → HaveSorts (OfNorm Q s) xs vs
  resort [] vs f h = tt
  resort (x ∷ xs) [] f h = h
  resort (x ∷ xs) (v ∷ vs) f h = (f v (inl refl) x.1 h.0, resort xs vs (λ w i. f w (inr i)) h.1)

  module _ (lawful : IsLawful (terms_over s)) (u : Question) (normal : norm (theory_at s) u.subject ≡ u.subject) (bare : IsBare (terms_over s) (reading (theory_at s) u.subject))
      (turns : (x : Solution) → IsIn x (solutions_within (terms_over s) u.pattern u.subject) → (v : Tree) → IsIn v x.values → (r : ℕ) → P r v → Q r v) where
    listed : (vs left right : List Tree) → FitsWithin (terms_over s) u.pattern (reading (theory_at s) u.subject) vs left right →
        IsIn (record { left = left; right = right; values = map (norm (theory_at s)) vs }) (solutions_within (terms_over s) u.pattern u.subject)
    listed vs left right fits =
        subst (λ t. IsIn (record { left = left; right = right; values = map (norm (theory_at s)) vs }) (solutions_within (terms_over s) u.pattern t)) (norm-reading-is (theory_at s) lawful.theories u.subject normal)
        ((solutions_within_are_listed (terms_over s) lawful u.pattern (reading (theory_at s) u.subject) bare).1 vs left right fits)

    each : (vs left right : List Tree) → FitsWithin (terms_over s) u.pattern (reading (theory_at s) u.subject) vs left right → (v : Tree) → IsIn v vs → (r : ℕ) → OfNorm P s r v → OfNorm Q s r v
    each vs left right fits v i r h =
        turns (record { left = left; right = right; values = map (norm (theory_at s)) vs }) (listed vs left right fits) (norm (theory_at s) v) (in_map (norm (theory_at s)) v vs i) r h

    pub resorted : (w : Bool) (x : Matcher) → IsSolution w s P u x → IsSolution w s Q u x
    resorted false x is = record {
      bare = is.bare;
      values = is.values;
      solves = (
        is.solves.0,
        resort (variables u.pattern) is.bare (each is.bare [] [] (fits_alone (terms_over s) lawful u.pattern (reading (theory_at s) u.subject) is.bare is.solves.0)) is.solves.1,
      );
      agrees = is.agrees;
      no_left = is.no_left;
      no_right = is.no_right;
    }
    resorted true x is = record {
      bare = is.bare;
      values = is.values;
      solves = (is.solves.0, resort (variables u.pattern) is.bare (each is.bare x.left x.right is.solves.0) is.solves.1);
      agrees = is.agrees;
    }
