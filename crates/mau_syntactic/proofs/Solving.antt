-- The laws: solutions are what matches.
use Rattle.std.proofs.Common.{◌≡◌, ◌↔◌, ℕ, List, [], ◌∷◌, Bool, true, false, None, map, inl, inr, refl, sym, ap, ◌∙◌, subst}
use Rattle.std.specs.declared.cmp.Ordering.TheVariants.{Less}
use Rattle.std.proofs.lemmas.Cmp.{tied_itself}
use Rattle.mau_terms.specs.Tree.{Tree}
use Rattle.mau_terms.specs.Norm.{norm}
use Rattle.mau_terms.specs.Bare.{TermSignature, IsBare, EqualModulo, same_term, IsLawful}
use Rattle.mau_terms.specs.Reading.{reading}
use Rattle.mau_terms.specs.Laws.{AreNorms}
use Rattle.mau_terms.specs.Subst.{variables, with_values}
use Rattle.mau_terms.specs.Solution.{Fits, FitsAt, FitsWithin, HaveSorts}
use Rattle.mau_terms.specs.Finite.{IsIn}
use Rattle.mau_terms.proofs.Law.{equal_norm}
use Rattle.mau_terms.proofs.Solutions.{length-map}
use Rattle.mau_signature.specs.Signature.{SignatureOf, theory_at, terms_over}
use Rattle.mau_listing.specs.Asked.{BySort}
use Rattle.mau_listing.specs.Question.{Question, AgreesWith, IsWhole, IsPart, IsSolution}
use Rattle.mau_listing.specs.Matcher.{Matcher}
use Rattle.mau_listing.specs.Answers.{IsAnswer}
use Rattle.mau_listing.proofs.Answered.{solution_is_answer, answer_is_solution}
use Rattle.mau_listing.proofs.Alone.{whole_is_part, part_is_whole}
use Rattle.mau_evaluation.specs.Listing.{Solution, plain, compare, solutions, solutions_within, IsAscending}
use Rattle.mau_evaluation.proofs.BareTerms.{norm-reading-is, norms-readings}
use Rattle.mau_evaluation.proofs.Listed.{compare_total, norms_itself}
use Rattle.mau_evaluation.proofs.Solved.{solutions_are_listed, solutions_within_are_listed}
use Rattle.mau_syntactic.specs.Free.{has_free_operators}
use Rattle.mau_syntactic.specs.Match.{IsMatch}
use Rattle.mau_syntactic.specs.Laws.{MatchesAreSolutions, MatchesAreListed}
use Rattle.mau_syntactic.proofs.Below.{values_normal, match_is_one}
use Rattle.mau_syntactic.proofs.Frees.{norm-with_values, reading-with_values, no_assoc_top}

-- ---- solutions of a question

module _ (s : SignatureOf) (lawful : IsLawful (terms_over s)) (P : ℕ → Tree → Type 0) (q : Question) (free : has_free_operators (theory_at s) q.pattern ≡ true)
    (normal : norm (theory_at s) q.subject ≡ q.subject) (bare : IsBare (terms_over s) (reading (theory_at s) q.subject)) where
  abbrev IsMatched : Matcher → Type 0
  IsMatched x = (x.left ≡ []) × (x.right ≡ []) × IsMatch q.pattern q.subject x.values × HaveSorts P (variables q.pattern) x.values × AgreesWith q.pattern q.bound x.values

  answer_matches : (vs : List Tree) → IsAnswer s P q vs → IsMatch q.pattern q.subject vs
  answer_matches vs a = record {
    one_each = a.one_each;
    whole = sym (norm-with_values (theory_at s) q.pattern vs free ∙ ap (with_values q.pattern) (norms_itself (theory_at s) lawful.theories vs a.normal)) ∙ a.whole;
  }

  match_answers : (vs : List Tree) → IsMatch q.pattern q.subject vs → HaveSorts P (variables q.pattern) vs → AgreesWith q.pattern q.bound vs → IsAnswer s P q vs
  match_answers vs m sorts agrees = record {
    one_each = m.one_each;
    normal = values_normal (theory_at s) lawful.theories q.pattern q.subject vs m normal;
    bare = subst (IsBare (terms_over s)) (sym (ap (reading (theory_at s)) m.whole) ∙ reading-with_values (theory_at s) q.pattern vs free) bare;
    whole = ap (norm (theory_at s)) m.whole ∙ normal;
    sorts = sorts;
    agrees = agrees;
  }

  whole_matched : (x : Matcher) → IsWhole s P q x → IsMatched x
  whole_matched x is =
      let a = solution_is_answer s lawful P q normal x is in
      (is.no_left, is.no_right, answer_matches x.values a, a.sorts, a.agrees)

  matched_whole : (x : Matcher) → IsMatched x → IsWhole s P q x
  matched_whole x h = answer_is_solution s lawful P q normal bare x h.0 h.1 (match_answers x.values h.2 h.3 h.4)

  contexts_empty : (x : Matcher) → IsPart s P q x → (x.left ≡ []) × (x.right ≡ [])
  contexts_empty x is =
      let at : FitsAt (terms_over s) None q.pattern (reading (theory_at s) q.subject) is.bare x.left x.right =
      subst (λ o. FitsAt (terms_over s) o q.pattern (reading (theory_at s) q.subject) is.bare x.left x.right) (no_assoc_top (theory_at s) q.pattern free) is.solves.0 in
      (at.1, at.2)

  pub solved : (c : Bool) (x : Matcher) → IsSolution c s P q x ↔ IsMatched x
  solved false x = (whole_matched x, matched_whole x)
  solved true x = (
    λ is. let e = contexts_empty x is in whole_matched x (part_is_whole s lawful P q x bare e.0 e.1 is),
    λ h. whole_is_part s lawful P q x (matched_whole x h),
  )

pub matches_are_solutions : MatchesAreSolutions
matches_are_solutions c s lawful known q free normal bare x = solved s lawful (BySort s known) q free normal bare c x

-- ---- computed lists

module _ (s : TermSignature) (lawful : IsLawful s) (p t : Tree) (free : has_free_operators s.theory p ≡ true) (normal : norm s.theory t ≡ t) (bare : IsBare s (reading s.theory t)) where
  abbrev whole : norm s.theory (reading s.theory t) ≡ t
  whole = norm-reading-is s.theory lawful.theories t normal

  fits_match : (vs : List Tree) → AreNorms s.theory vs → Fits s p (reading s.theory t) (map (reading s.theory) vs) → IsMatch p t vs
  fits_match vs norms fits = record {
    one_each = sym (length-map (reading s.theory) vs) ∙ fits.one_each;
    whole =
        sym (norm-with_values s.theory p (map (reading s.theory) vs) free ∙ ap (with_values p) (norms-readings s.theory lawful.theories vs norms))
        ∙ equal_norm s lawful fits.equal
        ∙ norm-reading-is s.theory lawful.theories t normal;
  }

  match_fits : (vs : List Tree) → IsMatch p t vs → Fits s p (reading s.theory t) (map (reading s.theory) vs)
  match_fits vs m =
      let same : reading s.theory t ≡ with_values p (map (reading s.theory) vs) = sym (ap (reading s.theory) m.whole) ∙ reading-with_values s.theory p vs free in
      record {
        one_each = length-map (reading s.theory) vs ∙ m.one_each;
        equal = subst (λ w. EqualModulo s w (reading s.theory t)) same (same_term bare);
      }

  back : (vs : List Tree) → IsMatch p t vs → map (norm s.theory) (map (reading s.theory) vs) ≡ vs
  back vs m = norms-readings s.theory lawful.theories vs (values_normal s.theory lawful.theories p t vs m normal)

  -- ---- a list of one entry at most

  not_before : (x y : Solution) → x ≡ y → compare s.theory p x y ≡ Less → ⊥
  not_before x y e l =
      let tied = tied_itself (compare_total s.theory p) y in
      let less : compare s.theory p y y ≡ Less = subst (λ z. compare s.theory p z y ≡ Less) e l in
      cc

  alone : (xs : List Solution) (y : Solution) → ((x : Solution) → IsIn x xs → x ≡ y) → IsIn y xs → IsAscending (compare s.theory p) xs → xs ≡ y ∷ []
  alone [] y each i a = absurd i
  alone (x ∷ []) y each i a = ap (λ z. z ∷ []) (each x (inl refl))
  alone (x ∷ z ∷ zs) y each i a = absurd (not_before x z (each x (inl refl) ∙ sym (each z (inr (inl refl)))) a.0.0)

  none_in : (xs : List Solution) → ((x : Solution) → IsIn x xs → ⊥) → xs ≡ []
  none_in [] none = refl
  none_in (x ∷ xs) none = absurd (none x (inl refl))

  is_plain : (x : Solution) → x.left ≡ [] → x.right ≡ [] → (vs : List Tree) → x.values ≡ vs → x ≡ plain vs
  is_plain x l r vs e =
      ap (λ a. let y : Solution = record { left = a; right = x.right; values = x.values } in y) l
      ∙ ap (λ a. let y : Solution = record { left = []; right = a; values = x.values } in y) r
      ∙ ap plain e

  -- ---- the entries

  abbrev AreMatches : List Solution → Type 0
  AreMatches xs =
      ((x : Solution) → IsIn x xs → (x.left ≡ []) × (x.right ≡ []) × IsMatch p t x.values) ×
      ((vs : List Tree) → IsMatch p t vs → IsIn (plain vs) xs) ×
      IsAscending (compare s.theory p) xs

  plain_matches : AreMatches (solutions s p t)
  plain_matches =
      let law = solutions_are_listed s lawful p (reading s.theory t) bare in
      subst (λ w. AreMatches (solutions s p w)) whole (
        λ x i. let h = law.0 x i in (h.0, h.1, fits_match x.values h.2 h.3),
        λ vs m. subst (λ ws. IsIn (plain ws) (solutions s p (norm s.theory (reading s.theory t)))) (back vs m) (law.1 (map (reading s.theory) vs) (match_fits vs m)),
        law.2,
      )

  at_top : (vs left right : List Tree) → FitsWithin s p (reading s.theory t) vs left right → Fits s p (reading s.theory t) vs × (left ≡ []) × (right ≡ [])
  at_top vs left right h = subst (λ o. FitsAt s o p (reading s.theory t) vs left right) (no_assoc_top s.theory p free) h

  within_matches : AreMatches (solutions_within s p t)
  within_matches =
      let law = solutions_within_are_listed s lawful p (reading s.theory t) bare in
      subst (λ w. AreMatches (solutions_within s p w)) whole (
        λ x i. let h = law.0 x i in let k = at_top (map (reading s.theory) x.values) x.left x.right h.1 in (k.1, k.2, fits_match x.values h.0 k.0),
        λ vs m.
            subst (λ ws. IsIn (plain ws) (solutions_within s p (norm s.theory (reading s.theory t)))) (back vs m)
            (law.1 (map (reading s.theory) vs) [] []
            (subst (λ o. FitsAt s o p (reading s.theory t) (map (reading s.theory) vs) [] []) (sym (no_assoc_top s.theory p free)) (match_fits vs m, refl, refl))),
        law.2,
      )

  one_listed : (xs : List Solution) → AreMatches xs → (vs : List Tree) → IsMatch p t vs → xs ≡ plain vs ∷ []
  one_listed xs are vs m =
      alone xs (plain vs) (λ x i. let h = are.0 x i in is_plain x h.0 h.1 vs (match_is_one p t x.values vs h.2 m)) (are.1 vs m) are.2

  none_listed : (xs : List Solution) → AreMatches xs → ((vs : List Tree) → IsMatch p t vs → ⊥) → xs ≡ []
  none_listed xs are none = none_in xs (λ x i. none x.values (are.0 x i).2)

pub matches_are_listed : MatchesAreListed
matches_are_listed s lawful p t free normal bare =
    let one = plain_matches s lawful p t free normal bare in
    let two = within_matches s lawful p t free normal bare in (
      λ vs m. (one_listed s lawful p t free normal bare (solutions s p t) one vs m, one_listed s lawful p t free normal bare (solutions_within s p t) two vs m),
      λ none. (none_listed s lawful p t free normal bare (solutions s p t) one none, none_listed s lawful p t free normal bare (solutions_within s p t) two none),
    )
