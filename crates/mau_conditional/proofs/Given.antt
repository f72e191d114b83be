-- Values of a solution that a listing gave, as those of a pattern's variables.
use Rattle.std.proofs.Common.{◌≡◌, [], ◌∷◌, List, All, map, length, ℕ, Bool, true, false, Option, Some, None, refl, sym, ap, ◌∙◌, subst, arith}
use Rattle.std.specs.List.{zip}
use Rattle.std.proofs.lemmas.List.{length-map}
use Rattle.std.proofs.lemmas.List.Elements.{All-nil, All-cons, All-head, All-tail}
use Rattle.mau_terms.specs.Tree.{Tree}
use Rattle.mau_terms.specs.Norm.{norm}
use Rattle.mau_terms.specs.Bare.{IsBareIn, IsBare, IsLawful}
use Rattle.mau_terms.specs.Reading.{reading}
use Rattle.mau_terms.specs.Subst.{Variable, variables, with_values}
use Rattle.mau_terms.specs.Solution.{HaveSorts, FitsAt, assoc_top}
use Rattle.mau_terms.specs.View.{variable_of}
use Rattle.mau_terms.specs.declared.ids.VarId.{VarId}
use Rattle.mau_terms.specs.declared.ids.TermId.{TermId}
use Rattle.mau_terms.proofs.Chains.{first_bare}
use Rattle.mau_signature.specs.Signature.{SignatureOf, theory_at, terms_over}
use Rattle.mau_store.specs.Node.{Node}
use Rattle.mau_store.specs.Trees.{tree_at, trees_at}
use Rattle.mau_store.specs.View.{numbers}
use Rattle.mau_canon.specs.Standing.{StandsWithin, StandWithin}
use Rattle.mau_sorts.specs.Table.{Table}
use Rattle.mau_sorts.proofs.Entries.{numbers_length}
use Rattle.mau_trial.specs.Tried.{HoldsAtEach}
use Rattle.mau_trial.proofs.Solved.{values_are_bare}
use Rattle.mau_listing.specs.declared.solution.Solution.{Solution}
use Rattle.mau_listing.specs.Matcher.{Matcher}
use Rattle.mau_listing.specs.Question.{Question, OfNorm, IsSolution}
use Rattle.mau_listing.specs.Asked.{Asked, question_in, matcher_in, HasEntry, IsGiven}
use Rattle.mau_listing.proofs.Growth.{trees_long}
use Rattle.mau_evaluation.proofs.BareTerms.{readings_bare}
use Rattle.mau_api.specs.Terms.{IsNormalBare}
use Rattle.mau_api.specs.Answers.{IsValueOf}

-- the variables of pairs
bound_pairs : (xs : List VarId) (ids : List TermId) → length (numbers ids) ≡ length (map variable_of xs) → map (λ (b : VarId × TermId). variable_of b.0) (zip xs ids) ≡ map variable_of xs
bound_pairs [] ids e = refl
bound_pairs (x ∷ xs) [] e = absurd (omega (arith, e))
bound_pairs (x ∷ xs) (i ∷ ids) e = ap (λ vs. variable_of x ∷ vs) (bound_pairs xs ids (omega (arith, e)))

pub bound_variables : (xs : List VarId) (ids : List TermId) (vars : List Variable) → map variable_of xs ≡ vars → length (numbers ids) ≡ length vars → map (λ (b : VarId × TermId). variable_of b.0) (zip xs ids) ≡ vars
bound_variables xs ids vars same long = bound_pairs xs ids (long ∙ ap length (sym same)) ∙ same

module _ (s : SignatureOf) (P : ℕ → Tree → Type 0) where
  norms_have : (xs : List Variable) (vs : List Tree) → HaveSorts (OfNorm P s) xs vs → HaveSorts P xs (map (norm (theory_at s)) vs)
  norms_have [] vs h = tt
  norms_have (x ∷ xs) [] h = h
  norms_have (x ∷ xs) (v ∷ vs) h = (h.0, norms_have xs vs h.1)

  -- bare values of p's variables, whose normal forms are these
  record HasBareValues (p : Tree) (values : List Tree) : Type 0 where
    bare : List Tree
    norms : map (norm (theory_at s)) bare ≡ values
    makes : IsBare (terms_over s) (with_values p bare)
    one_each : length bare ≡ length (variables p)
    sorts : HaveSorts (OfNorm P s) (variables p) bare

  bare_values : (w : Bool) (q : Question) (x : Matcher) → IsSolution w s P q x → HasBareValues q.pattern x.values
  bare_values false q x is = record { bare = is.bare; norms = is.values; makes = first_bare is.solves.0.equal; one_each = is.solves.0.one_each; sorts = is.solves.1 }
  bare_values true q x is =
      let fits = by (assoc_top (theory_at s) (norm (theory_at s) q.pattern)) is.bare x.left x.right is.solves.0 in
      record { bare = is.bare; norms = is.values; makes = fits.0; one_each = fits.1; sorts = is.solves.1 }
    where
      by : (o : Option ℕ) (vs l r : List Tree) → FitsAt (terms_over s) o q.pattern (reading (theory_at s) q.subject) vs l r →
          IsBare (terms_over s) (with_values q.pattern vs) × (length vs ≡ length (variables q.pattern))
      by None vs l r fits = (first_bare fits.0.equal, fits.0.one_each)
      by (Some f) vs l r fits = (fits.bare, fits.one_each)

module _ (s : SignatureOf) (lawful : IsLawful (terms_over s)) (nodes : List Node) (table : Table) (p : Tree) (bare : IsBare (terms_over s) p) (x : Solution) where
  -- what is needed of its values
  record AreGiven : Type 0 where
    one_each : length (numbers x.values) ≡ length (variables p)
    each : HoldsAtEach (λ y v. IsBare (terms_over s) (reading (theory_at s) v)) (variables p) (trees_at nodes (numbers x.values))
    sorts : HaveSorts (HasEntry s nodes table) (variables p) (trees_at nodes (numbers x.values))

  are_given : (w : Bool) (q : Question) → q.pattern ≡ p → IsSolution w s (HasEntry s nodes table) q (matcher_in nodes x) → AreGiven
  are_given w q e is =
      let b = subst (λ u. HasBareValues s (HasEntry s nodes table) u (matcher_in nodes x).values) e (bare_values s (HasEntry s nodes table) w q (matcher_in nodes x) is) in
      let one : length (trees_at nodes (numbers x.values)) ≡ length (variables p) = ap length (sym b.norms) ∙ (length-map b.bare (norm (theory_at s)) ∙ b.one_each) in
      let makes = subst (λ (vs : List Tree). IsBare (terms_over s) (with_values p (map (reading (theory_at s)) vs))) b.norms (readings_bare (terms_over s) lawful p b.bare b.makes) in
      record {
        one_each = numbers_length x.values ∙ (sym (trees_long nodes x.values) ∙ one);
        each = values_are_bare s p bare (trees_at nodes (numbers x.values)) one makes;
        sorts = subst (HaveSorts (HasEntry s nodes table) (variables p)) b.norms (norms_have s (HasEntry s nodes table) (variables p) b.bare b.sorts);
      }

  module _ (kinds : (r k : ℕ) (v : Tree) → IsNormalBare s v → IsBareIn (terms_over s) (reading (theory_at s) v) k → HasEntry s nodes table r v → IsBareIn (terms_over s) (reading (theory_at s) v) ((terms_over s).kind_of r)) where
    value_each : (xs : List VarId) (ids : List TermId) → StandWithin (theory_at s) nodes (numbers ids) → HoldsAtEach (λ y v. IsBare (terms_over s) (reading (theory_at s) v)) (map variable_of xs) (trees_at nodes (numbers ids)) →
        HaveSorts (HasEntry s nodes table) (map variable_of xs) (trees_at nodes (numbers ids)) → All (IsValueOf s nodes table) (zip xs ids)
    value_each [] ids within each sorts = All-nil (IsValueOf s nodes table)
    value_each (y ∷ xs) [] within each sorts = All-nil (IsValueOf s nodes table)
    value_each (y ∷ xs) (i ∷ ids) within each sorts =
        let first = All-head (StandsWithin (theory_at s) nodes) i.0 (numbers ids) within in
        All-cons (IsValueOf s nodes table) (y, i) (zip xs ids)
        (record {
          term = record { within = first; bare = each.0 };
          kind = kinds (variable_of y).1 each.0.0 (tree_at nodes i.0) (first.normal, each.0) each.0.1 sorts.0;
          sort = sorts.0;
        })
        (value_each xs ids (All-tail (StandsWithin (theory_at s) nodes) i.0 (numbers ids) within) each.1 sorts.1)

    -- the values of the pattern's variables
    pub given_values : (w : Bool) (a : Asked) → a.pattern ≡ p → IsGiven w s nodes table a x → (xs : List VarId) → map variable_of xs ≡ variables p → All (IsValueOf s nodes table) (zip xs x.values)
    given_values w a e given xs same =
        let g = are_given w (question_in nodes a) e given.solves in
        value_each xs x.values given.values (subst (λ ys. HoldsAtEach (λ y v. IsBare (terms_over s) (reading (theory_at s) v)) ys (trees_at nodes (numbers x.values))) (sym same) g.each)
        (subst (λ ys. HaveSorts (HasEntry s nodes table) ys (trees_at nodes (numbers x.values))) (sym same) g.sorts)

  pub given_one_each : (w : Bool) (a : Asked) → a.pattern ≡ p → IsGiven w s nodes table a x → length (numbers x.values) ≡ length (variables p)
  given_one_each w a e given = (are_given w (question_in nodes a) e given.solves).one_each
