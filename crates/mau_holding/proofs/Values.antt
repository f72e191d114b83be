-- Values of a pattern's variables, one by one.
use Rattle.std.proofs.Common.{◌≡◌, ◌∷◌, [], List, map, length, ℕ, suc, All, inl, inr, refl, sym, ap, ap₂, ◌∙◌, subst, arith}
use Rattle.std.proofs.lemmas.List.Elements.{All-nil, All-cons, All-head, All-tail}
use Rattle.std.specs.List.{zip}
use Rattle.mau_terms.specs.Tree.{Tree}
use Rattle.mau_terms.specs.Norm.{norm}
use Rattle.mau_terms.specs.Finite.{IsIn}
use Rattle.mau_terms.specs.Bare.{IsBare, IsLawful}
use Rattle.mau_terms.specs.Reading.{reading}
use Rattle.mau_terms.specs.Subst.{Variable, variables}
use Rattle.mau_terms.specs.View.{variable_of}
use Rattle.mau_terms.specs.Solution.{HaveSorts}
use Rattle.mau_terms.specs.declared.ids.VarId.{VarId}
use Rattle.mau_terms.specs.declared.ids.TermId.{TermId}
use Rattle.mau_signature.specs.OverSignature.{IsTreeOver}
use Rattle.mau_signature.specs.Signature.{SignatureOf, theory_at, terms_over}
use Rattle.mau_sigcheck.specs.Built.{IsBuiltAndAccepted}
use Rattle.mau_store.specs.Node.{Node}
use Rattle.mau_store.specs.Trees.{tree_at, trees_at}
use Rattle.mau_store.specs.View.{numbers}
use Rattle.mau_canon.specs.Standing.{StandsWithin, StandWithin}
use Rattle.mau_listing.specs.Asked.{BySort}
use Rattle.mau_listing.proofs.Growth.{trees_long}
use Rattle.mau_trial.specs.Tried.{HoldsAtEach}
use Rattle.mau_trial.proofs.Solved.{values_are_bare}
use Rattle.mau_evaluation.specs.Evaluation.{Binding}
use Rattle.mau_api.specs.Answers.{binding_in}
use Rattle.mau_reduce.specs.Bindings.{HaveKinds}
use Rattle.mau_reduce.proofs.PlainTables.{term_over}
use Rattle.mau_reduce.proofs.SortKinds.{have_kinds}
use Rattle.mau_holding.specs.Holding.{AreValuesFor, IsSortedValue}

-- ---- variables and values in their places

pub binding_zipped : (nodes : List Node) (xs : List VarId) (ids : List TermId) → binding_in nodes (zip xs ids) ≡ zip (map variable_of xs) (trees_at nodes (numbers ids))
binding_zipped nodes [] ids = refl
binding_zipped nodes (x ∷ xs) [] = refl
binding_zipped nodes (x ∷ xs) (i ∷ ids) = ap (λ bs. (variable_of x, tree_at nodes i.0) ∷ bs) (binding_zipped nodes xs ids)

variables_zipped : (xs : List VarId) (ids : List TermId) → length ids ≡ length xs → map (λ (b : VarId × TermId). variable_of b.0) (zip xs ids) ≡ map variable_of xs
variables_zipped [] ids e = refl
variables_zipped (x ∷ xs) [] e = absurd (omega (arith, e))
variables_zipped (x ∷ xs) (i ∷ ids) e = ap (λ vs. variable_of x ∷ vs) (variables_zipped xs ids (omega (arith, e)))

long : (xs : List VarId) → length (map variable_of xs) ≡ length xs
long [] = refl
long (x ∷ xs) = ap suc (long xs)

long_numbers : (ids : List TermId) → length (numbers ids) ≡ length ids
long_numbers [] = refl
long_numbers (i ∷ ids) = ap suc (long_numbers ids)

module _ (s : SignatureOf) (nodes : List Node) where
  abbrev OfBare : Variable → Tree → Type 0
  OfBare x v = IsBare (terms_over s) (reading (theory_at s) v)

  each_value : IsLawful (terms_over s) → (xs : List Variable) (ids : List TermId) → StandWithin (theory_at s) nodes (numbers ids) → HoldsAtEach OfBare xs (trees_at nodes (numbers ids)) →
      (v : Tree) → IsIn v (trees_at nodes (numbers ids)) → (norm (theory_at s) v ≡ v) × IsTreeOver s v × IsBare (terms_over s) (reading (theory_at s) v)
  each_value lawful xs [] within bare v i = absurd i
  each_value lawful [] (j ∷ ids) within bare v i = absurd bare
  each_value lawful (x ∷ xs) (j ∷ ids) within bare v (inl e) =
      let is = All-head (StandsWithin (theory_at s) nodes) j.0 (numbers ids) within in
      subst (λ u. (norm (theory_at s) u ≡ u) × IsTreeOver s u × IsBare (terms_over s) (reading (theory_at s) u)) (sym e)
      (is.normal, term_over s lawful nodes j.0 (record { within = is; bare = bare.0 }), bare.0)
  each_value lawful (x ∷ xs) (j ∷ ids) within bare v (inr i) = each_value lawful xs ids (All-tail (StandsWithin (theory_at s) nodes) j.0 (numbers ids) within) bare.1 v i

  sorted_each : (xs : List VarId) (ids : List TermId) → StandWithin (theory_at s) nodes (numbers ids) → HoldsAtEach OfBare (map variable_of xs) (trees_at nodes (numbers ids)) →
      HaveKinds s (map variable_of xs) (trees_at nodes (numbers ids)) → HaveSorts (BySort s []) (map variable_of xs) (trees_at nodes (numbers ids)) → All (IsSortedValue s nodes) (zip xs ids)
  sorted_each [] ids within bare kinds sorts = All-nil (IsSortedValue s nodes)
  sorted_each (x ∷ xs) [] within bare kinds sorts = All-nil (IsSortedValue s nodes)
  sorted_each (x ∷ xs) (i ∷ ids) within bare kinds sorts =
      All-cons (IsSortedValue s nodes) (x, i) (zip xs ids)
      (record { term = record { within = All-head (StandsWithin (theory_at s) nodes) i.0 (numbers ids) within; bare = bare.0 }; kind = kinds.0; sort = sorts.0 })
      (sorted_each xs ids (All-tail (StandsWithin (theory_at s) nodes) i.0 (numbers ids) within) bare.1 kinds.1 sorts.1)

  -- the variables of a pattern with such values
  module _ (accepted : IsBuiltAndAccepted s) (lawful : IsLawful (terms_over s)) (p : Tree) (bare : IsBare (terms_over s) p) (ids : List TermId) (are : AreValuesFor s nodes p (numbers ids))
      (xs : List VarId) (same : map variable_of xs ≡ variables p) where
    each_bare : HoldsAtEach OfBare (variables p) (trees_at nodes (numbers ids))
    each_bare = values_are_bare s p bare (trees_at nodes (numbers ids)) (trees_long nodes ids ∙ (sym (long_numbers ids) ∙ are.one_each)) are.bare

    kinds : HaveKinds s (variables p) (trees_at nodes (numbers ids))
    kinds = have_kinds s accepted lawful (variables p) (trees_at nodes (numbers ids)) (each_value lawful (variables p) ids are.within each_bare) are.sorts

    pub sorted_values : All (IsSortedValue s nodes) (zip xs ids)
    sorted_values =
        sorted_each xs ids are.within (subst (λ zs. HoldsAtEach OfBare zs (trees_at nodes (numbers ids))) (sym same) each_bare)
        (subst (λ zs. HaveKinds s zs (trees_at nodes (numbers ids))) (sym same) kinds) (subst (λ zs. HaveSorts (BySort s []) zs (trees_at nodes (numbers ids))) (sym same) are.sorts)

    pub bound_variables : map (λ (b : VarId × TermId). variable_of b.0) (zip xs ids) ≡ variables p
    bound_variables = variables_zipped xs ids (sym (long_numbers ids) ∙ (are.one_each ∙ (sym (ap length same) ∙ long xs))) ∙ same

    pub bound_binding : binding_in nodes (zip xs ids) ≡ zip (variables p) (trees_at nodes (numbers ids))
    bound_binding = binding_zipped nodes xs ids ∙ ap (λ zs. zip zs (trees_at nodes (numbers ids))) same
