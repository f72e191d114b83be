-- Bindings in two lists, and as pairs.
use Rattle.std.proofs.Common.{◌≡◌, List, [], ◌∷◌, All, length, map, refl, ap, arith}
use Rattle.std.proofs.lemmas.List.Elements.{All-head, All-tail, All-nil, All-cons}
use Rattle.std.specs.List.{zip}
use Rattle.mau_terms.specs.Tree.{Tree}
use Rattle.mau_terms.specs.Subst.{Variable}
use Rattle.mau_terms.specs.Solution.{HaveSorts}
use Rattle.mau_terms.specs.View.{variable_of}
use Rattle.mau_terms.specs.declared.ids.VarId.{VarId}
use Rattle.mau_terms.specs.declared.ids.TermId.{TermId}
use Rattle.mau_signature.specs.Signature.{SignatureOf, theory_at}
use Rattle.mau_store.specs.Node.{Node}
use Rattle.mau_store.specs.Trees.{tree_at, trees_at}
use Rattle.mau_store.specs.View.{numbers}
use Rattle.mau_canon.specs.Standing.{StandsWithin, StandWithin}
use Rattle.mau_sorts.specs.Table.{Table}
use Rattle.mau_listing.specs.Asked.{HasEntry}
use Rattle.mau_evaluation.specs.Evaluation.{Binding}
use Rattle.mau_api.specs.Answers.{IsValueOf, binding_in}
use Rattle.mau_reduce.specs.Bindings.{paired, HaveKinds}

pub pairs_bound : (nodes : List Node) (xs : List VarId) (vs : List TermId) → binding_in nodes (zip xs vs) ≡ paired (map variable_of xs) (trees_at nodes (numbers vs))
pairs_bound nodes [] vs = refl
pairs_bound nodes (x ∷ xs) [] = refl
pairs_bound nodes (x ∷ xs) (v ∷ vs) = ap (λ (σ : Binding). let e : Variable × Tree = (variable_of x, tree_at nodes v.0) in e ∷ σ) (pairs_bound nodes xs vs)

pub variables_paired : (xs : List VarId) (vs : List TermId) → length xs ≡ length vs → map (λ (y : VarId × TermId). variable_of y.0) (zip xs vs) ≡ map variable_of xs
variables_paired [] vs n = refl
variables_paired (x ∷ xs) [] n = absurd (omega (arith, n))
variables_paired (x ∷ xs) (v ∷ vs) n = ap (λ ys. variable_of x ∷ ys) (variables_paired xs vs (omega (arith, n)))

module _ (s : SignatureOf) (nodes : List Node) (table : Table) where
  pub values_paired : (xs : List VarId) (vs : List TermId) → StandWithin (theory_at s) nodes (numbers vs) → HaveKinds s (map variable_of xs) (trees_at nodes (numbers vs)) →
      HaveSorts (HasEntry s nodes table) (map variable_of xs) (trees_at nodes (numbers vs)) → All (IsValueOf s nodes table) (zip xs vs)
  values_paired [] vs within kinds sorts = All-nil (IsValueOf s nodes table)
  values_paired (x ∷ xs) [] within kinds sorts = All-nil (IsValueOf s nodes table)
  values_paired (x ∷ xs) (v ∷ vs) within kinds sorts =
      All-cons (IsValueOf s nodes table) (x, v) (zip xs vs) (record {
        term = record { within = All-head (StandsWithin (theory_at s) nodes) v.0 (numbers vs) within; bare = (_, kinds.0) };
        kind = kinds.0;
        sort = sorts.0;
      })
      (values_paired xs vs (All-tail (StandsWithin (theory_at s) nodes) v.0 (numbers vs) within) kinds.1 sorts.1)

  pub paired_within : (xs : List VarId) (vs : List TermId) → length xs ≡ length vs → All (IsValueOf s nodes table) (zip xs vs) → StandWithin (theory_at s) nodes (numbers vs)
  paired_within [] [] n h = All-nil (StandsWithin (theory_at s) nodes)
  paired_within [] (v ∷ vs) n h = absurd (omega (arith, n))
  paired_within (x ∷ xs) [] n h = absurd (omega (arith, n))
  paired_within (x ∷ xs) (v ∷ vs) n h =
      All-cons (StandsWithin (theory_at s) nodes) v.0 (numbers vs) (All-head (IsValueOf s nodes table) (x, v) (zip xs vs) h).term.within
      (paired_within xs vs (omega (arith, n)) (All-tail (IsValueOf s nodes table) (x, v) (zip xs vs) h))

  pub paired_kinds : (xs : List VarId) (vs : List TermId) → length xs ≡ length vs → All (IsValueOf s nodes table) (zip xs vs) → HaveKinds s (map variable_of xs) (trees_at nodes (numbers vs))
  paired_kinds [] vs n h = tt
  paired_kinds (x ∷ xs) [] n h = absurd (omega (arith, n))
  paired_kinds (x ∷ xs) (v ∷ vs) n h =
      ((All-head (IsValueOf s nodes table) (x, v) (zip xs vs) h).kind, paired_kinds xs vs (omega (arith, n)) (All-tail (IsValueOf s nodes table) (x, v) (zip xs vs) h))

  pub paired_sorts : (xs : List VarId) (vs : List TermId) → length xs ≡ length vs → All (IsValueOf s nodes table) (zip xs vs) → HaveSorts (HasEntry s nodes table) (map variable_of xs) (trees_at nodes (numbers vs))
  paired_sorts [] vs n h = tt
  paired_sorts (x ∷ xs) [] n h = absurd (omega (arith, n))
  paired_sorts (x ∷ xs) (v ∷ vs) n h =
      ((All-head (IsValueOf s nodes table) (x, v) (zip xs vs) h).sort, paired_sorts xs vs (omega (arith, n)) (All-tail (IsValueOf s nodes table) (x, v) (zip xs vs) h))
