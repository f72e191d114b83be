-- Variables with their values, in two lists.
use Rattle.std.proofs.Common.{◌≡◌, ◌∷◌, [], List, length, map, All, refl, sym, ap, ap₂, ◌∙◌, subst}
use Rattle.std.proofs.lemmas.List.{length-map}
use Rattle.std.proofs.lemmas.List.Elements.{All-nil, All-cons, All-head, All-tail}
use Rattle.mau_terms.specs.Solution.{HaveSorts}
use Rattle.mau_terms.specs.View.{variable_of}
use Rattle.mau_terms.specs.declared.ids.VarId.{VarId}
use Rattle.mau_terms.specs.declared.ids.TermId.{TermId}
use Rattle.mau_signature.specs.Signature.{SignatureOf, theory_at}
use Rattle.mau_store.specs.Node.{Node}
use Rattle.mau_store.specs.Trees.{tree_at, trees_at}
use Rattle.mau_store.specs.View.{numbers}
use Rattle.mau_sorts.specs.Table.{Table}
use Rattle.mau_listing.specs.Asked.{HasEntry}
use Rattle.mau_canon.specs.Standing.{StandsWithin, StandWithin}
use Rattle.mau_api.specs.Answers.{binding_in, IsValueOf}
use Rattle.mau_reduce.specs.declared.binding.Binding.{Binding as Kept}
use Rattle.mau_reduce.specs.Bindings.{paired, bound_in, HaveKinds, AreValues}

abbrev pub firsts : List (VarId × TermId) → List VarId
firsts bound = map (λ (b : VarId × TermId). b.0) bound

abbrev pub seconds : List (VarId × TermId) → List TermId
seconds bound = map (λ (b : VarId × TermId). b.1) bound

pub first_names : (bound : List (VarId × TermId)) → map variable_of (firsts bound) ≡ map (λ (b : VarId × TermId). variable_of b.0) bound
first_names [] = refl
first_names (b ∷ bs) = ap (λ xs. variable_of b.0 ∷ xs) (first_names bs)

pub binding_parted : (nodes : List Node) (bound : List (VarId × TermId)) → paired (map variable_of (firsts bound)) (trees_at nodes (numbers (seconds bound))) ≡ binding_in nodes bound
binding_parted nodes [] = refl
binding_parted nodes (b ∷ bs) = ap (λ xs. (variable_of b.0, tree_at nodes b.1.0) ∷ xs) (binding_parted nodes bs)

pub bound_parted : (nodes : List Node) (bound : List (VarId × TermId)) (kept : Kept) → kept.variables.items ≡ firsts bound → kept.values.items ≡ seconds bound → bound_in nodes kept ≡ binding_in nodes bound
bound_parted nodes bound kept e h = ap₂ (λ (xs : List VarId) (ids : List TermId). paired (map variable_of xs) (trees_at nodes (numbers ids))) e h ∙ binding_parted nodes bound

module _ (s : SignatureOf) (nodes : List Node) (table : Table) where
  within_parted : (bound : List (VarId × TermId)) → All (IsValueOf s nodes table) bound → StandWithin (theory_at s) nodes (numbers (seconds bound))
  within_parted [] h = All-nil (StandsWithin (theory_at s) nodes)
  within_parted (b ∷ bs) h =
      All-cons (StandsWithin (theory_at s) nodes) b.1.0 (numbers (seconds bs)) (All-head (IsValueOf s nodes table) b bs h).term.within (within_parted bs (All-tail (IsValueOf s nodes table) b bs h))

  kinds_parted : (bound : List (VarId × TermId)) → All (IsValueOf s nodes table) bound → HaveKinds s (map variable_of (firsts bound)) (trees_at nodes (numbers (seconds bound)))
  kinds_parted [] h = tt
  kinds_parted (b ∷ bs) h = ((All-head (IsValueOf s nodes table) b bs h).kind, kinds_parted bs (All-tail (IsValueOf s nodes table) b bs h))

  pub sorts_parted : (bound : List (VarId × TermId)) → All (IsValueOf s nodes table) bound → HaveSorts (HasEntry s nodes table) (map variable_of (firsts bound)) (trees_at nodes (numbers (seconds bound)))
  sorts_parted [] h = tt
  sorts_parted (b ∷ bs) h = ((All-head (IsValueOf s nodes table) b bs h).sort, sorts_parted bs (All-tail (IsValueOf s nodes table) b bs h))

  pub values_parted : (bound : List (VarId × TermId)) → All (IsValueOf s nodes table) bound → (kept : Kept) → kept.variables.items ≡ firsts bound → kept.values.items ≡ seconds bound → AreValues s nodes kept
  values_parted bound h kept e k = record {
    one_each = ap length k ∙ (length-map bound (λ (b : VarId × TermId). b.1) ∙ sym (ap length e ∙ length-map bound (λ (b : VarId × TermId). b.0)));
    within = subst (λ (ids : List TermId). StandWithin (theory_at s) nodes (numbers ids)) (sym k) (within_parted bound h);
    kinds = subst (λ (xs : List VarId). HaveKinds s (map variable_of xs) (trees_at nodes (numbers kept.values.items))) (sym e)
        (subst (λ (ids : List TermId). HaveKinds s (map variable_of (firsts bound)) (trees_at nodes (numbers ids))) (sym k) (kinds_parted bound h));
  }
