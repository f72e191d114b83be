-- Instances in contexts, by numbers.
use Rattle.std.proofs.Common.{◌≡◌, ◌↔◌, ℕ, List, [], ◌∷◌, refl, sym, ap, ◌∙◌, subst, map}
use Rattle.mau_terms.specs.Tree.{Tree}
use Rattle.mau_terms.specs.Norm.{norm}
use Rattle.mau_terms.specs.Bare.{IsBare, IsBareIn, EqualModulo, IsLawful}
use Rattle.mau_terms.specs.Subst.{Variable, instance, value_at}
use Rattle.mau_terms.specs.Solution.{HaveSorts}
use Rattle.mau_terms.proofs.Law.{equal_norm, norm_equal}
use Rattle.mau_terms.proofs.Normal.{norm-norm}
use Rattle.mau_terms.proofs.Solutions.{instances_by_norms}
use Rattle.mau_terms.proofs.Taken.{one_kind}
use Rattle.mau_poset.specs.Order.{kind_of}
use Rattle.mau_signature.specs.Signature.{SignatureOf, theory_at, terms_over}
use Rattle.mau_store.specs.Node.{Node, AreNodes, IsOf, Extends}
use Rattle.mau_store.specs.Trees.{tree_at, StandsFor}
use Rattle.mau_store.proofs.Numbers.{one_number}
use Rattle.mau_canon.specs.Within.{IsWithin}
use Rattle.mau_canon.proofs.Standing.{map-norm-norm}
use Rattle.mau_api.specs.Terms.{IsBareWithin, fill, holes, IsContextFor}
use Rattle.mau_logic.proofs.Instances.{instance_in, have_values, value_norms}
use Rattle.mau_logic.proofs.Fitted.{fill_bare}
use Rattle.mau_logic.proofs.BuiltSteps.{hole_within}
use Rattle.mau_terms.specs.declared.ids.TermId.{TermId}
use Rattle.mau_terms.specs.declared.ids.VarId.{VarId}
use Rattle.mau_store.specs.Trees.{trees_at}
use Rattle.mau_store.specs.View.{numbers}
use Rattle.mau_canon.specs.Values.{values_in}
use Rattle.mau_check.specs.Variables.{variables_in}
use Rattle.mau_check.proofs.Fills.{fill_of_norms}

module _ (s : SignatureOf) (lawful : IsLawful (terms_over s)) where
  -- ---- instances

  -- an instance by the normal forms of the values
  pub instance_norms : (xs : List Variable) (vs : List Tree) (t : Tree) → norm (theory_at s) (instance (value_at xs (map (norm (theory_at s)) vs)) t) ≡ norm (theory_at s) (instance (value_at xs vs) t)
  instance_norms xs vs t =
      instances_by_norms (theory_at s) (value_at xs (map (norm (theory_at s)) vs)) (value_at xs vs)
      (value_norms (theory_at s) xs (map (norm (theory_at s)) vs) vs (map-norm-norm (theory_at s) lawful.theories vs)) t

  -- by the numbers of values in a store
  pub instance_by_norms : (nodes : List Node) (ys zs : List VarId) (js is : List TermId) (vs : List Tree) (t : Tree) → ys ≡ zs → js ≡ is → trees_at nodes (numbers is) ≡ map (norm (theory_at s)) vs →
      norm (theory_at s) (instance (values_in nodes ys js) t) ≡ norm (theory_at s) (instance (value_at (variables_in zs) vs) t)
  instance_by_norms nodes ys zs js is vs t e d h =
      ap (λ xs. norm (theory_at s) (instance (value_at (variables_in xs) (trees_at nodes (numbers js))) t)) e
      ∙ ap (λ ks. norm (theory_at s) (instance (value_at (variables_in zs) (trees_at nodes (numbers ks))) t)) d
      ∙ ap (λ us. norm (theory_at s) (instance (value_at (variables_in zs) us) t)) h
      ∙ instance_norms (variables_in zs) vs t

  pub instance_bare : (xs : List Variable) (vs : List Tree) → HaveSorts (λ r v. IsBareIn (terms_over s) v (kind_of s.hierarchy r)) xs vs → (t : Tree) (k : ℕ) → IsBareIn (terms_over s) t k → IsBareIn (terms_over s) (instance (value_at xs vs) t) k
  instance_bare xs vs h t k b = instance_in (terms_over s) (value_at xs vs) (have_values (terms_over s) xs vs h) t k b

  -- ---- contexts

  -- the same context for a term of the same kind
  pub context_for : (c t u : Tree) (k : ℕ) → IsBareIn (terms_over s) t k → IsBareIn (terms_over s) u k → IsContextFor (terms_over s) t c → IsContextFor (terms_over s) u c
  context_for c t u k bt bu (j, b, e) = (j, subst (IsBareIn (terms_over s) u) (one_kind (terms_over s) t k j bt b) bu, e)

  some_hole : (t c : Tree) → IsContextFor (terms_over s) t c → holes c ≡ [] → ⊥
  some_hole t c (k, b, e) n = let d : k ∷ [] ≡ [] = sym e ∙ n in cc

  module _ (c t u w : Tree) (bc : IsBare (terms_over s) c) (context : IsContextFor (terms_over s) t c) where
    filled_bare : IsBareIn (terms_over s) u context.0 → IsBare (terms_over s) (fill c u)
    filled_bare b = (bc.0, fill_bare s lawful c t u bc.0 context b bc.1)

    -- numbers of the filled context, and of another term
    pub filled_equal : (nodes : List Node) → AreNodes nodes → (i j : ℕ) → IsBareIn (terms_over s) u context.0 → IsBare (terms_over s) w → IsOf nodes i → IsOf nodes j →
        tree_at nodes i ≡ norm (theory_at s) (fill (norm (theory_at s) c) (norm (theory_at s) u)) → tree_at nodes j ≡ norm (theory_at s) w → (i ≡ j) ↔ EqualModulo (terms_over s) w (fill c u)
    filled_equal nodes are i j bu bw p q e d = (
      (λ same. norm_equal (terms_over s) lawful w (fill c u) bw (filled_bare bu) (sym d ∙ ap (tree_at nodes) (sym same) ∙ e ∙ sym (fill_of_norms s lawful c u bc))),
      λ eq. one_number nodes are i j p q (e ∙ sym (fill_of_norms s lawful c u bc) ∙ sym (equal_norm (terms_over s) lawful eq) ∙ sym d),
    )

    -- what is equal to a term within the limits is within the limits, and so is what stands in the hole
    pub filled_within : IsBareWithin s w → EqualModulo (terms_over s) w (fill c u) → IsWithin (theory_at s) (norm (theory_at s) (fill (norm (theory_at s) c) (norm (theory_at s) u)))
    filled_within bw eq = subst (IsWithin (theory_at s)) (equal_norm (terms_over s) lawful eq ∙ fill_of_norms s lawful c u bc) bw.1

    pub part_within : IsBareWithin s w → EqualModulo (terms_over s) w (fill c u) → IsWithin (theory_at s) (norm (theory_at s) u)
    part_within bw eq = hole_within (theory_at s) lawful.theories u c (some_hole t c context) (subst (IsWithin (theory_at s)) (equal_norm (terms_over s) lawful eq) bw.1)
