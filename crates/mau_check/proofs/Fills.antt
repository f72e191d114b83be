-- A term in the hole of a context: only the normal forms of both matter.
use Rattle.std.proofs.Common.{◌≡◌, ℕ, List, [], ◌∷◌, map, Bool, true, false, refl, sym, ap, ap₂, ◌∙◌, subst}
use Rattle.std.specs.Prelude.{All}
use Rattle.std.proofs.lemmas.List.Elements.{All-nil, All-cons}
use Rattle.mau_terms.specs.Tree.{Tree, variable, numeral, apply, Trees, no_trees, tree, node, trees_of}
use Rattle.mau_terms.specs.Norm.{build, norm, unit_tree}
use Rattle.mau_terms.specs.Reading.{nest, nest_from, reading}
use Rattle.mau_terms.specs.Axioms.{Axiom, associativity, commutativity, left_identity, right_identity, successor_of_numeral, AxiomStep, left_to_right, right_to_left, under_operator, AxiomStepIn, in_first, in_later}
use Rattle.mau_terms.specs.Lawful.{AreLawful}
use Rattle.mau_terms.specs.Bare.{TermSignature, IsBare, EqualModulo, same_term, one_step, IsLawful}
use Rattle.mau_terms.specs.Subst.{Variable, instance, instances}
use Rattle.mau_terms.specs.declared.theory.Identity.{Identity}
use Rattle.mau_terms.specs.declared.theory.Identity.TheVariants.{Const, Num}
use Rattle.mau_terms.specs.declared.theory.Theory.{Theory}
use Rattle.mau_terms.proofs.Pieces.{Each}
use Rattle.mau_terms.proofs.Induction.{tree_ind, norm-node, instance-node}
use Rattle.mau_terms.proofs.Law.{equal_reading}
use Rattle.mau_terms.proofs.Normal.{norm-norm}
use Rattle.mau_terms.proofs.Solutions.{instances_by_norms}
use Rattle.mau_terms.proofs.Steps.{step_norm}
use Rattle.mau_signature.specs.Signature.{SignatureOf, theory_at, terms_over}
use Rattle.mau_canon.specs.Within.{IsWithin, IsCause}
use Rattle.mau_canon.proofs.Depths.{arguments_are_within}
use Rattle.mau_canon.proofs.Nesting.{readings_each}
use Rattle.mau_canon.proofs.Standing.{list_stands_for_nested, map-norm-norm}
use Rattle.mau_api.specs.Terms.{fill, filler}
use Rattle.mau_logic.proofs.Instances.{filler_norms}

-- ---- instances of equal terms

module _ (th : ℕ → Theory) (g : Variable → Tree) where
  unit_stays : (i : Identity) → instance g (unit_tree i) ≡ unit_tree i
  unit_stays (Const c) = refl
  unit_stays (Num n) = refl

  axiom_instance : {t u : Tree} → Axiom th t u → Axiom th (instance g t) (instance g u)
  axiom_instance (associativity f t u v a) = associativity f (instance g t) (instance g u) (instance g v) a
  axiom_instance (commutativity f t u a) = commutativity f (instance g t) (instance g u) a
  axiom_instance (left_identity f i t e) = subst (λ z. Axiom th (apply f (tree z (tree (instance g t) no_trees))) (instance g t)) (sym (unit_stays i)) (left_identity f i (instance g t) e)
  axiom_instance (right_identity f i t e) = subst (λ z. Axiom th (apply f (tree (instance g t) (tree z no_trees))) (instance g t)) (sym (unit_stays i)) (right_identity f i (instance g t) e)
  axiom_instance (successor_of_numeral f n a l) = successor_of_numeral f n a l

  mutual
    step_instance : {t u : Tree} → AxiomStep th t u → AxiomStep th (instance g t) (instance g u)
    step_instance (left_to_right x) = left_to_right (axiom_instance x)
    step_instance (right_to_left x) = right_to_left (axiom_instance x)
    step_instance (under_operator f x) = under_operator f (step_instances x)

    step_instances : {ts us : Trees} → AxiomStepIn th ts us → AxiomStepIn th (instances g ts) (instances g us)
    step_instances (in_first ts x) = in_first (instances g ts) (step_instance x)
    step_instances (in_later t x) = in_later (instance g t) (step_instances x)

module _ (s : TermSignature) (lawful : IsLawful s) (g : Variable → Tree) where
  equal_instances : {t u : Tree} → EqualModulo s t u → norm s.theory (instance g t) ≡ norm s.theory (instance g u)
  equal_instances (same_term b) = refl
  equal_instances (one_step {t = t} {u = u} b x q) = step_norm s.theory lawful.theories (instance g t) (instance g u) (step_instance s.theory g x) ∙ equal_instances q

-- ---- instances of normal forms, and of what they are as bare terms

module _ (th : ℕ → Theory) (lawful : AreLawful th) where
  -- an operator over equal terms
  pub node_norms : (f : ℕ) (ts us : List Tree) → map (norm th) ts ≡ map (norm th) us → norm th (node f ts) ≡ norm th (node f us)
  node_norms f ts us e = norm-node th f ts ∙ ap (build (th f) f) e ∙ sym (norm-node th f us)

  pub node_of_norms : (f : ℕ) (ts : List Tree) → norm th (node f (map (norm th) ts)) ≡ norm th (node f ts)
  node_of_norms f ts = node_norms f (map (norm th) ts) ts (map-norm-norm th lawful ts)

  pub all_own : (ts : List Tree) → All (λ t. norm th t ≡ t) (map (norm th) ts)
  all_own [] = All-nil (λ t. norm th t ≡ t)
  all_own (t ∷ ts) = All-cons (λ t. norm th t ≡ t) (norm th t) (map (norm th) ts) (norm-norm th lawful t) (all_own ts)

  -- terms under an operator are within the limits where it is
  pub under_within : (f : ℕ) (ts : List Tree) → IsWithin th (norm th (node f ts)) → All (IsWithin th) (map (norm th) ts)
  under_within f ts w = arguments_are_within th lawful f (map (norm th) ts) (all_own ts) (subst (IsWithin th) (sym (node_of_norms f ts)) w)

  module _ (g : Variable → Tree) where
    nest_from_instance : (f : ℕ) (t : Tree) (ts : List Tree) → instance g (nest_from f t ts) ≡ nest_from f (instance g t) (map (instance g) ts)
    nest_from_instance f t [] = refl
    nest_from_instance f t (u ∷ us) = ap (λ w. apply f (tree (instance g t) (tree w no_trees))) (nest_from_instance f u us)

    nest_instance : (a : Bool) (f : ℕ) (ts : List Tree) → instance g (nest a f ts) ≡ nest a f (map (instance g) ts)
    nest_instance false f ts = instance-node g f ts
    nest_instance true f [] = refl
    nest_instance true f (t ∷ ts) = nest_from_instance f t ts

    each_reading : (ts : List Tree) → Each (λ t. norm th (instance g (reading th t)) ≡ norm th (instance g t)) ts → map (norm th) (map (instance g) (map (reading th) ts)) ≡ map (norm th) (map (instance g) ts)
    each_reading [] h = refl
    each_reading (t ∷ ts) h = ap₂ (λ v vs. v ∷ vs) h.0 (each_reading ts h.1)

    reading_instance : (t : Tree) → norm th (instance g (reading th t)) ≡ norm th (instance g t)
    reading_instance =
        tree_ind (λ t. norm th (instance g (reading th t)) ≡ norm th (instance g t)) (λ i r. refl) (λ n. refl)
        (λ f ts h.
        ap (λ us. norm th (instance g (nest (th f).assoc f us))) (readings_each th ts)
        ∙ ap (norm th) (nest_instance (th f).assoc f (map (reading th) ts))
        ∙ sym (list_stands_for_nested th lawful f (map (instance g) (map (reading th) ts)))
        ∙ ap (λ us. norm th (node f us)) (each_reading ts h)
        ∙ node_of_norms f (map (instance g) ts)
        ∙ ap (norm th) (sym (instance-node g f ts)))

-- ---- contexts

module _ (s : SignatureOf) (lawful : IsLawful (terms_over s)) where
  -- the instance of a bare term and that of its normal form
  norm_instance : (g : Variable → Tree) (t : Tree) → IsBare (terms_over s) t → norm (theory_at s) (instance g t) ≡ norm (theory_at s) (instance g (norm (theory_at s) t))
  norm_instance g t b = equal_instances (terms_over s) lawful g (equal_reading (terms_over s) lawful t b) ∙ reading_instance (theory_at s) lawful.theories g (norm (theory_at s) t)

  pub fill_of_norms : (c u : Tree) → IsBare (terms_over s) c → norm (theory_at s) (fill c u) ≡ norm (theory_at s) (fill (norm (theory_at s) c) (norm (theory_at s) u))
  fill_of_norms c u b =
      norm_instance (filler u) c b
      ∙ instances_by_norms (theory_at s) (filler u) (filler (norm (theory_at s) u)) (filler_norms (theory_at s) u (norm (theory_at s) u) (sym (norm-norm (theory_at s) lawful.theories u))) (norm (theory_at s) c)

pub fill_node : (f : ℕ) (ts : List Tree) (u : Tree) → fill (node f ts) u ≡ node f (map (λ t. fill t u) ts)
fill_node f ts u = instance-node (filler u) f ts
