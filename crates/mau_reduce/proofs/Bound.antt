-- Values of variables, by bindings and by numbers of a store.
use Rattle.std.proofs.Common.{◌≡◌, ℕ, List, [], ◌∷◌, Bool, true, false, if◌then◌else◌, map, refl, sym, ap, ◌∙◌, subst}
use Rattle.mau_terms.specs.Tree.{Tree, variable, numeral, apply, Trees, no_trees, tree}
use Rattle.mau_terms.specs.Norm.{norm}
use Rattle.mau_terms.specs.Bare.{TermSignature, IsBareIn, AreBareIn, IsLawful}
use Rattle.mau_terms.specs.Reading.{reading}
use Rattle.mau_terms.specs.Laws.{AreNorms}
use Rattle.mau_terms.specs.Subst.{Variable, same_variable, value_at, instance, instances}
use Rattle.mau_terms.specs.Solution.{HaveSorts}
use Rattle.mau_terms.specs.declared.theory.Theory.{Theory}
use Rattle.mau_terms.proofs.Solutions.{instances_by_norms}
use Rattle.mau_terms.proofs.Variables.{same-is}
use Rattle.mau_signature.specs.Signature.{SignatureOf, theory_at, terms_over}
use Rattle.mau_evaluation.specs.Evaluation.{look_up}
use Rattle.mau_evaluation.proofs.BareTerms.{instance_same, norms-readings}
use Rattle.mau_evaluation.proofs.Listed.{value_norms}
use Rattle.mau_reduce.specs.Bindings.{paired, HaveKinds}
use Rattle.mau_reduce.proofs.KindsKept.{kind_of_norm}

-- a binding gives the value at the place of a variable
pub looked_up : (xs : List Variable) (vs : List Tree) (x : Variable) → look_up (paired xs vs) x ≡ value_at xs vs x
looked_up [] vs x = refl
looked_up (y ∷ ys) [] x = refl
looked_up (y ∷ ys) (v ∷ vs) x = ap (λ t. if same_variable y x then v else t) (looked_up ys vs x)

pub instance_bound : (xs : List Variable) (vs : List Tree) (t : Tree) → instance (value_at xs vs) t ≡ instance (look_up (paired xs vs)) t
instance_bound xs vs t = instance_same (value_at xs vs) (look_up (paired xs vs)) (λ x. sym (looked_up xs vs x)) t

-- ---- instances by values of the kinds of the variables

module _ (s : TermSignature) (R : Tree → Tree) where
  abbrev Fit : List Variable → List Tree → Type 0
  Fit xs vs = HaveSorts (λ r v. IsBareIn s (R v) (s.kind_of r)) xs vs

  value_kind : (xs : List Variable) (vs : List Tree) → Fit xs vs → (x : Variable) (k : ℕ) → IsBareIn s (variable x.0 x.1) k → IsBareIn s (value_at xs (map R vs) x) k
  value_kind [] vs fit x k b = b
  value_kind (y ∷ ys) [] fit x k b = b
  value_kind (y ∷ ys) (v ∷ vs) fit x k b = by (same_variable y x) refl (value_kind ys vs fit.1 x k b)
    where
      by : (w : Bool) → same_variable y x ≡ w → IsBareIn s (value_at ys (map R vs) x) k → IsBareIn s (if w then R v else value_at ys (map R vs) x) k
      by true e rest = subst (IsBareIn s (R v)) (ap (λ (z : Variable). s.kind_of z.1) (same-is y x e) ∙ b.2) fit.0
      by false e rest = rest

  mutual
    instance_kind : (g : Variable → Tree) → ((x : Variable) (k : ℕ) → IsBareIn s (variable x.0 x.1) k → IsBareIn s (g x) k) → (t : Tree) (k : ℕ) → IsBareIn s t k → IsBareIn s (instance g t) k
    instance_kind g h (variable i r) k b = h (i, r) k b
    instance_kind g h (numeral n) k b = b
    instance_kind g h (apply f ts) k b = (b.0, b.1, instances_kind g h ts (s.arguments f) b.2)

    instances_kind : (g : Variable → Tree) → ((x : Variable) (k : ℕ) → IsBareIn s (variable x.0 x.1) k → IsBareIn s (g x) k) → (ts : Trees) (ks : List ℕ) → AreBareIn s ts ks → AreBareIn s (instances g ts) ks
    instances_kind g h no_trees [] b = b
    instances_kind g h no_trees (k ∷ ks) b = b
    instances_kind g h (tree t ts) [] b = b
    instances_kind g h (tree t ts) (k ∷ ks) b = (instance_kind g h t k b.0, instances_kind g h ts ks b.1)

module _ (s : SignatureOf) (lawful : IsLawful (terms_over s)) (xs : List Variable) (vs : List Tree) (norms : AreNorms (theory_at s) vs) where
  abbrev th : ℕ → Theory
  th = theory_at s

  -- values that are read as bare terms give an instance with the same normal form
  pub instance_read : (t : Tree) → norm th (instance (value_at xs vs) t) ≡ norm th (instance (value_at xs (map (reading th) vs)) t)
  instance_read t =
      instances_by_norms th (value_at xs vs) (value_at xs (map (reading th) vs))
      (λ x. sym (value_norms th lawful.theories xs (map (reading th) vs) x ∙ ap (λ ws. norm th (value_at xs ws x)) (norms-readings th lawful.theories vs norms))) t

  pub bare_instance : HaveKinds s xs vs → (t : Tree) (k : ℕ) → IsBareIn (terms_over s) t k → IsBareIn (terms_over s) (instance (value_at xs (map (reading th) vs)) t) k
  bare_instance fit t k b = instance_kind (terms_over s) (reading th) (value_at xs (map (reading th) vs)) (value_kind (terms_over s) (reading th) xs vs fit) t k b

  pub instance_of_kind : HaveKinds s xs vs → (t : Tree) (k : ℕ) → IsBareIn (terms_over s) t k → IsBareIn (terms_over s) (reading th (norm th (instance (value_at xs vs) t))) k
  instance_of_kind fit t k b =
      subst (λ u. IsBareIn (terms_over s) (reading th u) k) (sym (instance_read t))
      (kind_of_norm (terms_over s) lawful (instance (value_at xs (map (reading th) vs)) t) k (bare_instance fit t k b))
