-- Instances by values of the kinds of their variables are terms.
use Rattle.std.proofs.Common.{◌≡◌, ℕ, List, [], ◌∷◌, Bool, true, false, if◌then◌else◌, Option, Some, None, All, map, slice_get, refl, sym, ap, ◌∙◌, subst}
use Rattle.std.specs.Prelude.{suc, zero}
use Rattle.std.proofs.lemmas.List.Elements.{All-head, All-tail}
use Rattle.mau_terms.specs.Tree.{Tree, variable, numeral, apply, Trees, no_trees, tree}
use Rattle.mau_terms.specs.Norm.{norm}
use Rattle.mau_terms.specs.Bare.{TermSignature, IsBareIn, AreBareIn, IsBare, IsLawful}
use Rattle.mau_terms.specs.Reading.{reading}
use Rattle.mau_terms.specs.Laws.{AreNorms}
use Rattle.mau_terms.specs.Subst.{Variable, same_variable, value_at, instance, instances}
use Rattle.mau_terms.specs.Solution.{HaveSorts}
use Rattle.mau_terms.specs.View.{tree_of, variable_of}
use Rattle.mau_terms.specs.declared.bare.Bare.{Bare}
use Rattle.mau_terms.specs.declared.ids.VarId.{VarId}
use Rattle.mau_terms.specs.declared.ids.TermId.{TermId}
use Rattle.mau_terms.specs.declared.theory.Theory.{Theory}
use Rattle.mau_terms.proofs.Chains.{last_bare}
use Rattle.mau_terms.proofs.Law.{equal_norm, equal_reading}
use Rattle.mau_terms.proofs.Taken.{equal_kind}
use Rattle.mau_terms.proofs.Solutions.{instances_by_norms}
use Rattle.mau_terms.proofs.Variables.{same-is}
use Rattle.mau_signature.specs.Signature.{SignatureOf, theory_at, terms_over}
use Rattle.mau_store.specs.Node.{Node}
use Rattle.mau_store.specs.Trees.{trees_at}
use Rattle.mau_store.specs.View.{numbers}
use Rattle.mau_canon.specs.Values.{values_in}
use Rattle.mau_sorts.specs.Table.{Table}
use Rattle.mau_evaluation.proofs.BareTerms.{norms-readings}
use Rattle.mau_evaluation.proofs.Listed.{value_norms}
use Rattle.mau_program.specs.declared.statements.Fragment as Written
use Rattle.mau_program.specs.declared.statements.Fragment.TheVariants as Part
use Rattle.mau_api.specs.Answers.{IsFragment, IsValueOf}
use Rattle.mau_cond.specs.declared.stage.Stage.{Stage}
use Rattle.mau_cond.specs.declared.stage.Stage.TheVariants.{Open, First, Both, Due, Failed}
use Rattle.mau_cond.specs.Path.{term_by}

-- the reading of a normal form is of the kind of each bare term with this normal form
pub kind_of_norm : (s : TermSignature) → IsLawful s → (b : Tree) (k : ℕ) → IsBareIn s b k → IsBareIn s (reading s.theory (norm s.theory b)) k
kind_of_norm s lawful b k bare =
    let e = equal_reading s lawful b (k, bare) in
    let r = last_bare e in
    subst (IsBareIn s (reading s.theory (norm s.theory b))) (sym (equal_kind s lawful b (reading s.theory (norm s.theory b)) k r.0 bare r.1 (equal_norm s lawful e))) r.1

-- ---- instances by values of the kinds of the variables

-- each value, by its reading R, is of the kind of its variable's sort
abbrev pub HaveKinds : TermSignature → (Tree → Tree) → List Variable → List Tree → Type 0
HaveKinds s R xs vs = HaveSorts (λ r v. IsBareIn s (R v) (s.kind_of r)) xs vs

module _ (s : TermSignature) (R : Tree → Tree) where
  value_kind : (xs : List Variable) (vs : List Tree) → HaveKinds s R xs vs → (x : Variable) (k : ℕ) → IsBareIn s (variable x.0 x.1) k → IsBareIn s (value_at xs (map R vs) x) k
  value_kind [] vs fit x k b = b
  value_kind (y ∷ ys) [] fit x k b = b
  value_kind (y ∷ ys) (v ∷ vs) fit x k b = by (same_variable y x) refl (value_kind ys vs fit.1 x k b)
    where
      by : (w : Bool) → same_variable y x ≡ w → IsBareIn s (value_at ys (map R vs) x) k → IsBareIn s (if w then R v else value_at ys (map R vs) x) k
      by true e rest = subst (IsBareIn s (R v)) (ap (λ (z : Variable). s.kind_of z.1) (same-is y x e) ∙ b.2) fit.0
      by false e rest = rest

  mutual
    instance_kind : (g : Variable → Tree) → ((x : Variable) (k : ℕ) → IsBareIn s (variable x.0 x.1) k → IsBareIn s (g x) k) → (t : Tree) (k : ℕ) → IsBareIn s t k → IsBareIn s (instance g t) k
    instance_kind g h (variable i r) k b = h (i, r) k b
    instance_kind g h (numeral n) k b = b
    instance_kind g h (apply f ts) k b = (b.0, b.1, instances_kind g h ts (s.arguments f) b.2)

    instances_kind : (g : Variable → Tree) → ((x : Variable) (k : ℕ) → IsBareIn s (variable x.0 x.1) k → IsBareIn s (g x) k) → (ts : Trees) (ks : List ℕ) → AreBareIn s ts ks → AreBareIn s (instances g ts) ks
    instances_kind g h no_trees [] b = b
    instances_kind g h no_trees (k ∷ ks) b = b
    instances_kind g h (tree t ts) [] b = b
    instances_kind g h (tree t ts) (k ∷ ks) b = (instance_kind g h t k b.0, instances_kind g h ts ks b.1)

module _ (s : SignatureOf) (lawful : IsLawful (terms_over s)) (xs : List Variable) (vs : List Tree) (norms : AreNorms (theory_at s) vs) where
  abbrev th : ℕ → Theory
  th = theory_at s

  -- values that are read as bare terms give an instance with the same normal form
  instance_read : (t : Tree) → norm th (instance (value_at xs vs) t) ≡ norm th (instance (value_at xs (map (reading th) vs)) t)
  instance_read t =
      instances_by_norms th (value_at xs vs) (value_at xs (map (reading th) vs))
      (λ x. sym (value_norms th lawful.theories xs (map (reading th) vs) x ∙ ap (λ ws. norm th (value_at xs ws x)) (norms-readings th lawful.theories vs norms))) t

  pub instance_of_kind : HaveKinds (terms_over s) (reading th) xs vs → (t : Tree) (k : ℕ) → IsBareIn (terms_over s) t k →
      IsBareIn (terms_over s) (reading th (norm th (instance (value_at xs vs) t))) k
  instance_of_kind fit t k b =
      subst (λ u. IsBareIn (terms_over s) (reading th u) k) (sym (instance_read t))
      (kind_of_norm (terms_over s) lawful (instance (value_at xs (map (reading th) vs)) t) k
      (instance_kind (terms_over s) (reading th) (value_at xs (map (reading th) vs)) (value_kind (terms_over s) (reading th) xs vs fit) t k b))

-- ---- by bound values

module _ (s : SignatureOf) (nodes : List Node) (table : Table) where
  abbrev Values : List (VarId × TermId) → Type 0
  Values bound = All (IsValueOf s nodes table) bound

  norms_bound : (bound : List (VarId × TermId)) → Values bound → AreNorms (theory_at s) (trees_at nodes (numbers (map (λ b. b.1) bound)))
  norms_bound [] h = tt
  norms_bound (b ∷ bound) h = ((All-head (IsValueOf s nodes table) b bound h).term.within.normal, norms_bound bound (All-tail (IsValueOf s nodes table) b bound h))

  kinds_bound : (bound : List (VarId × TermId)) → Values bound →
      HaveKinds (terms_over s) (reading (theory_at s)) (map variable_of (map (λ b. b.0) bound)) (trees_at nodes (numbers (map (λ b. b.1) bound)))
  kinds_bound [] h = tt
  kinds_bound (b ∷ bound) h = ((All-head (IsValueOf s nodes table) b bound h).kind, kinds_bound bound (All-tail (IsValueOf s nodes table) b bound h))

  pub instance_bare : IsLawful (terms_over s) → (bound : List (VarId × TermId)) → Values bound → (t : Tree) → IsBare (terms_over s) t →
      IsBare (terms_over s) (reading (theory_at s) (norm (theory_at s) (instance (values_in nodes (map (λ b. b.0) bound) (map (λ b. b.1) bound)) t)))
  instance_bare lawful bound h t b =
      (b.0, instance_of_kind s lawful (map variable_of (map (λ x. x.0) bound)) (trees_at nodes (numbers (map (λ x. x.1) bound))) (norms_bound bound h) (kinds_bound bound h) t b.0 b.1)

-- the terms of fragments are bare
pub term_bare : (s : SignatureOf) (cond : List Written.Fragment) (i : ℕ) (k : Stage) (t : Bare) → All (IsFragment s) cond → term_by k (slice_get cond i) ≡ Some t → IsBare (terms_over s) (tree_of t)
term_bare s cond i k t h e = by cond i h (slice_get cond i) refl e
  where
    bare_is : (x : Bare) → Some x ≡ Some t → IsBare (terms_over s) (tree_of x) → IsBare (terms_over s) (tree_of t)
    bare_is x e b = let P : Bare → Type 0 = λ z. IsBare (terms_over s) (tree_of z) in let q : x ≡ t = cc in subst P q b

    found : (cond : List Written.Fragment) (i : ℕ) → All (IsFragment s) cond → (f : Written.Fragment) → slice_get cond i ≡ Some f → IsFragment s f
    found [] i h f q = cc
    found (x ∷ cond) zero h f q = let r : x ≡ f = cc in subst (IsFragment s) r (All-head (IsFragment s) x cond h)
    found (x ∷ cond) (suc i) h f q = found cond i (All-tail (IsFragment s) x cond h) f q

    of : (k : Stage) (f : Written.Fragment) → IsFragment s f → term_by k (Some f) ≡ Some t → IsBare (terms_over s) (tree_of t)
    of Open (Part.Equal x y) h e = bare_is x e h.0
    of Open (Part.Match x y) h e = bare_is y e h.1
    of Open (Part.Sort x y) h e = bare_is x e h.0
    of Open (Part.Reach x y) h e = absurd h
    of (First v) (Part.Equal x y) h e = bare_is y e h.1
    of (First v) (Part.Match x y) h e = cc
    of (First v) (Part.Sort x y) h e = cc
    of (First v) (Part.Reach x y) h e = cc
    of (Both v w) f h e = cc
    of (Due z) f h e = cc
    of Failed f h e = cc

    none : (k : Stage) → term_by k None ≡ Some t → IsBare (terms_over s) (tree_of t)
    none Open e = cc
    none (First v) e = cc
    none (Both v w) e = cc
    none (Due z) e = cc
    none Failed e = cc

    by : (cond : List Written.Fragment) (i : ℕ) → All (IsFragment s) cond → (o : Option Written.Fragment) → slice_get cond i ≡ o → term_by k (slice_get cond i) ≡ Some t → IsBare (terms_over s) (tree_of t)
    by cond i h None q e = none k (subst (λ o. term_by k o ≡ Some t) q e)
    by cond i h (Some f) q e = of k f (found cond i h f q) (subst (λ o. term_by k o ≡ Some t) q e)
