-- Under free operators normal forms and readings of instances are instances.
use Rattle.std.proofs.Common.{◌≡◌, ℕ, List, ◌∷◌, Bool, true, false, ◌&&◌, not, Option, Some, None, is_some, if◌then◌else◌, map, refl, sym, ap, ap₂, ◌∙◌}
use Rattle.std.proofs.lemmas.Bool.{and_parts, not-true}
use Rattle.mau_terms.specs.Tree.{Tree, variable, numeral, apply, Trees, no_trees, tree, node, list_of}
use Rattle.mau_terms.specs.Norm.{made, build, norm, norms}
use Rattle.mau_terms.specs.Reading.{nest, reading, readings}
use Rattle.mau_terms.specs.Subst.{Variable, value_at, variables, instance, instances, with_values}
use Rattle.mau_terms.specs.Solution.{assoc_top}
use Rattle.mau_terms.specs.declared.theory.Identity.{Identity}
use Rattle.mau_terms.specs.declared.theory.Theory.{Theory}
use Rattle.mau_terms.proofs.Pieces.{trees_of-list_of}
use Rattle.mau_terms.proofs.Plain.{free_made}
use Rattle.mau_evaluation.proofs.BareTerms.{value_mapped, instance_same}
use Rattle.mau_syntactic.specs.Free.{is_free, has_free_operators, have_free_operators}

-- ---- one operator

is_none : (o : Option Identity) → not (is_some o) ≡ true → o ≡ None
is_none None e = refl
is_none (Some i) e = cc

free_assoc : (h : Theory) → is_free h ≡ true → h.assoc ≡ false
free_assoc h e = not-true h.assoc (and_parts (not h.assoc) (not h.comm && (not (is_some h.id) && not h.succ)) e).0

pub free_succ : (h : Theory) → is_free h ≡ true → h.succ ≡ false
free_succ h e =
    let a = and_parts (not h.assoc) (not h.comm && (not (is_some h.id) && not h.succ)) e in
    let b = and_parts (not h.comm) (not (is_some h.id) && not h.succ) a.1 in
    not-true h.succ (and_parts (not (is_some h.id)) (not h.succ) b.1).1

pub free_build : (h : Theory) (f : ℕ) (ts : List Tree) → is_free h ≡ true → build h f ts ≡ node f ts
free_build h f ts e =
    let a = and_parts (not h.assoc) (not h.comm && (not (is_some h.id) && not h.succ)) e in
    let b = and_parts (not h.comm) (not (is_some h.id) && not h.succ) a.1 in
    let c = and_parts (not (is_some h.id)) (not h.succ) b.1 in
    ap (λ w. made w h.comm h.id h.succ f ts) (not-true h.assoc a.0)
    ∙ ap (λ w. made false w h.id h.succ f ts) (not-true h.comm b.0)
    ∙ ap (λ w. made false false w h.succ f ts) (is_none h.id c.0)
    ∙ ap (λ w. made false false None w f ts) (not-true h.succ c.1)
    ∙ free_made f ts

-- ---- instances

module _ (th : ℕ → Theory) where
  module _ (g : Variable → Tree) where
    mutual
      norm-instance : (p : Tree) → has_free_operators th p ≡ true → norm th (instance g p) ≡ instance (λ x. norm th (g x)) p
      norm-instance (variable i s) h = refl
      norm-instance (numeral n) h = refl
      norm-instance (apply f ts) h =
          let both = and_parts (is_free (th f)) (have_free_operators th ts) h in
          ap (build (th f) f) (norms-instances ts both.1)
          ∙ free_build (th f) f (list_of (instances (λ x. norm th (g x)) ts)) both.0
          ∙ ap (apply f) (trees_of-list_of (instances (λ x. norm th (g x)) ts))

      norms-instances : (ts : Trees) → have_free_operators th ts ≡ true → norms th (instances g ts) ≡ list_of (instances (λ x. norm th (g x)) ts)
      norms-instances no_trees h = refl
      norms-instances (tree t ts) h =
          let both = and_parts (has_free_operators th t) (have_free_operators th ts) h in
          ap₂ (λ a b. a ∷ b) (norm-instance t both.0) (norms-instances ts both.1)

    mutual
      reading-instance : (p : Tree) → has_free_operators th p ≡ true → reading th (instance g p) ≡ instance (λ x. reading th (g x)) p
      reading-instance (variable i s) h = refl
      reading-instance (numeral n) h = refl
      reading-instance (apply f ts) h =
          let both = and_parts (is_free (th f)) (have_free_operators th ts) h in
          ap₂ (λ (a : Bool) (us : List Tree). nest a f us) (free_assoc (th f) both.0) (readings-instances ts both.1)
          ∙ ap (apply f) (trees_of-list_of (instances (λ x. reading th (g x)) ts))

      readings-instances : (ts : Trees) → have_free_operators th ts ≡ true → readings th (instances g ts) ≡ list_of (instances (λ x. reading th (g x)) ts)
      readings-instances no_trees h = refl
      readings-instances (tree t ts) h =
          let both = and_parts (has_free_operators th t) (have_free_operators th ts) h in
          ap₂ (λ a b. a ∷ b) (reading-instance t both.0) (readings-instances ts both.1)

  pub norm-with_values : (p : Tree) (vs : List Tree) → has_free_operators th p ≡ true → norm th (with_values p vs) ≡ with_values p (map (norm th) vs)
  norm-with_values p vs h =
      norm-instance (value_at (variables p) vs) p h
      ∙ instance_same (λ x. norm th (value_at (variables p) vs x)) (value_at (variables p) (map (norm th) vs)) (λ y. sym (value_mapped (norm th) (λ i r. refl) (variables p) vs y)) p

  pub reading-with_values : (p : Tree) (vs : List Tree) → has_free_operators th p ≡ true → reading th (with_values p vs) ≡ with_values p (map (reading th) vs)
  reading-with_values p vs h =
      reading-instance (value_at (variables p) vs) p h
      ∙ instance_same (λ x. reading th (value_at (variables p) vs x)) (value_at (variables p) (map (reading th) vs)) (λ y. sym (value_mapped (reading th) (λ i r. refl) (variables p) vs y)) p

  -- the top is not associative
  pub no_assoc_top : (p : Tree) → has_free_operators th p ≡ true → assoc_top th (norm th p) ≡ None
  no_assoc_top (variable i s) h = refl
  no_assoc_top (numeral n) h = refl
  no_assoc_top (apply f ts) h =
      let both = and_parts (is_free (th f)) (have_free_operators th ts) h in
      ap (assoc_top th) (free_build (th f) f (norms th ts) both.0) ∙ ap (λ b. if b then Some f else None) (free_assoc (th f) both.0)
