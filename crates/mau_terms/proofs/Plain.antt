-- Signatures whose operators have no axioms: equal terms are the same, and each tree is a normal form.
use Rattle.std.proofs.Common.{◌≡◌, ◌↔◌, ℕ, List, [], ◌∷◌, false, None, refl, ◌∙◌, ap, ap₂, subst}
use Rattle.mau_terms.specs.Tree.{Tree, variable, numeral, apply, Trees, no_trees, tree, node, list_of}
use Rattle.mau_terms.specs.Norm.{all_pieces, finish, made, norm, norms}
use Rattle.mau_terms.specs.Axioms.{Axiom, associativity, commutativity, left_identity, right_identity, successor_of_numeral, AxiomStep, left_to_right, right_to_left, under_operator, AxiomStepIn, in_first, in_later}
use Rattle.mau_terms.specs.Bare.{TermSignature, IsBare, EqualModulo, same_term, one_step, HasNoAxioms}
use Rattle.mau_terms.specs.declared.theory.Theory.{Theory}
use Rattle.mau_terms.proofs.Pieces.{trees_of-list_of}

-- ---- equality

no_axiom : (s : TermSignature) → HasNoAxioms s → (t u : Tree) → Axiom s.theory t u → ⊥
no_axiom s plain t' u' (associativity f t u v e) = let h = plain.no_assoc f in cc
no_axiom s plain t' u' (commutativity f t u e) = let h = plain.no_comm f in cc
no_axiom s plain t' u' (left_identity f i t e) = let h = plain.no_id f in cc
no_axiom s plain t' u' (right_identity f i t e) = let h = plain.no_id f in cc
no_axiom s plain t' u' (successor_of_numeral f n e l) = let h = plain.no_succ f in cc

mutual
  no_step : {th : ℕ → Theory} → ((t u : Tree) → Axiom th t u → ⊥) → {t u : Tree} → AxiomStep th t u → ⊥
  no_step none (left_to_right {t = t} {u = u} x) = none t u x
  no_step none (right_to_left {t = t} {u = u} x) = none t u x
  no_step none (under_operator f x) = no_step_in none x

  no_step_in : {th : ℕ → Theory} → ((t u : Tree) → Axiom th t u → ⊥) → {ts us : Trees} → AxiomStepIn th ts us → ⊥
  no_step_in none (in_first ts x) = no_step none x
  no_step_in none (in_later t x) = no_step_in none x

pub plain_equal : (s : TermSignature) → HasNoAxioms s → (t u : Tree) → EqualModulo s t u → t ≡ u
plain_equal s plain t u (same_term b) = refl
plain_equal s plain t u (one_step b x p) = absurd (no_step (no_axiom s plain) x)

pub same_equal : (s : TermSignature) (t u : Tree) → IsBare s t → t ≡ u → EqualModulo s t u
same_equal s t u b e = subst (EqualModulo s t) e (same_term b)

pub equal_where_same : (s : TermSignature) → HasNoAxioms s → (t u : Tree) → IsBare s t → IsBare s u → EqualModulo s t u ↔ t ≡ u
equal_where_same s plain t u b c = (plain_equal s plain t u, same_equal s t u b)

-- ---- normal forms

pub free_pieces : (f : ℕ) (ts : List Tree) → all_pieces false None f ts ≡ ts
free_pieces f [] = refl
free_pieces f (variable i s ∷ ts) = ap (λ us. variable i s ∷ us) (free_pieces f ts)
free_pieces f (numeral n ∷ ts) = ap (λ us. numeral n ∷ us) (free_pieces f ts)
free_pieces f (apply g vs ∷ ts) = ap (λ us. apply g vs ∷ us) (free_pieces f ts)

pub free_finish : (f : ℕ) (ts : List Tree) → finish false None false f ts ≡ node f ts
free_finish f [] = refl
free_finish f (variable i s ∷ []) = refl
free_finish f (numeral n ∷ []) = refl
free_finish f (apply g vs ∷ []) = refl
free_finish f (t ∷ u ∷ ts) = refl

pub free_made : (f : ℕ) (ts : List Tree) → made false false None false f ts ≡ node f ts
free_made f ts = ap (finish false None false f) (free_pieces f ts) ∙ free_finish f ts

mutual
  pub plain_norm : (s : TermSignature) → HasNoAxioms s → (t : Tree) → norm s.theory t ≡ t
  plain_norm s plain (variable i r) = refl
  plain_norm s plain (numeral n) = refl
  plain_norm s plain (apply f ts) =
      let h = s.theory f in
      let vs = norms s.theory ts in
      ap (λ a. made a h.comm h.id h.succ f vs) (plain.no_assoc f)
      ∙ ap (λ c. made false c h.id h.succ f vs) (plain.no_comm f)
      ∙ ap (λ i. made false false i h.succ f vs) (plain.no_id f)
      ∙ ap (λ b. made false false None b f vs) (plain.no_succ f)
      ∙ free_made f vs
      ∙ ap (node f) (plain_norms s plain ts)
      ∙ ap (apply f) (trees_of-list_of ts)

  pub plain_norms : (s : TermSignature) → HasNoAxioms s → (ts : Trees) → norms s.theory ts ≡ list_of ts
  plain_norms s plain no_trees = refl
  plain_norms s plain (tree t ts) = ap₂ (λ v w. v ∷ w) (plain_norm s plain t) (plain_norms s plain ts)
