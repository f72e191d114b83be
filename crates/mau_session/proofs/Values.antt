-- The values of the first variables, one after another: what stands at a place, and behind it.
use Rattle.std.proofs.Common.{◌≡◌, ℕ, zero, suc, ◌<◌, ◌≤◌, ◌+◌, List, [], ◌∷◌, length, get_or, take, drop, Some, slice_get, refl, sym, ◌∙◌, ap, ap₂, arith, add-zero, add-one}
use Rattle.std.proofs.lemmas.List.{drop_all}
use Rattle.mau_terms.specs.declared.ids.TermId.{TermId}
use Rattle.mau_terms.specs.declared.ids.VarId.{VarId}
use Rattle.mau_terms.specs.Vars.{IsGiven}
use Rattle.mau_terms.specs.Subst.{Variable}
use Rattle.mau_session.specs.Terms.{Pairs}
use Rattle.mau_session.specs.KeptQuery.{id_tree, id_trees}
use Rattle.mau_store.specs.Node.{Node}
use Rattle.mau_session.specs.Matching.{numbered_from}

pub length-numbered : (ns : Pairs) (k : ℕ) → length (numbered_from k ns) ≡ length ns
length-numbered [] k = refl
length-numbered (p ∷ ns) k = ap suc (length-numbered ns (suc k))

numbered_at : (ns : Pairs) (k i : ℕ) (p : List ℕ × ℕ) → slice_get ns i ≡ Some p → drop i (numbered_from k ns) ≡ (k + i, p.1) ∷ drop (suc i) (numbered_from k ns)
numbered_at [] k i p e = absurd cc
numbered_at (n ∷ ns) k zero p e =
    let q : n ≡ p = cc in ap₂ (λ i s. (i, s) ∷ numbered_from (suc k) ns) (sym (add-zero k)) (ap (λ p. p.1) q)
numbered_at (n ∷ ns) k (suc i) p e =
    let h : suc k + i ≡ k + suc i = omega arith in
    numbered_at ns (suc k) i p e ∙ ap (λ j. (j, p.1) ∷ drop (suc i) (numbered_from (suc k) ns)) h

got_front : (n : ℕ) (ns : Pairs) (i : ℕ) → i < n → slice_get (take n ns) i ≡ slice_get ns i
got_front zero ns i h = absurd (omega arith)
got_front (suc n) [] i h = refl
got_front (suc n) (p ∷ ns) zero h = refl
got_front (suc n) (p ∷ ns) (suc i) h = got_front n ns i (omega arith)

length_front : (n : ℕ) (ns : Pairs) → length (take n ns) ≤ n
length_front zero ns = omega arith
length_front (suc n) [] = omega arith
length_front (suc n) (p ∷ ns) = omega (arith, length_front n ns)

trees_next : (nodes : List Node) (vs : List TermId) (i : ℕ) (d : TermId) → i < length vs → drop i (id_trees nodes vs) ≡ id_tree nodes (get_or vs i d) ∷ drop (suc i) (id_trees nodes vs)
trees_next nodes [] i d h = absurd (omega arith)
trees_next nodes (w ∷ vs) zero d h = refl
trees_next nodes (w ∷ vs) (suc i) d h = trees_next nodes vs i d (omega arith)

pub length-id_trees : (nodes : List Node) (vs : List TermId) → length (id_trees nodes vs) ≡ length vs
length-id_trees nodes [] = refl
length-id_trees nodes (v ∷ vs) = ap suc (length-id_trees nodes vs)

module _ (ns : Pairs) (nodes : List Node) (values : List TermId) where
  -- the variables of these values
  abbrev pub first_ones : List Variable
  first_ones = numbered_from 0 (take (length values) ns)

  pub variables_next : (i : ℕ) (x : VarId) → x.index ≡ i → IsGiven ns x → i < length values → drop i first_ones ≡ (x.index, x.sort) ∷ drop (i + 1) first_ones
  variables_next i x e g h =
      let got : slice_get (take (length values) ns) i ≡ Some (g.0, x.sort) = got_front (length values) ns i h ∙ ap (slice_get ns) (sym e) ∙ g.1 in
      let z : 0 + i ≡ x.index = omega arith in
      numbered_at (take (length values) ns) 0 i _ got ∙ ap₂ (λ j l. (j, x.sort) ∷ drop l first_ones) z (sym (add-one i))

  pub values_next : (i : ℕ) (d : TermId) → i < length values → drop i (id_trees nodes values) ≡ id_tree nodes (get_or values i d) ∷ drop (i + 1) (id_trees nodes values)
  values_next i d h = trees_next nodes values i d h ∙ ap (λ l. id_tree nodes (get_or values i d) ∷ drop l (id_trees nodes values)) (sym (add-one i))

  pub no_values_behind : (i : ℕ) → length values ≡ i → drop i (id_trees nodes values) ≡ []
  no_values_behind i e = drop_all i (id_trees nodes values) (omega (arith, length-id_trees nodes values))

  pub no_variables_behind : (i : ℕ) → length values ≡ i → drop i first_ones ≡ []
  no_variables_behind i e = drop_all i first_ones (omega (arith, length-numbered (take (length values) ns) 0, length_front (length values) ns))
