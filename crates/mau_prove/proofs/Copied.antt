-- The terms of a store in another one that grows.
use Rattle.std.proofs.Common.{◌≡◌, ℕ, suc, ◌+◌, ◌<◌, List, [], ◌∷◌, ◌++◌, map, take, length, get_or, add-one, slice_get, Some, Result, Ok, Err, IfOk, refl, sym, ap, ap₂, ◌∙◌, subst, arith, below_more, length-append}
use Rattle.std.specs.Prelude.{slice_index}
use Rattle.std.proofs.lemmas.List.{get_or-map, length-map, map-append}
use Rattle.std.proofs.lemmas.List.Elements.{All-nil, All-cons, All-head, All-tail}
use Rattle.std.proofs.lemmas.Option.{slice_get_within}
use Rattle.std.proofs.Math.ListN.{get_or-append}
use Rattle.std.proofs.Math.Seq.{get_or-append_seam}
use Rattle.mau_terms.specs.Tree.{Tree, node}
use Rattle.mau_terms.specs.declared.ids.TermId.{TermId}
use Rattle.mau_store.specs.Node.{Node, IsOf, AreOf, AreBelow, Extends}
use Rattle.mau_store.specs.Trees.{tree_at}
use Rattle.mau_store.specs.View.{numbers}
use Rattle.mau_store.proofs.Growth.{IsOf-extends}
use Rattle.mau_store.proofs.Standing.{tree_at-extends}
use Rattle.mau_prove.specs.Copies.{AreCopies}

no_id : TermId
no_id = record { 0 = 0 }

-- one term more, in a store that has grown
pub one_more : (old mid new : List Node) (ids : List TermId) (id : TermId) → AreCopies old mid ids → Extends mid new → IsOf new id.0 → tree_at new id.0 ≡ tree_at old (length ids) → AreCopies old new (ids ++ id ∷ [])
one_more old mid new ids id h x there here = record {
  there = λ i d l. below_more (λ k. IsOf new (get_or (ids ++ id ∷ []) k d).0) (length ids)
      (λ k b. subst (λ (y : TermId). IsOf new y.0) (sym (get_or-append ids (id ∷ []) d k b)) (IsOf-extends mid new (get_or ids k d).0 x (h.there k d b)))
      (subst (λ (y : TermId). IsOf new y.0) (sym (get_or-append_seam ids id [] d)) there)
      i (omega (arith, length-append ids (id ∷ []), l));
  trees = λ i d l. below_more (λ k. tree_at new (get_or (ids ++ id ∷ []) k d).0 ≡ tree_at old k) (length ids)
      (λ k b. subst (λ (y : TermId). tree_at new y.0 ≡ tree_at old k) (sym (get_or-append ids (id ∷ []) d k b)) (tree_at-extends mid new (get_or ids k d).0 x (h.there k d b) ∙ h.trees k d b))
      (subst (λ (y : TermId). tree_at new y.0 ≡ tree_at old (length ids)) (sym (get_or-append_seam ids id [] d)) here)
      i (omega (arith, length-append ids (id ∷ []), l));
}

-- ---- arguments

module _ (old new : List Node) (ids : List TermId) (h : AreCopies old new ids) where
  number_of : (i : ℕ) → i < length ids → slice_index (numbers ids) i ≡ (get_or ids i no_id).0
  number_of i l = get_or-map (λ (id : TermId). id.0) ids i no_id 0 l

  pub numbers_there : (args : List ℕ) → AreBelow (length ids) args → AreOf new (map (slice_index (numbers ids)) args)
  numbers_there [] below = All-nil (IsOf new)
  numbers_there (i ∷ args) below =
      let l = All-head (λ j. j < length ids) i args below in
      All-cons (IsOf new) (slice_index (numbers ids) i) (map (slice_index (numbers ids)) args)
      (subst (IsOf new) (sym (number_of i l)) (h.there i no_id l)) (numbers_there args (All-tail (λ j. j < length ids) i args below))

  pub trees_copied : (args : List ℕ) → AreBelow (length ids) args → map (tree_at new) (map (slice_index (numbers ids)) args) ≡ map (tree_at old) args
  trees_copied [] below = refl
  trees_copied (i ∷ args) below =
      let l = All-head (λ j. j < length ids) i args below in
      ap₂ (λ t ts. t ∷ ts) (ap (tree_at new) (number_of i l) ∙ h.trees i no_id l) (trees_copied args (All-tail (λ j. j < length ids) i args below))

-- what was interned is there
pub there_of : {E : Type 0} (nodes : List Node) (n : Node) (r : Result TermId E) → IfOk r (λ id. slice_get nodes id.0 ≡ Some n) → IfOk r (λ id. IsOf nodes id.0)
there_of nodes n (Ok id) at = slice_get_within nodes id.0 n at
there_of nodes n (Err e) at = tt

-- what was interned stands for another tree that is the same
pub tree_of_copy : {E : Type 0} (nodes : List Node) (t u : Tree) (r : Result TermId E) → t ≡ u → IfOk r (λ id. tree_at nodes id.0 ≡ t) → IfOk r (λ id. tree_at nodes id.0 ≡ u)
tree_of_copy nodes t u (Ok id) e h = h ∙ e
tree_of_copy nodes t u (Err x) e h = tt

-- lists that are the same at each place
pub same_lists : {A : Type 0} (xs ys : List A) → length xs ≡ length ys → ((j : ℕ) → j < length xs → slice_get xs j ≡ slice_get ys j) → xs ≡ ys
same_lists [] [] e h = refl
same_lists [] (y ∷ ys) e h = absurd (omega (arith, e))
same_lists (x ∷ xs) [] e h = absurd (omega (arith, e))
same_lists (x ∷ xs) (y ∷ ys) e h =
    let first : Some x ≡ Some y = h 0 (omega arith) in
    let one : x ≡ y = cc in
    ap₂ (λ z zs. z ∷ zs) one (same_lists xs ys (omega (arith, e)) (λ j l. h (suc j) (omega (arith, l))))
