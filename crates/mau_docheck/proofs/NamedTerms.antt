-- Terms whose holes are named, in a store that grows.
use Rattle.std.proofs.Common.{◌≡◌, ℕ, ◌+◌, ◌<◌, List, [], ◌∷◌, ◌++◌, map, take, length, get_or, add-one, slice_get, Some, Result, Ok, Err, IfOk, refl, sym, ap, ap₂, ◌∙◌, subst, arith, below_more, length-append}
use Rattle.std.specs.Prelude.{slice_index}
use Rattle.std.proofs.lemmas.List.{get_or-map, length-map, map-append}
use Rattle.std.proofs.lemmas.List.Elements.{All-nil, All-cons, All-head, All-tail}
use Rattle.std.proofs.lemmas.Option.{slice_get_within}
use Rattle.std.proofs.Math.ListN.{get_or-append}
use Rattle.std.proofs.Math.Seq.{get_or-append_seam, take-suc}
use Rattle.mau_terms.specs.Tree.{Tree, node}
use Rattle.mau_terms.specs.Subst.{instance}
use Rattle.mau_terms.specs.declared.ids.TermId.{TermId}
use Rattle.mau_terms.proofs.Induction.{instance-node}
use Rattle.mau_store.specs.Node.{Node, IsOf, AreOf, AreBelow, Extends}
use Rattle.mau_store.specs.Trees.{tree_at}
use Rattle.mau_store.specs.View.{numbers}
use Rattle.mau_store.proofs.Growth.{IsOf-extends}
use Rattle.mau_store.proofs.Standing.{tree_at-extends}
use Rattle.mau_docheck.specs.Holes.{namer, named}
use Rattle.mau_docheck.specs.Naming.{IsNamed, AreNamed}

no_id : TermId
no_id = record { 0 = 0 }

-- what was interned, where it is known what it stands for
pub interned : {E : Type 0} (nodes : List Node) (n : Node) (t : Tree) (P : TermId → Type 0) (r : Result TermId E) → IfOk r (λ id. slice_get nodes id.0 ≡ Some n) → IfOk r (λ id. tree_at nodes id.0 ≡ t)
    → ((id : TermId) → slice_get nodes id.0 ≡ Some n → tree_at nodes id.0 ≡ t → P id) → IfOk r P
interned nodes n t P (Ok id) at is f = f id at is
interned nodes n t P (Err e) at is f = tt

module _ (ns : List (List ℕ × ℕ)) where
  pub named_extended : (mid new : List Node) (id : TermId) (t : Tree) → Extends mid new → IsNamed ns mid id t → IsNamed ns new id t
  named_extended mid new id t x h = record { there = IsOf-extends mid new id.0 x h.there; stands = tree_at-extends mid new id.0 x h.there ∙ h.stands }

  -- one term more, in a store that has grown
  pub one_named : (old mid new : List Node) (ids : List TermId) (id : TermId) → AreNamed ns old mid ids → Extends mid new → IsNamed ns new id (tree_at old (length ids)) → AreNamed ns old new (ids ++ id ∷ [])
  one_named old mid new ids id h x here = record {
    each = λ i d l. below_more (λ k. IsNamed ns new (get_or (ids ++ id ∷ []) k d) (tree_at old k)) (length ids)
        (λ k b. subst (λ y. IsNamed ns new y (tree_at old k)) (sym (get_or-append ids (id ∷ []) d k b)) (named_extended mid new (get_or ids k d) (tree_at old k) x (h.each k d b)))
        (subst (λ y. IsNamed ns new y (tree_at old (length ids))) (sym (get_or-append_seam ids id [] d)) here)
        i (omega (arith, length-append ids (id ∷ []), l));
  }

  -- ---- arguments

  module _ (old new : List Node) (ids : List TermId) (h : AreNamed ns old new ids) where
    number_of : (i : ℕ) → i < length ids → slice_index (numbers ids) i ≡ (get_or ids i no_id).0
    number_of i l = get_or-map (λ (id : TermId). id.0) ids i no_id 0 l

    pub numbers_there : (args : List ℕ) → AreBelow (length ids) args → AreOf new (map (slice_index (numbers ids)) args)
    numbers_there [] below = All-nil (IsOf new)
    numbers_there (i ∷ args) below =
        let l = All-head (λ j. j < length ids) i args below in
        All-cons (IsOf new) (slice_index (numbers ids) i) (map (slice_index (numbers ids)) args)
        (subst (IsOf new) (sym (number_of i l)) (h.each i no_id l).there) (numbers_there args (All-tail (λ j. j < length ids) i args below))

    pub arguments_named : (args : List ℕ) → AreBelow (length ids) args → map (tree_at new) (map (slice_index (numbers ids)) args) ≡ map (instance (namer ns)) (map (tree_at old) args)
    arguments_named [] below = refl
    arguments_named (i ∷ args) below =
        let l = All-head (λ j. j < length ids) i args below in
        ap₂ (λ t ts. t ∷ ts) (ap (tree_at new) (number_of i l) ∙ (h.each i no_id l).stands) (arguments_named args (All-tail (λ j. j < length ids) i args below))

    pub node_named : (f : ℕ) (args : List ℕ) → AreBelow (length ids) args → node f (map (tree_at new) (map (slice_index (numbers ids)) args)) ≡ named ns (node f (map (tree_at old) args))
    node_named f args below = ap (node f) (arguments_named args below) ∙ sym (instance-node (namer ns) f (map (tree_at old) args))

  pub is_named : (nodes : List Node) (id : TermId) (n : Node) (t : Tree) → slice_get nodes id.0 ≡ Some n → tree_at nodes id.0 ≡ named ns t → IsNamed ns nodes id t
  is_named nodes id n t there e = record { there = slice_get_within nodes id.0 n there; stands = e }
