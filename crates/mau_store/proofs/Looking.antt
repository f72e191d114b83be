-- Where a node stands that was looked up.
use Rattle.std.proofs.Common.{◌≡◌, ℕ, suc, ◌+◌, List, [], ◌∷◌, length, Bool, true, false, not, cond, Some, None, slice_get, nat_lt, position, refl, sym, ap, ◌∙◌, arith}
use Rattle.std.specs.List.{position_or_len}
use Rattle.mau_store.specs.View.{node_of, stored_node, same_as_stored}
use Rattle.mau_store.specs.Looked.{Decides-view}
use Rattle.mau_store.specs.declared.node.NodeView.{NodeView}
use Rattle.mau_store.specs.declared.node.StoredNode.{StoredNode}

-- the first element that passes a test does pass it
first_passes : {A : Type 0} (p : A → Bool) (xs : List A) (x : A) → slice_get xs (position_or_len p xs) ≡ Some x → p x ≡ true
first_passes p [] x e = cc
first_passes p (y ∷ ys) x e = by (p y) refl (first_passes p ys x) e
  where
    by : (b : Bool) → p y ≡ b → (slice_get ys (position_or_len p ys) ≡ Some x → p x ≡ true) → slice_get (y ∷ ys) (cond (not b) (1 + position_or_len p ys) 0) ≡ Some x → p x ≡ true
    by true h rest k = let s : y ≡ x = cc in ap p (sym s) ∙ h
    by false h rest k = let one : suc (position_or_len p ys) ≡ 1 + position_or_len p ys = omega arith in rest (ap (slice_get (y ∷ ys)) one ∙ k)

place_is : {A : Type 0} (p : A → Bool) (xs : List A) (i : ℕ) → Some i ≡ position p xs → i ≡ position_or_len p xs
place_is p xs i e = by (nat_lt (position_or_len p xs) (length xs)) e
  where
    by : (b : Bool) → Some i ≡ cond b (Some (position_or_len p xs)) None → i ≡ position_or_len p xs
    by true h = cc
    by false h = cc

-- a stored node that was found for a node stands for it
pub found_node : (keys : List StoredNode) (node : NodeView) (i : ℕ) (k : StoredNode) → Some i ≡ position (same_as_stored node) keys → slice_get keys i ≡ Some k → stored_node k ≡ node_of node
found_node keys node i k e h =
    sym ((Decides-view node k).0 (first_passes (same_as_stored node) keys k (ap (slice_get keys) (sym (place_is (same_as_stored node) keys i e)) ∙ h)))
