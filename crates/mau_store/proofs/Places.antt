-- A list of nodes into which a node is put: it stays as it is where the node is there, and else the node goes last.
use Rattle.std.proofs.Common.{◌≡◌, ℕ, zero, suc, ◌<◌, Bool, true, false, ◌||◌, ◌⊎◌, inl, inr, List, [], ◌∷◌, ◌++◌, map, length, slice_get, Some, refl, ap, sym, ◌∙◌, arith, subst, if◌then◌else◌, true≢false, append-nil}
use Rattle.std.specs.Bool.{Decides}
use Rattle.std.specs.List.{list_any}
use Rattle.std.proofs.lemmas.List.{map-append}
use Rattle.mau_store.specs.Node.{Node, arguments, AreOf, IsShared, IsClosed, AreNodes, Extends}

-- ---- places in a list that grows

-- where an element of a longer list stands
pub place_push : {X : Type 0} (xs : List X) (y s : X) (j : ℕ) → slice_get (xs ++ y ∷ []) j ≡ Some s → (slice_get xs j ≡ Some s) ⊎ ((j ≡ length xs) × (s ≡ y))
place_push [] y s zero h = inr (refl, cc)
place_push [] y s (suc j) h = absurd (cc)
place_push (x ∷ xs) y s zero h = inl h
place_push (x ∷ xs) y s (suc j) h =
    elim (place_push xs y s j h) [ inl p ↦ inl p | inr q ↦ inr (ap suc q.0, q.1) ]

-- an element keeps its place
pub slice_get-front : {X : Type 0} (xs ys : List X) (j : ℕ) → j < length xs → slice_get (xs ++ ys) j ≡ slice_get xs j
slice_get-front [] ys j h = absurd (omega arith)
slice_get-front (x ∷ xs) ys zero h = refl
slice_get-front (x ∷ xs) ys (suc j) h = slice_get-front xs ys j (omega arith)

-- ---- one more node

-- n was put into old
abbrev pub IsInserted : List Node → Node → List Node → Type 0
IsInserted old n new = (new ≡ old) ⊎ ((new ≡ old ++ n ∷ []) × ((j : ℕ) → slice_get old j ≡ Some n → ⊥))

IsShared-push : (nodes : List Node) (new : Node) → IsShared nodes → ((j : ℕ) → slice_get nodes j ≡ Some new → ⊥) → IsShared (nodes ++ new ∷ [])
IsShared-push nodes new shared absent j k s p q =
    elim (place_push nodes new s j p) [
      | inl p' ↦ elim (place_push nodes new s k q) [
        | inl q' ↦ shared j k s p' q'
        | inr b ↦ absurd (absent j (p' ∙ ap Some b.1))
      ]
      | inr a ↦ elim (place_push nodes new s k q) [
        | inl q' ↦ absurd (absent k (q' ∙ ap Some a.1))
        | inr b ↦ a.0 ∙ sym b.0
      ]
    ]

IsClosed-push : (nodes : List Node) (new : Node) → IsClosed nodes → AreOf nodes (arguments new) → IsClosed (nodes ++ new ∷ [])
IsClosed-push nodes new closed below k s p =
    elim (place_push nodes new s k p) [
      | inl q ↦ closed k s q
      | inr q ↦ rw (q.0, q.1) below
    ]

pub AreNodes-inserted : (old new : List Node) (n : Node) → IsInserted old n new → AreOf old (arguments n) → AreNodes old → AreNodes new
AreNodes-inserted old new n (inl e) below nodes = subst AreNodes (sym e) nodes
AreNodes-inserted old new n (inr e) below nodes = subst AreNodes (sym e.0) (record {
  shared = IsShared-push old n nodes.shared e.1;
  closed = IsClosed-push old n nodes.closed below;
})

pub Extends-inserted : (old new : List Node) (n : Node) → IsInserted old n new → Extends old new
Extends-inserted old new n (inl e) = ([], e ∙ sym (append-nil old))
Extends-inserted old new n (inr e) = (n ∷ [], e.0)

-- ---- keys that are tested for equality

-- the second of two tests that both fail
later : (p q : Bool) → (p || q) ≡ false → q ≡ false
later true q h = absurd (cc)
later false q h = h

module _ {K : Type 0} (e : K → K → Bool) (f : K → Node) (decides : (a b : K) → Decides (e a b) (f a ≡ f b)) where
  -- the node of a key that no test finds is not there
  absent : (ks : List K) (k : K) → list_any (e k) ks ≡ false → (j : ℕ) → slice_get (map f ks) j ≡ Some (f k) → ⊥
  absent [] k h j p = cc
  absent (x ∷ xs) k h zero p =
      let same : e k x ≡ true = (decides k x).1 (cc) in
      let found : list_any (e k) (x ∷ xs) ≡ true = ap (λ b. b || list_any (e k) xs) same in
      true≢false (sym found ∙ h)
  absent (x ∷ xs) k h (suc j) p = absent xs k (later (e k x) (list_any (e k) xs) h) j p

  pub IsInserted-key : (ks : List K) (k : K) → IsInserted (map f ks) (f k) (map f (if list_any (e k) ks then ks else ks ++ k ∷ []))
  IsInserted-key ks k = by (list_any (e k) ks) refl
    where
      by : (b : Bool) → list_any (e k) ks ≡ b → IsInserted (map f ks) (f k) (map f (if b then ks else ks ++ k ∷ []))
      by true _ = inl refl
      by false h = inr (map-append f ks (k ∷ []), absent ks k h)
