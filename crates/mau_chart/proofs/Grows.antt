-- Tables that grow in one row.
use Rattle.std.proofs.Common.{◌≡◌, ℕ, zero, suc, List, [], ◌∷◌, ◌++◌, length, Bool, Option, Some, None, true, false, ◌⊎◌, inl, inr, refl, sym, ◌∙◌, ap, eqb, eqb-true, append_assoc, append-nil}
use Rattle.std.specs.List.{slice_get}
use Rattle.std.proofs.lemmas.Bool.{eqb-false}
use Rattle.mau_terms.specs.Tree.{Tree}
use Rattle.mau_chart.specs.declared.grammar.Item.{Item}
use Rattle.mau_chart.specs.Chart.{Edge, edge, Has, Full, Covers, Offered, Grows, IsSame}

pub slice_get-left : {A : Type 0} (xs ys : List A) (k : ℕ) (x : A) → slice_get xs k ≡ Some x → slice_get (xs ++ ys) k ≡ Some x
slice_get-left {A = A} [] ys k x e = absurd (none x e)
  where
    none : (x : A) → ◌≡◌ {A = Option A} None (Some x) → ⊥
    none x e = cc
slice_get-left (z ∷ xs) ys zero x e = e
slice_get-left (z ∷ xs) ys (suc k) x e = slice_get-left xs ys k x e

pub slice_get-end : {A : Type 0} (xs : List A) (x : A) → slice_get (xs ++ x ∷ []) (length xs) ≡ Some x
slice_get-end [] x = refl
slice_get-end (y ∷ xs) x = slice_get-end xs x

-- what stands in a longer list stood there or is the new one
pub slice_get-new : {A : Type 0} (xs : List A) (y : A) (k : ℕ) (x : A) → slice_get (xs ++ y ∷ []) k ≡ Some x → (slice_get xs k ≡ Some x) ⊎ (x ≡ y)
slice_get-new {A = A} [] y zero x e = inr (sym (one y x e))
  where
    one : (y x : A) → Some y ≡ Some x → y ≡ x
    one y x e = cc
slice_get-new [] y (suc k) x e = inl e
slice_get-new (z ∷ xs) y zero x e = inl e
slice_get-new (z ∷ xs) y (suc k) x e = slice_get-new xs y k x e

pub offered_grows : (old new : ℕ → List Edge) (i : ℕ) (f : Edge) → Offered old new i f → Grows old new i
offered_grows old new i f o = record { others = o.others; more = by o.more }
  where
    by : (new i ≡ old i) ⊎ (new i ≡ old i ++ f ∷ []) → (gs : List Edge) × (new i ≡ old i ++ gs)
    by (inl e) = ([], e ∙ sym (append-nil (old i)))
    by (inr e) = (f ∷ [], e)

pub grows_not : (t : ℕ → List Edge) (i : ℕ) → Grows t t i
grows_not t i = record { others = λ m h. refl; more = ([], sym (append-nil (t i))) }

pub grows_on : (a b c : ℕ → List Edge) (i : ℕ) → Grows a b i → Grows b c i → Grows a c i
grows_on a b c i g h = record {
  others = λ m k. h.others m k ∙ g.others m k;
  more = (g.more.0 ++ h.more.0, h.more.1 ∙ ap (λ r. r ++ h.more.0) g.more.1 ∙ append_assoc (a i) g.more.0 h.more.0);
}

-- what was at a place is there
pub place_stays : (a b : ℕ → List Edge) (i : ℕ) → Grows a b i → (m k : ℕ) (f : Edge) → slice_get (a m) k ≡ Some f → slice_get (b m) k ≡ Some f
place_stays a b i g m k f e = by (eqb m i) refl
  where
    by : (t : Bool) → eqb m i ≡ t → slice_get (b m) k ≡ Some f
    by true q =
        let z : m ≡ i = eqb-true m i q in
        ap (λ j. slice_get (b j) k) z ∙ ap (λ r. slice_get r k) g.more.1 ∙ slice_get-left (a i) g.more.0 k f (ap (λ j. slice_get (a j) k) (sym z) ∙ e)
    by false q = ap (λ r. slice_get r k) (g.others m (eqb-false m i q)) ∙ e

pub has_stays : (a b : ℕ → List Edge) (i : ℕ) → Grows a b i → (m : ℕ) (it : Item) (e : ℕ) (ts : List Tree) → Has a m it e ts → Has b m it e ts
has_stays a b i g m it e ts h = (h.0, place_stays a b i g m h.0 (edge it e ts) h.1)

pub full_stays : (a b : ℕ → List Edge) (i : ℕ) → Grows a b i → (m : ℕ) (it : Item) (e : ℕ) → Full a m it e → Full b m it e
full_stays a b i g m it e h = (h.0, h.1, has_stays a b i g m it e h.0 h.2, has_stays a b i g m it e h.1 h.3, h.4)

pub covers_stay : (a b : ℕ → List Edge) (i : ℕ) → Grows a b i → (m : ℕ) (it : Item) (e : ℕ) (ts : List Tree) → Covers a m it e ts → Covers b m it e ts
covers_stay a b i g m it e ts (inl h) = inl (has_stays a b i g m it e ts h)
covers_stay a b i g m it e ts (inr h) = inr (full_stays a b i g m it e h)

pub full_offered : (old : ℕ → List Edge) (i : ℕ) (f : Edge) → Full old i f.item f.end → Offered old old i f
full_offered old i f h = record { others = λ m n. refl; more = inl refl; covers = inr h }

pub same_offered : (old mid new : ℕ → List Edge) (i : ℕ) (f : Edge) → IsSame old mid → Offered mid new i f → Offered old new i f
same_offered old mid new i f s o = record { others = λ m n. o.others m n ∙ s m; more = by o.more; covers = o.covers }
  where
    by : (new i ≡ mid i) ⊎ (new i ≡ mid i ++ f ∷ []) → (new i ≡ old i) ⊎ (new i ≡ old i ++ f ∷ [])
    by (inl e) = inl (e ∙ s i)
    by (inr e) = inr (e ∙ ap (λ r. r ++ f ∷ []) (s i))
