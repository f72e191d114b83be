-- Groups of the places of a row.
use Rattle.std.proofs.Common.{◌-◌, ◌⊎◌, inl, inr, ◌≡◌, ◌≢◌, ℕ, zero, suc, ◌+◌, ◌<◌, ◌≤◌, List, [], ◌∷◌, ◌++◌, length, get_or, set, Some, Vec, Bool, true, false, eqb, eqb-true, refl, sym, ◌∙◌, ap, arith, subst}
use Rattle.std.specs.List.{slice_get}
use Rattle.std.proofs.lemmas.Bool.{eqb-false}
use Rattle.mau_chart.specs.declared.grammar.Item.{Item}
use Rattle.mau_chart.specs.declared.grammar.Item.TheVariants.{Part}
use Rattle.mau_chart.specs.declared.places.Group.{Group}
use Rattle.mau_chart.specs.declared.places.Place.{Place}
use Rattle.mau_chart.specs.Groups.{HasPart, groups_at, AreGrouped, AreIndexed, IsGrouped}
use Rattle.std.proofs.lemmas.Option.{slice_get_within}
use Rattle.mau_chart.specs.Chart.{Edge, Grows, IsOne, IsAmong, place_of}
use Rattle.mau_chart.proofs.Grows.{slice_get-left, slice_get-end}
use Rattle.mau_chart.proofs.Step.{some_one}

pub groups_at-place : {Z : Type 0} (vs : List (Vec Group Z)) (r : ℕ) (v : Vec Group Z) → r < length vs → v ≡ get_or vs r v → groups_at vs r ≡ v.items
groups_at-place [] r v h e = absurd (omega arith)
groups_at-place (u ∷ vs) zero v h e = ap (λ z. z.items) (sym e)
groups_at-place (u ∷ vs) (suc r) v h e = groups_at-place vs r v (omega arith) e

pub groups_at-past : {Z : Type 0} (vs : List (Vec Group Z)) (r : ℕ) → length vs ≤ r → groups_at vs r ≡ []
groups_at-past [] r h = refl
groups_at-past (u ∷ vs) zero h = absurd (omega arith)
groups_at-past (u ∷ vs) (suc r) h = groups_at-past vs r (omega arith)

pub groups_at-push : {Z : Type 0} (vs : List (Vec Group Z)) (v : Vec Group Z) → groups_at (vs ++ v ∷ []) (length vs) ≡ v.items
groups_at-push [] v = refl
groups_at-push (u ∷ vs) v = groups_at-push vs v

pub groups_at-front : {Z : Type 0} (vs : List (Vec Group Z)) (v : Vec Group Z) (r : ℕ) → r < length vs → groups_at (vs ++ v ∷ []) r ≡ groups_at vs r
groups_at-front [] v r h = absurd (omega arith)
groups_at-front (u ∷ vs) v zero h = refl
groups_at-front (u ∷ vs) v (suc r) h = groups_at-front vs v r (omega arith)

pub slice_get-set : {A : Type 0} (xs : List A) (w : ℕ) (x : A) → w < length xs → slice_get (set xs w x) w ≡ Some x
slice_get-set [] w x h = absurd (omega arith)
slice_get-set (y ∷ xs) zero x h = refl
slice_get-set (y ∷ xs) (suc w) x h = slice_get-set xs w x (omega arith)

pub slice_get-set_other : {A : Type 0} (xs : List A) (w v : ℕ) (x : A) → v ≢ w → slice_get (set xs w x) v ≡ slice_get xs v
slice_get-set_other [] w v x n = refl
slice_get-set_other (y ∷ xs) zero zero x n = absurd (n refl)
slice_get-set_other (y ∷ xs) zero (suc v) x n = refl
slice_get-set_other (y ∷ xs) (suc w) zero x n = refl
slice_get-set_other (y ∷ xs) (suc w) (suc v) x n = slice_get-set_other xs w v x (λ e. n (ap suc e))

-- a group that has one place more
module _ (gs : List Group) (w : ℕ) (x : Place) (g h : Group) (eg : slice_get gs w ≡ Some g) (l : w < length gs) (ei : h.item ≡ g.item) (ep : h.parts.items ≡ g.parts.items ++ x ∷ []) where
  pub placed : HasPart (set gs w h) g.item x
  placed = (w, length g.parts.items, record { group = h; its = slice_get-set gs w h l; place = ap (λ ps. slice_get ps (length g.parts.items)) ep ∙ slice_get-end g.parts.items x; item = ei })

  pub placed_others : (it : Item) (y : Place) → HasPart gs it y → HasPart (set gs w h) it y
  placed_others it y p = by (eqb p.0 w) refl
    where
      by : (t : Bool) → eqb p.0 w ≡ t → HasPart (set gs w h) it y
      by false q = (p.0, p.1, record { group = p.2.group; its = slice_get-set_other gs w p.0 h (eqb-false p.0 w q) ∙ p.2.its; place = p.2.place; item = p.2.item })
      by true q =
          let same : g ≡ p.2.group = some_one g p.2.group (sym eg ∙ ap (slice_get gs) (sym (eqb-true p.0 w q)) ∙ p.2.its) in (
            w,
            p.1,
            record {
              group = h;
              its = slice_get-set gs w h l;
              place = ap (λ ps. slice_get ps p.1) ep ∙ slice_get-left g.parts.items (x ∷ []) p.1 y (ap (λ z. slice_get z.parts.items p.1) same ∙ p.2.place);
              item = ei ∙ ap (λ z. z.item) same ∙ p.2.item;
            },
          )

-- a new group
module _ (gs : List Group) (x : Place) (h : Group) (ep : h.parts.items ≡ x ∷ []) where
  pub pushed : HasPart (gs ++ h ∷ []) h.item x
  pushed = (length gs, 0, record { group = h; its = slice_get-end gs h; place = ap (λ ps. slice_get ps 0) ep; item = refl })

  pub pushed_others : (it : Item) (y : Place) → HasPart gs it y → HasPart (gs ++ h ∷ []) it y
  pushed_others it y p = (p.0, p.1, record { group = p.2.group; its = slice_get-left gs (h ∷ []) p.0 p.2.group p.2.its; place = p.2.place; item = p.2.item })

-- ---- one more place, one more group

pub among_one : (places : List Place) (part : Item) (p : Place) (z n y : ℕ) (g : Edge) → n ≡ z + 1 → slice_get places z ≡ Some p → IsAmong places part n y g → IsAmong places part z y g ⊎ IsOne p.at part y g
among_one places part p z n y g en ep a = by (eqb a.0.0 z) refl
  where
    by : (t : Bool) → eqb a.0.0 z ≡ t → IsAmong places part z y g ⊎ IsOne p.at part y g
    by false q = let x : a.0.0 ≢ z = eqb-false a.0.0 z q in inl ((a.0.0, omega (arith, a.0.1, en, x), a.0.2), a.1)
    by true q = inr (ap (λ v. v.at) (some_one (place_of y g) p (sym a.0.2 ∙ ap (slice_get places) (eqb-true a.0.0 z q) ∙ ep)), a.1)

pub grouped_on : (gs : List Group) (w n : ℕ) (g : Group) → n ≡ w + 1 → slice_get gs w ≡ Some g → (y : ℕ) (f : Edge) → IsGrouped gs n y f → IsGrouped gs w y f ⊎ IsAmong g.parts.items g.item (length g.parts.items) y f
grouped_on gs w n g en eg y f p = by (eqb p.0 w) refl
  where
    by : (t : Bool) → eqb p.0 w ≡ t → IsGrouped gs w y f ⊎ IsAmong g.parts.items g.item (length g.parts.items) y f
    by false q = let x : p.0 ≢ w = eqb-false p.0 w q in inl (p.0, p.1, omega (arith, p.2, en, x), p.3)
    by true q =
        let same : p.3.group ≡ g = some_one p.3.group g (sym p.3.its ∙ ap (slice_get gs) (eqb-true p.0 w q) ∙ eg) in
        let there : slice_get g.parts.items p.1 ≡ Some (place_of y f) = ap (λ z. slice_get z.parts.items p.1) (sym same) ∙ p.3.place in
        inr ((p.1, slice_get_within g.parts.items p.1 (place_of y f) there, there), sym p.3.item ∙ ap (λ z. z.item) same)

-- ---- rows that are grouped

pub indexed_stays : {Z : Type 0} (old new : ℕ → List Edge) (n i : ℕ) (index : List (Vec Group Z)) → Grows old new i → AreIndexed old n i index → AreIndexed new n i index
indexed_stays old new n i index g a m h l x k d f e ef = a m h l x k d f (ap (λ r. slice_get r x) (sym (g.others m (λ q. absurd (omega (arith, h, q))))) ∙ e) ef

pub indexed_on : {Z : Type 0} (rows : ℕ → List Edge) (n r i j : ℕ) (index : List (Vec Group Z)) (v : Vec Group Z) → r ≤ n → i ≡ n - r → j ≡ n - (r + 1) → length index ≡ r → AreIndexed rows n i index → AreGrouped rows i v.items → AreIndexed rows n j (index ++ v ∷ [])
indexed_on rows n r i j index v le ei ej el a b m h l = by (eqb m i) refl
  where
    by : (t : Bool) → eqb m i ≡ t → AreGrouped rows m (groups_at (index ++ v ∷ []) (n - m))
    by true q =
        let z : m ≡ i = eqb-true m i q in
        let p : length index ≡ n - m = omega (arith, z, ei, le, el) in
        subst (AreGrouped rows m) (sym (groups_at-push index v) ∙ ap (groups_at (index ++ v ∷ [])) p) (subst (λ y. AreGrouped rows y v.items) (sym z) b)
    by false q =
        let x : m ≢ i = eqb-false m i q in
        let p : n - m < length index = omega (arith, x, ei, ej, le, h, l, el) in
        subst (AreGrouped rows m) (sym (groups_at-front index v (n - m) p)) (a m (omega (arith, x, ei, ej, h, le)) l)

-- the first n places of the row are grouped
abbrev pub AreGroupedTo : (ℕ → List Edge) → ℕ → List Group → ℕ → Type 0
AreGroupedTo rows m gs n = (x k d : ℕ) (f : Edge) → x < n → slice_get (rows m) x ≡ Some f → f.item ≡ Part k (suc d) → HasPart gs f.item (place_of x f)

pub grouped_more : (rows : ℕ → List Edge) (m : ℕ) (old new : List Group) (x n : ℕ) (f : Edge) → n ≡ x + 1 → slice_get (rows m) x ≡ Some f → ((it : Item) (y : Place) → HasPart old it y → HasPart new it y) → ((k d : ℕ) → f.item ≡ Part k (suc d) → HasPart new f.item (place_of x f)) → AreGroupedTo rows m old x → AreGroupedTo rows m new n
grouped_more rows m old new x n f en ef keep there a y k d g h e eg = by (eqb y x) refl
  where
    by : (t : Bool) → eqb y x ≡ t → HasPart new g.item (place_of y g)
    by false q = let z : y ≢ x = eqb-false y x q in keep g.item (place_of y g) (a y k d g (omega (arith, h, en, z)) e eg)
    by true q =
        let z : y ≡ x = eqb-true y x q in
        let same : f ≡ g = some_one f g (sym ef ∙ ap (slice_get (rows m)) (sym z) ∙ e) in
        subst (λ j. HasPart new g.item (place_of j g)) (sym z) (subst (λ v. HasPart new v.item (place_of x v)) same (there k d (ap (λ v. v.item) same ∙ eg)))
