-- What stands in the rows of a chart.
use Rattle.std.proofs.Common.{◌≡◌, ◌≢◌, ℕ, zero, suc, ◌+◌, ◌<◌, ◌≤◌, List, [], ◌∷◌, ◌++◌, length, get_or, set, map, Bool, Some, true, false, eqb, eqb-true, length-set, length-append, ◌⊎◌, inl, inr, refl, sym, ◌∙◌, ap, ap₂, subst, arith}
use Rattle.std.specs.List.{slice_get}
use Rattle.std.proofs.lemmas.Bool.{eqb-false}
use Rattle.std.specs.Option.{option_map}
use Rattle.std.proofs.lemmas.Option.{slice_get-map}
use Rattle.std.proofs.lemmas.List.{map-append}
use Rattle.mau_terms.specs.Tree.{Tree}
use Rattle.mau_chart.specs.Nodes.{tree_at, trees_at, AllBelow}
use Rattle.mau_terms.specs.declared.ids.TermId.{TermId}
use Rattle.mau_chart.specs.declared.chart.Fact.{Fact}
use Rattle.mau_chart.specs.declared.chart.Row.{Row}
use Rattle.mau_chart.specs.declared.chart.Chart.{Chart}
use Rattle.mau_chart.specs.declared.grammar.Item.{Item}
use Rattle.mau_chart.specs.Chart.{Edge, edge, Has, Full, Offered, Grows, IsSame}
use Rattle.mau_chart.proofs.Grows.{slice_get-end, slice_get-new, has_stays, full_stays}
use Rattle.mau_chart.specs.Table.{table, seen, cells, edge_of, IsThere, IsKnown, AreKnown, HasOther, Put}

pub cells_within : (rs : List Row) (i k : ℕ) → k < length (cells rs i) → i < length rs
cells_within [] i k h = absurd (omega arith)
cells_within (r ∷ rs) zero k h = omega arith
cells_within (r ∷ rs) (suc i) k h = omega (arith, cells_within rs i k h)

pub cells_at : (rs : List Row) (i : ℕ) (r : Row) → i < length rs → r ≡ get_or rs i r → cells rs i ≡ r.facts.items
cells_at [] i r h e = absurd (omega arith)
cells_at (q ∷ rs) zero r h e = ap (λ z. z.facts.items) (sym e)
cells_at (q ∷ rs) (suc i) r h e = cells_at rs i r (omega arith) e

pub cells_past : (rs : List Row) (i : ℕ) → length rs ≤ i → cells rs i ≡ []
cells_past [] i h = refl
cells_past (r ∷ rs) zero h = absurd (omega arith)
cells_past (r ∷ rs) (suc i) h = cells_past rs i (omega arith)

pub slice_get-seen : (ts : List Tree) (fs : List Fact) (k : ℕ) (f : Fact) → slice_get fs k ≡ Some f → slice_get (map (edge_of ts) fs) k ≡ Some (edge_of ts f)
slice_get-seen ts fs k f e = slice_get-map (edge_of ts) fs k ∙ ap (option_map (edge_of ts)) e

pub fact_at : (fs : List Fact) (k : ℕ) → k < length fs → (f : Fact) × (slice_get fs k ≡ Some f)
fact_at [] k h = absurd (omega arith)
fact_at (f ∷ fs) zero h = (f, refl)
fact_at (f ∷ fs) (suc k) h = fact_at fs k (omega arith)

-- a fact that stands there is had
pub had : (c : Chart) (i : ℕ) (it : Item) (e : ℕ) (f : Fact) → IsThere (cells c.rows.items i) f it e → Has (table c) i it e (trees_at c.store f.trees.items)
had c i it e f h =
    (h.place.0, slice_get-seen c.store (cells c.rows.items i) h.place.0 f h.place.1 ∙ ap₂ (λ x y. Some (edge x y (trees_at c.store f.trees.items))) h.item h.end)

-- the same facts over other rows
module _ (ts : List Tree) (rs qs : List Row) (i : ℕ) (f : Fact) (p : Put rs qs i f) where
  pub put_seen : seen ts qs i ≡ seen ts rs i ++ edge_of ts f ∷ []
  put_seen = ap (map (edge_of ts)) p.there ∙ map-append (edge_of ts) (cells rs i) (f ∷ [])

  pub put_others : (m : ℕ) → m ≢ i → seen ts qs m ≡ seen ts rs m
  put_others m h = ap (map (edge_of ts)) (p.others m h)

  pub put_grows : Grows (seen ts rs) (seen ts qs) i
  put_grows = record { others = put_others; more = (edge_of ts f ∷ [], put_seen) }

  pub put_has : Has (seen ts qs) i f.item f.end (trees_at ts f.trees.items)
  put_has = (length (seen ts rs i), ap (λ r. slice_get r (length (seen ts rs i))) put_seen ∙ slice_get-end (seen ts rs i) (edge_of ts f))

  pub put_offered : Offered (seen ts rs) (seen ts qs) i (edge_of ts f)
  put_offered = record { others = put_others; more = inr put_seen; covers = inl put_has }

  stays_known : (m : ℕ) (g : Fact) → IsKnown ts rs m g → IsKnown ts qs m g
  stays_known m g k = record { below = k.below; second = λ e. full_stays (seen ts rs) (seen ts qs) i put_grows m g.item g.end (k.second e) }

  pub put_known : AreKnown ts rs → IsKnown ts qs i f → AreKnown ts qs
  put_known a n m k g e = by (eqb m i) refl
    where
      by : (t : Bool) → eqb m i ≡ t → IsKnown ts qs m g
      by false q = stays_known m g (a m k g (ap (λ r. slice_get r k) (sym (p.others m (eqb-false m i q))) ∙ e))
      by true q =
          let z : m ≡ i = eqb-true m i q in
          new z (slice_get-new (cells rs i) f k g (ap (λ r. slice_get r k) (sym p.there) ∙ ap (λ j. slice_get (cells qs j) k) (sym z) ∙ e))
        where
          new : m ≡ i → (slice_get (cells rs i) k ≡ Some g) ⊎ (g ≡ f) → IsKnown ts qs m g
          new z (inl h) = stays_known m g (a m k g (ap (λ j. slice_get (cells rs j) k) z ∙ h))
          new z (inr h) = subst (λ j. IsKnown ts qs j g) (sym z) (subst (IsKnown ts qs i) (sym h) n)

  -- a second one beside another
  pub put_second : HasOther (seen ts rs) i f.item f.end (trees_at ts f.trees.items) → Full (seen ts qs) i f.item f.end
  put_second h = (h.0, trees_at ts f.trees.items, has_stays (seen ts rs) (seen ts qs) i put_grows i f.item f.end h.0 h.1, put_has, h.2)

cells_set : (rs : List Row) (i m : ℕ) (r : Row) → m ≢ i → cells (set rs i r) m ≡ cells rs m
cells_set [] i m r h = refl
cells_set (q ∷ rs) zero zero r h = absurd (h refl)
cells_set (q ∷ rs) zero (suc m) r h = refl
cells_set (q ∷ rs) (suc i) zero r h = refl
cells_set (q ∷ rs) (suc i) (suc m) r h = cells_set rs i m r (λ e. h (ap suc e))

cells_set_at : (rs : List Row) (i : ℕ) (r : Row) → i < length rs → cells (set rs i r) i ≡ r.facts.items
cells_set_at [] i r h = absurd (omega arith)
cells_set_at (q ∷ rs) zero r h = refl
cells_set_at (q ∷ rs) (suc i) r h = cells_set_at rs i r (omega arith)

pub put_row : (rs : List Row) (i : ℕ) (q r : Row) (f : Fact) → i < length rs → q ≡ get_or rs i q → r.facts.items ≡ q.facts.items ++ f ∷ [] → Put rs (set rs i r) i f
put_row rs i q r f h e g = record {
  rows = length-set rs i r;
  others = λ m n. cells_set rs i m r n;
  there = cells_set_at rs i r h ∙ g ∙ ap (λ fs. fs ++ f ∷ []) (sym (cells_at rs i q h e));
}

-- a store that has more
at_left : (ts us : List Tree) (i : ℕ) → i < length ts → tree_at (ts ++ us) i ≡ tree_at ts i
at_left [] us i h = absurd (omega arith)
at_left (t ∷ ts) us zero h = refl
at_left (t ∷ ts) us (suc i) h = at_left ts us i (omega arith)

pub trees_left : (ts us : List Tree) (is : List TermId) → AllBelow (length ts) is → trees_at (ts ++ us) is ≡ trees_at ts is
trees_left ts us [] h = refl
trees_left ts us (i ∷ is) h = ap₂ (λ v w. v ∷ w) (at_left ts us i.0 h.0) (trees_left ts us is h.1)

below_more : (m n : ℕ) (is : List TermId) → m ≤ n → AllBelow m is → AllBelow n is
below_more m n [] l h = tt
below_more m n (i ∷ is) l h = (omega (arith, l, h.0), below_more m n is l h.1)

seen_same : (ts us : List Tree) (fs : List Fact) → ((k : ℕ) (f : Fact) → slice_get fs k ≡ Some f → AllBelow (length ts) f.trees.items) → map (edge_of (ts ++ us)) fs ≡ map (edge_of ts) fs
seen_same ts us [] h = refl
seen_same ts us (f ∷ fs) h = ap₂ (λ x y. edge f.item f.end x ∷ y) (trees_left ts us f.trees.items (h 0 f refl)) (seen_same ts us fs (λ k g e. h (suc k) g e))

pub more_same : (ts us : List Tree) (rs : List Row) → AreKnown ts rs → (m : ℕ) → seen (ts ++ us) rs m ≡ seen ts rs m
more_same ts us rs a m = seen_same ts us (cells rs m) (λ k f e. (a m k f e).below)

pub more_known : (ts us : List Tree) (rs : List Row) → AreKnown ts rs → AreKnown (ts ++ us) rs
more_known ts us rs a i k f e = record {
  below = below_more (length ts) (length (ts ++ us)) f.trees.items (omega (arith, length-append ts us)) (a i k f e).below;
  second = λ s. (
      let g = (a i k f e).second s in
      has_same (seen ts rs) (seen (ts ++ us) rs) i (more_same ts us rs a) f.item f.end g
      );
}
  where
    has_same : (old new : ℕ → List Edge) (i : ℕ) → IsSame old new → (it : Item) (e : ℕ) → Full old i it e → Full new i it e
    has_same old new i s it e g =
        (g.0, g.1, (g.2.0, ap (λ r. slice_get r g.2.0) (s i) ∙ g.2.1), (g.3.0, ap (λ r. slice_get r g.3.0) (s i) ∙ g.3.1), g.4)

pub seen_at : (ts : List Tree) (fs : List Fact) (k : ℕ) (f : Edge) (g : Fact) → slice_get fs k ≡ Some g → slice_get (map (edge_of ts) fs) k ≡ Some f → edge_of ts g ≡ f
seen_at ts fs k f g e h = one (edge_of ts g) f (sym (slice_get-seen ts fs k g e) ∙ h)
  where
    one : (x y : Edge) → Some x ≡ Some y → x ≡ y
    one x y e = cc

pub cells_push : (rs : List Row) (r : Row) → r.facts.items ≡ [] → ((i : ℕ) → cells rs i ≡ []) → (i : ℕ) → cells (rs ++ r ∷ []) i ≡ []
cells_push [] r e h zero = e
cells_push [] r e h (suc i) = refl
cells_push (q ∷ rs) r e h zero = h zero
cells_push (q ∷ rs) r e h (suc i) = cells_push rs r e (λ j. h (suc j)) i

pub length_push : (rs : List Row) (r : Row) → length (rs ++ r ∷ []) ≡ length rs + 1
length_push rs r = omega (arith, length-append rs (r ∷ []))
