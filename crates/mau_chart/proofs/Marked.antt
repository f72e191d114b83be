-- Marks, where the table grows or one more end is marked.
use Rattle.std.proofs.Common.{◌≡◌, ℕ, ◌<◌, ◌≤◌, List, [], ◌∷◌, ◌++◌, set, length, Bool, Some, true, false, get_or, ◌⊎◌, inl, inr, eqb, eqb-true, refl, sym, ◌∙◌, ap, subst}
use Rattle.std.specs.List.{slice_get}
use Rattle.std.proofs.lemmas.Bool.{eqb-false, cases_lt}
use Rattle.mau_chart.specs.declared.grammar.Item.{Item}
use Rattle.mau_chart.specs.declared.places.Place.{Place}
use Rattle.mau_chart.specs.declared.places.Mark.{Mark}
use Rattle.mau_chart.specs.Chart.{Edge, Full, Grows, IsAmong, place_of}
use Rattle.mau_chart.specs.Marks.{IsMarked, AllMarked}
use Rattle.mau_chart.proofs.Grows.{slice_get-new, full_stays}
use Rattle.mau_chart.proofs.Grouped.{slice_get-set, slice_get-set_other}
use Rattle.mau_chart.proofs.Step.{some_one}

pub marked_stays : (a b : ℕ → List Edge) (i : ℕ) (m : Mark) → Grows a b i → IsMarked a m → IsMarked b m
marked_stays a b i m g h e k = full_stays a b i g m.row m.item e (h e k)

pub all_marked_stay : (a b : ℕ → List Edge) (i : ℕ) (ms : List Mark) → Grows a b i → AllMarked a ms → AllMarked b ms
all_marked_stay a b i ms g h s m e = marked_stays a b i m g (h s m e)

-- one more end, where two facts are there
pub marked_more : (rows : ℕ → List Edge) (i : ℕ) (it : Item) (end : ℕ) (old new : Mark) → old.row ≡ i → old.item ≡ it → new.row ≡ old.row → new.item ≡ old.item → ((e : ℕ) → get_or new.full.items e false ≡ true → (get_or old.full.items e false ≡ true) ⊎ (e ≡ end)) → Full rows i it end → IsMarked rows old → IsMarked rows new
marked_more rows i it end old new er ei nr ni full there marked e h = by (full e h)
  where
    by : (get_or old.full.items e false ≡ true) ⊎ (e ≡ end) → Full rows new.row new.item e
    by (inl k) = subst (λ r. Full rows r new.item e) (sym nr) (subst (λ t. Full rows old.row t e) (sym ni) (marked e k))
    by (inr k) = subst (λ r. Full rows r new.item e) (sym (nr ∙ er)) (subst (λ t. Full rows i t e) (sym (ni ∙ ei)) (subst (Full rows i it) (sym k) there))

-- a mark that is as it was, or marks nothing
pub turned_marked : (rows : ℕ → List Edge) (old new : Mark) → (new ≡ old) ⊎ ((e : ℕ) → get_or new.full.items e false ≡ false) → IsMarked rows old → IsMarked rows new
turned_marked rows old new (inl e) h = subst (IsMarked rows) (sym e) h
turned_marked rows old new (inr f) h = λ e k. absurd (let z : false ≡ true = sym (f e) ∙ k in cc)

-- one of the marks is another one
pub set_marked : (rows : ℕ → List Edge) (ms : List Mark) (w : ℕ) (m : Mark) → w < length ms → IsMarked rows m → AllMarked rows ms → AllMarked rows (set ms w m)
set_marked rows ms w m l h a s n e = by (eqb s w) refl
  where
    by : (t : Bool) → eqb s w ≡ t → IsMarked rows n
    by true q = subst (IsMarked rows) (some_one m n (sym (slice_get-set ms w m l) ∙ ap (slice_get (set ms w m)) (sym (eqb-true s w q)) ∙ e)) h
    by false q = a s n (sym (slice_get-set_other ms w s m (eqb-false s w q)) ∙ e)

-- of places that are marked
pub among_marked : (rows : ℕ → List Edge) (mark : Mark) (i : ℕ) (it part : Item) (places : List Place) (from to : ℕ) → mark.row ≡ i → mark.item ≡ it → IsMarked rows mark → ((y : ℕ) (p : Place) → from ≤ y → y < to → slice_get places y ≡ Some p → get_or mark.full.items p.end false ≡ true) → (y : ℕ) (g : Edge) → IsAmong places part to y g → IsAmong places part from y g ⊎ ((g.item ≡ part) × Full rows i it g.end)
among_marked rows mark i it part places from to er ei marked full y g a = by (cases_lt a.0.0 from)
  where
    by : (a.0.0 < from) ⊎ (from ≤ a.0.0) → IsAmong places part from y g ⊎ ((g.item ≡ part) × Full rows i it g.end)
    by (inl l) = inl ((a.0.0, l, a.0.2), a.1)
    by (inr l) = inr (a.1, subst (λ r. Full rows r it g.end) er (subst (λ t. Full rows mark.row t g.end) ei (marked g.end (full a.0.0 (place_of y g) l a.0.1 a.0.2))))

-- one more that marks nothing
pub pushed_marked : (rows : ℕ → List Edge) (ms : List Mark) (m : Mark) → m.full.items ≡ [] → AllMarked rows ms → AllMarked rows (ms ++ m ∷ [])
pushed_marked rows ms m none a s n e = by (slice_get-new ms m s n e)
  where
    by : (slice_get ms s ≡ Some n) ⊎ (n ≡ m) → IsMarked rows n
    by (inl h) = a s n h
    by (inr h) = λ j k. absurd (let z : false ≡ true = sym (ap (λ v. get_or v.full.items j false) h ∙ ap (λ fs. get_or fs j false) none) ∙ k in cc)
