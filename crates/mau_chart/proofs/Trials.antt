-- What comes of one step, for the whole table.
use Rattle.std.proofs.Common.{◌≡◌, ◌≢◌, ℕ, zero, suc, ◌+◌, ◌<◌, ◌≤◌, List, [], ◌∷◌, ◌++◌, length, get_or, drop, Bool, true, false, Option, Some, None, ◌⊎◌, inl, inr, refl, sym, ◌∙◌, ap, subst, arith, eqb, eqb-true}
use Rattle.std.specs.List.{slice_get}
use Rattle.std.proofs.lemmas.Bool.{eqb-false}
use Rattle.std.proofs.lemmas.Option.{slice_get-get_or, slice_get_within}
use Rattle.mau_terms.specs.declared.ids.OpId.{OpId}
use Rattle.mau_chart.specs.declared.grammar.Piece.{Piece}
use Rattle.mau_chart.specs.declared.grammar.Production.{Production}
use Rattle.mau_chart.specs.declared.grammar.Leaf.{Leaf}
use Rattle.mau_chart.specs.declared.grammar.Item.{Item}
use Rattle.mau_chart.specs.declared.grammar.Item.TheVariants.{Whole, Part}
use Rattle.mau_chart.specs.Reads.{made, Reads, form_read, Spells, piece_spelled}
use Rattle.mau_chart.specs.Chart.{Edge, edge, Full, Covers, Offered, Grows, Steps, Lifts, Joined, Lifted, Completed, Combined, IsOne, StepsOnly, Processed, IsRight, IsSound, AreSound, AreLeaves, AreForms, IsDone, Wants}
use Rattle.mau_chart.specs.declared.places.Group.{Group}
use Rattle.mau_chart.specs.Groups.{AreGrouped, IsGrouped}
use Rattle.mau_chart.proofs.Grows.{slice_get-new, offered_grows, grows_not, grows_on, place_stays, covers_stay}
use Rattle.mau_chart.proofs.Step.{some_one}
use Rattle.mau_chart.proofs.Complete.{reads_forth, reads_within}

pub offered_sound : (ps : List Production) (ls : List Leaf) (old new : ℕ → List Edge) (i : ℕ) (f : Edge) → Offered old new i f → IsSound ps ls i f → AreSound ps ls old → AreSound ps ls new
offered_sound ps ls old new i f o s a m k g e = by (eqb m i) refl
  where
    by : (t : Bool) → eqb m i ≡ t → IsSound ps ls m g
    by false q = a m k g (ap (λ r. slice_get r k) (sym (o.others m (eqb-false m i q))) ∙ e)
    by true q =
        let z : m ≡ i = eqb-true m i q in
        now z o.more
      where
        last : m ≡ i → (slice_get (old i) k ≡ Some g) ⊎ (g ≡ f) → IsSound ps ls m g
        last z (inl h) = a m k g (ap (λ j. slice_get (old j) k) z ∙ h)
        last z (inr h) = subst (λ j. IsSound ps ls j g) (sym z) (subst (IsSound ps ls i) (sym h) s)

        now : m ≡ i → (new i ≡ old i) ⊎ (new i ≡ old i ++ f ∷ []) → IsSound ps ls m g
        now z (inl h) = a m k g (ap (λ j. slice_get (old j) k) z ∙ ap (λ r. slice_get r k) (sym h) ∙ ap (λ j. slice_get (new j) k) (sym z) ∙ e)
        now z (inr h) = last z (slice_get-new (old i) f k g (ap (λ r. slice_get r k) (sym h) ∙ ap (λ j. slice_get (new j) k) (sym z) ∙ e))

drop_at : (cs : List Piece) (d : ℕ) (c : Piece) → slice_get cs d ≡ Some c → drop d cs ≡ c ∷ drop (suc d) cs
drop_at [] d c e = absurd (none e)
  where
    none : ◌≡◌ {A = Option Piece} None (Some c) → ⊥
    none e = cc
drop_at (b ∷ cs) zero c e = ap (λ z. z ∷ cs) (some_one b c e)
drop_at (b ∷ cs) (suc d) c e = drop_at cs d c e

pub step_sound : (ps : List Production) (ls : List Leaf) (i : ℕ) (f g : Edge) (to : Item) → Steps ps f.item g.item to → IsSound ps ls i f → IsSound ps ls f.end g → IsSound ps ls i (edge to g.end (f.trees ++ g.trees))
step_sound ps ls i f g to s a b =
    let whole : Reads ps ls s.piece.kind s.level i f.end f.trees = subst (λ it. IsRight ps ls i it f.end f.trees) s.whole a in
    let part : IsRight ps ls f.end (Part s.number (suc s.dot)) g.end g.trees = subst (λ it. IsRight ps ls f.end it g.end g.trees) s.part b in
    subst (λ it. IsRight ps ls i it g.end (f.trees ++ g.trees)) (sym s.longer) (longer whole part)
  where
    longer : Reads ps ls s.piece.kind s.level i f.end f.trees → IsRight ps ls f.end (Part s.number (suc s.dot)) g.end g.trees → IsRight ps ls i (Part s.number s.dot) g.end (f.trees ++ g.trees)
    longer x y p e =
        let z : s.form ≡ p = some_one s.form p (sym s.its ∙ e) in
        let there : slice_get p.pieces.items s.dot ≡ Some s.piece = ap (λ q. slice_get q.pieces.items s.dot) (sym z) ∙ s.there in
        subst (λ cs. Spells ps ls cs i g.end (f.trees ++ g.trees)) (sym (drop_at p.pieces.items s.dot s.piece there)) (piece_spelled s.piece (drop (suc s.dot) p.pieces.items) s.level x s.upto (y p e))

pub lift_sound : (ps : List Production) (ls : List Leaf) (i : ℕ) (f : Edge) (to : Item) (o : Option OpId) → Lifts ps f.item to o → IsSound ps ls i f → IsSound ps ls i (edge to f.end (made o f.trees))
lift_sound ps ls i f to o s a =
    let part : IsRight ps ls i (Part s.number 0) f.end f.trees = subst (λ it. IsRight ps ls i it f.end f.trees) s.part a in
    subst (λ it. IsRight ps ls i it f.end (made o f.trees)) (sym s.whole) (subst (λ x. Reads ps ls s.form.kind s.form.level i f.end (made x f.trees)) (sym s.op) (form_read s.number s.form s.its (part s.form s.its)))

-- ---- a fact before other facts

pub combined_none : (ps : List Production) (ls : List Leaf) (old : ℕ → List Edge) (i k m : ℕ) (P : ℕ → Edge → Type 0) → ((x : ℕ) (f g : Edge) (to : Item) → slice_get (old i) k ≡ Some f → slice_get (old m) x ≡ Some g → P x g → Steps ps f.item g.item to → Wants ps ls i to → ⊥) → Combined ps ls old old i k m P
combined_none ps ls old i k m P never = record {
  grows = grows_not old i;
  sound = λ f e q s. s;
  covers = λ x f g to ef eg p s w. absurd (never x f g to ef eg p s w);
}

pub combined_join : (ps : List Production) (ls : List Leaf) (old new : ℕ → List Edge) (i k m x : ℕ) (a b : Edge) (part it : Item) → slice_get (old i) k ≡ Some a → slice_get (old m) x ≡ Some b → b.item ≡ part → ((f : Edge) → slice_get (old i) k ≡ Some f → Steps ps f.item part it) → StepsOnly ps ls old i k part it → Joined old new i k m x it → Combined ps ls old new i k m (IsOne x part)
combined_join ps ls old new i k m x a b part it ea eb ep step only o = record {
  grows = offered_grows old new i (edge it b.end (a.trees ++ b.trees)) offered;
  sound = λ f e q s. offered_sound ps ls old new i (edge it b.end (a.trees ++ b.trees)) offered (step_sound ps ls i a b it its (s i k a ea) (subst (λ j. IsSound ps ls j b) (sym (ap (λ z. z.end) (some_one a f (sym ea ∙ e)) ∙ q)) (s m x b eb))) s;
  covers = λ y f g to ef eg p s w. (
      let eg' : slice_get (old m) x ≡ Some g = ap (slice_get (old m)) (sym p.0) ∙ eg in
      let t : it ≡ to = only f to ef (subst (λ z. Steps ps f.item z to) p.1 s) w in
      subst (λ z. Covers new i to z.end (f.trees ++ z.trees)) (same_b g eg') (subst (λ z. Covers new i to b.end (z.trees ++ b.trees)) (same_a f ef) (subst (λ z. Covers new i z b.end (a.trees ++ b.trees)) t offered.covers))
      );
}
  where
    its : Steps ps a.item b.item it
    its = subst (λ z. Steps ps a.item z it) (sym ep) (step a ea)

    offered : Offered old new i (edge it b.end (a.trees ++ b.trees))
    offered = o a b ea eb

    same_a : (f : Edge) → slice_get (old i) k ≡ Some f → a ≡ f
    same_a f e = some_one a f (sym ea ∙ e)

    same_b : (g : Edge) → slice_get (old m) x ≡ Some g → b ≡ g
    same_b g e = some_one b g (sym eb ∙ e)

pub completed_none : (ps : List Production) (old : ℕ → List Edge) (i k : ℕ) (a : Edge) → slice_get (old i) k ≡ Some a → ((to : Item) (o : Option OpId) → Lifts ps a.item to o → ⊥) → Completed ps old old i k
completed_none ps old i k a ea never = record {
  grows = grows_not old i;
  sound = λ ls s. s;
  covers = λ f to o ef s. absurd (never to o (subst (λ z. Lifts ps z.item to o) (some_one f a (sym ef ∙ ea)) s));
}

pub completed_lift : (ps : List Production) (old new : ℕ → List Edge) (i k : ℕ) (a : Edge) (it : Item) (o : Option OpId) → slice_get (old i) k ≡ Some a → Lifts ps a.item it o → ((to : Item) (u : Option OpId) → Lifts ps a.item to u → (it ≡ to) × (o ≡ u)) → Lifted old new i k it o → Completed ps old new i k
completed_lift ps old new i k a it o ea lift only l = record {
  grows = offered_grows old new i (edge it a.end (made o a.trees)) offered;
  sound = λ ls s. offered_sound ps ls old new i (edge it a.end (made o a.trees)) offered (lift_sound ps ls i a it o lift (s i k a ea)) s;
  covers = λ f to u ef s. (
      let e : a ≡ f = some_one a f (sym ea ∙ ef) in
      let h = only to u (subst (λ z. Lifts ps z.item to u) (sym e) s) in
      subst (λ z. Covers new i to z.end (made u z.trees)) e (subst (λ z. Covers new i to a.end (made z a.trees)) h.1 (subst (λ z. Covers new i z a.end (made o a.trees)) h.0 offered.covers))
      );
}
  where
    offered : Offered old new i (edge it a.end (made o a.trees))
    offered = l a ea

-- a fact is one of the old ones, where its place was there
pub old_place : (old new : ℕ → List Edge) (i : ℕ) → Grows old new i → (k : ℕ) (f : Edge) → k < length (old i) → slice_get (new i) k ≡ Some f → slice_get (old i) k ≡ Some f
old_place old new i g k f h e =
    let a = slice_get-get_or (old i) k f h in
    a ∙ ap Some (some_one (get_or (old i) k f) f (sym (place_stays old new i g i k (get_or (old i) k f) a) ∙ e))

-- a fact of the row i stays what it is, and so does how it goes before a part
pub steps_only_stays : (ps : List Production) (ls : List Leaf) (old new : ℕ → List Edge) (i k : ℕ) (part it : Item) → Grows old new i → k < length (old i) → StepsOnly ps ls old i k part it → StepsOnly ps ls new i k part it
steps_only_stays ps ls old new i k part it g h o f to e s w = o f to (old_place old new i g k f h e) s w

pub combined_on : (ps : List Production) (ls : List Leaf) (old mid new : ℕ → List Edge) (i k m : ℕ) (P Q R : ℕ → Edge → Type 0) → m ≢ i → ((x : ℕ) (g : Edge) → R x g → P x g ⊎ Q x g) → Combined ps ls old mid i k m P → Combined ps ls mid new i k m Q → Combined ps ls old new i k m R
combined_on ps ls old mid new i k m P Q R other parts c t = record {
  grows = grows_on old mid new i c.grows t.grows;
  sound = λ f e q s. t.sound f (place_stays old mid i c.grows i k f e) q (c.sound f e q s);
  covers = λ x f g to ef eg r s w. by x f g to ef eg s w (parts x g r);
}
  where
    by : (x : ℕ) (f g : Edge) (to : Item) → slice_get (old i) k ≡ Some f → slice_get (old m) x ≡ Some g → Steps ps f.item g.item to → Wants ps ls i to → P x g ⊎ Q x g → Covers new i to g.end (f.trees ++ g.trees)
    by x f g to ef eg s w (inl p) = covers_stay mid new i t.grows i to g.end (f.trees ++ g.trees) (c.covers x f g to ef eg p s w)
    by x f g to ef eg s w (inr q) = t.covers x f g to (place_stays old mid i c.grows i k f ef) (place_stays old mid i c.grows m x g eg) q s w

-- of more of these facts, where two are there of each that comes of them
pub combined_full : (ps : List Production) (ls : List Leaf) (old new : ℕ → List Edge) (i k m : ℕ) (part it : Item) (P Q : ℕ → Edge → Type 0) → StepsOnly ps ls old i k part it → ((x : ℕ) (g : Edge) → Q x g → P x g ⊎ ((g.item ≡ part) × Full new i it g.end)) → Combined ps ls old new i k m P → Combined ps ls old new i k m Q
combined_full ps ls old new i k m part it P Q only parts c = record {
  grows = c.grows;
  sound = c.sound;
  covers = λ x f g to ef eg q s w. by x f g to ef eg s w (parts x g q);
}
  where
    by : (x : ℕ) (f g : Edge) (to : Item) → slice_get (old i) k ≡ Some f → slice_get (old m) x ≡ Some g → Steps ps f.item g.item to → Wants ps ls i to → P x g ⊎ ((g.item ≡ part) × Full new i it g.end) → Covers new i to g.end (f.trees ++ g.trees)
    by x f g to ef eg s w (inl p) = c.covers x f g to ef eg p s w
    by x f g to ef eg s w (inr h) = inr (subst (λ z. Full new i z g.end) (only f to ef (subst (λ z. Steps ps f.item z to) h.0 s) w) h.1)

no_part : (a b c d : ℕ) → Whole a b ≡ Part c d → ⊥
no_part a b c d e = cc

pub end_other : (ps : List Production) (ls : List Leaf) (n : ℕ) → AreLeaves ls n → AreForms ps → (rows : ℕ → List Edge) → AreSound ps ls rows → (i k : ℕ) (f : Edge) (a b : ℕ) → slice_get (rows i) k ≡ Some f → f.item ≡ Whole a b → i < f.end
end_other ps ls n al af rows s i k f a b e w = reads_forth ps ls n al af a b i f.end f.trees (subst (λ it. IsRight ps ls i it f.end f.trees) w (s i k f e))

pub end_within : (ps : List Production) (ls : List Leaf) (n : ℕ) → AreLeaves ls n → AreForms ps → (rows : ℕ → List Edge) → AreSound ps ls rows → (i k : ℕ) (f : Edge) (a b : ℕ) → slice_get (rows i) k ≡ Some f → f.item ≡ Whole a b → f.end ≤ n
end_within ps ls n al af rows s i k f a b e w = reads_within ps ls n al af a b i f.end f.trees (subst (λ it. IsRight ps ls i it f.end f.trees) w (s i k f e))

pub processed_whole : (ps : List Production) (ls : List Leaf) (old new : ℕ → List Edge) (i k m a b : ℕ) (f : Edge) (gs : List Group) → slice_get (old i) k ≡ Some f → f.item ≡ Whole a b → f.end ≡ m → m ≢ i → AreGrouped old m gs → Combined ps ls old new i k m (IsGrouped gs (length gs)) → Processed ps ls new i k
processed_whole ps ls old new i k m a b f gs e w em other grouped c = record {
  steps = λ h g x to eh eg s u. (
      let z : f ≡ h = some_one f h (sym (place_stays old new i c.grows i k f e) ∙ eh) in
      let hm : h.end ≡ m = ap (λ y. y.end) (sym z) ∙ em in
      let at : slice_get (old m) x ≡ Some g = ap (λ r. slice_get r x) (sym (c.grows.others m other)) ∙ ap (λ j. slice_get (new j) x) (sym hm) ∙ eg in
      let p = grouped x s.number s.dot g at s.part in
      c.covers x h g to (e ∙ ap Some z) at (p.0, p.1, slice_get_within gs p.0 p.2.group p.2.its, p.2) s u
      );
  wholes = λ h to o eh s. (
      let z : f ≡ h = some_one f h (sym (place_stays old new i c.grows i k f e) ∙ eh) in
      absurd (no_part a b s.number 0 (sym w ∙ ap (λ y. y.item) z ∙ s.part))
      );
}

pub processed_part : (ps : List Production) (ls : List Leaf) (old new : ℕ → List Edge) (i k a b : ℕ) (f : Edge) → slice_get (old i) k ≡ Some f → f.item ≡ Part a b → Completed ps old new i k → Processed ps ls new i k
processed_part ps ls old new i k a b f e w c = record {
  steps = λ h g x to eh eg s u. (
      let z : f ≡ h = some_one f h (sym (place_stays old new i c.grows i k f e) ∙ eh) in
      absurd (no_part s.piece.kind s.level a b (sym s.whole ∙ ap (λ y. y.item) (sym z) ∙ w))
      );
  wholes = λ h to o eh s. (
      let z : f ≡ h = some_one f h (sym (place_stays old new i c.grows i k f e) ∙ eh) in
      c.covers h to o (e ∙ ap Some z) s
      );
}

module _ (ps : List Production) (ls : List Leaf) (n : ℕ) (al : AreLeaves ls n) (af : AreForms ps) (old new : ℕ → List Edge) (i : ℕ) (g : Grows old new i) (sound : AreSound ps ls old) where
  -- what was processed is so when the row, or an earlier one, grows
  pub processed_stays : (h k : ℕ) → i ≤ h → k < length (old h) → Processed ps ls old h k → Processed ps ls new h k
  processed_stays h k le lt p = record {
    steps = λ f b x to ef eb s w. (
        let e0 = at_old f ef in
        let fo = end_other ps ls n al af old sound h k f s.piece.kind s.level e0 s.whole in
        covers_stay old new i g h to b.end (f.trees ++ b.trees) (p.steps f b x to e0 (ap (λ r. slice_get r x) (sym (g.others f.end (λ q. absurd (omega (arith, fo, le, q))))) ∙ eb) s w)
        );
    wholes = λ f to o ef s. covers_stay old new i g h to f.end (made o f.trees) (p.wholes f to o (at_old f ef) s);
  }
    where
      at_old : (f : Edge) → slice_get (new h) k ≡ Some f → slice_get (old h) k ≡ Some f
      at_old f e = by (eqb h i) refl
        where
          by : (t : Bool) → eqb h i ≡ t → slice_get (old h) k ≡ Some f
          by false q = ap (λ r. slice_get r k) (sym (g.others h (eqb-false h i q))) ∙ e
          by true q =
              let z : h ≡ i = eqb-true h i q in
              ap (λ j. slice_get (old j) k) z ∙ old_place old new i g k f (subst (λ j. k < length (old j)) z lt) (ap (λ j. slice_get (new j) k) (sym z) ∙ e)

  pub done_on : (k m : ℕ) → m ≡ k + 1 → k < length (old i) → IsDone ps ls old i k → Processed ps ls new i k → IsDone ps ls new i m
  done_on k m em lt d p j h = by (eqb j k) refl
    where
      by : (t : Bool) → eqb j k ≡ t → Processed ps ls new i j
      by true q = subst (Processed ps ls new i) (sym (eqb-true j k q)) p
      by false q =
          let x : j ≢ k = eqb-false j k q in
          processed_stays i j (omega arith) (omega (arith, h, em, x, lt)) (d j (omega (arith, h, em, x)))
