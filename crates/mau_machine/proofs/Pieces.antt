-- Pieces of events, one for each frame and one for the task at hand.
use Rattle.std.proofs.Common.{◌≡◌, ℕ, ◌+◌, List, [], ◌∷◌, ◌++◌, length, refl, sym, ◌∙◌, ap, subst, arith, append_assoc, append-nil, length-append}
use Rattle.mau_store.specs.Node.{Node}
use Rattle.mau_sorts.specs.Table.{Table}
use Rattle.mau_api.specs.Events.{Event}
use Rattle.mau_api.specs.Told.{steps_in}
use Rattle.mau_machine.specs.Words.{Words}
use Rattle.mau_machine.specs.Telling.{Job, Counts, counted_on, TellsTask, TellsFrame, Tells}
use Rattle.mau_machine.specs.declared.frame.Frame.{Frame}
use Rattle.mau_machine.specs.declared.frame.Control.{Control}

longer : (k n a b : ℕ) → k ≡ n + (a + b) → k ≡ n + a + b
longer k n a b h = omega (arith, h)

-- so many events stand before a piece and in it
behind : (k n : ℕ) (es xs ys : List Event) → k ≡ n + length es → es ≡ xs ++ ys → k ≡ n + length xs + length ys
behind k n es xs ys h e = longer k n (length xs) (length ys) (h ∙ ap (λ m. n + m) (ap length e ∙ length-append xs ys))

module _ {A C S D : Type 0} (w : Words A C S D) (nodes : List Node) (table : Table) where
  -- the task goes on to another one
  pub told_on : (n m : ℕ) (J : Job) (fs : List (Frame A C S D)) (c d : Control A C S D) (r q : ℕ) (es new : List Event) →
      ((J : Job) (m : ℕ) (ys : List Event) → TellsTask w nodes table J c ys → Counts c r (m + steps_in ys) → TellsTask w nodes table J d (ys ++ new) × Counts d q (m + steps_in (ys ++ new))) →
      Tells w nodes table n m J fs c r es → Tells w nodes table n m J fs d q (es ++ new)
  told_on n m J [] c d r q es new h t = h J m es t.0 t.1
  told_on n m J (f ∷ fs) c d r q es new h t =
      (t.0, t.1 ++ new, t.2, ap (λ z. z ++ new) t.3 ∙ append_assoc t.0 t.1 new, t.4, told_on (n + length t.0) (counted_on f m t.0) t.2 fs c d r q t.1 new h t.5)

  -- a frame begins to wait
  pub told_pushed : (n m : ℕ) (J : Job) (fs : List (Frame A C S D)) (f : Frame A C S D) (c d : Control A C S D) (r q k : ℕ) (es new : List Event) →
      ((n m : ℕ) (J : Job) (ys : List Event) → k ≡ n + length ys → TellsTask w nodes table J c ys → Counts c r (m + steps_in ys) →
      (K : Job) × TellsFrame w nodes table n m J f (ys ++ new) K × TellsTask w nodes table K d [] × Counts d q (counted_on f m (ys ++ new) + 0)) →
      k ≡ n + length es → Tells w nodes table n m J fs c r es → Tells w nodes table n m J (fs ++ f ∷ []) d q (es ++ new)
  told_pushed n m J [] f c d r q k es new h e t = let x = h n m J es e t.0 t.1 in (es ++ new, [], x.0, sym (append-nil (es ++ new)), x.1, (x.2, x.3))
  told_pushed n m J (g ∷ fs) f c d r q k es new h e t = (
    t.0,
    t.1 ++ new,
    t.2,
    ap (λ z. z ++ new) t.3 ∙ append_assoc t.0 t.1 new,
    t.4,
    told_pushed (n + length t.0) (counted_on g m t.0) t.2 fs f c d r q k t.1 new h (behind k n es t.0 t.1 e t.3) t.5,
  )

  -- the last frame goes on
  pub told_popped : (n m : ℕ) (J : Job) (fs : List (Frame A C S D)) (f : Frame A C S D) (c d : Control A C S D) (r q : ℕ) (es new : List Event) →
      ((n m : ℕ) (J K : Job) (xs ys : List Event) → TellsFrame w nodes table n m J f xs K → TellsTask w nodes table K c ys → Counts c r (counted_on f m xs + steps_in ys) →
      TellsTask w nodes table J d ((xs ++ ys) ++ new) × Counts d q (m + steps_in ((xs ++ ys) ++ new))) →
      Tells w nodes table n m J (fs ++ f ∷ []) c r es → Tells w nodes table n m J fs d q (es ++ new)
  told_popped n m J [] f c d r q es new h t =
      subst (λ z. TellsTask w nodes table J d (z ++ new) × Counts d q (m + steps_in (z ++ new))) (sym t.3) (h n m J t.2 t.0 t.1 t.4 t.5.0 t.5.1)
  told_popped n m J (g ∷ fs) f c d r q es new h t =
      (t.0, t.1 ++ new, t.2, ap (λ z. z ++ new) t.3 ∙ append_assoc t.0 t.1 new, t.4, told_popped (n + length t.0) (counted_on g m t.0) t.2 fs f c d r q t.1 new h t.5)

  -- the last frame waits on as another one
  pub told_swapped : (n m : ℕ) (J : Job) (fs : List (Frame A C S D)) (f g : Frame A C S D) (c d : Control A C S D) (r q : ℕ) (es new : List Event) →
      ((n m : ℕ) (J K : Job) (xs ys : List Event) → TellsFrame w nodes table n m J f xs K → TellsTask w nodes table K c ys → Counts c r (counted_on f m xs + steps_in ys) →
      (L : Job) × TellsFrame w nodes table n m J g ((xs ++ ys) ++ new) L × TellsTask w nodes table L d [] × Counts d q (counted_on g m ((xs ++ ys) ++ new) + 0)) →
      Tells w nodes table n m J (fs ++ f ∷ []) c r es → Tells w nodes table n m J (fs ++ g ∷ []) d q (es ++ new)
  told_swapped n m J [] f g c d r q es new h t =
      let x = h n m J t.2 t.0 t.1 t.4 t.5.0 t.5.1 in
      ((t.0 ++ t.1) ++ new, [], x.0, ap (λ z. z ++ new) t.3 ∙ sym (append-nil ((t.0 ++ t.1) ++ new)), x.1, (x.2, x.3))
  told_swapped n m J (h ∷ fs) f g c d r q es new k t =
      (t.0, t.1 ++ new, t.2, ap (λ z. z ++ new) t.3 ∙ append_assoc t.0 t.1 new, t.4, told_swapped (n + length t.0) (counted_on h m t.0) t.2 fs f g c d r q t.1 new k t.5)

  -- what was told since a mark of the last frame is taken back
  pub told_back : (n m : ℕ) (J : Job) (fs : List (Frame A C S D)) (f : Frame A C S D) (c d : Control A C S D) (r q k : ℕ) (es : List Event) →
      ((n m : ℕ) (J K : Job) (xs : List Event) → TellsFrame w nodes table n m J f xs K → (k ≡ n + length xs) × TellsTask w nodes table J d xs × Counts d q (m + steps_in xs)) →
      Tells w nodes table n m J (fs ++ f ∷ []) c r es →
      (kept : List Event) × (more : List Event) × (es ≡ kept ++ more) × (k ≡ n + length kept) × Tells w nodes table n m J fs d q kept
  told_back n m J [] f c d r q k es h t = let x = h n m J t.2 t.0 t.4 in (t.0, t.1, t.3, x.0, (x.1, x.2))
  told_back n m J (g ∷ fs) f c d r q k es h t =
      let x = told_back (n + length t.0) (counted_on g m t.0) t.2 fs f c d r q k t.1 h t.5 in
      (t.0 ++ x.0, x.1, t.3 ∙ (ap (λ z. t.0 ++ z) x.2 ∙ sym (append_assoc t.0 x.0 x.1)), x.3 ∙ shorter (length t.0) (length x.0) (length (t.0 ++ x.0)) (length-append t.0 x.0), (t.0, x.0, t.2, refl, t.4, x.4))
    where
      shorter : (a b s : ℕ) → s ≡ a + b → n + a + b ≡ n + s
      shorter a b s e = omega (arith, e)
