-- What frames and tasks have told, one step further.
use Rattle.std.proofs.Common.{◌≡◌, inl, ℕ, zero, suc, ◌+◌, ◌≤◌, ◌^◌, ◌-◌, min, List, [], ◌∷◌, ◌++◌, drop, length, set, Bool, true, false, Some, None, take, refl, sym, ◌∙◌, ap, subst, arith, append_assoc, append-nil, length-append, Result, Ok, Err, IfOk}
use Rattle.std.specs.Prelude.{slice_get, OnErr}
use Rattle.std.specs.Option.{option_map}
use Rattle.std.specs.List.{slice_set}
use Rattle.std.proofs.Math.Seq.{take-append_seam}
use Rattle.mau_terms.specs.Tree.{Tree, node}
use Rattle.mau_terms.specs.Norm.{norm, build}
use Rattle.mau_terms.specs.Subst.{instance}
use Rattle.mau_terms.specs.declared.ids.TermId.{TermId}
use Rattle.mau_signature.specs.Signature.{theory_at}
use Rattle.mau_store.specs.Node.{Node, Extends}
use Rattle.mau_sorts.specs.Table.{Table, KeepsEntries}
use Rattle.mau_terms.specs.declared.theory.Theory.{Theory}
use Rattle.mau_evaluation.specs.Run.{done, ended, too_deep, overflowed}
use Rattle.mau_evaluation.specs.Evaluation.{Binding, look_up, admitted, within_limits}
use Rattle.mau_api.specs.declared.results.EvalEnd.{EvalEnd}
use Rattle.mau_api.specs.declared.step.Place.TheVariants.{Whole, Argument, Fragment as OfFragment}
use Rattle.mau_api.specs.declared.step.Step.{Step}
use Rattle.mau_api.specs.Events.{Event, entered, left, made}
use Rattle.mau_api.specs.Terms.{IsNormalTerm}
use Rattle.mau_api.specs.Told.{step_in, StandsIn, steps_in, shown_count, TellsMore}
use Rattle.mau_api.proofs.ToldRuns.{steps-append}
use Rattle.mau_machine.specs.Uses.{IsUse}
use Rattle.mau_machine.specs.Words.{Words, Keeps, eval_on, IsExtension, trees, sort_in, rest_of, pattern_in, Asks, IsChoiceOf}
use Rattle.mau_machine.specs.Steps.{StayTold, TaskStays, IsSettledOn}
use Rattle.mau_machine.specs.Telling.{Job, evaluating, solving, Has, Runs, Shows, MayBegin, IsInRound, IsShown, IsMatched, StandsAs, IsSide, Counts, counted_on, TellsTask, HasEntered, TellsFrame, Tells, IsTelling}
use Rattle.mau_machine.specs.declared.goal.Goal.TheVariants as Goals
use Rattle.mau_machine.specs.declared.frame.Arguments.{Arguments}
use Rattle.mau_machine.specs.declared.frame.Trial.{Trial}
use Rattle.mau_machine.specs.declared.frame.Settled.{Settled}
use Rattle.mau_machine.specs.declared.frame.Condition.{Condition}
use Rattle.mau_machine.specs.declared.frame.Choosing.{Choosing}
use Rattle.mau_machine.specs.declared.frame.Frame.{Frame}
use Rattle.mau_machine.specs.declared.frame.Frame.TheVariants as Waiting
use Rattle.mau_machine.specs.declared.frame.Control.{Control}
use Rattle.mau_machine.specs.declared.frame.Control.TheVariants as Next
use Rattle.mau_machine.proofs.Pieces.{told_on, told_pushed, told_popped, told_swapped, told_back}
use Rattle.mau_machine.proofs.Later.{telling_later}
use Rattle.mau_machine.proofs.Tellings.{left_between, begun_runs, round_begun, round_next, round_built, again_told, equality_shown, sort_shown, match_shown, choice_shown, all_shown, none_shown, step_told, same_extends, extends_on}

-- ---- counts

shown_more : (r m a b : ℕ) → r ≡ shown_count (m + a) → b ≡ a → r ≡ shown_count (m + b)
shown_more r m a b h e = h ∙ ap (λ z. shown_count (m + z)) (sym e)

-- more that makes no step
pub same_count : (r m : ℕ) (es new : List Event) → r ≡ shown_count (m + steps_in es) → steps_in new ≡ 0 → r ≡ shown_count (m + steps_in (es ++ new))
same_count r m es new h z = shown_more r m (steps_in es) (steps_in (es ++ new)) h (steps-append es new ∙ by (steps_in es) (steps_in new) z)
  where
    by : (a b : ℕ) → b ≡ 0 → a + b ≡ a
    by a b e = omega (arith, e)

-- a piece and its end make the steps of what was waited for
pub piece_count : (r m : ℕ) (xs ys new : List Event) → r ≡ shown_count (m + steps_in xs + steps_in ys) → steps_in new ≡ 0 → r ≡ shown_count (m + steps_in ((xs ++ ys) ++ new))
piece_count r m xs ys new h z = h ∙ ap shown_count (by (steps_in xs) (steps_in ys) (steps_in new) (steps_in ((xs ++ ys) ++ new)) (steps-append (xs ++ ys) new ∙ ap (λ s. s + steps_in new) (steps-append xs ys)) z)
  where
    by : (a b c s : ℕ) → s ≡ a + b + c → c ≡ 0 → m + a + b ≡ m + s
    by a b c s e q = omega (arith, e, q)

-- as many are counted as a frame that waits begins with
pub at_frame : (q r m : ℕ) (es new : List Event) → q ≡ r → r ≡ shown_count (m + steps_in es) → steps_in new ≡ 0 → q ≡ shown_count (m + steps_in (es ++ new) + 0)
at_frame q r m es new i h z = (i ∙ same_count r m es new h z) ∙ ap shown_count (by (m + steps_in (es ++ new)))
  where
    by : (a : ℕ) → a ≡ a + 0
    by a = omega arith

pub at_swapped : (q r m : ℕ) (xs ys new : List Event) → q ≡ r → r ≡ shown_count (m + steps_in xs + steps_in ys) → steps_in new ≡ 0 → q ≡ shown_count (m + steps_in ((xs ++ ys) ++ new) + 0)
at_swapped q r m xs ys new i h z = (i ∙ piece_count r m xs ys new h z) ∙ ap shown_count (by (m + steps_in ((xs ++ ys) ++ new)))
  where
    by : (a : ℕ) → a ≡ a + 0
    by a = omega arith

sum_shown : (s p r a b G : ℕ) → s ≡ min (p + r) G → p ≡ min a G → r ≡ min b G → s ≡ min (a + b) G
sum_shown s p r a b G e f g = grind (arith, e, f, g)

more_shown : (s q a G : ℕ) → s ≡ min (q + 1) G → q ≡ min a G → s ≡ min (a + 1) G
more_shown s q a G e f = grind (arith, e, f)

-- a frame that counts apart adds its own count
pub apart_count : (s p r m : ℕ) (xs ys : List Event) → s ≡ min (p + r) (2 ^ 64 - 1) → p ≡ shown_count (m + steps_in xs) → r ≡ shown_count (0 + steps_in ys) → s ≡ shown_count (m + steps_in (xs ++ ys))
apart_count s p r m xs ys e f g =
    sum_shown s p r (m + steps_in xs) (0 + steps_in ys) (2 ^ 64 - 1) e f g ∙ ap shown_count (by (steps_in xs) (steps_in ys) (steps_in (xs ++ ys)) (steps-append xs ys))
  where
    by : (a b z : ℕ) → z ≡ a + b → m + a + (0 + b) ≡ m + z
    by a b z h = omega (arith, h)

-- and the step that is made
pub step_count : (s q p r m : ℕ) (xs ys : List Event) (x : Step) → q ≡ min (p + r) (2 ^ 64 - 1) → s ≡ min (q + 1) (2 ^ 64 - 1) → p ≡ shown_count (m + steps_in xs) → r ≡ shown_count (0 + steps_in ys) →
    s ≡ shown_count (m + steps_in ((xs ++ ys) ++ made x ∷ []))
step_count s q p r m xs ys x e e' f g =
    more_shown s q (m + steps_in (xs ++ ys)) (2 ^ 64 - 1) e' (apart_count q p r m xs ys e f g)
    ∙ ap shown_count (by (steps_in (xs ++ ys)) (steps_in ((xs ++ ys) ++ made x ∷ [])) (steps-append (xs ++ ys) (made x ∷ [])))
  where
    by : (a z : ℕ) → z ≡ a + 1 → m + a + 1 ≡ m + z
    by a z h = omega (arith, h)

-- ---- states

module _ {A C S D : Type 0} (w w' : Words A C S D) (k : Keeps w w') (old new : List Node) (x : Extends old new) (before after : Table) (kept : KeepsEntries before after) where
  -- the next task tells more
  pub stays_on : (fs : List (Frame A C S D)) (c d : Control A C S D) (r q : ℕ) (told told' more : List Event) → told' ≡ told ++ more →
      ((J : Job) (m : ℕ) (ys : List Event) → TellsTask w' new after J c ys → Counts c r (m + steps_in ys) → TellsTask w' new after J d (ys ++ more) × Counts d q (m + steps_in (ys ++ more))) →
      StayTold w w' old new before after fs c r told fs d q told'
  stays_on fs c d r q told told' more e h front J asked H t =
      let T = telling_later w w' k old new x before after kept front J fs c r told H.frames H.next t in
      record {
        events = T.events ++ more;
        is = e ∙ (ap (λ z. z ++ more) T.is ∙ append_assoc front T.events more);
        tells = told_on w' new after (length front) 0 J fs c d r q T.events more h T.tells;
      }

  -- it tells nothing more
  pub stays_same : (fs : List (Frame A C S D)) (c d : Control A C S D) (r q : ℕ) (told : List Event) →
      ((J : Job) (m : ℕ) (ys : List Event) → TellsTask w' new after J c ys → Counts c r (m + steps_in ys) → TellsTask w' new after J d ys × Counts d q (m + steps_in ys)) →
      StayTold w w' old new before after fs c r told fs d q told
  stays_same fs c d r q told h = stays_on fs c d r q told told [] (sym (append-nil told)) (λ J m ys t n. subst (λ z. TellsTask w' new after J d z × Counts d q (m + steps_in z)) (sym (append-nil ys)) (h J m ys t n))

  -- a frame begins to wait
  pub stays_pushed : (fs gs : List (Frame A C S D)) (f : Frame A C S D) (c d : Control A C S D) (r q mark : ℕ) (told told' more : List Event) → gs ≡ fs ++ f ∷ [] → mark ≡ length told → told' ≡ told ++ more →
      ((n m : ℕ) (J : Job) (ys : List Event) → mark ≡ n + length ys → TellsTask w' new after J c ys → Counts c r (m + steps_in ys) →
      (K : Job) × TellsFrame w' new after n m J f (ys ++ more) K × TellsTask w' new after K d [] × Counts d q (counted_on f m (ys ++ more) + 0)) →
      StayTold w w' old new before after fs c r told gs d q told'
  stays_pushed fs gs f c d r q mark told told' more p l e h front J asked H t =
      let T = telling_later w w' k old new x before after kept front J fs c r told H.frames H.next t in
      record {
        events = T.events ++ more;
        is = e ∙ (ap (λ z. z ++ more) T.is ∙ append_assoc front T.events more);
        tells = subst (λ z. Tells w' new after (length front) 0 J z d q (T.events ++ more)) (sym p)
            (told_pushed w' new after (length front) 0 J fs f c d r q mark T.events more h (l ∙ (ap length T.is ∙ length-append front T.events)) T.tells);
      }

  -- without a word
  pub stays_marked : (fs gs : List (Frame A C S D)) (f : Frame A C S D) (c d : Control A C S D) (r q mark : ℕ) (told : List Event) → gs ≡ fs ++ f ∷ [] → mark ≡ length told →
      ((n m : ℕ) (J : Job) (ys : List Event) → mark ≡ n + length ys → TellsTask w' new after J c ys → Counts c r (m + steps_in ys) →
      (K : Job) × TellsFrame w' new after n m J f ys K × TellsTask w' new after K d [] × Counts d q (counted_on f m ys + 0)) →
      StayTold w w' old new before after fs c r told gs d q told
  stays_marked fs gs f c d r q mark told p l h =
      stays_pushed fs gs f c d r q mark told told [] p l (sym (append-nil told)) (λ n m J ys e t i.
      subst (λ z. (K : Job) × TellsFrame w' new after n m J f z K × TellsTask w' new after K d [] × Counts d q (counted_on f m z + 0)) (sym (append-nil ys)) (h n m J ys e t i))

  -- the last frame goes on
  pub stays_popped : (fs gs : List (Frame A C S D)) (f : Frame A C S D) (c d : Control A C S D) (r q : ℕ) (told told' more : List Event) → fs ≡ gs ++ f ∷ [] → told' ≡ told ++ more →
      ((n m : ℕ) (J K : Job) (xs ys : List Event) → TellsFrame w' new after n m J f xs K → TellsTask w' new after K c ys → Counts c r (counted_on f m xs + steps_in ys) →
      TellsTask w' new after J d ((xs ++ ys) ++ more) × Counts d q (m + steps_in ((xs ++ ys) ++ more))) →
      StayTold w w' old new before after fs c r told gs d q told'
  stays_popped fs gs f c d r q told told' more p e h front J asked H t =
      let T = telling_later w w' k old new x before after kept front J fs c r told H.frames H.next t in
      record {
        events = T.events ++ more;
        is = e ∙ (ap (λ z. z ++ more) T.is ∙ append_assoc front T.events more);
        tells = told_popped w' new after (length front) 0 J gs f c d r q T.events more h (subst (λ z. Tells w' new after (length front) 0 J z c r T.events) p T.tells);
      }

  pub stays_popped_same : (fs gs : List (Frame A C S D)) (f : Frame A C S D) (c d : Control A C S D) (r q : ℕ) (told : List Event) → fs ≡ gs ++ f ∷ [] →
      ((n m : ℕ) (J K : Job) (xs ys : List Event) → TellsFrame w' new after n m J f xs K → TellsTask w' new after K c ys → Counts c r (counted_on f m xs + steps_in ys) →
      TellsTask w' new after J d (xs ++ ys) × Counts d q (m + steps_in (xs ++ ys))) →
      StayTold w w' old new before after fs c r told gs d q told
  stays_popped_same fs gs f c d r q told p h =
      stays_popped fs gs f c d r q told told [] p (sym (append-nil told)) (λ n m J K xs ys a b i.
      subst (λ z. TellsTask w' new after J d z × Counts d q (m + steps_in z)) (sym (append-nil (xs ++ ys))) (h n m J K xs ys a b i))

  -- the last frame waits on as another one
  pub stays_swapped : (fs gs hs : List (Frame A C S D)) (f g : Frame A C S D) (c d : Control A C S D) (r q : ℕ) (told told' more : List Event) → fs ≡ hs ++ f ∷ [] → gs ≡ hs ++ g ∷ [] → told' ≡ told ++ more →
      ((n m : ℕ) (J K : Job) (xs ys : List Event) → TellsFrame w' new after n m J f xs K → TellsTask w' new after K c ys → Counts c r (counted_on f m xs + steps_in ys) →
      (L : Job) × TellsFrame w' new after n m J g ((xs ++ ys) ++ more) L × TellsTask w' new after L d [] × Counts d q (counted_on g m ((xs ++ ys) ++ more) + 0)) →
      StayTold w w' old new before after fs c r told gs d q told'
  stays_swapped fs gs hs f g c d r q told told' more p p' e h front J asked H t =
      let T = telling_later w w' k old new x before after kept front J fs c r told H.frames H.next t in
      record {
        events = T.events ++ more;
        is = e ∙ (ap (λ z. z ++ more) T.is ∙ append_assoc front T.events more);
        tells = subst (λ z. Tells w' new after (length front) 0 J z d q (T.events ++ more)) (sym p')
            (told_swapped w' new after (length front) 0 J hs f g c d r q T.events more h (subst (λ z. Tells w' new after (length front) 0 J z c r T.events) p T.tells));
      }

-- ---- what is taken back

module _ {A C S D : Type 0} (w : Words A C S D) (nodes : List Node) (table : Table) where
  marked : (front es kept more : List Event) (mark : ℕ) → es ≡ kept ++ more → mark ≡ length front + length kept → (take mark (front ++ es) ≡ front ++ kept) × (mark ≤ length (front ++ es))
  marked front es kept more mark e h =
      let s = ap (λ z. front ++ z) e ∙ sym (append_assoc front kept more) in (
        ap (λ z. take mark z) s ∙ (ap (λ n. take n ((front ++ kept) ++ more)) (h ∙ sym (length-append front kept)) ∙ take-append_seam (front ++ kept) more),
        fits (length front) (length kept) (length more) (length (front ++ es)) h (ap length s ∙ (length-append (front ++ kept) more ∙ ap (λ z. z + length more) (length-append front kept))),
      )
    where
      fits : (a b c z : ℕ) → mark ≡ a + b → z ≡ a + b + c → mark ≤ z
      fits a b c z p q = omega (arith, p, q)

  pub taken_back : (fs gs : List (Frame A C S D)) (f : Frame A C S D) (c d : Control A C S D) (r q mark : ℕ) (told : List Event) (front : List Event) (J : Job) → fs ≡ gs ++ f ∷ [] →
      ((n m : ℕ) (J K : Job) (xs : List Event) → TellsFrame w nodes table n m J f xs K → (mark ≡ n + length xs) × TellsTask w nodes table J d xs × Counts d q (m + steps_in xs)) →
      IsTelling w nodes table front J fs c r told → (mark ≤ length told) × ((told' : List Event) → told' ≡ take mark told → IsTelling w nodes table front J gs d q told')
  taken_back fs gs f c d r q mark told front J p h t =
      let b = told_back w nodes table (length front) 0 J gs f c d r q mark t.events h (subst (λ z. Tells w nodes table (length front) 0 J z c r t.events) p t.tells) in
      let m = marked front t.events b.0 b.1 mark b.2 b.3 in (
        subst (λ z. mark ≤ length z) (sym t.is) m.1,
        λ told' e. record { events = b.0; is = e ∙ (ap (take mark) t.is ∙ m.0); tells = b.4 },
      )

  -- ---- tasks

  pub opened_told : (J : Job) (n : ℕ) (t : TermId) (a : Arguments) (es : List Event) → w.tree t.0 ≡ node a.op.0 (trees w a.args.items) → TellsTask w nodes table J (Next.Eval n t) es → TellsTask w nodes table J (Next.Evaluating a) es
  opened_told (evaluating t0) n t a es e h = round_begun w.rules nodes table t0 a.op.0 (trees w a.args.items) es (subst (MayBegin w.rules nodes table t0 es) e h)
  opened_told (solving d i σ) n t a es e h = absurd h

  pub leaf_told : (J : Job) (n j : ℕ) (t : TermId) (es : List Event) → TellsTask w nodes table J (Next.Eval n t) es → TellsTask w nodes table J (Next.Top j t) es
  leaf_told (evaluating t0) n j t es h = begun_runs w.rules nodes table t0 (w.tree t.0) es h
  leaf_told (solving d i σ) n j t es h = absurd h

  pub rested_told : (J : Job) (n : ℕ) (t : TermId) (es : List Event) → TellsTask w nodes table J (Next.Eval n t) es → TellsTask w nodes table J (Next.Value t) es
  rested_told (evaluating t0) n t es h = begun_runs w.rules nodes table t0 (w.tree t.0) es h
  rested_told (solving d i σ) n t es h = absurd h

  pub skipped_told : (J : Job) (a : Arguments) (n : ℕ) (es : List Event) → TellsTask w nodes table J (Next.Evaluating a) es → TellsTask w nodes table J (Next.Evaluating (record a { next = n })) es
  skipped_told (evaluating t0) a n es h = h
  skipped_told (solving d i σ) a n es h = absurd h

  pub argument_told : (n m j : ℕ) (J : Job) (a : Arguments) (next i level r q : ℕ) (t : TermId) (ys : List Event) → StandsAs w.rules nodes table t (w.tree t.0) → slice_get (trees w a.args.items) i ≡ Some (w.tree t.0) → q ≡ r →
      TellsTask w nodes table J (Next.Evaluating a) ys → r ≡ shown_count (m + steps_in ys) →
      (K : Job) × TellsFrame w nodes table n m J (Waiting.Argument (record a { next = next }) i) (ys ++ entered t (Argument i) ∷ []) K × TellsTask w nodes table K (Next.Eval level t) []
      × (q ≡ shown_count (m + steps_in (ys ++ entered t (Argument i) ∷ []) + 0))
  argument_told n m j (evaluating t0) a next i level r q t ys s at z h c =
      (evaluating (w.tree t.0), record { before = ys; term = t; is = refl; stands = s; at = at; round = h }, inl (refl, refl), at_frame q r m ys (entered t (Argument i) ∷ []) z c refl)
  argument_told n m j (solving d i' σ) a next i level r q t ys s at z h c = absurd h

  pub built_told : (J : Job) (a : Arguments) (level : ℕ) (t : TermId) (es : List Event) → build (theory_at w.rules.written.sig a.op.0) a.op.0 (trees w a.args.items) ≡ w.tree t.0 → IsNormalTerm w.rules.written.sig (w.tree t.0) →
      TellsTask w nodes table J (Next.Evaluating a) es → TellsTask w nodes table J (Next.Top level t) es
  built_told (evaluating t0) a level t es e n h = round_built w.rules nodes table t0 a.op.0 (trees w a.args.items) es (w.tree t.0) h e n
  built_told (solving d i σ) a level t es e n h = absurd h

  pub again_entered : (n m : ℕ) (J : Job) (a : Arguments) (level r q : ℕ) (t : TermId) (ys : List Event) → build (theory_at w.rules.written.sig a.op.0) a.op.0 (trees w a.args.items) ≡ w.tree t.0 → IsNormalTerm w.rules.written.sig (w.tree t.0) →
      StandsAs w.rules nodes table t (w.tree t.0) → q ≡ r → TellsTask w nodes table J (Next.Evaluating a) ys → r ≡ shown_count (m + steps_in ys) →
      (K : Job) × TellsFrame w nodes table n m J (Waiting.Again t) (ys ++ entered t Whole ∷ []) K × TellsTask w nodes table K (Next.Eval level t) [] × (q ≡ shown_count (m + steps_in (ys ++ entered t Whole ∷ []) + 0))
  again_entered n m (evaluating t0) a level r q t ys e i s z h c =
      (evaluating (w.tree t.0), record { before = ys; is = refl; stands = s; runs = round_built w.rules nodes table t0 a.op.0 (trees w a.args.items) ys (w.tree t.0) h e i }, inl (refl, refl), at_frame q r m ys (entered t Whole ∷ []) z c refl)
  again_entered n m (solving d i' σ) a level r q t ys e i s z h c = absurd h

  -- sorts are settled
  pub looked_told : (J : Job) (n j : ℕ) (t : TermId) (d : D) (es : List Event) → TellsTask w nodes table J (Next.Top n t) es → TellsTask w nodes table J (Next.Settle j t d) es
  looked_told (evaluating t0) n j t d es h = h
  looked_told (solving e i σ) n j t d es h = absurd h

  pub readied_told : (J : Job) (n j : ℕ) (t : TermId) (d : D) (es : List Event) → TellsTask w nodes table J (Next.Settle n t d) es → TellsTask w nodes table J (Next.Ready j t) es
  readied_told (evaluating t0) n j t d es h = h
  readied_told (solving e i σ) n j t d es h = absurd h

  pub applied_told : (J : Job) (n : ℕ) (x : Trial A) (es : List Event) → TellsTask w nodes table J (Next.Ready n x.term) es → TellsTask w nodes table J (Next.Attempt x) es
  applied_told (evaluating t0) n x es h = h
  applied_told (solving e i σ) n x es h = absurd h

  pub deriving_told : (n m mark level r : ℕ) (J : Job) (y : Settled D) (d : D) (s : Condition S) (ys : List Event) → s.condition ≡ y.condition → s.at ≡ 0 → y.before ≡ r → mark ≡ n + length ys → TellsTask w nodes table J (Next.Settle level y.term d) ys → r ≡ shown_count (m + steps_in ys) →
      (K : Job) × TellsFrame w nodes table n m J (Waiting.Deriving y mark) ys K × TellsTask w nodes table K (Next.Solve s) [] × (0 ≡ shown_count (0 + 0))
  deriving_told n m mark level r (evaluating t0) y d s ys f g b l h c = (
    solving s.condition s.at (w.bound s.binding),
    (f, g, h, l, b ∙ c),
    (refl, same_extends (w.bound s.binding), none_shown w.rules nodes table s.condition s.at (w.bound s.binding)),
    refl,
  )
  deriving_told n m mark level r (solving e i σ) y d s ys f g b l h c = absurd h

  -- nothing is told of the condition of a membership
  pub deriving_answered : (n m mark level : ℕ) (J K : Job) (y : Settled D) (d : D) (xs : List Event) → TellsFrame w nodes table n m J (Waiting.Deriving y mark) xs K →
      (mark ≡ n + length xs) × TellsTask w nodes table J (Next.Settle level y.term d) xs × (y.before ≡ shown_count (m + steps_in xs))
  deriving_answered n m mark level (evaluating t0) (solving e i σ) y d xs f = (f.3, f.2, f.4)
  deriving_answered n m mark level (evaluating t0) (evaluating x) y d xs f = absurd f
  deriving_answered n m mark level (solving e' j υ) (solving e i σ) y d xs f = absurd f
  deriving_answered n m mark level (solving e' j υ) (evaluating x) y d xs f = absurd f

  pub valued_told : (J : Job) (x : Trial A) (es : List Event) → TellsTask w nodes table J (Next.Attempt x) es → TellsTask w nodes table J (Next.Value x.term) es
  valued_told (evaluating t0) x es h = h
  valued_told (solving d i σ) x es h = absurd h

  pub trying_told : (n m mark r : ℕ) (J : Job) (x y : Trial A) (s : Condition S) (ys : List Event) → y.term ≡ x.term → s.condition ≡ y.condition → s.at ≡ 0 → mark ≡ n + length ys → TellsTask w nodes table J (Next.Attempt x) ys → r ≡ shown_count (m + steps_in ys) →
      (K : Job) × TellsFrame w nodes table n m J (Waiting.Trying y r mark) ys K × TellsTask w nodes table K (Next.Solve s) [] × (0 ≡ shown_count (0 + 0))
  trying_told n m mark r (evaluating t0) x y s ys e f g l h c = (
    solving s.condition s.at (w.bound s.binding),
    (f, g, subst (λ t. Runs w.rules nodes table t0 ys (w.tree t.0)) (sym e) h, l, c),
    (refl, same_extends (w.bound s.binding), none_shown w.rules nodes table s.condition s.at (w.bound s.binding)),
    refl,
  )
  trying_told n m mark r (solving d i σ) x y s ys e f g l h c = absurd h

  pub choice_told : (n m mark r : ℕ) (J : Job) (x y : Choosing C) (s : Condition S) (ys : List Event) → y.condition ≡ x.condition → y.at ≡ x.at → y.before ≡ x.before → w.chosen_from y.choices ≡ w.chosen_from x.choices → w.chosen_value y.choices ≡ w.chosen_value x.choices →
      s.condition ≡ x.condition → s.at ≡ x.at + 1 → IsChoiceOf w x.condition x.at x.choices (w.bound s.binding) → mark ≡ n + length ys → TellsTask w nodes table J (Next.Choose x) ys → x.before ≡ shown_count (m + steps_in ys) →
      (K : Job) × TellsFrame w nodes table n m J (Waiting.Choice y mark) ys K × TellsTask w nodes table K (Next.Solve s) [] × (0 ≡ shown_count (0 + 0))
  choice_told n m mark r (evaluating t0) x y s ys e1 e2 e3 e4 e5 f g o l h c = absurd h
  choice_told n m mark r (solving d i σ) x y s ys e1 e2 e3 e4 e5 f g o l h c = (
    solving s.condition s.at (w.bound s.binding),
    (
      e1 ∙ h.0,
      subst (IsExtension σ) (sym e4) h.1,
      subst (λ j. IsMatched w.rules nodes table d i j (w.chosen_from y.choices) (w.chosen_value y.choices) ys) (sym e2)
          (subst (λ τ. IsMatched w.rules nodes table d i x.at τ (w.chosen_value y.choices) ys) (sym e4) (subst (λ v. IsMatched w.rules nodes table d i x.at (w.chosen_from x.choices) v ys) (sym e5) h.2)),
      f ∙ h.0,
      g ∙ ap (λ z. z + 1) (sym e2),
      subst (λ z. IsExtension z (w.bound s.binding)) (sym e4) o.0,
      λ υ p. ap (λ z. norm w.rules.program.sign.theory (instance (look_up υ) (pattern_in (rest_of w.rules z y.at)))) (sym h.0) ∙ (ap (λ z. norm w.rules.program.sign.theory (instance (look_up υ) (pattern_in (rest_of w.rules x.condition z)))) e2 ∙ (o.1 υ p ∙ sym e5)),
      l,
      e3 ∙ c,
    ),
    (refl, same_extends (w.bound s.binding), none_shown w.rules nodes table s.condition s.at (w.bound s.binding)),
    refl,
  )

  -- the solution of a fragment that a solution of the condition has, and the next one, are told alike
  pub own_as_choice : (J : Job) (x : Choosing C) (l : _) (es : List Event) → TellsTask w nodes table J (Next.Own x l) es → TellsTask w nodes table J (Next.Choose x) es
  own_as_choice (evaluating t0) x l es h = absurd h
  own_as_choice (solving e i σ) x l es h = h

  pub choice_as_own : (J : Job) (x : Choosing C) (l : _) (es : List Event) → TellsTask w nodes table J (Next.Choose x) es → TellsTask w nodes table J (Next.Own x l) es
  choice_as_own (evaluating t0) x l es h = absurd h
  choice_as_own (solving e i σ) x l es h = h

  pub solved_told : (J : Job) (c : Condition S) (es : List Event) → Asks w.rules c.condition c.at Goals.Nothing → TellsTask w nodes table J (Next.Solve c) es → TellsTask w nodes table J (Next.Held c.condition c.binding) es
  solved_told (evaluating t0) c es g h = absurd h
  solved_told (solving e i σ) c es g h =
      (h.0, h.1, λ υ x. all_shown w.rules nodes table e i c.at (w.bound c.binding) es υ (subst (λ z. Asks w.rules z c.at Goals.Nothing) h.0 g) h.2 x)

  -- a side of a fragment is entered
  entered_side : (m e i r q level number : ℕ) (right : Bool) (σ : Binding) (c : Condition S) (t : TermId) (ys : List Event) → IsSide w.rules nodes table c.condition c.at right (w.bound c.binding) t (w.tree t.0) → q ≡ r →
      TellsTask w nodes table (solving e i σ) (Next.Solve c) ys → r ≡ shown_count (m + steps_in ys) →
      HasEntered w nodes table e i σ c.condition c.at right number (w.bound c.binding) (ys ++ entered t (OfFragment c.at number) ∷ []) (w.tree t.0) × MayBegin w.rules nodes table (w.tree t.0) [] (w.tree t.0)
      × (q ≡ shown_count (m + steps_in (ys ++ entered t (OfFragment c.at number) ∷ []) + 0))
  entered_side m e i r q level number right σ c t ys s z h n =
      (record { before = ys; term = t; is = refl; side = s; same = h.0; extends = h.1; shown = h.2 }, inl (refl, refl), at_frame q r m ys (entered t (OfFragment c.at number) ∷ []) z n refl)

  pub left_entered : (n m : ℕ) (J : Job) (r q level : ℕ) (c : Condition S) (t : TermId) (ys : List Event) → IsSide w.rules nodes table c.condition c.at false (w.bound c.binding) t (w.tree t.0) → q ≡ r →
      TellsTask w nodes table J (Next.Solve c) ys → r ≡ shown_count (m + steps_in ys) →
      (K : Job) × TellsFrame w nodes table n m J (Waiting.Left c) (ys ++ entered t (OfFragment c.at 0) ∷ []) K × TellsTask w nodes table K (Next.Eval level t) [] × (q ≡ shown_count (m + steps_in (ys ++ entered t (OfFragment c.at 0) ∷ []) + 0))
  left_entered n m (evaluating t0) r q level c t ys s z h i = absurd h
  left_entered n m (solving e i' σ) r q level c t ys s z h i = let x = entered_side m e i' r q level 0 false σ c t ys s z h i in (evaluating (w.tree t.0), x.0, x.1, x.2)

  pub sorting_entered : (n m : ℕ) (J : Job) (r q level : ℕ) (c : Condition S) (t : TermId) (ys : List Event) → IsSide w.rules nodes table c.condition c.at false (w.bound c.binding) t (w.tree t.0) → q ≡ r →
      TellsTask w nodes table J (Next.Solve c) ys → r ≡ shown_count (m + steps_in ys) →
      (K : Job) × TellsFrame w nodes table n m J (Waiting.Sorting c) (ys ++ entered t (OfFragment c.at 0) ∷ []) K × TellsTask w nodes table K (Next.Eval level t) [] × (q ≡ shown_count (m + steps_in (ys ++ entered t (OfFragment c.at 0) ∷ []) + 0))
  sorting_entered n m (evaluating t0) r q level c t ys s z h i = absurd h
  sorting_entered n m (solving e i' σ) r q level c t ys s z h i = let x = entered_side m e i' r q level 0 false σ c t ys s z h i in (evaluating (w.tree t.0), x.0, x.1, x.2)

  pub matching_entered : (n m : ℕ) (J : Job) (r q level : ℕ) (c : Condition S) (t : TermId) (ys : List Event) → IsSide w.rules nodes table c.condition c.at true (w.bound c.binding) t (w.tree t.0) → q ≡ r →
      TellsTask w nodes table J (Next.Solve c) ys → r ≡ shown_count (m + steps_in ys) →
      (K : Job) × TellsFrame w nodes table n m J (Waiting.Matching c) (ys ++ entered t (OfFragment c.at 1) ∷ []) K × TellsTask w nodes table K (Next.Eval level t) [] × (q ≡ shown_count (m + steps_in (ys ++ entered t (OfFragment c.at 1) ∷ []) + 0))
  matching_entered n m (evaluating t0) r q level c t ys s z h i = absurd h
  matching_entered n m (solving e i' σ) r q level c t ys s z h i = let x = entered_side m e i' r q level 1 true σ c t ys s z h i in (evaluating (w.tree t.0), x.0, x.1, x.2)

  -- ---- replies

  set_trees : (ids : List TermId) (i : ℕ) (v : TermId) → slice_set (trees w ids) i (w.tree v.0) ≡ trees w (set ids i v)
  set_trees [] i v = refl
  set_trees (t ∷ ids) zero v = refl
  set_trees (t ∷ ids) (suc i) v = ap (λ z. w.tree t.0 ∷ z) (set_trees ids i v)

  pub argument_given : (n m r i : ℕ) (J K : Job) (a b : Arguments) (v : TermId) (xs ys : List Event) → b.op ≡ a.op → b.args.items ≡ set a.args.items i v → StandsAs w.rules nodes table v (w.tree v.0) →
      TellsFrame w nodes table n m J (Waiting.Argument a i) xs K → TellsTask w nodes table K (Next.Value v) ys → r ≡ shown_count (m + steps_in xs + steps_in ys) →
      TellsTask w nodes table J (Next.Evaluating b) ((xs ++ ys) ++ left v ∷ []) × (r ≡ shown_count (m + steps_in ((xs ++ ys) ++ left v ∷ [])))
  argument_given n m r i (evaluating t0) (evaluating x) a b v xs ys o e s f h c = (
    subst (λ zs. IsInRound w.rules nodes table t0 b.op.0 (trees w b.args.items) ((zs ++ ys) ++ left v ∷ [])) (sym f.is)
        (subst (λ p. IsInRound w.rules nodes table t0 p.0 (trees w b.args.items) (((f.before ++ entered f.term (Argument i) ∷ []) ++ ys) ++ left v ∷ [])) (sym o)
        (subst (λ ts. IsInRound w.rules nodes table t0 a.op.0 ts (((f.before ++ entered f.term (Argument i) ∷ []) ++ ys) ++ left v ∷ [])) (set_trees a.args.items i v ∙ ap (trees w) (sym e))
        (round_next w.rules nodes table t0 a.op.0 (trees w a.args.items) f.before ys i f.term v x (w.tree v.0) f.round f.at h f.stands s))),
    piece_count r m xs ys (left v ∷ []) c refl,
  )
  argument_given n m r i (evaluating t0) (solving d j σ) a b v xs ys o e s f h c = absurd f
  argument_given n m r i (solving d j σ) (evaluating x) a b v xs ys o e s f h c = absurd f
  argument_given n m r i (solving d j σ) (solving d' j' σ') a b v xs ys o e s f h c = absurd f

  no_place : (ids : List TermId) (i : ℕ) (x : Tree) → length ids ≤ i → slice_get (trees w ids) i ≡ Some x → ⊥
  no_place [] i x h e = absurd (no e)
    where
      no : None ≡ Some x → ⊥
      no e = cc
  no_place (t ∷ ids) zero x h e = absurd (omega (arith, h))
  no_place (t ∷ ids) (suc i) x h e = no_place ids i x (omega (arith, h)) e

  pub argument_missing : (n m i : ℕ) (J K : Job) (a : Arguments) (xs : List Event) → length a.args.items ≤ i → TellsFrame w nodes table n m J (Waiting.Argument a i) xs K → ⊥
  argument_missing n m i (evaluating t0) (evaluating x) a xs h f = no_place a.args.items i x h f.at
  argument_missing n m i (evaluating t0) (solving d j σ) a xs h f = f
  argument_missing n m i (solving d j σ) (evaluating x) a xs h f = f
  argument_missing n m i (solving d j σ) (solving d' j' σ') a xs h f = f

  pub again_given : (n m r : ℕ) (J K : Job) (t v : TermId) (xs ys : List Event) → StandsAs w.rules nodes table v (w.tree v.0) → TellsFrame w nodes table n m J (Waiting.Again t) xs K → TellsTask w nodes table K (Next.Value v) ys →
      r ≡ shown_count (m + steps_in xs + steps_in ys) → TellsTask w nodes table J (Next.Value v) ((xs ++ ys) ++ left v ∷ []) × (r ≡ shown_count (m + steps_in ((xs ++ ys) ++ left v ∷ [])))
  again_given n m r (evaluating t0) (evaluating x) t v xs ys s f h c =
      (subst (λ zs. Runs w.rules nodes table t0 ((zs ++ ys) ++ left v ∷ []) (w.tree v.0)) (sym f.is) (again_told w.rules nodes table t0 x (w.tree v.0) f.before ys t v f.runs h f.stands s), piece_count r m xs ys (left v ∷ []) c refl)
  again_given n m r (evaluating t0) (solving d j σ) t v xs ys s f h c = absurd f
  again_given n m r (solving d j σ) (evaluating x) t v xs ys s f h c = absurd f
  again_given n m r (solving d j σ) (solving d' j' σ') t v xs ys s f h c = absurd f

  pub left_given : (n m r q level : ℕ) (J K : Job) (c : Condition S) (v u : TermId) (xs ys : List Event) → StandsAs w.rules nodes table v (w.tree v.0) → IsSide w.rules nodes table c.condition c.at true (w.bound c.binding) u (w.tree u.0) → q ≡ r →
      TellsFrame w nodes table n m J (Waiting.Left c) xs K → TellsTask w nodes table K (Next.Value v) ys → r ≡ shown_count (m + steps_in xs + steps_in ys) →
      (L : Job) × TellsFrame w nodes table n m J (Waiting.Right c v) ((xs ++ ys) ++ left v ∷ entered u (OfFragment c.at 1) ∷ []) L × TellsTask w nodes table L (Next.Eval level u) []
      × (q ≡ shown_count (m + steps_in ((xs ++ ys) ++ left v ∷ entered u (OfFragment c.at 1) ∷ []) + 0))
  left_given n m r q level (solving e i σ) (evaluating x) c v u xs ys s s' z f h k = (
    evaluating (w.tree u.0),
    record {
      before = f.before;
      inner = ys;
      first = f.term;
      second = u;
      left_side = x;
      is = ap (λ zs. (zs ++ ys) ++ left v ∷ entered u (OfFragment c.at 1) ∷ []) f.is ∙ left_between f.before (entered f.term (OfFragment c.at 0)) ys (left v) (entered u (OfFragment c.at 1));
      side = f.side;
      runs = h;
      value = s;
      other = s';
      same = f.same;
      extends = f.extends;
      shown = f.shown;
    },
    inl (refl, refl),
    at_swapped q r m xs ys (left v ∷ entered u (OfFragment c.at 1) ∷ []) z k refl,
  )
  left_given n m r q level (solving e i σ) (solving d j τ) c v u xs ys s s' z f h k = absurd f
  left_given n m r q level (evaluating t0) (evaluating x) c v u xs ys s s' z f h k = absurd f
  left_given n m r q level (evaluating t0) (solving d j τ) c v u xs ys s s' z f h k = absurd f

  at_condition : (d e j : ℕ) (right : Bool) (σ : Binding) (t : TermId) (x : Tree) → d ≡ e → IsSide w.rules nodes table d j right σ t x → IsSide w.rules nodes table e j right σ t x
  at_condition d e j right σ t x q h = subst (λ z. IsSide w.rules nodes table z j right σ t x) q h

  -- what a condition goes on with, by the clause of `proceed`
  abbrev pub Proceeds : Condition S → Bool → Control A C S D → Type 0
  Proceeds c holds d = (r n e i : ℕ) (σ : Binding) (es : List Event) → r ≡ shown_count n → (holds ≡ true → IsShown w.rules nodes table e i (c.at + 1) (w.bound c.binding) es) → c.condition ≡ e → IsExtension σ (w.bound c.binding) →
      TellsTask w nodes table (solving e i σ) d es × Counts d r n

  pub right_given : (n m r : ℕ) (J K : Job) (c : Condition S) (p v : TermId) (holds : Bool) (d : Control A C S D) (xs ys : List Event) → Proceeds c holds d → Asks w.rules c.condition c.at Goals.Equality → (holds ≡ true → w.tree v.0 ≡ w.tree p.0) →
      StandsAs w.rules nodes table v (w.tree v.0) → TellsFrame w nodes table n m J (Waiting.Right c p) xs K → TellsTask w nodes table K (Next.Value v) ys → r ≡ shown_count (m + steps_in xs + steps_in ys) →
      TellsTask w nodes table J d ((xs ++ ys) ++ left v ∷ []) × Counts d r (m + steps_in ((xs ++ ys) ++ left v ∷ []))
  right_given n m r (solving e i σ) (evaluating x) c p v holds d xs ys P g eq s f h k =
      P r (m + steps_in ((xs ++ ys) ++ left v ∷ [])) e i σ ((xs ++ ys) ++ left v ∷ []) (piece_count r m xs ys (left v ∷ []) k refl)
      (λ t. subst (λ zs. IsShown w.rules nodes table e i (c.at + 1) (w.bound c.binding) ((zs ++ ys) ++ left v ∷ [])) (sym f.is)
      (equality_shown w.rules nodes table e i c.at (w.bound c.binding) f.before f.inner ys f.first f.second p v f.left_side x (w.tree p.0) (subst (λ z. Asks w.rules z c.at Goals.Equality) f.same g) f.shown
      (at_condition c.condition e c.at false (w.bound c.binding) f.first f.left_side f.same f.side) f.runs f.value (at_condition c.condition e c.at true (w.bound c.binding) f.second x f.same f.other)
      (subst (Runs w.rules nodes table x ys) (eq t) h) (subst (StandsAs w.rules nodes table v) (eq t) s))) f.same f.extends
  right_given n m r (solving e i σ) (solving e' j τ) c p v holds d xs ys P g eq s f h k = absurd f
  right_given n m r (evaluating t0) (evaluating x) c p v holds d xs ys P g eq s f h k = absurd f
  right_given n m r (evaluating t0) (solving e' j τ) c p v holds d xs ys P g eq s f h k = absurd f

  pub sorting_given : (n m r : ℕ) (J K : Job) (c : Condition S) (v : TermId) (holds : Bool) (d : Control A C S D) (xs ys : List Event) → Proceeds c holds d → Asks w.rules c.condition c.at Goals.Sort →
      (holds ≡ true → Has w.rules nodes table (sort_in (rest_of w.rules c.condition c.at)) (w.tree v.0)) → StandsAs w.rules nodes table v (w.tree v.0) → TellsFrame w nodes table n m J (Waiting.Sorting c) xs K → TellsTask w nodes table K (Next.Value v) ys →
      r ≡ shown_count (m + steps_in xs + steps_in ys) → TellsTask w nodes table J d ((xs ++ ys) ++ left v ∷ []) × Counts d r (m + steps_in ((xs ++ ys) ++ left v ∷ []))
  sorting_given n m r (solving e i σ) (evaluating x) c v holds d xs ys P g has s f h k =
      P r (m + steps_in ((xs ++ ys) ++ left v ∷ [])) e i σ ((xs ++ ys) ++ left v ∷ []) (piece_count r m xs ys (left v ∷ []) k refl)
      (λ t. subst (λ zs. IsShown w.rules nodes table e i (c.at + 1) (w.bound c.binding) ((zs ++ ys) ++ left v ∷ [])) (sym f.is)
      (sort_shown w.rules nodes table e i c.at (w.bound c.binding) f.before ys f.term v x (w.tree v.0) (subst (λ z. Asks w.rules z c.at Goals.Sort) f.same g) f.shown
      (at_condition c.condition e c.at false (w.bound c.binding) f.term x f.same f.side) h s (subst (λ z. Has w.rules nodes table (sort_in (rest_of w.rules z c.at)) (w.tree v.0)) f.same (has t)))) f.same f.extends
  sorting_given n m r (solving e i σ) (solving e' j τ) c v holds d xs ys P g has s f h k = absurd f
  sorting_given n m r (evaluating t0) (evaluating x) c v holds d xs ys P g has s f h k = absurd f
  sorting_given n m r (evaluating t0) (solving e' j τ) c v holds d xs ys P g has s f h k = absurd f

  pub matching_given : (n m r q : ℕ) (J K : Job) (c : Condition S) (y : Choosing C) (v : TermId) (xs ys : List Event) → Asks w.rules c.condition c.at Goals.Matching → y.condition ≡ c.condition → y.at ≡ c.at → w.chosen_from y.choices ≡ w.bound c.binding →
      w.chosen_value y.choices ≡ w.tree v.0 → y.before ≡ r → StandsAs w.rules nodes table v (w.tree v.0) → TellsFrame w nodes table n m J (Waiting.Matching c) xs K → TellsTask w nodes table K (Next.Value v) ys → r ≡ shown_count (m + steps_in xs + steps_in ys) →
      TellsTask w nodes table J (Next.Choose y) ((xs ++ ys) ++ left v ∷ []) × (y.before ≡ shown_count (m + steps_in ((xs ++ ys) ++ left v ∷ [])))
  matching_given n m r q (solving e i σ) (evaluating x) c y v xs ys g e1 e2 e3 e4 e5 s f h k = (
    (
      e1 ∙ f.same,
      subst (IsExtension σ) (sym e3) f.extends,
      subst (λ j. IsMatched w.rules nodes table e i j (w.chosen_from y.choices) (w.chosen_value y.choices) ((xs ++ ys) ++ left v ∷ [])) (sym e2)
          (subst (λ τ. IsMatched w.rules nodes table e i c.at τ (w.chosen_value y.choices) ((xs ++ ys) ++ left v ∷ [])) (sym e3)
          (subst (λ u. IsMatched w.rules nodes table e i c.at (w.bound c.binding) u ((xs ++ ys) ++ left v ∷ [])) (sym e4)
          (subst (λ zs. IsMatched w.rules nodes table e i c.at (w.bound c.binding) (w.tree v.0) ((zs ++ ys) ++ left v ∷ [])) (sym f.is)
          (match_shown w.rules nodes table e i c.at (w.bound c.binding) f.before ys f.term v x (w.tree v.0) (subst (λ z. Asks w.rules z c.at Goals.Matching) f.same g) f.shown
          (at_condition c.condition e c.at true (w.bound c.binding) f.term x f.same f.side) h s)))),
    ),
    e5 ∙ piece_count r m xs ys (left v ∷ []) k refl,
  )
  matching_given n m r q (solving e i σ) (solving e' j τ) c y v xs ys g e1 e2 e3 e4 e5 s f h k = absurd f
  matching_given n m r q (evaluating t0) (evaluating x) c y v xs ys g e1 e2 e3 e4 e5 s f h k = absurd f
  matching_given n m r q (evaluating t0) (solving e' j τ) c y v xs ys g e1 e2 e3 e4 e5 s f h k = absurd f

  pub choice_given : (n m r s mark : ℕ) (J K : Job) (c : Choosing C) (d : ℕ) (τ : S) (xs ys : List Event) → s ≡ min (c.before + r) (2 ^ 64 - 1) → TellsFrame w nodes table n m J (Waiting.Choice c mark) xs K → TellsTask w nodes table K (Next.Held d τ) ys →
      r ≡ shown_count (0 + steps_in ys) → TellsTask w nodes table J (Next.Held d τ) (xs ++ ys) × (s ≡ shown_count (m + steps_in (xs ++ ys)))
  choice_given n m r s mark (solving e i σ) (solving e' j υ0) c d τ xs ys z f h k = (
    (
      h.0 ∙ f.3,
      extends_on σ (w.chosen_from c.choices) (w.bound τ) f.1 (extends_on (w.chosen_from c.choices) υ0 (w.bound τ) f.5 h.1),
      λ υ x. let y = extends_on υ0 (w.bound τ) υ h.1 x in
          choice_shown w.rules nodes table e i c.at (w.chosen_from c.choices) (w.chosen_value c.choices) xs ys υ f.2 (extends_on (w.chosen_from c.choices) υ0 υ f.5 y) (f.6 υ y)
          (subst (λ q. Shows w.rules nodes table (look_up υ) q (drop q (w.rules.fragments e)) ys) f.4 (subst (λ q. Shows w.rules nodes table (look_up υ) j (drop j (w.rules.fragments q)) ys) f.3 (h.2 υ x))),
    ),
    apart_count s c.before r m xs ys z f.8 k,
  )
  choice_given n m r s mark (solving e i σ) (evaluating x) c d τ xs ys z f h k = absurd f
  choice_given n m r s mark (evaluating t0) (solving e' j υ0) c d τ xs ys z f h k = absurd f
  choice_given n m r s mark (evaluating t0) (evaluating x) c d τ xs ys z f h k = absurd f

  pub trying_given : (n m r s q before mark level : ℕ) (J K : Job) (x : Trial A) (d : ℕ) (τ : S) (u : TermId) (step : Step) (xs ys : List Event) → q ≡ min (before + r) (2 ^ 64 - 1) → s ≡ min (q + 1) (2 ^ 64 - 1) → StandsIn nodes (made step) →
      IsUse w.rules.written w.rules.hooks (Has w.rules nodes table) (w.rules.fragments x.condition) (w.bound τ) (w.tree x.term.0) (w.tree u.0) (step_in nodes step) →
      TellsFrame w nodes table n m J (Waiting.Trying x before mark) xs K → TellsTask w nodes table K (Next.Held d τ) ys → r ≡ shown_count (0 + steps_in ys) →
      TellsTask w nodes table J (Next.Eval level u) ((xs ++ ys) ++ made step ∷ []) × (s ≡ shown_count (m + steps_in ((xs ++ ys) ++ made step ∷ [])))
  trying_given n m r s q before mark level (evaluating t0) (solving e i σ) x d τ u step xs ys z z' st ap' f h k = (
    step_told w.rules nodes table t0 (w.tree x.term.0) (w.tree u.0) xs ys step (w.bound τ) (w.rules.fragments x.condition) f.2
        (subst (λ j. Shows w.rules nodes table (look_up (w.bound τ)) j (drop j (w.rules.fragments x.condition)) ys) f.1 (subst (λ c. Shows w.rules nodes table (look_up (w.bound τ)) i (drop i (w.rules.fragments c)) ys) f.0 (h.2 (w.bound τ) (same_extends (w.bound τ)))))
        st ap',
    step_count s q before r m xs ys step z z' f.4 k,
  )
  trying_given n m r s q before mark level (evaluating t0) (evaluating y) x d τ u step xs ys z z' st ap' f h k = absurd f
  trying_given n m r s q before mark level (solving e' j υ0) (solving e i σ) x d τ u step xs ys z z' st ap' f h k = absurd f
  trying_given n m r s q before mark level (solving e' j υ0) (evaluating y) x d τ u step xs ys z z' st ap' f h k = absurd f

  -- ---- failures

  pub choice_failed : (n m mark : ℕ) (J K : Job) (c : Choosing C) (xs : List Event) → TellsFrame w nodes table n m J (Waiting.Choice c mark) xs K → (mark ≡ n + length xs) × TellsTask w nodes table J (Next.Choose c) xs × (c.before ≡ shown_count (m + steps_in xs))
  choice_failed n m mark (solving e i σ) (solving e' j υ0) c xs f = (f.7, (f.0, f.1, f.2), f.8)
  choice_failed n m mark (solving e i σ) (evaluating x) c xs f = absurd f
  choice_failed n m mark (evaluating t0) (solving e' j υ0) c xs f = absurd f
  choice_failed n m mark (evaluating t0) (evaluating x) c xs f = absurd f

  pub trying_failed : (n m before mark : ℕ) (J K : Job) (x : Trial A) (xs : List Event) → TellsFrame w nodes table n m J (Waiting.Trying x before mark) xs K → (mark ≡ n + length xs) × TellsTask w nodes table J (Next.Attempt x) xs × (before ≡ shown_count (m + steps_in xs))
  trying_failed n m before mark (evaluating t0) (solving e i σ) x xs f = (f.3, f.2, f.4)
  trying_failed n m before mark (evaluating t0) (evaluating y) x xs f = absurd f
  trying_failed n m before mark (solving e' j υ0) (solving e i σ) x xs f = absurd f
  trying_failed n m before mark (solving e' j υ0) (evaluating y) x xs f = absurd f

  pub fails_told : (J : Job) (d : ℕ) (es : List Event) → TellsTask w nodes table J (Next.Failed d) es
  fails_told (evaluating t0) d es = tt
  fails_told (solving e i σ) d es = tt

  -- the settling of a term goes on
  pub settled_told : (fs gs gs' : List (Frame A C S D)) (x : Settled D) (mark : ℕ) (c d : Control A C S D) (r q : ℕ) (told told' front : List Event) (J : Job) → fs ≡ gs ++ Waiting.Deriving x mark ∷ [] → gs' ≡ gs → q ≡ x.before → IsSettledOn w x d →
      told' ≡ take mark told → IsTelling w nodes table front J fs c r told → IsTelling w nodes table front J gs' d q told'
  settled_told fs gs gs' x mark c d r q told told' front J p g i s e t =
      subst (λ z. IsTelling w nodes table front J z d q told') (sym g) (subst (λ z. IsTelling w nodes table front J gs z q told') (sym s.1) (subst (λ z. IsTelling w nodes table front J gs (Next.Settle x.level x.term s.0) z told') (sym i)
      ((taken_back fs gs (Waiting.Deriving x mark) c (Next.Settle x.level x.term s.0) r x.before mark told front J p (λ n m J K xs h. deriving_answered n m mark x.level J K x s.0 xs h) t).1 told' e)))

  pub mark_fits : (fs gs : List (Frame A C S D)) (x : Settled D) (mark : ℕ) (c : Control A C S D) (r : ℕ) (told front : List Event) (J : Job) → fs ≡ gs ++ Waiting.Deriving x mark ∷ [] → IsTelling w nodes table front J fs c r told → mark ≤ length told
  mark_fits fs gs x mark c r told front J p t =
      (taken_back fs gs (Waiting.Deriving x mark) c (Next.Settle x.level x.term x.settling) r x.before mark told front J p (λ n m J K xs h. deriving_answered n m mark x.level J K x x.settling xs h) t).0

  pub tree_at_place : (ids : List TermId) (i : ℕ) (t : TermId) → slice_get ids i ≡ Some t → slice_get (trees w ids) i ≡ Some (w.tree t.0)
  tree_at_place [] i t h = cc
  tree_at_place (y ∷ ids) zero t h = ap (option_map (λ z. w.tree z.0)) h
  tree_at_place (y ∷ ids) (suc i) t h = tree_at_place ids i t h
  -- ---- results of the parts of the loop

module _ {A C S D : Type 0} (w w' : Words A C S D) (k : Keeps w w') (old new : List Node) (x : Extends old new) (before after : Table) (kept : KeepsEntries before after) where
  pub same_result : (fs : List (Frame A C S D)) (c : Control A C S D) (r : ℕ) (told : List Event) (result : Result (Control A C S D) EvalEnd) → IfOk result (TaskStays w' new after c) →
      IfOk result (λ d. StayTold w w' old new before after fs c r told fs d r told)
  same_result fs c r told (Ok d) h = stays_same w w' k old new x before after kept fs c d r r told (λ J m ys t n. h J r (m + steps_in ys) ys (t, n))
  same_result fs c r told (Err e) h = tt

  pub popped_proceeds : (fs gs : List (Frame A C S D)) (f : Frame A C S D) (c : Control A C S D) (r : ℕ) (told told' more : List Event) (result : Result (Control A C S D) EvalEnd) → fs ≡ gs ++ f ∷ [] → told' ≡ told ++ more → (P : Control A C S D → Type 0) →
      ((d : Control A C S D) → P d → (n m : ℕ) (J K : Job) (xs ys : List Event) → TellsFrame w' new after n m J f xs K → TellsTask w' new after K c ys → Counts c r (counted_on f m xs + steps_in ys) →
      TellsTask w' new after J d ((xs ++ ys) ++ more) × Counts d r (m + steps_in ((xs ++ ys) ++ more))) →
      IfOk result P → IfOk result (λ d. StayTold w w' old new before after fs c r told gs d r told')
  popped_proceeds fs gs f c r told told' more (Ok d) p e P h i = stays_popped w w' k old new x before after kept fs gs f c d r r told told' more p e (h d i)
  popped_proceeds fs gs f c r told told' more (Err z) p e P h i = tt

module _ {A C S D : Type 0} (w : Words A C S D) where
  built_tree : (th : ℕ → Theory) (u t : Tree) (a b : Bool) (n : ℕ) → admitted a b u n ≡ done t 0 n → u ≡ t
  built_tree th u t true b n h = absurd (no h)
    where
      no : ended too_deep ≡ done t 0 n → ⊥
      no h = cc
  built_tree th u t false true n h = absurd (no h)
    where
      no : ended overflowed ≡ done t 0 n → ⊥
      no h = cc
  built_tree th u t false false n h = cc

  -- what is built within the limits
  pub built_is : (f : ℕ) (ids ids' : List TermId) (t : Tree) → ids' ≡ ids → within_limits w.rules.program.sign.theory (build (w.rules.program.sign.theory f) f (trees w ids')) 0 ≡ done t 0 0 → build (theory_at w.rules.written.sig f) f (trees w ids) ≡ t
  built_is f ids ids' t e h =
      ap (λ th. build (th f) f (trees w ids)) (sym w.rules.is_theory) ∙ (ap (λ z. build (w.rules.program.sign.theory f) f (trees w z)) (sym e)
      ∙ built_tree w.rules.program.sign.theory (build (w.rules.program.sign.theory f) f (trees w ids')) t _ _ 0 h)

-- what a candidate makes stays what it is
pub made_later : {A C S D : Type 0} (w w' : Words A C S D) (k : Keeps w w') (t e : ℕ) (a : A) (σ : S) (u : TermId) → w.knows_candidate t e a → (i : ℕ) → w.knows_binding e i σ → w.knows_term u.0 →
    ((j b : ℕ) → eval_on w.rules (suc j) (w.makes a (w.bound σ)) b ≡ eval_on w.rules (suc j) (w.tree u.0) b) → (j b : ℕ) → eval_on w'.rules (suc j) (w'.makes a (w'.bound σ)) b ≡ eval_on w'.rules (suc j) (w'.tree u.0) b
made_later w w' k t e a σ u ca i bi kt h j b =
    ap (λ R. eval_on R (suc j) (w'.makes a (w'.bound σ)) b) k.rules
    ∙ (ap (λ z. eval_on w.rules (suc j) z b) ((k.candidates t e a ca).1 (w'.bound σ) ∙ ap (w.makes a) (k.bindings e i σ bi).1)
    ∙ (h j b
    ∙ (ap (λ z. eval_on w.rules (suc j) z b) (sym (k.terms u.0 kt).1) ∙ ap (λ R. eval_on R (suc j) (w'.tree u.0) b) (sym k.rules))))

-- ---- the whole

pub more_on : (a b c : List Event) → TellsMore a b → TellsMore b c → TellsMore a c
more_on a b c h k = (h.0 ++ k.0, k.1 ∙ (ap (λ z. z ++ k.0) h.1 ∙ append_assoc a h.0 k.0))

pub no_more : (a b : List Event) → b ≡ a → TellsMore a b
no_more a b h = ([], h ∙ sym (append-nil a))

pub from_zero : (r : ℕ) (es : List Event) → r ≡ shown_count (0 + steps_in es) → r ≡ shown_count (steps_in es)
from_zero r es h = h ∙ ap shown_count (by (steps_in es))
  where
    by : (n : ℕ) → 0 + n ≡ n
    by n = omega arith

module _ {A C S D : Type 0} (w : Words A C S D) (nodes : List Node) (table : Table) where
  pub telling_starts : (J : Job) (fs : List (Frame A C S D)) (c : Control A C S D) (r : ℕ) (told : List Event) → fs ≡ [] → r ≡ 0 → TellsTask w nodes table J c [] → Counts c 0 (0 + 0) → IsTelling w nodes table told J fs c r told
  telling_starts J fs c r told e z t n = record {
    events = [];
    is = sym (append-nil told);
    tells = subst (λ gs. Tells w nodes table (length told) 0 J gs c r []) (sym e) (t, subst (λ q. Counts c q (0 + 0)) (sym z) n);
  }

-- what was told is more, whether it was wanted or not
pub more_by : (b : Bool) (told told' : List Event) (x : Event) → (b ≡ true → told' ≡ told ++ x ∷ []) → (b ≡ false → told' ≡ told) → TellsMore told told'
more_by true told told' x h k = (x ∷ [], h refl)
more_by false told told' x h k = no_more told told' (k refl)

pub on_err : {X E : Type 0} (r : Result X E) (P : Type 0) → P → OnErr r P
on_err (Ok x) P p = tt
on_err (Err e) P p = p
