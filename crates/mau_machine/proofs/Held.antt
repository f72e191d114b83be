-- Frames and tasks of which all is known, in states that come of one another.
use Rattle.std.proofs.Common.{◌≡◌, ℕ, zero, suc, ◌+◌, ◌<◌, List, [], ◌∷◌, ◌++◌, length, Option, Some, None, refl, sym, ◌∙◌, ap, subst, arith, get_or, Result, Ok, Err, IfOk}
use Rattle.std.specs.Prelude.{IfSome}
use Rattle.std.specs.Option.{option_map}
use Rattle.mau_terms.specs.declared.ids.TermId.{TermId}
use Rattle.mau_evaluation.specs.Run.{Outcome}
use Rattle.mau_evaluation.specs.Listing.{kind_at}
use Rattle.mau_machine.specs.Words.{Rules, Words, Keeps, kind_of, trees, Asks, IsSolution, choose_after}
use Rattle.mau_machine.specs.Machine.{argument, left_side, right_side, sorting, matching, choice, settling, trying, evaluates, arguments, looks_at_top, attempts, solves, chooses, has_value, holds, Reply, goes_on, comes, last_in, waits_in, task_in, through, whole}
use Rattle.mau_machine.specs.Known.{Due, value_of, Suits, kind_under, kind_in, asks, yields, comes_to, AreChained, KnowsLast, IsKnown, IsKnownNext, AreKnown, HoldsIn}
use Rattle.mau_api.specs.declared.results.EvalEnd.{EvalEnd}
use Rattle.mau_machine.specs.Steps.{StayKnown, IsSettledOn}
use Rattle.mau_machine.specs.declared.frame.Condition.{Condition}
use Rattle.mau_machine.specs.declared.frame.Settled.{Settled}
use Rattle.mau_machine.specs.declared.goal.Goal.{Goal}
use Rattle.mau_machine.specs.declared.goal.Goal.TheVariants as Goals
use Rattle.mau_machine.specs.declared.frame.Frame.{Frame}
use Rattle.mau_machine.specs.declared.frame.Frame.TheVariants as Waiting
use Rattle.mau_machine.specs.declared.frame.Control.{Control}
use Rattle.mau_machine.specs.declared.frame.Control.TheVariants as Next

-- ---- lists of frames

module _ {A C S D : Type 0} (w : Words A C S D) where
  pub known_pushed : (fs : List (Frame A C S D)) (f : Frame A C S D) → AreKnown w fs → IsKnown w f → AreKnown w (fs ++ f ∷ [])
  known_pushed [] f h k = (k, tt)
  known_pushed (g ∷ fs) f h k = (h.0, known_pushed fs f h.1 k)

  pub known_popped : (fs : List (Frame A C S D)) (f : Frame A C S D) → AreKnown w (fs ++ f ∷ []) → AreKnown w fs × IsKnown w f
  known_popped [] f h = (tt, h.0)
  known_popped (g ∷ fs) f h = let q = known_popped fs f h.1 in ((h.0, q.0), q.1)

  pub chained_pushed : (asked : Due) (fs : List (Frame A C S D)) (f : Frame A C S D) (due : Due) → AreChained w asked fs (yields w f) → Suits (asks w f) due → AreChained w asked (fs ++ f ∷ []) due
  chained_pushed asked [] f due h s = (h, s)
  chained_pushed asked (g ∷ fs) f due h s = (h.0, chained_pushed (asks w g) fs f due h.1 s)

  pub chained_popped : (asked : Due) (fs : List (Frame A C S D)) (f : Frame A C S D) (due : Due) → AreChained w asked (fs ++ f ∷ []) due → AreChained w asked fs (yields w f) × Suits (asks w f) due
  chained_popped asked [] f due h = (h.0, h.1)
  chained_popped asked (g ∷ fs) f due h = let q = chained_popped (asks w g) fs f due h.1 in ((h.0, q.0), q.1)

  -- a task in place of another for the same frames
  pub held_on : (asked : Due) (fs : List (Frame A C S D)) (c d : Control A C S D) → HoldsIn w asked fs c → IsKnownNext w d → comes_to w d ≡ comes_to w c → HoldsIn w asked fs d
  held_on asked fs c d h k e = record { frames = h.frames; next = k; chained = subst (λ z. AreChained w asked fs z) (sym e) h.chained }

  -- a frame waits, for what a new task comes to
  pub held_pushed : (asked : Due) (fs gs : List (Frame A C S D)) (c d : Control A C S D) (f : Frame A C S D) → gs ≡ fs ++ f ∷ [] → HoldsIn w asked fs c → IsKnown w f → IsKnownNext w d → yields w f ≡ comes_to w c → Suits (asks w f) (comes_to w d) →
      HoldsIn w asked gs d
  held_pushed asked fs gs c d f g h k n y s = subst (λ z. HoldsIn w asked z d) (sym g) (record {
    frames = known_pushed fs f h.frames k;
    next = n;
    chained = chained_pushed asked fs f (comes_to w d) (subst (λ z. AreChained w asked fs z) (sym y) h.chained) s;
  })

  -- the last frame goes on
  pub held_popped : (asked : Due) (fs gs : List (Frame A C S D)) (c d : Control A C S D) (f : Frame A C S D) → fs ≡ gs ++ f ∷ [] → HoldsIn w asked fs c → IsKnownNext w d → comes_to w d ≡ yields w f → HoldsIn w asked gs d
  held_popped asked fs gs c d f g h n y =
      let H : HoldsIn w asked (gs ++ f ∷ []) c = subst (λ z. HoldsIn w asked z c) g h in
      record {
        frames = (known_popped gs f H.frames).0;
        next = n;
        chained = subst (λ z. AreChained w asked gs z) (sym y) (chained_popped asked gs f (comes_to w c) H.chained).0;
      }

  -- the settling of a term goes on
  pub held_settled : (asked : Due) (fs gs gs' : List (Frame A C S D)) (c d : Control A C S D) (x : Settled D) (mark : ℕ) → fs ≡ gs ++ Waiting.Deriving x mark ∷ [] → gs' ≡ gs → IsSettledOn w x d → HoldsIn w asked fs c → HoldsIn w asked gs' d
  held_settled asked fs gs gs' c d x mark p g s h =
      let H : HoldsIn w asked (gs ++ Waiting.Deriving x mark ∷ []) c = subst (λ z. HoldsIn w asked z c) p h in
      subst (λ z. HoldsIn w asked z d) (sym g) (subst (λ z. HoldsIn w asked gs z) (sym s.1) (held_popped asked fs gs c (Next.Settle x.level x.term s.0) (Waiting.Deriving x mark) p h ((known_popped gs (Waiting.Deriving x mark) H.frames).1, s.2) refl))

  -- what is known of the last frame, and that it is given what it asks
  pub last_known : (asked : Due) (fs gs : List (Frame A C S D)) (c : Control A C S D) (f : Frame A C S D) → fs ≡ gs ++ f ∷ [] → HoldsIn w asked fs c → IsKnown w f × Suits (asks w f) (comes_to w c)
  last_known asked fs gs c f g h =
      let H : HoldsIn w asked (gs ++ f ∷ []) c = subst (λ z. HoldsIn w asked z c) g h in
      ((known_popped gs f H.frames).1, (chained_popped asked gs f (comes_to w c) H.chained).1)

-- ---- states that come of one another

module _ {A C S D : Type 0} (w w' : Words A C S D) (k : Keeps w w') where
  pub same_kind : (t : ℕ) → w.knows_term t → kind_of w' t ≡ kind_of w t
  same_kind t h = ap (λ R. kind_at R.program.sign (w'.tree t)) k.rules ∙ ap (kind_at w.rules.program.sign) (k.terms t h).1

  same_under : (f : ℕ) → kind_under w' f ≡ kind_under w f
  same_under f = ap (λ R. Some (R.program.sign.result f)) k.rules

  pub same_value_kind : (t : ℕ) → w.knows_value t → kind_of w' t ≡ kind_of w t
  same_value_kind t h = ap (λ R. kind_at R.program.sign (w'.tree t)) k.rules ∙ ap (kind_at w.rules.program.sign) (k.values t h).1

  pub asks_on : (e i : ℕ) (g : Goal) → Asks w.rules e i g → Asks w'.rules e i g
  asks_on e i g h = subst (λ R. Asks R e i g) (sym k.rules) h

  known_lasts : {X : Type 0} (value : X → S) (o : Option X) → IfSome o (λ x. w.knows_last (value x)) → IfSome o (λ x. w'.knows_last (value x))
  known_lasts value None h = tt
  known_lasts value (Some x) h = (k.lasts (value x) h).0

  same_lasts : {X : Type 0} (value : X → S) (o : Option X) → IfSome o (λ x. w.knows_last (value x)) → option_map (λ x. w'.bound (value x)) o ≡ option_map (λ x. w.bound (value x)) o
  same_lasts value None h = refl
  same_lasts value (Some x) h = ap Some (k.lasts (value x) h).1

  pub known_last_on : (c : Condition S) → KnowsLast w c → KnowsLast w' c
  known_last_on c h = known_lasts (λ x. x.value) c.behind h

  same_last : (c : Condition S) → KnowsLast w c → last_in w' c ≡ last_in w c
  same_last c h = same_lasts (λ x. x.value) c.behind h

  pub solution_on : (e : ℕ) (σ : S) → IsSolution w e σ → IsSolution w' e σ
  solution_on e σ h = (h.0, (k.bindings e h.0 σ h.1).0, asks_on e h.0 Goals.Nothing h.2)

  known_on : (f : Frame A C S D) → IsKnown w f → IsKnown w' f
  known_on (Waiting.Argument a i) h = (k.operands a.op.0 a.args.items h).0
  known_on (Waiting.Again t) h = (k.terms t.0 h).0
  known_on (Waiting.Left c) h = ((k.bindings c.condition c.at c.binding h.0).0, asks_on c.condition c.at _ h.1, known_last_on c h.2)
  known_on (Waiting.Right c t) h = ((k.bindings c.condition c.at c.binding h.0).0, asks_on c.condition c.at _ h.1, (k.values t.0 h.2).0, known_last_on c h.3)
  known_on (Waiting.Sorting c) h = ((k.bindings c.condition c.at c.binding h.0).0, asks_on c.condition c.at _ h.1, known_last_on c h.2)
  known_on (Waiting.Matching c) h = ((k.bindings c.condition c.at c.binding h.0).0, asks_on c.condition c.at _ h.1, known_last_on c h.2)
  known_on (Waiting.Choice c mark) h = (k.choices c.condition c.at c.choices h).0
  known_on (Waiting.Deriving x mark) h = (k.terms x.term.0 h).0
  known_on (Waiting.Trying x n mark) h = ((k.values x.term.0 h.0).0, (k.attempts x.term.0 x.attempts h.1).0, (k.candidates x.term.0 x.condition x.attempts h.2).0)

  next_on : (c : Control A C S D) → IsKnownNext w c → IsKnownNext w' c
  next_on (Next.Eval n t) h = (k.terms t.0 h).0
  next_on (Next.Evaluating a) h = (k.operands a.op.0 a.args.items h).0
  next_on (Next.Top n t) h = (k.terms t.0 h).0
  next_on (Next.Settle n t d) h = ((k.terms t.0 h.0).0, k.settlings t.0 d h.1)
  next_on (Next.Ready n t) h = (k.values t.0 h).0
  next_on (Next.Attempt x) h = ((k.values x.term.0 h.0).0, (k.attempts x.term.0 x.attempts h.1).0)
  next_on (Next.Solve c) h = ((k.bindings c.condition c.at c.binding h.0).0, known_last_on c h.1)
  next_on (Next.Choose c) h = (k.choices c.condition c.at c.choices h).0
  next_on (Next.Own c x) h = ((k.choices c.condition c.at c.choices h.0).0, (k.lasts x.value h.1).0)
  next_on (Next.Value t) h = (k.values t.0 h).0
  next_on (Next.Held e σ) h = solution_on e σ h
  next_on (Next.Failed e) h = tt

  all_known_on : (fs : List (Frame A C S D)) → AreKnown w fs → AreKnown w' fs
  all_known_on [] h = tt
  all_known_on (f ∷ fs) h = (known_on f h.0, all_known_on fs h.1)

  same_asks : (f : Frame A C S D) → IsKnown w f → asks w' f ≡ asks w f
  same_asks (Waiting.Argument a i) h =
      ap (λ R. value_of (kind_in R.program.sign (trees w' a.args.items) i)) k.rules ∙ ap (λ ts. value_of (kind_in w.rules.program.sign ts i)) (k.operands a.op.0 a.args.items h).1
  same_asks (Waiting.Again t) h = ap value_of (same_kind t.0 h)
  same_asks (Waiting.Left c) h = refl
  same_asks (Waiting.Right c t) h = refl
  same_asks (Waiting.Sorting c) h = refl
  same_asks (Waiting.Matching c) h = refl
  same_asks (Waiting.Choice c mark) h = refl
  same_asks (Waiting.Trying x n mark) h = refl
  same_asks (Waiting.Deriving x mark) h = refl

  same_yields : (f : Frame A C S D) → IsKnown w f → yields w' f ≡ yields w f
  same_yields (Waiting.Argument a i) h = ap value_of (same_under a.op.0)
  same_yields (Waiting.Again t) h = ap value_of (same_kind t.0 h)
  same_yields (Waiting.Left c) h = refl
  same_yields (Waiting.Right c t) h = refl
  same_yields (Waiting.Sorting c) h = refl
  same_yields (Waiting.Matching c) h = refl
  same_yields (Waiting.Choice c mark) h = refl
  same_yields (Waiting.Trying x n mark) h = ap value_of (same_value_kind x.term.0 h.0)
  same_yields (Waiting.Deriving x mark) h = ap value_of (same_kind x.term.0 h)

  same_comes : (c : Control A C S D) → IsKnownNext w c → comes_to w' c ≡ comes_to w c
  same_comes (Next.Eval n t) h = ap value_of (same_kind t.0 h)
  same_comes (Next.Evaluating a) h = ap value_of (same_under a.op.0)
  same_comes (Next.Top n t) h = ap value_of (same_kind t.0 h)
  same_comes (Next.Settle n t d) h = ap value_of (same_kind t.0 h.0)
  same_comes (Next.Ready n t) h = ap value_of (same_value_kind t.0 h)
  same_comes (Next.Attempt x) h = ap value_of (same_value_kind x.term.0 h.0)
  same_comes (Next.Solve c) h = refl
  same_comes (Next.Choose c) h = refl
  same_comes (Next.Own c x) h = refl
  same_comes (Next.Value t) h = ap value_of (same_value_kind t.0 h)
  same_comes (Next.Held e σ) h = refl
  same_comes (Next.Failed e) h = refl

  chained_on : (asked : Due) (fs : List (Frame A C S D)) (due : Due) → AreKnown w fs → AreChained w asked fs due → AreChained w' asked fs due
  chained_on asked [] due k h = h
  chained_on asked (f ∷ fs) due k h =
      (subst (λ z. Suits asked z) (sym (same_yields f k.0)) h.0, subst (λ z. AreChained w' z fs due) (sym (same_asks f k.0)) (chained_on (asks w f) fs due k.1 h.1))

  -- what is known stays known
  pub held_later : (asked : Due) (fs : List (Frame A C S D)) (c : Control A C S D) → HoldsIn w asked fs c → HoldsIn w' asked fs c
  held_later asked fs c h = record {
    frames = all_known_on fs h.frames;
    next = next_on c h.next;
    chained = subst (λ z. AreChained w' asked fs z) (sym (same_comes c h.next)) (chained_on asked fs (comes_to w c) h.frames h.chained);
  }

  -- and means the same
  same_waits : (m : ℕ) (f : Frame A C S D) → IsKnown w f → waits_in w' m f ≡ waits_in w m f
  same_waits m (Waiting.Argument a i) h = ap (λ ts. argument (a.level + m) a.op.0 ts a.order.items a.next i) (k.operands a.op.0 a.args.items h).1
  same_waits m (Waiting.Again t) h = refl
  same_waits m (Waiting.Left c) h =
      ap (λ l. left_side l (c.level + m) c.condition c.at (w'.bound c.binding)) (same_last c h.2) ∙ ap (left_side (last_in w c) (c.level + m) c.condition c.at) (k.bindings c.condition c.at c.binding h.0).1
  same_waits m (Waiting.Right c t) h =
      ap (λ l. right_side l (c.level + m) c.condition c.at (w'.bound c.binding) (w'.tree t.0)) (same_last c h.3)
      ∙ (ap (λ σ. right_side (last_in w c) (c.level + m) c.condition c.at σ (w'.tree t.0)) (k.bindings c.condition c.at c.binding h.0).1
      ∙ ap (right_side (last_in w c) (c.level + m) c.condition c.at (w.bound c.binding)) (k.values t.0 h.2).1)
  same_waits m (Waiting.Sorting c) h =
      ap (λ l. sorting l (c.level + m) c.condition c.at (w'.bound c.binding)) (same_last c h.2) ∙ ap (sorting (last_in w c) (c.level + m) c.condition c.at) (k.bindings c.condition c.at c.binding h.0).1
  same_waits m (Waiting.Matching c) h =
      ap (λ l. matching l (c.level + m) c.condition c.at (w'.bound c.binding)) (same_last c h.2) ∙ ap (matching (last_in w c) (c.level + m) c.condition c.at) (k.bindings c.condition c.at c.binding h.0).1
  same_waits m (Waiting.Choice c mark) h = ap (λ u. choice u c.before) (λ i b. (k.choices c.condition c.at c.choices h).1 (c.level + m) b i)
  same_waits m (Waiting.Trying x n mark) h =
      ap (λ t. trying (x.level + m) t (w'.untried x.attempts (x.level + m)) (w'.makes x.attempts) n) (k.values x.term.0 h.0).1
      ∙ (ap (λ u. trying (x.level + m) (w.tree x.term.0) u (w'.makes x.attempts) n) (λ i b. (k.attempts x.term.0 x.attempts h.1).1 (x.level + m) b i)
      ∙ ap (λ z. trying (x.level + m) (w.tree x.term.0) (w.untried x.attempts (x.level + m)) z n) (λ i σ. (k.candidates x.term.0 x.condition x.attempts h.2).1 σ i))
  same_waits m (Waiting.Deriving x mark) h = ap (λ t. settling (x.level + m) t x.budget x.before) (k.terms x.term.0 h).1

  same_task : (m : ℕ) (c : Control A C S D) → IsKnownNext w c → task_in w' m c ≡ task_in w m c
  same_task m (Next.Eval n t) h = ap (evaluates (n + m)) (k.terms t.0 h).1
  same_task m (Next.Evaluating a) h = ap (λ ts. arguments (a.level + m) a.op.0 ts a.order.items a.next) (k.operands a.op.0 a.args.items h).1
  same_task m (Next.Top n t) h = ap (looks_at_top (n + m)) (k.terms t.0 h).1
  same_task m (Next.Settle n t d) h = ap (looks_at_top (n + m)) (k.terms t.0 h.0).1
  same_task m (Next.Ready n t) h = ap (looks_at_top (n + m)) (k.values t.0 h).1
  same_task m (Next.Attempt x) h =
      ap (λ t. attempts (x.level + m) t (w'.untried x.attempts (x.level + m))) (k.values x.term.0 h.0).1
      ∙ ap (attempts (x.level + m) (w.tree x.term.0)) (λ i b. (k.attempts x.term.0 x.attempts h.1).1 (x.level + m) b i)
  same_task m (Next.Solve c) h =
      ap (λ l. solves l (c.level + m) c.condition c.at (w'.bound c.binding)) (same_last c h.1) ∙ ap (solves (last_in w c) (c.level + m) c.condition c.at) (k.bindings c.condition c.at c.binding h.0).1
  same_task m (Next.Choose c) h = ap (λ u. chooses u c.before) (λ i b. (k.choices c.condition c.at c.choices h).1 (c.level + m) b i)
  same_task m (Next.Own c x) h =
      let z = k.chosen c.condition c.at c.choices h.0 in
      ap (λ (R : Rules). chooses (choose_after R (w'.bound x.value) (c.level + m) c.condition c.at (w'.chosen_from c.choices) (w'.chosen_value c.choices)) c.before) k.rules
      ∙ (ap (λ l. chooses (choose_after w.rules l (c.level + m) c.condition c.at (w'.chosen_from c.choices) (w'.chosen_value c.choices)) c.before) (k.lasts x.value h.1).1
      ∙ (ap (λ σ. chooses (choose_after w.rules (w.bound x.value) (c.level + m) c.condition c.at σ (w'.chosen_value c.choices)) c.before) z.0
      ∙ ap (λ v. chooses (choose_after w.rules (w.bound x.value) (c.level + m) c.condition c.at (w.chosen_from c.choices) v) c.before) z.1))
  same_task m (Next.Value t) h = ap has_value (k.values t.0 h).1
  same_task m (Next.Held e σ) h = ap holds (k.bindings e h.0 σ h.1).1
  same_task m (Next.Failed e) h = refl

  same_through : (m : ℕ) (fs : List (Frame A C S D)) (o : Outcome Reply) → AreKnown w fs → through w' m fs o ≡ through w m fs o
  same_through m [] o h = refl
  same_through m (f ∷ fs) o h =
      ap (λ R. goes_on R (waits_in w' m f) (through w' m fs o)) k.rules
      ∙ (ap (λ x. goes_on w.rules x (through w' m fs o)) (same_waits m f h.0)
      ∙ ap (goes_on w.rules (waits_in w m f)) (same_through m fs o h.1))

  pub same_whole_of : (fs : List (Frame A C S D)) (c : Control A C S D) → AreKnown w fs → IsKnownNext w c → (m r b : ℕ) → whole w' m fs c r b ≡ whole w m fs c r b
  same_whole_of fs c h q m r b =
      same_through m fs (comes w'.rules (task_in w' m c) r b) h
      ∙ ap (through w m fs) (ap (λ R. comes R (task_in w' m c) r b) k.rules ∙ ap (λ x. comes w.rules x r b) (same_task m c q))

  -- ---- results of the parts of the loop

  pub known_result : (fs : List (Frame A C S D)) (c : Control A C S D) (r : Result (Control A C S D) EvalEnd) → IfOk r (λ d. IsKnownNext w' d × (comes_to w' d ≡ comes_to w' c)) → IfOk r (StayKnown w w' fs c fs)
  known_result fs c (Ok d) h = λ asked q. held_on w' asked fs c d (held_later asked fs c q) h.0 h.1
  known_result fs c (Err e) h = tt

  pub popped_known : (fs gs : List (Frame A C S D)) (c : Control A C S D) (f : Frame A C S D) (r : Result (Control A C S D) EvalEnd) → fs ≡ gs ++ f ∷ [] →
      IfOk r (λ d. IsKnownNext w' d × (comes_to w' d ≡ yields w' f)) → IfOk r (StayKnown w w' fs c gs)
  popped_known fs gs c f (Ok d) g h = λ asked q. held_popped w' asked fs gs c d f g (held_later asked fs c q) h.0 h.1
  popped_known fs gs c f (Err e) g h = tt

-- a state comes of itself
pub same_state : {A C S D : Type 0} (w : Words A C S D) → Keeps w w
same_state w = record {
  rules = refl;
  terms = λ t h. (h, refl);
  values = λ t h. (h, refl);
  operands = λ f ts h. (h, refl);
  bindings = λ e i σ h. (h, refl);
  lasts = λ σ h. (h, refl);
  settlings = λ t d h. h;
  askings = λ t e σ d h. h;
  attempts = λ t a h. (h, λ k b. refl);
  candidates = λ t e a h. (h, λ σ. refl);
  choices = λ e i c h. (h, λ k b. refl);
  chosen = λ e i c h. (refl, refl);
}

-- ---- arguments

module _ {A C S D : Type 0} (w : Words A C S D) where
  pub kind_at_place : (ids : List TermId) (i : ℕ) (x : TermId) → i < length ids → x ≡ get_or ids i x → kind_of w x.0 ≡ kind_in w.rules.program.sign (trees w ids) i
  kind_at_place [] i x h e = absurd (omega (arith, h))
  kind_at_place (y ∷ ids) zero x h e = ap (λ z. kind_of w z.0) e
  kind_at_place (y ∷ ids) (suc i) x h e = kind_at_place ids i x (omega (arith, h)) e

  -- the last frame waits on as another one
  pub held_swapped : (asked : Due) (fs gs hs : List (Frame A C S D)) (c d : Control A C S D) (f h : Frame A C S D) → fs ≡ gs ++ f ∷ [] → hs ≡ gs ++ h ∷ [] → HoldsIn w asked fs c → IsKnown w h → IsKnownNext w d → yields w h ≡ yields w f →
      Suits (asks w h) (comes_to w d) → HoldsIn w asked hs d
  held_swapped asked fs gs hs c d f h p q H k n y s =
      let G : HoldsIn w asked (gs ++ f ∷ []) c = subst (λ z. HoldsIn w asked z c) p H in
      subst (λ z. HoldsIn w asked z d) (sym q) (record {
        frames = known_pushed w gs h (known_popped w gs f G.frames).0 k;
        next = n;
        chained = chained_pushed w asked gs h (comes_to w d) (subst (λ z. AreChained w asked gs z) (sym y) (chained_popped w asked gs f (comes_to w c) G.chained).0) s;
      })

  pub kind_at_get : (ids : List TermId) (i : ℕ) (d : TermId) → i < length ids → kind_of w (get_or ids i d).0 ≡ kind_in w.rules.program.sign (trees w ids) i
  kind_at_get [] i d h = absurd (omega (arith, h))
  kind_at_get (y ∷ ids) zero d h = refl
  kind_at_get (y ∷ ids) (suc i) d h = kind_at_get ids i d (omega (arith, h))

  -- a machine in which nothing waits
  pub start_is : (fs : List (Frame A C S D)) (c : Control A C S D) (r b : ℕ) → fs ≡ [] → r ≡ 0 → (n : ℕ) → whole w n [] c 0 b ≡ whole w n fs c r b
  start_is fs c r b e z n = ap (λ m. whole w n [] c m b) (sym z) ∙ ap (λ gs. whole w n gs c r b) (sym e)

  pub held_first : (asked : Due) (fs : List (Frame A C S D)) (c : Control A C S D) → fs ≡ [] → IsKnownNext w c → Suits asked (comes_to w c) → HoldsIn w asked fs c
  held_first asked fs c e k s = subst (λ gs. HoldsIn w asked gs c) (sym e) (record { frames = tt; next = k; chained = s })
