-- What was told stays told in a store and a table of sorts that grow.
use Rattle.std.proofs.Common.{◌≡◌, inl, inr, ℕ, ◌+◌, List, [], ◌∷◌, drop, length, slice_get, Some, Bool, true, false, sym, ◌∙◌, subst}
use Rattle.std.proofs.lemmas.List.Elements.{All-cons, All-nil, All-head}
use Rattle.mau_terms.specs.Tree.{Tree, apply, trees_of}
use Rattle.mau_terms.specs.Norm.{norm}
use Rattle.mau_terms.specs.Subst.{Variable, instance}
use Rattle.mau_terms.specs.Solution.{HaveSorts}
use Rattle.mau_terms.specs.declared.ids.TermId.{TermId}
use Rattle.mau_store.specs.Node.{Node, Extends}
use Rattle.mau_store.proofs.Growth.{IsOf-extends}
use Rattle.mau_store.proofs.Standing.{tree_at-extends}
use Rattle.mau_sorts.specs.Table.{Table, KeepsEntries}
use Rattle.mau_listing.proofs.Growth.{entry_kept}
use Rattle.mau_program.specs.declared.statements.Fragment.{Fragment}
use Rattle.mau_evaluation.specs.Evaluation.{Binding, look_up}
use Rattle.mau_api.specs.declared.step.Step.{Step}
use Rattle.mau_api.specs.Events.{Event, made}
use Rattle.mau_api.specs.Told.{Told, steps, StepOf, step_in, LeadsIn, all_stand, in_one, Shown, StandsIn}
use Rattle.mau_api.proofs.ToldRuns.{leads_more, shown_more, events_same, events_stand, run_stays}
use Rattle.mau_machine.specs.Uses.{IsUse}
use Rattle.mau_machine.specs.Words.{Words, Keeps, Rules, IsExtension, trees, pattern_in, rest_of}
use Rattle.mau_machine.specs.Telling.{Job, evaluating, solving, Has, Runs, RunsIn, Shows, IsUsed, MayBegin, IsInRound, IsShown, IsMatched, StandsAs, IsSide, counted_on, TellsTask, HasEntered, HasEnteredBoth, TellsFrame, Tells, IsTelling}
use Rattle.mau_machine.specs.Known.{IsKnown, IsKnownNext, AreKnown}
use Rattle.mau_machine.specs.declared.frame.Frame.{Frame}
use Rattle.mau_machine.specs.declared.frame.Frame.TheVariants as Waiting
use Rattle.mau_machine.specs.declared.frame.Control.{Control}
use Rattle.mau_machine.specs.declared.frame.Control.TheVariants as Next

module _ (R : Rules) (old new : List Node) (x : Extends old new) (before after : Table) (kept : KeepsEntries before after) where
  more : (r : ℕ) (t : Tree) → Has R old before r t → Has R new after r t
  more = entry_kept old new x before after kept R.written.sig

  pub runs_later : (t : Tree) (es : List Event) (v : Tree) → Runs R old before t es v → Runs R new after t es v
  runs_later t es v h = run_stays old new x R.written R.hooks before after kept false t es v h

  round_more : {r : Bool} {ts us : List Tree} {xs : List Told} → LeadsIn R.written R.hooks (Has R old before) r ts xs us → LeadsIn R.written R.hooks (Has R new after) r ts xs us
  round_more all_stand = all_stand
  round_more (in_one i e a b) = in_one i e (leads_more R.written R.hooks (Has R old before) (Has R new after) more a) (round_more b)

  runs_in_later : (ts : List Tree) (es : List Event) (us : List Tree) → RunsIn R old before ts es us → RunsIn R new after ts es us
  runs_in_later ts es us h = record {
    stand = events_stand old new x es h.stand;
    leads = subst (λ xs. LeadsIn R.written R.hooks (Has R new after) false ts xs us) (sym (events_same old new x es h.stand)) (round_more h.leads);
  }

  pub shows_later : (g : Variable → Tree) (j : ℕ) (cs : List Fragment) (es : List Event) → Shows R old before g j cs es → Shows R new after g j cs es
  shows_later g j cs es h = record {
    stand = events_stand old new x es h.stand;
    shown = subst (Shown R.written R.hooks (Has R new after) g j cs) (sym (events_same old new x es h.stand)) (shown_more R.written R.hooks (Has R old before) (Has R new after) more h.shown);
  }

  one_step : (a b : StepOf) → steps a ∷ [] ≡ steps b ∷ [] → a ≡ b
  one_step a b e = cc

  step_same : (s : Step) → StandsIn old (made s) → step_in new s ≡ step_in old s
  step_same s h = one_step (step_in new s) (step_in old s) (events_same old new x (made s ∷ []) (All-cons (StandsIn old) (made s) [] h (All-nil (StandsIn old))))

  sorts_more : (xs : List Variable) (vs : List Tree) → HaveSorts (Has R old before) xs vs → HaveSorts (Has R new after) xs vs
  sorts_more [] vs h = tt
  sorts_more (y ∷ xs) [] h = h
  sorts_more (y ∷ xs) (v ∷ vs) h = (more y.1 v h.0, sorts_more xs vs h.1)

  use_more : (cond : List Fragment) (σ : Binding) (t u : Tree) (y : StepOf) → IsUse R.written R.hooks (Has R old before) cond σ t u y → IsUse R.written R.hooks (Has R new after) cond σ t u y
  use_more cond σ t u y (inl h) = inl (record {
    number = h.number;
    equation = h.equation;
    numbered = h.numbered;
    exec = h.exec;
    condition = h.condition;
    statement = h.statement;
    instance = record { one_each = h.instance.one_each; sorted = sorts_more _ y.values h.instance.sorted; before = h.instance.before; after = h.instance.after; context = h.instance.context };
    same = h.same;
    leads = h.leads;
  })
  use_more cond σ t u y (inr h) = inr (record { operator = h.operator; condition = h.condition; statement = h.statement; built = h.built; leads = h.leads })

  used_later : (t : Tree) (es : List Event) (u : Tree) → IsUsed R old before t es u → IsUsed R new after t es u
  used_later t es u h = record {
    before = h.before;
    step = h.step;
    is = h.is;
    stands = All-head (StandsIn new) (made h.step) [] (events_stand old new x (made h.step ∷ []) (All-cons (StandsIn old) (made h.step) [] h.stands (All-nil (StandsIn old))));
    binding = h.binding;
    cond = h.cond;
    shown = shows_later (look_up h.binding) 0 h.cond h.before h.shown;
    applies = subst (λ y. IsUse R.written R.hooks (Has R new after) h.cond h.binding t u y) (sym (step_same h.step h.stands)) (use_more h.cond h.binding t u (step_in old h.step) h.applies);
  }

  may_begin_later : (t0 : Tree) (es : List Event) (u : Tree) → MayBegin R old before t0 es u → MayBegin R new after t0 es u
  may_begin_later t0 es u (inl h) = inl h
  may_begin_later t0 es u (inr h) = inr (record { before = h.before; last = h.last; is = h.is; term = h.term; runs = runs_later t0 h.before h.term h.runs; used = used_later h.term h.last u h.used })

  in_round_later : (t0 : Tree) (f : ℕ) (ts : List Tree) (es : List Event) → IsInRound R old before t0 f ts es → IsInRound R new after t0 f ts es
  in_round_later t0 f ts es h = record {
    before = h.before;
    round = h.round;
    is = h.is;
    «from» = h.from;
    begins = may_begin_later t0 h.before (apply f (trees_of h.from)) h.begins;
    leads = runs_in_later h.from h.round ts h.leads;
  }

  shown_later : (e i j : ℕ) (σ : Binding) (es : List Event) → IsShown R old before e i j σ es → IsShown R new after e i j σ es
  shown_later e i j σ es h = record { front = h.front; is = h.is; number = h.number; shown = λ τ g. shows_later (look_up τ) i h.front es (h.shown τ g) }

  matched_later : (e i j : ℕ) (σ : Binding) (v : Tree) (es : List Event) → IsMatched R old before e i j σ v es → IsMatched R new after e i j σ v es
  matched_later e i j σ v es h = record { front = h.front; is = h.is; number = h.number; shown = λ τ g q. shows_later (look_up τ) i h.front es (h.shown τ g q) }

  stands_later : (t : TermId) (y : Tree) → StandsAs R old before t y → StandsAs R new after t y
  stands_later t y h = (IsOf-extends old new t.0 x h.0, tree_at-extends old new t.0 x h.0 ∙ h.1)

  side_later : (e j : ℕ) (right : Bool) (σ : Binding) (t : TermId) (y : Tree) → IsSide R old before e j right σ t y → IsSide R new after e j right σ t y
  side_later e j right σ t y h = record { stands = stands_later t y h.stands; normal = h.normal; side = h.side }

module _ {A C S D : Type 0} (w w' : Words A C S D) (k : Keeps w w') (old new : List Node) (x : Extends old new) (before after : Table) (kept : KeepsEntries before after) where
  task_on : (J : Job) (c : Control A C S D) (es : List Event) → IsKnownNext w c → TellsTask w old before J c es → TellsTask w' new after J c es
  task_on (evaluating t0) (Next.Eval n t) es q h =
      subst (λ R. MayBegin R new after t0 es (w'.tree t.0)) (sym k.rules) (subst (MayBegin w.rules new after t0 es) (sym (k.terms t.0 q).1) (may_begin_later w.rules old new x before after kept t0 es (w.tree t.0) h))
  task_on (evaluating t0) (Next.Evaluating a) es q h =
      subst (λ R. IsInRound R new after t0 a.op.0 (trees w' a.args.items) es) (sym k.rules)
      (subst (λ ts. IsInRound w.rules new after t0 a.op.0 ts es) (sym (k.operands a.op.0 a.args.items q).1) (in_round_later w.rules old new x before after kept t0 a.op.0 (trees w a.args.items) es h))
  task_on (evaluating t0) (Next.Top n t) es q h =
      subst (λ R. Runs R new after t0 es (w'.tree t.0)) (sym k.rules) (subst (Runs w.rules new after t0 es) (sym (k.terms t.0 q).1) (runs_later w.rules old new x before after kept t0 es (w.tree t.0) h))
  task_on (evaluating t0) (Next.Settle n t d) es q h =
      subst (λ R. Runs R new after t0 es (w'.tree t.0)) (sym k.rules) (subst (Runs w.rules new after t0 es) (sym (k.terms t.0 q.0).1) (runs_later w.rules old new x before after kept t0 es (w.tree t.0) h))
  task_on (evaluating t0) (Next.Ready n t) es q h =
      subst (λ R. Runs R new after t0 es (w'.tree t.0)) (sym k.rules) (subst (Runs w.rules new after t0 es) (sym (k.values t.0 q).1) (runs_later w.rules old new x before after kept t0 es (w.tree t.0) h))
  task_on (evaluating t0) (Next.Attempt y) es q h =
      subst (λ R. Runs R new after t0 es (w'.tree y.term.0)) (sym k.rules) (subst (Runs w.rules new after t0 es) (sym (k.values y.term.0 q.0).1) (runs_later w.rules old new x before after kept t0 es (w.tree y.term.0) h))
  task_on (evaluating t0) (Next.Value t) es q h =
      subst (λ R. Runs R new after t0 es (w'.tree t.0)) (sym k.rules) (subst (Runs w.rules new after t0 es) (sym (k.values t.0 q).1) (runs_later w.rules old new x before after kept t0 es (w.tree t.0) h))
  task_on (solving e i σ) (Next.Solve c) es q h =
      let b = sym (k.bindings c.condition c.at c.binding q.0).1 in (
        h.0,
        subst (IsExtension σ) b h.1,
        subst (λ R. IsShown R new after e i c.at (w'.bound c.binding) es) (sym k.rules) (subst (λ τ. IsShown w.rules new after e i c.at τ es) b (shown_later w.rules old new x before after kept e i c.at (w.bound c.binding) es h.2)),
      )
  task_on (solving e i σ) (Next.Choose c) es q h =
      let b = k.chosen c.condition c.at c.choices q in (
        h.0,
        subst (IsExtension σ) (sym b.0) h.1,
        subst (λ R. IsMatched R new after e i c.at (w'.chosen_from c.choices) (w'.chosen_value c.choices) es) (sym k.rules)
            (subst (λ τ. IsMatched w.rules new after e i c.at τ (w'.chosen_value c.choices) es) (sym b.0)
            (subst (λ v. IsMatched w.rules new after e i c.at (w.chosen_from c.choices) v es) (sym b.1) (matched_later w.rules old new x before after kept e i c.at (w.chosen_from c.choices) (w.chosen_value c.choices) es h.2))),
      )
  task_on (solving e i σ) (Next.Own c y) es q h =
      let b = k.chosen c.condition c.at c.choices q.0 in (
        h.0,
        subst (IsExtension σ) (sym b.0) h.1,
        subst (λ R. IsMatched R new after e i c.at (w'.chosen_from c.choices) (w'.chosen_value c.choices) es) (sym k.rules)
            (subst (λ τ. IsMatched w.rules new after e i c.at τ (w'.chosen_value c.choices) es) (sym b.0)
            (subst (λ v. IsMatched w.rules new after e i c.at (w.chosen_from c.choices) v es) (sym b.1) (matched_later w.rules old new x before after kept e i c.at (w.chosen_from c.choices) (w.chosen_value c.choices) es h.2))),
      )
  task_on (solving e i σ) (Next.Held d τ) es q h =
      let b = sym (k.bindings d q.0 τ q.1).1 in (
        h.0,
        subst (IsExtension σ) b h.1,
        λ υ g. subst (λ R. Shows R new after (look_up υ) i (drop i (R.fragments e)) es) (sym k.rules) (shows_later w.rules old new x before after kept (look_up υ) i (drop i (w.rules.fragments e)) es (h.2 υ (subst (λ z. IsExtension z υ) (sym b) g))),
      )
  task_on J (Next.Failed d) es q h = tt
  task_on J c es q h = absurd h

  side_on : (e j : ℕ) (right : Bool) (σ τ : Binding) (t : TermId) (y : Tree) → σ ≡ τ → IsSide w.rules old before e j right σ t y → IsSide w'.rules new after e j right τ t y
  side_on e j right σ τ t y b h =
      subst (λ R. IsSide R new after e j right τ t y) (sym k.rules) (subst (λ z. IsSide w.rules new after e j right z t y) b (side_later w.rules old new x before after kept e j right σ t y h))

  shown_on : (e i j : ℕ) (σ τ : Binding) (es : List Event) → σ ≡ τ → IsShown w.rules old before e i j σ es → IsShown w'.rules new after e i j τ es
  shown_on e i j σ τ es b h = subst (λ R. IsShown R new after e i j τ es) (sym k.rules) (subst (λ z. IsShown w.rules new after e i j z es) b (shown_later w.rules old new x before after kept e i j σ es h))

  stands_on : (t : TermId) (y : Tree) → StandsAs w.rules old before t y → StandsAs w'.rules new after t y
  stands_on t y h = stands_later w.rules old new x before after kept t y h

  entered_on : (e i : ℕ) (σ : Binding) (d j : ℕ) (right : Bool) (number : ℕ) (τ τ' : Binding) (xs : List Event) (y : Tree) → τ ≡ τ' →
      HasEntered w old before e i σ d j right number τ xs y → HasEntered w' new after e i σ d j right number τ' xs y
  entered_on e i σ d j right number τ τ' xs y b h = record {
    before = h.before;
    term = h.term;
    is = h.is;
    side = side_on d j right τ τ' h.term y b h.side;
    same = h.same;
    extends = subst (IsExtension σ) b h.extends;
    shown = shown_on e i j τ τ' h.before b h.shown;
  }

  both_on : (e i : ℕ) (σ : Binding) (d j : ℕ) (τ τ' : Binding) (v : TermId) (xs : List Event) (y : Tree) → τ ≡ τ' → w.tree v.0 ≡ w'.tree v.0 →
      HasEnteredBoth w old before e i σ d j τ v xs y → HasEnteredBoth w' new after e i σ d j τ' v xs y
  both_on e i σ d j τ τ' v xs y b u h = record {
    before = h.before;
    inner = h.inner;
    first = h.first;
    second = h.second;
    left_side = h.left_side;
    is = h.is;
    side = side_on d j false τ τ' h.first h.left_side b h.side;
    runs = subst (λ R. Runs R new after h.left_side h.inner (w'.tree v.0)) (sym k.rules) (subst (Runs w.rules new after h.left_side h.inner) u (runs_later w.rules old new x before after kept h.left_side h.inner (w.tree v.0) h.runs));
    value = subst (StandsAs w'.rules new after v) u (stands_on v (w.tree v.0) h.value);
    other = side_on d j true τ τ' h.second y b h.other;
    same = h.same;
    extends = subst (IsExtension σ) b h.extends;
    shown = shown_on e i j τ τ' h.before b h.shown;
  }

  frame_on : (n m : ℕ) (J : Job) (f : Frame A C S D) (xs : List Event) (K : Job) → IsKnown w f → TellsFrame w old before n m J f xs K → TellsFrame w' new after n m J f xs K
  frame_on n m (evaluating t0) (Waiting.Argument a i) xs (evaluating y) q h =
      let e = sym (k.operands a.op.0 a.args.items q).1 in
      let s = stands_later w.rules old new x before after kept h.term y h.stands in
      record {
        before = h.before;
        term = h.term;
        is = h.is;
        stands = s;
        at = subst (λ ts. slice_get ts i ≡ Some y) e h.at;
        round = subst (λ R. IsInRound R new after t0 a.op.0 (trees w' a.args.items) h.before) (sym k.rules)
            (subst (λ ts. IsInRound w.rules new after t0 a.op.0 ts h.before) e (in_round_later w.rules old new x before after kept t0 a.op.0 (trees w a.args.items) h.before h.round));
      }
  frame_on n m (evaluating t0) (Waiting.Again t) xs (evaluating y) q h = record {
    before = h.before;
    is = h.is;
    stands = stands_later w.rules old new x before after kept t y h.stands;
    runs = subst (λ R. Runs R new after t0 h.before y) (sym k.rules) (runs_later w.rules old new x before after kept t0 h.before y h.runs);
  }
  frame_on n m (solving e i σ) (Waiting.Left c) xs (evaluating y) q h = entered_on e i σ c.condition c.at false 0 (w.bound c.binding) (w'.bound c.binding) xs y (sym (k.bindings c.condition c.at c.binding q.0).1) h
  frame_on n m (solving e i σ) (Waiting.Right c v) xs (evaluating y) q h = both_on e i σ c.condition c.at (w.bound c.binding) (w'.bound c.binding) v xs y (sym (k.bindings c.condition c.at c.binding q.0).1) (sym (k.values v.0 q.2).1) h
  frame_on n m (solving e i σ) (Waiting.Sorting c) xs (evaluating y) q h = entered_on e i σ c.condition c.at false 0 (w.bound c.binding) (w'.bound c.binding) xs y (sym (k.bindings c.condition c.at c.binding q.0).1) h
  frame_on n m (solving e i σ) (Waiting.Matching c) xs (evaluating y) q h = entered_on e i σ c.condition c.at true 1 (w.bound c.binding) (w'.bound c.binding) xs y (sym (k.bindings c.condition c.at c.binding q.0).1) h
  frame_on n m (solving e i σ) (Waiting.Choice c mark) xs (solving d j τ) q h =
      let b = k.chosen c.condition c.at c.choices q in (
        h.0,
        subst (IsExtension σ) (sym b.0) h.1,
        subst (λ R. IsMatched R new after e i c.at (w'.chosen_from c.choices) (w'.chosen_value c.choices) xs) (sym k.rules)
            (subst (λ τ. IsMatched w.rules new after e i c.at τ (w'.chosen_value c.choices) xs) (sym b.0)
            (subst (λ v. IsMatched w.rules new after e i c.at (w.chosen_from c.choices) v xs) (sym b.1) (matched_later w.rules old new x before after kept e i c.at (w.chosen_from c.choices) (w.chosen_value c.choices) xs h.2))),
        h.3,
        h.4,
        subst (λ z. IsExtension z τ) (sym b.0) h.5,
        λ υ g. subst (λ R. norm R.program.sign.theory (instance (look_up υ) (pattern_in (rest_of R e c.at))) ≡ w'.chosen_value c.choices) (sym k.rules) (h.6 υ g ∙ sym b.1),
        h.7,
        h.8,
      )
  frame_on n m (evaluating t0) (Waiting.Trying y b mark) xs (solving e i σ) q h =
      (h.0, h.1, subst (λ R. Runs R new after t0 xs (w'.tree y.term.0)) (sym k.rules) (subst (Runs w.rules new after t0 xs) (sym (k.values y.term.0 q.0).1) (runs_later w.rules old new x before after kept t0 xs (w.tree y.term.0) h.2)), h.3, h.4)
  frame_on n m (evaluating t0) (Waiting.Deriving y mark) xs (solving e i σ) q h =
      (h.0, h.1, subst (λ R. Runs R new after t0 xs (w'.tree y.term.0)) (sym k.rules) (subst (Runs w.rules new after t0 xs) (sym (k.terms y.term.0 q).1) (runs_later w.rules old new x before after kept t0 xs (w.tree y.term.0) h.2)), h.3, h.4)
  frame_on n m J f xs K q h = absurd h

  tells_on : (n m : ℕ) (J : Job) (fs : List (Frame A C S D)) (c : Control A C S D) (r : ℕ) (es : List Event) → AreKnown w fs → IsKnownNext w c → Tells w old before n m J fs c r es → Tells w' new after n m J fs c r es
  tells_on n m J [] c r es q g h = (task_on J c es g h.0, h.1)
  tells_on n m J (f ∷ fs) c r es q g h =
      (h.0, h.1, h.2, h.3, frame_on n m J f h.0 h.2 q.0 h.4, tells_on (n + length h.0) (counted_on f m h.0) h.2 fs c r h.1 q.1 g h.5)

  -- what was told of frames and a task stays told of them
  pub telling_later : (front : List Event) (J : Job) (fs : List (Frame A C S D)) (c : Control A C S D) (r : ℕ) (told : List Event) → AreKnown w fs → IsKnownNext w c →
      IsTelling w old before front J fs c r told → IsTelling w' new after front J fs c r told
  telling_later front J fs c r told q g h = record { events = h.events; is = h.is; tells = tells_on (length front) 0 J fs c r h.events q g h.tells }
