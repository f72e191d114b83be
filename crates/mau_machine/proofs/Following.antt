-- What comes of more levels: outcomes that follow one another, through frames and from step to step.
use Rattle.std.proofs.Common.{◌≡◌, ◌⊎◌, inl, inr, ℕ, ◌+◌, ◌<◌, ◌≤◌, min, List, [], ◌∷◌, ◌++◌, true, false, Option, Some, None, refl, sym, ◌∙◌, ap, subst, arith, append-nil, Result, Ok, Err, IfOk, IfErr}
use Rattle.mau_terms.specs.Tree.{Tree}
use Rattle.mau_evaluation.specs.Run.{End, Outcome, done, ended, Run, stopped, too_deep, overflowed, counted, counted_if, IsLeft}
use Rattle.mau_evaluation.specs.Program.{Program}
use Rattle.mau_evaluation.specs.Evaluation.{Binding}
use Rattle.mau_evaluation.specs.Engine.{engine_of}
use Rattle.mau_evaluation.proofs.Falls.{budgets_fall, levels_fall}
use Rattle.mau_evaluation.proofs.After.{solve_after_falls}
use Rattle.mau_api.specs.declared.results.EvalEnd.{EvalEnd}
use Rattle.mau_api.specs.declared.results.EvalEnd.TheVariants.{Stopped, TooDeep, Overflow, NoMemory}
use Rattle.mau_machine.specs.Words.{greatest_count, capped, IsEnd, LeadsTo, EndsBy, EndsWhere, Comes, ComesToEnd, IsAnswered, Rules, Words, Keeps, rest_of, eval_on, solve_on, solve_from}
use Rattle.mau_machine.specs.Machine.{Reply, gave, held, failed, as_value, as_answer, from_built, goes_on, comes, waits_in, task_in, through, whole}
use Rattle.mau_machine.specs.Known.{IsKnownNext, AreKnown}
use Rattle.mau_machine.specs.Steps.{IsAlike, Follows, AreAnswered, Goes, IsSettledOn}
use Rattle.mau_machine.specs.declared.frame.Settled.{Settled}
use Rattle.mau_machine.specs.declared.frame.Frame.{Frame}
use Rattle.mau_machine.specs.declared.frame.Frame.TheVariants as Waiting
use Rattle.mau_machine.specs.declared.frame.Control.{Control}
use Rattle.mau_machine.specs.declared.frame.Control.TheVariants as Next
use Rattle.mau_machine.proofs.Counts.{counted_zero, answer_zero, value_is, solution_is, none_is, value_end, answer_end, end_is, shown_end}
use Rattle.mau_machine.proofs.Through.{alike, through_ended, appended}
use Rattle.mau_machine.proofs.Held.{same_whole_of}

-- ---- numbers

no_sum : (a b : ℕ) → a ≡ 0 → b ≡ 0 → a + b ≡ 0
no_sum a b h k = omega (arith, h, k)

less_left : (n a b : ℕ) → n < a → n < a + b
less_left n a b h = omega (arith, h)

less_right : (n a b : ℕ) → n < b → n < a + b
less_right n a b h = omega (arith, h)

pub more_levels : (k n a : ℕ) → k + n < a → n < a
more_levels k n a h = omega (arith, h)

not_less : (n : ℕ) → n < n → ⊥
not_less n h = omega (arith, h)

-- ---- outcomes

-- alike by each number of levels
pub exactly : {A : Type 0} (P : Program) (f g : ℕ → Outcome A) → ((n : ℕ) → IsAlike (f n) (g n)) → Follows P f g
exactly P f g h = record { enough = 0; just = λ z. refl; follows = λ n. inl (h n) }

pub follows_then : {A : Type 0} (P : Program) (f g h : ℕ → Outcome A) → Follows P f g → Follows P g h → Follows P f h
follows_then {A = A} P f g h a b = record {
  enough = a.enough + b.enough;
  just = λ z. no_sum a.enough b.enough (a.just z) (b.just z);
  follows = λ n. by n (a.follows n) (b.follows n);
}
  where
    by : (n : ℕ) → (IsAlike (f n) (g n) ⊎ ((n < a.enough) × (f n ≡ ended too_deep))) → (IsAlike (g n) (h n) ⊎ ((n < b.enough) × (g n ≡ ended too_deep))) →
        IsAlike (f n) (h n) ⊎ ((n < a.enough + b.enough) × (f n ≡ ended too_deep))
    by n (inl e) (inl i) = inl (e ∙ i)
    by n (inl e) (inr q) = inr (less_right n a.enough b.enough q.0, shown_end (f n) (g n) too_deep e q.1)
    by n (inr q) x = inr (less_left n a.enough b.enough q.0, q.1)

-- the same by other names
pub follows_as : {A : Type 0} (P : Program) (f g f' g' : ℕ → Outcome A) → ((n : ℕ) → f' n ≡ f n) → ((n : ℕ) → g' n ≡ g n) → Follows P f g → Follows P f' g'
follows_as P f g f' g' a b h = record {
  enough = h.enough;
  just = h.just;
  follows = λ n. by n (h.follows n);
}
  where
    by : (n : ℕ) → (IsAlike (f n) (g n) ⊎ ((n < h.enough) × (f n ≡ ended too_deep))) → IsAlike (f' n) (g' n) ⊎ ((n < h.enough) × (f' n ≡ ended too_deep))
    by n (inl e) = inl (ap capped (a n) ∙ (e ∙ ap capped (sym (b n))))
    by n (inr q) = inr (q.0, a n ∙ q.1)

-- what a world leads to, by the levels at hand and more
pub leads_on : {A B : Type 0} (P : Program) (f g : ℕ → Run A) → LeadsTo P f g → (k b : ℕ) (F G : ℕ → Outcome B) → ((n : ℕ) → f (k + n) b ≡ g (k + n) b → IsAlike (F n) (G n)) →
    ((n : ℕ) → f (k + n) b ≡ ended too_deep → F n ≡ ended too_deep) → Follows P F G
leads_on P f g h k b F G same deep = record {
  enough = h.enough;
  just = h.just;
  follows = λ n. by n (h.leads (k + n) b);
}
  where
    by : (n : ℕ) → ((f (k + n) b ≡ g (k + n) b) ⊎ ((k + n < h.enough) × (f (k + n) b ≡ ended too_deep))) → IsAlike (F n) (G n) ⊎ ((n < h.enough) × (F n ≡ ended too_deep))
    by n (inl e) = inl (same n e)
    by n (inr q) = inr (more_levels k n h.enough q.0, deep n q.1)

-- ---- ends

comes_follows : {A : Type 0} (P : Program) (f g : ℕ → Outcome A) (o : Outcome A) → Follows P f g → Comes P g o → Comes P f o
comes_follows P f g o a b = record {
  enough = a.enough + b.enough;
  just = λ z. no_sum a.enough b.enough (a.just z) (b.just z);
  comes = λ n. by n (a.follows n) (b.comes n);
}
  where
    by : (n : ℕ) → (IsAlike (f n) (g n) ⊎ ((n < a.enough) × (f n ≡ ended too_deep))) → ((capped (g n) ≡ o) ⊎ ((n < b.enough) × (g n ≡ ended too_deep))) →
        (capped (f n) ≡ o) ⊎ ((n < a.enough + b.enough) × (f n ≡ ended too_deep))
    by n (inl e) (inl i) = inl (e ∙ i)
    by n (inl e) (inr q) = inr (less_right n a.enough b.enough q.0, shown_end (f n) (g n) too_deep e q.1)
    by n (inr q) x = inr (less_left n a.enough b.enough q.0, q.1)

deep_follows : {A : Type 0} (P : Program) (f g : ℕ → Outcome A) → Follows P f g → g 0 ≡ ended too_deep → f 0 ≡ ended too_deep
deep_follows P f g h e = by (h.follows 0)
  where
    by : (IsAlike (f 0) (g 0) ⊎ ((0 < h.enough) × (f 0 ≡ ended too_deep))) → f 0 ≡ ended too_deep
    by (inl a) = shown_end (f 0) (g 0) too_deep a e
    by (inr q) = q.1

-- where what follows ends, so does what it follows
pub ends_follow : {A : Type 0} (P : Program) (f g : ℕ → Outcome A) (e : EvalEnd) → Follows P f g → ComesToEnd P g e → ComesToEnd P f e
ends_follow P f g Stopped h k = comes_follows P f g (ended stopped) h k
ends_follow P f g TooDeep h k = deep_follows P f g h k
ends_follow P f g Overflow h k = comes_follows P f g (ended overflowed) h k
ends_follow P f g NoMemory h k = tt

-- an end by each number of levels
pub ends_exactly : {A : Type 0} (P : Program) (f : ℕ → Outcome A) (e : EvalEnd) → ((n : ℕ) → IsEnd (f n) e) → ComesToEnd P f e
ends_exactly P f Stopped h = record { enough = 0; just = λ z. refl; comes = λ n. inl (ap capped (h n)) }
ends_exactly P f TooDeep h = h 0
ends_exactly P f Overflow h = record { enough = 0; just = λ z. refl; comes = λ n. inl (ap capped (h n)) }
ends_exactly P f NoMemory h = tt

pub any_end : {A N : Type 0} (P : Program) (f : ℕ → Outcome A) (r : Result N EvalEnd) → ((o : Outcome A) → IfErr r (IsEnd o)) → IfErr r (ComesToEnd P f)
any_end P f (Ok x) h = tt
any_end P f (Err e) h = ends_exactly P f e (λ n. h (f n))

-- an end that goes through something
comes_on : {A B : Type 0} (P : Program) (f : ℕ → Outcome A) (F : ℕ → Outcome B) (d : End) → ((n : ℕ) (d : End) → f n ≡ ended d → F n ≡ ended d) → Comes P f (ended d) → Comes P F (ended d)
comes_on P f F d h k = record {
  enough = k.enough;
  just = k.just;
  comes = λ n. by n (k.comes n);
}
  where
    by : (n : ℕ) → ((capped (f n) ≡ ended d) ⊎ ((n < k.enough) × (f n ≡ ended too_deep))) → (capped (F n) ≡ ended d) ⊎ ((n < k.enough) × (F n ≡ ended too_deep))
    by n (inl e) = inl (ap capped (h n d (end_is (f n) d e)))
    by n (inr q) = inr (q.0, h n too_deep q.1)

pub ends_on : {A B : Type 0} (P : Program) (f : ℕ → Outcome A) (F : ℕ → Outcome B) (e : EvalEnd) → ((n : ℕ) (d : End) → f n ≡ ended d → F n ≡ ended d) → ComesToEnd P f e → ComesToEnd P F e
ends_on P f F Stopped h k = comes_on P f F stopped h k
ends_on P f F TooDeep h k = h 0 too_deep k
ends_on P f F Overflow h k = comes_on P f F overflowed h k
ends_on P f F NoMemory h k = tt

-- an end that a world tells of
comes_leads : {A B : Type 0} (P : Program) (f : ℕ → Run A) (d : End) → LeadsTo P f (λ k b. ended d) → (k b : ℕ) (F : ℕ → Outcome B) → ((n : ℕ) (d : End) → f (k + n) b ≡ ended d → F n ≡ ended d) → Comes P F (ended d)
comes_leads P f d h k b F on = record {
  enough = h.enough;
  just = h.just;
  comes = λ n. by n (h.leads (k + n) b);
}
  where
    by : (n : ℕ) → ((f (k + n) b ≡ ended d) ⊎ ((k + n < h.enough) × (f (k + n) b ≡ ended too_deep))) → (capped (F n) ≡ ended d) ⊎ ((n < h.enough) × (F n ≡ ended too_deep))
    by n (inl e) = inl (ap capped (on n d e))
    by n (inr q) = inr (more_levels k n h.enough q.0, on n too_deep q.1)

pub ends_lead : {A B : Type 0} (P : Program) (f : ℕ → Run A) (e : EvalEnd) → EndsBy P f e → (k b : ℕ) (F : ℕ → Outcome B) → ((n : ℕ) (d : End) → f (k + n) b ≡ ended d → F n ≡ ended d) → ComesToEnd P F e
ends_lead P f Stopped h k b F on = comes_leads P f stopped h k b F on
ends_lead P f TooDeep h k b F on = by (h.leads (k + 0) b)
  where
    by : ((f (k + 0) b ≡ ended too_deep) ⊎ ((k + 0 < h.enough) × (f (k + 0) b ≡ ended too_deep))) → F 0 ≡ ended too_deep
    by (inl e) = on 0 too_deep e
    by (inr q) = on 0 too_deep q.1
ends_lead P f Overflow h k b F on = comes_leads P f overflowed h k b F on
ends_lead P f NoMemory h k b F on = tt

-- ---- what is shown at the end

pub value_comes : (P : Program) (f : ℕ → Outcome Tree) (t : Tree) (r b : ℕ) → r ≤ greatest_count → Follows P (λ n. as_value (counted 0 (f n))) (λ n. done (gave t) r b) → Comes P f (done t r b)
value_comes P f t r b small h = record {
  enough = h.enough;
  just = h.just;
  comes = λ n. by n (h.follows n);
}
  where
    by : (n : ℕ) → (IsAlike (as_value (counted 0 (f n))) (done (gave t) r b) ⊎ ((n < h.enough) × (as_value (counted 0 (f n)) ≡ ended too_deep))) → (capped (f n) ≡ done t r b) ⊎ ((n < h.enough) × (f n ≡ ended too_deep))
    by n (inl e) = inl (value_is (f n) t r b small (ap (λ o. capped (as_value o)) (sym (counted_zero (f n))) ∙ e))
    by n (inr q) = inr (q.0, value_end (f n) too_deep (ap as_value (sym (counted_zero (f n))) ∙ q.1))

pub value_comes_to_end : (P : Program) (f : ℕ → Outcome Tree) (e : EvalEnd) → ComesToEnd P (λ n. as_value (counted 0 (f n))) e → ComesToEnd P f e
value_comes_to_end P f e h = ends_on P (λ n. as_value (counted 0 (f n))) f e (λ n d q. value_end (f n) d (ap as_value (sym (counted_zero (f n))) ∙ q)) h

pub solution_comes : (P : Program) (f : ℕ → Outcome (Option Binding)) (σ : Binding) (r b : ℕ) → r ≤ greatest_count → Follows P (λ n. as_answer (counted_if 0 (f n))) (λ n. done (held σ) r b) → Comes P f (done (Some σ) r b)
solution_comes P f σ r b small h = record {
  enough = h.enough;
  just = h.just;
  comes = λ n. by n (h.follows n);
}
  where
    by : (n : ℕ) → (IsAlike (as_answer (counted_if 0 (f n))) (done (held σ) r b) ⊎ ((n < h.enough) × (as_answer (counted_if 0 (f n)) ≡ ended too_deep))) → (capped (f n) ≡ done (Some σ) r b) ⊎ ((n < h.enough) × (f n ≡ ended too_deep))
    by n (inl e) = inl (solution_is (f n) σ r b small (ap capped (sym (answer_zero (f n))) ∙ e))
    by n (inr q) = inr (q.0, answer_end (f n) too_deep (sym (answer_zero (f n)) ∙ q.1))

pub none_comes : (P : Program) (f : ℕ → Outcome (Option Binding)) (b : ℕ) → Follows P (λ n. as_answer (counted_if 0 (f n))) (λ n. done failed 0 b) → Comes P (λ n. counted_if 0 (f n)) (done None 0 b)
none_comes P f b h = record {
  enough = h.enough;
  just = h.just;
  comes = λ n. by n (h.follows n);
}
  where
    by : (n : ℕ) → (IsAlike (as_answer (counted_if 0 (f n))) (done failed 0 b) ⊎ ((n < h.enough) × (as_answer (counted_if 0 (f n)) ≡ ended too_deep))) →
        (capped (counted_if 0 (f n)) ≡ done None 0 b) ⊎ ((n < h.enough) × (counted_if 0 (f n) ≡ ended too_deep))
    by n (inl e) = inl (none_is (f n) b e)
    by n (inr q) = inr (q.0, answer_end (counted_if 0 (f n)) too_deep q.1)

pub answer_comes_to_end : (P : Program) (f : ℕ → Outcome (Option Binding)) (e : EvalEnd) → ComesToEnd P (λ n. as_answer (counted_if 0 (f n))) e → ComesToEnd P f e
answer_comes_to_end P f e h = ends_on P (λ n. as_answer (counted_if 0 (f n))) f e (λ n d q. answer_end (f n) d (sym (answer_zero (f n)) ∙ q)) h

-- ---- budgets fall

lower : {A : Type 0} (o : Outcome A) (x : A) (r b c : ℕ) → capped o ≡ done x r b → IsLeft c o → b ≤ c
lower (done y q d) x r b c e h = subst (λ z. z ≤ c) (left e) (less h)
  where
    left : done y (min q greatest_count) d ≡ done x r b → d ≡ b
    left e = cc

    less : q + d ≤ c → d ≤ c
    less h = omega (arith, h)
lower (ended z) x r b c e h = absurd (no e)
  where
    no : ended z ≡ done x r b → ⊥
    no e = cc

-- what comes of a budget is within it
pub comes_lower : {A : Type 0} (P : Program) (f : ℕ → Outcome A) (x : A) (r b c : ℕ) → Comes P f (done x r b) → ((n : ℕ) → IsLeft c (f n)) → b ≤ c
comes_lower P f x r b c h falls = by (h.comes h.enough)
  where
    by : ((capped (f h.enough) ≡ done x r b) ⊎ ((h.enough < h.enough) × (f h.enough ≡ ended too_deep))) → b ≤ c
    by (inl e) = lower (f h.enough) x r b c e (falls h.enough)
    by (inr q) = absurd (not_less h.enough q.0)

pub evaluations_fall : (R : Rules) (k : ℕ) (t : Tree) (b n : ℕ) → IsLeft b (eval_on R (k + n) t b)
evaluations_fall R k t b n = budgets_fall.0 R.program (k + n) R.limit t b

pub solutions_fall : (R : Rules) (last : Option Binding) (k e i : ℕ) (σ : Binding) (b n : ℕ) → IsLeft b (solve_from R last (k + n) e i σ b)
solutions_fall R None k e i σ b n = budgets_fall.1 R.program (k + n) R.limit (rest_of R e i) σ b
solutions_fall R (Some last) k e i σ b n = solve_after_falls R.program (engine_of R.program (k + n) R.limit 0) (levels_fall R.program R.limit (k + n)) last (rest_of R e i) σ b

pub uncounted_falls : (b : ℕ) (o : Outcome (Option Binding)) → IsLeft b o → IsLeft b (counted_if 0 o)
uncounted_falls b (done (Some σ) q c) h = omega (arith, h)
uncounted_falls b (done None q c) h = omega (arith, h)
uncounted_falls b (ended e) h = tt

-- ---- through frames

module _ {A C S D : Type 0} (w : Words A C S D) where
  abbrev P : Program
  P = w.rules.program

  pub through_follows : (fs : List (Frame A C S D)) (f g : ℕ → Outcome Reply) → Follows P f g → Follows P (λ n. through w n fs (f n)) (λ n. through w n fs (g n))
  through_follows fs f g h = record {
    enough = h.enough;
    just = h.just;
    follows = λ n. by n (h.follows n);
  }
    where
      by : (n : ℕ) → (IsAlike (f n) (g n) ⊎ ((n < h.enough) × (f n ≡ ended too_deep))) → IsAlike (through w n fs (f n)) (through w n fs (g n)) ⊎ ((n < h.enough) × (through w n fs (f n) ≡ ended too_deep))
      by n (inl e) = inl (alike w n fs (f n) (g n) e)
      by n (inr q) = inr (q.0, ap (through w n fs) q.1 ∙ through_ended w n fs too_deep)

  -- an end goes through all frames
  pub ends_through : (fs : List (Frame A C S D)) (f : ℕ → Outcome Reply) (e : EvalEnd) → ComesToEnd P f e → ComesToEnd P (λ n. through w n fs (f n)) e
  ends_through fs f e h = ends_on P f (λ n. through w n fs (f n)) e (λ n d q. ap (through w n fs) q ∙ through_ended w n fs d) h

  -- the last frame ends
  pub ends_popped : (fs gs : List (Frame A C S D)) (f : Frame A C S D) (o : ℕ → Outcome Reply) (e : EvalEnd) → fs ≡ gs ++ f ∷ [] → ComesToEnd P (λ n. goes_on w.rules (waits_in w n f) (o n)) e →
      ComesToEnd P (λ n. through w n fs (o n)) e
  ends_popped fs gs f o e g h =
      ends_on P (λ n. through w n gs (goes_on w.rules (waits_in w n f) (o n))) (λ n. through w n fs (o n)) e (λ n d q. (ap (λ z. through w n z (o n)) g ∙ appended w n gs (f ∷ []) (o n)) ∙ q)
      (ends_through gs (λ n. goes_on w.rules (waits_in w n f) (o n)) e h)

  pub ends_result : {N : Type 0} (fs : List (Frame A C S D)) (f : ℕ → Outcome Reply) (r : Result N EvalEnd) → IfErr r (ComesToEnd P f) → IfErr r (ComesToEnd P (λ n. through w n fs (f n)))
  ends_result fs f (Ok x) h = tt
  ends_result fs f (Err e) h = ends_through fs f e h

  -- ---- one step

  -- a task goes on to another one
  pub went_on : (fs : List (Frame A C S D)) (c d : Control A C S D) (r q b a : ℕ) → Follows P (λ n. comes w.rules (task_in w n c) r b) (λ n. comes w.rules (task_in w n d) q a) → Goes w fs c r b fs d q a
  went_on fs c d r q b a h = record { below = fs; taken = []; put = []; was = sym (append-nil fs); is = sym (append-nil fs); follows = h; answered = tt }

  -- a frame begins to wait
  pub went_pushed : (fs gs : List (Frame A C S D)) (f : Frame A C S D) (c d : Control A C S D) (r q b a : ℕ) → gs ≡ fs ++ f ∷ [] → AreAnswered w (f ∷ []) d q a →
      Follows P (λ n. comes w.rules (task_in w n c) r b) (λ n. goes_on w.rules (waits_in w n f) (comes w.rules (task_in w n d) q a)) → Goes w fs c r b gs d q a
  went_pushed fs gs f c d r q b a g h k = record { below = fs; taken = []; put = f ∷ []; was = sym (append-nil fs); is = g; follows = k; answered = h }

  -- the last frame goes on
  pub went_popped : (fs gs : List (Frame A C S D)) (f : Frame A C S D) (c d : Control A C S D) (r q b a : ℕ) → fs ≡ gs ++ f ∷ [] →
      Follows P (λ n. goes_on w.rules (waits_in w n f) (comes w.rules (task_in w n c) r b)) (λ n. comes w.rules (task_in w n d) q a) → Goes w fs c r b gs d q a
  went_popped fs gs f c d r q b a g k = record { below = gs; taken = f ∷ []; put = []; was = g; is = sym (append-nil gs); follows = k; answered = tt }

  -- the last frame waits on as another one
  pub went_swapped : (fs gs hs : List (Frame A C S D)) (f h : Frame A C S D) (c d : Control A C S D) (r q b a : ℕ) → fs ≡ gs ++ f ∷ [] → hs ≡ gs ++ h ∷ [] → AreAnswered w (h ∷ []) d q a →
      Follows P (λ n. goes_on w.rules (waits_in w n f) (comes w.rules (task_in w n c) r b)) (λ n. goes_on w.rules (waits_in w n h) (comes w.rules (task_in w n d) q a)) → Goes w fs c r b hs d q a
  went_swapped fs gs hs f h c d r q b a g i j k = record { below = gs; taken = f ∷ []; put = h ∷ []; was = g; is = i; follows = k; answered = j }

  -- the settling of a term goes on
  pub went_settled : (fs gs gs' : List (Frame A C S D)) (x : Settled D) (mark : ℕ) (c d : Control A C S D) (r q b a : ℕ) → fs ≡ gs ++ Waiting.Deriving x mark ∷ [] → gs' ≡ gs → q ≡ x.before → a ≡ x.budget → IsSettledOn w x d →
      ((n : ℕ) → goes_on w.rules (waits_in w n (Waiting.Deriving x mark)) (comes w.rules (task_in w n c) r b) ≡ as_value (counted x.before (from_built w.rules (x.level + n) false (w.tree x.term.0) x.budget))) →
      Goes w fs c r b gs' d q a
  went_settled fs gs gs' x mark c d r q b a p g i j s h =
      subst (λ z. Goes w fs c r b z d q a) (sym g) (subst (λ z. Goes w fs c r b gs z q a) (sym s.1) (subst (λ z. Goes w fs c r b gs (Next.Settle x.level x.term s.0) z a) (sym i) (subst (λ z. Goes w fs c r b gs (Next.Settle x.level x.term s.0) x.before z) (sym j)
      (went_popped fs gs (Waiting.Deriving x mark) c (Next.Settle x.level x.term s.0) r x.before b x.budget p (exactly P _ _ (λ n. ap capped (h n)))))))

  pub went_result : (fs : List (Frame A C S D)) (c : Control A C S D) (r b : ℕ) (x : Result (Control A C S D) EvalEnd) →
      IfOk x (λ d. Follows P (λ n. comes w.rules (task_in w n c) r b) (λ n. comes w.rules (task_in w n d) r b)) → IfOk x (λ d. Goes w fs c r b fs d r b)
  went_result fs c r b (Ok d) h = went_on fs c d r r b b h
  went_result fs c r b (Err e) h = tt

  -- the frame that was taken from the stack goes on by a result
  pub popped_result : (fs gs : List (Frame A C S D)) (f : Frame A C S D) (c : Control A C S D) (r b : ℕ) (o : ℕ → Outcome Reply) (x : Result (Control A C S D) EvalEnd) → fs ≡ gs ++ f ∷ [] →
      Follows P (λ n. goes_on w.rules (waits_in w n f) (comes w.rules (task_in w n c) r b)) o → ((n : ℕ) → IfOk x (λ d. o n ≡ comes w.rules (task_in w n d) r b)) → IfOk x (λ d. Goes w fs c r b gs d r b)
  popped_result fs gs f c r b o (Ok d) g h i =
      went_popped fs gs f c d r r b b g
      (follows_as P (λ n. goes_on w.rules (waits_in w n f) (comes w.rules (task_in w n c) r b)) o (λ n. goes_on w.rules (waits_in w n f) (comes w.rules (task_in w n c) r b)) (λ n. comes w.rules (task_in w n d) r b)
      (λ n. refl) (λ n. sym (i n)) h)
  popped_result fs gs f c r b o (Err e) g h i = tt

  -- ---- the whole

  whole_appended : (below more : List (Frame A C S D)) (c : Control A C S D) (r b : ℕ) (fs : List (Frame A C S D)) → fs ≡ below ++ more → (n : ℕ) → whole w n fs c r b ≡ through w n below (whole w n more c r b)
  whole_appended below more c r b fs e n = ap (λ z. whole w n z c r b) e ∙ appended w n below more (comes w.rules (task_in w n c) r b)

  pub went_whole : (fs gs : List (Frame A C S D)) (c d : Control A C S D) (r q b a : ℕ) → Goes w fs c r b gs d q a → Follows P (λ n. whole w n fs c r b) (λ n. whole w n gs d q a)
  went_whole fs gs c d r q b a h =
      follows_as P (λ n. through w n h.below (whole w n h.taken c r b)) (λ n. through w n h.below (whole w n h.put d q a)) (λ n. whole w n fs c r b) (λ n. whole w n gs d q a)
      (whole_appended h.below h.taken c r b fs h.was) (whole_appended h.below h.put d q a gs h.is) (through_follows h.below (λ n. whole w n h.taken c r b) (λ n. whole w n h.put d q a) h.follows)

  module _ (c d : Control A C S D) (r q b a : ℕ) (taken put : List (Frame A C S D)) (follows : Follows P (λ n. whole w n taken c r b) (λ n. whole w n put d q a)) (answered : AreAnswered w put d q a) where
    above : (fs : List (Frame A C S D)) → Follows P (λ n. whole w n (fs ++ taken) c r b) (λ n. whole w n (fs ++ put) d q a)
    above fs =
        follows_as P (λ n. through w n fs (whole w n taken c r b)) (λ n. through w n fs (whole w n put d q a)) (λ n. whole w n (fs ++ taken) c r b) (λ n. whole w n (fs ++ put) d q a)
        (whole_appended fs taken c r b (fs ++ taken) refl) (whole_appended fs put d q a (fs ++ put) refl) (through_follows fs (λ n. whole w n taken c r b) (λ n. whole w n put d q a) follows)

    answered_above : (fs : List (Frame A C S D)) → AreAnswered w (fs ++ taken) c r b → AreAnswered w (fs ++ put) d q a
    answered_above [] h = answered
    answered_above (Waiting.Argument x i ∷ fs) h = answered_above fs h
    answered_above (Waiting.Again t ∷ fs) h = answered_above fs h
    answered_above (Waiting.Left x ∷ fs) h = answered_above fs h
    answered_above (Waiting.Right x t ∷ fs) h = answered_above fs h
    answered_above (Waiting.Sorting x ∷ fs) h = answered_above fs h
    answered_above (Waiting.Matching x ∷ fs) h = answered_above fs h
    answered_above (Waiting.Choice x mark ∷ fs) h = answered_above fs h
    answered_above (Waiting.Trying x before mark ∷ fs) h = answered_above fs h
    answered_above (Waiting.Deriving x mark ∷ fs) h = (
      (
        h.0.0,
        h.0.1,
        follows_then P (λ n. as_answer (counted_if 0 (solve_on w.rules (x.level + n) x.condition 0 h.0.0 w.rules.limit))) (λ n. whole w n (fs ++ taken) c r b) (λ n. whole w n (fs ++ put) d q a) h.0.2 (above fs),
      ),
      answered_above fs h.1,
    )

  pub went_answered : (fs gs : List (Frame A C S D)) (c d : Control A C S D) (r q b a : ℕ) → Goes w fs c r b gs d q a → AreAnswered w fs c r b → AreAnswered w gs d q a
  went_answered fs gs c d r q b a h k =
      subst (λ z. AreAnswered w z d q a) (sym h.is) (answered_above c d r q b a h.taken h.put h.follows h.answered h.below (subst (λ z. AreAnswered w z c r b) h.was k))

  -- the last frame waits for the condition of a membership
  pub last_answered : (fs gs : List (Frame A C S D)) (x : Frame A C S D) (c : Control A C S D) (r b : ℕ) → fs ≡ gs ++ x ∷ [] → AreAnswered w fs c r b → AreAnswered w (x ∷ []) c r b
  last_answered fs gs x c r b e h = by gs (subst (λ z. AreAnswered w z c r b) e h)
    where
      by : (gs : List (Frame A C S D)) → AreAnswered w (gs ++ x ∷ []) c r b → AreAnswered w (x ∷ []) c r b
      by [] h = h
      by (Waiting.Argument y i ∷ gs) h = by gs h
      by (Waiting.Again t ∷ gs) h = by gs h
      by (Waiting.Left y ∷ gs) h = by gs h
      by (Waiting.Right y t ∷ gs) h = by gs h
      by (Waiting.Sorting y ∷ gs) h = by gs h
      by (Waiting.Matching y ∷ gs) h = by gs h
      by (Waiting.Choice y mark ∷ gs) h = by gs h
      by (Waiting.Trying y before mark ∷ gs) h = by gs h
      by (Waiting.Deriving y mark ∷ gs) h = by gs h.1

-- ---- states that come of one another

module _ {A C S D : Type 0} (w w' : Words A C S D) (k : Keeps w w') where
  pub whole_later : (fs : List (Frame A C S D)) (c : Control A C S D) (r b : ℕ) (g : ℕ → Outcome Reply) → AreKnown w fs → IsKnownNext w c → Follows w'.rules.program (λ n. whole w' n fs c r b) g → Follows w.rules.program (λ n. whole w n fs c r b) g
  whole_later fs c r b g h q f =
      subst (λ (R : Rules). Follows R.program (λ n. whole w n fs c r b) g) k.rules
      (follows_as w'.rules.program (λ n. whole w' n fs c r b) g (λ n. whole w n fs c r b) g (λ n. sym (same_whole_of w w' k fs c h q n r b)) (λ n. refl) f)

  pub ends_later : (fs : List (Frame A C S D)) (c : Control A C S D) (r b : ℕ) (e : EvalEnd) → AreKnown w fs → IsKnownNext w c → ComesToEnd w'.rules.program (λ n. whole w' n fs c r b) e → ComesToEnd w.rules.program (λ n. whole w n fs c r b) e
  ends_later fs c r b e h q f =
      subst (λ (R : Rules). ComesToEnd R.program (λ n. whole w n fs c r b) e) k.rules
      (ends_on w'.rules.program (λ n. whole w' n fs c r b) (λ n. whole w n fs c r b) e (λ n d i. sym (same_whole_of w w' k fs c h q n r b) ∙ i) f)

  pub answered_later : (fs : List (Frame A C S D)) (c : Control A C S D) (r b : ℕ) → AreKnown w fs → IsKnownNext w c → AreAnswered w fs c r b → AreAnswered w' fs c r b
  answered_later [] c r b h q a = tt
  answered_later (Waiting.Argument x i ∷ fs) c r b h q a = answered_later fs c r b h.1 q a
  answered_later (Waiting.Again t ∷ fs) c r b h q a = answered_later fs c r b h.1 q a
  answered_later (Waiting.Left x ∷ fs) c r b h q a = answered_later fs c r b h.1 q a
  answered_later (Waiting.Right x t ∷ fs) c r b h q a = answered_later fs c r b h.1 q a
  answered_later (Waiting.Sorting x ∷ fs) c r b h q a = answered_later fs c r b h.1 q a
  answered_later (Waiting.Matching x ∷ fs) c r b h q a = answered_later fs c r b h.1 q a
  answered_later (Waiting.Choice x mark ∷ fs) c r b h q a = answered_later fs c r b h.1 q a
  answered_later (Waiting.Trying x before mark ∷ fs) c r b h q a = answered_later fs c r b h.1 q a
  answered_later (Waiting.Deriving x mark ∷ fs) c r b h q a = (
    (
      a.0.0,
      k.askings x.term.0 x.condition a.0.0 x.settling a.0.1,
      subst (λ (R : Rules). Follows R.program (λ n. as_answer (counted_if 0 (solve_on R (x.level + n) x.condition 0 a.0.0 R.limit))) (λ n. whole w' n fs c r b)) (sym k.rules)
          (follows_as w.rules.program (λ n. as_answer (counted_if 0 (solve_on w.rules (x.level + n) x.condition 0 a.0.0 w.rules.limit))) (λ n. whole w n fs c r b)
          (λ n. as_answer (counted_if 0 (solve_on w.rules (x.level + n) x.condition 0 a.0.0 w.rules.limit))) (λ n. whole w' n fs c r b) (λ n. refl) (λ n. same_whole_of w w' k fs c h.1 q n r b) a.0.2),
    ),
    answered_later fs c r b h.1 q a.1,
  )

-- ---- answers

module _ (R : Rules) (k e : ℕ) (σ : Binding) where
  pub answered_held : (τ : Binding) (r b : ℕ) → Follows R.program (λ n. as_answer (counted_if 0 (solve_on R (k + n) e 0 σ R.limit))) (λ n. done (held τ) r b) → IsAnswered R e σ true
  answered_held τ r b h = on (h.follows h.enough)
    where
      by : (o : Outcome (Option Binding)) → solve_on R (k + h.enough) e 0 σ R.limit ≡ o → capped (as_answer (counted_if 0 o)) ≡ capped (done (held τ) r b) → IsAnswered R e σ true
      by (done (Some υ) q c) s i = record { levels = k + h.enough; solution = Some υ; count = q; left = c; was = s; is = refl }
      by (done None q c) s i = absurd (no i)
        where
          no : done failed (min 0 greatest_count) c ≡ done (held τ) (min r greatest_count) b → ⊥
          no i = cc
      by (ended d) s i = absurd (no i)
        where
          no : ended d ≡ done (held τ) (min r greatest_count) b → ⊥
          no i = cc

      on : (IsAlike (as_answer (counted_if 0 (solve_on R (k + h.enough) e 0 σ R.limit))) (done (held τ) r b) ⊎ ((h.enough < h.enough) × (as_answer (counted_if 0 (solve_on R (k + h.enough) e 0 σ R.limit)) ≡ ended too_deep))) →
          IsAnswered R e σ true
      on (inl i) = by (solve_on R (k + h.enough) e 0 σ R.limit) refl i
      on (inr q) = absurd (not_less h.enough q.0)

  pub answered_failed : (b : ℕ) → Follows R.program (λ n. as_answer (counted_if 0 (solve_on R (k + n) e 0 σ R.limit))) (λ n. done failed 0 b) → IsAnswered R e σ false
  answered_failed b h = on (h.follows h.enough)
    where
      by : (o : Outcome (Option Binding)) → solve_on R (k + h.enough) e 0 σ R.limit ≡ o → capped (as_answer (counted_if 0 o)) ≡ capped (done failed 0 b) → IsAnswered R e σ false
      by (done (Some υ) q c) s i = absurd (no i)
        where
          no : done (held υ) (min (0 + q) greatest_count) c ≡ done failed (min 0 greatest_count) b → ⊥
          no i = cc
      by (done None q c) s i = record { levels = k + h.enough; solution = None; count = q; left = c; was = s; is = refl }
      by (ended d) s i = absurd (no i)
        where
          no : ended d ≡ done failed (min 0 greatest_count) b → ⊥
          no i = cc

      on : (IsAlike (as_answer (counted_if 0 (solve_on R (k + h.enough) e 0 σ R.limit))) (done failed 0 b) ⊎ ((h.enough < h.enough) × (as_answer (counted_if 0 (solve_on R (k + h.enough) e 0 σ R.limit)) ≡ ended too_deep))) →
          IsAnswered R e σ false
      on (inl i) = by (solve_on R (k + h.enough) e 0 σ R.limit) refl i
      on (inr q) = absurd (not_less h.enough q.0)

  -- the same of what comes
  pub comes_held : (τ : Binding) (r b : ℕ) → Comes R.program (λ n. solve_on R (k + n) e 0 σ R.limit) (done (Some τ) r b) → IsAnswered R e σ true
  comes_held τ r b h = on (h.comes h.enough)
    where
      by : (o : Outcome (Option Binding)) → solve_on R (k + h.enough) e 0 σ R.limit ≡ o → capped o ≡ done (Some τ) r b → IsAnswered R e σ true
      by (done (Some υ) q c) s i = record { levels = k + h.enough; solution = Some υ; count = q; left = c; was = s; is = refl }
      by (done None q c) s i = absurd (no i)
        where
          no : done None (min q greatest_count) c ≡ done (Some τ) r b → ⊥
          no i = cc
      by (ended d) s i = absurd (no i)
        where
          no : ended d ≡ done (Some τ) r b → ⊥
          no i = cc

      on : ((capped (solve_on R (k + h.enough) e 0 σ R.limit) ≡ done (Some τ) r b) ⊎ ((h.enough < h.enough) × (solve_on R (k + h.enough) e 0 σ R.limit ≡ ended too_deep))) → IsAnswered R e σ true
      on (inl i) = by (solve_on R (k + h.enough) e 0 σ R.limit) refl i
      on (inr q) = absurd (not_less h.enough q.0)

  pub comes_failed : (b : ℕ) → Comes R.program (λ n. counted_if 0 (solve_on R (k + n) e 0 σ R.limit)) (done None 0 b) → IsAnswered R e σ false
  comes_failed b h = on (h.comes h.enough)
    where
      by : (o : Outcome (Option Binding)) → solve_on R (k + h.enough) e 0 σ R.limit ≡ o → capped (counted_if 0 o) ≡ done None 0 b → IsAnswered R e σ false
      by (done (Some υ) q c) s i = absurd (no i)
        where
          no : done (Some υ) (min (0 + q) greatest_count) c ≡ done None 0 b → ⊥
          no i = cc
      by (done None q c) s i = record { levels = k + h.enough; solution = None; count = q; left = c; was = s; is = refl }
      by (ended d) s i = absurd (no (ended d) refl i)
        where
          no : (x : Outcome (Option Binding)) → x ≡ ended d → x ≡ done None 0 b → ⊥
          no x p q = cc

      on : ((capped (counted_if 0 (solve_on R (k + h.enough) e 0 σ R.limit)) ≡ done None 0 b) ⊎ ((h.enough < h.enough) × (counted_if 0 (solve_on R (k + h.enough) e 0 σ R.limit) ≡ ended too_deep))) → IsAnswered R e σ false
      on (inl i) = by (solve_on R (k + h.enough) e 0 σ R.limit) refl i
      on (inr q) = absurd (not_less h.enough q.0)

-- ---- settling ends where a condition ends that it asks

module _ {A B : Type 0} (P : Program) (f : ℕ → Run A) (g : ℕ → Outcome B) (h : EndsWhere P f g) (k b : ℕ) where
  comes_where : (d : End) → Comes P (λ n. g (k + n)) (ended d) → Comes P (λ n. f (k + n) b) (ended d)
  comes_where d c = record {
    enough = c.enough + h.enough;
    just = λ z. no_sum c.enough h.enough (c.just z) (h.just z);
    comes = λ n. by n (c.comes n);
  }
    where
      on : (n : ℕ) → ((f (k + n) b ≡ ended d) ⊎ ((k + n < h.enough) × (f (k + n) b ≡ ended too_deep))) → (capped (f (k + n) b) ≡ ended d) ⊎ ((n < c.enough + h.enough) × (f (k + n) b ≡ ended too_deep))
      on n (inl e) = inl (ap capped e)
      on n (inr q) = inr (less_right n c.enough h.enough (more_levels k n h.enough q.0), q.1)

      deep : (n : ℕ) → ((f (k + n) b ≡ ended too_deep) ⊎ ((k + n < h.enough) × (f (k + n) b ≡ ended too_deep))) → f (k + n) b ≡ ended too_deep
      deep n (inl e) = e
      deep n (inr q) = q.1

      by : (n : ℕ) → ((capped (g (k + n)) ≡ ended d) ⊎ ((n < c.enough) × (g (k + n) ≡ ended too_deep))) → (capped (f (k + n) b) ≡ ended d) ⊎ ((n < c.enough + h.enough) × (f (k + n) b ≡ ended too_deep))
      by n (inl e) = on n (h.ends (k + n) b d (end_is (g (k + n)) d e))
      by n (inr q) = inr (less_left n c.enough h.enough q.0, deep n (h.ends (k + n) b too_deep q.1))

  pub ends_where : (e : EvalEnd) → ComesToEnd P (λ n. g (k + n)) e → ComesToEnd P (λ n. f (k + n) b) e
  ends_where Stopped c = comes_where stopped c
  ends_where TooDeep c = by (h.ends (k + 0) b too_deep c)
    where
      by : ((f (k + 0) b ≡ ended too_deep) ⊎ ((k + 0 < h.enough) × (f (k + 0) b ≡ ended too_deep))) → f (k + 0) b ≡ ended too_deep
      by (inl e) = e
      by (inr q) = q.1
  ends_where Overflow c = comes_where overflowed c
  ends_where NoMemory c = tt
