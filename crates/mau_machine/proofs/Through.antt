-- Outcomes that go through frames.
use Rattle.std.proofs.Common.{◌≡◌, ℕ, suc, ◌+◌, min, List, [], ◌∷◌, ◌++◌, refl, sym, ◌∙◌, ap}
use Rattle.mau_evaluation.specs.Run.{End, Outcome, done, ended, counted, spend}
use Rattle.mau_machine.specs.Words.{greatest_count, capped, Rules, Words, eval_on}
use Rattle.mau_machine.specs.Machine.{Waits, argument, again, left_side, right_side, sorting, matching, choice, settling, trying, Reply, gave, held, failed, as_value, after, goes_on, waits_in, through}
use Rattle.mau_machine.specs.declared.frame.Frame.{Frame}
use Rattle.mau_machine.proofs.Counts.{value_capped, answer_capped, min_twice, min_sum_right}

module _ (R : Rules) where
  frame_capped : (f : Waits) (x : Reply) (r b : ℕ) → capped (after R f x r b) ≡ capped (after R f x (min r greatest_count) b)
  frame_capped (argument k f ts order next i) (gave v) r b = value_capped r _
  frame_capped (argument k f ts order next i) (held σ) r b = refl
  frame_capped (argument k f ts order next i) failed r b = refl
  frame_capped again (gave v) r b = ap (λ n. done (gave v) n b) (min_twice r greatest_count)
  frame_capped again (held σ) r b = refl
  frame_capped again failed r b = refl
  frame_capped (left_side last k e i σ) (gave v) r b = answer_capped r _
  frame_capped (left_side last k e i σ) (held τ) r b = refl
  frame_capped (left_side last k e i σ) failed r b = refl
  frame_capped (right_side last k e i σ u) (gave v) r b = answer_capped r _
  frame_capped (right_side last k e i σ u) (held τ) r b = refl
  frame_capped (right_side last k e i σ u) failed r b = refl
  frame_capped (sorting last k e i σ) (gave v) r b = answer_capped r _
  frame_capped (sorting last k e i σ) (held τ) r b = refl
  frame_capped (sorting last k e i σ) failed r b = refl
  frame_capped (matching last k e i σ) (gave v) r b = answer_capped r _
  frame_capped (matching last k e i σ) (held τ) r b = refl
  frame_capped (matching last k e i σ) failed r b = refl
  frame_capped (choice u n) (gave v) r b = refl
  frame_capped (choice u n) (held σ) r b = ap (λ m. done (held σ) m b) (min_sum_right n r greatest_count)
  frame_capped (choice u n) failed r b = refl
  frame_capped (trying k t u makes n) (gave v) r b = refl
  frame_capped (trying k t u makes n) (held σ) r b =
      let o = spend (eval_on R (suc k) (makes σ)) b in
      value_capped (n + r) o ∙ (ap (λ m. capped (as_value (counted m o))) (min_sum_right n r greatest_count) ∙ sym (value_capped (n + min r greatest_count) o))
  frame_capped (trying k t u makes n) failed r b = refl
  frame_capped (settling k t c n) (gave v) r b = refl
  frame_capped (settling k t c n) (held σ) r b = refl
  frame_capped (settling k t c n) failed r b = refl

  goes_on_capped : (f : Waits) (o : Outcome Reply) → capped (goes_on R f o) ≡ capped (goes_on R f (capped o))
  goes_on_capped f (done x r b) = frame_capped f x r b
  goes_on_capped f (ended e) = refl

module _ {A C S D : Type 0} (w : Words A C S D) (n : ℕ) where
  through_capped : (fs : List (Frame A C S D)) (o : Outcome Reply) → capped (through w n fs o) ≡ capped (through w n fs (capped o))
  through_capped [] (done x r b) = ap (λ n. done x n b) (min_twice r greatest_count)
  through_capped [] (ended e) = refl
  through_capped (f ∷ fs) o =
      goes_on_capped w.rules (waits_in w n f) (through w n fs o)
      ∙ (ap (λ z. capped (goes_on w.rules (waits_in w n f) z)) (through_capped fs o)
      ∙ sym (goes_on_capped w.rules (waits_in w n f) (through w n fs (capped o))))

  -- what is shown alike is shown alike through frames
  pub alike : (fs : List (Frame A C S D)) (o o' : Outcome Reply) → capped o ≡ capped o' → capped (through w n fs o) ≡ capped (through w n fs o')
  alike fs o o' e = through_capped fs o ∙ (ap (λ z. capped (through w n fs z)) e ∙ sym (through_capped fs o'))

  pub through_ended : (fs : List (Frame A C S D)) (e : End) → through w n fs (ended e) ≡ ended e
  through_ended [] e = refl
  through_ended (f ∷ fs) e = ap (goes_on w.rules (waits_in w n f)) (through_ended fs e)

  -- frames below others
  pub appended : (fs gs : List (Frame A C S D)) (o : Outcome Reply) → through w n (fs ++ gs) o ≡ through w n fs (through w n gs o)
  appended [] gs o = refl
  appended (f ∷ fs) gs o = ap (goes_on w.rules (waits_in w n f)) (appended fs gs o)

module _ {A C S D : Type 0} (w : Words A C S D) where
  -- what was taken from the stack
  pub last_is : (fs gs : List (Frame A C S D)) (f f' : Frame A C S D) → fs ≡ gs ++ f' ∷ [] → f' ≡ f → fs ≡ gs ++ f ∷ []
  last_is fs gs f f' e i = e ∙ ap (λ z. gs ++ z ∷ []) i
