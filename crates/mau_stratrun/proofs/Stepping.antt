-- A step of a run, and what it says of successors by numbers.
use Rattle.std.proofs.Common.{◌≡◌, ℕ, ◌<◌, List, [], ◌∷◌, ◌++◌, length, map, Option, Some, None, Result, Ok, Err, IfOk, IfErr, MatchOption, refl, sym, ◌∙◌, subst, arith}
use Rattle.std.proofs.lemmas.List.{map-append}
use Rattle.std.proofs.lemmas.List.Elements.{All-push, All-weaker}
use Rattle.mau_evaluation.specs.Configs.{Config}
use Rattle.mau_strat.specs.declared.configs.StrategyId.{StrategyId}
use Rattle.mau_strat.specs.declared.forms.Form.{Form}
use Rattle.mau_strat.specs.Interned.{Interned}
use Rattle.mau_terms.specs.declared.memory.NoMemory.{NoMemory as NoRoom}
use Rattle.mau_stratrun.specs.declared.leaves.LeafEnd.{LeafEnd}
use Rattle.mau_stratrun.specs.declared.leaves.LeafEnd.TheVariants.{NoMemory}
use Rattle.mau_stratrun.specs.declared.cursor.Kept.{Kept}
use Rattle.mau_stratrun.specs.Settings.{Fixed}
use Rattle.mau_stratrun.specs.Yields.{BeginsBy, IsEnd}
use Rattle.mau_stratrun.specs.Worlds.{World, IsWorld}
use Rattle.mau_stratrun.specs.States.{State, config_in, IsConfig, IsState, Larger, begins_in, next_in}
use Rattle.mau_stratrun.specs.Moves.{GoesTo, Answers}
use Rattle.mau_stratrun.specs.Courses.{state_in, AnswerIs, AnswersBy, IsCourse, IsStep}
use Rattle.mau_stratrun.proofs.Keeping.{configs, is_config, config_lists, nexts}
use Rattle.mau_stratrun.proofs.Keepers.{all_kept}
use Rattle.mau_stratrun.proofs.Coursing.{none_grows, goes_larger, goes_facts}

-- an answer whose only end is want of memory
pub by_memory : (s : State) (c : Config) (at : ℕ) (s' : State) (r : Result (Option ℕ) NoRoom) (r' : Result (Option ℕ) LeafEnd) → ((o : Option ℕ) → r ≡ Ok o → r' ≡ Ok o) → ((e : NoRoom) → r ≡ Err e → r' ≡ Err NoMemory) → Answers s c at s' r → AnswersBy s c at s' r'
by_memory s c at s' (Ok o) r' f g a given b n = subst (AnswerIs s c given s') (sym (f o refl)) (a given b n)
by_memory s c at s' (Err e) r' f g a given b n = subst (AnswerIs s c given s') (sym (g e refl)) tt

-- further strategies and configurations, all of them on a known term
pub plain_step : {C : Type 0} (w : World C) (is : IsWorld w) (forms forms' : List Form) (i i' : Interned) (bodies : List StrategyId) (ks : List (Kept C)) (c : Config) (at term : ℕ) (r : Result (Option ℕ) LeafEnd) →
    IsCourse w forms bodies i ks → GoesTo w.setting forms i forms' i' term [] → w.is_term term → AnswersBy (state_in w forms i) c at (state_in w forms' i') r → IsStep w forms i w forms' i' bodies ks c at r
plain_step w is forms forms' i i' bodies ks c at term r h m t a =
    let l = goes_larger w forms forms' i i' term [] m in
    record {
      course = record {
        facts = goes_facts w forms forms' i i' term [] m bodies h.facts t (λ k d b. absurd (none k b));
        kept = all_kept w w (none_grows w) is forms forms' i i' h.facts.state l ks h.kept;
      };
      larger = l;
      answer = a;
    }
  where
    none : (k : ℕ) → k < 0 → ⊥
    none k b = omega arith

module _ (s s' : State) (h : IsState s) (l : Larger s s') (e : ℕ) (is : IsConfig s e) (at : ℕ) (given : List ℕ) (b : begins_in s e given) (n : length given ≡ at) where
  mapped : {A B : Type 0} (f : A → B) (xs : List A) → length (map f xs) ≡ length xs
  mapped f [] = refl
  mapped f (x ∷ xs) = omega (arith, mapped f xs)

  count : length (map (config_in s) given) ≡ at
  count = mapped (config_in s) given ∙ n

  -- what is known of configurations is known in what has grown
  now : (R : Fixed → Config → List Config → Type 0) (xs : List Config) → R s.setting.fixed (config_in s e) (map (config_in s) given ++ xs) → R s'.setting.fixed (config_in s' e) (map (config_in s') given ++ xs)
  now R xs r = subst (λ f. R f (config_in s' e) (map (config_in s') given ++ xs)) (sym l.fixed)
      (subst (λ x. R s.setting.fixed x (map (config_in s') given ++ xs)) (sym (configs s s' h l e is))
      (subst (λ ys. R s.setting.fixed (config_in s e) (ys ++ xs)) (sym (config_lists s s' h l given b.1)) r))

  pub more_by : (r : Result (Option ℕ) LeafEnd) → AnswersBy s (config_in s e) at s' r → IfOk r (λ o. MatchOption o (next_in s' e given) (λ c. begins_in s' e (given ++ c ∷ [])))
  more_by (Ok None) a = nexts s s' h l e given (b.0, b.1, a (map (config_in s) given) b.2 count)
  more_by (Ok (Some c)) a =
      let k = a (map (config_in s) given) b.2 count in (
        is_config s s' h l e is,
        All-push (IsConfig s') given c (All-weaker (IsConfig s) (IsConfig s') (is_config s s' h l) given b.1) k.0,
        subst (BeginsBy s'.setting.fixed (config_in s' e)) (sym (map-append (config_in s') given (c ∷ []))) (now BeginsBy (config_in s' c ∷ []) k.1),
      )
  more_by (Err end) a = tt

  pub due_by : (r : Result (Option ℕ) LeafEnd) → AnswersBy s (config_in s e) at s' r → IfErr r (IsEnd s'.setting.fixed (config_in s' e) (map (config_in s') given))
  due_by (Ok o) a = tt
  due_by (Err end) a =
      subst (λ f. IsEnd f (config_in s' e) (map (config_in s') given) end) (sym l.fixed)
      (subst (λ x. IsEnd s.setting.fixed x (map (config_in s') given) end) (sym (configs s s' h l e is))
      (subst (λ ys. IsEnd s.setting.fixed (config_in s e) ys end) (sym (config_lists s s' h l given b.1)) (a (map (config_in s) given) b.2 count)))
