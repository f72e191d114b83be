-- A step by a cursor.
use Rattle.std.proofs.Common.{◌≡◌, ℕ, zero, suc, ◌-◌, List, [], ◌∷◌, ◌++◌, length, take, set, get_or, All, Option, Some, None, Result, Ok, Err, refl, ap, sym, ◌∙◌, subst, arith}
use Rattle.std.proofs.lemmas.List.Elements.{All-set, All-take, All-get_or}
use Rattle.std.proofs.lemmas.Option.{get_or_from_slice_get}
use Rattle.mau_evaluation.specs.Configs.{Config}
use Rattle.mau_strat.specs.declared.configs.StrategyId.{StrategyId}
use Rattle.mau_strat.specs.declared.forms.Form.{Form}
use Rattle.mau_strat.specs.Interned.{Interned, Grows}
use Rattle.mau_stratrun.specs.declared.leaves.LeafEnd.{LeafEnd}
use Rattle.mau_stratrun.specs.declared.leaves.LeafEnd.TheVariants.{NoMemory}
use Rattle.mau_stratrun.specs.declared.cursor.Kept.{Kept}
use Rattle.mau_stratrun.specs.Yields.{BeginsBy, NextBy, IsEnd}
use Rattle.mau_stratrun.specs.Worlds.{World, LeavesGrow, IsWorld}
use Rattle.mau_stratrun.specs.States.{State, config_in, IsConfig, IsState, Larger}
use Rattle.mau_stratrun.specs.Courses.{state_in, IsKept, config_of, AnswerIs, AnswersBy, IsGiven, IsCourse, IsLastFor, IsStep}
use Rattle.mau_stratrun.proofs.Keeping.{configs}
use Rattle.mau_stratrun.proofs.Adding.{grows_itself}
use Rattle.mau_stratrun.proofs.Keepers.{all_kept}
use Rattle.mau_strat.proofs.Interning.{extends_itself}

pub leaves_through : {C : Type 0} (w w' w'' : World C) → LeavesGrow w w' → LeavesGrow w' w'' → LeavesGrow w w''
leaves_through w w' w'' a b = record {
  fixed = b.fixed ∙ a.fixed;
  terms = omega (arith, a.terms, b.terms);
  trees = λ j h. b.trees j (omega (arith, a.terms, h)) ∙ a.trees j h;
  is_term = λ n h. b.is_term n (a.is_term n h);
  is_bound = λ x h. b.is_bound x (a.is_bound x h);
  yields = λ c d t ys h. b.yields c d t ys (a.yields c d t ys h);
}

pub both_larger : {C : Type 0} (w w' : World C) (forms : List Form) (i i' : Interned) → LeavesGrow w w' → Grows i i' → Larger (state_in w forms i) (state_in w' forms i')
both_larger w w' forms i i' g x = record { fixed = g.fixed; terms = g.terms; trees = g.trees; forms = extends_itself forms; interned = x }

-- an answer says the same where the fixed part and the configuration are so
pub answers_same : (s t : State) (c d : Config) (at : ℕ) (s' : State) (r : Result (Option ℕ) LeafEnd) → t.setting.fixed ≡ s.setting.fixed → d ≡ c → AnswersBy t d at s' r → AnswersBy s c at s' r
answers_same s t c d at s' r e k a given b n = by r (a given (subst (λ f. BeginsBy f d given) (sym e) (subst (λ x. BeginsBy s.setting.fixed x given) (sym k) b)) n)
  where
    by : (z : Result (Option ℕ) LeafEnd) → AnswerIs t d given s' z → AnswerIs s c given s' z
    by (Ok None) x = subst (λ f. NextBy f c given) e (subst (λ y. NextBy t.setting.fixed y given) k x)
    by (Ok (Some m)) x = (x.0, subst (λ f. BeginsBy f c (given ++ config_in s' m ∷ [])) e (subst (λ y. BeginsBy t.setting.fixed y (given ++ config_in s' m ∷ [])) k x.1))
    by (Err end) x = subst (λ f. IsEnd f c given end) e (subst (λ y. IsEnd t.setting.fixed y given end) k x)

take_set : {A : Type 0} (xs : List A) (j : ℕ) (x : A) → take j (set xs j x) ≡ take j xs
take_set [] zero x = refl
take_set [] (suc j) x = refl
take_set (y ∷ ys) zero x = refl
take_set (y ∷ ys) (suc j) x = ap (λ zs. y ∷ zs) (take_set ys j x)

module _ {C : Type 0} (w w' w'' : World C) (g : LeavesGrow w w') (g' : LeavesGrow w' w'') (is' : IsWorld w') (forms : List Form) (bodies : List StrategyId) (i i'' : Interned) (h : IsState (state_in w forms i)) (ks : List (Kept C)) (c : IsCourse w' forms bodies i ks)
    (number : ℕ) (here : IsConfig (state_in w forms i) number) (j : ℕ) (k k' : Kept C) (same : k.config ≡ number) (at : ℕ) (r : Result (Option ℕ) LeafEnd) (m : IsGiven w' forms i bodies w'' i'' k k' at r) where
  abbrev s : State
  s = state_in w forms i

  others : All (IsKept w'' forms i'') ks
  others = all_kept w' w'' g' is' forms forms i i'' c.facts.state (both_larger w' w'' forms i i'' g' m.grows) ks c.kept

  answer : AnswersBy s (config_in s number) at (state_in w'' forms i'') r
  answer = answers_same s (state_in w' forms i) (config_in s number) (config_of w' forms i k) at (state_in w'' forms i'') r g.fixed (ap (config_in (state_in w' forms i)) same ∙ configs s (state_in w' forms i) h (both_larger w w' forms i i g (grows_itself i)) number here) m.answer

  step_with : (ks' : List (Kept C)) → All (IsKept w'' forms i'') ks' → IsStep w forms i w'' forms i'' bodies ks' (config_in s number) at r
  step_with ks' a = record { course = record { facts = m.facts; kept = a }; larger = both_larger w w'' forms i i'' (leaves_through w w' w'' g g') m.grows; answer = answer }

  -- the cursor stays, or it is done with
  pub lead_stays : IsKept w'' forms i'' k' → IsStep w forms i w'' forms i'' bodies (set ks j k') (config_in s number) at r
  lead_stays a = step_with (set ks j k') (All-set (IsKept w'' forms i'') ks j k' a others)

  pub lead_done : IsStep w forms i w'' forms i'' bodies (take j (set ks j k')) (config_in s number) at r
  lead_done = step_with (take j (set ks j k')) (subst (All (IsKept w'' forms i'')) (sym (take_set ks j k')) (All-take (IsKept w'' forms i'') j ks others))

-- no cursor could be had
pub lead_ends : {C : Type 0} (w w' : World C) (g : LeavesGrow w w') (forms : List Form) (bodies : List StrategyId) (i : Interned) (ks : List (Kept C)) (c : IsCourse w' forms bodies i ks) (number at : ℕ) (e : LeafEnd) → e ≡ NoMemory →
    IsStep w forms i w' forms i bodies ks (config_in (state_in w forms i) number) at (Err e)
lead_ends w w' g forms bodies i ks c number at e q = record {
  course = c;
  larger = both_larger w w' forms i i g (grows_itself i);
  answer = λ given b n. subst (IsEnd w.setting.fixed (config_in (state_in w forms i) number) given) (sym q) tt;
}

-- the last of the cursors
pub last_config : {C : Type 0} (ks : List (Kept C)) (k : Kept C) (j n : ℕ) → IsLastFor ks n → j ≡ length ks → k ≡ get_or ks (j - 1) k → k.config ≡ n
last_config {C = C} ks k j n l e q =
    let there = get_or_from_slice_get ks (length ks - 1) l.0 k l.2 in
    ap (λ (x : Kept C). x.config) (q ∙ (ap (λ m. get_or ks (m - 1) k) e ∙ there)) ∙ l.3

pub last_kept : {C : Type 0} (w : World C) (forms : List Form) (i : Interned) (ks : List (Kept C)) (k : Kept C) (j n : ℕ) → All (IsKept w forms i) ks → IsLastFor ks n → j ≡ length ks → k ≡ get_or ks (j - 1) k → IsKept w forms i k
last_kept w forms i ks k j n a l e q = subst (IsKept w forms i) (sym q) (All-get_or (IsKept w forms i) ks (j - 1) k (omega (arith, l.1, e)) a)

-- the same where the course before it is known by what stays the same
module _ {C : Type 0} (w w' w'' : World C) (g : LeavesGrow w w') (g' : LeavesGrow w' w'') (is' : IsWorld w') (forms f : List Form) (ef : f ≡ forms) (bodies bs : List StrategyId) (eb : bs ≡ bodies) (i i' i'' : Interned) (ei : i' ≡ i) (h : IsState (state_in w forms i)) (ks : List (Kept C))
    (c : IsCourse w' f bs i' ks) (number : ℕ) (here : IsConfig (state_in w forms i) number) (j : ℕ) (k k' : Kept C) (same : k.config ≡ number) (at : ℕ) (r : Result (Option ℕ) LeafEnd) (m : IsGiven w' f i' bs w'' i'' k k' at r) where
  course : IsCourse w' forms bodies i ks
  course = subst (λ x. IsCourse w' forms bodies x ks) ei (subst (λ x. IsCourse w' forms x i' ks) eb (subst (λ x. IsCourse w' x bs i' ks) ef c))

  given : IsGiven w' forms i bodies w'' i'' k k' at r
  given = subst (λ x. IsGiven w' forms x bodies w'' i'' k k' at r) ei (subst (λ x. IsGiven w' forms i' x w'' i'' k k' at r) eb (subst (λ x. IsGiven w' x i' bs w'' i'' k k' at r) ef m))

  pub stays_by : IsKept w'' f i'' k' → IsStep w forms i w'' f i'' bodies (set ks j k') (config_in (state_in w forms i) number) at r
  stays_by a = subst (λ x. IsStep w forms i w'' x i'' bodies (set ks j k') (config_in (state_in w forms i) number) at r) (sym ef)
      (lead_stays w w' w'' g g' is' forms bodies i i'' h ks course number here j k k' same at r given (subst (λ x. IsKept w'' x i'' k') ef a))

  pub done_by : IsStep w forms i w'' f i'' bodies (take j (set ks j k')) (config_in (state_in w forms i) number) at r
  done_by = subst (λ x. IsStep w forms i w'' x i'' bodies (take j (set ks j k')) (config_in (state_in w forms i) number) at r) (sym ef)
      (lead_done w w' w'' g g' is' forms bodies i i'' h ks course number here j k k' same at r given)

pub ends_by : {C : Type 0} (w w' : World C) (g : LeavesGrow w w') (forms f : List Form) (ef : f ≡ forms) (bodies bs : List StrategyId) (eb : bs ≡ bodies) (i i' : Interned) (ei : i' ≡ i) (ks : List (Kept C)) (c : IsCourse w' f bs i' ks) (number at : ℕ) (e : LeafEnd) → e ≡ NoMemory →
    IsStep w forms i w' f i' bodies ks (config_in (state_in w forms i) number) at (Err e)
ends_by w w' g forms f ef bodies bs eb i i' ei ks c number at e q =
    subst (λ x. IsStep w forms i w' f x bodies ks (config_in (state_in w forms i) number) at (Err e)) (sym ei)
    (subst (λ x. IsStep w forms i w' x i bodies ks (config_in (state_in w forms i) number) at (Err e)) (sym ef)
    (lead_ends w w' g forms bodies i ks (subst (λ x. IsCourse w' forms bodies x ks) ei (subst (λ x. IsCourse w' forms x i' ks) eb (subst (λ x. IsCourse w' x bs i' ks) ef c))) number at e q))
