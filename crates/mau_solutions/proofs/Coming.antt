-- What asking a run for a solution comes to, by what the run says of its list.
use Rattle.std.proofs.Common.{◌≡◌, inl, inr, ℕ, ◌<◌, List, [], ◌∷◌, ◌++◌, length, map, slice_index, Contains, Bool, true, false, Some, None, Ok, Err, refl, ap, ap₂, sym, ◌∙◌, subst, arith, length-append, append_assoc}
use Rattle.std.proofs.lemmas.List.{map-append, get_or_append_left}
use Rattle.std.proofs.lemmas.List.Elements.{All-nil, All-contains}
use Rattle.mau_terms.specs.Tree.{Tree}
use Rattle.mau_terms.specs.declared.ids.TermId.{TermId}
use Rattle.mau_evaluation.specs.Run.{End, stopped, too_deep, overflowed}
use Rattle.mau_evaluation.specs.Program.{Program}
use Rattle.mau_evaluation.specs.Engine.{engine_of}
use Rattle.mau_evaluation.specs.Strategy.{Strategy, idle, fail, every_rule, label, top_only, call, test, star, plus, to_normal, in_turn, either, or_else, branch, negation, attempt, test_of, part_rewrite, label_by, StratDef}
use Rattle.mau_evaluation.specs.Configs.{Todo, Frame, Config, on}
use Rattle.mau_evaluation.specs.Reach.{Reached, begun, entered, IsNextEntry, IsAsked, IsClosed}
use Rattle.mau_evaluation.specs.Eventually.{Begins, NextAll, RunsTo}
use Rattle.mau_evaluation.specs.Questions.{Question, EndsUnder, IsDue, at_leaf, at_call}
use Rattle.mau_stratrun.specs.declared.leaves.LeafEnd.{LeafEnd}
use Rattle.mau_stratrun.specs.declared.leaves.LeafEnd.TheVariants.{Stopped, TooDeep, Overflow, CallDepth, NoMemory}
use Rattle.mau_stratrun.specs.Settings.{Fixed}
use Rattle.mau_stratrun.specs.Yields.{Yield, result_of, body_on, after, IsCall as IsCallForm, BeginsBy, NextBy, NeedsMore, IsCause, IsEndOn}
use Rattle.mau_stratrun.specs.States.{State, config_in, IsState, begins_in, next_in}
use Rattle.mau_stratrun.specs.Courses.{IsListed, is_solution}
use Rattle.mau_stratrun.specs.Runs.{Began, NoneSolves, GoesOn, IsRunEnd}
use Rattle.mau_stratrun.proofs.Runs.{from_map, all_closed}
use Rattle.mau_stratrun.proofs.Running.{runs_to}
use Rattle.mau_api.specs.Meanings.{Meanings, program_of}
use Rattle.mau_results.specs.Results.{condition_levels}
use Rattle.mau_solutions.specs.Listings.{ReachedOf, went_on, IsCall, First, Whole, IsNextSolution, IsDueTo, HasEndCause, IsTooNested, no_more, ends_by, call_depth, HasStrategyEnd}
use Rattle.mau_solutions.specs.Standing.{first_of, reached_of, GoesBy, WentOn}

-- ---- the last entry of a list

module _ {C : Type 0} (B N : C → List C → Type 0) where
  push_same : (xs ys : List C) (a b : C) → xs ++ a ∷ [] ≡ ys ++ b ∷ [] → (xs ≡ ys) × (a ≡ b)
  push_same [] [] a b e = let k : a ≡ b = cc in (refl, k)
  push_same [] (y ∷ ys) a b e = absurd (none ys (tail e))
    where
      tail : a ∷ [] ≡ y ∷ (ys ++ b ∷ []) → [] ≡ ys ++ b ∷ []
      tail k = cc

      none : (zs : List C) → [] ≡ zs ++ b ∷ [] → ⊥
      none [] k = cc
      none (z ∷ zs) k = cc
  push_same (x ∷ xs) [] a b e = absurd (none xs (tail e))
    where
      tail : x ∷ (xs ++ a ∷ []) ≡ b ∷ [] → xs ++ a ∷ [] ≡ []
      tail k = cc

      none : (zs : List C) → zs ++ a ∷ [] ≡ [] → ⊥
      none [] k = cc
      none (z ∷ zs) k = cc
  push_same (x ∷ xs) (y ∷ ys) a b e =
      let head : x ≡ y = cc in
      let r = push_same xs ys a b (cc) in
      let same : xs ≡ ys = r.0 in
      let k : x ∷ xs ≡ y ∷ ys = cc in
      (k, r.1)

  -- the run had reached what stands before it, and it was the next entry
  pub last_step : (start : C) (xs ys : List C) (c : C) → Reached B N start xs → xs ≡ ys ++ c ∷ [] → 0 < length ys → Reached B N start ys × IsNextEntry B N ys c
  last_step start xs ys c begun e l = absurd (none ys (sym (push_same [] ys start c e).0) l)
    where
      none : (zs : List C) → zs ≡ [] → 0 < length zs → ⊥
      none [] q k = omega (arith, k)
      none (z ∷ zs) q k = absurd (cc)
  last_step start xs ys c (entered seen d r n) e l =
      let same = push_same seen ys d c e in
      (subst (Reached B N start) same.0 r, subst (λ z. IsNextEntry B N z c) same.0 (subst (IsNextEntry B N seen) same.1 n))

-- ---- what was yielded, as configurations

results_after : (ds : List Todo) (xs : List Frame) (us : List Tree) → map (after ds xs) (map result_of us) ≡ map (λ u. on u ds xs) us
results_after ds xs [] = refl
results_after ds xs (u ∷ us) = ap (λ zs. on u ds xs ∷ zs) (results_after ds xs us)

bodies_after : (t : Tree) (ds : List Todo) (xs : List Frame) (bs : List Todo) → map (after ds xs) (map (body_on t) bs) ≡ map (λ b. on t (b ∷ ds) xs) bs
bodies_after t ds xs [] = refl
bodies_after t ds xs (b ∷ bs) = ap (λ zs. on t (b ∷ ds) xs ∷ zs) (bodies_after t ds xs bs)

is_call : (e : Strategy) → IsCallForm e → IsCall e
is_call (call n ts) k = tt
is_call idle k = absurd k
is_call fail k = absurd k
is_call every_rule k = absurd k
is_call (label n gs) k = absurd k
is_call (top_only e) k = absurd k
is_call (test a p c) k = absurd k
is_call (star e) k = absurd k
is_call (plus e) k = absurd k
is_call (to_normal e) k = absurd k
is_call (in_turn e f) k = absurd k
is_call (either e f) k = absurd k
is_call (or_else e f) k = absurd k
is_call (branch e f g) k = absurd k
is_call (negation e) k = absurd k
is_call (attempt e) k = absurd k
is_call (test_of e) k = absurd k
is_call (part_rewrite a p c us) k = absurd k
is_call (label_by n gs es) k = absurd k

mapped : {A B : Type 0} (f : A → B) (xs : List A) → length (map f xs) ≡ length xs
mapped f [] = refl
mapped f (x ∷ xs) = omega (arith, mapped f xs)

not_both : (b : Bool) → b ≡ true → b ≡ false → ⊥
not_both b p q = absurd (cc)

pub reached_is : (x y : ReachedOf) → x.start ≡ y.start → x.strategy ≡ y.strategy → x.seen ≡ y.seen → x ≡ y
reached_is x y a b c =
    ap (λ t. record { start = t; strategy = x.strategy; seen = x.seen }) a ∙
    (ap (λ d. record { start = y.start; strategy = d; seen = x.seen }) b ∙ ap (λ ds. record { start = y.start; strategy = y.strategy; seen = ds }) c)

module _ (f : Fixed) where
  abbrev Asked : List Config → ℕ → Config → List Config → Type 0
  Asked = IsAsked (BeginsBy f) (NextBy f)

  -- by the limits of the run a question so ends, without which it cannot go on
  abbrev DueBy : Program → List StratDef → ℕ → ℕ → End → List Config → Type 0
  DueBy P defs k b e seen = (q : Question) × EndsUnder P (engine_of P) defs k b q e × IsDue P (engine_of P) defs seen q

  -- an end, as one of its causes
  abbrev CauseOf : LeafEnd → End → Type 0
  CauseOf x e = (d : Todo) (t : Tree) (ys : List Yield) → IsCause f d t ys x → (q : Question) × EndsUnder f.program (engine_of f.program) f.definitions f.levels f.budget q e × NeedsMore f q d t ys

  due_on : (x : LeafEnd) (e : End) → CauseOf x e → (seen : List Config) (j : ℕ) (t : Tree) (todo : List Todo) (xs : List Frame) (given : List Config) → Asked seen j (on t todo xs) given →
      IsEndOn f t todo xs given x → DueBy f.program f.definitions f.levels f.budget e seen
  due_on x e by seen j t [] xs given a k = absurd k
  due_on x e by seen j t (d ∷ ds) xs given a k = let y = by d t k.0 k.2 in (y.0, y.1, need y.0 k.0 k.1 y.2)
    where
      need : (q : Question) (ys : List Yield) → given ≡ map (after ds xs) ys → NeedsMore f q d t ys → IsDue f.program (engine_of f.program) f.definitions seen q
      need q ys g (inl n) = at_leaf j t d ds xs n.0 (subst (Asked seen j (on t (d ∷ ds) xs)) (g ∙ (ap (map (after ds xs)) n.1 ∙ results_after ds xs n.0)) a) n.2
      need q ys g (inr n) = at_call j t d n.0 ds xs n.1 n.2 (subst (Asked seen j (on t (d ∷ ds) xs)) (g ∙ (ap (map (after ds xs)) n.3 ∙ bodies_after t ds xs n.1)) a) n.4

  module _ (m : Meanings) (defs : List StratDef) (most : ℕ) (g : GoesBy m defs f most) where
    -- what is said of the run's program, definitions and limits is said of these
    by_meaning : (A : Program → List StratDef → ℕ → ℕ → Type 0) → A f.program f.definitions f.levels f.budget → A (program_of m) defs condition_levels m.limit
    by_meaning A a =
        subst (A (program_of m) defs condition_levels) g.budget (subst (λ k. A (program_of m) defs k f.budget) g.levels (subst (λ d. A (program_of m) d f.levels f.budget) g.definitions
        (subst (λ P. A P f.definitions f.levels f.budget) g.program a)))

    due_to : (e : End) (seen : List Config) → DueBy f.program f.definitions f.levels f.budget e seen → IsDueTo m defs e seen
    due_to e seen d = by_meaning (λ P ds k b. DueBy P ds k b e seen) d

    nested_on : (seen : List Config) (j : ℕ) (t : Tree) (todo : List Todo) (xs : List Frame) (given : List Config) → Asked seen j (on t todo xs) given → IsEndOn f t todo xs given CallDepth → IsTooNested m defs seen
    nested_on seen j t [] xs given a k = absurd k
    nested_on seen j t (d ∷ ds) xs given a k =
        let b = by_meaning (λ P es n b. IsAsked (Begins P (engine_of P) es) (NextAll P (engine_of P) es) seen j (on t (d ∷ ds) xs) given) a in
        record {
          place = j;
          on_term = t;
          first = d;
          behind = ds;
          frames = xs;
          asked = record {
            stands = b.stands;
            begins = record { level = 0; each = 0; budget = 0; holds = λ k B b i j l. inl refl };
            listed = All-nil (Contains seen);
            behind = b.behind;
          };
          is_call = is_call d.form k.2.0;
          none_left = k.2.1;
        }

-- ---- by the numbers of a run

start_of : (c : Config) (t : Tree) (d : Todo) → c ≡ on t (d ∷ []) [] → c ≡ on c.term (first_of c.todo ∷ []) []
start_of c t d e = e ∙ ap (λ (x : Config). on x.term (first_of x.todo ∷ []) []) (sym e)

module _ (s : State) (h : IsState s) (old new : List ℕ) (l : IsListed s new) (some : 0 < length old) (r : Reached (begins_in s) (next_in s) (slice_index new 0) new) where
  abbrev cfg : ℕ → Config
  cfg = config_in s

  first_is : (more : List ℕ) → new ≡ old ++ more → slice_index new 0 ≡ slice_index old 0
  first_is more e = ap (λ xs. slice_index xs 0) e ∙ get_or_append_left old more 0 0 some

  begun_as : (more : List ℕ) → new ≡ old ++ more → Began s new (reached_of s old).start (reached_of s old).strategy
  begun_as more e = subst (λ n. cfg (slice_index new 0) ≡ on (cfg n).term (first_of (cfg n).todo ∷ []) []) (first_is more e) (start_of (cfg (slice_index new 0)) l.start l.strategy l.first)

  none_of : (more : List ℕ) → NoneSolves s more → (u : Tree) → Contains (map cfg more) (on u [] []) → ⊥
  none_of more a u k =
      let x = from_map cfg more k.0 (on u [] []) (k.1, k.2) in
      not_both (is_solution (cfg x.0)) (ap is_solution x.2) (All-contains (λ n. is_solution (cfg n) ≡ false) more x.0 a (k.0, x.1.0, x.1.1))

  went_list : (more : List ℕ) → new ≡ old ++ more → map cfg new ≡ map cfg old ++ map cfg more
  went_list more e = ap (map cfg) e ∙ map-append cfg old more

  goes : (more : List ℕ) → new ≡ old ++ more → reached_of s new ≡ went_on (reached_of s old) (map cfg more)
  goes more e = reached_is (reached_of s new) (went_on (reached_of s old) (map cfg more)) (ap (λ n. (cfg n).term) (first_is more e)) (ap (λ n. first_of (cfg n).todo) (first_is more e)) (went_list more e)

  module _ (m : Meanings) (defs : List StratDef) (most : ℕ) (g : GoesBy m defs s.setting.fixed most) where
    runs : (more : List ℕ) → new ≡ old ++ more → RunsTo (program_of m) (engine_of (program_of m)) defs (reached_of s old).start (reached_of s old).strategy (map cfg new)
    runs more e =
        by_meaning s.setting.fixed m defs most g (λ P ds k b. RunsTo P (engine_of P) ds (reached_of s old).start (reached_of s old).strategy (map cfg new))
        (runs_to s h new l r (reached_of s old).start (reached_of s old).strategy (begun_as more e))

    pub came_solution : (n : TermId) → GoesOn s old new (Ok (Some n)) → IsNextSolution m defs (reached_of s old) (s.setting.tree n.0) (reached_of s new)
    came_solution n (more, c, e, a, is) =
        let u = s.setting.tree n.0 in
        let on_more : new ≡ old ++ (more ++ c ∷ []) = e ∙ append_assoc old more (c ∷ []) in
        let whole : map cfg new ≡ (map cfg old ++ map cfg more) ++ on u [] [] ∷ [] =
        ap (map cfg) e ∙ (map-append cfg (old ++ more) (c ∷ []) ∙ ap₂ (λ xs x. xs ++ x ∷ []) (map-append cfg old more) is) in
        let some_there : 0 < length (map cfg old ++ map cfg more) = omega (arith, length-append (map cfg old) (map cfg more), mapped cfg old, some) in
        let step = last_step (First m defs) (Whole m defs) (on (reached_of s old).start ((reached_of s old).strategy ∷ []) []) (map cfg new) (map cfg old ++ map cfg more) (on u [] []) (runs (more ++ c ∷ []) on_more) whole some_there in
        record {
          passed = map cfg more;
          passes = record { reaches = step.0; none = none_of more a };
          entered = step.1;
          stands = reached_is (reached_of s new) (went_on (went_on (reached_of s old) (map cfg more)) (on u [] [] ∷ [])) (ap (λ k. (cfg k).term) (first_is (more ++ c ∷ []) on_more)) (ap (λ k. first_of (cfg k).todo) (first_is (more ++ c ∷ []) on_more)) whole;
        }

    went : (Ends : List Config → Type 0) → Ends (map cfg new) → (more : List ℕ) → new ≡ old ++ more → NoneSolves s more → WentOn m defs (reached_of s old) (reached_of s new) Ends
    went Ends k more e a = (
      map cfg more,
      record { reaches = subst (RunsTo (program_of m) (engine_of (program_of m)) defs (reached_of s old).start (reached_of s old).strategy) (went_list more e) (runs more e); none = none_of more a },
      goes more e,
      subst Ends (went_list more e) k,
    )

    pub came_no_more : GoesOn s old new (Ok None) → WentOn m defs (reached_of s old) (reached_of s new) (λ seen. HasStrategyEnd m defs seen no_more)
    came_no_more (more, e, a, closed) =
        went (λ seen. HasStrategyEnd m defs seen no_more)
        (by_meaning s.setting.fixed m defs most g (λ P ds k b. IsClosed (Begins P (engine_of P) ds) (NextAll P (engine_of P) ds) (map cfg new)) (all_closed s h new closed)) more e a

    -- the cause of an end
    abbrev CausedOn : LeafEnd → Type 0
    CausedOn x = (j : ℕ) × (c : Config) × (given : List Config) × Asked s.setting.fixed (map cfg new) j c given × IsEndOn s.setting.fixed c.term c.todo c.frames given x

    due : (x : LeafEnd) (e : End) → CauseOf s.setting.fixed x e → CausedOn x → IsDueTo m defs e (map cfg new)
    due x e by k = due_to s.setting.fixed m defs most g e (map cfg new) (due_on s.setting.fixed x e by (map cfg new) k.0 k.1.term k.1.todo k.1.frames k.2 k.3 k.4)

    stopped_by : IsRunEnd s most new Stopped → HasEndCause m defs stopped (map cfg new)
    stopped_by (inl k) = inl (omega (arith, k.0, mapped cfg new, g.entries), (k.1.0, by_meaning s.setting.fixed m defs most g (λ P ds a b. IsNextEntry (Begins P (engine_of P) ds) (NextAll P (engine_of P) ds) (map cfg new) k.1.0) k.1.1))
    stopped_by (inr k) = inr (due Stopped stopped (λ d t ys z. z) k)

    pub came_stopped : GoesOn s old new (Err Stopped) → IsRunEnd s most new Stopped → WentOn m defs (reached_of s old) (reached_of s new) (λ seen. HasStrategyEnd m defs seen (ends_by stopped))
    came_stopped go k = went (λ seen. HasStrategyEnd m defs seen (ends_by stopped)) (stopped_by k) go.0 go.1 go.2

    pub came_too_deep : GoesOn s old new (Err TooDeep) → IsRunEnd s most new TooDeep → WentOn m defs (reached_of s old) (reached_of s new) (λ seen. HasStrategyEnd m defs seen (ends_by too_deep))
    came_too_deep go k = went (λ seen. HasStrategyEnd m defs seen (ends_by too_deep)) (due TooDeep too_deep (λ d t ys z. z) k) go.0 go.1 go.2

    pub came_overflow : GoesOn s old new (Err Overflow) → IsRunEnd s most new Overflow → WentOn m defs (reached_of s old) (reached_of s new) (λ seen. HasStrategyEnd m defs seen (ends_by overflowed))
    came_overflow go k = went (λ seen. HasStrategyEnd m defs seen (ends_by overflowed)) (due Overflow overflowed (λ d t ys z. z) k) go.0 go.1 go.2

    pub came_call_depth : GoesOn s old new (Err CallDepth) → IsRunEnd s most new CallDepth → WentOn m defs (reached_of s old) (reached_of s new) (λ seen. HasStrategyEnd m defs seen call_depth)
    came_call_depth go k =
        went (λ seen. HasStrategyEnd m defs seen call_depth) (nested_on s.setting.fixed m defs most g (map cfg new) k.0 k.1.term k.1.todo k.1.frames k.2 k.3 k.4) go.0 go.1 go.2

    pub came_nowhere : GoesOn s old new (Err NoMemory) → WentOn m defs (reached_of s old) (reached_of s new) (λ seen. Unit {0})
    came_nowhere go = went (λ seen. Unit {0}) tt go.0 go.1 go.2
