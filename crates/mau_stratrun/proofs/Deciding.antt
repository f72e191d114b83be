-- A run that comes back to `E ? F : G` knows its successors by what is listed inside.
use Rattle.std.proofs.Common.{◌≡◌, ℕ, ◌<◌, ◌≤◌, List, [], ◌∷◌, ◌++◌, length, map, slice_get, get_or, All, Contains, Some, refl, ap, ap₂, sym, ◌∙◌, subst, arith}
use Rattle.std.proofs.lemmas.List.Elements.{All-head}
use Rattle.std.proofs.lemmas.List.{get_or_default}
use Rattle.std.proofs.lemmas.Option.{slice_get-get_or, get_or_from_slice_get}
use Rattle.mau_terms.specs.Tree.{Tree}
use Rattle.mau_evaluation.specs.Engine.{engine_of}
use Rattle.mau_evaluation.specs.Configs.{Todo, Frame, Config, on}
use Rattle.mau_evaluation.specs.Reach.{At}
use Rattle.mau_evaluation.proofs.Meet.{branches_are_decided}
use Rattle.mau_strat.specs.declared.configs.Todo.{Todo as StoredTodo}
use Rattle.mau_strat.specs.declared.configs.Config.{Config as StoredConfig}
use Rattle.mau_strat.specs.declared.forms.Form.{Form}
use Rattle.mau_strat.specs.Sharing.{list_at}
use Rattle.mau_strat.specs.Interned.{Interned, Grows}
use Rattle.mau_strat.proofs.Apart.{frames_apart}
use Rattle.mau_stratrun.specs.declared.branch.Branch.{Branch}
use Rattle.mau_stratrun.specs.Settings.{Setting}
use Rattle.mau_stratrun.specs.Yields.{BeginsBy, NextBy}
use Rattle.mau_stratrun.specs.States.{State, strategy_in, todo_in, todos_in, frames_in, config_in, IsConfig, IsState}
use Rattle.mau_stratrun.specs.Moves.{state_of, todo_by, made_in}
use Rattle.mau_stratrun.specs.Branches.{frame_on, HasResult, IsBranchAt, IsAtPlace}
use Rattle.mau_stratrun.proofs.Answering.{one_front, no_more_behind, one_behind}
use Rattle.mau_stratrun.proofs.Keeping.{configs, config_lists, bindings, todos, frames}
use Rattle.mau_stratrun.proofs.Runs.{apart_forms, from_map, contains_map}
use Rattle.mau_stratrun.proofs.Adding.{larger, config_is}
use Rattle.mau_stratrun.proofs.Places.{doing_is}
use Rattle.mau_stratrun.proofs.Branching as pair

empty_map : {A B : Type 0} (f : A → B) (xs : List A) → map f xs ≡ [] → xs ≡ []
empty_map f [] e = refl
empty_map f (x ∷ xs) e = absurd (cc)

module _ (g : Setting) (forms : List Form) (i : Interned) (c : StoredConfig) (own : StoredTodo) (rest : ℕ) (b : Branch) (is : IsState (state_of g forms i)) (e : list_at i.todos c.todo.0 ≡ own ∷ list_at i.todos rest)
    (at : IsBranchAt (state_of g forms i) own.form.0 b) where
  abbrev s : State
  s = state_of g forms i

  abbrev t : Tree
  t = g.tree c.term.0

  abbrev d : Todo
  d = todo_in s own

  abbrev ds : List Todo
  ds = todos_in s rest

  abbrev xs : List Frame
  xs = frames_in s c.frames.0

  abbrev whole : Config
  whole = on t (d ∷ ds) xs

  abbrev pub into : Config
  into = pair.into g.fixed t d (strategy_in s b.test.0) (strategy_in s b.then.0) (strategy_in s b.other.0) at.0 ds xs

  abbrev pub behind : Config
  behind = pair.behind g.fixed t d (strategy_in s b.test.0) (strategy_in s b.then.0) (strategy_in s b.other.0) at.0 ds xs

  abbrev frame : Frame
  frame = frame_on s c.term.0 own rest b.then.0

  is_whole : made_in s c ≡ whole
  is_whole = doing_is s c own rest e

  pub first_successor : (given : List Config) → BeginsBy g.fixed (made_in s c) given → length given ≡ 0 → BeginsBy g.fixed (made_in s c) (given ++ into ∷ [])
  first_successor given k n = subst (λ z. BeginsBy g.fixed z (given ++ into ∷ [])) (sym is_whole) (pair.goes_inside g.fixed t d (strategy_in s b.test.0) (strategy_in s b.then.0) (strategy_in s b.other.0) at.0 ds xs given n)

  pub third_successor : (given : List Config) → BeginsBy g.fixed (made_in s c) given → 2 ≤ length given → NextBy g.fixed (made_in s c) given
  third_successor given k n = subst (λ z. NextBy g.fixed z given) (sym is_whole)
      (pair.both_given g.fixed t d (strategy_in s b.test.0) (strategy_in s b.then.0) (strategy_in s b.other.0) at.0 ds xs given n (subst (λ z. BeginsBy g.fixed z given) is_whole k))

  module _ (i' : Interned) (is' : IsState (state_of g forms i')) (x : Grows i i') (seen : List ℕ) (all : All (IsConfig s) seen) (all' : All (IsConfig (state_of g forms i')) seen) (f : ℕ) (in_frames : f < length i'.frames)
      (fs : frames_in (state_of g forms i') f ≡ frame ∷ xs) (p : IsAtPlace s (made_in s c) seen 1) where
    abbrev s' : State
    s' = state_of g forms i'

    abbrev listed : List Config
    listed = map (config_in s) seen

    same : map (config_in s') seen ≡ listed
    same = config_lists s s' is (larger g forms i i' x) seen all

    -- what is listed inside
    is_inside : (n : ℕ) (k : StoredConfig) → slice_get i'.configs n ≡ Some k → k.frames.0 ≡ f → list_at i'.todos k.todo.0 ≡ [] → config_in s' n ≡ on (g.tree k.term.0) [] (frame ∷ xs)
    is_inside n k m q r = config_is s' n k m ∙ ap₂ (λ us ys. on (g.tree k.term.0) us ys) (ap (map (todo_in s')) r) (ap (frames_in s') q ∙ fs)

    pub found : HasResult i' seen f → (v : Tree) × Contains listed (on v [] (frame ∷ xs))
    found r =
        let k = r.1 in
        let n = get_or seen r.0 0 in
        let one : Contains seen n = (r.0, r.2, get_or_default seen r.0 n 0 r.2) in
        let inside_one = is_inside n k r.3 r.4.0 r.4.1 in
        (g.tree k.term.0, subst (λ ys. Contains ys (on (g.tree k.term.0) [] (frame ∷ xs))) same (subst (Contains (map (config_in s') seen)) inside_one (contains_map (config_in s') seen n one)))

    pub not_found : (HasResult i' seen f → ⊥) → (v : Tree) → Contains listed (on v [] (frame ∷ xs)) → ⊥
    not_found absent v k =
        let r = from_map (config_in s) seen k.0 (on v [] (frame ∷ xs)) (k.1, k.2) in
        let n = r.0 in
        let none : StoredConfig = record { term = record { 0 = 0 }; todo = record { 0 = 0 }; frames = record { 0 = 0 } } in
        let within : IsConfig s' n = subst (IsConfig s') r.1.1 (all' k.0 n r.1.0) in
        let y = get_or i'.configs n none in
        let here : config_in s' n ≡ on v [] (frame ∷ xs) = configs s s' is (larger g forms i i' x) n (subst (IsConfig s) r.1.1 (all k.0 n r.1.0)) ∙ r.2 in
        let todo : list_at i'.todos y.todo.0 ≡ [] = empty_map (todo_in s') (list_at i'.todos y.todo.0) (ap (λ (z : Config). z.todo) here) in
        let frames : y.frames.0 ≡ f = frames_apart i' is'.interned g.terms (length forms) is'.within g.tree is'.trees (strategy_in s') (apart_forms s' is') y.frames.0 f (is'.interned.configs n none within).1 in_frames (ap (λ (z : Config). z.frames) here ∙ sym fs) in
        absent (k.0, y, r.1.0, ap (slice_get i'.configs) (get_or_default seen k.0 0 n r.1.0 ∙ r.1.1) ∙ slice_get-get_or i'.configs n none within, (frames, todo))

    into_listed : Contains listed into
    into_listed =
        let only : p.given ≡ into ∷ [] = one_front g.fixed (made_in s c) p.given (into ∷ []) p.begins (subst (λ z. BeginsBy g.fixed z (into ∷ [])) (sym is_whole) (pair.goes_inside g.fixed t d (strategy_in s b.test.0) (strategy_in s b.then.0) (strategy_in s b.other.0) at.0 ds xs [] refl)) p.count in
        All-head (Contains listed) into [] (subst (All (Contains listed)) only p.listed)

    decided : ((v : Tree) → Contains listed (on v [] (frame ∷ xs)) → ⊥) → NextBy g.fixed whole (into ∷ behind ∷ [])
    decided absent = (branches_are_decided g.fixed.program (engine_of g.fixed.program) g.fixed.definitions is.fixed.asks p.start p.strategy listed p.runs p.entry t d (strategy_in s b.test.0) (strategy_in s b.then.0) (strategy_in s b.other.0) ds xs at.0
        (subst (At listed p.entry) is_whole p.stands) into_listed p.behind).0 absent

    decided_one : (v : Tree) → Contains listed (on v [] (frame ∷ xs)) → NextBy g.fixed whole (into ∷ [])
    decided_one v k = (branches_are_decided g.fixed.program (engine_of g.fixed.program) g.fixed.definitions is.fixed.asks p.start p.strategy listed p.runs p.entry t d (strategy_in s b.test.0) (strategy_in s b.then.0) (strategy_in s b.other.0) ds xs at.0
        (subst (At listed p.entry) is_whole p.stands) into_listed p.behind).1 v k

    pub second_is : (HasResult i' seen f → ⊥) → (given : List Config) → BeginsBy g.fixed (made_in s c) given → length given ≡ 1 → BeginsBy g.fixed (made_in s c) (given ++ behind ∷ [])
    second_is absent given k n = one_behind g.fixed (made_in s c) given (into ∷ behind ∷ []) k (subst (λ z. NextBy g.fixed z (into ∷ behind ∷ [])) (sym is_whole) (decided (not_found absent))) behind (ap (slice_get (into ∷ behind ∷ [])) n)

    pub second_none : HasResult i' seen f → (given : List Config) → BeginsBy g.fixed (made_in s c) given → length given ≡ 1 → NextBy g.fixed (made_in s c) given
    second_none r given k n = let v = found r in no_more_behind g.fixed (made_in s c) given (into ∷ []) k (subst (λ z. NextBy g.fixed z (into ∷ [])) (sym is_whole) (decided_one v.0 v.1)) (omega arith)

-- ---- the configurations that are entered

module _ (g : Setting) (forms : List Form) (i i' : Interned) (c : StoredConfig) (own : StoredTodo) (rest : ℕ) (b : Branch) (h : IsState (state_of g forms i)) (h' : IsState (state_of g forms i')) (x : Grows i i')
    (e : list_at i.todos c.todo.0 ≡ own ∷ list_at i.todos rest) (at : IsBranchAt (state_of g forms i) own.form.0 b) (v : own.values.0 < length i.bindings) (r : rest < length i.todos) (f : c.frames.0 < length i.frames) where
  abbrev s0 : State
  s0 = state_of g forms i

  abbrev s1 : State
  s1 = state_of g forms i'

  todo_same : (n : ℕ) → todo_by s1 own n ≡ todo_by s0 own n
  todo_same n = let k = bindings s0 s1 h (larger g forms i i' x) own.values.0 v in λ j. record { form = strategy_in s0 n; calls = own.calls; values = k j }

  no_todos : todos_in s1 0 ≡ []
  no_todos = ap (map (todo_in s1)) (get_or_from_slice_get i'.todos 0 [] [] h'.no_todos)

  pub into_is : (y : Config) (fs : ℕ) → frames_in s1 fs ≡ frame_on s0 c.term.0 own rest b.then.0 ∷ frames_in s0 c.frames.0 → y ≡ on (g.tree c.term.0) (todo_by s1 own b.test.0 ∷ todos_in s1 0) (frames_in s1 fs) → y ≡ into g forms i c own rest b h e at
  into_is y fs k q = let a = todo_same b.test.0 in q ∙ (λ j. on (g.tree c.term.0) (a j ∷ no_todos j) (k j))

  pub behind_is : (y : Config) → y ≡ on (g.tree c.term.0) (todo_by s1 own b.other.0 ∷ todos_in s1 rest) (frames_in s1 c.frames.0) → y ≡ behind g forms i c own rest b h e at
  behind_is y q =
      let a = todo_same b.other.0 in
      let l = larger g forms i i' x in
      let p = todos s0 s1 h l rest r in
      let m = frames s0 s1 h l c.frames.0 f in
      q ∙ (λ j. on (g.tree c.term.0) (a j ∷ p j) (m j))
