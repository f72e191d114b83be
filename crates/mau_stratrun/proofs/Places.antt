-- The successor at a place, where all successors are known; and what configurations are, by what they are made of.
use Rattle.std.proofs.Common.{◌≡◌, ℕ, ◌<◌, ◌≤◌, List, [], ◌∷◌, ◌++◌, length, map, slice_get, Option, Some, None, All, refl, ap, ap₂, sym, ◌∙◌, subst, arith}
use Rattle.std.proofs.lemmas.List.Elements.{All-weaker, All-head, All-cons, All-nil}
use Rattle.std.proofs.lemmas.Option.{slice_get-map}
use Rattle.std.specs.Option.{option_map}
use Rattle.mau_terms.specs.Tree.{Tree}
use Rattle.mau_evaluation.specs.Engine.{engine_of}
use Rattle.mau_evaluation.specs.Configs.{Config, on, with_form}
use Rattle.mau_strat.specs.declared.configs.Todo.{Todo as StoredTodo}
use Rattle.mau_strat.specs.declared.configs.Frame.{Frame as StoredFrame}
use Rattle.mau_strat.specs.declared.configs.Config.{Config as StoredConfig}
use Rattle.mau_strat.specs.declared.forms.Form.{Form}
use Rattle.mau_strat.specs.Sharing.{Extends, list_at}
use Rattle.mau_strat.specs.Interned.{Interned, IsInterned, IsWithin}
use Rattle.mau_strat.specs.Configurations.{frame_of}
use Rattle.mau_strat.specs.Forms.{AreForms, LeafIn}
use Rattle.mau_stratrun.specs.Settings.{Fixed, Setting}
use Rattle.mau_stratrun.specs.Yields.{BeginsBy, NextBy, IsAnswer}
use Rattle.mau_stratrun.specs.States.{State, strategy_in, todo_in, todos_in, frames_in, IsState, Larger}
use Rattle.mau_stratrun.specs.Moves.{state_of, todo_by, made_in}
use Rattle.mau_stratrun.specs.Turns.{HasTurns, turns, ids_of, IsTurnAt}
use Rattle.mau_stratrun.specs.declared.ahead.First.{First}
use Rattle.mau_stratrun.proofs.Answering.{always, no_more_behind, one_behind}
use Rattle.mau_stratrun.proofs.Keeping.{longer, bindings, todos, frames}
use Rattle.mau_stratrun.proofs.Adding.{grows_itself}
use Rattle.mau_stratrun.proofs.Turning.{turned, all_turns}

mapped : {A B : Type 0} (f : A → B) (xs : List A) → length (map f xs) ≡ length xs
mapped f [] = refl
mapped f (x ∷ xs) = omega (arith, mapped f xs)

-- ---- where all are known

abbrev pub PlaceIs : List Config → ℕ → Option Config → Type 0
PlaceIs full at None = length full ≤ at
PlaceIs full at (Some x) = slice_get full at ≡ Some x

pub by_full : (f : Fixed) (c : Config) (full given : List Config) (at : ℕ) (o : Option Config) → NextBy f c full → PlaceIs full at o → BeginsBy f c given → length given ≡ at → IsAnswer f c given o
by_full f c full given at None n p b e = no_more_behind f c given full b n (omega arith)
by_full f c full given at (Some x) n p b e = one_behind f c given full b n x (ap (slice_get full) e ∙ p)

-- ---- what configurations are

module _ (s : State) (c : StoredConfig) where
  abbrev pub T : Tree
  T = s.setting.tree c.term.0

  pub solution_is : list_at s.interned.todos c.todo.0 ≡ [] → list_at s.interned.frames c.frames.0 ≡ [] → made_in s c ≡ on T [] []
  solution_is e k = ap₂ (λ ds xs. on T (map (todo_in s) ds) (map (frame_of s.setting.tree (strategy_in s) s.interned) xs)) e k

  pub inside_is : (x : StoredFrame) (rest : ℕ) → list_at s.interned.todos c.todo.0 ≡ [] → list_at s.interned.frames c.frames.0 ≡ x ∷ list_at s.interned.frames rest →
      made_in s c ≡ on T [] (frame_of s.setting.tree (strategy_in s) s.interned x ∷ frames_in s rest)
  inside_is x rest e k = ap₂ (λ ds xs. on T (map (todo_in s) ds) (map (frame_of s.setting.tree (strategy_in s) s.interned) xs)) e k

  pub doing_is : (own : StoredTodo) (rest : ℕ) → list_at s.interned.todos c.todo.0 ≡ own ∷ list_at s.interned.todos rest → made_in s c ≡ on T (todo_in s own ∷ todos_in s rest) (frames_in s c.frames.0)
  doing_is own rest e = ap (λ ds. on T (map (todo_in s) ds) (frames_in s c.frames.0)) e

  -- ---- nothing left to do

  pub of_solution : list_at s.interned.todos c.todo.0 ≡ [] → list_at s.interned.frames c.frames.0 ≡ [] → (given : List Config) → BeginsBy s.setting.fixed (made_in s c) given → NextBy s.setting.fixed (made_in s c) given
  of_solution e k given b = no_more_behind s.setting.fixed (made_in s c) given [] b (subst (λ x. NextBy s.setting.fixed x []) (sym (solution_is e k)) (always (engine_of s.setting.fixed.program) (λ L. refl))) (omega arith)

  module _ (x : StoredFrame) (rest : ℕ) (e : list_at s.interned.todos c.todo.0 ≡ []) (k : list_at s.interned.frames c.frames.0 ≡ x ∷ list_at s.interned.frames rest) where
    abbrev pub behind : Config
    behind = on T (todo_in s x.after ∷ todos_in s x.behind.0) (frames_in s rest)

    all_outside : NextBy s.setting.fixed (made_in s c) (behind ∷ [])
    all_outside = subst (λ z. NextBy s.setting.fixed z (behind ∷ [])) (sym (inside_is x rest e k)) (always (engine_of s.setting.fixed.program) (λ L. refl))

    pub of_outside : (given : List Config) (at : ℕ) (o : Option Config) → PlaceIs (behind ∷ []) at o → BeginsBy s.setting.fixed (made_in s c) given → length given ≡ at → IsAnswer s.setting.fixed (made_in s c) given o
    of_outside given at o p b n = by_full s.setting.fixed (made_in s c) (behind ∷ []) given at o all_outside p b n

-- ---- a fixed list

pub more_forms : (g : Setting) (forms forms' : List Form) (i : Interned) → Extends forms forms' → AreForms forms' → All (LeafIn g.fixed.leaves) forms' → IsState (state_of g forms i) → IsState (state_of g forms' i)
more_forms g forms forms' i x are leaves h = record {
  fixed = h.fixed;
  trees = h.trees;
  forms = are;
  leaves = leaves;
  interned = h.interned;
  within = record {
    bindings = h.within.bindings;
    todos = All-weaker (All (λ d. d.form.0 < length forms)) (All (λ d. d.form.0 < length forms')) (All-weaker (λ d. d.form.0 < length forms) (λ d. d.form.0 < length forms') (λ d p. omega (arith, l))) i.todos h.within.todos;
    frames = All-weaker (All (λ f. (f.test.form.0 < length forms) × (f.after.form.0 < length forms) × (f.begun.0 < g.terms))) (All (λ f. (f.test.form.0 < length forms') × (f.after.form.0 < length forms') × (f.begun.0 < g.terms)))
        (All-weaker (λ f. (f.test.form.0 < length forms) × (f.after.form.0 < length forms) × (f.begun.0 < g.terms)) (λ f. (f.test.form.0 < length forms') × (f.after.form.0 < length forms') × (f.begun.0 < g.terms))
        (λ f p. (omega (arith, l, p.0), omega (arith, l, p.1), p.2))) i.frames h.within.frames;
    configs = h.within.configs;
  };
  no_values = h.no_values;
  no_todos = h.no_todos;
  no_frames = h.no_frames;
}
  where
    l : length forms ≤ length forms'
    l = longer forms forms' x

pub forms_larger : (g : Setting) (forms forms' : List Form) (i : Interned) → Extends forms forms' → Larger (state_of g forms i) (state_of g forms' i)
forms_larger g forms forms' i x = record { fixed = refl; terms = omega arith; trees = λ j b. refl; forms = x; interned = grows_itself i }

module _ (g : Setting) (forms forms' : List Form) (i : Interned) (h : IsState (state_of g forms i)) (x : Extends forms forms') (c : StoredConfig) (own : StoredTodo) (rest : ℕ)
    (e : list_at i.todos c.todo.0 ≡ own ∷ list_at i.todos rest) (a : own.values.0 < length i.bindings) (b : rest < length i.todos) (f : c.frames.0 < length i.frames) where
  abbrev s : State
  s = state_of g forms i

  abbrev s' : State
  s' = state_of g forms' i

  abbrev full : List Config
  full = map (turned (g.tree c.term.0) (todo_in s own) (todos_in s rest) (frames_in s c.frames.0)) (turns (strategy_in s own.form.0))

  pub all_of : HasTurns (strategy_in s own.form.0) → NextBy g.fixed (made_in s c) full
  all_of t = subst (λ z. NextBy g.fixed z full) (sym (doing_is s c own rest e)) (all_turns g.fixed (g.tree c.term.0) (todo_in s own) (todos_in s rest) (frames_in s c.frames.0) t)

  -- the configuration that goes on
  todos_of : (ids : List ℕ) → map (todo_by s' own) ids ≡ map (with_form (todo_in s own)) (map (strategy_in s') ids)
  todos_of [] = refl
  todos_of (n ∷ ids) =
      let v = bindings s s' h (forms_larger g forms forms' i x) own.values.0 a in
      ap₂ (λ y ys. y ∷ ys) (λ k. record { form = strategy_in s' n; calls = own.calls; values = v k }) (todos_of ids)

  goes_on : (ids : List ℕ) → on (g.tree c.term.0) (map (todo_by s' own) ids ++ todos_in s' rest) (frames_in s' c.frames.0)
      ≡ turned (g.tree c.term.0) (todo_in s own) (todos_in s rest) (frames_in s c.frames.0) (map (strategy_in s') ids)
  goes_on ids =
      let l = forms_larger g forms forms' i x in
      let p = todos_of ids in
      let q = todos s s' h l rest b in
      let r = frames s s' h l c.frames.0 f in
      λ k. on (g.tree c.term.0) (p k ++ q k) (r k)

  pub turned_some : HasTurns (strategy_in s own.form.0) → (first : First) (at : ℕ) → IsTurnAt (strategy_in s') (length forms') (turns (strategy_in s own.form.0)) at (Some first) →
      (y : Config) → y ≡ on (g.tree c.term.0) (map (todo_by s' own) (ids_of first) ++ todos_in s' rest) (frames_in s' c.frames.0) →
      (given : List Config) → BeginsBy g.fixed (made_in s c) given → length given ≡ at → BeginsBy g.fixed (made_in s c) (given ++ y ∷ [])
  turned_some t first at p y q given k n = by_full g.fixed (made_in s c) full given at (Some y) (all_of t)
      (slice_get-map (turned (g.tree c.term.0) (todo_in s own) (todos_in s rest) (frames_in s c.frames.0)) (turns (strategy_in s own.form.0)) at
      ∙ (ap (option_map (turned (g.tree c.term.0) (todo_in s own) (todos_in s rest) (frames_in s c.frames.0))) p.0 ∙ ap Some (sym (q ∙ goes_on (ids_of first))))) k n

  pub turned_none : HasTurns (strategy_in s own.form.0) → (at : ℕ) → IsTurnAt (strategy_in s') (length forms') (turns (strategy_in s own.form.0)) at None →
      (given : List Config) → BeginsBy g.fixed (made_in s c) given → length given ≡ at → NextBy g.fixed (made_in s c) given
  turned_none t at p given k n = by_full g.fixed (made_in s c) full given at None (all_of t)
      (subst (λ m. m ≤ at) (sym (mapped (turned (g.tree c.term.0) (todo_in s own) (todos_in s rest) (frames_in s c.frames.0)) (turns (strategy_in s own.form.0)))) p) k n

-- ---- what lists of frames and of what is left to do are made of

module _ (i : Interned) (are : IsInterned i) (n : ℕ) where
  pub frame_placed : (x : StoredFrame) (r : ℕ) → n < length i.frames → list_at i.frames n ≡ x ∷ list_at i.frames r → (x.test.values.0 < length i.bindings) × (x.after.values.0 < length i.bindings) × (x.behind.0 < length i.todos)
  frame_placed x r h e = All-head (λ f. (f.test.values.0 < length i.bindings) × (f.after.values.0 < length i.bindings) × (f.behind.0 < length i.todos)) x (list_at i.frames r)
      (subst (All (λ f. (f.test.values.0 < length i.bindings) × (f.after.values.0 < length i.bindings) × (f.behind.0 < length i.todos))) e (are.frames n [] h))

  pub todo_placed : (x : StoredTodo) (r : ℕ) → n < length i.todos → list_at i.todos n ≡ x ∷ list_at i.todos r → x.values.0 < length i.bindings
  todo_placed x r h e = All-head (λ d. d.values.0 < length i.bindings) x (list_at i.todos r) (subst (All (λ d. d.values.0 < length i.bindings)) e (are.todos n [] h))

module _ (i : Interned) (terms many : ℕ) (within : IsWithin terms many i) (n : ℕ) where
  pub frame_named : (x : StoredFrame) (r : ℕ) → n < length i.frames → list_at i.frames n ≡ x ∷ list_at i.frames r → (x.test.form.0 < many) × (x.after.form.0 < many) × (x.begun.0 < terms)
  frame_named x r h e = All-head (λ f. (f.test.form.0 < many) × (f.after.form.0 < many) × (f.begun.0 < terms)) x (list_at i.frames r)
      (subst (All (λ f. (f.test.form.0 < many) × (f.after.form.0 < many) × (f.begun.0 < terms))) e (within.frames n [] h))

  pub todo_named : (x : StoredTodo) (r : ℕ) → n < length i.todos → list_at i.todos n ≡ x ∷ list_at i.todos r → x.form.0 < many
  todo_named x r h e = All-head (λ d. d.form.0 < many) x (list_at i.todos r) (subst (All (λ d. d.form.0 < many)) e (within.todos n [] h))

pub one_named : (many e : ℕ) → e < many → All (λ n. n < many) (e ∷ [])
one_named many e h = All-cons (λ n. n < many) e [] h (All-nil (λ n. n < many))
