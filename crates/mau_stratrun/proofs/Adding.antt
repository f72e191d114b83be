-- What is added to the numbers of lists and configurations, and what it stands for.
use Rattle.std.proofs.Common.{◌≡◌, ◌⊎◌, inl, inr, ℕ, zero, suc, ◌+◌, ◌-◌, ◌<◌, List, [], ◌∷◌, ◌++◌, length, map, drop, get_or, slice_get, Some, All, refl, ap, ap₂, sym, ◌∙◌, subst, arith}
use Rattle.std.proofs.Math.Seq.{drop-cons, drop-length}
use Rattle.std.proofs.lemmas.List.Elements.{All-head, All-tail}
use Rattle.std.proofs.lemmas.Option.{get_or_from_slice_get}
use Rattle.mau_evaluation.specs.Configs.{on}
use Rattle.mau_strat.specs.declared.configs.Bound.{Bound}
use Rattle.mau_strat.specs.declared.configs.StrategyId.{StrategyId}
use Rattle.mau_strat.specs.declared.configs.TodosId.{TodosId}
use Rattle.mau_strat.specs.declared.configs.FramesId.{FramesId}
use Rattle.mau_terms.specs.declared.ids.TermId.{TermId}
use Rattle.mau_strat.specs.declared.configs.Todo.{Todo as StoredTodo}
use Rattle.mau_strat.specs.declared.configs.Frame.{Frame as StoredFrame}
use Rattle.mau_strat.specs.declared.configs.Config.{Config as StoredConfig}
use Rattle.mau_strat.specs.declared.forms.Form.{Form}
use Rattle.mau_strat.specs.Sharing.{Extends, list_at}
use Rattle.mau_strat.specs.Interned.{Interned, IsInterned, Grows, AddsBinding, IsWithin}
use Rattle.mau_strat.specs.Configurations.{bound_of, frame_of}
use Rattle.mau_strat.proofs.Interning.{extends_itself}
use Rattle.mau_stratrun.specs.Settings.{Setting}
use Rattle.mau_stratrun.specs.States.{State, strategy_in, todo_in, todos_in, frames_in, config_in, IsState, Larger}
use Rattle.mau_stratrun.specs.declared.ahead.First.{First}
use Rattle.mau_stratrun.specs.declared.ahead.First.TheVariants.{Two}
use Rattle.mau_stratrun.specs.Turns.{ids_of}
use Rattle.mau_stratrun.specs.Moves.{state_of, todo_by, made_in, GoesTo}
use Rattle.mau_stratrun.proofs.Keeping.{longer, todos, frames}

-- ---- lists that grow

pub get_kept : {A : Type 0} (old new : List A) (n : ℕ) (x : A) → Extends old new → slice_get old n ≡ Some x → slice_get new n ≡ Some x
get_kept {A = A} old new n x e h = ap (λ xs. slice_get xs n) e.1 ∙ front old n h
  where
    front : (xs : List A) (n : ℕ) → slice_get xs n ≡ Some x → slice_get (xs ++ e.0) n ≡ Some x
    front [] n h = absurd (cc)
    front (y ∷ ys) zero h = h
    front (y ∷ ys) (suc n) h = front ys n h

pub grows_itself : (i : Interned) → Grows i i
grows_itself i = record { bindings = extends_itself i.bindings; todos = extends_itself i.todos; frames = extends_itself i.frames; configs = extends_itself i.configs }

extends_through : {A : Type 0} (xs ys zs : List A) → Extends xs ys → Extends ys zs → Extends xs zs
extends_through {A = A} xs ys zs a b = (a.0 ++ b.0, b.1 ∙ (ap (λ w. w ++ b.0) a.1 ∙ assoc xs a.0 b.0))
  where
    assoc : (u v w : List A) → (u ++ v) ++ w ≡ u ++ (v ++ w)
    assoc [] v w = refl
    assoc (x ∷ u) v w = ap (λ y. x ∷ y) (assoc u v w)

pub grows_through : (i j k : Interned) → Grows i j → Grows j k → Grows i k
grows_through i j k a b = record {
  bindings = extends_through i.bindings j.bindings k.bindings a.bindings b.bindings;
  todos = extends_through i.todos j.todos k.todos a.todos b.todos;
  frames = extends_through i.frames j.frames k.frames a.frames b.frames;
  configs = extends_through i.configs j.configs k.configs a.configs b.configs;
}

pub forms_through : (xs ys zs : List Form) → Extends xs ys → Extends ys zs → Extends xs zs
forms_through xs ys zs = extends_through xs ys zs

module _ (g : Setting) (forms : List Form) (i i' : Interned) where
  abbrev s : State
  s = state_of g forms i

  abbrev s' : State
  s' = state_of g forms i'

  pub grown_state : IsState s → Grows i i' → IsInterned i' → IsWithin g.terms (length forms) i' → IsState s'
  grown_state h x a w = record {
    fixed = h.fixed;
    trees = h.trees;
    forms = h.forms;
    leaves = h.leaves;
    interned = a;
    within = w;
    no_values = get_kept i.bindings i'.bindings 0 [] x.bindings h.no_values;
    no_todos = get_kept i.todos i'.todos 0 [] x.todos h.no_todos;
    no_frames = get_kept i.frames i'.frames 0 [] x.frames h.no_frames;
  }

  pub larger : Grows i i' → Larger s s'
  larger x = record { fixed = refl; terms = omega arith; trees = λ j b. refl; forms = extends_itself forms; interned = x }

  -- the same values
  todos_by : i'.bindings ≡ i.bindings → (xs : List StoredTodo) → map (todo_in s') xs ≡ map (todo_in s) xs
  todos_by e xs = ap (λ b. map (λ (d : StoredTodo). record { form = strategy_in s d.form.0; calls = d.calls; values = map (bound_of g.tree (strategy_in s)) (list_at b d.values.0) }) xs) e

  pub put_todos : (own : StoredTodo) (form : StrategyId) (rest id : ℕ) → i'.bindings ≡ i.bindings → slice_get i'.todos id ≡ Some (record { form = form; calls = own.calls; values = own.values } ∷ list_at i.todos rest) →
      todos_in s' id ≡ todo_by s own form.0 ∷ todos_in s rest
  put_todos own form rest id e h = ap (map (todo_in s')) (get_or_from_slice_get i'.todos id (record { form = form; calls = own.calls; values = own.values } ∷ list_at i.todos rest) [] h)
      ∙ todos_by e (record { form = form; calls = own.calls; values = own.values } ∷ list_at i.todos rest)

  -- a frame is read by the values and by what is left to do
  frames_by : i'.bindings ≡ i.bindings → i'.todos ≡ i.todos → (xs : List StoredFrame) → map (frame_of g.tree (strategy_in s) i') xs ≡ map (frame_of g.tree (strategy_in s) i) xs
  frames_by e k xs = ap₂ (λ b u. map (frame_of g.tree (strategy_in s) (record { bindings = b; todos = u; frames = []; configs = [] })) xs) e k

  pub put_frames : (first : StoredFrame) (rest id : ℕ) → i'.bindings ≡ i.bindings → i'.todos ≡ i.todos → slice_get i'.frames id ≡ Some (first ∷ list_at i.frames rest) →
      frames_in s' id ≡ frame_of g.tree (strategy_in s) i first ∷ frames_in s rest
  put_frames first rest id e k h = ap (map (frame_of g.tree (strategy_in s) i')) (get_or_from_slice_get i'.frames id (first ∷ list_at i.frames rest) [] h)
      ∙ frames_by e k (first ∷ list_at i.frames rest)

-- ---- a configuration

-- what a configuration is, by what it is made of
pub config_is : (s : State) (n : ℕ) (c : StoredConfig) → slice_get s.interned.configs n ≡ Some c → config_in s n ≡ made_in s c
config_is s n c h = ap (made_in s) (get_or_from_slice_get s.interned.configs n c (record { term = record { 0 = 0 }; todo = record { 0 = 0 }; frames = record { 0 = 0 } }) h)

module _ (g : Setting) (forms : List Form) (i i' : Interned) where
  pub entered_config : IsState (state_of g forms i) → Grows i i' → (c : StoredConfig) (n : ℕ) → c.todo.0 < length i.todos → c.frames.0 < length i.frames → slice_get i'.configs n ≡ Some c →
      config_in (state_of g forms i') n ≡ made_in (state_of g forms i) c
  entered_config h x c n a b e =
      let l = larger g forms i i' x in
      let d = todos (state_of g forms i) (state_of g forms i') h l c.todo.0 a in
      let k = frames (state_of g forms i) (state_of g forms i') h l c.frames.0 b in
      config_is (state_of g forms i') n c e ∙ (λ j. on (g.tree c.term.0) (d j) (k j))

  pub goes_by : (term : ℕ) → IsState (state_of g forms i') → Grows i i' → i'.bindings ≡ i.bindings → ((i'.configs ≡ i.configs) ⊎ ((c : StoredConfig) × (i'.configs ≡ i.configs ++ c ∷ []) × (c.term.0 ≡ term))) →
      GoesTo g forms i forms i' term []
  goes_by term h x e a = record {
    state = h;
    extends = extends_itself forms;
    grows = x;
    bindings = λ n xs k. inl (subst (λ b. slice_get b n ≡ Some xs) e k);
    terms = λ n c k. by a n c k;
  }
    where
      at_push : (xs : List StoredConfig) (c d : StoredConfig) (n : ℕ) → slice_get (xs ++ c ∷ []) n ≡ Some d → (slice_get xs n ≡ Some d) ⊎ (d ≡ c)
      at_push [] c d zero k = let same : d ≡ c = cc in inr same
      at_push [] c d (suc n) k = absurd (cc)
      at_push (x ∷ xs) c d zero k = inl k
      at_push (x ∷ xs) c d (suc n) k = at_push xs c d n k

      by : ((i'.configs ≡ i.configs) ⊎ ((c : StoredConfig) × (i'.configs ≡ i.configs ++ c ∷ []) × (c.term.0 ≡ term))) → (n : ℕ) (d : StoredConfig) → slice_get i'.configs n ≡ Some d → (slice_get i.configs n ≡ Some d) ⊎ (d.term.0 ≡ term)
      by (inl k) n d m = inl (subst (λ cs. slice_get cs n ≡ Some d) k m)
      by (inr k) n d m = last (at_push i.configs k.0 d n (subst (λ cs. slice_get cs n ≡ Some d) k.1 m))
        where
          last : (slice_get i.configs n ≡ Some d) ⊎ (d ≡ k.0) → (slice_get i.configs n ≡ Some d) ⊎ (d.term.0 ≡ term)
          last (inl u) = inl u
          last (inr u) = inr (ap (λ (c : StoredConfig). c.term.0) u ∙ k.2)

pub configs_by : (i i' i'' : Interned) (c : StoredConfig) (term : ℕ) → c.term.0 ≡ term → i'.configs ≡ i.configs → ((i''.configs ≡ i'.configs) ⊎ (i''.configs ≡ i'.configs ++ c ∷ [])) →
    (i''.configs ≡ i.configs) ⊎ ((x : StoredConfig) × (i''.configs ≡ i.configs ++ x ∷ []) × (x.term.0 ≡ term))
configs_by i i' i'' c term t e (inl a) = inl (a ∙ e)
configs_by i i' i'' c term t e (inr a) = inr (c, a ∙ ap (λ cs. cs ++ c ∷ []) e, t)

-- what is to be done first, before the rest
pub entered_from : (g : Setting) (forms : List Form) (i i' i'' : Interned) → IsState (state_of g forms i') → IsState (state_of g forms i) → Grows i i' → Grows i' i'' → (term : TermId) (todo : TodosId) (fs : FramesId) (n : ℕ) → todo.0 < length i'.todos → fs.0 < length i.frames →
    slice_get i''.configs n ≡ Some (record { term = term; todo = todo; frames = fs }) → (own : StoredTodo) (first : First) (rest : ℕ) →
    todos_in (state_of g forms i') todo.0 ≡ map (todo_by (state_of g forms i) own) (ids_of first) ++ todos_in (state_of g forms i) rest →
    config_in (state_of g forms i'') n ≡ on (g.tree term.0) (map (todo_by (state_of g forms i) own) (ids_of first) ++ todos_in (state_of g forms i) rest) (frames_in (state_of g forms i) fs.0)
entered_from g forms i i' i'' h h' x y term todo fs n a b e own first rest t =
    let wide : fs.0 < length i'.frames = omega (arith, longer i.frames i'.frames x.frames) in
    let k = frames (state_of g forms i) (state_of g forms i') h' (larger g forms i i' x) fs.0 b in
    entered_config g forms i' i'' h y (record { term = term; todo = todo; frames = fs }) n a wide e ∙ (λ j. on (g.tree term.0) (t j) (k j))

-- one step after another
pub goes_through : (g : Setting) (f : List Form) (i : Interned) (f' : List Form) (i' : Interned) (f'' : List Form) (i'' : Interned) (term : ℕ) (values : List Bound) →
    GoesTo g f i f' i' term values → GoesTo g f' i' f'' i'' term values → GoesTo g f i f'' i'' term values
goes_through g f i f' i' f'' i'' term values a b = record {
  state = b.state;
  extends = forms_through f f' f'' a.extends b.extends;
  grows = grows_through i i' i'' a.grows b.grows;
  bindings = λ n xs k. values_by n xs (b.bindings n xs k);
  terms = λ n c k. terms_by n c (b.terms n c k);
}
  where
    values_by : (n : ℕ) (xs : List Bound) → (slice_get i'.bindings n ≡ Some xs) ⊎ ((k : ℕ) × (xs ≡ drop k values)) → (slice_get i.bindings n ≡ Some xs) ⊎ ((k : ℕ) × (xs ≡ drop k values))
    values_by n xs (inl k) = a.bindings n xs k
    values_by n xs (inr k) = inr k

    terms_by : (n : ℕ) (c : StoredConfig) → (slice_get i'.configs n ≡ Some c) ⊎ (c.term.0 ≡ term) → (slice_get i.configs n ≡ Some c) ⊎ (c.term.0 ≡ term)
    terms_by n c (inl k) = a.terms n c k
    terms_by n c (inr k) = inr k

-- ---- two strategies before the rest

pub first_in : (forms : List Form) (x : First) (form next : StrategyId) → x ≡ Two form next → All (λ e. e < length forms) (ids_of x) → form.0 < length forms
first_in forms x form next e p = All-head (λ n. n < length forms) form.0 (next.0 ∷ []) (subst (λ y. All (λ n. n < length forms) (ids_of y)) e p)

pub next_in : (forms : List Form) (x : First) (form next : StrategyId) → x ≡ Two form next → All (λ e. e < length forms) (ids_of x) → next.0 < length forms
next_in forms x form next e p = All-head (λ n. n < length forms) next.0 [] (All-tail (λ n. n < length forms) form.0 (next.0 ∷ []) (subst (λ y. All (λ n. n < length forms) (ids_of y)) e p))

pub two_todos : (g : Setting) (forms : List Form) (i i' i'' : Interned) (own : StoredTodo) (x : First) (form next : StrategyId) → x ≡ Two form next → (rest behind id : ℕ) → i'.bindings ≡ i.bindings →
    todos_in (state_of g forms i') behind ≡ todo_by (state_of g forms i) own next.0 ∷ todos_in (state_of g forms i) rest →
    todos_in (state_of g forms i'') id ≡ todo_by (state_of g forms i') own form.0 ∷ todos_in (state_of g forms i') behind →
    todos_in (state_of g forms i'') id ≡ map (todo_by (state_of g forms i) own) (ids_of x) ++ todos_in (state_of g forms i) rest
two_todos g forms i i' i'' own x form next e rest behind id b p q =
    let same : todo_by (state_of g forms i') own form.0 ≡ todo_by (state_of g forms i) own form.0
    = ap (λ bs. record { form = strategy_in (state_of g forms i) form.0; calls = own.calls; values = map (bound_of g.tree (strategy_in (state_of g forms i))) (list_at bs own.values.0) }) b in
    q ∙ (ap₂ (λ y ys. y ∷ ys) same p ∙ ap (λ y. map (todo_by (state_of g forms i) own) (ids_of y) ++ todos_in (state_of g forms i) rest) (sym e))

-- further strategies alone
pub forms_go : (g : Setting) (forms forms' : List Form) (i : Interned) (term : ℕ) → IsState (state_of g forms' i) → Extends forms forms' → GoesTo g forms i forms' i term []
forms_go g forms forms' i term h x = record { state = h; extends = x; grows = grows_itself i; bindings = λ n xs k. inl k; terms = λ n c k. inl k }

pub goes_nowhere : (g : Setting) (forms : List Form) (i : Interned) (term : ℕ) (values : List Bound) → IsState (state_of g forms i) → GoesTo g forms i forms i term values
goes_nowhere g forms i term values h = record { state = h; extends = extends_itself forms; grows = grows_itself i; bindings = λ n xs k. inl k; terms = λ n c k. inl k }

-- a further list of values, a last part of these
pub bound_goes : (g : Setting) (forms : List Form) (i i' : Interned) (term : ℕ) (values xs : List Bound) (m : ℕ) → IsState (state_of g forms i') → Grows i i' → AddsBinding i xs i' → xs ≡ drop m values → GoesTo g forms i forms i' term values
bound_goes g forms i i' term values xs m h x a e = record {
  state = h;
  extends = extends_itself forms;
  grows = x;
  bindings = λ n ys k. by a.0 n ys k;
  terms = λ n c k. inl (subst (λ cs. slice_get cs n ≡ Some c) a.3 k);
}
  where
    at_push : (ls : List (List Bound)) (ys zs : List Bound) (n : ℕ) → slice_get (ls ++ ys ∷ []) n ≡ Some zs → (slice_get ls n ≡ Some zs) ⊎ (zs ≡ ys)
    at_push [] ys zs zero k = let same : zs ≡ ys = cc in inr same
    at_push [] ys zs (suc n) k = absurd (cc)
    at_push (l ∷ ls) ys zs zero k = inl k
    at_push (l ∷ ls) ys zs (suc n) k = at_push ls ys zs n k

    by : ((i'.bindings ≡ i.bindings) ⊎ (i'.bindings ≡ i.bindings ++ xs ∷ [])) → (n : ℕ) (ys : List Bound) → slice_get i'.bindings n ≡ Some ys → (slice_get i.bindings n ≡ Some ys) ⊎ ((k : ℕ) × (ys ≡ drop k values))
    by (inl q) n ys k = inl (subst (λ ls. slice_get ls n ≡ Some ys) q k)
    by (inr q) n ys k = last (at_push i.bindings xs ys n (subst (λ ls. slice_get ls n ≡ Some ys) q k))
      where
        last : (slice_get i.bindings n ≡ Some ys) ⊎ (ys ≡ xs) → (slice_get i.bindings n ≡ Some ys) ⊎ ((k : ℕ) × (ys ≡ drop k values))
        last (inl u) = inl u
        last (inr u) = inr (m, u ∙ e)

-- a last part of a list, from one place before
pub last_part : {A : Type 0} (xs : List A) (p : ℕ) (d : A) → p < length xs → get_or xs (length xs - 1 - p) d ∷ drop (length xs - p) xs ≡ drop (length xs - (p + 1)) xs
last_part {A = A} xs p d h =
    let lt : length xs - 1 - p < length xs = omega arith in
    let a : length xs - p ≡ suc (length xs - 1 - p) = omega arith in
    let b : length xs - (p + 1) ≡ length xs - 1 - p = omega arith in
    ap (λ n. get_or xs (length xs - 1 - p) d ∷ drop n xs) a ∙ (sym (drop-cons xs (length xs - 1 - p) d lt) ∙ ap (λ n. drop n xs) (sym b))

-- values of variables are allowed besides
pub goes_wider : (g : Setting) (forms : List Form) (i i' : Interned) (term : ℕ) (values : List Bound) → GoesTo g forms i forms i' term [] → GoesTo g forms i forms i' term values
goes_wider g forms i i' term values a = record { state = a.state; extends = a.extends; grows = a.grows; bindings = λ n xs k. by n xs (a.bindings n xs k); terms = a.terms }
  where
    none : (k : ℕ) → drop {A = Bound} k [] ≡ []
    none zero = refl
    none (suc k) = refl

    by : (n : ℕ) (xs : List Bound) → (slice_get i.bindings n ≡ Some xs) ⊎ ((k : ℕ) × (xs ≡ drop k [])) → (slice_get i.bindings n ≡ Some xs) ⊎ ((k : ℕ) × (xs ≡ drop k values))
    by n xs (inl h) = inl h
    by n xs (inr h) = inr (length values, h.1 ∙ (none h.0 ∙ sym (drop-length values)))
