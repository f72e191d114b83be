-- What one more list or configuration keeps.
use Rattle.std.proofs.Common.{◌≡◌, ◌⊎◌, inl, inr, ℕ, zero, suc, ◌<◌, ◌≤◌, List, [], ◌∷◌, ◌++◌, length, slice_get, Some, All, refl, ap, sym, ◌∙◌, subst, arith, append-nil, length-append}
use Rattle.std.proofs.lemmas.List.Elements.{All-cons, All-push, All-nil, All-weaker}
use Rattle.mau_strat.specs.declared.configs.Bound.{Bound}
use Rattle.mau_strat.specs.declared.configs.Todo.{Todo}
use Rattle.mau_strat.specs.declared.configs.Frame.{Frame}
use Rattle.mau_strat.specs.declared.configs.Config.{Config}
use Rattle.mau_strat.specs.Sharing.{EachOnce, Extends, list_at}
use Rattle.mau_strat.specs.Interned.{Interned, nothing, IsInterned, Grows, AddsBinding, AddsTodos, AddsFrames, AddsConfig, IsWithin}

-- x was added, or is there
abbrev pub IsAdded : {A : Type 0} → List A → A → List A → Type 0
IsAdded old x new = (new ≡ old) ⊎ (new ≡ old ++ x ∷ [])

-- all lists are of these, and so is one more
all_added : {A : Type 0} (P : A → Type 0) (old new : List A) (x : A) → IsAdded old x new → All P old → P x → All P new
all_added P old new x (inl e) all p = subst (All P) (sym e) all
all_added P old new x (inr e) all p = subst (All P) (sym e) (All-push P old x all p)

list_added : {A : Type 0} (P : A → Type 0) (old new : List (List A)) (first : A) (rest : ℕ) → IsAdded old (first ∷ list_at old rest) new → rest < length old → All (All P) old → P first → All (All P) new
list_added P old new first rest i h all p = all_added (All P) old new (first ∷ list_at old rest) i all (All-cons P first (list_at old rest) p (all rest [] h))

pub extends_added : {A : Type 0} (old new : List A) (x : A) → IsAdded old x new → Extends old new
extends_added old new x (inl e) = ([], e ∙ sym (append-nil old))
extends_added old new x (inr e) = (x ∷ [], e)

pub extends_itself : {A : Type 0} (xs : List A) → Extends xs xs
extends_itself xs = ([], sym (append-nil xs))

longer : {A : Type 0} (old new : List A) → Extends old new → length old ≤ length new
longer old new x = omega (arith, ap length x.1, length-append old x.0)

lists_weaker : {A : Type 0} (P Q : A → Type 0) → ((x : A) → P x → Q x) → (ls : List (List A)) → All (All P) ls → All (All Q) ls
lists_weaker P Q f ls all = All-weaker (All P) (All Q) (All-weaker P Q f) ls all

abbrev empty_one : {A : Type 0} → List (List A)
empty_one = [] ∷ []

once_one : {A : Type 0} → EachOnce (empty_one {A = A})
once_one j k x p q = at_first j x p ∙ sym (at_first k x q)
  where
    at_first : {A : Type 0} (j : ℕ) (x : List A) → slice_get ([] ∷ []) j ≡ Some x → j ≡ 0
    at_first zero x p = refl
    at_first (suc j) x p = absurd (cc)

all_one : {A : Type 0} (P : A → Type 0) → All (All P) ([] ∷ [])
all_one P = All-cons (All P) [] [] (All-nil P) (All-nil (All P))

pub nothing_is : IsInterned nothing
nothing_is = record {
  bindings_once = once_one;
  todos_once = once_one;
  frames_once = once_one;
  configs_once = λ j k x p q. absurd (cc);
  todos = all_one (λ d. d.values.0 < 1);
  frames = all_one (λ f. (f.test.values.0 < 1) × (f.after.values.0 < 1) × (f.behind.0 < 1));
  configs = All-nil (λ c. (c.todo.0 < 1) × (c.frames.0 < 1));
}

module _ (i old : Interned) (same : i ≡ old) (terms strategies : ℕ) (within : IsWithin terms strategies old) where
  w : IsWithin terms strategies i
  w = subst (IsWithin terms strategies) (sym same) within

  pub bound_within : (new : List (List Bound)) (first : Bound) (rest : ℕ) → IsAdded i.bindings (first ∷ list_at i.bindings rest) new → rest < length old.bindings → first.value.0 < terms →
      IsWithin terms strategies (record { bindings = new; todos = i.todos; frames = i.frames; configs = i.configs })
  bound_within new first rest a h p = record {
    bindings = list_added (λ b. b.value.0 < terms) i.bindings new first rest a (subst (λ o. rest < length o.bindings) (sym same) h) w.bindings p;
    todos = w.todos;
    frames = w.frames;
    configs = w.configs;
  }

  pub todo_within : (new : List (List Todo)) (first : Todo) (rest : ℕ) → IsAdded i.todos (first ∷ list_at i.todos rest) new → rest < length old.todos → first.form.0 < strategies →
      IsWithin terms strategies (record { bindings = i.bindings; todos = new; frames = i.frames; configs = i.configs })
  todo_within new first rest a h p = record {
    bindings = w.bindings;
    todos = list_added (λ d. d.form.0 < strategies) i.todos new first rest a (subst (λ o. rest < length o.todos) (sym same) h) w.todos p;
    frames = w.frames;
    configs = w.configs;
  }

  pub frame_within : (new : List (List Frame)) (first : Frame) (rest : ℕ) → IsAdded i.frames (first ∷ list_at i.frames rest) new → rest < length old.frames → first.test.form.0 < strategies → first.after.form.0 < strategies → first.begun.0 < terms →
      IsWithin terms strategies (record { bindings = i.bindings; todos = i.todos; frames = new; configs = i.configs })
  frame_within new first rest a h p q r = record {
    bindings = w.bindings;
    todos = w.todos;
    frames = list_added (λ f. (f.test.form.0 < strategies) × (f.after.form.0 < strategies) × (f.begun.0 < terms)) i.frames new first rest a (subst (λ o. rest < length o.frames) (sym same) h) w.frames (p, q, r);
    configs = w.configs;
  }

  pub config_within : (new : List Config) (config : Config) → IsAdded i.configs config new → config.term.0 < terms →
      IsWithin terms strategies (record { bindings = i.bindings; todos = i.todos; frames = i.frames; configs = new })
  config_within new config a p = record {
    bindings = w.bindings;
    todos = w.todos;
    frames = w.frames;
    configs = all_added (λ c. c.term.0 < terms) i.configs new config a w.configs p;
  }

module _ (i old : Interned) (same : i ≡ old) (are : IsInterned i) where
  pub bound_in : (new : List (List Bound)) (first : Bound) (rest : ℕ) → IsAdded i.bindings (first ∷ list_at i.bindings rest) new → EachOnce new →
      IsInterned (record { bindings = new; todos = i.todos; frames = i.frames; configs = i.configs })
  bound_in new first rest a once = record {
    bindings_once = once;
    todos_once = are.todos_once;
    frames_once = are.frames_once;
    configs_once = are.configs_once;
    todos = lists_weaker (λ d. d.values.0 < length i.bindings) (λ d. d.values.0 < length new) (λ d p. omega (arith, more)) i.todos are.todos;
    frames = lists_weaker (λ f. (f.test.values.0 < length i.bindings) × (f.after.values.0 < length i.bindings) × (f.behind.0 < length i.todos)) (λ f. (f.test.values.0 < length new) × (f.after.values.0 < length new) × (f.behind.0 < length i.todos))
        (λ f p. (omega (arith, more, p.0), omega (arith, more, p.1), p.2)) i.frames are.frames;
    configs = are.configs;
  }
    where
      more : length i.bindings ≤ length new
      more = longer i.bindings new (extends_added i.bindings new (first ∷ list_at i.bindings rest) a)

  pub todo_in : (new : List (List Todo)) (first : Todo) (rest : ℕ) → IsAdded i.todos (first ∷ list_at i.todos rest) new → EachOnce new → rest < length old.todos → first.values.0 < length old.bindings →
      IsInterned (record { bindings = i.bindings; todos = new; frames = i.frames; configs = i.configs })
  todo_in new first rest a once h p = record {
    bindings_once = are.bindings_once;
    todos_once = once;
    frames_once = are.frames_once;
    configs_once = are.configs_once;
    todos = list_added (λ d. d.values.0 < length i.bindings) i.todos new first rest a (subst (λ o. rest < length o.todos) (sym same) h) are.todos (subst (λ o. first.values.0 < length o.bindings) (sym same) p);
    frames = lists_weaker (λ f. (f.test.values.0 < length i.bindings) × (f.after.values.0 < length i.bindings) × (f.behind.0 < length i.todos)) (λ f. (f.test.values.0 < length i.bindings) × (f.after.values.0 < length i.bindings) × (f.behind.0 < length new))
        (λ f p. (p.0, p.1, omega (arith, more, p.2))) i.frames are.frames;
    configs = All-weaker (λ c. (c.todo.0 < length i.todos) × (c.frames.0 < length i.frames)) (λ c. (c.todo.0 < length new) × (c.frames.0 < length i.frames)) (λ c p. (omega (arith, more, p.0), p.1)) i.configs are.configs;
  }
    where
      more : length i.todos ≤ length new
      more = longer i.todos new (extends_added i.todos new (first ∷ list_at i.todos rest) a)

  pub frame_in : (new : List (List Frame)) (first : Frame) (rest : ℕ) → IsAdded i.frames (first ∷ list_at i.frames rest) new → EachOnce new → rest < length old.frames → first.test.values.0 < length old.bindings → first.after.values.0 < length old.bindings →
      first.behind.0 < length old.todos → IsInterned (record { bindings = i.bindings; todos = i.todos; frames = new; configs = i.configs })
  frame_in new first rest a once h p q r = record {
    bindings_once = are.bindings_once;
    todos_once = are.todos_once;
    frames_once = once;
    configs_once = are.configs_once;
    todos = are.todos;
    frames = list_added (λ f. (f.test.values.0 < length i.bindings) × (f.after.values.0 < length i.bindings) × (f.behind.0 < length i.todos)) i.frames new first rest a (subst (λ o. rest < length o.frames) (sym same) h) are.frames
        (subst (λ o. (first.test.values.0 < length o.bindings) × (first.after.values.0 < length o.bindings) × (first.behind.0 < length o.todos)) (sym same) (p, q, r));
    configs = All-weaker (λ c. (c.todo.0 < length i.todos) × (c.frames.0 < length i.frames)) (λ c. (c.todo.0 < length i.todos) × (c.frames.0 < length new)) (λ c p. (p.0, omega (arith, more, p.1))) i.configs are.configs;
  }
    where
      more : length i.frames ≤ length new
      more = longer i.frames new (extends_added i.frames new (first ∷ list_at i.frames rest) a)

  pub config_in : (new : List Config) (config : Config) → IsAdded i.configs config new → EachOnce new → config.todo.0 < length old.todos → config.frames.0 < length old.frames →
      IsInterned (record { bindings = i.bindings; todos = i.todos; frames = i.frames; configs = new })
  config_in new config a once p q = record {
    bindings_once = are.bindings_once;
    todos_once = are.todos_once;
    frames_once = are.frames_once;
    configs_once = once;
    todos = are.todos;
    frames = are.frames;
    configs = all_added (λ c. (c.todo.0 < length i.todos) × (c.frames.0 < length i.frames)) i.configs new config a are.configs (subst (λ o. (config.todo.0 < length o.todos) × (config.frames.0 < length o.frames)) (sym same) (p, q));
  }

module _ (i old : Interned) (same : i ≡ old) where
  pub bound_grows : (new : List (List Bound)) (first : List Bound) → IsAdded i.bindings first new → Grows old (record { bindings = new; todos = i.todos; frames = i.frames; configs = i.configs })
  bound_grows new first a = subst (λ o. Grows o (record { bindings = new; todos = i.todos; frames = i.frames; configs = i.configs })) same (record { bindings = extends_added i.bindings new first a; todos = extends_itself i.todos; frames = extends_itself i.frames; configs = extends_itself i.configs })

  pub todo_grows : (new : List (List Todo)) (first : List Todo) → IsAdded i.todos first new → Grows old (record { bindings = i.bindings; todos = new; frames = i.frames; configs = i.configs })
  todo_grows new first a = subst (λ o. Grows o (record { bindings = i.bindings; todos = new; frames = i.frames; configs = i.configs })) same (record { bindings = extends_itself i.bindings; todos = extends_added i.todos new first a; frames = extends_itself i.frames; configs = extends_itself i.configs })

  pub frame_grows : (new : List (List Frame)) (first : List Frame) → IsAdded i.frames first new → Grows old (record { bindings = i.bindings; todos = i.todos; frames = new; configs = i.configs })
  frame_grows new first a = subst (λ o. Grows o (record { bindings = i.bindings; todos = i.todos; frames = new; configs = i.configs })) same (record { bindings = extends_itself i.bindings; todos = extends_itself i.todos; frames = extends_added i.frames new first a; configs = extends_itself i.configs })

  pub config_grows : (new : List Config) (first : Config) → IsAdded i.configs first new → Grows old (record { bindings = i.bindings; todos = i.todos; frames = i.frames; configs = new })
  config_grows new first a = subst (λ o. Grows o (record { bindings = i.bindings; todos = i.todos; frames = i.frames; configs = new })) same (record { bindings = extends_itself i.bindings; todos = extends_itself i.todos; frames = extends_itself i.frames; configs = extends_added i.configs new first a })

  pub bound_adds : (new : List (List Bound)) (first : Bound) (rest : ℕ) → IsAdded i.bindings (first ∷ list_at i.bindings rest) new → AddsBinding old (first ∷ list_at old.bindings rest) (record { bindings = new; todos = i.todos; frames = i.frames; configs = i.configs })
  bound_adds new first rest a = subst (λ o. AddsBinding o (first ∷ list_at o.bindings rest) (record { bindings = new; todos = i.todos; frames = i.frames; configs = i.configs })) same (a, refl, refl, refl)

  pub todo_adds : (new : List (List Todo)) (first : Todo) (rest : ℕ) → IsAdded i.todos (first ∷ list_at i.todos rest) new → AddsTodos old (first ∷ list_at old.todos rest) (record { bindings = i.bindings; todos = new; frames = i.frames; configs = i.configs })
  todo_adds new first rest a = subst (λ o. AddsTodos o (first ∷ list_at o.todos rest) (record { bindings = i.bindings; todos = new; frames = i.frames; configs = i.configs })) same (a, refl, refl, refl)

  pub frame_adds : (new : List (List Frame)) (first : Frame) (rest : ℕ) → IsAdded i.frames (first ∷ list_at i.frames rest) new → AddsFrames old (first ∷ list_at old.frames rest) (record { bindings = i.bindings; todos = i.todos; frames = new; configs = i.configs })
  frame_adds new first rest a = subst (λ o. AddsFrames o (first ∷ list_at o.frames rest) (record { bindings = i.bindings; todos = i.todos; frames = new; configs = i.configs })) same (a, refl, refl, refl)

  pub config_adds : (new : List Config) (x : Config) → IsAdded i.configs x new → AddsConfig old x (record { bindings = i.bindings; todos = i.todos; frames = i.frames; configs = new })
  config_adds new x a = subst (λ o. AddsConfig o x (record { bindings = i.bindings; todos = i.todos; frames = i.frames; configs = new })) same (a, refl, refl, refl)
