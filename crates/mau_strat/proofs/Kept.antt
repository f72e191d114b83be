-- Numbers keep their configurations as more are interned.
use Rattle.std.proofs.Common.{◌≡◌, ℕ, ◌<◌, List, [], ◌∷◌, length, map, get_or, All, refl, ap, ap₂, ◌∙◌}
use Rattle.std.proofs.lemmas.List.{get_or_append_left}
use Rattle.std.proofs.lemmas.List.Elements.{All-head, All-tail}
use Rattle.mau_terms.specs.Tree.{Tree}
use Rattle.mau_evaluation.specs.Strategy.{Strategy}
use Rattle.mau_evaluation.specs.Configs.{test_frame}
use Rattle.mau_strat.specs.declared.configs.Todo.{Todo as StoredTodo}
use Rattle.mau_strat.specs.declared.configs.Frame.{Frame as StoredFrame}
use Rattle.mau_strat.specs.declared.configs.Config.{Config as StoredConfig}
use Rattle.mau_strat.specs.Sharing.{Extends, list_at}
use Rattle.mau_strat.specs.Interned.{Interned, IsInterned, Grows, IsWithin}
use Rattle.mau_strat.specs.Configurations.{bound_of, binding_at, todo_of, todos_at, frame_of, frames_at, config_of, config_at, AgreeBelow, NumbersKeepConfigs}

pub get_kept : {A : Type 0} (old new : List A) → Extends old new → (n : ℕ) (d : A) → n < length old → get_or new n d ≡ get_or old n d
get_kept old new x n d h = ap (λ xs. get_or xs n d) x.1 ∙ get_or_append_left old x.0 d n h

map_kept : {A B : Type 0} (f g : A → B) (P : A → Type 0) → ((x : A) → P x → g x ≡ f x) → (xs : List A) → All P xs → map g xs ≡ map f xs
map_kept f g P same [] all = refl
map_kept f g P same (x ∷ xs) all = ap₂ (λ y ys. y ∷ ys) (same x (All-head P x xs all)) (map_kept f g P same xs (All-tail P x xs all))

-- so do the numbers of lists
list_kept : {A B : Type 0} (old new : List (List A)) → Extends old new → (f g : A → B) (P : A → Type 0) → All (All P) old → ((x : A) → P x → g x ≡ f x) → (n : ℕ) → n < length old → map g (list_at new n) ≡ map f (list_at old n)
list_kept old new x f g P all same n h = ap (map g) (get_kept old new x n [] h) ∙ map_kept f g P same (list_at old n) (all n [] h)

module _ (old new : Interned) (are : IsInterned old) (x : Grows old new) (terms strategies : ℕ) (within : IsWithin terms strategies old) (tree tree' : ℕ → Tree) (trees : AgreeBelow tree tree' terms) (strategy strategy' : ℕ → Strategy)
    (forms : AgreeBelow strategy strategy' strategies) where
  pub binding_kept : (n : ℕ) → n < length old.bindings → binding_at tree' strategy' new n ≡ binding_at tree strategy old n
  binding_kept = list_kept old.bindings new.bindings x.bindings (bound_of tree strategy) (bound_of tree' strategy') (λ b. b.value.0 < terms) within.bindings
      (λ b p. ap (λ t. ((b.variable.index, b.variable.sort), t)) (trees b.value.0 p))

  pub todo_kept : (d : StoredTodo) → d.form.0 < strategies → d.values.0 < length old.bindings → todo_of tree' strategy' new d ≡ todo_of tree strategy old d
  todo_kept d p q =
      let f = forms d.form.0 p in
      let v = binding_kept d.values.0 q in
      λ k. record { form = f k; calls = d.calls; values = v k }

  pub todos_kept : (n : ℕ) → n < length old.todos → todos_at tree' strategy' new n ≡ todos_at tree strategy old n
  todos_kept = list_kept old.todos new.todos x.todos (todo_of tree strategy old) (todo_of tree' strategy' new) (λ d. (d.form.0 < strategies) × (d.values.0 < length old.bindings))
      (λ m e h k l b. (within.todos m e h k l b, are.todos m e h k l b)) (λ d p. todo_kept d p.0 p.1)

  abbrev IsNamed : StoredFrame → Type 0
  IsNamed f = (f.test.form.0 < strategies) × (f.after.form.0 < strategies) × (f.begun.0 < terms)

  abbrev IsPlaced : StoredFrame → Type 0
  IsPlaced f = (f.test.values.0 < length old.bindings) × (f.after.values.0 < length old.bindings) × (f.behind.0 < length old.todos)

  pub frame_kept : (f : StoredFrame) → IsNamed f × IsPlaced f → frame_of tree' strategy' new f ≡ frame_of tree strategy old f
  frame_kept f p =
      let a = todo_kept f.test p.0.0 p.1.0 in
      let b = todo_kept f.after p.0.1 p.1.1 in
      let t = trees f.begun.0 p.0.2 in
      let l = todos_kept f.behind.0 p.1.2 in
      λ k. test_frame (a k) (b k) (t k) (l k)

  pub frames_kept : (n : ℕ) → n < length old.frames → frames_at tree' strategy' new n ≡ frames_at tree strategy old n
  frames_kept = list_kept old.frames new.frames x.frames (frame_of tree strategy old) (frame_of tree' strategy' new) (λ f. IsNamed f × IsPlaced f)
      (λ m e h k l b. (within.frames m e h k l b, are.frames m e h k l b)) frame_kept

  pub config_kept : (c : ℕ) → c < length old.configs → config_at tree' strategy' new c ≡ config_at tree strategy old c
  config_kept c h =
      let none : StoredConfig = record { term = record { 0 = 0 }; todo = record { 0 = 0 }; frames = record { 0 = 0 } } in
      let e = get_or old.configs c none in
      let t = trees e.term.0 (within.configs c none h) in
      let d = todos_kept e.todo.0 (are.configs c none h).0 in
      let f = frames_kept e.frames.0 (are.configs c none h).1 in
      ap (config_of tree' strategy' new) (get_kept old.configs new.configs x.configs c none h) ∙ (λ k. record { term = t k; todo = d k; frames = f k })

pub numbers_keep_configs : NumbersKeepConfigs
numbers_keep_configs old new are x terms strategies within tree tree' trees strategy strategy' forms c h = config_kept old new are x terms strategies within tree tree' trees strategy strategy' forms c h
