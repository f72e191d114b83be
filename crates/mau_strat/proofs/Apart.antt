-- Numbers of configurations are one where the configurations are.
use Rattle.std.proofs.Common.{◌≡◌, ℕ, ◌<◌, List, [], ◌∷◌, length, map, get_or, Some, All, refl, ap, ◌∙◌}
use Rattle.std.proofs.lemmas.List.Elements.{All-head, All-tail}
use Rattle.std.proofs.lemmas.Option.{slice_get-get_or}
use Rattle.mau_terms.specs.Tree.{Tree}
use Rattle.mau_evaluation.specs.Strategy.{Strategy}
use Rattle.mau_evaluation.specs.Configs.{Todo, Config}
use Rattle.mau_strat.specs.declared.configs.Bound.{Bound}
use Rattle.mau_strat.specs.declared.configs.Todo.{Todo as StoredTodo}
use Rattle.mau_strat.specs.declared.configs.Frame.{Frame as StoredFrame}
use Rattle.mau_strat.specs.declared.configs.Config.{Config as StoredConfig}
use Rattle.mau_strat.specs.Sharing.{EachOnce, list_at}
use Rattle.mau_strat.specs.Interned.{Interned, IsInterned, IsWithin}
use Rattle.mau_strat.specs.Configurations.{bound_of, binding_at, todo_of, todos_at, frame_of, frames_at, config_of, config_at, TellsApart, OneNumberWhereOneConfig}

-- lists whose elements stand for the same are one, where elements do so only if they are one
map_apart : {A B : Type 0} (f : A → B) (P : A → Type 0) → ((x y : A) → P x → P y → f x ≡ f y → x ≡ y) → (xs ys : List A) → All P xs → All P ys → map f xs ≡ map f ys → xs ≡ ys
map_apart f P apart [] [] p q e = refl
map_apart f P apart [] (y ∷ ys) p q e = absurd (cc)
map_apart f P apart (x ∷ xs) [] p q e = absurd (cc)
map_apart f P apart (x ∷ xs) (y ∷ ys) p q e =
    let first : x ≡ y = apart x y (All-head P x xs p) (All-head P y ys q) (cc) in
    let rest : xs ≡ ys = map_apart f P apart xs ys (All-tail P x xs p) (All-tail P y ys q) (cc) in
    cc

-- so are the numbers of lists
number_apart : {A B : Type 0} (ls : List (List A)) → EachOnce ls → (f : A → B) (P : A → Type 0) → All (All P) ls → ((x y : A) → P x → P y → f x ≡ f y → x ≡ y) →
    (m n : ℕ) → m < length ls → n < length ls → map f (list_at ls m) ≡ map f (list_at ls n) → m ≡ n
number_apart ls once f P all apart m n h k e =
    let same = map_apart f P apart (list_at ls m) (list_at ls n) (all m [] h) (all n [] k) e in
    once m n (list_at ls n) (slice_get-get_or ls m [] h ∙ ap Some same) (slice_get-get_or ls n [] k)

-- two facts of each element
both : {A : Type 0} (P Q : A → Type 0) (ls : List (List A)) → All (All P) ls → All (All Q) ls → All (All (λ x. P x × Q x)) ls
both P Q ls p q m d h k e l = (p m d h k e l, q m d h k e l)

module _ (i : Interned) (are : IsInterned i) (terms strategies : ℕ) (within : IsWithin terms strategies i) (tree : ℕ → Tree) (trees : TellsApart tree terms) (strategy : ℕ → Strategy) (forms : TellsApart strategy strategies) where
  bound_apart : (x y : Bound) → x.value.0 < terms → y.value.0 < terms → bound_of tree strategy x ≡ bound_of tree strategy y → x ≡ y
  bound_apart x y p q e =
      let t = trees x.value.0 y.value.0 p q (ap (λ b. b.1) e) in
      λ k. record { variable = record { index = (e k).0.0; sort = (e k).0.1 }; value = record { 0 = t k } }

  bindings_apart : (m n : ℕ) → m < length i.bindings → n < length i.bindings → binding_at tree strategy i m ≡ binding_at tree strategy i n → m ≡ n
  bindings_apart = number_apart i.bindings are.bindings_once (bound_of tree strategy) (λ b. b.value.0 < terms) within.bindings bound_apart

  abbrev IsTodo : StoredTodo → Type 0
  IsTodo d = (d.form.0 < strategies) × (d.values.0 < length i.bindings)

  todo_apart : (x y : StoredTodo) → IsTodo x → IsTodo y → todo_of tree strategy i x ≡ todo_of tree strategy i y → x ≡ y
  todo_apart x y p q e =
      let f = forms x.form.0 y.form.0 p.0 q.0 (ap (λ (d : Todo). d.form) e) in
      let v = bindings_apart x.values.0 y.values.0 p.1 q.1 (ap (λ (d : Todo). d.values) e) in
      λ k. record { form = record { 0 = f k }; calls = (e k).calls; values = record { 0 = v k } }

  pub todos_apart : (m n : ℕ) → m < length i.todos → n < length i.todos → todos_at tree strategy i m ≡ todos_at tree strategy i n → m ≡ n
  todos_apart = number_apart i.todos are.todos_once (todo_of tree strategy i) IsTodo (both (λ d. d.form.0 < strategies) (λ d. d.values.0 < length i.bindings) i.todos within.todos are.todos) todo_apart

  abbrev IsNamed : StoredFrame → Type 0
  IsNamed f = (f.test.form.0 < strategies) × (f.after.form.0 < strategies) × (f.begun.0 < terms)

  abbrev IsPlaced : StoredFrame → Type 0
  IsPlaced f = (f.test.values.0 < length i.bindings) × (f.after.values.0 < length i.bindings) × (f.behind.0 < length i.todos)

  frame_apart : (x y : StoredFrame) → IsNamed x × IsPlaced x → IsNamed y × IsPlaced y → frame_of tree strategy i x ≡ frame_of tree strategy i y → x ≡ y
  frame_apart x y p q e =
      let a : todo_of tree strategy i x.test ≡ todo_of tree strategy i y.test = cc in
      let b : todo_of tree strategy i x.after ≡ todo_of tree strategy i y.after = cc in
      let t : tree x.begun.0 ≡ tree y.begun.0 = cc in
      let l : todos_at tree strategy i x.behind.0 ≡ todos_at tree strategy i y.behind.0 = cc in
      let a' = todo_apart x.test y.test (p.0.0, p.1.0) (q.0.0, q.1.0) a in
      let b' = todo_apart x.after y.after (p.0.1, p.1.1) (q.0.1, q.1.1) b in
      let t' = trees x.begun.0 y.begun.0 p.0.2 q.0.2 t in
      let l' = todos_apart x.behind.0 y.behind.0 p.1.2 q.1.2 l in
      λ k. record { test = a' k; after = b' k; begun = record { 0 = t' k }; behind = record { 0 = l' k } }

  pub frames_apart : (m n : ℕ) → m < length i.frames → n < length i.frames → frames_at tree strategy i m ≡ frames_at tree strategy i n → m ≡ n
  frames_apart = number_apart i.frames are.frames_once (frame_of tree strategy i) (λ f. IsNamed f × IsPlaced f) (both IsNamed IsPlaced i.frames within.frames are.frames) frame_apart

  config_apart : (x y : StoredConfig) → (x.term.0 < terms) × ((x.todo.0 < length i.todos) × (x.frames.0 < length i.frames)) → (y.term.0 < terms) × ((y.todo.0 < length i.todos) × (y.frames.0 < length i.frames)) →
      config_of tree strategy i x ≡ config_of tree strategy i y → x ≡ y
  config_apart x y p q e =
      let t = trees x.term.0 y.term.0 p.0 q.0 (ap (λ (c : Config). c.term) e) in
      let d = todos_apart x.todo.0 y.todo.0 p.1.0 q.1.0 (ap (λ (c : Config). c.todo) e) in
      let f = frames_apart x.frames.0 y.frames.0 p.1.1 q.1.1 (ap (λ (c : Config). c.frames) e) in
      λ k. record { term = record { 0 = t k }; todo = record { 0 = d k }; frames = record { 0 = f k } }

  pub configs_apart : (c d : ℕ) → c < length i.configs → d < length i.configs → config_at tree strategy i c ≡ config_at tree strategy i d → c ≡ d
  configs_apart c d h k e =
      let none : StoredConfig = record { term = record { 0 = 0 }; todo = record { 0 = 0 }; frames = record { 0 = 0 } } in
      let x = get_or i.configs c none in
      let y = get_or i.configs d none in
      let same = config_apart x y (within.configs c none h, are.configs c none h) (within.configs d none k, are.configs d none k) e in
      are.configs_once c d y (slice_get-get_or i.configs c none h ∙ ap Some same) (slice_get-get_or i.configs d none k)

pub one_number_where_one_config : OneNumberWhereOneConfig
one_number_where_one_config i are terms strategies within tree trees strategy forms c d h k =
    (λ e. ap (config_at tree strategy i) e, configs_apart i are terms strategies within tree trees strategy forms c d h k)
