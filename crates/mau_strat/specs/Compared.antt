-- The derived `==` of what configurations are made of says whether two are one.
use Rattle.std.specs.Prelude.{◌≡◌, ℕ, Bool, true, ◌&&◌}
use Rattle.std.specs.Bool.{Decides}
use Rattle.std.proofs.Common.{eqb, refl, ap, false}
use Rattle.std.specs.Cmp.Derive.{both_true}
use Rattle.std.proofs.lemmas.Bool.Decides.{Decides-eqb}
use Rattle.mau_strat.specs.declared.configs.Bound.{Bound}
use Rattle.mau_strat.specs.declared.configs.Todo.{Todo}
use Rattle.mau_strat.specs.declared.configs.Frame.{Frame}
use Rattle.mau_strat.specs.declared.configs.Config.{Config}

-- both parts of a test hold
pub parts : (p q : Bool) → (p && q) ≡ true → (p ≡ true) × (q ≡ true)
parts true q h = (refl, h)
parts false q h = absurd (cc)

-- ---- the tests, by the fields

abbrev pub bound_eq : Bound → Bound → Bool
bound_eq a b = (eqb a.variable.index b.variable.index && eqb a.variable.sort b.variable.sort) && eqb a.value.0 b.value.0

abbrev pub todo_eq : Todo → Todo → Bool
todo_eq a b = eqb a.form.0 b.form.0 && (eqb a.calls b.calls && eqb a.values.0 b.values.0)

abbrev pub frame_eq : Frame → Frame → Bool
frame_eq a b = todo_eq a.test b.test && (todo_eq a.after b.after && (eqb a.begun.0 b.begun.0 && eqb a.behind.0 b.behind.0))

abbrev pub config_eq : Config → Config → Bool
config_eq a b = eqb a.term.0 b.term.0 && (eqb a.todo.0 b.todo.0 && eqb a.frames.0 b.frames.0)

-- ---- what they say

number : (m n : ℕ) → Decides (eqb m n) (m ≡ n)
number m n = Decides-eqb m n

pub Decides-bound : (a b : Bound) → Decides (bound_eq a b) (a ≡ b)
Decides-bound a b = (forth, back)
  where
    forth : bound_eq a b ≡ true → a ≡ b
    forth h =
        let p = parts (eqb a.variable.index b.variable.index && eqb a.variable.sort b.variable.sort) (eqb a.value.0 b.value.0) h in
        let q = parts (eqb a.variable.index b.variable.index) (eqb a.variable.sort b.variable.sort) p.0 in
        let i = (number a.variable.index b.variable.index).0 q.0 in
        let s = (number a.variable.sort b.variable.sort).0 q.1 in
        let t = (number a.value.0 b.value.0).0 p.1 in
        λ k. record { variable = record { index = i k; sort = s k }; value = record { 0 = t k } }

    back : a ≡ b → bound_eq a b ≡ true
    back h = both_true
        (both_true ((number a.variable.index b.variable.index).1 (ap (λ (x : Bound). x.variable.index) h)) ((number a.variable.sort b.variable.sort).1 (ap (λ (x : Bound). x.variable.sort) h)))
        ((number a.value.0 b.value.0).1 (ap (λ (x : Bound). x.value.0) h))

pub Decides-todo : (a b : Todo) → Decides (todo_eq a b) (a ≡ b)
Decides-todo a b = (forth, back)
  where
    forth : todo_eq a b ≡ true → a ≡ b
    forth h =
        let p = parts (eqb a.form.0 b.form.0) (eqb a.calls b.calls && eqb a.values.0 b.values.0) h in
        let q = parts (eqb a.calls b.calls) (eqb a.values.0 b.values.0) p.1 in
        let f = (number a.form.0 b.form.0).0 p.0 in
        let n = (number a.calls b.calls).0 q.0 in
        let v = (number a.values.0 b.values.0).0 q.1 in
        λ k. record { form = record { 0 = f k }; calls = n k; values = record { 0 = v k } }

    back : a ≡ b → todo_eq a b ≡ true
    back h = both_true ((number a.form.0 b.form.0).1 (ap (λ (x : Todo). x.form.0) h))
        (both_true ((number a.calls b.calls).1 (ap (λ (x : Todo). x.calls) h)) ((number a.values.0 b.values.0).1 (ap (λ (x : Todo). x.values.0) h)))

pub Decides-frame : (a b : Frame) → Decides (frame_eq a b) (a ≡ b)
Decides-frame a b = (forth, back)
  where
    forth : frame_eq a b ≡ true → a ≡ b
    forth h =
        let p = parts (todo_eq a.test b.test) (todo_eq a.after b.after && (eqb a.begun.0 b.begun.0 && eqb a.behind.0 b.behind.0)) h in
        let q = parts (todo_eq a.after b.after) (eqb a.begun.0 b.begun.0 && eqb a.behind.0 b.behind.0) p.1 in
        let r = parts (eqb a.begun.0 b.begun.0) (eqb a.behind.0 b.behind.0) q.1 in
        let e = (Decides-todo a.test b.test).0 p.0 in
        let f = (Decides-todo a.after b.after).0 q.0 in
        let t = (number a.begun.0 b.begun.0).0 r.0 in
        let l = (number a.behind.0 b.behind.0).0 r.1 in
        λ k. record { test = e k; after = f k; begun = record { 0 = t k }; behind = record { 0 = l k } }

    back : a ≡ b → frame_eq a b ≡ true
    back h = both_true ((Decides-todo a.test b.test).1 (ap (λ (x : Frame). x.test) h))
        (both_true ((Decides-todo a.after b.after).1 (ap (λ (x : Frame). x.after) h))
        (both_true ((number a.begun.0 b.begun.0).1 (ap (λ (x : Frame). x.begun.0) h)) ((number a.behind.0 b.behind.0).1 (ap (λ (x : Frame). x.behind.0) h))))

pub Decides-config : (a b : Config) → Decides (config_eq a b) (a ≡ b)
Decides-config a b = (forth, back)
  where
    forth : config_eq a b ≡ true → a ≡ b
    forth h =
        let p = parts (eqb a.term.0 b.term.0) (eqb a.todo.0 b.todo.0 && eqb a.frames.0 b.frames.0) h in
        let q = parts (eqb a.todo.0 b.todo.0) (eqb a.frames.0 b.frames.0) p.1 in
        let t = (number a.term.0 b.term.0).0 p.0 in
        let d = (number a.todo.0 b.todo.0).0 q.0 in
        let f = (number a.frames.0 b.frames.0).0 q.1 in
        λ k. record { term = record { 0 = t k }; todo = record { 0 = d k }; frames = record { 0 = f k } }

    back : a ≡ b → config_eq a b ≡ true
    back h = both_true ((number a.term.0 b.term.0).1 (ap (λ (x : Config). x.term.0) h))
        (both_true ((number a.todo.0 b.todo.0).1 (ap (λ (x : Config). x.todo.0) h)) ((number a.frames.0 b.frames.0).1 (ap (λ (x : Config). x.frames.0) h)))
