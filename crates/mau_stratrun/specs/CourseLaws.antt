-- What holds of a run's list by numbers, of each list that it has.
use Rattle.std.specs.Prelude.{ℕ, List, [], ◌∷◌, ◌++◌, All, Contains}
use Rattle.std.proofs.Common.{inl, refl, ap, ◌∙◌, arith, length-append, append_assoc}
use Rattle.std.proofs.lemmas.List.{get_or_append_left}
use Rattle.std.proofs.lemmas.List.Elements.{All-nil, All-push, All-head, All-tail, All-contains}
use Rattle.mau_strat.specs.Sharing.{Extends}
use Rattle.mau_strat.proofs.Interning.{extends_itself}
use Rattle.mau_stratrun.specs.States.{State, config_in, IsConfig, Larger, begins_in}
use Rattle.mau_stratrun.specs.Courses.{IsListed}

module _ (s : State) (listed : List ℕ) (h : IsListed s listed) where
  pub none_given : (e : ℕ) → Contains listed e → begins_in s e []
  none_given e c = (All-contains (IsConfig s) listed e h.configs c, All-nil (IsConfig s), record { level = 0; each = 0; budget = 0; holds = λ k B b i j l. inl refl })

  pub stays_listed : (e c : ℕ) (given : List ℕ) → begins_in s e (given ++ c ∷ []) → IsListed s (listed ++ c ∷ [])
  stays_listed e c given b = record {
    configs = All-push (IsConfig s) listed c h.configs (last given b.1);
    some = omega (arith, length-append listed (c ∷ []), h.some);
    start = h.start;
    strategy = h.strategy;
    first = ap (config_in s) (get_or_append_left listed (c ∷ []) 0 0 h.some) ∙ h.first;
  }
    where
      last : (xs : List ℕ) → All (IsConfig s) (xs ++ c ∷ []) → IsConfig s c
      last [] a = All-head (IsConfig s) c [] a
      last (x ∷ xs) a = last xs (All-tail (IsConfig s) x (xs ++ c ∷ []) a)

-- ---- more is there

pub larger_none : (s : State) → Larger s s
larger_none s = record {
  fixed = refl;
  terms = omega arith;
  trees = λ j b. refl;
  forms = extends_itself s.forms;
  interned = record {
    bindings = extends_itself s.interned.bindings;
    todos = extends_itself s.interned.todos;
    frames = extends_itself s.interned.frames;
    configs = extends_itself s.interned.configs;
  };
}

on_through : {A : Type 0} (a b c : List A) → Extends a b → Extends b c → Extends a c
on_through a b c x y = (x.0 ++ y.0, y.1 ∙ (ap (λ zs. zs ++ y.0) x.1 ∙ append_assoc a x.0 y.0))

pub larger_on : (s t u : State) → Larger s t → Larger t u → Larger s u
larger_on s t u a b = record {
  fixed = b.fixed ∙ a.fixed;
  terms = omega (arith, a.terms, b.terms);
  trees = λ j h. b.trees j (omega (arith, a.terms, h)) ∙ a.trees j h;
  forms = on_through s.forms t.forms u.forms a.forms b.forms;
  interned = record {
    bindings = on_through s.interned.bindings t.interned.bindings u.interned.bindings a.interned.bindings b.interned.bindings;
    todos = on_through s.interned.todos t.interned.todos u.interned.todos a.interned.todos b.interned.todos;
    frames = on_through s.interned.frames t.interned.frames u.interned.frames a.interned.frames b.interned.frames;
    configs = on_through s.interned.configs t.interned.configs u.interned.configs a.interned.configs b.interned.configs;
  };
}
