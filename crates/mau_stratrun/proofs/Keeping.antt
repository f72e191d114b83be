-- What is known of numbers stays known as there are more.
use Rattle.std.proofs.Common.{◌≡◌, ℕ, ◌<◌, ◌≤◌, List, [], ◌∷◌, length, map, All, refl, ap, ap₂, sym, ◌∙◌, subst, arith, length-append}
use Rattle.std.proofs.lemmas.List.Elements.{All-head, All-tail, All-weaker}
use Rattle.mau_evaluation.specs.Configs.{Config}
use Rattle.mau_strat.specs.Sharing.{Extends}
use Rattle.mau_strat.specs.Configurations.{AgreeBelow}
use Rattle.mau_strat.proofs.FormsApart.{numbers_keep_strategies}
use Rattle.mau_strat.proofs.Kept.{numbers_keep_configs, binding_kept, todo_kept, todos_kept, frames_kept}
use Rattle.mau_strat.specs.declared.configs.Todo.{Todo as StoredTodo}
use Rattle.mau_stratrun.specs.Settings.{Fixed}
use Rattle.mau_stratrun.specs.Yields.{BeginsBy, NextBy}
use Rattle.mau_stratrun.specs.States.{State, strategy_in, binding_in, todo_in, todos_in, frames_in, config_in, IsConfig, IsState, Larger, begins_in, next_in}

pub longer : {A : Type 0} (old new : List A) → Extends old new → length old ≤ length new
longer old new x = omega (arith, ap length x.1, length-append old x.0)

module _ (s s' : State) (h : IsState s) (l : Larger s s') where
  pub strategies : AgreeBelow (strategy_in s) (strategy_in s') (length s.forms)
  strategies j b = ap (λ (f : Fixed). strategy_in (record { setting = record { fixed = f; terms = s'.setting.terms; tree = s'.setting.tree }; forms = s'.forms; interned = s'.interned }) j) l.fixed
      ∙ numbers_keep_strategies s.setting.fixed.leaf s.forms s'.forms l.forms j b

  pub configs : (c : ℕ) → IsConfig s c → config_in s' c ≡ config_in s c
  configs c b = numbers_keep_configs s.interned s'.interned h.interned l.interned s.setting.terms (length s.forms) h.within s.setting.tree s'.setting.tree l.trees (strategy_in s) (strategy_in s') strategies c b

  pub bindings : (n : ℕ) → n < length s.interned.bindings → binding_in s' n ≡ binding_in s n
  bindings = binding_kept s.interned s'.interned h.interned l.interned s.setting.terms (length s.forms) h.within s.setting.tree s'.setting.tree l.trees (strategy_in s) (strategy_in s') strategies

  pub todo : (d : StoredTodo) → d.form.0 < length s.forms → d.values.0 < length s.interned.bindings → todo_in s' d ≡ todo_in s d
  todo = todo_kept s.interned s'.interned h.interned l.interned s.setting.terms (length s.forms) h.within s.setting.tree s'.setting.tree l.trees (strategy_in s) (strategy_in s') strategies

  pub todos : (n : ℕ) → n < length s.interned.todos → todos_in s' n ≡ todos_in s n
  todos = todos_kept s.interned s'.interned h.interned l.interned s.setting.terms (length s.forms) h.within s.setting.tree s'.setting.tree l.trees (strategy_in s) (strategy_in s') strategies

  pub frames : (n : ℕ) → n < length s.interned.frames → frames_in s' n ≡ frames_in s n
  frames = frames_kept s.interned s'.interned h.interned l.interned s.setting.terms (length s.forms) h.within s.setting.tree s'.setting.tree l.trees (strategy_in s) (strategy_in s') strategies

  pub is_config : (c : ℕ) → IsConfig s c → IsConfig s' c
  is_config c b = omega (arith, longer s.interned.configs s'.interned.configs l.interned.configs)

  pub config_lists : (cs : List ℕ) → All (IsConfig s) cs → map (config_in s') cs ≡ map (config_in s) cs
  config_lists [] a = refl
  config_lists (c ∷ cs) a = ap₂ (λ y ys. y ∷ ys) (configs c (All-head (IsConfig s) c cs a)) (config_lists cs (All-tail (IsConfig s) c cs a))

  abbrev By : (Fixed → Config → List Config → Type 0) → ℕ → List ℕ → Type 0
  By R e cs = R s.setting.fixed (config_in s e) (map (config_in s) cs) → R s'.setting.fixed (config_in s' e) (map (config_in s') cs)

  by_kept : (R : Fixed → Config → List Config → Type 0) (e : ℕ) (cs : List ℕ) → IsConfig s e → All (IsConfig s) cs → By R e cs
  by_kept R e cs b a r = subst (λ f. R f (config_in s' e) (map (config_in s') cs)) (sym l.fixed)
      (subst (λ x. R s.setting.fixed x (map (config_in s') cs)) (sym (configs e b)) (subst (R s.setting.fixed (config_in s e)) (sym (config_lists cs a)) r))

  pub begins : (e : ℕ) (cs : List ℕ) → begins_in s e cs → begins_in s' e cs
  begins e cs b = (is_config e b.0, All-weaker (IsConfig s) (IsConfig s') is_config cs b.1, by_kept BeginsBy e cs b.0 b.1 b.2)

  pub nexts : (e : ℕ) (cs : List ℕ) → next_in s e cs → next_in s' e cs
  nexts e cs b = (is_config e b.0, All-weaker (IsConfig s) (IsConfig s') is_config cs b.1, by_kept NextBy e cs b.0 b.1 b.2)
