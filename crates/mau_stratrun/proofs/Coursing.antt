-- What a run keeps stays right as there are more terms, strategies and configurations.
use Rattle.std.proofs.Common.{◌≡◌, ◌⊎◌, inl, inr, ℕ, ◌<◌, List, length, drop, get_or, slice_get, All, Some, refl, ap, sym, ◌∙◌, subst, arith}
use Rattle.std.proofs.lemmas.List.Elements.{All-weaker, All-drop}
use Rattle.std.proofs.lemmas.Option.{slice_get-get_or, get_or_from_slice_get, slice_get_within}
use Rattle.mau_strat.specs.declared.configs.Bound.{Bound}
use Rattle.mau_strat.specs.declared.configs.StrategyId.{StrategyId}
use Rattle.mau_strat.specs.declared.configs.Config.{Config as StoredConfig}
use Rattle.mau_strat.specs.declared.forms.Form.{Form}
use Rattle.mau_strat.specs.Interned.{Interned}
use Rattle.mau_strat.specs.Forms.{LeafIn}
use Rattle.mau_strat.proofs.Interning.{extends_itself}
use Rattle.mau_stratrun.specs.Settings.{Fixed}
use Rattle.mau_stratrun.specs.Worlds.{World, LeavesGrow, IsWorld, body_at}
use Rattle.mau_stratrun.specs.States.{State, IsState, Larger}
use Rattle.mau_stratrun.specs.Moves.{GoesTo}
use Rattle.mau_stratrun.specs.Courses.{state_in, HasBodies, HasFacts}
use Rattle.mau_stratrun.proofs.Keeping.{longer, strategies}
use Rattle.mau_stratrun.proofs.Adding.{grows_itself}

pub none_grows : {C : Type 0} (w : World C) → LeavesGrow w w
none_grows w = record { fixed = refl; terms = omega arith; trees = λ j b. refl; is_term = λ n h. h; is_bound = λ b h. h; yields = λ c d t ys h. h }

-- ---- further terms

module _ {C : Type 0} (w w' : World C) (g : LeavesGrow w w') (is : IsWorld w') (forms : List Form) (i : Interned) where
  pub leaves_larger : Larger (state_in w forms i) (state_in w' forms i)
  leaves_larger = record { fixed = g.fixed; terms = g.terms; trees = g.trees; forms = extends_itself forms; interned = grows_itself i }

  pub leaves_state : IsState (state_in w forms i) → IsState (state_in w' forms i)
  leaves_state h = record {
    fixed = is.fixed;
    trees = is.apart;
    forms = h.forms;
    leaves = subst (λ (f : Fixed). All (LeafIn f.leaves) forms) (sym g.fixed) h.leaves;
    interned = h.interned;
    within = record {
      bindings = All-weaker (All (λ b. b.value.0 < w.setting.terms)) (All (λ b. b.value.0 < w'.setting.terms)) (All-weaker (λ b. b.value.0 < w.setting.terms) (λ b. b.value.0 < w'.setting.terms) (λ b p. omega (arith, g.terms, p))) i.bindings h.within.bindings;
      todos = h.within.todos;
      frames = All-weaker (All (λ f. (f.test.form.0 < length forms) × (f.after.form.0 < length forms) × (f.begun.0 < w.setting.terms))) (All (λ f. (f.test.form.0 < length forms) × (f.after.form.0 < length forms) × (f.begun.0 < w'.setting.terms)))
          (All-weaker (λ f. (f.test.form.0 < length forms) × (f.after.form.0 < length forms) × (f.begun.0 < w.setting.terms)) (λ f. (f.test.form.0 < length forms) × (f.after.form.0 < length forms) × (f.begun.0 < w'.setting.terms))
          (λ f p. (p.0, p.1, omega (arith, g.terms, p.2)))) i.frames h.within.frames;
      configs = All-weaker (λ c. c.term.0 < w.setting.terms) (λ c. c.term.0 < w'.setting.terms) (λ c p. omega (arith, g.terms, p)) i.configs h.within.configs;
    };
    no_values = h.no_values;
    no_todos = h.no_todos;
    no_frames = h.no_frames;
  }

-- ---- the bodies of definitions

pub bodies_kept : (s s' : State) → IsState s → Larger s s' → (bodies : List StrategyId) → HasBodies bodies s → HasBodies bodies s'
bodies_kept s s' h l bodies b = record {
  count = b.count ∙ ap (λ (f : Fixed). length f.definitions) (sym l.fixed);
  numbers = λ n d e. let k = b.numbers n d e in
      (omega (arith, longer s.forms s'.forms l.forms, k.0), strategies s s' h l d.0 k.0 ∙ (k.1 ∙ ap (λ (f : Fixed). body_at f.definitions n) (sym l.fixed)));
}

module _ {C : Type 0} (w w' : World C) (g : LeavesGrow w w') (is : IsWorld w') (forms : List Form) (i : Interned) (bodies : List StrategyId) where
  pub leaves_facts : HasFacts w forms i bodies → HasFacts w' forms i bodies
  leaves_facts h = record {
    state = leaves_state w w' g is forms i h.state;
    terms = All-weaker (λ c. w.is_term c.term.0) (λ c. w'.is_term c.term.0) (λ c p. g.is_term c.term.0 p) i.configs h.terms;
    values = All-weaker (All w.is_bound) (All w'.is_bound) (All-weaker w.is_bound w'.is_bound g.is_bound) i.bindings h.values;
    has_bodies = bodies_kept (state_in w forms i) (state_in w' forms i) h.state (leaves_larger w w' g is forms i) bodies h.has_bodies;
  }

-- ---- further strategies and configurations

module _ {C : Type 0} (w : World C) (forms forms' : List Form) (i i' : Interned) (term : ℕ) (values : List Bound) (m : GoesTo w.setting forms i forms' i' term values) where
  pub goes_larger : Larger (state_in w forms i) (state_in w forms' i')
  goes_larger = record { fixed = refl; terms = omega arith; trees = λ j b. refl; forms = m.extends; interned = m.grows }

  pub goes_facts : (bodies : List StrategyId) → HasFacts w forms i bodies → w.is_term term → All w.is_bound values → HasFacts w forms' i' bodies
  goes_facts bodies h t v = record {
    state = m.state;
    terms = λ n d b. term_by n (get_or i'.configs n d) (m.terms n (get_or i'.configs n d) (slice_get-get_or i'.configs n d b));
    values = λ n d b. values_by n (get_or i'.bindings n d) (m.bindings n (get_or i'.bindings n d) (slice_get-get_or i'.bindings n d b));
    has_bodies = bodies_kept (state_in w forms i) (state_in w forms' i') h.state goes_larger bodies h.has_bodies;
  }
    where
      term_by : (n : ℕ) (c : StoredConfig) → (slice_get i.configs n ≡ Some c) ⊎ (c.term.0 ≡ term) → w.is_term c.term.0
      term_by n c (inl e) = subst (λ (x : StoredConfig). w.is_term x.term.0) (get_or_from_slice_get i.configs n c c e) (h.terms n c (slice_get_within i.configs n c e))
      term_by n c (inr e) = subst w.is_term (sym e) t

      values_by : (n : ℕ) (xs : List Bound) → (slice_get i.bindings n ≡ Some xs) ⊎ ((k : ℕ) × (xs ≡ drop k values)) → All w.is_bound xs
      values_by n xs (inl e) = subst (All w.is_bound) (get_or_from_slice_get i.bindings n xs xs e) (h.values n xs (slice_get_within i.bindings n xs e))
      values_by n xs (inr e) = subst (All w.is_bound) (sym e.1) (All-drop w.is_bound e.0 values v)
