-- A cursor that has yielded nothing is right for its configuration.
use Rattle.std.proofs.Common.{◌≡◌, ℕ, ◌-◌, ◌<◌, List, [], ◌∷◌, ◌++◌, length, map, slice_get, All, Some, None, inl, refl, ap, sym, ◌∙◌, subst, arith, length-append}
use Rattle.std.proofs.lemmas.List.Elements.{All-nil, All-push}
use Rattle.std.proofs.lemmas.Option.{slice_get_within}
use Rattle.mau_evaluation.specs.Configs.{on}
use Rattle.mau_evaluation.specs.Engine.{engine_of}
use Rattle.mau_strat.specs.declared.configs.Bound.{Bound}
use Rattle.mau_strat.specs.declared.configs.StrategyId.{StrategyId}
use Rattle.mau_strat.specs.declared.configs.Todo.{Todo as StoredTodo}
use Rattle.mau_strat.specs.declared.configs.Config.{Config as StoredConfig}
use Rattle.mau_strat.specs.declared.forms.Form.{Form}
use Rattle.mau_strat.specs.Sharing.{list_at}
use Rattle.mau_strat.specs.Interned.{Interned}
use Rattle.mau_stratrun.specs.declared.leaves.Lead.{Lead}
use Rattle.mau_stratrun.specs.declared.cursor.Kept.{Kept}
use Rattle.mau_stratrun.specs.Worlds.{World, LeavesGrow, IsWorld, begun_by, values_of}
use Rattle.mau_stratrun.specs.States.{State, todo_in, todos_in, frames_in, config_in, IsConfig}
use Rattle.mau_stratrun.specs.Courses.{state_in, HasFacts, GivenOn, IsKept, IsCourse, IsLastFor, IsLeadOf}
use Rattle.mau_stratrun.proofs.FormKinds.{in_all}
use Rattle.mau_stratrun.proofs.Answering.{always}
use Rattle.mau_stratrun.proofs.Keeping.{configs}
use Rattle.mau_stratrun.proofs.Adding.{config_is}
use Rattle.mau_stratrun.proofs.Places.{doing_is}
use Rattle.mau_stratrun.proofs.Keepers.{all_kept}
use Rattle.mau_stratrun.proofs.Coursing.{leaves_larger, leaves_facts}

module _ {C : Type 0} (w : World C) (forms : List Form) (i : Interned) (bodies : List StrategyId) (h : HasFacts w forms i bodies) (n : ℕ) (c : StoredConfig) (at : slice_get i.configs n ≡ Some c) where
  pub known_term : w.is_term c.term.0
  known_term = in_all (λ x. w.is_term x.term.0) i.configs n c h.terms at

  pub known_values : (m : ℕ) (values : List Bound) → m < length i.bindings → values ≡ list_at i.bindings m → All w.is_bound values
  known_values m values b e = subst (All w.is_bound) (sym e) (h.values m [] b)

-- what a cursor is begun by
begun_is : {C : Type 0} (w : World C) (forms : List Form) (i : Interned) (lead : Lead) (own : StoredTodo) (values : List Bound) → values ≡ list_at i.bindings own.values.0 → IsLeadOf (state_in w forms i) own.form.0 lead →
    begun_by w.setting lead own.calls values ≡ todo_in (state_in w forms i) own
begun_is w forms i lead own values e k =
    let f = sym k.0 in
    let v = ap (values_of w.setting.tree) e in
    λ j. record { form = f j; calls = own.calls; values = v j }

module _ {C : Type 0} (w w' : World C) (g : LeavesGrow w w') (is : IsWorld w) (is' : IsWorld w') (forms : List Form) (bodies : List StrategyId) (i : Interned) (ks : List (Kept C)) (h : IsCourse w forms bodies i ks) where
  pub course_grows : IsCourse w' forms bodies i ks
  course_grows = record {
    facts = leaves_facts w w' g is' forms i bodies h.facts;
    kept = all_kept w w' g is forms forms i i h.facts.state (leaves_larger w w' g is' forms i) ks h.kept;
  }

  module _ (n : ℕ) (c : StoredConfig) (at : slice_get i.configs n ≡ Some c) (own : StoredTodo) (rest : ℕ) (e : list_at i.todos c.todo.0 ≡ own ∷ list_at i.todos rest) (lead : Lead) (k : IsLeadOf (state_in w forms i) own.form.0 lead)
      (values : List Bound) (v : values ≡ list_at i.bindings own.values.0) where
    abbrev s : State
    s = state_in w forms i

    abbrev s' : State
    s' = state_in w' forms i

    here : IsConfig s n
    here = slice_get_within i.configs n c at

    whole : config_in s' n ≡ on (w.setting.tree c.term.0) (todo_in s own ∷ todos_in s rest) (frames_in s c.frames.0)
    whole = configs s s' h.facts.state (leaves_larger w w' g is' forms i) n here ∙ (config_is s n c at ∙ doing_is s c own rest e)

    pub begun_kept : (x : Kept C) → x.config ≡ n → x.given.items ≡ [] → x.pending ≡ None → w'.yields x.cursor (begun_by w.setting lead own.calls values) (w.setting.tree c.term.0) [] → IsKept w' forms i x
    begun_kept x ec eg ep y = record {
      config = subst (IsConfig s') (sym ec) here;
      given = subst (All (IsConfig s')) (sym eg) (All-nil (IsConfig s'));
      yielding = subst (λ m. GivenOn w' forms i (config_in s' m).term (config_in s' m).todo (config_in s' m).frames (map (config_in s') x.given.items) x.pending x.cursor) (sym ec)
          (subst (λ ns. GivenOn w' forms i (config_in s' n).term (config_in s' n).todo (config_in s' n).frames (map (config_in s') ns) x.pending x.cursor) (sym eg)
          (subst (λ o. GivenOn w' forms i (config_in s' n).term (config_in s' n).todo (config_in s' n).frames [] o x.cursor) (sym ep)
          (subst (λ z. GivenOn w' forms i z.term z.todo z.frames [] None x.cursor) (sym whole)
          ([], refl, (subst (λ d. w'.yields x.cursor d (w.setting.tree c.term.0) []) (begun_is w forms i lead own values v k) y, λ ds xs. always (engine_of w'.setting.fixed.program) (λ L. inl refl))))));
    }

    pub begun_course : (x : Kept C) → x.config ≡ n → x.given.items ≡ [] → x.pending ≡ None → w'.yields x.cursor (begun_by w.setting lead own.calls values) (w.setting.tree c.term.0) [] → IsCourse w' forms bodies i (ks ++ x ∷ [])
    begun_course x ec eg ep y = record {
      facts = course_grows.facts;
      kept = All-push (IsKept w' forms i) ks x course_grows.kept (begun_kept x ec eg ep y);
    }

-- the last of a list
pub push_last : {C : Type 0} (ks : List (Kept C)) (x : Kept C) (n : ℕ) → x.config ≡ n → IsLastFor (ks ++ x ∷ []) n
push_last {C = C} ks x n e = (
  x,
  omega (arith, length-append ks (x ∷ [])),
  subst (λ m. slice_get (ks ++ x ∷ []) m ≡ Some x) (end_of ks) (seam ks),
  e,
)
  where
    seam : (ys : List (Kept C)) → slice_get (ys ++ x ∷ []) (length ys) ≡ Some x
    seam [] = refl
    seam (y ∷ ys) = seam ys

    end_of : (ys : List (Kept C)) → length ys ≡ length (ys ++ x ∷ []) - 1
    end_of ys = omega (arith, length-append ys (x ∷ []))

pub known_last : {C : Type 0} (ks ys : List (Kept C)) (x : Kept C) (n : ℕ) → ys ≡ ks → Some x ≡ slice_get ys (length ys - 1) → x.config ≡ n → IsLastFor ks n
known_last ks ys x n e h c =
    let within = slice_get_within ys (length ys - 1) x (sym h) in
    subst (λ zs. IsLastFor zs n) e (x, omega (arith, within), sym h, c)
