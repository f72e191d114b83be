-- What is pending is entered, and gets its number.
use Rattle.std.proofs.Common.{◌≡◌, ℕ, ◌<◌, List, [], ◌∷◌, ◌++◌, length, map, slice_get, All, Option, Some, None, sym, ◌∙◌, subst}
use Rattle.std.proofs.lemmas.List.Elements.{All-weaker, All-nil}
use Rattle.mau_terms.specs.Tree.{Tree}
use Rattle.mau_evaluation.specs.Configs.{Todo, Frame, Config, on}
use Rattle.mau_strat.specs.declared.configs.StrategyId.{StrategyId}
use Rattle.mau_strat.specs.declared.configs.Todo.{Todo as StoredTodo}
use Rattle.mau_strat.specs.declared.configs.Config.{Config as StoredConfig}
use Rattle.mau_strat.specs.declared.forms.Form.{Form}
use Rattle.mau_strat.specs.Sharing.{list_at}
use Rattle.mau_strat.specs.Interned.{Interned}
use Rattle.mau_stratrun.specs.declared.leaves.Yielded.{Yielded}
use Rattle.mau_stratrun.specs.declared.leaves.Yielded.TheVariants.{Term, Body as BodyOf}
use Rattle.mau_stratrun.specs.declared.cursor.Kept.{Kept}
use Rattle.mau_stratrun.specs.Yields.{after, BeginsBy}
use Rattle.mau_stratrun.specs.Worlds.{World, IsWorld, yield_of, IsYielded}
use Rattle.mau_stratrun.specs.States.{State, todo_in, todos_in, frames_in, config_in, IsConfig}
use Rattle.mau_stratrun.specs.Moves.{GoesTo}
use Rattle.mau_stratrun.specs.Courses.{state_in, HasFacts, GivenOn, IsKept, config_of, given_of, IsDefined, term_on, values_on}
use Rattle.mau_stratrun.proofs.FormKinds.{in_all}
use Rattle.mau_stratrun.proofs.Keeping.{configs}
use Rattle.mau_stratrun.proofs.Keepers.{kept_kept}
use Rattle.mau_stratrun.proofs.Adding.{config_is}
use Rattle.mau_stratrun.proofs.Places.{doing_is}
use Rattle.mau_stratrun.proofs.Coursing.{none_grows, goes_larger, goes_facts}
use Rattle.mau_stratrun.proofs.Settling.{Goes, settled_begins, settled_kept}

abbrev on_config : {C : Type 0} → World C → List Form → Interned → ℕ → List ℕ → Option Yielded → C → Type 0
on_config w forms i n ns o z = GivenOn w forms i (config_in (state_in w forms i) n).term (config_in (state_in w forms i) n).todo (config_in (state_in w forms i) n).frames (map (config_in (state_in w forms i)) ns) o z

pub same_kept : {C : Type 0} (w : World C) (forms : List Form) (i : Interned) (k k' : Kept C) → k'.config ≡ k.config → k'.given.items ≡ k.given.items → k'.pending ≡ k.pending → k'.cursor ≡ k.cursor → IsKept w forms i k → IsKept w forms i k'
same_kept w forms i k k' ec eg ep ek a = record {
  config = subst (IsConfig (state_in w forms i)) (sym ec) a.config;
  given = subst (All (IsConfig (state_in w forms i))) (sym eg) a.given;
  yielding = subst (λ n. on_config w forms i n k'.given.items k'.pending k'.cursor) (sym ec)
      (subst (λ ns. on_config w forms i k.config ns k'.pending k'.cursor) (sym eg) (subst (λ o. on_config w forms i k.config k.given.items o k'.cursor) (sym ep) (subst (λ z. on_config w forms i k.config k.given.items k.pending z) (sym ek) a.yielding)));
}

module _ {C : Type 0} (w : World C) (is : IsWorld w) (forms : List Form) (i : Interned) (bodies : List StrategyId) (k : Kept C) (facts : HasFacts w forms i bodies) (a : IsKept w forms i k) (y : Yielded) (p : k.pending ≡ Some y)
    (c : StoredConfig) (at : slice_get i.configs k.config ≡ Some c) where
  abbrev s : State
  s = state_in w forms i

  yielded_on : (t : Tree) (ds : List Todo) (xs : List Frame) (gs : List Config) → GivenOn w forms i t ds xs gs (Some y) k.cursor → IsYielded w y
  yielded_on t [] xs gs m = absurd m
  yielded_on t (d ∷ ds) xs gs m = m.2.2

  pub is_yielded : IsYielded w y
  is_yielded = yielded_on (config_in s k.config).term (config_in s k.config).todo (config_in s k.config).frames (map (config_in s) k.given.items)
      (subst (λ o. GivenOn w forms i (config_in s k.config).term (config_in s k.config).todo (config_in s k.config).frames (map (config_in s) k.given.items) o k.cursor) p a.yielding)

  pub is_defined : IsDefined (length bodies) y
  is_defined = by y is_yielded
    where
      by : (z : Yielded) → IsYielded w z → IsDefined (length bodies) z
      by (Term u) h = tt
      by (BodyOf b) h = subst (λ n. b.definition < n) (sym facts.has_bodies.count) h.0

  known : w.is_term c.term.0
  known = in_all (λ x. w.is_term x.term.0) i.configs k.config c facts.terms at

  is_term_on : w.is_term (term_on c y)
  is_term_on = by y is_yielded
    where
      by : (z : Yielded) → IsYielded w z → w.is_term (term_on c z)
      by (Term u) h = h
      by (BodyOf b) h = known

  pub term_below : term_on c y < w.setting.terms
  term_below = is.terms (term_on c y) is_term_on

  values_are : All w.is_bound (values_on y)
  values_are = by y is_yielded
    where
      by : (z : Yielded) → IsYielded w z → All w.is_bound (values_on z)
      by (Term u) h = All-nil w.is_bound
      by (BodyOf b) h = h.1

  pub values_below : All (λ b. b.value.0 < w.setting.terms) (values_on y)
  values_below = All-weaker w.is_bound (λ b. b.value.0 < w.setting.terms) is.values (values_on y) values_are

  module _ (i' : Interned) (m : GoesTo w.setting forms i forms i' (term_on c y) (values_on y)) where
    abbrev s' : State
    s' = state_in w forms i'

    pub facts_now : HasFacts w forms i' bodies
    facts_now = goes_facts w forms forms i i' (term_on c y) (values_on y) m bodies facts is_term_on values_are

    pub kept_now : IsKept w forms i' k
    kept_now = kept_kept w w (none_grows w) is forms forms i i' facts.state (goes_larger w forms forms i i' (term_on c y) (values_on y) m) k a

    module _ (own : StoredTodo) (rest n : ℕ) (e : list_at i.todos c.todo.0 ≡ own ∷ list_at i.todos rest) (isn : IsConfig s' n) (q : config_in s' n ≡ after (todos_in s rest) (frames_in s c.frames.0) (yield_of w.setting (w.setting.tree c.term.0) y)) where
      whole : config_in s' k.config ≡ on (w.setting.tree c.term.0) (todo_in s own ∷ todos_in s rest) (frames_in s c.frames.0)
      whole = configs s s' facts.state (goes_larger w forms forms i i' (term_on c y) (values_on y) m) k.config a.config ∙ (config_is s k.config c at ∙ doing_is s c own rest e)

      goes : Goes w forms i' k kept_now y p n isn (config_in s' k.config).term (config_in s' k.config).todo (config_in s' k.config).frames
      goes = subst (λ x. Goes w forms i' k kept_now y p n isn x.term x.todo x.frames) (sym whole) q

      pub begins_now : BeginsBy w.setting.fixed (config_of w forms i' k) (given_of w forms i' k ++ config_in s' n ∷ [])
      begins_now = settled_begins w forms i' k kept_now y p n isn goes

      pub settled_now : (k' : Kept C) → k'.config ≡ k.config → k'.given.items ≡ k.given.items ++ n ∷ [] → k'.pending ≡ None → k'.cursor ≡ k.cursor → IsKept w forms i' k'
      settled_now = settled_kept w forms i' k kept_now y p n isn goes
