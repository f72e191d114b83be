-- The configuration that goes on from the body of a definition.
use Rattle.std.proofs.Common.{◌≡◌, ℕ, ◌<◌, List, ◌∷◌, length, map, ap, ◌∙◌}
use Rattle.mau_terms.specs.Tree.{Tree}
use Rattle.mau_evaluation.specs.Configs.{Config, on}
use Rattle.mau_strat.specs.declared.configs.Todo.{Todo as StoredTodo}
use Rattle.mau_strat.specs.declared.forms.Form.{Form}
use Rattle.mau_strat.specs.Sharing.{list_at}
use Rattle.mau_strat.specs.Interned.{Interned, Grows}
use Rattle.mau_strat.specs.Configurations.{bound_of}
use Rattle.mau_stratrun.specs.declared.leaves.Body.{Body}
use Rattle.mau_stratrun.specs.declared.leaves.Yielded.TheVariants.{Body as BodyOf}
use Rattle.mau_stratrun.specs.Settings.{Setting}
use Rattle.mau_stratrun.specs.Yields.{after}
use Rattle.mau_stratrun.specs.Worlds.{body_at, yield_of}
use Rattle.mau_stratrun.specs.States.{strategy_in, todos_in, frames_in, IsState}
use Rattle.mau_stratrun.specs.Moves.{state_of, todo_by}
use Rattle.mau_stratrun.proofs.Keeping.{todos, frames}
use Rattle.mau_stratrun.proofs.Adding.{larger}

pub body_config : (g : Setting) (forms : List Form) (i i' : Interned) → IsState (state_of g forms i) → Grows i i' → (t : Tree) (b : Body) (todo : StoredTodo) (rest fs : ℕ) → rest < length i.todos → fs < length i.frames →
    strategy_in (state_of g forms i) todo.form.0 ≡ body_at g.fixed.definitions b.definition → todo.calls ≡ b.calls → list_at i'.bindings todo.values.0 ≡ b.values.items →
    (y : Config) → y ≡ on t (todo_by (state_of g forms i') todo todo.form.0 ∷ todos_in (state_of g forms i') rest) (frames_in (state_of g forms i') fs) →
    y ≡ after (todos_in (state_of g forms i) rest) (frames_in (state_of g forms i) fs) (yield_of g t (BodyOf b))
body_config g forms i i' h x t b todo rest fs r f e k v y q =
    let s = state_of g forms i in
    let s' = state_of g forms i' in
    let l = larger g forms i i' x in
    let ds = todos s s' h l rest r in
    let xs = frames s s' h l fs f in
    let values = ap (map (bound_of g.tree (strategy_in s'))) v in
    q ∙ (λ j. on t (record { form = e j; calls = k j; values = values j } ∷ ds j) (xs j))
