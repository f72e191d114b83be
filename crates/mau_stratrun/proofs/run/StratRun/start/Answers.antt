use Rattle.std.proofs.Common.{◌≡◌, ◌<◌, [], ◌∷◌, ◌++◌, length, map, slice_index, sym, ap, ◌∙◌, subst, arith}
use Rattle.mau_evaluation.specs.Configs.{on}
use Rattle.mau_strat.specs.declared.configs.Todo.{Todo}
use Rattle.mau_stratrun.specs.States.{IsState, config_in, todos_in, frames_in}
use Rattle.mau_stratrun.specs.Moves.{todo_by, GoesTo}
use Rattle.mau_stratrun.specs.Courses.{state_in, IsListed}
use Rattle.mau_stratrun.specs.Runs.{begun_with}
use Rattle.mau_stratrun.proofs.Places.{one_named}
use Rattle.mau_stratrun.proofs.Beginning.{no_state, first_course, first_listed}
use Rattle.mau_stratrun.proofs.run.StratRun.start.Goals as goal

pub enter-requires-clause-values : goal.enter-requires-clause-values
enter-requires-clause-values g c = subst (λ i. 0 < length i.bindings) (sym c.new-interner.ensures) (omega arith)

pub enter-requires-clause-rest : goal.enter-requires-clause-rest
enter-requires-clause-rest g c = subst (λ i. 0 < length i.todos) (sym c.new-interner.ensures) (omega arith)

pub enter-requires-clause-frames : goal.enter-requires-clause-frames
enter-requires-clause-frames g c = subst (λ i. 0 < length i.frames) (sym c.new-interner.ensures) (omega arith)

pub start-requires : goal.start-requires
start-requires g c =
    let state = no_state (g.X.Leaves.world c.args.leaves) (g.met.X.Leaves.laws c.args.leaves c.requires.ready) c.args.forms c.len.ensures.forms c.requires.forms in
    let begun = subst (λ i. IsState (state_in (g.X.Leaves.world c.args.leaves) c.args.forms i)) (sym c.new-interner.ensures) state in
    let named = one_named _ c.args.strategy.0 c.requires.strategy in
    let below = (g.met.X.Leaves.laws c.args.leaves c.requires.ready).terms c.args.term.0 c.requires.term in
    let goes = subst (λ i. GoesTo (g.X.Leaves.world c.args.leaves).setting c.args.forms i c.args.forms c.enter.new.interner c.args.term.0 []) c.new-interner.ensures (c.enter.ensures.goes (g.X.Leaves.world c.args.leaves).setting c.args.forms begun named below) in
    let own : Todo = record { form = c.args.strategy; calls = c.args.calls; values = record { 0 = 0 } } in
    let config = subst (λ i. config_in (state_in (g.X.Leaves.world c.args.leaves) c.args.forms c.enter.new.interner) c.in-Ok.number ≡ on ((g.X.Leaves.world c.args.leaves).setting.tree c.args.term.0)
    (map (todo_by (state_in (g.X.Leaves.world c.args.leaves) c.args.forms i) own) (c.args.strategy.0 ∷ []) ++ todos_in (state_in (g.X.Leaves.world c.args.leaves) c.args.forms i) 0) (frames_in (state_in (g.X.Leaves.world c.args.leaves) c.args.forms i) 0))
    c.new-interner.ensures (c.in-Ok.ensures.config (g.X.Leaves.world c.args.leaves).setting c.args.forms begun named) in
    (c.requires.ready, first_course (g.X.Leaves.world c.args.leaves) (g.met.X.Leaves.laws c.args.leaves c.requires.ready) c.args.forms c.len.ensures.forms c.requires.forms c.args.bodies.items c.requires.bodies c.enter.new.interner c.args.term.0 c.requires.term goes c.new.result.items c.new.ensures.items, first_listed (g.X.Leaves.world c.args.leaves) (g.met.X.Leaves.laws c.args.leaves c.requires.ready) c.args.forms c.len.ensures.forms c.requires.forms c.args.bodies.items c.requires.bodies c.enter.new.interner c.args.term.0 c.requires.term goes c.in-Ok.number c.in-Ok.ensures.number (begun_with (g.X.Leaves.world c.args.leaves).setting.fixed.leaf c.args.forms c.args.strategy.0 c.args.calls) config)

pub returns-in-Ok-start-clause-run : goal.returns-in-Ok-start-clause-run
returns-in-Ok-start-clause-run g c =
    let state = no_state (g.X.Leaves.world c.args.leaves) (g.met.X.Leaves.laws c.args.leaves c.requires.ready) c.args.forms c.len.ensures.forms c.requires.forms in
    let begun = subst (λ i. IsState (state_in (g.X.Leaves.world c.args.leaves) c.args.forms i)) (sym c.new-interner.ensures) state in
    let named = one_named _ c.args.strategy.0 c.requires.strategy in
    let below = (g.met.X.Leaves.laws c.args.leaves c.requires.ready).terms c.args.term.0 c.requires.term in
    let goes = subst (λ i. GoesTo (g.X.Leaves.world c.args.leaves).setting c.args.forms i c.args.forms c.enter.new.interner c.args.term.0 []) c.new-interner.ensures (c.enter.ensures.goes (g.X.Leaves.world c.args.leaves).setting c.args.forms begun named below) in
    let own : Todo = record { form = c.args.strategy; calls = c.args.calls; values = record { 0 = 0 } } in
    let config = subst (λ i. config_in (state_in (g.X.Leaves.world c.args.leaves) c.args.forms c.enter.new.interner) c.in-Ok.number ≡ on ((g.X.Leaves.world c.args.leaves).setting.tree c.args.term.0)
    (map (todo_by (state_in (g.X.Leaves.world c.args.leaves) c.args.forms i) own) (c.args.strategy.0 ∷ []) ++ todos_in (state_in (g.X.Leaves.world c.args.leaves) c.args.forms i) 0) (frames_in (state_in (g.X.Leaves.world c.args.leaves) c.args.forms i) 0))
    c.new-interner.ensures (c.in-Ok.ensures.config (g.X.Leaves.world c.args.leaves).setting c.args.forms begun named) in
    record {
      course = first_course (g.X.Leaves.world c.args.leaves) (g.met.X.Leaves.laws c.args.leaves c.requires.ready) c.args.forms c.len.ensures.forms c.requires.forms c.args.bodies.items c.requires.bodies c.enter.new.interner c.args.term.0 c.requires.term goes c.new.result.items c.new.ensures.items;
      listed = subst (IsListed (state_in (g.X.Leaves.world c.args.leaves) c.args.forms c.enter.new.interner)) (sym c.in-Ok-start.ensures.listed) (first_listed (g.X.Leaves.world c.args.leaves) (g.met.X.Leaves.laws c.args.leaves c.requires.ready) c.args.forms c.len.ensures.forms c.requires.forms c.args.bodies.items c.requires.bodies c.enter.new.interner c.args.term.0 c.requires.term goes c.in-Ok.number c.in-Ok.ensures.number (begun_with (g.X.Leaves.world c.args.leaves).setting.fixed.leaf c.args.forms c.args.strategy.0 c.args.calls) config);
      run = c.in-Ok-start.ensures.run;
    }

pub returns-in-Ok-start-clause-began : goal.returns-in-Ok-start-clause-began
returns-in-Ok-start-clause-began g c =
    let state = no_state (g.X.Leaves.world c.args.leaves) (g.met.X.Leaves.laws c.args.leaves c.requires.ready) c.args.forms c.len.ensures.forms c.requires.forms in
    let begun = subst (λ i. IsState (state_in (g.X.Leaves.world c.args.leaves) c.args.forms i)) (sym c.new-interner.ensures) state in
    let named = one_named _ c.args.strategy.0 c.requires.strategy in
    let below = (g.met.X.Leaves.laws c.args.leaves c.requires.ready).terms c.args.term.0 c.requires.term in
    let goes = subst (λ i. GoesTo (g.X.Leaves.world c.args.leaves).setting c.args.forms i c.args.forms c.enter.new.interner c.args.term.0 []) c.new-interner.ensures (c.enter.ensures.goes (g.X.Leaves.world c.args.leaves).setting c.args.forms begun named below) in
    let own : Todo = record { form = c.args.strategy; calls = c.args.calls; values = record { 0 = 0 } } in
    let config = subst (λ i. config_in (state_in (g.X.Leaves.world c.args.leaves) c.args.forms c.enter.new.interner) c.in-Ok.number ≡ on ((g.X.Leaves.world c.args.leaves).setting.tree c.args.term.0)
    (map (todo_by (state_in (g.X.Leaves.world c.args.leaves) c.args.forms i) own) (c.args.strategy.0 ∷ []) ++ todos_in (state_in (g.X.Leaves.world c.args.leaves) c.args.forms i) 0) (frames_in (state_in (g.X.Leaves.world c.args.leaves) c.args.forms i) 0))
    c.new-interner.ensures (c.in-Ok.ensures.config (g.X.Leaves.world c.args.leaves).setting c.args.forms begun named) in
    ap (λ xs. config_in (state_in (g.X.Leaves.world c.args.leaves) c.args.forms c.enter.new.interner) (slice_index xs 0)) c.in-Ok-start.ensures.listed ∙ config

pub returns-in-Ok-start-clause-alone : goal.returns-in-Ok-start-clause-alone
returns-in-Ok-start-clause-alone g c = ap length c.in-Ok-start.ensures.listed
