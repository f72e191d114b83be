use Rattle.std.proofs.Common.{◌≡◌, ◌+◌, All, Vec, Global, map, length, refl, sym, ap, subst, arith}
use Rattle.mau_terms.specs.declared.ids.VarId.{VarId}
use Rattle.mau_terms.specs.declared.ids.TermId.{TermId}
use Rattle.mau_store.proofs.Growth.{extension_is_preorder}
use Rattle.mau_sorts.proofs.Settling.{kept_same}
use Rattle.mau_sorts.specs.Table.{Table, KeepsEntries}
use Rattle.mau_evaluation.specs.Evaluation.{look_up}
use Rattle.mau_api.specs.Programs.{fragment_of}
use Rattle.mau_api.specs.Told.{TellsCondition}
use Rattle.mau_api.specs.Answers.{levels_of_condition, LeavesEnough, binding_in, IsValueOf, solving_from}
use Rattle.mau_reducer.specs.Worlds.{basis_of}
use Rattle.mau_reducer.specs.Meant.{meanings_of}
use Rattle.mau_reducer.specs.LaterStates.{same_state, fit_later}
use Rattle.mau_reducer.specs.Flags.{flags_by}
use Rattle.mau_reducer.proofs.Asked.{fit_unchanged, meant_alike}
use Rattle.mau_reducer.proofs.WhatIsSolved.{may_solve, solves_exactly, left_enough, none_of, pairs_in, from_pairs, none_in, ok_in, wants_memory}
use Rattle.mau_reducer.proofs.Asked.{number_counted, binding_known, asked_ready, kept_before, means_alike, one_each_of, values_paired, tells_paired, bindings_of, last_known, loop_answer}
use Rattle.mau_reducer.proofs.flagged.FlaggedEvaluator.solve.Goals as goal

pub solve-solved-requires-clause-ready : goal.solve-solved-requires-clause-ready
solve-solved-requires-clause-ready g c = (
  asked_ready (basis_of g.N.Natives.operators c.args.self.now.world.world) c.args.cond.now c.args.bound.now c.requires.condition c.in-Ok.binding c.in-Ok.ensures.pairs c.in-Ok.ensures.one_each
      (basis_of g.N.Natives.operators c.args.self.now.world.world) (basis_of g.N.Natives.operators c.ask.new.self) c.args.store.now c.args.store.now c.args.self.now.world.world.table c.args.self.now.world.world.table c.args.self.now.world.world.begun (same_state (basis_of g.N.Natives.operators c.args.self.now.world.world) c.args.store.now c.args.self.now.world.world.table c.args.self.now.world.world.begun c.requires.fits.0) c.in-Ok.ensures.asks c.requires.bound c.ask.new.self.table c.ask.ensures.table (length c.items.result.now + 1) (number_counted c.items.result.now c.ask.new.self.program.now.equations c.items.ensures) c.ask.new.self.begun c.ask.ensures.begun c.requires.fits.0,
  c.requires.fits.1,
)

pub solve-solved-requires-clause-binding : goal.solve-solved-requires-clause-binding
solve-solved-requires-clause-binding g c =
    binding_known (basis_of g.N.Natives.operators c.args.self.now.world.world) c.args.cond.now c.args.bound.now c.requires.condition c.in-Ok.binding c.in-Ok.ensures.pairs c.in-Ok.ensures.one_each
    (basis_of g.N.Natives.operators c.args.self.now.world.world) (basis_of g.N.Natives.operators c.ask.new.self) c.args.store.now c.args.store.now c.args.self.now.world.world.table c.args.self.now.world.world.table c.args.self.now.world.world.begun (same_state (basis_of g.N.Natives.operators c.args.self.now.world.world) c.args.store.now c.args.self.now.world.world.table c.args.self.now.world.world.begun c.requires.fits.0) c.in-Ok.ensures.asks c.requires.bound c.ask.new.self.table c.ask.ensures.table (length c.items.result.now + 1) (number_counted c.items.result.now c.ask.new.self.program.now.equations c.items.ensures)

pub solve-solved-requires-clause-behind : goal.solve-solved-requires-clause-behind
solve-solved-requires-clause-behind g c =
    last_known (basis_of g.N.Natives.operators c.args.self.now.world.world) c.args.cond.now c.args.bound.now c.requires.condition c.in-Ok.binding c.in-Ok.ensures.pairs c.in-Ok.ensures.one_each
    (basis_of g.N.Natives.operators c.args.self.now.world.world) (basis_of g.N.Natives.operators c.ask.new.self) c.args.store.now c.args.store.now c.args.self.now.world.world.table c.args.self.now.world.world.table c.args.self.now.world.world.begun (same_state (basis_of g.N.Natives.operators c.args.self.now.world.world) c.args.store.now c.args.self.now.world.world.table c.args.self.now.world.world.begun c.requires.fits.0) c.in-Ok.ensures.asks c.requires.bound c.ask.new.self.table c.ask.ensures.table (length c.items.result.now + 1) (number_counted c.items.result.now c.ask.new.self.program.now.equations c.items.ensures)
    (λ x. x.value) c.in_ok-behind.behind (λ x. x.now) c.args.last c.in_ok-behind.ensures.pairs c.in_ok-behind.ensures.one_each c.requires.last

pub as_pairs-requires : goal.as_pairs-requires
as_pairs-requires g c =
    one_each_of (basis_of g.N.Natives.operators c.args.self.now.world.world) c.args.cond.now c.args.bound.now c.requires.condition c.in-Ok.binding c.in-Ok.ensures.pairs c.in-Ok.ensures.one_each
    (basis_of g.N.Natives.operators c.args.self.now.world.world) (basis_of g.N.Natives.operators c.ask.new.self) c.args.store.now c.args.store.now c.args.self.now.world.world.table c.args.self.now.world.world.table c.args.self.now.world.world.begun (same_state (basis_of g.N.Natives.operators c.args.self.now.world.world) c.args.store.now c.args.self.now.world.world.table c.args.self.now.world.world.begun c.requires.fits.0) c.in-Ok.ensures.asks c.requires.bound c.ask.new.self.table c.ask.ensures.table (length c.items.result.now + 1) (number_counted c.items.result.now c.ask.new.self.program.now.equations c.items.ensures)
    (basis_of g.N.Natives.operators c.solve-solved.new.resting.world) c.solve-solved.new.store c.solve-solved.new.resting.world.table c.solve-solved.new.resting.world.begun c.solve-solved.ensures.grows c.solve-solved.result c.solve-solved.ensures.known

pub returns-in-Ok-clause-allowed : goal.returns-in-Ok-clause-allowed
returns-in-Ok-clause-allowed g c =
    may_solve (meanings_of (basis_of g.N.Natives.operators c.args.self.now.world.world)) c.levels_of_condition-levels.result c.levels_of_condition-levels.ensures (solving_from (meanings_of (basis_of g.N.Natives.operators c.args.self.now.world.world)) (bindings_of c.args.store.now c.args.last) (map fragment_of c.args.cond.now) (binding_in c.args.store.now c.args.bound.now))
    c.args.budget.now c.solve-solved.new.store c.solve-solved.new.budget c.solve-solved.result
    (loop_answer (basis_of g.N.Natives.operators c.args.self.now.world.world) c.args.cond.now c.args.bound.now c.requires.condition c.in-Ok.binding c.in-Ok.ensures.pairs c.in-Ok.ensures.one_each
    (basis_of g.N.Natives.operators c.args.self.now.world.world) (basis_of g.N.Natives.operators c.ask.new.self) c.args.store.now c.args.store.now c.args.self.now.world.world.table c.args.self.now.world.world.table c.args.self.now.world.world.begun (same_state (basis_of g.N.Natives.operators c.args.self.now.world.world) c.args.store.now c.args.self.now.world.world.table c.args.self.now.world.world.begun c.requires.fits.0) c.in-Ok.ensures.asks c.requires.bound c.ask.new.self.table c.ask.ensures.table (length c.items.result.now + 1) (number_counted c.items.result.now c.ask.new.self.program.now.equations c.items.ensures)
    (basis_of g.N.Natives.operators c.solve-solved.new.resting.world) c.solve-solved.new.store c.solve-solved.new.resting.world.table c.solve-solved.new.resting.world.begun c.solve-solved.ensures.grows
    (λ x. x.value) c.in_ok-behind.behind (λ x. x.now) c.args.last c.in_ok-behind.ensures.pairs c.in_ok-behind.ensures.one_each c.requires.last c.levels_of_condition-levels.result c.args.budget.now c.solve-solved.new.budget c.solve-solved.result c.solve-solved.ensures.some c.solve-solved.ensures.none c.solve-solved.ensures.ends)
    (pairs_in (λ (v : Vec (VarId × TermId) Global). v.items) c.as_pairs.result) c.as_pairs.ensures

pub returns-in-Ok-clause-exact : goal.returns-in-Ok-clause-exact
returns-in-Ok-clause-exact g c =
    λ e. solves_exactly (meanings_of (basis_of g.N.Natives.operators c.args.self.now.world.world)) c.levels_of_condition-levels.result c.levels_of_condition-levels.ensures (solving_from (meanings_of (basis_of g.N.Natives.operators c.args.self.now.world.world)) (bindings_of c.args.store.now c.args.last) (map fragment_of c.args.cond.now) (binding_in c.args.store.now c.args.bound.now))
    c.args.budget.now c.solve-solved.new.store c.solve-solved.new.budget c.solve-solved.result
    (loop_answer (basis_of g.N.Natives.operators c.args.self.now.world.world) c.args.cond.now c.args.bound.now c.requires.condition c.in-Ok.binding c.in-Ok.ensures.pairs c.in-Ok.ensures.one_each
    (basis_of g.N.Natives.operators c.args.self.now.world.world) (basis_of g.N.Natives.operators c.ask.new.self) c.args.store.now c.args.store.now c.args.self.now.world.world.table c.args.self.now.world.world.table c.args.self.now.world.world.begun (same_state (basis_of g.N.Natives.operators c.args.self.now.world.world) c.args.store.now c.args.self.now.world.world.table c.args.self.now.world.world.begun c.requires.fits.0) c.in-Ok.ensures.asks c.requires.bound c.ask.new.self.table c.ask.ensures.table (length c.items.result.now + 1) (number_counted c.items.result.now c.ask.new.self.program.now.equations c.items.ensures)
    (basis_of g.N.Natives.operators c.solve-solved.new.resting.world) c.solve-solved.new.store c.solve-solved.new.resting.world.table c.solve-solved.new.resting.world.begun c.solve-solved.ensures.grows
    (λ x. x.value) c.in_ok-behind.behind (λ x. x.now) c.args.last c.in_ok-behind.ensures.pairs c.in_ok-behind.ensures.one_each c.requires.last c.levels_of_condition-levels.result c.args.budget.now c.solve-solved.new.budget c.solve-solved.result c.solve-solved.ensures.some c.solve-solved.ensures.none c.solve-solved.ensures.ends)
    (pairs_in (λ (v : Vec (VarId × TermId) Global). v.items) c.as_pairs.result) c.as_pairs.ensures

pub returns-in-Ok-clause-left : goal.returns-in-Ok-clause-left
returns-in-Ok-clause-left g c =
    ok_in (λ (v : Vec (VarId × TermId) Global). v.items) (LeavesEnough ((solving_from (meanings_of (basis_of g.N.Natives.operators c.args.self.now.world.world)) (bindings_of c.args.store.now c.args.last) (map fragment_of c.args.cond.now) (binding_in c.args.store.now c.args.bound.now)) levels_of_condition c.args.self.now.world.world.limit c.args.budget.now) c.solve-solved.new.budget) c.as_pairs.result
    (left_enough (meanings_of (basis_of g.N.Natives.operators c.args.self.now.world.world)) c.levels_of_condition-levels.result c.levels_of_condition-levels.ensures (solving_from (meanings_of (basis_of g.N.Natives.operators c.args.self.now.world.world)) (bindings_of c.args.store.now c.args.last) (map fragment_of c.args.cond.now) (binding_in c.args.store.now c.args.bound.now))
    c.args.budget.now c.solve-solved.new.store c.solve-solved.new.budget c.solve-solved.result
    (loop_answer (basis_of g.N.Natives.operators c.args.self.now.world.world) c.args.cond.now c.args.bound.now c.requires.condition c.in-Ok.binding c.in-Ok.ensures.pairs c.in-Ok.ensures.one_each
    (basis_of g.N.Natives.operators c.args.self.now.world.world) (basis_of g.N.Natives.operators c.ask.new.self) c.args.store.now c.args.store.now c.args.self.now.world.world.table c.args.self.now.world.world.table c.args.self.now.world.world.begun (same_state (basis_of g.N.Natives.operators c.args.self.now.world.world) c.args.store.now c.args.self.now.world.world.table c.args.self.now.world.world.begun c.requires.fits.0) c.in-Ok.ensures.asks c.requires.bound c.ask.new.self.table c.ask.ensures.table (length c.items.result.now + 1) (number_counted c.items.result.now c.ask.new.self.program.now.equations c.items.ensures)
    (basis_of g.N.Natives.operators c.solve-solved.new.resting.world) c.solve-solved.new.store c.solve-solved.new.resting.world.table c.solve-solved.new.resting.world.begun c.solve-solved.ensures.grows
    (λ x. x.value) c.in_ok-behind.behind (λ x. x.now) c.args.last c.in_ok-behind.ensures.pairs c.in_ok-behind.ensures.one_each c.requires.last c.levels_of_condition-levels.result c.args.budget.now c.solve-solved.new.budget c.solve-solved.result c.solve-solved.ensures.some c.solve-solved.ensures.none c.solve-solved.ensures.ends)
    (pairs_in (λ (v : Vec (VarId × TermId) Global). v.items) c.as_pairs.result) c.as_pairs.ensures)

pub returns-in-Ok-clause-values : goal.returns-in-Ok-clause-values
returns-in-Ok-clause-values g c =
    from_pairs (λ (v : Vec (VarId × TermId) Global). v.items) (λ bs k. All (IsValueOf c.args.self.now.world.world.program.now.sig c.solve-solved.new.store c.solve-solved.new.resting.world.table) bs) c.as_pairs.result
    (values_paired (basis_of g.N.Natives.operators c.args.self.now.world.world) c.args.cond.now c.args.bound.now c.requires.condition c.in-Ok.binding c.in-Ok.ensures.pairs c.in-Ok.ensures.one_each
    (basis_of g.N.Natives.operators c.args.self.now.world.world) (basis_of g.N.Natives.operators c.ask.new.self) c.args.store.now c.args.store.now c.args.self.now.world.world.table c.args.self.now.world.world.table c.args.self.now.world.world.begun (same_state (basis_of g.N.Natives.operators c.args.self.now.world.world) c.args.store.now c.args.self.now.world.world.table c.args.self.now.world.world.begun c.requires.fits.0) c.in-Ok.ensures.asks c.requires.bound c.ask.new.self.table c.ask.ensures.table (length c.items.result.now + 1) (number_counted c.items.result.now c.ask.new.self.program.now.equations c.items.ensures)
    (basis_of g.N.Natives.operators c.solve-solved.new.resting.world) c.solve-solved.new.store c.solve-solved.new.resting.world.table c.solve-solved.new.resting.world.begun c.solve-solved.ensures.grows c.solve-solved.result (pairs_in (λ (v : Vec (VarId × TermId) Global). v.items) c.as_pairs.result) c.as_pairs.ensures c.solve-solved.ensures.known)

pub returns-in-Ok-clause-told : goal.returns-in-Ok-clause-told
returns-in-Ok-clause-told g c =
    λ wanted.
    from_pairs (λ (v : Vec (VarId × TermId) Global). v.items) (λ bs k. TellsCondition c.args.self.now.world.world.program.now (g.N.Natives.operators c.args.self.now.world.world.natives) c.solve-solved.new.store c.solve-solved.new.resting.world.table (g.W.StepWatcher.told c.args.watcher.now) (g.W.StepWatcher.told c.solve-solved.new.watcher) (look_up (binding_in c.solve-solved.new.store bs)) c.args.cond.now k) c.as_pairs.result
    (tells_paired (basis_of g.N.Natives.operators c.args.self.now.world.world) c.args.cond.now c.args.bound.now c.requires.condition c.in-Ok.binding c.in-Ok.ensures.pairs c.in-Ok.ensures.one_each
    (basis_of g.N.Natives.operators c.args.self.now.world.world) (basis_of g.N.Natives.operators c.ask.new.self) c.args.store.now c.args.store.now c.args.self.now.world.world.table c.args.self.now.world.world.table c.args.self.now.world.world.begun (same_state (basis_of g.N.Natives.operators c.args.self.now.world.world) c.args.store.now c.args.self.now.world.world.table c.args.self.now.world.world.begun c.requires.fits.0) c.in-Ok.ensures.asks c.requires.bound c.ask.new.self.table c.ask.ensures.table (length c.items.result.now + 1) (number_counted c.items.result.now c.ask.new.self.program.now.equations c.items.ensures)
    (basis_of g.N.Natives.operators c.solve-solved.new.resting.world) c.solve-solved.new.store c.solve-solved.new.resting.world.table c.solve-solved.new.resting.world.begun c.solve-solved.ensures.grows (g.W.StepWatcher.told c.args.watcher.now) (g.W.StepWatcher.told c.solve-solved.new.watcher) c.solve-solved.result (pairs_in (λ (v : Vec (VarId × TermId) Global). v.items) c.as_pairs.result) c.as_pairs.ensures (c.solve-solved.ensures.told wanted))

pub returns-in-Ok-clause-untold : goal.returns-in-Ok-clause-untold
returns-in-Ok-clause-untold g c =
    λ wanted none.
    none_of (g.W.StepWatcher.told c.solve-solved.new.watcher ≡ g.W.StepWatcher.told c.args.watcher.now) c.solve-solved.result (pairs_in (λ (v : Vec (VarId × TermId) Global). v.items) c.as_pairs.result) c.as_pairs.ensures (c.solve-solved.ensures.untold wanted) (none_in (λ (v : Vec (VarId × TermId) Global). v.items) c.as_pairs.result none)

pub returns-in-Ok-clause-fits : goal.returns-in-Ok-clause-fits
returns-in-Ok-clause-fits g c = (
  fit_later (basis_of g.N.Natives.operators c.ask.new.self) (basis_of g.N.Natives.operators c.solve-solved.new.resting.world) c.args.store.now c.solve-solved.new.store c.ask.new.self.table c.solve-solved.new.resting.world.table c.ask.new.self.begun c.solve-solved.new.resting.world.begun (asked_ready (basis_of g.N.Natives.operators c.args.self.now.world.world) c.args.cond.now c.args.bound.now c.requires.condition c.in-Ok.binding c.in-Ok.ensures.pairs c.in-Ok.ensures.one_each
      (basis_of g.N.Natives.operators c.args.self.now.world.world) (basis_of g.N.Natives.operators c.ask.new.self) c.args.store.now c.args.store.now c.args.self.now.world.world.table c.args.self.now.world.world.table c.args.self.now.world.world.begun (same_state (basis_of g.N.Natives.operators c.args.self.now.world.world) c.args.store.now c.args.self.now.world.world.table c.args.self.now.world.world.begun c.requires.fits.0) c.in-Ok.ensures.asks c.requires.bound c.ask.new.self.table c.ask.ensures.table (length c.items.result.now + 1) (number_counted c.items.result.now c.ask.new.self.program.now.equations c.items.ensures) c.ask.new.self.begun c.ask.ensures.begun c.requires.fits.0) c.solve-solved.ensures.grows,
  c.requires.fits.1,
  c.solve-solved.ensures.resting,
)

pub returns-in-Ok-clause-kept : goal.returns-in-Ok-clause-kept
returns-in-Ok-clause-kept g c =
    kept_before (basis_of g.N.Natives.operators c.args.self.now.world.world) c.args.cond.now c.args.bound.now c.requires.condition c.in-Ok.binding c.in-Ok.ensures.pairs c.in-Ok.ensures.one_each
    (basis_of g.N.Natives.operators c.args.self.now.world.world) (basis_of g.N.Natives.operators c.ask.new.self) c.args.store.now c.args.store.now c.args.self.now.world.world.table c.args.self.now.world.world.table c.args.self.now.world.world.begun (same_state (basis_of g.N.Natives.operators c.args.self.now.world.world) c.args.store.now c.args.self.now.world.world.table c.args.self.now.world.world.begun c.requires.fits.0) c.in-Ok.ensures.asks c.requires.bound c.ask.new.self.table c.ask.ensures.table (length c.items.result.now + 1) (number_counted c.items.result.now c.ask.new.self.program.now.equations c.items.ensures)
    c.solve-solved.new.resting.world.table c.solve-solved.ensures.grows.kept

pub returns-in-Ok-clause-meanings : goal.returns-in-Ok-clause-meanings
returns-in-Ok-clause-meanings g c =
    means_alike (basis_of g.N.Natives.operators c.args.self.now.world.world) c.args.cond.now c.args.bound.now c.requires.condition c.in-Ok.binding c.in-Ok.ensures.pairs c.in-Ok.ensures.one_each
    (basis_of g.N.Natives.operators c.args.self.now.world.world) (basis_of g.N.Natives.operators c.ask.new.self) c.args.store.now c.args.store.now c.args.self.now.world.world.table c.args.self.now.world.world.table c.args.self.now.world.world.begun (same_state (basis_of g.N.Natives.operators c.args.self.now.world.world) c.args.store.now c.args.self.now.world.world.table c.args.self.now.world.world.begun c.requires.fits.0) c.in-Ok.ensures.asks c.requires.bound c.ask.new.self.table c.ask.ensures.table (length c.items.result.now + 1) (number_counted c.items.result.now c.ask.new.self.program.now.equations c.items.ensures)
    (basis_of g.N.Natives.operators c.solve-solved.new.resting.world) c.solve-solved.new.store c.solve-solved.new.resting.world.table c.solve-solved.new.resting.world.begun c.solve-solved.ensures.grows

pub returns-in-Err-clause-exact : goal.returns-in-Err-clause-exact
returns-in-Err-clause-exact g c = λ e. record { levels = levels_of_condition; enough = omega arith; just = λ d. refl; is = tt }

pub solve-solved-requires-clause-resting : goal.solve-solved-requires-clause-resting
solve-solved-requires-clause-resting g c =
    let ready = asked_ready (basis_of g.N.Natives.operators c.args.self.now.world.world) c.args.cond.now c.args.bound.now c.requires.condition c.in-Ok.binding c.in-Ok.ensures.pairs c.in-Ok.ensures.one_each
    (basis_of g.N.Natives.operators c.args.self.now.world.world) (basis_of g.N.Natives.operators c.ask.new.self) c.args.store.now c.args.store.now c.args.self.now.world.world.table c.args.self.now.world.world.table c.args.self.now.world.world.begun (same_state (basis_of g.N.Natives.operators c.args.self.now.world.world) c.args.store.now c.args.self.now.world.world.table c.args.self.now.world.world.begun c.requires.fits.0) c.in-Ok.ensures.asks c.requires.bound c.ask.new.self.table c.ask.ensures.table (length c.items.result.now + 1) (number_counted c.items.result.now c.ask.new.self.program.now.equations c.items.ensures) c.ask.new.self.begun c.ask.ensures.begun c.requires.fits.0 in
    flags_by g.L.Lister.with_context g.L.Lister.asked g.L.Lister.given g.L.Lister.is_for g.M.Lister.asked g.M.Lister.given g.M.Lister.is_for
    (basis_of g.N.Natives.operators c.args.self.now.world.world) (basis_of g.N.Natives.operators c.ask.new.self)
    (meant_alike (basis_of g.N.Natives.operators c.args.self.now.world.world) c.args.cond.now c.args.bound.now c.requires.condition c.in-Ok.binding c.in-Ok.ensures.pairs c.in-Ok.ensures.one_each
    (basis_of g.N.Natives.operators c.args.self.now.world.world) (basis_of g.N.Natives.operators c.ask.new.self) c.args.store.now c.args.store.now c.args.self.now.world.world.table c.args.self.now.world.world.table c.args.self.now.world.world.begun (same_state (basis_of g.N.Natives.operators c.args.self.now.world.world) c.args.store.now c.args.self.now.world.world.table c.args.self.now.world.world.begun c.requires.fits.0) c.in-Ok.ensures.asks c.requires.bound c.ask.new.self.table c.ask.ensures.table (length c.items.result.now + 1) (number_counted c.items.result.now c.ask.new.self.program.now.equations c.items.ensures))
    c.args.store.now c.args.store.now c.args.self.now.world.world.table c.ask.new.self.table c.ask.new.self.begun (extension_is_preorder.reflexive c.args.store.now)
    (subst (λ (t : Table). KeepsEntries c.args.self.now.world.world.table t) (sym c.ask.ensures.table) (kept_same c.args.self.now.world.world.table)) ready.derived ready.identities
    c.args.self.now.world.levels.items c.requires.fits.2

pub returns-in-Err-clause-fits : goal.returns-in-Err-clause-fits
returns-in-Err-clause-fits g c =
    let e = c.ask.ensures in
    let same = c.in-Err.ensures.unchanged in
    let fit = fit_unchanged (basis_of g.N.Natives.operators c.args.self.now.world.world) (basis_of g.N.Natives.operators c.ask.new.self) c.args.store.now c.args.self.now.world.world.table c.ask.new.self.table c.args.self.now.world.world.begun c.ask.new.self.begun
    same e.table e.begun c.requires.fits.0 in (
      fit,
      c.requires.fits.1,
      flags_by g.L.Lister.with_context g.L.Lister.asked g.L.Lister.given g.L.Lister.is_for g.M.Lister.asked g.M.Lister.given g.M.Lister.is_for
          (basis_of g.N.Natives.operators c.args.self.now.world.world) (basis_of g.N.Natives.operators c.ask.new.self) (ap meanings_of same)
          c.args.store.now c.args.store.now c.args.self.now.world.world.table c.ask.new.self.table c.ask.new.self.begun (extension_is_preorder.reflexive c.args.store.now)
          (subst (λ (t : Table). KeepsEntries c.args.self.now.world.world.table t) (sym e.table) (kept_same c.args.self.now.world.world.table)) fit.derived fit.identities
          c.args.self.now.world.levels.items c.requires.fits.2,
    )

pub returns-in_err-behind-clause-exact : goal.returns-in_err-behind-clause-exact
returns-in_err-behind-clause-exact g c = λ e. record { levels = levels_of_condition; enough = omega arith; just = λ d. refl; is = wants_memory (λ (v : Vec (VarId × TermId) Global). v.items) _ c.args.store.now c.args.budget.now c.from_residual.result c.from_residual.ensures.1 }
