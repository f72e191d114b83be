use Rattle.std.proofs.Common.{ℕ, OnOk, refl, subst}
use Rattle.mau_store.specs.Trees.{tree_at}
use Rattle.mau_api.specs.Answers.{LeavesEnough}
use Rattle.mau_reducer.specs.Worlds.{basis_of}
use Rattle.mau_reducer.specs.Meant.{meanings_of}
use Rattle.mau_reducer.specs.LaterStates.{same_state, fit_later}
use Rattle.mau_reducer.proofs.WhatIsMeant.{term_known, value_is, end_is, exact, is_allowed, left_enough}
use Rattle.mau_reducer.proofs.evaluating.ReducerEvaluator.evaluate.Goals as goal

pub evaluate-requires-clause-term : goal.evaluate-requires-clause-term
evaluate-requires-clause-term g c =
    term_known (basis_of g.N.Natives.operators c.args.self.now) (basis_of g.N.Natives.operators c.args.self.now) c.args.store.now c.args.store.now
    c.args.self.now.table c.args.self.now.table c.args.self.now.begun (same_state (basis_of g.N.Natives.operators c.args.self.now) c.args.store.now c.args.self.now.table c.args.self.now.begun c.requires.fits.0) c.args.term.0 c.requires.term
    c.requires.fits.0.basis

pub returns-clause-allowed : goal.returns-clause-allowed
returns-clause-allowed g c =
    is_allowed (meanings_of (basis_of g.N.Natives.operators c.args.self.now)) refl c.levels_of_item-levels.result c.levels_of_item-levels.ensures
    (tree_at c.args.store.now c.args.term.0) c.args.budget.now c.evaluate.new.store (g.W.StepWatcher.wanted c.args.watcher.now)
    c.evaluate.result c.evaluate.new.budget
    (value_is (basis_of g.N.Natives.operators c.args.self.now) (basis_of g.N.Natives.operators c.args.self.now) c.args.store.now c.args.store.now
    c.args.self.now.table c.args.self.now.table c.args.self.now.begun (same_state (basis_of g.N.Natives.operators c.args.self.now) c.args.store.now c.args.self.now.table c.args.self.now.begun c.requires.fits.0) c.args.term.0 c.requires.term c.levels_of_item-levels.result c.args.budget.now
    c.evaluate.new.store c.evaluate.result c.evaluate.new.budget c.evaluate.ensures.value)
    (end_is (basis_of g.N.Natives.operators c.args.self.now) (basis_of g.N.Natives.operators c.args.self.now) c.args.store.now c.args.store.now
    c.args.self.now.table c.args.self.now.table c.args.self.now.begun (same_state (basis_of g.N.Natives.operators c.args.self.now) c.args.store.now c.args.self.now.table c.args.self.now.begun c.requires.fits.0) c.args.term.0 c.requires.term c.levels_of_item-levels.result c.args.budget.now
    c.evaluate.result c.evaluate.ensures.ends)

pub returns-clause-exact : goal.returns-clause-exact
returns-clause-exact g c = λ e.
    exact (meanings_of (basis_of g.N.Natives.operators c.args.self.now)) refl c.levels_of_item-levels.result c.levels_of_item-levels.ensures
    (tree_at c.args.store.now c.args.term.0) c.args.budget.now c.evaluate.new.store
    c.evaluate.result c.evaluate.new.budget
    (value_is (basis_of g.N.Natives.operators c.args.self.now) (basis_of g.N.Natives.operators c.args.self.now) c.args.store.now c.args.store.now
    c.args.self.now.table c.args.self.now.table c.args.self.now.begun (same_state (basis_of g.N.Natives.operators c.args.self.now) c.args.store.now c.args.self.now.table c.args.self.now.begun c.requires.fits.0) c.args.term.0 c.requires.term c.levels_of_item-levels.result c.args.budget.now
    c.evaluate.new.store c.evaluate.result c.evaluate.new.budget c.evaluate.ensures.value)
    (end_is (basis_of g.N.Natives.operators c.args.self.now) (basis_of g.N.Natives.operators c.args.self.now) c.args.store.now c.args.store.now
    c.args.self.now.table c.args.self.now.table c.args.self.now.begun (same_state (basis_of g.N.Natives.operators c.args.self.now) c.args.store.now c.args.self.now.table c.args.self.now.begun c.requires.fits.0) c.args.term.0 c.requires.term c.levels_of_item-levels.result c.args.budget.now
    c.evaluate.result c.evaluate.ensures.ends)

pub returns-clause-left : goal.returns-clause-left
returns-clause-left g c =
    let m = meanings_of (basis_of g.N.Natives.operators c.args.self.now) in
    subst (λ (k : ℕ). OnOk c.evaluate.result (LeavesEnough (m.evaluation k m.limit (tree_at c.args.store.now c.args.term.0) c.args.budget.now) c.evaluate.new.budget))
    c.levels_of_item-levels.ensures
    (left_enough (meanings_of (basis_of g.N.Natives.operators c.args.self.now)) refl c.levels_of_item-levels.result c.levels_of_item-levels.ensures
    (tree_at c.args.store.now c.args.term.0) c.args.budget.now c.evaluate.new.store
    c.evaluate.result c.evaluate.new.budget
    (value_is (basis_of g.N.Natives.operators c.args.self.now) (basis_of g.N.Natives.operators c.args.self.now) c.args.store.now c.args.store.now
    c.args.self.now.table c.args.self.now.table c.args.self.now.begun (same_state (basis_of g.N.Natives.operators c.args.self.now) c.args.store.now c.args.self.now.table c.args.self.now.begun c.requires.fits.0) c.args.term.0 c.requires.term c.levels_of_item-levels.result c.args.budget.now
    c.evaluate.new.store c.evaluate.result c.evaluate.new.budget c.evaluate.ensures.value))

pub returns-clause-fits : goal.returns-clause-fits
returns-clause-fits g c = (
  fit_later (basis_of g.N.Natives.operators c.args.self.now) (basis_of g.N.Natives.operators c.evaluate.new.world) c.args.store.now c.evaluate.new.store c.args.self.now.table c.evaluate.new.world.table
      c.args.self.now.begun c.evaluate.new.world.begun c.requires.fits.0 c.evaluate.ensures.grows,
  c.requires.fits.1,
)
