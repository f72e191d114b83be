use Rattle.std.proofs.Common.{◌≡◌, map, Option, Some, None, Ok, Err, refl, sym, ◌∙◌, subst}
use Rattle.mau_store.proofs.Growth.{extension_is_preorder}
use Rattle.mau_sorts.proofs.Settling.{kept_on, kept_same}
use Rattle.mau_api.specs.Programs.{program_over}
use Rattle.mau_api.specs.Meanings.{Meanings}
use Rattle.mau_rules.specs.declared.run.RuleEnd.{RuleEnd}
use Rattle.mau_rules.specs.declared.by_top.RulesByTop.{RulesByTop}
use Rattle.mau_rules.specs.ByTop.{AreRulesByTop}
use Rattle.mau_rules.specs.Runnable.{GoesBy}
use Rattle.mau_rules.specs.Counted.{IsCounted}
use Rattle.mau_rules.specs.Found.{item_of}
use Rattle.mau_rules.specs.Runs.{turns_of, stand_of, frewriting_by}
use Rattle.mau_rules.specs.Passes.{passing_by}
use Rattle.mau_rules.proofs.RunEnds.{no_memory_exact, value_exact, value_allowed, end_exact, end_allowed}
use Rattle.mau_rules.proofs.PassEnds.{run_begins}
use Rattle.mau_rules.proofs.PassWalk.{RestKnown, rest_from}
use Rattle.mau_store.specs.Trees.{tree_at}
use Rattle.mau_rules.proofs.Told.{behind_same, behind_on}
use Rattle.mau_rules.proofs.Parts.{part_whole, parts_none, parts_on}
use Rattle.mau_rules.proofs.run.RuleRun.frewrite.Goals as goal

pub loop-init : goal.loop-init
loop-init g c =
    let p = c.args.program.now in
    let m = g.E.Evaluator.meanings c.args.evaluator.now in
    let w = g.W.StepWatcher.wanted c.args.watcher.now in
    record {
      meanings = refl;
      fits = c.requires.fits;
      extends = extension_is_preorder.reflexive c.args.store.now;
      kept = kept_same (g.E.Evaluator.table c.args.evaluator.now);
      wanted = refl;
      gas = refl;
      by_top = (c.in-Ok.ensures c.args.store.now).rules;
      run = c.requires.run;
      told = parts_none p m.hooks w c.args.store.now (g.E.Evaluator.table c.args.evaluator.now) (g.W.StepWatcher.told c.args.watcher.now) (tree_at c.args.store.now c.args.self.now.term.0) 0;
      known = run_begins p m (item_of m w) c.args.gas c.args.bound (turns_of c.args.self.now.turns.items) c.args.store.now c.args.self.now.term.0 c.args.budget c.requires.run.term.within;
    }

pub returns-in-Ok-Some-clause-exact : goal.returns-in-Ok-Some-clause-exact
returns-in-Ok-Some-clause-exact g c = λ none.
    let p = c.args.program.now in
    let m = g.E.Evaluator.meanings c.args.evaluator.now in
    let w = g.W.StepWatcher.wanted c.args.watcher.now in
    let n = g.E.Evaluator.meanings c.loop.evaluator in
    let v = g.W.StepWatcher.wanted c.loop.watcher in
    let i = c.loop.invariant in
    let s0 = c.args.store.now in
    let b0 = c.args.budget in
    let f = frewriting_by p m c.args.gas c.args.bound (stand_of s0 c.args.self.now) in
    let new = c.pass_on.new.store in
    let y = c.loop.tally in
    let s = stand_of c.loop.store c.loop.self in
    let k = subst (λ (o : Option RuleEnd). RestKnown p n v y.rewrites y.gas y.left s c.loop.left new c.pass_on.new.run c.pass_on.new.tally (Ok o) c.pass_on.new.budget) c.in-Ok-Some.field-0-is c.in-Ok-Some.ensures.known in
    let r = rest_from p m n v w i.meanings i.wanted f b0 y c.args.gas i.gas s c.loop.left i.known new c.pass_on.new.run c.pass_on.new.tally (Ok (Some c.in-Ok-Some.end)) c.pass_on.new.budget k in
    value_exact m w f b0 new c.pass_on.new.run c.in-Ok-Some.end (record { term = c.pass_on.new.run.term; rewrites = c.pass_on.new.tally.rewrites }) r.0 c.pass_on.new.budget r.1 r.2 none

pub returns-in-Ok-Some-clause-allowed : goal.returns-in-Ok-Some-clause-allowed
returns-in-Ok-Some-clause-allowed g c =
    let p = c.args.program.now in
    let m = g.E.Evaluator.meanings c.args.evaluator.now in
    let w = g.W.StepWatcher.wanted c.args.watcher.now in
    let n = g.E.Evaluator.meanings c.loop.evaluator in
    let v = g.W.StepWatcher.wanted c.loop.watcher in
    let i = c.loop.invariant in
    let s0 = c.args.store.now in
    let b0 = c.args.budget in
    let f = frewriting_by p m c.args.gas c.args.bound (stand_of s0 c.args.self.now) in
    let new = c.pass_on.new.store in
    let y = c.loop.tally in
    let s = stand_of c.loop.store c.loop.self in
    let k = subst (λ (o : Option RuleEnd). RestKnown p n v y.rewrites y.gas y.left s c.loop.left new c.pass_on.new.run c.pass_on.new.tally (Ok o) c.pass_on.new.budget) c.in-Ok-Some.field-0-is c.in-Ok-Some.ensures.known in
    let r = rest_from p m n v w i.meanings i.wanted f b0 y c.args.gas i.gas s c.loop.left i.known new c.pass_on.new.run c.pass_on.new.tally (Ok (Some c.in-Ok-Some.end)) c.pass_on.new.budget k in
    value_allowed m w f b0 new c.pass_on.new.run c.in-Ok-Some.end (record { term = c.pass_on.new.run.term; rewrites = c.pass_on.new.tally.rewrites }) r.0 c.pass_on.new.budget r.1 r.2

pub returns-in-Ok-Some-clause-kept : goal.returns-in-Ok-Some-clause-kept
returns-in-Ok-Some-clause-kept g c = kept_on (g.E.Evaluator.table c.args.evaluator.now) (g.E.Evaluator.table c.loop.evaluator) (g.E.Evaluator.table c.pass_on.new.evaluator) c.loop.invariant.kept c.pass_on.ensures.kept

pub returns-in-Err-pass_on-clause-exact : goal.returns-in-Err-pass_on-clause-exact
returns-in-Err-pass_on-clause-exact g c = λ none.
    let p = c.args.program.now in
    let m = g.E.Evaluator.meanings c.args.evaluator.now in
    let w = g.W.StepWatcher.wanted c.args.watcher.now in
    let n = g.E.Evaluator.meanings c.loop.evaluator in
    let v = g.W.StepWatcher.wanted c.loop.watcher in
    let i = c.loop.invariant in
    let b0 = c.args.budget in
    let f = frewriting_by p m c.args.gas c.args.bound (stand_of c.args.store.now c.args.self.now) in
    let new = c.pass_on.new.store in
    let y = c.loop.tally in
    let s = stand_of c.loop.store c.loop.self in
    let r = rest_from p m n v w i.meanings i.wanted f b0 y c.args.gas i.gas s c.loop.left i.known new c.pass_on.new.run c.pass_on.new.tally (Err c.in-Err-pass_on.end) c.pass_on.new.budget c.in-Err-pass_on.ensures.known in
    end_exact m w f b0 new c.pass_on.new.run c.in-Err-pass_on.end r none

pub returns-in-Err-pass_on-clause-allowed : goal.returns-in-Err-pass_on-clause-allowed
returns-in-Err-pass_on-clause-allowed g c =
    let p = c.args.program.now in
    let m = g.E.Evaluator.meanings c.args.evaluator.now in
    let w = g.W.StepWatcher.wanted c.args.watcher.now in
    let n = g.E.Evaluator.meanings c.loop.evaluator in
    let v = g.W.StepWatcher.wanted c.loop.watcher in
    let i = c.loop.invariant in
    let b0 = c.args.budget in
    let f = frewriting_by p m c.args.gas c.args.bound (stand_of c.args.store.now c.args.self.now) in
    let new = c.pass_on.new.store in
    let y = c.loop.tally in
    let s = stand_of c.loop.store c.loop.self in
    let r = rest_from p m n v w i.meanings i.wanted f b0 y c.args.gas i.gas s c.loop.left i.known new c.pass_on.new.run c.pass_on.new.tally (Err c.in-Err-pass_on.end) c.pass_on.new.budget c.in-Err-pass_on.ensures.known in
    end_allowed m w f b0 new c.pass_on.new.run c.in-Err-pass_on.end r

pub returns-in-Err-pass_on-clause-kept : goal.returns-in-Err-pass_on-clause-kept
returns-in-Err-pass_on-clause-kept g c = kept_on (g.E.Evaluator.table c.args.evaluator.now) (g.E.Evaluator.table c.loop.evaluator) (g.E.Evaluator.table c.pass_on.new.evaluator) c.loop.invariant.kept c.pass_on.ensures.kept

pub pass_on-requires-clause-goes_by : goal.pass_on-requires-clause-goes_by
pass_on-requires-clause-goes_by g c = subst (λ (n : Meanings). GoesBy c.args.program.now n) (sym c.loop.invariant.meanings) c.requires.goes_by

pub loop-preserved : goal.loop-preserved
loop-preserved g c =
    let p = c.args.program.now in
    let m = g.E.Evaluator.meanings c.args.evaluator.now in
    let w = g.W.StepWatcher.wanted c.args.watcher.now in
    let n = g.E.Evaluator.meanings c.loop.evaluator in
    let v = g.W.StepWatcher.wanted c.loop.watcher in
    let i = c.loop.invariant in
    let s0 = c.args.store.now in
    let b0 = c.args.budget in
    let f = frewriting_by p m c.args.gas c.args.bound (stand_of s0 c.args.self.now) in
    let new = c.pass_on.new.store in
    let y = c.loop.tally in
    let s = stand_of c.loop.store c.loop.self in
    let k = subst (λ (o : Option RuleEnd). RestKnown p n v y.rewrites y.gas y.left s c.loop.left new c.pass_on.new.run c.pass_on.new.tally (Ok o) c.pass_on.new.budget) c.in-Ok-None.field-0-is c.in-Ok-None.ensures.known in
    let r = rest_from p m n v w i.meanings i.wanted f b0 y c.args.gas i.gas s c.loop.left i.known new c.pass_on.new.run c.pass_on.new.tally (Ok None) c.pass_on.new.budget k in
    let gas : c.pass_on.new.tally.gas ≡ c.args.gas = c.pass_on.ensures.gas ∙ i.gas in
    record {
      meanings = c.pass_on.ensures.meanings ∙ i.meanings;
      fits = c.pass_on.ensures.fits;
      extends = extension_is_preorder.transitive s0 c.loop.store new i.extends c.pass_on.ensures.extends;
      kept = kept_on (g.E.Evaluator.table c.args.evaluator.now) (g.E.Evaluator.table c.loop.evaluator) (g.E.Evaluator.table c.pass_on.new.evaluator) i.kept c.pass_on.ensures.kept;
      wanted = c.pass_on.ensures.wanted ∙ i.wanted;
      gas = gas;
      by_top = subst (λ (x : RulesByTop). AreRulesByTop p (map (λ list. list.items) x.orders.items)) (sym c.pass_on.ensures.by_top) i.by_top;
      run = c.pass_on.ensures.run;
      told = parts_on p m n i.meanings v w i.wanted c.loop.store new (g.E.Evaluator.table c.loop.evaluator) (g.E.Evaluator.table c.pass_on.new.evaluator) c.pass_on.ensures.extends c.pass_on.ensures.kept
          (g.W.StepWatcher.told c.args.watcher.now) (g.W.StepWatcher.told c.loop.watcher) (g.W.StepWatcher.told c.pass_on.new.watcher) (tree_at s0 c.args.self.now.term.0) (tree_at c.loop.store c.loop.self.term.0) (tree_at new c.pass_on.new.run.term.0)
          0 y.rewrites c.pass_on.new.tally.rewrites i.told c.pass_on.ensures.behind c.in-Ok-None.ensures.told;
      known = subst (λ j. IsCounted (item_of m w) f b0 c.pass_on.new.tally.rewrites (passing_by (program_over p m.hooks) j c.pass_on.new.tally.left (stand_of new c.pass_on.new.run)) c.pass_on.new.budget) gas r;
    }

-- ---- what is told

pub returns-in-Ok-Some-clause-told : goal.returns-in-Ok-Some-clause-told
returns-in-Ok-Some-clause-told g c = λ e.
    let p = c.args.program.now in
    let m = g.E.Evaluator.meanings c.args.evaluator.now in
    let n = g.E.Evaluator.meanings c.loop.evaluator in
    let i = c.loop.invariant in
    let new = c.pass_on.new.store in
    let table = g.E.Evaluator.table c.pass_on.new.evaluator in
    let a = g.W.StepWatcher.told c.args.watcher.now in
    let b = g.W.StepWatcher.told c.loop.watcher in
    let d = g.W.StepWatcher.told c.pass_on.new.watcher in
    let t = tree_at c.args.store.now c.args.self.now.term.0 in
    let u = tree_at c.loop.store c.loop.self.term.0 in
    let x = tree_at new c.pass_on.new.run.term.0 in
    let z = c.pass_on.new.tally.rewrites in
    part_whole p m.hooks new table a d t x z
    ((parts_on p m n i.meanings (g.W.StepWatcher.wanted c.loop.watcher) (g.W.StepWatcher.wanted c.args.watcher.now) i.wanted c.loop.store new (g.E.Evaluator.table c.loop.evaluator) table c.pass_on.ensures.extends c.pass_on.ensures.kept a b d t u x
    0 c.loop.tally.rewrites z i.told c.pass_on.ensures.behind c.in-Ok-Some.ensures.told).part e)

pub returns-in-Ok-Some-clause-before : goal.returns-in-Ok-Some-clause-before
returns-in-Ok-Some-clause-before g c = λ e. (behind_on (g.W.StepWatcher.wanted c.loop.watcher) (g.W.StepWatcher.wanted c.args.watcher.now) (g.W.StepWatcher.told c.args.watcher.now) (g.W.StepWatcher.told c.loop.watcher) (g.W.StepWatcher.told c.pass_on.new.watcher) c.loop.invariant.wanted c.loop.invariant.told.behind c.pass_on.ensures.behind).more

pub returns-in-Ok-Some-clause-silent : goal.returns-in-Ok-Some-clause-silent
returns-in-Ok-Some-clause-silent g c = (behind_on (g.W.StepWatcher.wanted c.loop.watcher) (g.W.StepWatcher.wanted c.args.watcher.now) (g.W.StepWatcher.told c.args.watcher.now) (g.W.StepWatcher.told c.loop.watcher) (g.W.StepWatcher.told c.pass_on.new.watcher) c.loop.invariant.wanted c.loop.invariant.told.behind c.pass_on.ensures.behind).silent

pub returns-in-Err-pass_on-clause-before : goal.returns-in-Err-pass_on-clause-before
returns-in-Err-pass_on-clause-before g c = λ e. (behind_on (g.W.StepWatcher.wanted c.loop.watcher) (g.W.StepWatcher.wanted c.args.watcher.now) (g.W.StepWatcher.told c.args.watcher.now) (g.W.StepWatcher.told c.loop.watcher) (g.W.StepWatcher.told c.pass_on.new.watcher) c.loop.invariant.wanted c.loop.invariant.told.behind c.pass_on.ensures.behind).more

pub returns-in-Err-pass_on-clause-silent : goal.returns-in-Err-pass_on-clause-silent
returns-in-Err-pass_on-clause-silent g c = (behind_on (g.W.StepWatcher.wanted c.loop.watcher) (g.W.StepWatcher.wanted c.args.watcher.now) (g.W.StepWatcher.told c.args.watcher.now) (g.W.StepWatcher.told c.loop.watcher) (g.W.StepWatcher.told c.pass_on.new.watcher) c.loop.invariant.wanted c.loop.invariant.told.behind c.pass_on.ensures.behind).silent

pub returns-clause-before : goal.returns-clause-before
returns-clause-before g c = λ e. c.loop.invariant.told.behind.more

pub returns-clause-silent : goal.returns-clause-silent
returns-clause-silent g c = c.loop.invariant.told.behind.silent

pub returns-in-Err-clause-before : goal.returns-in-Err-clause-before
returns-in-Err-clause-before g c = λ e. (behind_same (g.W.StepWatcher.wanted c.args.watcher.now) (g.W.StepWatcher.told c.args.watcher.now)).more

-- ---- want of memory

pub returns-in-Err-clause-exact : goal.returns-in-Err-clause-exact
returns-in-Err-clause-exact g c = λ none. no_memory_exact _ _ _ _ _

pub returns-clause-exact : goal.returns-clause-exact
returns-clause-exact g c = λ none. no_memory_exact _ _ _ _ _
