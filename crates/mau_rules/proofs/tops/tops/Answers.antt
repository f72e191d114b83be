use Rattle.std.proofs.Common.{map, ◌≡◌, ◌≤◌, ◌<◌, ◌+◌, ◌-◌, ℕ, suc, true, false, Option, Some, None, Ok, Err, IfSome, IfNone, refl, sym, ap, ◌∙◌, subst, arith, le_trans}
use Rattle.mau_terms.specs.Tree.{Tree}
use Rattle.mau_signature.specs.Signature.{theory_at}
use Rattle.mau_store.specs.Trees.{tree_at}
use Rattle.mau_store.proofs.Growth.{extension_is_preorder}
use Rattle.mau_sorts.proofs.Settling.{kept_on, kept_same}
use Rattle.mau_evaluation.specs.RuleRuns.{is_out}
use Rattle.mau_api.specs.Terms.{IsTerm}
use Rattle.mau_api.specs.Programs.{program_over}
use Rattle.mau_api.specs.Meanings.{Meanings}
use Rattle.mau_api.specs.Answers.{AreSettled}
use Rattle.mau_api.specs.declared.results.Reduced.{Reduced}
use Rattle.mau_reduce.proofs.KindsKept.{is_term_kept, tree_kept}
use Rattle.mau_reduce.proofs.PlainTables.{settled_grown}
use Rattle.mau_rules.specs.declared.run.RuleRun.{RuleRun}
use Rattle.mau_rules.specs.declared.by_top.RulesByTop.{RulesByTop}
use Rattle.mau_rules.specs.ByTop.{AreRulesByTop}
use Rattle.mau_rules.specs.Runnable.{GoesBy}
use Rattle.mau_rules.specs.Counted.{IsCounted}
use Rattle.mau_rules.specs.Found.{item_of}
use Rattle.mau_rules.specs.Runs.{turns_of}
use Rattle.mau_rules.specs.Passes.{tops_by, pass_with, KnownOnce}
use Rattle.mau_rules.proofs.Running.{stand_at}
use Rattle.mau_rules.proofs.PassSteps.{counted_done, counted_out, counted_once, counted_never, counted_once_ends}
use Rattle.mau_rules.proofs.PassWalk.{once_so}
use Rattle.mau_rules.specs.Telling.{TellsRules}
use Rattle.mau_rules.proofs.Told.{behind_on}
use Rattle.mau_rules.proofs.Parts.{part_of, parts_none, parts_on, parts_still}
use Rattle.mau_rules.proofs.tops.tops.Goals as goal

one_less_left : (g i : ℕ) → i < g → g - i ≡ suc (g - (i + 1))
one_less_left g i h = omega arith

none_left : (g i : ℕ) → g ≤ i → g - i ≡ 0
none_left g i h = omega arith

all_left : (g : ℕ) → g ≡ g - 0
all_left g = omega arith

pub loop-init : goal.loop-init
loop-init g c = record {
  meanings = refl;
  fits = c.requires.fits;
  extends = extension_is_preorder.reflexive c.args.store.now;
  kept = kept_same (g.E.Evaluator.table c.args.evaluator.now);
  wanted = refl;
  falls = omega arith;
  gas = refl;
  by_top = refl;
  run = c.requires.run;
  term = c.requires.term;
  settled = c.requires.settled;
  told = parts_none c.args.program.now (g.E.Evaluator.meanings c.args.evaluator.now).hooks (g.W.StepWatcher.wanted c.args.watcher.now) c.args.store.now (g.E.Evaluator.table c.args.evaluator.now) (g.W.StepWatcher.told c.args.watcher.now) (tree_at c.args.store.now c.args.term.0) c.args.tally.now.rewrites;
  known = λ f b0 K h. subst (λ j. IsCounted (item_of (g.E.Evaluator.meanings c.args.evaluator.now) (g.W.StepWatcher.wanted c.args.watcher.now)) f b0 c.args.tally.now.rewrites
      (tops_by (program_over c.args.program.now (g.E.Evaluator.meanings c.args.evaluator.now).hooks) j (pass_with (tree_at c.args.store.now c.args.term.0) (turns_of c.args.run.now.turns.items) c.args.tally.now) K) c.args.budget.now) (all_left c.args.tally.now.gas) h;
}

pub returns-then-is_out-clause-known : goal.returns-then-is_out-clause-known
returns-then-is_out-clause-known g c = λ f b0 K h.
    let p = c.args.program.now in
    let m = g.E.Evaluator.meanings c.args.evaluator.now in
    let w = g.W.StepWatcher.wanted c.args.watcher.now in
    let I = item_of m w in
    let y = c.loop.tally in
    let gas = c.args.tally.now.gas in
    counted_out p m.hooks I gas f b0 y.rewrites (turns_of c.loop.run.turns.items) y K c.loop.budget (gas - c.loop.counter) (tree_at c.loop.store c.loop.reached.0) (sym c.is_out.ensures ∙ c.if-is_out.true) (c.loop.invariant.known f b0 K h)

pub once-requires-clause-goes_by : goal.once-requires-clause-goes_by
once-requires-clause-goes_by g c = subst (λ (n : Meanings). GoesBy c.args.program.now n) (sym c.loop.invariant.meanings) c.requires.goes_by

pub returns-in-Ok-None-clause-known : goal.returns-in-Ok-None-clause-known
returns-in-Ok-None-clause-known g c = λ f b0 K h.
    let p = c.args.program.now in
    let m = g.E.Evaluator.meanings c.args.evaluator.now in
    let w = g.W.StepWatcher.wanted c.args.watcher.now in
    let n = g.E.Evaluator.meanings c.loop.evaluator in
    let v = g.W.StepWatcher.wanted c.loop.watcher in
    let I = item_of m w in
    let y = c.loop.tally in
    let i = c.loop.invariant in
    let gas = c.args.tally.now.gas in
    let now = c.loop.store in
    let new = c.once.new.store in
    let t = tree_at now c.loop.reached.0 in
    let turns = turns_of c.loop.run.turns.items in
    let mid = c.once.new.budget in
    let out : is_out y.left ≡ false = sym c.is_out.ensures ∙ c.if-is_out.false in
    let k = once_so p m n v w i.meanings i.wanted (stand_at t turns) c.loop.budget (turns_of c.once.new.run.turns.items) new (Ok None) mid
    (subst (λ (o : Option Reduced). KnownOnce (item_of n v) (program_over p n.hooks) (stand_at t turns) c.loop.budget (turns_of c.once.new.run.turns.items) new (Ok o) mid) c.in-Ok-None.field-0-is c.in-Ok-None.ensures.known) in
    let same : c.once.new.run ≡ c.loop.run = c.in-Ok-None.ensures.unchanged (ap (λ (o : Option Reduced). Ok o) c.in-Ok-None.field-0-is) in
    let at = counted_never p m.hooks I gas f b0 y.rewrites turns y K c.loop.budget (gas - c.loop.counter) (gas - (c.loop.counter + 1)) (one_less_left gas c.loop.counter c.loop-test.true) t out (i.known f b0 K h) (turns_of c.once.new.run.turns.items) new mid k in
    subst (λ (r : RuleRun). IsCounted I f b0 y.rewrites (λ k E. K k E (pass_with (tree_at new c.loop.reached.0) (turns_of r.turns.items) y)) mid) (sym same)
    (subst (λ (r : Tree). IsCounted I f b0 y.rewrites (λ k E. K k E (pass_with r turns y)) mid) (sym (tree_kept (theory_at p.sig) now new c.loop.reached.0 c.once.ensures.extends i.term.within)) at)

pub returns-in-Ok-None-clause-term : goal.returns-in-Ok-None-clause-term
returns-in-Ok-None-clause-term g c = is_term_kept c.args.program.now.sig c.loop.store c.once.new.store c.loop.reached.0 c.once.ensures.extends c.loop.invariant.term

pub returns-in-Ok-None-clause-settled : goal.returns-in-Ok-None-clause-settled
returns-in-Ok-None-clause-settled g c =
    let s = c.args.program.now.sig in
    let old = c.loop.store in
    let new = c.once.new.store in
    let i = c.loop.reached.0 in
    subst (λ (t : Tree). AreSettled s new (g.E.Evaluator.table c.once.new.evaluator) t) (sym (tree_kept (theory_at s) old new i c.once.ensures.extends c.loop.invariant.term.within))
    (settled_grown s old new (g.E.Evaluator.table c.loop.evaluator) (g.E.Evaluator.table c.once.new.evaluator) (tree_at old i) c.once.ensures.extends c.once.ensures.kept c.loop.invariant.settled)

pub returns-in-Ok-None-clause-kept : goal.returns-in-Ok-None-clause-kept
returns-in-Ok-None-clause-kept g c = kept_on (g.E.Evaluator.table c.args.evaluator.now) (g.E.Evaluator.table c.loop.evaluator) (g.E.Evaluator.table c.once.new.evaluator) c.loop.invariant.kept c.once.ensures.kept

pub returns-in-Err-clause-known : goal.returns-in-Err-clause-known
returns-in-Err-clause-known g c = λ f b0 K h.
    let p = c.args.program.now in
    let m = g.E.Evaluator.meanings c.args.evaluator.now in
    let w = g.W.StepWatcher.wanted c.args.watcher.now in
    let n = g.E.Evaluator.meanings c.loop.evaluator in
    let v = g.W.StepWatcher.wanted c.loop.watcher in
    let I = item_of m w in
    let y = c.loop.tally in
    let i = c.loop.invariant in
    let gas = c.args.tally.now.gas in
    let new = c.once.new.store in
    let t = tree_at c.loop.store c.loop.reached.0 in
    let turns = turns_of c.loop.run.turns.items in
    let mid = c.once.new.budget in
    let out : is_out y.left ≡ false = sym c.is_out.ensures ∙ c.if-is_out.false in
    let k = once_so p m n v w i.meanings i.wanted (stand_at t turns) c.loop.budget (turns_of c.once.new.run.turns.items) new (Err c.in-Err.end) mid c.in-Err.ensures.known in
    counted_once_ends p m.hooks I gas f b0 y.rewrites turns y K c.loop.budget (gas - c.loop.counter) (gas - (c.loop.counter + 1)) (one_less_left gas c.loop.counter c.loop-test.true) t out (i.known f b0 K h) (turns_of c.once.new.run.turns.items) new mid c.in-Err.end k

pub returns-in-Err-clause-kept : goal.returns-in-Err-clause-kept
returns-in-Err-clause-kept g c = kept_on (g.E.Evaluator.table c.args.evaluator.now) (g.E.Evaluator.table c.loop.evaluator) (g.E.Evaluator.table c.once.new.evaluator) c.loop.invariant.kept c.once.ensures.kept

pub loop-preserved : goal.loop-preserved
loop-preserved g c =
    let p = c.args.program.now in
    let m = g.E.Evaluator.meanings c.args.evaluator.now in
    let w = g.W.StepWatcher.wanted c.args.watcher.now in
    let n = g.E.Evaluator.meanings c.loop.evaluator in
    let v = g.W.StepWatcher.wanted c.loop.watcher in
    let I = item_of m w in
    let y = c.loop.tally in
    let i = c.loop.invariant in
    let gas = c.args.tally.now.gas in
    let now = c.loop.store in
    let new = c.once.new.store in
    let t = tree_at now c.loop.reached.0 in
    let turns = turns_of c.loop.run.turns.items in
    let mid = c.once.new.budget in
    let out : is_out y.left ≡ false = sym c.is_out.ensures ∙ c.if-is_out.false in
    let x = c.in-Ok-Some.value in
    let k = once_so p m n v w i.meanings i.wanted (stand_at t turns) c.loop.budget (turns_of c.once.new.run.turns.items) new (Ok (Some x)) mid
    (subst (λ (o : Option Reduced). KnownOnce (item_of n v) (program_over p n.hooks) (stand_at t turns) c.loop.budget (turns_of c.once.new.run.turns.items) new (Ok o) mid) c.in-Ok-Some.field-0-is c.in-Ok-Some.ensures.known) in
    record {
      meanings = c.once.ensures.meanings ∙ i.meanings;
      fits = c.once.ensures.fits;
      extends = extension_is_preorder.transitive c.args.store.now now new i.extends c.once.ensures.extends;
      kept = kept_on (g.E.Evaluator.table c.args.evaluator.now) (g.E.Evaluator.table c.loop.evaluator) (g.E.Evaluator.table c.once.new.evaluator) i.kept c.once.ensures.kept;
      wanted = c.once.ensures.wanted ∙ i.wanted;
      falls = le_trans c.once.ensures.falls i.falls;
      gas = i.gas;
      by_top = i.by_top;
      run = c.once.ensures.run;
      term = subst (λ (o : Option Reduced). IfSome o (λ z. IsTerm p.sig new z.term.0)) c.in-Ok-Some.field-0-is c.in-Ok-Some.ensures.term;
      settled = subst (λ (o : Option Reduced). IfSome o (λ z. AreSettled p.sig new (g.E.Evaluator.table c.once.new.evaluator) (tree_at new z.term.0))) c.in-Ok-Some.field-0-is c.in-Ok-Some.ensures.settled;
      told = parts_on p m n i.meanings v w i.wanted now new (g.E.Evaluator.table c.loop.evaluator) (g.E.Evaluator.table c.once.new.evaluator) c.once.ensures.extends c.once.ensures.kept
          (g.W.StepWatcher.told c.args.watcher.now) (g.W.StepWatcher.told c.loop.watcher) (g.W.StepWatcher.told c.once.new.watcher) (tree_at c.args.store.now c.args.term.0) t (tree_at new x.term.0)
          c.args.tally.now.rewrites y.rewrites c.saturating_add-tally.result i.told c.once.ensures.behind
          (λ e. part_of p n.hooks new (g.E.Evaluator.table c.once.new.evaluator) (g.W.StepWatcher.told c.loop.watcher) (g.W.StepWatcher.told c.once.new.watcher) t (tree_at new x.term.0) y.rewrites x.rewrites c.saturating_add-tally.result c.saturating_add-tally.ensures
          (subst (λ (o : Option Reduced). IfSome o (λ z. TellsRules p n.hooks new (g.E.Evaluator.table c.once.new.evaluator) (g.W.StepWatcher.told c.loop.watcher) (g.W.StepWatcher.told c.once.new.watcher) t (tree_at new z.term.0) z.rewrites))
          c.in-Ok-Some.field-0-is (c.in-Ok-Some.ensures.told e)));
      known = λ f b0 K h.
          counted_once p m.hooks I gas f b0 y.rewrites turns y K c.loop.budget (gas - c.loop.counter) (gas - (c.loop.counter + 1)) (one_less_left gas c.loop.counter c.loop-test.true) t out (i.known f b0 K h)
          (turns_of c.once.new.run.turns.items) new x mid c.saturating_add-tally.result (record { gas = y.gas; left = c.one_less-tally.result; made = true; rewrites = c.saturating_add-tally.result; by_top = y.by_top }) c.saturating_add-tally.ensures c.one_less-tally.ensures refl k;
    }

pub returns-clause-known : goal.returns-clause-known
returns-clause-known g c = λ f b0 K h.
    let p = c.args.program.now in
    let m = g.E.Evaluator.meanings c.args.evaluator.now in
    let w = g.W.StepWatcher.wanted c.args.watcher.now in
    let I = item_of m w in
    let y = c.loop.tally in
    let gas = c.args.tally.now.gas in
    counted_done p m.hooks I gas f b0 y.rewrites (turns_of c.loop.run.turns.items) y K c.loop.budget (gas - c.loop.counter) (tree_at c.loop.store c.loop.reached.0) (none_left gas c.loop.counter c.loop-test.false) (c.loop.invariant.known f b0 K h)

pub once-requires-clause-by_top : goal.once-requires-clause-by_top
once-requires-clause-by_top g c = subst (λ (x : RulesByTop). AreRulesByTop c.args.program.now (map (λ list. list.items) x.orders.items)) (sym c.loop.invariant.by_top) c.requires.by_top

-- ---- what is told

pub returns-then-is_out-clause-told : goal.returns-then-is_out-clause-told
returns-then-is_out-clause-told g c = c.loop.invariant.told.part

pub returns-then-is_out-clause-behind : goal.returns-then-is_out-clause-behind
returns-then-is_out-clause-behind g c = c.loop.invariant.told.behind

pub returns-clause-told : goal.returns-clause-told
returns-clause-told g c = c.loop.invariant.told.part

pub returns-clause-behind : goal.returns-clause-behind
returns-clause-behind g c = c.loop.invariant.told.behind

pub returns-in-Ok-None-clause-told : goal.returns-in-Ok-None-clause-told
returns-in-Ok-None-clause-told g c =
    let p = c.args.program.now in
    let m = g.E.Evaluator.meanings c.args.evaluator.now in
    let i = c.loop.invariant in
    let now = c.loop.store in
    let new = c.once.new.store in
    let b = g.W.StepWatcher.told c.loop.watcher in
    let d = g.W.StepWatcher.told c.once.new.watcher in
    let untold = subst (λ (o : Option Reduced). IfNone o (d ≡ b)) c.in-Ok-None.field-0-is c.in-Ok-None.ensures.untold in
    (parts_still p m.hooks (g.W.StepWatcher.wanted c.args.watcher.now) now new (g.E.Evaluator.table c.loop.evaluator) (g.E.Evaluator.table c.once.new.evaluator) c.once.ensures.extends c.once.ensures.kept
    (g.W.StepWatcher.told c.args.watcher.now) b d untold (tree_at c.args.store.now c.args.term.0) (tree_at now c.loop.reached.0) (tree_at new c.loop.reached.0)
    (tree_kept (theory_at p.sig) now new c.loop.reached.0 c.once.ensures.extends i.term.within) c.args.tally.now.rewrites c.loop.tally.rewrites i.told).part

pub returns-in-Ok-None-clause-behind : goal.returns-in-Ok-None-clause-behind
returns-in-Ok-None-clause-behind g c = behind_on (g.W.StepWatcher.wanted c.loop.watcher) (g.W.StepWatcher.wanted c.args.watcher.now) (g.W.StepWatcher.told c.args.watcher.now) (g.W.StepWatcher.told c.loop.watcher) (g.W.StepWatcher.told c.once.new.watcher) c.loop.invariant.wanted c.loop.invariant.told.behind c.once.ensures.behind

pub returns-in-Err-clause-behind : goal.returns-in-Err-clause-behind
returns-in-Err-clause-behind g c = behind_on (g.W.StepWatcher.wanted c.loop.watcher) (g.W.StepWatcher.wanted c.args.watcher.now) (g.W.StepWatcher.told c.args.watcher.now) (g.W.StepWatcher.told c.loop.watcher) (g.W.StepWatcher.told c.once.new.watcher) c.loop.invariant.wanted c.loop.invariant.told.behind c.once.ensures.behind
