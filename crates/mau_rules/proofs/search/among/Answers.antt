use Rattle.std.proofs.Common.{◌≡◌, ◌<◌, ℕ, List, Option, Some, None, Ok, Err, IfSome, IfNone, length, get_or, refl, sym, ap, ◌∙◌, subst, arith, le_trans}
use Rattle.std.specs.Prelude.{nat_lt}
use Rattle.std.specs.List.{count_by}
use Rattle.std.proofs.lemmas.List.{length-map}
use Rattle.std.proofs.lemmas.Option.{slice_get_within}
use Rattle.mau_terms.specs.Tree.{Tree}
use Rattle.mau_signature.specs.Signature.{theory_at}
use Rattle.mau_store.specs.Trees.{tree_at}
use Rattle.mau_store.proofs.Growth.{extension_is_preorder}
use Rattle.mau_sorts.proofs.Settling.{kept_on, kept_same}
use Rattle.mau_evaluation.specs.Program as Definition
use Rattle.mau_evaluation.specs.Rules.{Place}
use Rattle.mau_evaluation.specs.RuleRuns.{cyclically}
use Rattle.mau_api.specs.Programs.{rule_of, program_over}
use Rattle.mau_api.specs.Meanings.{Meanings}
use Rattle.mau_api.specs.Answers.{AreSettled}
use Rattle.mau_reduce.specs.ByTop.{top_number}
use Rattle.mau_reduce.proofs.KindsKept.{tree_kept, is_term_kept}
use Rattle.mau_reduce.proofs.PlainTables.{settled_grown}
use Rattle.mau_rules.specs.declared.attempt.Found.{Found}
use Rattle.mau_rules.specs.Runnable.{GoesBy}
use Rattle.mau_rules.specs.Found.{IsFound, item_of, rule_at, rules_in, found_stand, KnownSearch}
use Rattle.mau_rules.specs.Telling.{TellsFound}
use Rattle.mau_rules.proofs.Cyclic.{cyclic_length}
use Rattle.mau_rules.specs.ByTop.{rules_under}
use Rattle.mau_rules.proofs.ByTop.{begins_under, stands_under}
use Rattle.mau_rules.proofs.Placed.{each_rule, none_at, search_so, search_found, search_ends, search_past}
use Rattle.mau_rules.proofs.Told.{behind_equal, behind_on, found_as}
use Rattle.mau_rules.proofs.search.among.Goals as goal

pub loop-index-init : goal.loop-index-init
loop-index-init g c = record {
  meanings = refl;
  fits = c.requires.fits;
  extends = extension_is_preorder.reflexive c.args.store.now;
  kept = kept_same (g.E.Evaluator.table c.args.evaluator.now);
  falls = omega arith;
  told = refl;
  wanted = refl;
  goes_on = λ h around e.
      let t = tree_at c.args.store.now c.args.term.0 in
      begins_under c.args.program.now c.requires.runnable (g.E.Evaluator.meanings c.args.evaluator.now).hooks t c.requires.term.within.normal c.requires.term.bare
      (item_of (g.E.Evaluator.meanings c.args.evaluator.now) (g.W.StepWatcher.wanted c.args.watcher.now)) h (record { term = t; around = around }) refl c.args.turn c.below_turn-first.result e
      (c.below_turn-first.ensures ∙ ap (λ ns. count_by (λ i. nat_lt i c.args.turn) ns) c.requires.numbers) c.args.budget.now;
}

pub by_rule-requires-clause-goes_by : goal.by_rule-requires-clause-goes_by
by_rule-requires-clause-goes_by g c = subst (λ (n : Meanings). GoesBy c.args.program.now n) (sym c.loop-index.invariant.meanings) c.requires.goes_by

pub by_rule-requires-clause-term : goal.by_rule-requires-clause-term
by_rule-requires-clause-term g c = is_term_kept c.args.program.now.sig c.args.store.now c.loop-index.store c.args.term.0 c.loop-index.invariant.extends c.requires.term

pub by_rule-requires-clause-settled : goal.by_rule-requires-clause-settled
by_rule-requires-clause-settled g c =
    let s = c.args.program.now.sig in
    let same = tree_kept (theory_at s) c.args.store.now c.loop-index.store c.args.term.0 c.loop-index.invariant.extends c.requires.term.within in
    subst (λ (t : Tree). AreSettled s c.loop-index.store (g.E.Evaluator.table c.loop-index.evaluator) t) (sym same) (settled_grown s c.args.store.now c.loop-index.store (g.E.Evaluator.table c.args.evaluator.now) (g.E.Evaluator.table c.loop-index.evaluator) (tree_at c.args.store.now c.args.term.0) c.loop-index.invariant.extends c.loop-index.invariant.kept c.requires.settled)

pub by_rule-requires-clause-number : goal.by_rule-requires-clause-number
by_rule-requires-clause-number g c =
    let p = c.args.program.now in
    let t = tree_at c.args.store.now c.args.term.0 in
    let number = get_or c.args.numbers.now c.cyclic.result 0 in
    let qs = rules_under p (top_number t) in
    let count : length c.args.numbers.now ≡ length qs = ap (λ (ns : List ℕ). length ns) c.requires.numbers ∙ length-map qs (λ (q : ℕ × Definition.Rule). q.0) in
    let r = stands_under p (top_number t) c.cyclic.result number (omega (arith, count, c.cyclic.ensures.within)) (ap (λ ns. get_or ns c.cyclic.result 0) c.requires.numbers) in
    slice_get_within p.rules number r.rule r.at

pub returns-clause-known : goal.returns-clause-known
returns-clause-known g c = λ h around e.
    let p = c.args.program.now in
    let m = g.E.Evaluator.meanings c.args.evaluator.now in
    let P = program_over p m.hooks in
    let I = item_of m (g.W.StepWatcher.wanted c.args.watcher.now) in
    let s : Place = record { term = tree_at c.args.store.now c.args.term.0; around = around } in
    let qs = rules_under p (top_number s.term) in
    let xs = cyclically c.below_turn-first.result qs in
    let count : length c.args.numbers.now ≡ length qs = ap (λ (ns : List ℕ). length ns) c.requires.numbers ∙ length-map qs (λ q. q.0) in
    let long : length xs ≡ length qs = cyclic_length qs c.below_turn-first.result in
    none_at I (each_rule P I h s) (rules_in P h s) c.args.budget.now xs c.loop-index.index (omega (arith, long, count, c.loop-index-test.false)) c.loop-index.budget (c.loop-index.invariant.goes_on h around e)

pub returns-in-Ok-Some-clause-known : goal.returns-in-Ok-Some-clause-known
returns-in-Ok-Some-clause-known g c = λ h around e.
    let p = c.args.program.now in
    let m = g.E.Evaluator.meanings c.args.evaluator.now in
    let n = g.E.Evaluator.meanings c.loop-index.evaluator in
    let P = program_over p m.hooks in
    let I = item_of m (g.W.StepWatcher.wanted c.args.watcher.now) in
    let t = tree_at c.args.store.now c.args.term.0 in
    let now = c.loop-index.store in
    let new = c.by_rule.new.store in
    let i = c.loop-index.invariant in
    let number = get_or c.args.numbers.now c.cyclic.result 0 in
    let same : tree_at now c.args.term.0 ≡ t = tree_kept (theory_at p.sig) c.args.store.now now c.args.term.0 i.extends c.requires.term.within in
    let qs = rules_under p (top_number t) in
    let count : length c.args.numbers.now ≡ length qs = ap (λ (ns : List ℕ). length ns) c.requires.numbers ∙ length-map qs (λ (q : ℕ × Definition.Rule). q.0) in
    let r = stands_under p (top_number t) c.cyclic.result number (omega (arith, count, c.cyclic.ensures.within)) (ap (λ ns. get_or ns c.cyclic.result 0) c.requires.numbers) in
    let q : ℕ × Definition.Rule = (number, rule_of r.rule) in
    let xs = cyclically c.below_turn-first.result qs in
    let long : length xs ≡ length qs = cyclic_length qs c.below_turn-first.result in
    let low : c.loop-index.index < length xs = omega (arith, long, count, c.loop-index-test.true) in
    let at : get_or xs c.loop-index.index q ≡ q = c.cyclic.ensures.place qs q (sym count) ∙ r.is in
    let x = c.in-Ok-Some.found in
    let known = subst (λ (o : Option Found). KnownSearch (item_of n (g.W.StepWatcher.wanted c.loop-index.watcher)) (rule_at (program_over p n.hooks) h (record { term = tree_at now c.args.term.0; around = around }) q) c.loop-index.budget
    (found_stand p (program_over p n.hooks) h (record { term = tree_at now c.args.term.0; around = around }) new) (Ok o) c.by_rule.new.budget) c.in-Ok-Some.field-0-is (c.in-Ok-Some.ensures.known h around r.rule r.at) in
    let is = subst (λ (u : Tree). IsFound p new (g.E.Evaluator.table c.by_rule.new.evaluator) u x) same (subst (λ (o : Option Found). IfSome o (IsFound p new (g.E.Evaluator.table c.by_rule.new.evaluator) (tree_at now c.args.term.0))) c.in-Ok-Some.field-0-is c.in-Ok-Some.ensures.found) in
    search_found p P I h (record { term = t; around = around }) c.args.budget.now xs c.loop-index.index q low at c.loop-index.budget (i.goes_on h around e) new (g.E.Evaluator.table c.by_rule.new.evaluator) c.by_rule.new.budget x is
    (search_so p m n (g.W.StepWatcher.wanted c.loop-index.watcher) (g.W.StepWatcher.wanted c.args.watcher.now) i.meanings i.wanted t (tree_at now c.args.term.0) same h around q c.loop-index.budget new (Ok (Some x)) c.by_rule.new.budget known)

pub returns-in-Ok-Some-clause-found : goal.returns-in-Ok-Some-clause-found
returns-in-Ok-Some-clause-found g c =
    let p = c.args.program.now in
    let same = tree_kept (theory_at p.sig) c.args.store.now c.loop-index.store c.args.term.0 c.loop-index.invariant.extends c.requires.term.within in
    subst (λ (u : Tree). IsFound p c.by_rule.new.store (g.E.Evaluator.table c.by_rule.new.evaluator) u c.in-Ok-Some.found) same
    (subst (λ (o : Option Found). IfSome o (IsFound p c.by_rule.new.store (g.E.Evaluator.table c.by_rule.new.evaluator) (tree_at c.loop-index.store c.args.term.0))) c.in-Ok-Some.field-0-is c.in-Ok-Some.ensures.found)

pub returns-in-Err-clause-known : goal.returns-in-Err-clause-known
returns-in-Err-clause-known g c = λ h around e.
    let p = c.args.program.now in
    let m = g.E.Evaluator.meanings c.args.evaluator.now in
    let n = g.E.Evaluator.meanings c.loop-index.evaluator in
    let P = program_over p m.hooks in
    let I = item_of m (g.W.StepWatcher.wanted c.args.watcher.now) in
    let t = tree_at c.args.store.now c.args.term.0 in
    let now = c.loop-index.store in
    let new = c.by_rule.new.store in
    let i = c.loop-index.invariant in
    let number = get_or c.args.numbers.now c.cyclic.result 0 in
    let same : tree_at now c.args.term.0 ≡ t = tree_kept (theory_at p.sig) c.args.store.now now c.args.term.0 i.extends c.requires.term.within in
    let qs = rules_under p (top_number t) in
    let count : length c.args.numbers.now ≡ length qs = ap (λ (ns : List ℕ). length ns) c.requires.numbers ∙ length-map qs (λ (q : ℕ × Definition.Rule). q.0) in
    let r = stands_under p (top_number t) c.cyclic.result number (omega (arith, count, c.cyclic.ensures.within)) (ap (λ ns. get_or ns c.cyclic.result 0) c.requires.numbers) in
    let q : ℕ × Definition.Rule = (number, rule_of r.rule) in
    let xs = cyclically c.below_turn-first.result qs in
    let long : length xs ≡ length qs = cyclic_length qs c.below_turn-first.result in
    let low : c.loop-index.index < length xs = omega (arith, long, count, c.loop-index-test.true) in
    let at : get_or xs c.loop-index.index q ≡ q = c.cyclic.ensures.place qs q (sym count) ∙ r.is in
    search_ends p P I h (record { term = t; around = around }) c.args.budget.now xs c.loop-index.index q low at c.loop-index.budget (i.goes_on h around e) new (g.E.Evaluator.table c.by_rule.new.evaluator) c.by_rule.new.budget c.in-Err.end
    (search_so p m n (g.W.StepWatcher.wanted c.loop-index.watcher) (g.W.StepWatcher.wanted c.args.watcher.now) i.meanings i.wanted t (tree_at now c.args.term.0) same h around q c.loop-index.budget new (Err c.in-Err.end) c.by_rule.new.budget (c.in-Err.ensures.known h around r.rule r.at))

pub loop-index-preserved : goal.loop-index-preserved
loop-index-preserved g c =
    let p = c.args.program.now in
    let m = g.E.Evaluator.meanings c.args.evaluator.now in
    let n = g.E.Evaluator.meanings c.loop-index.evaluator in
    let P = program_over p m.hooks in
    let I = item_of m (g.W.StepWatcher.wanted c.args.watcher.now) in
    let t = tree_at c.args.store.now c.args.term.0 in
    let now = c.loop-index.store in
    let new = c.by_rule.new.store in
    let i = c.loop-index.invariant in
    let number = get_or c.args.numbers.now c.cyclic.result 0 in
    let same : tree_at now c.args.term.0 ≡ t = tree_kept (theory_at p.sig) c.args.store.now now c.args.term.0 i.extends c.requires.term.within in
    let qs = rules_under p (top_number t) in
    let count : length c.args.numbers.now ≡ length qs = ap (λ (ns : List ℕ). length ns) c.requires.numbers ∙ length-map qs (λ (q : ℕ × Definition.Rule). q.0) in
    let r = stands_under p (top_number t) c.cyclic.result number (omega (arith, count, c.cyclic.ensures.within)) (ap (λ ns. get_or ns c.cyclic.result 0) c.requires.numbers) in
    let q : ℕ × Definition.Rule = (number, rule_of r.rule) in
    let xs = cyclically c.below_turn-first.result qs in
    let long : length xs ≡ length qs = cyclic_length qs c.below_turn-first.result in
    let low : c.loop-index.index < length xs = omega (arith, long, count, c.loop-index-test.true) in
    let at : get_or xs c.loop-index.index q ≡ q = c.cyclic.ensures.place qs q (sym count) ∙ r.is in
    record {
      meanings = c.by_rule.ensures.meanings ∙ i.meanings;
      fits = c.by_rule.ensures.fits;
      extends = extension_is_preorder.transitive c.args.store.now now new i.extends c.by_rule.ensures.extends;
      kept = kept_on (g.E.Evaluator.table c.args.evaluator.now) (g.E.Evaluator.table c.loop-index.evaluator) (g.E.Evaluator.table c.by_rule.new.evaluator) i.kept c.by_rule.ensures.kept;
      falls = le_trans c.by_rule.ensures.falls i.falls;
      told = subst (λ (o : Option Found). IfNone o (g.W.StepWatcher.told c.by_rule.new.watcher ≡ g.W.StepWatcher.told c.loop-index.watcher)) c.in-Ok-None.field-0-is c.in-Ok-None.ensures.untold ∙ i.told;
      wanted = c.by_rule.ensures.wanted ∙ i.wanted;
      goes_on = λ h around e.
          let known = subst (λ (o : Option Found). KnownSearch (item_of n (g.W.StepWatcher.wanted c.loop-index.watcher)) (rule_at (program_over p n.hooks) h (record { term = tree_at now c.args.term.0; around = around }) q) c.loop-index.budget
          (found_stand p (program_over p n.hooks) h (record { term = tree_at now c.args.term.0; around = around }) new) (Ok o) c.by_rule.new.budget) c.in-Ok-None.field-0-is (c.in-Ok-None.ensures.known h around r.rule r.at) in
          search_past p P I h (record { term = t; around = around }) c.args.budget.now xs c.loop-index.index q low at c.loop-index.budget (i.goes_on h around e) new (g.E.Evaluator.table c.by_rule.new.evaluator) c.by_rule.new.budget
          (search_so p m n (g.W.StepWatcher.wanted c.loop-index.watcher) (g.W.StepWatcher.wanted c.args.watcher.now) i.meanings i.wanted t (tree_at now c.args.term.0) same h around q c.loop-index.budget new (Ok None) c.by_rule.new.budget known);
    }

pub returns-in-Ok-Some-clause-kept : goal.returns-in-Ok-Some-clause-kept
returns-in-Ok-Some-clause-kept g c = kept_on (g.E.Evaluator.table c.args.evaluator.now) (g.E.Evaluator.table c.loop-index.evaluator) (g.E.Evaluator.table c.by_rule.new.evaluator) c.loop-index.invariant.kept c.by_rule.ensures.kept

pub returns-in-Err-clause-kept : goal.returns-in-Err-clause-kept
returns-in-Err-clause-kept g c = kept_on (g.E.Evaluator.table c.args.evaluator.now) (g.E.Evaluator.table c.loop-index.evaluator) (g.E.Evaluator.table c.by_rule.new.evaluator) c.loop-index.invariant.kept c.by_rule.ensures.kept

-- ---- what is told

pub returns-in-Ok-Some-clause-told : goal.returns-in-Ok-Some-clause-told
returns-in-Ok-Some-clause-told g c = λ w.
    let p = c.args.program.now in
    let m = g.E.Evaluator.meanings c.args.evaluator.now in
    let n = g.E.Evaluator.meanings c.loop-index.evaluator in
    let i = c.loop-index.invariant in
    let new = c.by_rule.new.store in
    let table = g.E.Evaluator.table c.by_rule.new.evaluator in
    let a = g.W.StepWatcher.told c.args.watcher.now in
    let b = g.W.StepWatcher.told c.loop-index.watcher in
    let d = g.W.StepWatcher.told c.by_rule.new.watcher in
    found_as p m n i.meanings new table a b d i.told c.in-Ok-Some.found
    (subst (λ (o : Option Found). IfSome o (TellsFound p n.hooks new table b d)) c.in-Ok-Some.field-0-is (c.in-Ok-Some.ensures.told (i.wanted ∙ w)))

pub returns-in-Ok-Some-clause-behind : goal.returns-in-Ok-Some-clause-behind
returns-in-Ok-Some-clause-behind g c =
    let w = g.W.StepWatcher.wanted c.args.watcher.now in
    let a = g.W.StepWatcher.told c.args.watcher.now in
    let b = g.W.StepWatcher.told c.loop-index.watcher in
    behind_on (g.W.StepWatcher.wanted c.loop-index.watcher) w a b (g.W.StepWatcher.told c.by_rule.new.watcher) c.loop-index.invariant.wanted (behind_equal w a b c.loop-index.invariant.told) c.by_rule.ensures.behind

pub returns-in-Err-clause-behind : goal.returns-in-Err-clause-behind
returns-in-Err-clause-behind g c =
    let w = g.W.StepWatcher.wanted c.args.watcher.now in
    let a = g.W.StepWatcher.told c.args.watcher.now in
    let b = g.W.StepWatcher.told c.loop-index.watcher in
    behind_on (g.W.StepWatcher.wanted c.loop-index.watcher) w a b (g.W.StepWatcher.told c.by_rule.new.watcher) c.loop-index.invariant.wanted (behind_equal w a b c.loop-index.invariant.told) c.by_rule.ensures.behind

pub returns-clause-behind : goal.returns-clause-behind
returns-clause-behind g c = behind_equal (g.W.StepWatcher.wanted c.args.watcher.now) (g.W.StepWatcher.told c.args.watcher.now) (g.W.StepWatcher.told c.loop-index.watcher) c.loop-index.invariant.told
