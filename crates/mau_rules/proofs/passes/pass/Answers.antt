use Rattle.std.proofs.Common.{◌≡◌, ◌-◌, ◌++◌, ◌∷◌, [], ℕ, suc, List, true, false, Option, Ok, Err, IfSome, length, map, refl, sym, ap, ap₂, ◌∙◌, subst, arith, rules, vec_len, le_trans}
use Rattle.mau_terms.specs.declared.ids.TermId.{TermId}
use Rattle.mau_store.specs.Trees.{tree_at}
use Rattle.mau_store.proofs.Growth.{extension_is_preorder}
use Rattle.mau_sorts.proofs.Settling.{kept_on, kept_same}
use Rattle.mau_evaluation.specs.RuleRuns.{is_out}
use Rattle.mau_api.specs.Programs.{program_over}
use Rattle.mau_api.specs.Meanings.{Meanings}
use Rattle.mau_reduce.proofs.KindsKept.{is_term_kept, tree_kept}
use Rattle.mau_signature.specs.Signature.{theory_at}
use Rattle.mau_rules.specs.declared.frames.Frame.{Frame}
use Rattle.mau_rules.specs.declared.by_top.RulesByTop.{RulesByTop}
use Rattle.mau_rules.specs.ByTop.{AreRulesByTop}
use Rattle.mau_rules.specs.Runnable.{GoesBy}
use Rattle.mau_rules.specs.Counted.{IsCounted}
use Rattle.mau_rules.specs.Found.{item_of}
use Rattle.mau_rules.specs.Runs.{turns_of}
use Rattle.mau_rules.specs.Walk.{Opened, around_all}
use Rattle.mau_rules.specs.Passes.{frame_in, IsChain, IsNext, Onward, open_by, top_by, through_by, behind_pass, pass_with}
use Rattle.mau_rules.proofs.Putting.{written}
use Rattle.mau_rules.proofs.Closing.{no_items}
use Rattle.mau_rules.proofs.OpenTerms.{chain_before, chain_frame, chain_step, chain_kept, frames_same, entered_within, put_frame, put_stands}
use Rattle.mau_rules.proofs.PassSteps.{counted_top}
use Rattle.mau_rules.proofs.PassWalk.{within_entered, within_again, within_last, within_out, top_so}
use Rattle.mau_rules.proofs.PassEnds.{whole_closed}
use Rattle.mau_api.specs.Events.{entered}
use Rattle.mau_api.specs.declared.step.Place.TheVariants.{Whole, Argument}
use Rattle.mau_rules.specs.Telling.{first_term, TellsRound, TellsReached, TellsWithin, TellsPart, TellsPass}
use Rattle.mau_rules.proofs.Told.{behind_on}
use Rattle.mau_rules.proofs.Parts.{adds_none, first_push, round_fresh, within_begins, within_push, within_pop, within_end, both_ok, pass_part, chain_from, IsPassing, passing_reached}
use Rattle.std.proofs.lemmas.Result.{IfOk-weaker}
use Rattle.mau_api.specs.Terms.{IsTerm}
use Rattle.mau_rules.proofs.passes.pass.Goals as goal

less : (n i : ℕ) → n ≡ suc i → n - 1 ≡ i
less n i e = omega (arith, e)

never : false ≡ true → ⊥
never e = cc

pub loop-init : goal.loop-init
loop-init g c =
    let p = c.args.program.now in
    let m = g.E.Evaluator.meanings c.args.evaluator.now in
    let w = g.W.StepWatcher.wanted c.args.watcher.now in
    let s0 = c.args.store.now in
    let t = tree_at s0 c.args.run.now.term.0 in
    let P = program_over p m.hooks in
    let gas = c.args.tally.now.gas in
    let turns = turns_of c.args.run.now.turns.items in
    let none : c.new-frames.result.items ≡ [] = c.new-frames.ensures.items in
    record {
      meanings = refl;
      fits = c.requires.fits;
      extends = extension_is_preorder.reflexive s0;
      kept = kept_same (g.E.Evaluator.table c.args.evaluator.now);
      wanted = c.open_whole.ensures.wanted;
      falls = omega arith;
      gas = refl;
      by_top = refl;
      run = c.requires.run;
      frame = c.in-Ok.ensures.frame;
      chain = (c.in-Ok.at.term.0, subst (λ (xs : List Frame). IsChain p.sig s0 c.in-Ok.at.term.0 xs c.in-Ok.at.term.0) (sym none) refl);
      more = c.requires.more;
      behind = c.open_whole.ensures.behind;
      told = λ e.
          let at = c.in-Ok.at in
          let table = g.E.Evaluator.table c.args.evaluator.now in
          let a = g.W.StepWatcher.told c.args.watcher.now in
          let b = g.W.StepWatcher.told c.open_whole.new.watcher in
          let fresh = round_fresh p m.hooks s0 table at (ap (λ (o : Opened). o.0) c.in-Ok.ensures.stands ∙ ap (λ (i : TermId). tree_at s0 i.0) (sym c.in-Ok.ensures.term)) in
          let is = c.in-Ok.ensures.told e ∙ ap (λ (i : TermId). a ++ entered i Whole ∷ []) (sym c.in-Ok.ensures.term) in
          subst (λ (xs : List Frame). IsPassing p m.hooks s0 table c.args.run.now.term at xs a b c.args.tally.now.rewrites c.args.tally.now.rewrites) (sym none)
          (record { count = 0; first = c.in-Ok.ensures.term; within = within_begins p m.hooks s0 table (TellsRound p m.hooks s0 table at) fresh at.term a b is; adds = adds_none c.args.tally.now.rewrites });
      known = λ f b0 h. (
        t,
        subst (λ (xs : List Frame). IsCounted (item_of m w) f b0 c.args.tally.now.rewrites (open_by P gas (frame_in s0 c.in-Ok.at) (pass_with t turns c.args.tally.now) (through_by P gas (map (frame_in s0) xs) (behind_pass P gas))) c.args.budget.now) (sym none)
            (subst (λ (o : Opened). IsCounted (item_of m w) f b0 c.args.tally.now.rewrites (open_by P gas o (pass_with t turns c.args.tally.now) (behind_pass P gas)) c.args.budget.now) (sym c.in-Ok.ensures.stands) h),
      );
    }

pub enter-requires-clause-next : goal.enter-requires-clause-next
enter-requires-clause-next g c = subst (λ (o : Option (ℕ × TermId)). IfSome o (λ z. IsNext c.args.program.now.sig c.loop.store c.loop.at z.0 z.1.0)) c.in-Some.is c.next_argument.ensures.some

pub loop-preserved-in-Some : goal.loop-preserved-in-Some
loop-preserved-in-Some g c =
    let p = c.args.program.now in
    let m = g.E.Evaluator.meanings c.args.evaluator.now in
    let w = g.W.StepWatcher.wanted c.args.watcher.now in
    let i = c.loop.invariant in
    let now = c.loop.store in
    let next = subst (λ (o : Option (ℕ × TermId)). IfSome o (λ z. IsNext p.sig now c.loop.at z.0 z.1.0)) c.in-Some.is c.next_argument.ensures.some in
    record {
      meanings = i.meanings;
      fits = i.fits;
      extends = i.extends;
      kept = i.kept;
      wanted = c.enter.ensures.wanted ∙ i.wanted;
      falls = i.falls;
      gas = i.gas;
      by_top = i.by_top;
      run = i.run;
      frame = c.in-Ok-enter.ensures.frame;
      chain = c.in-Ok-enter.ensures.chain;
      more = i.more;
      behind = behind_on (g.W.StepWatcher.wanted c.loop.watcher) w (g.W.StepWatcher.told c.args.watcher.now) (g.W.StepWatcher.told c.loop.watcher) (g.W.StepWatcher.told c.enter.new.watcher) i.wanted i.behind c.enter.ensures.behind;
      told = λ e.
          let h = i.told e in
          let table = g.E.Evaluator.table c.loop.evaluator in
          let a = g.W.StepWatcher.told c.args.watcher.now in
          let b = g.W.StepWatcher.told c.loop.watcher in
          let d = g.W.StepWatcher.told c.enter.new.watcher in
          let w1 = c.in-Ok-enter.ensures.pushed in
          let inner = c.in-Ok-enter.inner in
          let xs = c.loop.frames.items in
          let fresh = round_fresh p m.hooks now table inner (ap (λ (o : Opened). o.0) c.in-Ok-enter.ensures.stands ∙ ap (λ (j : TermId). tree_at now j.0) (sym c.in-Ok-enter.ensures.term)) in
          let is = c.in-Ok-enter.ensures.told (i.wanted ∙ e) ∙ ap₂ (λ (j : TermId) (k : ℕ). b ++ entered j (Argument (k - 1)) ∷ []) (sym c.in-Ok-enter.ensures.term) (sym w1.3) in
          subst (λ (zs : List Frame). IsPassing p m.hooks now table c.args.run.now.term inner zs a d c.args.tally.now.rewrites c.loop.tally.rewrites) (sym w1.4)
          (record {
            count = h.count;
            first = first_push p m.hooks now table xs w1.0 inner.term ∙ (ap (first_term xs) w1.1 ∙ h.first);
            within = within_push p m.hooks now table (TellsRound p m.hooks now table inner) fresh c.loop.at w1.0 w1.1 w1.2 inner.term xs a b d h.count is h.within;
            adds = h.adds;
          });
      known = λ f b0 h.
          within_entered p m.hooks (item_of m w) c.args.tally.now.gas f b0 (behind_pass (program_over p m.hooks) c.args.tally.now.gas) (turns_of c.loop.run.turns.items) c.loop.tally c.loop.budget now c.len.ensures.nodes c.loop.frames.items c.enter.new.frames.items c.loop.at c.in-Ok-enter.inner
          c.in-Some.next c.in-Some.child.0 next c.in-Ok-enter.ensures.stands c.in-Ok-enter.ensures.frames (i.known f b0 h);
    }

pub passed-requires-clause-goes_by : goal.passed-requires-clause-goes_by
passed-requires-clause-goes_by g c = subst (λ (n : Meanings). GoesBy c.args.program.now n) (sym c.loop.invariant.meanings) c.requires.goes_by

pub returns-in-Err-passed-clause-known : goal.returns-in-Err-passed-clause-known
returns-in-Err-passed-clause-known g c = λ f b0 h.
    let p = c.args.program.now in
    let m = g.E.Evaluator.meanings c.args.evaluator.now in
    let w = g.W.StepWatcher.wanted c.args.watcher.now in
    let n = g.E.Evaluator.meanings c.loop.evaluator in
    let v = g.W.StepWatcher.wanted c.loop.watcher in
    let I = item_of m w in
    let P = program_over p m.hooks in
    let i = c.loop.invariant in
    let now = c.loop.store in
    let gas = c.args.tally.now.gas in
    let y = c.loop.tally in
    let turns = turns_of c.loop.run.turns.items in
    let L : Onward = through_by P gas (map (frame_in now) c.loop.frames.items) (behind_pass P gas) in
    let k = i.known f b0 h in
    let top = counted_top p m.hooks I gas f b0 y.rewrites now c.len.ensures.nodes c.loop.at turns y L c.loop.budget k.0 k.1 i.frame.term.within.there c.in_default.ensures.none in
    top_so p m n v w i.meanings i.wanted y.rewrites y.gas (frame_in now c.loop.at).0 turns y c.loop.budget c.passed.new.store (turns_of c.passed.new.run.turns.items) c.passed.new.tally (Err c.in-Err-passed.end) c.passed.new.budget
    c.in-Err-passed.ensures.known f b0 L (subst (λ j. IsCounted I f b0 y.rewrites (top_by P j (pass_with (frame_in now c.loop.at).0 turns y) L) c.loop.budget) (sym i.gas) top)

pub returns-in-Err-passed-clause-kept : goal.returns-in-Err-passed-clause-kept
returns-in-Err-passed-clause-kept g c = kept_on (g.E.Evaluator.table c.args.evaluator.now) (g.E.Evaluator.table c.loop.evaluator) (g.E.Evaluator.table c.passed.new.evaluator) c.loop.invariant.kept c.passed.ensures.kept

pub close_all-requires-clause-stands : goal.close_all-requires-clause-stands
close_all-requires-clause-stands g c =
    let i = c.loop.invariant in
    (i.chain.0, c.loop.at.term.0, chain_kept c.args.program.now.sig c.loop.store c.passed.new.store c.passed.ensures.extends i.chain.0 c.loop.frames.items c.loop.at.term.0 i.chain.1, c.in-Ok-passed.ensures.kind)

pub returns-then-is_out-clause-known : goal.returns-then-is_out-clause-known
returns-then-is_out-clause-known g c = λ f b0 h.
    let p = c.args.program.now in
    let m = g.E.Evaluator.meanings c.args.evaluator.now in
    let w = g.W.StepWatcher.wanted c.args.watcher.now in
    let n = g.E.Evaluator.meanings c.loop.evaluator in
    let v = g.W.StepWatcher.wanted c.loop.watcher in
    let I = item_of m w in
    let P = program_over p m.hooks in
    let i = c.loop.invariant in
    let now = c.loop.store in
    let new = c.passed.new.store in
    let gas = c.args.tally.now.gas in
    let y = c.loop.tally in
    let z = c.passed.new.tally in
    let turns = turns_of c.loop.run.turns.items in
    let after = turns_of c.passed.new.run.turns.items in
    let xs = c.loop.frames.items in
    let os = map (frame_in now) xs in
    let K : Onward = behind_pass P gas in
    let L : Onward = through_by P gas os K in
    let id = c.in-Ok-passed.term in
    let k = i.known f b0 h in
    let top = counted_top p m.hooks I gas f b0 y.rewrites now c.len.ensures.nodes c.loop.at turns y L c.loop.budget k.0 k.1 i.frame.term.within.there c.in_default.ensures.none in
    let held = top_so p m n v w i.meanings i.wanted y.rewrites y.gas (frame_in now c.loop.at).0 turns y c.loop.budget new after z (Ok id) c.passed.new.budget
    c.in-Ok-passed.ensures.known f b0 L (subst (λ j. IsCounted I f b0 y.rewrites (top_by P j (pass_with (frame_in now c.loop.at).0 turns y) L) c.loop.budget) (sym i.gas) top) in
    let same = sym (frames_same p.sig now new c.passed.ensures.extends c.len.ensures.nodes i.chain.0 xs c.loop.at.term.0 i.chain.1) in
    let out : is_out z.left ≡ true = sym c.is_out.ensures ∙ c.if-is_out.true in
    let t = around_all (λ r. r) (map (frame_in new) xs) (tree_at new id.0) in
    let whole = within_out p m.hooks I gas f b0 K after z c.passed.new.budget new os xs id.0 same out held in
    whole_closed p m.hooks I gas f b0 t after z c.passed.new.budget whole out c.close_all.new.store c.close_all.result c.close_all.ensures.value c.close_all.ensures.ends

pub returns-then-is_out-clause-run : goal.returns-then-is_out-clause-run
returns-then-is_out-clause-run g c = record {
  turns = c.passed.ensures.run.turns;
  term = is_term_kept c.args.program.now.sig c.passed.new.store c.close_all.new.store c.passed.new.run.term.0 c.close_all.ensures.extends c.passed.ensures.run.term;
}

pub returns-then-is_out-clause-kept : goal.returns-then-is_out-clause-kept
returns-then-is_out-clause-kept g c = kept_on (g.E.Evaluator.table c.args.evaluator.now) (g.E.Evaluator.table c.loop.evaluator) (g.E.Evaluator.table c.passed.new.evaluator) c.loop.invariant.kept c.passed.ensures.kept

pub returns-in-None-clause-kept : goal.returns-in-None-clause-kept
returns-in-None-clause-kept g c = kept_on (g.E.Evaluator.table c.args.evaluator.now) (g.E.Evaluator.table c.loop.evaluator) (g.E.Evaluator.table c.passed.new.evaluator) c.loop.invariant.kept c.passed.ensures.kept

pub returns-in-None-clause-known : goal.returns-in-None-clause-known
returns-in-None-clause-known g c = λ f b0 h.
    let p = c.args.program.now in
    let m = g.E.Evaluator.meanings c.args.evaluator.now in
    let w = g.W.StepWatcher.wanted c.args.watcher.now in
    let n = g.E.Evaluator.meanings c.loop.evaluator in
    let v = g.W.StepWatcher.wanted c.loop.watcher in
    let I = item_of m w in
    let P = program_over p m.hooks in
    let i = c.loop.invariant in
    let now = c.loop.store in
    let new = c.passed.new.store in
    let gas = c.args.tally.now.gas in
    let y = c.loop.tally in
    let z = c.passed.new.tally in
    let turns = turns_of c.loop.run.turns.items in
    let after = turns_of c.passed.new.run.turns.items in
    let xs = c.loop.frames.items in
    let os = map (frame_in now) xs in
    let K : Onward = behind_pass P gas in
    let L : Onward = through_by P gas os K in
    let id = c.in-Ok-passed.term in
    let k = i.known f b0 h in
    let top = counted_top p m.hooks I gas f b0 y.rewrites now c.len.ensures.nodes c.loop.at turns y L c.loop.budget k.0 k.1 i.frame.term.within.there c.in_default.ensures.none in
    let held = top_so p m n v w i.meanings i.wanted y.rewrites y.gas (frame_in now c.loop.at).0 turns y c.loop.budget new after z (Ok id) c.passed.new.budget
    c.in-Ok-passed.ensures.known f b0 L (subst (λ j. IsCounted I f b0 y.rewrites (top_by P j (pass_with (frame_in now c.loop.at).0 turns y) L) c.loop.budget) (sym i.gas) top) in
    let same = sym (frames_same p.sig now new c.passed.ensures.extends c.len.ensures.nodes i.chain.0 xs c.loop.at.term.0 i.chain.1) in
    let long : vec_len c.loop.frames ≡ length xs = search rules in
    let none : xs ≡ [] = no_items xs (λ low. never (c.in-None.ensures.variant.1 (omega (arith, low, long)))) in
    (tree_at new id.0, sym c.in-Ok-passed.ensures.kind.2.within.normal, λ out. refl, within_last p m.hooks I gas f b0 K after z c.passed.new.budget new os xs id.0 same none held)

pub put_in-at-requires-clause-next : goal.put_in-at-requires-clause-next
put_in-at-requires-clause-next g c =
    let s = c.args.program.now.sig in
    let now = c.loop.store in
    let i = c.loop.invariant in
    let xs = c.pop.new.self.items in
    let x = c.in-Some-pop.outer in
    let chain = subst (λ (zs : List Frame). IsChain s now i.chain.0 zs c.loop.at.term.0) c.in-Some-pop.ensures.items i.chain.1 in
    (entered_within s now x c.loop.at.term.0 (chain_step s now i.chain.0 xs x c.loop.at.term.0 chain)).0

pub put_in-at-requires-clause-within : goal.put_in-at-requires-clause-within
put_in-at-requires-clause-within g c =
    let s = c.args.program.now.sig in
    let now = c.loop.store in
    let i = c.loop.invariant in
    let xs = c.pop.new.self.items in
    let x = c.in-Some-pop.outer in
    let chain = subst (λ (zs : List Frame). IsChain s now i.chain.0 zs c.loop.at.term.0) c.in-Some-pop.ensures.items i.chain.1 in
    (entered_within s now x c.loop.at.term.0 (chain_step s now i.chain.0 xs x c.loop.at.term.0 chain)).1

pub loop-preserved : goal.loop-preserved
loop-preserved g c =
    let p = c.args.program.now in
    let s = p.sig in
    let m = g.E.Evaluator.meanings c.args.evaluator.now in
    let w = g.W.StepWatcher.wanted c.args.watcher.now in
    let n = g.E.Evaluator.meanings c.loop.evaluator in
    let v = g.W.StepWatcher.wanted c.loop.watcher in
    let I = item_of m w in
    let P = program_over p m.hooks in
    let i = c.loop.invariant in
    let now = c.loop.store in
    let new = c.passed.new.store in
    let gas = c.args.tally.now.gas in
    let y = c.loop.tally in
    let z = c.passed.new.tally in
    let turns = turns_of c.loop.run.turns.items in
    let after = turns_of c.passed.new.run.turns.items in
    let xs = c.loop.frames.items in
    let zs = c.pop.new.self.items in
    let x = c.in-Some-pop.outer in
    let r = c.put_in-at.result in
    let os = map (frame_in now) xs in
    let K : Onward = behind_pass P gas in
    let L : Onward = through_by P gas os K in
    let id = c.in-Ok-passed.term in
    let root = i.chain.0 in
    let child = c.loop.at.term.0 in
    let items : xs ≡ zs ++ x ∷ [] = c.in-Some-pop.ensures.items in
    let same = sym (frames_same s now new c.passed.ensures.extends c.len.ensures.nodes root xs child i.chain.1) in
    let chain = subst (λ (qs : List Frame). IsChain s new root qs child) items (chain_kept s now new c.passed.ensures.extends root xs child i.chain.1) in
    let e = chain_step s new root zs x child chain in
    let put = written x.args.items x.args.items r.args.items (x.next - 1) e.place id c.put_in-at.ensures.args refl (less x.next e.place e.next) in
    let is = chain_frame s new root zs x child chain in
    let frame = put_frame s new c.len-in-loop.ensures.nodes x is child id.0 e c.in-Ok-passed.ensures.kind r.args.items put r c.put_in-at.ensures.term refl in
    let made = put_stands s new c.len-in-loop.ensures.nodes x is child id.0 e c.in-Ok-passed.ensures.kind r.args.items put r c.put_in-at.ensures.term refl in
    let t1 = g.E.Evaluator.table c.loop.evaluator in
    let t2 = g.E.Evaluator.table c.passed.new.evaluator in
    let a = g.W.StepWatcher.told c.args.watcher.now in
    let b = g.W.StepWatcher.told c.loop.watcher in
    let d = g.W.StepWatcher.told c.passed.new.watcher in
    let f' = g.W.StepWatcher.told c.tell_exit.new.watcher in
    record {
      meanings = c.passed.ensures.meanings ∙ i.meanings;
      fits = c.passed.ensures.fits;
      extends = extension_is_preorder.transitive c.args.store.now now new i.extends c.passed.ensures.extends;
      kept = kept_on (g.E.Evaluator.table c.args.evaluator.now) (g.E.Evaluator.table c.loop.evaluator) (g.E.Evaluator.table c.passed.new.evaluator) i.kept c.passed.ensures.kept;
      wanted = c.tell_exit.ensures.wanted ∙ (c.passed.ensures.wanted ∙ i.wanted);
      falls = le_trans c.passed.ensures.falls i.falls;
      gas = c.passed.ensures.gas ∙ i.gas;
      by_top = c.passed.ensures.by_top ∙ i.by_top;
      run = c.passed.ensures.run;
      frame = frame;
      chain = (root, subst (λ (q : TermId). IsChain s new root zs q.0) (sym c.put_in-at.ensures.term) (chain_before s new root zs x child chain));
      more = sym c.is_out.ensures ∙ c.if-is_out.false;
      behind = behind_on (g.W.StepWatcher.wanted c.passed.new.watcher) w a d f' (c.passed.ensures.wanted ∙ i.wanted) (behind_on v w a b d i.wanted i.behind c.passed.ensures.behind) c.tell_exit.ensures.behind;
      told = λ q.
          let h = i.told q in
          let reached = passing_reached p m n i.meanings c.requires.runnable.reducible.lawful now new c.passed.ensures.extends t1 t2 c.passed.ensures.kept c.len.ensures.nodes c.len-in-loop.ensures.nodes c.args.run.now.term c.loop.at i.frame xs root i.chain.1 id a b d
          c.args.tally.now.rewrites y.rewrites z.rewrites c.in-Ok-passed.ensures.normal h (c.in-Ok-passed.ensures.told (i.wanted ∙ q)) in
          let within = subst (λ (qs : List Frame). TellsWithin p m.hooks new t2 (TellsReached p m.hooks new t2 c.loop.at.term id) c.loop.at.term qs a d reached.count) items reached.within in
          record {
            count = reached.count;
            first = ap (first_term zs) c.put_in-at.ensures.term ∙ (sym (first_push p m.hooks now t1 zs x c.loop.at.term) ∙ (ap (λ (qs : List Frame). first_term qs c.loop.at.term) (sym items) ∙ h.first));
            within = within_pop p m.hooks new t2 c.len-in-loop.ensures.nodes x c.loop.at.term id e c.in-Ok-passed.ensures.kind.1.within.there c.in-Ok-passed.ensures.kind.2.within.there r c.put_in-at.ensures.term put zs a d f' reached.count (c.in-Ok-tell_exit.ensures.told (c.passed.ensures.wanted ∙ (i.wanted ∙ q))) within;
            adds = reached.adds;
          };
      known = λ f b0 h.
          let k = i.known f b0 h in
          let top = counted_top p m.hooks I gas f b0 y.rewrites now c.len.ensures.nodes c.loop.at turns y L c.loop.budget k.0 k.1 i.frame.term.within.there c.in_default.ensures.none in
          let held = top_so p m n v w i.meanings i.wanted y.rewrites y.gas (frame_in now c.loop.at).0 turns y c.loop.budget new after z (Ok id) c.passed.new.budget
          c.in-Ok-passed.ensures.known f b0 L (subst (λ j. IsCounted I f b0 y.rewrites (top_by P j (pass_with (frame_in now c.loop.at).0 turns y) L) c.loop.budget) (sym i.gas) top) in
          within_again p m.hooks I gas f b0 K after z c.passed.new.budget new os xs zs x r id.0 same items made c.put_in-at.ensures.next held;
    }

pub passed-requires-clause-by_top : goal.passed-requires-clause-by_top
passed-requires-clause-by_top g c = subst (λ (x : RulesByTop). AreRulesByTop c.args.program.now (map (λ list. list.items) x.orders.items)) (sym c.loop.invariant.by_top) c.requires.by_top

-- ---- what is told

pub returns-in-Err-clause-behind : goal.returns-in-Err-clause-behind
returns-in-Err-clause-behind g c = c.open_whole.ensures.behind

pub returns-in-Err-passed-clause-behind : goal.returns-in-Err-passed-clause-behind
returns-in-Err-passed-clause-behind g c =
    behind_on (g.W.StepWatcher.wanted c.loop.watcher) (g.W.StepWatcher.wanted c.args.watcher.now) (g.W.StepWatcher.told c.args.watcher.now) (g.W.StepWatcher.told c.loop.watcher) (g.W.StepWatcher.told c.passed.new.watcher)
    c.loop.invariant.wanted c.loop.invariant.behind c.passed.ensures.behind

pub returns-clause-behind : goal.returns-clause-behind
returns-clause-behind g c = c.loop.invariant.behind

pub returns-in-Err-enter-clause-behind : goal.returns-in-Err-enter-clause-behind
returns-in-Err-enter-clause-behind g c =
    behind_on (g.W.StepWatcher.wanted c.loop.watcher) (g.W.StepWatcher.wanted c.args.watcher.now) (g.W.StepWatcher.told c.args.watcher.now) (g.W.StepWatcher.told c.loop.watcher) (g.W.StepWatcher.told c.enter.new.watcher)
    c.loop.invariant.wanted c.loop.invariant.behind c.enter.ensures.behind

pub returns-then-is_out-clause-behind : goal.returns-then-is_out-clause-behind
returns-then-is_out-clause-behind g c =
    let w = g.W.StepWatcher.wanted c.args.watcher.now in
    let a = g.W.StepWatcher.told c.args.watcher.now in
    let b = g.W.StepWatcher.told c.loop.watcher in
    let d = g.W.StepWatcher.told c.passed.new.watcher in
    behind_on (g.W.StepWatcher.wanted c.passed.new.watcher) w a d (g.W.StepWatcher.told c.close_all.new.watcher) (c.passed.ensures.wanted ∙ c.loop.invariant.wanted)
    (behind_on (g.W.StepWatcher.wanted c.loop.watcher) w a b d c.loop.invariant.wanted c.loop.invariant.behind c.passed.ensures.behind) c.close_all.ensures.behind

pub returns-in-Err-tell_exit-clause-behind : goal.returns-in-Err-tell_exit-clause-behind
returns-in-Err-tell_exit-clause-behind g c =
    let w = g.W.StepWatcher.wanted c.args.watcher.now in
    let a = g.W.StepWatcher.told c.args.watcher.now in
    let b = g.W.StepWatcher.told c.loop.watcher in
    let d = g.W.StepWatcher.told c.passed.new.watcher in
    behind_on (g.W.StepWatcher.wanted c.passed.new.watcher) w a d (g.W.StepWatcher.told c.tell_exit.new.watcher) (c.passed.ensures.wanted ∙ c.loop.invariant.wanted)
    (behind_on (g.W.StepWatcher.wanted c.loop.watcher) w a b d c.loop.invariant.wanted c.loop.invariant.behind c.passed.ensures.behind) c.tell_exit.ensures.behind

pub returns-in-None-clause-behind : goal.returns-in-None-clause-behind
returns-in-None-clause-behind g c =
    let w = g.W.StepWatcher.wanted c.args.watcher.now in
    let a = g.W.StepWatcher.told c.args.watcher.now in
    let b = g.W.StepWatcher.told c.loop.watcher in
    let d = g.W.StepWatcher.told c.passed.new.watcher in
    behind_on (g.W.StepWatcher.wanted c.passed.new.watcher) w a d (g.W.StepWatcher.told c.tell_exit.new.watcher) (c.passed.ensures.wanted ∙ c.loop.invariant.wanted)
    (behind_on (g.W.StepWatcher.wanted c.loop.watcher) w a b d c.loop.invariant.wanted c.loop.invariant.behind c.passed.ensures.behind) c.tell_exit.ensures.behind

pub returns-in-None-clause-told : goal.returns-in-None-clause-told
returns-in-None-clause-told g c = λ q.
    let p = c.args.program.now in
    let m = g.E.Evaluator.meanings c.args.evaluator.now in
    let n = g.E.Evaluator.meanings c.loop.evaluator in
    let i = c.loop.invariant in
    let s0 = c.args.store.now in
    let now = c.loop.store in
    let new = c.passed.new.store in
    let t1 = g.E.Evaluator.table c.loop.evaluator in
    let t2 = g.E.Evaluator.table c.passed.new.evaluator in
    let a = g.W.StepWatcher.told c.args.watcher.now in
    let b = g.W.StepWatcher.told c.loop.watcher in
    let d = g.W.StepWatcher.told c.passed.new.watcher in
    let f' = g.W.StepWatcher.told c.tell_exit.new.watcher in
    let x = c.loop.at in
    let xs = c.loop.frames.items in
    let id = c.in-Ok-passed.term in
    let run = c.args.run.now.term in
    let h = i.told q in
    let reached = passing_reached p m n i.meanings c.requires.runnable.reducible.lawful now new c.passed.ensures.extends t1 t2 c.passed.ensures.kept c.len.ensures.nodes c.len-in-loop.ensures.nodes run x i.frame xs i.chain.0 i.chain.1 id a b d
    c.args.tally.now.rewrites c.loop.tally.rewrites c.passed.new.tally.rewrites c.in-Ok-passed.ensures.normal h (c.in-Ok-passed.ensures.told (i.wanted ∙ q)) in
    let long : vec_len c.loop.frames ≡ length xs = search rules in
    let none : xs ≡ [] = no_items xs (λ low. never (c.in-None.ensures.variant.1 (omega (arith, low, long)))) in
    let first : x.term ≡ run = ap (λ (qs : List Frame). first_term qs x.term) (sym none) ∙ h.first in
    let within = subst (λ (qs : List Frame). TellsWithin p m.hooks new t2 (TellsReached p m.hooks new t2 x.term id) x.term qs a d reached.count) none reached.within in
    let ended = within_end p m.hooks new t2 x.term id a d f' reached.count (c.in-Ok-tell_exit.ensures.told (c.passed.ensures.wanted ∙ (i.wanted ∙ q))) within in
    let grows = extension_is_preorder.transitive s0 now new i.extends c.passed.ensures.extends in
    let part = pass_part p m.hooks new t2 x.term id a f' reached.count c.args.tally.now.rewrites c.passed.new.tally.rewrites c.in-Ok-passed.ensures.kind.1.within.there c.in-Ok-passed.ensures.kind.2.within.there ended reached.adds in
    subst (λ u. TellsPart p m.hooks new t2 a f' u (tree_at new id.0) c.args.tally.now.rewrites c.passed.new.tally.rewrites)
    (ap (λ (j : TermId). tree_at new j.0) first ∙ tree_kept (theory_at p.sig) s0 new run.0 grows c.requires.run.term.within) part

pub returns-then-is_out-clause-told : goal.returns-then-is_out-clause-told
returns-then-is_out-clause-told g c = λ q.
    let p = c.args.program.now in
    let m = g.E.Evaluator.meanings c.args.evaluator.now in
    let n = g.E.Evaluator.meanings c.loop.evaluator in
    let i = c.loop.invariant in
    let s0 = c.args.store.now in
    let now = c.loop.store in
    let new = c.passed.new.store in
    let s3 = c.close_all.new.store in
    let t1 = g.E.Evaluator.table c.loop.evaluator in
    let t2 = g.E.Evaluator.table c.passed.new.evaluator in
    let a = g.W.StepWatcher.told c.args.watcher.now in
    let b = g.W.StepWatcher.told c.loop.watcher in
    let d = g.W.StepWatcher.told c.passed.new.watcher in
    let f' = g.W.StepWatcher.told c.close_all.new.watcher in
    let x = c.loop.at in
    let xs = c.loop.frames.items in
    let id = c.in-Ok-passed.term in
    let run = c.args.run.now.term in
    let before = c.args.tally.now.rewrites in
    let after = c.passed.new.tally.rewrites in
    let h = i.told q in
    let reached = passing_reached p m n i.meanings c.requires.runnable.reducible.lawful now new c.passed.ensures.extends t1 t2 c.passed.ensures.kept c.len.ensures.nodes c.len-in-loop.ensures.nodes run x i.frame xs i.chain.0 i.chain.1 id a b d
    before c.loop.tally.rewrites after c.in-Ok-passed.ensures.normal h (c.in-Ok-passed.ensures.told (i.wanted ∙ q)) in
    let chain = chain_from p.sig new i.chain.0 xs x.term run h.first (chain_kept p.sig now new c.passed.ensures.extends i.chain.0 xs x.term.0 i.chain.1) in
    let grows = extension_is_preorder.transitive s0 new s3 (extension_is_preorder.transitive s0 now new i.extends c.passed.ensures.extends) c.close_all.ensures.extends in
    let begun = is_term_kept p.sig s0 s3 run.0 grows c.requires.run.term in
    both_ok c.close_all.result (λ (z : TermId). IsTerm p.sig s3 z.0) (λ (z : TermId). TellsPass p m.hooks s3 t2 run z a f' reached.count) (λ (z : TermId). TellsPart p m.hooks s3 t2 a f' (tree_at s0 run.0) (tree_at s3 z.0) before after)
    (λ z is passed.
    subst (λ u. TellsPart p m.hooks s3 t2 a f' u (tree_at s3 z.0) before after) (tree_kept (theory_at p.sig) s0 s3 run.0 grows c.requires.run.term.within)
    (pass_part p m.hooks s3 t2 run z a f' reached.count before after begun.within.there is.within.there passed reached.adds)) c.close_all.ensures.term
    (IfOk-weaker c.close_all.result _ (λ (z : TermId). TellsPass p m.hooks s3 t2 run z a f' reached.count)
    (λ z k. k m.hooks t2 a run x.term reached.count h.first chain c.in-Ok-passed.ensures.kind reached.within) (c.close_all.ensures.told (c.passed.ensures.wanted ∙ (i.wanted ∙ q))))

pub returns-in-Err-tell_exit-clause-kept : goal.returns-in-Err-tell_exit-clause-kept
returns-in-Err-tell_exit-clause-kept g c = kept_on (g.E.Evaluator.table c.args.evaluator.now) (g.E.Evaluator.table c.loop.evaluator) (g.E.Evaluator.table c.passed.new.evaluator) c.loop.invariant.kept c.passed.ensures.kept
