use Rattle.std.proofs.Common.{◌≡◌, ℕ, Option, Some, None, Ok, Err, IfSome, IfNone, false, refl, sym, ap, ◌∙◌, subst}
use Rattle.mau_terms.specs.Tree.{Tree}
use Rattle.mau_signature.specs.Signature.{SignatureOf, theory_at}
use Rattle.mau_store.specs.Trees.{tree_at}
use Rattle.mau_store.proofs.Growth.{extension_is_preorder}
use Rattle.mau_sorts.proofs.Settling.{kept_on}
use Rattle.mau_program.specs.declared.program.Program.{Program}
use Rattle.mau_evaluation.specs.RuleRuns.{Stand, normal, is_out}
use Rattle.mau_api.specs.Terms.{IsTerm}
use Rattle.mau_api.specs.Programs.{program_over}
use Rattle.mau_api.specs.Meanings.{Meanings}
use Rattle.mau_api.specs.Answers.{AreSettled, uses_results}
use Rattle.mau_reduce.proofs.KindsKept.{is_term_kept, tree_kept}
use Rattle.mau_rules.specs.declared.run.RuleRun.{RuleRun}
use Rattle.mau_rules.specs.declared.run.RuleEnd.TheVariants.{Normal, Bound}
use Rattle.mau_rules.specs.Runnable.{GoesBy}
use Rattle.mau_rules.specs.Known.{Gives}
use Rattle.mau_rules.specs.Found.{item_of}
use Rattle.mau_rules.specs.Runs.{stand_of, rewriting_by}
use Rattle.mau_rules.specs.Rounds.{KnownRound}
use Rattle.mau_rules.proofs.Running.{stand_at}
use Rattle.mau_rules.proofs.Uses.{round_so}
use Rattle.mau_rules.proofs.RunEnds.{no_memory_exact, IsUnder, begun_known, under_begun, under_more, under_bound, under_normal, run_not_begun, under_ends, value_exact, value_allowed, end_exact, end_allowed}
use Rattle.mau_api.specs.Told.{TellsEvaluation}
use Rattle.mau_rules.specs.Telling.{TellsRules}
use Rattle.mau_rules.proofs.Told.{behind_told, behind_on, evaluation_rules, told_on, told_still}
use Rattle.mau_rules.proofs.run.RuleRun.rewrite.Goals as goal

pub returns-in-Err-clause-exact : goal.returns-in-Err-clause-exact
returns-in-Err-clause-exact g c =
    let p = c.args.program.now in
    let m = g.E.Evaluator.meanings c.args.evaluator.now in
    let w = g.W.StepWatcher.wanted c.args.watcher.now in
    let P = program_over p m.hooks in
    let I = item_of m w in
    let s0 = c.args.store.now in
    let b0 = c.args.budget in
    let f = rewriting_by p m c.args.bound (stand_of s0 c.args.self.now) in
    let t = tree_at s0 c.args.self.now.term.0 in
    let s1 = c.evaluate.new.store in
    let left = c.evaluate.new.budget in
    let laws = g.met.E.Evaluator.laws c.args.evaluator.now in
    let k = begun_known p c.requires.runnable m c.requires.goes_by laws w t b0 s1 (Err c.in-Err.end) left (uses_results m w) c.in-Err.ensures.allowed c.in-Err.ensures.exact c.in-Err.ensures.left in
    let ends = run_not_begun P I c.args.bound (stand_of s0 c.args.self.now) b0 s1 left c.in-Err.end k in
    λ none. end_exact m w f b0 s1 c.args.self.now c.in-Err.end ends none

pub returns-in-Err-clause-allowed : goal.returns-in-Err-clause-allowed
returns-in-Err-clause-allowed g c =
    let p = c.args.program.now in
    let m = g.E.Evaluator.meanings c.args.evaluator.now in
    let w = g.W.StepWatcher.wanted c.args.watcher.now in
    let P = program_over p m.hooks in
    let I = item_of m w in
    let s0 = c.args.store.now in
    let b0 = c.args.budget in
    let f = rewriting_by p m c.args.bound (stand_of s0 c.args.self.now) in
    let t = tree_at s0 c.args.self.now.term.0 in
    let s1 = c.evaluate.new.store in
    let left = c.evaluate.new.budget in
    let laws = g.met.E.Evaluator.laws c.args.evaluator.now in
    let k = begun_known p c.requires.runnable m c.requires.goes_by laws w t b0 s1 (Err c.in-Err.end) left (uses_results m w) c.in-Err.ensures.allowed c.in-Err.ensures.exact c.in-Err.ensures.left in
    let ends = run_not_begun P I c.args.bound (stand_of s0 c.args.self.now) b0 s1 left c.in-Err.end k in
    end_allowed m w f b0 s1 c.args.self.now c.in-Err.end ends

pub returns-in-Err-clause-run : goal.returns-in-Err-clause-run
returns-in-Err-clause-run g c =
    record { turns = c.requires.run.turns; term = is_term_kept c.args.program.now.sig c.args.store.now c.evaluate.new.store c.args.self.now.term.0 c.evaluate.ensures.extends c.requires.run.term }

pub loop-init : goal.loop-init
loop-init g c =
    let p = c.args.program.now in
    let m = g.E.Evaluator.meanings c.args.evaluator.now in
    let w = g.W.StepWatcher.wanted c.args.watcher.now in
    let P = program_over p m.hooks in
    let I = item_of m w in
    let s0 = c.args.store.now in
    let b0 = c.args.budget in
    let f = rewriting_by p m c.args.bound (stand_of s0 c.args.self.now) in
    let t = tree_at s0 c.args.self.now.term.0 in
    let s1 = c.evaluate.new.store in
    let left = c.evaluate.new.budget in
    let laws = g.met.E.Evaluator.laws c.args.evaluator.now in
    let k = begun_known p c.requires.runnable m c.requires.goes_by laws w t b0 s1 (Ok c.in-Ok.value) left (uses_results m w) c.in-Ok.ensures.allowed c.in-Ok.ensures.exact c.in-Ok.ensures.left in
    let same : m.program.sig ≡ p.sig = ap (λ (q : Program). q.sig) c.requires.goes_by.program in
    record {
      meanings = c.evaluate.ensures.meanings;
      fits = c.evaluate.ensures.fits;
      extends = c.evaluate.ensures.extends;
      kept = c.evaluate.ensures.kept;
      wanted = c.evaluate.ensures.wanted;
      run = record { turns = c.requires.run.turns; term = subst (λ (z : SignatureOf). IsTerm z s1 c.in-Ok.value.term.0) same c.in-Ok.ensures.term };
      settled = subst (λ (z : SignatureOf). AreSettled z s1 (g.E.Evaluator.table c.evaluate.new.self) (tree_at s1 c.in-Ok.value.term.0)) same c.in-Ok.ensures.settled;
      by_top = c.in-Ok-new.ensures s1;
      told =
          let a = g.W.StepWatcher.told c.args.watcher.now in
          let b = g.W.StepWatcher.told c.evaluate.new.watcher in
          let table = g.E.Evaluator.table c.evaluate.new.self in
          let self = c.args.self.now.term in
          let value = c.in-Ok.value in
          record {
            behind = behind_told w a b c.evaluate.ensures.before c.evaluate.ensures.silent;
            rules = λ i. subst (λ u. TellsRules p m.hooks s1 table a b u (tree_at s1 value.term.0) value.rewrites) (tree_kept (theory_at p.sig) s0 s1 self.0 c.evaluate.ensures.extends c.requires.run.term.within)
                (evaluation_rules p m.hooks s1 table a b self value.term value.rewrites (is_term_kept p.sig s0 s1 self.0 c.evaluate.ensures.extends c.requires.run.term).within.there
                (subst (λ (z : SignatureOf). IsTerm z s1 value.term.0) same c.in-Ok.ensures.term).within.there
                (subst (λ (q : Program). TellsEvaluation q m.hooks s1 table a b self value.term value.rewrites) c.requires.goes_by.program (c.in-Ok.ensures.told i)));
          };
      under = under_begun P I c.args.bound (stand_of s0 c.args.self.now) b0 s1 c.in-Ok.value left (stand_at (tree_at s1 c.in-Ok.value.term.0) (stand_of s0 c.args.self.now).turns) refl k;
    }

pub returns-then-is_out-clause-exact : goal.returns-then-is_out-clause-exact
returns-then-is_out-clause-exact g c =
    let p = c.args.program.now in
    let m = g.E.Evaluator.meanings c.args.evaluator.now in
    let w = g.W.StepWatcher.wanted c.args.watcher.now in
    let P = program_over p m.hooks in
    let I = item_of m w in
    let s0 = c.args.store.now in
    let b0 = c.args.budget in
    let f = rewriting_by p m c.args.bound (stand_of s0 c.args.self.now) in
    let i = c.loop.invariant in
    let now = c.loop.store in
    let run = c.loop.self in
    let s = stand_of now run in
    let n = g.E.Evaluator.meanings c.loop.evaluator in
    let v = g.W.StepWatcher.wanted c.loop.watcher in
    let G = under_bound I P f b0 c.loop.rewrites c.loop.more s c.loop.left i.under (sym c.is_out.ensures ∙ c.if-is_out.true) in
    λ none. value_exact m w f b0 now run Bound (record { term = run.term; rewrites = c.loop.rewrites }) i.under.count c.loop.left i.under.shows G none

pub returns-then-is_out-clause-allowed : goal.returns-then-is_out-clause-allowed
returns-then-is_out-clause-allowed g c =
    let p = c.args.program.now in
    let m = g.E.Evaluator.meanings c.args.evaluator.now in
    let w = g.W.StepWatcher.wanted c.args.watcher.now in
    let P = program_over p m.hooks in
    let I = item_of m w in
    let s0 = c.args.store.now in
    let b0 = c.args.budget in
    let f = rewriting_by p m c.args.bound (stand_of s0 c.args.self.now) in
    let i = c.loop.invariant in
    let now = c.loop.store in
    let run = c.loop.self in
    let s = stand_of now run in
    let n = g.E.Evaluator.meanings c.loop.evaluator in
    let v = g.W.StepWatcher.wanted c.loop.watcher in
    let G = under_bound I P f b0 c.loop.rewrites c.loop.more s c.loop.left i.under (sym c.is_out.ensures ∙ c.if-is_out.true) in
    value_allowed m w f b0 now run Bound (record { term = run.term; rewrites = c.loop.rewrites }) i.under.count c.loop.left i.under.shows G

pub returns-in-Ok-None-clause-exact : goal.returns-in-Ok-None-clause-exact
returns-in-Ok-None-clause-exact g c =
    let p = c.args.program.now in
    let m = g.E.Evaluator.meanings c.args.evaluator.now in
    let w = g.W.StepWatcher.wanted c.args.watcher.now in
    let P = program_over p m.hooks in
    let I = item_of m w in
    let s0 = c.args.store.now in
    let b0 = c.args.budget in
    let f = rewriting_by p m c.args.bound (stand_of s0 c.args.self.now) in
    let i = c.loop.invariant in
    let now = c.loop.store in
    let run = c.loop.self in
    let s = stand_of now run in
    let n = g.E.Evaluator.meanings c.loop.evaluator in
    let v = g.W.StepWatcher.wanted c.loop.watcher in
    let new = c.round.new.store in
    let after = c.round.new.budget in
    let out : is_out c.loop.more ≡ false = sym c.is_out.ensures ∙ c.if-is_out.false in
    let k = round_so p m n v w i.meanings i.wanted s c.loop.left (stand_of new c.round.new.run) (Ok None) after
    (subst (λ (o : Option ℕ). KnownRound (item_of n v) (program_over p n.hooks) s c.loop.left (stand_of new c.round.new.run) (Ok o) after) c.in-Ok-None.field-0-is c.in-Ok-None.ensures.known) in
    let same : c.round.new.run ≡ run = c.in-Ok-None.ensures.unchanged (ap (λ (o : Option ℕ). Ok o) c.in-Ok-None.field-0-is) in
    let at : stand_of new c.round.new.run ≡ s = ap (λ (r : RuleRun). stand_of new r) same ∙ ap (λ (t : Tree). stand_at t s.turns) (tree_kept (theory_at p.sig) now new run.term.0 c.round.ensures.extends i.run.term.within) in
    let G = subst (λ (z : Stand). Gives I f b0 (z, normal) i.under.count after) (sym at) (under_normal I P f b0 c.loop.rewrites c.loop.more s c.loop.left i.under (stand_of new c.round.new.run) after out k) in
    λ none. value_exact m w f b0 new c.round.new.run Normal (record { term = run.term; rewrites = c.loop.rewrites }) i.under.count after i.under.shows G none

pub returns-in-Ok-None-clause-allowed : goal.returns-in-Ok-None-clause-allowed
returns-in-Ok-None-clause-allowed g c =
    let p = c.args.program.now in
    let m = g.E.Evaluator.meanings c.args.evaluator.now in
    let w = g.W.StepWatcher.wanted c.args.watcher.now in
    let P = program_over p m.hooks in
    let I = item_of m w in
    let s0 = c.args.store.now in
    let b0 = c.args.budget in
    let f = rewriting_by p m c.args.bound (stand_of s0 c.args.self.now) in
    let i = c.loop.invariant in
    let now = c.loop.store in
    let run = c.loop.self in
    let s = stand_of now run in
    let n = g.E.Evaluator.meanings c.loop.evaluator in
    let v = g.W.StepWatcher.wanted c.loop.watcher in
    let new = c.round.new.store in
    let after = c.round.new.budget in
    let out : is_out c.loop.more ≡ false = sym c.is_out.ensures ∙ c.if-is_out.false in
    let k = round_so p m n v w i.meanings i.wanted s c.loop.left (stand_of new c.round.new.run) (Ok None) after
    (subst (λ (o : Option ℕ). KnownRound (item_of n v) (program_over p n.hooks) s c.loop.left (stand_of new c.round.new.run) (Ok o) after) c.in-Ok-None.field-0-is c.in-Ok-None.ensures.known) in
    let same : c.round.new.run ≡ run = c.in-Ok-None.ensures.unchanged (ap (λ (o : Option ℕ). Ok o) c.in-Ok-None.field-0-is) in
    let at : stand_of new c.round.new.run ≡ s = ap (λ (r : RuleRun). stand_of new r) same ∙ ap (λ (t : Tree). stand_at t s.turns) (tree_kept (theory_at p.sig) now new run.term.0 c.round.ensures.extends i.run.term.within) in
    let G = subst (λ (z : Stand). Gives I f b0 (z, normal) i.under.count after) (sym at) (under_normal I P f b0 c.loop.rewrites c.loop.more s c.loop.left i.under (stand_of new c.round.new.run) after out k) in
    value_allowed m w f b0 new c.round.new.run Normal (record { term = run.term; rewrites = c.loop.rewrites }) i.under.count after i.under.shows G

pub returns-in-Ok-None-clause-term : goal.returns-in-Ok-None-clause-term
returns-in-Ok-None-clause-term g c =
    ap (λ (r : RuleRun). r.term) (sym (c.in-Ok-None.ensures.unchanged (ap (λ (o : Option ℕ). Ok o) c.in-Ok-None.field-0-is)))

pub returns-in-Ok-None-clause-settled : goal.returns-in-Ok-None-clause-settled
returns-in-Ok-None-clause-settled g c =
    let same : c.round.new.run ≡ c.loop.self = c.in-Ok-None.ensures.unchanged (ap (λ (o : Option ℕ). Ok o) c.in-Ok-None.field-0-is) in
    subst (λ (r : RuleRun). AreSettled c.args.program.now.sig c.round.new.store (g.E.Evaluator.table c.round.new.evaluator) (tree_at c.round.new.store r.term.0)) same c.in-Ok-None.ensures.settled

pub returns-in-Ok-None-clause-kept : goal.returns-in-Ok-None-clause-kept
returns-in-Ok-None-clause-kept g c =
    kept_on (g.E.Evaluator.table c.args.evaluator.now) (g.E.Evaluator.table c.loop.evaluator) (g.E.Evaluator.table c.round.new.evaluator) c.loop.invariant.kept c.round.ensures.kept

pub returns-in-Err-round-clause-exact : goal.returns-in-Err-round-clause-exact
returns-in-Err-round-clause-exact g c =
    let p = c.args.program.now in
    let m = g.E.Evaluator.meanings c.args.evaluator.now in
    let w = g.W.StepWatcher.wanted c.args.watcher.now in
    let P = program_over p m.hooks in
    let I = item_of m w in
    let s0 = c.args.store.now in
    let b0 = c.args.budget in
    let f = rewriting_by p m c.args.bound (stand_of s0 c.args.self.now) in
    let i = c.loop.invariant in
    let now = c.loop.store in
    let run = c.loop.self in
    let s = stand_of now run in
    let n = g.E.Evaluator.meanings c.loop.evaluator in
    let v = g.W.StepWatcher.wanted c.loop.watcher in
    let new = c.round.new.store in
    let after = c.round.new.budget in
    let out : is_out c.loop.more ≡ false = sym c.is_out.ensures ∙ c.if-is_out.false in
    let k = round_so p m n v w i.meanings i.wanted s c.loop.left (stand_of new c.round.new.run) (Err c.in-Err-round.end) after
    c.in-Err-round.ensures.known in
    let ends = under_ends I P f b0 c.loop.rewrites c.loop.more s c.loop.left i.under out (stand_of new c.round.new.run) after c.in-Err-round.end k in
    λ none. end_exact m w f b0 new c.round.new.run c.in-Err-round.end ends none

pub returns-in-Err-round-clause-allowed : goal.returns-in-Err-round-clause-allowed
returns-in-Err-round-clause-allowed g c =
    let p = c.args.program.now in
    let m = g.E.Evaluator.meanings c.args.evaluator.now in
    let w = g.W.StepWatcher.wanted c.args.watcher.now in
    let P = program_over p m.hooks in
    let I = item_of m w in
    let s0 = c.args.store.now in
    let b0 = c.args.budget in
    let f = rewriting_by p m c.args.bound (stand_of s0 c.args.self.now) in
    let i = c.loop.invariant in
    let now = c.loop.store in
    let run = c.loop.self in
    let s = stand_of now run in
    let n = g.E.Evaluator.meanings c.loop.evaluator in
    let v = g.W.StepWatcher.wanted c.loop.watcher in
    let new = c.round.new.store in
    let after = c.round.new.budget in
    let out : is_out c.loop.more ≡ false = sym c.is_out.ensures ∙ c.if-is_out.false in
    let k = round_so p m n v w i.meanings i.wanted s c.loop.left (stand_of new c.round.new.run) (Err c.in-Err-round.end) after
    c.in-Err-round.ensures.known in
    let ends = under_ends I P f b0 c.loop.rewrites c.loop.more s c.loop.left i.under out (stand_of new c.round.new.run) after c.in-Err-round.end k in
    end_allowed m w f b0 new c.round.new.run c.in-Err-round.end ends

pub returns-in-Err-round-clause-kept : goal.returns-in-Err-round-clause-kept
returns-in-Err-round-clause-kept g c =
    kept_on (g.E.Evaluator.table c.args.evaluator.now) (g.E.Evaluator.table c.loop.evaluator) (g.E.Evaluator.table c.round.new.evaluator) c.loop.invariant.kept c.round.ensures.kept

pub round-requires-clause-goes_by : goal.round-requires-clause-goes_by
round-requires-clause-goes_by g c =
    subst (λ (n : Meanings). GoesBy c.args.program.now n) (sym c.loop.invariant.meanings) c.requires.goes_by

pub loop-preserved : goal.loop-preserved
loop-preserved g c =
    let p = c.args.program.now in
    let m = g.E.Evaluator.meanings c.args.evaluator.now in
    let w = g.W.StepWatcher.wanted c.args.watcher.now in
    let P = program_over p m.hooks in
    let I = item_of m w in
    let s0 = c.args.store.now in
    let b0 = c.args.budget in
    let f = rewriting_by p m c.args.bound (stand_of s0 c.args.self.now) in
    let i = c.loop.invariant in
    let now = c.loop.store in
    let run = c.loop.self in
    let s = stand_of now run in
    let n = g.E.Evaluator.meanings c.loop.evaluator in
    let v = g.W.StepWatcher.wanted c.loop.watcher in
    let new = c.round.new.store in
    let after = c.round.new.budget in
    let out : is_out c.loop.more ≡ false = sym c.is_out.ensures ∙ c.if-is_out.false in
    let k = round_so p m n v w i.meanings i.wanted s c.loop.left (stand_of new c.round.new.run) (Ok (Some c.in-Ok-Some.count)) after
    (subst (λ (o : Option ℕ). KnownRound (item_of n v) (program_over p n.hooks) s c.loop.left (stand_of new c.round.new.run) (Ok o) after) c.in-Ok-Some.field-0-is c.in-Ok-Some.ensures.known) in
    record {
      meanings = c.round.ensures.meanings ∙ i.meanings;
      fits = c.round.ensures.fits;
      extends = extension_is_preorder.transitive s0 now new i.extends c.round.ensures.extends;
      kept = kept_on (g.E.Evaluator.table c.args.evaluator.now) (g.E.Evaluator.table c.loop.evaluator) (g.E.Evaluator.table c.round.new.evaluator) i.kept c.round.ensures.kept;
      wanted = c.round.ensures.wanted ∙ i.wanted;
      run = c.round.ensures.run;
      settled = c.in-Ok-Some.ensures.settled;
      by_top = c.round.ensures.by_top;
      told = told_on p m n i.meanings v w i.wanted now new (g.E.Evaluator.table c.loop.evaluator) (g.E.Evaluator.table c.round.new.evaluator) c.round.ensures.extends c.round.ensures.kept
          (g.W.StepWatcher.told c.args.watcher.now) (g.W.StepWatcher.told c.loop.watcher) (g.W.StepWatcher.told c.round.new.watcher) (tree_at s0 c.args.self.now.term.0) (tree_at now run.term.0) (tree_at new c.round.new.run.term.0)
          c.loop.rewrites c.in-Ok-Some.count c.saturating_add-rewrites.result c.saturating_add-rewrites.ensures i.told c.round.ensures.behind
          (λ e. subst (λ (o : Option ℕ). IfSome o (TellsRules p n.hooks new (g.E.Evaluator.table c.round.new.evaluator) (g.W.StepWatcher.told c.loop.watcher) (g.W.StepWatcher.told c.round.new.watcher) (tree_at now run.term.0) (tree_at new c.round.new.run.term.0)))
          c.in-Ok-Some.field-0-is (c.in-Ok-Some.ensures.told e));
      under = subst (λ (z : Option ℕ). IsUnder I P f b0 c.saturating_add-rewrites.result z (stand_of new c.round.new.run) after) (sym c.one_less-more.ensures)
          (under_more I P f b0 c.loop.rewrites c.loop.more s c.loop.left i.under (stand_of new c.round.new.run) c.in-Ok-Some.count after c.saturating_add-rewrites.result out k c.saturating_add-rewrites.ensures);
    }

pub returns-in-Err-new-clause-run : goal.returns-in-Err-new-clause-run
returns-in-Err-new-clause-run g c =
    record { turns = c.requires.run.turns; term = is_term_kept c.args.program.now.sig c.args.store.now c.evaluate.new.store c.args.self.now.term.0 c.evaluate.ensures.extends c.requires.run.term }

pub round-requires-clause-by_top : goal.round-requires-clause-by_top
round-requires-clause-by_top g c = c.loop.invariant.by_top

pub returns-in-Ok-None-clause-extends : goal.returns-in-Ok-None-clause-extends
returns-in-Ok-None-clause-extends g c = extension_is_preorder.transitive c.args.store.now c.loop.store c.round.new.store c.loop.invariant.extends c.round.ensures.extends

pub returns-in-Err-round-clause-extends : goal.returns-in-Err-round-clause-extends
returns-in-Err-round-clause-extends g c = extension_is_preorder.transitive c.args.store.now c.loop.store c.round.new.store c.loop.invariant.extends c.round.ensures.extends

-- ---- what is told

pub returns-in-Err-clause-before : goal.returns-in-Err-clause-before
returns-in-Err-clause-before g c = c.evaluate.ensures.before

pub returns-in-Err-clause-silent : goal.returns-in-Err-clause-silent
returns-in-Err-clause-silent g c = c.evaluate.ensures.silent

pub returns-in-Err-new-clause-before : goal.returns-in-Err-new-clause-before
returns-in-Err-new-clause-before g c = c.evaluate.ensures.before

pub returns-in-Err-new-clause-silent : goal.returns-in-Err-new-clause-silent
returns-in-Err-new-clause-silent g c = c.evaluate.ensures.silent

pub returns-then-is_out-clause-told : goal.returns-then-is_out-clause-told
returns-then-is_out-clause-told g c = c.loop.invariant.told.rules

pub returns-then-is_out-clause-before : goal.returns-then-is_out-clause-before
returns-then-is_out-clause-before g c = λ w. c.loop.invariant.told.behind.more

pub returns-then-is_out-clause-silent : goal.returns-then-is_out-clause-silent
returns-then-is_out-clause-silent g c = c.loop.invariant.told.behind.silent

pub returns-clause-before : goal.returns-clause-before
returns-clause-before g c = λ w. c.loop.invariant.told.behind.more

pub returns-clause-silent : goal.returns-clause-silent
returns-clause-silent g c = c.loop.invariant.told.behind.silent

pub returns-in-Ok-None-clause-told : goal.returns-in-Ok-None-clause-told
returns-in-Ok-None-clause-told g c =
    let p = c.args.program.now in
    let m = g.E.Evaluator.meanings c.args.evaluator.now in
    let i = c.loop.invariant in
    let now = c.loop.store in
    let new = c.round.new.store in
    let run = c.loop.self in
    let same : c.round.new.run ≡ run = c.in-Ok-None.ensures.unchanged (ap (λ (o : Option ℕ). Ok o) c.in-Ok-None.field-0-is) in
    let b = g.W.StepWatcher.told c.loop.watcher in
    let d = g.W.StepWatcher.told c.round.new.watcher in
    let at = ap (λ (r : RuleRun). tree_at new r.term.0) same ∙ tree_kept (theory_at p.sig) now new run.term.0 c.round.ensures.extends i.run.term.within in
    let untold = subst (λ (o : Option ℕ). IfNone o (d ≡ b)) c.in-Ok-None.field-0-is c.in-Ok-None.ensures.untold in
    (told_still p m.hooks (g.W.StepWatcher.wanted c.args.watcher.now) now new (g.E.Evaluator.table c.loop.evaluator) (g.E.Evaluator.table c.round.new.evaluator) c.round.ensures.extends c.round.ensures.kept
    (g.W.StepWatcher.told c.args.watcher.now) b d untold (tree_at c.args.store.now c.args.self.now.term.0) (tree_at now run.term.0) (tree_at new c.round.new.run.term.0) at c.loop.rewrites i.told).rules

pub returns-in-Ok-None-clause-before : goal.returns-in-Ok-None-clause-before
returns-in-Ok-None-clause-before g c = λ w. (behind_on (g.W.StepWatcher.wanted c.loop.watcher) (g.W.StepWatcher.wanted c.args.watcher.now) (g.W.StepWatcher.told c.args.watcher.now) (g.W.StepWatcher.told c.loop.watcher) (g.W.StepWatcher.told c.round.new.watcher) c.loop.invariant.wanted c.loop.invariant.told.behind c.round.ensures.behind).more

pub returns-in-Ok-None-clause-silent : goal.returns-in-Ok-None-clause-silent
returns-in-Ok-None-clause-silent g c = (behind_on (g.W.StepWatcher.wanted c.loop.watcher) (g.W.StepWatcher.wanted c.args.watcher.now) (g.W.StepWatcher.told c.args.watcher.now) (g.W.StepWatcher.told c.loop.watcher) (g.W.StepWatcher.told c.round.new.watcher) c.loop.invariant.wanted c.loop.invariant.told.behind c.round.ensures.behind).silent

pub returns-in-Err-round-clause-before : goal.returns-in-Err-round-clause-before
returns-in-Err-round-clause-before g c = λ w. (behind_on (g.W.StepWatcher.wanted c.loop.watcher) (g.W.StepWatcher.wanted c.args.watcher.now) (g.W.StepWatcher.told c.args.watcher.now) (g.W.StepWatcher.told c.loop.watcher) (g.W.StepWatcher.told c.round.new.watcher) c.loop.invariant.wanted c.loop.invariant.told.behind c.round.ensures.behind).more

pub returns-in-Err-round-clause-silent : goal.returns-in-Err-round-clause-silent
returns-in-Err-round-clause-silent g c = (behind_on (g.W.StepWatcher.wanted c.loop.watcher) (g.W.StepWatcher.wanted c.args.watcher.now) (g.W.StepWatcher.told c.args.watcher.now) (g.W.StepWatcher.told c.loop.watcher) (g.W.StepWatcher.told c.round.new.watcher) c.loop.invariant.wanted c.loop.invariant.told.behind c.round.ensures.behind).silent

-- ---- want of memory

pub returns-in-Err-new-clause-exact : goal.returns-in-Err-new-clause-exact
returns-in-Err-new-clause-exact g c = λ none. no_memory_exact _ _ _ _ _

pub returns-clause-exact : goal.returns-clause-exact
returns-clause-exact g c = λ none. no_memory_exact _ _ _ _ _
