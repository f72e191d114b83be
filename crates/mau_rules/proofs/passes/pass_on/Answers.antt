use Rattle.std.proofs.Common.{◌≡◌, true, false, refl, sym, ◌∙◌, subst}
use Rattle.mau_terms.specs.Tree.{Tree}
use Rattle.mau_sorts.proofs.Settling.{kept_on}
use Rattle.mau_evaluation.specs.RuleRuns.{is_out, normal}
use Rattle.mau_api.specs.Programs.{program_over}
use Rattle.mau_api.specs.Meanings.{Meanings}
use Rattle.mau_rules.specs.declared.tops.Tally.{Tally}
use Rattle.mau_rules.specs.Runnable.{GoesBy}
use Rattle.mau_rules.specs.Known.{Gives}
use Rattle.mau_rules.specs.Counted.{IsCounted}
use Rattle.mau_rules.specs.Found.{item_of}
use Rattle.mau_rules.specs.Runs.{turns_of, stand_of}
use Rattle.mau_rules.specs.Passes.{passing_by, behind_pass, pass_with}
use Rattle.mau_rules.proofs.Running.{stand_at}
use Rattle.mau_rules.proofs.PassEnds.{pass_begins, pass_idle, next_pass, no_pass}
use Rattle.mau_rules.proofs.PassWalk.{last_so}
use Rattle.mau_rules.proofs.Told.{behind_on}
use Rattle.mau_rules.proofs.Parts.{part_on, part_stays, part_as}
use Rattle.std.proofs.lemmas.Result.{IfOk-weaker}
use Rattle.mau_store.specs.Trees.{tree_at}
use Rattle.mau_rules.specs.Telling.{TellsPart}
use Rattle.mau_rules.proofs.passes.pass_on.Goals as goal

pub last_value-requires-clause-none : goal.last_value-requires-clause-none
last_value-requires-clause-none g c = sym c.is_out.ensures ∙ c.if-is_out.true

pub returns-then-is_out-clause-known : goal.returns-then-is_out-clause-known
returns-then-is_out-clause-known g c = λ f b0 h.
    let p = c.args.program.now in
    let m = g.E.Evaluator.meanings c.args.evaluator.now in
    let w = g.W.StepWatcher.wanted c.args.watcher.now in
    let I = item_of m w in
    let y : Tally = record { gas = c.args.tally.now.gas; left = c.args.tally.now.left; made = false; rewrites = c.args.tally.now.rewrites; by_top = c.args.tally.now.by_top } in
    let s = stand_of c.args.store.now c.args.run.now in
    let out : is_out y.left ≡ true = sym c.is_out.ensures ∙ c.if-is_out.true in
    c.last_value.ensures.known f b0 s.term (sym c.requires.run.term.within.normal) (pass_idle p m.hooks I y.gas f b0 y.rewrites s y refl c.args.budget.now h out)

pub pass-requires-clause-more : goal.pass-requires-clause-more
pass-requires-clause-more g c = sym c.is_out.ensures ∙ c.if-is_out.false

pub returns-in-Err-clause-known : goal.returns-in-Err-clause-known
returns-in-Err-clause-known g c = λ f b0 h.
    let p = c.args.program.now in
    let m = g.E.Evaluator.meanings c.args.evaluator.now in
    let w = g.W.StepWatcher.wanted c.args.watcher.now in
    let I = item_of m w in
    let y : Tally = record { gas = c.args.tally.now.gas; left = c.args.tally.now.left; made = false; rewrites = c.args.tally.now.rewrites; by_top = c.args.tally.now.by_top } in
    let s = stand_of c.args.store.now c.args.run.now in
    c.in-Err.ensures.known f b0 (pass_begins p m.hooks I y.gas f b0 y.rewrites s y refl c.args.budget.now h)

pub last_value-requires-then-is_out-2-clause-goes_by : goal.last_value-requires-then-is_out-2-clause-goes_by
last_value-requires-then-is_out-2-clause-goes_by g c = subst (λ (n : Meanings). GoesBy c.args.program.now n) (sym c.pass.ensures.meanings) c.requires.goes_by

pub last_value-requires-then-is_out-2-clause-none : goal.last_value-requires-then-is_out-2-clause-none
last_value-requires-then-is_out-2-clause-none g c = sym c.is_out-2.ensures ∙ c.if-is_out-2.true

pub returns-then-is_out-2-clause-known : goal.returns-then-is_out-2-clause-known
returns-then-is_out-2-clause-known g c = λ f b0 h.
    let p = c.args.program.now in
    let m = g.E.Evaluator.meanings c.args.evaluator.now in
    let w = g.W.StepWatcher.wanted c.args.watcher.now in
    let n = g.E.Evaluator.meanings c.pass.new.evaluator in
    let v = g.W.StepWatcher.wanted c.pass.new.watcher in
    let I = item_of m w in
    let P = program_over p m.hooks in
    let y : Tally = record { gas = c.args.tally.now.gas; left = c.args.tally.now.left; made = false; rewrites = c.args.tally.now.rewrites; by_top = c.args.tally.now.by_top } in
    let s = stand_of c.args.store.now c.args.run.now in
    let k = c.in-Ok.ensures.known f b0 (pass_begins p m.hooks I y.gas f b0 y.rewrites s y refl c.args.budget.now h) in
    let z = c.pass.new.tally in
    let turns = turns_of c.pass.new.run.turns.items in
    last_so p m n v w c.pass.ensures.meanings c.pass.ensures.wanted z.rewrites z.gas k.0 turns z c.pass.new.budget c.last_value-then-is_out-2.new.store c.last_value-then-is_out-2.new.run c.last_value-then-is_out-2.new.tally c.last_value-then-is_out-2.result c.last_value-then-is_out-2.new.budget
    (λ f b0 h. c.last_value-then-is_out-2.ensures.known f b0 k.0 k.1 h) f b0
    (subst (λ j. IsCounted I f b0 z.rewrites (λ k' E. behind_pass P j k' E (pass_with k.0 turns z)) c.pass.new.budget) (sym c.pass.ensures.gas) k.3)

pub returns-then-tally-clause-known : goal.returns-then-tally-clause-known
returns-then-tally-clause-known g c = λ f b0 h.
    let p = c.args.program.now in
    let m = g.E.Evaluator.meanings c.args.evaluator.now in
    let w = g.W.StepWatcher.wanted c.args.watcher.now in
    let I = item_of m w in
    let P = program_over p m.hooks in
    let y : Tally = record { gas = c.args.tally.now.gas; left = c.args.tally.now.left; made = false; rewrites = c.args.tally.now.rewrites; by_top = c.args.tally.now.by_top } in
    let s = stand_of c.args.store.now c.args.run.now in
    let k = c.in-Ok.ensures.known f b0 (pass_begins p m.hooks I y.gas f b0 y.rewrites s y refl c.args.budget.now h) in
    let z = c.pass.new.tally in
    let turns = turns_of c.pass.new.run.turns.items in
    let out : is_out z.left ≡ false = sym c.is_out-2.ensures ∙ c.if-is_out-2.false in
    subst (λ (t : Tree). IsCounted I f b0 z.rewrites (passing_by P z.gas z.left (stand_at t turns)) c.pass.new.budget) (sym (k.2 out))
    (next_pass p m.hooks I z.gas f b0 z.rewrites k.0 turns z c.pass.new.budget
    (subst (λ j. IsCounted I f b0 z.rewrites (λ k' E. behind_pass P j k' E (pass_with k.0 turns z)) c.pass.new.budget) (sym c.pass.ensures.gas) k.3) out c.if-tally.true)

pub returns-clause-known : goal.returns-clause-known
returns-clause-known g c = λ f b0 h.
    let p = c.args.program.now in
    let m = g.E.Evaluator.meanings c.args.evaluator.now in
    let w = g.W.StepWatcher.wanted c.args.watcher.now in
    let I = item_of m w in
    let P = program_over p m.hooks in
    let y : Tally = record { gas = c.args.tally.now.gas; left = c.args.tally.now.left; made = false; rewrites = c.args.tally.now.rewrites; by_top = c.args.tally.now.by_top } in
    let s = stand_of c.args.store.now c.args.run.now in
    let k = c.in-Ok.ensures.known f b0 (pass_begins p m.hooks I y.gas f b0 y.rewrites s y refl c.args.budget.now h) in
    let z = c.pass.new.tally in
    let turns = turns_of c.pass.new.run.turns.items in
    let out : is_out z.left ≡ false = sym c.is_out-2.ensures ∙ c.if-is_out-2.false in
    let e = no_pass p m.hooks I z.gas f b0 z.rewrites k.0 turns z c.pass.new.budget
    (subst (λ j. IsCounted I f b0 z.rewrites (λ k' E. behind_pass P j k' E (pass_with k.0 turns z)) c.pass.new.budget) (sym c.pass.ensures.gas) k.3) out c.if-tally.false in
    (e.0, e.1, subst (λ (t : Tree). Gives I f b0 (stand_at t turns, normal) e.0 c.pass.new.budget) (sym (k.2 out)) e.2)

pub returns-then-is_out-2-clause-kept : goal.returns-then-is_out-2-clause-kept
returns-then-is_out-2-clause-kept g c = kept_on (g.E.Evaluator.table c.args.evaluator.now) (g.E.Evaluator.table c.pass.new.evaluator) (g.E.Evaluator.table c.last_value-then-is_out-2.new.evaluator) c.pass.ensures.kept c.last_value-then-is_out-2.ensures.kept

-- ---- what is told

pub returns-then-is_out-2-clause-behind : goal.returns-then-is_out-2-clause-behind
returns-then-is_out-2-clause-behind g c =
    behind_on (g.W.StepWatcher.wanted c.pass.new.watcher) (g.W.StepWatcher.wanted c.args.watcher.now) (g.W.StepWatcher.told c.args.watcher.now) (g.W.StepWatcher.told c.pass.new.watcher) (g.W.StepWatcher.told c.last_value-then-is_out-2.new.watcher)
    c.pass.ensures.wanted c.pass.ensures.behind c.last_value-then-is_out-2.ensures.behind

pub returns-then-is_out-2-clause-told : goal.returns-then-is_out-2-clause-told
returns-then-is_out-2-clause-told g c = λ w.
    let p = c.args.program.now in
    let m = g.E.Evaluator.meanings c.args.evaluator.now in
    let n = g.E.Evaluator.meanings c.pass.new.evaluator in
    let s1 = c.pass.new.store in
    let s2 = c.last_value-then-is_out-2.new.store in
    let t1 = g.E.Evaluator.table c.pass.new.evaluator in
    let t2 = g.E.Evaluator.table c.last_value-then-is_out-2.new.evaluator in
    let a = g.W.StepWatcher.told c.args.watcher.now in
    let b = g.W.StepWatcher.told c.pass.new.watcher in
    let d = g.W.StepWatcher.told c.last_value-then-is_out-2.new.watcher in
    let t = tree_at c.args.store.now c.args.run.now.term.0 in
    let u = tree_at s1 c.in-Ok.term.0 in
    let v = tree_at s2 c.last_value-then-is_out-2.new.run.term.0 in
    let x = c.args.tally.now.rewrites in
    let y = c.pass.new.tally.rewrites in
    let z = c.last_value-then-is_out-2.new.tally.rewrites in
    let first = part_stays p m.hooks s1 s2 t1 t2 c.last_value-then-is_out-2.ensures.extends c.last_value-then-is_out-2.ensures.kept a b t u x y (c.in-Ok.ensures.told w) in
    IfOk-weaker c.last_value-then-is_out-2.result (λ _. TellsPart p n.hooks s2 t2 b d u v y z) (λ _. TellsPart p m.hooks s2 t2 a d t v x z)
    (λ _ h. part_on p m.hooks s2 t2 a b d t u v x y z first (part_as p m n c.pass.ensures.meanings s2 t2 b d u v y z h)) (c.last_value-then-is_out-2.ensures.told (c.pass.ensures.wanted ∙ w))
