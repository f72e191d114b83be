use Rattle.std.proofs.Common.{◌≡◌, ◌+◌, ℕ, suc, List, map, Option, Ok, Err, IfSome, IfNone, refl, sym, ap, ap₂, ◌∙◌, subst}
use Rattle.std.proofs.lemmas.Option.{slice_get_within}
use Rattle.mau_terms.specs.Tree.{Tree}
use Rattle.mau_signature.specs.Signature.{theory_at}
use Rattle.mau_store.specs.Trees.{tree_at}
use Rattle.mau_store.proofs.Growth.{extension_is_preorder}
use Rattle.mau_store.proofs.Standing.{tree_at-extends}
use Rattle.mau_sorts.proofs.Settling.{kept_on}
use Rattle.mau_evaluation.specs.RuleRuns.{Turns, Stand, turn_to}
use Rattle.mau_api.specs.Programs.{program_over}
use Rattle.mau_api.specs.Answers.{AreSettled}
use Rattle.mau_reduce.proofs.KindsKept.{is_term_kept, tree_kept}
use Rattle.mau_reduce.proofs.PlainTables.{settled_grown}
use Rattle.mau_rules.specs.declared.attempt.Found.{Found}
use Rattle.mau_rules.specs.declared.walk.Open.{Open}
use Rattle.mau_rules.specs.Runs.{turns_of, stand_of}
use Rattle.mau_rules.specs.Found.{IsFound, item_of, found_stand, found_tree, KnownSearch, one_by}
use Rattle.mau_rules.specs.Rounds.{KnownUse}
use Rattle.mau_rules.specs.Walk.{opened, around_all, IsPath}
use Rattle.mau_rules.proofs.Idle.{by_top_grown, by_top_noted}
use Rattle.mau_rules.proofs.Running.{stand_at}
use Rattle.mau_rules.proofs.Paths.{path_term}
use Rattle.mau_rules.proofs.Uses.{found_is, use_so, round_none, round_search_ends, round_value, round_value_ends}
use Rattle.mau_api.specs.Told.{shown_count}
use Rattle.mau_rules.specs.Telling.{TellsFound, TellsRules}
use Rattle.mau_rules.proofs.Told.{behind_on, found_as, rules_as}
use Rattle.mau_rules.proofs.round.round.Goals as goal

pub returns-in-Ok-None-clause-known : goal.returns-in-Ok-None-clause-known
returns-in-Ok-None-clause-known g c =
    let p = c.args.program.now in
    let m = g.E.Evaluator.meanings c.args.evaluator.now in
    let w = g.W.StepWatcher.wanted c.args.watcher.now in
    let P = program_over p m.hooks in
    let I = item_of m w in
    let s0 = c.args.store.now in
    let s1 = c.one_rewrite.new.store in
    let run = c.args.run.now in
    let s = stand_of s0 run in
    let way = c.one_rewrite.new.way.items in
    let b = c.args.budget.now in
    let mid = c.one_rewrite.new.budget in
    let around = around_all (λ v. v) (map (opened s1) way) in
    let stand : Found → Option Stand = (λ z. found_stand p P s.turns (record { term = tree_at s1 z.term.0; around = around }) s1 z) in
    let k = subst (λ (o : Option Found). KnownSearch I (one_by P s) b stand (Ok o) mid) c.in-Ok-None.field-0-is c.in-Ok-None.ensures.known in
    round_none P I s b stand (stand_of s1 run) mid k

pub returns-in-Ok-None-clause-run : goal.returns-in-Ok-None-clause-run
returns-in-Ok-None-clause-run g c =
    record { turns = c.requires.run.turns; term = is_term_kept c.args.program.now.sig c.args.store.now c.one_rewrite.new.store c.args.run.now.term.0 c.one_rewrite.ensures.extends c.requires.run.term }

pub returns-in-Ok-None-clause-settled : goal.returns-in-Ok-None-clause-settled
returns-in-Ok-None-clause-settled g c =
    let s = c.args.program.now.sig in
    let old = c.args.store.now in
    let new = c.one_rewrite.new.store in
    let i = c.args.run.now.term.0 in
    subst (λ (t : Tree). AreSettled s new (g.E.Evaluator.table c.one_rewrite.new.evaluator) t) (sym (tree_kept (theory_at s) old new i c.one_rewrite.ensures.extends c.requires.run.term.within))
    (settled_grown s old new (g.E.Evaluator.table c.args.evaluator.now) (g.E.Evaluator.table c.one_rewrite.new.evaluator) (tree_at old i) c.one_rewrite.ensures.extends c.one_rewrite.ensures.kept c.requires.settled)

pub returns-in-Ok-None-clause-unchanged : goal.returns-in-Ok-None-clause-unchanged
returns-in-Ok-None-clause-unchanged g c = λ e. refl

pub returns-in-Err-clause-known : goal.returns-in-Err-clause-known
returns-in-Err-clause-known g c =
    let p = c.args.program.now in
    let m = g.E.Evaluator.meanings c.args.evaluator.now in
    let w = g.W.StepWatcher.wanted c.args.watcher.now in
    let P = program_over p m.hooks in
    let I = item_of m w in
    let s0 = c.args.store.now in
    let s1 = c.one_rewrite.new.store in
    let run = c.args.run.now in
    let s = stand_of s0 run in
    let way = c.one_rewrite.new.way.items in
    let b = c.args.budget.now in
    let mid = c.one_rewrite.new.budget in
    let around = around_all (λ v. v) (map (opened s1) way) in
    let stand : Found → Option Stand = (λ z. found_stand p P s.turns (record { term = tree_at s1 z.term.0; around = around }) s1 z) in
    round_search_ends P I s b stand (stand_of s1 run) mid c.in-Err.end c.in-Err.ensures.known

pub returns-in-Err-clause-run : goal.returns-in-Err-clause-run
returns-in-Err-clause-run g c =
    record { turns = c.requires.run.turns; term = is_term_kept c.args.program.now.sig c.args.store.now c.one_rewrite.new.store c.args.run.now.term.0 c.one_rewrite.ensures.extends c.requires.run.term }

pub value_behind-requires-clause-walk : goal.value_behind-requires-clause-walk
value_behind-requires-clause-walk g c =
    let new = c.one_rewrite.new.store in
    let root = c.args.run.now.term.0 in
    let path = subst (λ (o : Option Found). IfSome o (λ z. IsPath new root c.one_rewrite.new.way.items z.term.0)) c.in-Ok-Some.field-0-is c.in-Ok-Some.ensures.path in (
      root,
      record {
        begins = is_term_kept c.args.program.now.sig c.args.store.now new root c.one_rewrite.ensures.extends c.requires.run.term;
        path = subst (λ (os : List Open). IsPath new root os c.in-Ok-Some.found.term.0) (sym c.deref.ensures.value) path;
      },
    )

pub returns-in-Err-value_behind-clause-known : goal.returns-in-Err-value_behind-clause-known
returns-in-Err-value_behind-clause-known g c =
    let p = c.args.program.now in
    let m = g.E.Evaluator.meanings c.args.evaluator.now in
    let w = g.W.StepWatcher.wanted c.args.watcher.now in
    let P = program_over p m.hooks in
    let I = item_of m w in
    let s0 = c.args.store.now in
    let s1 = c.one_rewrite.new.store in
    let run = c.args.run.now in
    let s = stand_of s0 run in
    let way = c.one_rewrite.new.way.items in
    let b = c.args.budget.now in
    let mid = c.one_rewrite.new.budget in
    let around = around_all (λ v. v) (map (opened s1) way) in
    let stand : Found → Option Stand = (λ z. found_stand p P s.turns (record { term = tree_at s1 z.term.0; around = around }) s1 z) in
    let x = c.in-Ok-Some.found in
    let f = subst (λ (o : Option Found). IfSome o (λ z. IsFound p s1 (g.E.Evaluator.table c.one_rewrite.new.evaluator) (tree_at s1 z.term.0) z)) c.in-Ok-Some.field-0-is c.in-Ok-Some.ensures.found in
    let k = subst (λ (o : Option Found). KnownSearch I (one_by P s) b stand (Ok o) mid) c.in-Ok-Some.field-0-is c.in-Ok-Some.ensures.known in
    let u = stand_at (around (found_tree p s1 x)) (turn_to s.turns (tree_at s1 x.term.0) (suc x.number)) in
    let is = found_is p m.hooks s.turns around s1 x f.rule f.at in
    let s2 = c.value_behind.new.store in
    let n = g.E.Evaluator.meanings c.one_rewrite.new.evaluator in
    let v = g.W.StepWatcher.wanted c.one_rewrite.new.watcher in
    let e = c.in-Err-value_behind.end in
    let h = use_so p m n v w c.one_rewrite.ensures.meanings c.one_rewrite.ensures.wanted u.term mid s2 (Err e) c.value_behind.new.budget
    (subst (λ (os : List Open). KnownUse (item_of n v) (program_over p n.hooks) (around_all (λ z. z) (map (opened s1) os) (found_tree p s1 x)) mid s2 (Err e) c.value_behind.new.budget) c.deref.ensures.value c.in-Err-value_behind.ensures.known) in
    round_value_ends P I s b x stand u is mid k s2 c.value_behind.new.budget (stand_of s2 run) e h

pub returns-in-Err-value_behind-clause-run : goal.returns-in-Err-value_behind-clause-run
returns-in-Err-value_behind-clause-run g c = record {
  turns = c.requires.run.turns;
  term = is_term_kept c.args.program.now.sig c.args.store.now c.value_behind.new.store c.args.run.now.term.0
      (extension_is_preorder.transitive c.args.store.now c.one_rewrite.new.store c.value_behind.new.store c.one_rewrite.ensures.extends c.value_behind.ensures.extends) c.requires.run.term;
}

pub returns-in-Err-value_behind-clause-kept : goal.returns-in-Err-value_behind-clause-kept
returns-in-Err-value_behind-clause-kept g c = kept_on (g.E.Evaluator.table c.args.evaluator.now) (g.E.Evaluator.table c.one_rewrite.new.evaluator) (g.E.Evaluator.table c.value_behind.new.evaluator) c.one_rewrite.ensures.kept c.value_behind.ensures.kept

pub next_turn-next-requires : goal.next_turn-next-requires
next_turn-next-requires g c =
    let s1 = c.one_rewrite.new.store in
    let f = subst (λ (o : Option Found). IfSome o (λ z. IsFound c.args.program.now s1 (g.E.Evaluator.table c.one_rewrite.new.evaluator) (tree_at s1 z.term.0) z)) c.in-Ok-Some.field-0-is c.in-Ok-Some.ensures.found in
    slice_get_within c.args.program.now.rules c.in-Ok-Some.found.number f.rule f.at

pub turn_on-requires-clause-term : goal.turn_on-requires-clause-term
turn_on-requires-clause-term g c =
    is_term_kept c.args.program.now.sig c.one_rewrite.new.store c.value_behind.new.store c.in-Ok-Some.found.term.0 c.value_behind.ensures.extends (
    path_term c.args.program.now.sig c.requires.runnable.reducible.lawful c.one_rewrite.new.store c.len.ensures.nodes c.args.run.now.term.0 c.one_rewrite.new.way.items c.in-Ok-Some.found.term.0
    (is_term_kept c.args.program.now.sig c.args.store.now c.one_rewrite.new.store c.args.run.now.term.0 c.one_rewrite.ensures.extends c.requires.run.term)
    (subst (λ (o : Option Found). IfSome o (λ z. IsPath c.one_rewrite.new.store c.args.run.now.term.0 c.one_rewrite.new.way.items z.term.0)) c.in-Ok-Some.field-0-is c.in-Ok-Some.ensures.path))

pub returns-clause-known : goal.returns-clause-known
returns-clause-known g c =
    let p = c.args.program.now in
    let m = g.E.Evaluator.meanings c.args.evaluator.now in
    let w = g.W.StepWatcher.wanted c.args.watcher.now in
    let P = program_over p m.hooks in
    let I = item_of m w in
    let s0 = c.args.store.now in
    let s1 = c.one_rewrite.new.store in
    let run = c.args.run.now in
    let s = stand_of s0 run in
    let way = c.one_rewrite.new.way.items in
    let b = c.args.budget.now in
    let mid = c.one_rewrite.new.budget in
    let around = around_all (λ v. v) (map (opened s1) way) in
    let stand : Found → Option Stand = (λ z. found_stand p P s.turns (record { term = tree_at s1 z.term.0; around = around }) s1 z) in
    let x = c.in-Ok-Some.found in
    let f = subst (λ (o : Option Found). IfSome o (λ z. IsFound p s1 (g.E.Evaluator.table c.one_rewrite.new.evaluator) (tree_at s1 z.term.0) z)) c.in-Ok-Some.field-0-is c.in-Ok-Some.ensures.found in
    let k = subst (λ (o : Option Found). KnownSearch I (one_by P s) b stand (Ok o) mid) c.in-Ok-Some.field-0-is c.in-Ok-Some.ensures.known in
    let u = stand_at (around (found_tree p s1 x)) (turn_to s.turns (tree_at s1 x.term.0) (suc x.number)) in
    let is = found_is p m.hooks s.turns around s1 x f.rule f.at in
    let s2 = c.value_behind.new.store in
    let n = g.E.Evaluator.meanings c.one_rewrite.new.evaluator in
    let v = g.W.StepWatcher.wanted c.one_rewrite.new.watcher in
    let y = c.in-Ok.value in
    let h = use_so p m n v w c.one_rewrite.ensures.meanings c.one_rewrite.ensures.wanted u.term mid s2 (Ok y) c.value_behind.new.budget
    (subst (λ (os : List Open). KnownUse (item_of n v) (program_over p n.hooks) (around_all (λ z. z) (map (opened s1) os) (found_tree p s1 x)) mid s2 (Ok y) c.value_behind.new.budget) c.deref.ensures.value c.in-Ok.ensures.known) in
    let there = (
    path_term c.args.program.now.sig c.requires.runnable.reducible.lawful c.one_rewrite.new.store c.len.ensures.nodes c.args.run.now.term.0 c.one_rewrite.new.way.items c.in-Ok-Some.found.term.0
    (is_term_kept c.args.program.now.sig c.args.store.now c.one_rewrite.new.store c.args.run.now.term.0 c.one_rewrite.ensures.extends c.requires.run.term)
    (subst (λ (o : Option Found). IfSome o (λ z. IsPath c.one_rewrite.new.store c.args.run.now.term.0 c.one_rewrite.new.way.items z.term.0)) c.in-Ok-Some.field-0-is c.in-Ok-Some.ensures.path)).within.there in
    let turns : turns_of c.turn_on.new.turns.items ≡ u.turns = c.turn_on.ensures.turns
    ∙ ap₂ (λ (t : Tree) (j : ℕ). turn_to s.turns t j) (tree_at-extends s1 s2 x.term.0 c.value_behind.ensures.extends there) c.next_turn-next.ensures in
    round_value P I s b x stand u is mid k s2 y c.value_behind.new.budget c.saturating_add.result (stand_at (tree_at s2 y.term.0) (turns_of c.turn_on.new.turns.items)) c.saturating_add.ensures
    (ap (λ (h : Turns). stand_at (tree_at s2 y.term.0) h) turns) h

pub returns-clause-kept : goal.returns-clause-kept
returns-clause-kept g c = kept_on (g.E.Evaluator.table c.args.evaluator.now) (g.E.Evaluator.table c.one_rewrite.new.evaluator) (g.E.Evaluator.table c.value_behind.new.evaluator) c.one_rewrite.ensures.kept c.value_behind.ensures.kept

pub note-requires : goal.note-requires
note-requires g c = c.requires.by_top.idle

pub one_rewrite-requires-clause-by_top : goal.one_rewrite-requires-clause-by_top
one_rewrite-requires-clause-by_top g c =
    by_top_noted c.args.program.now c.args.store.now c.args.by_top.now c.note.new.self c.note.ensures.orders c.note.ensures.table c.requires.by_top

pub returns-in-Ok-None-clause-by_top : goal.returns-in-Ok-None-clause-by_top
returns-in-Ok-None-clause-by_top g c =
    by_top_grown c.args.program.now c.args.store.now c.one_rewrite.new.store c.note.new.self c.one_rewrite.ensures.extends
    (by_top_noted c.args.program.now c.args.store.now c.args.by_top.now c.note.new.self c.note.ensures.orders c.note.ensures.table c.requires.by_top)

pub returns-in-Err-clause-by_top : goal.returns-in-Err-clause-by_top
returns-in-Err-clause-by_top g c =
    by_top_grown c.args.program.now c.args.store.now c.one_rewrite.new.store c.note.new.self c.one_rewrite.ensures.extends
    (by_top_noted c.args.program.now c.args.store.now c.args.by_top.now c.note.new.self c.note.ensures.orders c.note.ensures.table c.requires.by_top)

pub returns-in-Err-value_behind-clause-by_top : goal.returns-in-Err-value_behind-clause-by_top
returns-in-Err-value_behind-clause-by_top g c =
    by_top_grown c.args.program.now c.args.store.now c.value_behind.new.store c.note.new.self
    (extension_is_preorder.transitive c.args.store.now c.one_rewrite.new.store c.value_behind.new.store c.one_rewrite.ensures.extends c.value_behind.ensures.extends)
    (by_top_noted c.args.program.now c.args.store.now c.args.by_top.now c.note.new.self c.note.ensures.orders c.note.ensures.table c.requires.by_top)

pub returns-clause-by_top : goal.returns-clause-by_top
returns-clause-by_top g c =
    by_top_grown c.args.program.now c.args.store.now c.value_behind.new.store c.note.new.self
    (extension_is_preorder.transitive c.args.store.now c.one_rewrite.new.store c.value_behind.new.store c.one_rewrite.ensures.extends c.value_behind.ensures.extends)
    (by_top_noted c.args.program.now c.args.store.now c.args.by_top.now c.note.new.self c.note.ensures.orders c.note.ensures.table c.requires.by_top)

-- ---- what is told

pub returns-in-Ok-None-clause-untold : goal.returns-in-Ok-None-clause-untold
returns-in-Ok-None-clause-untold g c =
    subst (λ (o : Option Found). IfNone o (g.W.StepWatcher.told c.one_rewrite.new.watcher ≡ g.W.StepWatcher.told c.args.watcher.now)) c.in-Ok-None.field-0-is c.in-Ok-None.ensures.untold

pub returns-in-Err-value_behind-clause-behind : goal.returns-in-Err-value_behind-clause-behind
returns-in-Err-value_behind-clause-behind g c =
    behind_on (g.W.StepWatcher.wanted c.one_rewrite.new.watcher) (g.W.StepWatcher.wanted c.args.watcher.now) (g.W.StepWatcher.told c.args.watcher.now) (g.W.StepWatcher.told c.one_rewrite.new.watcher) (g.W.StepWatcher.told c.value_behind.new.watcher)
    c.one_rewrite.ensures.wanted c.one_rewrite.ensures.behind c.value_behind.ensures.behind

pub returns-clause-behind : goal.returns-clause-behind
returns-clause-behind g c =
    behind_on (g.W.StepWatcher.wanted c.one_rewrite.new.watcher) (g.W.StepWatcher.wanted c.args.watcher.now) (g.W.StepWatcher.told c.args.watcher.now) (g.W.StepWatcher.told c.one_rewrite.new.watcher) (g.W.StepWatcher.told c.value_behind.new.watcher)
    c.one_rewrite.ensures.wanted c.one_rewrite.ensures.behind c.value_behind.ensures.behind

pub returns-clause-told : goal.returns-clause-told
returns-clause-told g c = λ w.
    let p = c.args.program.now in
    let m = g.E.Evaluator.meanings c.args.evaluator.now in
    let n = g.E.Evaluator.meanings c.one_rewrite.new.evaluator in
    let s0 = c.args.store.now in
    let s1 = c.one_rewrite.new.store in
    let s2 = c.value_behind.new.store in
    let table = g.E.Evaluator.table c.one_rewrite.new.evaluator in
    let after = g.E.Evaluator.table c.value_behind.new.evaluator in
    let a = g.W.StepWatcher.told c.args.watcher.now in
    let b = g.W.StepWatcher.told c.one_rewrite.new.watcher in
    let d = g.W.StepWatcher.told c.value_behind.new.watcher in
    let root = c.args.run.now.term.0 in
    let x = c.in-Ok-Some.found in
    let y = c.in-Ok.value in
    let way = c.one_rewrite.new.way.items in
    let path = subst (λ (os : List Open). IsPath s1 root os x.term.0) (sym c.deref.ensures.value) (subst (λ (o : Option Found). IfSome o (λ z. IsPath s1 root way z.term.0)) c.in-Ok-Some.field-0-is c.in-Ok-Some.ensures.path) in
    let found = found_as p n m (sym c.one_rewrite.ensures.meanings) s1 table a a b refl x (subst (λ (o : Option Found). IfSome o (TellsFound p m.hooks s1 table a b)) c.in-Ok-Some.field-0-is (c.in-Ok-Some.ensures.told w)) in
    let told = c.in-Ok.ensures.told (c.one_rewrite.ensures.wanted ∙ w) a root path found in
    subst (λ r. TellsRules p m.hooks s2 after a d (tree_at s0 root) (tree_at s2 y.term.0) r) (sym c.saturating_add.ensures)
    (subst (λ t. TellsRules p m.hooks s2 after a d t (tree_at s2 y.term.0) (shown_count (x.rewrites + y.rewrites))) (tree_kept (theory_at p.sig) s0 s1 root c.one_rewrite.ensures.extends c.requires.run.term.within)
    (rules_as p m n c.one_rewrite.ensures.meanings s2 after a a d refl (tree_at s1 root) (tree_at s2 y.term.0) (shown_count (x.rewrites + y.rewrites)) told))
