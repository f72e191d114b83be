use Rattle.std.proofs.Common.{◌≡◌, ◌++◌, [], List, map, ℕ, Option, Some, None, Ok, Err, true, IfSome, IfNone, refl, sym, ap, ◌∙◌, subst, append-nil, arith, le_trans}
use Rattle.mau_terms.specs.Tree.{Tree}
use Rattle.mau_signature.specs.Signature.{theory_at}
use Rattle.mau_store.specs.Trees.{tree_at}
use Rattle.mau_store.proofs.Growth.{extension_is_preorder}
use Rattle.mau_sorts.proofs.Settling.{kept_on, kept_same}
use Rattle.mau_evaluation.specs.Rules.{Place, places}
use Rattle.mau_api.specs.Terms.{IsNormalBare}
use Rattle.mau_api.specs.Programs.{program_over}
use Rattle.mau_api.specs.Meanings.{Meanings}
use Rattle.mau_api.specs.Answers.{AreSettled}
use Rattle.mau_reduce.proofs.KindsKept.{is_term_kept, tree_kept}
use Rattle.mau_reduce.proofs.PlainTables.{settled_grown}
use Rattle.mau_rules.specs.declared.attempt.Found.{Found}
use Rattle.mau_rules.specs.declared.walk.Open.{Open}
use Rattle.mau_rules.specs.Runnable.{GoesBy}
use Rattle.mau_rules.specs.Runs.{stand_of, turns_of}
use Rattle.mau_terms.specs.declared.ids.TermId.{TermId}
use Rattle.mau_rules.specs.Found.{IsFound, item_of, one_by, rules_in, found_stand, KnownSearch, turn_at}
use Rattle.mau_rules.specs.Telling.{TellsFound}
use Rattle.mau_rules.specs.ByTop.{is_idle}
use Rattle.mau_rules.specs.Walk.{is_frozen_at, opened, around_all, places_left, IsPath}
use Rattle.mau_rules.proofs.Placed.{LeftFrom, each_place, places_begin}
use Rattle.mau_rules.proofs.Walked.{place_so, places_from, places_on, place_at, IsLeft, walked_past, walked_ends, walked_found, found_in, walked_all}
use Rattle.mau_rules.proofs.Idle.{idle_grown, passed_below}
use Rattle.mau_rules.proofs.Paths.{path_term, path_settled, path_kept}
use Rattle.mau_rules.proofs.Told.{behind_equal, behind_on, found_as}
use Rattle.mau_rules.proofs.one.one_rewrite.Goals as goal

pub loop-init : goal.loop-init
loop-init g c =
    let m = g.E.Evaluator.meanings c.args.evaluator.now in
    let P = program_over c.args.program.now m.hooks in
    let s = stand_of c.args.store.now c.args.run.now in
    let z = is_frozen_at c.args.program.now.sig in
    let I = item_of m (g.W.StepWatcher.wanted c.args.watcher.now) in
    let none : map (opened c.args.store.now) c.args.way.now.items ≡ [] = ap (map (opened c.args.store.now)) c.requires.way in
    record {
      meanings = refl;
      fits = c.requires.fits;
      extends = extension_is_preorder.reflexive c.args.store.now;
      kept = kept_same (g.E.Evaluator.table c.args.evaluator.now);
      falls = omega arith;
      told = refl;
      wanted = refl;
      path = subst (λ (os : List Open). IsPath c.args.store.now c.args.run.now.term.0 os c.args.run.now.term.0) (sym c.requires.way) refl;
      goes_on = subst (λ os. LeftFrom I (each_place P I s) (one_by P s) c.args.budget.now (places z (around_all (λ v. v) os) s.term ++ places_left z (λ v. v) os) c.args.budget.now) (sym none)
          (subst (λ ps. LeftFrom I (each_place P I s) (one_by P s) c.args.budget.now ps c.args.budget.now) (sym (append-nil (places z (λ v. v) s.term))) (places_begin P I s c.args.budget.now));
    }

pub among-requires-clause-goes_by : goal.among-requires-clause-goes_by
among-requires-clause-goes_by g c = subst (λ (n : Meanings). GoesBy c.args.program.now n) (sym c.loop.invariant.meanings) c.requires.goes_by

pub turn_for-turn-requires : goal.turn_for-turn-requires
turn_for-turn-requires g c =
    (path_term c.args.program.now.sig c.requires.runnable.reducible.lawful c.loop.store c.len.ensures.nodes c.args.run.now.term.0 c.loop.way.items c.loop.due.0
    (is_term_kept c.args.program.now.sig c.args.store.now c.loop.store c.args.run.now.term.0 c.loop.invariant.extends c.requires.run.term) c.loop.invariant.path).within.there

pub numbers_at-numbers-requires-clause-term : goal.numbers_at-numbers-requires-clause-term
numbers_at-numbers-requires-clause-term g c =
    path_term c.args.program.now.sig c.requires.runnable.reducible.lawful c.loop.store c.len.ensures.nodes c.args.run.now.term.0 c.loop.way.items c.loop.due.0
    (is_term_kept c.args.program.now.sig c.args.store.now c.loop.store c.args.run.now.term.0 c.loop.invariant.extends c.requires.run.term) c.loop.invariant.path

pub among-requires-clause-term : goal.among-requires-clause-term
among-requires-clause-term g c =
    path_term c.args.program.now.sig c.requires.runnable.reducible.lawful c.loop.store c.len.ensures.nodes c.args.run.now.term.0 c.loop.way.items c.loop.due.0
    (is_term_kept c.args.program.now.sig c.args.store.now c.loop.store c.args.run.now.term.0 c.loop.invariant.extends c.requires.run.term) c.loop.invariant.path

pub among-requires-clause-settled : goal.among-requires-clause-settled
among-requires-clause-settled g c =
    let s = c.args.program.now.sig in
    let i = c.loop.invariant in
    let table = g.E.Evaluator.table c.loop.evaluator in
    let root = c.args.run.now.term.0 in
    let same = tree_kept (theory_at s) c.args.store.now c.loop.store root i.extends c.requires.run.term.within in
    path_settled s c.loop.store c.len.ensures.nodes table root c.loop.way.items c.loop.due.0 i.path
    (subst (λ (t : Tree). AreSettled s c.loop.store table t) (sym same) (settled_grown s c.args.store.now c.loop.store (g.E.Evaluator.table c.args.evaluator.now) table (tree_at c.args.store.now root) i.extends i.kept c.requires.settled))

pub next_place-requires-clause-lawful : goal.next_place-requires-clause-lawful
next_place-requires-clause-lawful g c = c.requires.runnable.reducible.lawful

pub next_place-requires-clause-walk : goal.next_place-requires-clause-walk
next_place-requires-clause-walk g c =
    let s = c.args.program.now.sig in
    let new = c.among.new.store in
    let e = extension_is_preorder.transitive c.args.store.now c.loop.store new c.loop.invariant.extends c.among.ensures.extends in
    (c.args.run.now.term.0, record { begins = is_term_kept s c.args.store.now new c.args.run.now.term.0 e c.requires.run.term; path = path_kept c.loop.store new c.among.ensures.extends c.args.run.now.term.0 c.loop.way.items c.loop.due.0 c.loop.invariant.path })

pub returns-in-Ok-Some-clause-known : goal.returns-in-Ok-Some-clause-known
returns-in-Ok-Some-clause-known g c =
    let p = c.args.program.now in
    let m = g.E.Evaluator.meanings c.args.evaluator.now in
    let n = g.E.Evaluator.meanings c.loop.evaluator in
    let v = g.W.StepWatcher.wanted c.loop.watcher in
    let w = g.W.StepWatcher.wanted c.args.watcher.now in
    let I = item_of m w in
    let s = stand_of c.args.store.now c.args.run.now in
    let i = c.loop.invariant in
    let now = c.loop.store in
    let new = c.among.new.store in
    let due = c.loop.due.0 in
    let os = c.loop.way.items in
    let root = c.args.run.now.term.0 in
    let q = place_at now os due in
    let there = (path_term p.sig c.requires.runnable.reducible.lawful now c.len.ensures.nodes root os due (is_term_kept p.sig c.args.store.now now root i.extends c.requires.run.term) i.path).within.there in
    let turn : turn_at s.turns (tree_at now due) ≡ c.turn_for-turn.result = ap (λ (xs : List ℕ). turn_at (turns_of xs) (tree_at now due)) (sym c.deref.ensures.value) ∙ c.turn_for-turn.ensures in
    let known = place_so p m n v w i.meanings i.wanted s.turns q c.loop.budget new (Ok (Some c.in-Ok-Some.found)) c.among.new.budget
    (subst (λ (o : Option Found). KnownSearch (item_of n v) (rules_in (program_over p n.hooks) s.turns q) c.loop.budget (found_stand p (program_over p n.hooks) s.turns q new) (Ok o) c.among.new.budget) c.in-Ok-Some.field-0-is
    (c.in-Ok-Some.ensures.known s.turns q.around turn)) in
    let x = c.in-Ok-Some.found in
    let table = g.E.Evaluator.table c.among.new.evaluator in
    let at = ap (λ (k : TermId). k.0) (subst (λ (o : Option Found). IfSome o (λ z. z.term ≡ c.loop.due)) c.in-Ok-Some.field-0-is c.in-Ok-Some.ensures.term) in
    let is = subst (λ (o : Option Found). IfSome o (IsFound p new table (tree_at now due))) c.in-Ok-Some.field-0-is c.in-Ok-Some.ensures.found in
    walked_found p m.hooks I s c.args.budget.now now new c.among.ensures.extends root due os i.path there c.loop.budget i.goes_on c.among.new.budget x table at is known

pub returns-in-Ok-Some-clause-found : goal.returns-in-Ok-Some-clause-found
returns-in-Ok-Some-clause-found g c =
    let p = c.args.program.now in
    let m = g.E.Evaluator.meanings c.args.evaluator.now in
    let n = g.E.Evaluator.meanings c.loop.evaluator in
    let v = g.W.StepWatcher.wanted c.loop.watcher in
    let w = g.W.StepWatcher.wanted c.args.watcher.now in
    let I = item_of m w in
    let s = stand_of c.args.store.now c.args.run.now in
    let i = c.loop.invariant in
    let now = c.loop.store in
    let new = c.among.new.store in
    let due = c.loop.due.0 in
    let os = c.loop.way.items in
    let root = c.args.run.now.term.0 in
    let q = place_at now os due in
    let there = (path_term p.sig c.requires.runnable.reducible.lawful now c.len.ensures.nodes root os due (is_term_kept p.sig c.args.store.now now root i.extends c.requires.run.term) i.path).within.there in
    let turn : turn_at s.turns (tree_at now due) ≡ c.turn_for-turn.result = ap (λ (xs : List ℕ). turn_at (turns_of xs) (tree_at now due)) (sym c.deref.ensures.value) ∙ c.turn_for-turn.ensures in
    let x = c.in-Ok-Some.found in
    let table = g.E.Evaluator.table c.among.new.evaluator in
    let at = ap (λ (k : TermId). k.0) (subst (λ (o : Option Found). IfSome o (λ z. z.term ≡ c.loop.due)) c.in-Ok-Some.field-0-is c.in-Ok-Some.ensures.term) in
    let is = subst (λ (o : Option Found). IfSome o (IsFound p new table (tree_at now due))) c.in-Ok-Some.field-0-is c.in-Ok-Some.ensures.found in
    found_in p m.hooks I s c.args.budget.now now new c.among.ensures.extends root due os i.path there c.loop.budget i.goes_on x table at is

pub returns-in-Ok-Some-clause-path : goal.returns-in-Ok-Some-clause-path
returns-in-Ok-Some-clause-path g c =
    let root = c.args.run.now.term.0 in
    let at = ap (λ (k : TermId). k.0) (subst (λ (o : Option Found). IfSome o (λ z. z.term ≡ c.loop.due)) c.in-Ok-Some.field-0-is c.in-Ok-Some.ensures.term) in
    subst (λ (k : ℕ). IsPath c.among.new.store root c.loop.way.items k) (sym at) (path_kept c.loop.store c.among.new.store c.among.ensures.extends root c.loop.way.items c.loop.due.0 c.loop.invariant.path)

pub returns-in-Ok-Some-clause-kept : goal.returns-in-Ok-Some-clause-kept
returns-in-Ok-Some-clause-kept g c = kept_on (g.E.Evaluator.table c.args.evaluator.now) (g.E.Evaluator.table c.loop.evaluator) (g.E.Evaluator.table c.among.new.evaluator) c.loop.invariant.kept c.among.ensures.kept

pub returns-in-Err-clause-known : goal.returns-in-Err-clause-known
returns-in-Err-clause-known g c =
    let p = c.args.program.now in
    let m = g.E.Evaluator.meanings c.args.evaluator.now in
    let n = g.E.Evaluator.meanings c.loop.evaluator in
    let v = g.W.StepWatcher.wanted c.loop.watcher in
    let w = g.W.StepWatcher.wanted c.args.watcher.now in
    let I = item_of m w in
    let s = stand_of c.args.store.now c.args.run.now in
    let i = c.loop.invariant in
    let now = c.loop.store in
    let new = c.among.new.store in
    let due = c.loop.due.0 in
    let os = c.loop.way.items in
    let root = c.args.run.now.term.0 in
    let q = place_at now os due in
    let there = (path_term p.sig c.requires.runnable.reducible.lawful now c.len.ensures.nodes root os due (is_term_kept p.sig c.args.store.now now root i.extends c.requires.run.term) i.path).within.there in
    let turn : turn_at s.turns (tree_at now due) ≡ c.turn_for-turn.result = ap (λ (xs : List ℕ). turn_at (turns_of xs) (tree_at now due)) (sym c.deref.ensures.value) ∙ c.turn_for-turn.ensures in
    let e = c.in-Err.end in
    let known = place_so p m n v w i.meanings i.wanted s.turns q c.loop.budget new (Err e) c.among.new.budget (c.in-Err.ensures.known s.turns q.around turn) in
    walked_ends p m.hooks I s c.args.budget.now now new c.among.ensures.extends root due os i.path there c.loop.budget i.goes_on new c.among.new.budget e (λ z. found_stand p (program_over p m.hooks) s.turns (place_at new os z.term.0) new z) known

pub returns-in-Err-clause-kept : goal.returns-in-Err-clause-kept
returns-in-Err-clause-kept g c = kept_on (g.E.Evaluator.table c.args.evaluator.now) (g.E.Evaluator.table c.loop.evaluator) (g.E.Evaluator.table c.among.new.evaluator) c.loop.invariant.kept c.among.ensures.kept

pub returns-in-Ok-None-next_place-clause-known : goal.returns-in-Ok-None-next_place-clause-known
returns-in-Ok-None-next_place-clause-known g c =
    let p = c.args.program.now in
    let m = g.E.Evaluator.meanings c.args.evaluator.now in
    let n = g.E.Evaluator.meanings c.loop.evaluator in
    let v = g.W.StepWatcher.wanted c.loop.watcher in
    let w = g.W.StepWatcher.wanted c.args.watcher.now in
    let I = item_of m w in
    let s = stand_of c.args.store.now c.args.run.now in
    let i = c.loop.invariant in
    let now = c.loop.store in
    let new = c.among.new.store in
    let due = c.loop.due.0 in
    let os = c.loop.way.items in
    let root = c.args.run.now.term.0 in
    let q = place_at now os due in
    let there = (path_term p.sig c.requires.runnable.reducible.lawful now c.len.ensures.nodes root os due (is_term_kept p.sig c.args.store.now now root i.extends c.requires.run.term) i.path).within.there in
    let turn : turn_at s.turns (tree_at now due) ≡ c.turn_for-turn.result = ap (λ (xs : List ℕ). turn_at (turns_of xs) (tree_at now due)) (sym c.deref.ensures.value) ∙ c.turn_for-turn.ensures in
    let known = place_so p m n v w i.meanings i.wanted s.turns q c.loop.budget new (Ok None) c.among.new.budget
    (subst (λ (o : Option Found). KnownSearch (item_of n v) (rules_in (program_over p n.hooks) s.turns q) c.loop.budget (found_stand p (program_over p n.hooks) s.turns q new) (Ok o) c.among.new.budget) c.in-Ok-None.field-0-is
    (c.in-Ok-None.ensures.known s.turns q.around turn)) in
    let left = walked_past p m.hooks I s c.args.budget.now now new c.among.ensures.extends root due os i.path there c.loop.budget i.goes_on new c.among.new.budget known in
    let reached = extension_is_preorder.transitive c.args.store.now now new i.extends c.among.ensures.extends in
    let is = is_term_kept p.sig now new due c.among.ensures.extends
    (path_term p.sig c.requires.runnable.reducible.lawful now c.len.ensures.nodes root os due (is_term_kept p.sig c.args.store.now now root i.extends c.requires.run.term) i.path) in
    let normal : IsNormalBare p.sig (tree_at new due) = (is.within.normal, is.bare) in
    let idle : c.skips-skip.result ≡ true → is_idle (map (λ list. list.items) c.args.by_top.now.orders.items) (tree_at new due) ≡ true = (λ e. c.skips-skip.ensures (map (λ list. list.items) c.args.by_top.now.orders.items) new e (idle_grown (map (λ list. list.items) c.args.by_top.now.orders.items) c.args.store.now new reached c.args.by_top.now.idle.items c.requires.by_top.idle)) in
    let below = passed_below p c.requires.runnable m.hooks I s c.args.budget.now (map (λ list. list.items) c.args.by_top.now.orders.items) c.requires.by_top.rules c.skips-skip.result new os due c.among.new.budget normal idle left in
    let end = subst (λ (o : Option TermId). IfNone o (places_on c.skips-skip.result p new os due ≡ [])) c.in-Ok-None-next_place.field-0-is (c.in-Ok-None-next_place.ensures.none (λ u. u)) in
    walked_all p m.hooks I s c.args.budget.now c.among.new.budget (subst (λ (ps : List Place). IsLeft p m.hooks I s c.args.budget.now ps c.among.new.budget) end below)

pub returns-in-Ok-None-next_place-clause-kept : goal.returns-in-Ok-None-next_place-clause-kept
returns-in-Ok-None-next_place-clause-kept g c = kept_on (g.E.Evaluator.table c.args.evaluator.now) (g.E.Evaluator.table c.loop.evaluator) (g.E.Evaluator.table c.among.new.evaluator) c.loop.invariant.kept c.among.ensures.kept

pub returns-in-Err-next_place-clause-kept : goal.returns-in-Err-next_place-clause-kept
returns-in-Err-next_place-clause-kept g c = kept_on (g.E.Evaluator.table c.args.evaluator.now) (g.E.Evaluator.table c.loop.evaluator) (g.E.Evaluator.table c.among.new.evaluator) c.loop.invariant.kept c.among.ensures.kept

pub loop-preserved : goal.loop-preserved
loop-preserved g c =
    let p = c.args.program.now in
    let m = g.E.Evaluator.meanings c.args.evaluator.now in
    let n = g.E.Evaluator.meanings c.loop.evaluator in
    let v = g.W.StepWatcher.wanted c.loop.watcher in
    let w = g.W.StepWatcher.wanted c.args.watcher.now in
    let I = item_of m w in
    let s = stand_of c.args.store.now c.args.run.now in
    let i = c.loop.invariant in
    let now = c.loop.store in
    let new = c.among.new.store in
    let due = c.loop.due.0 in
    let os = c.loop.way.items in
    let root = c.args.run.now.term.0 in
    let q = place_at now os due in
    let there = (path_term p.sig c.requires.runnable.reducible.lawful now c.len.ensures.nodes root os due (is_term_kept p.sig c.args.store.now now root i.extends c.requires.run.term) i.path).within.there in
    let turn : turn_at s.turns (tree_at now due) ≡ c.turn_for-turn.result = ap (λ (xs : List ℕ). turn_at (turns_of xs) (tree_at now due)) (sym c.deref.ensures.value) ∙ c.turn_for-turn.ensures in
    let known = place_so p m n v w i.meanings i.wanted s.turns q c.loop.budget new (Ok None) c.among.new.budget
    (subst (λ (o : Option Found). KnownSearch (item_of n v) (rules_in (program_over p n.hooks) s.turns q) c.loop.budget (found_stand p (program_over p n.hooks) s.turns q new) (Ok o) c.among.new.budget) c.in-Ok-None.field-0-is
    (c.in-Ok-None.ensures.known s.turns q.around turn)) in
    let left = walked_past p m.hooks I s c.args.budget.now now new c.among.ensures.extends root due os i.path there c.loop.budget i.goes_on new c.among.new.budget known in
    let reached = extension_is_preorder.transitive c.args.store.now now new i.extends c.among.ensures.extends in
    let is = is_term_kept p.sig now new due c.among.ensures.extends
    (path_term p.sig c.requires.runnable.reducible.lawful now c.len.ensures.nodes root os due (is_term_kept p.sig c.args.store.now now root i.extends c.requires.run.term) i.path) in
    let normal : IsNormalBare p.sig (tree_at new due) = (is.within.normal, is.bare) in
    let idle : c.skips-skip.result ≡ true → is_idle (map (λ list. list.items) c.args.by_top.now.orders.items) (tree_at new due) ≡ true = (λ e. c.skips-skip.ensures (map (λ list. list.items) c.args.by_top.now.orders.items) new e (idle_grown (map (λ list. list.items) c.args.by_top.now.orders.items) c.args.store.now new reached c.args.by_top.now.idle.items c.requires.by_top.idle)) in
    let on = c.next_place.new.way.items in
    let next = c.in-Ok-Some-next_place.next.0 in
    let below = passed_below p c.requires.runnable m.hooks I s c.args.budget.now (map (λ list. list.items) c.args.by_top.now.orders.items) c.requires.by_top.rules c.skips-skip.result new os due c.among.new.budget normal idle left in
    let more = subst (λ (o : Option TermId). IfSome o (λ k. places_on c.skips-skip.result p new os due ≡ places_from p new on k.0)) c.in-Ok-Some-next_place.field-0-is (c.in-Ok-Some-next_place.ensures.some (λ u. u)) in
    let path = subst (λ (o : Option TermId). IfSome o (λ k. IsPath new root on k.0)) c.in-Ok-Some-next_place.field-0-is (c.in-Ok-Some-next_place.ensures.path root (path_kept now new c.among.ensures.extends root os due i.path)) in
    record {
      meanings = c.among.ensures.meanings ∙ i.meanings;
      fits = c.among.ensures.fits;
      extends = extension_is_preorder.transitive c.args.store.now now new i.extends c.among.ensures.extends;
      kept = kept_on (g.E.Evaluator.table c.args.evaluator.now) (g.E.Evaluator.table c.loop.evaluator) (g.E.Evaluator.table c.among.new.evaluator) i.kept c.among.ensures.kept;
      falls = le_trans c.among.ensures.falls i.falls;
      told = subst (λ (o : Option Found). IfNone o (g.W.StepWatcher.told c.among.new.watcher ≡ g.W.StepWatcher.told c.loop.watcher)) c.in-Ok-None.field-0-is c.in-Ok-None.ensures.untold ∙ i.told;
      wanted = c.among.ensures.wanted ∙ i.wanted;
      path = path;
      goes_on = subst (λ (ps : List Place). IsLeft p m.hooks I s c.args.budget.now ps c.among.new.budget) more below;
    }

-- ---- what is told

pub returns-in-Ok-Some-clause-told : goal.returns-in-Ok-Some-clause-told
returns-in-Ok-Some-clause-told g c = λ w.
    let p = c.args.program.now in
    let m = g.E.Evaluator.meanings c.args.evaluator.now in
    let n = g.E.Evaluator.meanings c.loop.evaluator in
    let i = c.loop.invariant in
    let new = c.among.new.store in
    let table = g.E.Evaluator.table c.among.new.evaluator in
    let a = g.W.StepWatcher.told c.args.watcher.now in
    let b = g.W.StepWatcher.told c.loop.watcher in
    let d = g.W.StepWatcher.told c.among.new.watcher in
    found_as p m n i.meanings new table a b d i.told c.in-Ok-Some.found
    (subst (λ (o : Option Found). IfSome o (TellsFound p n.hooks new table b d)) c.in-Ok-Some.field-0-is (c.in-Ok-Some.ensures.told (i.wanted ∙ w)))

pub returns-in-Ok-Some-clause-behind : goal.returns-in-Ok-Some-clause-behind
returns-in-Ok-Some-clause-behind g c =
    let w = g.W.StepWatcher.wanted c.args.watcher.now in
    let a = g.W.StepWatcher.told c.args.watcher.now in
    let b = g.W.StepWatcher.told c.loop.watcher in
    behind_on (g.W.StepWatcher.wanted c.loop.watcher) w a b (g.W.StepWatcher.told c.among.new.watcher) c.loop.invariant.wanted (behind_equal w a b c.loop.invariant.told) c.among.ensures.behind

pub returns-in-Err-clause-behind : goal.returns-in-Err-clause-behind
returns-in-Err-clause-behind g c =
    let w = g.W.StepWatcher.wanted c.args.watcher.now in
    let a = g.W.StepWatcher.told c.args.watcher.now in
    let b = g.W.StepWatcher.told c.loop.watcher in
    behind_on (g.W.StepWatcher.wanted c.loop.watcher) w a b (g.W.StepWatcher.told c.among.new.watcher) c.loop.invariant.wanted (behind_equal w a b c.loop.invariant.told) c.among.ensures.behind

pub returns-clause-behind : goal.returns-clause-behind
returns-clause-behind g c = behind_equal (g.W.StepWatcher.wanted c.args.watcher.now) (g.W.StepWatcher.told c.args.watcher.now) (g.W.StepWatcher.told c.loop.watcher) c.loop.invariant.told

pub returns-in-Ok-None-next_place-clause-behind : goal.returns-in-Ok-None-next_place-clause-behind
returns-in-Ok-None-next_place-clause-behind g c =
    let w = g.W.StepWatcher.wanted c.args.watcher.now in
    let a = g.W.StepWatcher.told c.args.watcher.now in
    let b = g.W.StepWatcher.told c.loop.watcher in
    behind_on (g.W.StepWatcher.wanted c.loop.watcher) w a b (g.W.StepWatcher.told c.among.new.watcher) c.loop.invariant.wanted (behind_equal w a b c.loop.invariant.told) c.among.ensures.behind

pub returns-in-Ok-None-next_place-clause-untold : goal.returns-in-Ok-None-next_place-clause-untold
returns-in-Ok-None-next_place-clause-untold g c =
    subst (λ (o : Option Found). IfNone o (g.W.StepWatcher.told c.among.new.watcher ≡ g.W.StepWatcher.told c.loop.watcher)) c.in-Ok-None.field-0-is c.in-Ok-None.ensures.untold ∙ c.loop.invariant.told

pub returns-in-Err-next_place-clause-behind : goal.returns-in-Err-next_place-clause-behind
returns-in-Err-next_place-clause-behind g c =
    let w = g.W.StepWatcher.wanted c.args.watcher.now in
    let a = g.W.StepWatcher.told c.args.watcher.now in
    let b = g.W.StepWatcher.told c.loop.watcher in
    behind_on (g.W.StepWatcher.wanted c.loop.watcher) w a b (g.W.StepWatcher.told c.among.new.watcher) c.loop.invariant.wanted (behind_equal w a b c.loop.invariant.told) c.among.ensures.behind
