use Rattle.std.proofs.Common.{◌≡◌, ◌+◌, ℕ, suc, List, Option, Some, Ok, Err, IfSome, IfNone, refl, sym, ap, ap₂, ◌∙◌, subst}
use Rattle.std.proofs.lemmas.Option.{slice_get_within}
use Rattle.mau_terms.specs.Tree.{Tree}
use Rattle.mau_terms.specs.declared.ids.TermId.{TermId}
use Rattle.mau_signature.specs.Signature.{theory_at}
use Rattle.mau_store.specs.Trees.{tree_at}
use Rattle.mau_store.proofs.Growth.{extension_is_preorder}
use Rattle.mau_sorts.proofs.Settling.{kept_on}
use Rattle.mau_evaluation.specs.RuleRuns.{Stand, turn_to}
use Rattle.mau_api.specs.Terms.{IsTerm}
use Rattle.mau_api.specs.Programs.{program_over}
use Rattle.mau_api.specs.Meanings.{Meanings}
use Rattle.mau_reduce.proofs.KindsKept.{is_term_kept, tree_kept}
use Rattle.mau_rules.specs.declared.attempt.Found.{Found}
use Rattle.mau_rules.specs.Runnable.{GoesBy}
use Rattle.mau_rules.specs.Runs.{turns_of}
use Rattle.mau_rules.specs.Found.{IsFound, item_of, rules_in, found_stand, found_tree, KnownSearch, turn_at}
use Rattle.mau_rules.proofs.Running.{stand_at}
use Rattle.mau_rules.proofs.Uses.{found_is, use_so}
use Rattle.mau_rules.proofs.Onces.{once_none, once_search_ends, once_value, once_value_ends}
use Rattle.mau_api.specs.Told.{shown_count}
use Rattle.mau_rules.specs.Telling.{TellsFound, TellsRules}
use Rattle.mau_rules.proofs.Told.{behind_on, found_as, rules_as}
use Rattle.mau_rules.proofs.tops.once.Goals as goal

pub turn_for-turn-requires : goal.turn_for-turn-requires
turn_for-turn-requires g c = c.requires.term.within.there

pub returns-in-Ok-None-clause-known : goal.returns-in-Ok-None-clause-known
returns-in-Ok-None-clause-known g c =
    let p = c.args.program.now in
    let m = g.E.Evaluator.meanings c.args.evaluator.now in
    let w = g.W.StepWatcher.wanted c.args.watcher.now in
    let P = program_over p m.hooks in
    let I = item_of m w in
    let s0 = c.args.store.now in
    let s1 = c.among.new.store in
    let t = tree_at s0 c.args.term.0 in
    let turns = turns_of c.args.run.now.turns.items in
    let b = c.args.budget.now in
    let mid = c.among.new.budget in
    let stand : Found → Option Stand = (λ z. found_stand p P turns (record { term = t; around = λ v. v }) s1 z) in
    let turn : turn_at turns t ≡ c.turn_for-turn.result = ap (λ (xs : List ℕ). turn_at (turns_of xs) t) (sym c.deref.ensures.value) ∙ c.turn_for-turn.ensures in
    let k = subst (λ (o : Option Found). KnownSearch I (rules_in P turns (record { term = t; around = λ v. v })) b stand (Ok o) mid) c.in-Ok-None.field-0-is (c.in-Ok-None.ensures.known turns (λ v. v) turn) in
    once_none P I (stand_at t turns) b stand turns s1 mid k

pub returns-in-Ok-None-clause-run : goal.returns-in-Ok-None-clause-run
returns-in-Ok-None-clause-run g c =
    record { turns = c.requires.run.turns; term = is_term_kept c.args.program.now.sig c.args.store.now c.among.new.store c.args.run.now.term.0 c.among.ensures.extends c.requires.run.term }

pub returns-in-Ok-None-clause-unchanged : goal.returns-in-Ok-None-clause-unchanged
returns-in-Ok-None-clause-unchanged g c = λ e. refl

pub returns-in-Err-clause-known : goal.returns-in-Err-clause-known
returns-in-Err-clause-known g c =
    let p = c.args.program.now in
    let m = g.E.Evaluator.meanings c.args.evaluator.now in
    let w = g.W.StepWatcher.wanted c.args.watcher.now in
    let P = program_over p m.hooks in
    let I = item_of m w in
    let s0 = c.args.store.now in
    let s1 = c.among.new.store in
    let t = tree_at s0 c.args.term.0 in
    let turns = turns_of c.args.run.now.turns.items in
    let stand : Found → Option Stand = (λ z. found_stand p P turns (record { term = t; around = λ v. v }) s1 z) in
    let turn : turn_at turns t ≡ c.turn_for-turn.result = ap (λ (xs : List ℕ). turn_at (turns_of xs) t) (sym c.deref.ensures.value) ∙ c.turn_for-turn.ensures in
    once_search_ends P I (stand_at t turns) c.args.budget.now stand turns s1 c.among.new.budget c.in-Err.end (c.in-Err.ensures.known turns (λ v. v) turn)

pub returns-in-Err-clause-run : goal.returns-in-Err-clause-run
returns-in-Err-clause-run g c =
    record { turns = c.requires.run.turns; term = is_term_kept c.args.program.now.sig c.args.store.now c.among.new.store c.args.run.now.term.0 c.among.ensures.extends c.requires.run.term }

pub value_behind-requires-clause-goes_by : goal.value_behind-requires-clause-goes_by
value_behind-requires-clause-goes_by g c = subst (λ (n : Meanings). GoesBy c.args.program.now n) (sym c.among.ensures.meanings) c.requires.goes_by

pub value_behind-requires-clause-walk : goal.value_behind-requires-clause-walk
value_behind-requires-clause-walk g c =
    let x = c.in-Ok-Some.found in
    let at = subst (λ (o : Option Found). IfSome o (λ z. z.term ≡ c.args.term)) c.in-Ok-Some.field-0-is c.in-Ok-Some.ensures.term in (
      x.term.0,
      record {
        begins = subst (λ (i : TermId). IsTerm c.args.program.now.sig c.among.new.store i.0) (sym at) (is_term_kept c.args.program.now.sig c.args.store.now c.among.new.store c.args.term.0 c.among.ensures.extends c.requires.term);
        path = refl;
      },
    )

pub value_behind-requires-clause-found : goal.value_behind-requires-clause-found
value_behind-requires-clause-found g c =
    let p = c.args.program.now in
    let s1 = c.among.new.store in
    let x = c.in-Ok-Some.found in
    let table = g.E.Evaluator.table c.among.new.evaluator in
    let at = subst (λ (o : Option Found). IfSome o (λ z. z.term ≡ c.args.term)) c.in-Ok-Some.field-0-is c.in-Ok-Some.ensures.term in
    let is = subst (λ (o : Option Found). IfSome o (IsFound p s1 table (tree_at c.args.store.now c.args.term.0))) c.in-Ok-Some.field-0-is c.in-Ok-Some.ensures.found in
    let same : tree_at s1 x.term.0 ≡ tree_at c.args.store.now c.args.term.0 = ap (λ (i : TermId). tree_at s1 i.0) at ∙ tree_kept (theory_at p.sig) c.args.store.now s1 c.args.term.0 c.among.ensures.extends c.requires.term.within in
    subst (λ (t : Tree). IsFound p s1 table t x) (sym same) is

pub returns-in-Err-value_behind-clause-known : goal.returns-in-Err-value_behind-clause-known
returns-in-Err-value_behind-clause-known g c =
    let p = c.args.program.now in
    let m = g.E.Evaluator.meanings c.args.evaluator.now in
    let w = g.W.StepWatcher.wanted c.args.watcher.now in
    let P = program_over p m.hooks in
    let I = item_of m w in
    let s0 = c.args.store.now in
    let s1 = c.among.new.store in
    let t = tree_at s0 c.args.term.0 in
    let turns = turns_of c.args.run.now.turns.items in
    let b = c.args.budget.now in
    let mid = c.among.new.budget in
    let stand : Found → Option Stand = (λ z. found_stand p P turns (record { term = t; around = λ v. v }) s1 z) in
    let turn : turn_at turns t ≡ c.turn_for-turn.result = ap (λ (xs : List ℕ). turn_at (turns_of xs) t) (sym c.deref.ensures.value) ∙ c.turn_for-turn.ensures in
    let k = subst (λ (o : Option Found). KnownSearch I (rules_in P turns (record { term = t; around = λ v. v })) b stand (Ok o) mid) c.in-Ok-Some.field-0-is (c.in-Ok-Some.ensures.known turns (λ v. v) turn) in
    let x = c.in-Ok-Some.found in
    let at = subst (λ (o : Option Found). IfSome o (λ z. z.term ≡ c.args.term)) c.in-Ok-Some.field-0-is c.in-Ok-Some.ensures.term in
    let is = subst (λ (o : Option Found). IfSome o (IsFound p s1 (g.E.Evaluator.table c.among.new.evaluator) t)) c.in-Ok-Some.field-0-is c.in-Ok-Some.ensures.found in
    let same : tree_at s1 x.term.0 ≡ t = ap (λ (i : TermId). tree_at s1 i.0) at ∙ tree_kept (theory_at p.sig) s0 s1 c.args.term.0 c.among.ensures.extends c.requires.term.within in
    let u = stand_at (found_tree p s1 x) (turn_to turns t (suc x.number)) in
    let leads : stand x ≡ Some u = subst (λ (r : Tree). found_stand p P turns (record { term = r; around = λ v. v }) s1 x ≡ Some (stand_at (found_tree p s1 x) (turn_to turns r (suc x.number)))) same
    (found_is p m.hooks turns (λ v. v) s1 x is.rule is.at) in
    let h = use_so p m (g.E.Evaluator.meanings c.among.new.evaluator) (g.W.StepWatcher.wanted c.among.new.watcher) w c.among.ensures.meanings c.among.ensures.wanted u.term mid c.value_behind.new.store
    (Err c.in-Err-value_behind.end) c.value_behind.new.budget c.in-Err-value_behind.ensures.known in
    once_value_ends P I (stand_at t turns) b stand x u leads mid k turns c.value_behind.new.store c.value_behind.new.budget c.in-Err-value_behind.end h

pub returns-in-Err-value_behind-clause-run : goal.returns-in-Err-value_behind-clause-run
returns-in-Err-value_behind-clause-run g c = record {
  turns = c.requires.run.turns;
  term = is_term_kept c.args.program.now.sig c.args.store.now c.value_behind.new.store c.args.run.now.term.0
      (extension_is_preorder.transitive c.args.store.now c.among.new.store c.value_behind.new.store c.among.ensures.extends c.value_behind.ensures.extends) c.requires.run.term;
}

pub returns-in-Err-value_behind-clause-kept : goal.returns-in-Err-value_behind-clause-kept
returns-in-Err-value_behind-clause-kept g c = kept_on (g.E.Evaluator.table c.args.evaluator.now) (g.E.Evaluator.table c.among.new.evaluator) (g.E.Evaluator.table c.value_behind.new.evaluator) c.among.ensures.kept c.value_behind.ensures.kept

pub next_turn-next-requires : goal.next_turn-next-requires
next_turn-next-requires g c =
    let is = subst (λ (o : Option Found). IfSome o (IsFound c.args.program.now c.among.new.store (g.E.Evaluator.table c.among.new.evaluator) (tree_at c.args.store.now c.args.term.0))) c.in-Ok-Some.field-0-is c.in-Ok-Some.ensures.found in
    slice_get_within c.args.program.now.rules c.in-Ok-Some.found.number is.rule is.at

pub turn_on-requires-clause-term : goal.turn_on-requires-clause-term
turn_on-requires-clause-term g c =
    is_term_kept c.args.program.now.sig c.args.store.now c.value_behind.new.store c.args.term.0
    (extension_is_preorder.transitive c.args.store.now c.among.new.store c.value_behind.new.store c.among.ensures.extends c.value_behind.ensures.extends) c.requires.term

pub returns-clause-known : goal.returns-clause-known
returns-clause-known g c =
    let p = c.args.program.now in
    let m = g.E.Evaluator.meanings c.args.evaluator.now in
    let w = g.W.StepWatcher.wanted c.args.watcher.now in
    let P = program_over p m.hooks in
    let I = item_of m w in
    let s0 = c.args.store.now in
    let s1 = c.among.new.store in
    let t = tree_at s0 c.args.term.0 in
    let turns = turns_of c.args.run.now.turns.items in
    let b = c.args.budget.now in
    let mid = c.among.new.budget in
    let stand : Found → Option Stand = (λ z. found_stand p P turns (record { term = t; around = λ v. v }) s1 z) in
    let turn : turn_at turns t ≡ c.turn_for-turn.result = ap (λ (xs : List ℕ). turn_at (turns_of xs) t) (sym c.deref.ensures.value) ∙ c.turn_for-turn.ensures in
    let k = subst (λ (o : Option Found). KnownSearch I (rules_in P turns (record { term = t; around = λ v. v })) b stand (Ok o) mid) c.in-Ok-Some.field-0-is (c.in-Ok-Some.ensures.known turns (λ v. v) turn) in
    let x = c.in-Ok-Some.found in
    let at = subst (λ (o : Option Found). IfSome o (λ z. z.term ≡ c.args.term)) c.in-Ok-Some.field-0-is c.in-Ok-Some.ensures.term in
    let is = subst (λ (o : Option Found). IfSome o (IsFound p s1 (g.E.Evaluator.table c.among.new.evaluator) t)) c.in-Ok-Some.field-0-is c.in-Ok-Some.ensures.found in
    let same : tree_at s1 x.term.0 ≡ t = ap (λ (i : TermId). tree_at s1 i.0) at ∙ tree_kept (theory_at p.sig) s0 s1 c.args.term.0 c.among.ensures.extends c.requires.term.within in
    let u = stand_at (found_tree p s1 x) (turn_to turns t (suc x.number)) in
    let leads : stand x ≡ Some u = subst (λ (r : Tree). found_stand p P turns (record { term = r; around = λ v. v }) s1 x ≡ Some (stand_at (found_tree p s1 x) (turn_to turns r (suc x.number)))) same
    (found_is p m.hooks turns (λ v. v) s1 x is.rule is.at) in
    let s2 = c.value_behind.new.store in
    let y = c.in-Ok.value in
    let h = use_so p m (g.E.Evaluator.meanings c.among.new.evaluator) (g.W.StepWatcher.wanted c.among.new.watcher) w c.among.ensures.meanings c.among.ensures.wanted u.term mid s2
    (Ok y) c.value_behind.new.budget c.in-Ok.ensures.known in
    let more = extension_is_preorder.transitive s0 s1 s2 c.among.ensures.extends c.value_behind.ensures.extends in
    let now : turns_of c.turn_on.new.turns.items ≡ u.turns = c.turn_on.ensures.turns
    ∙ ap₂ (λ (r : Tree) (j : ℕ). turn_to turns r j) (tree_kept (theory_at p.sig) s0 s2 c.args.term.0 more c.requires.term.within) c.next_turn-next.ensures in
    once_value P I (stand_at t turns) b stand x u leads mid k s2 y (record { term = y.term; rewrites = c.saturating_add.result }) c.value_behind.new.budget refl c.saturating_add.ensures (turns_of c.turn_on.new.turns.items) now h

pub returns-clause-run : goal.returns-clause-run
returns-clause-run g c = record {
  turns = c.turn_on.ensures.as_many;
  term = is_term_kept c.args.program.now.sig c.args.store.now c.value_behind.new.store c.args.run.now.term.0
      (extension_is_preorder.transitive c.args.store.now c.among.new.store c.value_behind.new.store c.among.ensures.extends c.value_behind.ensures.extends) c.requires.run.term;
}

pub returns-clause-kept : goal.returns-clause-kept
returns-clause-kept g c = kept_on (g.E.Evaluator.table c.args.evaluator.now) (g.E.Evaluator.table c.among.new.evaluator) (g.E.Evaluator.table c.value_behind.new.evaluator) c.among.ensures.kept c.value_behind.ensures.kept

-- ---- what is told

pub returns-in-Ok-None-clause-untold : goal.returns-in-Ok-None-clause-untold
returns-in-Ok-None-clause-untold g c =
    subst (λ (o : Option Found). IfNone o (g.W.StepWatcher.told c.among.new.watcher ≡ g.W.StepWatcher.told c.args.watcher.now)) c.in-Ok-None.field-0-is c.in-Ok-None.ensures.untold

pub returns-in-Err-value_behind-clause-behind : goal.returns-in-Err-value_behind-clause-behind
returns-in-Err-value_behind-clause-behind g c =
    behind_on (g.W.StepWatcher.wanted c.among.new.watcher) (g.W.StepWatcher.wanted c.args.watcher.now) (g.W.StepWatcher.told c.args.watcher.now) (g.W.StepWatcher.told c.among.new.watcher) (g.W.StepWatcher.told c.value_behind.new.watcher)
    c.among.ensures.wanted c.among.ensures.behind c.value_behind.ensures.behind

pub returns-clause-behind : goal.returns-clause-behind
returns-clause-behind g c =
    behind_on (g.W.StepWatcher.wanted c.among.new.watcher) (g.W.StepWatcher.wanted c.args.watcher.now) (g.W.StepWatcher.told c.args.watcher.now) (g.W.StepWatcher.told c.among.new.watcher) (g.W.StepWatcher.told c.value_behind.new.watcher)
    c.among.ensures.wanted c.among.ensures.behind c.value_behind.ensures.behind

pub returns-clause-told : goal.returns-clause-told
returns-clause-told g c = λ w.
    let p = c.args.program.now in
    let m = g.E.Evaluator.meanings c.args.evaluator.now in
    let n = g.E.Evaluator.meanings c.among.new.evaluator in
    let s0 = c.args.store.now in
    let s1 = c.among.new.store in
    let s2 = c.value_behind.new.store in
    let table = g.E.Evaluator.table c.among.new.evaluator in
    let after = g.E.Evaluator.table c.value_behind.new.evaluator in
    let a = g.W.StepWatcher.told c.args.watcher.now in
    let b = g.W.StepWatcher.told c.among.new.watcher in
    let d = g.W.StepWatcher.told c.value_behind.new.watcher in
    let x = c.in-Ok-Some.found in
    let y = c.in-Ok.value in
    let at = subst (λ (o : Option Found). IfSome o (λ z. z.term ≡ c.args.term)) c.in-Ok-Some.field-0-is c.in-Ok-Some.ensures.term in
    let found = found_as p n m (sym c.among.ensures.meanings) s1 table a a b refl x (subst (λ (o : Option Found). IfSome o (TellsFound p m.hooks s1 table a b)) c.in-Ok-Some.field-0-is (c.in-Ok-Some.ensures.told w)) in
    let told = c.in-Ok.ensures.told (c.among.ensures.wanted ∙ w) a c.args.term.0 (sym (ap (λ (i : TermId). i.0) at)) found in
    subst (λ r. TellsRules p m.hooks s2 after a d (tree_at s0 c.args.term.0) (tree_at s2 y.term.0) r) (sym c.saturating_add.ensures)
    (subst (λ t. TellsRules p m.hooks s2 after a d t (tree_at s2 y.term.0) (shown_count (x.rewrites + y.rewrites))) (tree_kept (theory_at p.sig) s0 s1 c.args.term.0 c.among.ensures.extends c.requires.term.within)
    (rules_as p m n c.among.ensures.meanings s2 after a a d refl (tree_at s1 c.args.term.0) (tree_at s2 y.term.0) (shown_count (x.rewrites + y.rewrites)) told))
