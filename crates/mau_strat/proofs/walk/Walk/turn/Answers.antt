use Rattle.std.proofs.Common.{ℕ, ◌-◌, ◌≤◌, [], ◌∷◌, ◌++◌, length, take, Contains, sym, ◌∙◌, ap, subst}
use Rattle.std.proofs.lemmas.List.Elements.{Contains-push}
use Rattle.mau_evaluation.specs.Reach.{IsNextEntry}
use Rattle.mau_strat.specs.Walks.{IsRun}
use Rattle.mau_strat.specs.Steps.{IfTooMany}
use Rattle.mau_strat.proofs.Turns.{Gives, front, top_is, run_kept, top_entry, top_behind, top_given, top_listed, ended, run_none, given_one, next_entry, entered_run, entered_turn, entered_ready}
use Rattle.mau_strat.proofs.walk.Walk.turn.Goals as goal

pub successor-requires-clause-entry : goal.successor-requires-clause-entry
successor-requires-clause-entry g c =
    top_entry (g.S.Successors.begins c.args.engine.now) (g.S.Successors.next c.args.engine.now) c.args.self.now.listed c.args.self.now.trace.parents c.args.self.now.stack.items c.in-Some.latest.now (top_is c.args.self.now.stack.items c.deref.result.now c.in-Some.latest.now c.deref.ensures.value c.in-Some.ensures.value) c.requires.run

pub successor-requires-clause-behind : goal.successor-requires-clause-behind
successor-requires-clause-behind g c =
    top_behind (g.S.Successors.begins c.args.engine.now) (g.S.Successors.next c.args.engine.now) c.args.self.now.listed c.args.self.now.trace.parents c.args.self.now.stack.items c.in-Some.latest.now (top_is c.args.self.now.stack.items c.deref.result.now c.in-Some.latest.now c.deref.ensures.value c.in-Some.ensures.value) c.requires.run

pub successor-requires-clause-given : goal.successor-requires-clause-given
successor-requires-clause-given g c =
    top_given (g.S.Successors.begins c.args.engine.now) (g.S.Successors.next c.args.engine.now) c.args.self.now.listed c.args.self.now.trace.parents c.args.self.now.stack.items c.in-Some.latest.now (top_is c.args.self.now.stack.items c.deref.result.now c.in-Some.latest.now c.deref.ensures.value c.in-Some.ensures.value) c.requires.run

pub returns-then-latest-clause-run : goal.returns-then-latest-clause-run
returns-then-latest-clause-run g c =
    run_kept (g.S.Successors.begins c.args.engine.now) (g.S.Successors.next c.args.engine.now) (g.S.Successors.begins c.successor.new.self) (g.S.Successors.next c.successor.new.self) c.successor.ensures.kept_begins c.successor.ensures.kept_next c.args.self.now.listed c.args.self.now.trace.parents c.args.self.now.stack.items c.requires.run

pub returns-in-Err-clause-run : goal.returns-in-Err-clause-run
returns-in-Err-clause-run g c =
    run_kept (g.S.Successors.begins c.args.engine.now) (g.S.Successors.next c.args.engine.now) (g.S.Successors.begins c.successor.new.self) (g.S.Successors.next c.successor.new.self) c.successor.ensures.kept_begins c.successor.ensures.kept_next c.args.self.now.listed c.args.self.now.trace.parents c.args.self.now.stack.items c.requires.run

pub returns-in-Err-clause-end : goal.returns-in-Err-clause-end
returns-in-Err-clause-end g c =
    ended (g.S.Successors.begins c.args.engine.now) (g.S.Successors.next c.args.engine.now) c.args.self.now.listed c.args.self.now.trace.parents c.args.self.now.stack.items c.in-Some.latest.now (top_is c.args.self.now.stack.items c.deref.result.now c.in-Some.latest.now c.deref.ensures.value c.in-Some.ensures.value) c.requires.run (g.S.Successors.begins c.successor.new.self) (g.S.Successors.next c.successor.new.self) c.successor.ensures.kept_begins c.successor.ensures.kept_next (g.S.Successors.due c.successor.new.self) c.in-Err.cause c.in-Err.ensures.due

pub returns-in-Ok-None-clause-run : goal.returns-in-Ok-None-clause-run
returns-in-Ok-None-clause-run g c =
    subst (IsRun (g.S.Successors.begins c.successor.new.self) (g.S.Successors.next c.successor.new.self) c.args.self.now.listed c.args.self.now.trace.parents) (sym (c.pop.ensures.rest ∙ ap (λ n. take (n - 1) c.args.self.now.stack.items) (sym c.deref.ensures.len ∙ ap length c.deref.ensures.value)))
    (run_none (g.S.Successors.begins c.args.engine.now) (g.S.Successors.next c.args.engine.now) c.args.self.now.listed c.args.self.now.trace.parents c.args.self.now.stack.items c.in-Some.latest.now (top_is c.args.self.now.stack.items c.deref.result.now c.in-Some.latest.now c.deref.ensures.value c.in-Some.ensures.value) c.requires.run (g.S.Successors.begins c.successor.new.self) (g.S.Successors.next c.successor.new.self) c.successor.ensures.kept_begins c.successor.ensures.kept_next (subst (Gives (g.S.Successors.begins c.args.engine.now) (g.S.Successors.begins c.successor.new.self) (g.S.Successors.next c.successor.new.self) c.args.self.now.listed c.in-Some.latest.now) c.in-Ok-None.field-0-is c.in-Ok-None.ensures.more))

pub returns-in-Ok-clause-run : goal.returns-in-Ok-clause-run
returns-in-Ok-clause-run g c =
    let b = given_one (g.S.Successors.begins c.args.engine.now) (g.S.Successors.next c.args.engine.now) c.args.self.now.listed c.args.self.now.trace.parents c.args.self.now.stack.items c.in-Some.latest.now (top_is c.args.self.now.stack.items c.deref.result.now c.in-Some.latest.now c.deref.ensures.value c.in-Some.ensures.value) c.requires.run (g.S.Successors.begins c.successor.new.self) (g.S.Successors.next c.successor.new.self) c.successor.ensures.kept_begins c.successor.ensures.kept_next c.in-Ok-Some.config (subst (Gives (g.S.Successors.begins c.args.engine.now) (g.S.Successors.begins c.successor.new.self) (g.S.Successors.next c.successor.new.self) c.args.self.now.listed c.in-Some.latest.now) c.in-Ok-Some.field-0-is c.in-Ok-Some.ensures.more) in
    let listed = top_listed (g.S.Successors.begins c.args.engine.now) (g.S.Successors.next c.args.engine.now) c.args.self.now.listed c.args.self.now.trace.parents c.args.self.now.stack.items c.in-Some.latest.now (top_is c.args.self.now.stack.items c.deref.result.now c.in-Some.latest.now c.deref.ensures.value c.in-Some.ensures.value) c.requires.run in
    let ready = g.met.S.Successors.stays_ready c.successor.new.self c.args.self.now.listed _ c.in-Ok-Some.config b.0 c.successor.ensures.ready listed b.1 in
    let none = g.met.S.Successors.none_given c.successor.new.self (c.args.self.now.listed ++ c.in-Ok-Some.config ∷ []) c.in-Ok-Some.config ready (Contains-push c.args.self.now.listed c.in-Ok-Some.config) in
    entered_run (g.S.Successors.begins c.args.engine.now) (g.S.Successors.next c.args.engine.now) c.args.self.now.listed c.args.self.now.trace.parents c.args.self.now.stack.items c.in-Some.latest.now (top_is c.args.self.now.stack.items c.deref.result.now c.in-Some.latest.now c.deref.ensures.value c.in-Some.ensures.value) c.requires.run (g.S.Successors.begins c.successor.new.self) (g.S.Successors.next c.successor.new.self) c.successor.ensures.kept_begins c.successor.ensures.kept_next c.in-Ok-Some.config (subst (Gives (g.S.Successors.begins c.args.engine.now) (g.S.Successors.begins c.successor.new.self) (g.S.Successors.next c.successor.new.self) c.args.self.now.listed c.in-Some.latest.now) c.in-Ok-Some.field-0-is c.in-Ok-Some.ensures.more) c.in-Ok.went c.enter.new.self.listed c.enter.new.self.trace.parents c.enter.new.self.stack.items (c.in-Ok.ensures.went (front c.args.self.now.stack.items) (top_is c.args.self.now.stack.items c.deref.result.now c.in-Some.latest.now c.deref.ensures.value c.in-Some.ensures.value)) none

pub returns-in-Ok-clause-ready : goal.returns-in-Ok-clause-ready
returns-in-Ok-clause-ready g c =
    entered_ready (g.S.Successors.begins c.args.engine.now) (g.S.Successors.next c.args.engine.now) c.args.self.now.listed c.args.self.now.trace.parents c.args.self.now.stack.items c.in-Some.latest.now (top_is c.args.self.now.stack.items c.deref.result.now c.in-Some.latest.now c.deref.ensures.value c.in-Some.ensures.value) c.requires.run (g.S.Successors.begins c.successor.new.self) (g.S.Successors.next c.successor.new.self) c.successor.ensures.kept_begins c.successor.ensures.kept_next c.in-Ok-Some.config (subst (Gives (g.S.Successors.begins c.args.engine.now) (g.S.Successors.begins c.successor.new.self) (g.S.Successors.next c.successor.new.self) c.args.self.now.listed c.in-Some.latest.now) c.in-Ok-Some.field-0-is c.in-Ok-Some.ensures.more) (g.S.Successors.ready c.successor.new.self) c.successor.ensures.ready
    (λ listed given b. g.met.S.Successors.stays_ready c.successor.new.self c.args.self.now.listed _ c.in-Ok-Some.config given c.successor.ensures.ready listed b) c.in-Ok.went c.enter.new.self.listed c.enter.new.self.trace.parents c.enter.new.self.stack.items (c.in-Ok.ensures.went (front c.args.self.now.stack.items) (top_is c.args.self.now.stack.items c.deref.result.now c.in-Some.latest.now c.deref.ensures.value c.in-Some.ensures.value))

pub returns-in-Ok-clause-turn : goal.returns-in-Ok-clause-turn
returns-in-Ok-clause-turn g c =
    entered_turn (g.S.Successors.begins c.args.engine.now) (g.S.Successors.next c.args.engine.now) c.args.self.now.listed c.args.self.now.trace.parents c.args.self.now.stack.items c.in-Some.latest.now (top_is c.args.self.now.stack.items c.deref.result.now c.in-Some.latest.now c.deref.ensures.value c.in-Some.ensures.value) c.requires.run (g.S.Successors.begins c.successor.new.self) (g.S.Successors.next c.successor.new.self) c.successor.ensures.kept_begins c.successor.ensures.kept_next c.in-Ok-Some.config (subst (Gives (g.S.Successors.begins c.args.engine.now) (g.S.Successors.begins c.successor.new.self) (g.S.Successors.next c.successor.new.self) c.args.self.now.listed c.in-Some.latest.now) c.in-Ok-Some.field-0-is c.in-Ok-Some.ensures.more) c.in-Ok.went c.enter.new.self.listed c.enter.new.self.trace.parents c.enter.new.self.stack.items (c.in-Ok.ensures.went (front c.args.self.now.stack.items) (top_is c.args.self.now.stack.items c.deref.result.now c.in-Some.latest.now c.deref.ensures.value c.in-Some.ensures.value))

pub returns-in-Err-TooMany-clause-run : goal.returns-in-Err-TooMany-clause-run
returns-in-Err-TooMany-clause-run g c =
    subst (λ xs. IsRun (g.S.Successors.begins c.successor.new.self) (g.S.Successors.next c.successor.new.self) xs c.enter.new.self.trace.parents c.enter.new.self.stack.items) (sym c.in-Err-TooMany.ensures.listed_stays)
    (subst (λ ps. IsRun (g.S.Successors.begins c.successor.new.self) (g.S.Successors.next c.successor.new.self) c.args.self.now.listed ps c.enter.new.self.stack.items) (sym c.in-Err-TooMany.ensures.parents_stay)
    (subst (IsRun (g.S.Successors.begins c.successor.new.self) (g.S.Successors.next c.successor.new.self) c.args.self.now.listed c.args.self.now.trace.parents) (sym c.in-Err-TooMany.ensures.open_stays) (run_kept (g.S.Successors.begins c.args.engine.now) (g.S.Successors.next c.args.engine.now) (g.S.Successors.begins c.successor.new.self) (g.S.Successors.next c.successor.new.self) c.successor.ensures.kept_begins c.successor.ensures.kept_next c.args.self.now.listed c.args.self.now.trace.parents c.args.self.now.stack.items c.requires.run)))

pub returns-in-Err-NoMemory-clause-run : goal.returns-in-Err-NoMemory-clause-run
returns-in-Err-NoMemory-clause-run g c =
    subst (λ xs. IsRun (g.S.Successors.begins c.successor.new.self) (g.S.Successors.next c.successor.new.self) xs c.enter.new.self.trace.parents c.enter.new.self.stack.items) (sym c.in-Err-NoMemory.ensures.listed_stays)
    (subst (λ ps. IsRun (g.S.Successors.begins c.successor.new.self) (g.S.Successors.next c.successor.new.self) c.args.self.now.listed ps c.enter.new.self.stack.items) (sym c.in-Err-NoMemory.ensures.parents_stay)
    (subst (IsRun (g.S.Successors.begins c.successor.new.self) (g.S.Successors.next c.successor.new.self) c.args.self.now.listed c.args.self.now.trace.parents) (sym c.in-Err-NoMemory.ensures.open_stays) (run_kept (g.S.Successors.begins c.args.engine.now) (g.S.Successors.next c.args.engine.now) (g.S.Successors.begins c.successor.new.self) (g.S.Successors.next c.successor.new.self) c.successor.ensures.kept_begins c.successor.ensures.kept_next c.args.self.now.listed c.args.self.now.trace.parents c.args.self.now.stack.items c.requires.run)))

pub returns-in-Err-TooMany-clause-end : goal.returns-in-Err-TooMany-clause-end
returns-in-Err-TooMany-clause-end g c =
    let full = subst (λ e. IfTooMany e ((Contains c.args.self.now.listed c.in-Ok-Some.config → ⊥) × (c.args.limit ≤ length c.args.self.now.listed))) c.in-Err-TooMany.field-0-is c.in-Err-TooMany.ensures.refused in
    subst (λ xs. (c.args.limit ≤ length xs) × ((x : ℕ) × IsNextEntry (g.S.Successors.begins c.successor.new.self) (g.S.Successors.next c.successor.new.self) xs x)) (sym c.in-Err-TooMany.ensures.listed_stays)
    (full.1, (c.in-Ok-Some.config, next_entry (g.S.Successors.begins c.args.engine.now) (g.S.Successors.next c.args.engine.now) c.args.self.now.listed c.args.self.now.trace.parents c.args.self.now.stack.items c.in-Some.latest.now (top_is c.args.self.now.stack.items c.deref.result.now c.in-Some.latest.now c.deref.ensures.value c.in-Some.ensures.value) c.requires.run (g.S.Successors.begins c.successor.new.self) (g.S.Successors.next c.successor.new.self) c.successor.ensures.kept_begins c.successor.ensures.kept_next c.in-Ok-Some.config (subst (Gives (g.S.Successors.begins c.args.engine.now) (g.S.Successors.begins c.successor.new.self) (g.S.Successors.next c.successor.new.self) c.args.self.now.listed c.in-Some.latest.now) c.in-Ok-Some.field-0-is c.in-Ok-Some.ensures.more) full.0))
