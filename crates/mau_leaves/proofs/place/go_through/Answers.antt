use Rattle.std.proofs.Common.{◌≡◌, ◌+◌, ◌<◌, List, length, Bool, true, false, Option, IsSome, Ok, sym, subst, arith, add-one}
use Rattle.mau_program.specs.declared.statements.Rule as Written
use Rattle.mau_api.specs.Programs.{program_over}
use Rattle.mau_leaves.specs.Searches.{left_in, use_in, IsNextOne}
use Rattle.mau_leaves.specs.declared.uses.RuleUses.{RuleUses}
use Rattle.mau_reduce.proofs.Numbered.{at_index}
use Rattle.mau_leaves.proofs.PlaceTurns.{within, opened, usable_here, search_here, term_then, settled_then, open_then, found_now, over_now, ends_now}
use Rattle.mau_leaves.proofs.place.go_through.Goals as goal

pub unreachable-requires : goal.unreachable-requires
unreachable-requires g c = clash (subst (λ (o : Option (RuleUses g.row.L.Denot)). IsSome o) c.in-None.is c.requires.begun)
  where
    clash : false ≡ true → ⊥
    clash h = cc

pub bounds-rules-number : goal.bounds-rules-number
bounds-rules-number g c =
    let m = g.E.Evaluator.meanings c.args.evaluator.now in
    let p = c.args.program.now in
    let old = c.args.store.now in
    let before = g.E.Evaluator.table c.args.evaluator.now in
    let s = c.args.place.now in
    let u = c.in-Some.uses in
    subst (λ (rs : List Written.Rule). s.number < length rs) (sym c.items-rules.ensures) (within g.L.Lister.asked g.L.Lister.given g.L.Lister.is_for g.L.Lister.with_context p m old before s c.requires.place u c.in-Some.is)

pub offset_bounds-rules-number : goal.offset_bounds-rules-number
offset_bounds-rules-number g c =
    let m = g.E.Evaluator.meanings c.args.evaluator.now in
    let p = c.args.program.now in
    let old = c.args.store.now in
    let before = g.E.Evaluator.table c.args.evaluator.now in
    let s = c.args.place.now in
    let u = c.in-Some.uses in
    let h : s.number < length c.items-rules.result.now = subst (λ (rs : List Written.Rule). s.number < length rs) (sym c.items-rules.ensures) (within g.L.Lister.asked g.L.Lister.given g.L.Lister.is_for g.L.Lister.with_context p m old before s c.requires.place u c.in-Some.is) in
    omega (arith, h, c.items-rules.type_inv.1)

pub overflow_add-place : goal.overflow_add-place
overflow_add-place g c =
    let m = g.E.Evaluator.meanings c.args.evaluator.now in
    let p = c.args.program.now in
    let old = c.args.store.now in
    let before = g.E.Evaluator.table c.args.evaluator.now in
    let s = c.args.place.now in
    let u = c.in-Some.uses in
    let h : s.number < length c.items-rules.result.now = subst (λ (rs : List Written.Rule). s.number < length rs) (sym c.items-rules.ensures) (within g.L.Lister.asked g.L.Lister.given g.L.Lister.is_for g.L.Lister.with_context p m old before s c.requires.place u c.in-Some.is) in
    omega (arith, h, c.items-rules.type_inv.0)

pub next_use-requires-clause-usable : goal.next_use-requires-clause-usable
next_use-requires-clause-usable g c =
    let m = g.E.Evaluator.meanings c.args.evaluator.now in
    let p = c.args.program.now in
    let old = c.args.store.now in
    let before = g.E.Evaluator.table c.args.evaluator.now in
    let s = c.args.place.now in
    let u = c.in-Some.uses in
    let rule = c.index-rules-number.result in
    let at = at_index p.rules c.items-rules.result.now s.number rule c.items-rules.ensures (within g.L.Lister.asked g.L.Lister.given g.L.Lister.is_for g.L.Lister.with_context p m old before s c.requires.place u c.in-Some.is) c.index-rules-number.is in
    usable_here g.L.Lister.asked g.L.Lister.given g.L.Lister.is_for g.L.Lister.with_context p m old before s c.requires.place u c.in-Some.is rule at

pub next_use-requires-clause-search : goal.next_use-requires-clause-search
next_use-requires-clause-search g c =
    let m = g.E.Evaluator.meanings c.args.evaluator.now in
    let p = c.args.program.now in
    let old = c.args.store.now in
    let before = g.E.Evaluator.table c.args.evaluator.now in
    let s = c.args.place.now in
    let u = c.in-Some.uses in
    let rule = c.index-rules-number.result in
    let at = at_index p.rules c.items-rules.result.now s.number rule c.items-rules.ensures (within g.L.Lister.asked g.L.Lister.given g.L.Lister.is_for g.L.Lister.with_context p m old before s c.requires.place u c.in-Some.is) c.index-rules-number.is in
    search_here g.L.Lister.asked g.L.Lister.given g.L.Lister.is_for g.L.Lister.with_context p m old before s c.requires.place u c.in-Some.is rule at

pub next_use-requires-clause-signature : goal.next_use-requires-clause-signature
next_use-requires-clause-signature g c =
    let m = g.E.Evaluator.meanings c.args.evaluator.now in
    let p = c.args.program.now in
    let old = c.args.store.now in
    let before = g.E.Evaluator.table c.args.evaluator.now in
    let s = c.args.place.now in
    let u = c.in-Some.uses in
    (opened g.L.Lister.asked g.L.Lister.given g.L.Lister.is_for g.L.Lister.with_context p m old before s c.requires.place u c.in-Some.is).signature

pub returns-in-Ok-true-clause-turn : goal.returns-in-Ok-true-clause-turn
returns-in-Ok-true-clause-turn g c = λ chosen.
    let m = g.E.Evaluator.meanings c.args.evaluator.now in
    let p = c.args.program.now in
    let old = c.args.store.now in
    let before = g.E.Evaluator.table c.args.evaluator.now in
    let s = c.args.place.now in
    let u = c.in-Some.uses in
    let rule = c.index-rules-number.result in
    let at = at_index p.rules c.items-rules.result.now s.number rule c.items-rules.ensures (within g.L.Lister.asked g.L.Lister.given g.L.Lister.is_for g.L.Lister.with_context p m old before s c.requires.place u c.in-Some.is) c.index-rules-number.is in
    let new = c.next_use.new.store in
    let after = g.E.Evaluator.table c.next_use.new.evaluator in
    let w = c.next_use.new.uses in
    found_now g.L.Lister.asked g.L.Lister.given g.L.Lister.is_for g.L.Lister.with_context p m old before s c.requires.place u c.in-Some.is rule at new after c.next_use.ensures.extends c.next_use.ensures.kept w chosen c.args.limit
    (subst (λ (t : Bool). IsNextOne (program_over p m.hooks) c.args.limit (left_in p m.hooks rule u.whole u.bound.items old (g.L.Lister.asked u.listing) (g.L.Lister.given u.listing) u.standing)
    (left_in p m.hooks rule w.whole w.bound.items new (g.L.Lister.asked w.listing) (g.L.Lister.given w.listing) w.standing) (use_in rule new (g.L.Lister.given w.listing) w.standing) (Ok t)) c.in-Ok-true.field-0-test c.in-Ok-true.ensures.next)

pub returns-in-Ok-true-clause-place : goal.returns-in-Ok-true-clause-place
returns-in-Ok-true-clause-place g c =
    let m = g.E.Evaluator.meanings c.args.evaluator.now in
    let p = c.args.program.now in
    let old = c.args.store.now in
    let before = g.E.Evaluator.table c.args.evaluator.now in
    let s = c.args.place.now in
    let u = c.in-Some.uses in
    let rule = c.index-rules-number.result in
    let at = at_index p.rules c.items-rules.result.now s.number rule c.items-rules.ensures (within g.L.Lister.asked g.L.Lister.given g.L.Lister.is_for g.L.Lister.with_context p m old before s c.requires.place u c.in-Some.is) c.index-rules-number.is in
    let new = c.next_use.new.store in
    let after = g.E.Evaluator.table c.next_use.new.evaluator in
    let w = c.next_use.new.uses in
    record {
      term = term_then g.L.Lister.asked g.L.Lister.given g.L.Lister.is_for g.L.Lister.with_context p m old before s c.requires.place u c.in-Some.is rule at new after c.next_use.ensures.extends c.next_use.ensures.kept w;
      settled = settled_then g.L.Lister.asked g.L.Lister.given g.L.Lister.is_for g.L.Lister.with_context p m old before s c.requires.place u c.in-Some.is rule at new after c.next_use.ensures.extends c.next_use.ensures.kept w;
      uses = open_then g.L.Lister.asked g.L.Lister.given g.L.Lister.is_for g.L.Lister.with_context p m old before s c.requires.place u c.in-Some.is rule at new after c.next_use.ensures.extends c.next_use.ensures.kept w c.next_use.ensures.search c.next_use.ensures.asked c.next_use.ensures.bound c.next_use.ensures.signature;
    }

pub returns-in-Ok-false-clause-turn : goal.returns-in-Ok-false-clause-turn
returns-in-Ok-false-clause-turn g c = λ chosen.
    let m = g.E.Evaluator.meanings c.args.evaluator.now in
    let p = c.args.program.now in
    let old = c.args.store.now in
    let before = g.E.Evaluator.table c.args.evaluator.now in
    let s = c.args.place.now in
    let u = c.in-Some.uses in
    let rule = c.index-rules-number.result in
    let at = at_index p.rules c.items-rules.result.now s.number rule c.items-rules.ensures (within g.L.Lister.asked g.L.Lister.given g.L.Lister.is_for g.L.Lister.with_context p m old before s c.requires.place u c.in-Some.is) c.index-rules-number.is in
    let new = c.next_use.new.store in
    let after = g.E.Evaluator.table c.next_use.new.evaluator in
    let w = c.next_use.new.uses in
    over_now g.L.Lister.asked g.L.Lister.given g.L.Lister.is_for g.L.Lister.with_context p m old before s c.requires.place u c.in-Some.is rule at new after c.next_use.ensures.extends c.next_use.ensures.kept w chosen c.args.limit
    (subst (λ (t : Bool). IsNextOne (program_over p m.hooks) c.args.limit (left_in p m.hooks rule u.whole u.bound.items old (g.L.Lister.asked u.listing) (g.L.Lister.given u.listing) u.standing)
    (left_in p m.hooks rule w.whole w.bound.items new (g.L.Lister.asked w.listing) (g.L.Lister.given w.listing) w.standing) (use_in rule new (g.L.Lister.given w.listing) w.standing) (Ok t)) c.in-Ok-false.field-0-test c.in-Ok-false.ensures.next)
    (s.number + 1) (add-one s.number)

pub returns-in-Ok-false-clause-place : goal.returns-in-Ok-false-clause-place
returns-in-Ok-false-clause-place g c =
    let m = g.E.Evaluator.meanings c.args.evaluator.now in
    let p = c.args.program.now in
    let old = c.args.store.now in
    let before = g.E.Evaluator.table c.args.evaluator.now in
    let s = c.args.place.now in
    let u = c.in-Some.uses in
    let rule = c.index-rules-number.result in
    let at = at_index p.rules c.items-rules.result.now s.number rule c.items-rules.ensures (within g.L.Lister.asked g.L.Lister.given g.L.Lister.is_for g.L.Lister.with_context p m old before s c.requires.place u c.in-Some.is) c.index-rules-number.is in
    let new = c.next_use.new.store in
    let after = g.E.Evaluator.table c.next_use.new.evaluator in
    let w = c.next_use.new.uses in
    record { term = term_then g.L.Lister.asked g.L.Lister.given g.L.Lister.is_for g.L.Lister.with_context p m old before s c.requires.place u c.in-Some.is rule at new after c.next_use.ensures.extends c.next_use.ensures.kept w; settled = settled_then g.L.Lister.asked g.L.Lister.given g.L.Lister.is_for g.L.Lister.with_context p m old before s c.requires.place u c.in-Some.is rule at new after c.next_use.ensures.extends c.next_use.ensures.kept w; uses = tt }

pub returns-in-Err-clause-turn : goal.returns-in-Err-clause-turn
returns-in-Err-clause-turn g c = λ chosen.
    let m = g.E.Evaluator.meanings c.args.evaluator.now in
    let p = c.args.program.now in
    let old = c.args.store.now in
    let before = g.E.Evaluator.table c.args.evaluator.now in
    let s = c.args.place.now in
    let u = c.in-Some.uses in
    let rule = c.index-rules-number.result in
    let at = at_index p.rules c.items-rules.result.now s.number rule c.items-rules.ensures (within g.L.Lister.asked g.L.Lister.given g.L.Lister.is_for g.L.Lister.with_context p m old before s c.requires.place u c.in-Some.is) c.index-rules-number.is in
    let new = c.next_use.new.store in
    let after = g.E.Evaluator.table c.next_use.new.evaluator in
    let w = c.next_use.new.uses in
    ends_now g.L.Lister.asked g.L.Lister.given g.L.Lister.is_for g.L.Lister.with_context p m old before s c.requires.place u c.in-Some.is rule at new after c.next_use.ensures.extends c.next_use.ensures.kept w chosen c.args.limit c.in-Err.end c.in-Err.ensures.next

pub returns-in-Err-clause-place : goal.returns-in-Err-clause-place
returns-in-Err-clause-place g c =
    let m = g.E.Evaluator.meanings c.args.evaluator.now in
    let p = c.args.program.now in
    let old = c.args.store.now in
    let before = g.E.Evaluator.table c.args.evaluator.now in
    let s = c.args.place.now in
    let u = c.in-Some.uses in
    let rule = c.index-rules-number.result in
    let at = at_index p.rules c.items-rules.result.now s.number rule c.items-rules.ensures (within g.L.Lister.asked g.L.Lister.given g.L.Lister.is_for g.L.Lister.with_context p m old before s c.requires.place u c.in-Some.is) c.index-rules-number.is in
    let new = c.next_use.new.store in
    let after = g.E.Evaluator.table c.next_use.new.evaluator in
    let w = c.next_use.new.uses in
    record {
      term = term_then g.L.Lister.asked g.L.Lister.given g.L.Lister.is_for g.L.Lister.with_context p m old before s c.requires.place u c.in-Some.is rule at new after c.next_use.ensures.extends c.next_use.ensures.kept w;
      settled = settled_then g.L.Lister.asked g.L.Lister.given g.L.Lister.is_for g.L.Lister.with_context p m old before s c.requires.place u c.in-Some.is rule at new after c.next_use.ensures.extends c.next_use.ensures.kept w;
      uses = open_then g.L.Lister.asked g.L.Lister.given g.L.Lister.is_for g.L.Lister.with_context p m old before s c.requires.place u c.in-Some.is rule at new after c.next_use.ensures.extends c.next_use.ensures.kept w c.next_use.ensures.search c.next_use.ensures.asked c.next_use.ensures.bound c.next_use.ensures.signature;
    }
