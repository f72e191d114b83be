use Rattle.std.proofs.Common.{◌≡◌, List, Bool, Ok, refl, sym, ap, ◌∙◌, subst}
use Rattle.mau_terms.specs.declared.ids.TermId.{TermId}
use Rattle.mau_terms.specs.declared.ids.VarId.{VarId}
use Rattle.mau_evaluation.specs.Engine.{engine_of}
use Rattle.mau_api.specs.Programs.{program_over}
use Rattle.mau_leaves.specs.Steps.{Passes, Throughout}
use Rattle.mau_leaves.specs.Searches.{use_in, variables_in, IsUsable, IsNextOne}
use Rattle.mau_leaves.specs.Subterms.{place_at, left_of_uses, left_of_spot, IsSubject, IsAtOne, IsSpot}
use Rattle.mau_leaves.specs.declared.uses.RuleUses.{RuleUses}
use Rattle.mau_leaves.specs.declared.subterms.Spot.{Spot}
use Rattle.mau_leaves.specs.declared.subterms.Spot.TheVariants.{Before, At, Behind}
use Rattle.mau_leaves.proofs.Tables.{over_of}
use Rattle.mau_leaves.proofs.Subtrees.{subject_grown, after_same}
use Rattle.mau_leaves.proofs.SubtermTurns.{found_spot, over_spot, ends_spot, uses_then, way_then, values_then, values_same}
use Rattle.mau_leaves.proofs.subterms.go_through_spot.Goals as goal

some_at : {K : Type 0} (k : Spot K) → IsAtOne k → ((id : TermId) (u : RuleUses K) → k ≡ At id u → ⊥) → ⊥
some_at (Before id) h f = h
some_at (At id u) h f = f id u refl
some_at (Behind o) h f = h

pub unreachable-requires : goal.unreachable-requires
unreachable-requires g c = some_at c.args.search.now.spot c.requires.at c.in_default.not-At

pub next_use-requires-clause-usable : goal.next_use-requires-clause-usable
next_use-requires-clause-usable g c =
    let m = g.E.Evaluator.meanings c.args.evaluator.now in
    let p = c.args.program.now in
    let rule = c.args.rule.now in
    let s = c.args.search.now in
    let h = c.requires.subterms in
    let old = c.args.store.now in
    let before = g.E.Evaluator.table c.args.evaluator.now in
    let u = c.in-At.uses in
    let id = c.in-At.field-0 in
    let at = subst (IsSpot g.L.Lister.asked g.L.Lister.given g.L.Lister.is_for g.L.Lister.with_context p m rule s.bound.items old before) c.in-At.is h.spot in
    subst (λ (bs : List (VarId × TermId)). IsUsable p.sig (variables_in bs) rule) (sym at.bound_so) h.usable

pub next_use-requires-clause-search : goal.next_use-requires-clause-search
next_use-requires-clause-search g c =
    let m = g.E.Evaluator.meanings c.args.evaluator.now in
    let p = c.args.program.now in
    let rule = c.args.rule.now in
    let s = c.args.search.now in
    let h = c.requires.subterms in
    let old = c.args.store.now in
    let before = g.E.Evaluator.table c.args.evaluator.now in
    let u = c.in-At.uses in
    let id = c.in-At.field-0 in
    let at = subst (IsSpot g.L.Lister.asked g.L.Lister.given g.L.Lister.is_for g.L.Lister.with_context p m rule s.bound.items old before) c.in-At.is h.spot in
    at.search

pub next_use-requires-clause-signature : goal.next_use-requires-clause-signature
next_use-requires-clause-signature g c =
    let m = g.E.Evaluator.meanings c.args.evaluator.now in
    let p = c.args.program.now in
    let rule = c.args.rule.now in
    let s = c.args.search.now in
    let h = c.requires.subterms in
    let old = c.args.store.now in
    let before = g.E.Evaluator.table c.args.evaluator.now in
    let u = c.in-At.uses in
    let id = c.in-At.field-0 in
    let at = subst (IsSpot g.L.Lister.asked g.L.Lister.given g.L.Lister.is_for g.L.Lister.with_context p m rule s.bound.items old before) c.in-At.is h.spot in
    at.signature

pub returns-in-Ok-true-clause-turn : goal.returns-in-Ok-true-clause-turn
returns-in-Ok-true-clause-turn g c =
    let m = g.E.Evaluator.meanings c.args.evaluator.now in
    let p = c.args.program.now in
    let rule = c.args.rule.now in
    let s = c.args.search.now in
    let h = c.requires.subterms in
    let old = c.args.store.now in
    let before = g.E.Evaluator.table c.args.evaluator.now in
    let u = c.in-At.uses in
    let id = c.in-At.field-0 in
    let at = subst (IsSpot g.L.Lister.asked g.L.Lister.given g.L.Lister.is_for g.L.Lister.with_context p m rule s.bound.items old before) c.in-At.is h.spot in
    let new = c.next_use.new.store in
    let after = g.E.Evaluator.table c.next_use.new.evaluator in
    let w = c.next_use.new.uses in
    let extends = c.next_use.ensures.extends in
    let kept = c.next_use.ensures.kept in
    let over = over_of p m (g.E.Evaluator.meanings c.next_use.new.evaluator) c.next_use.ensures.meanings c.requires.goes_by.program new after (g.met.E.Evaluator.derived c.next_use.new.evaluator new c.next_use.ensures.fits) in
    let values = values_same g.L.Lister.asked g.L.Lister.given g.L.Lister.is_for g.L.Lister.with_context p m rule old new before after extends kept over s.bound.items h.values in
    let same = after_same p old new before after extends kept s.below s.way.items h.way id.0 at.term 0 in
    let o = use_in rule new (g.L.Lister.given w.listing) w.standing in
    let one = subst (λ (t : Bool). IsNextOne (program_over p m.hooks) c.args.limit (left_of_uses g.L.Lister.asked g.L.Lister.given p m.hooks rule old u) (left_of_uses g.L.Lister.asked g.L.Lister.given p m.hooks rule new w) o (Ok t))
    c.in-Ok-true.field-0-test c.in-Ok-true.ensures.next in
    found_spot g.L.Lister.asked g.L.Lister.given p m.hooks rule s.whole s.bound.items old new s.below s.way.items id values same u w c.args.limit o s.spot c.in-At.is one

pub returns-in-Ok-true-clause-subterms : goal.returns-in-Ok-true-clause-subterms
returns-in-Ok-true-clause-subterms g c =
    let m = g.E.Evaluator.meanings c.args.evaluator.now in
    let p = c.args.program.now in
    let rule = c.args.rule.now in
    let s = c.args.search.now in
    let h = c.requires.subterms in
    let old = c.args.store.now in
    let before = g.E.Evaluator.table c.args.evaluator.now in
    let u = c.in-At.uses in
    let id = c.in-At.field-0 in
    let at = subst (IsSpot g.L.Lister.asked g.L.Lister.given g.L.Lister.is_for g.L.Lister.with_context p m rule s.bound.items old before) c.in-At.is h.spot in
    let new = c.next_use.new.store in
    let after = g.E.Evaluator.table c.next_use.new.evaluator in
    let w = c.next_use.new.uses in
    let extends = c.next_use.ensures.extends in
    let kept = c.next_use.ensures.kept in
    let over = over_of p m (g.E.Evaluator.meanings c.next_use.new.evaluator) c.next_use.ensures.meanings c.requires.goes_by.program new after (g.met.E.Evaluator.derived c.next_use.new.evaluator new c.next_use.ensures.fits) in
    record {
      usable = h.usable;
      values = values_then g.L.Lister.asked g.L.Lister.given g.L.Lister.is_for g.L.Lister.with_context p m rule old new before after extends kept over s.bound.items h.values;
      spot = uses_then g.L.Lister.asked g.L.Lister.given g.L.Lister.is_for g.L.Lister.with_context p m rule old new before after extends kept over s.bound.items id u w at c.next_use.ensures.search c.next_use.ensures.bound c.next_use.ensures.signature;
      way = way_then g.L.Lister.asked g.L.Lister.given g.L.Lister.is_for g.L.Lister.with_context p m rule old new before after extends kept over s.way.items h.way;
    }

pub returns-in-Ok-false-clause-turn : goal.returns-in-Ok-false-clause-turn
returns-in-Ok-false-clause-turn g c =
    let m = g.E.Evaluator.meanings c.args.evaluator.now in
    let p = c.args.program.now in
    let rule = c.args.rule.now in
    let s = c.args.search.now in
    let h = c.requires.subterms in
    let old = c.args.store.now in
    let before = g.E.Evaluator.table c.args.evaluator.now in
    let u = c.in-At.uses in
    let id = c.in-At.field-0 in
    let at = subst (IsSpot g.L.Lister.asked g.L.Lister.given g.L.Lister.is_for g.L.Lister.with_context p m rule s.bound.items old before) c.in-At.is h.spot in
    let new = c.next_use.new.store in
    let after = g.E.Evaluator.table c.next_use.new.evaluator in
    let w = c.next_use.new.uses in
    let extends = c.next_use.ensures.extends in
    let kept = c.next_use.ensures.kept in
    let over = over_of p m (g.E.Evaluator.meanings c.next_use.new.evaluator) c.next_use.ensures.meanings c.requires.goes_by.program new after (g.met.E.Evaluator.derived c.next_use.new.evaluator new c.next_use.ensures.fits) in
    let values = values_same g.L.Lister.asked g.L.Lister.given g.L.Lister.is_for g.L.Lister.with_context p m rule old new before after extends kept over s.bound.items h.values in
    let same = after_same p old new before after extends kept s.below s.way.items h.way id.0 at.term 0 in
    let o = use_in rule new (g.L.Lister.given w.listing) w.standing in
    let one = subst (λ (t : Bool). IsNextOne (program_over p m.hooks) c.args.limit (left_of_uses g.L.Lister.asked g.L.Lister.given p m.hooks rule old u) (left_of_uses g.L.Lister.asked g.L.Lister.given p m.hooks rule new w) o (Ok t))
    c.in-Ok-false.field-0-test c.in-Ok-false.ensures.next in
    let e = c.place_of-term.ensures ∙ ap place_at c.in-At.is in
    subst (λ (t : TermId). Throughout (engine_of (program_over p m.hooks)) (left_of_spot g.L.Lister.asked g.L.Lister.given p m.hooks rule s.whole s.bound.items old s.below s.way.items s.spot) (λ L.
    Passes (left_of_spot g.L.Lister.asked g.L.Lister.given p m.hooks rule s.whole s.bound.items old s.below s.way.items s.spot L) (left_of_spot g.L.Lister.asked g.L.Lister.given p m.hooks rule s.whole s.bound.items new s.below s.way.items (Behind (record { term = t; next = 0 })) L))) (sym e)
    (over_spot g.L.Lister.asked g.L.Lister.given p m.hooks rule s.whole s.bound.items old new s.below s.way.items id values same u w c.args.limit o s.spot c.in-At.is one)

pub returns-in-Ok-false-clause-subterms : goal.returns-in-Ok-false-clause-subterms
returns-in-Ok-false-clause-subterms g c =
    let m = g.E.Evaluator.meanings c.args.evaluator.now in
    let p = c.args.program.now in
    let rule = c.args.rule.now in
    let s = c.args.search.now in
    let h = c.requires.subterms in
    let old = c.args.store.now in
    let before = g.E.Evaluator.table c.args.evaluator.now in
    let u = c.in-At.uses in
    let id = c.in-At.field-0 in
    let at = subst (IsSpot g.L.Lister.asked g.L.Lister.given g.L.Lister.is_for g.L.Lister.with_context p m rule s.bound.items old before) c.in-At.is h.spot in
    let new = c.next_use.new.store in
    let after = g.E.Evaluator.table c.next_use.new.evaluator in
    let w = c.next_use.new.uses in
    let extends = c.next_use.ensures.extends in
    let kept = c.next_use.ensures.kept in
    let over = over_of p m (g.E.Evaluator.meanings c.next_use.new.evaluator) c.next_use.ensures.meanings c.requires.goes_by.program new after (g.met.E.Evaluator.derived c.next_use.new.evaluator new c.next_use.ensures.fits) in
    let e = c.place_of-term.ensures ∙ ap place_at c.in-At.is in
    record {
      usable = h.usable;
      values = values_then g.L.Lister.asked g.L.Lister.given g.L.Lister.is_for g.L.Lister.with_context p m rule old new before after extends kept over s.bound.items h.values;
      spot = subst (λ (t : TermId). IsSubject p.sig new after t.0) (sym e) (subject_grown p old new before after extends kept id.0 at.term);
      way = way_then g.L.Lister.asked g.L.Lister.given g.L.Lister.is_for g.L.Lister.with_context p m rule old new before after extends kept over s.way.items h.way;
    }

pub returns-in-Err-clause-turn : goal.returns-in-Err-clause-turn
returns-in-Err-clause-turn g c =
    let m = g.E.Evaluator.meanings c.args.evaluator.now in
    let p = c.args.program.now in
    let rule = c.args.rule.now in
    let s = c.args.search.now in
    let h = c.requires.subterms in
    let old = c.args.store.now in
    let before = g.E.Evaluator.table c.args.evaluator.now in
    let u = c.in-At.uses in
    let id = c.in-At.field-0 in
    let at = subst (IsSpot g.L.Lister.asked g.L.Lister.given g.L.Lister.is_for g.L.Lister.with_context p m rule s.bound.items old before) c.in-At.is h.spot in
    let new = c.next_use.new.store in
    let after = g.E.Evaluator.table c.next_use.new.evaluator in
    let w = c.next_use.new.uses in
    let extends = c.next_use.ensures.extends in
    let kept = c.next_use.ensures.kept in
    let over = over_of p m (g.E.Evaluator.meanings c.next_use.new.evaluator) c.next_use.ensures.meanings c.requires.goes_by.program new after (g.met.E.Evaluator.derived c.next_use.new.evaluator new c.next_use.ensures.fits) in
    let values = values_same g.L.Lister.asked g.L.Lister.given g.L.Lister.is_for g.L.Lister.with_context p m rule old new before after extends kept over s.bound.items h.values in
    let same = after_same p old new before after extends kept s.below s.way.items h.way id.0 at.term 0 in
    let o = use_in rule new (g.L.Lister.given w.listing) w.standing in
    ends_spot g.L.Lister.asked g.L.Lister.given p m.hooks rule s.whole s.bound.items old new s.below s.way.items id values same u w c.args.limit o s.spot c.in-At.is c.in-Err.end c.in-Err.ensures.next

pub returns-in-Err-clause-subterms : goal.returns-in-Err-clause-subterms
returns-in-Err-clause-subterms g c =
    let m = g.E.Evaluator.meanings c.args.evaluator.now in
    let p = c.args.program.now in
    let rule = c.args.rule.now in
    let s = c.args.search.now in
    let h = c.requires.subterms in
    let old = c.args.store.now in
    let before = g.E.Evaluator.table c.args.evaluator.now in
    let u = c.in-At.uses in
    let id = c.in-At.field-0 in
    let at = subst (IsSpot g.L.Lister.asked g.L.Lister.given g.L.Lister.is_for g.L.Lister.with_context p m rule s.bound.items old before) c.in-At.is h.spot in
    let new = c.next_use.new.store in
    let after = g.E.Evaluator.table c.next_use.new.evaluator in
    let w = c.next_use.new.uses in
    let extends = c.next_use.ensures.extends in
    let kept = c.next_use.ensures.kept in
    let over = over_of p m (g.E.Evaluator.meanings c.next_use.new.evaluator) c.next_use.ensures.meanings c.requires.goes_by.program new after (g.met.E.Evaluator.derived c.next_use.new.evaluator new c.next_use.ensures.fits) in
    record {
      usable = h.usable;
      values = values_then g.L.Lister.asked g.L.Lister.given g.L.Lister.is_for g.L.Lister.with_context p m rule old new before after extends kept over s.bound.items h.values;
      spot = uses_then g.L.Lister.asked g.L.Lister.given g.L.Lister.is_for g.L.Lister.with_context p m rule old new before after extends kept over s.bound.items id u w at c.next_use.ensures.search c.next_use.ensures.bound c.next_use.ensures.signature;
      way = way_then g.L.Lister.asked g.L.Lister.given g.L.Lister.is_for g.L.Lister.with_context p m rule old new before after extends kept over s.way.items h.way;
    }
