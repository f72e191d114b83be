use Rattle.std.proofs.Common.{◌≡◌, ◌<◌, List, map, length, All, Some, None, sym, ap, ◌∙◌, subst, arith}
use Rattle.std.specs.Option.{option_copied}
use Rattle.mau_terms.specs.declared.ids.TermId.{TermId}
use Rattle.mau_terms.specs.declared.ids.VarId.{VarId}
use Rattle.mau_program.specs.declared.statements.Rule as Written
use Rattle.mau_api.specs.Programs.{program_over}
use Rattle.mau_api.specs.Answers.{IsValueOf}
use Rattle.mau_reduce.proofs.Numbered.{at_index}
use Rattle.mau_rules.specs.Walk.{opened, around_all}
use Rattle.mau_leaves.specs.Answers.{GivesValue}
use Rattle.mau_leaves.specs.Values.{made_by}
use Rattle.mau_leaves.proofs.PlaceTurns.{within, usable_here}
use Rattle.mau_leaves.proofs.TopTurns.{not_begun, not_given, not_before, not_behind, at_there, shown_there, valued_there}
use Rattle.mau_leaves.proofs.top.use_value.Goals as goal

pub unreachable-requires : goal.unreachable-requires
unreachable-requires g c =
    let m = g.E.Evaluator.meanings c.args.evaluator.now in
    let p = c.args.program.now in
    let old = c.args.store.now in
    let before = g.E.Evaluator.table c.args.evaluator.now in
    let s = c.args.place.now in
    not_begun g.L.Lister.asked g.L.Lister.given g.L.Lister.is_for g.L.Lister.with_context p m old before s c.requires.place c.in-None.is c.requires.found

pub unreachable-requires-in-None-last : goal.unreachable-requires-in-None-last
unreachable-requires-in-None-last g c =
    let m = g.E.Evaluator.meanings c.args.evaluator.now in
    let p = c.args.program.now in
    let old = c.args.store.now in
    let before = g.E.Evaluator.table c.args.evaluator.now in
    let s = c.args.place.now in
    let u = c.in-Some.uses in
    let none : g.L.Lister.given u.listing ≡ None = sym c.last.ensures ∙ ap option_copied c.in-None-last.is in
    not_given g.L.Lister.asked g.L.Lister.given g.L.Lister.is_for g.L.Lister.with_context p m old before s c.requires.place u c.in-Some.is none c.requires.found

pub unreachable-requires-in-Before : goal.unreachable-requires-in-Before
unreachable-requires-in-Before g c =
    let m = g.E.Evaluator.meanings c.args.evaluator.now in
    let p = c.args.program.now in
    let old = c.args.store.now in
    let before = g.E.Evaluator.table c.args.evaluator.now in
    let s = c.args.place.now in
    let u = c.in-Some.uses in
    not_before g.L.Lister.asked g.L.Lister.given g.L.Lister.is_for g.L.Lister.with_context p m old before s c.requires.place u c.in-Some.is c.in-Before.is c.requires.found

pub unreachable-requires-in-Behind : goal.unreachable-requires-in-Behind
unreachable-requires-in-Behind g c =
    let m = g.E.Evaluator.meanings c.args.evaluator.now in
    let p = c.args.program.now in
    let old = c.args.store.now in
    let before = g.E.Evaluator.table c.args.evaluator.now in
    let s = c.args.place.now in
    let u = c.in-Some.uses in
    not_behind g.L.Lister.asked g.L.Lister.given g.L.Lister.is_for g.L.Lister.with_context p m old before s c.requires.place u c.in-Some.is c.in-Behind.is c.requires.found

pub bounds-rules-number : goal.bounds-rules-number
bounds-rules-number g c =
    let m = g.E.Evaluator.meanings c.args.evaluator.now in
    let p = c.args.program.now in
    let old = c.args.store.now in
    let before = g.E.Evaluator.table c.args.evaluator.now in
    let s = c.args.place.now in
    let u = c.in-Some.uses in
    subst (λ (rs : List Written.Rule). s.number < length rs) (sym c.items-rules.ensures) (within g.L.Lister.asked g.L.Lister.given g.L.Lister.is_for g.L.Lister.with_context p m old before s c.requires.place u c.in-Some.is)

pub offset_bounds-rules-number : goal.offset_bounds-rules-number
offset_bounds-rules-number g c =
    let m = g.E.Evaluator.meanings c.args.evaluator.now in
    let p = c.args.program.now in
    let old = c.args.store.now in
    let before = g.E.Evaluator.table c.args.evaluator.now in
    let s = c.args.place.now in
    let u = c.in-Some.uses in
    let h : s.number < length c.items-rules.result.now = subst (λ (rs : List Written.Rule). s.number < length rs) (sym c.items-rules.ensures) (within g.L.Lister.asked g.L.Lister.given g.L.Lister.is_for g.L.Lister.with_context p m old before s c.requires.place u c.in-Some.is) in
    omega (arith, h, c.items-rules.type_inv.1)

pub value_of-requires-clause-sides : goal.value_of-requires-clause-sides
value_of-requires-clause-sides g c =
    let m = g.E.Evaluator.meanings c.args.evaluator.now in
    let p = c.args.program.now in
    let old = c.args.store.now in
    let before = g.E.Evaluator.table c.args.evaluator.now in
    let s = c.args.place.now in
    let u = c.in-Some.uses in
    let gave : g.L.Lister.given u.listing ≡ Some c.in-Some-last.solution.now = sym c.last.ensures ∙ ap option_copied c.in-Some-last.is in
    let rule = c.index-rules-number.result in
    let at = at_index p.rules c.items-rules.result.now s.number rule c.items-rules.ensures (within g.L.Lister.asked g.L.Lister.given g.L.Lister.is_for g.L.Lister.with_context p m old before s c.requires.place u c.in-Some.is) c.index-rules-number.is in
    let x = c.in-Some-last.solution.now in
    (usable_here g.L.Lister.asked g.L.Lister.given g.L.Lister.is_for g.L.Lister.with_context p m old before s c.requires.place u c.in-Some.is rule at).sides

pub value_of-requires-clause-term : goal.value_of-requires-clause-term
value_of-requires-clause-term g c = c.requires.place.term

pub value_of-requires-clause-contexts : goal.value_of-requires-clause-contexts
value_of-requires-clause-contexts g c =
    let m = g.E.Evaluator.meanings c.args.evaluator.now in
    let p = c.args.program.now in
    let old = c.args.store.now in
    let before = g.E.Evaluator.table c.args.evaluator.now in
    let s = c.args.place.now in
    let u = c.in-Some.uses in
    let gave : g.L.Lister.given u.listing ≡ Some c.in-Some-last.solution.now = sym c.last.ensures ∙ ap option_copied c.in-Some-last.is in
    let rule = c.index-rules-number.result in
    let at = at_index p.rules c.items-rules.result.now s.number rule c.items-rules.ensures (within g.L.Lister.asked g.L.Lister.given g.L.Lister.is_for g.L.Lister.with_context p m old before s c.requires.place u c.in-Some.is) c.index-rules-number.is in
    let x = c.in-Some-last.solution.now in
    (at_there g.L.Lister.asked g.L.Lister.given g.L.Lister.is_for g.L.Lister.with_context p m old before s c.requires.place u c.in-Some.is rule at x gave).contexts

pub value_of-requires-clause-kind : goal.value_of-requires-clause-kind
value_of-requires-clause-kind g c =
    let m = g.E.Evaluator.meanings c.args.evaluator.now in
    let p = c.args.program.now in
    let old = c.args.store.now in
    let before = g.E.Evaluator.table c.args.evaluator.now in
    let s = c.args.place.now in
    let u = c.in-Some.uses in
    let gave : g.L.Lister.given u.listing ≡ Some c.in-Some-last.solution.now = sym c.last.ensures ∙ ap option_copied c.in-Some-last.is in
    let rule = c.index-rules-number.result in
    let at = at_index p.rules c.items-rules.result.now s.number rule c.items-rules.ensures (within g.L.Lister.asked g.L.Lister.given g.L.Lister.is_for g.L.Lister.with_context p m old before s c.requires.place u c.in-Some.is) c.index-rules-number.is in
    let x = c.in-Some-last.solution.now in
    (at_there g.L.Lister.asked g.L.Lister.given g.L.Lister.is_for g.L.Lister.with_context p m old before s c.requires.place u c.in-Some.is rule at x gave).kind

pub value_of-requires-clause-values : goal.value_of-requires-clause-values
value_of-requires-clause-values g c =
    let m = g.E.Evaluator.meanings c.args.evaluator.now in
    let p = c.args.program.now in
    let old = c.args.store.now in
    let before = g.E.Evaluator.table c.args.evaluator.now in
    let s = c.args.place.now in
    let u = c.in-Some.uses in
    let gave : g.L.Lister.given u.listing ≡ Some c.in-Some-last.solution.now = sym c.last.ensures ∙ ap option_copied c.in-Some-last.is in
    let rule = c.index-rules-number.result in
    let at = at_index p.rules c.items-rules.result.now s.number rule c.items-rules.ensures (within g.L.Lister.asked g.L.Lister.given g.L.Lister.is_for g.L.Lister.with_context p m old before s c.requires.place u c.in-Some.is) c.index-rules-number.is in
    let x = c.in-Some-last.solution.now in
    let values = (shown_there g.L.Lister.asked g.L.Lister.given g.L.Lister.is_for g.L.Lister.with_context p m old before s c.requires.place u c.in-Some.is rule at x gave c.in-Within.found c.in-Within.is).values in
    (before, subst (λ (bs : List (VarId × TermId)). All (IsValueOf p.sig old before) bs) (sym c.deref.ensures.value) values)

pub returns-clause-valued : goal.returns-clause-valued
returns-clause-valued g c = λ v M e.
    let m = g.E.Evaluator.meanings c.args.evaluator.now in
    let p = c.args.program.now in
    let old = c.args.store.now in
    let before = g.E.Evaluator.table c.args.evaluator.now in
    let s = c.args.place.now in
    let u = c.in-Some.uses in
    let gave : g.L.Lister.given u.listing ≡ Some c.in-Some-last.solution.now = sym c.last.ensures ∙ ap option_copied c.in-Some-last.is in
    let rule = c.index-rules-number.result in
    let at = at_index p.rules c.items-rules.result.now s.number rule c.items-rules.ensures (within g.L.Lister.asked g.L.Lister.given g.L.Lister.is_for g.L.Lister.with_context p m old before s c.requires.place u c.in-Some.is) c.index-rules-number.is in
    let x = c.in-Some-last.solution.now in
    valued_there g.L.Lister.asked g.L.Lister.given g.L.Lister.is_for g.L.Lister.with_context p m old before s c.requires.place u c.in-Some.is rule at x gave c.in-Within.found c.in-Within.is (around_all (λ v. v) (map (opened old) c.args.way.now)) c.args.limit c.value_of.new.store c.value_of.result
    (subst (λ (bs : List (VarId × TermId)). GivesValue (program_over p m.hooks) c.args.limit (around_all (λ v. v) (map (opened old) c.args.way.now) (made_by p.sig old rule s.term.0 x bs)) c.value_of.new.store c.value_of.result) c.deref.ensures.value c.value_of.ensures.valued) v M e
