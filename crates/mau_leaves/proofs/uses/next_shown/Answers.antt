use Rattle.std.proofs.Common.{◌≡◌, List, map, All, refl, sym, ap, ◌∙◌, subst}
use Rattle.std.specs.List.{zip}
use Rattle.mau_terms.specs.declared.ids.TermId.{TermId}
use Rattle.mau_terms.specs.declared.ids.VarId.{VarId}
use Rattle.mau_cond.specs.Bound.{extended}
use Rattle.mau_cond.proofs.Pairs.{all_extended}
use Rattle.mau_api.specs.Programs.{fragment_of, rule_of, program_over}
use Rattle.mau_api.specs.Answers.{IsValueOf, IsSolutionOf, binding_in, mapped}
use Rattle.std.specs.Option.{option_map}
use Rattle.mau_leaves.specs.Searches.{IsShownFor, bound_at, found_in, last_in}
use Rattle.mau_leaves.proofs.Bound.{shown_as, solution_as, solutions_as, behind_references, then_of, if_some}
use Rattle.mau_leaves.proofs.Extended.{all_bound, all_askable}
use Rattle.mau_leaves.proofs.uses.next_shown.Goals as goal

pub bound_by-requires : goal.bound_by-requires
bound_by-requires g c = let u = c.requires.usable.sides in (u.kind, u.first)

pub ask-requires-clause-condition : goal.ask-requires-clause-condition
ask-requires-clause-condition g c =
    let b = c.in-Ok.ensures in
    let is : c.deref-2.result.now ≡ extended c.args.bound.now (zip b.0 c.args.solution.now.values) = c.deref-2.ensures.value ∙ (c.in-Ok-bound_with.ensures ∙ ap (extended c.args.bound.now) (c.deref.ensures.value ∙ b.2)) in
    all_askable c.args.rule.now c.args.bound.now c.args.solution.now b.0 b.1 c.requires.valued.one_each c.deref-2.result.now is c.args.program.now.sig c.requires.usable c.items.result.now c.items.ensures

pub ask-requires-clause-bound : goal.ask-requires-clause-bound
ask-requires-clause-bound g c =
    let b = c.in-Ok.ensures in
    let is : c.deref-2.result.now ≡ extended c.args.bound.now (zip b.0 c.args.solution.now.values) = c.deref-2.ensures.value ∙ (c.in-Ok-bound_with.ensures ∙ ap (extended c.args.bound.now) (c.deref.ensures.value ∙ b.2)) in
    let Q = IsValueOf c.args.program.now.sig c.args.store.now (g.E.Evaluator.table c.args.evaluator.now) in
    subst (λ (bs : List (VarId × TermId)). All Q bs) (sym is) (all_extended Q (zip b.0 c.args.solution.now.values) c.args.bound.now c.requires.bound (c.requires.valued.values b.0 b.1))

pub ask-requires-clause-last : goal.ask-requires-clause-last
ask-requires-clause-last g c =
    let s = c.args.program.now.sig in
    let table = g.E.Evaluator.table c.args.evaluator.now in
    behind_references (All (IsValueOf s c.args.store.now table)) c.last_of-last.result (found_in c.args.standing.now) c.last_of-last.ensures
    (if_some (IsShownFor (g.E.Evaluator.meanings c.args.evaluator.now) s c.args.rule.now c.args.bound.now c.args.store.now table c.args.solution.now) (All (IsValueOf s c.args.store.now table)) (λ x h. h.values) (found_in c.args.standing.now) c.requires.stands)

pub ask-requires-clause-solution : goal.ask-requires-clause-solution
ask-requires-clause-solution g c =
    let m = g.E.Evaluator.meanings c.args.evaluator.now in
    let s = c.args.program.now.sig in
    let nodes = c.args.store.now in
    let rule = c.args.rule.now in
    let x = c.args.solution.now in
    let table = g.E.Evaluator.table c.args.evaluator.now in
    let b = c.in-Ok.ensures in
    let is : c.deref-2.result.now ≡ extended c.args.bound.now (zip b.0 c.args.solution.now.values) = c.deref-2.ensures.value ∙ (c.in-Ok-bound_with.ensures ∙ ap (extended c.args.bound.now) (c.deref.ensures.value ∙ b.2)) in
    let same = all_bound rule c.args.bound.now x b.0 b.1 c.requires.valued.one_each c.deref-2.result.now is nodes in
    behind_references (λ (f : List (VarId × TermId)). IsSolutionOf m (map fragment_of c.items.result.now) (binding_in nodes c.deref-2.result.now) (binding_in nodes f)) c.last_of-last.result (found_in c.args.standing.now) c.last_of-last.ensures
    (if_some (IsShownFor m s rule c.args.bound.now nodes table x) (λ (f : List (VarId × TermId)). IsSolutionOf m (map fragment_of c.items.result.now) (binding_in nodes c.deref-2.result.now) (binding_in nodes f))
    (λ f h. solution_as m (rule_of rule).cond (map fragment_of c.items.result.now) (sym (ap (map fragment_of) c.items.ensures)) (bound_at nodes rule c.args.bound.now x) (binding_in nodes c.deref-2.result.now) (sym same) (binding_in nodes f) (binding_in nodes f) refl h.solution)
    (found_in c.args.standing.now) c.requires.stands)

pub returns-clause-shown : goal.returns-clause-shown
returns-clause-shown g c =
    let nodes = c.args.store.now in
    let rule = c.args.rule.now in
    let x = c.args.solution.now in
    let b = c.in-Ok.ensures in
    let is : c.deref-2.result.now ≡ extended c.args.bound.now (zip b.0 c.args.solution.now.values) = c.deref-2.ensures.value ∙ (c.in-Ok-bound_with.ensures ∙ ap (extended c.args.bound.now) (c.deref.ensures.value ∙ b.2)) in
    let same = all_bound rule c.args.bound.now x b.0 b.1 c.requires.valued.one_each c.deref-2.result.now is nodes in
    shown_as (program_over c.args.program.now (g.E.Evaluator.meanings c.args.evaluator.now).hooks) c.args.limit c.ask.new.store (mapped (option_map (λ z. z.items)) c.ask.result)
    (option_map (λ z. binding_in nodes z.now) c.last_of-last.result) (last_in nodes c.args.standing.now) (then_of (binding_in nodes) c.last_of-last.result (found_in c.args.standing.now) c.last_of-last.ensures)
    (map fragment_of c.items.result.now) (rule_of rule).cond (ap (map fragment_of) c.items.ensures) (binding_in nodes c.deref-2.result.now) (bound_at nodes rule c.args.bound.now x) same c.ask.ensures.shown

pub returns-clause-solution : goal.returns-clause-solution
returns-clause-solution g c =
    let nodes = c.args.store.now in
    let rule = c.args.rule.now in
    let x = c.args.solution.now in
    let b = c.in-Ok.ensures in
    let is : c.deref-2.result.now ≡ extended c.args.bound.now (zip b.0 c.args.solution.now.values) = c.deref-2.ensures.value ∙ (c.in-Ok-bound_with.ensures ∙ ap (extended c.args.bound.now) (c.deref.ensures.value ∙ b.2)) in
    let same = all_bound rule c.args.bound.now x b.0 b.1 c.requires.valued.one_each c.deref-2.result.now is nodes in
    solutions_as (g.E.Evaluator.meanings c.args.evaluator.now) (map fragment_of c.items.result.now) (rule_of rule).cond (ap (map fragment_of) c.items.ensures)
    (binding_in nodes c.deref-2.result.now) (bound_at nodes rule c.args.bound.now x) same c.ask.new.store c.ask.result c.ask.ensures.solution
