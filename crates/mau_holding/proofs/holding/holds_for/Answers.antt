use Rattle.std.proofs.Common.{◌≡◌, List, All, map, sym, ap, ◌∙◌, subst}
use Rattle.std.specs.List.{zip}
use Rattle.mau_terms.specs.Bare.{IsLawful}
use Rattle.mau_terms.specs.Subst.{variables}
use Rattle.mau_terms.specs.View.{tree_of, variable_of}
use Rattle.mau_terms.specs.declared.ids.VarId.{VarId}
use Rattle.mau_terms.specs.declared.ids.TermId.{TermId}
use Rattle.mau_signature.specs.Signature.{SignatureOf, terms_over}
use Rattle.mau_sigcheck.specs.Built.{IsBuiltAndAccepted}
use Rattle.mau_evaluation.specs.Evaluation.{Binding}
use Rattle.mau_api.specs.Programs.{fragment_of}
use Rattle.mau_api.specs.Answers.{IsAskable, binding_in, levels_of_condition}
use Rattle.mau_holding.specs.Holding.{IsSortedValue, IsAsked}
use Rattle.mau_holding.proofs.Values.{bound_variables, sorted_values, bound_binding}
use Rattle.mau_holding.proofs.holding.holds_for.Goals as goal

pub holds-requires-clause-condition : goal.holds-requires-clause-condition
holds-requires-clause-condition g c =
    let s = c.args.sig.now in
    let p = tree_of c.args.pattern.now in
    let b = c.in-Ok.ensures in
    let bound = c.deref.result.now in
    let accepted = subst IsBuiltAndAccepted (sym c.requires.signature) c.requires.plain.accepted in
    let lawful = subst (λ r. IsLawful (terms_over r)) (sym c.requires.signature) c.requires.plain.lawful in
    let same = ap (map (λ (b : VarId × TermId). variable_of b.0)) (c.deref.ensures.value ∙ b.2) ∙ bound_variables s c.args.store.now accepted lawful p c.requires.pattern c.args.solution.now.values c.requires.values b.0 b.1 in
    subst (λ r. IsAskable r (map (λ (b : VarId × TermId). variable_of b.0) bound) c.args.cond.now) c.requires.signature
    (subst (λ vs. IsAskable s vs c.args.cond.now) (sym same) c.requires.condition)

pub holds-requires-clause-values : goal.holds-requires-clause-values
holds-requires-clause-values g c =
    let s = c.args.sig.now in
    let p = tree_of c.args.pattern.now in
    let b = c.in-Ok.ensures in
    let bound = c.deref.result.now in
    let accepted = subst IsBuiltAndAccepted (sym c.requires.signature) c.requires.plain.accepted in
    let lawful = subst (λ r. IsLawful (terms_over r)) (sym c.requires.signature) c.requires.plain.lawful in
    let all = sorted_values s c.args.store.now accepted lawful p c.requires.pattern c.args.solution.now.values c.requires.values b.0 b.1 in
    subst (λ r. All (IsSortedValue r c.args.store.now) bound) c.requires.signature
    (subst (All (IsSortedValue s c.args.store.now)) (sym (c.deref.ensures.value ∙ b.2)) all)

pub returns-clause-asked : goal.returns-clause-asked
returns-clause-asked g c =
    let m = g.E.Evaluator.meanings c.args.evaluator.now in
    let s = c.args.sig.now in
    let p = tree_of c.args.pattern.now in
    let b = c.in-Ok.ensures in
    let accepted = subst IsBuiltAndAccepted (sym c.requires.signature) c.requires.plain.accepted in
    let lawful = subst (λ r. IsLawful (terms_over r)) (sym c.requires.signature) c.requires.plain.lawful in
    let same = ap (binding_in c.args.store.now) (c.deref.ensures.value ∙ b.2) ∙ bound_binding s c.args.store.now accepted lawful p c.requires.pattern c.args.solution.now.values c.requires.values b.0 b.1 in
    subst (λ (σ : Binding). IsAsked (m.solving levels_of_condition m.limit (map fragment_of c.args.cond.now) σ c.args.budget.now) c.holds.result c.holds.new.budget) same c.holds.ensures.asked
