use Rattle.std.proofs.Common.{◌≡◌, List, map, true, All, sym, subst, ◌∙◌}
use Rattle.mau_terms.specs.View.{variable_of}
use Rattle.mau_terms.specs.declared.ids.VarId.{VarId}
use Rattle.mau_program.specs.Binding.{are_bound}
use Rattle.mau_program.specs.LawfulStatements.{IsLawfulFragment}
use Rattle.mau_program.specs.declared.statements.Fragment as Written
use Rattle.mau_settling_tests.proofs.Solved.{asked, lawful_at}
use Rattle.mau_settling_tests.proofs.behind.shown_at.Goals as goal

pub shown_of-requires-clause-condition : goal.shown_of-requires-clause-condition
shown_of-requires-clause-condition c =
    let s = c.args.program.now.sig in
    let cond = c.items-cond.result.now in
    let lawful = lawful_at s c.items.result.now c.args.program.now.equations c.args.number c.in-Some.equation.now c.in-Some.ensures.lookup.0 c.in-Some.ensures.lookup.1 c.items.ensures c.requires.lawful.equations in
    asked s cond (subst (λ (fs : List Written.Fragment). All (IsLawfulFragment s) fs) (sym c.items-cond.ensures) lawful.parts.condition)
    (c.are_plain.ensures c.if-are_plain.true)
    (subst (λ (vs : List VarId). are_bound (map variable_of vs) cond ≡ true) c.new-variables.ensures.items (sym c.in_ok-are_bound-in-Some.ensures.value ∙ c.if-branch.true))
