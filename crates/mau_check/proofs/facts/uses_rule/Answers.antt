use Rattle.std.proofs.Common.{◌↔◌, IfOk, sym, subst}
use Rattle.std.specs.Prelude.{IsTrue}
use Rattle.mau_program.specs.LawfulStatements.{IsLawfulRule, HasLawfulSides}
use Rattle.mau_logic.specs.Justified.{With, UsesRule}
use Rattle.mau_terms.specs.View.{tree_of}
use Rattle.mau_api.specs.Variables.{statement_variables}
use Rattle.mau_logic.specs.Justified.{Uses}
use Rattle.mau_check.proofs.Naming.{numbered_all}
use Rattle.mau_check.proofs.facts.uses_rule.Goals as goal

pub is_use-requires-clause-accepted : goal.is_use-requires-clause-accepted
is_use-requires-clause-accepted c = c.requires.lawful.accepted

pub is_use-requires-clause-sides : goal.is_use-requires-clause-sides
is_use-requires-clause-sides c =
    let s = c.args.program.now.sig in
    let x = c.in-Some.rule.now in
    subst (HasLawfulSides s x.left x.right) (sym c.items.ensures) (numbered_all (IsLawfulRule s) c.args.program.now.rules c.args.number x c.requires.lawful.rules c.in-Some.ensures.some).parts

pub returns-in-Some-clause-uses : goal.returns-in-Some-clause-uses
returns-in-Some-clause-uses c d t u vs us named =
    let s = c.args.program.now.sig in
    let x = c.in-Some.rule.now in
    subst (λ o. IfOk c.is_use.result (λ yes. IsTrue yes ↔ With o (λ e. UsesRule s e d t u vs us))) (sym c.in-Some.ensures.some)
    (subst (λ cs. IfOk c.is_use.result (λ yes. IsTrue yes ↔ Uses s (statement_variables (tree_of x.left) cs (tree_of x.right)) (tree_of x.left) (tree_of x.right) cs d t u vs us)) c.items.ensures
    (c.is_use.ensures.uses d t u vs us named))

pub returns-in-None-clause-uses : goal.returns-in-None-clause-uses
returns-in-None-clause-uses c d t u vs us named = (
  (λ e. absurd cc),
  (λ w. absurd (subst (λ o. With o (λ e. UsesRule c.args.program.now.sig e d t u vs us)) c.in-None.ensures.none w)),
)
