use Rattle.std.proofs.Common.{◌≡◌, ◌++◌, List, Option, Some, None, [], sym, ap, ◌∙◌, subst, append-nil}
use Rattle.std.specs.Prelude.{OnOk}
use Rattle.std.specs.Option.{option_map_or}
use Rattle.mau_store.specs.Trees.{trees_at}
use Rattle.mau_store.specs.View.{numbers}
use Rattle.mau_program.specs.declared.program.Program.{Program}
use Rattle.mau_program.specs.declared.statements.Equation.{Equation}
use Rattle.mau_api.specs.Variables.{numbered}
use Rattle.mau_making.specs.Trace.{equation_lines, numbered_equation}
use Rattle.mau_making.proofs.Numbered.{read_number, past_number}
use Rattle.mau_making.proofs.trace.write_equation_at.Goals as goal

pub returns-in-Some : goal.returns-in-Some
returns-in-Some c =
    let m = c.args.«module».now in
    let n = c.args.number in
    let ts = trees_at c.args.store.now (numbers c.args.values.now) in
    let x = c.in-Some.equation.now in
    let at : numbered m.statements.equations n ≡ Some x = subst (λ (xs : List Equation). numbered xs n ≡ Some x) (c.items-equations.ensures ∙ ap (λ (p : Program). p.equations) c.program.ensures) (read_number c.items-equations.result.now n x c.if-number-eq0.false c.in-Some.ensures.lookup.0 c.in-Some.ensures.lookup.1) in
    subst (λ zs. OnOk c.write_equation.result (c.write_equation.new.out.items ≡ c.args.out.now.items ++ zs)) (sym (ap (λ (o : Option Equation). option_map_or (λ y. equation_lines m c.args.vars.now n y ts) o []) at)) c.write_equation.ensures

pub returns-in-None : goal.returns-in-None
returns-in-None c =
    let m = c.args.«module».now in
    let n = c.args.number in
    let ts = trees_at c.args.store.now (numbers c.args.values.now) in
    let at : numbered m.statements.equations n ≡ None = subst (λ (xs : List Equation). numbered xs n ≡ None) (c.items-equations.ensures ∙ ap (λ (p : Program). p.equations) c.program.ensures) (past_number c.items-equations.result.now n c.if-number-eq0.false c.in-None.ensures.lookup.0) in
    sym (append-nil c.args.out.now.items) ∙ ap (λ zs. c.args.out.now.items ++ zs) (sym (ap (λ (o : Option Equation). option_map_or (λ y. equation_lines m c.args.vars.now n y ts) o []) at))
