use Rattle.std.proofs.Common.{map, ap, ◌∙◌, arith}
use Rattle.std.proofs.lemmas.List.{length-map}
use Rattle.mau_terms.specs.View.{variable_of}
use Rattle.mau_syntactic.specs.declared.part.Part.TheVariants.{Value}
use Rattle.mau_syntactic.proofs.Running.{bound_part, unbound_part}
use Rattle.mau_syntactic.proofs.part.variable_part.Goals as goal

pub returns-then-place-variables : goal.returns-then-place-variables
returns-then-place-variables c =
    let size = length-map c.args.variables.now variable_of in
    let at = c.place_of-place.ensures in
    ap Value at ∙ bound_part (map variable_of c.args.variables.now) (variable_of c.args.variable) (omega (arith, at, size, c.if-place-variables.true))

pub returns : goal.returns
returns c =
    let size = length-map c.args.variables.now variable_of in
    let at = c.place_of-place.ensures in
    unbound_part (map variable_of c.args.variables.now) c.args.variable (omega (arith, at, size, c.if-place-variables.false))
