use Rattle.std.proofs.Common.{◌≡◌, map, ap, ◌∙◌, arith}
use Rattle.std.proofs.lemmas.List.{length-map}
use Rattle.mau_terms.specs.View.{variable_of}
use Rattle.mau_syntactic.specs.Steps.{place_in}
use Rattle.mau_syntactic.proofs.Places.{added_old, added_new}
use Rattle.mau_syntactic.proofs.compile.add_variable.Goals as goal

pub returns-then-place-len-clause-variables : goal.returns-then-place-len-clause-variables
returns-then-place-len-clause-variables c =
    let xs = c.args.variables.now.items in
    let at : c.place_of-place.result ≡ place_in (map variable_of xs) (variable_of c.args.variable) = c.place_of-place.ensures ∙ ap (λ ys. place_in (map variable_of ys) (variable_of c.args.variable)) c.deref.ensures.value in
    let size = length-map xs variable_of in
    added_old xs c.args.variable (omega (arith, at, size, c.if-place-len.true))

pub returns-clause-variables : goal.returns-clause-variables
returns-clause-variables c =
    let xs = c.args.variables.now.items in
    let at : c.place_of-place.result ≡ place_in (map variable_of xs) (variable_of c.args.variable) = c.place_of-place.ensures ∙ ap (λ ys. place_in (map variable_of ys) (variable_of c.args.variable)) c.deref.ensures.value in
    let size = length-map xs variable_of in
    ap (map variable_of) c.in_ok-push.ensures.items ∙ added_new xs c.args.variable (omega (arith, at, size, c.if-place-len.false))
