use Rattle.std.proofs.Common.{◌++◌, ◌∙◌, ap, codes}
use Rattle.mau_session.specs.KeptQuery.{id_tree}
use Rattle.mau_print.specs.Printed.{shown}
use Rattle.mau_session.specs.Shown.{shown_variable, printer_in}
use Rattle.mau_session.proofs.Lines.{four_parts}
use Rattle.mau_session.proofs.listing.write_value.Goals as goal

pub returns : goal.returns
returns c =
    let m = c.args.module.now in
    let ns = c.args.vars.now in
    let p = printer_in m in
    let head = shown_variable m ns c.args.variable.index c.args.variable.sort in
    c.in_ok-write_text-2.ensures
    ∙ ap (λ x. x ++ codes "\n") (c.in_ok-write_term.ensures ∙ ap (λ q. c.write_text.new.out.items ++ shown q ns (id_tree c.args.store.now c.args.value)) c.requires.printer ∙ ap (λ x. x ++ shown p ns (id_tree c.args.store.now c.args.value)) (c.in_ok-write_text.ensures ∙ ap (λ x. x ++ codes " --> ") c.in_ok-write_variable.ensures))
    ∙ four_parts c.args.out.now.items head (codes " --> ") (shown p ns (id_tree c.args.store.now c.args.value)) (codes "\n")
