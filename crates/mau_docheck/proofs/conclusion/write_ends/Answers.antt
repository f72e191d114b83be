use Rattle.std.proofs.Common.{◌≡◌, ◌++◌, ap, ◌∙◌}
use Rattle.std.specs.Prelude.{codes}
use Rattle.mau_store.specs.Trees.{tree_at}
use Rattle.mau_print.specs.Printed.{shown}
use Rattle.mau_docheck.specs.Concluded.{printer_in, ends_line}
use Rattle.mau_docheck.proofs.Concluding.{on_ok_then, five}
use Rattle.mau_docheck.proofs.conclusion.write_ends.Goals as goal

pub returns : goal.returns
returns c =
    let m = c.args.module.now in
    let ns = c.args.vars.now in
    let t = tree_at c.args.store.now c.args.from.0 in
    let u = tree_at c.args.store.now c.args.to.0 in
    let out = c.args.out.now.items in
    let first = c.in_ok-write_term.ensures ∙ ap (λ p. c.write_text.new.out.items ++ shown p ns t) c.in_ok-printer.ensures in
    let second = c.in_ok-write_term-2.ensures ∙ ap (λ p. c.write_text-2.new.out.items ++ shown p ns u) c.in_ok-printer.ensures in
    on_ok_then c.write_text-3.result (c.write_text-3.new.out.items ≡ c.write_term-2.new.out.items ++ codes "\n") (c.write_text-3.new.out.items ≡ out ++ ends_line m ns t u)
    (five out (codes "conclusion: ") (shown (printer_in m) ns t) (codes " ---> ") (shown (printer_in m) ns u) (codes "\n")
    c.write_text.new.out.items c.write_term.new.out.items c.write_text-2.new.out.items c.write_term-2.new.out.items c.write_text-3.new.out.items
    c.in_ok-write_text.ensures first c.in_ok-write_text-2.ensures second)
    c.write_text-3.ensures
