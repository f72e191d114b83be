use Rattle.std.proofs.Common.{◌≡◌, ◌++◌, sym, ap, ◌∙◌, subst, string_bytes}
use Rattle.mau_store.specs.Trees.{tree_at}
use Rattle.mau_print.specs.Printed.{shown}
use Rattle.mau_print.specs.Readable.{IsTextOf}
use Rattle.mau_print.proofs.ReadBack.{texts_read_back}
use Rattle.mau_print.proofs.printing.show.Goals as goal

pub returns-clause-reads : goal.returns-clause-reads
returns-clause-reads c =
    let p = c.args.printer.now in
    let ns = c.args.vars.now in
    let t = tree_at c.args.store.now c.args.id.0 in
    let e : string_bytes c.write_term.new.out ≡ shown p ns t = c.in_ok-write_term.ensures ∙ ap (λ w. w ++ shown p ns t) c.new-out.ensures.bytes in
    subst (IsTextOf p ns t) (sym e) (texts_read_back p ns t)
